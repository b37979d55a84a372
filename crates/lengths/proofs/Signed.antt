-- A number read by its kind and turned into wavelengths is what `iongain2` makes of it by its sign: for every f32, a NaN too. Assumes nothing.
use mathlib.Core.Path.{◌≡◌, refl, ap, ◌∙◌}
use mathlib.Core.Bool.{Bool, true, false, cond}
use Prim.Native.Nat.{ℕ, ◌*◌, ◌<◌}
use native.Mathlib.Omega.{arith}
use native.Mathlib.Nat.{zero-mul, mul_comm}
use lib.Dec.{T, ltb→lt, eqb}
use lib.IntN.{ℤ}
use lib.Ieee.{Float, nan, inf, fin, binary32, lt, neg, round, mul, unlike, up, down}
use Rattle.single.proofs.Booleans.{holds}
use Rattle.single.specs.Single.{◌⊠◌, ◌⊘◌, num}
use Rattle.elementary.specs.Basic.{absolute}
use Rattle.lengths.specs.Length.{length_of, leg_of, phase_of, height_turn, monopole_turn}
use Rattle.lengths.specs.declared.length.Length.TheVariants.{Metres}
use Rattle.lengths.specs.declared.length.PhaseInWaves.{PhaseInWaves}
use Rattle.lengths.specs.Signed.{signed_leg, signed_height, signed_monopole}

none_below : (m : ℕ) (e : ℤ) → T (lt (fin false m e) (num 0 1)) → ⊥
unfolding lt round
none_below m e h =
    let l : m * up e * 1 < 0 * down e = ltb→lt (m * up e * 1) (0 * down e) h in
    let z : 0 * down e ≡ 0 = zero-mul (down e) in
    omega arith

neg_absolute : (v : Float) → T (lt v (num 0 1)) → neg v ≡ absolute v
unfolding lt neg absolute round
neg_absolute nan h = refl
neg_absolute (inf true) h = refl
neg_absolute (inf false) h = absurd h
neg_absolute (fin true m e) h = refl
neg_absolute (fin false m e) h = absurd (none_below m e h)

not_above : (v : Float) → T (lt v (num 0 1)) → lt (num 0 1) v ≡ false
unfolding lt round
not_above nan h = refl
not_above (inf true) h = refl
not_above (inf false) h = absurd h
not_above (fin true m e) h = refl
not_above (fin false m e) h = absurd (none_below m e h)

unlike_comm : (s t : Bool) → unlike s t ≡ unlike t s
unlike_comm true true = refl
unlike_comm true false = refl
unlike_comm false true = refl
unlike_comm false false = refl

pub leg_signed : (v wave : Float) → leg_of (length_of v) wave ≡ signed_leg v wave
unfolding length_of leg_of signed_leg
leg_signed v wave = go (lt v (num 0 1)) refl
  where
    go : (b : Bool) → lt v (num 0 1) ≡ b → leg_of (length_of v) wave ≡ signed_leg v wave
    go true h = rw (h, neg_absolute v (holds h))
    go false h = rw h

abbrev metres : Float → Float → Float → PhaseInWaves
metres turn h wave = record { phase = turn ⊠ h ⊘ wave; waves = h ⊘ wave }

-- a height's kind is told by its sign alone
by_sign : (turn v wave : Float) → phase_of turn (length_of v) wave ≡ phase_of turn (Metres v) wave
unfolding length_of phase_of
by_sign turn v wave = go (lt v (num 0 1)) refl
  where
    go : (b : Bool) → lt v (num 0 1) ≡ b → phase_of turn (length_of v) wave ≡ phase_of turn (Metres v) wave
    go true h = rw (h, not_above v (holds h), neg_absolute v (holds h))
    go false h = rw h

pub height_signed : (v wave : Float) → phase_of height_turn (length_of v) wave ≡ signed_height v wave
unfolding phase_of signed_height
height_signed v wave = by_sign height_turn v wave

⊠_comm : (x y : Float) → x ⊠ y ≡ y ⊠ x
unfolding mul
⊠_comm nan nan = refl
⊠_comm nan (inf t) = refl
⊠_comm nan (fin t n d) = refl
⊠_comm (inf s) nan = refl
⊠_comm (inf s) (inf t) = ap inf (unlike_comm s t)
⊠_comm (inf s) (fin t n d) = ap (λ (b : Bool). cond (eqb n 0) nan (inf b)) (unlike_comm s t)
⊠_comm (fin s m e) nan = refl
⊠_comm (fin s m e) (inf t) = ap (λ (b : Bool). cond (eqb m 0) nan (inf b)) (unlike_comm s t)
⊠_comm (fin s m e) (fin t n d) = λ i. round binary32 (unlike_comm s t i) (mul_comm (m * up e) (n * up d) i) (mul_comm (down e) (down d) i)

pub monopole_signed : (v wave : Float) → phase_of monopole_turn (length_of v) wave ≡ signed_monopole v wave
unfolding phase_of signed_monopole
monopole_signed v wave =
    let of_phase = λ (y : Float). cond (lt (num 0 1) v) (metres monopole_turn v wave) (record { phase = y; waves = absolute v }) in
    by_sign monopole_turn v wave ∙ ap of_phase (⊠_comm monopole_turn (absolute v))
