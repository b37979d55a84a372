-- What n is cut from is small, and n's parts as the code finds them are those of the definition. Assumes nothing.
use mathlib.Core.Path.{◌≡◌, refl, sym, ap, ◌∙◌}
use mathlib.Core.Bool.{Bool, true, false, cond}
use mathlib.Core.List.{[], ◌∷◌}
use mathlib.Core.Logic.{◌≢◌}
use Prim.Native.Nat.{ℕ, zero, suc, ◌+◌, ◌/◌, ◌%◌, ◌<◌, ◌^◌}
use native.Mathlib.Omega.{arith}
use lib.ListN.{get_or}
use lib.Dec.{T, lit≤}
use lib.IntN.{ℤ, pos, negsuc}
use lib.Ieee.{Float, nan, fin, binary32, round, neg, of_bits, of_int, lt, le}
use lib.Ieee.Fits.{and_l, and_r}
use Rattle.single.proofs.Booleans.{holds}
use Rattle.single.specs.Single.{◌⊞◌, ◌⊟◌, ◌⊠◌, num, signed}
use Rattle.single.proofs.Magnitude.{Mag, mag_of, mul_mag, add_mag, sub_mag}
use Rattle.basic.specs.WholePart.{whole_part}
use Rattle.basic.proofs.WholePart.{cut_parts}
use Rattle.trigonometric.specs.Trigonometric.{two_over_pi, in_range, turns_argument, turns, rest, reduced, quadrant_of, by_quadrant, sine_part, cosine_part, sine_at, cosine_at, of_reduction, sine, cosine}
use Rattle.trigonometric.specs.Turns.{turns_float, quadrant_by, sine_ahead}

quadrant_parts : (s : Bool) (k : ℕ) → quadrant_by s k ≡ quadrant_of (signed s k)
unfolding quadrant_by
quadrant_parts false k = refl
quadrant_parts true zero = refl
quadrant_parts true (suc k) = omega arith

quadrant_below : (n : ℤ) → quadrant_of n < 4
quadrant_below (pos k) = omega arith
quadrant_below (negsuc k) = omega arith

module _ (x : Float) (h : in_range x ≡ true) where
  range_mag : Mag (2 ^ 20) x
  unfolding in_range round neg
  range_mag =
      let t : T (in_range x) = holds h in
      mag_of x 20 (and_l (le (fin true 1 (pos 20)) x) (le x (fin false 1 (pos 20))) t) (and_r (le (fin true 1 (pos 20)) x) (le x (fin false 1 (pos 20))) t)

  product_mag : Mag (2 ^ 20) (x ⊠ two_over_pi)
  unfolding round
  product_mag = mul_mag x two_over_pi (2 ^ 20) 1 20 refl range_mag (lit≤ tt) (lit≤ tt)

  pub argument_mag : Mag (2 ^ 21) (turns_argument x)
  unfolding turns_argument
  argument_mag = go (lt x (num 0 1))
    where
      go : (b : Bool) → Mag (2 ^ 21) (cond b (x ⊠ two_over_pi ⊟ num 5 10) (x ⊠ two_over_pi ⊞ num 5 10))
      go true = unfold round in sub_mag (x ⊠ two_over_pi) (num 5 10) (2 ^ 20) 1 21 refl product_mag (lit≤ tt) (lit≤ tt)
      go false = unfold round in add_mag (x ⊠ two_over_pi) (num 5 10) (2 ^ 20) 1 21 refl product_mag (lit≤ tt) (lit≤ tt)

  turns_parts : turns x ≡ signed (lt (turns_argument x) (of_bits binary32 0)) (whole_part (turns_argument x))
  unfolding turns turns_argument
  turns_parts = cut_parts (turns_argument x) argument_mag

  -- the code's steps: t, k, n, r and q
  pub reduction_is : (t : Float) (k : ℕ) (n r : Float) (q : ℕ) → t ≡ turns_argument x → k ≡ whole_part t → n ≡ turns_float (lt t (of_bits binary32 0)) k → r ≡ rest x n → q ≡ quadrant_by (lt t (of_bits binary32 0)) k
      → (q ≡ quadrant_of (turns x)) × (r ≡ reduced x)
  unfolding turns_float reduced
  reduction_is t k n r q et ek en er eq =
      let s : Bool = lt t (of_bits binary32 0) in
      let is : signed s k ≡ turns x = ap (signed s) (ek ∙ ap whole_part et) ∙ ap (λ (u : Float). signed (lt u (of_bits binary32 0)) (whole_part (turns_argument x))) et ∙ sym turns_parts in
      let at : q ≡ quadrant_of (turns x) = eq ∙ quadrant_parts s k ∙ ap quadrant_of is in
      (at, er ∙ ap (rest x) (en ∙ ap (of_int binary32) is))

-- ---- the choice by quadrant, and what it makes
below_4 : (P : ℕ → Type 0) → P 0 → P 1 → P 2 → P 3 → (q : ℕ) → q < 4 → P q
below_4 P a b c d zero h = a
below_4 P a b c d (suc zero) h = b
below_4 P a b c d (suc (suc zero)) h = c
below_4 P a b c d (suc (suc (suc zero))) h = d
below_4 P a b c d (suc (suc (suc (suc q)))) h = absurd (let z : suc (suc (suc (suc q))) < 4 = h in omega arith)

pub by_quadrant_lem : (q : ℕ) (a b c d : Float) → q < 4 → get_or (a ∷ b ∷ c ∷ d ∷ []) q nan ≡ by_quadrant q a b c d
by_quadrant_lem q a b c d = below_4 (λ q. get_or (a ∷ b ∷ c ∷ d ∷ []) q nan ≡ by_quadrant q a b c d) refl refl refl refl q

-- one part, and its sign
abbrev pair : Float → ℕ → Float
pair v k = get_or (v ∷ neg v ∷ []) k nan

pub sine_even : (q : ℕ) (s c v : Float) → q < 4 → q % 2 ≡ 0 → v ≡ s → pair v (q / 2) ≡ sine_at q s c
unfolding sine_at
sine_even q s c v l h e = below_4 (λ q. q % 2 ≡ 0 → pair v (q / 2) ≡ sine_at q s c) (λ h. e) (λ h. absurd (let z : 1 ≡ 0 = h in omega arith)) (λ h. ap neg e) (λ h. absurd (let z : 1 ≡ 0 = h in omega arith)) q l h

pub sine_odd : (q : ℕ) (s c v : Float) → q < 4 → q % 2 ≢ 0 → v ≡ c → pair v (q / 2) ≡ sine_at q s c
unfolding sine_at
sine_odd q s c v l h e = below_4 (λ q. q % 2 ≢ 0 → pair v (q / 2) ≡ sine_at q s c) (λ h. absurd (h refl)) (λ h. e) (λ h. absurd (h refl)) (λ h. ap neg e) q l h

-- the cosine is the sine a quarter turn on
pub ahead : (q : ℕ) (s c : Float) → q < 4 → cosine_at q s c ≡ sine_at ((q + 1) % 4) s c
unfolding sine_at cosine_at
ahead q s c = below_4 (λ q. cosine_at q s c ≡ sine_at ((q + 1) % 4) s c) refl refl refl refl q

-- what the code makes of the reduction, whichever it is
module _ (f : ℕ → Float → Float → Float) (x : Float) where
  pub in_range_is : (q : ℕ) (r s c res : Float) → in_range x ≡ true → q ≡ quadrant_of (turns x) → r ≡ reduced x → s ≡ sine_part r (r ⊠ r) → c ≡ cosine_part (r ⊠ r) → res ≡ f q s c → res ≡ of_reduction f x
  in_range_is q r s c res i eq er es ec e = cc

  -- beyond the range it is `f32::NAN`
  pub out_of_range_is : in_range x ≡ false → of_bits binary32 0x7fc0_0000 ≡ of_reduction f x
  unfolding of_bits
  out_of_range_is h = simp h

-- no quarter turn on is the sine, one is the cosine
pub sine_ahead_none : (x : Float) → sine_ahead 0 x ≡ sine x
unfolding sine_ahead sine
sine_ahead_none x = ap (λ (q : ℕ). of_reduction (λ _ s c. sine_at q s c) x) (let h = quadrant_below (turns x) in let z : (quadrant_of (turns x) + 0) % 4 ≡ quadrant_of (turns x) = omega arith in z)

pub sine_ahead_one : (x : Float) → sine_ahead 1 x ≡ cosine x
unfolding sine_ahead cosine
sine_ahead_one x = ap (λ (v : Float). cond (in_range x) v nan) (sym (ahead (quadrant_of (turns x)) _ _ (quadrant_below (turns x))))
