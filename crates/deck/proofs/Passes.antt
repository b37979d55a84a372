-- What is known of fields that refusals 1 to 5 let pass. Assumes nothing.
use mathlib.Core.Path.{◌≡◌, refl, sym, subst}
use mathlib.Core.Bool.{Bool, true, false, not, cond}
use mathlib.Core.List.{List, [], ◌∷◌}
use mathlib.Core.Logic.{◌≢◌}
use Prim.Native.Nat.{ℕ, zero, suc, ◌<◌}
use native.Mathlib.Omega.{arith}
use native.Mathlib.Nat.{not-suc-le-zero}
use lib.Dec.{T, eqb}
use lib.IntN.{ℤ, pos, negsuc, nat_abs}
use lib.ListN.{length, get_or}
use lib.Ieee.{Float, nan, le, lt, eq, neg, round}
use borrow.Author.Tests.{eqb-true, not-false}
use Rattle.single.specs.Single.{num}
use Rattle.single.proofs.Booleans.{or_left, or_right}
use Rattle.elementary.specs.Basic.{absolute}
use Rattle.parameters.specs.Params.{is_type, params_of, ioninit_of}
use Rattle.parameters.specs.declared.params.IoncapParams.{IoncapParams}
use Rattle.limits.specs.Refusals.{first_refusal}
use Rattle.limits.specs.Tests.{is_ioncap_type, outside, any_outside, too_many_bays, input_refusal}
use Rattle.table.specs.Range.{is_range}
use Rattle.table.proofs.Range.{Range, range_of_lem}
use Rattle.independence.proofs.Verdicts.{passed}
use Rattle.cards.specs.declared.fields.Fields.{Fields}
use Rattle.cards.specs.Fields.{fields_outside, params_for, fields_refusal}

pub record Passed (f : Fields) : Type 0 where
  pub type : is_ioncap_type f.kop ≡ true
  pub numbers : fields_outside f ≡ false
  pub conductivity : not (lt (num 0 1) (params_for f).asig) ≡ false
  pub range : is_range f.first f.last ≡ true
  pub bays : too_many_bays f.kop (params_for f).and ≡ false

pub fields_passed : (f : Fields) → fields_refusal f ≡ 0 → Passed f
unfolding fields_refusal input_refusal first_refusal
fields_passed f e =
    let a = passed (not (is_ioncap_type f.kop)) 0 _ e in
    let b = passed (fields_outside f) 1 _ a.1 in
    let d = passed (not (lt (num 0 1) (params_for f).asig)) 2 _ b.1 in
    let g = passed (not (is_range f.first f.last)) 3 _ d.1 in
    let h = passed (too_many_bays f.kop (params_for f).and) 4 _ g.1 in
    record { type = not-false _ a.0; numbers = b.0; conductivity = d.0; range = not-false _ g.0; bays = h.0 }

-- none is 9 or 10
pub fields_number : (f : Fields) → (fields_refusal f ≢ 9) × (fields_refusal f ≢ 10)
unfolding fields_refusal input_refusal first_refusal
fields_number f =
    by (not (is_ioncap_type f.kop)) (fields_outside f) (not (lt (num 0 1) (params_for f).asig)) (not (is_range f.first f.last))
    (too_many_bays f.kop (params_for f).and)
  where
    by : (a b c d e : Bool)
        → (◌≢◌ {A = ℕ} (cond a 1 (cond b 2 (cond c 3 (cond d 4 (cond e 5 0))))) 9) × (◌≢◌ {A = ℕ} (cond a 1 (cond b 2 (cond c 3 (cond d 4 (cond e 5 0))))) 10)
    by true b c d e = (λ p. omega arith, λ p. omega arith)
    by false true c d e = (λ p. omega arith, λ p. omega arith)
    by false false true d e = (λ p. omega arith, λ p. omega arith)
    by false false false true e = (λ p. omega arith, λ p. omega arith)
    by false false false false true = (λ p. omega arith, λ p. omega arith)
    by false false false false false = (λ p. omega arith, λ p. omega arith)

-- ---- the type, the first and the last MHz are not negative
type_whole : (k : ℤ) → is_ioncap_type k ≡ true → k ≡ pos (nat_abs k)
unfolding is_ioncap_type
type_whole (pos k) e = refl
type_whole (negsuc k) e = absurd (subst T (sym e) tt)

pub is_type_lem : (f : Fields) → fields_refusal f ≡ 0 → f.kop ≡ pos (nat_abs f.kop)
is_type_lem f e = type_whole f.kop (fields_passed f e).type

pub in_range_lem : (f : Fields) → fields_refusal f ≡ 0 → Range f.first f.last
in_range_lem f e = range_of_lem f.first f.last (fields_passed f e).range

-- ---- the off-azimuth and all that `ioninit` reads from the slots are within the limits
within : (l : List Float) (i : ℕ) → any_outside l ≡ false → i < length l → outside (get_or l i nan) ≡ false
unfolding any_outside
within [] i e h = absurd (not-suc-le-zero h)
within (x ∷ l) zero e h = or_left (outside x) (any_outside l) e
within (x ∷ l) (suc i) e h = within l i (or_right (outside x) (any_outside l) e) (omega arith)

choose : (P : IoncapParams → Type 0) (b : Bool) (x y : IoncapParams) → P x → P y → P (cond b x y)
choose P true x y p q = p
choose P false x y p q = q

zero_within : outside (num 0 1) ≡ false
unfolding outside absolute le lt eq round
zero_within = refl

quarter_within : outside (neg (num 25 100)) ≡ false
unfolding outside absolute le lt eq neg round
quarter_within = refl

slot_within : (f : Fields) (i : ℕ) → fields_refusal f ≡ 0 → i < 20 → outside (get_or f.slots i nan) ≡ false
unfolding fields_outside
slot_within f i e h =
    let n = (fields_passed f e).numbers in
    let long : eqb (length f.slots) 20 ≡ true = not-false _ (or_left (not (eqb (length f.slots) 20)) _ n) in
    let rest = or_right (not (eqb (length f.slots) 20)) _ n in
    let slots = or_left (any_outside f.slots) _ (or_right (any_outside (f.toaz ∷ [])) _ rest) in
    within f.slots i slots (omega (arith, eqb-true (length f.slots) 20 long))

pub azimuth_within : (f : Fields) → fields_refusal f ≡ 0 → outside f.toaz ≡ false
unfolding fields_outside any_outside
azimuth_within f e =
    let rest = or_right (not (eqb (length f.slots) 20)) _ (fields_passed f e).numbers in
    or_left (outside f.toaz) false (or_left (any_outside (f.toaz ∷ [])) _ rest)

pub record ParamsWithin (p : IoncapParams) : Type 0 where
  pub asig : outside p.asig ≡ false
  pub aeps : outside p.aeps ≡ false
  pub and : outside p.and ≡ false
  pub anl : outside p.anl ≡ false
  pub anh : outside p.anh ≡ false
  pub aex : any_outside p.aex ≡ false

extras_within : (a b c d : Float) → outside a ≡ false → outside b ≡ false → outside c ≡ false → outside d ≡ false → any_outside (a ∷ b ∷ c ∷ d ∷ []) ≡ false
unfolding any_outside
extras_within a b c d p q r s = rw (p, q, r, s) refl

module _ (f : Fields) (e : fields_refusal f ≡ 0) where
  -- an arm of `ioninit`
  arm_within : (angle leg height : Float) (extras : List Float) → outside angle ≡ false → outside leg ≡ false → outside height ≡ false
      → any_outside extras ≡ false
      → ParamsWithin (params_of f.slots angle leg height extras)
  unfolding params_of
  arm_within angle leg height extras p q r s =
      record { asig = slot_within f 3 e (omega arith); aeps = slot_within f 2 e (omega arith); and = p; anl = q; anh = r; aex = s }

  pub params_within : ParamsWithin (params_for f)
  unfolding ioninit_of
  params_within =
      let z = zero_within in
      let six = slot_within f 5 e (omega arith) in
      let seven = slot_within f 6 e (omega arith) in
      let eight = slot_within f 7 e (omega arith) in
      let nine = slot_within f 8 e (omega arith) in
      let ten = slot_within f 9 e (omega arith) in
      let zeros = extras_within _ _ _ _ z z z z in
      choose ParamsWithin (is_type f.kop 1) _ _ (arm_within _ _ _ _ six seven eight zeros)
      (choose ParamsWithin (is_type f.kop 2) _ _ (arm_within _ _ _ _ z six seven zeros)
      (choose ParamsWithin (is_type f.kop 3) _ _ (arm_within _ _ _ _ z six seven (extras_within _ _ _ _ eight z z z))
      (choose ParamsWithin (is_type f.kop 4) _ _ (arm_within _ _ _ _ z six seven (extras_within _ _ _ _ eight z z z))
      (choose ParamsWithin (is_type f.kop 5) _ _ (arm_within _ _ _ _ z quarter_within z (extras_within _ _ _ _ six z z z))
      (choose ParamsWithin (is_type f.kop 6) _ _
      (arm_within _ _ _ _ six seven eight (extras_within _ _ _ _ nine ten (slot_within f 10 e (omega arith)) (slot_within f 11 e (omega arith))))
      (choose ParamsWithin (is_type f.kop 7) _ _ (arm_within _ _ _ _ six seven eight (extras_within _ _ _ _ nine z z z))
      (choose ParamsWithin (is_type f.kop 8) _ _ (arm_within _ _ _ _ z six seven zeros)
      (choose ParamsWithin (is_type f.kop 9) _ _ (arm_within _ _ _ _ six seven eight (extras_within _ _ _ _ nine z z z))
      (choose ParamsWithin (is_type f.kop 10) _ _ (arm_within _ _ _ _ six seven eight (extras_within _ _ _ _ nine ten z z))
      (arm_within _ _ _ _ z z z zeros))))))))))
