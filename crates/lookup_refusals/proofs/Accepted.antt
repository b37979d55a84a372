-- What a lookup that is not refused knows. Assumes nothing.
use Prim.Native.Nat.{ℕ, suc, ◌<◌}
use mathlib.Core.Path.{◌≡◌, refl, ◌∙◌}
use mathlib.Core.Bool.{Bool, true, false, not, cond, ◌&&◌, ◌||◌}
use mathlib.Core.List.{List, [], ◌∷◌}
use native.Mathlib.Omega.{arith}
use borrow.Author.Tests.{eqb-true, ne_eqb}
use lib.Dec.{eqb}
use lib.IntN.{ℤ}
use lib.ListN.{length}
use lib.Ieee.{Float}
use Rattle.std.specs.declared.result.Result.{Result}
use Rattle.refusals.specs.declared.Refusal.{Refusal}
use Rattle.refusals.specs.Refusals.{IsJudged}
use Rattle.single.proofs.Booleans.{or_left, or_right}
use Rattle.limits.specs.Refusals.{first_refusal}
use Rattle.limits.specs.Tests.{outside, any_outside}
use Rattle.table.specs.Range.{is_range}
use Rattle.table.specs.Table.{table_length, is_table}
use Rattle.lookup_refusals.specs.LookupRefusals.{refusal_by_length, lookup_refusal, card_refusal}

never : (n : ℕ) → suc n ≡ 0 → ⊥
never n e = omega arith

-- the number by the two tests of the plain lookup
abbrev plain : Bool → Bool → ℕ
plain is_long any_is_outside = cond (not is_long) 7 (cond any_is_outside 2 0)

both : (a b : Bool) → plain a b ≡ 0 → (a ≡ true) × (b ≡ false)
both true true e = absurd (never 1 e)
both true false e = (refl, refl)
both false b e = absurd (never 6 e)

pub accepted : (t : List Float) (fmc delta : Float) → lookup_refusal t fmc delta ≡ 0
    → (length t ≡ table_length) × (outside fmc ≡ false) × (outside delta ≡ false)
unfolding lookup_refusal first_refusal is_table
accepted t fmc delta e =
    let p = both (is_table t) (any_outside (fmc ∷ delta ∷ [])) e in
    let q : (outside fmc || (outside delta || false)) ≡ false = unfold any_outside in p.1 in
    let frequency = or_left (outside fmc) (outside delta || false) q in
    let elevation = or_left (outside delta) false (or_right (outside fmc) (outside delta || false) q) in
    (eqb-true (length t) table_length p.0, frequency, elevation)

-- by whether the table's length is right
pub judged_by_length : (t : List Float) (fmc delta : Float) {l : Bool} {r : Result Unit Refusal} → l ≡ is_table t
    → IsJudged (refusal_by_length l fmc delta) r → IsJudged (lookup_refusal t fmc delta) r
unfolding lookup_refusal refusal_by_length
judged_by_length t fmc delta e j = rw e at j

card_from_lem : (a b c : Bool) → ◌≡◌ {A = ℕ} (cond (not a) 7 (cond b 2 (cond c 4 0))) (cond (eqb (plain a b) 0) (cond c 4 0) (plain a b))
card_from_lem true true c = refl
card_from_lem true false c = refl
card_from_lem false b c = refl

-- a card's tests come after the plain lookup's
pub card_refusal_lem : (first last : ℤ) (verdict : ℕ) (t : List Float) (fmc delta : Float)
    → card_refusal first last verdict t fmc delta
    ≡ cond (eqb (lookup_refusal t fmc delta) 0) (cond (eqb verdict 0 && not (is_range first last)) 4 0) (lookup_refusal t fmc delta)
unfolding lookup_refusal card_refusal first_refusal
card_refusal_lem first last verdict t fmc delta = card_from_lem (is_table t) (any_outside (fmc ∷ delta ∷ [])) (eqb verdict 0 && not (is_range first last))

pub card_refused : (first last : ℤ) (verdict : ℕ) (t : List Float) (fmc delta : Float) {n : ℕ} → lookup_refusal t fmc delta ≡ n → 0 < n
    → card_refusal first last verdict t fmc delta ≡ n
card_refused first last verdict t fmc delta {n} e h = card_refusal_lem first last verdict t fmc delta ∙ rw (e, ne_eqb n 0 (omega arith))

pub card_by_range : (first last : ℤ) (verdict : ℕ) (t : List Float) (fmc delta : Float) → lookup_refusal t fmc delta ≡ 0
    → card_refusal first last verdict t fmc delta ≡ cond (eqb verdict 0 && not (is_range first last)) 4 0
card_by_range first last verdict t fmc delta e = card_refusal_lem first last verdict t fmc delta ∙ rw e

before : (n m : ℕ) → cond (eqb n 0) m n ≡ 0 → n ≡ 0
before n m e = go (eqb n 0) (eqb-true n 0) e
  where
    go : (b : Bool) → (b ≡ true → n ≡ 0) → cond b m n ≡ 0 → n ≡ 0
    go true f h = f refl
    go false f h = h

pub card_accepted : (first last : ℤ) (verdict : ℕ) (t : List Float) (fmc delta : Float)
    → card_refusal first last verdict t fmc delta ≡ 0 → (length t ≡ table_length) × (outside fmc ≡ false) × (outside delta ≡ false)
card_accepted first last verdict t fmc delta e = accepted t fmc delta (before (lookup_refusal t fmc delta) _ (rw card_refusal_lem at e))

four : (r : Bool) → ◌≡◌ {A = ℕ} (cond (not r) 4 0) 0 → r ≡ true
four true e = refl
four false e = absurd (never 3 e)

-- where 4 lets an accepted card pass, its first and last MHz are a range
pub card-range : (first last : ℤ) (verdict : ℕ) (t : List Float) (fmc delta : Float)
    → card_refusal first last verdict t fmc delta ≡ 0 → eqb verdict 0 ≡ true → is_range first last ≡ true
card-range first last verdict t fmc delta e v =
    let tests = rw v at (rw card_refusal_lem at e) in
    four (is_range first last) (rw (before (lookup_refusal t fmc delta) _ tests) at tests)
