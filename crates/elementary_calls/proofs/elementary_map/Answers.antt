use mathlib.Core.Path.{◌≡◌, refl, sym, ap, ◌∙◌}
use mathlib.Core.List.{[], List, ◌∷◌}
use Prim.Native.Nat.{ℕ, zero, suc, ◌<◌}
use native.Mathlib.Omega.{arith}
use native.Mathlib.Nat.{le_of_suc-le-suc}
use lib.ListN.{length, get_or}
use lib.Seq.{ext_get_or}
use lib.Ieee.{Float, nan}
use borrow.Author.Tests.{eq-eqb, ne_eqb}
use Rattle.elementary_calls.specs.declared.Function.{Function}
use Rattle.elementary_calls.specs.Calls.{function_of, answer, answer_by, answers, map_number, mapped}
use Rattle.elementary_calls.proofs.Functions.{answer_is}
use Rattle.elementary_calls.proofs.elementary_map.Goals as goal

answers_length : (f : ℕ) (xs : List Float) → length (answers f xs) ≡ length xs
unfolding answers
answers_length f [] = refl
answers_length f (x ∷ xs) = ap suc (answers_length f xs)

answers_at : (f : ℕ) (xs : List Float) (k : ℕ) → k < length xs → get_or (answers f xs) k 0 ≡ answer f (get_or xs k nan)
unfolding answers
answers_at f [] k h = absurd (let z : k < 0 = h in omega arith)
answers_at f (x ∷ xs) zero h = refl
answers_at f (x ∷ xs) (suc k) h = answers_at f xs k (le_of_suc-le-suc h)

filled : (f : ℕ) (g : Function) (xs : List Float) (out : List ℕ) → g ≡ function_of f → length out ≡ length xs
    → ((k : ℕ) → k < length xs → get_or out k 0 ≡ answer_by g (get_or xs k nan)) → out ≡ answers f xs
filled f g xs out is e h = ext_get_or 0 out (answers f xs) (e ∙ sym (answers_length f xs)) at
  where
    at : (k : ℕ) → k < length out → get_or out k 0 ≡ get_or (answers f xs) k 0
    at k l =
        let z : k < length xs = omega arith in
        let x = get_or xs k nan in
        h k z ∙ ap (λ (y : Function). answer_by y x) is ∙ answer_is f x ∙ sym (answers_at f xs k z)

pub returns-then-xs-out : goal.returns-then-xs-out
unfolding map_number mapped
returns-then-xs-out c = let e = ne_eqb _ _ c.if-xs-out.true in record { value = simp e; out_after = simp e }

pub returns : goal.returns
unfolding map_number mapped
returns c =
    let l = c.loop-i in
    let a = c.args in
    let e = eq-eqb (length a.xs.now) (length a.out.now) c.if-xs-out.false in
    let is = c.from-function.ensures in
    let out = filled a.function _ a.xs.now l.out is l.invariant.0 (λ k h. l.invariant.1 k (omega arith)) in
    record { value = simp e; out_after = simp e out }
