-- The loop over the numbers: what is left of them decides. Assumes nothing.
use Prim.Native.Nat.{ℕ, ◌+◌, ◌*◌, ◌<◌, ◌≤◌}
use mathlib.Core.Path.{◌≡◌, refl, subst, ◌∙◌}
use mathlib.Core.Bool.{true, false}
use mathlib.Core.List.{List}
use native.Mathlib.Numerals.{add-one}
use lib.Seq.{drop-cons}
use lib.ListN.{length, drop, get_or, drop_of_length-le}
use lib.Dec.{T}
use borrow.Author.Tests.{not-false}
use lib.Ieee.{Float, nan, inf, fin, le, lt, eq, round, up, down}
use native.Mathlib.Nat.{mul-one}
use Rattle.single.proofs.Booleans.{holds}
use Rattle.single.specs.Single.{num}
use Rattle.single.proofs.Magnitude.{Mag, or-le}
use Rattle.elementary.specs.Basic.{absolute}
use Rattle.limits.specs.Tests.{outside, any_outside}

module _ (l : List Float) (i : ℕ) (inv : any_outside (drop i l) ≡ any_outside l) where
  pub found : i < length l → outside (get_or l i nan) ≡ true → true ≡ any_outside l
  found h e = (rw (drop-cons l i nan h) (unfold any_outside in rw e)) ∙ inv

  pub passed : i < length l → outside (get_or l i nan) ≡ false → any_outside (drop (i + 1) l) ≡ any_outside l
  passed h e = rw (add-one i) ((rw (drop-cons l i nan h) (unfold any_outside in rw e)) ∙ inv)

  pub ended : length l ≤ i → false ≡ any_outside l
  ended h = (rw (drop_of_length-le l h) (unfold any_outside in refl)) ∙ inv

-- a number that is not outside is at most 1,000 in magnitude
pub within_mag : (x : Float) → outside x ≡ false → Mag 1000 x
unfolding outside absolute round le lt eq
within_mag nan h = absurd (subst T h tt)
within_mag (inf s) h = absurd (subst T h tt)
within_mag (fin s m e) h =
    let t : m * up e * 1 ≤ 1000 * down e = or-le (m * up e * 1) (1000 * down e) (holds (not-false (le (fin false m e) (num 1000 1)) h)) in
    rw (mul-one (m * up e)) at t
