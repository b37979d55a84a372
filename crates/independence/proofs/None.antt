-- An entry of a deck is accepted exactly where none of its tests holds. Assumes nothing.
use Prim.Native.Nat.{ℕ, zero, suc, ◌<◌}
use mathlib.Core.Path.{◌≡◌}
use mathlib.Core.Bool.{true, false, not}
use mathlib.Core.Logic.{◌↔◌}
use native.Mathlib.Omega.{arith}
use lib.Dec.{eqb}
use Rattle.single.proofs.Booleans.{holds}
use Rattle.limits.proofs.None.{any_holds, Numbered, zero_none}
use Rattle.independence.specs.Antenna.{Antenna}
use Rattle.independence.specs.Deck.{Deck, Line, card, malformed, Entry, deck_tests, line_tests, verdict_on}

some_number : (n : ℕ) → not (eqb n 0) ≡ true → 0 < n
some_number zero h = absurd (holds h)
some_number (suc n) h = omega arith

module _ (A : Antenna) (limit : ℕ) where
  numbered : (d : Deck) (e : Entry A) → Numbered (deck_tests limit d e.table (line_tests A e.line d.height))
  numbered d e = (λ h. omega arith, (λ h. omega arith, (λ h. omega arith, own e.line)))
    where
      own : (l : Line A) → Numbered (line_tests A l d.height)
      own (card c) = (some_number _, (some_number _, tt))
      own malformed = (λ h. omega arith, tt)

  pub zero_none_of_entry : (d : Deck) (e : Entry A)
      → (verdict_on A limit d e ≡ 0) ↔ (any_holds (deck_tests limit d e.table (line_tests A e.line d.height)) ≡ false)
  unfolding verdict_on
  zero_none_of_entry d e = zero_none _ (numbered d e)
