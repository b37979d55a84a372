-- Demand 3, over any antenna that keeps the laws and any limit of the counts. Assumes nothing.
use mathlib.Core.List.{List}
use Prim.Native.Nat.{ℕ, ◌≤◌}
use native.Mathlib.Omega.{arith}
use lib.ListN.{length}
use lib.Ieee.{round}
use Rattle.independence.specs.Antenna.{Antenna}
use Rattle.independence.specs.Laws.{Laws}
use Rattle.independence.specs.Deck.{Entry, fresh, run, without}
use Rattle.independence.specs.Demand3.{Demand3}
use Rattle.independence.proofs.Verdicts.{Fit}
use Rattle.independence.proofs.Runs.{run_length, run_without}
use Rattle.independence.proofs.Rules.{run_rules}

module _ (A : Antenna) (L : Laws A) (limit : ℕ) where
  pub fit_fresh : (n : ℕ) → n ≤ limit → Fit limit fresh n
  unfolding round
  fit_fresh n l = record { height = tt; room = omega arith }

  pub demand3 : (entries : List (Entry A)) (k : ℕ) → length entries ≤ limit
      → Demand3 A entries (run A limit fresh entries) k (run A limit fresh (without k entries))
  demand3 entries k l =
      record {
        complete = run_length A limit fresh entries;
        complete_without = run_length A limit fresh (without k entries);
        same = run_without A L limit k entries fresh (fit_fresh (length entries) l);
        rules = run_rules A L limit entries fresh;
        rules_without = run_rules A L limit (without k entries) fresh;
      }
