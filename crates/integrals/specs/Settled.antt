-- Document 01, refusal 11. Definitions only.
use Rattle.std.specs.Prelude.{ℕ, Bool, cond, max, Option, Some, None}
use Rattle.integrals.specs.declared.settled.Turns.{Turns}
use Rattle.integrals.specs.declared.settled.Settled.{Settled}

-- document 01's number of work that takes series, by whether they settle
abbrev pub settled_number : Bool → ℕ
settled_number settles = cond settles 0 11

-- document 01's number and values of what came of them: zeros where it is refused
unfoldable pub unsettled_number : {A : Type 0} → Option A → ℕ
unsettled_number (Some a) = 0
unsettled_number None = 11

unfoldable pub settled_value : {A : Type 0} → A → Option (Settled A) → A
settled_value zeros (Some s) = s.value
settled_value zeros None = zeros

abbrev pub no_turns : Turns
no_turns = record { ci = 0; si = 0 }

-- what takes no series
abbrev pub at_once : {A : Type 0} → A → Settled A
at_once a = record { value = a; turns = no_turns }

-- what was computed from it, by no further turns
abbrev pub with_turns : {A B : Type 0} → Settled A → B → Settled B
with_turns s b = record { value = b; turns = s.turns }

abbrev pub settled_map : {A B : Type 0} → (A → B) → Option (Settled A) → Option (Settled B)
settled_map f (Some s) = Some (with_turns s (f s.value))
settled_map f None = None

-- both, where both settled
abbrev pub settled_both : {A B C : Type 0} → (A → B → C) → Option A → Option B → Option C
settled_both f (Some a) (Some b) = Some (f a b)
settled_both f (Some a) None = None
settled_both f None b = None

-- of each series the larger number of turns
abbrev pub larger_turns : Turns → Turns → Turns
larger_turns a b = record { ci = max a.ci b.ci; si = max a.si b.si }
