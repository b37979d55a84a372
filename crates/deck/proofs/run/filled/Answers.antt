use mathlib.Core.Path.{refl}
use Rattle.std.specs.Prelude.{Option, Some, None}
use Rattle.std.specs.Option.{MatchOption, IsSome}
use Rattle.refusals.proofs.Refusals.{accepted}
use Rattle.independence.proofs.Calls.{cleared_length_of, none_before_work}
use Rattle.deck.specs.Antenna.{the_antenna}
use Rattle.deck.specs.Run.{count_limit}
use Rattle.deck.proofs.Laws.{the_laws}
use Rattle.deck.proofs.run.filled.Goals as goal

some : {X : Type 0} (o : Option X) (P : Type 0) (Q : X → Type 0) → MatchOption o P Q → (P → ⊥) → IsSome o
some (Some x) P Q m none = refl
some None P Q m none = absurd (none m)

pub unwrap-cells-requires : goal.unwrap-cells-requires
unwrap-cells-requires c =
    let none = none_before_work the_antenna the_laws count_limit _ _ _ (accepted c.refusal_before_work.ensures c.in_ok-refusal_before_work.was) in
    some _ _ _ c.as_mut_array.ensures.cases (λ other. other (cleared_length_of _ _ none.table c.clear_refused.ensures))

pub fill_card-requires : goal.fill_card-requires
fill_card-requires c = (none_before_work the_antenna the_laws count_limit _ _ _ (accepted c.refusal_before_work.ensures c.in_ok-refusal_before_work.was)).input
