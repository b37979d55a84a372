use mathlib.Core.Path.{sym, ◌∙◌}
use Rattle.trigonometric.specs.Turns.{sine_ahead_at, sine_ahead}
use Rattle.trigonometric.proofs.Reduction.{out_of_range_is}
use Rattle.trigonometric.proofs.trigonometric.sine_ahead.Goals as goal

pub returns-else-in_range : goal.returns-else-in_range
unfolding sine_ahead
returns-else-in_range c = out_of_range_is (sine_ahead_at _) _ (sym c.in_range.ensures ∙ c.if-in_range.false)
