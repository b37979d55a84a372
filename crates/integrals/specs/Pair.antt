-- Document 01 section 4: a pattern's row takes the integrals of two arguments. Definitions only.
use Rattle.std.specs.Prelude.{Bool, ◌&&◌, Float, Option}
use Rattle.integrals.specs.Settled.{larger_turns, settled_both}
use Rattle.integrals.specs.Cisi.{zeros, integrals_of, integrals_settle}
use Rattle.integrals.specs.declared.rational.Integrals.{Integrals}
use Rattle.integrals.specs.declared.settled.Settled.{Settled}

-- with the largest turns that either took
abbrev pub pair_of : Settled Integrals → Settled Integrals → Settled (Integrals × Integrals)
pair_of a b = record { value = (a.value, b.value); turns = larger_turns a.turns b.turns }

unfoldable pub integral_pair : Float → Float → Option (Settled (Integrals × Integrals))
integral_pair x y = settled_both pair_of (integrals_of x) (integrals_of y)

unfoldable pub pair_settles : Float → Float → Bool
pair_settles x y = integrals_settle x && integrals_settle y

abbrev pub zero_pair : Integrals × Integrals
zero_pair = (zeros, zeros)
