-- Document 01 section 3: `cisi`, with its refusals 6 and 11. Definitions only.
use Rattle.std.specs.Prelude.{ℕ, Bool, true, cond, ◌&&◌, Float, Option, Some, Result}
use Rattle.std.specs.Float.Ieee.{lt, le}
use Rattle.single.specs.Single.{num}
use Rattle.refusals.specs.declared.Refusal.{Refusal}
use Rattle.refusals.specs.Refusals.{answered}
use Rattle.integrals.specs.Settled.{settled_number, settled_value, at_once, settled_both}
use Rattle.integrals.specs.Series.{ci_series, si_series, ci_settles, si_settles}
use Rattle.integrals.specs.Rational.{rational_of}
use Rattle.integrals.specs.declared.series.SeriesSum.{SeriesSum}
use Rattle.integrals.specs.declared.rational.Integrals.{Integrals}
use Rattle.integrals.specs.declared.settled.Settled.{Settled}

abbrev pub both_of : SeriesSum → SeriesSum → Settled Integrals
both_of a b = record { value = record { ci = a.sum; si = b.sum }; turns = record { ci = a.turns; si = b.turns } }

-- series below 1, rational form from 1
unfoldable pub integrals_of : Float → Option (Settled Integrals)
integrals_of x =
    cond (lt x (num 1 1)) (settled_both both_of (ci_series x) (si_series x)) (Some (at_once (rational_of x)))

-- the rational form always settles
unfoldable pub integrals_settle : Float → Bool
integrals_settle x = cond (lt x (num 1 1)) (ci_settles x && si_settles x) true

abbrev pub zeros : Integrals
zeros = record { ci = num 0 1; si = num 0 1 }

-- finite, from 0 to 1,048,576: every comparison with a NaN is false
unfoldable pub in_limits : Float → Bool
in_limits x = le (num 0 1) x && le x (num 1048576 1)

unfoldable pub cisi_number : Float → ℕ
cisi_number x = cond (in_limits x) (settled_number (integrals_settle x)) 6

unfoldable pub cisi_values : Float → Integrals
cisi_values x = cond (in_limits x) (settled_value zeros (integrals_of x)) zeros

-- the whole answer
unfoldable pub cisi_of : Float → Result Integrals Refusal
cisi_of x = answered (cisi_number x) (cisi_values x)
