-- Document 01 section 3: at 0, of either sign, the integrals are -infinity and 0, after one turn of each series. Assumes nothing.
use mathlib.Core.Path.{◌≡◌, refl}
use mathlib.Core.Bool.{true}
use Rattle.std.specs.Prelude.{Some}
use lib.Ieee.{inf, neg, round, lt, le, add, sub, mul, div}
use Rattle.single.specs.Single.{num, on_positive}
use Rattle.elementary.specs.Basic.{absolute}
use Rattle.elementary.specs.Logarithm.{logarithm}
use Rattle.integrals.specs.Series.{series_from, series_of, ci_series, si_series}
use Rattle.integrals.specs.Cisi.{integrals_of}

pub at_zero : integrals_of (num 0 1) ≡ Some (record { value = record { ci = inf true; si = num 0 1 }; turns = record { ci = 1; si = 1 } })
unfolding integrals_of ci_series si_series series_of series_from logarithm on_positive absolute round lt le add sub mul div neg
at_zero = refl

pub at_minus_zero : integrals_of (neg (num 0 1)) ≡ Some (record { value = record { ci = inf true; si = num 0 1 }; turns = record { ci = 1; si = 1 } })
unfolding integrals_of ci_series si_series series_of series_from logarithm on_positive absolute round lt le add sub mul div neg
at_minus_zero = refl
