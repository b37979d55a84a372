-- The constants of sections 2 to 6, 8, 9 and of the limits have the bits that their table says: one computed test, and what it says of each. Assumes nothing.
use mathlib.Core.List.{List, [], ◌∷◌}
use lib.Dec.{T}
use lib.Ieee.{fits, to_bits, neg, round}
use lib.Ieee.Fits.{and_l, and_r}
use Rattle.elementary.specs.Constants.{Constant, agrees, all, constant_is}
use Rattle.constants.specs.Constants.{constants, EachIs}

-- the test
pub constants_agree : T (all constants)
unfolding all agrees round to_bits fits neg
constants_agree = tt

-- what it says of each
each-is : (cs : List Constant) → T (all cs) → EachIs cs
unfolding all EachIs
each-is [] t = tt
each-is (c ∷ cs) t = (constant_is c (and_l (agrees c) (all cs) t), each-is cs (and_r (agrees c) (all cs) t))

pub constants_are : EachIs constants
constants_are = each-is constants constants_agree
