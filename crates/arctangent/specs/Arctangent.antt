-- Document 01 section 1: arctangent and arcsine, step by step. Definitions only.
use Rattle.std.specs.Prelude.{cond, Float}
use Rattle.std.specs.Float.{nan}
use Rattle.std.specs.Float.Ieee.{lt, neg}
use Rattle.single.specs.Single.{◌⊞◌, ◌⊟◌, ◌⊠◌, ◌⊘◌, num, is_negative}
use Rattle.root.specs.Root.{root}
use Rattle.basic.specs.Basic.{absolute}

abbrev pub a1 : Float
a1 = num 805374449538 10000000000000

abbrev pub a2 : Float
a2 = num 138776856032 1000000000000

abbrev pub a3 : Float
a3 = num 199777106478 1000000000000

abbrev pub a4 : Float
a4 = num 333329491539 1000000000000

-- base + ((((a1 z - a2) z + a3) z - a4) z w + w), z = w times w
unfoldable pub from_base : Float → Float → Float
from_base base w = let z = w ⊠ w in base ⊞ ((((a1 ⊠ z ⊟ a2) ⊠ z ⊞ a3) ⊠ z ⊟ a4) ⊠ z ⊠ w ⊞ w)

abbrev pub upper : Float
upper = num 24142135 10000000

abbrev pub lower : Float
lower = num 41421357 100000000

abbrev pub half_pi : Float
half_pi = num 15707964 10000000

abbrev pub quarter_pi : Float
quarter_pi = num 7853982 10000000

-- of a, the argument's magnitude
unfoldable pub arctangent_of : Float → Float
arctangent_of a =
    cond (lt upper a) (from_base half_pi (neg (num 1 1) ⊘ a))
    (cond (lt lower a) (from_base quarter_pi ((a ⊟ num 1 1) ⊘ (a ⊞ num 1 1)))
    (from_base (num 0 1) a))

-- then the argument's sign, of a zero too
unfoldable pub arctangent : Float → Float
arctangent x = cond (is_negative x) (neg (arctangent_of (absolute x))) (arctangent_of (absolute x))

unfoldable pub arcsine : Float → Float
arcsine y = cond (lt (num 1 1) (absolute y)) nan (arctangent (y ⊘ root (num 1 1 ⊟ y ⊠ y)))
