-- Document 01 section 4, curtain: the floor is taken where |elevation - PIO2| is at most the model's threshold, the pattern beyond. Definitions only.
use Rattle.std.specs.Prelude.{Bool, Float}
use Rattle.std.specs.Float.Ieee.{lt}
use Rattle.single.specs.Single.{◌⊟◌, num}
use Rattle.elementary.specs.Basic.{absolute}

-- constants.rs's PIO2
abbrev pub pio2 : Float
pio2 = num 1570796326 1000000000

-- the Rust's test, `(delta - PIO2).abs() > near_vertical`
unfoldable pub takes_pattern : Float → Float → Bool
takes_pattern delta threshold = lt threshold (absolute (delta ⊟ pio2))
