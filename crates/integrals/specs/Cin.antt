-- Document 01 section 4: the entire cosine integral Cin, which the radiation resistances take. Definitions only.
use Rattle.std.specs.Prelude.{Float}
use Rattle.single.specs.Single.{◌⊞◌, ◌⊟◌}
use Rattle.elementary.specs.Logarithm.{logarithm}

-- 0.577 + x.ln() - ci, or with 0.577215: Euler's constant as the formula has it, and ci of the same x
unfoldable pub cin_of : Float → Float → Float → Float
cin_of euler x ci = euler ⊞ logarithm x ⊟ ci
