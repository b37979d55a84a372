-- Document 01 section 4, curtain: what `finish` is handed for each answer. Definitions only.
use Rattle.std.specs.Prelude.{Float}
use Rattle.single.specs.Single.{num}
use Rattle.finish.specs.Finish.{floor}
use Rattle.curtain.specs.declared.gain.CurtainGain.{CurtainGain}
use Rattle.curtain.specs.declared.gain.CurtainGain.TheVariants.{Floor, Weak, Decibels}

-- `rain`, in dB
unfoldable pub rain_of : CurtainGain → Float
rain_of Floor = floor
rain_of Weak = floor
rain_of (Decibels v) = v

-- `sok`: the element slot, uncut, near the vertical alone
unfoldable pub sok_of : CurtainGain → Float → Float
sok_of Floor slot = slot
sok_of Weak slot = num 0 1
sok_of (Decibels v) slot = num 0 1
