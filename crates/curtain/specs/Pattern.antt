-- Document 01 section 4, curtain: the pattern. Definitions only.
use Rattle.std.specs.Prelude.{cond, Float}
use Rattle.std.specs.Float.Ieee.{le}
use Rattle.single.specs.Single.{◌⊞◌, ◌⊟◌, ◌⊠◌, ◌⊘◌, num}
use Rattle.root.specs.Root.{root}
use Rattle.elementary.specs.Trigonometric.{sine, cosine}
use Rattle.elementary.specs.Logarithm.{logarithm10}
use Rattle.angles.specs.declared.angles.Azimuth.{Azimuth}
use Rattle.angles.specs.declared.angles.Elevation.{Elevation}
use Rattle.reflection.specs.declared.ground.Ground.{Ground}
use Rattle.curtain.specs.Bays.{sx_of}
use Rattle.curtain.specs.Elements.{at_most_ten, waves_of, field_of}
use Rattle.curtain.specs.declared.card.CurtainCard.{CurtainCard}
use Rattle.curtain.specs.declared.row.CurtainRow.{CurtainRow}
use Rattle.curtain.specs.declared.gain.CurtainGain.{CurtainGain}
use Rattle.curtain.specs.declared.gain.CurtainGain.TheVariants.{Weak, Decibels}

-- fac6, from denom, sel, sz and sx
unfoldable pub fac6_of : CurtainCard → CurtainRow → Azimuth → Float → Float
fac6_of card row azimuth t =
    let sb = azimuth.sb in
    let denom = num 1 1 ⊟ sb ⊠ sb ⊠ t ⊠ t in
    let sel = cosine (row.facsb ⊠ t) ⊟ row.cfac in
    let sz = sine (row.facdx ⊠ t) in
    let sx = sx_of card.ep card.nep card.nn row.fac3 (t ⊠ sb) in
    sel ⊠ sx ⊠ sz ⊘ denom

-- value, from eh and ev
unfoldable pub value_of : CurtainCard → CurtainRow → Azimuth → Elevation → Ground → Float
value_of card row azimuth elevation earth =
    let q = elevation.q in
    let fac6 = fac6_of card row azimuth elevation.t in
    let m = at_most_ten card.m in
    let waves = waves_of m q row.h1 row.dz in
    let sv = azimuth.sb ⊠ q in
    let eh = field_of (fac6 ⊠ azimuth.cb) m waves earth.ch earth.psih in
    let ev = field_of (fac6 ⊠ sv) m waves earth.cv earth.psiv in
    root (eh ⊠ eh ⊞ ev ⊠ ev)

-- a value of at most 0.00001 is weak. A NaN is not, and gives NaN
abbrev pub gain_from : Float → CurtainGain
gain_from value = cond (le value (num 1 100000)) Weak (Decibels (num 20 1 ⊠ logarithm10 value))

unfoldable pub gain_of : CurtainCard → CurtainRow → Azimuth → Elevation → Ground → CurtainGain
gain_of card row azimuth elevation earth = gain_from (value_of card row azimuth elevation earth)
