-- Document 01 section 4, curtain: what holds for a row. Definitions only.
use Rattle.std.specs.Prelude.{ℕ, cond, List, get_or, Float}
use Rattle.std.specs.Float.{nan}
use Rattle.std.specs.Float.Ieee.{le}
use Rattle.single.specs.Single.{◌⊠◌, ◌⊘◌, num}
use Rattle.elementary.specs.Basic.{absolute}
use Rattle.elementary.specs.Trigonometric.{cosine}
use Rattle.angles.specs.Angles.{pi}
use Rattle.angles.specs.declared.angles.Azimuth.{Azimuth}
use Rattle.curtain.specs.declared.row.CurtainRow.{CurtainRow}

-- dy, dz, dx: not above 0 in wavelengths, without their sign, else in metres
unfoldable pub spacing_of : Float → Float → Float
spacing_of v wave = cond (le v (num 0 1)) (absolute v) (v ⊘ wave)

-- ex[1], ex[2] and ex[3] are dy, dz and dx. The cell's fac1 * sb * t and 2.0 * PI * dx * cb * t begin with facsb and facdx
unfoldable pub row_of : Float → Float → List Float → Azimuth → Float → CurtainRow
row_of fac h1 ex azimuth wave =
    let spacing : ℕ → Float = λ i. spacing_of (get_or ex i nan) wave in
    record {
      cfac = cosine fac;
      facsb = fac ⊠ azimuth.sb;
      facdx = num 2 1 ⊠ pi ⊠ spacing 3 ⊠ azimuth.cb;
      fac3 = pi ⊠ spacing 1;
      h1 = h1;
      dz = spacing 2;
    }
