-- Document 01 section 4, types 7 and 9: what both take of a cell. Definitions only.
use Rattle.std.specs.Prelude.{Float}
use Rattle.std.specs.Float.Ieee.{neg}
use Rattle.single.specs.Single.{◌⊞◌, ◌⊟◌, ◌⊠◌, num}
use Rattle.angles.specs.declared.angles.Elevation.{Elevation}
use Rattle.slopes.specs.declared.slope.Slope.{Slope}
use Rattle.sloping_patterns.specs.declared.direction.Direction.{Direction}

unfoldable pub direction_of : Slope → Elevation → Direction
direction_of slope elevation =
    let g = slope.g in
    let pp = slope.pp in
    let cosum = slope.cosum in
    let codif = slope.codif in
    let t = elevation.t in
    let q = elevation.q in
    let copsi1 = q ⊠ g ⊞ t ⊠ pp ⊠ codif in
    let copsi2 = q ⊠ g ⊞ t ⊠ pp ⊠ cosum in
    let copsi3 = neg q ⊠ g ⊞ t ⊠ pp ⊠ codif in
    let copsi4 = neg q ⊠ g ⊞ t ⊠ pp ⊠ cosum in
    record {
      copsi5 = t ⊠ g ⊞ q ⊠ pp ⊠ codif;
      copsi6 = t ⊠ g ⊞ q ⊠ pp ⊠ cosum;
      copsi7 = neg t ⊠ g ⊞ q ⊠ pp ⊠ codif;
      copsi8 = neg t ⊠ g ⊞ q ⊠ pp ⊠ cosum;
      u1 = num 1 1 ⊟ copsi1;
      u2 = num 1 1 ⊟ copsi2;
      u3 = num 1 1 ⊟ copsi3;
      u4 = num 1 1 ⊟ copsi4;
    }
