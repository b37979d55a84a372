-- Document 01 section 4: type 8, the inverted L of `iongain2`. Definitions only.
use Rattle.std.specs.Prelude.{Bool, cond, Float, Option}
use Rattle.std.specs.Float.Ieee.{eq, lt}
use Rattle.single.specs.Single.{◌⊞◌, ◌⊟◌, ◌⊠◌, ◌⊘◌, num}
use Rattle.elementary.specs.Basic.{square}
use Rattle.elementary.specs.Trigonometric.{sine, cosine}
use Rattle.elementary.specs.Arctangent.{arctangent}
use Rattle.elementary.specs.Logarithm.{logarithm10}
use Rattle.angles.specs.declared.angles.Azimuth.{Azimuth}
use Rattle.angles.specs.declared.angles.Elevation.{Elevation}
use Rattle.reflection.specs.declared.ground.Ground.{Ground}
use Rattle.integrals.specs.Pair.{pair_settles}
use Rattle.resistance.specs.Resistance.{resistance_of}
use Rattle.integrals.specs.Settled.{settled_map}
use Rattle.integrals.specs.declared.settled.Settled.{Settled}
use Rattle.inverted_l.specs.declared.inverted_l.InvertedL.{InvertedL}

-- the efficiency in dB: below 0.20 wavelengths 20.0 * e.log10(), minus infinity at 0
unfoldable pub eff8_of : Float → Float
eff8_of hwave =
    let twave = hwave ⊠ num 15916 100000 in
    let e = twave ⊠ (num 6335 1000 ⊞ twave ⊠ (num 6795 100 ⊟ twave ⊠ (num 693 1 ⊟ num 1600 1 ⊠ twave))) in
    cond (lt twave (num 20 100)) (num 20 1 ⊠ logarithm10 e) (num 0 1)

abbrev pub row_from : Float → Float → Float → InvertedL
row_from fac2 hwave ra =
    record {
      fac2 = fac2;
      hwave = hwave;
      cfac2 = cosine fac2;
      sfac2 = sine fac2;
      csum = cosine (hwave ⊞ fac2);
      ssum = sine (hwave ⊞ fac2);
      ra = ra;
      eff8 = eff8_of hwave;
    }

-- what a row takes from the leg's fac and the height's hwave: hac2 = hwave + hwave and hac4 = hac2 + hac2
unfoldable pub inverted_l_row : Float → Float → Option (Settled InvertedL)
inverted_l_row fac hwave =
    let hac2 = hwave ⊞ hwave in
    settled_map (row_from (fac ⊠ num 2 1) hwave) (resistance_of hac2 (hac2 ⊞ hac2))

unfoldable pub inverted_l_settles : Float → Bool
inverted_l_settles hwave = let hac2 = hwave ⊞ hwave in pair_settles hac2 (hac2 ⊞ hac2)

abbrev pub zero_inverted_l : InvertedL
zero_inverted_l =
    let o = num 0 1 in
    record { fac2 = o; hwave = o; cfac2 = o; sfac2 = o; csum = o; ssum = o; ra = o; eff8 = o }

-- g2, from u, hk, c and sphip
unfoldable pub g2_of : InvertedL → Azimuth → Elevation → Ground → Float
g2_of row azimuth elevation earth =
    let ch = earth.ch in
    let u = elevation.t ⊠ azimuth.sb in
    let sphip = num 1 1 ⊟ u ⊠ u in
    let hk = num 1 1 ⊞ ch ⊠ ch ⊟ num 2 1 ⊠ ch ⊠ cosine (earth.psih ⊟ num 2 1 ⊠ row.hwave ⊠ elevation.q) in
    let c =
    num 1 1 ⊟ cosine (row.fac2 ⊠ u) ⊠ row.cfac2 ⊟ u ⊠ sine (row.fac2 ⊠ u)
    ⊟ num 5 10 ⊠ row.sfac2 ⊠ row.sfac2 ⊠ (num 1 1 ⊟ u ⊠ u) in
    cond (eq sphip (num 0 1)) (num 0 1) (hk ⊠ square (num 2 1 ⊠ c ⊠ azimuth.cb ⊘ sphip))

unfoldable pub bprim_of : Float → Float → Float
bprim_of a b = cond (eq a (num 0 1)) (num 0 1) (arctangent (b ⊘ a))

-- f1, from hq, a, b and bprim
unfoldable pub f1_of : InvertedL → Elevation → Ground → Float
f1_of row elevation earth =
    let t = elevation.t in
    let q = elevation.q in
    let cv = earth.cv in
    let hq = q ⊠ row.hwave in
    let a = row.cfac2 ⊠ cosine hq ⊟ q ⊠ row.sfac2 ⊠ sine hq ⊟ row.csum in
    let b = q ⊠ row.sfac2 ⊠ cosine hq ⊞ row.cfac2 ⊠ sine hq ⊟ q ⊠ row.ssum in
    let bprim = bprim_of a b in
    cond (eq t (num 0 1)) (num 0 1)
    ((a ⊠ a ⊞ b ⊠ b) ⊠ (num 1 1 ⊟ num 2 1 ⊠ cv ⊠ cosine (earth.psiv ⊟ num 2 1 ⊠ bprim) ⊞ cv ⊠ cv) ⊘ (t ⊠ t))

-- `rain`
unfoldable pub inverted_l_rain : InvertedL → Azimuth → Elevation → Ground → Float
inverted_l_rain row azimuth elevation earth =
    num 30 1 ⊠ (g2_of row azimuth elevation earth ⊞ f1_of row elevation earth) ⊘ row.ra
