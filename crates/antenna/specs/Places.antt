-- Document 01 section 9: where a lookup reads. Indices are clamped, fractions are not. Definitions only.
use Rattle.std.specs.Prelude.{ℕ, suc, ◌-◌, cond, ltb, ℤ, pos, negsuc, Float}
use Rattle.std.specs.Float.{binary32}
use Rattle.std.specs.Float.Ieee.{of_int}
use Rattle.single.specs.Single.{◌⊞◌, ◌⊟◌, ◌⊠◌, num}
use Rattle.elementary.specs.Basic.{cut_toward}
use Rattle.table.specs.Table.{row_count, column_count}
use Rattle.antenna.specs.declared.places.Place.{Place}

-- constants.rs's R2D, the degrees of a radian
abbrev pub r2d : Float
r2d = num 57295779513 1000000000

-- `clamp(1, most)`
unfoldable pub clamped : ℤ → ℕ → ℕ
clamped (pos k) most = cond (ltb k 1) 1 (cond (ltb k most) k most)
clamped (negsuc k) most = 1

-- `(n + 1).min(most)`
unfoldable pub next_of : ℕ → ℕ → ℕ
next_of n most = cond (ltb n most) (suc n) most

-- rows i and ip1, columns j and jp1, all from 1; xfmc goes by the MHz cut but not clamped, xdelta by the clamped column
unfoldable pub place_of : Float → Float → Place
place_of fmc delta =
    let i = clamped (cut_toward fmc) row_count in
    let deltd = delta ⊠ r2d in
    let j = clamped (cut_toward (deltd ⊞ num 1 1)) column_count in
    record {
      i = i;
      ip1 = next_of i row_count;
      xfmc = fmc ⊟ of_int binary32 (cut_toward fmc);
      j = j;
      jp1 = next_of j column_count;
      xdelta = deltd ⊟ of_int binary32 (pos (j - 1));
    }
