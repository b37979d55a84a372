-- Document 02, C-12: the sines of a table's columns, the elevations of 0 to 90 degrees. Definitions only.
use Rattle.std.specs.Prelude.{ℕ, Bool, List, [], ◌∷◌, map, get_or, Float}
use Rattle.std.specs.Float.{binary32}
use Rattle.std.specs.Float.Ieee.{of_bits}
use Rattle.single.specs.Single.{whole}
use Rattle.single.specs.Every.{every}
use Rattle.elementary.specs.Trigonometric.{sine}
use Rattle.elementary.specs.Constants.{◌is◌, agrees}
use Rattle.angles.specs.Angles.{radians_of}
use Rattle.table.specs.Table.{column_count}

-- "a table of 91 numbers", by their bits, ten degrees a line
unfoldable pub sine_bits : List ℕ
sine_bits =
    0x00000000 ∷ 0x3c8ef859 ∷ 0x3d0ef2c6 ∷ 0x3d565e3b ∷ 0x3d8edc7b ∷ 0x3db27eb5 ∷ 0x3dd61305 ∷ 0x3df996a3 ∷ 0x3e0e8365 ∷ 0x3e20305c ∷
    0x3e31d0d4 ∷ 0x3e43636f ∷ 0x3e54e6ce ∷ 0x3e665992 ∷ 0x3e77ba60 ∷ 0x3e8483ee ∷ 0x3e8d2057 ∷ 0x3e95b1be ∷ 0x3e9e377a ∷ 0x3ea6b0de ∷
    0x3eaf1d43 ∷ 0x3eb77c01 ∷ 0x3ebfcc70 ∷ 0x3ec80de9 ∷ 0x3ed03fc9 ∷ 0x3ed8616c ∷ 0x3ee0722f ∷ 0x3ee87171 ∷ 0x3ef05e94 ∷ 0x3ef838f7 ∷
    0x3f000000 ∷ 0x3f03d989 ∷ 0x3f07a8ca ∷ 0x3f0b6d77 ∷ 0x3f0f2744 ∷ 0x3f12d5e8 ∷ 0x3f167918 ∷ 0x3f1a108c ∷ 0x3f1d9bfe ∷ 0x3f211b24 ∷
    0x3f248dba ∷ 0x3f27f37c ∷ 0x3f2b4c25 ∷ 0x3f2e9771 ∷ 0x3f31d522 ∷ 0x3f3504f4 ∷ 0x3f3826a7 ∷ 0x3f3b39ff ∷ 0x3f3e3ebe ∷ 0x3f4134a6 ∷
    0x3f441b7d ∷ 0x3f46f309 ∷ 0x3f49bb13 ∷ 0x3f4c7360 ∷ 0x3f4f1bbd ∷ 0x3f51b3f3 ∷ 0x3f543bcf ∷ 0x3f56b31d ∷ 0x3f5919ae ∷ 0x3f5b6f52 ∷
    0x3f5db3d8 ∷ 0x3f5fe715 ∷ 0x3f6208da ∷ 0x3f641900 ∷ 0x3f66175e ∷ 0x3f6803c9 ∷ 0x3f69de1e ∷ 0x3f6ba634 ∷ 0x3f6d5bec ∷ 0x3f6eff20 ∷
    0x3f708fb2 ∷ 0x3f720d81 ∷ 0x3f737871 ∷ 0x3f74d063 ∷ 0x3f76153f ∷ 0x3f7746ea ∷ 0x3f78654d ∷ 0x3f797051 ∷ 0x3f7a67e2 ∷ 0x3f7b4bec ∷
    0x3f7c1c5c ∷ 0x3f7cd924 ∷ 0x3f7d8236 ∷ 0x3f7e1782 ∷ 0x3f7e98fd ∷ 0x3f7f069e ∷ 0x3f7f605c ∷ 0x3f7fa62f ∷ 0x3f7fd814 ∷ 0x3f7ff605 ∷
    0x3f800000 ∷ []

unfoldable pub column_sines : List Float
column_sines = map (of_bits binary32) sine_bits

-- "the formula": the sine of the elevation, which is d degrees times 0.017453293
abbrev pub sine_of_degrees : ℕ → Float
sine_of_degrees d = sine (radians_of (whole d))

-- "each entry has the bits the formula gives" (past the last entry `get_or` answers a NaN's bits)
unfoldable pub entry_agrees : ℕ → Bool
entry_agrees d = agrees (sine_of_degrees d is get_or sine_bits d 0x7fc00000)

unfoldable pub sines_agree : Bool
sines_agree = every entry_agrees column_count
