-- Document 01 section 3: the rational form, step by step. Definitions only.
use Rattle.std.specs.Prelude.{ℕ, Float}
use Rattle.single.specs.Single.{◌⊞◌, ◌⊟◌, ◌⊠◌, ◌⊘◌, num}
use Rattle.elementary.specs.Trigonometric.{sine, cosine}
use Rattle.integrals.specs.declared.rational.Integrals.{Integrals}

-- a constant of six decimals, in millionths
abbrev pub millionths : ℕ → Float
millionths n = num n 1000000

-- (((x2 + a) x2 + b) x2 + c) x2 + d
abbrev pub quartic : ℕ → ℕ → ℕ → ℕ → Float → Float
quartic a b c d x2 = (((x2 ⊞ millionths a) ⊠ x2 ⊞ millionths b) ⊠ x2 ⊞ millionths c) ⊠ x2 ⊞ millionths d

unfoldable pub rational_of : Float → Integrals
rational_of x =
    let x2 = x ⊠ x in
    let t = cosine x in
    let s = sine x in
    let g0 = quartic 48196927 482485984 1114978885 449690326 x2 ⊠ x2 in
    let g = quartic 42252855 302757865 352018498 21821899 x2 ⊘ g0 in
    let f0 = quartic 40021433 322624911 570236280 157105423 x2 ⊠ x in
    let f = quartic 38027264 265187033 335677320 38102495 x2 ⊘ f0 in
    record { ci = f ⊠ s ⊟ g ⊠ t; si = num 15708 10000 ⊟ f ⊠ t ⊟ g ⊠ s }
