-- Document 01 section 1: ln and log10, step by step. Definitions only.
use Rattle.std.specs.Prelude.{ℕ, suc, ◌*◌, ◌^◌, ◌-◌, ◌≡◌, true, false, cond, T, ℤ, Float}
use Rattle.std.specs.Float.{inf, binary32}
use Rattle.std.specs.Float.Ieee.{round, of_int, minus, size, up, down, lt, le}
use Rattle.std.specs.Float.Ieee.Exact.{HasValue}
use Rattle.std.specs.Float.Ieee.Positive.{num as numerator, den as denominator}
use Rattle.single.specs.Single.{◌⊞◌, ◌⊟◌, ◌⊠◌, ◌⊘◌, num, on_positive}

abbrev pub ln2 : Float
ln2 = num 6931472 10000000

-- the logarithm of m * 2 ^ e, from m and e
unfoldable pub ln_at : Float → Float → Float
ln_at m e =
    let t = (m ⊟ num 1 1) ⊘ (m ⊞ num 1 1) in
    let w = t ⊠ t in
    e ⊠ ln2 ⊞ num 2 1 ⊠ t ⊠ (num 1 1 ⊞ w ⊠ (num 1 3 ⊞ w ⊠ (num 1 5 ⊞ w ⊠ (num 1 7 ⊞ w ⊠ num 1 9))))

abbrev pub least_digits : Float
least_digits = num 70710677 100000000

abbrev pub digits_end : Float
digits_end = num 14142135 10000000

-- y = m times 2 ^ e exactly, 0.70710677 <= m < 1.4142135. Each finite y above 0 has one such m and e, and its logarithm is lnAt of them: proofs/Split.antt
pub record Split (y m : Float) (e : ℤ) : Type 0 where
  pub exact : HasValue y false (numerator m * up e) (denominator m * down e)
  pub least : T (le least_digits m)
  pub below : lt m digits_end ≡ true

-- The logarithm of n * 2 ^ -(o - 1), for an n above 0. With n's d binary digits, n = m * 2 ^ (d - 1) for an m from 1 up and below 2, and n = m * 2 ^ d for one from 1/2 up and below 1:
-- the first where m is below 1.4142135, else the second. No digit is lost, so m * 2 ^ e is the number exactly, e = d - o or d + 1 - o.
unfoldable pub ln_from : ℕ → ℕ → Float
ln_from n o =
    let d = size n in
    let m = round binary32 false n (2 ^ (d - 1)) in
    cond (lt m digits_end) (ln_at m (of_int binary32 (minus d o))) (ln_at (round binary32 false n (2 ^ d)) (of_int binary32 (minus (suc d) o)))

-- of a number in units of 2 ^ -149
unfoldable pub logarithm : Float → Float
logarithm y = on_positive (inf true) (λ (n : ℕ). ln_from n 150) y

abbrev pub log10_of_e : Float
log10_of_e = num 4342945 10000000

unfoldable pub logarithm10 : Float → Float
logarithm10 y = logarithm y ⊠ log10_of_e
