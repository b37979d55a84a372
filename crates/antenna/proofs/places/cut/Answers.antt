use mathlib.Core.Path.{◌≡◌, sym, subst, ap, ◌∙◌}
use mathlib.Core.Bool.{true, false}
use Prim.Native.Nat.{ℕ, ◌+◌, ◌-◌, ◌/◌, ◌%◌, ◌^◌, ◌≤◌, ◌<◌}
use native.Mathlib.Nat.{le_trans, min-eq_left}
use native.Mathlib.Omega.{arith}
use borrow.Author.Tests.{lt-leb}
use lib.Dec.{T, lit≤}
use lib.IntN.{pos}
use lib.Ieee.{Float, nan, inf, fin, binary32, fits, to_bits, to_signed}
use lib.Ieee.Bits.{of_bits-to_bits}
use mir.Syntax.{w32}
use mir.ValLaws.{to_z_pos}
use Rattle.single.specs.Single.{is_negative}
use Rattle.single.proofs.Magnitude.{Mag, mag_no_nan}
use Rattle.single.proofs.Sign.{sign_bit}
use Rattle.elementary.specs.Basic.{cut_toward}
use Rattle.basic.specs.WholePart.{whole_part}
use Rattle.basic.proofs.WholePart.{whole_below, field_below, whole_digits}
use Rattle.antenna.proofs.places.cut.Goals as goal

plus : (x : Float) → Mag (2 ^ 21) x → is_negative x ≡ false → pos (whole_part x) ≡ cut_toward x
unfolding cut_toward to_signed
plus nan m h = absurd m
plus (inf s) m h = absurd m
plus (fin false n e) m h = ap pos (sym (min-eq_left (le_trans (whole_below (fin false n e) (2 ^ 21) m) (lit≤ tt))))
plus (fin true n e) m h = absurd (subst T h tt)

module _ (x : Float) (m : Mag (2 ^ 21) x) (f : T (fits binary32 x)) (low : 1065353216 ≤ to_bits binary32 x) (high : to_bits binary32 x < 2147483648) where
  abbrev b : ℕ
  b = to_bits binary32 x

  field : b / 8388608 ≤ 150
  field = field_below x b high (of_bits-to_bits binary32 x f) m

  digits : (8388608 + b % 8388608) / 2 ^ (150 - b / 8388608) ≡ whole_part x
  digits = whole_digits x b high (of_bits-to_bits binary32 x f) m (omega arith)

  small : (8388608 + b % 8388608) / 2 ^ (150 - b / 8388608) ≤ 2 ^ 21
  small = subst (λ (k : ℕ). k ≤ 2 ^ 21) (sym digits) (whole_below x (2 ^ 21) m)

  whole : pos ((8388608 + b % 8388608) / 2 ^ (150 - b / 8388608)) ≡ cut_toward x
  whole = ap pos digits ∙ plus x m (sym (sign_bit x f (mag_no_nan (2 ^ 21) x m)) ∙ lt-leb 2147483648 b high)

pub overflow_sub-result : goal.overflow_sub-result
overflow_sub-result c = field c.args.x c.requires (subst T (sym c.well_formed.0.1) tt) c.if-b-ge1065353216.true c.if-b-lt2147483648.true

pub returns-then-b-lt2147483648 : goal.returns-then-b-lt2147483648
returns-then-b-lt2147483648 c =
    let f = subst T (sym c.well_formed.0.1) tt in
    let h = small c.args.x c.requires f c.if-b-ge1065353216.true c.if-b-lt2147483648.true in
    to_z_pos w32 _ (omega (arith, h)) ∙ whole c.args.x c.requires f c.if-b-ge1065353216.true c.if-b-lt2147483648.true
