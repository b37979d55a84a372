use mathlib.Core.Path.{◌≡◌, sym, ◌∙◌, ap, subst}
use Prim.Native.Nat.{ℕ, ◌%◌, ◌≤◌, ◌^◌}
use native.Mathlib.Omega.{arith}
use lib.Dec.{lit≤}
use lib.Ieee.{binary32, of_bits, to_bits}
use lib.Ieee.Bits.{of_bits-to_bits}
use Rattle.single.proofs.Booleans.{holds}
use Rattle.basic.specs.Basic.{absolute}
use Rattle.basic.proofs.Absolute.{bits_absolute}
use Rattle.basic.proofs.WholePart.{absolute_mag, absolute_whole, whole_below, field_below, whole_none, whole_digits}
use Rattle.trigonometric.proofs.trigonometric.whole_part.Goals as goal
use Rattle.trigonometric.proofs.trigonometric.whole_part.Goals.{Start}

-- the pattern without its sign bit is the magnitude's
pattern : (c : Start) → of_bits binary32 (to_bits binary32 c.args.t % 2147483648) ≡ absolute c.args.t
pattern c = bits_absolute (to_bits binary32 c.args.t) ∙ ap absolute (of_bits-to_bits binary32 c.args.t (holds c.well_formed.0.1))

pub overflow_sub-result : goal.overflow_sub-result
overflow_sub-result c = let t = c.args.t in field_below (absolute t) (to_bits binary32 t % 2147483648) (omega arith) (pattern c.before) (absolute_mag t (2 ^ 21) c.requires)

pub returns-then-e-lt127 : goal.returns-then-e-lt127
returns-then-e-lt127 c = let t = c.args.t in (whole_none (absolute t) (to_bits binary32 t % 2147483648) (omega arith) (pattern c.before) (absolute_mag t (2 ^ 21) c.requires) c.if-e-lt127.true ∙ absolute_whole t, lit≤ tt)

pub returns-else-e-lt127 : goal.returns-else-e-lt127
returns-else-e-lt127 c = let t = c.args.t in let e = whole_digits (absolute t) (to_bits binary32 t % 2147483648) (omega arith) (pattern c.before) (absolute_mag t (2 ^ 21) c.requires) c.if-e-lt127.false ∙ absolute_whole t in (e, subst (λ (k : ℕ). k ≤ 2097152) (sym e) (whole_below t (2 ^ 21) c.requires))
