-- The pattern of a number with 24 digits, from its units of 2 ^ -149. Assumes nothing.
use mathlib.Core.Path.{◌≡◌, sym, ap, subst, ◌∙◌}
use mathlib.Core.Bool.{Bool, true, false, not}
use Prim.Native.Nat.{ℕ, ◌+◌, ◌-◌, ◌*◌, ◌/◌, ◌%◌, ◌^◌, ◌≤◌, ◌<◌}
use native.Mathlib.Omega.{arith}
use native.Mathlib.Nat.{mul_assoc, lt_of_lt_of_le}
use lib.Dec.{T, leb, ltb, leb→le, nleb→lt}
use lib.Pow.{pow_pos, pow-add, pow_mono, shl_lt}
use lib.Ieee.{inf, binary32, units, odd, fits, of_bits}
use lib.Ieee.Bits.{of_bits-fits}
use lib.Ieee.Fits.{odd-fits, cond-fits, inf-fits}
use lib.Ieee.Exact.{HasValue, units_val}
use Rattle.single.proofs.Value.{value_unique, bits_normal}

-- r * 2 ^ j units, r of 24 digits (or 2 ^ 24)
units-fits : (r j : ℕ) → r ≤ 2 ^ 24 → r * 2 ^ j < 2 ^ 277 → T (fits binary32 (units binary32 false r j))
unfolding units
units-fits r j h k = cond-fits binary32 (ltb (r * 2 ^ j) (2 ^ 277)) (odd 25 false r j 149) (inf false) (odd-fits binary32 25 false r j (let z : r < 2 ^ 25 = omega arith in z) h k) (inf-fits binary32 false)

pub units_bits : (r j : ℕ) → 2 ^ 23 ≤ r → r ≤ 2 ^ 24 → j < 250 → units binary32 false r j ≡ of_bits binary32 (j * 8388608 + r)
units_bits r j lo hi J =
    let small : r * 2 ^ j < 2 ^ 277 = lt_of_lt_of_le (shl_lt 25 j (let z : r < 2 ^ 25 = omega arith in z)) (pow_mono (let z : 25 + j ≤ 277 = omega arith in z)) in
    value_unique binary32 (units binary32 false r j) (of_bits binary32 (j * 8388608 + r)) false (r * 2 ^ j) (2 ^ 149) (pow_pos 149) (units-fits r j hi small) (of_bits-fits binary32 (j * 8388608 + r)) (units_val binary32 false r j small) (go (leb (2 ^ 24) r) (leb→le (2 ^ 24) r) (nleb→lt (2 ^ 24) r))
  where
    p : ℕ
    p = j * 8388608 + r

    here : (v : ℕ) → (8388608 + p % 8388608) * 2 ^ (p / 8388608 - 1) ≡ v → HasValue (of_bits binary32 p) false v (2 ^ 149)
    here v e = subst (λ (x : ℕ). HasValue (of_bits binary32 p) false x (2 ^ 149)) e (bits_normal p (let z : 8388608 ≤ j * 8388608 + r = omega arith in z) (let z : j * 8388608 + r < 2139095040 = omega arith in z))

    go : (b : Bool) → (T b → 2 ^ 24 ≤ r) → (T (not b) → r < 2 ^ 24) → HasValue (of_bits binary32 p) false (r * 2 ^ j) (2 ^ 149)
    go true f g =
        let h : 2 ^ 24 ≤ r = f tt in
        let a : p % 8388608 ≡ 0 = omega arith in
        let b : p / 8388608 - 1 ≡ 1 + j = omega arith in
        let d : r ≡ 8388608 * 2 = omega arith in
        here (r * 2 ^ j) (ap (λ (x : ℕ). (8388608 + x) * 2 ^ (p / 8388608 - 1)) a ∙ ap (λ (x : ℕ). 8388608 * 2 ^ x) b ∙ ap (λ (x : ℕ). 8388608 * x) (pow-add 2 1 j) ∙ sym (mul_assoc 8388608 2 (2 ^ j)) ∙ ap (λ (x : ℕ). x * 2 ^ j) (sym d))
    go false f g =
        let h : r < 2 ^ 24 = g tt in
        let a : 8388608 + p % 8388608 ≡ r = omega arith in
        let b : p / 8388608 - 1 ≡ j = omega arith in
        here (r * 2 ^ j) (ap (λ (x : ℕ). x * 2 ^ (p / 8388608 - 1)) a ∙ ap (λ (x : ℕ). r * 2 ^ x) b)
