-- The floats of a list of bytes, one by one, and back. Assumes nothing.
use Prim.Native.Nat.{ℕ, zero, suc, ◌+◌, ◌*◌, ◌/◌, ◌%◌, ◌≤◌}
use mathlib.Core.Path.{◌≡◌, refl, ap, ◌∙◌}
use mathlib.Core.List.{List, [], ◌∷◌}
use native.Mathlib.Nat.{add-zero}
use native.Mathlib.Omega.{arith}
use lib.Dec.{T}
use lib.ListN.{length, get_or}
use lib.Ieee.{Float, nan, binary32, fits, of_bits, to_bits}
use lib.Ieee.Bits.{of_bits-to_bits}
use Rattle.encoding.specs.Bytes.{bytes_of, float_of, floats_of}

pub floats_length : (n : ℕ) (bs : List ℕ) → length bs ≡ n * 4 → length (floats_of bs) ≡ n
unfolding floats_of
floats_length zero [] h = refl
floats_length zero (b0 ∷ bs) h = omega arith
floats_length (suc n) [] h = omega arith
floats_length (suc n) (b0 ∷ []) h = omega arith
floats_length (suc n) (b0 ∷ b1 ∷ []) h = omega arith
floats_length (suc n) (b0 ∷ b1 ∷ b2 ∷ []) h = omega arith
floats_length (suc n) (b0 ∷ b1 ∷ b2 ∷ b3 ∷ bs) h = ap suc (floats_length n bs (omega arith))

shifted : (b0 b1 b2 b3 : ℕ) (bs : List ℕ) (k i : ℕ) → get_or (b0 ∷ b1 ∷ b2 ∷ b3 ∷ bs) (suc k * 4 + i) 0 ≡ get_or bs (k * 4 + i) 0
shifted b0 b1 b2 b3 bs k i = let e : suc k * 4 + i ≡ suc (suc (suc (suc (k * 4 + i)))) = omega arith in rw e

at_plus_zero : (k : ℕ) (bs : List ℕ) → k * 4 + 4 ≤ length bs → get_or (floats_of bs) k nan ≡ float_of (get_or bs (k * 4 + 0) 0) (get_or bs (k * 4 + 1) 0) (get_or bs (k * 4 + 2) 0) (get_or bs (k * 4 + 3) 0)
unfolding floats_of
at_plus_zero k [] h = absurd (omega arith)
at_plus_zero k (b0 ∷ []) h = absurd (omega arith)
at_plus_zero k (b0 ∷ b1 ∷ []) h = absurd (omega arith)
at_plus_zero k (b0 ∷ b1 ∷ b2 ∷ []) h = absurd (omega arith)
at_plus_zero zero (b0 ∷ b1 ∷ b2 ∷ b3 ∷ bs) h = refl
at_plus_zero (suc k) (b0 ∷ b1 ∷ b2 ∷ b3 ∷ bs) h = rw (shifted b0 b1 b2 b3 bs k 0, shifted b0 b1 b2 b3 bs k 1, shifted b0 b1 b2 b3 bs k 2, shifted b0 b1 b2 b3 bs k 3) (at_plus_zero k bs (omega arith))

pub floats_at : (k : ℕ) (bs : List ℕ) → k * 4 + 4 ≤ length bs → get_or (floats_of bs) k nan ≡ float_of (get_or bs (k * 4) 0) (get_or bs (k * 4 + 1) 0) (get_or bs (k * 4 + 2) 0) (get_or bs (k * 4 + 3) 0)
floats_at k bs h = rw (add-zero (k * 4)) at (at_plus_zero k bs h)

joined : (n : ℕ) → n % 256 + n / 256 % 256 * 256 + n / 65536 % 256 * 65536 + n / 16777216 * 16777216 ≡ n
joined n = omega arith

-- what was written is read back
pub bytes_back : (x : Float) → T (fits binary32 x) → floats_of (bytes_of x) ≡ x ∷ []
unfolding floats_of bytes_of float_of
bytes_back x f = ap (λ (y : Float). y ∷ []) (ap (of_bits binary32) (joined (to_bits binary32 x)) ∙ of_bits-to_bits binary32 x f)
