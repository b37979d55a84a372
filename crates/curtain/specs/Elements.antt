-- Document 01 section 4, curtain: the ten cosines and sines, and the sums over the elements. Definitions only.
use Rattle.std.specs.Prelude.{ℕ, zero, suc, min, List, [], ◌∷◌, get_or, set, Float}
use Rattle.std.specs.Float.{nan}
use Rattle.std.specs.Float.Ieee.{neg}
use Rattle.single.specs.Single.{◌⊞◌, ◌⊟◌, ◌⊠◌, num, whole}
use Rattle.root.specs.Root.{root}
use Rattle.elementary.specs.Trigonometric.{sine, cosine}
use Rattle.angles.specs.Angles.{pi}
use Rattle.curtain.specs.declared.elements.Waves.{Waves}
use Rattle.curtain.specs.declared.elements.Sums.{Sums}

-- (m as usize).min(10)
abbrev pub at_most_ten : ℕ → ℕ
at_most_ten m = min m 10

-- 2.0 * PI * q * (h1 + fm * dz)
abbrev pub arg_of : Float → Float → Float → ℕ → Float
arg_of q h1 dz j = num 2 1 ⊠ pi ⊠ q ⊠ (h1 ⊞ whole j ⊠ dz)

abbrev pub ten_zeros : List Float
ten_zeros = let o = num 0 1 in o ∷ o ∷ o ∷ o ∷ o ∷ o ∷ o ∷ o ∷ o ∷ o ∷ []

-- ten zeros, the first n replaced by f's values
unfoldable pub filled : (ℕ → Float) → ℕ → List Float
filled f zero = ten_zeros
filled f (suc n) = set (filled f n) n (f n)

-- CA and SA, of m elements
unfoldable pub waves_of : ℕ → Float → Float → Float → Waves
waves_of m q h1 dz = record { ca = filled (λ j. cosine (arg_of q h1 dz j)) m; sa = filled (λ j. sine (arg_of q h1 dz j)) m }

-- what an element of cosine a and sine b adds
unfoldable pub plus : Sums → Float → Float → Float → Float → Sums
plus s a b c p = record { real = s.real ⊞ (a ⊠ (num 1 1 ⊞ c) ⊞ p ⊠ b); imag = s.imag ⊞ (b ⊠ (num 1 1 ⊟ c) ⊞ p ⊠ a) }

-- hreal and himg, vreal and vimg
unfoldable pub sums_from : ℕ → List Float → List Float → Float → Float → Sums
sums_from zero ca sa c p = record { real = num 0 1; imag = num 0 1 }
sums_from (suc j) ca sa c p = plus (sums_from j ca sa c p) (get_or ca j nan) (get_or sa j nan) c p

abbrev pub sums_of : ℕ → Waves → Float → Float → Sums
sums_of m waves c p = sums_from m waves.ca waves.sa c p

unfoldable pub magnitude_of : Sums → Float
magnitude_of s = root (s.real ⊠ s.real ⊞ s.imag ⊠ s.imag)

-- eh and ev: fac6 * cb and fac6 * sv stand before the root
unfoldable pub field_of : Float → ℕ → Waves → Float → Float → Float
field_of before m waves c psi = before ⊠ magnitude_of (sums_of m waves (neg c ⊠ cosine psi) (neg c ⊠ sine psi))
