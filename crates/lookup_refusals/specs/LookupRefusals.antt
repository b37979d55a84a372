-- Document 01 section 9: the refusals of `gain_lookup` and of a card's lookup. Definitions only.
use Rattle.std.specs.Prelude.{ℕ, Bool, not, ◌&&◌, List, [], ◌∷◌, eqb, ℤ, Float}
use Rattle.limits.specs.Refusals.{Test, refuse, first_refusal}
use Rattle.limits.specs.Tests.{any_outside, numbers_test, mhz_test}
use Rattle.table.specs.Range.{is_range}
use Rattle.table.specs.Table.{length_test}

-- 7, then 2 of the MHz and the elevation looked up
abbrev pub lookup_tests : List Float → Float → Float → List Test
lookup_tests t fmc delta = length_test t ∷ numbers_test (any_outside (fmc ∷ delta ∷ [])) ∷ []

unfoldable pub lookup_refusal : List Float → Float → Float → ℕ
lookup_refusal t fmc delta = first_refusal (lookup_tests t fmc delta)

-- of a table of which the caller says whether its length is right
unfoldable pub refusal_by_length : Bool → Float → Float → ℕ
refusal_by_length is_long fmc delta = first_refusal (refuse 7 (not is_long) ∷ numbers_test (any_outside (fmc ∷ delta ∷ [])) ∷ [])

-- then 4, of an accepted card
abbrev pub card_tests : ℤ → ℤ → ℕ → List Float → Float → Float → List Test
card_tests first last verdict t fmc delta =
    length_test t ∷ numbers_test (any_outside (fmc ∷ delta ∷ [])) ∷ mhz_test (eqb verdict 0 && not (is_range first last)) ∷ []

unfoldable pub card_refusal : ℤ → ℤ → ℕ → List Float → Float → Float → ℕ
card_refusal first last verdict t fmc delta = first_refusal (card_tests first last verdict t fmc delta)
