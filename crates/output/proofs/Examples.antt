-- Worked examples, computed: -5565 of document 01's listing; roundings where another rule shows. Its `i(12345, 4)` is in marked_examples.
use Rattle.std.proofs.Common.{◌≡◌, [], ◌∷◌, pos, negsuc, refl}
use lib.Ieee.{binary32, of_bits}
use Rattle.output.specs.declared.rounding.Hundredths.TheVariants.{Whole}
use Rattle.output.specs.Field.{spelled, decimal, text, justified, integer_field}
use Rattle.output.specs.Hundredths.{hundredths_of, printed, hundredths_field}

-- -55.646202: `  -5565`
pub ground : hundredths_field (of_bits binary32 0xc25e95b6) 7 ≡ 32 ∷ 32 ∷ 45 ∷ 53 ∷ 53 ∷ 54 ∷ 53 ∷ []
unfolding hundredths_field printed hundredths_of integer_field justified text decimal spelled of_bits
ground = refl

-- the f32 nearest to 0.005 is below it; 100 times it in f32 would be 0.5
pub below_half : hundredths_of (of_bits binary32 0x3ba3d70a) ≡ Whole (pos 0)
unfolding hundredths_of of_bits
below_half = refl

-- 0.125 and -0.125: halves go away from zero
pub half : hundredths_of (of_bits binary32 0x3e000000) ≡ Whole (pos 13)
unfolding hundredths_of of_bits
half = refl

pub minus_half : hundredths_of (of_bits binary32 0xbe000000) ≡ Whole (negsuc 12)
unfolding hundredths_of of_bits
minus_half = refl
