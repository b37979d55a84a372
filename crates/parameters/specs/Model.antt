-- Document 01 section 9: the model by its number; section 4: the curtain's threshold by model. Definitions only.
use Rattle.std.specs.Prelude.{cond, eqb, ℤ, pos, negsuc, Float}
use Rattle.single.specs.Single.{num}
use Rattle.parameters.specs.declared.model.Model.{Model}
use Rattle.parameters.specs.declared.model.Model.TheVariants.{Compatible, Corrected, Measuring}

-- 0 is `Compatible`, any other number `Corrected`
unfoldable pub model_of : ℤ → Model
model_of (pos k) = cond (eqb k 0) Compatible Corrected
model_of (negsuc k) = Corrected

-- one radian, or the 0.0001 that was meant
abbrev pub as_written : Float
as_written = num 1 1

abbrev pub as_meant : Float
as_meant = num 1 10000

unfoldable pub curtain_elevation_threshold : Model → Float
curtain_elevation_threshold Compatible = as_written
curtain_elevation_threshold Corrected = as_meant
curtain_elevation_threshold (Measuring fixes) = cond fixes.curtain_elevation as_meant as_written
