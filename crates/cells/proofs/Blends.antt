-- The types that blend with the zenith are 3 and 4. Assumes nothing.
use mathlib.Core.Path.{◌≡◌, refl}
use mathlib.Core.Bool.{◌||◌}
use Rattle.parameters.specs.Kind.{is_kind}
use Rattle.parameters.specs.declared.kind.Kind.{Kind}
use Rattle.parameters.specs.declared.kind.Kind.TheVariants as K
use Rattle.cells.specs.Cell.{blends_with_zenith}

pub blends_kind : (kind : Kind) → blends_with_zenith kind ≡ (is_kind kind 3 || is_kind kind 4)
unfolding blends_with_zenith
blends_kind K.Rhombic = refl
blends_kind K.Monopole = refl
blends_kind K.Dipole = refl
blends_kind K.Yagi = refl
blends_kind K.LogPeriodic = refl
blends_kind K.Curtain = refl
blends_kind K.SlopingVee = refl
blends_kind K.InvertedL = refl
blends_kind K.SlopingRhombic = refl
blends_kind K.InterlacedRhombic = refl
blends_kind K.Other = refl
