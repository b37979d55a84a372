-- Refusal 11 arises in a pattern where, and only where, its type takes integrals and one of them is unsettled. Assumes nothing.
use mathlib.Core.Path.{◌≡◌, refl, sym, ◌∙◌}
use lib.Ieee.{Float}
use Rattle.std.specs.Prelude.{Option}
use Rattle.lengths.specs.Length.{leg_of, phase_of, height_turn}
use Rattle.parameters.specs.declared.kind.Kind.{Kind}
use Rattle.parameters.specs.declared.kind.Kind.TheVariants as K
use Rattle.lengths.specs.declared.length.PhaseInWaves.{PhaseInWaves}
use Rattle.lengths.specs.declared.length.LegInWaves.{LegInWaves}
use Rattle.single.specs.Answer.{IsAnswer}
use Rattle.integrals.specs.Settled.{settled_number, unsettled_number, settled_value}
use Rattle.integrals.specs.declared.settled.Settled.{Settled}
use Rattle.integrals.proofs.Refusal.{map_number, settled_answers}
use Rattle.dipoles.proofs.Refusal.{dipole_number_lem}
use Rattle.verticals.proofs.Refusal.{monopole_number_lem}
use Rattle.inverted_l.proofs.Refusal.{inverted_l_number_lem}
use Rattle.patterns.specs.Pattern.{dipole_of, monopole_for, inverted_l_of, pattern_by, pattern_of, settles_by, pattern_settles}
use Rattle.antennas.specs.declared.antenna.Antenna.{Antenna}
use Rattle.patterns.specs.declared.pattern.Pattern.{Pattern}
use Rattle.patterns.specs.declared.pattern.Pattern.TheVariants as P

module _ (antenna : Antenna) (wave : Float) where
  by_kind : (kind : Kind)
      → unsettled_number (pattern_by kind antenna wave (leg_of antenna.leg wave) (phase_of height_turn antenna.height wave))
      ≡ settled_number (settles_by kind antenna wave)
  unfolding unsettled_number dipole_of monopole_for inverted_l_of
  by_kind K.Rhombic = refl
  by_kind K.Monopole = map_number _ _ ∙ monopole_number_lem _ _
  by_kind K.Dipole = map_number _ _ ∙ dipole_number_lem _ _
  by_kind K.Yagi = map_number _ _ ∙ dipole_number_lem _ _
  by_kind K.LogPeriodic = map_number _ _ ∙ monopole_number_lem _ _
  by_kind K.Curtain = refl
  by_kind K.SlopingVee = refl
  by_kind K.InvertedL = map_number _ _ ∙ inverted_l_number_lem _ _
  by_kind K.SlopingRhombic = refl
  by_kind K.InterlacedRhombic = refl
  by_kind K.Other = refl

  pub pattern_number_lem : unsettled_number (pattern_of antenna wave) ≡ settled_number (pattern_settles antenna wave)
  unfolding pattern_of pattern_settles
  pattern_number_lem = by_kind antenna.kind

  pub pattern_answers : (r : Option (Settled Pattern)) → r ≡ pattern_of antenna wave
      → IsAnswer unsettled_number (settled_value P.Other) P.Other 11 (pattern_of antenna wave) (pattern_settles antenna wave) r
  pattern_answers = settled_answers P.Other (pattern_of antenna wave) (pattern_settles antenna wave) pattern_number_lem

  -- of a type that is known, by its leg and height in wavelengths
  pub type_answers : {k : Kind} (leg : LegInWaves) (height : PhaseInWaves) (r : Option (Settled Pattern)) → antenna.kind ≡ k
      → leg ≡ leg_of antenna.leg wave → height ≡ phase_of height_turn antenna.height wave → r ≡ pattern_by k antenna wave leg height
      → IsAnswer unsettled_number (settled_value P.Other) P.Other 11 (pattern_of antenna wave) (pattern_settles antenna wave) r
  unfolding pattern_of
  type_answers leg height r k l h e = pattern_answers r (e ∙ (λ i. pattern_by (sym k i) antenna wave (l i) (h i)))
