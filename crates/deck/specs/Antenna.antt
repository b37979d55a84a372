-- The antenna over which demand 3 is stated: cards are the plain fields, a cell's call is the gain call's core. Definitions only.
use Rattle.std.specs.Prelude.{pos, nat_abs}
use Rattle.single.specs.Single.{num, whole}
use Rattle.parameters.specs.Kind.{kind_of}
use Rattle.lengths.specs.Length.{phase_of, monopole_turn}
use Rattle.angles.specs.Angles.{wave_of}
use Rattle.finish.specs.Finish.{efficiency_of}
use Rattle.independence.specs.Antenna.{Antenna}
use Rattle.cards.specs.declared.fields.Fields.{Fields}
use Rattle.cards.specs.Fields.{fields_refusal}
use Rattle.cards.specs.Card.{card_of}
use Rattle.deck.specs.Call.{call_of}

-- Refusals 1 and 4 leave no negative type or MHz. Type 8's own efficiency is 0 on the ground. The height of types 2 and 5 is their leg
abbrev pub the_antenna : Antenna
the_antenna =
    record {
      Card = Fields;
      type_of = λ f. nat_abs f.kop;
      first = λ f. nat_abs f.first;
      last = λ f. nat_abs f.last;
      input_refusal = fields_refusal;
      call = λ f. call_of (card_of f);
      efficiency_of = λ kop h. efficiency_of (kind_of (pos kop)) h (num 0 1);
      wavelengths = λ f m. (phase_of monopole_turn (card_of f).leg (wave_of (whole m))).waves;
    }
