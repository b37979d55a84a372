-- Document 01 section 8: a card as it is read, and what the gain call takes from it. Definitions only.
use Rattle.parameters.specs.Kind.{kind_of}
use Rattle.lengths.specs.Length.{length_of, height_slot_of}
use Rattle.antennas.specs.Antenna.{antenna_with}
use Rattle.antennas.specs.declared.antenna.Antenna.{Antenna}
use Rattle.cards.specs.declared.fields.Fields.{Fields}
use Rattle.cards.specs.declared.card.Card.{Card}
use Rattle.cards.specs.Fields.{params_for}

-- leg and height are each "metres or wavelengths, said by a kind", once `ioninit` has read the slots
unfoldable pub card_of : Fields → Card
card_of f =
    record {
      kop = f.kop;
      kind = kind_of f.kop;
      first = f.first;
      last = f.last;
      toaz = f.toaz;
      params = params_for f;
      leg = length_of (params_for f).anl;
      height = height_slot_of (kind_of f.kop) (params_for f).anh;
      model = f.model;
    }

-- what the gain call takes from a card
unfoldable pub antenna_for : Card → Antenna
antenna_for c = antenna_with c.kind c.toaz c.params c.leg c.height c.model
