-- Document 01 section 8: what a card or a gain call says of its antenna. Definitions only.
use Rattle.std.specs.Prelude.{Float}
use Rattle.lengths.specs.Length.{length_of, height_slot_of}
use Rattle.lengths.specs.declared.length.Length.{Length}
use Rattle.parameters.specs.declared.kind.Kind.{Kind}
use Rattle.parameters.specs.declared.model.Model.{Model}
use Rattle.parameters.specs.declared.params.IoncapParams.{IoncapParams}
use Rattle.angles.specs.Angles.{azimuth_of}
use Rattle.antennas.specs.declared.antenna.Antenna.{Antenna}

-- from the leg and the height as they are read
abbrev pub antenna_with : Kind → Float → IoncapParams → Length → Length → Model → Antenna
antenna_with kind toaz params leg height model =
    record { kind = kind; params = params; leg = leg; height = height; azimuth = azimuth_of toaz; model = model }

-- leg and height are read by kind
unfoldable pub antenna_of : Kind → Float → IoncapParams → Model → Antenna
antenna_of kind toaz params model = antenna_with kind toaz params (length_of params.anl) (height_slot_of kind params.anh) model
