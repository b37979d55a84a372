-- The sizes of the buffers and counters of the calls that read in pieces. Definitions only.
use Rattle.std.specs.Prelude.{ℕ}

-- a line of more than 119 bytes is malformed whatever follows, so no more than these are held
abbrev pub most_held : ℕ
most_held = 120

-- the longest text of a call: 14 bytes of a card's first line, 18 of each of its 30 rows, 15 of the counts
abbrev pub most_text : ℕ
most_text = 569

-- from here on a place prints as seven stars
abbrev pub most_listed : ℕ
most_listed = 10000000
