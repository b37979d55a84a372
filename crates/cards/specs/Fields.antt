-- Document 01, "From the input", of a card: the refusals of its plain fields. Definitions only.
use Rattle.std.specs.Prelude.{ℕ, Bool, not, ◌&&◌, ◌||◌, [], ◌∷◌, eqb, ℤ, pos, negsuc, length}
use Rattle.std.specs.Int.Signed.{le_z}
use Rattle.parameters.specs.Params.{ioninit_of}
use Rattle.parameters.specs.declared.params.IoncapParams.{IoncapParams}
use Rattle.limits.specs.Tests.{any_outside, input_refusal}
use Rattle.table.specs.Range.{is_range}
use Rattle.cards.specs.declared.fields.Fields.{Fields}

-- a whole number over 1,000 in magnitude
unfoldable pub whole_outside : ℤ → Bool
whole_outside n = not (le_z (negsuc 999) n && le_z n (pos 1000))

-- refusal 2: the off-azimuth, the 20 slots, the first and the last MHz. A list of another length is no card's
unfoldable pub fields_outside : Fields → Bool
fields_outside f =
    not (eqb (length f.slots) 20) || (any_outside (f.toaz ∷ []) || (any_outside f.slots || (whole_outside f.first || whole_outside f.last)))

abbrev pub params_for : Fields → IoncapParams
params_for f = ioninit_of f.kop f.slots

-- refusals 1 to 5: 4 is of the first and last MHz, 5 of the angle slot
unfoldable pub fields_refusal : Fields → ℕ
fields_refusal f =
    input_refusal f.kop (fields_outside f) (params_for f).asig (not (is_range f.first f.last)) (params_for f).and
