-- Document 01 section 6 and "Order": the gain call with its refusals, and what its answer means. Definitions only.
use Rattle.std.specs.Prelude.{ℕ, Bool, not, ◌&&◌, ◌||◌, cond, List, [], ◌∷◌, eqb, Float, Option, Some, None, Result, Ok, Err}
use Rattle.std.specs.Float.Ieee.{le}
use Rattle.single.specs.Single.{num}
use Rattle.elementary.specs.Trigonometric.{sine, cosine}
use Rattle.angles.specs.Angles.{elevation_of}
use Rattle.limits.specs.Refusals.{Test, first_refusal}
use Rattle.limits.specs.Tests.{any_outside, height_test, input_tests}
use Rattle.parameters.specs.Kind.{kind_of}
use Rattle.antennas.specs.Antenna.{antenna_of}
use Rattle.gain_core.specs.Core.{work_of, refused_at}
use Rattle.gain_core.specs.declared.calls.Answer.{Answer}
use Rattle.integrals.specs.Settled.{unsettled_number, settled_value}
use Rattle.integrals.specs.declared.settled.Settled.{Settled}
use Rattle.refusals.specs.Refusals.{refusal_of, outcome_number}
use Rattle.refusals.specs.declared.Refusal.{Refusal}
use Rattle.refusals.specs.declared.Refusal.TheVariants as R
use Rattle.ioncap.specs.declared.gain.GainCall.{GainCall}

-- refusal 2: the azimuth, the nine parameter fields, the elevation and the MHz
unfoldable pub call_outside : GainCall → Bool
call_outside call =
    let p = call.params in
    any_outside (call.toaz ∷ p.asig ∷ p.aeps ∷ p.and ∷ p.anl ∷ p.anh ∷ call.delta ∷ call.fmc ∷ []) || any_outside p.aex

-- refusal 4: MHz outside 1 to 30
unfoldable pub mhz_outside : Float → Bool
mhz_outside fmc = not (le (num 1 1) fmc && le fmc (num 30 1))

-- 9, then 1 to 5
abbrev pub call_tests : GainCall → Float → List Test
call_tests call height =
    height_test height ∷ input_tests call.kop (call_outside call) call.params.asig (mhz_outside call.fmc) call.params.and

unfoldable pub call_refusal : GainCall → Float → ℕ
unfolding first_refusal
call_refusal call height = first_refusal (call_tests call height)

-- the work on a call within the limits
unfoldable pub call_work : GainCall → Float → Option (Settled Answer)
call_work call height =
    work_of (antenna_of (kind_of call.kop) call.toaz call.params call.model) call.fmc call.delta
    (elevation_of (cosine call.delta) (sine call.delta)) height

-- 11 arises in the work
abbrev pub answered : Option (Settled Answer) → Result Answer Refusal
answered (Some work) = Ok work.value
answered None = Err R.Unsettled

unfoldable pub gain_of : GainCall → Float → Result Answer Refusal
gain_of call height =
    let refusal = call_refusal call height in
    cond (eqb refusal 0) (answered (call_work call height)) (Err (refusal_of refusal))

-- document 01's number, gain, efficiency and height left of an answer
unfoldable pub gain_number : Result Answer Refusal → ℕ
gain_number answer = outcome_number answer

unfoldable pub gain_value : Result Answer Refusal → Float
gain_value (Ok answer) = answer.gain
gain_value (Err refusal) = num 0 1

unfoldable pub efficiency_value : Result Answer Refusal → Float
efficiency_value (Ok answer) = answer.efficiency
efficiency_value (Err refusal) = num 0 1

unfoldable pub height_left : {E : Type 0} → Result Answer E → Float → Float
height_left (Ok answer) height = answer.height
height_left (Err refusal) height = height

-- what the work leaves of a call within the limits
abbrev pub call_values : GainCall → Float → Answer
call_values call height = settled_value (refused_at height) (call_work call height)

-- what a call answers by these: the first refusal, else the work's own; a refused call answers zeros and keeps the height
unfoldable pub call_number : GainCall → Float → ℕ
call_number call height =
    let refusal = call_refusal call height in cond (eqb refusal 0) (unsettled_number (call_work call height)) refusal

unfoldable pub call_gain : GainCall → Float → Float
call_gain call height = cond (eqb (call_refusal call height) 0) (call_values call height).gain (num 0 1)

unfoldable pub call_efficiency : GainCall → Float → Float
call_efficiency call height = cond (eqb (call_refusal call height) 0) (call_values call height).efficiency (num 0 1)

unfoldable pub call_height : GainCall → Float → Float
call_height call height = cond (eqb (call_refusal call height) 0) (call_values call height).height height
