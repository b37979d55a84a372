-- Document 01 section 9: the gain call through C. Definitions only.
use Rattle.std.specs.Prelude.{ℕ, not, cond, List, [], ◌∷◌, eqb, ℤ, length, Float}
use Rattle.parameters.specs.Model.{model_of}
use Rattle.limits.specs.Refusals.{Test, refuse, first_refusal}
use Rattle.limits.specs.Tests.{height_test, input_tests}
use Rattle.ioncap.specs.Gain.{call_outside, mhz_outside, gain_of, gain_number, gain_value, efficiency_value, height_left}
use Rattle.ioncap.specs.declared.gain.GainCall.{GainCall}
use Rattle.capi.specs.Answer.{answer_length, answer_bytes, answered}

-- the nine parameters are in `IoncapParams`' order
abbrev pub call_of : ℤ → Float → Float → Float → Float → Float → Float → Float → Float → Float → Float → Float
    → Float → ℤ → GainCall
call_of kop toaz asig aeps and anl anh aex1 aex2 aex3 aex4 delta fmc model =
    record {
      kop = kop;
      toaz = toaz;
      params = record { asig = asig; aeps = aeps; and = and; anl = anl; anh = anh; aex = aex1 ∷ aex2 ∷ aex3 ∷ aex4 ∷ [] };
      delta = delta;
      fmc = fmc;
      model = model_of model;
    }

-- refusal 7
abbrev pub answer_test : List ℕ → Test
answer_test answer = refuse 7 (not (eqb (length answer) answer_length))

-- 9, 7, then 1 to 5
abbrev pub gain_tests : GainCall → Float → List ℕ → List Test
gain_tests call height answer =
    height_test height ∷ answer_test answer ∷ input_tests call.kop (call_outside call) call.params.asig (mhz_outside call.fmc) call.params.and

-- the first test that holds, else the work's number: 0, or 11
unfoldable pub gain_result : GainCall → Float → List ℕ → ℕ
unfolding first_refusal
gain_result call height answer =
    let refusal = first_refusal (gain_tests call height answer) in
    cond (eqb refusal 0) (gain_number (gain_of call height)) refusal

unfoldable pub gain_answer : GainCall → Float → List ℕ → List ℕ
gain_answer call height answer =
    let gain = gain_of call height in
    answered answer (answer_bytes (gain_value gain) (efficiency_value gain) (height_left gain height))
