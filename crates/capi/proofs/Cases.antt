-- What an answer of the wrong length gets. Assumes nothing.
use Prim.Native.Nat.{ℕ}
use mathlib.Core.Path.{◌≡◌}
use mathlib.Core.Bool.{Bool, true, false}
use mathlib.Core.Logic.{◌≢◌}
use mathlib.Core.List.{List}
use borrow.Author.Tests.{ne_eqb}
use lib.ListN.{length}
use lib.Ieee.{Float}
use lib.Ieee.Scale.{finite}
use Rattle.limits.specs.Refusals.{first_refusal}
use Rattle.limits.specs.Tests.{length_refusal}
use Rattle.ioncap.specs.declared.gain.GainCall.{GainCall}
use Rattle.capi.specs.Answer.{answer_length, answered, numbered}
use Rattle.capi.specs.Gain.{gain_result}

-- whatever the number and the bytes would be
pub unwritten : (answer : List ℕ) → length answer ≢ answer_length → (n : ℕ) (bytes : List ℕ)
    → (◌≡◌ {A = ℕ} 7 (numbered answer n)) × (answer ≡ answered answer bytes)
unfolding numbered answered
unwritten answer h n bytes = (rw (ne_eqb _ _ h), rw (ne_eqb _ _ h))

module _ (call : GainCall) (height : Float) (answer : List ℕ) where
  -- 9, else 7
  pub length_refused : length answer ≢ answer_length → (b : Bool) → finite height ≡ b → length_refusal height ≡ gain_result call height answer
  unfolding length_refusal gain_result first_refusal
  length_refused h true e = rw (e, ne_eqb _ _ h)
  length_refused h false e = rw e
