use mathlib.Core.Path.{◌≡◌, sym, ◌∙◌}
use mathlib.Core.Bool.{true, false}
use lib.Ieee.{Float, round, of_bits}
use Rattle.std.specs.Prelude.{Option, Ok, Err, Some, None, Result, ok_or}
use Rattle.std.proofs.lemmas.Result.{err_from_is_err_and}
use Rattle.refusals.specs.declared.Refusal.{Refusal}
use Rattle.refusals.specs.declared.Refusal.TheVariants as R
use Rattle.refusals.specs.Refusals.{outcome_number, outcome_values}
use Rattle.integrals.specs.Settled.{settled_value, unsettled_number}
use Rattle.integrals.specs.Cisi.{in_limits, integrals_of, cisi_number, cisi_of, cisi_values, zeros}
use Rattle.integrals.specs.declared.settled.Settled.{Settled}
use Rattle.integrals.specs.declared.rational.Integrals.{Integrals}
use Rattle.integrals.proofs.Refusal.{integrals_number}
use Rattle.integrals.proofs.entry.cisi.Goals.{else-x-via-then-x+else-x-2, else-x-via-else-x}
use Rattle.integrals.proofs.entry.cisi.Goals as goal

abbrev Answers : Float → Result Integrals Refusal → Type 0
Answers x r = (r ≡ cisi_of x) × (outcome_number r ≡ cisi_number x) × (outcome_values zeros r ≡ cisi_values x)

module _ (x : Float) (w : in_limits x ≡ true) where
  settled : (o : Option (Settled Integrals)) {s : Settled Integrals} → o ≡ integrals_of x → ok_or o R.Unsettled ≡ Ok s → Answers x (Ok s.value)
  unfolding cisi_of cisi_number cisi_values settled_value unsettled_number
  settled (Some made) {s} e h =
      let i : made ≡ s = cc in
      let n = rw (← e) at (integrals_number x) in
      rw (← i) (rw (w, ← e, ← n), rw (w, ← n), rw (w, ← e))
  settled None e h = absurd (cc)

  unsettled : (o : Option (Settled Integrals)) {f : Refusal} → o ≡ integrals_of x → ok_or o R.Unsettled ≡ Err f → Answers x (Err f)
  unfolding cisi_of cisi_number cisi_values settled_value unsettled_number
  unsettled (Some made) e h = absurd (cc)
  unsettled None {f} e h =
      let i : R.Unsettled ≡ f = cc in
      let n = rw (← e) at (integrals_number x) in
      rw (← i) (rw (w, ← e, ← n), rw (w, ← n), rw (w, ← e))

outside : (x : Float) → in_limits x ≡ false → Answers x (Err R.Argument)
unfolding cisi_of cisi_number cisi_values
outside x w = (rw w, rw w, rw w)

pub returns-in_err-computed : goal.returns-in_err-computed
unfolding in_limits round of_bits
returns-in_err-computed c =
    let p = err_from_is_err_and c.from_residual.result c.from_residual.ensures.1 in
    rw (p.1, p.2) (unsettled c.args.x (rw (c.if-x.true, c.if-x-2.true)) _ c.integrals_of.ensures.0 (sym c.ok_or.ensures.value ∙ c.in_err-computed.was))

pub returns-then-x-2 : goal.returns-then-x-2
unfolding in_limits round of_bits
returns-then-x-2 c =
    settled c.args.x (rw (c.if-x.true, c.if-x-2.true)) _ c.integrals_of.ensures.0 (sym c.ok_or.ensures.value ∙ c.in_ok-computed.was)

pub returns : goal.returns
unfolding in_limits round of_bits
returns c = elim c.else-x.branch [
  | else-x-via-then-x+else-x-2 w ↦ outside c.args.x (rw (w.if-x.true, w.if-x-2.false))
  | else-x-via-else-x w ↦ outside c.args.x (rw w.if-x.false)
]
