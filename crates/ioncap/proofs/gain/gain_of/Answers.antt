use mathlib.Core.Path.{◌≡◌, sym, ap, ◌∙◌}
use mir.Syntax.{w32}
use mir.ValLaws.{to_z-of_z}
use Rattle.parameters.specs.Kind.{kind_of}
use Rattle.parameters.specs.declared.kind.Kind.{Kind}
use Rattle.antennas.specs.Antenna.{antenna_of}
use Rattle.ioncap.specs.Gain.{call_work}
use borrow.Author.Rules.{rules}
use Rattle.std.proofs.lemmas.Result.{err_from_is_err_and}
use Rattle.ioncap.proofs.Answers.{refused_answers, worked_answers, worked_err, worked_ok}
use Rattle.ioncap.proofs.gain.gain_of.Goals as goal
use Rattle.ioncap.proofs.gain.gain_of.Goals.{After-work}

worked : (c : After-work) → let s = c.args in call_work s.call s.height ≡ c.work.result
unfolding call_work
worked c = let call = c.args.call in
    let kind : c.from.result ≡ kind_of call.kop = c.from.ensures ∙ ap kind_of (to_z-of_z w32 call.kop (search rules)) in
    let antenna : c.antenna_of-antenna.result ≡ antenna_of (kind_of call.kop) call.toaz call.params call.model =
    c.antenna_of-antenna.ensures ∙ ap (λ (k : Kind). antenna_of k call.toaz call.params call.model) kind in
    rw (← antenna, ← c.sin_cos-sine.ensures.0, ← c.sin_cos-sine.ensures.1, ← c.elevation_of-e.ensures, ← c.work.ensures.0)

pub returns-in_err-call_refusal : goal.returns-in_err-call_refusal
returns-in_err-call_refusal c =
    let p = err_from_is_err_and c.from_residual.result c.from_residual.ensures.1 in
    refused_answers c.args.call c.args.height c.call_refusal.ensures _ c.in_err-call_refusal.was (rw (p.1, p.2))

pub returns-in_err-worked : goal.returns-in_err-worked
returns-in_err-worked c =
    let p = err_from_is_err_and c.from_residual-in_err-worked.result c.from_residual-in_err-worked.ensures.1 in
    worked_answers c.args.call c.args.height c.call_refusal.ensures _ c.in_ok-call_refusal.was
    (rw (p.1, p.2, worked (goal.at.returns-in_err-worked c).After-work) (worked_err c.work.result (sym c.ok_or.ensures.value ∙ c.in_err-worked.was)))

pub returns : goal.returns
returns c =
    worked_answers c.args.call c.args.height c.call_refusal.ensures _ c.in_ok-call_refusal.was
    (rw (worked (goal.at.returns c).After-work) (worked_ok c.work.result (sym c.ok_or.ensures.value ∙ c.in_ok-worked.was)))
