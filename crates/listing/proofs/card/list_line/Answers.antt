use Rattle.std.proofs.Common.{◌+◌, ◌≤◌, sym, ap, ◌∙◌, length, arith, rules, w32}
use mir.ValLaws.{to_z-of_z}
use Rattle.refusals.specs.Refusals.{outcome_number}
use Rattle.listing.specs.declared.session.Session.{Session}
use Rattle.listing.specs.declared.writing.Writer.{Writer}
use Rattle.deck.specs.Run.{line_in}
use Rattle.listing.specs.Card.{LineListed}
use Rattle.listing.specs.Text.{heading_text}
use Rattle.listing.specs.Written.{Written}
use Rattle.listing.specs.Listing.{rows_by}
use Rattle.listing.proofs.Cards.{line_listed}
use Rattle.listing.proofs.Entries.{line_run, accepted, accepted_number, refused_number, accepted_by, refused_rows, malformed_rows}
use Rattle.listing.proofs.Buffer.{renamed}
use Rattle.listing.proofs.card.list_line.Goals as goal
use Rattle.listing.proofs.card.list_line.Goals.{After-heading, in_default-via-in-None-1, in_default-via-in-Some+else-is_ok}

pub rows-requires-clause-accepted : goal.rows-requires-clause-accepted
rows-requires-clause-accepted c =
    let run = line_run _ _ _ _ _ _ (search rules) c.run_entry-verdict.ensures.entry_done in
    let v = accepted_number _ (sym c.is_ok.ensures.value ∙ c.if-is_ok.true) in
    accepted _ _ _ _ _ _ run c.in-Some.is v

-- what a line's listing owes after the heading: its rows, if it has any
listed : (c : After-heading) (w : Writer) → let r = c.run_entry-verdict in
    let next : Session = record { deck = r.result.deck; listed = c.count-listed.result; held = 0 } in
    Written c.heading.new.self (rows_by (line_in c.read_line-card.result) r.new.table (outcome_number r.result.verdict)) w → w.at ≤ c.heading.new.self.at + 540
    → LineListed c.args.session c.args.line.now c.args.table.now r.new.table c.args.to.now w next
listed c w rows within =
    let kop = to_z-of_z w32 _ (search rules) ∙ c.card_type.ensures in
    let heading = renamed c.heading.ensures (ap (heading_text _ _) c.verdict_number-number.ensures) in
    let run = line_run _ _ _ _ _ _ (search rules) c.run_entry-verdict.ensures.entry_done in
    line_listed _ _ _ _ _ _ _ _ _ _ _ c.count-listed.ensures _ c.read_line-card.ensures kop run heading rows within

pub returns-then-is_ok : goal.returns-then-is_ok
returns-then-is_ok c =
    let v = accepted_number _ (sym c.is_ok.ensures.value ∙ c.if-is_ok.true) in
    listed (goal.at.returns-then-is_ok c).After-heading _ (accepted_by _ _ _ _ _ _ c.in-Some.is v c.rows.ensures.written) c.rows.ensures.upper_bound

pub returns-in_default : goal.returns-in_default
returns-in_default c =
    let t = c.heading.ensures.text in
    let h : c.heading.new.self.at ≤ length c.heading.new.self.out.now = omega (arith, t.end, t.fits, t.long) in
    listed (goal.at.returns-in_default c).After-heading _
    (elim c.in_default.branch [
      | in_default-via-in-None-1 w ↦ malformed_rows _ _ _ _ (search rules) h
      | in_default-via-in-Some+else-is_ok w ↦ refused_rows _ _ _ _ (refused_number _ (sym w.is_ok.ensures.value ∙ w.if-is_ok.false)) h
    ])
    (omega arith)
