-- The calls that read in pieces keep their contracts. Assumes nothing.
use mathlib.Core.Path.{◌≡◌, refl, sym, ap, subst, ◌∙◌}
use mathlib.Core.List.{List, [], ◌∷◌, ◌++◌}
use mathlib.Core.Bool.{false}
use Prim.Native.Nat.{ℕ, min, ◌+◌, ◌-◌, ◌≤◌}
use native.Mathlib.Omega.{arith}
use lib.Ieee.{Float}
use lib.ListN.{length, take, drop, length-drop, take-append-drop}
use lib.Seq.{length-take-le}
use Rattle.listing.specs.declared.session.Session as S
use Rattle.listing.specs.declared.session.Stepped as D
use Rattle.listing.specs.declared.gathering.Gatherer.{Gatherer}
use Rattle.std.proofs.Common.{Option, Some, None}
use Rattle.std.specs.Option.{is_some}
use Rattle.listing.specs.declared.writing.Writer.{Writer}
use Rattle.listing.specs.Appended.{Appended, overwritten}
use Rattle.listing.specs.Written.{Written}
use Rattle.listing.specs.Text.{counts_text}
use Rattle.listing.specs.Session.{State, state_in, Gathered, gathered, line_text, after_line, step_by, step_of, last_text, end_by, counts}
use Rattle.listing.specs.Session.{finish_text, finish_table, is_ready}
use Rattle.listing.specs.Gathering.{used_of, held_of, GatherDone}
use Rattle.listing.specs.Card.{LineListed}
use Rattle.listing.specs.Ready.{Ready}
use Rattle.listing.specs.Steps.{StepDone, FinishDone, stepped_of, step_in, held_after}
use Rattle.listing.proofs.Buffer.{unchanged, nothing, after, renamed}
use Rattle.listing.proofs.Pieces.{held_all}
use Rattle.listing.proofs.Progress.{parts_by}
use Rattle.listing.proofs.Ready.{ready_from}

module _ (s : S.Session) (line : List ℕ) (table : List Float) (out : List ℕ) (at : ℕ) where
  -- the parts of a step's answer are all of it
  answer_is : (piece line' : List ℕ) (table' : List Float) (r : D.Stepped) → let step = step_in s line piece table out at in
      state_in r.session line' table' ≡ step.state → r.session.held ≡ held_after s line piece table out at
      → drop r.used piece ≡ step.rest → r.used ≤ length piece → r.at ≡ at + length step.text → r ≡ stepped_of s line piece table out at
  answer_is piece line' table' r i h d w n =
      let step = step_in s line piece table out at in
      let used : r.used ≡ length piece - length step.rest = omega (arith, sym (length-drop r.used piece) ∙ ap length d) in
      rw (← ap (λ (t : State). t.deck) i, ← ap (λ (t : State). t.listed) i, ← h, ← used, ← n)

  pub step_idle : (piece : List ℕ) → is_ready line table out at ≡ false
      → StepDone s line piece table out at line table out (record { session = s; used = 0; at = at })
  unfolding step_of
  step_idle piece n =
      let end : at ≡ at + 0 = omega arith in
      let r : D.Stepped = record { session = s; used = 0; at = at } in
      record {
        answer = answer_is piece line table r (rw n refl) (rw n refl) (rw n refl) (omega arith) (rw n end);
        state = rw n refl;
        held = rw n refl;
        buffer = rw n (unchanged line 0);
        rest = rw n refl;
        within = omega arith;
        text = rw n (unchanged out at);
        end = rw n end;
        fits = λ h. h;
      }

  module _ (piece : List ℕ) (g g' : Gatherer) (stop : Option ℕ) (e : Ready line table out at) (b : g.line.now ≡ line) (p : g.held ≡ min s.held 120)
      (x : GatherDone g piece g' stop) where
    abbrev line' : List ℕ
    line' = g'.line.now

    abbrev found : Gathered
    found = record { whole = is_some stop; held = held_of g'; rest = drop (used_of piece stop) piece }

    gathered_is : gathered (take s.held line) piece ≡ found
    gathered_is = ap (λ (q : List ℕ). gathered q piece) (sym ((λ i. take (p i) (b i)) ∙ held_all s.held line e.line_length)) ∙ x.result

    held_length : length (held_of g') ≡ g'.held
    held_length = length-take-le g'.held line' (omega (arith, x.held_within.1, x.held_within.0))

    buffer_is : line' ≡ overwritten line 0 (held_of g')
    unfolding overwritten
    buffer_is =
        let z : g'.held ≡ 0 + length (held_of g') = omega (arith, held_length) in
        sym (take-append-drop g'.held line')
        ∙ ap (λ (q : List ℕ). held_of g' ++ q) (x.kept ∙ ap (drop g'.held) b ∙ ap (λ (k : ℕ). drop k line) z)

    -- the step by what was gathered: its state, what it holds, and its text
    step_by_lem : (table' : List Float) (out' : List ℕ) (c : S.Session) (r : ℕ) → let t = step_by (state_in s line table) found in
        state_in c line' table' ≡ t.state → c.held ≡ length t.state.held → Appended out at t.text out' r
        → StepDone s line piece table out at line' table' out' (record { session = c; used = used_of piece stop; at = r })
    unfolding step_of
    step_by_lem table' out' c end i h y =
        let r = ready_from line table out at e in
        let d = gathered_is in
        let k = parts_by (state_in s line table) found in
        let r' : D.Stepped = record { session = c; used = used_of piece stop; at = end } in
        record {
          answer = answer_is piece line' table' r' (rw (r, d) i) (rw (r, d) h) (rw (r, d) (sym k.1)) x.within (rw (r, d) y.end);
          state = rw (r, d) i;
          held = rw (r, d) h;
          buffer = rw (r, d) (buffer_is ∙ ap (overwritten line 0) (sym k.0));
          rest = rw (r, d) (sym k.1);
          within = x.within;
          text = rw (r, d) y.is;
          end = rw (r, d) y.end;
          fits = λ l. omega (arith, y.end, y.fits);
        }

    pub step_part : (line'' : List ℕ) → stop ≡ None → line'' ≡ line'
        → StepDone s line piece table out at line'' table out
        (record { session = record { deck = s.deck; listed = s.listed; held = g'.held }; used = length piece; at = at })
    step_part line'' q l =
        let c : S.Session = record { deck = s.deck; listed = s.listed; held = g'.held } in
        rw l
        (subst (λ (u : ℕ). StepDone s line piece table out at line' table out (record { session = c; used = u; at = at })) (ap (used_of piece) q)
        (step_by_lem table out c at (rw q refl) (rw q (sym held_length)) (rw q (nothing out at (omega (arith, e.room))))))

    pub step_whole : (line'' : List ℕ) (table' : List Float) (out' : List ℕ) (w w' : Writer) (c : S.Session) (used : ℕ)
        → stop ≡ Some used → w.out.now ≡ out → w.at ≡ at → LineListed s (take g'.held line'') table table' w w' c
        → line'' ≡ line' → out' ≡ w'.out.now
        → StepDone s line piece table out at line'' table' out' (record { session = c; used = used; at = w'.at })
    unfolding after_line line_text
    step_whole line'' table' out' w w' c used q o f y l d =
        let y' : LineListed s (held_of g') table table' w w' c = (rw l at y) in
        let z : Appended out at (line_text (state_in s line table) (held_of g')) w'.out.now w'.at = (rw (o, f) at (y'.text line).text) in
        rw (l, d)
        (subst (λ (u : ℕ). StepDone s line piece table out at line' table' w'.out.now (record { session = c; used = u; at = w'.at })) (ap (used_of piece) q)
        (step_by_lem table' w'.out.now c w'.at (rw q (y'.state line')) (rw q y'.held) (rw q z)))

  -- ---- the end of the input
  pub finish_idle : is_ready line table out at ≡ false → FinishDone s line table out at table out at
  unfolding finish_text finish_table
  finish_idle n =
      let end : at ≡ at + 0 = omega arith in
      record { table_left = rw n refl; text = rw n (unchanged out at); end = rw n end; fits = λ h. h }

  module _ (e : Ready line table out at) where
    -- q: what is held of a line
    ended : (q : List ℕ) (table' : List Float) (out' : List ℕ) (r : ℕ) → take s.held line ≡ q → let t = end_by (state_in s line table) q in
        table' ≡ t.table → Appended out at (last_text (state_in s line table) q ++ counts t.deck) out' r → FinishDone s line table out at table' out' r
    unfolding finish_text finish_table
    ended q table' out' r h t x =
        let n = ready_from line table out at e in
        record {
          table_left = rw (n, h) (rw h at t);
          text = rw (n, h) (rw h at x.is);
          end = rw (n, h) (rw h at x.end);
          fits = λ k. omega (arith, x.end, x.fits);
        }

    -- what the code takes as held
    held_is : (held : ℕ) → held ≡ min s.held 120 → take held line ≡ take s.held line
    held_is held p = ap (λ (k : ℕ). take k line) p ∙ held_all s.held line e.line_length

    pub finish_empty : (out' : List ℕ) (w w' : Writer) (held : ℕ) → held ≡ min s.held 120 → held ≡ 0 → w.out.now ≡ out → w.at ≡ at
        → Written w (counts_text s.deck.accepted s.deck.refused) w' → out' ≡ w'.out.now → FinishDone s line table out at table out' w'.at
    finish_empty out' w w' held p z o f x d =
        let y : Appended out at (counts_text s.deck.accepted s.deck.refused) w'.out.now w'.at = (rw (o, f) at x.text) in
        rw d (ended [] table w'.out.now w'.at (sym (held_is held p) ∙ ap (λ (k : ℕ). take k line) z) refl y)

    module _ (table' : List Float) (w w' w'' : Writer) (c : S.Session) (o : w.out.now ≡ out) (f : w.at ≡ at)
        (x : Written w' (counts_text c.deck.accepted c.deck.refused) w'') where
      some_held : (q : List ℕ) → (length q ≡ 0 → ⊥) → take s.held line ≡ q → LineListed s q table table' w w' c
          → FinishDone s line table out at table' w''.out.now w''.at
      unfolding after_line line_text
      some_held [] n h y = absurd (n refl)
      some_held (a ∷ q) n h y =
          let state = y.state line in
          let text = ap (λ (z : State). line_text (state_in s line table) (a ∷ q) ++ counts z.deck) state in
          ended (a ∷ q) table' w''.out.now w''.at h (ap (λ (z : State). z.table) state) (rw (o, f) at (renamed (after (y.text line) x) text).text)

      pub finish_held : (out' : List ℕ) (held : ℕ) → held ≡ min s.held 120 → (held ≡ 0 → ⊥)
          → LineListed s (take held line) table table' w w' c → out' ≡ w''.out.now → FinishDone s line table out at table' out' w''.at
      finish_held out' held p n y d =
          let m : length (take held line) ≡ held = length-take-le held line (omega (arith, p, e.line_length)) in
          rw d (some_held (take held line) (λ (z : length (take held line) ≡ 0). n (sym m ∙ z)) (sym (held_is held p)) y)
