-- A line is gathered from pieces: the buffer, and the loop over a piece. Assumes nothing.
use mathlib.Core.Path.{◌≡◌, refl, sym, ap, ◌∙◌}
use mathlib.Core.List.{List, [], ◌∷◌}
use Prim.Native.Nat.{ℕ, suc, min, ◌+◌, ◌-◌, ◌≤◌, ◌<◌}
use native.Mathlib.Omega.{arith}
use native.Mathlib.Numerals.{add-one}
use borrow.Author.Tests.{eq-eqb, ne_eqb, lt-ltb, le-ltb}
use lib.ListN.{length, take, drop, set, get_or, length-set}
use lib.Seq.{drop-cons, drop-drop, drop-length, length-take-le, take-suc-set, drop-set-lt}
use Rattle.std.proofs.Common.{Some, None}
use Rattle.std.proofs.lemmas.List.{take_min}
use Rattle.listing.specs.Session.{grown, gathered}
use Rattle.listing.specs.declared.gathering.Gatherer.{Gatherer}
use Rattle.listing.specs.Gathering.{held_of, IsWithin, Pushed, GatherDone}

-- the buffer has no more than 120 bytes
pub held_all : (n : ℕ) (line : List ℕ) → length line ≡ 120 → take (min n 120) line ≡ take n line
held_all n line h = ap (λ (k : ℕ). take (min n k) line) (sym h) ∙ take_min n line

-- ---- one byte into the buffer
abbrev Grows : List ℕ → List ℕ → ℕ → ℕ → ℕ → Type 0
Grows line line' held r b =
    (take r line' ≡ grown (take held line) b) × ((length line' ≡ 120) × (r ≤ 120)) × (held ≤ r) × (drop r line' ≡ drop r line)

push_more : (line : List ℕ) (held b : ℕ) → length line ≡ 120 → held < 120 → Grows line (set line held b) held (held + 1) b
unfolding grown
push_more line held b h l =
    let t : length (take held line) ≡ held = length-take-le held line (omega arith) in
    let grows : take (held + 1) (set line held b) ≡ grown (take held line) b =
    rw (add-one held, t, lt-ltb held 120 l) (take-suc-set line held b (omega arith)) in
    (grows, (length-set line held b ∙ h, omega arith), omega arith, drop-set-lt (held + 1) line held b (omega arith))

push_full : (line : List ℕ) (held b : ℕ) → length line ≡ 120 → held ≤ 120 → 120 ≤ held → Grows line line held held b
unfolding grown
push_full line held b h k l =
    let t : length (take held line) ≡ held = length-take-le held line (omega arith) in
    (rw (t, le-ltb held 120 l) refl, (h, k), omega arith, refl)

module _ (g g' : Gatherer) (b : ℕ) (same : g'.line.ghost_name ≡ g.line.ghost_name) (w : IsWithin g) where
  as_pushed : Grows g.line.now g'.line.now g.held g'.held b → Pushed g b g'
  as_pushed p = record { same_buffer = same; result = p.0; held_within = p.1; more = p.2; kept = p.3 }

  pub pushed_more : g.held < 120 → g'.line.now ≡ set g.line.now g.held b → g'.held ≡ g.held + 1 → Pushed g b g'
  pushed_more l e h = as_pushed (rw (e, h) (push_more g.line.now g.held b w.0 l))

  pub pushed_full : 120 ≤ g.held → g'.line.now ≡ g.line.now → g'.held ≡ g.held → Pushed g b g'
  pushed_full l e h = as_pushed (rw (e, h) (push_full g.line.now g.held b w.0 w.1 l))

-- ---- the loop: i bytes of the piece are taken, and g became g'
pub record Gathering (g : Gatherer) (piece : List ℕ) (g' : Gatherer) (i : ℕ) : Type 0 where
  pub same_buffer : g'.line.ghost_name ≡ g.line.ghost_name
  pub result : gathered (held_of g) piece ≡ gathered (held_of g') (drop i piece)
  pub held_within : IsWithin g'
  pub within : i ≤ length piece
  pub kept : drop g'.held g'.line.now ≡ drop g'.held g.line.now

pub gather_start : (g : Gatherer) (piece : List ℕ) → IsWithin g → Gathering g piece g 0
gather_start g piece l = record { same_buffer = refl; result = refl; held_within = l; within = omega arith; kept = refl }

module _ (g : Gatherer) (piece : List ℕ) (g' : Gatherer) (i : ℕ) (x : Gathering g piece g' i) where
  next : i < length piece → gathered (held_of g) piece ≡ gathered (held_of g') (get_or piece i 0 ∷ drop (suc i) piece)
  next h = x.result ∙ ap (gathered (held_of g')) (drop-cons piece i 0 h)

  pub gather_feed : i < length piece → get_or piece i 0 ≡ 10 → GatherDone g piece g' (Some (i + 1))
  unfolding gathered
  gather_feed h e =
      rw (add-one i)
      (record {
        same_buffer = x.same_buffer;
        result = next h ∙ rw (eq-eqb (get_or piece i 0) 10 e) refl;
        held_within = x.held_within;
        within = h;
        kept = x.kept;
      })

  pub gather_step : (g'' : Gatherer) → i < length piece → (get_or piece i 0 ≡ 10 → ⊥) → Pushed g' (get_or piece i 0) g''
      → Gathering g piece g'' (i + 1)
  unfolding gathered
  gather_step g'' h n p =
      let k : g'.held ≤ g''.held = p.more in
      let q : g'.held + (g''.held - g'.held) ≡ g''.held = omega arith in
      let fore : drop g''.held g'.line.now ≡ drop g''.held g.line.now =
      ap (λ (m : ℕ). drop m g'.line.now) (sym q)
      ∙ sym (drop-drop (g''.held - g'.held) g'.held g'.line.now)
      ∙ ap (drop (g''.held - g'.held)) x.kept
      ∙ drop-drop (g''.held - g'.held) g'.held g.line.now ∙ ap (λ (m : ℕ). drop m g.line.now) q in
      rw (add-one i) (record {
        same_buffer = p.same_buffer ∙ x.same_buffer;
        result = next h ∙ rw (ne_eqb (get_or piece i 0) 10 n) (ap (λ (l : List ℕ). gathered l (drop (suc i) piece)) (sym p.result));
        held_within = p.held_within;
        within = h;
        kept = p.kept ∙ fore;
      })

  pub gather_end : length piece ≤ i → GatherDone g piece g' None
  unfolding gathered
  gather_end h =
      let w : i ≤ length piece = x.within in
      let e : i ≡ length piece = omega arith in
      let z : drop i piece ≡ [] = ap (λ (k : ℕ). drop k piece) e ∙ drop-length piece in
      let y : drop (length piece) piece ≡ [] = drop-length piece in
      record { same_buffer = x.same_buffer; result = x.result ∙ rw (z, y) refl; held_within = x.held_within; within = omega arith; kept = x.kept }
