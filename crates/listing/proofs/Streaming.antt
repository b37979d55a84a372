-- Whatever the pieces of the input are, the texts of the steps and of the end are the listing. Assumes nothing.
use mathlib.Core.Path.{◌≡◌, refl, sym, ap, ◌∙◌}
use mathlib.Core.Bool.{Bool, true, false, cond}
use mathlib.Core.List.{List, [], ◌∷◌, ◌++◌, append_assoc, append-nil}
use Prim.Native.Nat.{ℕ, suc, ◌+◌, ◌-◌, ◌≤◌}
use native.Mathlib.Omega.{arith}
use borrow.Author.Tests.{ltb-false}
use lib.Dec.{eqb, ltb}
use lib.Ieee.{Float}
use lib.ListN.{length, take, drop, length-append}
use lib.Seq.{take_at, drop_at, length-take-le}
use Rattle.table.specs.Table.{cleared}
use Rattle.independence.specs.Deck.{Deck, Entry, fresh, outcome_on, deck_after}
use Rattle.deck.specs.Antenna.{the_antenna}
use Rattle.deck.specs.Run.{count_limit, state_of, line_entry}
use Rattle.cards.specs.declared.fields.Fields.{Fields}
use Rattle.std.proofs.Common.{Option}
use Rattle.card_line.proofs.Laws.{wrong_length}
use Rattle.listing.specs.declared.session.Session as S
use Rattle.listing.specs.Lines.{lines_of, on_first}
use Rattle.listing.specs.Text.{heading_text}
use Rattle.listing.specs.Listing.{type_of, rows_by, entry_of, card_text, texts_of, listing}
use Rattle.listing.specs.Session.{State, state_in, start_of, is_ready, grown, Gathered, gathered, counted, line_text, after_line}
use Rattle.listing.specs.Session.{step_by, step_of, end_by, last_text, counts, finish_text, ended, joined, remaining}
use Rattle.listing.specs.Appended.{overwritten}
use Rattle.listing.specs.Calls.{part, CallsDone, finished, stepped}
use Rattle.listing.proofs.Cards.{heading_beyond}
use Rattle.listing.proofs.Ready.{ready as ready_is}

-- the text of the line l on the deck d, and the deck after it
abbrev text_on : ℕ → Deck → List ℕ → List ℕ
text_on n d l = card_text (suc n) (entry_of l).line (outcome_on the_antenna count_limit d (entry_of l))

abbrev deck_past : Deck → List ℕ → Deck
deck_past d l = deck_after the_antenna count_limit d (entry_of l)

-- ---- places from 10,000,000 on
beyond : (m n : ℕ) (d : Deck) (ls : List (List ℕ)) → 10000000 ≤ m → 10000000 ≤ n → texts_of m d ls ≡ texts_of n d ls
unfolding texts_of card_text
beyond m n d [] h g = refl
beyond m n d (l ∷ ls) h g =
    let o = outcome_on the_antenna count_limit d (entry_of l) in
    let x = (entry_of l).line in
    ap (λ (t : List ℕ). t ++ rows_by x o.table o.verdict ++ texts_of (suc m) (deck_past d l) ls)
    (heading_beyond (suc m) (suc n) (type_of x) o.verdict (omega arith) (omega arith))
    ∙ ap (λ (t : List ℕ). heading_text (suc n) (type_of x) o.verdict ++ rows_by x o.table o.verdict ++ t)
    (beyond (suc m) (suc n) (deck_past d l) ls (omega arith) (omega arith))

counted_texts : (n : ℕ) (d : Deck) (ls : List (List ℕ)) → texts_of (counted n) d ls ≡ texts_of (suc n) d ls
unfolding counted
counted_texts n d ls = go (ltb n 10000000) refl
  where
    go : (b : Bool) → ltb n 10000000 ≡ b → texts_of (cond b (suc n) n) d ls ≡ texts_of (suc n) d ls
    go true e = refl
    go false e = let h : 10000000 ≤ n = ltb-false n 10000000 e in beyond n (suc n) d ls h (omega arith)

-- ---- what is held of a line, and the lines that follow
abbrev from : ℕ → Deck → List ℕ → List ℕ → List ℕ
from n d p bs = texts_of n d (joined p (lines_of bs))

joined-none : (ls : List (List ℕ)) → joined [] ls ≡ ls
joined-none [] = refl
joined-none (l ∷ ls) = refl

joined_feed : (p bs : List ℕ) (b : ℕ) → eqb b 10 ≡ true → joined p (lines_of (b ∷ bs)) ≡ p ∷ lines_of bs
unfolding lines_of
joined_feed p bs b e = rw e (ap (λ (x : List ℕ). x ∷ lines_of bs) (append-nil p))

ended_more : (p : List ℕ) (b : ℕ) → (p ++ (b ∷ [])) ∷ [] ≡ ended (p ++ (b ∷ []))
ended_more [] b = refl
ended_more (a ∷ p) b = refl

on_first_lem : (p : List ℕ) (b : ℕ) (ls : List (List ℕ)) → joined p (on_first b ls) ≡ joined (p ++ (b ∷ [])) ls
unfolding on_first
on_first_lem p b [] = ended_more p b
on_first_lem p b (l ∷ ls) = ap (λ (x : List ℕ). x ∷ ls) (sym (append_assoc p (b ∷ []) l))

joined_byte : (p bs : List ℕ) (b : ℕ) → eqb b 10 ≡ false → joined p (lines_of (b ∷ bs)) ≡ joined (p ++ (b ∷ [])) (lines_of bs)
unfolding lines_of
joined_byte p bs b e = rw e (on_first_lem p b (lines_of bs))

-- ---- a line of 120 bytes or more is malformed, whatever they are
over_entry : (p q : List ℕ) → 120 ≤ length p → 120 ≤ length q → entry_of p ≡ entry_of q
unfolding entry_of
over_entry p q h k =
    ap (λ (l : Option Fields). line_entry l cleared)
    (wrong_length p (λ (e : length p ≡ 119). let w : ⊥ = omega arith in w) ∙ sym (wrong_length q (λ (e : length q ≡ 119). let w : ⊥ = omega arith in w)))

by_entry : (n : ℕ) (d : Deck) (p q : List ℕ) (ls : List (List ℕ)) → entry_of p ≡ entry_of q → texts_of n d (p ∷ ls) ≡ texts_of n d (q ∷ ls)
unfolding texts_of
by_entry n d p q ls =
    ap
    (λ (x : Entry the_antenna).
    card_text (suc n) x.line (outcome_on the_antenna count_limit d x) ++ texts_of (suc n) (deck_after the_antenna count_limit d x) ls)

ended_long : (p : List ℕ) → 120 ≤ length p → ended p ≡ p ∷ []
ended_long [] h = absurd (let w : ⊥ = omega arith in w)
ended_long (a ∷ p) h = refl

over : (n : ℕ) (d : Deck) (p q : List ℕ) (ls : List (List ℕ)) → 120 ≤ length p → 120 ≤ length q → texts_of n d (joined p ls) ≡ texts_of n d (joined q ls)
over n d p q [] h k = ap (texts_of n d) (ended_long p h) ∙ by_entry n d p q [] (over_entry p q h k) ∙ ap (texts_of n d) (sym (ended_long q k))
over n d p q (l ∷ ls) h k =
    by_entry n d (p ++ l) (q ++ l) ls (over_entry (p ++ l) (q ++ l) (omega (arith, length-append p l)) (omega (arith, length-append q l)))

grown_same : (n : ℕ) (d : Deck) (p bs : List ℕ) (b : ℕ) → from n d (p ++ (b ∷ [])) bs ≡ from n d (grown p b) bs
unfolding grown
grown_same n d p bs b = go (ltb (length p) 120) refl
  where
    go : (t : Bool) → ltb (length p) 120 ≡ t → from n d (p ++ (b ∷ [])) bs ≡ from n d (cond t (p ++ (b ∷ [])) p) bs
    go true e = refl
    go false e = let h : 120 ≤ length p = ltb-false (length p) 120 e in over n d (p ++ (b ∷ [])) p (lines_of bs) (omega (arith, length-append p (b ∷ []))) h

-- ---- a piece is gathered
abbrev after : ℕ → Deck → Gathered → List ℕ → List ℕ
after n d g rest =
    cond g.whole (text_on n d g.held ++ from (suc n) (deck_past d g.held) [] (g.rest ++ rest))
    (from n d g.held (g.rest ++ rest))

feed : (n : ℕ) (d : Deck) (p bs : List ℕ) (b : ℕ) → eqb b 10 ≡ true
    → from n d p (b ∷ bs) ≡ text_on n d p ++ from (suc n) (deck_past d p) [] bs
unfolding texts_of
feed n d p bs b e =
    ap (texts_of n d) (joined_feed p bs b e)
    ∙ ap (λ (ls : List (List ℕ)). text_on n d p ++ texts_of (suc n) (deck_past d p) ls) (sym (joined-none (lines_of bs)))

gathers : (n : ℕ) (d : Deck) (p piece rest : List ℕ) → from n d p (piece ++ rest) ≡ after n d (gathered p piece) rest
unfolding gathered
gathers n d p [] rest = refl
gathers n d p (b ∷ bs) rest = go (eqb b 10) refl (gathers n d (grown p b) bs rest)
  where
    go : (t : Bool) → eqb b 10 ≡ t → from n d (grown p b) (bs ++ rest) ≡ after n d (gathered (grown p b) bs) rest
        → from n d p (b ∷ (bs ++ rest)) ≡ after n d (cond t (record { whole = true; held = p; rest = bs }) (gathered (grown p b) bs)) rest
    go true e i = feed n d p (bs ++ rest) b e
    go false e i = ap (texts_of n d) (joined_byte p (bs ++ rest) b e) ∙ grown_same n d p (bs ++ rest) b ∙ i

-- ---- a step writes the first part of what is still to be printed
by_gathered : (s : State) (g : Gathered) (rest : List ℕ) → let t = step_by s g in
    after s.listed s.deck g rest ≡ t.text ++ remaining t.state (t.rest ++ rest)
unfolding remaining line_text after_line
by_gathered s g rest = go g.whole
  where
    go : (b : Bool) → let h : Gathered = record { whole = b; held = g.held; rest = g.rest } in let t = step_by s h in
        after s.listed s.deck h rest ≡ t.text ++ remaining t.state (t.rest ++ rest)
    go true =
        ap (λ (t : List ℕ). line_text s g.held ++ t)
        (sym (counted_texts s.listed (deck_past s.deck g.held) (joined [] (lines_of (g.rest ++ rest)))))
    go false = refl

pub step_lists : (ready : Bool) (s : State) (piece rest : List ℕ) → let t = step_of ready s piece in
    remaining s (piece ++ rest) ≡ t.text ++ remaining t.state (t.rest ++ rest)
unfolding step_of remaining
step_lists true s piece rest = gathers s.listed s.deck s.held piece rest ∙ by_gathered s (gathered s.held piece) rest
step_lists false s piece rest = refl

-- ---- the end writes all that is left
pub finish_lists : (s : State) → remaining s [] ≡ finish_text true s
unfolding remaining finish_text lines_of texts_of line_text after_line
finish_lists s = go s.held
  where
    go : (p : List ℕ) → texts_of s.listed s.deck (ended p) ≡ last_text s p ++ counts (end_by s p).deck
    go [] = refl
    go (b ∷ p) = refl

-- ---- at the start that is the listing
pub start_lists : (s : State) (bytes : List ℕ) → s.deck ≡ fresh → s.listed ≡ 0 → s.held ≡ [] → remaining s bytes ≡ listing bytes
unfolding remaining listing
start_lists s bytes d n h = rw (d, n, h) (ap (texts_of 0 fresh) (joined-none (lines_of bytes)))

-- ---- calls in turn
part_is : (out out' t : List ℕ) (at b : ℕ) → at ≤ length out → out' ≡ overwritten out at t → b ≡ at + length t → part at b out' ≡ t
unfolding overwritten
part_is out out' t at b h e l =
    let n : b - at ≡ length t = omega arith in
    ap (λ (x : List ℕ). take (b - at) (drop at x)) e
    ∙ ap (take (b - at)) (drop_at (take at out) (t ++ drop (at + length t) out) at (length-take-le at out h))
    ∙ take_at t (drop (at + length t) out) (b - at) (sym n)

remaining_calls : {s : S.Session} {line : List ℕ} {table : List Float} {bytes text : List ℕ}
    → CallsDone s line table bytes text → text ≡ remaining (state_in s line table) bytes
remaining_calls (finished s line table table' out out' at r ready x) =
    let h = (ready_is line table out at ready).room in
    part_is out out' (finish_text (is_ready line table out at) (state_in s line table)) at r (omega arith) x.text x.end
    ∙ ap (λ (b : Bool). finish_text b (state_in s line table)) ready
    ∙ sym (finish_lists (state_in s line table))
remaining_calls (stepped s line line' piece rest table table' out out' at r text h x c) =
    let b = is_ready line table out at in
    let before = state_in s line table in
    ap (λ (t : List ℕ). t ++ text) (part_is out out' (step_of b before piece).text at r.at h x.text x.end)
    ∙ ap (λ (t : List ℕ). (step_of b before piece).text ++ t) (remaining_calls c)
    ∙ ap (λ (t : State). (step_of b before piece).text ++ remaining t (drop r.used piece ++ rest)) x.state
    ∙ ap (λ (l : List ℕ). (step_of b before piece).text ++ remaining (step_of b before piece).state (l ++ rest)) x.rest
    ∙ sym (step_lists b before piece rest)

-- from the start on, the texts of all calls, one after another, are the listing of all bytes
pub calls_list : (s : S.Session) (line : List ℕ) (table : List Float) (bytes text : List ℕ)
    → s ≡ start_of → CallsDone s line table bytes text → text ≡ listing bytes
calls_list s line table bytes text start c =
    remaining_calls c
    ∙ start_lists (state_in s line table) bytes (ap (λ (t : S.Session). state_of t.deck) start) (ap (λ (t : S.Session). t.listed) start)
    (ap (λ (t : S.Session). take t.held line) start)
