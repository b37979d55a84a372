-- A line that was run and printed is listed. Assumes nothing.
use mathlib.Core.Path.{◌≡◌, refl, sym, ap, subst, ◌∙◌}
use mathlib.Core.Bool.{Bool, true, false, cond}
use mathlib.Core.List.{List, [], ◌++◌}
use Prim.Native.Nat.{ℕ, suc, ◌+◌, ◌≤◌}
use native.Mathlib.Omega.{arith}
use borrow.Author.Tests.{ltb-false}
use lib.Dec.{ltb}
use lib.IntN.{ℤ, pos}
use lib.Ieee.{Float}
use lib.ListN.{replicate}
use Rattle.output.specs.Field.{integer_field}
use Rattle.output.proofs.Field.{stars}
use Rattle.deck_state.specs.declared.Deck as D
use Rattle.deck.specs.Run.{state_of, line_in}
use Rattle.cards.specs.declared.fields.Fields.{Fields}
use Rattle.std.proofs.Common.{Option}
use Rattle.card_line.specs.Line.{line_of}
use Rattle.listing.specs.declared.session.Session as S
use Rattle.listing.specs.declared.writing.Writer.{Writer}
use Rattle.listing.specs.Written.{Written}
use Rattle.listing.specs.Text.{line_feed, heading_text}
use Rattle.listing.specs.Listing.{type_of, rows_by, entry_of, card_text}
use Rattle.listing.specs.Session.{counted, line_text, after_line}
use Rattle.listing.specs.Card.{LineListed}
use Rattle.listing.proofs.Entries.{LineRun}
use Rattle.listing.proofs.Buffer.{after, renamed}
use Rattle.listing.proofs.Printed.{heading_length}

-- ---- places from 10,000,000 on print as stars
starred : (n : ℕ) → 10000000 ≤ n → integer_field (pos n) 7 ≡ replicate 7 42
starred n h = stars (pos n) 7 h

pub heading_beyond : (m n : ℕ) (k : ℤ) (v : ℕ) → 10000000 ≤ m → 10000000 ≤ n → heading_text m k v ≡ heading_text n k v
unfolding heading_text
heading_beyond m n k v h g = ap (λ (x : List ℕ). x ++ integer_field k 3 ++ integer_field (pos v) 3 ++ line_feed) (starred m h ∙ sym (starred n g))

pub counted_heading : (n : ℕ) (k : ℤ) (v : ℕ) → heading_text (counted n) k v ≡ heading_text (suc n) k v
unfolding counted
counted_heading n k v = go (ltb n 10000000) refl
  where
    go : (b : Bool) → ltb n 10000000 ≡ b → heading_text (cond b (suc n) n) k v ≡ heading_text (suc n) k v
    go true e = refl
    go false e = let h : 10000000 ≤ n = ltb-false n 10000000 e in heading_beyond n (suc n) k v h (omega arith)

-- ---- the line
module _ (s : S.Session) (q : List ℕ) (t t' : List Float) (w w' w'' : Writer) (n v : ℕ) (k : ℤ) (d' : D.Deck) (counts : n ≡ counted s.listed) where
  abbrev Lists : Option Fields → Type 0
  Lists l =
      k ≡ type_of (line_in l) → LineRun (state_of s.deck) l t' v (state_of d')
      → Written w (heading_text n k v) w' → Written w' (rows_by (line_in l) t' v) w'' → w''.at ≤ w'.at + 540
      → LineListed s q t t' w w'' (record { deck = d'; listed = n; held = 0 })

  line_of_lem : Lists (line_of q)
  unfolding line_text card_text after_line entry_of
  line_of_lem p x y z u =
      record {
        state = λ buffer. λ i. record { deck = x.deck i; listed = counts i; held = []; table = x.table i };
        held = refl;
        same_buffer = z.same_buffer ∙ y.same_buffer;
        text = λ buffer.
            renamed (after y z)
            (ap (λ (m : ℕ). heading_text m k v ++ rows_by (line_in (line_of q)) t' v) counts
            ∙ ap (λ (h : List ℕ). h ++ rows_by (line_in (line_of q)) t' v) (counted_heading s.listed k v)
            ∙ (λ i. heading_text (suc s.listed) (p i) (x.verdict i) ++ rows_by (line_in (line_of q)) (x.table i) (x.verdict i)));
        within = omega (arith, y.text.end, heading_length n k v);
      }

  pub line_listed : (l : Option Fields) → l ≡ line_of q → Lists l
  line_listed l r = subst Lists (sym r) line_of_lem
