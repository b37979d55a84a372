use Rattle.std.proofs.Common.{◌≡◌, ℕ, ◌+◌, ◌≤◌, List, ◌++◌, rules, length, take, drop, sym, ap, ◌∙◌, subst, le_refl, drop_at, length-take-le}
use Rattle.std.proofs.lemmas.Slice.{take-put_mid_below}
use Rattle.std.specs.Io.KnownBytes.{Consumes}
use Rattle.std.proofs.KnownBytes.{Consumes-trans}
use borrow.Rule.Slice.PartMut.{put_mid, post_of}
use lib.Seq.{take-add, take-append-le}
use Rattle.oracle_vectors.proofs.read_full.Goals as goal

-- after a write of ys to `xs[a..]`, the first n of ys stand behind the first a of xs
take_filled : (a k n : ℕ) (xs ys : List ℕ) → a ≤ length xs → n ≤ length ys → take (a + n) (put_mid a k xs ys) ≡ take a xs ++ take n ys
take_filled a k n xs ys within fits =
    let whole = put_mid a k xs ys in
    let after = post_of a k xs in
    take-add a n whole
    ∙ ap (λ l. l ++ take n (drop a whole)) (take-put_mid_below a k xs ys a (le_refl a) within)
    ∙ ap (λ l. take a xs ++ take n l) (drop_at (take a xs) (ys ++ after) a (length-take-le a xs within))
    ∙ ap (λ l. take a xs ++ l) (take-append-le n ys after fits)

-- what a read gave stands behind what the reads before it gave
pub loop-done-preserved : goal.loop-done-preserved
loop-done-preserved g c =
    let before = c.loop-done.invariant in
    let both = take_filled c.loop-done.done _ c.in_ok-n.n c.loop-done.buf c.read.new.buf before.0 c.in_ok-n.ensures.bound.0 in
    (search rules, subst (Consumes _ _) (sym both) (Consumes-trans _ _ _ _ _ before.1 c.in_ok-n.ensures.bytes.0))
