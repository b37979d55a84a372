-- Three stores of four bytes fill the twelve places of an answer. Assumes nothing.
use Prim.Native.Nat.{ℕ, ◌-◌, ◌≤◌}
use mathlib.Core.Path.{◌≡◌, refl, ◌∙◌}
use mathlib.Core.List.{List, [], ◌++◌, append_assoc, append-nil}
use native.Mathlib.Omega.{arith}
use borrow.Rule.Slice.PartMut.{put_mid, post_of}
use lib.ListN.{length, take, drop, length-append, length-drop}
use lib.Ieee.{Float}
use Rattle.std.proofs.lemmas.List.{take_at, drop_all}
use Rattle.std.proofs.lemmas.Slice.{take-put_mid}
use Rattle.encoding.specs.Bytes.{bytes_of}
use Rattle.capi.specs.Answer.{answer_bytes}

bytes_length : (x : Float) → length (bytes_of x) ≡ 4
unfolding bytes_of
bytes_length x = refl

filled : (d a b c : List ℕ) → length a ≡ 4 → length b ≡ 4
    → let xs = put_mid 4 4 (a ++ drop 4 d) b in put_mid 8 (length xs - 8) xs c ≡ a ++ (b ++ c)
filled d a b c x y =
    let xs = put_mid 4 4 (a ++ drop 4 d) b in
    let first : take 4 (a ++ drop 4 d) ≡ a = take_at a (drop 4 d) 4 x in
    let fit : 4 ≤ length (a ++ drop 4 d) = simp length-append (omega arith) in
    let two : take 8 xs ≡ a ++ b = take-put_mid 4 4 (a ++ drop 4 d) b 8 (omega arith) fit ∙ rw first in
    let none : post_of 8 (length xs - 8) xs ≡ [] = drop_all (length xs - 8) (drop 8 xs) (simp length-drop (omega arith)) in
    rw (two, none, append-nil c, append_assoc a b c)

pub answer_filled : (d : List ℕ) (gain efficiency height : Float) (a b c : List ℕ)
    → a ≡ bytes_of gain → b ≡ bytes_of efficiency → c ≡ bytes_of height
    → let xs = put_mid 4 4 (a ++ drop 4 d) b in put_mid 8 (length xs - 8) xs c ≡ answer_bytes gain efficiency height
unfolding answer_bytes
answer_filled d gain efficiency height a b c x y z =
    rw (x, y, z) (filled d (bytes_of gain) (bytes_of efficiency) (bytes_of height) (bytes_length gain) (bytes_length efficiency))
