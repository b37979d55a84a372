-- Laws of text appended to a buffer, and the lengths of the printed lines. Assumes nothing.
use mathlib.Core.Path.{◌≡◌, refl, sym, ap, subst, ◌∙◌}
use mathlib.Core.List.{List, [], ◌∷◌, ◌++◌, append_assoc}
use Prim.Native.Nat.{ℕ, ◌+◌, ◌-◌, ◌≤◌}
use native.Mathlib.Omega.{arith}
use native.Mathlib.Numerals.{add-one}
use lib.ListN.{length, take, drop, set, length-append, length-drop, take-append-drop}
use lib.Seq.{drop-drop, take_at, drop_at, length-take-le, set_split}
use borrow.Rule.Slice.PartMut.{put_mid}
use Rattle.listing.specs.declared.writing.Writer.{Writer}
use Rattle.listing.specs.Appended.{Appended, overwritten}
use Rattle.listing.specs.Written.{Written}

-- ---- the buffer
length-overwritten : (d : List ℕ) (a : ℕ) (t : List ℕ) → a + length t ≤ length d → length (overwritten d a t) ≡ length d
unfolding overwritten
length-overwritten d a t f =
    let k = a + length t in
    omega (arith, length-append (take a d) (t ++ drop k d), length-append t (drop k d), length-take-le a d (omega arith), length-drop k d)

-- the length stays
appended : {d : List ℕ} {a : ℕ} {t e : List ℕ} {b : ℕ} → a + length t ≤ length d → e ≡ overwritten d a t → b ≡ a + length t → Appended d a t e b
appended {d} {a} {t} f i n = record { fits = f; is = i; end = n; long = ap length i ∙ length-overwritten d a t f }

module _ {d : List ℕ} {a : ℕ} {t e : List ℕ} {b : ℕ} (x : Appended d a t e b) where
  head_length : length (take a d ++ t) ≡ b
  head_length =
      let f : a + length t ≤ length d = x.fits in
      let g : b ≡ a + length t = x.end in
      omega (arith, length-append (take a d) t, length-take-le a d (omega arith))

  split : e ≡ (take a d ++ t) ++ drop b d
  unfolding overwritten
  split = x.is ∙ sym (append_assoc (take a d) t (drop (a + length t) d)) ∙ ap (λ (k : ℕ). (take a d ++ t) ++ drop k d) (sym x.end)

  pub front : take b e ≡ take a d ++ t
  front = ap (take b) split ∙ take_at (take a d ++ t) (drop b d) b head_length

  pub back : drop b e ≡ drop b d
  back = ap (drop b) split ∙ drop_at (take a d ++ t) (drop b d) b head_length

  -- one text after another
  pub then : {u g : List ℕ} {c : ℕ} → Appended e b u g c → Appended d a (t ++ u) g c
  unfolding overwritten
  then {u} {g} {c} y =
      let p : b ≡ a + length t = x.end in
      let q : c ≡ b + length u = y.end in
      let f : b + length u ≤ length e = y.fits in
      let l : length (t ++ u) ≡ length t + length u = length-append t u in
      let k : a + length (t ++ u) ≡ b + length u = omega arith in
      let rest = drop (a + length (t ++ u)) d in
      let past : drop (b + length u) e ≡ rest =
      sym (drop-drop (length u) b e) ∙ ap (drop (length u)) back ∙ drop-drop (length u) b d ∙ ap (λ (n : ℕ). drop n d) (sym k) in
      appended (omega (arith, x.long))
      (y.is
      ∙ ap (λ (z : List ℕ). z ++ (u ++ drop (b + length u) e)) front
      ∙ ap (λ (z : List ℕ). (take a d ++ t) ++ (u ++ z)) past
      ∙ append_assoc (take a d) t (u ++ rest)
      ∙ ap (λ (z : List ℕ). take a d ++ z) (sym (append_assoc t u rest)))
      (omega arith)

  pub same : {u : List ℕ} → t ≡ u → Appended d a u e b
  same p = subst (λ (l : List ℕ). Appended d a l e b) p x

pub unchanged : (d : List ℕ) (a : ℕ) → d ≡ overwritten d a []
unfolding overwritten
unchanged d a = let z : a + 0 ≡ a = omega arith in sym (ap (λ (k : ℕ). take a d ++ drop k d) z ∙ take-append-drop a d)

pub nothing : (d : List ℕ) (a : ℕ) → a ≤ length d → Appended d a [] d a
nothing d a h = appended (omega arith) (unchanged d a) (omega arith)

pub one_byte : (d : List ℕ) (a b : ℕ) → a + 1 ≤ length d → Appended d a (b ∷ []) (set d a b) (a + 1)
unfolding overwritten
one_byte d a b h = appended (omega arith) (set_split d a b (omega arith) ∙ ap (λ (k : ℕ). take a d ++ b ∷ drop k d) (sym (add-one a))) (omega arith)

-- a field: the part from a on, w bytes, was lent and came back as its text
pub field : (text : ℕ → List ℕ) (d x : List ℕ) (a w : ℕ) → length (text w) ≡ w → a + w ≤ length d → x ≡ text (length (take (a + w - a) (drop a d)))
    → Appended d a (text w) (put_mid a (a + w - a) d x) (a + w)
unfolding overwritten
field text d x a w l h e =
    let n : a + w - a ≡ w = omega arith in
    let lent : length (take w (drop a d)) ≡ w = length-take-le w (drop a d) (omega (arith, length-drop a d)) in
    let y : x ≡ text w = e ∙ ap text (ap (λ (z : ℕ). length (take z (drop a d))) n ∙ lent) in
    let q : a + (a + w - a) ≡ a + length (text w) = omega arith in
    appended (omega arith)
    (ap (λ (z : List ℕ). take a d ++ (z ++ drop (a + w - a) (drop a d))) y
    ∙ ap (λ (z : List ℕ). take a d ++ (text w ++ z)) (drop-drop (a + w - a) a d ∙ ap (λ (z : ℕ). drop z d) q))
    (omega arith)

-- ---- by a writer
module _ {w : Writer} {t : List ℕ} {w' : Writer} (x : Written w t w') where
  pub after : {u : List ℕ} {w'' : Writer} → Written w' u w'' → Written w (t ++ u) w''
  after y = record { same_buffer = y.same_buffer ∙ x.same_buffer; text = then x.text y.text }

  pub renamed : {u : List ℕ} → t ≡ u → Written w u w'
  renamed p = record { same_buffer = x.same_buffer; text = same x.text p }

pub no_text : (w : Writer) → w.at ≤ length w.out.now → Written w [] w
no_text w h = record { same_buffer = refl; text = nothing w.out.now w.at h }
