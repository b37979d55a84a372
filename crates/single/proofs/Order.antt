-- Comparisons of positive f32s by their values. Assumes nothing.
use mathlib.Core.Path.{◌≡◌, sym, subst, ◌∙◌}
use mathlib.Core.Bool.{true, false}
use Prim.Native.Nat.{ℕ, suc, ◌*◌, ◌≤◌, ◌<◌}
use native.Mathlib.Nat.{not-le_of_lt, lt_of_not-le, le_of_suc-le-suc}
use borrow.Author.Tests.{lt-ltb, le-ltb}
use lib.Dec.{T}
use lib.Ieee.{Float, nan, inf, fin, up, down, lt}
use lib.Ieee.Exact.{HasValue}
use lib.Ieee.Fits.{down_pos}
use lib.Ieee.Order.{transfer}

pub lt_values : (x y : Float) (a c b c' : ℕ) → 0 < c → 0 < c' → HasValue x false a c → HasValue y false b c' → a * c' < b * c → lt x y ≡ true
unfolding lt
lt_values nan y a c b c' C C' v w h = absurd v
lt_values (inf s) y a c b c' C C' v w h = absurd v
lt_values (fin s m e) nan a c b c' C C' v w h = absurd w
lt_values (fin s m e) (inf t) a c b c' C C' v w h = absurd w
lt_values (fin true m e) (fin t n g) a c b c' C C' v w h = absurd (subst T v.0 tt)
lt_values (fin false m e) (fin true n g) a c b c' C C' v w h = absurd (subst T w.0 tt)
lt_values (fin false m e) (fin false n g) a c b c' C C' v w h =
    lt-ltb (m * up e * down g) (n * up g * down e)
    (lt_of_not-le (λ (k : n * up g * down e ≤ m * up e * down g). not-le_of_lt h (transfer b a c' c (n * up g) (m * up e) (down g) (down e) (down_pos g) (down_pos e) (sym w.1) (sym v.1) k)))

pub not_lt_values : (x y : Float) (a c b c' : ℕ) → 0 < c → 0 < c' → HasValue x false a c → HasValue y false b c' → b * c ≤ a * c' → lt x y ≡ false
unfolding lt
not_lt_values nan y a c b c' C C' v w h = absurd v
not_lt_values (inf s) y a c b c' C C' v w h = absurd v
not_lt_values (fin s m e) nan a c b c' C C' v w h = absurd w
not_lt_values (fin s m e) (inf t) a c b c' C C' v w h = absurd w
not_lt_values (fin true m e) (fin t n g) a c b c' C C' v w h = absurd (subst T v.0 tt)
not_lt_values (fin false m e) (fin true n g) a c b c' C C' v w h = absurd (subst T w.0 tt)
not_lt_values (fin false m e) (fin false n g) a c b c' C C' v w h = le-ltb (m * up e * down g) (n * up g * down e) (transfer (n * up g) (m * up e) (down g) (down e) b a c' c C' C w.1 v.1 h)

pub ge_values : (x y : Float) (a c b c' : ℕ) → 0 < c → 0 < c' → HasValue x false a c → HasValue y false b c' → lt x y ≡ false → b * c ≤ a * c'
ge_values x y a c b c' C C' v w h = le_of_suc-le-suc (lt_of_not-le (λ (k : suc (a * c') ≤ b * c). subst T (sym (lt_values x y a c b c' C C' v w k) ∙ h) tt))
