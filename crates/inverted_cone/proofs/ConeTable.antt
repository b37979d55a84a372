-- The inverted cone's table: both axes rise, and it has a row of 22 gains for each of 13 elevations. Assumes nothing.
use Prim.Native.Nat.{ℕ, zero, suc, ◌<◌}
use mathlib.Core.Path.{◌≡◌}
use mathlib.Core.Bool.{Bool, true, ◌&&◌}
use mathlib.Core.List.{List, [], ◌∷◌}
use native.Mathlib.Nat.{le_of_suc-le-suc, not-suc-le-zero}
use lib.Dec.{T, eqb, eqb→eq}
use lib.ListN.{length, get_or}
use lib.Ieee.{Float, nan, lt, round, of_int}
use lib.Ieee.Fits.{and_l, and_r}
use Rattle.inverted_cone.specs.InvertedCone.{cone_freqs, cone_elevs, cone}

rises_from : Float → List Float → Bool
rises_from a [] = true
rises_from a (b ∷ bs) = lt a b && rises_from b bs

rises : List Float → Bool
rises [] = true
rises (a ∷ bs) = rises_from a bs

wide : List (List Float) → Bool
wide [] = true
wide (r ∷ rs) = eqb (length r) 22 && wide rs

step : (a : Float) (bs : List Float) → T (rises_from a bs) → (i : ℕ) → suc i < length (a ∷ bs)
    → T (lt (get_or (a ∷ bs) i nan) (get_or (a ∷ bs) (suc i) nan))
unfolding rises_from
step a [] t i h = absurd (not-suc-le-zero (le_of_suc-le-suc h))
step a (b ∷ bs) t zero h = and_l (lt a b) (rises_from b bs) t
step a (b ∷ bs) t (suc i) h = step b bs (and_r (lt a b) (rises_from b bs) t) i (le_of_suc-le-suc h)

rising : (xs : List Float) → T (rises xs) → (i : ℕ) → suc i < length xs → T (lt (get_or xs i nan) (get_or xs (suc i) nan))
unfolding rises
rising [] t i h = absurd (not-suc-le-zero h)
rising (a ∷ bs) t i h = step a bs t i h

row_width : (rs : List (List Float)) → T (wide rs) → (i : ℕ) → i < length rs → length (get_or rs i []) ≡ 22
unfolding wide
row_width [] t i h = absurd (not-suc-le-zero h)
row_width (r ∷ rs) t zero h = eqb→eq (length r) 22 (and_l (eqb (length r) 22) (wide rs) t)
row_width (r ∷ rs) t (suc i) h = row_width rs (and_r (eqb (length r) 22) (wide rs) t) i (le_of_suc-le-suc h)

-- the one computed test
shape : Bool
shape = rises cone_freqs && (rises cone_elevs && (wide cone && (eqb (length cone) (length cone_elevs) && eqb 22 (length cone_freqs))))

passes : T shape
unfolding shape rises rises_from wide cone_freqs cone_elevs cone round of_int lt
passes = tt

pub freqs_rise : (i : ℕ) → suc i < length cone_freqs → T (lt (get_or cone_freqs i nan) (get_or cone_freqs (suc i) nan))
unfolding shape
freqs_rise = rising cone_freqs (and_l (rises cone_freqs) _ passes)

pub elevs_rise : (i : ℕ) → suc i < length cone_elevs → T (lt (get_or cone_elevs i nan) (get_or cone_elevs (suc i) nan))
unfolding shape
elevs_rise = rising cone_elevs (and_l (rises cone_elevs) _ (and_r (rises cone_freqs) _ passes))

pub row_of_freqs : (i : ℕ) → i < length cone → length (get_or cone i []) ≡ 22
unfolding shape
row_of_freqs = row_width cone (and_l (wide cone) _ (and_r (rises cone_elevs) _ (and_r (rises cone_freqs) _ passes)))
