-- The columns, stored one by one and read back; their sines stand from the start. Assumes nothing.
use mathlib.Core.Path.{◌≡◌, ap₂, sym, subst, ◌∙◌}
use mathlib.Core.List.{List}
use mathlib.Core.Logic.{inl, inr}
use Prim.Native.Nat.{ℕ, suc, ◌+◌, ◌<◌}
use native.Mathlib.Omega.{arith}
use native.Mathlib.Numerals.{add-one}
use native.Mathlib.Nat.{eq-or-lt_of_le, le_of_suc-le-suc, not-suc-le-zero}
use lib.ListN.{length, set, get_or, length-set}
use lib.Seq.{get_or-set_same, get_or-set_other}
use lib.Ieee.{Float, nan}
use Rattle.elementary.specs.Trigonometric.{cosine}
use Rattle.angles.specs.Angles.{elevation_of}
use Rattle.column_sines.specs.ColumnSines.{column_sines}
use Rattle.column_sines.proofs.ColumnSines.{sine_count_lem, sine_entry}
use Rattle.deck.specs.Columns.{elevation_at, column_at, ColumnsAre}

-- one more stored, of any function
stored : (f : ℕ → Float) (l : List Float) (n : ℕ) (v : Float) → n < length l → ((d : ℕ) → d < n → get_or l d nan ≡ f d) → v ≡ f n
    → (d : ℕ) → d < suc n → get_or (set l n v) d nan ≡ f d
stored f l n v k before e d h =
    elim (eq-or-lt_of_le (le_of_suc-le-suc h)) [
      | inl p ↦ subst (λ (x : ℕ). get_or (set l n v) x nan ≡ f x) (sym p) (get_or-set_same l n v nan k ∙ e)
      | inr q ↦ get_or-set_other l n d v nan (λ p. let z : ⊥ = omega arith in z) ∙ before d q
    ]

pub columns_start : (a b : List Float) → length a ≡ 91 → length b ≡ 91 → ColumnsAre a b column_sines 0
columns_start a b p q =
    record {
      delta_count = p;
      cosine_count = q;
      sine_count = sine_count_lem;
      delta = λ d h. absurd (not-suc-le-zero h);
      cosine = λ d h. absurd (not-suc-le-zero h);
      sine = λ d h. absurd (not-suc-le-zero h);
    }

pub columns_step : (a b : List Float) (n : ℕ) (x y : Float) → ColumnsAre a b column_sines n → n < 91 → x ≡ elevation_at n → y ≡ cosine x
    → ColumnsAre (set a n x) (set b n y) column_sines (n + 1)
columns_step a b n x y s k p q =
    rw add-one
    (record {
      delta_count = length-set a n x ∙ s.delta_count;
      cosine_count = length-set b n y ∙ s.cosine_count;
      sine_count = s.sine_count;
      delta = stored elevation_at a n x (omega (arith, s.delta_count)) s.delta p;
      cosine = stored (λ d. cosine (elevation_at d)) b n y (omega (arith, s.cosine_count)) s.cosine (rw (← p) q);
      sine = λ d h. sine_entry d (omega arith);
    })

pub column_read : (a b c : List Float) (d : ℕ) → ColumnsAre a b c 91 → d < 91 → elevation_of (get_or b d nan) (get_or c d nan) ≡ column_at d
unfolding column_at
column_read a b c d s k = ap₂ elevation_of (s.cosine d k) (s.sine d k)
