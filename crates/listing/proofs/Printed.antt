-- The printed lines: their lengths, and their writing. Assumes nothing.
use mathlib.Core.Path.{◌≡◌, refl, ap}
use mathlib.Core.List.{List, ◌++◌}
use Prim.Native.Nat.{ℕ, zero, suc, ◌+◌, ◌-◌, ◌*◌, ◌^◌, ◌≤◌, ◌<◌}
use native.Mathlib.Omega.{arith}
use native.Mathlib.Nat.{lt_of_lt_of_le}
use lib.Dec.{lit≤}
use mir.Syntax.{w32, w64}
use mir.Val.{SFits, to_z, of_z}
use mir.ValLaws.{to_z-of_z, to_z_pos}
use lib.IntN.{ℤ, pos}
use lib.Ieee.{Float, nan}
use lib.ListN.{length, get_or, length-append}
use Rattle.table.specs.Table.{gain_at, efficiency_at}
use Rattle.output.specs.Field.{integer_field}
use Rattle.output.specs.Hundredths.{hundredths_field}
use Rattle.output.proofs.Field.{field_length}
use Rattle.output.proofs.Printed.{hundredths_field_length}
use Rattle.listing.specs.declared.writing.Writer.{Writer}
use Rattle.listing.specs.Written.{HasRoom, Written}
use Rattle.listing.specs.Text.{line_feed, heading_text, row_text, rows_text}
use Rattle.listing.proofs.Buffer.{after, renamed, no_text}

-- ---- an integer as it is handed on
wider : (z : ℤ) → SFits w32 z → SFits w64 z
wider z f = record { sfits = lt_of_lt_of_le f.sfits (lit≤ tt) }

-- a row as the code reads it out of the table: k is where its ground gain stands
abbrev pub row_at : List Float → ℕ → ℕ → List ℕ
row_at t m k = integer_field (pos m) 3 ++ hundredths_field (get_or t (efficiency_at m) nan) 7 ++ hundredths_field (get_or t k nan) 7 ++ line_feed

module _ {w w' : Writer} where
  pub handed : (z : ℤ) (n : ℕ) → SFits w64 z → Written w (integer_field (to_z w64 (of_z w64 z)) n) w' → Written w (integer_field z n) w'
  handed z n f x = renamed x (ap (λ (y : ℤ). integer_field y n) (to_z-of_z w64 z f))

  pub unsigned : (k n : ℕ) → k < 2 ^ 63 → Written w (integer_field (to_z w64 k) n) w' → Written w (integer_field (pos k) n) w'
  unsigned k n f x = renamed x (ap (λ (z : ℤ). integer_field z n) (to_z_pos w64 k f))

  pub signed : (z : ℤ) (n : ℕ) → SFits w32 z → Written w (integer_field (to_z w64 (of_z w64 (to_z w32 (of_z w32 z)))) n) w' → Written w (integer_field z n) w'
  signed z n f x = handed z n (wider z f) (renamed x (ap (λ (y : ℤ). integer_field (to_z w64 (of_z w64 y)) n) (to_z-of_z w32 z f)))

  pub row : (t : List Float) (m : ℕ) → Written w (row_at t m ((m - 1) * 91)) w' → Written w (row_text t m) w'
  unfolding row_text
  row t m x = let ground : (m - 1) * 91 ≡ gain_at m 0 = omega arith in renamed x (ap (row_at t m) ground)

-- ---- lengths
-- of a line of three fields
joined_length : (a b c : List ℕ) → length (a ++ b ++ c ++ line_feed) ≡ length a + length b + length c + 1
joined_length a b c = omega (arith, length-append ((a ++ b) ++ c) line_feed, length-append (a ++ b) c, length-append a b)

pub heading_length : (place : ℕ) (kop : ℤ) (refusal : ℕ) → length (heading_text place kop refusal) ≡ 14
unfolding heading_text
heading_length place kop refusal =
    let a = integer_field (pos place) 7 in
    let b = integer_field kop 3 in
    let c = integer_field (pos refusal) 3 in
    omega (arith, joined_length a b c, field_length (pos place) 7, field_length kop 3, field_length (pos refusal) 3)

row_length : (t : List Float) (m : ℕ) → length (row_text t m) ≡ 18
unfolding row_text
row_length t m =
    let a = integer_field (pos m) 3 in
    let b = hundredths_field (get_or t (efficiency_at m) nan) 7 in
    let c = hundredths_field (get_or t (gain_at m 0) nan) 7 in
    let efficiency = hundredths_field_length (get_or t (efficiency_at m) nan) 7 in
    omega (arith, joined_length a b c, field_length (pos m) 3, efficiency, hundredths_field_length (get_or t (gain_at m 0) nan) 7)

pub rows_length : (t : List Float) (first n : ℕ) → length (rows_text t first n) ≡ 18 * n
unfolding rows_text
rows_length t first zero = refl
rows_length t first (suc n) = omega (arith, rows_length t first n, length-append (rows_text t first n) (row_text t (first + n)), row_length t (first + n))

-- ---- the rows in turn, up to m MHz
pub record Rows (t : List Float) (first : ℕ) (w w' : Writer) (m : ℕ) : Type 0 where
  pub text : Written w (rows_text t first (m - first)) w'

pub rows_start : (t : List Float) (first : ℕ) (w : Writer) → w.at ≤ length w.out.now → Rows t first w w first
unfolding rows_text
rows_start t first w h = record { text = let e : first - first ≡ 0 = omega arith in rw e (no_text w h) }

pub rows_room : {t : List Float} {first : ℕ} {w w' : Writer} {m : ℕ} → Rows t first w w' m → m < 31 → 1 ≤ first → HasRoom w 540 → HasRoom w' 18
rows_room {t} {first} {w} {w'} {m} r h f g = omega (arith, r.text.text.end, r.text.text.long, rows_length t first (m - first), g)

pub rows_step : {t : List Float} {first : ℕ} {w w' w'' : Writer} {m : ℕ}
    → first ≤ m → Rows t first w w' m → Written w' (row_text t m) w'' → Rows t first w w'' (m + 1)
unfolding rows_text
rows_step {t} {first} {m = m} h r x =
    let e : m + 1 - first ≡ suc (m - first) = omega arith in
    let i : m ≡ first + (m - first) = omega arith in
    record { text = rw e (after r.text (renamed x (ap (row_text t) i))) }

pub rows_last : {t : List Float} {first last : ℕ} {w w' w'' : Writer} {m : ℕ} → first ≤ m → m ≤ last → last ≤ m
    → Rows t first w w' m → Written w' (row_text t m) w'' → Written w (rows_text t first (last + 1 - first)) w''
rows_last {t} {first} {last} {m = m} h low high r x =
    let q : m + 1 - first ≡ last + 1 - first = omega arith in
    renamed (rows_step h r x).text (ap (rows_text t first) q)
