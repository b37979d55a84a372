-- What the loop over the pieces keeps. Assumes nothing.
use mathlib.Core.List.{List}
use Prim.Native.Nat.{ℕ, ◌+◌, ◌-◌, ◌≤◌}
use native.Mathlib.Omega.{arith}
use lib.Ieee.{Float}
use lib.ListN.{length, take, drop, length-drop}
use lib.Seq.{length-take-le}
use Rattle.listing.proofs.Lengths.{SameLengths}

pub record Pieces (input line₀ : List ℕ) (table₀ : List Float) (out₀ line : List ℕ) (table : List Float) (out : List ℕ) (from : ℕ) : Type 0 where
  pub within : from ≤ length input
  pub lengths : SameLengths line₀ table₀ out₀ line table out

-- what a step takes of a piece lies within the input
pub within_input : (input : List ℕ) (from end used : ℕ) → (from ≤ end) × (end ≤ length input)
    → used ≤ length (take (end - from) (drop from input)) → from + used ≤ length input
within_input input from end used p h =
    let a : from ≤ end = p.0 in
    let b : end ≤ length input = p.1 in
    omega (arith, length-take-le (end - from) (drop from input) (omega (arith, length-drop from input)), length-drop from input)
