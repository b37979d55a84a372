-- Each step of the program's loop over a piece gets on. Assumes nothing.
use mathlib.Core.Path.{◌≡◌}
use mathlib.Core.List.{List}
use Prim.Native.Nat.{ℕ, ◌+◌, ◌-◌, ◌<◌}
use native.Mathlib.Omega.{arith}
use lib.Ieee.{Float}
use lib.ListN.{length, take, drop, length-drop}
use lib.Seq.{length-take-le}
use Rattle.listing.specs.declared.session.Session as S
use Rattle.listing.specs.declared.session.Stepped as D
use Rattle.listing.specs.Steps.{StepDone}
use Rattle.listing.proofs.Ready.{ready_from}
use Rattle.listing.proofs.Progress.{moves}
use Rattle.listing.specs.Ready.{Ready}

rest_length : (l : List ℕ) (a : ℕ) → length (take (length l - a) (drop a l)) ≡ length l - a
rest_length l a = length-take-le (length l - a) (drop a l) (omega (arith, length-drop a l))

pub advance : (s : S.Session) (line piece : List ℕ) (table : List Float) (out : List ℕ) (at used : ℕ)
    (line' : List ℕ) (table' : List Float) (out' : List ℕ) (r : D.Stepped) → Ready line table out at → used < length piece
    → StepDone s line (take (length piece - used) (drop used piece)) table out at line' table' out' r → length piece - (used + r.used) < length piece - used
advance s line piece table out at used line' table' out' r b h x =
    let rest = take (length piece - used) (drop used piece) in
    let l = rest_length piece used in
    let some : 0 < r.used = moves s line rest table out at line' table' out' r x (ready_from line table out at b) (omega arith) in
    omega (arith, some, x.within, l)
