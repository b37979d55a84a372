-- A step on a piece that isn't empty takes a byte at least where the buffers are ready. Assumes nothing.
use mathlib.Core.Path.{◌≡◌, refl, ap, ◌∙◌}
use mathlib.Core.Bool.{Bool, true, false, cond}
use mathlib.Core.List.{List, [], ◌∷◌}
use Prim.Native.Nat.{ℕ, zero, suc, ◌≤◌, ◌<◌}
use native.Mathlib.Omega.{arith}
use lib.Dec.{eqb}
use lib.Ieee.{Float}
use lib.ListN.{length, drop}
use Rattle.listing.specs.declared.session.Session as S
use Rattle.listing.specs.declared.session.Stepped as D
use Rattle.listing.specs.Session.{State, state_in, grown, Gathered, gathered, step_by, step_of, is_ready}
use Rattle.listing.specs.Steps.{StepDone}

less_left : (p bs : List ℕ) (b : ℕ) → length (gathered p (b ∷ bs)).rest ≤ length bs
unfolding gathered
less_left p [] b = go (eqb b 10)
  where
    go : (t : Bool)
        → length (cond {A = Gathered} t (record { whole = true; held = p; rest = [] }) (record { whole = false; held = grown p b; rest = [] })).rest ≤ 0
    go true = omega arith
    go false = omega arith
less_left p (a ∷ bs) b = go (eqb b 10) (less_left (grown p b) bs a)
  where
    go : (t : Bool) → length (gathered (grown p b) (a ∷ bs)).rest ≤ length bs
        → length (cond {A = Gathered} t (record { whole = true; held = p; rest = a ∷ bs }) (gathered (grown p b) (a ∷ bs))).rest ≤ suc (length bs)
    go true h = omega arith
    go false h = omega arith

pub parts_by : (s : State) (g : Gathered) → ((step_by s g).buffer ≡ g.held) × ((step_by s g).rest ≡ g.rest)
parts_by s g = go g.whole
  where
    go : (b : Bool) → let t = step_by s (record { whole = b; held = g.held; rest = g.rest }) in (t.buffer ≡ g.held) × (t.rest ≡ g.rest)
    go true = (refl, refl)
    go false = (refl, refl)

nonzero : (used : ℕ) (p bs : List ℕ) (b : ℕ) → drop used (b ∷ bs) ≡ (gathered p (b ∷ bs)).rest → 0 < used
nonzero zero p bs b e = absurd (let w : ⊥ = omega (arith, less_left p bs b, ap length e) in w)
nonzero (suc used) p bs b e = omega arith

pub moves : (s : S.Session) (line piece : List ℕ) (table : List Float) (out : List ℕ) (at : ℕ)
    (line' : List ℕ) (table' : List Float) (out' : List ℕ) (r : D.Stepped)
    → StepDone s line piece table out at line' table' out' r → is_ready line table out at ≡ true → 0 < length piece → 0 < r.used
unfolding step_of
moves s line [] table out at line' table' out' r x e h = absurd (let w : ⊥ = omega arith in w)
moves s line (b ∷ bs) table out at line' table' out' r x e h =
    let before = state_in s line table in
    nonzero r.used before.held bs b
    (x.rest ∙ ap (λ (t : Bool). (step_of t before (b ∷ bs)).rest) e ∙ (parts_by before (gathered before.held (b ∷ bs))).1)
