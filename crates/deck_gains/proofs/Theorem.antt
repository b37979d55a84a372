-- Each number of an accepted card's table is its gain call's. Assumes nothing.
use mathlib.Core.Path.{◌≡◌, refl, sym, ap, subst, ◌∙◌}
use mathlib.Core.Bool.{false}
use mathlib.Core.List.{List}
use Prim.Native.Nat.{ℕ, zero, suc, ◌+◌, ◌-◌, ◌<◌, ◌≤◌}
use native.Mathlib.Omega.{arith}
use lib.Dec.{T}
use lib.Ieee.{Float, le}
use lib.Ieee.Bits.{is_true}
use lib.Ieee.Scale.{finite}
use Rattle.single.specs.Single.{num, whole}
use Rattle.limits.specs.Refusals.{first_refusal}
use Rattle.limits.specs.Tests.{any_outside}
use Rattle.antennas.specs.Antenna.{antenna_of}
use Rattle.std.specs.Prelude.{Option, Some, None, Result}
use Rattle.refusals.specs.declared.Refusal.{Refusal}
use Rattle.integrals.specs.Settled.{unsettled_number, settled_value}
use Rattle.integrals.specs.declared.settled.Settled.{Settled}
use Rattle.gain_core.specs.declared.calls.Answer as Gain
use Rattle.ioncap.specs.Gain.{call_outside, mhz_outside, call_refusal, call_work, answered, gain_of, gain_number, gain_value, efficiency_value, height_left}
use Rattle.table.specs.Table.{gain_at, efficiency_at}
use Rattle.independence.specs.Antenna.{Answer}
use Rattle.independence.specs.Antenna as Antenna
use Rattle.independence.specs.Laws.{Fills}
use Rattle.independence.specs.Filling.{height_at, call_at, card_table}
use Rattle.independence.specs.Deck.{Entry, Outcome, fresh, run}
use Rattle.independence.specs.Demand3.{cell, carried_after_rows, carried_at_row, carried}
use Rattle.independence.specs.EntryContracts.{CallsDone}
use Rattle.independence.proofs.Verdicts.{Passes}
use Rattle.independence.proofs.Rules.{filled_cell, filled_efficiency, run_accepted}
use Rattle.independence.proofs.Calls.{calls_run}
use Rattle.cards.specs.declared.fields.Fields.{Fields}
use Rattle.deck.specs.Columns.{column_at}
use Rattle.cards.specs.Card.{card_of, antenna_for}
use Rattle.deck.specs.Call.{answer_of, call_of}
use Rattle.deck.specs.Antenna.{the_antenna}
use Rattle.deck.specs.Run.{count_limit}
use Rattle.deck.proofs.Degrees.{elevation_within_lem, mhz_within_lem}
use Rattle.deck.proofs.Passes.{fields_passed, in_range_lem, azimuth_within, params_within}
use Rattle.deck.proofs.Laws.{the_laws, mhz_range}
use Rattle.deck_gains.specs.CellCalls.{cell_call, IsGainOf, IsAbove, TableOfCalls, TablesOfCalls}

-- ---- what a deck's call and a gain call make of the same work
record Answers (a : Answer) (w : Option (Settled Gain.Answer)) (height : Float) : Type 0 where
  number : gain_number (answered w) ≡ 0
  gain : a.gain ≡ gain_value (answered w)
  efficiency : a.efficiency ≡ efficiency_value (answered w)
  left : a.height ≡ height_left (answered w) height

answers : (w : Option (Settled Gain.Answer)) (height : Float) → (answer_of w).refusal ≡ 0 → Answers (answer_of w) w height
unfolding gain_number gain_value efficiency_value height_left unsettled_number settled_value
answers (Some call) height e = record { number = refl; gain = refl; efficiency = refl; left = refl }
answers None height e = let z : ⊥ = omega arith in absurd z

-- ---- a cell's gain call has the deck's work, and is within the limits
module _ (f : Fields) (m d : ℕ) (F : Fills the_antenna f m) (k : d < 91) (height : Float) (fin : T (finite height)) where
  same_work : the_antenna.call f m d height ≡ answer_of (call_work (cell_call f m d) height)
  unfolding call_work call_of card_of antenna_for antenna_of column_at
  same_work = refl

  low : 1 ≤ m
  low = omega (arith, (in_range_lem f F.passes).low, F.low)

  high : m ≤ 30
  high = omega (arith, (in_range_lem f F.passes).high, F.high)

  numbers_within : call_outside (cell_call f m d) ≡ false
  unfolding call_outside any_outside
  numbers_within =
      let p = params_within f F.passes in
      rw (azimuth_within f F.passes, p.asig, p.aeps, p.and, p.anl, p.anh, elevation_within_lem d k, mhz_within_lem m (omega (arith, high))) p.aex

  mhz_inside : mhz_outside (whole m) ≡ false
  unfolding mhz_outside
  mhz_inside = let r = mhz_range m low high in rw (is_true (le (num 1 1) (whole m)) r.0, is_true (le (whole m) (num 30 1)) r.1) refl

  not_refused : call_refusal (cell_call f m d) height ≡ 0
  unfolding call_refusal first_refusal
  not_refused =
      let p = fields_passed f F.passes in
      rw (is_true (finite height) fin, p.type, numbers_within, p.conductivity, mhz_inside, p.bays) refl

  is_work : gain_of (cell_call f m d) height ≡ answered (call_work (cell_call f m d) height)
  unfolding gain_of
  is_work = rw not_refused refl

  of_call : (the_antenna.call f m d height).refusal ≡ 0 → Answers (the_antenna.call f m d height) (call_work (cell_call f m d) height) height
  of_call e =
      let w = call_work (cell_call f m d) height in
      subst (λ (a : Answer). Answers a w height) (sym same_work) (answers w height (ap (λ (a : Answer). a.refusal) (sym same_work) ∙ e))

  gain_is_lem : (x : Float) → (the_antenna.call f m d height).refusal ≡ 0 → x ≡ (the_antenna.call f m d height).gain → IsGainOf (cell_call f m d) height x
  gain_is_lem x e g = let a = of_call e in record { accepted = ap gain_number is_work ∙ a.number; gain = g ∙ a.gain ∙ sym (ap gain_value is_work) }

-- ---- a card that is accepted at a finite height h
module _ (f : Fields) (h : Float) (p : Passes the_antenna f h) (fin : T (finite h)) where
  fills : (m : ℕ) → the_antenna.first f ≤ m → m ≤ the_antenna.last f → Fills the_antenna f m
  fills m lo hi = record { passes = p.input; low = lo; high = hi }

  carried_finite : (n : ℕ) → the_antenna.first f + n ≤ suc (the_antenna.last f) → T (finite (carried_after_rows the_antenna f h n))
  unfolding carried_after_rows
  carried_finite zero l = fin
  carried_finite (suc n) l = the_laws.finite_height f (the_antenna.first f + n) (fills (the_antenna.first f + n) (omega arith) (omega arith))

  -- the call above the ground, at any height
  call_above : (m d : ℕ) → the_antenna.first f ≤ m → m ≤ the_antenna.last f → d < 90 → (height : Float)
      → call_at the_antenna f m (carried_at_row the_antenna f h m) (suc d) ≡ the_antenna.call f m (suc d) height
  call_above m d lo hi k height = the_laws.above f m d _ height (fills m lo hi) (omega arith)

  accepted_above : (m d : ℕ) → the_antenna.first f ≤ m → m ≤ the_antenna.last f → d < 90 → (height : Float) → (the_antenna.call f m (suc d) height).refusal ≡ 0
  accepted_above m d lo hi k height =
      ap (λ (a : Answer). a.refusal) (sym (call_above m d lo hi k height))
      ∙ (filled_cell the_antenna the_laws count_limit f h m (suc d) p lo hi (omega arith)).1

  ground_cell_lem : (m : ℕ) → the_antenna.first f ≤ m → m ≤ the_antenna.last f
      → IsGainOf (cell_call f m 0) (carried_at_row the_antenna f h m) (cell (card_table the_antenna f h) (gain_at m 0))
  unfolding height_at
  ground_cell_lem m lo hi =
      let g = filled_cell the_antenna the_laws count_limit f h m 0 p lo hi (omega arith) in
      gain_is_lem f m 0 (fills m lo hi) (omega arith) (carried_at_row the_antenna f h m) (carried_finite (m - the_antenna.first f) (omega arith)) _ g.1 g.0

  above_cell : (m d : ℕ) → the_antenna.first f ≤ m → m ≤ the_antenna.last f → IsAbove d → d < 91 → (height : Float) → T (finite height)
      → IsGainOf (cell_call f m d) height (cell (card_table the_antenna f h) (gain_at m d))
  above_cell m zero lo hi above k height fin' = let none : ⊥ = omega (arith, above) in absurd none
  above_cell m (suc d) lo hi above k height fin' =
      gain_is_lem f m (suc d) (fills m lo hi) k height fin' _ (accepted_above m d lo hi (omega arith) height)
      ((filled_cell the_antenna the_laws count_limit f h m (suc d) p lo hi k).0 ∙ ap (λ (a : Answer). a.gain) (call_above m d lo hi (omega arith) height))

  last_call : (m : ℕ) → the_antenna.first f ≤ m → m ≤ the_antenna.last f → (height : Float) → T (finite height)
      → Answers (the_antenna.call f m 90 height) (call_work (cell_call f m 90) height) height
  last_call m lo hi height fin' = of_call f m 90 (fills m lo hi) (omega arith) height fin' (accepted_above m 89 lo hi (omega arith) height)

  efficiency_is : (m : ℕ) → the_antenna.first f ≤ m → m ≤ the_antenna.last f → (height : Float) → T (finite height)
      → cell (card_table the_antenna f h) (efficiency_at m) ≡ efficiency_value (gain_of (cell_call f m 90) height)
  efficiency_is m lo hi height fin' =
      filled_efficiency the_antenna the_laws count_limit f h m p lo hi
      ∙ ap (λ (a : Answer). a.efficiency) (call_above m 89 lo hi (omega arith) height)
      ∙ (last_call m lo hi height fin').efficiency
      ∙ sym (ap efficiency_value (is_work f m 90 (fills m lo hi) (omega arith) height fin'))

  left_is : (m : ℕ) → the_antenna.first f ≤ m → m ≤ the_antenna.last f → (height : Float) → T (finite height)
      → carried_at_row the_antenna f h (suc m) ≡ height_left (gain_of (cell_call f m 90) height) height
  unfolding carried_after_rows
  left_is m lo hi height fin' =
      let n = m - the_antenna.first f in
      let rows : suc m - the_antenna.first f ≡ suc n = omega arith in
      let row : the_antenna.first f + n ≡ m = omega arith in
      ap (carried_after_rows the_antenna f h) rows
      ∙ ap (Antenna.height_left the_antenna f) row
      ∙ sym (the_laws.leaves f m 89 height (fills m lo hi) (omega arith) (accepted_above m 89 lo hi (omega arith) height))
      ∙ (last_call m lo hi height fin').left
      ∙ sym (ap (λ (g : Result Gain.Answer Refusal). height_left g height) (is_work f m 90 (fills m lo hi) (omega arith) height fin'))

  pub table_of_calls : TableOfCalls f h (card_table the_antenna f h)
  table_of_calls = record { on_ground = ground_cell_lem; above = above_cell; efficiency = efficiency_is; left = left_is }

-- ---- of every list of entries, run on a fresh deck
pub tables_of_calls : (entries : List (Entry the_antenna)) → TablesOfCalls entries (run the_antenna count_limit fresh entries)
tables_of_calls entries j f a =
    let x = run_accepted the_antenna the_laws count_limit entries fresh j f a in
    let h = carried the_antenna (num 0 1) entries (run the_antenna count_limit fresh entries) j in
    subst (λ (t : List Float). TableOfCalls f h t) (sym x.table) (table_of_calls f h x.passes x.finite_height)

-- and so of the outcomes of any calls in turn that meet the contract of `run_card` and `run_malformed`
pub tables_of_calls_done : (entries : List (Entry the_antenna)) (outcomes : List Outcome) → CallsDone the_antenna count_limit fresh entries outcomes
    → TablesOfCalls entries outcomes
tables_of_calls_done entries outcomes done = rw (calls_run the_antenna the_laws count_limit fresh entries outcomes done) (tables_of_calls entries)
