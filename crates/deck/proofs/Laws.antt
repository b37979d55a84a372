-- The laws that demand 3 rests on, of the antenna that the cards are run on. Assumes nothing.
use mathlib.Core.Path.{◌≡◌, refl, sym, ap, ap₂, subst, ◌∙◌}
use mathlib.Core.Bool.{false, not, ◌||◌, cond}
use mathlib.Core.Logic.{inr, ◌≢◌}
use Prim.Native.Nat.{ℕ, zero, suc, ◌<◌, ◌≤◌}
use native.Mathlib.Omega.{arith}
use native.Mathlib.Nat.{not-suc-le-zero}
use lib.Dec.{T, eqb}
use lib.IntN.{ℤ, pos, nat_abs}
use lib.Ieee.{Float, le}
use lib.Ieee.Bits.{is_true, is_false}
use lib.Ieee.Scale.{finite}
use Rattle.single.specs.Single.{◌⊞◌, num, whole}
use Rattle.parameters.specs.Params.{is_type}
use Rattle.parameters.specs.Kind.{kind_of, is_kind}
use Rattle.parameters.specs.declared.kind.Kind.{Kind}
use Rattle.parameters.specs.declared.kind.Kind.TheVariants as K
use Rattle.parameters.proofs.Numbers.{is_kind_lem}
use Rattle.lengths.specs.Length.{phase_of, monopole_turn}
use Rattle.lengths.specs.declared.length.Length.{Length}
use Rattle.angles.specs.Angles.{wave_of}
use Rattle.finish.specs.Finish.{floor, efficiency_of}
use Rattle.finish.proofs.Laws.{efficiency_same_lem}
use Rattle.rows.specs.Row.{height_for}
use Rattle.rows.proofs.Height.{height_finite}
use Rattle.cells.specs.Cell as Cell
use Rattle.cells.proofs.Blends.{blends_kind}
use Rattle.std.specs.Prelude.{Option, Some, None}
use Rattle.std.proofs.lemmas.Bool.{or_parts}
use Rattle.integrals.specs.Settled.{unsettled_number, settled_value}
use Rattle.integrals.specs.declared.settled.Settled.{Settled}
use Rattle.gain_core.specs.Core.{above_ground, work_of}
use Rattle.gain_core.specs.declared.calls.Answer as Gain
use Rattle.gain_core.proofs.Laws.{OfCall, AboveFloor, left_above, ground_value, zenith_ground_same, number_same, floor_above}
use Rattle.independence.specs.Antenna.{Answer, floor_plus, carries_height, has_second_call, height_left}
use Rattle.independence.specs.Laws.{Fills, Laws}
use Rattle.deck.proofs.Degrees.{mhz_in_range}
use Rattle.cards.specs.declared.fields.Fields.{Fields}
use Rattle.cards.specs.Fields.{fields_refusal}
use Rattle.deck.specs.Columns.{elevation_at, column_at}
use Rattle.cards.specs.Card.{card_of, antenna_for}
use Rattle.deck.specs.Call.{answer_of, call_of}
use Rattle.deck.specs.Antenna.{the_antenna}
use Rattle.deck.proofs.Passes.{is_type_lem, in_range_lem, fields_number, params_within}
use Rattle.deck.proofs.Cells.{call_above, call_ground}

-- ---- answers of a worked call
answer_number_lem : (w : Option (Settled Gain.Answer)) → ((answer_of w).refusal ≢ 9) × ((answer_of w).refusal ≢ 10)
unfolding unsettled_number
answer_number_lem (Some call) = (λ p. omega arith, λ p. omega arith)
answer_number_lem None = (λ p. omega arith, λ p. omega arith)

number_is : (w : Option (Settled Gain.Answer)) → (answer_of w).refusal ≡ unsettled_number w
number_is (Some call) = refl
number_is None = refl

answer_height : (x : Float) (w : Option (Settled Gain.Answer)) → OfCall (λ call. call.height ≡ x) w → (answer_of w).refusal ≡ 0 → (answer_of w).height ≡ x
unfolding unsettled_number settled_value
answer_height x (Some call) own e = own
answer_height x None own e = let z : ⊥ = omega arith in absurd z

answer_floor : (w : Option (Settled Gain.Answer)) → OfCall (λ call. AboveFloor call.gain call.efficiency) w → (answer_of w).refusal ≡ 0
    → AboveFloor (answer_of w).gain (answer_of w).efficiency
unfolding unsettled_number settled_value
answer_floor (Some call) own e = own
answer_floor None own e = let z : ⊥ = omega arith in absurd z

-- ---- the type as a kind, as a whole number and as a number from 0
carries_number : (kop : ℕ) → (is_kind (kind_of (pos kop)) 2 || is_kind (kind_of (pos kop)) 5) ≡ carries_height kop
unfolding is_type
carries_number kop = ap₂ ◌||◌ (is_kind_lem (pos kop) 2 (omega arith) (omega arith)) (is_kind_lem (pos kop) 5 (omega arith) (omega arith))

module _ (f : Fields) (p : fields_refusal f ≡ 0) where
  kind : (n : ℕ) → 0 < n → n ≤ 10 → is_kind (kind_of f.kop) n ≡ eqb (nat_abs f.kop) n
  unfolding is_type
  kind n low high = is_kind_lem f.kop n low high ∙ ap (λ (k : ℤ). is_type k n) (is_type_lem f p)

  carries : (is_kind (kind_of f.kop) 2 || is_kind (kind_of f.kop) 5) ≡ carries_height (nat_abs f.kop)
  carries = ap₂ ◌||◌ (kind 2 (omega arith) (omega arith)) (kind 5 (omega arith) (omega arith))

  looks : Cell.blends_with_zenith (kind_of f.kop) ≡ has_second_call (nat_abs f.kop)
  looks = blends_kind (kind_of f.kop) ∙ ap₂ ◌||◌ (kind 3 (omega arith) (omega arith)) (kind 4 (omega arith) (omega arith))

-- ---- the height that a row leaves
height_kind : (kind : Kind) (leg : Length) (wave : Float)
    → height_for kind leg wave ≡ cond (is_kind kind 2 || is_kind kind 5) (phase_of monopole_turn leg wave).waves (num 1 1)
unfolding height_for
height_kind K.Rhombic leg wave = refl
height_kind K.Monopole leg wave = refl
height_kind K.Dipole leg wave = refl
height_kind K.Yagi leg wave = refl
height_kind K.LogPeriodic leg wave = refl
height_kind K.Curtain leg wave = refl
height_kind K.SlopingVee leg wave = refl
height_kind K.InvertedL leg wave = refl
height_kind K.SlopingRhombic leg wave = refl
height_kind K.InterlacedRhombic leg wave = refl
height_kind K.Other leg wave = refl

pub left_is : (f : Fields) (m : ℕ) → fields_refusal f ≡ 0
    → height_for (kind_of f.kop) (card_of f).leg (wave_of (whole m)) ≡ height_left the_antenna f m
unfolding height_left
left_is f m p = height_kind (kind_of f.kop) (card_of f).leg (wave_of (whole m)) ∙ rw (carries f p) refl

pub mhz_range : (m : ℕ) → 1 ≤ m → m ≤ 30 → T (le (num 1 1) (whole m)) × T (le (whole m) (num 30 1))
mhz_range zero l h = absurd (not-suc-le-zero l)
mhz_range (suc m) l h = mhz_in_range m h

left_finite : (f : Fields) (m : ℕ) → Fills the_antenna f m → T (finite (height_left the_antenna f m))
unfolding card_of antenna_for
left_finite f m F =
    let r = in_range_lem f F.passes in
    let mhz = mhz_range m (omega (arith, r.low, F.low)) (omega (arith, r.high, F.high)) in
    subst (λ (x : Float). T (finite x)) (left_is f m F.passes) (height_finite (kind_of f.kop) _ (whole m) (params_within f F.passes).anl mhz.0 mhz.1)

-- ---- on the ground
module _ (f : Fields) (m : ℕ) (p : fields_refusal f ≡ 0) where
  ground_refusal_lem : (h h' : Float) → (call_of (card_of f) m 0 h).refusal ≡ (call_of (card_of f) m 0 h').refusal
  unfolding call_of
  ground_refusal_lem h h' =
      let a = antenna_for (card_of f) in
      number_is (work_of a (whole m) (elevation_at 0) (column_at 0) h)
      ∙ number_same a (whole m) (elevation_at 0) (column_at 0) h h'
      ∙ sym (number_is (work_of a (whole m) (elevation_at 0) (column_at 0) h'))

  ground_same_lem : (h h' : Float) → T (has_second_call (nat_abs f.kop)) → (call_of (card_of f) m 0 h).gain ≡ (call_of (card_of f) m 0 h').gain
  unfolding card_of antenna_for
  ground_same_lem h h' t =
      let up = looks f p ∙ is_true _ t in
      let same = zenith_ground_same (antenna_for (card_of f)) (whole m) (column_at 0) h h' up in
      ap (λ (a : Answer). a.gain) (call_ground (card_of f) m h ∙ ap answer_of same ∙ sym (call_ground (card_of f) m h'))

  -- the gain is -30 plus the call's own efficiency, which is the type's
  ground_is : (h : Float) → has_second_call (nat_abs f.kop) ≡ false
      → call_of (card_of f) m 0 h
      ≡ record {
        refusal = 0;
        gain = floor ⊞ efficiency_of (kind_of f.kop) h (num 0 1);
        efficiency = efficiency_of (kind_of f.kop) h (num 0 1);
        height = h;
      }
  unfolding card_of antenna_for unsettled_number settled_value
  ground_is h n =
      call_ground (card_of f) m h ∙ ap answer_of (ground_value (antenna_for (card_of f)) (whole m) (column_at 0) h (looks f p ∙ n))

  ground_gain_lem : (h : Float) → has_second_call (nat_abs f.kop) ≡ false
      → (call_of (card_of f) m 0 h).gain ≡ floor_plus (efficiency_of (kind_of (pos (nat_abs f.kop))) h (num 0 1))
  unfolding floor_plus
  ground_gain_lem h n = ap (λ (a : Answer). a.gain) (ground_is h n) ∙ ap (λ (k : ℤ). floor ⊞ efficiency_of (kind_of k) h (num 0 1)) (is_type_lem f p)

-- ---- outside types 2, 3 and 4
floor_holds : (f : Fields) (m d : ℕ) (h : Float) → fields_refusal f ≡ 0 → d < 91 → T (not (eqb (nat_abs f.kop) 2 || has_second_call (nat_abs f.kop)))
    → (call_of (card_of f) m d h).refusal ≡ 0
    → AboveFloor (call_of (card_of f) m d h).gain (call_of (card_of f) m d h).efficiency
floor_holds f m zero h p l t e =
    let o = or_parts (eqb (nat_abs f.kop) 2) (has_second_call (nat_abs f.kop)) (is_false _ t) in
    rw (ground_is f m p h o.1) (inr (inr refl))
floor_holds f m (suc d) h p l t e =
    let o = or_parts (eqb (nat_abs f.kop) 2) (has_second_call (nat_abs f.kop)) (is_false _ t) in
    let at = call_above (card_of f) m d h (omega arith) in
    let own = floor_above (antenna_for (card_of f)) (whole m) (elevation_at (suc d)) (column_at (suc d))
    (unfold card_of antenna_for in kind f p 2 (omega arith) (omega arith) ∙ o.0)
    (unfold card_of antenna_for in looks f p ∙ o.1) in
    let call = above_ground (antenna_for (card_of f)) (whole m) (elevation_at (suc d)) (column_at (suc d)) in
    let floor = answer_floor call own (ap (λ (a : Answer). a.refusal) (sym at) ∙ e) in
    subst (λ (a : Answer). AboveFloor a.gain a.efficiency) (sym at) floor

-- ---- all of them
pub the_laws : Laws the_antenna
the_laws =
    record {
      range = λ f p. let r = in_range_lem f p in (r.low, r.order, r.high);
      input_number = fields_number;
      call_number = λ f m d h F l. unfold call_of in answer_number_lem (work_of (antenna_for (card_of f)) (whole m) (elevation_at d) (column_at d) h);
      above = λ f m d h h' F l. call_above (card_of f) m d h (omega arith) ∙ sym (call_above (card_of f) m d h' (omega arith));
      leaves = λ f m d h F l e. leaves f m d h F (omega arith) e;
      finite_height = left_finite;
      ground_refusal = λ f m h h' F. ground_refusal_lem f m F.passes h h';
      ground_same = λ f m h h' F t. ground_same_lem f m F.passes h h' t;
      ground_gain = λ f m h F t e. ground_gain_lem f m F.passes h (is_false _ t);
      efficiency_same = λ kop h h' n. efficiency_same_lem (kind_of (pos kop)) h h' (num 0 1) (carries_number kop ∙ is_false (carries_height kop) n);
      efficiency_of8 = λ h. unfold efficiency_of kind_of is_type in refl;
      floored = λ f m d h F l t e. unfold floor_plus in floor_holds f m d h F.passes l t e;
    }
  where
    leaves : (f : Fields) (m d : ℕ) (h : Float) → Fills the_antenna f m → d < 90 → (call_of (card_of f) m (suc d) h).refusal ≡ 0
        → (call_of (card_of f) m (suc d) h).height ≡ height_left the_antenna f m
    leaves f m d h F l e =
        let at = call_above (card_of f) m d h l in
        let a = antenna_for (card_of f) in
        let call = above_ground a (whole m) (elevation_at (suc d)) (column_at (suc d)) in
        let own = left_above a (whole m) (elevation_at (suc d)) (column_at (suc d)) in
        ap (λ (x : Answer). x.height) at
        ∙ answer_height _ call own (ap (λ (x : Answer). x.refusal) (sym at) ∙ e)
        ∙ (unfold card_of antenna_for in left_is f m F.passes)
