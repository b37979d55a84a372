-- Laws of `finish`: what the ground gives, and the floor. Assumes nothing.
use mathlib.Core.Path.{◌≡◌, refl, sym, subst}
use mathlib.Core.Bool.{Bool, true, false, not, ◌||◌, cond, true≢false}
use mathlib.Core.Logic.{◌⊎◌, inl, inr}
use lib.Dec.{T}
use lib.Ieee.{Float, nan, binary32, fits, lt, le, neg, round}
use lib.Ieee.Fits.{neg-fits, cond-fits, add-fits}
use Rattle.single.specs.Single.{◌⊞◌, num}
use Rattle.single.proofs.Floor.{above_floor, lowered_plus}
use Rattle.parameters.specs.Kind.{is_kind}
use Rattle.parameters.specs.declared.kind.Kind.{Kind}
use Rattle.parameters.specs.declared.kind.Kind.TheVariants as K
use Rattle.finish.specs.Finish.{floor, monopole_efficiency, efficiency_of, floored, ground_of}

-- ---- an efficiency on the ground is a single-precision number
zero-fits : T (fits binary32 (num 0 1))
unfolding fits round
zero-fits = tt

constant_fits : T (fits binary32 (neg (num 17 10)))
unfolding fits round neg
constant_fits = tt

monopole_fits : (x : Float) → T (fits binary32 (monopole_efficiency x))
unfolding monopole_efficiency
monopole_fits x = cond-fits binary32 (le (num 35 100) x) (num 0 1) _ zero-fits (neg-fits binary32 _ (add-fits binary32 _ _))

efficiency_fits : (kind : Kind) (x : Float) → T (fits binary32 (efficiency_of kind x (num 0 1)))
unfolding efficiency_of
efficiency_fits K.Rhombic x = constant_fits
efficiency_fits K.Monopole x = monopole_fits x
efficiency_fits K.Dipole x = zero-fits
efficiency_fits K.Yagi x = zero-fits
efficiency_fits K.LogPeriodic x = monopole_fits x
efficiency_fits K.Curtain x = zero-fits
efficiency_fits K.SlopingVee x = constant_fits
efficiency_fits K.InvertedL x = zero-fits
efficiency_fits K.SlopingRhombic x = constant_fits
efficiency_fits K.InterlacedRhombic x = constant_fits
efficiency_fits K.Other x = zero-fits

both : {A : Type 0} (b : Bool) (x y z : A) → x ≡ z → y ≡ z → cond b x y ≡ z
both true x y z p q = p
both false x y z p q = q

pub floored_others : (kind : Kind) (rain eff sok : Float) → is_kind kind 2 ≡ false
    → floored kind rain eff sok ≡ cond (le (rain ⊞ (eff ⊞ sok)) floor) (floor ⊞ eff) (rain ⊞ (eff ⊞ sok))
unfolding floored
floored_others K.Rhombic rain eff sok e = refl
floored_others K.Monopole rain eff sok e = absurd (true≢false e)
floored_others K.Dipole rain eff sok e = refl
floored_others K.Yagi rain eff sok e = refl
floored_others K.LogPeriodic rain eff sok e = refl
floored_others K.Curtain rain eff sok e = refl
floored_others K.SlopingVee rain eff sok e = refl
floored_others K.InvertedL rain eff sok e = refl
floored_others K.SlopingRhombic rain eff sok e = refl
floored_others K.InterlacedRhombic rain eff sok e = refl
floored_others K.Other rain eff sok e = refl

-- the floor changes nothing where the sum is the floor's own gain
module _ (rain eff sok : Float) (e : rain ⊞ (eff ⊞ sok) ≡ floor ⊞ eff) where
  cut : cond (le (rain ⊞ (eff ⊞ sok)) floor) (floor ⊞ eff) (rain ⊞ (eff ⊞ sok)) ≡ floor ⊞ eff
  cut = both (le (rain ⊞ (eff ⊞ sok)) floor) (floor ⊞ eff) (rain ⊞ (eff ⊞ sok)) (floor ⊞ eff) refl e

  floored_same : (kind : Kind) → floored kind rain eff sok ≡ floor ⊞ eff
  unfolding floored
  floored_same K.Rhombic = cut
  floored_same K.Monopole = e
  floored_same K.Dipole = cut
  floored_same K.Yagi = cut
  floored_same K.LogPeriodic = cut
  floored_same K.Curtain = cut
  floored_same K.SlopingVee = cut
  floored_same K.InvertedL = cut
  floored_same K.SlopingRhombic = cut
  floored_same K.InterlacedRhombic = cut
  floored_same K.Other = cut

-- the gain on the ground is -30 plus the efficiency there
pub ground_gain_lem : (kind : Kind) (height : Float) → (ground_of kind height).gain ≡ floor ⊞ (ground_of kind height).efficiency
unfolding ground_of
ground_gain_lem kind height =
    let eff = efficiency_of kind height (num 0 1) in
    floored_same floor eff (num 0 1) (lowered_plus eff (efficiency_fits kind height)) kind

-- the efficiency on the ground depends on the height for types 2 and 5 alone
pub efficiency_same_lem : (kind : Kind) (h h' eff8 : Float) → (is_kind kind 2 || is_kind kind 5) ≡ false
    → efficiency_of kind h eff8 ≡ efficiency_of kind h' eff8
unfolding efficiency_of
efficiency_same_lem K.Rhombic h h' eff8 e = refl
efficiency_same_lem K.Monopole h h' eff8 e = absurd (true≢false e)
efficiency_same_lem K.Dipole h h' eff8 e = refl
efficiency_same_lem K.Yagi h h' eff8 e = refl
efficiency_same_lem K.LogPeriodic h h' eff8 e = absurd (true≢false e)
efficiency_same_lem K.Curtain h h' eff8 e = refl
efficiency_same_lem K.SlopingVee h h' eff8 e = refl
efficiency_same_lem K.InvertedL h h' eff8 e = refl
efficiency_same_lem K.SlopingRhombic h h' eff8 e = refl
efficiency_same_lem K.InterlacedRhombic h h' eff8 e = refl
efficiency_same_lem K.Other h h' eff8 e = refl

pub ground_same_lem : (kind : Kind) (h h' : Float) → (is_kind kind 2 || is_kind kind 5) ≡ false → ground_of kind h ≡ ground_of kind h'
unfolding ground_of
ground_same_lem kind h h' e = rw (efficiency_same_lem kind h h' (num 0 1) e) refl

-- ---- outside type 2 a gain that is a number is above -30, or is -30 plus the efficiency
pub floor_rule : (kind : Kind) (rain eff sok : Float) → is_kind kind 2 ≡ false
    → (floored kind rain eff sok ≡ nan) ⊎ (T (lt floor (floored kind rain eff sok)) ⊎ (floored kind rain eff sok ≡ floor ⊞ eff))
floor_rule kind rain eff sok e = rw (floored_others kind rain eff sok e) (by (le (rain ⊞ (eff ⊞ sok)) floor) refl)
  where
    by : (b : Bool) → le (rain ⊞ (eff ⊞ sok)) floor ≡ b
        → let gain = cond b (floor ⊞ eff) (rain ⊞ (eff ⊞ sok)) in (gain ≡ nan) ⊎ (T (lt floor gain) ⊎ (gain ≡ floor ⊞ eff))
    by true t = inr (inr refl)
    by false t = elim (above_floor (rain ⊞ (eff ⊞ sok)) (subst (λ (x : Bool). T (not x)) (sym t) tt)) [ inl n ↦ inl n | inr a ↦ inr (inl a) ]
