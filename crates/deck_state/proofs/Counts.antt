-- Where an entry that is not refused by 10 has room, a refused one counts. Assumes nothing.
use Prim.Native.Nat.{ℕ, suc, ◌+◌, ◌<◌, ◌≤◌}
use mathlib.Core.Path.{◌≡◌, refl}
use mathlib.Core.Bool.{Bool, true, false, cond}
use mathlib.Core.Logic.{◌≢◌}
use native.Mathlib.Nat.{not-le_of_lt}
use borrow.Author.Tests.{eqb-false, leb-true}
use lib.Dec.{eqb}
use Rattle.independence.specs.Deck.{Deck, refused_deck}
use Rattle.deck_state.specs.DeckState.{count_limit, is_full, refused_within}

pub within : (d : Deck) (v : ℕ) → (v ≢ 10 → d.accepted + d.refused < count_limit) → refused_within d v ≡ refused_deck d v
unfolding refused_within refused_deck
within d v room = go (is_full d) (eqb v 10) (leb-true count_limit (d.accepted + d.refused)) (eqb-false v 10)
  where
    go : (full ten : Bool) → (full ≡ true → count_limit ≤ d.accepted + d.refused) → (ten ≡ false → v ≢ 10)
        → cond full d (record { height = d.height; accepted = d.accepted; refused = cond ten d.refused (suc d.refused) })
        ≡ record { height = d.height; accepted = d.accepted; refused = cond ten d.refused (suc d.refused) }
    go true true f g = refl
    go true false f g = absurd (not-le_of_lt (room (g refl)) (f refl))
    go false ten f g = refl
