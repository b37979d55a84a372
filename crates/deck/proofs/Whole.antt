-- Demand 3 of the cards that the code runs: over the definitions that its contracts cite. Assumes nothing.
use mathlib.Core.Path.{◌≡◌}
use mathlib.Core.Bool.{not}
use mathlib.Core.List.{List, map}
use mathlib.Core.Logic.{◌≢◌}
use Prim.Native.Nat.{ℕ, ◌<◌, ◌≤◌}
use lib.Dec.{T}
use lib.ListN.{length}
use lib.Ieee.{Float}
use Rattle.single.specs.Single.{num}
use Rattle.limits.specs.Refusals.{first_refusal}
use Rattle.independence.specs.Antenna.{carries_height, height_left}
use Rattle.independence.specs.Filling.{call_at}
use Rattle.independence.specs.Deck.{Deck, Entry, own_tests, Outcome, fresh, run, deck_after_all, without, accepted_in, refused_in}
use Rattle.independence.specs.Demand3.{Demand3, NextAccepted, MayDiffer, outcome_at, carried_at_row, carried}
use Rattle.independence.specs.EntryContracts.{CallsDone}
use Rattle.independence.proofs.Verdicts.{Passes}
use Rattle.independence.proofs.Theorem as D
use Rattle.independence.proofs.Calls as C
use Rattle.independence.proofs.Consequences as Q
use Rattle.cards.specs.declared.fields.Fields.{Fields}
use Rattle.deck.specs.Antenna.{the_antenna}
use Rattle.deck.specs.Run.{count_limit}
use Rattle.deck.proofs.Laws.{the_laws}

abbrev pub Entries : Type 0
Entries = List (Entry the_antenna)

-- a run of them on a fresh deck, and the deck after it
abbrev pub outcomes_of : Entries → List Outcome
outcomes_of entries = run the_antenna count_limit fresh entries

abbrev pub deck_after_run : Entries → Deck
deck_after_run entries = deck_after_all the_antenna count_limit fresh entries

-- ---- demand 3: of every list of at most 1,000,000 entries, run on a fresh deck, and whichever one is removed
pub demand3 : (entries : Entries) (k : ℕ) → length entries ≤ count_limit → Demand3 the_antenna entries (outcomes_of entries) k (outcomes_of (without k entries))
demand3 = D.demand3 the_antenna the_laws count_limit

-- and so of the outcomes of any calls in turn that meet the contract of `run_card` and `run_malformed`
pub demand3_of_calls : (entries : Entries) (outcomes : List Outcome) (k : ℕ) (outcomes_without : List Outcome) → length entries ≤ count_limit
    → CallsDone the_antenna count_limit fresh entries outcomes → CallsDone the_antenna count_limit fresh (without k entries) outcomes_without
    → Demand3 the_antenna entries outcomes k outcomes_without
demand3_of_calls = C.demand3_of_calls the_antenna the_laws count_limit

-- ---- its sentences one by one. That each number of a table is a gain call's: crate deck_gains
-- "every other card has the same verdict": each has the first refusal of its own tests, whatever came before it
pub own_verdicts : (entries : Entries) → length entries ≤ count_limit
    → map (λ (o : Outcome). o.verdict) (outcomes_of entries) ≡ map (λ (e : Entry the_antenna). first_refusal (own_tests the_antenna e (num 0 1))) entries
own_verdicts = Q.own_verdicts the_antenna the_laws count_limit

-- "and the same table in both runs": each whole table, where the struck card is refused
pub refused_removed : (entries : Entries) (k : ℕ) → length entries ≤ count_limit
    → (outcome_at (outcomes_of entries) k).verdict ≢ 0 → without k (outcomes_of entries) ≡ outcomes_of (without k entries)
refused_removed = Q.refused_removed the_antenna the_laws count_limit

-- "One cell alone may differ": at most one of one entry
pub one_cell : (entries : Entries) (outcomes : List Outcome) (k j j' i i' : ℕ)
    → MayDiffer the_antenna entries outcomes k j i → MayDiffer the_antenna entries outcomes k j' i' → (j ≡ j') × (i ≡ i')
one_cell = Q.one_cell the_antenna the_laws count_limit

-- "the next accepted card after the struck one, where that is type 2 or 5": none differs where it is of another type
pub other_type_next : (entries : Entries) (k j : ℕ) (fields : Fields) → length entries ≤ count_limit
    → NextAccepted the_antenna (without k entries) (outcomes_of (without k entries)) k j fields → T (not (carries_height (the_antenna.type_of fields)))
    → without k (outcomes_of entries) ≡ outcomes_of (without k entries)
other_type_next = Q.other_type_next the_antenna the_laws count_limit

-- "the height left by the last cell": what an accepted card's 90-degree call at its last MHz leaves
pub left_by_last_cell : (fields : Fields) (height : Float) → Passes the_antenna fields height
    → (call_at the_antenna fields (the_antenna.last fields) (carried_at_row the_antenna fields height (the_antenna.last fields)) 90).height
    ≡ height_left the_antenna fields (the_antenna.last fields)
left_by_last_cell = Q.left_by_last_cell the_antenna the_laws count_limit

-- "of an accepted card before it": after types 2 and 5 their height in wavelengths at their last MHz
pub own_after_2_or_5 : (entries : Entries) (i j : ℕ) (fields : Fields)
    → Q.LastAccepted the_antenna the_laws count_limit entries (outcomes_of entries) i j fields → T (carries_height (the_antenna.type_of fields))
    → carried the_antenna (num 0 1) entries (outcomes_of entries) j ≡ the_antenna.wavelengths fields (the_antenna.last fields)
own_after_2_or_5 = Q.own_after_2_or_5 the_antenna the_laws count_limit

-- "zero if none"
pub zero_if_none : (entries : Entries) (outcomes : List Outcome) (j : ℕ) → ((n : ℕ) → n < j → (outcome_at outcomes n).verdict ≢ 0)
    → carried the_antenna (num 0 1) entries outcomes j ≡ num 0 1
zero_if_none = Q.zero_if_none the_antenna the_laws count_limit

-- "1 after another type"
pub one_after_other : (entries : Entries) (i j : ℕ) (fields : Fields)
    → Q.LastAccepted the_antenna the_laws count_limit entries (outcomes_of entries) i j fields → T (not (carries_height (the_antenna.type_of fields)))
    → carried the_antenna (num 0 1) entries (outcomes_of entries) j ≡ num 1 1
one_after_other = Q.one_after_other the_antenna the_laws count_limit

-- ---- what stands beside it
-- the deck's counts are those of the outcomes
pub counts : (entries : Entries) → length entries ≤ count_limit
    → ((deck_after_run entries).accepted ≡ accepted_in (outcomes_of entries)) × ((deck_after_run entries).refused ≡ refused_in (outcomes_of entries))
counts = Q.counts the_antenna the_laws count_limit

pub never_9_or_10 : (entries : Entries) → length entries ≤ count_limit → (j : ℕ)
    → ((outcome_at (outcomes_of entries) j).verdict ≢ 9) × ((outcome_at (outcomes_of entries) j).verdict ≢ 10)
never_9_or_10 = Q.never_9_or_10 the_antenna the_laws count_limit
