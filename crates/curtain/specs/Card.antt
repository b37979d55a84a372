-- Document 01 section 4, curtain: bays and elements. Definitions only.
use Rattle.std.specs.Prelude.{ℕ, cond, min, ℤ, pos, negsuc, Float}
use Rattle.std.specs.Float.{binary32}
use Rattle.std.specs.Float.Ieee.{eq, rem}
use Rattle.single.specs.Single.{◌⊟◌, ◌⊘◌, num}
use Rattle.elementary.specs.Basic.{cut_toward}
use Rattle.curtain.specs.declared.card.CurtainCard.{CurtainCard}

-- a whole number, at most `most`, and `negative` if it is below 0
unfoldable pub count_of : ℤ → ℕ → ℕ → ℕ
count_of (pos k) most negative = min k most
count_of (negsuc k) most negative = negative

-- Turns of `for i in 1..=nn`, none for a negative nn = ((phi - ep) / 2.0) as i32. At most 32, which 64 bays take; more bays are refused by 5
abbrev pub pairs_of : Float → Float → ℕ
pairs_of phi ep = count_of (cut_toward ((phi ⊟ ep) ⊘ num 2 1)) 32 0

-- Elements per bay, cut to a whole number: above 10 or negative counts as 10
abbrev pub elements_of : Float → ℕ
elements_of slot = count_of (cut_toward slot) 10 10

unfoldable pub card_from : Float → Float → ℕ → Float → CurtainCard
card_from phi ep nep elements = record { ep = ep; nep = nep; nn = pairs_of phi ep; m = elements_of elements }

-- phi % 2.0 != 0.0 gives (ep, nep) = (1.0, 1), else (0.0, 0)
unfoldable pub card_of : Float → Float → CurtainCard
card_of phi elements =
    cond (eq (rem binary32 phi (num 2 1)) (num 0 1)) (card_from phi (num 0 1) 0 elements) (card_from phi (num 1 1) 1 elements)
