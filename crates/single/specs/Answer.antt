-- Document 01, "Refusals answer zeros": what is promised of an answer that one refusal may replace. Definitions only.
use Rattle.std.specs.Prelude.{ℕ, ◌≡◌, Bool, cond}

-- `r` is the answer that the definition gives; its number is 0 where it is accepted, else the refusal's, and there its values are zeros
abbrev pub IsAnswer : {A B : Type 0} → (A → ℕ) → (A → B) → B → ℕ → A → Bool → A → Type 0
IsAnswer number values zeros refusal answer accepted r =
    (r ≡ answer) × (number r ≡ cond accepted 0 refusal) × (values r ≡ cond accepted (values answer) zeros)
