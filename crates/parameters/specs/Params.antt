-- Document 01 section 2: `ioninit`, arm by arm. Definitions only.
use Rattle.std.specs.Prelude.{ℕ, ◌-◌, Bool, false, cond, List, [], ◌∷◌, eqb, ℤ, pos, negsuc, get_or, Float}
use Rattle.std.specs.Float.{nan}
use Rattle.std.specs.Float.Ieee.{neg}
use Rattle.single.specs.Single.{num}
use Rattle.parameters.specs.declared.params.IoncapParams.{IoncapParams}

-- a slot, counted from 1
abbrev pub slot : List Float → ℕ → Float
slot parm i = get_or parm (i - 1) nan

-- slot 4 is the conductivity, slot 3 the dielectric constant, whatever the type
unfoldable pub params_of : List Float → Float → Float → Float → List Float → IoncapParams
params_of parm angle leg height extras =
    record { asig = slot parm 4; aeps = slot parm 3; and = angle; anl = leg; anh = height; aex = extras }

-- the type's number is n
unfoldable pub is_type : ℤ → ℕ → Bool
is_type (pos k) n = eqb k n
is_type (negsuc k) n = false

-- zero, for what a type does not take
abbrev pub none : Float
none = num 0 1

-- Angle, leg, height and extras by type. Type 5's leg is a quarter of a wavelength.
unfoldable pub ioninit_of : ℤ → List Float → IoncapParams
ioninit_of index parm =
    let s = slot parm in
    let params = params_of parm in
    cond (is_type index 1) (params (s 6) (s 7) (s 8) (none ∷ none ∷ none ∷ none ∷ []))
    (cond (is_type index 2) (params none (s 6) (s 7) (none ∷ none ∷ none ∷ none ∷ []))
    (cond (is_type index 3) (params none (s 6) (s 7) (s 8 ∷ none ∷ none ∷ none ∷ []))
    (cond (is_type index 4) (params none (s 6) (s 7) (s 8 ∷ none ∷ none ∷ none ∷ []))
    (cond (is_type index 5) (params none (neg (num 25 100)) none (s 6 ∷ none ∷ none ∷ none ∷ []))
    (cond (is_type index 6) (params (s 6) (s 7) (s 8) (s 9 ∷ s 10 ∷ s 11 ∷ s 12 ∷ []))
    (cond (is_type index 7) (params (s 6) (s 7) (s 8) (s 9 ∷ none ∷ none ∷ none ∷ []))
    (cond (is_type index 8) (params none (s 6) (s 7) (none ∷ none ∷ none ∷ none ∷ []))
    (cond (is_type index 9) (params (s 6) (s 7) (s 8) (s 9 ∷ none ∷ none ∷ none ∷ []))
    (cond (is_type index 10) (params (s 6) (s 7) (s 8) (s 9 ∷ s 10 ∷ none ∷ none ∷ []))
    (params none none none (none ∷ none ∷ none ∷ none ∷ [])))))))))))
