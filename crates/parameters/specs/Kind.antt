-- Document 01 section 2: the type of an antenna by its number. Definitions only.
use Rattle.std.specs.Prelude.{ℕ, Bool, cond, eqb, ℤ}
use Rattle.parameters.specs.Params.{is_type}
use Rattle.parameters.specs.declared.kind.Kind.{Kind}
use Rattle.parameters.specs.declared.kind.Kind.TheVariants as K

unfoldable pub kind_of : ℤ → Kind
kind_of n =
    cond (is_type n 1) K.Rhombic
    (cond (is_type n 2) K.Monopole
    (cond (is_type n 3) K.Dipole
    (cond (is_type n 4) K.Yagi
    (cond (is_type n 5) K.LogPeriodic
    (cond (is_type n 6) K.Curtain
    (cond (is_type n 7) K.SlopingVee
    (cond (is_type n 8) K.InvertedL
    (cond (is_type n 9) K.SlopingRhombic
    (cond (is_type n 10) K.InterlacedRhombic K.Other)))))))))

-- a type's number, 0 of any other
abbrev pub number_of : Kind → ℕ
number_of K.Rhombic = 1
number_of K.Monopole = 2
number_of K.Dipole = 3
number_of K.Yagi = 4
number_of K.LogPeriodic = 5
number_of K.Curtain = 6
number_of K.SlopingVee = 7
number_of K.InvertedL = 8
number_of K.SlopingRhombic = 9
number_of K.InterlacedRhombic = 10
number_of K.Other = 0

-- the type has the number n
abbrev pub is_kind : Kind → ℕ → Bool
is_kind kind n = eqb (number_of kind) n
