-- Document 01 section 9: the lookup and the cone through C. Where there is no efficiency and no height left it is 0. Definitions only.
use Rattle.std.specs.Prelude.{ℕ, List, Float}
use Rattle.single.specs.Single.{num}
use Rattle.antenna.specs.ByteTables.{table_of}
use Rattle.inverted_cone.specs.InvertedCone.{invcon_number, invcon_value}
use Rattle.antenna.specs.Lookups.{gain_lookup_number, gain_lookup_values}
use Rattle.capi.specs.Answer.{answer_bytes, answered, numbered}

-- 7 of either slice, then 2
unfoldable pub lookup_result : List ℕ → Float → Float → List ℕ → ℕ
lookup_result table fmc delta answer = numbered answer (gain_lookup_number (table_of table) fmc delta)

unfoldable pub lookup_answer : List ℕ → Float → Float → List ℕ → List ℕ
lookup_answer table fmc delta answer =
    let v = gain_lookup_values (table_of table) fmc delta in
    answered answer (answer_bytes v.gain v.efficiency (num 0 1))

-- 7, then 2
unfoldable pub cone_result : Float → Float → List ℕ → ℕ
cone_result freq elev answer = numbered answer (invcon_number freq elev)

unfoldable pub cone_answer : Float → Float → List ℕ → List ℕ
cone_answer freq elev answer = answered answer (answer_bytes (invcon_value freq elev) (num 0 1) (num 0 1))
