-- Lines of words and numbers.
use Rattle.std.specs.Prelude.{ℕ, List, [], ◌∷◌, ◌++◌, decimal}

-- A word with a number behind it, as the end of a line; byte 10 ends it.
abbrev pub number_line : List ℕ → ℕ → List ℕ
number_line word n = word ++ (decimal n ++ (10 ∷ []))

-- A line of two words, each with a number behind it, as `season 2031 events 3`.
abbrev pub pair_line : List ℕ → ℕ → List ℕ → ℕ → List ℕ
pair_line first m second n = first ++ (decimal m ++ number_line second n)
