-- The lines of a report.
use Rattle.std.specs.Prelude.{ℕ, List, [], ◌∷◌, ◌++◌, codes, decimal}
use Rattle.std.specs.List.{flat_map}
use Rattle.packed.specs.declared.header.Header.{Header}
use Rattle.text.specs.Lines.{number_line}
use Rattle.report.specs.Reports.{header_line}

-- The line with a verdict's word and the steps, as `verdict serial steps 1`.
abbrev pub verdict_line : List ℕ → ℕ → List ℕ
verdict_line word steps = codes "verdict " ++ (word ++ number_line (codes " steps ") steps)

-- A number with a blank ahead of it.
abbrev pub blank_number : ℕ → List ℕ
blank_number n = 32 ∷ decimal n

-- Numbers, a blank ahead of each.
abbrev pub numbers_text : List ℕ → List ℕ
numbers_text = flat_map blank_number

-- The line with an order, as `order 2 3 1`.
abbrev pub order_line : List ℕ → List ℕ
order_line σ = codes "order" ++ (numbers_text σ ++ (10 ∷ []))

-- The report on a judged history: season and count, then the verdict's word and the steps.
abbrev pub judged_text : Header → List ℕ → ℕ → List ℕ
judged_text h word steps = header_line h ++ verdict_line word steps

-- The report on a history with a serial order: the order stands in a line of its own.
abbrev pub serial_text : Header → ℕ → List ℕ → List ℕ
serial_text h steps σ = judged_text h (codes "serial") steps ++ order_line σ
