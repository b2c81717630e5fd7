use Rattle.std.proofs.Common.{◌≡◌, ◌++◌, take}
use Rattle.full_report.specs.Text.{numbers_text}
use Rattle.full_report.proofs.lines.push_order_line.Given as goal

abbrev pub invariant-loop-n : goal.invariant-loop-n
invariant-loop-n l = l.text.bytes ≡ l.initial.text.bytes ++ numbers_text (take l.n-index l.numbers)
