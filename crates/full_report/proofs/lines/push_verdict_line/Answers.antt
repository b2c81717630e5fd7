use Rattle.std.proofs.Common.{codes, arith}
use Rattle.text.proofs.Sizes.{number_line_short}
use Rattle.full_report.proofs.lines.push_verdict_line.Goals as goal

pub push_number_line-requires : goal.push_number_line-requires
push_number_line-requires c = omega (arith, number_line_short (codes " steps ") c.into.result (omega arith))
