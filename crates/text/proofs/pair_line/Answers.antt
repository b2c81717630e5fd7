use Rattle.std.proofs.Common.{length, decimal, ap, ◌∙◌, arith, length-append}
use Rattle.text.specs.Lines.{number_line}
use Rattle.text.proofs.Sizes.{digits_64, number_line_short}
use Rattle.text.proofs.pair_line.Goals as goal

pub push_number-requires : goal.push_number-requires
push_number-requires c = omega (arith, digits_64 c.args.m (omega arith), ap length c.new-text.ensures)

pub push_number_line-requires : goal.push_number_line-requires
push_number_line-requires c =
    let front = ap length c.push_number.ensures ∙ length-append c.push_str.new.self.bytes (decimal c.args.m) in
    omega (arith, front, digits_64 c.args.m (omega arith), number_line_short c.args.second.now c.args.n (omega arith), ap length c.new-text.ensures)

pub returns-clause-short : goal.returns-clause-short
returns-clause-short c =
    let front = ap length c.push_number.ensures ∙ length-append c.push_str.new.self.bytes (decimal c.args.m) in
    let whole = ap length c.push_number_line.ensures ∙ length-append c.push_number.new.text.bytes (number_line c.args.second.now c.args.n) in
    omega (arith, front, whole, digits_64 c.args.m (omega arith), number_line_short c.args.second.now c.args.n (omega arith), ap length c.new-text.ensures)
