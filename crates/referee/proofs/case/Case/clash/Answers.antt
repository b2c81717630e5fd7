use Rattle.std.proofs.Common.{arith}
use Rattle.referee.proofs.Looks.{clash_below}
use Rattle.referee.proofs.case.Case.clash.Goals as goal

pub overflow_cast-result : goal.overflow_cast-result
overflow_cast-result c =
    let o = c.args.self.now in
    let b = clash_below o c.in-Some.x (rw (c.stipulated.ensures.record, c.stipulated.ensures.pairs) at c.in-Some.ensures) in
    omega arith

pub overflow_add-result : goal.overflow_add-result
overflow_add-result c =
    let o = c.args.self.now in
    let b = clash_below o c.in-Some.x (rw (c.stipulated.ensures.record, c.stipulated.ensures.pairs) at c.in-Some.ensures) in
    omega arith
