use Rattle.std.proofs.Common.{arith}
use Rattle.saturation.specs.Recorded.{history_in}
use Rattle.referee.specs.Meaning.{pairs_of}
use Rattle.referee.proofs.Steps.{judge_turn, no_budget_turn}
use Rattle.referee.proofs.case.Case.judge.Goals as goal

pub returns-then-budget-eq0-clause-law : goal.returns-then-budget-eq0-clause-law
returns-then-budget-eq0-clause-law c =
    let o = c.args.self.now in
    no_budget_turn (history_in o.recorded) (pairs_of o) o.state c.args.budget c.in_ok-check_open.ensures.open c.if-budget-eq0.true

pub returns-clause-law : goal.returns-clause-law
returns-clause-law c =
    let o = c.args.self.now in
    let d = c.decide-found.ensures in
    let j = c.decide-found.result in
    let law = judge_turn (history_in o.recorded) (pairs_of o) o.state c.args.budget j c.in_ok-check_open.ensures.open (omega (arith, c.if-budget-eq0.false)) d.finds in
    rw (d.history, d.pairs) law
