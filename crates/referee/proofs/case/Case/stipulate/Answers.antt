use Rattle.std.proofs.Common.{T, subst, arith}
use Rattle.order.specs.Calls.{accepts}
use Rattle.order.proofs.Ledger.{accepted_writes}
use Rattle.order.specs.History.{count}
use Rattle.saturation.specs.Recorded.{history_in}
use Rattle.saturation.proofs.Records.{record_count}
use Rattle.referee.specs.Meaning.{pairs_of}
use Rattle.referee.proofs.Steps.{one_more_pair}
use Rattle.referee.proofs.case.Case.stipulate.Goals as goal

pub invariant_of-self-clause-inside : goal.invariant_of-self-clause-inside
invariant_of-self-clause-inside c =
    let o = c.args.self.now in
    let w = accepted_writes (history_in o.recorded) (pairs_of o) c.args.first c.args.second (subst (λ z. T (accepts z)) c.in_ok-check_pair.ensures tt) in
    let m = w.first.number in
    let n = w.second.number in
    let e = record_count o.recorded in
    rw c.push.ensures.items (one_more_pair (count (history_in o.recorded)) (pairs_of o) c.args.first c.args.second (m.low, omega (arith, m.high), n.low, omega (arith, n.high)) o.inside)
