use Rattle.std.proofs.Common.{length, sym, ap, ◌∙◌, arith}
use Rattle.history.proofs.Numbered.{left_some}
use Rattle.history.proofs.events.CountedIterator.next.Goals as goal

pub returns-clause-steps : goal.returns-clause-steps
returns-clause-steps g c =
    let s = c.args.self.now in
    left_some (g.S.Source.events s.source.now) s.count s.given _ c.in_ok-event.event (omega (arith, c.if-self.false)) (omega arith) (sym c.event.ensures ∙ c.in_ok-event.was)

pub returns-clause-goes : goal.returns-clause-goes
returns-clause-goes g c =
    let some = ap length (returns-clause-steps g c) in
    record { on = λ _. (tt, tt, omega (arith, some)); keeps = tt; rests = λ _. tt }
