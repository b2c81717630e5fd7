use Rattle.std.proofs.Common.{◌≡◌, ◌+◌, length, sym, ap, ◌∙◌, rules, arith}
use Rattle.history.specs.Lists.{numbered}
use Rattle.history.proofs.Numbered.{drop_some, drop_none}
use Rattle.history.proofs.events.EventsIterator.next.Goals as goal

pub returns-in_err-event-clause-steps : goal.returns-in_err-event-clause-steps
returns-in_err-event-clause-steps g c =
    let s = c.args.self.now in
    let none = drop_none (g.S.Source.events s.source.now) s.given c.in_ok-next.next (omega (arith, c.in_ok-next.ensures)) (sym c.event.ensures ∙ c.in_err-event.was) in
    search (rules, none)

pub returns-clause-steps : goal.returns-clause-steps
returns-clause-steps g c =
    let s = c.args.self.now in
    let es = g.S.Source.events s.source.now in
    let is : c.in_ok-next.next ≡ s.given + 1 = omega (arith, c.in_ok-next.ensures) in
    drop_some es s.given _ c.in_ok-event.event (omega (arith, is)) (ap (numbered es) (omega (arith, is)) ∙ sym c.event.ensures ∙ c.in_ok-event.was)

pub returns-clause-goes : goal.returns-clause-goes
returns-clause-goes g c =
    let some = ap length (returns-clause-steps g c) in
    record { on = λ _. (tt, tt, omega (arith, some)); keeps = tt; rests = λ _. tt }
