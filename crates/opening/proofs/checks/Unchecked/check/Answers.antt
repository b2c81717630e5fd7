use Rattle.std.proofs.Common.{◌≡◌, ◌+◌, true, false, length, Some, sym, ap, ◌∙◌, subst, arith}
use Rattle.history.specs.declared.event.Event.{Event}
use Rattle.opening.proofs.Firsts.{one_more_passes, first_fails, event_next}
use Rattle.opening.proofs.checks.Unchecked.check.Goals as goal

pub returns-then-not-passes : goal.returns-then-not-passes
returns-then-not-passes g c number test answers makes =
    let es = c.args.self.now.events.now in
    let i = c.loop-i.i in
    let here = subst (λ (e : Event). goal.P-post g c.args.passes i e false) (sym (event_next es i)) c.if-not-passes.ensures in
    let fails : test (i + 1) ≡ false = answers i false c.loop-i-test.true here in
    let made = makes (i + 1) c.fault.result (omega arith) c.fault.ensures in
    (first_fails test (length es) i c.loop-i-test.true (c.loop-i.invariant test answers) fails ∙ ap Some (sym made.0), made.1)

pub loop-i-preserved : goal.loop-i-preserved
loop-i-preserved g c test answers =
    let es = c.args.self.now.events.now in
    let i = c.loop-i.i in
    let here = subst (λ (e : Event). goal.P-post g c.args.passes i e true) (sym (event_next es i)) c.if-not-passes.ensures in
    one_more_passes test i (c.loop-i.invariant test answers) (answers i true c.loop-i-test.true here)
