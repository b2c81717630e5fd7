use Rattle.referee.proofs.Cases.{inside_events}
use Rattle.referee.proofs.case.Case.stipulated.Goals as goal

pub invariant_of-result : goal.invariant_of-result
invariant_of-result c = record { inside = rw c.as_slice.ensures.value (inside_events c.args.self.now) }
