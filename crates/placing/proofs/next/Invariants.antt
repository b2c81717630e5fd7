use Rattle.placing.specs.Placing.{Next}
use Rattle.placing.proofs.next.Given as goal

abbrev pub invariant-loop-x : goal.invariant-loop-x
invariant-loop-x g l = Next (g.P.Preference.prefers l.preference) l.events l.rows l.placed l.x l.best
