use Rattle.std.proofs.Common.{◌≡◌, ◌++◌}
use Rattle.history.specs.Events.{counted_left}
use Rattle.opening.proofs.copying.copied.Given as goal

abbrev pub invariant-loop-e : goal.invariant-loop-e
invariant-loop-e g l = l.events.items ++ counted_left g.S.Source.events l.e-iterator ≡ g.S.Source.events l.source
