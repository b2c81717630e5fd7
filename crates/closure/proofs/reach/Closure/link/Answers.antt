use Rattle.std.proofs.Common.{sym, ◌∙◌}
use Rattle.closure.proofs.Raises.{joined_already}
use Rattle.closure.proofs.reach.Closure.link.Goals as goal

pub returns-else-not-precedes : goal.returns-else-not-precedes
returns-else-not-precedes g c = joined_already c.args.self.now c.args.u c.args.v (sym c.precedes.ensures ∙ c.if-not-precedes.false)
