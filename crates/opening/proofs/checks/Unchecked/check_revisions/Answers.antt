use Rattle.std.proofs.Common.{rules}
use Rattle.order.specs.Opening.{writes_revision}
use Rattle.opening.proofs.checks.Unchecked.check_revisions.Goals as goal

pub returns : goal.returns
returns c = c.check.ensures 13 (writes_revision c.args.self.now.events.now) (λ i b l h. search rules) (λ n f l m. search rules)
