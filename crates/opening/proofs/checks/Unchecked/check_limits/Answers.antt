use Rattle.std.proofs.Common.{rules}
use Rattle.order.specs.Opening.{keeps_limits}
use Rattle.opening.proofs.checks.Unchecked.check_limits.Goals as goal

pub returns : goal.returns
returns c = c.check.ensures 12 (keeps_limits c.args.self.now.events.now) (λ i b l h. search rules) (λ n f l m. search rules)
