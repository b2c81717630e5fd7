use Rattle.std.proofs.Common.{rules, ◌∙◌}
use Rattle.order.specs.Opening.{writes_first}
use Rattle.opening.proofs.Firsts.{first_next}
use Rattle.opening.proofs.checks.Unchecked.check_writes.Goals as goal

pub returns : goal.returns
returns c = c.check.ensures 14 (writes_first c.args.self.now.events.now) (λ i b l h. first_next c.args.self.now.events.now i l ∙ search rules) (λ n f l m. search rules)
