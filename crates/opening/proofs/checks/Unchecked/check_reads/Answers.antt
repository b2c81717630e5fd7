use Rattle.std.proofs.Common.{rules, ◌∙◌}
use Rattle.order.specs.Opening.{reads_written}
use Rattle.opening.proofs.Firsts.{reads_next}
use Rattle.opening.proofs.checks.Unchecked.check_reads.Goals as goal

pub returns : goal.returns
returns c = c.check.ensures 15 (reads_written c.args.self.now.events.now) (λ i b l h. reads_next c.args.self.now.events.now i l ∙ search rules) (λ n f l m. search rules)
