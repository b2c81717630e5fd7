use Rattle.std.proofs.Common.{sym, rules}
use Rattle.saturation.proofs.Parts.{in_part}
use Rattle.saturation.proofs.saturate.Facts.ties.Goals as goal

pub returns-clause-others : goal.returns-clause-others
returns-clause-others g c r = sym (in_part (λ t. t.others) c.args.self.now.ties c.args.x _ (search rules) r)

pub returns-clause-mates : goal.returns-clause-mates
returns-clause-mates g c q = sym (in_part (λ t. t.mates) c.args.self.now.ties c.args.x _ (search rules) q)

pub returns-clause-takers : goal.returns-clause-takers
returns-clause-takers g c r = sym (in_part (λ t. t.takers) c.args.self.now.ties c.args.x _ (search rules) r)
