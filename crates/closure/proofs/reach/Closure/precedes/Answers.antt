use Rattle.std.proofs.Common.{sym, ◌∙◌, rules}
use Rattle.sets.proofs.Backs.{in_get}
use Rattle.closure.proofs.reach.Closure.precedes.Goals as goal

pub returns : goal.returns
returns g c = c.contains.ensures ∙ sym (in_get c.args.self.now.after c.args.x _ (search rules) c.args.y)
