use Rattle.std.proofs.Common.{sym, ◌∙◌, rules}
use Rattle.sets.proofs.Backs.{in_get}
use Rattle.closure.proofs.reach.fn.Closure.lowest_clash.find.Goals as goal

pub returns : goal.returns
returns g c = c.contains.ensures ∙ sym (in_get c.captures.self.now.after c.args.arg1.now _ (search rules) c.args.arg1.now)
