use Rattle.std.proofs.Common.{refl, rules}
use Rattle.sets.specs.Sets.{Empty}
use Rattle.sets.proofs.Words.{zero_bit}
use Rattle.sets.proofs.Pops.{popped_at}
use Rattle.sets.proofs.set.EventSet.pop.Goals as goal

pub returns-in_err-i : goal.returns-in_err-i
returns-in_err-i g c =
    let none : Empty c.args.self.now = zero_bit c.args.self.now.words c.in_err-i.ensures in
    search rules

pub returns : goal.returns
returns g c =
    let h = c.in_ok-i.ensures in
    let p = popped_at g.row.W c.args.self.now.words c.args.self.now.words c.in_ok-i.i refl h.2 h.0 (search rules) (search rules) h.1 in
    record { inside = p.0; was = p.1; lowest = p.2; rest = p.3 }
