use Rattle.saturation.specs.Laws.{Closed}
use Rattle.closure.proofs.Raises.{raised_then, both_rules}
use Rattle.closure.proofs.reach.Closure.settle.Goals as goal

pub returns : goal.returns
returns g c =
    let f = c.args.facts.now in
    let o = c.args.self.now in
    let p = c.before_sources.new.self in
    let q = c.readers_first.new.self in
    let a = c.before_sources.ensures in
    let b = c.readers_first.ensures in
    record {
      raised = raised_then (Closed f) o p q a.raised b.raised;
      rule = both_rules f o p q c.args.w a.raised b.raised a.rule b.rule;
    }
