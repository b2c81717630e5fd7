use Rattle.std.proofs.Common.{arith}
use Rattle.history.specs.Layers.{shifted}
use Rattle.history.proofs.Numbered.{numbered_map}
use Rattle.history.proofs.layers.OffsetSource.event.Goals as goal

pub returns : goal.returns
returns g c =
    let o = c.args.self.now in
    let m = numbered_map (shifted o.sessions o.revisions) (g.S.Source.events o.below) c.args.number in
    grind arith
