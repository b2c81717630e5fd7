use Rattle.std.proofs.Common.{◌≡◌, suc, sym, ap, ◌∙◌, arith}
use Rattle.history.specs.Lists.{numbered}
use Rattle.history.proofs.Numbered.{numbered_take, item_nth}
use Rattle.history.proofs.source.TableSource.event.Goals as goal

pub returns : goal.returns
returns c =
    let es = c.args.self.now.events.now in
    let i = c.in_ok-index.index in
    let n = c.args.number in
    let is : n ≡ suc i = omega (arith, c.in_ok-index.ensures.0, c.in_ok-index.ensures.1) in
    c.copied.ensures ∙ item_nth es i c.get.result c.get.ensures.lookup ∙ sym (numbered_take 65535 es n (omega (arith, c.ranges.number.fits)) ∙ ap (numbered es) is)
