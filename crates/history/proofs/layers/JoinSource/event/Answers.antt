use Rattle.std.proofs.Common.{◌-◌, ◌++◌, sym, ap, ◌∙◌, arith}
use Rattle.history.specs.Lists.{numbered}
use Rattle.history.proofs.Numbered.{numbered_take, numbered_left, numbered_right}
use Rattle.history.proofs.layers.JoinSource.event.Goals as goal

pub returns-then-number-n : goal.returns-then-number-n
returns-then-number-n g c =
    let xs = g.L.Source.events c.args.self.now.first in
    let ys = g.R.Source.events c.args.self.now.second in
    let n = c.args.number in
    c.event.ensures ∙ sym (numbered_take 65535 (xs ++ ys) n (omega arith) ∙ numbered_left xs ys n (omega arith))

pub returns-else-number-n : goal.returns-else-number-n
returns-else-number-n g c =
    let xs = g.L.Source.events c.args.self.now.first in
    let ys = g.R.Source.events c.args.self.now.second in
    let n = c.args.number in
    c.event-else-number-n.ensures
    ∙ ap (λ k. numbered ys (n - k)) c.count-n.ensures
    ∙ sym (numbered_take 65535 (xs ++ ys) n (omega arith) ∙ numbered_right xs ys n (omega arith))
