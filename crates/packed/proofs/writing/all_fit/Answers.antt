use Rattle.std.proofs.Common.{rules}
use borrow.Author.Tests.{tests}
use Rattle.std.proofs.lemmas.Iterator.Consumers.{YieldsList-from_first}
use Rattle.std.proofs.lemmas.Iterator.Search.{all_from_yields_List}
use Rattle.history.specs.Events.{counted_left}
use Rattle.history.specs.Limits.{within_limits}
use Rattle.packed.proofs.writing.all_fit.Goals as goal

pub returns : goal.returns
returns g c =
    let es = g.S.Source.events c.args.source.now in
    all_from_yields_List within_limits c.all.new.self _ c.all.result c.all.ensures.ran
    (YieldsList-from_first (λ x. x) (counted_left g.S.Source.events) es c.iter_counted.ensures) (λ x r q k. search (rules, tests))
