use Rattle.std.proofs.Common.{◌≡◌, suc, filter, sym, ap, ◌∙◌, rules, arith}
use borrow.Author.Tests.{tests}
use Rattle.std.proofs.lemmas.Iterator.Adapters.{option_map_id}
use Rattle.std.proofs.lemmas.Iterator.Consumers.{YieldsList-from_first, YieldsList-from_filter, YieldsList-at, nth_from_yields_List}
use Rattle.std.specs.List.{slice_get}
use Rattle.history.specs.Events.{counted_left}
use Rattle.history.specs.Layers.{of_star}
use Rattle.history.specs.Lists.{numbered}
use Rattle.history.proofs.layers.PickSource.event.Goals as goal

pub returns : goal.returns
returns g c =
    let p = of_star c.args.self.now.star in
    let es = g.S.Source.events c.args.self.now.below in
    let found : c.nth.result ≡ slice_get (filter p es) c.in_ok-place.place =
    sym (option_map_id c.nth.result)
    ∙ nth_from_yields_List c.nth.result c.nth.new.self c.in_ok-place.place c.nth.ensures.ran
    (YieldsList-from_filter _ p
    (YieldsList-at c.filter.ensures.source (YieldsList-from_first (λ x. x) (counted_left g.S.Source.events) es c.iter_counted.ensures))
    c.filter.ensures.closure (λ x r q k. search (rules, tests))) in
    let is : c.args.number ≡ suc c.in_ok-place.place = omega (arith, c.in_ok-place.ensures.0, c.in_ok-place.ensures.1) in
    found ∙ ap (numbered (filter p es)) (sym is)
