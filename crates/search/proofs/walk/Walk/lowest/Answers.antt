use Rattle.std.proofs.Common.{Some, None, ◌≡◌, min, sym, ap, ◌∙◌, rules}
use Rattle.search.specs.Walks.{choices_of, from_of}
use Rattle.search.proofs.Ways.{latest_last}
use Rattle.search.proofs.walk.Walk.lowest.Goals as goal

pub returns-in-None : goal.returns-in-None
returns-in-None g c = sym (ap from_of (latest_last c.args.self.now.choices.items _ None c.deref.ensures.0 c.in-None.ensures.value))

pub returns-in-Some : goal.returns-in-Some
returns-in-Some g c =
    let top = latest_last c.args.self.now.choices.items _ (Some c.in-Some.c.now) c.deref.ensures.0 c.in-Some.ensures.value in
    let least : from_of (choices_of c.args.self.now) ≡ min c.in-Some.c.now.first c.in-Some.c.now.second = ap from_of top.1 in
    search (rules, least)
