use Rattle.std.proofs.Common.{◌≡◌, sym, ◌∙◌, subst, arith, rules}
use Rattle.saturation.specs.Rooting.{PairsUpTo}
use Rattle.closure.specs.Closures.{RowsBelow}
use Rattle.closure.proofs.Rows.{filled_by}
use Rattle.closure.proofs.reach.Closure.filled.Goals as goal

pub link_rows-requires : goal.link_rows-requires
link_rows-requires g c =
    let e : c.new-closure.result.count ≡ c.args.facts.now.count = c.new-closure.ensures.count ∙ c.count.ensures in
    let below : RowsBelow c.new-closure.result.count c.args.kept.now = λ x y h. let l = c.requires.keeps x y h in omega arith in
    search rules

pub link_rows-requires-2 : goal.link_rows-requires-2
link_rows-requires-2 g c =
    let e : c.link_rows.new.self.count ≡ c.args.facts.now.count = c.link_rows.ensures.raised.events ∙ c.new-closure.ensures.count ∙ c.count.ensures in
    let below : RowsBelow c.link_rows.new.self.count c.args.starts.now = λ x y h. let l = c.requires.opens x y h in omega arith in
    search rules

pub link_takers-requires : goal.link_takers-requires
link_takers-requires g c =
    let e : c.args.facts.now.count ≡ c.link_rows-2.new.self.count
    = sym (c.link_rows-2.ensures.raised.events ∙ c.link_rows.ensures.raised.events ∙ c.new-closure.ensures.count ∙ c.count.ensures) in
    search rules

pub link_pairs-requires : goal.link_pairs-requires
link_pairs-requires g c =
    let e : c.args.facts.now.count ≡ c.link_takers.new.self.count
    = sym (c.link_takers.ensures.raised.events ∙ c.link_rows-2.ensures.raised.events ∙ c.link_rows.ensures.raised.events ∙ c.new-closure.ensures.count ∙ c.count.ensures) in
    let within : PairsUpTo c.link_takers.new.self.count c.args.pairs.now = subst (λ n. PairsUpTo n c.args.pairs.now) e c.requires.pairs in
    search rules

pub returns : goal.returns
returns g c =
    filled_by c.args.facts.now c.args.kept.now c.args.starts.now c.args.pairs.now
    c.new-closure.result c.link_rows.new.self c.link_rows-2.new.self c.link_takers.new.self c.link_pairs.new.self
    (c.new-closure.ensures.count ∙ c.count.ensures) c.new-closure.ensures.none
    c.link_rows.ensures.linked c.link_rows.ensures.raised
    c.link_rows-2.ensures.linked c.link_rows-2.ensures.raised
    c.link_takers.ensures.linked c.link_takers.ensures.raised
    c.link_pairs.ensures.linked c.link_pairs.ensures.raised
