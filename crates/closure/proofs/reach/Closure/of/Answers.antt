use Rattle.std.proofs.Common.{◌≡◌, sym, ◌∙◌, arith, rules}
use Rattle.saturation.specs.Rooting.{PairsUpTo}
use Rattle.saturation.proofs.Memory.{case_small, facts_small}
use Rattle.saturation.proofs.Records.{record_count}
use Rattle.closure.specs.Closures.{Ready}
use Rattle.closure.proofs.Fills.{filled_ready, filled_exact}
use Rattle.closure.proofs.reach.Closure.of.Goals as goal

pub of-facts-requires : goal.of-facts-requires
of-facts-requires g c =
    let r = c.args.given.record.now in
    (case_small g.row.N g.row.W 0 r.wide r.narrow, facts_small g.row.N g.row.W 0 r.wide r.narrow)

pub link_pairs-requires : goal.link_pairs-requires
link_pairs-requires g c =
    let e = c.link_events.ensures.raised.events in
    let n = record_count c.args.given.record.now in
    let k = c.new-closure.ensures.count ∙ c.count.ensures in
    let all : PairsUpTo c.link_events.new.self.count c.args.given.pairs.now
    = λ a b m. let p = c.args.given.inside a b m in let u = p.0.high in let v = p.1.high in (p.0.low, omega arith, p.1.low, omega arith) in
    search rules

pub saturate-requires : goal.saturate-requires
saturate-requires g c =
    let r = c.args.given.record.now in
    let f = c.of-facts.result in
    let small = facts_small g.row.N g.row.W 0 r.wide r.narrow in
    let ready : Ready c.of-facts.result c.link_pairs.new.self
    = filled_ready r c.args.given.pairs.now c.new-closure.result c.link_events.new.self c.link_pairs.new.self c.new-closure.ensures.none c.link_events.ensures.raised c.link_pairs.ensures.raised f in
    let e : c.of-facts.result.count ≡ c.link_pairs.new.self.count
    = c.of-facts.ensures.events ∙ record_count r ∙ sym (c.link_pairs.ensures.raised.events ∙ c.link_events.ensures.raised.events ∙ c.new-closure.ensures.count ∙ c.count.ensures) in
    search rules

pub returns : goal.returns
returns g c =
    filled_exact c.args.given.record.now c.args.given.pairs.now c.new-closure.result c.link_events.new.self c.link_pairs.new.self c.new-closure.ensures.none
    c.link_events.ensures.raised c.link_pairs.ensures.raised c.of-facts.result c.args.given.inside c.of-facts.ensures (c.new-closure.ensures.count ∙ c.count.ensures)
    c.link_events.ensures.linked c.link_pairs.ensures.linked c.saturate.new.self c.saturate.ensures.finished
