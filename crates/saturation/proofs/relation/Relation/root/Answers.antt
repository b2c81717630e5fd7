use Rattle.std.proofs.Common.{◌≡◌, sym, ◌∙◌, arith, rules}
use Rattle.std.proofs.lemmas.Bool.{true≢false}
use Rattle.std.proofs.lemmas.Result.{err_from_is_err_and}
use Rattle.saturation.specs.Laws.{Ready}
use Rattle.saturation.specs.Rooting.{PairsUpTo}
use Rattle.saturation.proofs.Trails.{kept_then}
use Rattle.saturation.proofs.Steps.{after_ok, answered}
use Rattle.saturation.proofs.Records.{record_count}
use Rattle.saturation.proofs.Roots.{events_clash, pairs_clash, rules_clash, root_ready, root_exact}
use Rattle.saturation.proofs.relation.Relation.root.Goals as goal

pub link_pairs-requires : goal.link_pairs-requires
link_pairs-requires g c =
    let e = c.link_events.ensures.kept.events in
    let n = record_count c.args.given.record.now in
    let k = c.requires.events.0 in
    let all : PairsUpTo c.link_events.new.self.count c.args.given.pairs.now
    = λ a b m. let p = c.args.given.inside a b m in let u = p.0.high in let v = p.1.high in (p.0.low, omega arith, p.1.low, omega arith) in
    search rules

pub saturate-requires : goal.saturate-requires
saturate-requires g c =
    let a = c.in_ok-link_events.ensures.pairs in
    let b = c.in_ok-link_pairs.ensures.pairs in
    let q = c.link_pairs.new.self in
    let ready : Ready c.args.facts.now q
    = root_ready c.args.given.record.now c.args.given.pairs.now c.args.given.inside c.args.self.now c.requires.bare c.link_events.new.self a q b c.args.facts.now in
    let e : c.args.facts.now.count ≡ q.count = c.requires.events.1 ∙ sym (c.link_pairs.ensures.kept.events ∙ c.link_events.ensures.kept.events) in
    search rules

pub returns-in_err-link_events : goal.returns-in_err-link_events
returns-in_err-link_events g c =
    let e = err_from_is_err_and c.from_residual.result c.from_residual.ensures.1 in
    rw e.1 (record {
      kept = c.link_events.ensures.kept;
      closed = λ t. absurd (true≢false (sym t));
      node = λ facts. events_clash c.args.given.record.now c.args.given.pairs.now c.args.given.inside c.args.self.now c.requires.bare c.in_err-link_events.ensures.pairs;
    })

pub returns-in_err-link_pairs : goal.returns-in_err-link_pairs
returns-in_err-link_pairs g c =
    let o = c.args.self.now in
    let p = c.link_events.new.self in
    let q = c.link_pairs.new.self in
    let e = err_from_is_err_and c.from_residual-in_err-link_pairs.result c.from_residual-in_err-link_pairs.ensures.1 in
    rw e.1 (record {
      kept = kept_then o p q c.link_events.ensures.kept c.link_pairs.ensures.kept;
      closed = λ t. absurd (true≢false (sym t));
      node = λ facts. pairs_clash c.args.given.record.now c.args.given.pairs.now c.args.given.inside o c.requires.bare p c.in_ok-link_events.ensures.pairs c.in_err-link_pairs.ensures.pairs;
    })

pub returns : goal.returns
returns g c =
    let o = c.args.self.now in
    let p = c.link_events.new.self in
    let q = c.link_pairs.new.self in
    let z = c.saturate.new.self in
    let a = c.in_ok-link_events.ensures.pairs in
    let b = c.in_ok-link_pairs.ensures.pairs in
    let kept = kept_then o q z (kept_then o p q c.link_events.ensures.kept c.link_pairs.ensures.kept) c.saturate.ensures.kept in
    record {
      kept = kept;
      closed = λ t. (after_ok _ _ t c.saturate.ensures.closed).closed;
      node = λ facts.
          answered c.saturate.result
          (λ s. root_exact c.args.given.record.now c.args.given.pairs.now c.args.given.inside o c.requires.bare p a q b facts z s (kept.events ∙ sym c.requires.events.0))
          (rules_clash c.args.given.record.now c.args.given.pairs.now c.args.given.inside o c.requires.bare p a q b facts)
          c.saturate.ensures.closed;
    }
