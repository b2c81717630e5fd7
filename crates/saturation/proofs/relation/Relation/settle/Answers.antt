use Rattle.std.proofs.lemmas.Result.{MatchResult-weaker}
use Rattle.saturation.specs.Relations.{earlier}
use Rattle.saturation.proofs.Trails.{kept_then}
use Rattle.saturation.proofs.Steps.{forced_then, doomed_then, both_rules}
use Rattle.saturation.proofs.relation.Relation.settle.Goals as goal

pub returns : goal.returns
returns g c =
    let f = c.args.facts.now in
    let o = c.args.self.now in
    let p = c.before_sources.new.self in
    let q = c.readers_first.new.self in
    let a = c.in_ok-before_sources.ensures.rule in
    record {
      kept = kept_then o p q c.before_sources.ensures.kept c.readers_first.ensures.kept;
      rule = MatchResult-weaker c.readers_first.result c.readers_first.ensures.rule
          (λ _ b. (forced_then f o p q a.0 b.0, both_rules f o p q c.args.w a.0 b.0 a.1 b.1))
          (λ _. doomed_then f (earlier o) (earlier p) a.0.grown);
    }
