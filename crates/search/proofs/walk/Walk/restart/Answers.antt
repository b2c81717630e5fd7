use Rattle.std.proofs.Common.{Result, Ok, Err, MatchBool, MatchResult, is_ok, reverse, ap}
use Rattle.order.specs.Before.{Clash}
use Rattle.saturation.specs.Nodes.{Exact}
use Rattle.saturation.specs.Recorded.{history_in}
use Rattle.saturation.specs.declared.relation.Cycle.{Cycle}
use Rattle.saturation.proofs.Records.{record_well}
use Rattle.search.proofs.Ways.{begins_walking}
use Rattle.search.proofs.walk.Walk.restart.Goals as goal

told : (A B : Type 0) (r : Result Unit Cycle) → MatchBool (is_ok r) A B → MatchResult r (λ _. A) (λ _. B)
told A B (Ok x) y = y
told A B (Err e) y = y

pub returns : goal.returns
returns g c =
    let h = history_in c.args.given.record.now in
    let S = c.args.given.pairs.now in
    begins_walking h S _ (record_well c.args.given.record.now) c.args.given.inside c.of-self.ensures
    (told (Exact h S c.root-self.new.self) (Clash h S) c.root-self.result (c.root-self.ensures.node c.of-self.ensures)) (ap reverse c.clear-2.ensures)
