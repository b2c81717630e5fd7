use Rattle.std.proofs.Common.{arith}
use Rattle.saturation.specs.Recorded.{history_in}
use Rattle.search.specs.Walks.{After}
use Rattle.search.proofs.Memory.{walk_small}
use Rattle.search.proofs.tree.Search.restart.Goals as goal

pub restart-requires : goal.restart-requires
restart-requires g c = (walk_small c.args.self.now.walk.roomy, omega arith)

pub invariant_of-self : goal.invariant_of-self
unfolding After
invariant_of-self g c = record { sound = λ _. ∣ (history_in c.args.given.record.now, c.args.given.pairs.now, c.restart.ensures) ∣₁ }

pub returns-clause-search : goal.returns-clause-search
unfolding After
returns-clause-search g c = c.restart.ensures
