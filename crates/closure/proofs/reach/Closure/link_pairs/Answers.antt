use Rattle.std.proofs.Common.{◌≡◌, ℕ, ◌-◌, ◌<◌, true, get_or, arith, rules, below_more}
use Rattle.closure.specs.Closures.{earlier, HasPairs}
use Rattle.closure.proofs.Raises.{raised_same, raised_then, raised_link}
use Rattle.closure.proofs.Fills.{pair_within, pair_linked, pairs_linked}
use Rattle.closure.proofs.reach.Closure.link_pairs.Goals as goal

pub loop-a-init : goal.loop-a-init
loop-a-init g c = (raised_same (HasPairs c.args.pairs.now) c.args.self.now, λ k l. absurd (omega arith))

pub overflow_sub-a : goal.overflow_sub-a
overflow_sub-a g c = (pair_within c.args.self.now.count c.args.pairs.now c.loop-a.a-index c.requires c.loop-a-test.true).0

pub overflow_sub-b : goal.overflow_sub-b
overflow_sub-b g c = (pair_within c.args.self.now.count c.args.pairs.now c.loop-a.a-index c.requires c.loop-a-test.true).2

pub link-requires : goal.link-requires
link-requires g c =
    let w = pair_within c.args.self.now.count c.args.pairs.now c.loop-a.a-index c.requires c.loop-a-test.true in
    let e = c.loop-a.invariant.0.events in
    let lx : (get_or c.args.pairs.now c.loop-a.a-index (0, 0)).0 - 1 < c.loop-a.self.count = let a = w.0 in let b = w.1 in omega arith in
    let ly : (get_or c.args.pairs.now c.loop-a.a-index (0, 0)).1 - 1 < c.loop-a.self.count = let a = w.2 in let b = w.3 in omega arith in
    search rules

pub loop-a-preserved : goal.loop-a-preserved
loop-a-preserved g c =
    let i : ℕ = c.loop-a.a-index in
    let S = c.args.pairs.now in
    let l = c.link.ensures in
    let step = raised_link (HasPairs c.args.pairs.now) c.loop-a.self c.link.new.self ((get_or c.args.pairs.now c.loop-a.a-index (0, 0)).0 - 1) ((get_or c.args.pairs.now c.loop-a.a-index (0, 0)).1 - 1)
    (λ Q within met. pair_linked c.args.self.now.count S i c.requires c.loop-a-test.true Q met) l in (
      raised_then (HasPairs c.args.pairs.now) c.args.self.now c.loop-a.self c.link.new.self c.loop-a.invariant.0 step,
      below_more (λ k. earlier c.link.new.self ((get_or c.args.pairs.now k (0, 0)).0 - 1) ((get_or c.args.pairs.now k (0, 0)).1 - 1) ≡ true) c.loop-a.a-index
          (λ k h. l.closure.keeps _ _ (c.loop-a.invariant.1 k h)) l.closure.linked,
    )

pub returns : goal.returns
returns g c = record {
  linked = pairs_linked c.args.pairs.now (earlier c.loop-a.self) (λ k l. c.loop-a.invariant.1 k (omega arith));
  raised = c.loop-a.invariant.0;
}
