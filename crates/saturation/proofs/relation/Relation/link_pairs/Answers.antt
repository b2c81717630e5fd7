use Rattle.std.proofs.Common.{ℕ, ◌+◌, ◌-◌, ◌<◌, ◌≤◌, List, length, get_or, arith, rules}
use Rattle.std.proofs.lemmas.Result.{MatchResult-from_err}
use Rattle.saturation.specs.Rooting.{Standing, PairsUpTo}
use Rattle.saturation.proofs.Trails.{kept_same, kept_then, kept_link}
use Rattle.saturation.proofs.Roots.{Only, StandingUpTo, member_at, up_left, up_right, up_split, up_stands, stands_up, gained_same, gained_link, gained_then, gained_as, blocked_link, blocked_then}
use Rattle.saturation.proofs.relation.Relation.link_pairs.Goals as goal

-- the pair at a place of the list is one of numbers of events
at_place : (n : ℕ) (S : List (ℕ × ℕ)) → PairsUpTo n S → (k : ℕ) → k < length S
    → (1 ≤ (get_or S k (0, 0)).0) × ((get_or S k (0, 0)).0 ≤ n) × (1 ≤ (get_or S k (0, 0)).1) × ((get_or S k (0, 0)).1 ≤ n)
at_place n S all k l = all (get_or S k (0, 0)).0 (get_or S k (0, 0)).1 (member_at S k l)

pub loop-a-init : goal.loop-a-init
loop-a-init g c = (kept_same c.args.self.now, gained_same (StandingUpTo c.args.pairs.now 0) c.args.self.now (λ x y k. let l = k.1 in omega arith))

pub overflow_sub-a : goal.overflow_sub-a
overflow_sub-a g c = (at_place c.args.self.now.count c.args.pairs.now c.requires c.loop-a.a-index c.loop-a-test.true).0

pub overflow_sub-b : goal.overflow_sub-b
overflow_sub-b g c = (at_place c.args.self.now.count c.args.pairs.now c.requires c.loop-a.a-index c.loop-a-test.true).2

pub link-requires : goal.link-requires
link-requires g c =
    let b = at_place c.args.self.now.count c.args.pairs.now c.requires c.loop-a.a-index c.loop-a-test.true in
    let e = c.loop-a.invariant.0.events in
    let lu : (get_or c.args.pairs.now c.loop-a.a-index (0, 0)).0 - 1 < c.loop-a.self.count = omega (arith, b.0, b.1) in
    let lv : (get_or c.args.pairs.now c.loop-a.a-index (0, 0)).1 - 1 < c.loop-a.self.count = omega (arith, b.2, b.3) in
    search rules

pub loop-a-preserved : goal.loop-a-preserved
loop-a-preserved g c =
    let S = c.args.pairs.now in
    let i : ℕ = c.loop-a.a-index in
    let b = at_place c.args.self.now.count c.args.pairs.now c.requires c.loop-a.a-index c.loop-a-test.true in
    let l = c.in_ok-link.ensures in (
      kept_then c.args.self.now c.loop-a.self c.link.new.self c.loop-a.invariant.0 l.kept,
      gained_then (StandingUpTo S i) (Only ((get_or S i (0, 0)).0 - 1) ((get_or S i (0, 0)).1 - 1)) _ c.args.self.now c.loop-a.self c.loop-a.invariant.1 (up_left S i) (up_right S i b.0 b.2)
          c.link.new.self (gained_link c.loop-a.self c.link.new.self ((get_or S i (0, 0)).0 - 1) ((get_or S i (0, 0)).1 - 1) l) (up_split S i),
    )

pub returns-in_err-link : goal.returns-in_err-link
returns-in_err-link g c =
    let S = c.args.pairs.now in
    let i : ℕ = c.loop-a.a-index in
    let b = at_place c.args.self.now.count c.args.pairs.now c.requires c.loop-a.a-index c.loop-a-test.true in
    let l = c.in_err-link.ensures in
    let t = c.loop-a-test.true in
    record {
      kept = kept_then c.args.self.now c.loop-a.self c.link.new.self c.loop-a.invariant.0 (kept_link c.loop-a.self c.link.new.self l.1);
      pairs = MatchResult-from_err _ _ _ c.from_residual.ensures.0
          (λ _. blocked_then (StandingUpTo S i) (Only ((get_or S i (0, 0)).0 - 1) ((get_or S i (0, 0)).1 - 1)) (Standing S) c.args.self.now c.loop-a.self c.loop-a.invariant.1
          (up_stands S i (omega arith))
          (λ x y e. up_stands S (i + 1) (omega arith) x y (up_right S i b.0 b.2 x y e))
          (blocked_link c.loop-a.self ((get_or S i (0, 0)).0 - 1) ((get_or S i (0, 0)).1 - 1) l.0));
    }

pub returns : goal.returns
returns g c =
    let S = c.args.pairs.now in
    let i : ℕ = c.loop-a.a-index in
    record {
      kept = c.loop-a.invariant.0;
      pairs = gained_as (StandingUpTo S i) (Standing S) c.args.self.now c.loop-a.self (up_stands S i (omega arith)) (stands_up S i (omega arith)) c.loop-a.invariant.1;
    }
