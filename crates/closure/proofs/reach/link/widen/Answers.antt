use Rattle.std.proofs.Common.{◌<◌, ◌&&◌, ◌||◌, eqb, length, sym, ap, ◌∙◌, arith, length-set}
use Rattle.std.proofs.lemmas.Bool.{and_parts, eqb-true}
use Rattle.sets.specs.Sets.{has}
use Rattle.sets.specs.Rows.{in_rows}
use Rattle.sets.proofs.Counts.{pop_falls}
use Rattle.sets.proofs.Backs.{row_by, row_none, row_all}
use Rattle.closure.proofs.Raises.{put_all}
use Rattle.closure.proofs.reach.link.widen.Goals as goal

pub loop-x-init : goal.loop-x-init
loop-x-init g c = (λ k h. h, c.requires.full, λ z y. row_none (in_rows c.args.rows.now z y) (has c.args.which.now z) (has c.args.more.now y))

pub loop-x-smaller : goal.loop-x-smaller
loop-x-smaller g c = pop_falls c.loop-x.rest c.pop.new.self c.in-Some.x c.in-Some.ensures

pub loop-x-preserved : goal.loop-x-preserved
loop-x-preserved g c =
    let p = c.in-Some.ensures in
    let lx : c.in-Some.x < g.row.N = c.requires.inside c.in-Some.x (c.loop-x.invariant.0 c.in-Some.x p.was) in
    let ll : c.in-Some.x < length c.loop-x.rows = omega (arith, c.loop-x.invariant.1) in (
      λ k h. c.loop-x.invariant.0 k (and_parts _ _ (sym (p.rest k) ∙ h)).1,
      simp length-set c.loop-x.invariant.1,
      λ z y.
          put_all c.loop-x.rows c.in-Some.x _ c.union_with.new.self (has c.args.more.now) ll c.union_with.ensures z y
          ∙ ap (λ b. b || (eqb z c.in-Some.x && has c.args.more.now y)) (c.loop-x.invariant.2 z y)
          ∙ row_by (in_rows c.args.rows.now z y) (has c.args.which.now z) (has c.loop-x.rest z) (has c.pop.new.self z) (eqb z c.in-Some.x) (has c.args.more.now y)
          (p.rest z)
          (λ t. ap (λ k. has c.args.which.now k) (eqb-true z c.in-Some.x t) ∙ c.loop-x.invariant.0 c.in-Some.x p.was),
    )

pub returns : goal.returns
returns g c = record {
  rows = λ i z y. (c.loop-x.invariant.2 z y ∙ row_all (in_rows c.args.rows.now z y) (has c.args.which.now z) (has c.loop-x.rest z) (has c.args.more.now y) (c.in_default.ensures.0 z)) i;
  full = c.loop-x.invariant.1;
}
