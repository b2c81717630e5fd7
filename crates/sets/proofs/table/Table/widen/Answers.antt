use Rattle.std.proofs.Common.{◌<◌, ◌&&◌, ◌||◌, eqb, sym, ap, ◌∙◌, arith, rules}
use Rattle.std.proofs.lemmas.Bool.{and_parts, eqb-true}
use Rattle.sets.specs.Sets.{has}
use Rattle.sets.specs.Rows.{in_row, trail_len}
use Rattle.sets.proofs.Counts.{pop_falls}
use Rattle.sets.proofs.Backs.{row_by, row_none, row_all, rows_same, rows_then}
use Rattle.sets.proofs.table.Table.widen.Goals as goal

pub loop-x-init : goal.loop-x-init
loop-x-init g c =
    (λ k h. h, omega arith, λ z y. row_none (in_row c.args.self.now z y) (has c.args.which.now z) (has c.args.more.now y), rows_same c.args.self.now)

pub put-requires : goal.put-requires
put-requires g c =
    let p = c.in-Some.ensures in
    let f = pop_falls c.loop-x.rest c.pop.new.self c.in-Some.x p in
    let lx : c.in-Some.x < g.row.N = c.requires.inside c.in-Some.x (c.loop-x.invariant.0 c.in-Some.x p.was) in
    let ll : trail_len c.loop-x.self < g.row.T = omega (arith, f, c.loop-x.invariant.1, c.requires.room) in
    search rules

pub loop-x-smaller : goal.loop-x-smaller
loop-x-smaller g c = pop_falls c.loop-x.rest c.pop.new.self c.in-Some.x c.in-Some.ensures

pub loop-x-preserved : goal.loop-x-preserved
loop-x-preserved g c =
    let p = c.in-Some.ensures in
    let f = pop_falls c.loop-x.rest c.pop.new.self c.in-Some.x p in
    let e = c.put.ensures in (
      λ k h. c.loop-x.invariant.0 k (and_parts _ _ (sym (p.rest k) ∙ h)).1,
      omega (arith, f, c.loop-x.invariant.1, e.len),
      λ z y.
          e.rows z y
          ∙ ap (λ b. b || (eqb z c.in-Some.x && has c.args.more.now y)) (c.loop-x.invariant.2 z y)
          ∙ row_by (in_row c.args.self.now z y) (has c.args.which.now z) (has c.loop-x.rest z) (has c.pop.new.self z) (eqb z c.in-Some.x) (has c.args.more.now y)
          (p.rest z)
          (λ t. ap (λ k. has c.args.which.now k) (eqb-true z c.in-Some.x t) ∙ c.loop-x.invariant.0 c.in-Some.x p.was),
      rows_then c.args.self.now c.loop-x.self c.put.new.self c.loop-x.invariant.3 e.back,
    )

pub returns : goal.returns
returns g c = record {
  len = omega (arith, c.loop-x.invariant.1);
  rows = λ i z y. (c.loop-x.invariant.2 z y ∙ row_all (in_row c.args.self.now z y) (has c.args.which.now z) (has c.loop-x.rest z) (has c.args.more.now y) (c.in_default.ensures.0 z)) i;
  back = c.loop-x.invariant.3;
}
