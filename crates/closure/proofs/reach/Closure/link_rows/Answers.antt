use Rattle.std.proofs.Common.{◌≡◌, ℕ, ◌<◌, true, length, get_or, sym, ◌∙◌, arith, rules}
use Rattle.sets.specs.Sets.{has}
use Rattle.sets.specs.Rows.{in_rows}
use Rattle.closure.specs.Closures.{HasRows}
use Rattle.sets.proofs.Backs.{in_get}
use Rattle.closure.proofs.Raises.{raised_same, raised_row}
use Rattle.closure.proofs.reach.Closure.link_rows.Goals as goal

pub loop-x-init : goal.loop-x-init
loop-x-init g c = (raised_same (HasRows c.args.self.now.count c.args.rows.now) c.args.self.now, λ z y l h. absurd (omega arith))

pub link_row-requires : goal.link_row-requires
link_row-requires g c =
    let lx : c.loop-x.x < length c.args.rows.now = omega arith in
    let e = c.loop-x.invariant.0.events in
    let inside : (y : ℕ) → has (get_or c.args.rows.now c.loop-x.x c.index-rows-x.result) y ≡ true → y < c.loop-x.self.count
    = λ y h. let l = c.requires c.loop-x.x y (in_get c.args.rows.now c.loop-x.x c.index-rows-x.result lx y ∙ h) in omega arith in
    search rules

pub loop-x-preserved : goal.loop-x-preserved
loop-x-preserved g c =
    let lx : c.loop-x.x < length c.args.rows.now = omega arith in
    raised_row (HasRows c.args.self.now.count c.args.rows.now) (in_rows c.args.rows.now) c.args.self.now c.loop-x.self c.link_row.new.self c.loop-x.x
    (get_or c.args.rows.now c.loop-x.x c.index-rows-x.result) c.loop-x.invariant.0 c.loop-x.invariant.1 (λ Q all y h. all c.loop-x.x y c.loop-x-test.true h)
    (λ y. sym (in_get c.args.rows.now c.loop-x.x c.index-rows-x.result lx y)) c.link_row.ensures.linked c.link_row.ensures.raised

pub returns : goal.returns
returns g c = record { linked = λ x y l h. c.loop-x.invariant.1 x y (omega arith) h; raised = c.loop-x.invariant.0 }
