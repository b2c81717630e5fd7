use Rattle.std.proofs.Common.{◌≡◌, ℕ, ◌<◌, true, [], sym, ◌∙◌, arith, rules}
use Rattle.sets.specs.Sets.{has}
use Rattle.saturation.specs.Recorded.{history_in}
use Rattle.order.specs.History.{count}
use Rattle.saturation.specs.Rooting.{leads_in}
use Rattle.saturation.proofs.Roots.{leads_below}
use Rattle.closure.specs.Closures.{HasEvents}
use Rattle.closure.proofs.Raises.{raised_same, raised_row}
use Rattle.closure.proofs.reach.Closure.link_events.Goals as goal

pub loop-x-init : goal.loop-x-init
loop-x-init g c = (raised_same (HasEvents c.args.case.now) c.args.self.now, λ z y l h. absurd (omega arith))

pub link_row-requires : goal.link_row-requires
link_row-requires g c =
    let e = c.loop-x.invariant.0.events in
    let k = c.requires in
    let inside : (y : ℕ) → has c.followers.result y ≡ true → y < c.loop-x.self.count
    = λ y h. let l = leads_below c.args.case.now [] c.loop-x.x y (sym (c.followers.ensures y) ∙ h) in omega arith in
    search rules

pub loop-x-preserved : goal.loop-x-preserved
loop-x-preserved g c =
    let e = c.requires in
    let lx : c.loop-x.x < count (history_in c.args.case.now) = omega arith in
    raised_row (HasEvents c.args.case.now) (leads_in c.args.case.now) c.args.self.now c.loop-x.self c.link_row.new.self c.loop-x.x c.followers.result
    c.loop-x.invariant.0 c.loop-x.invariant.1 (λ Q all y h. all c.loop-x.x y (lx, h)) c.followers.ensures c.link_row.ensures.linked c.link_row.ensures.raised

pub returns : goal.returns
returns g c =
    let e = c.requires in
    record { linked = λ x y (l, h). c.loop-x.invariant.1 x y (omega arith) h; raised = c.loop-x.invariant.0 }
