use Rattle.std.proofs.Common.{◌≡◌, ℕ, ◌<◌, true, sym, ◌∙◌, arith, rules}
use Rattle.sets.specs.Sets.{has}
use Rattle.sets.specs.Rows.{in_rows}
use Rattle.saturation.specs.Ties.{takers_of}
use Rattle.closure.specs.Closures.{HasRows}
use Rattle.closure.proofs.Raises.{raised_same, raised_row}
use Rattle.closure.proofs.reach.Closure.link_takers.Goals as goal

pub loop-w-init : goal.loop-w-init
loop-w-init g c = (raised_same (HasRows c.args.self.now.count (takers_of c.args.facts.now.ties)) c.args.self.now, λ z y l h. absurd (omega arith))

pub link_row-requires : goal.link_row-requires
link_row-requires g c =
    let e = c.loop-w.invariant.0.events in
    let k = c.requires in
    let inside : (y : ℕ) → has c.ties.result.now.takers y ≡ true → y < c.loop-w.self.count
    = λ y h. let l = c.args.facts.now.readers c.loop-w.w y (sym (c.ties.ensures.takers y) ∙ h) in omega arith in
    search rules

pub loop-w-preserved : goal.loop-w-preserved
loop-w-preserved g c =
    raised_row (HasRows c.args.self.now.count (takers_of c.args.facts.now.ties)) (in_rows (takers_of c.args.facts.now.ties)) c.args.self.now c.loop-w.self c.link_row.new.self
    c.loop-w.w c.ties.result.now.takers c.loop-w.invariant.0 c.loop-w.invariant.1 (λ Q all y h. all c.loop-w.w y c.loop-w-test.true h)
    c.ties.ensures.takers c.link_row.ensures.linked c.link_row.ensures.raised

pub returns : goal.returns
returns g c = record { linked = λ x y l h. c.loop-w.invariant.1 x y (omega arith) h; raised = c.loop-w.invariant.0 }
