use Rattle.std.proofs.Common.{◌≡◌, ℕ, ◌+◌, List, length, sym, ap, ◌∙◌, subst, arith}
use Rattle.std.proofs.lemmas.List.{length-append}
use Rattle.sets.specs.declared.set.EventSet.{EventSet}
use Rattle.placing.proofs.Following.{AllSoFar, all_one_more, all_some_next, all_placed}
use Rattle.placing.proofs.place.Invariants.{passed}
use Rattle.placing.proofs.place.Goals as goal
use Rattle.placing.proofs.place.Goals.{in-Some, in_default}

pub loop-preserved : goal.loop-preserved
loop-preserved g c =
    let f = passed g c.args.preference.now in
    let es = c.args.events.now in
    let rows = c.args.rows.now in
    let order = c.loop.order.items in
    let placed = c.loop.placed in
    let k : ℕ = c.loop.counter in
    let so_far = c.loop.invariant.so_far in
    let SoFar : List ℕ → EventSet g.row.W → Type 0 = AllSoFar f es rows (c.loop.counter + 1) in
    elim c.match-next.branch [
      | in-Some w ↦ record {
        few = omega (arith, ap (λ (v : _). length v.items) w.order-is, ap length w.push.ensures.items, length-append {A = ℕ});
        so_far = rw (w.order-is, w.placed-is, w.push.ensures.items)
            (all_one_more f es rows k c.loop-test.true order placed so_far w.in-Some.x w.in-Some.ensures w.insert.new.self w.insert.ensures);
      }
      | in_default w ↦ record {
        few = omega (arith, ap (λ (v : _). length v.items) w.order-is);
        so_far = rw (w.order-is, w.placed-is) (all_some_next f es rows k c.loop-test.true order placed so_far w.in_default.ensures);
      }
    ]

pub returns-clause-placed : goal.returns-clause-placed
returns-clause-placed g c =
    let f = passed g c.args.preference.now in
    let es = c.args.events.now in
    let e : c.loop.counter ≡ length es = omega arith in
    all_placed f es c.args.rows.now c.loop.order.items c.loop.placed (subst (λ k. AllSoFar f es c.args.rows.now k c.loop.order.items c.loop.placed) e c.loop.invariant.so_far)
