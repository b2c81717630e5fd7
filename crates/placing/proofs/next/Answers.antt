use Rattle.std.proofs.Common.{◌≡◌, ℕ, ◌+◌, length, Option, sym, refl, subst, arith}
use Rattle.std.proofs.lemmas.Bool.{true≢false}
use Rattle.placing.specs.Placing.{Next}
use Rattle.placing.proofs.Choosing.{not_ready, better, not_better, next_inside}
use Rattle.placing.proofs.next.Goals as goal
use Rattle.placing.proofs.next.Goals.{then-is_ready+then-is_better, else-is_ready, else-is_ready-via-then-is_ready+else-is_better, else-is_ready-via-else-is_ready}

pub loop-x-init : goal.loop-x-init
loop-x-init g c y l r = omega arith

pub is_better-requires : goal.is_better-requires
is_better-requires g c = record {
  short = omega arith;
  first = c.loop-x-test.true;
  second = next_inside (g.P.Preference.prefers c.args.preference.now) c.args.events.now c.args.rows.now c.args.placed.now c.loop-x.x c.loop-x-test.true c.loop-x.best c.loop-x.invariant;
}

pub loop-x-preserved : goal.loop-x-preserved
loop-x-preserved g c =
    let f = g.P.Preference.prefers c.args.preference.now in
    let es = c.args.events.now in
    let law = g.P.Preference.lawful c.args.preference.now es in
    let rows = c.args.rows.now in
    let placed = c.args.placed.now in
    let x : ℕ = c.loop-x.x in
    let l = c.loop-x-test.true in
    let N : Option ℕ → Type 0 = Next f es rows placed (c.loop-x.x + 1) in
    elim c.if-is_ready.branch [
      | then-is_ready+then-is_better w ↦ subst N (sym w.best-is) (better f es law rows placed x l c.loop-x.best c.loop-x.invariant (w.if-is_ready.ensures.0 refl) w.if-is_better.ensures)
      | else-is_ready w ↦ subst N (sym w.best-is) (elim w.else-is_ready.branch [
        | else-is_ready-via-then-is_ready+else-is_better v ↦ not_better f es law rows placed x l c.loop-x.best c.loop-x.invariant v.if-is_better.ensures
        | else-is_ready-via-else-is_ready v ↦ not_ready f es law rows placed x l c.loop-x.best c.loop-x.invariant (λ r. true≢false (sym (v.if-is_ready.ensures.1 r)))
      ])
    ]

pub returns : goal.returns
returns g c =
    let e : c.loop-x.x ≡ length c.args.events.now = omega arith in
    subst (λ n. Next (g.P.Preference.prefers c.args.preference.now) c.args.events.now c.args.rows.now c.args.placed.now n c.loop-x.best) e c.loop-x.invariant
