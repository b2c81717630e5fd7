use Rattle.std.proofs.Common.{◌≡◌, ℕ, suc, ◌+◌, ◌≤◌, Bool, false, ◌&&◌, ◌||◌, length, sym, refl, ap, ◌∙◌, inl, inr, arith}
use Rattle.std.proofs.lemmas.Bool.{ne_eqb, eq-eqb, le-ltb}
use Rattle.order.specs.History.{kept_by}
use Rattle.sets.specs.Sets.{has}
use Rattle.sets.specs.declared.set.EventSet.{EventSet}
use Rattle.saturation.proofs.Turns.{none_yet, one_more, all_done}
use Rattle.saturation.proofs.Records.{pair_kept, kept_bounds}
use Rattle.saturation.proofs.record.keeping.kept_after.Goals as goal
use Rattle.saturation.proofs.record.keeping.kept_after.Goals.{then-keeps_pair, else-keeps_pair}

pub loop-y-init : goal.loop-y-init
loop-y-init g c =
    let keeps = g.R.Rule.keeps c.args.rule.now in
    none_yet (has c.new-row.result) (λ y. kept_by keeps c.args.events.now (suc c.args.x) (suc y)) (c.args.x + 1) c.new-row.ensures
    (λ y k. let b = kept_bounds c.args.events.now keeps c.args.x y k in omega (arith, b.0))

pub loop-y-preserved : goal.loop-y-preserved
loop-y-preserved g c =
    let es = c.args.events.now in
    let x = c.args.x in
    let i = c.loop-y.y in
    let keeps = g.R.Rule.keeps c.args.rule.now in
    let K : ℕ → Bool = λ y. kept_by keeps es (suc x) (suc y) in
    let here = pair_kept es keeps x i (omega arith) c.loop-y-test.true in
    one_more (has c.loop-y.row) K i (has c.if-keeps_pair.row) c.loop-y.invariant
    (λ y ne. elim c.if-keeps_pair.branch [
      | then-keeps_pair w ↦ ap (λ (s : EventSet g.row.W). has s y) w.row-is ∙ w.insert.ensures y ∙ ap (λ b. b || has c.loop-y.row y) (ne_eqb y i ne)
      | else-keeps_pair w ↦ ap (λ (s : EventSet g.row.W). has s y) w.row-is
    ])
    (elim c.if-keeps_pair.branch [
      | then-keeps_pair w ↦
          ap (λ (s : EventSet g.row.W). has s i) w.row-is ∙ w.insert.ensures i ∙ ap (λ b. b || has c.loop-y.row i) (eq-eqb i i refl)
          ∙ w.if-keeps_pair.ensures ∙ sym here
      | else-keeps_pair w ↦
          ap (λ (s : EventSet g.row.W). has s i) w.row-is ∙ c.loop-y.invariant i ∙ ap (λ b. b && K i) (le-ltb i i (omega arith))
          ∙ w.if-keeps_pair.ensures ∙ sym here
    ])

pub returns : goal.returns
returns g c =
    let keeps = g.R.Rule.keeps c.args.rule.now in
    all_done (has c.loop-y.row) (λ y. kept_by keeps c.args.events.now (suc c.args.x) (suc y)) c.loop-y.y c.loop-y.invariant
    (λ y k. let b = kept_bounds c.args.events.now keeps c.args.x y k in omega (arith, b.1))
