use Rattle.std.proofs.Common.{◌≡◌, ℕ, suc, ◌<◌, ◌≤◌, Bool, ◌&&◌, ltb, List, length, sym, refl, ap, ◌∙◌, subst, arith, length-set}
use lib.ListN.{length-replicate}
use Rattle.std.proofs.lemmas.Bool.{le-ltb}
use Rattle.history.specs.declared.event.Event.{Event}
use Rattle.order.specs.History.{kept_by}
use Rattle.order.proofs.Opens.{opening_accepts_lem}
use Rattle.sets.specs.Rows.{in_rows}
use Rattle.sets.specs.declared.set.EventSet.{EventSet}
use Rattle.saturation.specs.Histories.{history_from}
use Rattle.sets.proofs.Backs.{in_fill, in_set_same, in_set_other}
use Rattle.saturation.proofs.Turns.{one_more, all_done}
use Rattle.saturation.proofs.Records.{kept_bounds, history_is}
use Rattle.saturation.proofs.record.Recorded.new.Goals as goal

pub loop-x-init : goal.loop-x-init
loop-x-init g c = (
  length-replicate g.row.N c.new-kept.result,
  λ x y.
      in_fill g.row.N c.new-kept.result c.new-kept.ensures x y
      ∙ sym (ap (λ b. b && kept_by (g.R.Rule.keeps c.args.rule.now) c.as_slice-listed.result.now (suc x) (suc y)) (le-ltb x 0 (omega arith))),
)

pub loop-x-preserved : goal.loop-x-preserved
loop-x-preserved g c =
    let keeps = g.R.Rule.keeps c.args.rule.now in
    let rows = c.loop-x.kept in
    let l : c.loop-x.x < length c.loop-x.kept = omega (arith, c.loop-x-test.true, c.loop-x.invariant.0) in (
      length-set rows c.loop-x.x c.kept_after.result ∙ c.loop-x.invariant.0,
      λ x y.
          one_more (λ x. in_rows rows x y) (λ x. kept_by keeps c.as_slice-listed.result.now (suc x) (suc y)) c.loop-x.x _
          (λ x. c.loop-x.invariant.1 x y)
          (λ x ne. in_set_other rows c.loop-x.x c.kept_after.result x ne y)
          (in_set_same rows c.loop-x.x c.kept_after.result l y ∙ c.kept_after.ensures y) x,
    )

-- all rows are made, and as the rule says
rows_are : {W : ℕ} (rows : List (EventSet W)) (es : List Event) (keeps : ℕ → ℕ → ℕ → ℕ → Bool) (n : ℕ) → length es ≤ n
    → ((x y : ℕ) → in_rows rows x y ≡ (ltb x n && kept_by keeps es (suc x) (suc y))) → (x y : ℕ) → in_rows rows x y ≡ kept_by keeps es (suc x) (suc y)
rows_are rows es keeps n few so x y =
    all_done (λ x. in_rows rows x y) (λ x. kept_by keeps es (suc x) (suc y)) n (λ x. so x y)
    (λ x k. let b = kept_bounds es keeps x y k in omega (arith, b.0, b.1)) x

pub invariant_of-result : goal.invariant_of-result
invariant_of-result g c =
    let keeps = g.R.Rule.keeps c.args.rule.now in
    let few : length c.as_slice-listed.result.now ≤ c.loop-x.x = omega (arith, c.loop-x-test.false, c.as_slice-listed.ensures.fits) in
    let rows = rows_are c.loop-x.kept c.as_slice-listed.result.now keeps c.loop-x.x few c.loop-x.invariant.1 in
    record {
      wide = c.requires.room.0;
      narrow = c.requires.room.1;
      fits = subst (λ l. length l ≤ g.row.N) c.as_slice-listed.ensures.value c.as_slice-listed.ensures.fits;
      each = c.loop-x.invariant.0;
      later = λ x y h. subst (λ l. (x < y) × (y < length l)) c.as_slice-listed.ensures.value (kept_bounds c.as_slice-listed.result.now keeps x y (sym (rows x y) ∙ h));
      accepted = ∣ (opening_accepts_lem (history_from c.args.events.items c.loop-x.kept)).0 c.requires.opens ∣₁;
    }

pub returns : goal.returns
returns g c =
    let keeps = g.R.Rule.keeps c.args.rule.now in
    let few : length c.as_slice-listed.result.now ≤ c.loop-x.x = omega (arith, c.loop-x-test.false, c.as_slice-listed.ensures.fits) in
    record {
      history = history_is c.args.events.items keeps c.loop-x.kept
          (λ x y.
          rows_are c.loop-x.kept c.as_slice-listed.result.now keeps c.loop-x.x few c.loop-x.invariant.1 x y
          ∙ ap (λ es. kept_by keeps es (suc x) (suc y)) c.as_slice-listed.ensures.value);
      given = refl;
    }
