use Rattle.std.proofs.Common.{◌≡◌, ltb, refl, ◌∙◌, subst, arith}
use Rattle.order.specs.History.{count}
use Rattle.saturation.specs.Noting.{Noted, with_row}
use Rattle.saturation.specs.Recorded.{history_in}
use Rattle.saturation.proofs.Notes.{noted_same, row_none, row_more}
use Rattle.saturation.proofs.saturate.Facts.note_all.Goals as goal

pub loop-y-init : goal.loop-y-init
loop-y-init g c = (refl, λ D n. noted_same (history_in c.args.case.now) D (with_row D c.args.x (λ q. ltb q 0)) c.args.self.now (row_none D c.args.x) n)

pub loop-y-preserved : goal.loop-y-preserved
loop-y-preserved g c = (
  c.note.ensures.same ∙ c.loop-y.invariant.0,
  λ D n.
      noted_same (history_in c.args.case.now) _ _ c.note.new.self (row_more D c.args.x c.loop-y.y)
      (c.note.ensures.noted (with_row D c.args.x (λ q. ltb q c.loop-y.y)) (c.loop-y.invariant.1 D n)),
)

pub returns : goal.returns
returns g c =
    let e : c.loop-y.y ≡ count (history_in c.args.case.now) = omega arith in
    record {
      same = c.loop-y.invariant.0;
      noted = λ D n. subst (λ k. Noted (history_in c.args.case.now) (with_row D c.args.x (λ q. ltb q k)) c.loop-y.self) e (c.loop-y.invariant.1 D n);
    }
