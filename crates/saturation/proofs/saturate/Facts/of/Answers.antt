use Rattle.std.proofs.Common.{◌≡◌, ◌&&◌, ltb, sym, ◌∙◌, subst, arith}
use Rattle.order.specs.History.{count}
use Rattle.saturation.specs.Noting.{Noted}
use Rattle.saturation.specs.Recorded.{history_in}
use Rattle.saturation.proofs.Records.{record_count, record_accepted}
use Rattle.saturation.proofs.Notes.{noted_blank, noted_same, rows_more, facts_of}
use Rattle.saturation.proofs.saturate.Facts.of.Goals as goal

pub loop-x-init : goal.loop-x-init
loop-x-init g c = (c.new-facts.ensures.count ∙ c.count.ensures, noted_blank (history_in c.args.case.now) (count (history_in c.args.case.now)) c.new-facts.result c.new-facts.ensures.blank)

pub loop-x-preserved : goal.loop-x-preserved
loop-x-preserved g c = (
  c.note_all.ensures.same ∙ c.loop-x.invariant.0,
  noted_same (history_in c.args.case.now) _ _ c.note_all.new.self (rows_more (count (history_in c.args.case.now)) c.loop-x.x)
      (c.note_all.ensures.noted (λ w q. ltb w c.loop-x.x && ltb q (count (history_in c.args.case.now))) c.loop-x.invariant.1),
)

pub returns : goal.returns
returns g c =
    let e : c.loop-x.x ≡ count (history_in c.args.case.now) = omega arith in
    let k = record_count c.args.case.now in
    facts_of (history_in c.args.case.now) (record_accepted c.args.case.now) c.loop-x.facts (c.loop-x.invariant.0 ∙ sym k)
    (subst (λ m. Noted (history_in c.args.case.now) (λ w q. ltb w m && ltb q m) c.loop-x.facts) (sym k)
    (subst (λ m. Noted (history_in c.args.case.now) (λ w q. ltb w m && ltb q (count (history_in c.args.case.now))) c.loop-x.facts) e c.loop-x.invariant.1))
