use Rattle.std.proofs.Common.{get_or, Some, refl, subst, arith}
use Rattle.std.proofs.lemmas.List.{get_or_default}
use Rattle.order.specs.History.{history_of}
use Rattle.order.specs.Calls.{opened}
use Rattle.order.proofs.Runs.{runs_are_lawful_lem}
use Rattle.referee.specs.Meaning.{meaning, TurnOn}
use Rattle.referee.specs.Preferring.{as_preference}
use Rattle.referee.specs.Entries.{turn_of, turns_of}
use Rattle.referee.specs.declared.entry.Entry.{Entry}
use Rattle.referee.proofs.Making.{partly_none, partly_more, partly_all}
use Rattle.referee.proofs.case.Case.run.Goals as goal

pub loop-entry-init : goal.loop-entry-init
loop-entry-init g c =
    let h = history_of (g.S.Source.events c.args.source.now) (g.R.Rule.keeps c.args.rule.now) in
    (opened, c.in_ok-open.ensures.opens.1, partly_none (as_preference g.P.Preference.prefers g.P.Preference.lawful) g.B.Buffer.numbers h c.args.entries.now)

pub loop-entry-preserved : goal.loop-entry-preserved
loop-entry-preserved g c =
    let h = history_of (g.S.Source.events c.args.source.now) (g.R.Rule.keeps c.args.rule.now) in
    let means = as_preference g.P.Preference.prefers g.P.Preference.lawful in
    let numbers = g.B.Buffer.numbers in
    let i = c.loop-entry.entry-index in
    let here = c.loop-entry.entries in
    let e = get_or here i c.entry-item.result in
    let e' : Entry g.row.P.Denot g.row.B.Denot = record { call = e.call; buffer = c.make.new.buffer; answer = Some c.make.result } in
    let so = c.loop-entry.invariant in
    let t = subst (λ m. TurnOn (turn_of means numbers e e') m (meaning c.make.new.self)) so.1 c.make.ensures.law in (
      t.0,
      t.2,
      partly_more means numbers h c.args.entries.now i here so.0 t.0 e e' so.2 (omega (arith, c.loop-entry.auto.entries))
          (get_or_default here i c.entry-item.result e (omega (arith, c.loop-entry.auto.entries))) t.1 (record { call = refl; buffer = c.make.ensures.stays }),
    )

pub returns : goal.returns
returns g c =
    let h = history_of (g.S.Source.events c.args.source.now) (g.R.Rule.keeps c.args.rule.now) in
    let means = as_preference g.P.Preference.prefers g.P.Preference.lawful in
    let numbers = g.B.Buffer.numbers in
    let es = c.args.entries.now in
    let here = c.loop-entry.entries in
    let so = c.loop-entry.invariant in
    let all = partly_all means numbers h es c.loop-entry.entry-index here so.0 so.2 (omega (arith, c.loop-entry.auto.entries)) in
    let lawful = runs_are_lawful_lem h (turns_of means numbers es here) so.0 all in
    record {
      opens = c.in_ok-open.ensures.opens.0;
      law = lawful.0;
      long = so.2.long;
      stays = λ k d l. so.2.stays k (omega (arith, c.loop-entry.auto.entries)) d;
      held = so.0;
      leaves = lawful.1;
      ends = so.1;
    }
