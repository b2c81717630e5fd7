use Rattle.std.proofs.Common.{◌≡◌}
use Rattle.order.specs.History.{history_of}
use Rattle.order.specs.Calls.{Held}
use Rattle.referee.specs.Meaning.{meaning, holds}
use Rattle.referee.specs.Preferring.{as_preference}
use Rattle.referee.proofs.Making.{Partly}
use Rattle.referee.proofs.case.Case.run.Given as goal

abbrev pub invariant-loop-entry : goal.invariant-loop-entry
invariant-loop-entry g l =
    let h = history_of (g.S.Source.events l.source) (g.R.Rule.keeps l.rule) in
    (m : Held) × (meaning l.self ≡ holds h m)
    × Partly (as_preference g.P.Preference.prefers g.P.Preference.lawful) g.B.Buffer.numbers h l.initial.entries l.entry-index l.entries m
