use Rattle.std.proofs.Common.{sym, refl, ap, ◌∙◌, true≢false}
use Rattle.saturation.specs.Recorded.{history_in}
use Rattle.search.specs.Searches.{Ran}
use Rattle.referee.specs.Meaning.{pairs_of}
use Rattle.referee.specs.Verdicts.{says_serial}
use Rattle.referee.proofs.Cases.{inside_events}
use Rattle.referee.proofs.Judgements.{finds_serial, finds_none, finds_spent, rows_at_node}
use Rattle.referee.proofs.case.Case.decide.Goals as goal
use Rattle.referee.proofs.case.Case.decide.Goals.{in-Succeeded, in-Failed, in-Running}

pub returns : goal.returns
returns c =
    let o = c.args.self.now in
    let r = o.recorded in
    let S = pairs_of o in
    let budget = c.args.budget in
    let inside = inside_events o in
    let x = c.restart.new.self in
    let y = c.run.new.self in
    let p = c.run.result in
    let fresh = c.restart.ensures.none in
    let rows = c.before_rows-self.result in
    let ran : Ran (history_in r) S budget x y p = c.run.ensures (history_in r) S (rw (c.stipulated.ensures.record, c.stipulated.ensures.pairs) at c.restart.ensures.search) in
    record {
      finds = rw c.steps.ensures (elim c.match-run.branch [
        | in-Succeeded w ↦ rw w.verdict-is (finds_serial r S inside budget x y p fresh ran w.in-Succeeded.is)
        | in-Failed w ↦ rw w.verdict-is (finds_none r S inside budget x y p fresh ran w.in-Failed.is)
        | in-Running w ↦ rw w.verdict-is (finds_spent r S inside budget x y p fresh ran w.in-Running.is)
      ]);
      history = refl;
      pairs = refl;
      node = λ t. elim c.match-run.branch [
        | in-Succeeded w ↦ rows_at_node r S inside budget x y p fresh ran rows c.before_rows-self.ensures.rows w.in-Succeeded.is
        | in-Failed w ↦ absurd (true≢false (sym t ∙ ap says_serial w.verdict-is))
        | in-Running w ↦ absurd (true≢false (sym t ∙ ap says_serial w.verdict-is))
      ];
    }
