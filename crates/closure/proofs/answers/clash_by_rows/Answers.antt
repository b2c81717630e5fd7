use Rattle.closure.proofs.Closes.{clash_answer}
use Rattle.closure.proofs.Rows.{pairs_of_events}
use Rattle.closure.proofs.answers.clash_by_rows.Goals as goal

pub returns : goal.returns
returns g c h is =
    let inside = pairs_of_events h c.args.facts.now c.args.kept.now c.args.starts.now c.args.pairs.now is c.requires.pairs in
    clash_answer h c.args.pairs.now is.well inside c.of_rows.result (c.of_rows.ensures h is) c.lowest_clash.result c.lowest_clash.ensures
