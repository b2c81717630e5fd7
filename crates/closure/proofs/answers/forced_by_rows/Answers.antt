use Rattle.closure.proofs.Closes.{before_answer}
use Rattle.closure.proofs.answers.forced_by_rows.Goals as goal

pub returns : goal.returns
returns g c h is = before_answer h c.args.pairs.now c.of_rows.result (c.of_rows.ensures h is) c.args.a c.args.b c.precedes.result c.precedes.ensures
