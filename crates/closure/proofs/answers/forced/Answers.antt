use Rattle.saturation.specs.Recorded.{history_in}
use Rattle.closure.proofs.Closes.{before_answer}
use Rattle.closure.proofs.answers.forced.Goals as goal

pub returns : goal.returns
returns g c = before_answer (history_in c.args.given.record.now) c.args.given.pairs.now c.of.result c.of.ensures c.args.a c.args.b c.precedes.result c.precedes.ensures
