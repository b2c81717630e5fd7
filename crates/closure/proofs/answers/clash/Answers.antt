use Rattle.saturation.specs.Recorded.{history_in}
use Rattle.saturation.proofs.Records.{record_well}
use Rattle.closure.proofs.Closes.{clash_answer}
use Rattle.closure.proofs.answers.clash.Goals as goal

pub returns : goal.returns
returns g c =
    let r = c.args.given.record.now in
    clash_answer (history_in r) c.args.given.pairs.now (record_well r) c.args.given.inside c.of.result c.of.ensures c.lowest_clash.result c.lowest_clash.ensures
