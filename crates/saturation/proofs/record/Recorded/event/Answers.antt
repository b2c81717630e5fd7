use Rattle.std.proofs.Common.{get_or, sym, ap, ◌∙◌}
use Rattle.saturation.proofs.Records.{zeros, record_at}
use Rattle.saturation.proofs.record.Recorded.event.Goals as goal

pub returns : goal.returns
returns g c = ap (λ l. get_or l c.args.x zeros) c.events.ensures ∙ sym (record_at c.args.self.now c.args.x c.requires)
