use Rattle.std.proofs.Common.{sym, arith}
use Rattle.history.proofs.Numbered.{numbered_past}
use Rattle.packed.specs.Reading.{events_meant}
use Rattle.packed.proofs.reading.PackedSource.event.Goals as goal
use Rattle.packed.proofs.reading.PackedSource.event.Goals.{then-number-eq0-via-then-number-eq0, then-number-eq0-via-else-number-eq0+then-number-count}

pub returns-then-number-eq0 : goal.returns-then-number-eq0
returns-then-number-eq0 c =
    elim c.then-number-eq0.branch [
      | then-number-eq0-via-then-number-eq0 w ↦ rw w.if-number-eq0.true
      | then-number-eq0-via-else-number-eq0+then-number-count w ↦
          sym (numbered_past (events_meant c.args.self.now.bytes.now) c.args.number (omega arith))
    ]
