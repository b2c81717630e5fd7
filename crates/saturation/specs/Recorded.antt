-- The history that a record means.
use Rattle.std.specs.Prelude.{ℕ}
use Rattle.order.specs.History.{History}
use Rattle.saturation.specs.Histories.{history_from}
use Rattle.saturation.specs.declared.record.Recorded.{Recorded}

abbrev pub history_in : {N W : ℕ} → Recorded N W → History
history_in r = history_from r.events.items r.kept
