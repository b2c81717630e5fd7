-- Bytes never mean more than 65,535 events.
use Rattle.std.specs.Prelude.{ℕ, ◌≤◌, List, length, Ok, Err, Result}
use Rattle.std.proofs.Common.{arith}
use Rattle.std.proofs.lemmas.List.FromFn.{length-map-range_with_len}
use Rattle.packed.specs.declared.header.Header.{Header}
use Rattle.packed.specs.declared.fault.FileFault.{FileFault}
use Rattle.packed.specs.Reading.{checked, events_by, events_meant}

pub few_meant : (bs : List ℕ) → length (events_meant bs) ≤ 65535
few_meant bs = by (checked bs)
  where
    by : (r : Result Header FileFault) → length (events_by bs r) ≤ 65535
    by (Ok h) = simp length-map-range_with_len (omega arith)
    by (Err f) = omega arith
