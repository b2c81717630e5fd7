use Rattle.packed.proofs.Backs.{written_reads_back, read_writes_back}
use Rattle.packed.proofs.trips.round_trips.Goals as goal

pub returns : goal.returns
returns c = record { there = written_reads_back; back = read_writes_back }
