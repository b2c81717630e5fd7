-- What the ties of the events say, each part for itself.
use Rattle.std.specs.Prelude.{ℕ, List, map}
use Rattle.sets.specs.declared.set.EventSet.{EventSet}
use Rattle.saturation.specs.declared.saturate.Ties.{Ties}

abbrev pub others_of : {W : ℕ} → List (Ties W) → List (EventSet W)
others_of ts = map (λ t. t.others) ts

abbrev pub mates_of : {W : ℕ} → List (Ties W) → List (EventSet W)
mates_of ts = map (λ t. t.mates) ts

abbrev pub takers_of : {W : ℕ} → List (Ties W) → List (EventSet W)
takers_of ts = map (λ t. t.takers) ts

abbrev pub from_of : {W : ℕ} → List (Ties W) → List ℕ
from_of ts = map (λ t. t.from) ts
