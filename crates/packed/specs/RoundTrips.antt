-- Writing and reading undo each other.
use Rattle.std.specs.Prelude.{◌≡◌, ℕ, ◌≤◌, List, ◌++◌, length, take, drop, Ok, Err, Result}
use Rattle.history.specs.declared.event.Event.{Event}
use Rattle.packed.specs.declared.fault.WriteRefusal.{WriteRefusal}
use Rattle.packed.specs.Reading.{season_meant, events_meant, Accepted, Means, Bytes}
use Rattle.packed.specs.Writing.{writing, written}

-- Bytes that mean a season and events, and no other bytes do.
pub record MeansAlone (bs : List ℕ) (season : ℕ) (es : List Event) : Type 0 where
  pub means : Means bs season es
  pub alone : (cs : List ℕ) → Bytes cs → Means cs season es → cs ≡ bs

-- After an answer of bytes used, that front of the buffer means the season and the events, and no other bytes do.
abbrev pub ReadsBack : ℕ → List Event → List ℕ → Result ℕ WriteRefusal → Type 0
ReadsBack season es buffer (Ok used) = MeansAlone (take used buffer) season es
ReadsBack season es buffer (Err why) = Unit {0}

-- Whatever can be written, written and read back, keeps season and events.
abbrev pub WrittenReadsBack : Type 0
WrittenReadsBack = (season : ℕ) (es : List Event) (buffer : List ℕ) (used : ℕ)
    → writing season es (length buffer) ≡ Ok used
    → Means (take used (written season es buffer (Ok used))) season es

-- What bytes mean, written into a buffer, takes as many bytes and puts the same bytes in front.
pub record Rewritten (bs buffer : List ℕ) : Type 0 where
  pub answer : writing (season_meant bs) (events_meant bs) (length buffer) ≡ Ok (length bs)
  pub after : written (season_meant bs) (events_meant bs) buffer (Ok (length bs)) ≡ bs ++ drop (length bs) buffer

-- Accepted bytes, read and written into a buffer that is long enough, come out identical.
abbrev pub ReadWritesBack : Type 0
ReadWritesBack = (bs : List ℕ) → Bytes bs → Accepted bs → (buffer : List ℕ) → length bs ≤ length buffer → Rewritten bs buffer
