-- The theorems. Each is named by the contract of a function, and so is proved.
use Rattle.std.specs.Prelude.{◌≡◌, List}
use Rattle.order.specs.History.{History, WellFormed}
use Rattle.order.specs.Opening.{Accepted}
use Rattle.order.specs.Calls.{Call, Turn, calls_of}
use Rattle.runs.specs.Runs.{Held, opened, Run, Leaves, LawOverRuns}

-- Calls that each keep their contract make a run that keeps the law over runs, and leave what the law says stands.
abbrev pub RunsAreLawful : Type 0
RunsAreLawful = (h : History) (turns : List Turn) (m : Held) → Run h opened turns m → LawOverRuns h turns × Leaves h turns m

-- The law over runs leaves nothing free: for every list of calls there is exactly one list of turns that keeps it.
abbrev pub LawDecidesRuns : Type 0
LawDecidesRuns =
    (h : History) (calls : List Call) → WellFormed h → Accepted h →
    (turns : List Turn) × (calls_of turns ≡ calls) × LawOverRuns h turns ×
    ((others : List Turn) → calls_of others ≡ calls → LawOverRuns h others → others ≡ turns)
