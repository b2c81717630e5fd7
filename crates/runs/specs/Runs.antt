-- Runs of calls where the verdict that stands is told without its steps: what a case holds, the law over runs, and what a run leaves.
use Rattle.std.specs.Prelude.{◌≡◌, ℕ, T, ◌↔◌, List, [], ◌∷◌, ◌++◌}
use mathlib.Core.List.{Memᴰ}
use Rattle.order.specs.History.{History}
use Rattle.order.specs.Calls.{Verdict, serial, judge, Answer, refused, stipulated, lifted, judged, shown, accepts, entered, ledger, Turn, TurnLaw, calls_of, ends_verdict}

-- The verdict v stands after the turns `past`: a judge among them answered v, and no judge, stipulate or lift was accepted since.
pub record Stands (past : List Turn) (v : Verdict) : Type 0 where
  pub earlier : List Turn
  pub turn : Turn
  pub since : List Turn
  pub split : past ≡ earlier ++ (turn ∷ since)
  pub budget : ℕ
  pub steps : ℕ
  pub call : turn.call ≡ judge budget
  pub answer : turn.answer ≡ judged v steps
  pub none_since : (t : Turn) → Memᴰ t since → T (ends_verdict t.call) → ¬ T (accepts t.answer)

-- The law over runs: each turn, wherever it stands, is as the ledger of the calls before it and the verdict that stands there say.
pub record LawOverRuns (h : History) (turns : List Turn) : Type 0 where
  pub law : (past : List Turn) (t : Turn) (rest : List Turn) → turns ≡ past ++ (t ∷ rest) →
      TurnLaw h (ledger h (calls_of past)) (Stands past serial) t

-- What a case holds between calls: the stipulations that stand, latest last, and a verdict, if one stands.
pub data State : Type 0 where
  unjudged : State
  standing : Verdict → State

pub record Held : Type 0 where
  pub pairs : List (ℕ × ℕ)
  pub state : State

-- A case just opened.
abbrev pub opened : Held
opened = record { pairs = []; state = unjudged }

-- The state after an answer.
abbrev pub moved : State → Answer → State
moved s (refused n) = s
moved s stipulated = unjudged
moved s (lifted a b) = unjudged
moved s (judged v steps) = standing v
moved s (shown n) = s

-- What the contract of one call says, from what the case held before it to what it holds after.
pub record Step (h : History) (m : Held) (t : Turn) (m' : Held) : Type 0 where
  pub law : TurnLaw h m.pairs (m.state ≡ standing serial) t
  pub pairs : m'.pairs ≡ entered h m.pairs t.call
  pub state : m'.state ≡ moved m.state t.answer

-- A run: turns that each keep that contract, from what the case held at first to what it holds at last.
pub data Run (h : History) : Held → List Turn → Held → Type 0 where
  stop : {m : Held} → Run h m [] m
  go : {m m' m'' : Held} {t : Turn} {ts : List Turn} → Step h m t m' → Run h m' ts m'' → Run h m (t ∷ ts) m''

-- What a run leaves: the ledger of its calls, and the verdict that stands after it.
pub record Leaves (h : History) (turns : List Turn) (m : Held) : Type 0 where
  pub pairs : m.pairs ≡ ledger h (calls_of turns)
  pub state : (v : Verdict) → (m.state ≡ standing v) ↔ Stands turns v
