-- The calls on an open case: what each answers, the ledger, the verdict that stands, and the law over runs of calls.
use Rattle.std.specs.Prelude.{◌≡◌, ℕ, ◌+◌, ◌-◌, ◌^◌, ◌<◌, ◌≤◌, Bool, true, false, cond, not, ◌&&◌, T, ◌≢◌, ◌⊎◌, ◌↔◌, List, [], ◌∷◌, ◌++◌, map, length, take, drop, ◌==◌, nat_le, slice_index, slice_index_or}
use mathlib.Core.List.{Memᴰ}
use Rattle.history.specs.declared.event.Event.{Event}
use Rattle.history.specs.Preferences.{Lawful}
use Rattle.order.specs.History.{History, at, count, star_of, Number, TwoWrites}
use Rattle.order.specs.Orders.{place, Order, Earlier, Fitting, Serializable, SameWrites}
use Rattle.order.specs.Before.{Before}
use Rattle.order.specs.Search.{Search, Outcome, succeeds, CountsUnordered}
use Rattle.order.specs.Opening.{is_write}

-- A preference: which of two events, each given by number and record, is preferred; and that this keeps the laws.
pub record Preference : Type 0 where
  pub prefers : ℕ → Event → ℕ → Event → Bool
  pub lawful : (es : List Event) → Lawful prefers es

-- The event a is preferred to the event b.
abbrev pub Preferred : Preference → History → ℕ → ℕ → Type 0
Preferred f h a b = T (f.prefers a (at h a) b (at h b))

-- What judge can find: a fitting order exists, none exists, or the budget is spent.
pub data Verdict : Type 0 where
  serial none spent : Verdict

-- The calls: stipulate two numbers, lift, judge with a budget, show with a preference and a buffer.
pub data Call : Type 0 where
  stipulate : ℕ → ℕ → Call
  lift : Call
  judge : ℕ → Call
  show : Preference → List ℕ → Call

-- The answers: a refusal with its number, or what the call gives: lift the pair that it drops, judge a verdict with the
-- steps, show how many numbers it wrote.
pub data Answer : Type 0 where
  refused : ℕ → Answer
  stipulated : Answer
  lifted : ℕ → ℕ → Answer
  judged : Verdict → ℕ → Answer
  shown : ℕ → Answer

-- An answer that is no refusal.
abbrev pub accepts : Answer → Bool
accepts (refused n) = false
accepts stipulated = true
accepts (lifted a b) = true
accepts (judged v steps) = true
accepts (shown n) = true

-- The number is that of an event.
abbrev pub is_number : History → ℕ → Bool
is_number h i = nat_le 1 i && nat_le i (count h)

-- What stipulate answers with the ledger L: the first refusal that applies, or it is accepted.
abbrev pub stipulate_answer : History → List (ℕ × ℕ) → ℕ → ℕ → Answer
stipulate_answer h L a b =
    cond (not (is_number h a && is_number h b)) (refused 21)
    (cond (not (is_write (at h a) && is_write (at h b))) (refused 22)
    (cond (not (star_of h a == star_of h b)) (refused 23)
    (cond (a == b) (refused 24)
    (cond (nat_le 64 (length L)) (refused 25) stipulated))))

-- What lift answers with the ledger L: the latest pair, or a refusal where none stands.
abbrev pub lift_answer : List (ℕ × ℕ) → Answer
lift_answer L =
    let q = slice_index_or L (length L - 1) (0, 0) in
    cond (length L == 0) (refused 26) (lifted q.0 q.1)

-- What a call makes of the ledger, latest pair last: an accepted stipulate adds its pair, an accepted lift drops the latest.
abbrev pub entered : History → List (ℕ × ℕ) → Call → List (ℕ × ℕ)
entered h L (stipulate a b) = cond (accepts (stipulate_answer h L a b)) (L ++ ((a, b) ∷ [])) L
entered h L lift = cond (accepts (lift_answer L)) (take (length L - 1) L) L
entered h L (judge budget) = L
entered h L (show f buffer) = L

-- What a list of calls makes of it.
abbrev pub entered_all : History → List (ℕ × ℕ) → List Call → List (ℕ × ℕ)
entered_all h L [] = L
entered_all h L (c ∷ cs) = entered_all h (entered h L c) cs

-- The ledger after a list of calls on a case just opened.
abbrev pub ledger : History → List Call → List (ℕ × ℕ)
ledger h cs = entered_all h [] cs

-- What judge finds with the pairs S standing and a budget of at least 1. `nodes` is the number T of nodes that the search visits.
pub record Judges (h : History) (S : List (ℕ × ℕ)) (budget : ℕ) (v : Verdict) (steps : ℕ) : Type 0 where
  pub nodes : ℕ
  pub outcome : Outcome
  pub search : Search h S nodes outcome
  pub serial_when : (v ≡ serial) ↔ ((nodes ≤ budget) × Serializable h S)
  pub none_when : (v ≡ none) ↔ ((nodes ≤ budget) × ¬ Serializable h S)
  pub spent_when : (v ≡ spent) ↔ (budget < nodes)
  pub within : nodes ≤ budget → steps ≡ nodes
  pub beyond : budget < nodes → steps ≡ budget
  pub decided : (p : ℕ) → CountsUnordered h S p → 2 ^ (p + 1) - 1 ≤ budget → (v ≡ serial) ⊎ (v ≡ none)

-- With the first k numbers of σ placed, y can be placed next: it is not placed, and its predecessors in the node Q are.
pub record Ready (h : History) (Q : List (ℕ × ℕ)) (σ : List ℕ) (k y : ℕ) : Type 0 where
  pub number : Number h y
  pub unplaced : k ≤ place σ y
  pub predecessors : (a : ℕ) → Before h Q a y → place σ a < k

-- σ is the order that places, again and again, the most preferred event whose predecessors in the node Q are all placed.
pub record Placed (h : History) (Q : List (ℕ × ℕ)) (f : Preference) (σ : List ℕ) : Type 0 where
  pub order : Order (count h) σ
  pub ready : (k : ℕ) → k < count h → Ready h Q σ k (slice_index σ k)
  pub preferred : (k y : ℕ) → k < count h → Ready h Q σ k y → y ≢ slice_index σ k → Preferred f h (slice_index σ k) y

-- Where σ and τ first differ, τ has the less preferred event.
abbrev pub BetterThan : Preference → History → List ℕ → List ℕ → Type 0
BetterThan f h σ τ =
    (k : ℕ) → k < count h → ((j : ℕ) → j < k → slice_index σ j ≡ slice_index τ j) → slice_index σ k ≢ slice_index τ k →
    Preferred f h (slice_index σ k) (slice_index τ k)

-- What show shows with the pairs S standing: the order that is placed at the successful node. It fits, it has that node's
-- order of writes for each star, and it is better than every other fitting order that has this order of writes.
pub record Shows (h : History) (S : List (ℕ × ℕ)) (f : Preference) (σ : List ℕ) : Type 0 where
  pub nodes : ℕ
  pub node : List (ℕ × ℕ)
  pub search : Search h S nodes (succeeds node)
  pub placed : Placed h node f σ
  pub fits : Fitting h S σ
  pub writes : (a b : ℕ) → TwoWrites h a b → Before h node a b ↔ Earlier σ a b
  pub best : (τ : List ℕ) → Fitting h S τ → SameWrites h σ τ → BetterThan f h σ τ

-- What judge answers.
pub data JudgeAnswers (h : History) (S : List (ℕ × ℕ)) (budget : ℕ) : Answer → Type 0 where
  no_budget : budget ≡ 0 → JudgeAnswers h S budget (refused 27)
  judges : {v : Verdict} {steps : ℕ} → 1 ≤ budget → Judges h S budget v steps → JudgeAnswers h S budget (judged v steps)

-- What show answers, and what its buffer holds afterwards; `serial_stands` says that the verdict serial stands.
pub data ShowAnswers (h : History) (S : List (ℕ × ℕ)) (serial_stands : Type 0) (f : Preference) (buffer : List ℕ) : Answer → List ℕ → Type 0 where
  not_serial : ¬ serial_stands → ShowAnswers h S serial_stands f buffer (refused 28) buffer
  too_short : serial_stands → length buffer < count h → ShowAnswers h S serial_stands f buffer (refused 29) buffer
  shows : {after : List ℕ} → serial_stands → count h ≤ length buffer → Shows h S f (take (count h) after) →
      drop (count h) after ≡ drop (count h) buffer → ShowAnswers h S serial_stands f buffer (shown (count h)) after

-- A turn: a call, its answer, and what its buffer holds afterwards; a call other than show has no buffer.
pub record Turn : Type 0 where
  pub call : Call
  pub answer : Answer
  pub after : List ℕ

-- What a turn is, with the pairs S standing.
abbrev pub TurnLaw : History → List (ℕ × ℕ) → Type 0 → Turn → Type 0
TurnLaw h S serial_stands t =
    elim t.call [
      | stipulate a b ↦ (t.answer ≡ stipulate_answer h S a b) × (t.after ≡ [])
      | lift ↦ (t.answer ≡ lift_answer S) × (t.after ≡ [])
      | judge budget ↦ JudgeAnswers h S budget t.answer × (t.after ≡ [])
      | show f buffer ↦ ShowAnswers h S serial_stands f buffer t.answer t.after
    ]

-- The calls of a list of turns.
abbrev pub calls_of : List Turn → List Call
calls_of turns = map (λ t. t.call) turns

-- The calls that, accepted, put an end to the verdict that stood: all but show.
abbrev pub ends_verdict : Call → Bool
ends_verdict (stipulate a b) = true
ends_verdict lift = true
ends_verdict (judge budget) = true
ends_verdict (show f buffer) = false

-- The verdict v stands with its steps after the turns `past`: a judge among them answered both, and no judge, stipulate or
-- lift was accepted since.
pub record Stands (past : List Turn) (v : Verdict) (steps : ℕ) : Type 0 where
  pub earlier : List Turn
  pub turn : Turn
  pub since : List Turn
  pub split : past ≡ earlier ++ (turn ∷ since)
  pub budget : ℕ
  pub call : turn.call ≡ judge budget
  pub answer : turn.answer ≡ judged v steps
  pub none_since : (t : Turn) → Memᴰ t since → T (ends_verdict t.call) → ¬ T (accepts t.answer)

-- The verdict serial stands after the turns `past`, with whatever steps.
abbrev pub SerialStands : List Turn → Type 0
SerialStands past = (n : ℕ) × Stands past serial n

-- The law over runs: each turn, wherever it stands, is as the ledger of the calls before it and the verdict that stands there say.
pub record LawOverRuns (h : History) (turns : List Turn) : Type 0 where
  pub law : (past : List Turn) (t : Turn) (rest : List Turn) → turns ≡ past ++ (t ∷ rest) →
      TurnLaw h (ledger h (calls_of past)) (SerialStands past) t

-- What a case holds between calls: the stipulations that stand, latest last, and a verdict with its steps, if one stands.
pub data State : Type 0 where
  unjudged : State
  standing : Verdict → ℕ → State

pub record Held : Type 0 where
  pub pairs : List (ℕ × ℕ)
  pub state : State

-- The verdict serial is held, with whatever steps.
abbrev pub SerialHeld : State → Type 0
SerialHeld s = (n : ℕ) × (s ≡ standing serial n)

-- A case just opened.
abbrev pub opened : Held
opened = record { pairs = []; state = unjudged }

-- The state after an answer.
abbrev pub moved : State → Answer → State
moved s (refused n) = s
moved s stipulated = unjudged
moved s (lifted a b) = unjudged
moved s (judged v steps) = standing v steps
moved s (shown n) = s

-- What the contract of one call says, from what the case held before it to what it holds after.
pub record Step (h : History) (m : Held) (t : Turn) (m' : Held) : Type 0 where
  pub law : TurnLaw h m.pairs (SerialHeld m.state) t
  pub pairs : m'.pairs ≡ entered h m.pairs t.call
  pub state : m'.state ≡ moved m.state t.answer

-- A run: turns that each keep that contract, from what the case held at first to what it holds at last.
pub data Run (h : History) : Held → List Turn → Held → Type 0 where
  stop : {m : Held} → Run h m [] m
  go : {m m' m'' : Held} {t : Turn} {ts : List Turn} → Step h m t m' → Run h m' ts m'' → Run h m (t ∷ ts) m''

-- What a run leaves: the ledger of its calls, and the verdict that stands after it, with its steps.
pub record Leaves (h : History) (turns : List Turn) (m : Held) : Type 0 where
  pub pairs : m.pairs ≡ ledger h (calls_of turns)
  pub state : (v : Verdict) (n : ℕ) → (m.state ≡ standing v n) ↔ Stands turns v n
