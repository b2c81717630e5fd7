-- What a case means, and what a call on it makes of that.
use Rattle.std.specs.Prelude.{◌≡◌, ℕ, List, [], Ok, Err, Result}
use Rattle.order.specs.History.{History}
use Rattle.order.specs.Calls.{Turn, Call, Answer, refused, stipulate, lift, judge, show}
use Rattle.order.specs.Calls.{Held, Step, unjudged, standing}
use Rattle.saturation.specs.Recorded.{history_in}
use Rattle.referee.specs.Numbers.{refusal_number}
use Rattle.referee.specs.Verdicts.{verdict_of}
use Rattle.referee.specs.declared.refusal.Refusal.{Refusal}
use Rattle.referee.specs.declared.state.State.{State}
use Rattle.referee.specs.declared.state.State.TheVariants.{Closed, Unjudged, Judged}
use Rattle.referee.specs.declared.case.Case.{Case}

-- A case is closed, or it has a history, and holds the stipulations that stand and a state.
pub data Meaning : Type 0 where
  closed : Meaning
  holds : History → Held → Meaning

abbrev pub meaning_by : History → List (ℕ × ℕ) → State → Meaning
meaning_by h S Closed = closed
meaning_by h S Unjudged = holds h (record { pairs = S; state = unjudged })
meaning_by h S (Judged j) = holds h (record { pairs = S; state = standing (verdict_of j.verdict) j.steps })

-- The stipulations that stand.
abbrev pub pairs_of : Case → List (ℕ × ℕ)
pairs_of c = c.stipulations.items

-- What a case means.
abbrev pub meaning : Case → Meaning
meaning c = meaning_by (history_in c.recorded) (pairs_of c) c.state

-- An answer in words: a refusal has its number, and anything else what the call makes of it.
abbrev pub reply : {X : Type 0} → (X → Answer) → Result X Refusal → Answer
reply says (Ok x) = says x
reply says (Err e) = refused (refusal_number e)

-- The turn of a call, its answer, and its buffer after.
abbrev pub turn : Call → Answer → List ℕ → Turn
turn c a after = record { call = c; answer = a; after = after }

-- The buffer that a call brings.
abbrev pub buffer_of : Call → List ℕ
buffer_of (stipulate a b) = []
buffer_of lift = []
buffer_of (judge budget) = []
buffer_of (show f buffer) = buffer

-- A turn on a case, from what it means to what it means then: a closed case refuses with 20 and stays closed, and the
-- buffer stays as it is; any other keeps its history, and what it holds follows the rules of the call.
abbrev pub TurnOn : Turn → Meaning → Meaning → Type 0
TurnOn t closed m = (t.answer ≡ refused 20) × (t.after ≡ buffer_of t.call) × (m ≡ closed)
TurnOn t (holds h m) n = (m' : Held) × Step h m t m' × (n ≡ holds h m')
