-- What an entry of a list of calls says: its call, its answer, and its buffer.
use Rattle.std.specs.Prelude.{◌≡◌, ℕ, Bool, true, false, List, [], ◌∷◌, Some, None, Ok, Err, Option, Result}
use Rattle.order.specs.Calls as order
use Rattle.order.specs.Calls.{Preference, Turn}
use Rattle.referee.specs.Meaning.{reply}
use Rattle.referee.specs.Verdicts.{verdict_of}
use Rattle.referee.specs.declared.refusal.Refusal.{Refusal}
use Rattle.referee.specs.declared.entry.Call.{Call}
use Rattle.referee.specs.declared.entry.Call.TheVariants.{Lift, Stipulate, Judge, Show}
use Rattle.referee.specs.declared.entry.Answer.{Answer}
use Rattle.referee.specs.declared.entry.Answer.TheVariants.{Stipulated, Lifted, Judged, Shown}
use Rattle.referee.specs.declared.entry.Entry.{Entry}

-- The call of an entry: `means` says what its preferences mean, and `buffer` is what its buffer holds.
abbrev pub call_by : {P : Type 0} → (P → Preference) → List ℕ → Call P → order.Call
call_by means buffer Lift = order.lift
call_by means buffer (Stipulate a b) = order.stipulate a b
call_by means buffer (Judge budget) = order.judge budget
call_by means buffer (Show p) = order.show (means p) buffer

-- What the answer of a call that is not refused says.
abbrev pub says : Answer → order.Answer
says Stipulated = order.stipulated
says (Lifted a b) = order.lifted a b
says (Judged j) = order.judged (verdict_of j.verdict) j.steps
says (Shown n) = order.shown n

-- What is answered to a call. No call is refused with 0, so a call that keeps its law was made.
abbrev pub answer_of : Option (Result Answer Refusal) → order.Answer
answer_of None = order.refused 0
answer_of (Some r) = reply says r

-- What the buffer of a call holds afterwards; a call other than show has none.
abbrev pub after_by : {P : Type 0} → List ℕ → Call P → List ℕ
after_by buffer Lift = []
after_by buffer (Stipulate a b) = []
after_by buffer (Judge budget) = []
after_by buffer (Show p) = buffer

-- The turn of a call: the call, with the buffer before, its answer, and the buffer after.
abbrev pub turn_by : {P : Type 0} → (P → Preference) → Call P → List ℕ → Option (Result Answer Refusal) → List ℕ → Turn
turn_by means c before a after = record { call = call_by means before c; answer = answer_of a; after = after_by after c }

-- The turn that an entry e has taken once it is e'.
abbrev pub turn_of : {P B : Type 0} → (P → Preference) → (B → List ℕ) → Entry P B → Entry P B → Turn
turn_of means numbers e e' = turn_by means e.call (numbers e.buffer) e'.answer (numbers e'.buffer)

-- The turns that a list of entries has taken, one by one.
abbrev pub turns_of : {P B : Type 0} → (P → Preference) → (B → List ℕ) → List (Entry P B) → List (Entry P B) → List Turn
turns_of means numbers [] after = []
turns_of means numbers (e ∷ es) [] = []
turns_of means numbers (e ∷ es) (e' ∷ es') = turn_of means numbers e e' ∷ turns_of means numbers es es'

-- A show was accepted: such a call alone writes to the buffer of its entry.
abbrev pub wrote : Option (Result Answer Refusal) → Bool
wrote None = false
wrote (Some (Err e)) = false
wrote (Some (Ok Stipulated)) = false
wrote (Some (Ok (Lifted a b))) = false
wrote (Some (Ok (Judged j))) = false
wrote (Some (Ok (Shown n))) = true

-- The call stays, with its preference, and so does a buffer that was not written to.
pub record Stays {P B : Type 0} (e e' : Entry P B) : Type 0 where
  pub call : e'.call ≡ e.call
  pub buffer : wrote e'.answer ≡ false → e'.buffer ≡ e.buffer
