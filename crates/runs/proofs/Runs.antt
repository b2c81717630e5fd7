-- The law over runs without the steps of the verdict follows from the law with them.
use Rattle.std.proofs.Common.{◌≡◌, ℕ, List, sym, refl, ap, ◌∙◌, subst, arith}
use Rattle.order.specs.History.{History}
use Rattle.order.specs.Calls.{Verdict, serial, Call, stipulate, lift, judge, show, Answer, refused, stipulated, lifted, judged, shown, Turn, TurnLaw, ShowAnswers, calls_of, entered, ledger}
use Rattle.order.specs.Calls as full
use Rattle.order.proofs.Runs as lawful
use Rattle.order.proofs.Determined as decided
use Rattle.runs.specs.Runs.{Stands, LawOverRuns, State, unjudged, standing, Held, moved, Run}
use Rattle.runs.specs.Theorems.{RunsAreLawful, LawDecidesRuns}

-- What a turn is depends on the verdict only through whether serial stands.
turn_law : (h : History) (S : List (ℕ × ℕ)) (P Q : Type 0) (c : Call) (r : Answer) (after : List ℕ) → (P → Q) → (Q → P) →
    TurnLaw h S P (record { call = c; answer = r; after = after }) → TurnLaw h S Q (record { call = c; answer = r; after = after })
turn_law h S P Q (stipulate a b) r after f g l = l
turn_law h S P Q lift r after f g l = l
turn_law h S P Q (judge budget) r after f g l = l
turn_law h S P Q (show p buffer) r after f g l = go l
  where
    go : {r : Answer} {after : List ℕ} → ShowAnswers h S P p buffer r after → ShowAnswers h S Q p buffer r after
    go (ShowAnswers.not_serial n) = ShowAnswers.not_serial (λ q. n (g q))
    go (ShowAnswers.too_short q l) = ShowAnswers.too_short (f q) l
    go (ShowAnswers.shows q l s d) = ShowAnswers.shows (f q) l s d

-- A verdict stands where it stands with some steps.
without_steps : (past : List Turn) (v : Verdict) (n : ℕ) → full.Stands past v n → Stands past v
without_steps past v n s = record {
  earlier = s.earlier;
  turn = s.turn;
  since = s.since;
  split = s.split;
  budget = s.budget;
  steps = n;
  call = s.call;
  answer = s.answer;
  none_since = s.none_since;
}

with_steps : (past : List Turn) (v : Verdict) → Stands past v → (n : ℕ) × full.Stands past v n
with_steps past v s = (
  s.steps,
  record {
    earlier = s.earlier;
    turn = s.turn;
    since = s.since;
    split = s.split;
    budget = s.budget;
    call = s.call;
    answer = s.answer;
    none_since = s.none_since;
  },
)

law : (h : History) (turns : List Turn) → full.LawOverRuns h turns → LawOverRuns h turns
law h turns l = record {
  law = λ past t rest e. turn_law h (ledger h (calls_of past)) (full.SerialStands past) (Stands past serial) t.call t.answer t.after
      (λ q. without_steps past serial q.0 q.1) (with_steps past serial) (l.law past t rest e);
}

full_law : (h : History) (turns : List Turn) → LawOverRuns h turns → full.LawOverRuns h turns
full_law h turns l = record {
  law = λ past t rest e. turn_law h (ledger h (calls_of past)) (Stands past serial) (full.SerialStands past) t.call t.answer t.after
      (with_steps past serial) (λ q. without_steps past serial q.0 q.1) (l.law past t rest e);
}

-- A state without the steps.
abbrev forget : full.State → State
forget full.unjudged = unjudged
forget (full.standing v n) = standing v

forget_moved : (s : full.State) (r : Answer) → forget (full.moved s r) ≡ moved (forget s) r
forget_moved s (refused n) = refl
forget_moved s stipulated = refl
forget_moved s (lifted a b) = refl
forget_moved s (judged v n) = refl
forget_moved s (shown n) = refl

differ : {v : Verdict} → unjudged ≡ standing v → ⊥
differ e = let z : ◌≡◌ {A = ℕ} 0 1 = cc in omega arith

held : (s : full.State) (v : Verdict) → forget s ≡ standing v → (n : ℕ) × (s ≡ full.standing v n)
held full.unjudged v e = absurd (differ e)
held (full.standing w n) v e = (n, cc)

module _ (h : History) where
  -- A run where the steps are left out is a run with some steps.
  full_run : {m m' : Held} {ts : List Turn} → Run h m ts m' → (f : full.Held) → f.pairs ≡ m.pairs → forget f.state ≡ m.state →
      (f' : full.Held) × full.Run h f ts f' × (f'.pairs ≡ m'.pairs) × (forget f'.state ≡ m'.state)
  full_run Run.stop f p s = (f, full.Run.stop, p, s)
  full_run {m} (Run.go {m' = m₁} {t = t} step r) f p s =
      let f₁ : full.Held = record { pairs = entered h f.pairs t.call; state = full.moved f.state t.answer } in
      let l : TurnLaw h m.pairs (full.SerialHeld f.state) t = turn_law h m.pairs (m.state ≡ standing serial) (full.SerialHeld f.state) t.call t.answer t.after
      (λ e. held f.state serial (s ∙ e)) (λ q. sym s ∙ ap forget q.1) step.law in
      let first : full.Step h f t f₁ = record { law = subst (λ z. TurnLaw h z (full.SerialHeld f.state) t) (sym p) l; pairs = refl; state = refl } in
      let rest = full_run r f₁ (ap (λ z. entered h z t.call) p ∙ sym step.pairs)
      (forget_moved f.state t.answer ∙ ap (λ z. moved z t.answer) s ∙ sym step.state) in
      (rest.0, full.Run.go first rest.1, rest.2, rest.3)

pub runs_are_lawful_lem : RunsAreLawful
runs_are_lawful_lem h turns m r =
    let f = full_run h r full.opened refl refl in
    let l = lawful.runs_are_lawful_lem h turns f.0 f.1 in (
      law h turns l.0,
      record {
        pairs = sym f.2 ∙ l.1.pairs;
        state = λ v. (
          λ e. let q = held f.0.state v (f.3 ∙ e) in without_steps turns v q.0 ((l.1.state v q.0).0 q.1),
          λ s. let q = with_steps turns v s in sym f.3 ∙ ap forget ((l.1.state v q.0).1 q.1),
        );
      },
    )

pub law_decides_runs_lem : LawDecidesRuns
law_decides_runs_lem h calls w a =
    let d = decided.law_decides_runs_lem h calls w a in
    (d.0, d.1, law h d.0 d.2, λ others c l. d.3 others c (full_law h others l))
