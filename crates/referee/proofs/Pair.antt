-- A run of two calls: judge, and then show.
use Rattle.std.proofs.Common.{◌≡◌, ℕ, ◌≤◌, List, [], ◌∷◌, length, get_or, take, Some, None, Ok, Err, Option, Result, refl, ap, ◌∙◌, subst₂, arith}
use mathlib.Core.List.Memᴰ
use Rattle.order.specs.History.{History, count}
use Rattle.order.specs.Calls as order
use Rattle.order.specs.Calls.{Preference, Judges, Shows, JudgeAnswers, ShowAnswers, Turn}
use Rattle.order.specs.Calls.{SerialStands, LawOverRuns}
use Rattle.referee.specs.Entries.{answer_of, turn_of, turns_of}
use Rattle.referee.specs.Verdicts.{verdict_of}
use Rattle.referee.specs.declared.refusal.Refusal.{Refusal}
use Rattle.referee.specs.declared.state.Judgement.{Judgement}
use Rattle.referee.specs.declared.state.Verdict.TheVariants.{Serial}
use Rattle.referee.specs.declared.entry.Call.TheVariants.{Judge, Show}
use Rattle.referee.specs.declared.entry.Answer.{Answer}
use Rattle.referee.specs.declared.entry.Answer.TheVariants.{Stipulated, Lifted, Judged, Shown}
use Rattle.referee.specs.declared.entry.Entry.{Entry}

-- A judge with a budget answers a judgement, which is what judge finds.
abbrev Found : History → List (ℕ × ℕ) → ℕ → Option (Result Answer Refusal) → Type 0
Found h S budget a = (j : Judgement) × (a ≡ Some (Ok (Judged j))) × Judges h S budget (verdict_of j.verdict) j.steps

judge_finds : (h : History) (S : List (ℕ × ℕ)) (budget : ℕ) (a : Option (Result Answer Refusal)) → 1 ≤ budget → JudgeAnswers h S budget (answer_of a) → Found h S budget a
judge_finds h S budget a l answers = go a answers refl
  where
    by : {v : order.Verdict} {steps : ℕ} (a : Option (Result Answer Refusal)) → Judges h S budget v steps → order.judged v steps ≡ answer_of a → Found h S budget a
    by None j e = absurd (let z : ◌≡◌ {A = ℕ} 0 1 = cc in omega arith)
    by (Some (Err x)) j e = absurd (let z : ◌≡◌ {A = ℕ} 0 1 = cc in omega arith)
    by (Some (Ok Stipulated)) j e = absurd (let z : ◌≡◌ {A = ℕ} 0 1 = cc in omega arith)
    by (Some (Ok (Lifted x y))) j e = absurd (let z : ◌≡◌ {A = ℕ} 0 1 = cc in omega arith)
    by (Some (Ok (Shown n))) j e = absurd (let z : ◌≡◌ {A = ℕ} 0 1 = cc in omega arith)
    by {v} {steps} (Some (Ok (Judged found))) j e =
        let one : v ≡ verdict_of found.verdict = cc in
        let two : steps ≡ found.steps = cc in
        (found, refl, subst₂ (Judges h S budget) one two j)

    go : {r : order.Answer} (a : Option (Result Answer Refusal)) → JudgeAnswers h S budget r → r ≡ answer_of a → Found h S budget a
    go a (JudgeAnswers.no_budget e) same = absurd (omega arith)
    go a (JudgeAnswers.judges n j) same = by a j same

-- A show with room, where serial stands, shows.
show_shows : {h : History} {S : List (ℕ × ℕ)} {P : Type 0} {f : Preference} {buffer after : List ℕ} {r : order.Answer} → P → count h ≤ length buffer →
    ShowAnswers h S P f buffer r after → Shows h S f (take (count h) after)
show_shows p l (ShowAnswers.not_serial n) = absurd (n p)
show_shows p l (ShowAnswers.too_short q m) = absurd (omega arith)
show_shows p l (ShowAnswers.shows q m s d) = s

-- After one judge that answered serial, serial stands.
serial_stands : (t : Turn) (budget steps : ℕ) → t.call ≡ order.judge budget → t.answer ≡ order.judged order.serial steps → SerialStands (t ∷ [])
serial_stands t budget steps c a = (
  steps,
  record {
    earlier = [];
    turn = t;
    since = [];
    split = refl;
    budget = budget;
    call = c;
    answer = a;
    none_since = λ u k. absurd (Memᴰ.not-nil k);
  },
)

-- A case just opened that is asked to judge and then to show answers a judgement first; where that is serial, the buffer of the
-- second call has the preferred order at its front.
pub judge_then_show : {P B : Type 0} (means : P → Preference) (numbers : B → List ℕ) (h : History) (budget : ℕ) (p : P) (b₀ b₁ : B) (a₀ a₁ : Option (Result Answer Refusal))
    (es' : List (Entry P B)) (d : Entry P B) → 1 ≤ budget → count h ≤ length (numbers b₁) → length es' ≡ 2 →
    LawOverRuns h (turns_of means numbers (record { call = Judge budget; buffer = b₀; answer = a₀ } ∷ record { call = Show p; buffer = b₁; answer = a₁ } ∷ []) es') →
    (j : Judgement) × ((get_or es' 0 d).answer ≡ Some (Ok (Judged j))) × Judges h [] budget (verdict_of j.verdict) j.steps ×
    (j.verdict ≡ Serial → Shows h [] (means p) (take (count h) (numbers (get_or es' 1 d).buffer)))
judge_then_show means numbers h budget p b₀ b₁ a₀ a₁ [] d some room long l = absurd (omega arith)
judge_then_show means numbers h budget p b₀ b₁ a₀ a₁ (x ∷ []) d some room long l = absurd (omega arith)
judge_then_show means numbers h budget p b₀ b₁ a₀ a₁ (x ∷ y ∷ z ∷ zs) d some room long l = absurd (omega arith)
judge_then_show means numbers h budget p b₀ b₁ a₀ a₁ (x ∷ y ∷ []) d some room long l =
    let t₀ = turn_of means numbers (record { call = Judge budget; buffer = b₀; answer = a₀ }) x in
    let t₁ = turn_of means numbers (record { call = Show p; buffer = b₁; answer = a₁ }) y in
    let found = judge_finds h [] budget x.answer some (l.law [] t₀ (t₁ ∷ []) refl).0 in (
      found.0,
      found.1,
      found.2,
      λ e. show_shows (serial_stands t₀ budget found.0.steps refl (ap answer_of found.1 ∙ ap (λ v. order.judged (verdict_of v) found.0.steps) e)) room
          (l.law (t₀ ∷ []) t₁ [] refl),
    )
