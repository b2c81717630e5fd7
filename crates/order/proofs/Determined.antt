-- For every list of calls there is exactly one list of turns that keeps the law over runs.
use Rattle.std.proofs.Common.{◌≡◌, ℕ, ◌-◌, Bool, true, false, cond, eqb, List, [], ◌∷◌, ◌++◌, length, take, drop, sym, refl, ap, ◌∙◌, subst, inl, inr, append_assoc, arith, take-append-drop, take_at, drop_at}
use mathlib.Core.List.Memᴰ
use mathlib.Core.List.{nil≢cons, head-eq_of_cons-eq, tail-eq_of_cons-eq}
use native.Mathlib.Decide.{ℕ_discrete, dec_lt}
use Rattle.order.specs.History.{History, count, WellFormed, PairsOfEvents}
use Rattle.order.specs.Orders.{Serializable}
use Rattle.order.specs.Search.{Search, Outcome, fails, succeeds}
use Rattle.order.specs.Opening.{Accepted}
use Rattle.order.specs.Calls.{Preference, Verdict, serial, none, spent, Call, stipulate, lift, judge, show, Answer, refused, lifted, judged, shown, accepts, stipulate_answer, lift_answer, entered, ledger, Shows, JudgeAnswers, ShowAnswers, Turn, TurnLaw, calls_of, SerialStands, LawOverRuns, State, unjudged, standing, Held, SerialHeld, opened, moved, Step, Run}
use Rattle.order.specs.Theorems.{LawDecidesRuns}
use Rattle.order.proofs.Fail.{failure_leaves_none}
use Rattle.order.proofs.Success.{placed_there, placed_shows, shows_once}
use Rattle.order.proofs.Judge.{judges_once, judge_is_decided_lem}
use Rattle.order.proofs.Runs.{Plain, stipulate_plain, runs_are_lawful_lem}
use Rattle.order.proofs.Ledger.{AllWrites, enters}

-- One answer to each call.
judge_once : {h : History} {S : List (ℕ × ℕ)} {budget : ℕ} {r q : Answer} → JudgeAnswers h S budget r → JudgeAnswers h S budget q → r ≡ q
judge_once (JudgeAnswers.no_budget e) (JudgeAnswers.no_budget d) = refl
judge_once (JudgeAnswers.no_budget e) (JudgeAnswers.judges l j) = absurd (omega arith)
judge_once (JudgeAnswers.judges l j) (JudgeAnswers.no_budget d) = absurd (omega arith)
judge_once (JudgeAnswers.judges {v = v} {steps = s} l j) (JudgeAnswers.judges {v = w} {steps = u} m k) =
    let e = judges_once w v u s k j in λ i. judged (e.0 i) (e.1 i)

show_once : {h : History} {S : List (ℕ × ℕ)} {P : Type 0} {f : Preference} {buffer : List ℕ} {r q : Answer} {x y : List ℕ} →
    ShowAnswers h S P f buffer r x → ShowAnswers h S P f buffer q y → (r ≡ q) × (x ≡ y)
show_once (ShowAnswers.not_serial n) (ShowAnswers.not_serial m) = (refl, refl)
show_once (ShowAnswers.not_serial n) (ShowAnswers.too_short p l) = absurd (n p)
show_once (ShowAnswers.not_serial n) (ShowAnswers.shows p l s d) = absurd (n p)
show_once (ShowAnswers.too_short p l) (ShowAnswers.not_serial n) = absurd (n p)
show_once (ShowAnswers.too_short p l) (ShowAnswers.too_short q m) = (refl, refl)
show_once (ShowAnswers.too_short p l) (ShowAnswers.shows q m s d) = absurd (omega arith)
show_once (ShowAnswers.shows p l s d) (ShowAnswers.not_serial n) = absurd (n p)
show_once (ShowAnswers.shows p l s d) (ShowAnswers.too_short q m) = absurd (omega arith)
show_once {h} {x = x} {y = y} (ShowAnswers.shows p l s d) (ShowAnswers.shows q m t e) =
    (refl, sym (take-append-drop (count h) x) ∙ ap (λ z. z ++ drop (count h) x) (shows_once s t) ∙ ap (λ z. take (count h) y ++ z) (d ∙ sym e) ∙ take-append-drop (count h) y)

turn_once : (h : History) (S : List (ℕ × ℕ)) (P : Type 0) (c : Call) (r q : Answer) (x y : List ℕ) →
    TurnLaw h S P (record { call = c; answer = r; after = x }) → TurnLaw h S P (record { call = c; answer = q; after = y }) → (r ≡ q) × (x ≡ y)
turn_once h S P (stipulate a b) r q x y l m = (l.0 ∙ sym m.0, l.1 ∙ sym m.1)
turn_once h S P lift r q x y l m = (l.0 ∙ sym m.0, l.1 ∙ sym m.1)
turn_once h S P (judge budget) r q x y l m = (judge_once l.0 m.0, l.1 ∙ sym m.1)
turn_once h S P (show f buffer) r q x y l m = show_once l m

same_turn : (h : History) (S : List (ℕ × ℕ)) (P : Type 0) (t u : Turn) → t.call ≡ u.call → TurnLaw h S P t → TurnLaw h S P u → t ≡ u
same_turn h S P t u e l m =
    let o = turn_once h S P t.call t.answer u.answer t.after u.after l
    (subst (λ c. TurnLaw h S P (record { call = c; answer = u.answer; after = u.after })) (sym e) m) in
    λ i. record { call = e i; answer = o.0 i; after = o.1 i }

same_turns : (h : History) (past xs ys : List Turn) → LawOverRuns h (past ++ xs) → LawOverRuns h (past ++ ys) → calls_of xs ≡ calls_of ys → xs ≡ ys
same_turns h past [] [] l m e = refl
same_turns h past [] (y ∷ ys) l m e = absurd (nil≢cons e)
same_turns h past (x ∷ xs) [] l m e = absurd (nil≢cons (sym e))
same_turns h past (x ∷ xs) (y ∷ ys) l m e =
    let d : x ≡ y = same_turn h (ledger h (calls_of past)) (SerialStands past) x y (head-eq_of_cons-eq e) (l.law past x xs refl) (m.law past y ys refl) in
    let r = same_turns h (past ++ (x ∷ [])) xs ys (subst (λ z. LawOverRuns h z) (sym (append_assoc past (x ∷ []) xs)) l)
    (subst (λ z. LawOverRuns h z) (ap (λ z. past ++ (z ∷ ys)) (sym d) ∙ sym (append_assoc past (x ∷ []) ys)) m) (tail-eq_of_cons-eq e) in
    cc

-- What a case holds is backed: its pairs are writes, and where serial stands the search from them succeeds.
record Backed (h : History) (m : Held) : Type 0 where
  writes : AllWrites h m.pairs
  found : SerialHeld m.state → (t : ℕ) × (Q : List (ℕ × ℕ)) × Search h m.pairs t (succeeds Q)

unjudged_never : {v : Verdict} {n : ℕ} → unjudged ≡ standing v n → ⊥
unjudged_never e = let z : ◌≡◌ {A = ℕ} 0 1 = cc in omega arith

module _ (h : History) (well : WellFormed h) (acc : Accepted h) where
  inside : (m : Held) → Backed h m → PairsOfEvents h m.pairs
  inside m k a b p = let w = k.writes a b p in (w.first.number, w.second.number)

  -- One more turn, for any call.
  abbrev Next : Held → Call → Type 0
  Next m c = (t : Turn) × (m' : Held) × (t.call ≡ c) × Step h m t m' × Backed h m'

  stipulates : (m : Held) → Backed h m → (a b : ℕ) → Next m (stipulate a b)
  stipulates m k a b = (
    record { call = stipulate a b; answer = stipulate_answer h m.pairs a b; after = [] },
    record { pairs = entered h m.pairs (stipulate a b); state = moved m.state (stipulate_answer h m.pairs a b) },
    refl,
    record { law = (refl, refl); pairs = refl; state = refl },
    record { writes = enters h m.pairs (stipulate a b) k.writes; found = go (stipulate_answer h m.pairs a b) (stipulate_plain h m.pairs a b) },
  )
    where
      go : (r : Answer) → Plain r → SerialHeld (moved m.state r) →
          (t : ℕ) × (Q : List (ℕ × ℕ)) × Search h (cond (accepts r) (m.pairs ++ ((a, b) ∷ [])) m.pairs) t (succeeds Q)
      go r (inl e) d = absurd (unjudged_never (sym (ap (moved m.state) e) ∙ d.1))
      go r (inr e) d =
          let f = k.found (d.0, sym (ap (moved m.state) e.1) ∙ d.1) in
          (f.0, f.1, subst (λ z. Search h (cond (accepts z) (m.pairs ++ ((a, b) ∷ [])) m.pairs) f.0 (succeeds f.1)) (sym e.1) f.2)

  lifts : (m : Held) → Backed h m → Next m lift
  lifts m k = (
    record { call = lift; answer = lift_answer m.pairs; after = [] },
    record { pairs = entered h m.pairs lift; state = moved m.state (lift_answer m.pairs) },
    refl,
    record { law = (refl, refl); pairs = refl; state = refl },
    record { writes = enters h m.pairs lift k.writes; found = go (eqb (length m.pairs) 0) _ _ },
  )
    where
      go : (b : Bool) (x y : ℕ) → SerialHeld (moved m.state (cond b (refused 26) (lifted x y))) →
          (t : ℕ) × (Q : List (ℕ × ℕ)) × Search h (cond (accepts (cond b (refused 26) (lifted x y))) (take (length m.pairs - 1) m.pairs) m.pairs) t (succeeds Q)
      go true x y d = k.found d
      go false x y d = absurd (unjudged_never d.1)

  judges : (m : Held) → Backed h m → (budget : ℕ) → Next m (judge budget)
  judges m k budget = elim (ℕ_discrete budget 0) [
    | yes e ↦ (record { call = judge budget; answer = refused 27; after = [] }, m, refl, record { law = (JudgeAnswers.no_budget e, refl); pairs = refl; state = refl }, k)
    | no n ↦ let r = judge_is_decided_lem h m.pairs budget well acc (inside m k) in (
      record { call = judge budget; answer = judged r.0 r.1; after = [] },
      record { pairs = m.pairs; state = standing r.0 r.1 },
      refl,
      record { law = (JudgeAnswers.judges (omega arith) r.2, refl); pairs = refl; state = refl },
      record { writes = k.writes; found = λ q. let e = q.1 in let d : r.0 ≡ serial = cc in go r.2.outcome r.2.search (r.2.serial_when.0 d).1 },
    )
  ]
    where
      go : {t : ℕ} (o : Outcome) → Search h m.pairs t o → Serializable h m.pairs → (t : ℕ) × (Q : List (ℕ × ℕ)) × Search h m.pairs t (succeeds Q)
      go fails s f = absurd (failure_leaves_none acc s f)
      go (succeeds Q) s f = (_, Q, s)

  shows : (m : Held) → Backed h m → (f : Preference) (buffer : List ℕ) → Next m (show f buffer)
  shows m k f buffer = go m.state refl
    where
      refuses : ¬ SerialHeld m.state → Next m (show f buffer)
      refuses n = (record { call = show f buffer; answer = refused 28; after = buffer }, m, refl, record { law = ShowAnswers.not_serial n; pairs = refl; state = refl }, k)

      go : (s : State) → m.state ≡ s → Next m (show f buffer)
      go unjudged e = refuses (λ q. unjudged_never (sym e ∙ q.1))
      go (standing none n) e = refuses (λ q. let d = q.1 in let z : ◌≡◌ {A = ℕ} 0 1 = cc in omega arith)
      go (standing spent n) e = refuses (λ q. let d = q.1 in let z : ◌≡◌ {A = ℕ} 0 1 = cc in omega arith)
      go (standing serial steps) e = elim (dec_lt (length buffer) (count h)) [
        | yes l ↦ (record { call = show f buffer; answer = refused 29; after = buffer }, m, refl, record { law = ShowAnswers.too_short (steps, e) l; pairs = refl; state = refl }, k)
        | no l ↦ let s = k.found (steps, e) in
            let r = placed_there h m.pairs s.1 s.0 well acc (inside m k) s.2 f in
            let w = placed_shows h m.pairs s.1 s.0 well acc (inside m k) s.2 r.1 in
            let n = r.1.order.long in (
              record { call = show f buffer; answer = shown (count h); after = r.0 ++ drop (count h) buffer },
              m,
              refl,
              record {
                law = ShowAnswers.shows (steps, e) (omega arith) (subst (λ z. Shows h m.pairs f z) (sym (take_at r.0 (drop (count h) buffer) (count h) n)) w)
                    (drop_at r.0 (drop (count h) buffer) (count h) n);
                pairs = refl;
                state = refl;
              },
              k,
            )
      ]

  next : (m : Held) → Backed h m → (c : Call) → Next m c
  next m k (stipulate a b) = stipulates m k a b
  next m k lift = lifts m k
  next m k (judge budget) = judges m k budget
  next m k (show f buffer) = shows m k f buffer

  -- And so a run, for any list of calls.
  run : (m : Held) → Backed h m → (cs : List Call) → (ts : List Turn) × (m' : Held) × (calls_of ts ≡ cs) × Run h m ts m'
  run m k [] = ([], m, refl, Run.stop)
  run m k (c ∷ cs) =
      let n = next m k c in
      let r = run n.1 n.4 cs in
      let e = n.2 in let d = r.2 in
      (n.0 ∷ r.0, r.1, cc, Run.go n.3 r.3)

pub law_decides_runs_lem : LawDecidesRuns
law_decides_runs_lem h calls well acc =
    let r = run h well acc opened (record { writes = λ a b m. absurd (Memᴰ.not-nil m); found = λ e. absurd (unjudged_never e.1) }) calls in
    let l = (runs_are_lawful_lem h r.0 r.1 r.3).0 in
    (r.0, r.2, l, λ others e m. same_turns h [] others r.0 m l (e ∙ sym r.2))
