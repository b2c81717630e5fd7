-- Calls that keep their contracts keep the law over runs, and leave what it says.
use Rattle.std.proofs.Common.{◌≡◌, ℕ, Bool, true, false, cond, not, ◌&&◌, T, eqb, leb, ◌⊎◌, ◌↔◌, List, [], ◌∷◌, ◌++◌, length, sym, refl, ap, ◌∙◌, subst, inl, inr, append_assoc, append-nil, arith}
use mathlib.Core.List.Memᴰ
use mathlib.Core.List.{nil≢cons, head-eq_of_cons-eq, tail-eq_of_cons-eq, Memᴰ}
use Rattle.order.specs.History.{History, at, star_of}
use Rattle.order.specs.Opening.{is_write}
use Rattle.order.specs.Calls.{Verdict, serial, Call, stipulate, lift, judge, show, Answer, refused, stipulated, lifted, judged, accepts, is_number, stipulate_answer, Turn, TurnLaw, JudgeAnswers, ShowAnswers, calls_of, ends_verdict, entered_all, entered, ledger, Stands, SerialStands, State, unjudged, standing, Held, SerialHeld, opened, moved, Step, Run, Leaves}
use Rattle.order.specs.Theorems.{RunsAreLawful}

-- What a turn is depends on the verdict only through whether serial stands.
turn_law : (h : History) (S : List (ℕ × ℕ)) (P Q : Type 0) (c : Call) (r : Answer) (after : List ℕ) → (P → Q) → (Q → P) →
    TurnLaw h S P (record { call = c; answer = r; after = after }) → TurnLaw h S Q (record { call = c; answer = r; after = after })
turn_law h S P Q (stipulate a b) r after f g l = l
turn_law h S P Q lift r after f g l = l
turn_law h S P Q (judge budget) r after f g l = l
turn_law h S P Q (show p buffer) r after f g l = go l
  where
    go : {r : Answer} {after : List ℕ} → ShowAnswers h S P p buffer r after → ShowAnswers h S Q p buffer r after
    go (ShowAnswers.not_serial n) = ShowAnswers.not_serial (λ q. n (g q))
    go (ShowAnswers.too_short q l) = ShowAnswers.too_short (f q) l
    go (ShowAnswers.shows q l s d) = ShowAnswers.shows (f q) l s d

-- What a turn does to the verdict: it leaves it, or ends it, or gives another.
data Effect (t : Turn) : Type 0 where
  leaves : ((s : State) → moved s t.answer ≡ s) → (T (ends_verdict t.call) → T (accepts t.answer) → ⊥) → Effect t
  ends : ((s : State) → moved s t.answer ≡ unjudged) → T (ends_verdict t.call) → T (accepts t.answer) → ((v : Verdict) (n : ℕ) → t.answer ≡ judged v n → ⊥) → Effect t
  gives : (v : Verdict) (budget steps : ℕ) → t.call ≡ judge budget → t.answer ≡ judged v steps → Effect t

-- What stipulate can answer.
abbrev pub Plain : Answer → Type 0
Plain r = (r ≡ stipulated) ⊎ ((n : ℕ) × (r ≡ refused n))

plain : (b : Bool) (n : ℕ) (r : Answer) → Plain r → Plain (cond b (refused n) r)
plain true n r p = inr (n, refl)
plain false n r p = p

pub stipulate_plain : (h : History) (L : List (ℕ × ℕ)) (a b : ℕ) → Plain (stipulate_answer h L a b)
stipulate_plain h L a b =
    plain (not (is_number h a && is_number h b)) 21 _ (
    plain (not (is_write (at h a) && is_write (at h b))) 22 _ (
    plain (not (eqb (star_of h a) (star_of h b))) 23 _ (
    plain (eqb a b) 24 _ (
    plain (leb 64 (length L)) 25 stipulated (inl refl)))))

refused_leaves : (c : Call) (after : List ℕ) (r : Answer) (n : ℕ) → r ≡ refused n → Effect (record { call = c; answer = r; after = after })
refused_leaves c after r n e = subst (λ z. Effect (record { call = c; answer = z; after = after })) (sym e) (Effect.leaves (λ s. refl) (λ x y. y))

effect : (h : History) (S : List (ℕ × ℕ)) (P : Type 0) (c : Call) (r : Answer) (after : List ℕ) → TurnLaw h S P (record { call = c; answer = r; after = after }) →
    Effect (record { call = c; answer = r; after = after })
effect h S P (stipulate a b) r after l = elim (stipulate_plain h S a b) [
  | inr q ↦ refused_leaves (stipulate a b) after r q.0 (l.0 ∙ q.1)
  | inl e ↦ subst (λ z. Effect (record { call = stipulate a b; answer = z; after = after })) (sym (l.0 ∙ e))
      (Effect.ends (λ s. refl) tt tt (λ v n d. let z : ◌≡◌ {A = ℕ} 0 1 = cc in omega arith))
]
effect h S P lift r after l = go (eqb (length S) 0) _ _ l.0
  where
    go : (b : Bool) (x y : ℕ) → r ≡ cond b (refused 26) (lifted x y) → Effect (record { call = lift; answer = r; after = after })
    go true x y e = refused_leaves lift after r 26 e
    go false x y e = subst (λ z. Effect (record { call = lift; answer = z; after = after })) (sym e)
        (Effect.ends (λ s. refl) tt tt (λ v n d. let z : ◌≡◌ {A = ℕ} 0 1 = cc in omega arith))
effect h S P (judge budget) r after l = go l.0
  where
    go : {r : Answer} → JudgeAnswers h S budget r → Effect (record { call = judge budget; answer = r; after = after })
    go (JudgeAnswers.no_budget e) = refused_leaves (judge budget) after (refused 27) 27 refl
    go (JudgeAnswers.judges {v = v} {steps = steps} l j) = Effect.gives v budget steps refl refl
effect h S P (show f buffer) r after l = go l
  where
    go : {r : Answer} {after : List ℕ} → ShowAnswers h S P f buffer r after → Effect (record { call = show f buffer; answer = r; after = after })
    go (ShowAnswers.not_serial n) = Effect.leaves (λ s. refl) (λ x y. x)
    go (ShowAnswers.too_short q l) = Effect.leaves (λ s. refl) (λ x y. x)
    go (ShowAnswers.shows q l s d) = Effect.leaves (λ s. refl) (λ x y. x)

no_split : (earlier : List Turn) (u : Turn) (since : List Turn) → [] ≡ earlier ++ (u ∷ since) → ⊥
no_split [] u since e = nil≢cons e
no_split (x ∷ xs) u since e = nil≢cons e

-- Where a list with t at its end splits at a turn, that turn is t, or t is at the end of what follows.
unsnoc : (past : List Turn) (t : Turn) (earlier : List Turn) (u : Turn) (since : List Turn) → past ++ (t ∷ []) ≡ earlier ++ (u ∷ since) →
    ((past ≡ earlier) × (t ≡ u)) ⊎ ((s : List Turn) × (since ≡ s ++ (t ∷ [])) × (past ≡ earlier ++ (u ∷ s)))
unsnoc [] t [] u since e = inl (refl, head-eq_of_cons-eq e)
unsnoc [] t (x ∷ xs) u since e = absurd (no_split xs u since (tail-eq_of_cons-eq e))
unsnoc (p ∷ ps) t [] u since e = inr (ps, sym (tail-eq_of_cons-eq e), ap (λ z. z ∷ ps) (head-eq_of_cons-eq e))
unsnoc (p ∷ ps) t (x ∷ xs) u since e = elim (unsnoc ps t xs u since (tail-eq_of_cons-eq e)) [
  | inl r ↦ let a = head-eq_of_cons-eq e in let b = r.0 in inl (cc, r.1)
  | inr r ↦ let a = head-eq_of_cons-eq e in let b = r.2 in inr (r.0, r.1, cc)
]

last_member : (s : List Turn) (t : Turn) → Memᴰ t (s ++ (t ∷ []))
last_member s t = Memᴰ.append_right s (Memᴰ.head refl)

differ : {v : Verdict} {n : ℕ} → unjudged ≡ standing v n → ⊥
differ e = let z : ◌≡◌ {A = ℕ} 0 1 = cc in omega arith

-- The verdict that stands, after one more turn.
module _ (past : List Turn) (t : Turn) (v : Verdict) (n : ℕ) where
  still : (T (ends_verdict t.call) → T (accepts t.answer) → ⊥) → Stands past v n → Stands (past ++ (t ∷ [])) v n
  still q s = record {
    earlier = s.earlier;
    turn = s.turn;
    since = s.since ++ (t ∷ []);
    budget = s.budget;
    call = s.call;
    answer = s.answer;
    split = ap (λ z. z ++ (t ∷ [])) s.split ∙ append_assoc s.earlier (s.turn ∷ s.since) (t ∷ []);
    none_since = λ u m. elim (Memᴰ.append_cases s.since m) [
      | inl k ↦ s.none_since u k
      | inr k ↦ elim (Memᴰ.cases_cons k) [
        | inl e ↦ subst (λ z. T (ends_verdict z.call) → ¬ T (accepts z.answer)) (sym e) q
        | inr j ↦ absurd (Memᴰ.not-nil j)
      ]
    ];
  }

  was : Stands (past ++ (t ∷ [])) v n → (Stands past v n × (T (ends_verdict t.call) → ¬ T (accepts t.answer))) ⊎ ((budget : ℕ) × (t.call ≡ judge budget) × (t.answer ≡ judged v n))
  was s = elim (unsnoc past t s.earlier s.turn s.since s.split) [
    | inl r ↦ inr (s.budget, ap (λ z. z.call) r.1 ∙ s.call, ap (λ z. z.answer) r.1 ∙ s.answer)
    | inr r ↦ inl (
      record {
        earlier = s.earlier;
        turn = s.turn;
        since = r.0;
        budget = s.budget;
        call = s.call;
        answer = s.answer;
        split = r.2;
        none_since = λ u m. s.none_since u (subst (λ z. Memᴰ u z) (sym r.1) (Memᴰ.append_left (t ∷ []) m));
      },
      s.none_since t (subst (λ z. Memᴰ t z) (sym r.1) (last_member r.0 t)),
    )
  ]

-- The ledger after one more call.
entered_last : (h : History) (L : List (ℕ × ℕ)) (past : List Turn) (t : Turn) →
    entered_all h L (calls_of (past ++ (t ∷ []))) ≡ entered h (entered_all h L (calls_of past)) t.call
entered_last h L [] t = refl
entered_last h L (p ∷ ps) t = entered_last h (entered h L p.call) ps t

module _ (h : History) where
  more : (past : List Turn) (t : Turn) (m m' : Held) → Leaves h past m → Step h m t m' → Leaves h (past ++ (t ∷ [])) m'
  more past t m m' l s = record {
    pairs = s.pairs ∙ ap (λ z. entered h z t.call) l.pairs ∙ sym (entered_last h [] past t);
    state = λ v n. go v n (effect h m.pairs (SerialHeld m.state) t.call t.answer t.after s.law);
  }
    where
      go : (v : Verdict) (n : ℕ) → Effect t → (m'.state ≡ standing v n) ↔ Stands (past ++ (t ∷ [])) v n
      go v n (Effect.leaves same calm) = (
        λ e. still past t v n calm ((l.state v n).0 (sym (s.state ∙ same m.state) ∙ e)),
        λ x. elim (was past t v n x) [
          | inl y ↦ s.state ∙ same m.state ∙ (l.state v n).1 y.0
          | inr y ↦ absurd (calm (subst (λ z. T (ends_verdict z)) (sym y.1) tt) (subst (λ z. T (accepts z)) (sym y.2) tt))
        ],
      )
      go v n (Effect.ends same d a other) =
          (λ e. absurd (differ (sym (s.state ∙ same m.state) ∙ e)), λ x. absurd (elim (was past t v n x) [ inl y ↦ y.1 d a | inr y ↦ other v n y.2 ]))
      go v n (Effect.gives w budget steps c a) =
          let now : m'.state ≡ standing w steps = s.state ∙ ap (moved m.state) a in (
            λ e. let d : w ≡ v = cc in let f : steps ≡ n = cc in
                record {
                  earlier = past;
                  turn = t;
                  since = [];
                  split = refl;
                  budget = budget;
                  call = c;
                  answer = cc;
                  none_since = λ u k. absurd (Memᴰ.not-nil k);
                },
            λ x. elim (was past t v n x) [
              | inl y ↦ absurd (y.1 (subst (λ z. T (ends_verdict z)) (sym c) tt) (subst (λ z. T (accepts z)) (sym a) tt))
              | inr y ↦ let d = y.2 in cc
            ],
          )

  run_law : {m m' : Held} {ts : List Turn} (past : List Turn) → Run h m ts m' → Leaves h past m → (p : List Turn) (t : Turn) (rest : List Turn) → ts ≡ p ++ (t ∷ rest) →
      TurnLaw h (ledger h (calls_of (past ++ p))) (SerialStands (past ++ p)) t
  run_law past Run.stop l [] t rest e = absurd (nil≢cons e)
  run_law past Run.stop l (x ∷ xs) t rest e = absurd (nil≢cons e)
  run_law {m} past (Run.go {t = u} s r) l [] t rest e =
      let w = turn_law h m.pairs (SerialHeld m.state) (SerialStands past) u.call u.answer u.after
      (λ q. (q.0, (l.state serial q.0).0 q.1)) (λ q. (q.0, (l.state serial q.0).1 q.1)) s.law in
      let x : TurnLaw h (ledger h (calls_of past)) (SerialStands past) u = subst (λ z. TurnLaw h z (SerialStands past) u) l.pairs w in
      subst (λ z. TurnLaw h (ledger h (calls_of z)) (SerialStands z) t) (sym (append-nil past))
      (subst (λ z. TurnLaw h (ledger h (calls_of past)) (SerialStands past) z) (head-eq_of_cons-eq e) x)
  run_law {m} past (Run.go {m' = m₁} {t = u} s r) l (x ∷ xs) t rest e =
      subst (λ z. TurnLaw h (ledger h (calls_of z)) (SerialStands z) t)
      (append_assoc past (u ∷ []) xs ∙ ap (λ z. past ++ (z ∷ xs)) (head-eq_of_cons-eq e))
      (run_law (past ++ (u ∷ [])) r (more past u m m₁ l s) xs t rest (tail-eq_of_cons-eq e))

  run_leaves : {m m' : Held} {ts : List Turn} (past : List Turn) → Run h m ts m' → Leaves h past m → Leaves h (past ++ ts) m'
  run_leaves {m} past Run.stop l = subst (λ z. Leaves h z m) (sym (append-nil past)) l
  run_leaves {m} {m' = m₂} past (Run.go {m' = m₁} {t = u} {ts = ts} s r) l =
      subst (λ z. Leaves h z m₂) (append_assoc past (u ∷ []) ts) (run_leaves (past ++ (u ∷ [])) r (more past u m m₁ l s))

  at_first : Leaves h [] opened
  at_first = record { pairs = refl; state = λ v n. (λ e. absurd (differ e), λ s. absurd (no_split s.earlier s.turn s.since s.split)) }

pub runs_are_lawful_lem : RunsAreLawful
runs_are_lawful_lem h turns m r = (record { law = λ past t rest e. run_law h [] r (at_first h) past t rest e }, run_leaves h [] r (at_first h))
