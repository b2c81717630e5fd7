-- How an accepted call makes a turn on a case, and what a case keeps of its invariants.
use Rattle.std.proofs.Common.{◌≡◌, ℕ, suc, ◌-◌, ◌<◌, ◌≤◌, Bool, true, false, cond, not, ◌&&◌, eqb, leb, List, [], ◌∷◌, ◌++◌, length, get_or, take, Some, slice_get, sym, refl, ap, ◌∙◌, subst, inl, inr, true≢false, arith, eq-eqb, ne_eqb}
use mathlib.Core.List.Memᴰ
use mathlib.Core.List.{Memᴰ}
use Rattle.history.specs.declared.event.Event.{Event}
use Rattle.std.proofs.lemmas.Option.{get_or_from_slice_get, slice_get_within}
use Rattle.order.specs.History.{History, at, star_of}
use Rattle.order.specs.Calls as order
use Rattle.order.specs.Calls.{Turn, accepts, stipulate, lift, judge, stipulate_answer, lift_answer, stipulated, lifted, refused, entered, is_number, JudgeAnswers, Judges}
use Rattle.order.specs.Calls.{Held, Step, unjudged, standing, SerialHeld}
use Rattle.order.specs.Opening.{is_write}
use Rattle.saturation.specs.Rooting.{PairsUpTo}
use Rattle.referee.specs.Meaning.{holds, meaning_by, turn, TurnOn}
use Rattle.referee.specs.Verdicts.{verdict_of, is_serial, is_open}
use Rattle.referee.specs.declared.state.State.{State}
use Rattle.referee.specs.declared.state.State.TheVariants.{Closed, Unjudged, Judged}
use Rattle.referee.specs.declared.state.Judgement.{Judgement}

-- The state as the rules speak of it.
abbrev pub state_of : State → order.State
state_of Closed = unjudged
state_of Unjudged = unjudged
state_of (Judged j) = standing (verdict_of j.verdict) j.steps

pub means_open : (h : History) (S : List (ℕ × ℕ)) (s : State) → is_open s ≡ true → meaning_by h S s ≡ holds h (record { pairs = S; state = state_of s })
means_open h S Closed e = absurd (true≢false (sym e))
means_open h S Unjudged e = refl
means_open h S (Judged j) e = refl

-- A step of what an open case holds is a turn on it.
pub turn_on : (h : History) (S S' : List (ℕ × ℕ)) (s s' : State) (t : Turn) → is_open s ≡ true → is_open s' ≡ true →
    Step h (record { pairs = S; state = state_of s }) t (record { pairs = S'; state = state_of s' }) →
    TurnOn t (meaning_by h S s) (meaning_by h S' s')
turn_on h S S' s s' t o o' k =
    subst (λ m. TurnOn t m (meaning_by h S' s')) (sym (means_open h S s o)) (record { pairs = S'; state = state_of s' }, k, means_open h S' s' o')

-- What stipulate accepts leaves room, and is a pair of events.
pub stipulate_room : (h : History) (S : List (ℕ × ℕ)) (a b : ℕ) → stipulated ≡ stipulate_answer h S a b → length S < 64
stipulate_room h S a b e = grind arith

-- An accepted stipulate is a turn; it leaves the case unjudged.
pub stipulate_turn : (h : History) (S S' : List (ℕ × ℕ)) (s : State) (a b : ℕ) → is_open s ≡ true → stipulated ≡ stipulate_answer h S a b → S' ≡ S ++ ((a, b) ∷ []) →
    TurnOn (turn (stipulate a b) stipulated []) (meaning_by h S s) (meaning_by h S' Unjudged)
stipulate_turn h S S' s a b o q p =
    turn_on h S S' s Unjudged (turn (stipulate a b) stipulated []) o refl (record {
      law = (q, refl);
      pairs = p ∙ ap (λ z. cond (accepts z) (S ++ ((a, b) ∷ [])) S) q;
      state = refl;
    })

-- What lift answers where the pair q is the latest.
latest_pair : (S : List (ℕ × ℕ)) (q : ℕ × ℕ) → Some q ≡ slice_get S (length S - 1) → lifted q.0 q.1 ≡ lift_answer S
latest_pair S q e =
    let inside = slice_get_within S (length S - 1) q (sym e) in
    let is : get_or S (length S - 1) (0, 0) ≡ q = get_or_from_slice_get S (length S - 1) q (0, 0) (sym e) in
    ap (λ (z : ℕ × ℕ). lifted z.0 z.1) (sym is)
    ∙ sym (ap (λ b. cond b (refused 26) (lifted (get_or S (length S - 1) (0, 0)).0 (get_or S (length S - 1) (0, 0)).1)) (ne_eqb (length S) 0 (λ z. omega (arith, z))))

-- An accepted lift is a turn; it leaves the case unjudged.
pub lift_turn : (h : History) (S S' : List (ℕ × ℕ)) (s : State) (q : ℕ × ℕ) → is_open s ≡ true → Some q ≡ slice_get S (length S - 1) → S' ≡ take (length S - 1) S →
    TurnOn (turn lift (lifted q.0 q.1) []) (meaning_by h S s) (meaning_by h S' Unjudged)
lift_turn h S S' s q o e p =
    let l = latest_pair S q e in
    turn_on h S S' s Unjudged (turn lift (lifted q.0 q.1) []) o refl (record {
      law = (l, refl);
      pairs = p ∙ ap (λ z. cond (accepts z) (take (length S - 1) S) S) l;
      state = refl;
    })

-- A judge that finds something is a turn.
pub judge_turn : (h : History) (S : List (ℕ × ℕ)) (s : State) (budget : ℕ) (j : Judgement) → is_open s ≡ true → 1 ≤ budget →
    Judges h S budget (verdict_of j.verdict) j.steps →
    TurnOn (turn (judge budget) (order.judged (verdict_of j.verdict) j.steps) []) (meaning_by h S s) (meaning_by h S (Judged j))
judge_turn h S s budget j o l d =
    turn_on h S S s (Judged j) (turn (judge budget) (order.judged (verdict_of j.verdict) j.steps) []) o refl (record { law = (JudgeAnswers.judges l d, refl); pairs = refl; state = refl })

-- One more pair of events among pairs of events.
pub one_more_pair : (n : ℕ) (S : List (ℕ × ℕ)) (a b : ℕ) → (1 ≤ a) × (a ≤ n) × (1 ≤ b) × (b ≤ n) → PairsUpTo n S → PairsUpTo n (S ++ ((a, b) ∷ []))
one_more_pair n S a b here r c d m = elim (Memᴰ.append_cases S m) [
  | inl k ↦ r c d k
  | inr k ↦ elim (Memᴰ.cases_cons k) [
    | inl p ↦ subst (λ (q : ℕ × ℕ). (1 ≤ q.0) × (q.0 ≤ n) × (1 ≤ q.1) × (q.1 ≤ n)) (sym p) here
    | inr j ↦ absurd (Memᴰ.not-nil j)
  ]
]

-- Fewer pairs.
pub fewer_pairs : (n : ℕ) (S T U : List (ℕ × ℕ)) → S ≡ T ++ U → PairsUpTo n S → PairsUpTo n T
fewer_pairs n S T U e r a b m = r a b (subst (λ z. Memᴰ (a, b) z) (sym e) (Memᴰ.append_left U m))

-- What does not refuse goes on to the rest.
passes : (b : Bool) (n : ℕ) (r : order.Answer) → b ≡ false → cond b (refused n) r ≡ r
passes b n r e = ap (λ z. cond z (refused n) r) e

-- A pair of two writes of one star is refused only where 64 stand.
pub pair_answer : (h : History) (S : List (ℕ × ℕ)) (a b : ℕ) (x y : Event) → is_number h a ≡ true → is_number h b ≡ true →
    x ≡ at h (suc (a - 1)) → y ≡ at h (suc (b - 1)) → x.kind ≡ 1 → y.kind ≡ 1 → x.star ≡ y.star → ¬ (a ≡ b) →
    stipulate_answer h S a b ≡ cond (leb 64 (length S)) (refused 25) stipulated
pair_answer h S a b x y na nb ex ey kx ky st ne =
    let la : suc (a - 1) ≡ a = let z : 1 ≤ a = grind arith in omega arith in
    let lb : suc (b - 1) ≡ b = let z : 1 ≤ b = grind arith in omega arith in
    let xa : x ≡ at h a = ex ∙ ap (at h) la in
    let yb : y ≡ at h b = ey ∙ ap (at h) lb in
    let ka : (at h a).kind ≡ 1 = ap (λ e. e.kind) (sym xa) ∙ kx in
    let kb : (at h b).kind ≡ 1 = ap (λ e. e.kind) (sym yb) ∙ ky in
    let sab : star_of h a ≡ star_of h b = ap (λ e. e.star) (sym xa) ∙ st ∙ ap (λ e. e.star) yb in
    passes (not (is_number h a && is_number h b)) 21 _ (ap (λ z. not (z && is_number h b)) na ∙ ap not nb)
    ∙ passes (not (is_write (at h a) && is_write (at h b))) 22 _ (ap (λ z. not (z && is_write (at h b))) (eq-eqb (at h a).kind 1 ka) ∙ ap not (eq-eqb (at h b).kind 1 kb))
    ∙ passes (not (eqb (star_of h a) (star_of h b))) 23 _ (ap not (eq-eqb (star_of h a) (star_of h b) sab))
    ∙ passes (eqb a b) 24 _ (ne_eqb a b ne)

-- An unjudged case has no verdict to show.
pub unjudged_shows_nothing : {X : Type 0} {s : State} → s ≡ Unjudged → is_serial s ≡ true → X
unjudged_shows_nothing e t = absurd (true≢false (sym t ∙ ap is_serial e))

-- A judge without a budget is refused.
pub no_budget_turn : (h : History) (S : List (ℕ × ℕ)) (s : State) (budget : ℕ) → is_open s ≡ true → budget ≡ 0 →
    TurnOn (turn (judge budget) (refused 27) []) (meaning_by h S s) (meaning_by h S s)
no_budget_turn h S s budget o e = turn_on h S S s s (turn (judge budget) (refused 27) []) o o (record { law = (JudgeAnswers.no_budget e, refl); pairs = refl; state = refl })
