-- What show answers, and what it writes: the order that is placed at the node where the search succeeds.
use Rattle.std.proofs.Common.{◌≡◌, ℕ, suc, ◌+◌, ◌<◌, ◌≤◌, Bool, true, false, cond, ◌↔◌, List, [], ◌∷◌, ◌++◌, length, get_or, take, drop, set, sym, refl, ap, ◌∙◌, subst, inl, inr, arith}
use mathlib.Core.Logic.{∥∥₁_elim, ∥∥₁_map}
use denote.Struct.Props.{props}
use Rattle.std.proofs.lemmas.List.{append_assoc, length-take-le, take_more, drop_more, set_at, take_at, drop_at}
use Rattle.std.proofs.lemmas.Bool.{true≢false}
use Rattle.order.specs.History.{History, count, WellFormed, PairsOfEvents}
use Rattle.order.specs.Before.{Before}
use Rattle.order.specs.Search.{Search, Outcome, fails, succeeds}
use Rattle.order.specs.Calls as order
use Rattle.order.specs.Calls.{Preference, ShowAnswers, Shows, Answer, refused, show, shown, serial}
use Rattle.order.specs.Calls.{Step, SerialHeld, moved, standing}
use Rattle.order.proofs.Tests.{is_true, true_is}
use Rattle.order.proofs.Saturated.{before?, before_e, before_i}
use Rattle.order.proofs.One.{one, no_mix}
use Rattle.order.proofs.Ends.{ends}
use Rattle.order.proofs.Success.{found, placed_there, placed_shows}
use Rattle.sets.specs.Rows.{in_rows}
use Rattle.placing.specs.Placing.{PlacesAll}
use Rattle.saturation.specs.Recorded.{history_in}
use Rattle.saturation.proofs.Records.{record_count, record_well, record_accepted}
use Rattle.referee.specs.Numbers.{refusal_number}
use Rattle.referee.specs.Verdicts.{verdict_of, says_serial, is_serial, is_open}
use Rattle.referee.specs.Nodes.{AtNode}
use Rattle.referee.specs.Meaning.{meaning, meaning_by, pairs_of, turn, TurnOn}
use Rattle.sets.specs.declared.set.EventSet.{EventSet}
use Rattle.referee.specs.declared.refusal.Refusal.{Refusal}
use Rattle.referee.specs.declared.refusal.Refusal.TheVariants.{NotSerial, Closed as Shut}
use Rattle.referee.specs.declared.state.State.{State}
use Rattle.referee.specs.declared.state.State.TheVariants.{Closed, Unjudged, Judged}
use Rattle.referee.specs.declared.state.Verdict.{Verdict}
use Rattle.referee.specs.declared.state.Verdict.TheVariants.{Serial, None, Spent}
use Rattle.referee.specs.declared.case.Case.{Case}
use Rattle.referee.proofs.Cases.{inside_events}

-- The front of a buffer, one number on.
pub front_more : (numbers buffer : List ℕ) (i : ℕ) → i < length numbers → i < length buffer →
    set (take i numbers ++ drop i buffer) i (get_or numbers i 0) ≡ take (i + 1) numbers ++ drop (i + 1) buffer
front_more numbers buffer i l m =
    ap (λ t. set (take i numbers ++ t) i (get_or numbers i 0)) (drop_more buffer i 0 m)
    ∙ set_at (take i numbers) (get_or buffer i 0) (drop (i + 1) buffer) (get_or numbers i 0) i (length-take-le i numbers (omega arith))
    ∙ sym (append_assoc (take i numbers) (get_or numbers i 0 ∷ []) (drop (i + 1) buffer))
    ∙ ap (λ t. t ++ drop (i + 1) buffer) (sym (take_more numbers i 0 l))

-- The node at which a search succeeds is known outright, not only that there is one.
module _ {W : ℕ} (h : History) (S : List (ℕ × ℕ)) (rows : List (EventSet W)) (well : WellFormed h) (inside : PairsOfEvents h S) where
  node_inside : {t : ℕ} {Q : List (ℕ × ℕ)} → Search h S t (succeeds Q) → PairsOfEvents h Q
  node_inside s a b m = elim ((found s).chosen a b m) [ inl k ↦ inside a b k | inr v ↦ (v.first.number, v.second.number) ]

  same_node : {P Q : List (ℕ × ℕ)} → succeeds P ≡ succeeds Q → P ≡ Q
  same_node e = cc

  module _ (t : ℕ) (Q : List (ℕ × ℕ)) (s : Search h S t (succeeds Q)) where
    -- the node is one, so the rows are those of this one
    exact_here : AtNode h S rows → (x y : ℕ) → (in_rows rows y x ≡ true) ↔ Before h Q (suc x) (suc y)
    exact_here a = subst (λ (P : List (ℕ × ℕ)). (x y : ℕ) → (in_rows rows y x ≡ true) ↔ Before h P (suc x) (suc y)) (same_node (one a.search s).1) a.exact

    exact_there : ∥ AtNode h S rows ∥₁ → (x y : ℕ) → (in_rows rows y x ≡ true) ↔ Before h Q (suc x) (suc y)
    exact_there a x y =
        let row : IsProp (in_rows rows y x ≡ true) = hlevel props in
        let before : IsProp (before? h Q (suc x) (suc y) ≡ true) = hlevel props in (
          λ k. before_e h Q (suc x) (suc y) (is_true (∥∥₁_elim a before (λ f. true_is _ (before_i h Q well (node_inside s) (suc x) (suc y) ((exact_here f x y).0 k))))),
          λ b. ∥∥₁_elim a row (λ f. (exact_here f x y).1 b),
        )

  at_end : (t : ℕ) (o : Outcome) → Search h S t o → ∥ AtNode h S rows ∥₁ → AtNode h S rows
  at_end t fails s a = let prop : IsProp ⊥ = hlevel props in absurd (∥∥₁_elim a prop (λ f. no_mix (one f.search s).1))
  at_end t (succeeds Q) s a = record { nodes = t; node = Q; search = s; exact = exact_there t Q s a }

  pub at_node : ∥ AtNode h S rows ∥₁ → AtNode h S rows
  at_node a = let e = ends h S well inside in at_end e.0 e.1 e.2 a

-- Where the verdict of a case is serial, what place returns is what show shows.
pub placed_shown : (c : Case) (f : Preference) (numbers : List ℕ) → is_serial c.state ≡ true → PlacesAll f (history_in c.recorded).events c.node numbers →
    Shows (history_in c.recorded) (pairs_of c) f numbers
placed_shown c f numbers serially places =
    let h = history_in c.recorded in
    let S = pairs_of c in
    let well = record_well c.recorded in
    let acc = record_accepted c.recorded in
    let inside = inside_events c in
    let a = at_node h S c.node well inside (∥∥₁_map c.shown (λ f. f serially)) in
    let p = placed_there h S a.node a.nodes well acc inside a.search f in
    subst (λ σ. Shows h S f σ) (sym (places h a.node p.0 refl a.exact p.1)) (placed_shows h S a.node a.nodes well acc inside a.search p.1)

-- whether the verdict serial is held
abbrev serial_held : order.State → Bool
serial_held order.unjudged = false
serial_held (standing serial n) = true
serial_held (standing order.none n) = false
serial_held (standing order.spent n) = false

says_is : (v : Verdict) → says_serial v ≡ true → verdict_of v ≡ serial
says_is Serial e = refl
says_is None e = absurd (true≢false (sym e))
says_is Spent e = absurd (true≢false (sym e))

not_held : (v : Verdict) (n : ℕ) → says_serial v ≡ false → serial_held (standing (verdict_of v) n) ≡ false
not_held Serial n e = absurd (true≢false e)
not_held None n e = refl
not_held Spent n e = refl

module _ (h : History) (S : List (ℕ × ℕ)) (f : Preference) (buffer : List ℕ) where
  -- A case that is not serial refuses show with 28.
  refuses : (m : order.State) → serial_held m ≡ false → (e : Refusal) → e ≡ NotSerial → Step h (record { pairs = S; state = m }) (turn (show f buffer) (refused (refusal_number e)) buffer) (record { pairs = S; state = m })
  refuses m n e k = subst (λ x. Step h (record { pairs = S; state = m }) (turn (show f buffer) (refused (refusal_number x)) buffer) (record { pairs = S; state = m })) (sym k) (record {
    law = ShowAnswers.not_serial (λ p. true≢false (sym (ap serial_held p.1) ∙ n));
    pairs = refl;
    state = refl;
  })

  pub not_serial_turn : (s : State) (e : Refusal) → is_serial s ≡ false → e ≡ cond (is_open s) NotSerial Shut → TurnOn (turn (show f buffer) (refused (refusal_number e)) buffer) (meaning_by h S s) (meaning_by h S s)
  not_serial_turn Closed e n k = (ap (λ x. refused (refusal_number x)) k, refl, refl)
  not_serial_turn Unjudged e n k = (_, refuses order.unjudged refl e k, refl)
  not_serial_turn (Judged j) e n k = (_, refuses (standing (verdict_of j.verdict) j.steps) (not_held j.verdict j.steps n) e k, refl)

  -- A turn of show where the verdict is serial.
  pub serial_turn : (s : State) (a : Answer) (after : List ℕ) → is_serial s ≡ true → ((m : order.State) → m ≡ moved m a) →
      ((P : Type 0) → P → ShowAnswers h S P f buffer a after) → TurnOn (turn (show f buffer) a after) (meaning_by h S s) (meaning_by h S s)
  serial_turn Closed a after k stays answers = absurd (true≢false (sym k))
  serial_turn Unjudged a after k stays answers = absurd (true≢false (sym k))
  serial_turn (Judged j) a after k stays answers =
      let m : order.State = standing (verdict_of j.verdict) j.steps in
      (_, record { law = answers (SerialHeld m) (j.steps, ap (λ v. standing v j.steps) (says_is j.verdict k)); pairs = refl; state = stays m }, refl)

-- The answer of show where it is neither refused for its verdict nor for its buffer.
pub shows_placed : (c : Case) (f : Preference) (numbers buffer after : List ℕ) (n : ℕ) → is_serial c.state ≡ true → PlacesAll f (history_in c.recorded).events c.node numbers →
    n ≡ count (history_in c.recorded) → n ≤ length buffer → after ≡ numbers ++ drop (length numbers) buffer →
    TurnOn (turn (show f buffer) (shown n) after) (meaning c) (meaning c)
shows_placed c f numbers buffer after n serially places many room is =
    let h = history_in c.recorded in
    let e : n ≡ count h = many ∙ sym (record_count c.recorded) in
    let shows = placed_shown c f numbers serially places in
    let long : length numbers ≡ n = shows.fits.order.long ∙ sym e in
    let front : take n after ≡ numbers = ap (take n) is ∙ take_at numbers (drop (length numbers) buffer) n long in
    let rest : drop n after ≡ drop n buffer = ap (drop n) is ∙ drop_at numbers (drop (length numbers) buffer) n long ∙ ap (λ k. drop k buffer) long in
    serial_turn h (pairs_of c) f buffer c.state (shown n) after serially (λ m. refl) (λ P p.
    subst (λ k. k ≤ length buffer → Shows h (pairs_of c) f (take k after) → drop k after ≡ drop k buffer → ShowAnswers h (pairs_of c) P f buffer (shown k) after) (sym e) (λ l s d. ShowAnswers.shows p l s d) room
    (subst (λ σ. Shows h (pairs_of c) f σ) (sym front) shows) rest)
