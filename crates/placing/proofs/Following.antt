-- The numbers that are placed follow every order that is placed at a node of which the rows are.
use Rattle.std.proofs.Common.{◌≡◌, ℕ, zero, suc, ◌+◌, ◌-◌, ◌<◌, ◌≤◌, true, ◌||◌, eqb, ◌↔◌, List, [], ◌∷◌, ◌++◌, length, get_or, take, sym, refl, ap, ◌∙◌, subst, inl, inr, arith, take_all}
use Rattle.std.proofs.lemmas.List.{take_more}
use Rattle.std.proofs.lemmas.Bool.{true≢false, cases_eq, cases_lt, cases_Bool, or_cases, or_left, or_right, eq-eqb, eqb-true}
use Rattle.history.specs.declared.event.Event.{Event}
use Rattle.order.specs.History.{History, count, Number}
use Rattle.order.specs.Orders.{place}
use Rattle.order.specs.Before.{Before}
use Rattle.order.specs.Calls.{Preference, Preferred, Ready, Placed}
use Rattle.order.proofs.Tests.{is_true}
use Rattle.order.proofs.Places.{place_at, in_order, number_at, at_place}
use Rattle.order.proofs.Placing.{not_both}
use Rattle.sets.specs.Sets.{has, Empty}
use Rattle.sets.specs.declared.set.EventSet.{EventSet}
use Rattle.placing.specs.Placing.{BeforeRows, PlacesAll, CanBePlaced, MostPreferred}

-- The numbers are the first k of σ, and the events that are placed are those with these numbers.
pub record SoFar {W : ℕ} (σ : List ℕ) (k : ℕ) (numbers : List ℕ) (placed : EventSet W) : Type 0 where
  pub same : numbers ≡ take k σ
  pub events : (x : ℕ) → (has placed x ≡ true) ↔ (place σ (suc x) < k)

-- That is so of every order that is placed.
abbrev pub AllSoFar : {W : ℕ} → Preference → List Event → List (EventSet W) → ℕ → List ℕ → EventSet W → Type 0
AllSoFar f es rows k numbers placed =
    (h : History) (Q : List (ℕ × ℕ)) (σ : List ℕ) → h.events ≡ es → BeforeRows h Q rows → Placed h Q f σ → SoFar σ k numbers placed

-- No order is placed where something that is no event is before an event.
none_before : (h : History) (Q : List (ℕ × ℕ)) (f : Preference) (σ : List ℕ) → Placed h Q f σ → (y : ℕ) → Number h y → ¬ Before h Q 0 y
none_before h Q f σ p y n b =
    let o = p.order in
    let long : length σ ≡ count h = o.long in
    let i : place σ y < length σ = in_order h σ o y n in
    let q : place σ 0 < place σ y = (p.ready (place σ y) (omega arith)).predecessors 0 (subst (λ z. Before h Q 0 z) (sym (place_at σ y i)) b) in
    let z : 1 ≤ get_or σ (place σ 0) 0 = (number_at h σ o (place σ 0) (omega arith)).low in
    let e : get_or σ (place σ 0) 0 ≡ 0 = place_at σ 0 (omega arith) in
    omega arith

-- One turn, after k numbers.
module _ {W : ℕ} (f : Preference) (h : History) (Q : List (ℕ × ℕ)) (σ : List ℕ) (rows : List (EventSet W)) (before : BeforeRows h Q rows) (p : Placed h Q f σ)
    (k : ℕ) (l : k < count h) (numbers : List ℕ) (placed : EventSet W) (s : SoFar σ k numbers placed) where
  ready_in_rows : (x : ℕ) → Ready h Q σ k (suc x) → CanBePlaced rows placed x
  ready_in_rows x r = record {
    unplaced = elim (cases_Bool (has placed x)) [ inl t ↦ let a = (s.events x).0 t in let b = r.unplaced in absurd (omega arith) | inr e ↦ e ];
    predecessors = λ y e. (s.events y).1 (r.predecessors (suc y) ((before y x).0 e));
  }

  ready_in_order : (x : ℕ) → x < count h → CanBePlaced rows placed x → Ready h Q σ k (suc x)
  ready_in_order x m r = record {
    number = n;
    unplaced = elim (cases_lt (place σ (suc x)) k) [ inl a ↦ absurd (true≢false (sym ((s.events x).1 a) ∙ r.unplaced)) | inr b ↦ b ];
    predecessors = behind;
  }
    where
      n : Number h (suc x)
      n = record { low = omega arith; high = omega arith }

      behind : (a : ℕ) → Before h Q a (suc x) → place σ a < k
      behind zero b = absurd (none_before h Q f σ p (suc x) n b)
      behind (suc y) b = (s.events y).0 (r.predecessors y ((before y x).1 b))

  -- the event that σ has next
  due : ℕ
  due = get_or σ k 0 - 1

  due_number : suc due ≡ get_or σ k 0
  unfolding due
  due_number = let n = number_at h σ p.order k l in omega (arith, n.low)

  due_inside : due < count h
  due_inside = let n = number_at h σ p.order k l in omega (arith, n.high, due_number)

  due_ready : CanBePlaced rows placed due
  due_ready = ready_in_rows due (subst (λ z. Ready h Q σ k z) (sym due_number) (p.ready k l))

  pub some_next : ¬ ((y : ℕ) → y < count h → ¬ CanBePlaced rows placed y)
  some_next n = n due due_inside due_ready

  module _ (x : ℕ) (m : MostPreferred f.prefers h.events rows placed (count h) x) where
    is_next : suc x ≡ get_or σ k 0
    is_next = elim (cases_eq x due) [
      | inl e ↦ ap suc e ∙ due_number
      | inr ne ↦
          let a = ready_in_order x m.below m.ready in
          let q : Preferred f h (suc x) (get_or σ k 0) = subst (λ z. Preferred f h (suc x) z) due_number (is_true (m.preferred due due_inside due_ready (λ e. ne (sym e)))) in
          absurd (not_both h f (suc x) (get_or σ k 0) a.number (number_at h σ p.order k l) q
          (p.preferred k (suc x) l a (λ e. ne (let d = due_number in omega arith))))
    ]

    pub one_more : (more : EventSet W) → ((j : ℕ) → has more j ≡ (eqb j x || has placed j)) → SoFar σ (k + 1) (numbers ++ ((x + 1) ∷ [])) more
    one_more more is = record {
      same =
          let long : k < length σ = omega (arith, p.order.long) in
          let due : x + 1 ≡ get_or σ k 0 = let e = is_next in omega arith in
          ap (λ ns. ns ++ ((x + 1) ∷ [])) s.same ∙ ap (λ n. take k σ ++ (n ∷ [])) due ∙ sym (take_more σ k 0 long);
      events = λ y. (placed_e y, placed_i y);
    }
      where
        placed_e : (y : ℕ) → has more y ≡ true → place σ (suc y) < k + 1
        placed_e y t = elim (or_cases (eqb y x) (has placed y) (sym (is y) ∙ t)) [
          | inl e ↦ let z : place σ (suc y) ≡ k = ap (λ i. place σ (suc i)) (eqb-true y x e) ∙ ap (place σ) is_next ∙ at_place h σ p.order k l in omega arith
          | inr t ↦ let u = (s.events y).0 t in omega arith
        ]

        placed_i : (y : ℕ) → place σ (suc y) < k + 1 → has more y ≡ true
        placed_i y u = is y ∙ elim (cases_lt (place σ (suc y)) k) [
          | inl v ↦ or_right (eqb y x) (has placed y) ((s.events y).1 v)
          | inr v ↦
              let z : place σ (suc y) ≡ k = omega arith in
              let n = p.order.long in
              let e : suc y ≡ suc x = sym (place_at σ (suc y) (omega arith)) ∙ ap (λ i. get_or σ i 0) z ∙ sym is_next in
              or_left (eqb y x) (has placed y) (eq-eqb y x (omega arith))
        ]

module _ {W : ℕ} (f : Preference) (es : List Event) (rows : List (EventSet W)) where
  pub none_yet : (placed : EventSet W) → Empty placed → AllSoFar f es rows 0 [] placed
  none_yet placed none h Q σ is before p = record {
    same = refl;
    events = λ x. (λ t. absurd (true≢false (sym t ∙ none x)), λ u. absurd (omega arith));
  }

  module _ (k : ℕ) (l : k < length es) (numbers : List ℕ) (placed : EventSet W) (s : AllSoFar f es rows k numbers placed) where
    -- The most preferred is placed.
    pub all_one_more : (x : ℕ) → MostPreferred f.prefers es rows placed (length es) x →
        (more : EventSet W) → ((j : ℕ) → has more j ≡ (eqb j x || has placed j)) → AllSoFar f es rows (k + 1) (numbers ++ ((x + 1) ∷ [])) more
    all_one_more x m more is h Q σ same before p =
        let u : k < count h = omega (arith, ap length same) in
        one_more f h Q σ rows before p k u numbers placed (s h Q σ same before p) x
        (subst (λ e. MostPreferred f.prefers e rows placed (length e) x) (sym same) m) more is

    -- There is one.
    pub all_some_next : ((y : ℕ) → y < length es → ¬ CanBePlaced rows placed y) → AllSoFar f es rows (k + 1) numbers placed
    all_some_next none h Q σ same before p =
        let u : k < count h = omega (arith, ap length same) in
        absurd (some_next f h Q σ rows before p k u numbers placed (s h Q σ same before p) (λ y v. none y (omega (arith, ap length same))))

  pub all_placed : (numbers : List ℕ) (placed : EventSet W) → AllSoFar f es rows (length es) numbers placed → PlacesAll f es rows numbers
  all_placed numbers placed s h Q σ same before p =
      (s h Q σ same before p).same ∙ take_all (length es) σ (omega (arith, p.order.long, ap length same))
