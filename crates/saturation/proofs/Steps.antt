use Rattle.std.proofs.Common.{◌≡◌, ℕ, zero, suc, ◌+◌, ◌*◌, ◌<◌, ◌≤◌, Bool, true, false, not, ◌&&◌, ◌||◌, eqb, ◌⊎◌, get_or, MatchBool, Result, Ok, Err, MatchResult, is_ok, sym, refl, ap, ◌∙◌, subst, inl, inr, mul-le-mul_right, add-mul, one-mul, arith}
use mathlib.Core.Bool.{or-false}
use Rattle.std.proofs.lemmas.Bool.{cases_Bool, cases_eq, cases_lt, true≢false, and_parts, or_left, or_right, or_cases, not-true, ne_eqb}
use Rattle.sets.specs.Sets.{size, Popped}
use Rattle.saturation.specs.Ties.{from_of}
use Rattle.saturation.specs.Orders.{Within, slack}
use Rattle.saturation.specs.Relations.{earlier, waits, Idle, Linked, Cyclic, Unmoved}
use Rattle.saturation.specs.Laws.{Settled, Closed, Doomed, Ready, Grown, Forced, Sources, Readers}
use Rattle.saturation.specs.declared.relation.Relation.{Relation}
use Rattle.saturation.specs.declared.saturate.Facts.{Facts}
use Rattle.sets.proofs.Counts.{size_most, pop_falls, size_le}
use Rattle.saturation.proofs.Links.{heads, closure_is, newly_heads, by_heads}
use Rattle.saturation.proofs.Slacks.{slack_le, slack_falls, free_from}
use Rattle.saturation.proofs.Joins.{sound}
use Rattle.saturation.proofs.Trails.{unmoved_earlier}

-- of a fact for each variant the one that holds after a yes
pub after_ok : {X E A : Type 0} (B : Type 0) (r : Result X E) → is_ok r ≡ true → MatchResult r (λ _. A) (λ _. B) → A
after_ok B (Ok x) t h = h
after_ok B (Err e) t h = absurd (true≢false (sym t))

-- from a fact for each variant to one for each answer
pub answered : {X E A B C D : Type 0} (r : Result X E) → (A → C) → (B → D) → MatchResult r (λ _. A) (λ _. B) → MatchBool (is_ok r) C D
answered (Ok x) f g h = f h
answered (Err e) f g h = g h

-- an event that is not newly before v has no new successor
row_stays : {N W T : ℕ} (o p : Relation N W T) (u v : ℕ) → Linked u v o p → (x : ℕ) → (earlier p x v && not (earlier o x v)) ≡ false → (y : ℕ) → earlier p x y ≡ earlier o x y
row_stays o p u v l x h y =
    let far = (sound o).chains in
    let e = closure_is (earlier o) far u v (earlier p) l.closure in
    let none : heads (earlier o) u v x ≡ false = newly_heads (earlier o) u v x ∙ ap (λ b. b && not (earlier o x v)) (sym (e x v)) ∙ h in
    e x y ∙ sym (by_heads (earlier o) far u v x y) ∙ ap (λ b. earlier o x y || (b && (eqb y v || earlier o v y))) none ∙ or-false (earlier o x y)

module _ {N W : ℕ} (f : Facts N W) where
  pub grown_same : (R : ℕ → ℕ → Bool) → Grown f R R
  grown_same R = record { keeps = λ x y h. h; least = λ Q _ within _. within }

  pub grown_then : (R S Z : ℕ → ℕ → Bool) → Grown f R S → Grown f S Z → Grown f R Z
  grown_then R S Z a b = record {
    keeps = λ x y h. b.keeps x y (a.keeps x y h);
    least = λ Q far within met. b.least Q far (a.least Q far within met) met;
  }

  pub doomed_then : (R S : ℕ → ℕ → Bool) → Grown f R S → Doomed f S → Doomed f R
  doomed_then R S a doom = λ Q far within met. doom Q far (a.least Q far within met) met

module _ {N W T : ℕ} (f : Facts N W) where
  pub forced_same : (o : Relation N W T) → Forced f o o
  forced_same o = record { grown = grown_same f (earlier o); waiting = λ x h. h; tracks = λ x. inr (λ y. refl); only = λ x h. inl h }

  pub forced_then : (o p q : Relation N W T) → Forced f o p → Forced f p q → Forced f o q
  forced_then o p q a b = record {
    grown = grown_then f (earlier o) (earlier p) (earlier q) a.grown b.grown;
    waiting = λ x h. b.waiting x (a.waiting x h);
    tracks = λ x. elim (b.tracks x) [
      | inl h ↦ inl h
      | inr e ↦ elim (a.tracks x) [ inl h ↦ inl (b.waiting x h) | inr d ↦ inr (λ y. e y ∙ d y) ]
    ];
    only = λ x h. elim (b.only x h) [
      | inl k ↦ elim (a.only x k) [
        | inl w ↦ inl w
        | inr n ↦ inr (n.0, (b.grown.keeps x n.0 n.1.0, n.1.1))
      ]
      | inr n ↦ inr (n.0, (n.1.0, elim (cases_Bool (earlier o x n.0)) [ inl t ↦ absurd (true≢false (sym (a.grown.keeps x n.0 t) ∙ n.1.1)) | inr t ↦ t ]))
    ];
  }

  -- a pair that the rules force is added
  pub forced_link : (o p : Relation N W T) (u v : ℕ) → ((Q : ℕ → ℕ → Bool) → Within (earlier o) Q → Closed f Q → Q u v ≡ true) → Linked u v o p → Forced f o p
  forced_link o p u v pair l = record {
    grown = record { keeps = l.closure.keeps; least = λ Q far within met. l.closure.least Q far within (pair Q within met) };
    waiting = λ x h. l.waiting x ∙ or_left _ _ h;
    tracks = λ x. elim (cases_Bool (earlier p x v && not (earlier o x v))) [
      | inl t ↦ inl (l.waiting x ∙ or_right _ _ t)
      | inr t ↦ inr (row_stays o p u v l x t)
    ];
    only = λ x h. elim (or_cases (waits o x) (earlier p x v && not (earlier o x v)) (sym (l.waiting x) ∙ h)) [
      | inl w ↦ inl w
      | inr n ↦ let b = and_parts (earlier p x v) (not (earlier o x v)) n in inr (v, (b.0, not-true (earlier o x v) b.1))
    ];
  }

  -- a pair that the rules force would close a cycle
  pub doomed_link : (o : Relation N W T) (u v : ℕ) → ((Q : ℕ → ℕ → Bool) → Within (earlier o) Q → Closed f Q → Q u v ≡ true) → Cyclic u v o → Doomed f (earlier o)
  doomed_link o u v pair cycle Q far within met =
      let h = pair Q within met in
      elim cycle [
        | inl e ↦ (u, ap (λ k. Q u k) e ∙ h)
        | inr b ↦ (u, far u v u h (within v u b))
      ]

  -- an event is settled as long as its successors stay
  settled_stays : (o p : Relation N W T) (w : ℕ) → Within (earlier o) (earlier p) → ((y : ℕ) → earlier p w y ≡ earlier o w y) → Settled f (earlier o) w → Settled f (earlier p) w
  settled_stays o p w keeps same s = (
    λ r e h. keeps w (get_or (from_of f.ties) r 0) (s.0 r e (sym (same r) ∙ h)),
    λ q r m k h. keeps r q (s.1 q r m k (sym (same q) ∙ h)),
  )

  -- the two rules at w, one after the other
  pub both_rules : (o p q : Relation N W T) (w : ℕ) → Forced f o p → Forced f p q → Sources f w (earlier o) (earlier p) → Readers f w (earlier p) (earlier q)
      → (waits q w ≡ true) ⊎ Settled f (earlier q) w
  both_rules o p q w a b one two =
      elim (b.tracks w) [
        | inl h ↦ inl h
        | inr e ↦ elim (a.tracks w) [
          | inl h ↦ inl (b.waiting w h)
          | inr d ↦ inr (
            λ r k h. b.grown.keeps w (get_or (from_of f.ties) r 0) (one r k (sym (d r) ∙ sym (e r) ∙ h)),
            λ z r m k h. two z r m k (sym (e z) ∙ h),
          )
        ]
      ]

  -- nothing waits: all is settled
  pub ready_closed : (o : Relation N W T) → Idle o → Ready f o → Closed f (earlier o)
  ready_closed o none all w = elim (all w) [ inl h ↦ absurd (true≢false (sym h ∙ none w)) | inr s ↦ s ]

  -- a relation that has all that the rules force is ready
  pub closed_ready : (o : Relation N W T) → Closed f (earlier o) → Ready f o
  closed_ready o closed w = inr (closed w)

  -- so is one in which each event waits, or has nothing that the rules look at
  pub waiting_ready : (o : Relation N W T) → ((w : ℕ) → w < o.count → (waits o w ≡ true) ⊎ Settled f (earlier o) w) → Ready f o
  waiting_ready o all w =
      elim (cases_lt w o.count) [
        | inl l ↦ all w l
        | inr l ↦ inr (
          λ r _ h. let k = ((sound o).inside w r h).0 in absurd (omega arith),
          λ q r _ _ h. let k = ((sound o).inside w q h).0 in absurd (omega arith),
        )
      ]

  -- w is taken off the list and settled: the others are as ready as before
  pub ready_step : (o p q : Relation N W T) (w : ℕ) → Ready f o → Unmoved o p → Popped o.dirty p.dirty w → Forced f p q → (waits q w ≡ true) ⊎ Settled f (earlier q) w → Ready f q
  ready_step o p q w all same popped run here x =
      elim (cases_eq x w) [
        | inl e ↦ let P : ℕ → Type 0 = λ z. (waits q z ≡ true) ⊎ Settled f (earlier q) z in subst P (sym e) here
        | inr ne ↦ elim (run.tracks x) [
          | inl h ↦ inl h
          | inr stays ↦ elim (all x) [
            | inl h ↦ inl (run.waiting x (popped.rest x ∙ rw (ne_eqb x w ne) h))
            | inr s ↦ inr (settled_stays p q x run.grown.keeps stays (subst (λ (R : ℕ → ℕ → Bool). Settled f R x) (sym (unmoved_earlier o p same)) s))
          ]
        ]
      ]

  -- a pair is added to a relation that is ready
  pub ready_link : (o p : Relation N W T) (u v : ℕ) → Ready f o → Linked u v o p → Ready f p
  ready_link o p u v all l x =
      elim (cases_Bool (earlier p x v && not (earlier o x v))) [
        | inl t ↦ inl (l.waiting x ∙ or_right _ _ t)
        | inr t ↦ elim (all x) [
          | inl h ↦ inl (l.waiting x ∙ or_left _ _ h)
          | inr s ↦ inr (settled_stays o p x l.closure.keeps (row_stays o p u v l x t) s)
        ]
      ]

scaled : (a b k s t : ℕ) → a < b → s ≤ k → a * (k + 1) + s < b * (k + 1) + t
scaled a b k s t l m =
    let h : (a + 1) * (k + 1) ≤ b * (k + 1) = mul-le-mul_right (k + 1) (omega arith) in
    omega (arith, h, add-mul a 1 (k + 1), one-mul (k + 1))

level : (a b k s t : ℕ) → a ≤ b → s < t → a * (k + 1) + s < b * (k + 1) + t
level a b k s t l m =
    let h : a * (k + 1) ≤ b * (k + 1) = mul-le-mul_right (k + 1) l in
    omega (arith, h)

-- some number below n passes f and not g, or all that pass f pass g
some_or_all : (f g : ℕ → Bool) (n : ℕ) → ((k : ℕ) × ((f k ≡ true) × (g k ≡ false))) ⊎ ((k : ℕ) → k < n → f k ≡ true → g k ≡ true)
some_or_all f g zero = inr (λ k l h. absurd (omega arith))
some_or_all f g (suc n) =
    elim (some_or_all f g n) [
      | inl s ↦ inl s
      | inr all ↦ elim (cases_Bool (f n)) [
        | inr no-f ↦ inr (λ k l h. elim (cases_eq k n) [ inl e ↦ absurd (true≢false (sym h ∙ ap f e ∙ no-f)) | inr ne ↦ all k (omega arith) h ])
        | inl is_f ↦ elim (cases_Bool (g n)) [
          | inl t ↦ inr (λ k l h. elim (cases_eq k n) [ inl e ↦ ap g e ∙ t | inr ne ↦ all k (omega arith) h ])
          | inr t ↦ inl (n, (is_f, t))
        ]
      ]
    ]

-- a pair more is ordered
slack_forced : {N W T : ℕ} (o p : Relation N W T) (x y : ℕ) → p.count ≡ o.count → Within (earlier o) (earlier p) → earlier p x y ≡ true → earlier o x y ≡ false → slack (earlier p) p.count < slack (earlier o) p.count
slack_forced o p x y e keeps now was =
    let l = (sound p).inside x y now in
    slack_falls (earlier o) (earlier p) p.count x y l.0 l.1 keeps
    (free_from (earlier o) x y
    (λ d. true≢false (sym now ∙ ap (λ k. earlier p x k) (sym d) ∙ (sound p).calm x))
    was
    (elim (cases_Bool (earlier o y x)) [ inl t ↦ absurd (true≢false (sym ((sound p).chains x y x now (keeps y x t)) ∙ (sound p).calm x)) | inr t ↦ t ]))
    now

-- an event is taken off the list and settled: the measure falls
pub less_left : {N W T : ℕ} (f : Facts N W) (o p q : Relation N W T) (w : ℕ) → Unmoved o p → Popped o.dirty p.dirty w → Forced f p q → q.count ≡ p.count
    → slack (earlier q) q.count * (64 * W + 1) + size q.dirty < slack (earlier o) o.count * (64 * W + 1) + size o.dirty
less_left {N} {W} {T} f o p q w same popped run events =
    let fell = pop_falls o.dirty p.dirty w popped in
    let e : slack (earlier p) q.count ≡ slack (earlier o) o.count = ap (λ (R : ℕ → ℕ → Bool). slack R q.count) (unmoved_earlier o p same) ∙ ap (λ n. slack (earlier o) n) (events ∙ same.events) in
    elim (some_or_all (waits q) (waits p) (64 * W)) [
      | inl s ↦ elim (run.only s.0 s.1.0) [
        | inl h ↦ absurd (true≢false (sym h ∙ s.1.1))
        | inr n ↦
            let l = slack_forced p q s.0 n.0 events run.grown.keeps n.1.0 n.1.1 in
            scaled (slack (earlier q) q.count) (slack (earlier o) o.count) (64 * W) (size q.dirty) (size o.dirty) (omega arith) (size_most q.dirty)
      ]
      | inr all ↦
          let l = slack_le (earlier p) (earlier q) q.count run.grown.keeps in
          let z = size_le p.dirty q.dirty all in
          level (slack (earlier q) q.count) (slack (earlier o) o.count) (64 * W) (size q.dirty) (size o.dirty) (omega arith) (omega arith)
    ]
