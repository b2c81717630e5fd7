-- What is added to a closure, pair by pair and rule by rule.
use Rattle.std.proofs.Common.{◌≡◌, ℕ, ◌+◌, ◌*◌, ◌<◌, Bool, true, false, not, ◌&&◌, ◌||◌, eqb, ◌⊎◌, List, length, get_or, set, sym, refl, ap, ◌∙◌, subst, inl, inr, arith}
use mathlib.Core.Logic.{∥∥₁_elim}
use mathlib.Core.Bool.{or-false}
use denote.Struct.Props.{props}
use Rattle.std.proofs.lemmas.Bool.{cases_Bool, cases_eq, true≢false, and_parts, or_left, or_right, or_cases, not-true, eq-eqb, ne_eqb}
use Rattle.sets.specs.Sets.{has, size, Popped}
use Rattle.sets.specs.Rows.{in_rows, widened}
use Rattle.saturation.specs.Ties.{from_of}
use Rattle.saturation.specs.Orders.{Transitive, Within, Closure as Smallest}
use Rattle.saturation.specs.Laws.{Settled, Closed, Grown, Sources, Readers}
use Rattle.closure.specs.Closures.{earlier, waits, Idle, Still, Spreads, Joined, Raised, Ready, HasRow}
use Rattle.sets.specs.declared.set.EventSet.{EventSet}
use Rattle.closure.specs.declared.reach.Closure.{Closure}
use Rattle.closure.specs.declared.reach.Spread.{Spread}
use Rattle.saturation.specs.declared.saturate.Facts.{Facts}
use Rattle.sets.proofs.Counts.{size_most, pop_falls, size_le}
use Rattle.sets.proofs.Backs.{in_get, in_set_same, in_set_other}
use Rattle.saturation.proofs.Links.{added, heads, tails, reach_u, reach_v, closure, closure_is, newly_heads, by_heads, by_tails}
use Rattle.closure.proofs.Gaps.{gaps, gaps_le, gaps_falls, scaled, level, some_or_all}

transitive_prop : {R : ℕ → ℕ → Bool} → IsProp (Transitive R)
transitive_prop {R} = hlevel props

-- every closure is closed under chains
pub chains_of : {N W : ℕ} (c : Closure N W) → Transitive (earlier c)
chains_of c = ∥∥₁_elim c.chains transitive_prop (λ s. s)

-- one row takes on all that m picks
pub put_all : {W : ℕ} (rows : List (EventSet W)) (x : ℕ) (d r : EventSet W) (m : ℕ → Bool) → x < length rows
    → ((k : ℕ) → has r k ≡ (has (get_or rows x d) k || m k)) → (z k : ℕ) → in_rows (set rows x r) z k ≡ (in_rows rows z k || (eqb z x && m k))
put_all rows x d r m l h z k =
    elim (cases_eq z x) [
      | inl e ↦ rw (e, eq-eqb x x refl) (in_set_same rows x r l k ∙ h k ∙ ap (λ b. b || m k) (sym (in_get rows x d l k)))
      | inr ne ↦ rw (ne_eqb z x ne) (in_set_other rows x r z ne k ∙ sym (or-false (in_rows rows z k)))
    ]

-- a closure and what the pair of u and v touches
module _ {N W : ℕ} (c : Closure N W) (u v : ℕ) (lu : u < c.count) (lv : v < c.count) (s : Spread W) (is : Spreads c u v s) where
  pub heads_below : (x : ℕ) → has s.heads x ≡ true → x < c.count
  heads_below x h =
      elim (reach_u (earlier c) x u (and_parts (eqb x u || earlier c x u) (not (earlier c x v)) (sym (is.heads x) ∙ h)).0) [ inl e ↦ rw e lu | inr r ↦ c.firsts x u r ]

  pub tails_below : (y : ℕ) → has s.tails y ≡ true → y < c.count
  tails_below y h =
      elim (reach_v (earlier c) v y (and_parts (eqb y v || earlier c v y) (not (earlier c u y)) (sym (is.tails y) ∙ h)).0) [ inl e ↦ rw e at lv | inr r ↦ c.seconds v y r ]

  -- the rows that were widened have the pair, and all that follows
  module _ (S : ℕ → ℕ → Bool) (wide : S ≡ widened (earlier c) (has s.heads) (has s.below)) where
    rows_added : S ≡ added (earlier c) u v
    rows_added =
        wide ∙ (λ i x y. (ap (λ h. earlier c x y || (h && has s.below y)) (is.heads x)
        ∙ ap (λ b. earlier c x y || (heads (earlier c) u v x && b)) (is.below y)
        ∙ by_heads (earlier c) (chains_of c) u v x y) i)

    pub mirror_added : (C : ℕ → ℕ → Bool) → C ≡ widened (in_rows c.before) (has s.tails) (has s.above) → (x y : ℕ) → C y x ≡ S x y
    mirror_added C e x y =
        (λ i. e i y x)
        ∙ ap (λ m. m || (has s.tails y && has s.above x)) (c.mirror x y)
        ∙ ap (λ t. earlier c x y || (t && has s.above x)) (is.tails y)
        ∙ ap (λ a. earlier c x y || (tails (earlier c) u v y && a)) (is.above x)
        ∙ by_tails (earlier c) (chains_of c) u v x y
        ∙ sym (λ i. rows_added i x y)

    pub first_added : (x y : ℕ) → S x y ≡ true → x < c.count
    first_added x y h =
        elim (or_cases (earlier c x y) ((eqb x u || earlier c x u) && (eqb y v || earlier c v y)) (sym (λ i. rows_added i x y) ∙ h)) [
          | inl r ↦ c.firsts x y r
          | inr b ↦ elim (reach_u (earlier c) x u (and_parts (eqb x u || earlier c x u) (eqb y v || earlier c v y) b).0) [ inl e ↦ rw e lu | inr r ↦ c.firsts x u r ]
        ]

    pub second_added : (x y : ℕ) → S x y ≡ true → y < c.count
    second_added x y h =
        elim (or_cases (earlier c x y) ((eqb x u || earlier c x u) && (eqb y v || earlier c v y)) (sym (λ i. rows_added i x y) ∙ h)) [
          | inl r ↦ c.seconds x y r
          | inr b ↦ elim (reach_v (earlier c) v y (and_parts (eqb x u || earlier c x u) (eqb y v || earlier c v y) b).1) [ inl e ↦ rw e at lv | inr r ↦ c.seconds v y r ]
        ]

    pub smallest_added : Smallest (earlier c) u v S
    smallest_added = subst (λ (Z : ℕ → ℕ → Bool). Smallest (earlier c) u v Z) (sym rows_added) (closure (earlier c) (chains_of c) u v)

    -- an event is newly before v just where its row changes
    pub newly_added : (x : ℕ) (e d : Bool) → e ≡ (d || has s.heads x) → e ≡ (d || (S x v && not (earlier c x v)))
    newly_added x e d h =
        h ∙ ap (λ z. d || z) (is.heads x ∙ newly_heads (earlier c) u v x ∙ ap (λ (Z : ℕ → ℕ → Bool). Z x v && not (earlier c x v)) (sym rows_added))

module _ {N W : ℕ} where
  -- the pair is there already
  pub joined_already : (c : Closure N W) (u v : ℕ) → earlier c u v ≡ true → Joined u v c c
  joined_already c u v h = record {
    closure = record { keeps = λ x y r. r; linked = h; chains = chains_of c; least = λ Q _ within _. within };
    waiting = λ x. nothing (waits c x) (earlier c x v);
    events = refl;
  }
    where
      nothing : (d r : Bool) → d ≡ (d || (r && not r))
      nothing true r = refl
      nothing false true = refl
      nothing false false = refl

  pub still_earlier : (c d : Closure N W) → Still c d → earlier d ≡ earlier c
  still_earlier c d s = ap (λ (rows : List (EventSet W)). in_rows rows) s.afters

  -- an event that is not newly before v has no new successor
  row_stays : (c d : Closure N W) (u v : ℕ) → Joined u v c d → (x : ℕ) → (earlier d x v && not (earlier c x v)) ≡ false → (y : ℕ) → earlier d x y ≡ earlier c x y
  row_stays c d u v l x h y =
      let far = chains_of c in
      let e = closure_is (earlier c) far u v (earlier d) l.closure in
      let none : heads (earlier c) u v x ≡ false = newly_heads (earlier c) u v x ∙ ap (λ b. b && not (earlier c x v)) (sym (e x v)) ∙ h in
      e x y ∙ sym (by_heads (earlier c) far u v x y) ∙ ap (λ b. earlier c x y || (b && (eqb y v || earlier c v y))) none ∙ or-false (earlier c x y)

module _ {N W : ℕ} (K : (ℕ → ℕ → Bool) → Type 0) where
  pub raised_same : (c : Closure N W) → Raised K c c
  raised_same c = record { keeps = λ x y h. h; least = λ Q _ within _. within; waiting = λ x h. h; tracks = λ x. inr (λ y. refl); only = λ x h. inl h; events = refl }

  pub raised_then : (c d e : Closure N W) → Raised K c d → Raised K d e → Raised K c e
  raised_then c d e a b = record {
    keeps = λ x y h. b.keeps x y (a.keeps x y h);
    least = λ Q far within kind. b.least Q far (a.least Q far within kind) kind;
    waiting = λ x h. b.waiting x (a.waiting x h);
    tracks = λ x. elim (b.tracks x) [
      | inl h ↦ inl h
      | inr p ↦ elim (a.tracks x) [ inl h ↦ inl (b.waiting x h) | inr q ↦ inr (λ y. p y ∙ q y) ]
    ];
    only = λ x h. elim (b.only x h) [
      | inl k ↦ elim (a.only x k) [
        | inl w ↦ inl w
        | inr n ↦ inr (n.0, (b.keeps x n.0 n.1.0, n.1.1))
      ]
      | inr n ↦ inr (n.0, (n.1.0, elim (cases_Bool (earlier c x n.0)) [ inl t ↦ absurd (true≢false (sym (a.keeps x n.0 t) ∙ n.1.1)) | inr t ↦ t ]))
    ];
    events = b.events ∙ a.events;
  }

  -- a pair is added that every relation of the kind K has
  pub raised_link : (c d : Closure N W) (u v : ℕ) → ((Q : ℕ → ℕ → Bool) → Within (earlier c) Q → K Q → Q u v ≡ true) → Joined u v c d → Raised K c d
  raised_link c d u v pair l = record {
    keeps = l.closure.keeps;
    least = λ Q far within kind. l.closure.least Q far within (pair Q within kind);
    waiting = λ x h. l.waiting x ∙ or_left _ _ h;
    tracks = λ x. elim (cases_Bool (earlier d x v && not (earlier c x v))) [
      | inl t ↦ inl (l.waiting x ∙ or_right _ _ t)
      | inr t ↦ inr (row_stays c d u v l x t)
    ];
    only = λ x h. elim (or_cases (waits c x) (earlier d x v && not (earlier c x v)) (sym (l.waiting x) ∙ h)) [
      | inl w ↦ inl w
      | inr n ↦ let b = and_parts (earlier d x v) (not (earlier c x v)) n in inr (v, (b.0, not-true (earlier c x v) b.1))
    ];
    events = l.events;
  }

  -- what every relation of a narrower kind has
  pub raised_kind : (J : (ℕ → ℕ → Bool) → Type 0) (c d : Closure N W) → ((Q : ℕ → ℕ → Bool) → J Q → K Q) → Raised K c d → Raised J c d
  raised_kind J c d narrow a = record {
    keeps = a.keeps;
    least = λ Q far within kind. a.least Q far within (narrow Q kind);
    waiting = a.waiting;
    tracks = a.tracks;
    only = a.only;
    events = a.events;
  }

-- one row more goes in, of rows that P gives and that every relation of the kind K has
pub raised_row : {N W : ℕ} (K : (ℕ → ℕ → Bool) → Type 0) (P : ℕ → ℕ → Bool) (c d e : Closure N W) (x : ℕ) (s : EventSet W)
    → Raised K c d → ((z y : ℕ) → z < x → P z y ≡ true → earlier d z y ≡ true)
    → ((Q : ℕ → ℕ → Bool) → K Q → (y : ℕ) → P x y ≡ true → Q x y ≡ true) → ((y : ℕ) → has s y ≡ P x y) → HasRow x s (earlier e) → Raised (HasRow x s) d e
    → Raised K c e × ((z y : ℕ) → z < x + 1 → P z y ≡ true → earlier e z y ≡ true)
raised_row K P c d e x s a lower kind is row more = (
  raised_then K c d e a (raised_kind (HasRow x s) K d e (λ Q all y h. kind Q all y (sym (is y) ∙ h)) more),
  λ z y l h. elim (cases_eq z x) [
    | inl q ↦ subst (λ k. earlier e k y ≡ true) (sym q) (row y (is y ∙ subst (λ k. P k y ≡ true) q h))
    | inr ne ↦ more.keeps z y (lower z y (omega arith) h)
  ],
)

module _ {N W : ℕ} (f : Facts N W) where
  -- an event is settled as long as its successors stay
  pub settled_stays : (R S : ℕ → ℕ → Bool) (w : ℕ) → Within R S → ((y : ℕ) → S w y ≡ R w y) → Settled f R w → Settled f S w
  settled_stays R S w keeps same s = (
    λ r e h. keeps w (get_or (from_of f.ties) r 0) (s.0 r e (sym (same r) ∙ h)),
    λ q r m k h. keeps r q (s.1 q r m k (sym (same q) ∙ h)),
  )

  -- the two rules at w, one after the other
  pub both_rules : (c d e : Closure N W) (w : ℕ) → Raised (Closed f) c d → Raised (Closed f) d e → Sources f w (earlier c) (earlier d) → Readers f w (earlier d) (earlier e)
      → (waits e w ≡ true) ⊎ Settled f (earlier e) w
  both_rules c d e w a b one two =
      elim (b.tracks w) [
        | inl h ↦ inl h
        | inr p ↦ elim (a.tracks w) [
          | inl h ↦ inl (b.waiting w h)
          | inr q ↦ inr (
            λ r k h. b.keeps w (get_or (from_of f.ties) r 0) (one r k (sym (q r) ∙ sym (p r) ∙ h)),
            λ z r m k h. two z r m k (sym (p z) ∙ h),
          )
        ]
      ]

  -- nothing waits: all is settled
  pub ready_closed : (c : Closure N W) → Idle c → Ready f c → Closed f (earlier c)
  ready_closed c none all w = elim (all w) [ inl h ↦ absurd (true≢false (sym h ∙ none w)) | inr s ↦ s ]

  -- where no event is before another, there is nothing to look at
  pub ready_none : (c : Closure N W) → ((x y : ℕ) → earlier c x y ≡ false) → Ready f c
  ready_none c none w = inr (λ r _ h. absurd (true≢false (sym h ∙ none w r)), λ q r _ _ h. absurd (true≢false (sym h ∙ none w q)))

  -- what is added waits
  pub ready_raised : (K : (ℕ → ℕ → Bool) → Type 0) (c d : Closure N W) → Raised K c d → Ready f c → Ready f d
  ready_raised K c d a all x =
      elim (a.tracks x) [
        | inl h ↦ inl h
        | inr stays ↦ elim (all x) [
          | inl h ↦ inl (a.waiting x h)
          | inr s ↦ inr (settled_stays (earlier c) (earlier d) x a.keeps stays s)
        ]
      ]

  -- w is taken off the list and settled: the others are as ready as before
  pub ready_step : (c d e : Closure N W) (w : ℕ) → Ready f c → Still c d → Popped c.dirty d.dirty w → Raised (Closed f) d e → (waits e w ≡ true) ⊎ Settled f (earlier e) w → Ready f e
  ready_step c d e w all same popped run here x =
      elim (cases_eq x w) [
        | inl p ↦ let P : ℕ → Type 0 = λ z. (waits e z ≡ true) ⊎ Settled f (earlier e) z in subst P (sym p) here
        | inr ne ↦ elim (run.tracks x) [
          | inl h ↦ inl h
          | inr stays ↦ elim (all x) [
            | inl h ↦ inl (run.waiting x (popped.rest x ∙ rw (ne_eqb x w ne) h))
            | inr s ↦ inr (settled_stays (earlier d) (earlier e) x run.keeps stays (subst (λ (R : ℕ → ℕ → Bool). Settled f R x) (sym (still_earlier c d same)) s))
          ]
        ]
      ]

  pub grown_of : (c d : Closure N W) → Raised (Closed f) c d → Grown f (earlier c) (earlier d)
  grown_of c d a = record { keeps = a.keeps; least = a.least }

  -- an event is taken off the list and settled: the measure falls
  pub less_left : (c d e : Closure N W) (w : ℕ) → Still c d → Popped c.dirty d.dirty w → Raised (Closed f) d e
      → gaps (earlier e) e.count * (64 * W + 1) + size e.dirty < gaps (earlier c) c.count * (64 * W + 1) + size c.dirty
  less_left c d e w same popped run =
      let fell = pop_falls c.dirty d.dirty w popped in
      let p : gaps (earlier d) e.count ≡ gaps (earlier c) c.count = ap (λ (R : ℕ → ℕ → Bool). gaps R e.count) (still_earlier c d same) ∙ ap (λ n. gaps (earlier c) n) (run.events ∙ same.events) in
      elim (some_or_all (waits e) (waits d) (64 * W)) [
        | inl s ↦ elim (run.only s.0 s.1.0) [
          | inl h ↦ absurd (true≢false (sym h ∙ s.1.1))
          | inr n ↦
              let l = gaps_falls (earlier d) (earlier e) e.count s.0 n.0 run.keeps (e.firsts s.0 n.0 n.1.0) (e.seconds s.0 n.0 n.1.0) n.1.0 n.1.1 in
              scaled (gaps (earlier e) e.count) (gaps (earlier c) c.count) (64 * W) (size e.dirty) (size c.dirty) (omega arith) (size_most e.dirty)
        ]
        | inr all ↦
            let l = gaps_le (earlier d) (earlier e) e.count run.keeps in
            let z = size_le d.dirty e.dirty all in
            level (gaps (earlier e) e.count) (gaps (earlier c) c.count) (64 * W) (size e.dirty) (size c.dirty) (omega arith) (omega arith)
      ]
