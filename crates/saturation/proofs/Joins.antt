use Rattle.std.proofs.Common.{◌≡◌, ℕ, zero, suc, ◌+◌, ◌*◌, ◌<◌, ◌≤◌, Bool, true, false, not, ◌&&◌, ◌||◌, eqb, sym, refl, ap, ◌∙◌, subst, inl, inr, suc-mul, mul-suc, arith}
use mathlib.Core.Logic.{∥∥₁_elim}
use denote.Struct.Props.{props}
use Rattle.std.proofs.lemmas.Bool.{cases_Bool, eq-eqb, ne_eqb, true≢false, or_left, or_right, or_from, and_parts, and_from, not-true, and_left, and_right, or_cases}
use Rattle.sets.specs.Bits.{count}
use Rattle.sets.specs.Sets.{has, size}
use Rattle.sets.specs.Rows.{in_row, trail_len, widened}
use Rattle.saturation.specs.Orders.{Transitive, Sound, free, slack}
use Rattle.saturation.specs.Relations.{earlier, Spans}
use Rattle.sets.specs.declared.table.Table.{Table}
use Rattle.saturation.specs.declared.relation.Relation.{Relation}
use Rattle.saturation.specs.declared.relation.Span.{Span}
use Rattle.sets.proofs.Counts.{size_below}
use Rattle.saturation.proofs.Links.{added, heads, tails, closure, by_heads, by_tails, newly_heads, reach_u, reach_v, after}
use Rattle.saturation.proofs.Slacks.{free_not, not_free, free_from, free_parts, slack_drop, slack_most}

sound_prop : {n T : ℕ} {R B : ℕ → ℕ → Bool} {a b : ℕ} → IsProp (Sound n T R B a b)
sound_prop {n} {T} {R} {B} {a} {b} s t =
    let one : IsProp (Transitive R) = hlevel props in
    let two : IsProp ((x : ℕ) → R x x ≡ false) = hlevel props in
    let three : IsProp ((x y : ℕ) → R x y ≡ true → (x < n) × (y < n)) = hlevel props in
    let four : IsProp ((x y : ℕ) → B y x ≡ R x y) = hlevel props in
    let five : IsProp (2 * a + slack R n ≤ 2 * T) = hlevel props in
    let six : IsProp (2 * b + slack R n ≤ 2 * T) = hlevel props in
    λ i. record {
      chains = one s.chains t.chains i;
      calm = two s.calm t.calm i;
      inside = three s.inside t.inside i;
      mirror = four s.mirror t.mirror i;
      afters = five s.afters t.afters i;
      befores = six s.befores t.befores i;
    }

-- what every relation keeps to
pub sound : {N W T : ℕ} (o : Relation N W T) → Sound o.count T (in_row o.after) (in_row o.before) (trail_len o.after) (trail_len o.before)
sound o = ∥∥₁_elim o.sound sound_prop (λ s. s)

-- the pairs of different numbers below n are not more than those below N
squares : (n N : ℕ) → n ≤ N → n * n + N ≤ N * N + n
squares zero N l = omega (arith, le_square N)
  where
    le_square : (k : ℕ) → k ≤ k * k
    le_square zero = omega arith
    le_square (suc k) = omega (arith, suc-mul k (suc k))
squares (suc n) zero l = absurd (omega arith)
squares (suc n) (suc N) l = let r = squares n N (omega arith) in omega (arith, suc-mul n (suc n), suc-mul N (suc N), mul-suc n n, mul-suc N N)

-- a relation with no pair, and nothing on its trails
pub sound_none : (N T n : ℕ) (R B : ℕ → ℕ → Bool) (a b : ℕ) → n ≤ N → N * N ≤ 2 * T + N → ((x y : ℕ) → R x y ≡ false) → ((x y : ℕ) → B x y ≡ false) → a ≡ 0 → b ≡ 0
    → Sound n T R B a b
sound_none N T n R B a b l room r m za zb =
    let most = slack_most R n in
    let less = squares n N l in
    record {
      chains = λ x y z h _. absurd (true≢false (sym h ∙ r x y));
      calm = λ x. r x x;
      inside = λ x y h. absurd (true≢false (sym h ∙ r x y));
      mirror = λ x y. m y x ∙ sym (r x y);
      afters = omega arith;
      befores = omega arith;
    }

module _ (R : ℕ → ℕ → Bool) (far : Transitive R) (u v : ℕ) (was : free R u v ≡ true) where
  -- no event is both before u and after v
  no_way : (x : ℕ) → (eqb x u || R x u) ≡ true → (eqb x v || R v x) ≡ true → ⊥
  no_way x h k =
      let p = free_parts R u v was in
      elim (reach_v R v x k) [
        | inl d ↦ elim (reach_u R x u h) [
          | inl e ↦ p.0 (sym (d ∙ e))
          | inr q ↦ true≢false (sym q ∙ ap (λ z. R z u) (sym d) ∙ p.2)
        ]
        | inr r ↦ true≢false (sym (after R far v x u r (reach_u R x u h)) ∙ p.2)
      ]

  calm_join : ((x : ℕ) → R x x ≡ false) → (x : ℕ) → added R u v x x ≡ false
  calm_join calm x =
      or_from (R x x) ((eqb x u || R x u) && (eqb x v || R v x)) (calm x)
      (elim (cases_Bool (eqb x u || R x u)) [
        | inl h ↦ elim (cases_Bool (eqb x v || R v x)) [ inl k ↦ absurd (no_way x h k) | inr k ↦ and_right (eqb x u || R x u) _ k ]
        | inr h ↦ and_left _ (eqb x v || R v x) h
      ])

  inside_join : (n : ℕ) → u < n → v < n → ((x y : ℕ) → R x y ≡ true → (x < n) × (y < n)) → (x y : ℕ) → added R u v x y ≡ true → (x < n) × (y < n)
  inside_join n lu lv inside x y h =
      elim (or_cases (R x y) ((eqb x u || R x u) && (eqb y v || R v y)) h) [
        | inl r ↦ inside x y r
        | inr b ↦
            let p = and_parts (eqb x u || R x u) (eqb y v || R v y) b in
            let lx : x < n = elim (reach_u R x u p.0) [ inl e ↦ rw e lu | inr r ↦ (inside x u r).0 ] in
            let ly : y < n = elim (reach_v R v y p.1) [ inl e ↦ rw e at lv | inr r ↦ (inside v y r).1 ] in
            (lx, ly)
      ]

  head_free : (x : ℕ) → heads R u v x ≡ true → (free R x v ≡ true) × (free (added R u v) x v ≡ false)
  head_free x h =
      let p = and_parts (eqb x u || R x u) (not (R x v)) h in (
        free_from R x v (λ e. no_way x p.0 (or_left _ _ (eq-eqb x v e))) (not-true (R x v) p.1)
            (elim (cases_Bool (R v x)) [ inl r ↦ absurd (no_way x p.0 (or_right _ _ r)) | inr f ↦ f ]),
        free_not (added R u v) x v (or_right (R x v) _ (and_from _ _ p.0 (or_left _ _ (eq-eqb v v refl)))),
      )

  tail_free : (y : ℕ) → tails R u v y ≡ true → (free R y u ≡ true) × (free (added R u v) y u ≡ false)
  tail_free y h =
      let p = and_parts (eqb y v || R v y) (not (R u y)) h in (
        free_from R y u (λ e. no_way y (or_left _ _ (eq-eqb y u e)) p.0)
            (elim (cases_Bool (R y u)) [ inl r ↦ absurd (no_way y (or_right _ _ r) p.0) | inr f ↦ f ])
            (not-true (R u y) p.1),
        not_free (added R u v) u y (or_right (R u y) _ (and_from _ _ (or_left _ _ (eq-eqb u u refl)) p.0)),
      )

  head_slack : (n : ℕ) → v < n → slack (added R u v) n + (count (heads R u v) n + count (heads R u v) n) ≤ slack R n
  head_slack n lv =
      let p = free_parts R u v was in
      slack_drop R (added R u v) (heads R u v) n v lv
      (and_left (eqb v u || R v u) _ (or_from (eqb v u) (R v u) (ne_eqb v u (λ e. p.0 (sym e))) p.2))
      (closure R far u v).keeps head_free

  tail_slack : (n : ℕ) → u < n → slack (added R u v) n + (count (tails R u v) n + count (tails R u v) n) ≤ slack R n
  tail_slack n lu =
      let p = free_parts R u v was in
      slack_drop R (added R u v) (tails R u v) n u lu
      (and_left (eqb u v || R v u) _ (or_from (eqb u v) (R v u) (ne_eqb u v p.0) p.2))
      (closure R far u v).keeps tail_free

module _ (n T : ℕ) (R B : ℕ → ℕ → Bool) (a b : ℕ) (s : Sound n T R B a b) (u v : ℕ) (lu : u < n) (lv : v < n) (was : free R u v ≡ true) where
  pub head_inside : (x : ℕ) → heads R u v x ≡ true → x < n
  head_inside x h =
      elim (reach_u R x u (and_parts (eqb x u || R x u) (not (R x v)) h).0) [ inl e ↦ rw e lu | inr r ↦ (s.inside x u r).0 ]

  pub tail_inside : (y : ℕ) → tails R u v y ≡ true → y < n
  tail_inside y h =
      elim (reach_v R v y (and_parts (eqb y v || R v y) (not (R u y)) h).0) [ inl e ↦ rw e at lv | inr r ↦ (s.inside v y r).1 ]

  -- there is room for the rows that change
  pub head_room : (k : ℕ) → k ≤ count (heads R u v) n → a + k ≤ T
  head_room k l = let d = head_slack R s.chains u v was n lv in omega (arith, s.afters)

  pub tail_room : (k : ℕ) → k ≤ count (tails R u v) n → b + k ≤ T
  tail_room k l = let d = tail_slack R s.chains u v was n lu in omega (arith, s.befores)

  pub sound_join : (S C : ℕ → ℕ → Bool) (a' b' k m : ℕ) → S ≡ added R u v → ((x y : ℕ) → C y x ≡ added R u v x y)
      → k ≤ count (heads R u v) n → m ≤ count (tails R u v) n → a' ≤ a + k → b' ≤ b + m → Sound n T S C a' b'
  sound_join S C a' b' k m e f lk lm la lb =
      let d = head_slack R s.chains u v was n lv in
      let d' = tail_slack R s.chains u v was n lu in
      subst (λ (Z : ℕ → ℕ → Bool). Sound n T Z C a' b') (sym e)
      (record {
        chains = (closure R s.chains u v).chains;
        calm = calm_join R s.chains u v was s.calm;
        inside = inside_join R s.chains u v was n lu lv s.inside;
        mirror = f;
        afters = omega (arith, s.afters);
        befores = omega (arith, s.befores);
      })

module _ {N W T : ℕ} (o : Relation N W T) (u v : ℕ) (lu : u < o.count) (lv : v < o.count) (was : free (earlier o) u v ≡ true) (span : Span W) (is : Spans o u v span) where
  pub head_below : (x : ℕ) → has span.heads x ≡ true → x < o.count
  head_below x h = head_inside o.count T (earlier o) (in_row o.before) (trail_len o.after) (trail_len o.before) (sound o) u v lu lv was x (sym (is.heads x) ∙ h)

  pub tail_below : (y : ℕ) → has span.tails y ≡ true → y < o.count
  tail_below y h = tail_inside o.count T (earlier o) (in_row o.before) (trail_len o.after) (trail_len o.before) (sound o) u v lu lv was y (sym (is.tails y) ∙ h)

  head_size : size span.heads ≤ count (heads (earlier o) u v) o.count
  head_size = let e : has span.heads ≡ heads (earlier o) u v = λ i x. is.heads x i in subst (λ (f : ℕ → Bool). size span.heads ≤ count f o.count) e (size_below span.heads o.count head_below)

  tail_size : size span.tails ≤ count (tails (earlier o) u v) o.count
  tail_size = let e : has span.tails ≡ tails (earlier o) u v = λ i x. is.tails x i in subst (λ (f : ℕ → Bool). size span.tails ≤ count f o.count) e (size_below span.tails o.count tail_below)

  pub after_room : trail_len o.after + size span.heads ≤ T
  after_room = head_room o.count T (earlier o) (in_row o.before) (trail_len o.after) (trail_len o.before) (sound o) u v lu lv was (size span.heads) head_size

  pub before_room : trail_len o.before + size span.tails ≤ T
  before_room = tail_room o.count T (earlier o) (in_row o.before) (trail_len o.after) (trail_len o.before) (sound o) u v lu lv was (size span.tails) tail_size

  -- the rows that were widened have the pair, and all that follows
  pub after_is : (S : ℕ → ℕ → Bool) → S ≡ widened (earlier o) (has span.heads) (has span.below) → S ≡ added (earlier o) u v
  after_is S e =
      e ∙ (λ i x y. (ap (λ h. earlier o x y || (h && has span.below y)) (is.heads x)
      ∙ ap (λ b. earlier o x y || (heads (earlier o) u v x && b)) (is.below y)
      ∙ by_heads (earlier o) (sound o).chains u v x y) i)

  pub before_is : (C : ℕ → ℕ → Bool) → C ≡ widened (in_row o.before) (has span.tails) (has span.above) → (x y : ℕ) → C y x ≡ added (earlier o) u v x y
  before_is C e x y =
      (λ i. e i y x)
      ∙ ap (λ m. m || (has span.tails y && has span.above x)) ((sound o).mirror x y)
      ∙ ap (λ t. earlier o x y || (t && has span.above x)) (is.tails y)
      ∙ ap (λ a. earlier o x y || (tails (earlier o) u v y && a)) (is.above x)
      ∙ by_tails (earlier o) (sound o).chains u v x y

  pub sound_joined : (s t : Table N W T) → in_row s ≡ widened (earlier o) (has span.heads) (has span.below) → in_row t ≡ widened (in_row o.before) (has span.tails) (has span.above)
      → trail_len s ≤ trail_len o.after + size span.heads → trail_len t ≤ trail_len o.before + size span.tails
      → Sound o.count T (in_row s) (in_row t) (trail_len s) (trail_len t)
  sound_joined s t e f ls lt =
      sound_join o.count T (earlier o) (in_row o.before) (trail_len o.after) (trail_len o.before) (sound o) u v lu lv was
      (in_row s) (in_row t) (trail_len s) (trail_len t) (size span.heads) (size span.tails) (after_is (in_row s) e) (before_is (in_row t) f) head_size tail_size ls lt

  -- an event is newly before v just where its row changes
  pub waiting_is : (S : ℕ → ℕ → Bool) → S ≡ added (earlier o) u v → (x : ℕ) (e d : Bool) → e ≡ (d || has span.heads x) → e ≡ (d || (S x v && not (earlier o x v)))
  waiting_is S is-added x e d h =
      h ∙ ap (λ z. d || z) (is.heads x ∙ newly_heads (earlier o) u v x ∙ ap (λ (Z : ℕ → ℕ → Bool). Z x v && not (earlier o x v)) (sym is-added))
