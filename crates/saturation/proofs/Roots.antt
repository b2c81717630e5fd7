-- How a relation gets the pairs that are given outright, and what it is once it has them.
use Rattle.std.proofs.Common.{◌≡◌, ℕ, zero, suc, ◌+◌, ◌-◌, ◌<◌, ◌≤◌, Bool, true, ◌&&◌, T, eqb, ltb, leb, ◌⊎◌, List, [], ◌∷◌, length, get_or, sym, refl, ap, ◌∙◌, subst, inl, inr, arith}
use mathlib.Core.List.Memᴰ
use mathlib.Core.List.{Memᴰ}
use Rattle.std.proofs.lemmas.Bool.{true≢false, and_parts, and_from, or_left, or_right, or_cases, cases_eq, lt-ltb, ltb-true, le-leb, eq-eqb, eqb-true}
use Rattle.order.specs.History.{History, count, at, star_of, revision_of, Number, PairsOfEvents, Write}
use Rattle.order.specs.Before.{Before, Clash}
use Rattle.order.specs.Opening.{is_read, is_write}
use Rattle.order.proofs.Tests.{is_true, true_is}
use Rattle.sets.specs.Rows.{in_rows}
use Rattle.saturation.specs.Orders.{Transitive, Within}
use Rattle.saturation.specs.Relations.{earlier, Linked, Cyclic}
use Rattle.saturation.specs.Laws.{Doomed, Ready, Saturated}
use Rattle.saturation.specs.Nodes.{Exact, FactsOf}
use Rattle.saturation.specs.Recorded.{history_in}
use Rattle.saturation.specs.Rooting.{leads, leads_in, Outright, Standing, Gained, Blocked, Bare}
use Rattle.saturation.specs.declared.relation.Relation.{Relation}
use Rattle.saturation.specs.declared.record.Recorded.{Recorded}
use Rattle.saturation.specs.declared.saturate.Facts.{Facts}
use Rattle.saturation.proofs.Joins.{sound}
use Rattle.saturation.proofs.Steps.{ready_link, closed_ready}
use Rattle.saturation.proofs.Records.{record_count, record_well, record_accepted}
use Rattle.saturation.proofs.Bridges.{Based, past, past_e, past_i, past_far, past_ruled, ruled_closed, exact_i, doomed_clash}

-- the one pair of u and v
abbrev pub Only : ℕ → ℕ → ℕ → ℕ → Type 0
Only u v x y = (x ≡ u) × (y ≡ v)

module _ {N W T : ℕ} where
  pub gained_same : (D : ℕ → ℕ → Type 0) (o : Relation N W T) → ((x y : ℕ) → D x y → ⊥) → Gained D o o
  gained_same D o none = record { keeps = λ x y k. k; gets = λ x y d. absurd (none x y d); least = λ Q _ within _. within; ready = λ f r. r }

  pub gained_link : (o p : Relation N W T) (u v : ℕ) → Linked u v o p → Gained (Only u v) o p
  gained_link o p u v l = record {
    keeps = l.closure.keeps;
    gets = λ x y e. ap (λ z. earlier p z y) e.0 ∙ ap (λ z. earlier p u z) e.1 ∙ l.closure.linked;
    least = λ Q far within has. l.closure.least Q far within (has u v (refl, refl));
    ready = λ f r. ready_link f o p u v r l;
  }

  pub blocked_link : (o : Relation N W T) (u v : ℕ) → Cyclic u v o → Blocked (Only u v) o
  blocked_link o u v cycle Q far within has =
      let k = has u v (refl, refl) in
      elim cycle [
        | inl e ↦ (u, ap (λ z. Q u z) e ∙ k)
        | inr b ↦ (u, far u v u k (within v u b))
      ]

  module _ (D E F : ℕ → ℕ → Type 0) (o p : Relation N W T) (a : Gained D o p) (left : (x y : ℕ) → D x y → F x y) (right : (x y : ℕ) → E x y → F x y) where
    pub gained_then : (q : Relation N W T) → Gained E p q → ((x y : ℕ) → F x y → D x y ⊎ E x y) → Gained F o q
    gained_then q b split = record {
      keeps = λ x y k. b.keeps x y (a.keeps x y k);
      gets = λ x y k. elim (split x y k) [ inl d ↦ b.keeps x y (a.gets x y d) | inr e ↦ b.gets x y e ];
      least = λ Q far within has. b.least Q far (a.least Q far within (λ x y d. has x y (left x y d))) (λ x y e. has x y (right x y e));
      ready = λ f r. b.ready f (a.ready f r);
    }

    pub blocked_then : Blocked E p → Blocked F o
    blocked_then b Q far within has = b Q far (a.least Q far within (λ x y d. has x y (left x y d))) (λ x y e. has x y (right x y e))

  pub gained_as : (D E : ℕ → ℕ → Type 0) (o p : Relation N W T) → ((x y : ℕ) → D x y → E x y) → ((x y : ℕ) → E x y → D x y) → Gained D o p → Gained E o p
  gained_as D E o p there back a = record {
    keeps = a.keeps;
    gets = λ x y e. a.gets x y (back x y e);
    least = λ Q far within has. a.least Q far within (λ x y d. has x y (there x y d));
    ready = a.ready;
  }

-- a member of a list stands at a place of it
pub member_at : (S : List (ℕ × ℕ)) (k : ℕ) → k < length S → Memᴰ (get_or S k (0, 0)) S
member_at [] k l = absurd (omega arith)
member_at (q ∷ S) zero l = Memᴰ.head refl
member_at (q ∷ S) (suc k) l = Memᴰ.tail (member_at S k (omega arith))

pub place_of : (S : List (ℕ × ℕ)) (q : ℕ × ℕ) → Memᴰ q S → (k : ℕ) × (k < length S) × (get_or S k (0, 0) ≡ q)
place_of [] q m = absurd (Memᴰ.not-nil m)
place_of (p ∷ S) q m =
    elim (Memᴰ.cases_cons m) [
      | inl e ↦ (0, omega arith, sym e)
      | inr k ↦ let r = place_of S q k in (suc r.0, (let l = r.1 in omega arith), r.2)
    ]

-- the pairs at the first n places of S
abbrev pub StandingUpTo : List (ℕ × ℕ) → ℕ → ℕ → ℕ → Type 0
StandingUpTo S n x y = (k : ℕ) × (k < n) × (get_or S k (0, 0) ≡ (suc x, suc y))

pub pair_e : (q : ℕ × ℕ) (x y : ℕ) → q ≡ (suc x, suc y) → Only (q.0 - 1) (q.1 - 1) x y
pair_e q x y e =
    let a : q.0 ≡ suc x = ap (λ (p : ℕ × ℕ). p.0) e in
    let b : q.1 ≡ suc y = ap (λ (p : ℕ × ℕ). p.1) e in
    (omega arith, omega arith)

pub pair_i : (q : ℕ × ℕ) (x y : ℕ) → 1 ≤ q.0 → 1 ≤ q.1 → Only (q.0 - 1) (q.1 - 1) x y → q ≡ (suc x, suc y)
pair_i q x y l m (a, b) =
    let c : q.0 ≡ suc x = omega arith in
    let d : q.1 ≡ suc y = omega arith in
    λ i. (c i, d i)

-- the pair at the place n is added
module _ (S : List (ℕ × ℕ)) (n : ℕ) where
  pub up_left : (x y : ℕ) → StandingUpTo S n x y → StandingUpTo S (n + 1) x y
  up_left x y (k, l, e) = (k, omega arith, e)

  pub up_right : 1 ≤ (get_or S n (0, 0)).0 → 1 ≤ (get_or S n (0, 0)).1 → (x y : ℕ) → Only ((get_or S n (0, 0)).0 - 1) ((get_or S n (0, 0)).1 - 1) x y → StandingUpTo S (n + 1) x y
  up_right a b x y e = (n, omega arith, pair_i (get_or S n (0, 0)) x y a b e)

  pub up_split : (x y : ℕ) → StandingUpTo S (n + 1) x y → StandingUpTo S n x y ⊎ Only ((get_or S n (0, 0)).0 - 1) ((get_or S n (0, 0)).1 - 1) x y
  up_split x y (k, l, e) =
      elim (cases_eq k n) [
        | inl d ↦ inr (pair_e (get_or S n (0, 0)) x y (ap (λ z. get_or S z (0, 0)) (sym d) ∙ e))
        | inr ne ↦ inl (k, omega arith, e)
      ]

  pub up_stands : n ≤ length S → (x y : ℕ) → StandingUpTo S n x y → Standing S x y
  up_stands all x y (k, l, e) = subst (λ (q : ℕ × ℕ). Memᴰ q S) e (member_at S k (omega arith))

  pub stands_up : length S ≤ n → (x y : ℕ) → Standing S x y → StandingUpTo S n x y
  stands_up all x y m = let r = place_of S (suc x, suc y) m in (r.0, (let l = r.1 in omega arith), r.2)

-- What a record gives outright is before, and all that is before outright is given.
module _ {N W : ℕ} (r : Recorded N W) (S : List (ℕ × ℕ)) where
  abbrev h : History
  h = history_in r

  number : (x : ℕ) → x < count h → Number h (suc x)
  number x l = let e = record_count r in record { low = omega arith; high = omega arith }

  below : (x : ℕ) → Number h (suc x) → x < count h
  below x n = let e = record_count r in let k = n.high in omega arith

  kept_i : (x y : ℕ) → in_rows r.kept x y ≡ true → T (h.kept (suc x) (suc y))
  kept_i x y k =
      let b = r.later x y k in
      let ex : suc x - 1 ≡ x = omega arith in
      let ey : suc y - 1 ≡ y = omega arith in
      is_true (and_from (leb 1 (suc x)) _ (le-leb 1 (suc x) (omega arith))
      (and_from (ltb (suc x) (suc y)) _ (lt-ltb (suc x) (suc y) (omega (arith, b.0)))
      (and_from (leb (suc y) (count h)) _ (le-leb (suc y) (count h) (omega (arith, b.1)))
      (ap (λ z. in_rows r.kept z (suc y - 1)) ex ∙ ap (λ z. in_rows r.kept x z) ey ∙ k))))

  kept_e : (x y : ℕ) → T (h.kept (suc x) (suc y)) → in_rows r.kept x y ≡ true
  kept_e x y t =
      let ex : suc x - 1 ≡ x = omega arith in
      let ey : suc y - 1 ≡ y = omega arith in
      let a = and_parts (leb 1 (suc x)) _ (true_is _ t) in
      let b = and_parts (ltb (suc x) (suc y)) _ a.1 in
      let c = and_parts (leb (suc y) (count h)) _ b.1 in
      ap (λ z. in_rows r.kept x z) (sym ey) ∙ ap (λ z. in_rows r.kept z (suc y - 1)) (sym ex) ∙ c.1

  leads_e : (x y : ℕ) → x < count h → y < count h → leads (at h (suc x)) (at h (suc y)) ≡ true → Before h S (suc x) (suc y)
  leads_e x y lx ly k =
      let a = and_parts (eqb (star_of h (suc x)) (star_of h (suc y))) _ k in
      let star = eqb-true (star_of h (suc x)) (star_of h (suc y)) a.0 in
      elim (or_cases (is_write (at h (suc x)) && (is_read (at h (suc y)) && eqb (revision_of h (suc x)) (revision_of h (suc y)))) _ a.1) [
        | inl t ↦
            let b = and_parts (is_write (at h (suc x))) _ t in
            let c = and_parts (is_read (at h (suc y))) _ b.1 in
            let same = eqb-true (revision_of h (suc x)) (revision_of h (suc y)) c.1 in
            let write : Write h (suc x) = record { number = number x lx; kind = eqb-true (at h (suc x)).kind 1 b.0 } in
            Before.taken (record {
              read = record { number = number y ly; kind = eqb-true (at h (suc y)).kind 0 c.0 };
              other = λ z. (record_accepted r).written (suc x) write (same ∙ z);
              write = write;
              star = star;
              revision = same;
            })
        | inr t ↦
            let b = and_parts (is_read (at h (suc x))) _ t in
            let c = and_parts (is_write (at h (suc y))) _ b.1 in
            Before.start
            (record { read = record { number = number x lx; kind = eqb-true (at h (suc x)).kind 0 b.0 }; revision = eqb-true (revision_of h (suc x)) 0 c.1 })
            (record { number = number y ly; kind = eqb-true (at h (suc y)).kind 1 c.0 })
            (sym star)
      ]

  pub leads_below : (x y : ℕ) → leads_in r x y ≡ true → y < count h
  leads_below x y k =
      elim (or_cases (in_rows r.kept x y) _ k) [
        | inl t ↦ (r.later x y t).1
        | inr t ↦ ltb-true y (count h) (and_parts (ltb y (count h)) _ t).0
      ]

  pub outright_e : (x y : ℕ) → Outright r (count h) x y → Before h S (suc x) (suc y)
  outright_e x y (lx, k) =
      elim (or_cases (in_rows r.kept x y) _ k) [
        | inl t ↦ Before.kept (kept_i x y t)
        | inr t ↦ let a = and_parts (ltb y (count h)) _ t in leads_e x y lx (ltb-true y (count h) a.0) a.1
      ]

  -- a relation with all of these has the pairs that are given outright
  pub outright_based : (R : ℕ → ℕ → Bool) → ((x y : ℕ) → Outright r (count h) x y → R x y ≡ true) → ((x y : ℕ) → Standing S x y → R x y ≡ true) → Based h S R
  outright_based R given stands = record {
    kept = λ x y t. let k = kept_e x y t in let b = r.later x y k in given x y (omega (arith, b.0, b.1), or_left (in_rows r.kept x y) _ k);
    stands = stands;
    taken = λ w s t.
        given w s (
          below w t.write.number,
          or_right (in_rows r.kept w s) _ (and_from (ltb s (count h)) _ (lt-ltb s (count h) (below s t.read.number))
              (and_from (eqb (star_of h (suc w)) (star_of h (suc s))) _ (eq-eqb _ _ t.star)
              (or_left _ _ (and_from (is_write (at h (suc w))) _ (eq-eqb _ 1 t.write.kind) (and_from (is_read (at h (suc s))) _ (eq-eqb _ 0 t.read.kind) (eq-eqb _ _ t.revision)))))),
        );
    start = λ s w f v e.
        given s w (
          below s f.read.number,
          or_right (in_rows r.kept s w) _ (and_from (ltb w (count h)) _ (lt-ltb w (count h) (below w v.number))
              (and_from (eqb (star_of h (suc s)) (star_of h (suc w))) _ (eq-eqb _ _ (sym e))
              (or_right (is_write (at h (suc s)) && (is_read (at h (suc w)) && eqb (revision_of h (suc s)) (revision_of h (suc w)))) _
              (and_from (is_read (at h (suc s))) _ (eq-eqb _ 0 f.read.kind) (and_from (is_write (at h (suc w))) _ (eq-eqb _ 1 v.kind) (eq-eqb _ 0 f.revision)))))),
        );
  }

  -- From a relation with no pair, through what the record gives and what stands, to all that the rules force.
  module _ {T : ℕ} (inside : PairsOfEvents h S) (o : Relation N W T) (bare : Bare o) where
    abbrev Q : ℕ → ℕ → Bool
    Q = past h S

    far : Transitive Q
    far = past_far h S (record_well r) inside

    none : Within (earlier o) Q
    none x y k = absurd (true≢false (sym k ∙ bare x y))

    outright : (x y : ℕ) → Outright r (count h) x y → Q x y ≡ true
    outright x y k = past_i h S (record_well r) inside x y (outright_e x y k)

    standing : (x y : ℕ) → Standing S x y → Q x y ≡ true
    standing x y m = past_i h S (record_well r) inside x y (Before.stands m)

    clash : (x : ℕ) × (Q x x ≡ true) → Clash h S
    clash z = (suc z.0, past_e h S (record_well r) inside z.0 z.0 z.1)

    pub events_clash : Blocked (Outright r (count h)) o → Clash h S
    events_clash b = clash (b Q far none outright)

    module _ (p : Relation N W T) (a : Gained (Outright r (count h)) o p) where
      pub pairs_clash : Blocked (Standing S) p → Clash h S
      pairs_clash b = clash (b Q far (a.least Q far none outright) standing)

      module _ (q : Relation N W T) (b : Gained (Standing S) p q) where
        within : Within (earlier q) Q
        within = b.least Q far (a.least Q far none outright) standing

        pub root_ready : (f : Facts N W) → Ready f q
        root_ready f = b.ready f (a.ready f (closed_ready f o (λ w. (λ x _ k. absurd (true≢false (sym k ∙ bare w x)), λ x y _ _ k. absurd (true≢false (sym k ∙ bare w x))))))

        pub rules_clash : {f : Facts N W} → FactsOf h f → Doomed f (earlier q) → Clash h S
        rules_clash facts doom = doomed_clash h S (record_well r) inside facts (earlier q) within doom

        pub root_exact : {f : Facts N W} → FactsOf h f → (z : Relation N W T) → Saturated f q z → z.count ≡ count h → Exact h S z
        root_exact facts z s events =
            exact_i h S (record_well r) inside facts z (events ∙ sym (record_count r)) (sound z).chains
            (s.grown.least Q far within (ruled_closed facts Q (past_ruled h S (record_well r) inside)))
            (outright_based (earlier z) (λ x y k. s.grown.keeps x y (b.keeps x y (a.gets x y k))) (λ x y k. s.grown.keeps x y (b.gets x y k)))
            s.closed s.idle
