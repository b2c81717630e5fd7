-- How the facts of a history are gathered, pair of events by pair of events.
use Rattle.std.proofs.Common.{◌≡◌, ℕ, suc, ◌+◌, ◌-◌, ◌<◌, Bool, true, false, not, ◌&&◌, ◌||◌, eqb, ltb, ◌≢◌, List, length, get_or, set, sym, refl, ap, ◌∙◌, subst, inl, inr, arith}
use Rattle.std.proofs.lemmas.List.{length-map, get_or-set_same, get_or-set_other, get_or_past}
use Rattle.std.proofs.lemmas.Bool.{true≢false, and_parts, and_from, or_cases, cases_eq, cases_lt, cases_order, eqb-true, eqb-false, eq-eqb, ne_eqb, lt-ltb, le-ltb, not-true, not_from_false, not_from_true, and_left, and_right}
use Rattle.history.specs.declared.event.Event.{Event}
use Rattle.order.specs.History.{History, count, at, star_of, revision_of, Number, Read, Write, TakesFrom, TwoWrites}
use Rattle.order.specs.Opening.{is_read, is_write, Accepted}
use Rattle.sets.specs.Rows.{in_rows, PutIn}
use Rattle.saturation.specs.Ties.{from_of, mates_of, others_of, takers_of}
use Rattle.saturation.specs.Laws.{Blank}
use Rattle.saturation.specs.Nodes.{FactsOf}
use Rattle.saturation.specs.Noting.{mate, reads_star, taker, other, Noted, with_row}
use Rattle.sets.specs.declared.set.EventSet.{EventSet}
use Rattle.saturation.specs.declared.saturate.Facts.{Facts}
use Rattle.saturation.specs.declared.record.Recorded.{Recorded}
use Rattle.saturation.specs.Recorded.{history_in}
use Rattle.saturation.proofs.Records.{zeros, record_accepted}

-- what the tests say of two events, in each of the cases that there are
module _ (a b : Event) where
  abbrev Says : Bool → Bool → Bool → Type 0
  Says m t o = (mate a b ≡ m) × (taker a b ≡ t) × (other a b ≡ o)

  pub no_write : a.kind ≢ 1 → Says false false false
  no_write k = let e = ne_eqb a.kind 1 k in (rw e, rw e, rw e)

  pub no_star : a.star ≢ b.star → Says false false false
  no_star k =
      let e = ne_eqb a.star b.star k in
      (rw e (three (is_write a) (is_write b)), rw e (five (is_write a) (is_read b) (eqb a.revision b.revision)), rw e (five (is_write a) (is_read b) (not (eqb a.revision b.revision))))
    where
      three : (x y : Bool) → (x && (y && false)) ≡ false
      three true true = refl
      three true false = refl
      three false y = refl

      five : (x y z : Bool) → ((x && (y && false)) && z) ≡ false
      five true true z = refl
      five true false z = refl
      five false y z = refl

  pub two_writes_serial : a.kind ≡ 1 → a.star ≡ b.star → b.kind ≡ 1 → Says true false false
  two_writes_serial i s j =
      let x = eq-eqb a.kind 1 i in
      let y = eq-eqb b.kind 1 j in
      let z = eq-eqb a.star b.star s in
      let w = ne_eqb b.kind 0 (λ e. omega arith) in
      (rw (x, y, z), rw (x, w), rw (x, w))

  module _ (i : a.kind ≡ 1) (s : a.star ≡ b.star) (j : b.kind ≡ 0) where
    x : eqb a.kind 1 ≡ true
    x = eq-eqb a.kind 1 i

    y : eqb b.kind 1 ≡ false
    y = ne_eqb b.kind 1 (λ e. omega arith)

    v : eqb b.kind 0 ≡ true
    v = eq-eqb b.kind 0 j

    z : eqb a.star b.star ≡ true
    z = eq-eqb a.star b.star s

    pub takes_it : b.revision ≢ 0 → b.revision ≡ a.revision → Says false true false
    takes_it n e =
        let m = ne_eqb b.revision 0 n in
        let k = eq-eqb a.revision b.revision (sym e) in
        (rw (x, y), rw (x, v, z, m, k), rw (x, v, z, m, k))

    pub takes_other : b.revision ≢ 0 → b.revision ≢ a.revision → Says false false true
    takes_other n e =
        let m = ne_eqb b.revision 0 n in
        let k = ne_eqb a.revision b.revision (λ d. e (sym d)) in
        (rw (x, y), rw (x, v, z, m, k), rw (x, v, z, m, k))

    pub takes_none : b.revision ≡ 0 → Says false false false
    takes_none e =
        let m = eq-eqb b.revision 0 e in
        (rw (x, y), rw (x, v, z, m), rw (x, v, z, m))

-- the pair of x and y is looked at
module _ (D P : ℕ → ℕ → Bool) (x y : ℕ) where
  abbrev more : ℕ → ℕ → Bool
  more = with_row D x (λ q. eqb q y)

  at_pair : (v : Bool) → P x y ≡ v → (w q : ℕ) → (eqb w x && eqb q y) ≡ true → P w q ≡ v
  at_pair v k w q e =
      let b = and_parts (eqb w x) (eqb q y) e in
      ap (λ z. P z q) (eqb-true w x b.0) ∙ ap (λ z. P x z) (eqb-true q y b.1) ∙ k

  with_it : (d p e : Bool) → (e ≡ true → p ≡ true) → ((d && p) || e) ≡ ((d || e) && p)
  with_it true true e k = refl
  with_it true false true k = sym (k refl)
  with_it true false false k = refl
  with_it false p true k = sym (k refl)
  with_it false p false k = refl

  without : (d p e : Bool) → (e ≡ true → p ≡ false) → (d && p) ≡ ((d || e) && p)
  without true p e k = refl
  without false p true k = sym (k refl)
  without false p false k = refl

  module _ {W : ℕ} (rs : List (EventSet W)) (so : (w q : ℕ) → in_rows rs w q ≡ (D w q && P w q)) where
    pub row_put : (ss : List (EventSet W)) → PutIn rs ss x y → P x y ≡ true → (w q : ℕ) → in_rows ss w q ≡ (more w q && P w q)
    row_put ss put k w q = put w q ∙ ap (λ b. b || (eqb w x && eqb q y)) (so w q) ∙ with_it (D w q) (P w q) (eqb w x && eqb q y) (at_pair true k w q)

    pub row_skip : (ss : List (EventSet W)) → ss ≡ rs → P x y ≡ false → (w q : ℕ) → in_rows ss w q ≡ (more w q && P w q)
    row_skip ss same k w q = ap (λ (z : List (EventSet W)). in_rows z w q) same ∙ so w q ∙ without (D w q) (P w q) (eqb w x && eqb q y) (at_pair false k w q)

  module _ (fs : List ℕ) (so : (w r : ℕ) → D w r ≡ true → P w r ≡ true → get_or fs r 0 ≡ w) where
    pub from_skip : (gs : List ℕ) → gs ≡ fs → P x y ≡ false → (w r : ℕ) → more w r ≡ true → P w r ≡ true → get_or gs r 0 ≡ w
    from_skip gs same k w r d p =
        ap (λ (z : List ℕ). get_or z r 0) same
        ∙ elim (or_cases (D w r) (eqb w x && eqb r y) d) [
          | inl h ↦ so w r h p
          | inr e ↦ absurd (true≢false (sym p ∙ at_pair false k w r e))
        ]

    pub from_put : (gs : List ℕ) → gs ≡ set fs y x → y < length fs → ((w : ℕ) → P w y ≡ true → w ≡ x) → (w r : ℕ) → more w r ≡ true → P w r ≡ true → get_or gs r 0 ≡ w
    from_put gs same l only w r d p =
        ap (λ (z : List ℕ). get_or z r 0) same
        ∙ elim (cases_eq r y) [
          | inl e ↦ ap (λ k. get_or (set fs y x) k 0) e ∙ get_or-set_same fs y x 0 l ∙ sym (only w (ap (λ k. P w k) (sym e) ∙ p))
          | inr ne ↦ get_or-set_other fs y r x 0 ne
              ∙ elim (or_cases (D w r) (eqb w x && eqb r y) d) [
                | inl h ↦ so w r h p
                | inr e ↦ absurd (ne (eqb-true r y (and_parts (eqb w x) (eqb r y) e).1))
              ]
        ]

-- What the tests say of the events of a history.
module _ (h : History) where
  event_number : (k : ℕ) → (at h (suc k) ≡ zeros → ⊥) → Number h (suc k)
  event_number k some =
      elim (cases_lt k (count h)) [
        | inl l ↦ record { low = omega arith; high = omega arith }
        | inr l ↦ let e : suc k - 1 ≡ k = omega arith in absurd (some (ap (λ j. get_or h.events j zeros) e ∙ get_or_past h.events k zeros l))
      ]

  write_event : (w : ℕ) → is_write (at h (suc w)) ≡ true → Write h (suc w)
  write_event w k = record {
    number = event_number w (λ e. true≢false (sym k ∙ ap is_write e));
    kind = eqb-true (at h (suc w)).kind 1 k;
  }

  pub mate_e : (w q : ℕ) → (not (eqb w q) && mate (at h (suc w)) (at h (suc q))) ≡ true → TwoWrites h (suc w) (suc q)
  mate_e w q k =
      let a = and_parts (not (eqb w q)) _ k in
      let b = and_parts (is_write (at h (suc w))) _ a.1 in
      let c = and_parts (is_write (at h (suc q))) _ b.1 in
      record {
        first = write_event w b.0;
        second = write_event q c.0;
        star = eqb-true (star_of h (suc w)) (star_of h (suc q)) c.1;
        two = λ e. eqb-false w q (not-true (eqb w q) a.0) (omega arith);
      }

  pub mate_i : (w q : ℕ) → TwoWrites h (suc w) (suc q) → (not (eqb w q) && mate (at h (suc w)) (at h (suc q))) ≡ true
  mate_i w q t =
      and_from (not (eqb w q)) _ (not_from_false (eqb w q) (ne_eqb w q (λ e. t.two (ap suc e))))
      (and_from (is_write (at h (suc w))) _ (eq-eqb _ 1 t.first.kind) (and_from (is_write (at h (suc q))) _ (eq-eqb _ 1 t.second.kind) (eq-eqb _ _ t.star)))

  reads_e : (w r : ℕ) → reads_star (at h (suc w)) (at h (suc r)) ≡ true → Write h (suc w) × Read h (suc r) × (star_of h (suc w) ≡ star_of h (suc r)) × (revision_of h (suc r) ≢ 0)
  reads_e w r k =
      let a = and_parts (is_write (at h (suc w))) _ k in
      let b = and_parts (is_read (at h (suc r))) _ a.1 in
      let c = and_parts (eqb (star_of h (suc w)) (star_of h (suc r))) _ b.1 in
      let n : revision_of h (suc r) ≢ 0 = eqb-false (revision_of h (suc r)) 0 (not-true (eqb (revision_of h (suc r)) 0) c.1) in (
        write_event w a.0,
        record { number = event_number r (λ e. n (ap (λ (x : Event). x.revision) e)); kind = eqb-true (at h (suc r)).kind 0 b.0 },
        eqb-true (star_of h (suc w)) (star_of h (suc r)) c.0,
        n,
      )

  reads_i : (w r : ℕ) → Write h (suc w) → Read h (suc r) → star_of h (suc w) ≡ star_of h (suc r) → revision_of h (suc r) ≢ 0 → reads_star (at h (suc w)) (at h (suc r)) ≡ true
  reads_i w r a b s n =
      and_from (is_write (at h (suc w))) _ (eq-eqb _ 1 a.kind) (and_from (is_read (at h (suc r))) _ (eq-eqb _ 0 b.kind)
      (and_from (eqb (star_of h (suc w)) (star_of h (suc r))) _ (eq-eqb _ _ s) (not_from_false _ (ne_eqb (revision_of h (suc r)) 0 n))))

  pub taker_e : (w r : ℕ) → taker (at h (suc w)) (at h (suc r)) ≡ true → TakesFrom h (suc r) (suc w)
  taker_e w r k =
      let a = and_parts (reads_star (at h (suc w)) (at h (suc r))) _ k in
      let b = reads_e w r a.0 in
      record { read = b.1; other = b.3; write = b.0; star = b.2; revision = eqb-true (revision_of h (suc w)) (revision_of h (suc r)) a.1 }

  pub taker_i : (w r : ℕ) → TakesFrom h (suc r) (suc w) → taker (at h (suc w)) (at h (suc r)) ≡ true
  taker_i w r t = and_from (reads_star (at h (suc w)) (at h (suc r))) _ (reads_i w r t.write t.read t.star t.other) (eq-eqb _ _ t.revision)

  module _ (fine : Accepted h) where
    -- a read takes from one write at most
    pub taker_one : (v w r : ℕ) → TakesFrom h (suc r) (suc v) → TakesFrom h (suc r) (suc w) → v ≡ w
    taker_one v w r s t = let e = fine.once (suc v) (suc w) s.write t.write (s.star ∙ sym t.star) (s.revision ∙ sym t.revision) in omega arith

    pub other_e : (w r : ℕ) → other (at h (suc w)) (at h (suc r)) ≡ true → (v : ℕ) × TakesFrom h (suc r) (suc v) × TwoWrites h (suc w) (suc v)
    other_e w r k =
        let a = and_parts (reads_star (at h (suc w)) (at h (suc r))) _ k in
        let b = reads_e w r a.0 in
        let n = eqb-false (revision_of h (suc w)) (revision_of h (suc r)) (not-true _ a.1) in
        let f = fine.found (suc r) b.1 b.3 in
        let l = f.1.write.number.low in
        let e : f.0 ≡ suc (f.0 - 1) = omega arith in
        let t : TakesFrom h (suc r) (suc (f.0 - 1)) = subst (λ v. TakesFrom h (suc r) v) e f.1 in (
          f.0 - 1,
          t,
          record { first = b.0; second = t.write; star = b.2 ∙ sym t.star; two = λ d. n (ap (λ v. revision_of h v) d ∙ t.revision) },
        )

    pub other_i : (w r : ℕ) → (v : ℕ) × TakesFrom h (suc r) (suc v) × TwoWrites h (suc w) (suc v) → other (at h (suc w)) (at h (suc r)) ≡ true
    other_i w r (v, t, two) =
        and_from (reads_star (at h (suc w)) (at h (suc r))) _ (reads_i w r two.first t.read (two.star ∙ t.star) t.other)
        (not_from_false _ (ne_eqb _ _ (λ e. two.two (fine.once (suc w) (suc v) two.first t.write two.star (e ∙ sym t.revision)))))

    -- facts that go as far as all pairs of events are those of the history
    pub facts_of : {N W : ℕ} (f : Facts N W) → f.count ≡ count h → Noted h (λ w q. ltb w (count h) && ltb q (count h)) f → FactsOf h f
    facts_of f events n =
        let inside : (w q : ℕ) → Number h (suc w) → Number h (suc q) → (ltb w (count h) && ltb q (count h)) ≡ true
        = λ w q a b. and_from _ _ (lt-ltb w (count h) (let l = a.high in omega arith)) (lt-ltb q (count h) (let l = b.high in omega arith)) in
        record {
          events = events;
          mates = λ w q. (λ k. mate_e w q (and_parts _ _ (sym (n.mates w q) ∙ k)).1, λ t. n.mates w q ∙ and_from _ _ (inside w q t.first.number t.second.number) (mate_i w q t));
          takers = λ w r. (λ k. taker_e w r (and_parts _ _ (sym (n.takers w r) ∙ k)).1, λ t. n.takers w r ∙ and_from _ _ (inside w r t.write.number t.read.number) (taker_i w r t));
          others = λ w r. (λ k. other_e w r (and_parts _ _ (sym (n.others w r) ∙ k)).1, λ t. n.others w r ∙ and_from _ _ (inside w r t.2.first.number t.1.read.number) (other_i w r t));
          from = λ r w t. n.from w r (inside w r t.write.number t.read.number) (taker_i w r t);
        }

-- nothing is known, and nothing was looked at
pub noted_blank : {N W : ℕ} (h : History) (m : ℕ) (f : Facts N W) → Blank f → Noted h (λ w q. ltb w 0 && ltb q m) f
noted_blank h m f b =
    let none : (w : ℕ) → ltb w 0 ≡ false = λ w. le-ltb w 0 (omega arith) in
    record {
      mates = λ w q. b.mates w q ∙ rw (none w);
      takers = λ w r. b.takers w r ∙ rw (none w);
      others = λ w r. b.others w r ∙ rw (none w);
      from = λ w r d. absurd (true≢false (sym (and_parts (ltb w 0) (ltb r m) d).0 ∙ none w));
    }

pub noted_same : {N W : ℕ} (h : History) (D E : ℕ → ℕ → Bool) (f : Facts N W) → ((w q : ℕ) → D w q ≡ E w q) → Noted h D f → Noted h E f
noted_same h D E f e n = let d : D ≡ E = λ i w q. e w q i in subst (λ (X : ℕ → ℕ → Bool). Noted h X f) d n

-- one number more
ltb_more : (q y : ℕ) → ltb q (y + 1) ≡ (ltb q y || eqb q y)
ltb_more q y =
    elim (cases_order q y) [
      | inl e ↦ rw (lt-ltb q (y + 1) (omega arith), le-ltb q y (omega arith), eq-eqb q y e)
      | inr (inl l) ↦ rw (lt-ltb q (y + 1) (omega arith), lt-ltb q y l)
      | inr (inr l) ↦ rw (le-ltb q (y + 1) (omega arith), le-ltb q y (omega arith), ne_eqb q y (λ e. omega arith))
    ]

pub row_none : (D : ℕ → ℕ → Bool) (x w q : ℕ) → D w q ≡ with_row D x (λ q. ltb q 0) w q
row_none D x w q = rw (le-ltb q 0 (omega arith)) (nothing (D w q) (eqb w x))
  where
    nothing : (d e : Bool) → d ≡ (d || (e && false))
    nothing true e = refl
    nothing false true = refl
    nothing false false = refl

pub row_more : (D : ℕ → ℕ → Bool) (x y w q : ℕ) → with_row (with_row D x (λ q. ltb q y)) x (λ q. eqb q y) w q ≡ with_row D x (λ q. ltb q (y + 1)) w q
row_more D x y w q = rw (ltb_more q y) (both (D w q) (eqb w x) (ltb q y) (eqb q y))
  where
    both : (d e a b : Bool) → ((d || (e && a)) || (e && b)) ≡ (d || (e && (a || b)))
    both true e a b = refl
    both false true a b = refl
    both false false a b = refl

pub rows_more : (m x w q : ℕ) → with_row (λ w q. ltb w x && ltb q m) x (λ q. ltb q m) w q ≡ (ltb w (x + 1) && ltb q m)
rows_more m x w q = rw (ltb_more w x) (both (ltb w x) (eqb w x) (ltb q m))
  where
    both : (a b c : Bool) → ((a && c) || (b && c)) ≡ ((a || b) && c)
    both true b true = refl
    both true true false = refl
    both true false false = refl
    both false b c = refl

-- The pair of x and y is looked at, and noted.
module _ {N W : ℕ} (r : Recorded N W) (x y : ℕ) (lx : x < count (history_in r)) (ly : y < count (history_in r))
    (a b : Event) (ea : a ≡ at (history_in r) (suc x)) (eb : b ≡ at (history_in r) (suc y)) (D : ℕ → ℕ → Bool) (o : Facts N W) (n : Noted (history_in r) D o) where
  abbrev here : History
  here = history_in r

  abbrev then : ℕ → ℕ → Bool
  then = with_row D x (λ q. eqb q y)

  lift : (P : Event → Event → Bool) (v : Bool) → P a b ≡ v → P (at here (suc x)) (at here (suc y)) ≡ v
  lift P v k = ap (λ e. P e (at here (suc y))) (sym ea) ∙ ap (λ e. P a e) (sym eb) ∙ k

  abbrev mated : ℕ → ℕ → Bool
  mated w q = not (eqb w q) && mate (at here (suc w)) (at here (suc q))

  abbrev taking : ℕ → ℕ → Bool
  taking w q = taker (at here (suc w)) (at here (suc q))

  abbrev missing : ℕ → ℕ → Bool
  missing w q = other (at here (suc w)) (at here (suc q))

  alone : mated x y ≡ false → (t : taker a b ≡ false) (k : other a b ≡ false) → Noted here then o
  alone m t k = record {
    mates = row_skip D mated x y (mates_of o.ties) n.mates (mates_of o.ties) refl m;
    takers = row_skip D taking x y (takers_of o.ties) n.takers (takers_of o.ties) refl (lift taker false t);
    others = row_skip D missing x y (others_of o.ties) n.others (others_of o.ties) refl (lift other false k);
    from = from_skip D taking x y (from_of o.ties) n.from (from_of o.ties) refl (lift taker false t);
  }

  pub noted_none : Says a b false false false → Noted here then o
  noted_none s = alone (and_right (not (eqb x y)) _ (lift mate false s.0)) s.1 s.2

  pub noted_self : x ≡ y → Says a b true false false → Noted here then o
  noted_self e s = alone (and_left (not (eqb x y)) _ (not_from_true (eqb x y) (eq-eqb x y e))) s.1 s.2

  module _ (p : Facts N W) where
    pub noted_mate : x ≢ y → PutIn (mates_of o.ties) (mates_of p.ties) x y → (takers_of p.ties) ≡ (takers_of o.ties) → (others_of p.ties) ≡ (others_of o.ties) → (from_of p.ties) ≡ (from_of o.ties) → Says a b true false false → Noted here then p
    noted_mate ne put t k f s = record {
      mates = row_put D mated x y (mates_of o.ties) n.mates (mates_of p.ties) put (and_from _ _ (not_from_false _ (ne_eqb x y ne)) (lift mate true s.0));
      takers = row_skip D taking x y (takers_of o.ties) n.takers (takers_of p.ties) t (lift taker false s.1);
      others = row_skip D missing x y (others_of o.ties) n.others (others_of p.ties) k (lift other false s.2);
      from = from_skip D taking x y (from_of o.ties) n.from (from_of p.ties) f (lift taker false s.1);
    }

    pub noted_taker : PutIn (takers_of o.ties) (takers_of p.ties) x y → (mates_of p.ties) ≡ (mates_of o.ties) → (others_of p.ties) ≡ (others_of o.ties) → (from_of p.ties) ≡ set (from_of o.ties) y x → Says a b false true false → Noted here then p
    noted_taker put m k f s =
        let mine = taker_e here x y (lift taker true s.1) in
        let ly' : y < length (from_of o.ties) = rw length-map (let c = r.fits in let d = o.each in omega arith) in
        record {
          mates = row_skip D mated x y (mates_of o.ties) n.mates (mates_of p.ties) m (and_right (not (eqb x y)) _ (lift mate false s.0));
          takers = row_put D taking x y (takers_of o.ties) n.takers (takers_of p.ties) put (lift taker true s.1);
          others = row_skip D missing x y (others_of o.ties) n.others (others_of p.ties) k (lift other false s.2);
          from = from_put D taking x y (from_of o.ties) n.from (from_of p.ties) f ly' (λ w t. taker_one here (record_accepted r) w x y (taker_e here w y t) mine);
        }

    pub noted_other : PutIn (others_of o.ties) (others_of p.ties) x y → (mates_of p.ties) ≡ (mates_of o.ties) → (takers_of p.ties) ≡ (takers_of o.ties) → (from_of p.ties) ≡ (from_of o.ties) → Says a b false false true → Noted here then p
    noted_other put m t f s = record {
      mates = row_skip D mated x y (mates_of o.ties) n.mates (mates_of p.ties) m (and_right (not (eqb x y)) _ (lift mate false s.0));
      takers = row_skip D taking x y (takers_of o.ties) n.takers (takers_of p.ties) t (lift taker false s.1);
      others = row_put D missing x y (others_of o.ties) n.others (others_of p.ties) put (lift other true s.2);
      from = from_skip D taking x y (from_of o.ties) n.from (from_of p.ties) f (lift taker false s.1);
    }
