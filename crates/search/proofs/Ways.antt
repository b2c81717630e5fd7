-- The way of a walk, and its moves.
use Rattle.std.proofs.Common.{◌≡◌, ℕ, zero, suc, ◌+◌, ◌-◌, ◌<◌, ◌≤◌, min, Bool, true, false, cond, ◌⊎◌, Option, None, Some, Result, Ok, Err, is_ok, List, [], ◌∷◌, ◌++◌, length, reverse, get_or, slice_get, MatchOption, MatchResult, sym, refl, ap, ◌∙◌, subst, inl, inr, arith}
use Rattle.std.proofs.lemmas.List.{reverse-append, length-reverse, get_or-reverse}
use Rattle.std.proofs.lemmas.Option.{slice_get_past, slice_get-get_or}
use Rattle.arrayvec.specs.ArrayVec.{array_vec_len}
use Rattle.std.proofs.lemmas.Bool.{true≢false, cases_Bool, ltb-true, lt-ltb, le-ltb}
use Rattle.order.specs.History.{History, count, Number, WellFormed, PairsOfEvents}
use Rattle.order.specs.Before.{Before, Clash}
use Rattle.order.specs.Search.{Search, Outcome, fails, Unordered, FirstUnordered}
use Rattle.order.proofs.Ends.{grows, inside_more}
use Rattle.order.proofs.Saturated.{before_numbers}
use mathlib.Core.List.Memᴰ
use Rattle.sets.specs.Rows.{trail_len}
use Rattle.saturation.specs.Orders.{free, slack, Roomy}
use Rattle.saturation.specs.Relations.{earlier, Kept, mark_of, Marked, Undone}
use Rattle.saturation.specs.Laws.{Closed}
use Rattle.saturation.specs.Nodes.{Exact, FactsOf}
use Rattle.saturation.specs.Adding.{Added, OpenFrom, FirstOpen, NoneOpen}
use Rattle.search.specs.Tree.{Follows, Comes}
use Rattle.search.specs.Walks.{choices_of, node_of, one_way, waiting_of, from_of, Room, Way, Along, Next, Ahead, Walking, Entered, Clashed, Successful}
use Rattle.saturation.specs.declared.relation.Cycle.{Cycle}
use Rattle.saturation.specs.declared.relation.Relation.{Relation}
use Rattle.saturation.specs.declared.saturate.Facts.{Facts}
use Rattle.search.specs.declared.walk.Choice.{Choice}
use Rattle.search.specs.declared.walk.Walk.{Walk}
use Rattle.saturation.specs.declared.relation.Mark.{Mark}
use Rattle.sets.proofs.Backs.{rows_under}
use Rattle.saturation.proofs.Slacks.{free_from, slack_falls}
use Rattle.saturation.proofs.Joins.{sound}
use Rattle.saturation.proofs.Trails.{kept_same, kept_then}
use Rattle.search.proofs.Trees.{comes_first_lem, comes_succeeded, comes_down, comes_more, Proper}

abbrev turned : Choice → Choice
turned c = record { first = c.second; second = c.first; mark = c.mark }

-- the second branch waits where the pair was tried one way only
waiting_more : (S : List (ℕ × ℕ)) (c : Choice) (cs : List Choice) → c.first < c.second →
    waiting_of S (c ∷ cs) ≡ record { pairs = node_of S cs; low = suc c.first; high = suc c.second } ∷ waiting_of S cs
waiting_more S c cs l = let e = lt-ltb c.first c.second l in rw e

waiting_same : (S : List (ℕ × ℕ)) (c : Choice) (cs : List Choice) → c.second ≤ c.first → waiting_of S (c ∷ cs) ≡ waiting_of S cs
waiting_same S c cs l = let e = le-ltb c.first c.second l in rw e

-- a choice pushed is the latest
pub latest_pushed : (xs : List Choice) (c : Choice) → reverse (xs ++ c ∷ []) ≡ c ∷ reverse xs
latest_pushed xs c = reverse-append xs (c ∷ [])

-- the last choice is the latest, if there is one
pub latest_last : (xs ys : List Choice) (r : Option Choice) → ys ≡ xs → r ≡ slice_get ys (length ys - 1) →
    MatchOption r (reverse xs ≡ []) (λ c. (cs : List Choice) × (reverse xs ≡ c ∷ cs))
latest_last xs ys r same e = go r (reverse xs) refl (e ∙ ap (λ l. slice_get l (length l - 1)) same)
  where
    go : (r : Option Choice) (cs : List Choice) → reverse xs ≡ cs → r ≡ slice_get xs (length xs - 1) → MatchOption r (cs ≡ []) (λ c. (ds : List Choice) × (cs ≡ c ∷ ds))
    go None [] n e = refl
    go None (c ∷ cs) n e =
        let l : length xs ≡ suc (length cs) = sym (length-reverse xs) ∙ ap length n in
        let g = slice_get-get_or xs (length xs - 1) c (omega arith) in
        cc
    go (Some c) [] n e =
        let l : length xs ≡ 0 = sym (length-reverse xs) ∙ ap length n in
        let g = slice_get_past xs (length xs - 1) (omega arith) in
        absurd (cc)
    go (Some c) (d ∷ ds) n e =
        let l : length xs ≡ suc (length ds) = sym (length-reverse xs) ∙ ap length n in
        let g = slice_get-get_or xs (length xs - 1) d (omega arith) in
        let f = get_or-reverse xs 0 d (omega arith) in
        let z : length xs - 1 - 0 ≡ length xs - 1 = omega arith in
        let h : get_or (reverse xs) 0 d ≡ d = ap (λ l. get_or l 0 d) n in
        (ds, cc)

number_of : (h : History) (x : ℕ) → x < count h → Number h (suc x)
number_of h x l = record { low = omega arith; high = omega arith }

-- fewer pairs leave more unordered
pub unordered_less : {h : History} {S : List (ℕ × ℕ)} {q : ℕ × ℕ} {c d : ℕ} → Unordered h (q ∷ S) c d → Unordered h S c d
unordered_less u = record {
  writes = u.writes;
  lower = u.lower;
  not_before = λ b. u.not_before (grows (λ c d m. Memᴰ.tail m) b);
  not_after = λ b. u.not_after (grows (λ c d m. Memᴰ.tail m) b);
}

module _ {N W T : ℕ} (h : History) where
  -- a relation that has no event before itself is that of a node without a clash
  pub exact_calm : (S : List (ℕ × ℕ)) (o : Relation N W T) → WellFormed h → PairsOfEvents h S → Exact h S o → ¬ Clash h S
  exact_calm S o well p e (zero, b) = let n = (before_numbers h S well p b).0 in omega (arith, n.low)
  exact_calm S o well p e (suc x, b) = true≢false (sym (e.all x x b) ∙ (sound o).calm x)

  -- it has all that the rules force
  pub exact_closed : (f : Facts N W) (S : List (ℕ × ℕ)) (o : Relation N W T) → FactsOf h f → Exact h S o → Closed f (earlier o)
  exact_closed f S o facts e w = (
    (λ r i b. let t = (facts.others w r).0 i in
        subst (λ v. earlier o w v ≡ true) (sym (facts.from r t.0 t.1)) (e.all w t.0 (Before.missed t.1 t.2 (e.only w r b)))),
    (λ q r i j b. e.all r q (Before.passed ((facts.takers w r).0 j) ((facts.mates w q).0 i) (e.only w q b))),
  )

  module _ (S : List (ℕ × ℕ)) where
    way_kept : (o p : Relation N W T) (cs : List Choice) → Kept o p → Way h S cs o → Way h S cs p
    way_kept o p [] k w = tt
    way_kept o p (c ∷ cs) k w = (
      record {
        first = w.0.first;
        second = w.0.second;
        back = λ e. let b = w.0.back e in record {
          relation = b.relation;
          kept = kept_then b.relation o p b.kept k;
          marked = b.marked;
          exact = b.exact;
          room = b.room;
          first = b.first;
          on = b.on;
        };
      },
      way_kept o p cs k w.1,
    )

    pub way_pairs : (o : Relation N W T) (cs : List Choice) → PairsOfEvents h S → Way h S cs o → PairsOfEvents h (node_of S cs)
    way_pairs o [] p w = p
    way_pairs o (c ∷ cs) p w = inside_more (way_pairs o cs p w.1) (number_of h c.first w.0.first) (number_of h c.second w.0.second)

    -- the relation of a walk replaced
    abbrev with : (w : Walk N W T) → Relation N W T → Roomy N W T → Walk N W T
    with w q x = record { facts = w.facts; relation = q; choices = w.choices; root = w.root; roomy = x }

    -- the first node
    pub enter_first : (s : ℕ) (w : Walk N W T) (x : Roomy N W T) → choices_of w ≡ [] → Walking h S s w →
        MatchResult w.root (λ _. Entered h S s (with w w.relation x)) (λ _. Clashed h S s (with w w.relation x))
    enter_first s w x none k = go w.root none (subst (λ cs. Ahead h S w.root w.relation cs) none k.ahead)
      where
        along : Along h S (with w w.relation x)
        along = record { well = k.along.well; pairs = k.along.pairs; facts = k.along.facts; way = k.along.way }

        go : (r : Result Unit Cycle) → choices_of w ≡ [] → MatchResult r (λ _. Exact h S w.relation) (λ _. Clash h S) →
            MatchResult r (λ _. Entered h S s (with w w.relation x)) (λ _. Clashed h S s (with w w.relation x))
        go (Ok u) none e = record {
          along = along;
          exact = subst (λ cs. Exact h (node_of S cs) w.relation) (sym none) e;
          room = let n : length (choices_of w) ≡ 0 = ap length none in let a = (sound w.relation).afters in omega arith;
          lowest = subst (λ cs. OpenFrom h (node_of S cs) (from_of cs)) (sym none) (λ c d u. u.writes.first.number.low);
          comes = k.comes;
        }
        go (Err i) none e = record { along = along; follows = k.comes 1 fails (Search.clash (subst (λ cs. Clash h (node_of S cs)) (sym none) e)) }

    -- any other node
    pub enter_next : (r : Result Unit Cycle) (s : ℕ) (w : Walk N W T) (q : Relation N W T) (x : Roomy N W T) (c : Choice) (cs : List Choice) →
        choices_of w ≡ c ∷ cs → Added w.facts c.first c.second w.relation q (is_ok r) → Walking h S s w →
        MatchResult r (λ _. Entered h S s (with w q x)) (λ _. Clashed h S s (with w q x))
    enter_next (Ok u) s w q x c cs e a k =
        let n : Next h (node_of S cs) (length cs) w.relation c = subst (λ l. Ahead h S w.root w.relation l) e k.ahead in
        let way : Way h S (c ∷ cs) w.relation = subst (λ l. Way h S l w.relation) e k.along.way in
        let p = way_pairs w.relation cs k.along.pairs way.1 in
        let more : Exact h (node_of S (c ∷ cs)) q = a.node h (node_of S cs) k.along.facts k.along.well p n.exact in
        record {
          along = record { well = k.along.well; pairs = k.along.pairs; facts = k.along.facts; way = way_kept w.relation q (choices_of w) a.kept k.along.way };
          exact = subst (λ l. Exact h (node_of S l) q) (sym e) more;
          room =
              let f = a.fewer refl n.apart in
              let m : length (choices_of w) ≡ suc (length cs) = ap length e in
              let same : slack (earlier q) q.count ≡ slack (earlier q) w.relation.count = ap (slack (earlier q)) a.kept.events in
              omega (arith, n.room);
          lowest = subst (λ l. OpenFrom h (node_of S l) (from_of l)) (sym e) (λ d i u. n.lowest d i (unordered_less u));
          comes = k.comes;
        }
    enter_next (Err i) s w q x c cs e a k =
        let n : Next h (node_of S cs) (length cs) w.relation c = subst (λ l. Ahead h S w.root w.relation l) e k.ahead in
        let way : Way h S (c ∷ cs) w.relation = subst (λ l. Way h S l w.relation) e k.along.way in
        let p = way_pairs w.relation cs k.along.pairs way.1 in
        let clash : Clash h (node_of S (c ∷ cs)) = a.node h (node_of S cs) k.along.facts k.along.well p n.exact in
        record {
          along = record { well = k.along.well; pairs = k.along.pairs; facts = k.along.facts; way = way_kept w.relation q (choices_of w) a.kept k.along.way };
          follows = k.comes 1 fails (Search.clash (subst (λ l. Clash h (node_of S l)) (sym e) clash));
        }

    -- the first unordered pair is chosen
    pub descend_more : (s : ℕ) (w p : Walk N W T) (a b : ℕ) (cs : List Choice) → choices_of w ≡ cs →
        choices_of p ≡ record { first = a; second = b; mark = mark_of w.relation } ∷ cs → p.relation ≡ w.relation → p.facts ≡ w.facts →
        FirstOpen w.facts (from_of (choices_of w)) w.relation a b → Entered h S s w → Walking h S (s + 1) p
    descend_more s w p a b cs here there same facts f k =
        let c : Choice = record { first = a; second = b; mark = mark_of w.relation } in
        let node : Exact h (node_of S cs) w.relation = subst (λ l. Exact h (node_of S l) w.relation) here k.exact in
        let first : FirstUnordered h (node_of S cs) (suc a) (suc b) =
        subst (λ l. FirstUnordered h (node_of S l) (suc a) (suc b)) here (f.first h (node_of S (choices_of w)) k.along.facts k.exact k.lowest) in
        let way : Way h S cs w.relation = subst (λ l. Way h S l w.relation) here k.along.way in
        let room : Room (length cs) w.relation = subst (λ l. Room (length l) w.relation) here k.room in
        let calm = exact_calm (node_of S cs) w.relation k.along.well (way_pairs w.relation cs k.along.pairs way) node in
        let events = node.events in
        let more : Way h S (c ∷ cs) w.relation = (
          record {
            first = omega (arith, f.lower, f.inside);
            second = omega (arith, f.inside);
            back = λ _. record { relation = w.relation; kept = kept_same w.relation; marked = refl; exact = node; room = room; first = first; on = way };
          },
          way,
        ) in
        let next : Next h (node_of S cs) (length cs) w.relation c = record { exact = node; room = room; apart = f.apart; lowest = λ d e u. from_first (first.first d e u) } in
        record {
          along = record {
            well = k.along.well;
            pairs = k.along.pairs;
            facts = subst (λ x. FactsOf h x) (sym facts) k.along.facts;
            way = subst (λ l. Way h S l p.relation) (sym there) (subst (λ o. Way h S (c ∷ cs) o) (sym same) more);
          };
          ahead = subst (λ l. Ahead h S p.root p.relation l) (sym there) (subst (λ o. Next h (node_of S cs) (length cs) o c) (sym same) next);
          comes = subst (λ l. Comes h S (waiting_of S l) (node_of S l) (s + 1)) (sym there)
              (subst (λ ws. Comes h S ws (node_of S (c ∷ cs)) (s + 1)) (sym (waiting_more S c cs f.lower))
              (comes_down h S (waiting_of S cs) (node_of S cs) (suc a) (suc b) s (subst (λ l. Comes h S (waiting_of S l) (node_of S l) s) here k.comes) calm first));
        }
      where
        from_first : {d e : ℕ} → (suc a < d) ⊎ ((suc a ≡ d) × (suc b ≤ e)) → min a b < d
        from_first (inl l) = omega arith
        from_first (inr q) = omega (arith, q.0)

    -- every pair is ordered
    pub descend_none : (s : ℕ) (w : Walk N W T) → NoneOpen w.facts (from_of (choices_of w)) w.relation → Entered h S s w → Successful h S (s + 1) w
    descend_none s w f k =
        let cs = choices_of w in
        let calm = exact_calm (node_of S cs) w.relation k.along.well (way_pairs w.relation cs k.along.pairs k.along.way) k.exact in
        record {
          search = comes_succeeded h S (waiting_of S cs) (node_of S cs) s k.comes calm (f h (node_of S cs) k.along.facts k.exact k.lowest);
          exact = k.exact;
        }

    -- there is room for one choice more
    pub descend_room : (s : ℕ) (w : Walk N W T) (k a b : ℕ) → FirstOpen w.facts k w.relation a b → Entered h S s w → array_vec_len w.choices < T
    descend_room s w k a b f e =
        let n = length-reverse w.choices.items in
        let some = slack_falls (earlier w.relation) (λ x y. true) w.relation.count a b (omega (arith, f.lower, f.inside)) f.inside (λ x y _. refl) f.apart refl in
        omega (arith, e.room)

    -- the way back from a relation that was taken back
    kept_undone : (x b o q : Relation N W T) (m : Mark) → Kept x b → Kept b o → mark_of b ≡ m → Undone o q m → Kept x q
    kept_undone x b o q m k l e u =
        let a : trail_len b.after ≡ trail_len q.after = ap (λ (n : Mark). n.after) (e ∙ sym u.marked) in
        let c : trail_len b.before ≡ trail_len q.before = ap (λ (n : Mark). n.before) (e ∙ sym u.marked) in
        let all = kept_then x b o k l in
        record {
          events = sym u.kept.events ∙ l.events ∙ k.events;
          afters = rows_under x.after q.after o.after all.afters u.kept.afters (omega (arith, k.afters.longer));
          befores = rows_under x.before q.before o.before all.befores u.kept.befores (omega (arith, k.befores.longer));
        }

    way_undone : (b o q : Relation N W T) (m : Mark) (cs : List Choice) → Kept b o → mark_of b ≡ m → Undone o q m → Way h S cs b → Way h S cs q
    way_undone b o q m [] l e u w = tt
    way_undone b o q m (c ∷ cs) l e u w = (
      record {
        first = w.0.first;
        second = w.0.second;
        back = λ i. let x = w.0.back i in record {
          relation = x.relation;
          kept = kept_undone x.relation b o q m x.kept l e u;
          marked = x.marked;
          exact = x.exact;
          room = x.room;
          first = x.first;
          on = x.on;
        };
      },
      way_undone b o q m cs l e u w.1,
    )

    -- the relation that was taken back is that of its node
    exact_undone : (Q : List (ℕ × ℕ)) (b o q : Relation N W T) (m : Mark) → Kept b o → mark_of b ≡ m → Undone o q m → Exact h Q b → Exact h Q q
    exact_undone Q b o q m l e u x =
        let same : earlier q ≡ earlier b = u.same b l e in
        record {
          events = sym u.kept.events ∙ l.events ∙ x.events;
          only = λ i j t. x.only i j (sym (ap (λ R. R i j) same) ∙ t);
          all = λ i j t. ap (λ R. R i j) same ∙ x.all i j t;
          idle = u.idle;
        }

    room_undone : (k : ℕ) (b o q : Relation N W T) (m : Mark) → Kept b o → mark_of b ≡ m → Undone o q m → Room k b → Room k q
    room_undone k b o q m l e u r =
        let same : earlier q ≡ earlier b = u.same b l e in
        let n : q.count ≡ b.count = sym u.kept.events ∙ l.events in
        let s : slack (earlier q) q.count ≡ slack (earlier b) b.count = ap (λ R. slack R q.count) same ∙ ap (slack (earlier b)) n in
        omega arith

    -- neither of an unordered pair is before the other
    apart_there : (Q : List (ℕ × ℕ)) (o : Relation N W T) (a b : ℕ) → Exact h Q o → Unordered h Q (suc a) (suc b) → free (earlier o) b a ≡ true
    apart_there Q o a b x u =
        free_from (earlier o) b a (λ e. omega (arith, u.lower)) (no_pair b a u.not_after) (no_pair a b u.not_before)
      where
        no_pair : (i j : ℕ) → ¬ Before h Q (suc i) (suc j) → earlier o i j ≡ false
        no_pair i j n = elim (cases_Bool (earlier o i j)) [ inl t ↦ absurd (n (x.only i j t)) | inr f ↦ f ]

    -- where both ways were tried, back
    pub retreat_on : (s : ℕ) (w p : Walk N W T) (c : Choice) (cs : List Choice) → choices_of w ≡ c ∷ cs → choices_of p ≡ cs → p.relation ≡ w.relation → p.facts ≡ w.facts →
        c.second ≤ c.first → Clashed h S s w → Clashed h S s p
    retreat_on s w p c cs here there same facts e k =
        let way : Way h S (c ∷ cs) w.relation = subst (λ l. Way h S l w.relation) here k.along.way in
        let f : Follows h S (waiting_of S (c ∷ cs)) (s + 1) fails = subst (λ l. Follows h S (waiting_of S l) (s + 1) fails) here k.follows in
        let shorter : waiting_of S (c ∷ cs) ≡ waiting_of S cs = waiting_same S c cs e in
        record {
          along = record {
            well = k.along.well;
            pairs = k.along.pairs;
            facts = subst (λ x. FactsOf h x) (sym facts) k.along.facts;
            way = subst (λ l. Way h S l p.relation) (sym there) (subst (λ o. Way h S cs o) (sym same) way.1);
          };
          follows = subst (λ l. Follows h S (waiting_of S l) (s + 1) fails) (sym there) (subst (λ l. Follows h S l (s + 1) fails) shorter f);
        }

    -- the relation leads back to where the other way round waits
    pub retreat_marked : (s : ℕ) (w : Walk N W T) (c : Choice) (cs : List Choice) → choices_of w ≡ c ∷ cs → c.first < c.second → Clashed h S s w → Marked w.relation c.mark
    retreat_marked s w c cs here e k =
        let way : Way h S (c ∷ cs) w.relation = subst (λ l. Way h S l w.relation) here k.along.way in
        let b = way.0.back (lt-ltb c.first c.second e) in
        (b.relation, (b.kept, b.marked))

    -- there is room for the pair turned round
    pub retreat_room : (s : ℕ) (w : Walk N W T) (c : Choice) (cs : List Choice) → choices_of w ≡ c ∷ cs → c.first < c.second → Clashed h S s w → length cs < T
    retreat_room s w c cs here e k =
        let way : Way h S (c ∷ cs) w.relation = subst (λ l. Way h S l w.relation) here k.along.way in
        let b = way.0.back (lt-ltb c.first c.second e) in
        let o = b.relation in
        let events = b.exact.events in
        let apart = apart_there (node_of S cs) o c.first c.second b.exact b.first.unordered in
        let some = slack_falls (earlier o) (λ x y. true) o.count c.second c.first (omega (arith, way.0.second)) (omega (arith, way.0.first)) (λ x y _. refl) apart refl in
        omega (arith, b.room)

    -- there the pair is turned round
    pub retreat_turn : (s : ℕ) (w p : Walk N W T) (c : Choice) (cs : List Choice) → choices_of w ≡ c ∷ cs → choices_of p ≡ turned c ∷ cs → p.facts ≡ w.facts →
        Undone w.relation p.relation c.mark → c.first < c.second → Clashed h S s w → Walking h S (s + 1) p
    retreat_turn s w p c cs here there facts u e k =
        let o = w.relation in
        let q = p.relation in
        let way : Way h S (c ∷ cs) o = subst (λ l. Way h S l o) here k.along.way in
        let b = way.0.back (lt-ltb c.first c.second e) in
        let f : Follows h S (waiting_of S (c ∷ cs)) (s + 1) fails = subst (λ l. Follows h S (waiting_of S l) (s + 1) fails) here k.follows in
        let longer : waiting_of S (c ∷ cs) ≡ record { pairs = node_of S cs; low = suc c.first; high = suc c.second } ∷ waiting_of S cs = waiting_more S c cs e in
        let exact = exact_undone (node_of S cs) b.relation o q c.mark b.kept b.marked u b.exact in
        let more : Way h S (turned c ∷ cs) q =
        (record { first = way.0.second; second = way.0.first; back = λ i. absurd (omega (arith, ltb-true c.second c.first i)) }, way_undone b.relation o q c.mark cs b.kept b.marked u b.on) in
        let next : Next h (node_of S cs) (length cs) q (turned c) = record {
          exact = exact;
          room = room_undone (length cs) b.relation o q c.mark b.kept b.marked u b.room;
          apart = apart_there (node_of S cs) q c.first c.second exact b.first.unordered;
          lowest = λ d i v. from_first (b.first.first d i v);
        } in
        record {
          along = record {
            well = k.along.well;
            pairs = k.along.pairs;
            facts = subst (λ x. FactsOf h x) (sym facts) k.along.facts;
            way = subst (λ l. Way h S l q) (sym there) more;
          };
          ahead = subst (λ l. Ahead h S p.root q l) (sym there) next;
          comes = subst (λ l. Comes h S (waiting_of S l) (node_of S l) (s + 1)) (sym there)
              (subst (λ ws. Comes h S ws (node_of S (turned c ∷ cs)) (s + 1)) (sym (waiting_same S (turned c) cs (omega arith))) (subst (λ l. Follows h S l (s + 1) fails) longer f));
        }
      where
        from_first : {d i : ℕ} → (suc c.first < d) ⊎ ((suc c.first ≡ d) × (suc c.second ≤ i)) → min c.second c.first < d
        from_first (inl l) = omega arith
        from_first (inr r) = omega (arith, r.0)

    -- nothing waits
    pub retreat_none : (s : ℕ) (w : Walk N W T) → choices_of w ≡ [] → Clashed h S s w → Search h S (s + 1) fails
    retreat_none s w none k = subst (λ l. Follows h S (waiting_of S l) (s + 1) fails) none k.follows

    -- the second branches that wait are nodes of the history
    pub way_proper : (o : Relation N W T) (cs : List Choice) → PairsOfEvents h S → Way h S cs o → Proper h S (waiting_of S cs)
    way_proper o [] p w = tt
    way_proper o (c ∷ cs) p w = more (way_proper o cs p w.1) (one_way c)
      where
        more : Proper h S (waiting_of S cs) → (b : Bool) → Proper h S (cond b (record { pairs = node_of S cs; low = suc c.first; high = suc c.second } ∷ waiting_of S cs) (waiting_of S cs))
        more rest false = rest
        more rest true = (inside_more (way_pairs o cs p w.1) (number_of h c.second w.0.second) (number_of h c.first w.0.first), rest)

    -- a walk that comes to a node has not visited all nodes
    pub walking_more : (s : ℕ) (w : Walk N W T) → Walking h S s w → (t : ℕ) (o : Outcome) → Search h S t o → s < t
    walking_more s w k =
        let cs = choices_of w in
        let a = k.along in
        comes_more h S (waiting_of S cs) (node_of S cs) s a.well (way_pairs w.relation cs a.pairs a.way) (way_proper w.relation cs a.pairs a.way) k.comes

    -- a walk begins
    pub begins_walking : (w : Walk N W T) → WellFormed h → PairsOfEvents h S → FactsOf h w.facts → MatchResult w.root (λ _. Exact h S w.relation) (λ _. Clash h S) → choices_of w ≡ [] → Walking h S 0 w
    begins_walking w well pairs facts first none =
        record {
          along = record { well = well; pairs = pairs; facts = facts; way = subst (λ l. Way h S l w.relation) (sym none) tt };
          ahead = subst (λ l. Ahead h S w.root w.relation l) (sym none) first;
          comes = subst (λ l. Comes h S (waiting_of S l) (node_of S l) 0) (sym none) (comes_first_lem h S);
        }
