-- What adding a pair to a relation that is exactly before makes of it.
use Rattle.std.proofs.Common.{◌≡◌, ℕ, suc, ◌+◌, ◌<◌, ◌≤◌, true, List, ◌∷◌, sym, refl, ap, ◌∙◌, subst, inl, inr, arith}
use mathlib.Core.List.Memᴰ
use Rattle.order.specs.History.{History, Number, WellFormed, PairsOfEvents}
use Rattle.order.specs.Before.{Before, Clash}
use Rattle.order.specs.Search.{Unordered, FirstUnordered}
use Rattle.order.proofs.Ends.{grows, inside_more}
use Rattle.saturation.specs.Orders.{Within, free, slack}
use Rattle.saturation.specs.Relations.{earlier, Linked, Cyclic}
use Rattle.saturation.specs.Laws.{Doomed, Saturated}
use Rattle.saturation.specs.Nodes.{Exact, FactsOf}
use Rattle.saturation.specs.Adding.{OpenFrom}
use Rattle.saturation.specs.declared.relation.Relation.{Relation}
use Rattle.saturation.specs.declared.saturate.Facts.{Facts}
use Rattle.saturation.proofs.Joins.{sound}
use Rattle.saturation.proofs.Slacks.{slack_falls_two}
use Rattle.saturation.proofs.Bridges.{past, past_i, past_far, past_ruled, ruled_closed, exact_i, doomed_clash}

module _ {N W T : ℕ} {f : Facts N W} (h : History) (S : List (ℕ × ℕ)) (facts : FactsOf h f) (well : WellFormed h) (inside : PairsOfEvents h S)
    (o : Relation N W T) (exact : Exact h S o) (u v : ℕ) (lu : u < o.count) (lv : v < o.count) where
  abbrev more : List (ℕ × ℕ)
  more = (suc u, suc v) ∷ S

  event : (k : ℕ) → k < o.count → Number h (suc k)
  event k l = let e = exact.events in record { low = omega arith; high = omega arith }

  -- the pairs are still pairs of events
  pub more_inside : PairsOfEvents h more
  more_inside = inside_more inside (event u lu) (event v lv)

  new_pair : Before h more (suc u) (suc v)
  new_pair = Before.stands (Memᴰ.head refl)

  old_pair : (x y : ℕ) → earlier o x y ≡ true → Before h more (suc x) (suc y)
  old_pair x y k = grows (λ c d m. Memᴰ.tail m) (exact.only x y k)

  within_link : (p : Relation N W T) → Linked u v o p → Within (earlier p) (past h more)
  within_link p l =
      l.closure.least (past h more) (past_far h more well more_inside) (λ x y k. past_i h more well more_inside x y (old_pair x y k)) (past_i h more well more_inside u v new_pair)

  -- the pair closes a cycle
  pub cyclic_clash : Cyclic u v o → Clash h more
  cyclic_clash (inl e) = (suc u, subst (λ k. Before h more (suc u) (suc k)) (sym e) new_pair)
  cyclic_clash (inr b) = (suc u, Before.chain new_pair (old_pair v u b))

  -- what it forces closes a cycle
  pub linked_clash : (p : Relation N W T) → Linked u v o p → Doomed f (earlier p) → Clash h more
  linked_clash p l doom = doomed_clash h more well more_inside facts (earlier p) (within_link p l) doom

  -- neither does
  pub linked_exact : (p q : Relation N W T) → Linked u v o p → Saturated f p q → q.count ≡ o.count → Exact h more q
  linked_exact p q l s events =
      let keeps : Within (earlier o) (earlier q) = λ x y k. s.grown.keeps x y (l.closure.keeps x y k) in
      exact_i h more well more_inside facts q (events ∙ exact.events) (sound q).chains
      (s.grown.least (past h more) (past_far h more well more_inside) (within_link p l) (ruled_closed facts (past h more) (past_ruled h more well more_inside)))
      (record {
        kept = λ x y k. keeps x y (exact.all x y (Before.kept k));
        stands = λ x y m. elim (Memᴰ.cases_cons m) [
          | inl e ↦
              let ex : suc x ≡ suc u = ap (λ (q : ℕ × ℕ). q.0) e in
              let ey : suc y ≡ suc v = ap (λ (q : ℕ × ℕ). q.1) e in
              let dx : x ≡ u = omega arith in
              let dy : y ≡ v = omega arith in
              ap (λ z. earlier q z y) dx ∙ ap (λ z. earlier q u z) dy ∙ s.grown.keeps u v l.closure.linked
          | inr k ↦ keeps x y (exact.all x y (Before.stands k))
        ];
        taken = λ w r t. keeps w r (exact.all w r (Before.taken t));
        start = λ r w a b e. keeps r w (exact.all r w (Before.start a b e));
      })
      s.closed s.idle

-- a pair that was free is not free any more
pub slack_added : {N W T : ℕ} {f : Facts N W} (o p q : Relation N W T) (u v : ℕ) → u < o.count → v < o.count → Linked u v o p → Saturated f p q → free (earlier o) u v ≡ true
    → slack (earlier q) o.count + 2 ≤ slack (earlier o) o.count
slack_added o p q u v lu lv l s was =
    slack_falls_two (earlier o) (earlier q) o.count u v lu lv (λ x y k. s.grown.keeps x y (l.closure.keeps x y k)) was (s.grown.keeps u v l.closure.linked)

-- The pairs that a pair in front leaves unordered were unordered before.
pub unordered_less : {h : History} {S : List (ℕ × ℕ)} (q : ℕ × ℕ) (c d : ℕ) → Unordered h (q ∷ S) c d → Unordered h S c d
unordered_less q c d u = record {
  writes = u.writes;
  lower = u.lower;
  not_before = λ b. u.not_before (grows (λ c d m. Memᴰ.tail m) b);
  not_after = λ b. u.not_after (grows (λ c d m. Memᴰ.tail m) b);
}

-- So below the first unordered pair there is nothing to look for, with a pair in front neither.
pub open_from : {h : History} {S : List (ℕ × ℕ)} (a b : ℕ) → FirstUnordered h S (suc a) b → OpenFrom h S a
open_from a b first c d u = elim (first.first c d u) [ inl l ↦ omega arith | inr e ↦ let k = e.0 in omega arith ]

pub open_more : {h : History} {S : List (ℕ × ℕ)} (q : ℕ × ℕ) (k : ℕ) → OpenFrom h S k → OpenFrom h (q ∷ S) k
open_more q k all c d u = all c d (unordered_less q c d u)
