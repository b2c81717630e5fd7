-- A search that succeeds has a fitting order, and the one that is placed at its node is what show shows.
use Rattle.std.proofs.Common.{◌≡◌, ℕ, ◌<◌, ◌⊎◌, List, ◌∷◌, get_or, sym, subst, inl, inr, arith}
use mathlib.Core.List.Memᴰ
use mathlib.Core.List.{Memᴰ}
use Rattle.history.specs.Preferences.{by_number}
use Rattle.history.specs.Lawful.{by_number_lawful}
use Rattle.order.specs.History.{History, count, WellFormed, PairsOfEvents, TwoWrites}
use Rattle.order.specs.Orders.{place, Earlier, Fitting, Serializable, SameWrites}
use Rattle.order.specs.Before.{Before, Clash}
use Rattle.order.specs.Search.{Search, succeeds, Complete}
use Rattle.order.specs.Opening.{Accepted}
use Rattle.order.specs.Calls.{Preference, Placed, Shows, BetterThan}
use Rattle.order.specs.Theorems.{SearchDecides, PlacingIsBest}
use Rattle.order.proofs.Places.{place_at, in_order, at_place}
use Rattle.order.proofs.Serials.{from_reads}
use Rattle.order.proofs.Sound.{sound, turned}
use Rattle.order.proofs.Saturated.{before_numbers}
use Rattle.order.proofs.One.{one}
use Rattle.order.proofs.Fail.{failure_leaves_none}
use Rattle.order.proofs.Placing.{placing, ready_there, placing_is_one}

-- What a successful node is, seen from the node where its search began.
pub record Found (h : History) (S Q : List (ℕ × ℕ)) : Type 0 where
  pub no_clash : ¬ Clash h Q
  pub complete : Complete h Q
  pub more : (a b : ℕ) → Memᴰ (a, b) S → Memᴰ (a, b) Q
  pub chosen : (a b : ℕ) → Memᴰ (a, b) Q → Memᴰ (a, b) S ⊎ TwoWrites h a b

deeper : {h : History} {S Q : List (ℕ × ℕ)} {a b : ℕ} → TwoWrites h a b → Found h ((a, b) ∷ S) Q → Found h S Q
deeper {h} {S} {Q} {a} {b} v f = record {
  no_clash = f.no_clash;
  complete = f.complete;
  more = λ c d m. f.more c d (Memᴰ.tail m);
  chosen = λ c d m. elim (f.chosen c d m) [
    | inl k ↦ elim (Memᴰ.cases_cons k) [ inl e ↦ inr (subst (λ (q : ℕ × ℕ). TwoWrites h q.0 q.1) (sym e) v) | inr j ↦ inl j ]
    | inr w ↦ inr w
  ];
}

pub found : {h : History} {S Q : List (ℕ × ℕ)} {t : ℕ} → Search h S t (succeeds Q) → Found h S Q
found (Search.success n k) = record { no_clash = n; complete = k; more = λ a b m. m; chosen = λ a b m. inl m }
found (Search.lower n f s) = deeper f.unordered.writes (found s)
found (Search.higher n f s s') = deeper (turned f.unordered.writes) (found s')

inside_found : {h : History} {S Q : List (ℕ × ℕ)} → PairsOfEvents h S → Found h S Q → PairsOfEvents h Q
inside_found i f a b m = elim (f.chosen a b m) [ inl k ↦ i a b k | inr v ↦ (v.first.number, v.second.number) ]

module _ (h : History) (S Q : List (ℕ × ℕ)) (well : WellFormed h) (acc : Accepted h) (inside : PairsOfEvents h S) (node : Found h S Q) where
  inner : PairsOfEvents h Q
  inner = inside_found inside node

  -- An order that is placed at the node keeps what is before one another there.
  keeps : {f : Preference} {σ : List ℕ} → Placed h Q f σ → (a b : ℕ) → Before h Q a b → Earlier σ a b
  keeps {f} {σ} p a b q =
      let n = (before_numbers h Q well inner q).1 in
      let i = in_order h σ p.order b n in
      let l : place σ b < count h = omega (arith, p.order.long) in
      (p.ready (place σ b) l).predecessors a (subst (λ z. Before h Q a z) (sym (place_at σ b i)) q)

  -- Such an order fits.
  fits : {f : Preference} {σ : List ℕ} → Placed h Q f σ → Fitting h S σ
  fits {f} {σ} p = record {
    order = p.order;
    serial = from_reads h σ acc p.order (record {
      taken = λ r w t. keeps p w r (Before.taken t);
      between = λ r w v t x i j. elim (node.complete w v x) [
        | inl b ↦ let z = keeps p r v (Before.passed t x b) in omega arith
        | inr b ↦ let z = keeps p v w b in omega arith
      ];
      start = λ r v g x e i. let z = keeps p r v (Before.start g x e) in omega arith;
    });
    rule = λ a b c. keeps p a b (Before.kept c);
    pairs = λ a b m. keeps p a b (Before.stands (node.more a b m));
  }

  -- An order that fits and has the same writes keeps the chosen pairs too.
  chosen_kept : {f : Preference} {σ : List ℕ} → Placed h Q f σ → (τ : List ℕ) → Fitting h S τ → SameWrites h σ τ → Fitting h Q τ
  chosen_kept p τ fit same = record {
    order = fit.order;
    serial = fit.serial;
    rule = fit.rule;
    pairs = λ a b m. elim (node.chosen a b m) [ inl k ↦ fit.pairs a b k | inr v ↦ same a b v (keeps p a b (Before.stands m)) ];
  }

  best : {f : Preference} {σ : List ℕ} → Placed h Q f σ → (τ : List ℕ) → Fitting h S τ → SameWrites h σ τ → BetterThan f h σ τ
  best {f} {σ} p τ fit same k l agree ne =
      p.preferred k (get_or τ k 0) l (ready_there h Q σ τ p.order fit.order k l agree behind) (λ e. ne (sym e))
    where
      behind : (a : ℕ) → Before h Q a (get_or τ k 0) → place τ a < k
      behind a b = omega (arith, sound h Q τ acc (chosen_kept p τ fit same) b, at_place h τ fit.order k l)

module _ (h : History) (S Q : List (ℕ × ℕ)) (t : ℕ) (well : WellFormed h) (acc : Accepted h) (inside : PairsOfEvents h S) (s : Search h S t (succeeds Q)) where
  -- There is an order that is placed at the node, for every preference.
  pub placed_there : (f : Preference) → (σ : List ℕ) × Placed h Q f σ
  placed_there f = placing h Q f well (inside_found inside (found s)) (found s).no_clash

  -- What is placed at the node is what show shows.
  pub placed_shows : {f : Preference} {σ : List ℕ} → Placed h Q f σ → Shows h S f σ
  placed_shows {f} {σ} p =
      let n = found s in
      let k = keeps h S Q well acc inside n p in
      record {
        nodes = t;
        node = Q;
        search = s;
        placed = p;
        fits = fits h S Q well acc inside n p;
        writes = λ a b v. (k a b, λ e. elim (n.complete a b v) [ inl q ↦ q | inr q ↦ let z = k b a q in absurd (omega arith) ]);
        best = best h S Q well acc inside n p;
      }

  pub success_has_one : Serializable h S
  success_has_one =
      let r = placed_there (record { prefers = by_number; lawful = by_number_lawful }) in (r.0, (placed_shows r.1).fits)

same_node : {P Q : List (ℕ × ℕ)} → succeeds P ≡ succeeds Q → P ≡ Q
same_node e = cc

-- What show shows is one order.
pub shows_once : {h : History} {S : List (ℕ × ℕ)} {f : Preference} {σ τ : List ℕ} → Shows h S f σ → Shows h S f τ → σ ≡ τ
shows_once {h} {S} {f} {σ} {τ} s t =
    placing_is_one h t.node f σ τ (subst (λ z. Placed h z f σ) (same_node (one s.search t.search).1) s.placed) t.placed

pub placing_is_best_lem : PlacingIsBest
placing_is_best_lem h S Q t f well acc inside s =
    let r = placed_there h S Q t well acc inside s f in
    let w = placed_shows h S Q t well acc inside s r.1 in
    (r.0, r.1, λ τ p. placing_is_one h Q f τ r.0 p r.1, w, λ τ v. shows_once v w)

pub search_decides_lem : SearchDecides
search_decides_lem h S t well acc inside = (λ s. failure_leaves_none acc s, λ Q s. success_has_one h S Q t well acc inside s)
