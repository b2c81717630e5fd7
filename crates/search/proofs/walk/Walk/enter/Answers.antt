use Rattle.std.proofs.Common.{Some, None, ◌≡◌, ℕ, ◌<◌, true, List, ◌∷◌, length, is_ok, subst, arith, rules}
use mathlib.Core.Logic.{∥∥₁_elim}
use denote.Struct.Props.{props}
use Rattle.order.specs.History.{History}
use Rattle.saturation.specs.Relations.{earlier}
use Rattle.saturation.specs.Adding.{Addable}
use Rattle.search.specs.Walks.{choices_of, node_of, Walking, Walks, Way, Ahead, Next}
use Rattle.search.specs.declared.walk.Choice.{Choice}
use Rattle.search.specs.declared.walk.Walk.{Walk}
use Rattle.search.proofs.Ways.{latest_last, exact_closed, enter_first, enter_next}
use Rattle.search.proofs.walk.Walk.enter.Goals as goal

module _ {N W T : ℕ} (w : Walk N W T) (c : Choice) (cs : List Choice) (e : choices_of w ≡ c ∷ cs) where
  addable_by : (h : History) (S : List (ℕ × ℕ)) (s : ℕ) → Walking h S s w → Addable w.facts w.relation c.first c.second
  addable_by h S s k =
      let n : Next h (node_of S cs) (length cs) w.relation c = subst (λ l. Ahead h S w.root w.relation l) e k.ahead in
      let way : Way h S (c ∷ cs) w.relation = subst (λ l. Way h S l w.relation) e k.along.way in
      let events = n.exact.events in
      let facts = k.along.facts.events in
      record {
        events = omega arith;
        first = omega (arith, way.0.first);
        second = omega (arith, way.0.second);
        closed = exact_closed h w.facts (node_of S cs) w.relation k.along.facts n.exact;
      }

  addable : Walks w → Addable w.facts w.relation c.first c.second
  addable k =
      let one : IsProp (w.facts.count ≡ w.relation.count) = hlevel props in
      let two : IsProp (c.first < w.relation.count) = hlevel props in
      let three : IsProp (c.second < w.relation.count) = hlevel props in
      let four : (x y : ℕ) → IsProp (earlier w.relation x y ≡ true) = λ x y. hlevel props in
      record {
        events = ∥∥₁_elim k one (λ x. (addable_by x.0 x.1 x.2 x.3).events);
        first = ∥∥₁_elim k two (λ x. (addable_by x.0 x.1 x.2 x.3).first);
        second = ∥∥₁_elim k three (λ x. (addable_by x.0 x.1 x.2 x.3).second);
        closed = λ v. (
          (λ r i b. ∥∥₁_elim k (four _ _) (λ x. ((addable_by x.0 x.1 x.2 x.3).closed v).0 r i b)),
          (λ q r i j b. ∥∥₁_elim k (four _ _) (λ x. ((addable_by x.0 x.1 x.2 x.3).closed v).1 q r i j b)),
        );
      }

pub returns-in-None : goal.returns-in-None
returns-in-None g c h S s k = enter_first h S s c.args.self.now _ (latest_last c.args.self.now.choices.items _ None c.deref.ensures.0 c.in-None.ensures.value) k

pub add-requires : goal.add-requires
add-requires g c =
    let w = c.args.self.now in
    let top = latest_last w.choices.items _ (Some c.in-Some.c.now) c.deref.ensures.0 c.in-Some.ensures.value in
    let a = addable w _ _ top.1 c.requires in
    search rules

pub returns-in-Some : goal.returns-in-Some
returns-in-Some g c h S s k =
    let w = c.args.self.now in
    let top = latest_last w.choices.items _ (Some c.in-Some.c.now) c.deref.ensures.0 c.in-Some.ensures.value in
    enter_next h S c.add.result s w c.add.new.self _ _ _ top.1 c.add.ensures k
