-- What a search that ran within a budget says of a case.
use Rattle.std.proofs.Common.{◌≡◌, ℕ, ◌≤◌, List, sym, ◌∙◌, subst, inl, inr, arith}
use Rattle.order.specs.History.{PairsOfEvents}
use Rattle.order.specs.Search as order
use Rattle.order.specs.Calls.{Judges, serial, none, spent}
use Rattle.order.proofs.Ends.{ends}
use Rattle.order.proofs.Judge.{judges_serial, judges_none, judges_spent}
use Rattle.sets.specs.Rows.{in_rows}
use Rattle.sets.specs.declared.set.EventSet.{EventSet}
use Rattle.saturation.specs.Relations.{earlier}
use Rattle.saturation.specs.Recorded.{history_in}
use Rattle.saturation.specs.declared.record.Recorded.{Recorded}
use Rattle.saturation.proofs.Records.{record_well, record_accepted}
use Rattle.search.specs.Walks.{After, Successful, node_of, choices_of}
use Rattle.search.specs.Searches.{Ran}
use Rattle.search.specs.declared.walk.Progress.{Progress}
use Rattle.search.specs.declared.walk.Progress.TheVariants.{Running, Succeeded, Failed}
use Rattle.search.specs.declared.tree.Search.{Search}
use Rattle.referee.specs.Nodes.{AtNode}

module _ {N W T : ℕ} (r : Recorded N W) (S : List (ℕ × ℕ)) (inside : PairsOfEvents (history_in r) S) (budget : ℕ) (x y : Search N W T) (p : Progress)
    (fresh : x.steps ≡ 0) (ran : Ran (history_in r) S budget x y p) where
  within : y.steps ≤ budget
  within = elim ran.within [ inl l ↦ l | inr e ↦ omega (arith, e, fresh) ]

  at_end : {q : Progress} → p ≡ q → After (history_in r) S y.steps y.walk q
  at_end e = subst (λ z. After (history_in r) S y.steps y.walk z) (sym ran.answer ∙ e) ran.same

  successful : p ≡ Succeeded → Successful (history_in r) S y.steps y.walk
  unfolding After
  successful e = at_end e

  failed : p ≡ Failed → order.Search (history_in r) S y.steps order.fails
  unfolding After
  failed e = at_end e

  pub finds_serial : p ≡ Succeeded → Judges (history_in r) S budget serial y.steps
  finds_serial e = judges_serial budget (record_well r) (record_accepted r) inside (successful e).search within

  pub finds_none : p ≡ Failed → Judges (history_in r) S budget none y.steps
  finds_none e = judges_none budget (record_accepted r) (failed e) within

  pub finds_spent : p ≡ Running → Judges (history_in r) S budget spent y.steps
  finds_spent e =
      let s = ends (history_in r) S (record_well r) inside in
      let l = ran.reached e in
      let m = within in
      let same : budget ≡ y.steps = omega arith in
      subst (λ n. Judges (history_in r) S budget spent n) same (judges_spent budget s.2 (ran.stopped e s.0 s.1 s.2))

  -- The rows of a search that succeeded are those of its node.
  pub rows_at_node : (rows : List (EventSet W)) → ((a b : ℕ) → in_rows rows b a ≡ earlier y.walk.relation a b) → p ≡ Succeeded → AtNode (history_in r) S rows
  rows_at_node rows same e =
      let s = successful e in
      record {
        nodes = y.steps;
        node = node_of S (choices_of y.walk);
        search = s.search;
        exact = λ a b. (λ k. s.exact.only a b (sym (same a b) ∙ k), λ q. same a b ∙ s.exact.all a b q);
      }
