use Rattle.std.proofs.Common.{◌≡◌, ℕ, ◌+◌, ◌<◌, ◌≤◌, ◌≢◌, true, List, refl, sym, ap, ◌∙◌, subst, inl, true≢false, arith, rules}
use mathlib.Core.Logic.{∥∥₁_map}
use denote.Enum.Bare.{sameb, same_true}
use Rattle.order.specs.History.{History}
use Rattle.search.specs.Walks.{After, Walking, Walks}
use Rattle.search.specs.Searches.{SearchOf}
use Rattle.search.specs.contracts.walk.Progress.{the_type}
use Rattle.search.specs.declared.walk.Progress.{Progress}
use Rattle.search.specs.declared.walk.Progress.TheVariants.{Running, Failed}
use Rattle.search.specs.declared.tree.Search.{Search}
use Rattle.search.proofs.Ways.{walking_more}
use Rattle.search.proofs.tree.Search.run.Goals as goal
use Rattle.search.proofs.tree.Search.run.Goals.{then-loop-self-test+else-self-limit, else-loop-self-test}

running : {N W T : ℕ} (x : Search N W T) (h : History) (S : List (ℕ × ℕ)) → x.progress ≡ Running → SearchOf h S x → Walking h S x.steps x.walk
unfolding After
running x h S e k = subst (λ p. After h S x.steps x.walk p) e k

is_running : (p : Progress) → sameb the_type p Running ≡ true → p ≡ Running
is_running p e = same_true the_type (search rules) _ _ e

up_to : (n i : ℕ) → i < n → i + 1 ≤ n
up_to n i l = omega arith

beyond : (n i t : ℕ) → n ≤ i → i < t → n < t
beyond n i t l m = omega arith

not_failed : (p : Progress) → p ≡ Running → p ≢ Failed
not_failed p e f = let z : ◌≡◌ {A = Progress} Running Failed = sym e ∙ f in cc

pub visit-self-requires : goal.visit-self-requires
unfolding After
visit-self-requires g c =
    let x = c.loop-self.self in
    let here = is_running x.progress (sym c.eq.ensures ∙ c.loop-self-test.true) in
    let walks : Walks x.walk = ∥∥₁_map (x.sound (not_failed x.progress here)) (λ y. (y.0, y.1, x.steps, running x y.0 y.1 here y.2)) in
    search rules

pub invariant_of-self : goal.invariant_of-self
unfolding After
invariant_of-self g c =
    let x = c.loop-self.self in
    let v = c.visit-self in
    let here = is_running x.progress (sym c.eq.ensures ∙ c.loop-self-test.true) in
    record { sound = λ e. ∥∥₁_map (x.sound (not_failed x.progress here)) (λ y. (y.0, y.1, v.ensures y.0 y.1 x.steps (running x y.0 y.1 here y.2))) }

pub loop-self-preserved : goal.loop-self-preserved
loop-self-preserved g c =
    let x = c.loop-self.self in
    let here = is_running x.progress (sym c.eq.ensures ∙ c.loop-self-test.true) in
    ((λ h S k. c.visit-self.ensures h S x.steps (running x h S here (c.loop-self.invariant.0 h S k))), inl (up_to c.args.limit x.steps c.if-self-limit.true))

pub returns : goal.returns
returns g c h S k =
    let x = c.loop-self.self in
    let full : x.progress ≡ Running → c.args.limit ≤ x.steps = λ e.
    let is : c.eq.result ≡ true = c.eq.ensures ∙ ap (λ p. sameb the_type p Running) e in
    elim c.loop-self-test.branch [
      | then-loop-self-test+else-self-limit w ↦ w.if-self-limit.false
      | else-loop-self-test w ↦ absurd (true≢false (sym is ∙ w.loop-self-test.false))
    ]
    in
    record {
      answer = refl;
      same = c.loop-self.invariant.0 h S k;
      within = c.loop-self.invariant.1;
      reached = full;
      stopped = λ e t o d.
          beyond c.args.limit x.steps t (full e) (walking_more h S x.steps x.walk (running x h S e (c.loop-self.invariant.0 h S k)) t o d);
    }
