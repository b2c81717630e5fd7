-- What a closure says of a history, once it has the pairs that are given outright and all that the rules force.
use Rattle.std.proofs.Common.{◌≡◌, ℕ, zero, suc, ◌≤◌, Bool, true, ◌↔◌, List, Some, None, Option, sym, ◌∙◌, inl, inr, arith, MatchOption}
use Rattle.std.proofs.lemmas.Bool.{true≢false, cases_lt}
use Rattle.order.specs.History.{History, count, WellFormed, PairsOfEvents}
use Rattle.order.specs.Before.{Before, Clash}
use Rattle.order.proofs.Saturated.{before_numbers}
use Rattle.saturation.specs.Orders.{Within}
use Rattle.saturation.specs.Nodes.{FactsOf}
use Rattle.saturation.specs.declared.saturate.Facts.{Facts}
use Rattle.saturation.proofs.Bridges.{Based, past, past_e, past_i, past_far, past_ruled, ruled_closed, closed_ruled, has_before}
use Rattle.closure.specs.Closures.{earlier, Calm, Lowest, Finished, HasBase, MadeExact, ExactHere, FirstClash}
use Rattle.closure.specs.declared.reach.Closure.{Closure}
use Rattle.closure.proofs.Raises.{chains_of}

module _ (h : History) (S : List (ℕ × ℕ)) where
  base_based : (R : ℕ → ℕ → Bool) → HasBase h S R → Based h S R
  base_based R b = record { kept = b.kept; stands = b.stands; taken = b.taken; start = b.start }

  -- what is answered of two events
  pub before_answer : {N W : ℕ} (c : Closure N W) → ExactHere h S c → (a b : ℕ) (o : Bool) → o ≡ earlier c a b → (o ≡ true) ↔ Before h S (suc a) (suc b)
  before_answer c exact a b o e = (λ t. (exact.same a b).0 (sym e ∙ t), λ k. e ∙ (exact.same a b).1 k)

  module _ (well : WellFormed h) (inside : PairsOfEvents h S) where
    past_base : HasBase h S (past h S)
    past_base = record {
      kept = λ a b k. past_i h S well inside a b (Before.kept k);
      stands = λ a b m. past_i h S well inside a b (Before.stands m);
      taken = λ w r t. past_i h S well inside w r (Before.taken t);
      start = λ r w s v e. past_i h S well inside r w (Before.start s v e);
    }

    -- over what lies between the pairs that are given outright and before, all that the rules force is exactly before
    pub exact_between : {N W : ℕ} (f : Facts N W) (c d : Closure N W) → FactsOf h f → c.count ≡ count h → Within (earlier c) (past h S) → Based h S (earlier c) → Finished f c d → ExactHere h S d
    exact_between f c d facts size within base done =
        let grown : Based h S (earlier d)
        = record {
          kept = λ a b k. done.grown.keeps a b (base.kept a b k);
          stands = λ a b m. done.grown.keeps a b (base.stands a b m);
          taken = λ w r t. done.grown.keeps w r (base.taken w r t);
          start = λ r w s v e. done.grown.keeps r w (base.start r w s v e);
        } in
        record {
          events = done.events ∙ size;
          same = λ x y. (
            λ k. past_e h S well inside x y (done.grown.least (past h S) (past_far h S well inside) within (ruled_closed facts (past h S) (past_ruled h S well inside)) x y k),
            has_before well inside (earlier d) (chains_of d) grown (closed_ruled facts (earlier d) done.closed) x y,
          );
        }

    -- the lowest event before itself, by number
    module _ {N W : ℕ} (c : Closure N W) (exact : ExactHere h S c) where
      clash_at : (P : ℕ → Type 0) → ((x : ℕ) → earlier c x x ≡ true → P (suc x)) → (a : ℕ) → Before h S a a → P a
      clash_at P step zero b = let n = (before_numbers h S well inside b).0.low in absurd (omega arith)
      clash_at P step (suc x) b = step x ((exact.same x x).1 b)

      calm_clash : Calm c → Clash h S → ⊥
      calm_clash calm b = clash_at (λ _. ⊥) (λ x e. true≢false (sym e ∙ calm x)) b.0 b.1

      first_clash : (x : ℕ) → Lowest c x → FirstClash h S (suc x)
      first_clash x low = record {
        clash = (exact.same x x).0 low.clash;
        lowest = clash_at (λ a. suc x ≤ a) (λ y e. elim (cases_lt y x) [ inl l ↦ absurd (true≢false (sym e ∙ low.lowest y l)) | inr l ↦ omega arith ]);
      }

      pub clash_answer : (o : Option ℕ) → MatchOption o (Calm c) (Lowest c) → MatchOption o (Clash h S → ⊥) (λ x. FirstClash h S (suc x))
      clash_answer None calm = calm_clash calm
      clash_answer (Some x) low = first_clash x low

-- what was built from the base pairs, and then saturated, is exactly before
pub made_exact : {N W : ℕ} (f : Facts N W) (c d : Closure N W) → f.count ≡ c.count → Finished f c d → MadeExact f c d
made_exact f c d e done h S well facts inside built =
    exact_between h S well inside f c d facts (sym e ∙ facts.events)
    (built.least (past h S) (past_far h S well inside) (past_base h S well inside)) (base_based h S (earlier c) built.base) done
