-- What a search that can be stopped promises.
use Rattle.std.specs.Prelude.{◌≡◌, ℕ, ◌<◌, ◌≤◌, ◌⊎◌, List}
use Rattle.order.specs.History.{History}
use Rattle.order.specs.Search as order
use Rattle.search.specs.Walks.{After}
use Rattle.search.specs.declared.walk.Progress.{Progress}
use Rattle.search.specs.declared.walk.Progress.TheVariants.{Running}
use Rattle.search.specs.declared.tree.Search.{Search}

-- This is the search for the history h with the pairs S, after as many nodes as its steps.
abbrev pub SearchOf : {N W T : ℕ} → History → List (ℕ × ℕ) → Search N W T → Type 0
SearchOf h S x = After h S x.steps x.walk x.progress

-- The search x went on to y, up to a limit: it is still the search for h and S; it visited no node past the limit; and where it
-- is still running, it has visited as many nodes as the limit, and every search for h and S visits more.
pub record Ran {N W T : ℕ} (h : History) (S : List (ℕ × ℕ)) (limit : ℕ) (x y : Search N W T) (r : Progress) : Type 0 where
  pub answer : r ≡ y.progress
  pub same : SearchOf h S y
  pub within : (y.steps ≤ limit) ⊎ (y.steps ≡ x.steps)
  pub reached : r ≡ Running → limit ≤ y.steps
  pub stopped : r ≡ Running → (t : ℕ) (o : order.Outcome) → order.Search h S t o → limit < t
