use Rattle.std.proofs.Common.{ℕ, List}
use Rattle.order.specs.History.{History}
use Rattle.arrayvec.specs.ArrayVec.{array_vec_len}
use Rattle.search.specs.Walks.{Clashed}
use Rattle.search.proofs.walk.Walk.retreat.Given as goal

abbrev pub invariant-loop-c : goal.invariant-loop-c
invariant-loop-c g l = (h : History) (S : List (ℕ × ℕ)) (s : ℕ) → Clashed h S s l.initial.self → Clashed h S s l.self

abbrev pub decreases-loop-c : goal.decreases-loop-c
decreases-loop-c g l = array_vec_len l.self.choices
