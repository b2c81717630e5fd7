use Rattle.std.proofs.Common.{◌≡◌, ℕ, Bool, None}
use Rattle.order.specs.Opening.{first_failing}
use Rattle.opening.specs.Checks.{AnswersAs}
use Rattle.opening.proofs.checks.Unchecked.check.Given as goal

abbrev pub invariant-loop-i : goal.invariant-loop-i
invariant-loop-i g l = (test : ℕ → Bool) → AnswersAs (goal.P-post g l.passes) l.self.events.now test → first_failing test l.i ≡ None
