use Rattle.std.proofs.Common.{sym, refl, ◌∙◌}
use lib.ListN.{length-replicate}
use Rattle.std.proofs.lemmas.Bool.{true≢false}
use Rattle.sets.proofs.Backs.{in_fill}
use Rattle.closure.proofs.reach.Closure.new.Goals as goal

pub invariant_of-result : goal.invariant_of-result
invariant_of-result g c =
    let none = c.new-empty.ensures in
    let empty = in_fill g.row.N c.new-empty.result c.new-empty.ensures in record { wide = c.requires.1; narrow = c.requires.2; fits = c.requires.0; rows = length-replicate g.row.N c.new-empty.result; columns = length-replicate g.row.N c.new-empty.result; listed = λ x h. absurd (true≢false (sym h ∙ none x)); firsts = λ x y h. absurd (true≢false (sym h ∙ empty x y)); seconds = λ x y h. absurd (true≢false (sym h ∙ empty x y)); mirror = λ x y. empty y x ∙ sym (empty x y); chains = ∣ (λ x y z h _. absurd (true≢false (sym h ∙ empty x y))) ∣₁ }

pub returns : goal.returns
returns g c = record { count = refl; none = in_fill g.row.N c.new-empty.result c.new-empty.ensures; idle = c.new-empty.ensures }
