use Rattle.std.proofs.Common.{◌≡◌, true, false, Option, Some, None, MatchOption, inl, inr, arith, rules, tests}
use Rattle.std.proofs.lemmas.Bool.{cases_lt, cases_Bool}
use Rattle.std.proofs.lemmas.Iterator.{first_from_Range, serves_from_Range}
use Rattle.closure.specs.Closures.{earlier}
use Rattle.closure.proofs.reach.Closure.lowest_clash.Goals as goal

as_found : {X A C : Type 0} {B D : X → Type 0} (r : Option X) → MatchOption r A B → (A → C) → ((x : X) → B x → D x) → MatchOption r C D
as_found None h f g = f h
as_found (Some x) h f g = g x h

pub find-requires : goal.find-requires
find-requires g c = record { can = tt; finite = tt; callable = serves_from_Range (λ x q k. search (rules, tests)) (λ x low high. search rules) }

pub returns : goal.returns
returns g c =
    let o = c.args.self.now in
    as_found c.find.result
    (first_from_Range _ _ _ c.find.result (λ x. earlier o x x ≡ true) (λ x. earlier o x x ≡ false) c.find.ensures.ran
    (λ x q k. search (rules, tests))
    (λ x q k. search (rules, tests)))
    (λ none y.
    elim (cases_lt y o.count) [
      | inl l ↦ none y (omega arith) l
      | inr l ↦ elim (cases_Bool (earlier o y y)) [ inl t ↦ let k = o.firsts y y t in absurd (omega arith) | inr t ↦ t ]
    ])
    (λ x m. record { clash = m.2; lowest = λ y b. m.3 y (omega arith) b })
