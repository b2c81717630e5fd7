-- No layer makes a list of more than 65,535 events.
use Rattle.std.specs.Prelude.{◌≤◌, Bool, true, false, cond, List, [], ◌∷◌, map, length, take, filter}
use Rattle.std.proofs.Common.{arith, length-take}
use Rattle.std.proofs.lemmas.List.{length-map}
use Rattle.history.specs.declared.event.Event.{Event}
use Rattle.either.specs.declared.Either.{Either}
use Rattle.either.specs.declared.Either.TheVariants.{Left, Right}
use Rattle.either.specs.Either.{either}

pub few_take : (es : List Event) → length (take 65535 es) ≤ 65535
few_take es = simp length-take (omega arith)

pub few_map : (f : Event → Event) (es : List Event) → length es ≤ 65535 → length (map f es) ≤ 65535
few_map f es h = simp length-map h

kept_most : (p : Event → Bool) (es : List Event) → length (filter p es) ≤ length es
kept_most p [] = omega arith
kept_most p (e ∷ es) =
    let most = kept_most p es in
    elim (p e) as (λ b. length (cond b (e ∷ filter p es) (filter p es)) ≤ length (e ∷ es)) [ true ↦ omega arith | false ↦ omega arith ]

pub few_kept : (p : Event → Bool) (es : List Event) → length es ≤ 65535 → length (filter p es) ≤ 65535
few_kept p es h = omega (arith, kept_most p es)

pub few_either : {P Q : Type 0} (f : P → List Event) (g : Q → List Event)
    → ((p : P) → length (f p) ≤ 65535) → ((q : Q) → length (g q) ≤ 65535) → (e : Either P Q) → length (either f g e) ≤ 65535
few_either f g a b (Left p) = a p
few_either f g a b (Right q) = b q
