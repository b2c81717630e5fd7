use mathlib.Core.Logic.{∥∥₁_map}
use Rattle.std.proofs.Common.{rules}
use Rattle.search.specs.Walks.{Enters, Clashes}
use Rattle.search.proofs.walk.Walk.visit.Goals as goal

pub descend-requires : goal.descend-requires
descend-requires g c =
    let k : Enters c.enter.new.self = ∥∥₁_map c.requires (λ x. (x.0, x.1, x.2, c.in-Ok.ensures x.0 x.1 x.2 x.3)) in
    search rules

pub retreat-requires : goal.retreat-requires
retreat-requires g c =
    let k : Clashes c.enter.new.self = ∥∥₁_map c.requires (λ x. (x.0, x.1, x.2, c.in-Err.ensures x.0 x.1 x.2 x.3)) in
    search rules

pub returns-in-Ok : goal.returns-in-Ok
returns-in-Ok g c h S s k = c.descend.ensures.stands h S s (c.in-Ok.ensures h S s k)
