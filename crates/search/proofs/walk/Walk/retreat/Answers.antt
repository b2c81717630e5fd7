use Rattle.std.proofs.Common.{◌<◌, None, reverse, ap, ◌∙◌, refl, arith, rules}
use Rattle.std.proofs.lemmas.List.{length-reverse}
use mathlib.Core.Logic.{∥∥₁_map, ∥∥₁_elim}
use denote.Struct.Props.{props}
use Rattle.arrayvec.specs.ArrayVec.{array_vec_len}
use Rattle.search.specs.Walks.{After}
use Rattle.search.proofs.Ways.{latest_pushed, latest_last, retreat_room, retreat_on, retreat_marked, retreat_turn, retreat_none}
use Rattle.search.proofs.walk.Walk.retreat.Goals as goal

pub undo_to-requires : goal.undo_to-requires
undo_to-requires g c =
    let w = c.loop-c.self in
    let top = ap reverse c.in-Some.ensures.items ∙ latest_pushed c.pop.new.self.items c.in-Some.c in
    let marked = ∥∥₁_map c.requires (λ x. retreat_marked x.0 x.1 x.2 w _ _ top c.if-c.true (c.loop-c.invariant x.0 x.1 x.2 x.3)) in
    search rules

pub push-requires : goal.push-requires
push-requires g c =
    let w = c.loop-c.self in
    let n = length-reverse c.pop.new.self.items in
    let top = ap reverse c.in-Some.ensures.items ∙ latest_pushed c.pop.new.self.items c.in-Some.c in
    let lt : array_vec_len c.pop.new.self < g.row.T =
    ∥∥₁_elim c.requires (hlevel props) (λ x. let l = retreat_room x.0 x.1 x.2 w _ _ top c.if-c.true (c.loop-c.invariant x.0 x.1 x.2 x.3) in omega arith) in
    search rules

pub returns-then-c-clause-stands : goal.returns-then-c-clause-stands
unfolding After
returns-then-c-clause-stands g c h S s k =
    let w = c.loop-c.self in
    let top = ap reverse c.in-Some.ensures.items ∙ latest_pushed c.pop.new.self.items c.in-Some.c in
    retreat_turn h S s w _ _ _ top (ap reverse c.push.ensures.items ∙ latest_pushed c.pop.new.self.items _) refl c.undo_to.ensures c.if-c.true (c.loop-c.invariant h S s k)

pub loop-c-preserved : goal.loop-c-preserved
loop-c-preserved g c h S s k =
    let w = c.loop-c.self in
    let top = ap reverse c.in-Some.ensures.items ∙ latest_pushed c.pop.new.self.items c.in-Some.c in
    retreat_on h S s w _ _ _ top refl refl refl c.if-c.false (c.loop-c.invariant h S s k)

pub returns-clause-stands : goal.returns-clause-stands
unfolding After
returns-clause-stands g c h S s k = retreat_none h S s c.loop-c.self (latest_last c.loop-c.self.choices.items _ None refl c.in_default.ensures.value) (c.loop-c.invariant h S s k)
