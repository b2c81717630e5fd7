use Rattle.std.proofs.Common.{◌≡◌, ◌<◌, ◌∷◌, reverse, sym, refl, ap, ◌∙◌, subst, arith, rules}
use mathlib.Core.Logic.{∥∥₁_elim}
use denote.Struct.Props.{props}
use Rattle.arrayvec.specs.ArrayVec.{array_vec_len}
use Rattle.saturation.specs.Adding.{FirstOpen, NoneOpen}
use Rattle.search.specs.Walks.{choices_of, from_of, After}
use Rattle.saturation.specs.declared.relation.Mark.{Mark}
use Rattle.search.specs.declared.walk.Choice.{Choice}
use Rattle.search.proofs.Ways.{latest_pushed, descend_more, descend_none, descend_room}
use Rattle.search.proofs.walk.Walk.descend.Goals as goal

pub first_unordered-requires : goal.first_unordered-requires
first_unordered-requires g c =
    let w = c.args.self.now in
    let same : w.facts.count ≡ w.relation.count = ∥∥₁_elim c.requires (hlevel props) (λ x. x.3.along.facts.events ∙ sym x.3.exact.events) in
    search rules

pub push-requires : goal.push-requires
push-requires g c =
    let w = c.args.self.now in
    let lt : array_vec_len w.choices < g.row.T = ∥∥₁_elim c.requires (hlevel props) (λ x. descend_room x.0 x.1 x.2 w c.lowest.result c.in-Some.a c.in-Some.b c.in-Some.ensures x.3) in
    search rules

pub returns-in-Some-clause-stands : goal.returns-in-Some-clause-stands
unfolding After
returns-in-Some-clause-stands g c h S s k =
    let w = c.args.self.now in
    let a = c.in-Some.a in
    let b = c.in-Some.b in
    let first : FirstOpen w.facts (from_of (choices_of w)) w.relation a b = subst (λ n. FirstOpen w.facts n w.relation a b) c.lowest.ensures c.in-Some.ensures in
    let with : Mark → Choice = λ m. record { first = a; second = b; mark = m } in
    let put = ap reverse c.push.ensures.items ∙ latest_pushed w.choices.items (with c.mark-mark.result) in
    descend_more h S s w _ a b (choices_of w) refl (put ∙ ap (λ m. with m ∷ choices_of w) c.mark-mark.ensures) refl refl first k

pub returns-in-None-clause-stands : goal.returns-in-None-clause-stands
unfolding After
returns-in-None-clause-stands g c h S s k =
    let w = c.args.self.now in
    descend_none h S s w (subst (λ n. NoneOpen w.facts n w.relation) c.lowest.ensures c.in-None.ensures) k
