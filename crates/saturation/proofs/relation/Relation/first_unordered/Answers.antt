use Rattle.std.proofs.Common.{◌≡◌, ◌<◌, true, length, sym, ◌∙◌, subst, inl, inr, arith, rules}
use Rattle.std.proofs.lemmas.Bool.{true≢false, and_parts, and_from, cases_lt, ne_eqb, not-true, not_from_false}
use Rattle.sets.specs.Rows.{in_rows}
use Rattle.saturation.specs.Ties.{mates_of}
use Rattle.saturation.specs.Orders.{free}
use Rattle.saturation.specs.Relations.{earlier}
use Rattle.sets.proofs.Counts.{pop_falls}
use Rattle.saturation.proofs.Parts.{in_part}
use Rattle.saturation.proofs.Slacks.{free_parts, free_from}
use Rattle.saturation.proofs.Opens.{first_open, none_open}
use Rattle.saturation.proofs.relation.Relation.first_unordered.Goals as goal

pub loop-b-init : goal.loop-b-init
loop-b-init g c =
    let la : c.loop-a.a < length c.args.facts.now.ties = search rules in (
      λ y h.
          let p = and_parts _ _ (sym (c.difference-open.ensures y) ∙ h) in
          let q = and_parts _ _ (sym (c.difference.ensures y) ∙ p.0) in (
            in_part (λ t. t.mates) c.args.facts.now.ties c.loop-a.a _ la y ∙ q.0,
            sym (c.successors.ensures y) ∙ not-true _ q.1,
            sym (c.predecessors.ensures y) ∙ not-true _ p.1,
          ),
      λ y l m z.
          let p = free_parts (earlier c.args.self.now) c.loop-a.a y z in
          c.difference-open.ensures y
          ∙ and_from _ _
          (c.difference.ensures y ∙ and_from _ _ (sym (in_part (λ t. t.mates) c.args.facts.now.ties c.loop-a.a _ la y) ∙ m) (not_from_false _ (c.successors.ensures y ∙ p.1)))
          (not_from_false _ (c.predecessors.ensures y ∙ p.2)),
    )

pub loop-b-smaller : goal.loop-b-smaller
loop-b-smaller g c = pop_falls c.loop-b.open c.pop.new.self c.in-Some.b c.in-Some.ensures

pub loop-b-preserved : goal.loop-b-preserved
loop-b-preserved g c =
    let p = c.in-Some.ensures in (
      λ y h. c.loop-b.invariant.0 y (and_parts _ _ (sym (p.rest y) ∙ h)).1,
      λ y l m z. p.rest y ∙ rw (ne_eqb y c.in-Some.b (λ e. omega arith)) (c.loop-b.invariant.1 y l m z),
    )

pub loop-a-init : goal.loop-a-init
loop-a-init g c x y l k = absurd (omega arith)

pub loop-a-preserved : goal.loop-a-preserved
loop-a-preserved g c x y l k s m z =
    elim (cases_lt x c.loop-a.a) [
      | inl b ↦ c.loop-a.invariant x y l b s m z
      | inr b ↦
          let e : x ≡ c.loop-a.a = omega arith in
          let t = c.loop-b.invariant.1 y (omega arith) (subst (λ w. in_rows (mates_of c.args.facts.now.ties) w y ≡ true) e m) (subst (λ w. free (earlier c.args.self.now) w y ≡ true) e z) in
          true≢false (sym t ∙ c.in_default.ensures.0 y)
    ]

pub returns-then-a-b : goal.returns-then-a-b
returns-then-a-b g c =
    let p = c.in-Some.ensures in
    let q = c.loop-b.invariant.0 c.in-Some.b p.was in
    let z = free_from (earlier c.args.self.now) c.loop-a.a c.in-Some.b (λ e. omega arith) q.1 q.2 in
    record {
      from = omega arith;
      lower = omega arith;
      inside = let l = c.args.facts.now.writes c.loop-a.a c.in-Some.b q.0 in let e = c.requires in omega arith;
      apart = z;
      first = λ h S facts exact.
          first_open h S facts c.args.self.now exact c.args.from c.loop-a.a c.in-Some.b c.if-a-b.true q.0 z c.loop-a.invariant
          (λ y l m w. elim (cases_lt y c.in-Some.b) [ inl k ↦ absurd (true≢false (sym (c.loop-b.invariant.1 y l m w) ∙ p.lowest y k)) | inr k ↦ k ]);
    }

pub returns : goal.returns
returns g c h S facts exact =
    none_open h S facts c.args.self.now exact c.args.from
    (λ x y l k. c.loop-a.invariant x y l (let e = c.count-a-end.ensures in omega arith))
