use Rattle.std.proofs.Common.{ℕ, sym, ap, ◌∙◌, inl, inr, rules}
use Rattle.std.proofs.lemmas.Bool.{true≢false, and_parts, cases_eq, ne_eqb}
use Rattle.closure.specs.Closures.{earlier, HasRow}
use Rattle.sets.proofs.Counts.{pop_falls}
use Rattle.closure.proofs.Raises.{raised_same, raised_then, raised_link}
use Rattle.closure.proofs.reach.Closure.link_row.Goals as goal

pub loop-y-init : goal.loop-y-init
loop-y-init g c = (raised_same (HasRow c.args.x c.args.row.now) c.args.self.now, λ k h. h, λ k h. inl h)

pub link-requires : goal.link-requires
link-requires g c =
    let p = c.in-Some.ensures in
    let ly = c.requires.listed c.in-Some.y (c.loop-y.invariant.1 c.in-Some.y p.was) in
    let lx = c.requires.inside in
    let e = c.loop-y.invariant.0.events in
    search rules

pub loop-y-smaller : goal.loop-y-smaller
loop-y-smaller g c = pop_falls c.loop-y.rest c.pop.new.self c.in-Some.y c.in-Some.ensures

pub loop-y-preserved : goal.loop-y-preserved
loop-y-preserved g c =
    let x : ℕ = c.args.x in
    let y : ℕ = c.in-Some.y in
    let p = c.in-Some.ensures in
    let l = c.link.ensures in
    let step = raised_link (HasRow c.args.x c.args.row.now) c.loop-y.self c.link.new.self x y (λ Q within met. met y (c.loop-y.invariant.1 y p.was)) l in (
      raised_then (HasRow c.args.x c.args.row.now) c.args.self.now c.loop-y.self c.link.new.self c.loop-y.invariant.0 step,
      λ k h. c.loop-y.invariant.1 k (and_parts _ _ (sym (p.rest k) ∙ h)).1,
      λ k h. elim (cases_eq k y) [
        | inl s ↦ inr (ap (λ z. earlier c.link.new.self x z) s ∙ l.closure.linked)
        | inr ne ↦ elim (c.loop-y.invariant.2 k h) [
          | inl q ↦ inl (p.rest k ∙ rw (ne_eqb k y ne) q)
          | inr q ↦ inr (l.closure.keeps x k q)
        ]
      ],
    )

pub returns : goal.returns
returns g c = record {
  linked = λ y h. elim (c.loop-y.invariant.2 y h) [ inl k ↦ absurd (true≢false (sym k ∙ c.in_default.ensures.0 y)) | inr k ↦ k ];
  raised = c.loop-y.invariant.0;
}
