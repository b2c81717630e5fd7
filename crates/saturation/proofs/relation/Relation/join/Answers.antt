use Rattle.std.proofs.Common.{◌≡◌, ℕ, ◌<◌, Bool, true, sym, refl, ◌∙◌, subst, inl, inr, arith, rules}
use Rattle.std.proofs.lemmas.Bool.{or_cases}
use Rattle.sets.specs.Sets.{has}
use Rattle.sets.specs.Rows.{in_row}
use Rattle.saturation.specs.Orders.{Closure}
use Rattle.saturation.specs.Relations.{earlier}
use Rattle.saturation.proofs.Links.{closure}
use Rattle.saturation.proofs.Joins.{sound, head_below, tail_below, after_room, before_room, after_is, waiting_is, sound_joined}
use Rattle.saturation.proofs.relation.Relation.join.Goals as goal

pub widen-requires : goal.widen-requires
widen-requires g c =
    let o = c.args.self.now in
    let room = after_room o c.args.u c.args.v c.requires.inside.0 c.requires.inside.1 c.requires.open c.span-span.result c.span-span.ensures in
    let inside : (x : ℕ) → has c.span-span.result.heads x ≡ true → x < g.row.N
    = λ x h. let l = head_below o c.args.u c.args.v c.requires.inside.0 c.requires.inside.1 c.requires.open c.span-span.result c.span-span.ensures x h in omega arith in
    search rules

pub widen-requires-2 : goal.widen-requires-2
widen-requires-2 g c =
    let o = c.args.self.now in
    let room = before_room o c.args.u c.args.v c.requires.inside.0 c.requires.inside.1 c.requires.open c.span-span.result c.span-span.ensures in
    let inside : (y : ℕ) → has c.span-span.result.tails y ≡ true → y < g.row.N
    = λ y h. let l = tail_below o c.args.u c.args.v c.requires.inside.0 c.requires.inside.1 c.requires.open c.span-span.result c.span-span.ensures y h in omega arith in
    search rules

pub invariant_of-self : goal.invariant_of-self
invariant_of-self g c =
    let o = c.args.self.now in record {
      fits = search rules;
      short = search rules;
      listed = λ x h. elim (or_cases (has o.dirty x) (has c.span-span.result.heads x) (sym (c.union_with.ensures x) ∙ h)) [
        | inl d ↦ o.listed x d
        | inr e ↦ head_below o c.args.u c.args.v c.requires.inside.0 c.requires.inside.1 c.requires.open c.span-span.result c.span-span.ensures x e
      ];
      sound = ∣ sound_joined o c.args.u c.args.v c.requires.inside.0 c.requires.inside.1 c.requires.open c.span-span.result c.span-span.ensures
          c.widen.new.self c.widen-2.new.self c.widen.ensures.rows c.widen-2.ensures.rows c.widen.ensures.len c.widen-2.ensures.len ∣₁;
    }

pub returns : goal.returns
returns g c =
    let o = c.args.self.now in
    let e = after_is o c.args.u c.args.v c.requires.inside.0 c.requires.inside.1 c.requires.open c.span-span.result c.span-span.ensures (in_row c.widen.new.self) c.widen.ensures.rows in
    record {
      closure = subst (λ (S : ℕ → ℕ → Bool). Closure (earlier o) c.args.u c.args.v S) (sym e) (closure (earlier o) (sound o).chains c.args.u c.args.v);
      waiting = λ x. waiting_is o c.args.u c.args.v c.requires.inside.0 c.requires.inside.1 c.requires.open c.span-span.result c.span-span.ensures (in_row c.widen.new.self) e x
          (has c.union_with.new.self x) (has o.dirty x) (c.union_with.ensures x);
      kept = record { events = refl; afters = c.widen.ensures.back; befores = c.widen-2.ensures.back };
    }
