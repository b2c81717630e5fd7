use Rattle.std.proofs.Common.{◌≡◌, ℕ, ◌<◌, true, sym, refl, ◌∙◌, inl, inr, arith, rules}
use Rattle.std.proofs.lemmas.Bool.{or_cases}
use Rattle.sets.specs.Sets.{has}
use Rattle.sets.specs.Rows.{in_rows}
use Rattle.closure.proofs.Raises.{heads_below, tails_below, mirror_added, first_added, second_added, smallest_added, newly_added}
use Rattle.closure.proofs.reach.Closure.join.Goals as goal

pub widen-requires : goal.widen-requires
widen-requires g c =
    let inside : (x : ℕ) → has c.spread-spread.result.heads x ≡ true → x < g.row.N
    = λ x h. let l = heads_below c.args.self.now c.args.u c.args.v c.requires.0 c.requires.1 c.spread-spread.result c.spread-spread.ensures x h in omega arith in
    search rules

pub widen-requires-2 : goal.widen-requires-2
widen-requires-2 g c =
    let inside : (y : ℕ) → has c.spread-spread.result.tails y ≡ true → y < g.row.N
    = λ y h. let l = tails_below c.args.self.now c.args.u c.args.v c.requires.0 c.requires.1 c.spread-spread.result c.spread-spread.ensures y h in omega arith in
    search rules

pub invariant_of-self : goal.invariant_of-self
invariant_of-self g c =
    let o = c.args.self.now in
    let rows = in_rows c.widen.new.rows in record {
      wide = o.wide;
      narrow = o.narrow;
      fits = o.fits;
      rows = c.widen.ensures.full;
      columns = c.widen-2.ensures.full;
      listed = λ x h. elim (or_cases (has o.dirty x) (has c.spread-spread.result.heads x) (sym (c.union_with.ensures x) ∙ h)) [
        | inl d ↦ o.listed x d
        | inr e ↦ heads_below o c.args.u c.args.v c.requires.0 c.requires.1 c.spread-spread.result c.spread-spread.ensures x e
      ];
      firsts = first_added o c.args.u c.args.v c.requires.0 c.requires.1 c.spread-spread.result c.spread-spread.ensures rows c.widen.ensures.rows;
      seconds = second_added o c.args.u c.args.v c.requires.0 c.requires.1 c.spread-spread.result c.spread-spread.ensures rows c.widen.ensures.rows;
      mirror = mirror_added o c.args.u c.args.v c.requires.0 c.requires.1 c.spread-spread.result c.spread-spread.ensures rows c.widen.ensures.rows
          (in_rows c.widen-2.new.rows) c.widen-2.ensures.rows;
      chains = ∣ (smallest_added o c.args.u c.args.v c.requires.0 c.requires.1 c.spread-spread.result c.spread-spread.ensures rows c.widen.ensures.rows).chains ∣₁;
    }

pub returns : goal.returns
returns g c =
    let o = c.args.self.now in
    let rows = in_rows c.widen.new.rows in
    record {
      closure = smallest_added o c.args.u c.args.v c.requires.0 c.requires.1 c.spread-spread.result c.spread-spread.ensures rows c.widen.ensures.rows;
      waiting = λ x. newly_added o c.args.u c.args.v c.requires.0 c.requires.1 c.spread-spread.result c.spread-spread.ensures rows c.widen.ensures.rows x
          (has c.union_with.new.self x) (has o.dirty x) (c.union_with.ensures x);
      events = refl;
    }
