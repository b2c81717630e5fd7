use Rattle.std.proofs.Common.{◌≡◌, ℕ, ◌<◌, Bool, ◌≢◌, length, get_or, set, sym, refl, ◌∙◌, inl, inr, arith, length-set, below_more}
use mathlib.Core.Bool.{or-false}
use Rattle.std.proofs.lemmas.List.{get_or-set_same, get_or-set_other}
use Rattle.std.proofs.lemmas.Bool.{cases_eq, eq-eqb, ne_eqb}
use Rattle.sets.specs.Sets.{has}
use Rattle.sets.specs.Rows.{in_rows}
use Rattle.sets.proofs.Backs.{in_get, in_set_same, in_set_other, pushed}
use Rattle.sets.proofs.table.Table.put.Goals as goal

pub invariant_of-self : goal.invariant_of-self
invariant_of-self g c =
    let t = c.args.self.now in record { wide = t.wide; narrow = t.narrow; sized = t.sized; marks = simp length-set t.marks; olds = t.olds; deep = t.deep; held = λ k l. let ne : k ≢ c.args.self.now.len = omega arith in rw (get_or-set_other c.args.self.now.at c.args.self.now.len k c.args.x 0 ne) (c.args.self.now.held k l) }

pub invariant_of-self-3 : goal.invariant_of-self-3
invariant_of-self-3 g c =
    let t = c.args.self.now in
    let la : c.args.self.now.len < length c.args.self.now.at = omega arith in record {
      wide = t.wide;
      narrow = t.narrow;
      sized = simp length-set t.sized;
      marks = simp length-set t.marks;
      olds = simp length-set t.olds;
      deep = omega arith;
      held = below_more (λ k. get_or (set c.args.self.now.at c.args.self.now.len c.args.x) k 0 < g.row.N) c.args.self.now.len
          (λ k l. let ne : k ≢ c.args.self.now.len = omega arith in rw (get_or-set_other c.args.self.now.at c.args.self.now.len k c.args.x 0 ne) (c.args.self.now.held k l))
          (rw (get_or-set_same c.args.self.now.at c.args.self.now.len c.args.x 0 la) (omega arith));
    }

pub returns : goal.returns
returns g c =
    let lx : c.args.x < length c.args.self.now.rows = omega arith in
    let R : ℕ → ℕ → Bool = in_rows c.args.self.now.rows in
    let mine : (y : ℕ) → in_rows c.args.self.now.rows c.args.x y ≡ has (get_or c.args.self.now.rows c.args.x c.index-self-x.result) y
    = in_get c.args.self.now.rows c.args.x c.index-self-x.result lx in
    record {
      len = refl;
      rows = λ z y. elim (cases_eq z c.args.x) [
        | inl e ↦ rw (e, eq-eqb c.args.x c.args.x refl, mine y)
            (in_set_same c.args.self.now.rows c.args.x c.union_with.new.self lx y ∙ c.union_with.ensures y)
        | inr ne ↦ rw (ne_eqb z c.args.x ne)
            (in_set_other c.args.self.now.rows c.args.x c.union_with.new.self z ne y ∙ sym (or-false (in_rows c.args.self.now.rows z y)))
      ];
      back = record {
        longer = omega arith;
        back = pushed c.args.self.now.at c.args.self.now.saved c.args.self.now.len c.args.x (get_or c.args.self.now.rows c.args.x c.index-self-x.result) R _ (omega arith) (omega arith)
            (λ y. sym (mine y)) (λ z y ne. in_set_other c.args.self.now.rows c.args.x c.union_with.new.self z ne y);
      };
    }
