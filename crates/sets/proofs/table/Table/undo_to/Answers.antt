use Rattle.std.proofs.Common.{◌≡◌, ℕ, ◌+◌, ◌-◌, ◌<◌, length, get_or, sym, refl, ap, ◌∙◌, inl, inr, arith, length-set, rules}
use Rattle.std.proofs.lemmas.Bool.{cases_eq, eq-eqb, ne_eqb}
use Rattle.sets.specs.Rows.{in_rows, undone, taken_back}
use Rattle.sets.proofs.Backs.{in_get, in_set_same, in_set_other, popped, undone_none, rows_same}
use Rattle.sets.proofs.table.Table.undo_to.Goals as goal

pub loop-self-init : goal.loop-self-init
loop-self-init g c = (c.requires, rows_same c.args.self.now)

pub loop-self-preserved : goal.loop-self-preserved
loop-self-preserved g c =
    let n : ℕ = c.loop-self.self.len - 1 in
    let s : c.loop-self.self.len - 1 + 1 ≡ c.loop-self.self.len = omega arith in
    let x : ℕ = get_or c.loop-self.self.at (c.loop-self.self.len - 1) 0 in
    let lx : get_or c.loop-self.self.at (c.loop-self.self.len - 1) 0 < length c.loop-self.self.rows = search rules in
    let lo : c.loop-self.self.len - 1 < length c.loop-self.self.saved = search rules in (
      omega arith,
      record {
        longer = omega (arith, c.loop-self.invariant.1.longer);
        back = λ k lk.
            sym (popped c.loop-self.self.at c.loop-self.self.saved n (in_rows c.loop-self.self.rows) _
            (λ z y. elim (cases_eq z x) [
              | inl e ↦ rw (e, eq-eqb x x refl) (in_set_same c.loop-self.self.rows x _ lx y ∙ sym (in_get c.loop-self.self.saved n _ lo y))
              | inr ne ↦ rw (ne_eqb z x ne) (in_set_other c.loop-self.self.rows x _ z ne y)
            ])
            k lk
            ∙ ap (λ m. taken_back c.loop-self.self.at c.loop-self.self.saved k (m - k) (in_rows c.loop-self.self.rows)) s
            ∙ sym (c.loop-self.invariant.1.back k (omega arith)));
      },
    )

pub returns : goal.returns
returns g c =
    let e : c.loop-self.self.len ≡ c.args.mark = omega arith in
    record {
      len = e;
      rows = sym (undone_none c.loop-self.self) ∙ sym (c.loop-self.invariant.1.back c.loop-self.self.len (omega arith)) ∙ ap (undone c.args.self.now) e;
      back = c.loop-self.invariant.1;
    }

pub invariant_of-self : goal.invariant_of-self
invariant_of-self g c =
    let t = c.loop-self.self in
    record { wide = t.wide; narrow = t.narrow; sized = simp length-set t.sized; marks = t.marks; olds = t.olds; deep = omega arith; held = λ k l. t.held k (omega arith) }
