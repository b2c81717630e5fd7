use Rattle.std.proofs.Common.{◌≡◌, ◌≤◌, sym, refl, ap, ◌∙◌, arith, rules}
use mathlib.Core.Logic.{∥∥₁_map, ∥∥₁_elim}
use denote.Struct.Props.{props}
use Rattle.std.proofs.lemmas.Bool.{true≢false}
use Rattle.saturation.specs.declared.relation.Mark.{Mark}
use Rattle.sets.specs.Rows.{trail_len}
use Rattle.sets.proofs.Backs.{rows_again}
use Rattle.saturation.proofs.Joins.{sound}
use Rattle.saturation.proofs.Trails.{sound_at}
use Rattle.saturation.proofs.relation.Relation.undo_to.Goals as goal

pub invariant_of-self : goal.invariant_of-self
invariant_of-self g c =
    let o = c.args.self.now in record {
      fits = search rules;
      short = search rules;
      listed = λ x h. absurd (true≢false (sym h ∙ c.new-self.ensures x));
      sound = ∥∥₁_map c.requires (λ m.
          let q = m.0 in
          let k = m.1.0 in
          let ea : trail_len c.undo_to.new.self ≡ trail_len q.after = c.undo_to.ensures.len ∙ ap (λ (m : Mark). m.after) (sym m.1.1) in
          let eb : trail_len c.undo_to-2.new.self ≡ trail_len q.before = c.undo_to-2.ensures.len ∙ ap (λ (m : Mark). m.before) (sym m.1.1) in
          sound_at k.events
          (rows_again q.after c.undo_to.new.self o.after k.afters c.undo_to.ensures.back ea)
          (rows_again q.before c.undo_to-2.new.self o.before k.befores c.undo_to-2.ensures.back eb)
          ea eb (sound q));
    }

pub returns : goal.returns
returns g c =
    let o = c.args.self.now in
    record {
      marked = λ i. record { after = c.undo_to.ensures.len i; before = c.undo_to-2.ensures.len i };
      idle = c.new-self.ensures;
      kept = record { events = refl; afters = c.undo_to.ensures.back; befores = c.undo_to-2.ensures.back };
      same = λ q k e. rows_again q.after c.undo_to.new.self o.after k.afters c.undo_to.ensures.back (c.undo_to.ensures.len ∙ ap (λ (m : Mark). m.after) (sym e));
    }

pub undo_to-requires : goal.undo_to-requires
undo_to-requires g c =
    let low : c.args.mark.after ≤ trail_len c.args.self.now.after = ∥∥₁_elim c.requires (hlevel props) (λ m. omega (arith, m.1.0.afters.longer, ap (λ (k : Mark). k.after) m.1.1)) in
    search rules

pub undo_to-requires-2 : goal.undo_to-requires-2
undo_to-requires-2 g c =
    let low : c.args.mark.before ≤ trail_len c.args.self.now.before = ∥∥₁_elim c.requires (hlevel props) (λ m. omega (arith, m.1.0.befores.longer, ap (λ (k : Mark). k.before) m.1.1)) in
    search rules
