use Rattle.std.proofs.Common.{◌≡◌, ℕ, Bool, true, false, not, ◌&&◌, ◌||◌, sym, refl, ap, ◌∙◌, subst, arith}
use Rattle.sets.specs.Rows.{in_row, RowsKept}
use Rattle.saturation.specs.Orders.{Sound}
use Rattle.saturation.specs.Relations.{earlier, waits, mark_of, Kept, Undone, Linked, Unmoved}
use Rattle.sets.specs.declared.table.Table.{Table}
use Rattle.saturation.specs.declared.relation.Relation.{Relation}
use Rattle.saturation.specs.declared.relation.Mark.{Mark}
use Rattle.sets.proofs.Backs.{rows_same, rows_then, rows_under}
use Rattle.saturation.proofs.Joins.{sound}

module _ {N W T : ℕ} where
  pub kept_same : (o : Relation N W T) → Kept o o
  kept_same o = record { events = refl; afters = rows_same o.after; befores = rows_same o.before }

  pub kept_then : (o p q : Relation N W T) → Kept o p → Kept p q → Kept o q
  kept_then o p q a b = record {
    events = b.events ∙ a.events;
    afters = rows_then o.after p.after q.after a.afters b.afters;
    befores = rows_then o.before p.before q.before a.befores b.befores;
  }

  pub kept_link : (o p : Relation N W T) → p ≡ o → Kept o p
  kept_link o p e = subst (λ (q : Relation N W T). Kept o q) (sym e) (kept_same o)

  pub unmoved_kept : (o p : Relation N W T) → Unmoved o p → Kept o p
  unmoved_kept o p u = record {
    events = u.events;
    afters = subst (λ (t : Table N W T). RowsKept o.after t) (sym u.afters) (rows_same o.after);
    befores = subst (λ (t : Table N W T). RowsKept o.before t) (sym u.befores) (rows_same o.before);
  }

  pub unmoved_earlier : (o p : Relation N W T) → Unmoved o p → earlier p ≡ earlier o
  unmoved_earlier o p u = ap (λ (t : Table N W T). in_row t) u.afters

  -- what was taken back to the mark of o is o again, and leads back to all that o led back to
  module _ (o p q : Relation N W T) (a : Kept o p) (u : Undone p q (mark_of o)) where
    pub undone_earlier : earlier q ≡ earlier o
    undone_earlier = u.same o a refl

    pub undone_kept : Kept o q
    undone_kept = record {
      events = sym u.kept.events ∙ a.events;
      afters = rows_under o.after q.after p.after a.afters u.kept.afters (let e = ap (λ (m : Mark). m.after) u.marked in omega arith);
      befores = rows_under o.before q.before p.before a.befores u.kept.befores (let e = ap (λ (m : Mark). m.before) u.marked in omega arith);
    }

  -- the pair is there already
  pub linked_already : (o : Relation N W T) (u v : ℕ) → earlier o u v ≡ true → Linked u v o o
  linked_already o u v h = record {
    closure = record { keeps = λ x y r. r; linked = h; chains = (sound o).chains; least = λ Q _ within _. within };
    waiting = λ x. nothing (waits o x) (earlier o x v);
    kept = kept_same o;
  }
    where
      nothing : (d r : Bool) → d ≡ (d || (r && not r))
      nothing true r = refl
      nothing false true = refl
      nothing false false = refl

-- what a relation keeps to rests on its rows and on how long its trails are
pub sound_at : {n n' T a a' b b' : ℕ} {R R' B B' : ℕ → ℕ → Bool} → n' ≡ n → R' ≡ R → B' ≡ B → a' ≡ a → b' ≡ b → Sound n T R B a b → Sound n' T R' B' a' b'
sound_at {n} {n'} {T} {a} {a'} {b} {b'} {R} {R'} {B} {B'} en eR eB ea eb s =
    subst (λ (k : ℕ). Sound k T R' B' a' b') (sym en)
    (subst (λ (k : ℕ). Sound n T R' B' k b') (sym ea)
    (subst (λ (k : ℕ). Sound n T R' B' a k) (sym eb)
    (subst (λ (X : ℕ → ℕ → Bool). Sound n T X B' a b) (sym eR)
    (subst (λ (X : ℕ → ℕ → Bool). Sound n T R X a b) (sym eB) s))))
