use Rattle.std.specs.Prelude.{◌≡◌, ℕ, Bool, true, false, not, ◌&&◌, ◌||◌, ◌⊎◌, ◌==◌}
use Rattle.sets.specs.Sets.{has}
use Rattle.sets.specs.Rows.{in_row, trail_len, RowsKept}
use Rattle.saturation.specs.Orders.{Closure}
use Rattle.saturation.specs.declared.relation.Relation.{Relation}
use Rattle.saturation.specs.declared.relation.Mark.{Mark}
use Rattle.saturation.specs.declared.relation.Span.{Span}

-- whether x is before y
abbrev pub earlier : {N W T : ℕ} → Relation N W T → ℕ → ℕ → Bool
earlier o x y = in_row o.after x y

-- whether the event x waits to be looked at
abbrev pub waits : {N W T : ℕ} → Relation N W T → ℕ → Bool
waits o x = has o.dirty x

-- nothing waits
abbrev pub Idle : {N W T : ℕ} → Relation N W T → Type 0
Idle o = (x : ℕ) → waits o x ≡ false

-- how long the two trails are
abbrev pub mark_of : {N W T : ℕ} → Relation N W T → Mark
mark_of o = record { after = trail_len o.after; before = trail_len o.before }

-- p is o but for what waits
pub record Unmoved {N W T : ℕ} (o p : Relation N W T) : Type 0 where
  pub afters : p.after ≡ o.after
  pub befores : p.before ≡ o.before
  pub events : p.count ≡ o.count

-- the trails of p lead back to o, and on to all that the trails of o lead back to
pub record Kept {N W T : ℕ} (o p : Relation N W T) : Type 0 where
  pub events : p.count ≡ o.count
  pub afters : RowsKept o.after p.after
  pub befores : RowsKept o.before p.before

-- the mark was taken of a relation that the trails of o lead back to
abbrev pub Marked : {N W T : ℕ} → Relation N W T → Mark → Type 0
Marked {N} {W} {T} o m = (q : Relation N W T) × (Kept q o × (mark_of q ≡ m))

-- p is o, taken back to the mark m: the relation that m was taken of, with nothing that waits
pub record Undone {N W T : ℕ} (o p : Relation N W T) (m : Mark) : Type 0 where
  pub marked : mark_of p ≡ m
  pub idle : Idle p
  pub kept : Kept p o
  pub same : (q : Relation N W T) → Kept q o → mark_of q ≡ m → earlier p ≡ earlier q

-- p is o with the pair of u and v and all that follows by chains; what is newly before v waits
pub record Linked {N W T : ℕ} (u v : ℕ) (o p : Relation N W T) : Type 0 where
  pub closure : Closure (earlier o) u v (earlier p)
  pub waiting : (x : ℕ) → waits p x ≡ (waits o x || (earlier p x v && not (earlier o x v)))
  pub kept : Kept o p

-- the pair of u and v would close a cycle
abbrev pub Cyclic : {N W T : ℕ} → ℕ → ℕ → Relation N W T → Type 0
Cyclic u v o = (u ≡ v) ⊎ (earlier o v u ≡ true)

-- the pair of u and v would close a cycle, and p is o
abbrev pub Refused : {N W T : ℕ} → ℕ → ℕ → Relation N W T → Relation N W T → Type 0
Refused u v o p = Cyclic u v o × (p ≡ o)

-- what the pair of u and v touches: u with all before it, v with all after it, and of these those that are not
-- before v, and not after u, yet
pub record Spans {N W T : ℕ} (o : Relation N W T) (u v : ℕ) (s : Span W) : Type 0 where
  pub above : (x : ℕ) → has s.above x ≡ (x == u || earlier o x u)
  pub below : (y : ℕ) → has s.below y ≡ (y == v || earlier o v y)
  pub heads : (x : ℕ) → has s.heads x ≡ ((x == u || earlier o x u) && not (earlier o x v))
  pub tails : (y : ℕ) → has s.tails y ≡ ((y == v || earlier o v y) && not (earlier o u y))
