use Rattle.std.proofs.Common.{◌≡◌, ℕ, suc, ◌<◌, ◌≢◌, sym, refl, ap, ◌∙◌, inl, inr, arith}
use Rattle.history.specs.declared.event.Event.{Event}
use Rattle.order.specs.History.{at, count, Number}
use Rattle.saturation.specs.Recorded.{history_in}
use Rattle.saturation.specs.declared.record.Recorded.{Recorded}
use Rattle.saturation.proofs.Records.{record_accepted}
use Rattle.saturation.proofs.Notes.{no_write, no_star, two_writes_serial, takes_it, takes_other, takes_none, noted_none, noted_self, noted_mate, noted_taker, noted_other}
use Rattle.saturation.proofs.saturate.Facts.note.Goals as goal

-- the event x of a record
module _ {N W : ℕ} (r : Recorded N W) (x : ℕ) (l : x < count (history_in r)) (e : Event) (is : e ≡ at (history_in r) (suc x)) where
  number : Number (history_in r) (suc x)
  number = record { low = omega arith; high = omega arith }

  -- an event that is no write is a read
  is_read_lem : e.kind ≢ 1 → e.kind ≡ 0
  is_read_lem n =
      let k = (record_accepted r).kind (suc x) number in
      let s = ap (λ (z : Event). z.kind) is in
      omega arith

  -- a write has a revision other than 0
  not_zero : e.kind ≡ 1 → e.revision ≢ 0
  not_zero k z =
      (record_accepted r).written (suc x) (record { number = number; kind = ap (λ (z : Event). z.kind) (sym is) ∙ k })
      (ap (λ (z : Event). z.revision) (sym is) ∙ z)

pub returns-then-first-ne-WRITE : goal.returns-then-first-ne-WRITE
returns-then-first-ne-WRITE g c = record {
  same = refl;
  noted = λ D n.
      noted_none c.args.case.now c.args.x c.args.y c.requires.0 c.requires.1 c.event-first.result c.event-second.result c.event-first.ensures c.event-second.ensures D c.args.self.now n
      (elim c.then-first-ne-WRITE.either [
        | inl k ↦ no_write c.event-first.result c.event-second.result k
        | inr k ↦ no_star c.event-first.result c.event-second.result k.1
      ]);
}

pub returns-then-x-y : goal.returns-then-x-y
returns-then-x-y g c = record {
  same = c.add_mate.ensures.same.1;
  noted = λ D n.
      noted_mate c.args.case.now c.args.x c.args.y c.requires.0 c.requires.1 c.event-first.result c.event-second.result c.event-first.ensures c.event-second.ensures D c.args.self.now n c.add_mate.new.self c.if-x-y.true
      c.add_mate.ensures.mates c.add_mate.ensures.rest.1 c.add_mate.ensures.rest.0 c.add_mate.ensures.same.0
      (two_writes_serial c.event-first.result c.event-second.result c.if-first-ne-WRITE.false c.if-first-second.false c.if-second-eq-WRITE.true);
}

pub returns-else-x-y : goal.returns-else-x-y
returns-else-x-y g c = record {
  same = refl;
  noted = λ D n.
      noted_self c.args.case.now c.args.x c.args.y c.requires.0 c.requires.1 c.event-first.result c.event-second.result c.event-first.ensures c.event-second.ensures D c.args.self.now n c.if-x-y.false
      (two_writes_serial c.event-first.result c.event-second.result c.if-first-ne-WRITE.false c.if-first-second.false c.if-second-eq-WRITE.true);
}

pub returns-then-second-first : goal.returns-then-second-first
returns-then-second-first g c =
    let e = c.if-second-first.true in
    let z = not_zero c.args.case.now c.args.x c.requires.0 c.event-first.result c.event-first.ensures c.if-first-ne-WRITE.false in
    record {
      same = c.add_taker.ensures.same;
      noted = λ D n.
          noted_taker c.args.case.now c.args.x c.args.y c.requires.0 c.requires.1 c.event-first.result c.event-second.result c.event-first.ensures c.event-second.ensures D c.args.self.now n c.add_taker.new.self
          c.add_taker.ensures.takers c.add_taker.ensures.rest.1 c.add_taker.ensures.rest.0 c.add_taker.ensures.source
          (takes_it c.event-first.result c.event-second.result c.if-first-ne-WRITE.false c.if-first-second.false (is_read_lem c.args.case.now c.args.y c.requires.1 c.event-second.result c.event-second.ensures c.if-second-eq-WRITE.false) (λ k. z (sym e ∙ k)) e);
    }

pub returns-then-second-ne0 : goal.returns-then-second-ne0
returns-then-second-ne0 g c = record {
  same = c.add_other.ensures.same.1;
  noted = λ D n.
      noted_other c.args.case.now c.args.x c.args.y c.requires.0 c.requires.1 c.event-first.result c.event-second.result c.event-first.ensures c.event-second.ensures D c.args.self.now n c.add_other.new.self
      c.add_other.ensures.others c.add_other.ensures.rest.0 c.add_other.ensures.rest.1 c.add_other.ensures.same.0
      (takes_other c.event-first.result c.event-second.result c.if-first-ne-WRITE.false c.if-first-second.false (is_read_lem c.args.case.now c.args.y c.requires.1 c.event-second.result c.event-second.ensures c.if-second-eq-WRITE.false) c.if-second-ne0.true c.if-second-first.false);
}

pub returns-else-second-ne0 : goal.returns-else-second-ne0
returns-else-second-ne0 g c = record {
  same = refl;
  noted = λ D n.
      noted_none c.args.case.now c.args.x c.args.y c.requires.0 c.requires.1 c.event-first.result c.event-second.result c.event-first.ensures c.event-second.ensures D c.args.self.now n
      (takes_none c.event-first.result c.event-second.result c.if-first-ne-WRITE.false c.if-first-second.false (is_read_lem c.args.case.now c.args.y c.requires.1 c.event-second.result c.event-second.ensures c.if-second-eq-WRITE.false) c.if-second-ne0.false);
}
