use Rattle.std.proofs.Common.{◌≡◌, ℕ, ◌+◌, ◌-◌, ◌*◌, length, take, drop, ap, ◌∙◌, subst, arith, length-drop}
use Rattle.std.specs.Iterator.Adapters.{enumerate_count}
use Rattle.history.proofs.Numbered.{numbered_at, numbered_next}
use Rattle.packed.specs.Bits.{Put}
use Rattle.packed.specs.Layout.{words, size, event_word}
use Rattle.packed.specs.Writing.{overlaid}
use Rattle.packed.proofs.Backs.{alone, front}
use Rattle.packed.proofs.Grown.{at_fits, at_word, grown, whole_buffer}
use Rattle.packed.proofs.Returns.{length_words}
use Rattle.packed.proofs.writing.put_all.Goals as goal

pub put_event-requires-clause-fits : goal.put_event-requires-clause-fits
put_event-requires-clause-fits g c =
    let es = g.S.Source.events c.args.source.now in
    let i = enumerate_count c.loop-i.i-iterator in
    let next = numbered_next es i c.in-Some.e _ (c.loop-i.invariant.ahead ∙ c.in-Some.ensures.steps.0) in
    at_fits es i c.in-Some.e next.0 c.requires.can.fit

pub loop-i-preserved : goal.loop-i-preserved
loop-i-preserved g c =
    let es = g.S.Source.events c.args.source.now in
    let season = g.S.Source.season c.args.source.now in
    let i = enumerate_count c.loop-i.i-iterator in
    let e = c.in-Some.e in
    let steps = c.in-Some.ensures.steps in
    let next = numbered_next es i e _ (c.loop-i.invariant.ahead ∙ steps.0) in
    let inside = (numbered_at es i e next.0).0 in
    let put = subst (λ n. Put c.loop-i.bytes c.put_event.new.bytes ((n + 1) * 25) 25 (event_word e)) steps.1 c.put_event.ensures in
    record {
      ahead = ap (λ k. drop k es) steps.2 ∙ next.1;
      inside = omega (arith, steps.2);
      bits = λ k h. grown c.loop-i.bytes c.put_event.new.bytes (words season es) (i + 1) (event_word e) c.loop-i.invariant.bits put (at_word es i e next.0 season) k (omega (arith, steps.2));
      rest = λ j h. put.rest j (omega arith) ∙ c.loop-i.invariant.rest j h;
    }

-- the fill runs to the end of the last byte
filled_up : (n : ℕ) → 25 * (n + 1) + (8 * size n - 25 * (n + 1)) ≡ size n * 8
filled_up n = omega arith

pub returns : goal.returns
returns g c =
    let es = g.S.Source.events c.args.source.now in
    let season = g.S.Source.season c.args.source.now in
    let n = c.count-count.result in
    let i = enumerate_count c.loop-i.i-iterator in
    let used = size (length es) in
    let used_is : c.bytes_used.result ≡ used = c.bytes_used.ensures ∙ ap size c.count-count.ensures in
    let lw = length_words season es in
    let buffer = c.args.bytes.now in
    let left : length es - i ≡ 0 = simp length-drop at (ap length (c.loop-i.invariant.ahead ∙ c.in-None.ensures.steps.0.0)) in
    let all : i ≡ length es = omega (arith, left, c.loop-i.invariant.inside) in
    let after : c.put_fill.new.bytes ≡ overlaid season es buffer = whole_buffer buffer c.loop-i.bytes c.put_fill.new.bytes (words season es) (25 * (n + 1)) (8 * size n - 25 * (n + 1)) used
    (λ k h. c.loop-i.invariant.bits k (omega (arith, all)))
    c.put_fill.ensures
    (filled_up n ∙ ap (λ n. size n * 8) c.count-count.ensures)
    (omega arith)
    (omega (arith, c.put_fill.auto.bytes, c.loop-i.auto.bytes, c.put_head.auto.bytes))
    c.requires.room
    (λ j. (c.type_inv.bytes j).fits)
    (λ j h. c.put_fill.ensures.rest j (omega arith) ∙ c.loop-i.invariant.rest j h ∙ c.put_head.ensures.rest j (omega arith)) in
    record {
      used = used_is;
      after = after;
      back = alone season es c.requires.can _ (ap (take c.bytes_used.result) after ∙ ap (λ u. take u (overlaid season es buffer)) used_is ∙ front season es c.requires.can buffer);
    }
