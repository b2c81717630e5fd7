use Rattle.std.proofs.Common.{◌≡◌, ◌^◌, ◌<◌, length, get_or, sym, refl, inl, inr, arith, rules}
use lib.Bits.{and_zero_l}
use Rattle.std.proofs.lemmas.List.{get_or_past}
use Rattle.std.proofs.lemmas.Bool.{cases_lt, false≢true}
use Rattle.std.proofs.lemmas.Slice.Zip.{zip_turn, zip_end}
use Rattle.sets.proofs.Words.{meets_at, meets_none}
use Rattle.sets.proofs.set.EventSet.intersects.Goals as goal

pub returns-then-a-b-ne0 : goal.returns-then-a-b-ne0
returns-then-a-b-ne0 g c =
    let ws = c.args.self.now.words in
    let vs = c.args.other.now.words in
    let small : c.in-Some.a.now < 2 ^ 64 = search rules in
    let turn = zip_turn ws vs c.loop-a.yielded c.into_iter-a-iterator.result c.loop-a.a-iterator c.next.new.self c.next.result (search rules) (search rules) c.loop-a.yielded_by (c.in-Some.a, c.in-Some.b) c.in-Some.is c.next.ensures.steps in
    (λ _. meets_at ws vs (length c.loop-a.yielded) (rw (sym (turn.2 0)) small) (rw (sym (turn.2 0), sym (turn.3 0)) c.if-a-b-ne0.true), λ _. refl)

pub returns : goal.returns
returns g c =
    let ws = c.args.self.now.words in
    let vs = c.args.other.now.words in
    let end = zip_end ws vs c.loop-a.yielded c.into_iter-a-iterator.result c.loop-a.a-iterator c.next.new.self c.next.result (search rules) (search rules) c.loop-a.yielded_by c.in-None.is c.next.ensures.steps in
    let all : length c.loop-a.yielded ≡ length ws = omega (arith, end) in (
      λ e. absurd (false≢true e),
      λ m. absurd (meets_none ws vs
          (λ i. elim (cases_lt i (length c.loop-a.yielded)) [
            | inl l ↦ c.loop-a.invariant i l
            | inr l ↦
                let z : get_or ws i 0 ≡ 0 = get_or_past ws i 0 (omega arith) in
                rw (z, and_zero_l (get_or vs i 0))
          ])
          m),
    )
