use Rattle.std.proofs.Common.{◌≡◌, ℕ, ◌+◌, ◌<◌, ◌≤◌, List, [], ◌∷◌, ◌++◌, length, get_or, take, decimal, sym, ap, ◌∙◌, arith, length-append}
use Rattle.std.proofs.lemmas.List.{append_assoc, take_more, flat_map_more}
use Rattle.std.proofs.lemmas.List.Folds.{length-flat_map-take}
use Rattle.full_report.specs.Text.{blank_number, numbers_text}
use Rattle.full_report.proofs.lines.push_order_line.Goals as goal

-- Where the whole line fits, what the turn at i appends does.
turn_fits : (start text ns : List ℕ) (i : ℕ) → i < length ns → text ≡ start ++ numbers_text (take i ns) → length start + length (numbers_text ns ++ (10 ∷ [])) ≤ 1024 → length text + 1 + length (decimal (get_or ns i 0)) ≤ 1024
turn_fits start text ns i l is room =
    let fits = length-flat_map-take blank_number ns i 0 l in
    omega (arith, ap length is ∙ length-append start (numbers_text (take i ns)), length-append (numbers_text ns) (10 ∷ []), fits)

pub push_str-requires-in-loop-n : goal.push_str-requires-in-loop-n
push_str-requires-in-loop-n c =
    omega (arith, turn_fits c.push_str.new.self.bytes c.loop-n.text.bytes c.args.numbers.now c.loop-n.n-index c.loop-n-test.true c.loop-n.invariant (omega arith))

pub push_number-requires : goal.push_number-requires
push_number-requires c =
    let fits = turn_fits c.push_str.new.self.bytes c.loop-n.text.bytes c.args.numbers.now c.loop-n.n-index c.loop-n-test.true c.loop-n.invariant (omega arith) in
    omega (arith, fits, ap (λ n. length (decimal n)) c.into.ensures)

pub loop-n-preserved : goal.loop-n-preserved
loop-n-preserved c =
    let ns = c.args.numbers.now in
    let i = c.loop-n.n-index in
    let start = c.push_str.new.self.bytes in
    let more = flat_map_more blank_number start (take i ns) (get_or ns i 0) ∙ ap (λ l. start ++ numbers_text l) (sym (take_more ns i 0 c.loop-n-test.true)) in
    let turn = append_assoc c.loop-n.text.bytes (32 ∷ []) (decimal (get_or ns i 0)) in
    cc (more, turn, c.loop-n.invariant, c.push_str-in-loop-n.ensures.bytes, c.push_number.ensures, c.into.ensures)
