-- Writing and reading back.
use Rattle.std.proofs.Common.{◌≡◌, ℕ, zero, suc, ◌+◌, ◌-◌, ◌*◌, ◌/◌, ◌%◌, ◌^◌, ◌<◌, ◌≤◌, true, List, [], ◌∷◌, map, length, get_or, sym, refl, ap, ◌∙◌, inl, inr, add-one, arith}
use native.Mathlib.Nat.{zero-div}
use lib.ListN.{length-map}
use Rattle.std.specs.List.{range_with_len}
use Rattle.std.proofs.lemmas.List.{get_or-map, get_or_past}
use Rattle.std.proofs.lemmas.List.FromFn.{get_or-map-range_with_len, length-map-range_with_len, fill_by_all}
use Rattle.std.proofs.lemmas.Bool.{cases_lt, and_parts, leb-true}
use Rattle.std.proofs.lemmas.Nat.{div-add-mod', mod_below}
use Rattle.history.specs.declared.event.Event.{Event}
use Rattle.packed.specs.Bits.{bit_of, bit_in, field}
use Rattle.packed.specs.Layout.{head_word, event_word, words, size, encode}
use Rattle.packed.specs.Reading.{version_in, season_in, count_in, event_in, events_in}
use Rattle.history.specs.Limits.{within_limits}
use Rattle.packed.specs.Writing.{all_fitting, Writable}
use Rattle.packed.proofs.Fields.{bit_in_small, field_same, bit_field, field_within, join, bit_grouped, grouped_is}
use Rattle.packed.proofs.Sound.{Sound}

abbrev pub none : Event
none = record { kind = 0; session = 0; star = 0; revision = 0 }

pub no_bit : (k : ℕ) → 0 / 2 ^ k % 2 ≡ 0
no_bit k = ap (λ n. n % 2) (zero-div (2 ^ k))

-- past the words the bits are 0
pub past_bit : (ws : List ℕ) (i : ℕ) → length ws ≤ i / 25 → bit_in 25 ws i ≡ 0
past_bit ws i h = ap (λ d. bit_of 25 d (i % 25)) (get_or_past ws (i / 25) 0 h) ∙ no_bit (24 - i % 25)

-- accepted bytes: each word is 25 of their bits
module _ (bs : List ℕ) (a : Sound bs) where
  f : ℕ → ℕ
  f = bit_in 8 bs

  s : (i : ℕ) → f i < 2
  unfolding f
  s = bit_in_small 8 bs

  ws : List ℕ
  ws = words (season_in bs) (events_in bs)

  head_word_lem : head_word (season_in bs) (count_in bs) ≡ field f 0 25
  unfolding f
  head_word_lem =
      ap (λ v. (v * 2 ^ 12 + field f 4 12) * 2 ^ 9 + field f 16 9) (sym a.version)
      ∙ ap (λ n. n * 2 ^ 9 + field f 16 9) (join f 0 4 12 4 refl)
      ∙ join f 0 16 9 16 refl

  event_word_lem : (k : ℕ) → event_word (event_in bs k) ≡ field f (k * 25) 25
  unfolding f
  event_word_lem k =
      ap (λ n. (n * 2 ^ 6 + field f (k * 25 + 5) 6) * 2 ^ 14 + field f (k * 25 + 11) 14) (join f (k * 25) 1 4 (k * 25 + 1) refl)
      ∙ ap (λ n. n * 2 ^ 14 + field f (k * 25 + 11) 14) (join f (k * 25) 5 6 (k * 25 + 5) refl)
      ∙ join f (k * 25) 11 14 (k * 25 + 11) refl

  word_in : (k : ℕ) → k ≤ count_in bs → get_or ws k 0 ≡ field f (k * 25) 25
  unfolding f ws
  word_in zero h = ap (head_word (season_in bs)) (length-map-range_with_len (λ i. event_in bs (i + 1)) 0 (count_in bs)) ∙ head_word_lem
  word_in (suc k) h =
      get_or-map event_word (events_in bs) k none 0 (simp length-map-range_with_len (omega arith))
      ∙ ap event_word (get_or-map-range_with_len (λ i. event_in bs (i + 1)) 0 (count_in bs) k k none (omega arith) (omega arith))
      ∙ ap (λ n. event_word (event_in bs n)) (add-one k) ∙ event_word_lem (suc k)

  pub count_events : length (events_in bs) ≡ count_in bs
  count_events = length-map-range_with_len (λ i. event_in bs (i + 1)) 0 (count_in bs)

  same_bit : (i : ℕ) → i < 8 * length bs → f i ≡ bit_in 25 ws i
  unfolding f ws
  same_bit i h =
      elim (cases_lt (i / 25) (count_in bs + 1)) [
        | inl lt ↦
            sym (ap (λ d. bit_of 25 d (i % 25)) (word_in (i / 25) (omega arith))
            ∙ bit_field f s (i / 25 * 25) 25 (i % 25) (mod_below i 25 (omega arith))
            ∙ ap f (div-add-mod' i 25))
        | inr ge ↦
            let past : length ws ≤ i / 25 = omega (arith, length-map (events_in bs) event_word, count_events) in
            a.fill i (omega arith) h ∙ sym (past_bit ws i past)
      ]

  pub written_back : ((j : ℕ) → get_or bs j 0 < 256) → encode (season_in bs) (events_in bs) ≡ bs
  unfolding f ws
  written_back small =
      let e : length bs ≡ size (length (events_in bs)) = a.exact ∙ ap size (sym count_events) in
      sym (grouped_is 8 bs (bit_in 25 ws) (size (length (events_in bs))) e (λ j h. small j) (λ j k hj hk. same_bit (j * 8 + k) (within j k (size (length (events_in bs))) (length bs) e hj hk)))
    where
      within : (j k n m : ℕ) → m ≡ n → j < n → k < 8 → j * 8 + k < 8 * m
      within j k n m e hj hk = omega arith

-- an event's fields, taken out of its word
parts : (k s t r : ℕ) → k ≤ 1 → s ≤ 15 → t ≤ 63 → r ≤ 16383
    → ((((k * 2 ^ 4 + s) * 2 ^ 6 + t) * 2 ^ 14 + r) / 2 ^ 24 % 2 ^ 1 ≡ k)
    × ((((k * 2 ^ 4 + s) * 2 ^ 6 + t) * 2 ^ 14 + r) / 2 ^ 20 % 2 ^ 4 ≡ s)
    × ((((k * 2 ^ 4 + s) * 2 ^ 6 + t) * 2 ^ 14 + r) / 2 ^ 14 % 2 ^ 6 ≡ t)
    × ((((k * 2 ^ 4 + s) * 2 ^ 6 + t) * 2 ^ 14 + r) / 2 ^ 0 % 2 ^ 14 ≡ r)
parts k s t r hk hs ht hr = (omega arith, omega arith, omega arith, omega arith)

head_parts : (s n : ℕ) → s ≤ 4095 → n ≤ 256
    → (head_word s n / 2 ^ 21 % 2 ^ 4 ≡ 1) × (head_word s n / 2 ^ 9 % 2 ^ 12 ≡ s) × (head_word s n / 2 ^ 0 % 2 ^ 9 ≡ n)
head_parts s n hs hn = (omega arith, omega arith, omega arith)

pub record Fits (e : Event) : Type 0 where
  pub kind : e.kind ≤ 1
  pub session : e.session ≤ 15
  pub star : e.star ≤ 63
  pub revision : e.revision ≤ 16383

pub fits : (e : Event) → within_limits e ≡ true → Fits e
fits e h =
    let a = and_parts _ _ h in
    let b = and_parts _ _ a.1 in
    let c = and_parts _ _ b.1 in
    record { kind = leb-true _ _ a.0; session = leb-true _ _ b.0; star = leb-true _ _ c.0; revision = leb-true _ _ c.1 }

pub fits_at : (es : List Event) → all_fitting es ≡ true → (k : ℕ) → k < length es → Fits (get_or es k none)
fits_at [] h k l = absurd (omega arith)
fits_at (e ∷ es) h zero l = fits e (and_parts _ _ h).0
fits_at (e ∷ es) h (suc k) l = fits_at es (and_parts _ _ h).1 k (omega arith)

same_event : (e : Event) (k s t r : ℕ) → k ≡ e.kind → s ≡ e.session → t ≡ e.star → r ≡ e.revision → e ≡ record { kind = k; session = s; star = t; revision = r }
same_event e k s t r a b c d = rw (a, b, c, d)

pub length_words : (season : ℕ) (es : List Event) → length (words season es) ≡ length es + 1
length_words season es = omega (arith, length-map es event_word)

module _ (season : ℕ) (es : List Event) (can : Writable season es) where
  n : ℕ
  n = length es

  vs : List ℕ
  vs = words season es

  bs : List ℕ
  bs = encode season es

  bits : (i : ℕ) → i / 8 < size n → bit_in 8 bs i ≡ bit_in 25 vs i
  unfolding n vs bs
  bits i h = bit_grouped (bit_in 25 vs) (bit_in_small 25 vs) 8 (size n) i (omega arith) h

  len : length bs ≡ size n
  unfolding n vs bs
  len = length-map-range_with_len (λ j. field (bit_in 25 vs) (j * 8) 8) 0 (size n)

  fields : (j a u c b : ℕ) → a + u + c ≡ 25 → j ≤ n → j * 25 + a ≡ b → field (bit_in 8 bs) b u ≡ get_or vs j 0 / 2 ^ c % 2 ^ u
  fields j a u c b e l at =
      ap (λ b. field (bit_in 8 bs) b u) (sym at)
      ∙ field_same (bit_in 8 bs) (bit_in 25 vs) (j * 25 + a) (j * 25 + a) u (λ k h. bits (j * 25 + a + k) (omega arith))
      ∙ field_within 25 vs j a u c e

  version : version_in bs ≡ 1
  unfolding n vs
  version = fields 0 0 4 21 0 refl (omega arith) refl ∙ (head_parts season n can.low can.few).0

  pub season_back : season_in (encode season es) ≡ season
  unfolding n vs bs
  season_back = fields 0 4 12 9 4 refl (omega arith) refl ∙ (head_parts season n can.low can.few).1

  pub count_back : count_in (encode season es) ≡ length es
  unfolding n vs bs
  count_back = fields 0 16 9 0 16 refl (omega arith) refl ∙ (head_parts season n can.low can.few).2

  event_back : (k : ℕ) → k < length es → get_or es k none ≡ event_in (encode season es) (k + 1)
  unfolding n vs bs
  event_back k h =
      let e = get_or es k none in
      let f = fits_at es can.fit k h in
      let word : get_or vs (k + 1) 0 ≡ event_word e = ap (λ i. get_or vs i 0) (add-one k) ∙ get_or-map event_word es k none 0 h in
      let p = parts e.kind e.session e.star e.revision f.kind f.session f.star f.revision in
      same_event e _ _ _ _
      (fields (k + 1) 0 1 24 ((k + 1) * 25) refl (omega arith) (omega arith) ∙ ap (λ w. w / 2 ^ 24 % 2 ^ 1) word ∙ p.0)
      (fields (k + 1) 1 4 20 ((k + 1) * 25 + 1) refl (omega arith) refl ∙ ap (λ w. w / 2 ^ 20 % 2 ^ 4) word ∙ p.1)
      (fields (k + 1) 5 6 14 ((k + 1) * 25 + 5) refl (omega arith) refl ∙ ap (λ w. w / 2 ^ 14 % 2 ^ 6) word ∙ p.2)
      (fields (k + 1) 11 14 0 ((k + 1) * 25 + 11) refl (omega arith) refl ∙ ap (λ w. w / 2 ^ 0 % 2 ^ 14) word ∙ p.3)

  pub events_back : events_in (encode season es) ≡ es
  unfolding n vs bs
  events_back =
      ap (λ c. map (λ i. event_in bs (i + 1)) (range_with_len 0 c)) count_back
      ∙ sym (fill_by_all (λ i. event_in bs (i + 1)) es (length es) none refl event_back)

  pub sound_back : Sound (encode season es)
  unfolding n vs bs
  sound_back = record {
    long = enough (length bs) n len;
    version = version;
    few = moved count_back can.few;
    exact = len ∙ ap size (sym count_back);
    fill = λ i l h. bits i (within i (length bs) (size n) len h) ∙ past_bit vs i (behind i (count_in bs) n (length vs) count_back l (length_words season es));
  }
    where
      enough : (m n : ℕ) → m ≡ size n → 4 ≤ m
      enough m n e = omega arith

      moved : {a b c : ℕ} → a ≡ b → b ≤ c → a ≤ c
      moved e l = omega arith

      within : (i m n : ℕ) → m ≡ n → i < 8 * m → i / 8 < n
      within i m n e h = omega arith

      behind : (i c n m : ℕ) → c ≡ n → 25 * (c + 1) ≤ i → m ≡ n + 1 → m ≤ i / 25
      behind i c n m e l w = omega arith
