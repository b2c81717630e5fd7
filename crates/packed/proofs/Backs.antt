-- What was written reads back, and nothing else reads so; what was read writes back.
use Rattle.std.proofs.Common.{◌≡◌, ℕ, ◌+◌, ◌*◌, ◌^◌, ◌<◌, ◌≤◌, Bool, true, false, cond, ◌&&◌, List, [], ◌∷◌, ◌++◌, map, length, take, drop, is_ok, Ok, Err, Result, sym, refl, ap, ◌∙◌, arith}
use Rattle.std.proofs.lemmas.List.{take_at}
use Rattle.std.proofs.lemmas.List.FromFn.{length-map-range_with_len}
use Rattle.std.proofs.lemmas.Bool.{ltb-false, le-ltb, not-false, not_from_true, cond-false, le-leb}
use Rattle.history.specs.declared.event.Event.{Event}
use Rattle.packed.specs.declared.header.Header.{Header}
use Rattle.packed.specs.declared.fault.FileFault.{FileFault}
use Rattle.packed.specs.declared.fault.WriteRefusal.{WriteRefusal}
use Rattle.packed.specs.Bits.{bit_in, field}
use Rattle.packed.specs.Layout.{encode, size}
use Rattle.packed.specs.Reading.{checked, season_in, event_in, events_in, season_by, events_by, season_meant, events_meant, Accepted, Means, Bytes}
use Rattle.history.specs.Limits.{within_limits}
use Rattle.packed.specs.Writing.{all_fitting, Writable, writing, overlaid}
use Rattle.packed.specs.RoundTrips.{MeansAlone, WrittenReadsBack, ReadWritesBack}
use Rattle.packed.proofs.Fields.{bit_in_small, field_small}
use Rattle.packed.proofs.Sound.{Sound, sound, accepts}
use Rattle.packed.proofs.Returns.{written_back, count_events, season_back, events_back, sound_back}

-- accepted bytes pass every test
pub sound_if : (bs : List ℕ) → Accepted bs → Sound bs
sound_if bs ok = by (checked bs) refl ok
  where
    by : (r : Result Header FileFault) → checked bs ≡ r → is_ok r ≡ true → Sound bs
    by (Ok h) is t = (sound bs h is).0
    by (Err f) is t = absurd (let z : ◌≡◌ {A = ℕ} 0 1 = cc in omega arith)

pub season_means : (bs : List ℕ) → Sound bs → season_meant bs ≡ season_in bs
season_means bs a = ap season_by (accepts bs a)

pub events_mean : (bs : List ℕ) → Sound bs → events_meant bs ≡ events_in bs
events_mean bs a = ap (events_by bs) (accepts bs a)

-- accepted bytes are the file of their meaning
pub same_bytes : (bs : List ℕ) → Bytes bs → Accepted bs → encode (season_meant bs) (events_meant bs) ≡ bs
same_bytes bs small ok =
    let a = sound_if bs ok in
    ap (λ s. encode s (events_meant bs)) (season_means bs a) ∙ ap (encode (season_in bs)) (events_mean bs a) ∙ written_back bs a small

-- the file of what can be written means it, alone
module _ (season : ℕ) (es : List Event) (can : Writable season es) where
  pub file_means : Means (encode season es) season es
  file_means =
      let bs = encode season es in
      let a = sound_back season es can in
      record {
        accepted = ap is_ok (accepts bs a);
        season_is = season_means bs a ∙ season_back season es can;
        events_are = events_mean bs a ∙ events_back season es can;
      }

  pub file_alone : (cs : List ℕ) → Bytes cs → Means cs season es → cs ≡ encode season es
  file_alone cs small m =
      sym (same_bytes cs small m.accepted) ∙ ap (λ n. encode n (events_meant cs)) m.season_is ∙ ap (encode season) m.events_are

  -- the front of a buffer that it was written into
  pub front : (buffer : List ℕ) → take (size (length es)) (overlaid season es buffer) ≡ encode season es
  front buffer = take_at (encode season es) (drop (size (length es)) buffer) (size (length es)) (length-map-range_with_len _ 0 (size (length es)))

  pub front_means : (bs : List ℕ) → bs ≡ encode season es → Means bs season es
  front_means bs is = let m = file_means in record { accepted = ap (λ l. is_ok (checked l)) is ∙ m.accepted; season_is = ap season_meant is ∙ m.season_is; events_are = ap events_meant is ∙ m.events_are }

  pub alone : (bs : List ℕ) → bs ≡ encode season es → MeansAlone bs season es
  alone bs is = record { means = front_means bs is; alone = λ cs small m. file_alone cs small m ∙ sym is }

-- what an answer of bytes used tells
passed : (b : Bool) (w : WriteRefusal) (r : Result ℕ WriteRefusal) (u : ℕ) → cond b (Err w) r ≡ Ok u → (b ≡ false) × (r ≡ Ok u)
passed true w r u is = absurd (let z : ◌≡◌ {A = ℕ} 0 1 = cc in omega arith)
passed false w r u is = (refl, is)

ok_same : (a b : ℕ) → ◌≡◌ {A = Result ℕ WriteRefusal} (Ok a) (Ok b) → b ≡ a
ok_same a b e = cc

pub record Answered (season : ℕ) (es : List Event) (used : ℕ) : Type 0 where
  pub can : Writable season es
  pub used_is : used ≡ size (length es)

pub answered : (season : ℕ) (es : List Event) (room used : ℕ) → writing season es room ≡ Ok used → Answered season es used
answered season es room used is =
    let a = passed _ _ _ used is in
    let b = passed _ _ _ used a.1 in
    let c = passed _ _ _ used b.1 in
    let d = passed _ _ _ used c.1 in
    record {
      can = record { few = ltb-false _ _ a.0; fit = not-false _ b.0; low = ltb-false _ _ c.0 };
      used_is = ok_same _ _ d.1;
    }

pub answers : (season : ℕ) (es : List Event) (room : ℕ) → Writable season es → size (length es) ≤ room → writing season es room ≡ Ok (size (length es))
answers season es room w h =
    cond-false _ _ _ (le-ltb _ _ w.few)
    ∙ cond-false _ _ _ (not_from_true _ w.fit)
    ∙ cond-false _ _ _ (le-ltb _ _ w.low)
    ∙ cond-false _ _ _ (le-ltb _ _ h)

pub written_reads_back : WrittenReadsBack
written_reads_back season es buffer used is =
    let a = answered season es (length buffer) used is in
    front_means season es a.can _ (ap (λ u. take u (overlaid season es buffer)) a.used_is ∙ front season es a.can buffer)

-- what accepted bytes mean can be written
each_fits : (f : ℕ → Event) → ((i : ℕ) → within_limits (f i) ≡ true) → (is : List ℕ) → all_fitting (map f is) ≡ true
each_fits f all [] = refl
each_fits f all (i ∷ is) = ap (λ b. b && all_fitting (map f is)) (all i) ∙ each_fits f all is

event_fits : (bs : List ℕ) (k : ℕ) → within_limits (event_in bs k) ≡ true
event_fits bs k = four _ _ _ _ (small (k * 25) 1) (small (k * 25 + 1) 4) (small (k * 25 + 5) 6) (small (k * 25 + 11) 14)
  where
    small : (b w : ℕ) → field (bit_in 8 bs) b w < 2 ^ w
    small = field_small (bit_in 8 bs) (bit_in_small 8 bs)

    four : (a b c d : ℕ) → a < 2 ^ 1 → b < 2 ^ 4 → c < 2 ^ 6 → d < 2 ^ 14 → within_limits (record { kind = a; session = b; star = c; revision = d }) ≡ true
    four a b c d ha hb hc hd = rw (le-leb a 1 (omega arith), le-leb b 15 (omega arith), le-leb c 63 (omega arith), le-leb d 16383 (omega arith))

pub read_writable : (bs : List ℕ) → Sound bs → Writable (season_in bs) (events_in bs)
read_writable bs a = record {
  few = moved (count_events bs a) a.few;
  fit = each_fits (λ i. event_in bs (i + 1)) (λ i. event_fits bs (i + 1)) _;
  low = below (field_small (bit_in 8 bs) (bit_in_small 8 bs) 4 12);
}
  where
    moved : {a b c : ℕ} → a ≡ b → b ≤ c → a ≤ c
    moved e l = omega arith

    below : {a : ℕ} → a < 2 ^ 12 → a ≤ 4095
    below h = omega arith

pub read_writes_back : ReadWritesBack
read_writes_back bs small ok buffer room =
    let a = sound_if bs ok in
    let len : size (length (events_in bs)) ≡ length bs = ap size (count_events bs a) ∙ sym a.exact in
    let used : size (length (events_meant bs)) ≡ length bs = ap (λ l. size (length l)) (events_mean bs a) ∙ len in
    record {
      answer =
          ap (λ s. writing s (events_meant bs) (length buffer)) (season_means bs a)
          ∙ ap (λ l. writing (season_in bs) l (length buffer)) (events_mean bs a)
          ∙ answers (season_in bs) (events_in bs) (length buffer) (read_writable bs a) (moved len room)
          ∙ ap Ok len;
      after = ap (λ l. l ++ drop (size (length (events_meant bs))) buffer) (same_bytes bs small ok) ∙ ap (λ u. bs ++ drop u buffer) used;
    }
  where
    moved : {a b c : ℕ} → a ≡ b → b ≤ c → a ≤ c
    moved e l = omega arith
