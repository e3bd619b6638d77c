-- What is read, and what the format spells.
use Rattle.std.proofs.Common.{◌≡◌, ◌==◌, ◌≤◌, ◌<◌, ◌+◌, ◌-◌, ℕ, zero, suc, Bool, true, false, List, [], ◌∷◌, ◌++◌, length, take, drop, map, Option, Some}
use Rattle.std.proofs.Common.{None, Result, Ok, Err, refl, ap, sym, ◌∙◌, append_assoc, subst, arith, inl, inr, length-drop, length-append}
use Rattle.std.specs.Prelude.{slice_range}
use Rattle.std.proofs.Math.Seq.{take-add}
use Rattle.std.proofs.lemmas.List.{drop-drop, length-take-le, drop_at, take_at}
use Rattle.std.proofs.lemmas.Bool.{cases_lt}
use Rattle.std.proofs.lemmas.Bool.Decides.{nat_tests}
use Rattle.mn_pcap.specs.declared.message.Place.{Place}
use Rattle.mn_pcap.specs.declared.refusal.PcapBad.{PcapBad}
use Rattle.mn_pcap.specs.Grammar.{number, IsRecord, AreRecords}
use Rattle.mn_pcap.specs.Reading.{captured_length, record_at, place_of, end_of, records_from, bytes_at}
use Rattle.mn_pcap.specs.Pieces.{Stand}
use Rattle.mn_pcap.proofs.ByteNumbers.{number-front, number-field}
use Rattle.mn_pcap.proofs.InOrder.{IsRead, is_read, next, ended, refused_there}
use Rattle.mn_pcap.proofs.Pieces.{whole_record}

-- Lists.

pub range_in_two : (xs : List ℕ) (a b c : ℕ) → a ≤ b → b ≤ c → slice_range xs a c ≡ slice_range xs a b ++ slice_range xs b c
range_in_two xs a b c low high =
    let size : c - a ≡ (b - a) + (c - b) = omega arith in
    let moved : a + (b - a) ≡ b = omega arith in
    ap (λ (n : ℕ). take n (drop a xs)) size
    ∙ take-add (b - a) (c - b) (drop a xs)
    ∙ ap (λ (ys : List ℕ). take (b - a) (drop a xs) ++ take (c - b) ys) (drop-drop (b - a) a xs ∙ ap (λ (n : ℕ). drop n xs) moved)

pub length-range : (xs : List ℕ) (a b : ℕ) → a ≤ b → b ≤ length xs → length (slice_range xs a b) ≡ b - a
length-range xs a b low high = length-take-le (b - a) (drop a xs) (simp length-drop (omega arith))

-- Records one after another, each read.

-- the end of the file, or a refusal
abbrev pub Stops : Bool → List ℕ → ℕ → Option PcapBad → Type 0
Stops big bytes end None = end ≡ length bytes
Stops big bytes end (Some bad) = (end < length bytes) × (record_at big bytes end ≡ Err bad)

pub record Standing (big : Bool) (bytes : List ℕ) (at : ℕ) (found : List Place × Option PcapBad) : Type 0 where
  pub end : ℕ
  pub within : end ≤ length bytes
  pub stand : Stand big bytes at found.0 end
  pub stops : Stops big bytes end found.1

step : (most : ℕ) (big : Bool) (bytes : List ℕ) (at : ℕ) → at < length bytes → length bytes ≤ at + suc most
    → ((from : ℕ) → from ≤ length bytes → length bytes ≤ from + most → Standing big bytes from (records_from most big bytes from))
    → (r : Result Place PcapBad) → record_at big bytes at ≡ r → Standing big bytes at (records_from (suc most) big bytes at)
step most big bytes at before enough others (Ok place) is =
    let r = is_read big bytes at place is in
    let further = r.after in
    let more = others (end_of place) r.whole (omega arith) in
    let open_ : (at == length bytes) ≡ false = grind (arith, nat_tests) in
    subst (λ (x : List Place × Option PcapBad). Standing big bytes at x) (sym (next most big bytes at place open_ is))
    (record { end = more.end; within = more.within; stand = (is, more.stand); stops = more.stops })
step most big bytes at before enough others (Err bad) is =
    let open_ : (at == length bytes) ≡ false = grind (arith, nat_tests) in
    subst (λ (x : List Place × Option PcapBad). Standing big bytes at x) (sym (refused_there most big bytes at bad open_ is))
    (record { end = at; within = omega arith; stand = refl; stops = (before, is) })

at_the_end : (most : ℕ) (big : Bool) (bytes : List ℕ) (at : ℕ) → at ≡ length bytes → Standing big bytes at (records_from most big bytes at)
at_the_end most big bytes at is =
    let closed : (at == length bytes) ≡ true = grind (arith, nat_tests) in
    subst (λ (x : List Place × Option PcapBad). Standing big bytes at x) (sym (ended most big bytes at closed))
    (record { end = at; within = omega arith; stand = refl; stops = is })

pub standing : (most : ℕ) (big : Bool) (bytes : List ℕ) (at : ℕ) → at ≤ length bytes → length bytes ≤ at + most →
    Standing big bytes at (records_from most big bytes at)
standing zero big bytes at within enough = at_the_end zero big bytes at (omega arith)
standing (suc most) big bytes at within enough = elim (cases_lt at (length bytes)) [
  | inl before ↦ step most big bytes at before enough (λ from w e. standing most big bytes from w e) (record_at big bytes at) refl
  | inr past ↦ at_the_end (suc most) big bytes at (omega arith)
]

-- What is read is spelled so.

one_spelled : (big : Bool) (bytes : List ℕ) (at : ℕ) (place : Place) → IsRead big bytes at place →
    IsRecord big (slice_range bytes at (end_of place)) (bytes_at bytes place)
one_spelled big bytes at place r =
    let end = ap end_of r.place_is in
    let whole = r.whole in
    let size : length (bytes_at bytes (place_of big bytes at)) ≡ captured_length big bytes at =
    length-range bytes (at + 16) (at + 16 + captured_length big bytes at) (omega arith) (omega arith) ∙ omega arith in
    let first : at + 16 - at ≡ 16 = omega arith in
    subst (λ (p : Place). IsRecord big (slice_range bytes at (end_of p)) (bytes_at bytes p)) (sym r.place_is) (record {
      header = slice_range bytes at (at + 16);
      size = length-range bytes at (at + 16) (omega arith) r.header ∙ first;
      length_says =
          ap (λ (n : ℕ). number big 4 (drop 8 (take n (drop at bytes)))) first ∙ number-front big 4 8 16 (drop at bytes) (omega arith)
          ∙ ap (λ (xs : List ℕ). number big 4 xs) (drop-drop 8 at bytes) ∙ sym size;
      within = let lawful = r.lawful in omega arith;
      whole = range_in_two bytes at (at + 16) (at + 16 + captured_length big bytes at) (omega arith) (omega arith);
    })

pub record Spelled (big : Bool) (bytes : List ℕ) (at : ℕ) (places : List Place) (end : ℕ) : Type 0 where
  pub before : at ≤ end
  pub are_records : AreRecords big (slice_range bytes at end) (map (bytes_at bytes) places)

pub spelled : (big : Bool) (bytes : List ℕ) (at : ℕ) (places : List Place) (end : ℕ) → end ≤ length bytes → Stand big bytes at places end →
    Spelled big bytes at places end
spelled big bytes at [] end within is =
    let none : end - at ≡ 0 = omega arith in
    record { before = omega arith; are_records = ap (λ (n : ℕ). take n (drop at bytes)) none }
spelled big bytes at (place ∷ places) end within is =
    let r = is_read big bytes at place is.0 in
    let more = spelled big bytes (end_of place) places end within is.1 in
    let further = r.after in
    let high = more.before in
    record {
      before = omega arith;
      are_records = (
        slice_range bytes at (end_of place),
        slice_range bytes (end_of place) end,
        range_in_two bytes at (end_of place) end
            (omega arith) high,
        one_spelled big bytes at place r,
        more.are_records,
      );
    }

-- What is spelled so is read.

-- the first record is read
pub record First (big : Bool) (bytes : List ℕ) (at : ℕ) (captured others : List ℕ) : Type 0 where
  pub is : record_at big bytes at ≡ Ok (place_of big bytes at)
  pub bytes_are : bytes_at bytes (place_of big bytes at) ≡ captured
  pub before : at < end_of (place_of big bytes at)
  pub whole : end_of (place_of big bytes at) ≤ length bytes
  pub others_are : drop (end_of (place_of big bytes at)) bytes ≡ others

first_is_read : (big : Bool) (bytes : List ℕ) (at : ℕ) (first captured others : List ℕ) → at ≤ length bytes → drop at bytes ≡ first ++ others →
    IsRecord big first captured → First big bytes at captured others
first_is_read big bytes at first captured others low split r =
    let parts : drop at bytes ≡ r.header ++ (captured ++ others) = split ∙ ap (λ (xs : List ℕ). xs ++ others) r.whole ∙ append_assoc r.header captured others in
    let header = r.size in
    let size : captured_length big bytes at ≡ length captured =
    ap (λ (xs : List ℕ). number big 4 xs) (sym (drop-drop 8 at bytes))
    ∙ ap (λ (xs : List ℕ). number big 4 (drop 8 xs)) parts
    ∙ number-field big 4 8 r.header (captured ++ others) (omega arith)
    ∙ r.length_says in
    let lengths : length bytes - at ≡ 16 + (length captured + length others) =
    sym (length-drop at bytes) ∙ ap length parts ∙ length-append r.header (captured ++ others) ∙ (let l = length-append captured others in
    omega arith) in
    let tail : drop (at + 16) bytes ≡ captured ++ others =
    sym (drop-drop 16 at bytes) ∙ ap (λ (xs : List ℕ). drop 16 xs) parts ∙ drop_at r.header (captured ++ others) 16 header in
    let within = r.within in
    let count : at + 16 + captured_length big bytes at - (at + 16) ≡ length captured = omega arith in
    let end : at + 16 + captured_length big bytes at ≡ (at + 16) + length captured = omega arith in
    record {
      is = whole_record big bytes at (omega arith) (omega arith) (omega arith);
      bytes_are =
          ap (λ (n : ℕ). take n (drop (at + 16) bytes)) count ∙ ap (λ (xs : List ℕ). take (length captured) xs) tail
          ∙ take_at captured others (length captured) refl;
      before = omega arith;
      whole = omega arith;
      others_are =
          ap (λ (n : ℕ). drop n bytes) end ∙ sym (drop-drop (length captured) (at + 16) bytes) ∙ ap (λ (xs : List ℕ). drop (length captured) xs) tail
          ∙ drop_at captured others (length captured) refl;
    }

pub record ReadAgain (bytes : List ℕ) (captured : List (List ℕ)) (found : List Place × Option PcapBad) : Type 0 where
  pub captured_are : map (bytes_at bytes) found.0 ≡ captured
  pub whole : found.1 ≡ None

past_the_end : (bytes : List ℕ) (at : ℕ) → at ≤ length bytes → drop at bytes ≡ [] → at ≡ length bytes
past_the_end bytes at low is = let l = sym (length-drop at bytes) ∙ ap length is in omega arith

pub read_again : (big : Bool) (bytes : List ℕ) (captured : List (List ℕ)) (most at : ℕ) → at ≤ length bytes → length bytes ≤ at + most →
    AreRecords big (drop at bytes) captured → ReadAgain bytes captured (records_from most big bytes at)
read_again big bytes [] most at low enough is =
    let end = past_the_end bytes at low is in
    let closed : (at == length bytes) ≡ true = grind (arith, nat_tests) in
    subst (λ (x : List Place × Option PcapBad). ReadAgain bytes [] x) (sym (ended most big bytes at closed)) (record { captured_are = refl; whole = refl })
read_again big bytes (one ∷ more) zero at low enough is =
    let f = first_is_read big bytes at is.0 one is.1 low is.2 is.3 in
    let b = f.before in
    let w = f.whole in
    absurd (omega arith)
read_again big bytes (one ∷ more) (suc most) at low enough is =
    let f = first_is_read big bytes at is.0 one is.1 low is.2 is.3 in
    let b = f.before in
    let w = f.whole in
    let open_ : (at == length bytes) ≡ false = grind (arith, nat_tests) in
    let others : AreRecords big (drop (end_of (place_of big bytes at)) bytes) more = subst (λ (xs : List ℕ). AreRecords big xs more) (sym f.others_are) is.4 in
    let rest = read_again big bytes more most (end_of (place_of big bytes at)) w (omega arith) others in
    subst (λ (x : List Place × Option PcapBad). ReadAgain bytes (one ∷ more) x) (sym (next most big bytes at (place_of big bytes at) open_ f.is))
    (record {
      captured_are =
          ap (λ (c : List ℕ). c ∷ map (bytes_at bytes) (records_from most big bytes (end_of (place_of big bytes at))).0) f.bytes_are
          ∙ ap (λ (cs : List (List ℕ)). one ∷ cs) rest.captured_are;
      whole = rest.whole;
    })
