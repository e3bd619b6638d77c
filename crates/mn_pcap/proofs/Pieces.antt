-- What has been read stays read when more bytes come, and so does what is refused for good.
use Rattle.std.proofs.Common.{◌≡◌, ◌==◌, ◌≤◌, ◌<◌, ◌+◌, ℕ, Bool, true, false, List, [], ◌∷◌, ◌++◌, length, Result, Ok, Err, refl, ap, sym, ◌∙◌}
use Rattle.std.proofs.Common.{append_assoc, subst, arith, inl, inr, length-append}
use Rattle.std.specs.Prelude.{nat_lt, not, ◌||◌, if◌then◌else◌}
use Rattle.std.proofs.lemmas.List.{append-nil}
use Rattle.std.proofs.lemmas.Bool.{cases_lt}
use Rattle.std.proofs.lemmas.Bool.Decides.{nat_tests}
use Rattle.mn_pcap.specs.declared.message.Form.{Form}
use Rattle.mn_pcap.specs.declared.message.Place.{Place}
use Rattle.mn_pcap.specs.declared.refusal.PcapRule.TheVariants.{CutShort, IsPcapng, BadMagic, BadVersion, BadLinkType, BadRecord}
use Rattle.mn_pcap.specs.declared.refusal.PcapBad.{PcapBad}
use Rattle.mn_pcap.specs.declared.refusal.PcapBad.TheVariants.{Refused}
use Rattle.mn_pcap.specs.Format.{snaplen}
use Rattle.mn_pcap.specs.Grammar.{number}
use Rattle.mn_pcap.specs.Reading.{pcapng, is_big, is_little, is_version, is_link_type, link_type, form_of, header_of, first_refusal, unless}
use Rattle.mn_pcap.specs.Reading.{captured_length, record_at, place_of, end_of}
use Rattle.mn_pcap.specs.Lasting.{lasts}
use Rattle.mn_pcap.specs.Pieces.{Stand, IsBetween}
use Rattle.mn_pcap.proofs.ByteNumbers.{number-append, number-field}
use Rattle.mn_pcap.proofs.InOrder.{header_is_read, is_read, Continues, begins_by, continues}

-- The header.

header_same : (bytes more : List ℕ) → 24 ≤ length bytes → header_of (bytes ++ more) ≡ header_of bytes
unfolding header_of
header_same bytes more long =
    let size = length-append bytes more in
    let a : nat_lt (length (bytes ++ more)) 4 ≡ nat_lt (length bytes) 4 = grind (arith, nat_tests) in
    let d : nat_lt (length (bytes ++ more)) 24 ≡ nat_lt (length bytes) 24 = grind (arith, nat_tests) in
    let high = number-append true 4 bytes more (omega arith) in
    let low = number-append false 4 bytes more (omega arith) in
    let major = number-field (is_big bytes) 2 4 bytes more (omega arith) in
    let minor = number-field (is_big bytes) 2 6 bytes more (omega arith) in
    let link = number-field (is_big bytes) 4 20 bytes more (omega arith) in
    rw (a, d, high, low, major, minor, link) refl

pub header_more : (bytes more : List ℕ) (form : Form) → header_of bytes ≡ Ok form → header_of (bytes ++ more) ≡ Ok form
header_more bytes more form e = header_same bytes more (header_is_read bytes form e).size ∙ e

not_lasting : {X : Type 0} (bad : PcapBad) (place : ℕ) → (let cut : Result X PcapBad = Err (Refused CutShort place) in cut ≡ Err bad) → lasts bad ≡ true → ⊥
not_lasting bad place is last = let same : Refused CutShort place ≡ bad = cc in cc (ap lasts same)

-- the first three rules look at four bytes, and a file that is shorter than its header is refused by the fourth at the latest
by_four : {X : Type 0} (x y : X) (bad : PcapBad) (a b c d e f a' b' c' d' e' f' : Bool) → a' ≡ false → b' ≡ b → c' ≡ c → d ≡ true
    → unless (first_refusal ((a, Refused CutShort 0) ∷ (b, Refused IsPcapng 0) ∷ (c, Refused BadMagic 0) ∷ (d, Refused CutShort 0)
    ∷ (e, Refused BadVersion 4) ∷ (f, Refused BadLinkType 20) ∷ [])) x ≡ Err bad
    → lasts bad ≡ true
    → unless (first_refusal ((a', Refused CutShort 0) ∷ (b', Refused IsPcapng 0) ∷ (c', Refused BadMagic 0) ∷ (d', Refused CutShort 0)
    ∷ (e', Refused BadVersion 4) ∷ (f', Refused BadLinkType 20) ∷ [])) y ≡ Err bad
by_four x y bad true b c d e f a' b' c' d' e' f' long same also short is last = absurd (not_lasting bad 0 is last)
by_four x y bad false true c d e f a' b' c' d' e' f' long same also short is last = rw (long, same) is
by_four x y bad false false true d e f a' b' c' d' e' f' long same also short is last = rw (long, same, also) is
by_four x y bad false false false true e f a' b' c' d' e' f' long same also short is last = absurd (not_lasting bad 0 is last)
by_four x y bad false false false false e f a' b' c' d' e' f' long same also short is last = cc

refused_early : (bytes more : List ℕ) (bad : PcapBad) → length bytes < 24 → header_of bytes ≡ Err bad → lasts bad ≡ true → header_of (bytes ++ more) ≡ Err bad
unfolding header_of
refused_early bytes more bad short is last = elim (cases_lt (length bytes) 4) [
  | inl tiny ↦ (let a : nat_lt (length bytes) 4 ≡ true = grind (arith, nat_tests) in absurd (not_lasting bad 0 (rw a at is) last))
  | inr four ↦ (
      let size = length-append bytes more in
      let a : nat_lt (length (bytes ++ more)) 4 ≡ false = grind (arith, nat_tests) in
      let d : nat_lt (length bytes) 24 ≡ true = grind (arith, nat_tests) in
      let high = number-append true 4 bytes more four in
      let low = number-append false 4 bytes more four in
      by_four (form_of bytes) (form_of (bytes ++ more)) bad
      (nat_lt (length bytes) 4) (number true 4 bytes == pcapng) (not (is_big bytes || is_little bytes)) (nat_lt (length bytes) 24) (not (is_version bytes))
      (not (is_link_type (link_type bytes)))
      (nat_lt (length (bytes ++ more)) 4) (number true 4 (bytes ++ more) == pcapng) (not (is_big (bytes ++ more) || is_little (bytes ++ more)))
      (nat_lt (length (bytes ++ more)) 24) (not (is_version (bytes ++ more))) (not (is_link_type (link_type (bytes ++ more))))
      a (ap (λ (n : ℕ). n == pcapng) high) (rw (high, low) refl) d is last
      )
]

pub header_refused_more : (bytes more : List ℕ) (bad : PcapBad) → header_of bytes ≡ Err bad → lasts bad ≡ true → header_of (bytes ++ more) ≡ Err bad
header_refused_more bytes more bad is last = elim (cases_lt (length bytes) 24) [
  | inl short ↦ refused_early bytes more bad short is last
  | inr long ↦ header_same bytes more long ∙ is
]

cut_by : {X : Type 0} (x : X) (bad : PcapBad) (a b c d e f : Bool) →
    unless (first_refusal ((a, Refused CutShort 0) ∷ (b, Refused IsPcapng 0) ∷ (c, Refused BadMagic 0) ∷ (d, Refused CutShort 0) ∷ (e, Refused BadVersion 4)
    ∷ (f, Refused BadLinkType 20) ∷ [])) x ≡ Err bad → lasts bad ≡ false → (bad ≡ Refused CutShort 0) × ((a || d) ≡ true)
cut_by x bad true b c d e f is last = (cc, refl)
cut_by x bad false true c d e f is last = let same : Refused IsPcapng 0 ≡ bad = cc in cc (ap lasts same)
cut_by x bad false false true d e f is last = let same : Refused BadMagic 0 ≡ bad = cc in cc (ap lasts same)
cut_by x bad false false false true e f is last = (cc, refl)
cut_by x bad false false false false true f is last = let same : Refused BadVersion 4 ≡ bad = cc in cc (ap lasts same)
cut_by x bad false false false false false true is last = let same : Refused BadLinkType 20 ≡ bad = cc in cc (ap lasts same)
cut_by x bad false false false false false false is last = cc

-- a header that more bytes may mend is cut short
pub header_cut : (bytes : List ℕ) (bad : PcapBad) → header_of bytes ≡ Err bad → lasts bad ≡ false → (bad ≡ Refused CutShort 0) × (length bytes < 24)
unfolding header_of
header_cut bytes bad is last =
    let c = cut_by (form_of bytes) bad (nat_lt (length bytes) 4) (number true 4 bytes == pcapng) (not (is_big bytes || is_little bytes))
    (nat_lt (length bytes) 24) (not (is_version bytes)) (not (is_link_type (link_type bytes))) is last in
    (c.0, let either = c.1 in grind (arith, nat_tests))

-- A record.

abbrev place_from : ℕ → ℕ → Place
place_from at length = record { at = at + 16; length = length }

pub length_more : (big : Bool) (bytes more : List ℕ) (at : ℕ) → at + 16 ≤ length bytes → captured_length big (bytes ++ more) at ≡ captured_length big bytes at
length_more big bytes more at long = number-field big 4 (at + 8) bytes more (omega arith)

pub bad_record : (big : Bool) (bytes : List ℕ) (at : ℕ) → at + 16 ≤ length bytes → snaplen < captured_length big bytes at →
    record_at big bytes at ≡ Err (Refused BadRecord at)
unfolding record_at
bad_record big bytes at long high =
    let a : nat_lt (length bytes) (at + 16) ≡ false = grind (arith, nat_tests) in
    let b : nat_lt snaplen (captured_length big bytes at) ≡ true = grind (arith, nat_tests) in
    rw (a, b) refl

pub cut_in_header : (big : Bool) (bytes : List ℕ) (at : ℕ) → length bytes < at + 16 → record_at big bytes at ≡ Err (Refused CutShort at)
unfolding record_at
cut_in_header big bytes at short =
    let a : nat_lt (length bytes) (at + 16) ≡ true = grind (arith, nat_tests) in
    rw a refl

-- a record whose header is whole and lawful is cut short, or it is read
behind_header : (big : Bool) (bytes : List ℕ) (at : ℕ) → at + 16 ≤ length bytes → captured_length big bytes at ≤ snaplen →
    record_at big bytes at
    ≡ (if nat_lt (length bytes) (at + 16 + captured_length big bytes at) then Err (Refused CutShort at) else Ok (place_of big bytes at))
unfolding record_at
behind_header big bytes at long lawful =
    let a : nat_lt (length bytes) (at + 16) ≡ false = grind (arith, nat_tests) in
    let b : nat_lt snaplen (captured_length big bytes at) ≡ false = grind (arith, nat_tests) in
    rw (a, b) (by (nat_lt (length bytes) (at + 16 + captured_length big bytes at)))
  where
    by : (c : Bool) → unless (first_refusal ((c, Refused CutShort at) ∷ [])) (place_of big bytes at)
        ≡ (if c then Err (Refused CutShort at) else Ok (place_of big bytes at))
    by true = refl
    by false = refl

pub cut_in_record : (big : Bool) (bytes : List ℕ) (at : ℕ) → at + 16 ≤ length bytes → captured_length big bytes at ≤ snaplen →
    length bytes < at + 16 + captured_length big bytes at → record_at big bytes at ≡ Err (Refused CutShort at)
cut_in_record big bytes at long lawful short =
    let c : nat_lt (length bytes) (at + 16 + captured_length big bytes at) ≡ true = grind (arith, nat_tests) in
    behind_header big bytes at long lawful ∙ rw c refl

pub whole_record : (big : Bool) (bytes : List ℕ) (at : ℕ) → at + 16 ≤ length bytes → captured_length big bytes at ≤ snaplen →
    at + 16 + captured_length big bytes at ≤ length bytes → record_at big bytes at ≡ Ok (place_of big bytes at)
whole_record big bytes at long lawful whole =
    let c : nat_lt (length bytes) (at + 16 + captured_length big bytes at) ≡ false = grind (arith, nat_tests) in
    behind_header big bytes at long lawful ∙ rw c refl

pub record_more : (big : Bool) (bytes more : List ℕ) (at : ℕ) (place : Place) → record_at big bytes at ≡ Ok place → record_at big (bytes ++ more) at ≡ Ok place
record_more big bytes more at place is =
    let r = is_read big bytes at place is in
    let header = r.header in
    let all = length-append bytes more in
    let same = length_more big bytes more at r.header in
    let lawful = r.lawful in
    let end = ap end_of r.place_is in
    let whole = r.whole in
    whole_record big (bytes ++ more) at (omega arith) (omega arith) (omega arith) ∙ ap (λ (n : ℕ). Ok (place_from at n)) same ∙ ap Ok (sym r.place_is)

-- Whole records, one after another.

pub stand_more : (big : Bool) (bytes more : List ℕ) (at : ℕ) (places : List Place) (end : ℕ) → Stand big bytes at places end →
    Stand big (bytes ++ more) at places end
stand_more big bytes more at [] end is = is
stand_more big bytes more at (place ∷ places) end is = (record_more big bytes more at place is.0, stand_more big bytes more (end_of place) places end is.1)

pub stand_push : (big : Bool) (bytes : List ℕ) (at : ℕ) (places : List Place) (end : ℕ) (place : Place) → Stand big bytes at places end →
    record_at big bytes end ≡ Ok place → Stand big bytes at (places ++ place ∷ []) (end_of place)
stand_push big bytes at [] end place is last = (subst (λ (n : ℕ). record_at big bytes n ≡ Ok place) (sym is) last, refl)
stand_push big bytes at (first ∷ places) end place is last = (is.0, stand_push big bytes (end_of first) places end place is.1 last)

-- each record takes a byte
pub stand_size : (big : Bool) (bytes : List ℕ) (at : ℕ) (places : List Place) (end : ℕ) → Stand big bytes at places end → at + length places ≤ end
stand_size big bytes at [] end is = omega arith
stand_size big bytes at (place ∷ places) end is =
    let r = (is_read big bytes at place is.0).after in
    let more = stand_size big bytes (end_of place) places end is.1 in
    omega arith

stand_continues : (big : Bool) (bytes : List ℕ) (done : List Place) (at : ℕ) (places : List Place) (end : ℕ) → Stand big bytes at places end →
    Continues big bytes done at → Continues big bytes (done ++ places) end
stand_continues big bytes done at [] end is c =
    subst (λ (n : ℕ). Continues big bytes (done ++ []) n) is (subst (λ (d : List Place). Continues big bytes d at) (sym (append-nil done)) c)
stand_continues big bytes done at (place ∷ places) end is c =
    subst (λ (d : List Place). Continues big bytes d end) (append_assoc done (place ∷ []) places)
    (stand_continues big bytes (done ++ place ∷ []) (end_of place) places end is.1 (continues big bytes done at place is.0 c))

pub between_continues : (form : Form) (bytes : List ℕ) (done : List Place) (at : ℕ) → IsBetween form bytes done at → Continues form.big bytes done at
between_continues form bytes done at b = stand_continues form.big bytes [] 24 done at b.records (begins_by bytes form [] b.header refl)

pub between_more : (form : Form) (bytes more : List ℕ) (done : List Place) (at : ℕ) → IsBetween form bytes done at → IsBetween form (bytes ++ more) done at
between_more form bytes more done at b = record {
  header = header_more bytes more form b.header;
  records = stand_more form.big bytes more 24 done at b.records;
  within = let size = length-append bytes more in let within = b.within in omega arith;
}
