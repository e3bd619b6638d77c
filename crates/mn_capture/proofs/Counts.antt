-- The whole records of a capture are no fewer when more bytes come.
use Rattle.std.proofs.Common.{◌≡◌, ◌==◌, ◌≤◌, ℕ, zero, suc, Bool, true, false, List, [], ◌++◌, length, Option}
use Rattle.std.proofs.Common.{Result, Ok, Err, refl, ap, arith, length-append}
use Rattle.std.proofs.lemmas.Bool.Decides.{nat_tests}
use Rattle.mn_pcap.specs.declared.message.Form.{Form}
use Rattle.mn_pcap.specs.declared.message.Place.{Place}
use Rattle.mn_pcap.specs.declared.refusal.PcapBad.{PcapBad}
use Rattle.mn_pcap.specs.Reading.{header_of, record_at, records_from, all_records, count_of, end_of}
use Rattle.mn_pcap.proofs.InOrder.{is_read, next, ended, refused_there}
use Rattle.mn_pcap.proofs.Pieces.{header_more, record_more}

-- the places of whole records from a byte on
abbrev found : ℕ → Bool → List ℕ → ℕ → List Place
found most big bytes at = (records_from most big bytes at).0

none_found : (big : Bool) (bytes : List ℕ) (at : ℕ) → found zero big bytes at ≡ []
unfolding records_from
none_found big bytes at = refl

-- one record more, or none
one_more : (most more_most : ℕ) (big : Bool) (bytes more : List ℕ) (at : ℕ) (r : Result Place PcapBad) →
    (at == length bytes) ≡ false → record_at big bytes at ≡ r
    → ((place : Place) → length (found most big bytes (end_of place)) ≤ length (found more_most big (bytes ++ more) (end_of place)))
    → length (found (suc most) big bytes at) ≤ length (found (suc more_most) big (bytes ++ more) at)
one_more most more_most big bytes more at (Err bad) before e rest =
    let none = ap (λ (x : List Place × Option PcapBad). length x.0) (refused_there most big bytes at bad before e) in omega arith
one_more most more_most big bytes more at (Ok place) before e rest =
    let header = (is_read big bytes at place e).header in
    let all = length-append bytes more in
    let further : (at == length (bytes ++ more)) ≡ false = grind (arith, nat_tests) in
    let few = ap (λ (x : List Place × Option PcapBad). length x.0) (next most big bytes at place before e) in
    let many =
    ap (λ (x : List Place × Option PcapBad). length x.0) (next more_most big (bytes ++ more) at place further (record_more big bytes more at place e))
    in
    let others = rest place in
    omega arith

step_more : (most more_most : ℕ) (big : Bool) (bytes more : List ℕ) (at : ℕ) (b : Bool) → (at == length bytes) ≡ b
    → ((place : Place) → length (found most big bytes (end_of place)) ≤ length (found more_most big (bytes ++ more) (end_of place)))
    → length (found (suc most) big bytes at) ≤ length (found (suc more_most) big (bytes ++ more) at)
step_more most more_most big bytes more at true e rest = let none =
    ap (λ (x : List Place × Option PcapBad). length x.0) (ended (suc most) big bytes at e) in omega arith
step_more most more_most big bytes more at false e rest = one_more most more_most big bytes more at (record_at big bytes at) e refl rest

found_more : (most more_most : ℕ) (big : Bool) (bytes more : List ℕ) (at : ℕ) → most ≤ more_most
    → length (found most big bytes at) ≤ length (found more_most big (bytes ++ more) at)
found_more zero more_most big bytes more at within = let none = ap length (none_found big bytes at) in omega arith
found_more (suc most) zero big bytes more at within = absurd (omega arith)
found_more (suc most) (suc more_most) big bytes more at within =
    step_more most more_most big bytes more at (at == length bytes) refl (λ place. found_more most more_most big bytes more (end_of place) (omega arith))

pub count_of-more : (bytes more : List ℕ) → count_of bytes ≤ count_of (bytes ++ more)
count_of-more bytes more = by (header_of bytes) refl
  where
    by : (h : Result Form PcapBad) → header_of bytes ≡ h → count_of bytes ≤ count_of (bytes ++ more)
    by (Err bad) e = let none : count_of bytes ≡ 0 =
        ap (λ (h : Result Form PcapBad). elim h [ Err bad ↦ 0 | Ok form ↦ length (all_records form.big bytes).0 ]) e in omega arith
    by (Ok form) e =
        let few : count_of bytes ≡ length (all_records form.big bytes).0 =
        ap (λ (h : Result Form PcapBad). elim h [ Err bad ↦ 0 | Ok form ↦ length (all_records form.big bytes).0 ]) e in
        let many : count_of (bytes ++ more) ≡ length (all_records form.big (bytes ++ more)).0 =
        ap (λ (h : Result Form PcapBad). elim h [ Err bad ↦ 0 | Ok form ↦ length (all_records form.big (bytes ++ more)).0 ]) (header_more bytes more form e) in
        let size = length-append bytes more in
        let both = found_more (length bytes) (length (bytes ++ more)) form.big bytes more 24 (omega arith) in
        omega arith
