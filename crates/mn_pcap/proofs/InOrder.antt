-- The records of a file, one after another.
use Rattle.std.proofs.Common.{◌≡◌, ◌==◌, ◌≤◌, ◌<◌, ◌+◌, ℕ, zero, suc, Bool, true, false, List, [], ◌∷◌, ◌++◌, length, Option, Some, None, Result, Ok, Err}
use Rattle.std.proofs.Common.{refl, ap, sym, ◌∙◌, append_assoc, subst, arith, inl, inr, if◌then◌else◌}
use Rattle.std.specs.Prelude.{nat_lt, not, ◌||◌, Vec, All}
use Rattle.std.proofs.lemmas.List.Elements.{All-nil, All-push}
use Rattle.std.specs.declared.alloc.Global.{Global}
use Rattle.std.proofs.lemmas.List.{append-nil}
use Rattle.std.proofs.lemmas.Bool.{cases_lt}
use Rattle.std.proofs.lemmas.Bool.Decides.{nat_tests}
use Rattle.mn_pcap.specs.declared.message.Form.{Form}
use Rattle.mn_pcap.specs.declared.message.Place.{Place}
use Rattle.mn_pcap.specs.declared.refusal.PcapBad.{PcapBad}
use Rattle.mn_pcap.specs.declared.refusal.PcapBad.TheVariants.{Refused, NoMemory}
use Rattle.mn_pcap.specs.Format.{snaplen}
use Rattle.mn_pcap.specs.Grammar.{number}
use Rattle.mn_pcap.specs.Reading.{pcapng, is_big, is_little, is_version, is_link_type, link_type, form_of, header_of, records_of, count_of, unless, after}
use Rattle.mn_pcap.specs.Reading.{Answers, captured_length, record_at, place_of, end_of, records_from, all_records}
use Rattle.mn_pcap.proofs.Rules.{record_passes, header_passes}

-- a header that is read
pub record IsHeaderRead (bytes : List ℕ) (form : Form) : Type 0 where
  pub known : not (is_big bytes || is_little bytes) ≡ false
  pub size : 24 ≤ length bytes
  pub version : not (is_version bytes) ≡ false
  pub kind : not (is_link_type (link_type bytes)) ≡ false
  pub form_is : form_of bytes ≡ form

pub header_is_read : (bytes : List ℕ) (form : Form) → header_of bytes ≡ Ok form → IsHeaderRead bytes form
unfolding header_of
header_is_read bytes form e =
    let p = header_passes (form_of bytes) form (nat_lt (length bytes) 4) (number true 4 bytes == pcapng) (not (is_big bytes || is_little bytes))
    (nat_lt (length bytes) 24) (not (is_version bytes)) (not (is_link_type (link_type bytes))) e in
    let long : 24 ≤ length bytes = grind (arith, nat_tests, p.1) in
    record { known = p.0; size = long; version = p.2; kind = p.3; form_is = p.4 }

-- a record that is read
pub record IsRead (big : Bool) (bytes : List ℕ) (at : ℕ) (place : Place) : Type 0 where
  pub header : at + 16 ≤ length bytes
  pub lawful : captured_length big bytes at ≤ snaplen
  pub place_is : place ≡ place_of big bytes at
  pub whole : end_of place ≤ length bytes
  pub after : at < end_of place

pub is_read : (big : Bool) (bytes : List ℕ) (at : ℕ) (place : Place) → record_at big bytes at ≡ Ok place → IsRead big bytes at place
unfolding record_at
is_read big bytes at place e =
    let p = record_passes at (place_of big bytes at) place (nat_lt (length bytes) (at + 16)) (nat_lt snaplen (captured_length big bytes at))
    (nat_lt (length bytes) (at + 16 + captured_length big bytes at)) e in
    let h : at + 16 ≤ length bytes = grind (arith, nat_tests, p.0) in
    let l : captured_length big bytes at ≤ snaplen = grind (arith, nat_tests, p.1) in
    let w : at + 16 + captured_length big bytes at ≤ length bytes = grind (arith, nat_tests, p.2) in
    let same : place_of big bytes at ≡ place = p.3 in
    record {
      header = h;
      lawful = l;
      place_is = sym same;
      whole = subst (λ (q : Place). end_of q ≤ length bytes) same w;
      after = let further : at < end_of (place_of big bytes at) = omega arith in subst (λ (q : Place). at < end_of q) same further;
    }

-- the places so far, and those of the records from a byte on, are the file's
pub record Continues (big : Bool) (bytes : List ℕ) (done : List Place) (at : ℕ) : Type 0 where
  pub most : ℕ
  pub within : at ≤ length bytes
  pub enough : length bytes ≤ at + most
  pub places : done ++ (records_from most big bytes at).0 ≡ (all_records big bytes).0
  pub refused : (records_from most big bytes at).1 ≡ (all_records big bytes).1
  pub inside : All (λ place. end_of place ≤ length bytes) done

pub begins : (big : Bool) (bytes : List ℕ) → 24 ≤ length bytes → Continues big bytes [] 24
begins big bytes h =
    record {
      most = length bytes;
      within = h;
      enough = omega arith;
      places = refl;
      refused = refl;
      inside =
          All-nil (λ (place : Place). end_of place ≤ length bytes);
    }

-- one more record
pub next : (most : ℕ) (big : Bool) (bytes : List ℕ) (at : ℕ) (place : Place) →
    (at == length bytes) ≡ false → record_at big bytes at ≡ Ok place →
    records_from (suc most) big bytes at ≡ (place ∷ (records_from most big bytes (end_of place)).0, (records_from most big bytes (end_of place)).1)
unfolding records_from
next most big bytes at place before e = rw (before, e) refl

pub continues : (big : Bool) (bytes : List ℕ) (done : List Place) (at : ℕ) (place : Place) → record_at big bytes at ≡ Ok place →
    Continues big bytes done at → Continues big bytes (done ++ place ∷ []) (end_of place)
continues big bytes done at place e c = step c.most c.enough c.places c.refused
  where
    r : IsRead big bytes at place
    r = is_read big bytes at place e

    before : (at == length bytes) ≡ false
    before = let h = r.header in grind (arith, nat_tests)

    step : (most : ℕ) → length bytes ≤ at + most → done ++ (records_from most big bytes at).0 ≡ (all_records big bytes).0 →
        (records_from most big bytes at).1 ≡ (all_records big bytes).1 → Continues big bytes (done ++ place ∷ []) (end_of place)
    step zero k places refused = let h = r.header in absurd (omega arith)
    step (suc most) k places refused =
        let n = next most big bytes at place before e in
        record {
          most = most;
          within = r.whole;
          enough = let h = r.after in omega arith;
          places = append_assoc done (place ∷ []) (records_from most big bytes (end_of place)).0
              ∙ sym (ap (λ (x : List Place × Option PcapBad). done ++ x.0) n) ∙ places;
          refused = sym (ap (λ (x : List Place × Option PcapBad). x.1) n) ∙ refused;
          inside = All-push (λ (p : Place). end_of p ≤ length bytes) done place c.inside r.whole;
        }

-- no record more: at the end of the file, and at a refusal
pub ended : (most : ℕ) (big : Bool) (bytes : List ℕ) (at : ℕ) → (at == length bytes) ≡ true → records_from most big bytes at ≡ ([], None)
unfolding records_from
ended zero big bytes at e = refl
ended (suc most) big bytes at e = rw e refl

pub refused_there : (most : ℕ) (big : Bool) (bytes : List ℕ) (at : ℕ) (bad : PcapBad) →
    (at == length bytes) ≡ false → record_at big bytes at ≡ Err bad → records_from (suc most) big bytes at ≡ ([], Some bad)
unfolding records_from
refused_there most big bytes at bad before e = rw (before, e) refl

pub ends : (big : Bool) (bytes : List ℕ) (done : List Place) (at : ℕ) → length bytes ≤ at → Continues big bytes done at →
    ((all_records big bytes).0 ≡ done) × ((all_records big bytes).1 ≡ None)
ends big bytes done at h c =
    let w = c.within in
    let e : (at == length bytes) ≡ true = grind (arith, nat_tests) in
    let n = ended c.most big bytes at e in
    (sym c.places ∙ ap (λ (x : List Place × Option PcapBad). done ++ x.0) n ∙ append-nil done, sym c.refused ∙ ap (λ (x : List Place × Option PcapBad). x.1) n)

pub stops : (big : Bool) (bytes : List ℕ) (done : List Place) (at : ℕ) (bad : PcapBad) → record_at big bytes at ≡ Err bad → at < length bytes →
    Continues big bytes done at → ((all_records big bytes).0 ≡ done) × ((all_records big bytes).1 ≡ Some bad)
stops big bytes done at bad e h c = step c.most c.enough c.places c.refused
  where
    before : (at == length bytes) ≡ false
    before = grind (arith, nat_tests)

    step : (most : ℕ) → length bytes ≤ at + most → done ++ (records_from most big bytes at).0 ≡ (all_records big bytes).0 →
        (records_from most big bytes at).1 ≡ (all_records big bytes).1 → ((all_records big bytes).0 ≡ done) × ((all_records big bytes).1 ≡ Some bad)
    step zero k places refused = absurd (omega arith)
    step (suc most) k places refused =
        let n = refused_there most big bytes at bad before e in
        (sym places ∙ ap (λ (x : List Place × Option PcapBad). done ++ x.0) n ∙ append-nil done, sym refused ∙ ap (λ (x : List Place × Option PcapBad). x.1) n)

-- The same, from what the calls of a loop say.

pub begins_by : (bytes : List ℕ) (form : Form) (done : List Place) → header_of bytes ≡ Ok form → done ≡ [] → Continues form.big bytes done 24
begins_by bytes form done e none =
    subst (λ (d : List Place). Continues form.big bytes d 24) (sym none) (begins form.big bytes (header_is_read bytes form e).size)

pub continues_by : (big : Bool) (bytes : List ℕ) (done new : List Place) (at end : ℕ) (place : Place) → record_at big bytes at ≡ Ok place →
    end ≡ end_of place → new ≡ done ++ place ∷ [] → Continues big bytes done at → Continues big bytes new end
continues_by big bytes done new at end place e after pushed c =
    subst (λ (x : ℕ). Continues big bytes new x) (sym after)
    (subst (λ (d : List Place). Continues big bytes d (end_of place)) (sym pushed) (continues big bytes done at place e c))

-- what the records of a file are

pub read_whole : (bytes : List ℕ) (form : Form) (done : List Place) (at : ℕ) → header_of bytes ≡ Ok form → length bytes ≤ at →
    Continues form.big bytes done at → records_of bytes ≡ Ok done
read_whole bytes form done at e h c =
    let r = ends form.big bytes done at h c in
    let same : unless (all_records form.big bytes).1 (all_records form.big bytes).0 ≡ Ok done = rw (r.0, r.1) refl in
    subst (λ (x : Result Form PcapBad). after x (λ form. unless (all_records form.big bytes).1 (all_records form.big bytes).0) ≡ Ok done) (sym e) same

pub read_to : (bytes : List ℕ) (form : Form) (done : List Place) (at : ℕ) (bad : PcapBad) → header_of bytes ≡ Ok form →
    record_at form.big bytes at ≡ Err bad → at < length bytes → Continues form.big bytes done at → records_of bytes ≡ Err bad
read_to bytes form done at bad e r h c =
    let s = stops form.big bytes done at bad r h c in
    let same : unless (all_records form.big bytes).1 (all_records form.big bytes).0 ≡ Err bad = rw (s.1) refl in
    subst (λ (x : Result Form PcapBad). after x (λ form. unless (all_records form.big bytes).1 (all_records form.big bytes).0) ≡ Err bad) (sym e) same

pub counted : (bytes : List ℕ) (form : Form) (done : List Place) (at : ℕ) (bad : PcapBad) → header_of bytes ≡ Ok form →
    record_at form.big bytes at ≡ Err bad → Continues form.big bytes done at → count_of bytes ≡ length done
counted bytes form done at bad e r c =
    let same : length (all_records form.big bytes).0 ≡ length done = elim (cases_lt at (length bytes)) [
      | inl before ↦ (let s = stops form.big bytes done at bad r before c in ap length s.0)
      | inr past ↦ (let s = ends form.big bytes done at past c in ap length s.0)
    ] in
    subst (λ (x : Result Form PcapBad). elim x [ Err bad ↦ 0 | Ok form ↦ length (all_records form.big bytes).0 ] ≡ length done) (sym e) same

pub on_ok : {X : Type 0} (b : Bool) (new old x : X) → b ≡ true → new ≡ (if b then x else old) → new ≡ x
on_ok true new old x is e = e
on_ok false new old x is e = cc

pub answers_refusal : (answer : Result (Vec Place Global) PcapBad) (bad : PcapBad) (reading : Result (List Place) PcapBad) → answer ≡ Err bad →
    reading ≡ Err bad → Answers answer reading
answers_refusal answer NoMemory reading is e = subst (λ (a : Result (Vec Place Global) PcapBad). Answers a reading) (sym is) tt
answers_refusal answer (Refused rule place) reading is e = subst (λ (a : Result (Vec Place Global) PcapBad). Answers a reading) (sym is) e
