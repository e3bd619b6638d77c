-- What each step of a scan leads to.
use Rattle.std.proofs.Common.{◌≡◌, ◌≤◌, ◌<◌, ◌+◌, ◌-◌, ℕ, true, List, [], ◌∷◌, ◌++◌, length, drop, Result, Ok, Err, refl, ap, sym, ◌∙◌, append_assoc, subst}
use Rattle.std.proofs.Common.{arith, length-drop, length-append}
use Rattle.std.proofs.lemmas.List.{drop-drop, drop-append-le, drop_all}
use Rattle.mn_pcap.specs.declared.message.Form.{Form}
use Rattle.mn_pcap.specs.declared.message.Place.{Place}
use Rattle.mn_pcap.specs.declared.refusal.PcapRule.TheVariants.{BadRecord}
use Rattle.mn_pcap.specs.declared.refusal.PcapBad.{PcapBad}
use Rattle.mn_pcap.specs.declared.refusal.PcapBad.TheVariants.{Refused}
use Rattle.mn_pcap.specs.Format.{snaplen}
use Rattle.mn_pcap.specs.Grammar.{number}
use Rattle.mn_pcap.specs.Reading.{header_of, records_of, count_of, after, unless, captured_length, record_at, place_of, end_of, all_records}
use Rattle.mn_pcap.specs.Lasting.{lasts}
use Rattle.mn_pcap.specs.Pieces.{Stand, IsBetween, IsInHeader, IsInRecord, IsRefusedFor}
use Rattle.mn_pcap.proofs.InOrder.{header_is_read, read_to, counted}
use Rattle.mn_pcap.proofs.Pieces.{header_refused_more, length_more, bad_record, whole_record, stand_push, between_continues, between_more}

-- Behind the file's header.

pub header_read : (bytes : List ℕ) (form : Form) → header_of bytes ≡ Ok form → length bytes ≤ 24 → IsInHeader form bytes [] (length bytes) []
header_read bytes form is short =
    let long = (header_is_read bytes form is).size in
    record {
      between = record { header = is; records = omega arith; within = omega arith };
      head_is = drop_all (length bytes) bytes (omega arith);
      short = omega arith;
    }

pub header_refused : (bytes : List ℕ) (bad : PcapBad) → header_of bytes ≡ Err bad → lasts bad ≡ true → IsRefusedFor bad bytes []
header_refused bytes bad is last = record {
  lasting = last;
  refused =
      λ more. ap (λ (h : Result Form PcapBad). after h (λ form. unless (all_records form.big (bytes ++ more)).1 (all_records form.big (bytes ++ more)).0))
      (header_refused_more bytes more bad is last);
  count = λ more. ap (λ (h : Result Form PcapBad). elim h [ Err bad ↦ 0 | Ok form ↦ length (all_records form.big (bytes ++ more)).0 ])
      (header_refused_more bytes more bad is last);
}

-- Within a record's header.

head_more : (bytes more head : List ℕ) (at : ℕ) → at ≤ length bytes → drop at bytes ≡ head → drop at (bytes ++ more) ≡ head ++ more
head_more bytes more head at within is = drop-append-le at bytes more within ∙ ap (λ (xs : List ℕ). xs ++ more) is

pub header_goes_on : (form : Form) (bytes more : List ℕ) (done : List Place) (at : ℕ) (head : List ℕ) → length (head ++ more) < 16 →
    IsInHeader form bytes done at head → IsInHeader form (bytes ++ more) done at (head ++ more)
header_goes_on form bytes more done at head short h = record {
  between = between_more form bytes more done at h.between;
  head_is = head_more bytes more head at h.between.within h.head_is;
  short = short;
}

-- the header is whole
pub record HeaderWhole (form : Form) (bytes : List ℕ) (done : List Place) (at : ℕ) (head : List ℕ) : Type 0 where
  pub between : IsBetween form bytes done at
  pub header : length bytes ≡ at + 16
  pub length_is : captured_length form.big bytes at ≡ number form.big 4 (drop 8 head)

pub header_whole : (form : Form) (bytes more : List ℕ) (done : List Place) (at : ℕ) (head : List ℕ) → length (head ++ more) ≡ 16 →
    IsInHeader form bytes done at head → HeaderWhole form (bytes ++ more) done at (head ++ more)
header_whole form bytes more done at head whole h =
    let within = h.between.within in
    let is = head_more bytes more head at within h.head_is in
    let size = length-append bytes more in
    let left = sym (length-drop at (bytes ++ more)) ∙ ap length is ∙ whole in
    record {
      between = between_more form bytes more done at h.between;
      header = omega arith;
      length_is = ap (λ (xs : List ℕ). number form.big 4 xs) (sym (drop-drop 8 at (bytes ++ more))) ∙ ap (λ (xs : List ℕ). number form.big 4 (drop 8 xs)) is;
    }

pub header_read_on : (form : Form) (bytes : List ℕ) (done : List Place) (at : ℕ) (head : List ℕ) (size fed : ℕ) → size ≡ number form.big 4 (drop 8 head) →
    size ≤ snaplen → fed ≡ length bytes → HeaderWhole form bytes done at head → IsInRecord form bytes done at (record { at = fed; length = size }) size
header_read_on form bytes done at head size fed is lawful whole h =
    let same = h.length_is ∙ sym is in
    let end = h.header in
    record {
      between = h.between;
      header = omega arith;
      lawful = omega arith;
      place_is = let place : ℕ → ℕ → Place = λ at length. record { at = at; length = length } in
          ap (λ (n : ℕ). place n size) (whole ∙ end) ∙ ap (λ (n : ℕ). place (at + 16) n) (sym same);
      left_is = omega arith;
    }

pub header_refuses : (form : Form) (bytes : List ℕ) (done : List Place) (at : ℕ) (head : List ℕ) (size : ℕ) → size ≡ number form.big 4 (drop 8 head) →
    snaplen < size → HeaderWhole form bytes done at head → IsRefusedFor (Refused BadRecord at) bytes done
header_refuses form bytes done at head size is high h = record {
  lasting = refl;
  refused =
      λ more. read_to (bytes ++ more) form done at (Refused BadRecord at) (between more).header (bad more) (within more)
      (between_continues form (bytes ++ more) done at (between more));
  count = λ more. counted (bytes ++ more) form done at (Refused BadRecord at) (between more).header (bad more)
      (between_continues form (bytes ++ more) done at (between more));
}
  where
    between : (more : List ℕ) → IsBetween form (bytes ++ more) done at
    between more = between_more form bytes more done at h.between

    within : (more : List ℕ) → at < length (bytes ++ more)
    within more = let end = h.header in let all = length-append bytes more in omega arith

    bad : (more : List ℕ) → record_at form.big (bytes ++ more) at ≡ Err (Refused BadRecord at)
    bad more =
        let end = h.header in
        let all = length-append bytes more in
        let same = length_more form.big bytes more at (omega arith) ∙ h.length_is ∙ sym is in
        bad_record form.big (bytes ++ more) at (omega arith) (omega arith)

-- Within a record's bytes.

pub record_goes_on : (form : Form) (bytes more : List ℕ) (done : List Place) (at : ℕ) (place : Place) (left : ℕ) → length more ≤ left →
    IsInRecord form bytes done at place left → IsInRecord form (bytes ++ more) done at place (left - length more)
record_goes_on form bytes more done at place left within r =
    let all = length-append bytes more in
    let header = r.header in
    let same = length_more form.big bytes more at header in
    let lawful = r.lawful in
    let end = r.left_is in
    record {
      between = between_more form bytes more done at r.between;
      header = omega arith;
      lawful = omega arith;
      place_is = r.place_is ∙ (let place : ℕ → Place = λ length. record { at = at + 16; length = length } in ap place (sym same));
      left_is = omega arith;
    }

pub record_ends : (form : Form) (bytes : List ℕ) (done : List Place) (at : ℕ) (place : Place) → IsInRecord form bytes done at place 0 →
    IsInHeader form bytes (done ++ place ∷ []) (length bytes) []
record_ends form bytes done at place r =
    let left = r.left_is in
    let end : end_of place ≡ length bytes = omega arith in
    let last : end_of (place_of form.big bytes at) ≡ length bytes = ap end_of (sym r.place_is) ∙ end in
    let is : record_at form.big bytes at ≡ Ok place = whole_record form.big bytes at r.header r.lawful (omega arith) ∙ ap Ok (sym r.place_is) in
    record {
      between = record {
        header = r.between.header;
        records = subst (λ (n : ℕ). Stand form.big bytes 24 (done ++ place ∷ []) n) end (stand_push form.big bytes 24 done at place r.between.records is);
        within = omega arith;
      };
      head_is = drop_all (length bytes) bytes (omega arith);
      short = omega arith;
    }

pub refused_on : (bad : PcapBad) (bytes more : List ℕ) (done : List Place) → IsRefusedFor bad bytes done → IsRefusedFor bad (bytes ++ more) done
refused_on bad bytes more done r = record {
  lasting = r.lasting;
  refused = λ others. ap records_of (append_assoc bytes more others) ∙ r.refused (more ++ others);
  count = λ others. ap count_of (append_assoc bytes more others) ∙ r.count (more ++ others);
}
