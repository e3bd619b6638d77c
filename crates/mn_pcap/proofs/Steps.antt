-- Each step of a cursor, with what the calls in it say.
use Rattle.std.proofs.Common.{◌≡◌, ◌≤◌, ◌<◌, ◌+◌, ◌-◌, ℕ, true, false, List, [], ◌∷◌, ◌++◌, length, take, drop, Ok, Err, refl, ap, sym, ◌∙◌, subst, arith}
use Rattle.std.proofs.Common.{length-append}
use Rattle.std.specs.Prelude.{IsTrue}
use Rattle.std.proofs.lemmas.List.{length-take-le, append-nil, length_push}
use Rattle.std.proofs.lemmas.Bool.Decides.{nat_tests}
use Rattle.mn_pcap.specs.declared.message.Form.{Form}
use Rattle.mn_pcap.specs.declared.message.Place.{Place}
use Rattle.mn_pcap.specs.declared.refusal.PcapRule.TheVariants.{BadRecord}
use Rattle.mn_pcap.specs.declared.refusal.PcapBad.{PcapBad}
use Rattle.mn_pcap.specs.declared.refusal.PcapBad.TheVariants as bad
use Rattle.mn_pcap.specs.declared.stage.Stage.{Stage}
use Rattle.mn_pcap.specs.declared.stage.Stage.TheVariants.{FileHeader, RecordHeader, Captured, Refused}
use Rattle.mn_pcap.specs.declared.cursor.Cursor.{Cursor}
use Rattle.mn_pcap.specs.Format.{snaplen}
use Rattle.mn_pcap.specs.Grammar.{number}
use Rattle.mn_pcap.specs.Reading.{header_of}
use Rattle.mn_pcap.specs.Lasting.{lasts}
use Rattle.mn_pcap.specs.Stages.{wants}
use Rattle.mn_pcap.specs.Pieces.{IsAt, Follows, IsInRecord}
use Rattle.mn_pcap.proofs.Pieces.{header_cut, stand_size}
use Rattle.mn_pcap.proofs.Moves.{header_read, header_refused, header_goes_on, header_whole, HeaderWhole, header_read_on, header_refuses, record_goes_on}
use Rattle.mn_pcap.proofs.Moves.{record_ends, refused_on}

-- what is known at a stage
at_stage : (cursor : Cursor) (stage : Stage) (bytes : List ℕ) (done : List Place) → cursor.stage ≡ stage → Follows cursor bytes done →
    IsAt stage cursor.head cursor.at cursor.fed bytes done
at_stage cursor stage bytes done is f = subst (λ (s : Stage). IsAt s cursor.head cursor.at cursor.fed bytes done) is f.is_at

pub wanting_file : (stage : Stage) (held : ℕ) → stage ≡ FileHeader → IsTrue (wants stage held) → held < 24
wanting_file stage held is h = let w : IsTrue (wants FileHeader held) = subst (λ (s : Stage). IsTrue (wants s held)) is h in grind (arith, nat_tests)

pub wanting_record : (stage : Stage) (form : Form) (held : ℕ) → stage ≡ RecordHeader form → IsTrue (wants stage held) → held < 16
wanting_record stage form held is h = let w : IsTrue (wants (RecordHeader form) held) = subst (λ (s : Stage). IsTrue (wants s held)) is h in
    grind (arith, nat_tests)

pub wanting_captured : (stage : Stage) (form : Form) (place : Place) (left held : ℕ) → stage ≡ Captured form place left → IsTrue (wants stage held) → 0 < left
wanting_captured stage form place left held is h = let w : IsTrue (wants (Captured form place left) held) =
    subst (λ (s : Stage). IsTrue (wants s held)) is h in grind (arith, nat_tests)

-- what has come, by one piece more
fed_more : (fed taken : ℕ) (bytes rest : List ℕ) → fed ≡ length bytes → taken ≤ length rest → fed + taken ≡ length (bytes ++ take taken rest)
fed_more fed taken bytes rest is within =
    let a = length-append bytes (take taken rest) in
    let t = length-take-le taken rest within in
    omega arith

-- The header of the file.

pub file_read : (old new : Cursor) (bytes rest : List ℕ) (done : List Place) (taken : ℕ) (head : List ℕ) (form : Form) → Follows old bytes done →
    old.stage ≡ FileHeader → taken ≤ length rest → head ≡ old.head ++ take taken rest → length head ≤ 24 → header_of head ≡ Ok form
    → new.stage ≡ RecordHeader form → new.head ≡ [] → new.at ≡ old.fed + taken → new.fed ≡ old.fed + taken → new.whole ≡ old.whole →
    Follows new (bytes ++ take taken rest) (done ++ [])
file_read old new bytes rest done taken head form f stage within filled short is next none at fed whole =
    let p = at_stage old FileHeader bytes done stage f in
    let all = fed_more old.fed taken bytes rest p.0 within in
    let same : head ≡ bytes ++ take taken rest = filled ∙ ap (λ (xs : List ℕ). xs ++ take taken rest) p.2 in
    let read = header_read (bytes ++ take taken rest) form (ap header_of (sym same) ∙ is) (let l = ap length same in omega arith) in
    let empty : done ++ [] ≡ [] = append-nil done ∙ p.3 in
    record {
      whole = whole ∙ f.whole ∙ ap length (sym (append-nil done));
      is_at = rw (next, none, at, fed) (all, rw (empty, all) read);
    }

pub file_refused : (old new : Cursor) (bytes rest : List ℕ) (done : List Place) (taken : ℕ) (head : List ℕ) (bad : PcapBad) → Follows old bytes done →
    old.stage ≡ FileHeader → head ≡ old.head ++ take taken rest → header_of head ≡ Err bad → lasts bad ≡ true
    → new.stage ≡ Refused bad → new.whole ≡ old.whole → Follows new (bytes ++ take taken rest) (done ++ [])
file_refused old new bytes rest done taken head bad f stage filled is last next whole =
    let p = at_stage old FileHeader bytes done stage f in
    let same : head ≡ bytes ++ take taken rest = filled ∙ ap (λ (xs : List ℕ). xs ++ take taken rest) p.2 in
    let empty : done ++ [] ≡ [] = append-nil done ∙ p.3 in
    record {
      whole = whole ∙ f.whole ∙ ap length (sym (append-nil done));
      is_at = rw (next, empty) (header_refused (bytes ++ take taken rest) bad (ap header_of (sym same) ∙ is) last);
    }

pub file_goes_on : (old new : Cursor) (bytes rest : List ℕ) (done : List Place) (taken : ℕ) (bad : PcapBad) → Follows old bytes done →
    old.stage ≡ FileHeader → taken ≤ length rest → new.head ≡ old.head ++ take taken rest → header_of new.head ≡ Err bad → lasts bad ≡ false
    → new.stage ≡ FileHeader → new.at ≡ old.at → new.fed ≡ old.fed + taken → new.whole ≡ old.whole → Follows new (bytes ++ take taken rest) (done ++ [])
file_goes_on old new bytes rest done taken bad f stage within filled is last next at fed whole =
    let p = at_stage old FileHeader bytes done stage f in
    let all = fed_more old.fed taken bytes rest p.0 within in
    let same : new.head ≡ bytes ++ take taken rest = filled ∙ ap (λ (xs : List ℕ). xs ++ take taken rest) p.2 in
    let empty : done ++ [] ≡ [] = append-nil done ∙ p.3 in
    record {
      whole = whole ∙ f.whole ∙ ap length (sym (append-nil done));
      is_at = rw next (fed ∙ all, at ∙ p.1, same, empty, ap header_of (sym same) ∙ is ∙ ap Err (header_cut new.head bad is last).0);
    }

-- The header of a record.

pub header_more : (old new : Cursor) (bytes rest : List ℕ) (done : List Place) (taken : ℕ) (form : Form) → Follows old bytes done →
    old.stage ≡ RecordHeader form → taken ≤ length rest → new.head ≡ old.head ++ take taken rest → length new.head < 16
    → new.stage ≡ RecordHeader form → new.at ≡ old.at → new.fed ≡ old.fed + taken → new.whole ≡ old.whole → Follows new (bytes ++ take taken rest) (done ++ [])
header_more old new bytes rest done taken form f stage within filled short next at fed whole =
    let p = at_stage old (RecordHeader form) bytes done stage f in
    let all = fed_more old.fed taken bytes rest p.0 within in
    let size : length (old.head ++ take taken rest) < 16 = subst (λ (xs : List ℕ). length xs < 16) filled short in
    record {
      whole = whole ∙ f.whole ∙ ap length (sym (append-nil done));
      is_at = rw (next, at, fed, filled, append-nil done) (all, header_goes_on form bytes (take taken rest) done old.at old.head size p.1);
    }

-- a whole header, of which 16 bytes have come
whole_there : (old : Cursor) (bytes rest : List ℕ) (done : List Place) (taken : ℕ) (form : Form) (head : List ℕ) → Follows old bytes done →
    old.stage ≡ RecordHeader form → head ≡ old.head ++ take taken rest → length head ≡ 16 → HeaderWhole form (bytes ++ take taken rest) done old.at head
whole_there old bytes rest done taken form head f stage filled full =
    let p = at_stage old (RecordHeader form) bytes done stage f in
    rw filled (header_whole form bytes (take taken rest) done old.at old.head (ap length (sym filled) ∙ full) p.1)

pub header_refused_there : (old new : Cursor) (bytes rest : List ℕ) (done : List Place) (taken : ℕ) (form : Form) (head : List ℕ) (size : ℕ) →
    Follows old bytes done → old.stage ≡ RecordHeader form → head ≡ old.head ++ take taken rest → length head ≡ 16 →
    size ≡ number form.big 4 (drop 8 head) → snaplen < size
    → new.stage ≡ Refused (bad.Refused BadRecord old.at) → new.whole ≡ old.whole → Follows new (bytes ++ take taken rest) (done ++ [])
header_refused_there old new bytes rest done taken form head size f stage filled full is high next whole = record {
  whole = whole ∙ f.whole ∙ ap length (sym (append-nil done));
  is_at = rw (next, append-nil done)
      (header_refuses form (bytes ++ take taken rest) done old.at head size is high (whole_there old bytes rest done taken form head f stage filled full));
}

pub header_done : (old : Cursor) (bytes rest : List ℕ) (done : List Place) (taken : ℕ) (form : Form) (head : List ℕ) (size : ℕ) → Follows old bytes done →
    old.stage ≡ RecordHeader form → taken ≤ length rest → head ≡ old.head ++ take taken rest → length head ≡ 16 → size ≡ number form.big 4 (drop 8 head) →
    size ≤ snaplen
    → (old.fed + taken ≡ length (bytes ++ take taken rest))
    × IsInRecord form (bytes ++ take taken rest) done old.at (record { at = old.fed + taken; length = size }) size
header_done old bytes rest done taken form head size f stage within filled full is lawful =
    let p = at_stage old (RecordHeader form) bytes done stage f in
    let all = fed_more old.fed taken bytes rest p.0 within in (
      all,
      header_read_on form (bytes ++ take taken rest) done old.at head size (old.fed + taken) is lawful all
          (whole_there old bytes rest done taken form head f stage filled full),
    )

-- The bytes of a record.

pub captured_more : (old : Cursor) (bytes rest : List ℕ) (done : List Place) (taken : ℕ) (form : Form) (place : Place) (left : ℕ) → Follows old bytes done →
    old.stage ≡ Captured form place left → taken ≤ length rest → taken ≤ left
    → (old.fed + taken ≡ length (bytes ++ take taken rest)) × IsInRecord form (bytes ++ take taken rest) done old.at place (left - taken)
captured_more old bytes rest done taken form place left f stage within few =
    let p = at_stage old (Captured form place left) bytes done stage f in
    let t = length-take-le taken rest within in (
      fed_more old.fed taken bytes rest p.0 within,
      subst (λ (n : ℕ). IsInRecord form (bytes ++ take taken rest) done old.at place (left - n)) t
          (record_goes_on form bytes (take taken rest) done old.at place left (omega arith) p.1),
    )

-- Behind a header.

pub goes_on : (new : Cursor) (bytes : List ℕ) (done : List Place) (at : ℕ) (form : Form) (place : Place) (left fed : ℕ) →
    IsInRecord form bytes done at place left → fed ≡ length bytes → 0 < left
    → new.stage ≡ Captured form place left → new.at ≡ at → new.fed ≡ fed → new.whole ≡ length done → Follows new bytes (done ++ [])
goes_on new bytes done at form place left fed r is some next here come whole = record {
  whole = whole ∙ ap length (sym (append-nil done));
  is_at = rw (next, here, come, append-nil done) (is, r, some);
}

pub ends : (new : Cursor) (bytes : List ℕ) (done : List Place) (at : ℕ) (form : Form) (place : Place) (left fed : ℕ) →
    IsInRecord form bytes done at place left → fed ≡ length bytes → left ≡ 0
    → new.stage ≡ RecordHeader form → new.head ≡ [] → new.at ≡ fed → new.fed ≡ fed → new.whole ≡ length done + 1 → Follows new bytes (done ++ place ∷ [])
ends new bytes done at form place left fed r is none next empty here come whole =
    let last = record_ends form bytes done at place (subst (λ (n : ℕ). IsInRecord form bytes done at place n) none r) in
    record {
      whole = whole ∙ sym (length_push done place);
      is_at = rw (next, empty, here, come) (is, rw is last);
    }

-- so many records have come in as many bytes at least
pub few : (form : Form) (bytes : List ℕ) (done : List Place) (at : ℕ) (place : Place) (left : ℕ) → IsInRecord form bytes done at place left →
    length done + 1 ≤ length bytes
few form bytes done at place left r =
    let s = stand_size form.big bytes 24 done at r.between.records in
    let h = r.header in
    omega arith

pub refused_more : (old : Cursor) (bytes rest : List ℕ) (done : List Place) (bad : PcapBad) → old.stage ≡ Refused bad → Follows old bytes done →
    Follows old (bytes ++ rest) (done ++ [])
refused_more old bytes rest done bad stage f =
    let p = at_stage old (Refused bad) bytes done stage f in
    record {
      whole = f.whole ∙ ap length (sym (append-nil done));
      is_at = rw (stage, append-nil done) (refused_on bad bytes rest done p);
    }

pub wants_file : (stage : Stage) (held : ℕ) → stage ≡ FileHeader → held < 24 → IsTrue (wants stage held)
wants_file stage held is short = let w : IsTrue (wants FileHeader held) = grind (arith, nat_tests) in subst (λ (s : Stage). IsTrue (wants s held)) (sym is) w

-- before anything has come
pub begun : (new : Cursor) → new.stage ≡ FileHeader → new.head ≡ [] → new.at ≡ 0 → new.fed ≡ 0 → new.whole ≡ 0 → Follows new [] []
unfolding header_of
begun new stage head at fed whole = record { whole = whole; is_at = rw (stage, head, at, fed) (refl, refl, refl, refl, refl) }
