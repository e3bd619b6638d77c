-- What a scan answers, from where its cursor stands.
use Rattle.std.proofs.Common.{◌≡◌, ◌<◌, ℕ, Bool, true, false, List, [], length, Option, Some, None, Result, Ok, Err, refl, ap, sym, ◌∙◌, subst, arith, inl}
use Rattle.std.proofs.Common.{inr, length-drop}
use Rattle.std.proofs.lemmas.List.{append-nil}
use Rattle.std.proofs.lemmas.Bool.{cases_lt}
use Rattle.mn_pcap.specs.declared.message.Form.{Form}
use Rattle.mn_pcap.specs.declared.message.Place.{Place}
use Rattle.mn_pcap.specs.declared.refusal.PcapRule.TheVariants.{CutShort}
use Rattle.mn_pcap.specs.declared.refusal.PcapBad.{PcapBad}
use Rattle.mn_pcap.specs.declared.refusal.PcapBad.TheVariants as bad
use Rattle.mn_pcap.specs.declared.stage.Stage.{Stage}
use Rattle.mn_pcap.specs.declared.stage.Stage.TheVariants.{FileHeader, RecordHeader, Captured, Refused}
use Rattle.mn_pcap.specs.declared.cursor.Cursor.{Cursor}
use Rattle.mn_pcap.specs.declared.scan.Scan.{Scan}
use Rattle.mn_pcap.specs.Reading.{header_of, record_at, records_of, count_of, after, unless, all_records, end_of}
use Rattle.mn_pcap.specs.Pieces.{IsAt, Follows, IsInHeader, IsInRecord, IsRefusedFor, EndsSo}
use Rattle.mn_pcap.specs.Scans.{settled, standing, lasting, Keeps, Tells}
use Rattle.mn_pcap.proofs.InOrder.{read_whole, read_to, counted}
use Rattle.mn_pcap.proofs.Pieces.{cut_in_header, cut_in_record, between_continues}

-- in the midst of a record
in_header_cut : (form : Form) (bytes : List ℕ) (done : List Place) (at : ℕ) (head : List ℕ) → IsInHeader form bytes done at head →
    record_at form.big bytes at ≡ Err (bad.Refused CutShort at)
in_header_cut form bytes done at head h =
    let l = sym (length-drop at bytes) ∙ ap length h.head_is in
    let short = h.short in
    let within = h.between.within in
    cut_in_header form.big bytes at (omega arith)

in_record_cut : (form : Form) (bytes : List ℕ) (done : List Place) (at : ℕ) (place : Place) (left : ℕ) → IsInRecord form bytes done at place left →
    0 < left → record_at form.big bytes at ≡ Err (bad.Refused CutShort at)
in_record_cut form bytes done at place left r some =
    let end = r.left_is ∙ ap end_of r.place_is in
    cut_in_record form.big bytes at r.header r.lawful (omega arith)

-- How many records are whole.

counted_at : (stage : Stage) (head : List ℕ) (at fed : ℕ) (bytes : List ℕ) (done : List Place) → IsAt stage head at fed bytes done →
    count_of bytes ≡ length done
counted_at FileHeader head at fed bytes done p =
    ap (λ (h : Result Form PcapBad). elim h [ Err bad ↦ 0 | Ok form ↦ length (all_records form.big bytes).0 ]) p.4 ∙ sym (ap length p.3)
counted_at (RecordHeader form) head at fed bytes done p =
    counted bytes form done at (bad.Refused CutShort at) p.1.between.header (in_header_cut form bytes done at head p.1)
    (between_continues form bytes done at p.1.between)
counted_at (Captured form place left) head at fed bytes done p =
    counted bytes form done at (bad.Refused CutShort at) p.1.between.header (in_record_cut form bytes done at place left p.1 p.2)
    (between_continues form bytes done at p.1.between)
counted_at (Refused bad) head at fed bytes done p = sym (ap count_of (append-nil bytes)) ∙ p.count []

pub counts : (cursor : Cursor) (bytes : List ℕ) (done : List Place) → Follows cursor bytes done → cursor.whole ≡ count_of bytes
counts cursor bytes done f = f.whole ∙ sym (counted_at cursor.stage cursor.head cursor.at cursor.fed bytes done f.is_at)

-- What the bytes are, taken as a whole file.

refused_header : (bytes : List ℕ) (bad : PcapBad) → header_of bytes ≡ Err bad → records_of bytes ≡ Err bad
refused_header bytes bad is = ap (λ (h : Result Form PcapBad). after h (λ form. unless (all_records form.big bytes).1 (all_records form.big bytes).0)) is

-- at the end of a record, and anywhere else
pub whole_at : (form : Form) (head : List ℕ) (at fed : ℕ) (bytes : List ℕ) (done : List Place) → IsAt (RecordHeader form) head at fed bytes done →
    at ≡ fed → EndsSo (Ok form) bytes done
whole_at form head at fed bytes done p end =
    let all = p.0 in
    let b = p.1.between in
    let c = between_continues form bytes done at b in
    (b.header, read_whole bytes form done at b.header (omega arith) c, c.inside)

cut_at : (form : Form) (head : List ℕ) (at fed : ℕ) (bytes : List ℕ) (done : List Place) → IsAt (RecordHeader form) head at fed bytes done →
    (at ≡ fed → ⊥) → records_of bytes ≡ Err (bad.Refused CutShort at)
cut_at form head at fed bytes done p apart =
    let all = p.0 in
    let b = p.1.between in
    let within = b.within in
    read_to bytes form done at (bad.Refused CutShort at) b.header (in_header_cut form bytes done at head p.1) (omega (arith, apart))
    (between_continues form bytes done at b)

cut_in : (form : Form) (place : Place) (left : ℕ) (head : List ℕ) (at fed : ℕ) (bytes : List ℕ) (done : List Place) →
    IsAt (Captured form place left) head at fed bytes done → records_of bytes ≡ Err (bad.Refused CutShort at)
cut_in form place left head at fed bytes done p =
    let b = p.1.between in
    let header = p.1.header in
    read_to bytes form done at (bad.Refused CutShort at) b.header (in_record_cut form bytes done at place left p.1 p.2) (omega arith)
    (between_continues form bytes done at b)

refused_at : (bad : PcapBad) (bytes : List ℕ) (done : List Place) → IsRefusedFor bad bytes done → records_of bytes ≡ Err bad
refused_at bad bytes done p = sym (ap records_of (append-nil bytes)) ∙ p.refused []

-- the refusal that lasts, at each stage
abbrev pub refusal_at : Stage → Option PcapBad
refusal_at FileHeader = None
refusal_at (RecordHeader form) = None
refusal_at (Captured form place left) = None
refusal_at (Refused bad) = Some bad

lasting_at : (stage : Stage) (head : List ℕ) (at fed : ℕ) (bytes : List ℕ) (done : List Place) → IsAt stage head at fed bytes done →
    lasting (records_of bytes) ≡ refusal_at stage
lasting_at FileHeader head at fed bytes done p = ap lasting (refused_header bytes (bad.Refused CutShort 0) p.4)
lasting_at (RecordHeader form) head at fed bytes done p = elim (cases_lt at fed) [
  | inl before ↦ ap lasting (cut_at form head at fed bytes done p (λ same. absurd (omega arith)))
  | inr past ↦ (let within = p.1.between.within in let all = p.0 in ap lasting (whole_at form head at fed bytes done p (omega arith)).1)
]
lasting_at (Captured form place left) head at fed bytes done p = ap lasting (cut_in form place left head at fed bytes done p)
lasting_at (Refused bad) head at fed bytes done p = ap lasting (refused_at bad bytes done p) ∙ rw (p.lasting) refl

pub lasts_so : (scan : Scan) (bytes : List ℕ) → Keeps scan bytes → lasting (records_of bytes) ≡ refusal_at scan.cursor.stage
lasts_so scan bytes k = lasting_at scan.cursor.stage scan.cursor.head scan.cursor.at scan.cursor.fed bytes k.done k.follows.is_at

told_at : (stage : Stage) (lost : Bool) → Tells (settled stage lost) (refusal_at stage)
told_at FileHeader true = inr refl
told_at FileHeader false = inl refl
told_at (RecordHeader form) true = inr refl
told_at (RecordHeader form) false = inl refl
told_at (Captured form place left) true = inr refl
told_at (Captured form place left) false = inl refl
told_at (Refused bad) lost = refl

pub told : (scan : Scan) (bytes : List ℕ) → Keeps scan bytes → Tells (standing scan) (lasting (records_of bytes))
told scan bytes k = subst (λ (r : Option PcapBad). Tells (standing scan) r) (sym (lasts_so scan bytes k)) (told_at scan.cursor.stage scan.lost)

settled_at : (stage : Stage) (lost : Bool) (bad : PcapBad) → refusal_at stage ≡ Some bad → settled stage lost ≡ Err bad
settled_at FileHeader lost bad is = cc
settled_at (RecordHeader form) lost bad is = cc
settled_at (Captured form place left) lost bad is = cc
settled_at (Refused other) lost bad is = cc

pub told_again : (scan : Scan) (bytes : List ℕ) (bad : PcapBad) → Keeps scan bytes → lasting (records_of bytes) ≡ Some bad → standing scan ≡ Err bad
told_again scan bytes bad k is = settled_at scan.cursor.stage scan.lost bad (sym (lasts_so scan bytes k) ∙ is)

-- The end.

pub end_whole : (cursor : Cursor) (form : Form) (bytes : List ℕ) (done : List Place) → cursor.stage ≡ RecordHeader form → cursor.at ≡ cursor.fed →
    Follows cursor bytes done → EndsSo (Ok form) bytes done
end_whole cursor form bytes done stage end f =
    whole_at form cursor.head cursor.at cursor.fed bytes done (subst (λ (s : Stage). IsAt s cursor.head cursor.at cursor.fed bytes done) stage f.is_at) end

pub end_refused : (cursor : Cursor) (bad : PcapBad) (bytes : List ℕ) (done : List Place) → cursor.stage ≡ Refused bad → Follows cursor bytes done →
    records_of bytes ≡ Err bad
end_refused cursor bad bytes done stage f = refused_at bad bytes done (subst (λ (s : Stage). IsAt s cursor.head cursor.at cursor.fed bytes done) stage f.is_at)

pub end_cut : (cursor : Cursor) (form : Form) (bytes : List ℕ) (done : List Place) → cursor.stage ≡ RecordHeader form →
    (cursor.at ≡ cursor.fed → ⊥) → Follows cursor bytes done → records_of bytes ≡ Err (bad.Refused CutShort cursor.at)
end_cut cursor form bytes done stage apart f =
    cut_at form cursor.head cursor.at cursor.fed bytes done (subst (λ (s : Stage). IsAt s cursor.head cursor.at cursor.fed bytes done) stage f.is_at) apart

cut_elsewhere : (stage : Stage) (head : List ℕ) (at fed : ℕ) (bytes : List ℕ) (done : List Place) → ((form : Form) → stage ≡ RecordHeader form → ⊥) →
    ((bad : PcapBad) → stage ≡ Refused bad → ⊥) → IsAt stage head at fed bytes done → records_of bytes ≡ Err (bad.Refused CutShort at)
cut_elsewhere FileHeader head at fed bytes done one two p =
    refused_header bytes (bad.Refused CutShort 0) p.4 ∙ ap (λ (n : ℕ). Err (bad.Refused CutShort n)) (sym p.1)
cut_elsewhere (RecordHeader form) head at fed bytes done one two p = absurd (one form refl)
cut_elsewhere (Captured form place left) head at fed bytes done one two p = cut_in form place left head at fed bytes done p
cut_elsewhere (Refused bad) head at fed bytes done one two p = absurd (two bad refl)

pub end_elsewhere : (cursor : Cursor) (bytes : List ℕ) (done : List Place) → ((form : Form) → cursor.stage ≡ RecordHeader form → ⊥) →
    ((bad : PcapBad) → cursor.stage ≡ Refused bad → ⊥) → Follows cursor bytes done → records_of bytes ≡ Err (bad.Refused CutShort cursor.at)
end_elsewhere cursor bytes done one two f = cut_elsewhere cursor.stage cursor.head cursor.at cursor.fed bytes done one two f.is_at
