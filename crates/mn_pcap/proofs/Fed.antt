-- A scan from piece to piece.
use Rattle.std.proofs.Common.{◌≡◌, ◌==◌, ◌≤◌, ◌<◌, ◌+◌, ◌^◌, ℕ, Bool, true, false, List, [], ◌++◌, length, take, drop, Option, Some, Result, Ok, Err, refl}
use Rattle.std.proofs.Common.{ap, sym, ◌∙◌, subst, arith, append_assoc, length-drop}
use Rattle.std.specs.Prelude.{Vec}
use Rattle.std.specs.declared.alloc.Global.{Global}
use Rattle.std.proofs.Math.Seq.{take-add}
use Rattle.std.proofs.lemmas.List.{append-nil, take_all}
use Rattle.std.proofs.lemmas.Bool.Decides.{nat_tests}
use Rattle.mn_pcap.specs.declared.message.Form.{Form}
use Rattle.mn_pcap.specs.declared.message.Place.{Place}
use Rattle.mn_pcap.specs.declared.refusal.PcapBad.{PcapBad}
use Rattle.mn_pcap.specs.declared.refusal.PcapBad.TheVariants as bad
use Rattle.mn_pcap.specs.declared.stage.Stage.{Stage}
use Rattle.mn_pcap.specs.declared.stage.Stage.TheVariants.{FileHeader, RecordHeader, Captured, Refused}
use Rattle.mn_pcap.specs.declared.cursor.Cursor.{Cursor}
use Rattle.mn_pcap.specs.declared.scan.Scan.{Scan}
use Rattle.mn_pcap.specs.Reading.{records_of}
use Rattle.mn_pcap.specs.Stages.{listed}
use Rattle.mn_pcap.specs.Pieces.{IsAt, Follows}
use Rattle.mn_pcap.specs.Scans.{settled, standing, is_lost, is_no_memory, lasting, Keeps, IsFed, Tells, Finds}
use Rattle.mn_pcap.proofs.Steps.{refused_more}
use Rattle.mn_pcap.proofs.Found.{end_refused, told, told_again}

-- What is settled.

refused_by : (stage : Stage) (lost : Bool) (bad : PcapBad) → settled stage lost ≡ Err bad → is_no_memory (settled stage lost) ≡ false → stage ≡ Refused bad
refused_by FileHeader true bad is kept = cc
refused_by FileHeader false bad is kept = cc
refused_by (RecordHeader form) true bad is kept = cc
refused_by (RecordHeader form) false bad is kept = cc
refused_by (Captured form place left) true bad is kept = cc
refused_by (Captured form place left) false bad is kept = cc
refused_by (Refused other) lost bad is kept = cc

no_memory : (answer : Result (Unit {0}) PcapBad) → is_no_memory answer ≡ true → answer ≡ Err bad.NoMemory
no_memory (Ok done) is = cc
no_memory (Err bad.NoMemory) is = refl
no_memory (Err (bad.Refused rule place)) is = cc

lost_from : (stage : Stage) (lost : Bool) (done : Unit {0}) → settled stage lost ≡ Ok done → settled stage true ≡ Err bad.NoMemory
lost_from FileHeader lost done is = refl
lost_from (RecordHeader form) lost done is = refl
lost_from (Captured form place left) lost done is = refl
lost_from (Refused bad) lost done is = cc

fed_is : (stage : Stage) (lost : Bool) (done : Unit {0}) (head : List ℕ) (at fed : ℕ) (bytes : List ℕ) (places : List Place) →
    settled stage lost ≡ Ok done → IsAt stage head at fed bytes places → fed ≡ length bytes
fed_is FileHeader lost done head at fed bytes places is p = p.0
fed_is (RecordHeader form) lost done head at fed bytes places is p = p.0
fed_is (Captured form place left) lost done head at fed bytes places is p = p.0
fed_is (Refused bad) lost done head at fed bytes places is p = cc

-- A scan that refuses goes on so.

pub refused_keeps : (scan : Scan) (bytes more : List ℕ) (bad : PcapBad) → standing scan ≡ Err bad → is_lost scan ≡ false → Keeps scan bytes →
    Keeps scan (bytes ++ more)
refused_keeps scan bytes more bad is kept k = record {
  done = k.done ++ [];
  follows = refused_more scan.cursor bytes more k.done bad (refused_by scan.cursor.stage scan.lost bad is kept) k.follows;
  kept = λ all. k.kept all ∙ sym (append-nil k.done);
}

pub refused_found : (scan : Scan) (bytes : List ℕ) (bad : PcapBad) → standing scan ≡ Err bad → is_lost scan ≡ false → Keeps scan bytes →
    records_of bytes ≡ Err bad
refused_found scan bytes bad is kept k = end_refused scan.cursor bad bytes k.done (refused_by scan.cursor.stage scan.lost bad is kept) k.follows

pub finds_refusal : (answer : Result (Form × Vec Place Global) PcapBad) (bytes : List ℕ) (bad : PcapBad) → answer ≡ Err bad → records_of bytes ≡ Err bad →
    Finds answer bytes
finds_refusal answer bytes bad is found = subst (λ (a : Result (Form × Vec Place Global) PcapBad). Finds a bytes) (sym is) found

-- what a settled scan answers
pub record AnswersAgain (scan : Scan) (answer : Result (Unit {0}) PcapBad) (piece : List ℕ) : Type 0 where
  pub fed : (bytes : List ℕ) → IsFed scan bytes → IsFed scan (bytes ++ piece)
  pub told : (bytes : List ℕ) → IsFed scan bytes → is_lost scan ≡ false → length bytes + length piece < 2 ^ 63 →
      Tells answer (lasting (records_of (bytes ++ piece)))
  pub again : (bytes : List ℕ) (bad : PcapBad) → IsFed scan bytes → is_lost scan ≡ false → lasting (records_of bytes) ≡ Some bad → answer ≡ Err bad
  pub memory : is_lost scan ≡ is_no_memory answer
  pub lost : is_lost scan ≡ true → answer ≡ Err bad.NoMemory

pub settled_answers : (scan : Scan) (answer : Result (Unit {0}) PcapBad) (piece : List ℕ) (bad : PcapBad) → answer ≡ Err bad → standing scan ≡ Err bad →
    AnswersAgain scan answer piece
settled_answers scan answer piece bad given is =
    let same : answer ≡ standing scan = given ∙ sym is in
    record {
      fed = λ bytes fed kept. refused_keeps scan bytes piece bad is kept (fed kept);
      told = λ bytes fed kept within. subst (λ (a : Result (Unit {0}) PcapBad). Tells a (lasting (records_of (bytes ++ piece)))) (sym same)
          (told scan (bytes ++ piece) (refused_keeps scan bytes piece bad is kept (fed kept)));
      again = λ bytes other fed kept before. same ∙ told_again scan bytes other (fed kept) before;
      memory = ap is_no_memory (sym same);
      lost = λ out. same ∙ no_memory (standing scan) out;
    }

-- Too many bytes.

pub lost_now : (old new : Scan) (done : Unit {0}) → standing old ≡ Ok done → new.cursor ≡ old.cursor → new.lost ≡ true → is_lost new ≡ true
lost_now old new done is cursor lost =
    ap is_no_memory (ap (λ (c : Cursor). settled c.stage new.lost) cursor ∙ ap (λ (b : Bool). settled old.cursor.stage b) lost
    ∙ lost_from old.cursor.stage old.lost done is)

pub not_lost : (scan : Scan) (done : Unit {0}) → standing scan ≡ Ok done → is_lost scan ≡ false
not_lost scan done is = ap is_no_memory is

pub fed_so_far : (scan : Scan) (bytes : List ℕ) (done : Unit {0}) → standing scan ≡ Ok done → Keeps scan bytes → scan.cursor.fed ≡ length bytes
fed_so_far scan bytes done is k = fed_is scan.cursor.stage scan.lost done scan.cursor.head scan.cursor.at scan.cursor.fed bytes k.done is k.follows.is_at

-- A step.

pub step_keeps : (old new : Scan) (cursor : Cursor) (bytes rest : List ℕ) (taken : ℕ) (place : Option Place)
    → ((bytes : List ℕ) (done : List Place) → Follows old.cursor bytes done → Follows cursor (bytes ++ take taken rest) (done ++ listed place))
    → new.cursor ≡ cursor → (new.lost ≡ false → (old.lost ≡ false) × (new.places.items ≡ old.places.items ++ listed place))
    → Keeps old bytes → Keeps new (bytes ++ take taken rest)
step_keeps old new cursor bytes rest taken place moves same kept k = record {
  done = k.done ++ listed place;
  follows = subst (λ (c : Cursor). Follows c (bytes ++ take taken rest) (k.done ++ listed place)) (sym same) (moves bytes k.done k.follows);
  kept = λ all. (let h = kept all in h.1 ∙ ap (λ (ps : List Place). ps ++ listed place) (k.kept h.0));
}

pub one_piece : (bytes piece : List ℕ) (n m : ℕ) → (bytes ++ take n piece) ++ take m (drop n piece) ≡ bytes ++ take (n + m) piece
one_piece bytes piece n m = append_assoc bytes (take n piece) (take m (drop n piece)) ∙ ap (λ (xs : List ℕ). bytes ++ xs) (sym (take-add n m piece))

pub none_left : (rest : List ℕ) → (length rest == 0) ≡ true → length rest ≡ 0
none_left rest is = grind (arith, nat_tests)

pub all_taken : (scan : Scan) (bytes piece rest : List ℕ) (n : ℕ) → n ≤ length piece → rest ≡ drop n piece → length rest ≡ 0 →
    Keeps scan (bytes ++ take n piece) → Keeps scan (bytes ++ piece)
all_taken scan bytes piece rest n within is none k =
    let l = sym (length-drop n piece) ∙ ap length (sym is) ∙ none in
    subst (λ (xs : List ℕ). Keeps scan (bytes ++ xs)) (take_all n piece (omega arith)) k
