-- What a recorder hands out, and what stands after a line.
use Rattle.std.proofs.Common.{◌≡◌, ℕ, suc, ◌-◌, ◌≤◌, nat_le, true, List, slice_get, Option, None, Some, Result, Ok, Err, sym, ◌∙◌, ap}
use Rattle.std.proofs.Common.{refl, subst, arith}
use Rattle.std.proofs.lemmas.Option.{none-some}
use Rattle.std.specs.Option.{ForSome}
use Rattle.mn_base.proofs.Bools.{and_left, and_right, at_most_tells}
use Rattle.mn_edge.specs.Files.{Absent, Files, file}
use Rattle.mn_edge.specs.declared.device.DeviceBad.{DeviceBad}
use Rattle.mn_edge.specs.Kept.{BeginsOn, Lacking}
use Rattle.mn_edge.specs.KeptLaws.{holds_there}
use Rattle.mn_base.proofs.Rules.{some_is}
use Rattle.mn_course_laws.specs.Course.{record_of, inputs_of}
use Rattle.mn_capture.specs.Packets.{CaptureView, packets_in}
use Rattle.mn_topo.specs.Network.{Network}
use Rattle.mn_topo.specs.declared.steps.JournalEntry.{JournalEntry}
use Rattle.mn_net_laws.specs.Now.{NetNow, StandsFor}
use Rattle.mn_sched.specs.Watching.{is_record, Together, but_last}
use Rattle.mn_sched.specs.Playing.{After}
use Rattle.mn_sched.specs.declared.line.Stopped.{Stopped}
use Rattle.mn_sched.specs.declared.line.Stopped.TheVariants.{TooManySteps, Read, Write, NoMemory}
use Rattle.mn_perform.specs.Recorded.{BooksNow, IsFor, Records, RecordedAfter, contents_at, told_packets}
use Rattle.mn_perform.specs.Watched.{Holding, Beginning, GoesOn}
use Rattle.mn_perform.specs.Laws.{packets_are_there, same_packets, packets_stay, holding_stays, goes_on_stays}
use Rattle.mn_perform.specs.Adding.{Stays}
use Rattle.mn_perform.specs.Parts.{RecordsLast, MayRecordLast}
use Rattle.mn_perform.proofs.Adding.{stays_for}

-- a record's number is one of 1 to as many as there are
pub record_within : (records nth : ℕ) → is_record records nth ≡ true → (1 ≤ nth) × (nth ≤ records)
record_within records nth is =
    (at_most_tells 1 nth (and_left (nat_le 1 nth) (nat_le nth records) is), at_most_tells nth records (and_right (nat_le 1 nth) (nat_le nth records) is))

at_place : (all : List (List ℕ)) (nth : ℕ) → 1 ≤ nth → slice_get all (nth - 1) ≡ record_of all nth
at_place all nth first =
    let e : nth ≡ suc (nth - 1) = omega arith in
    sym (ap (record_of all) e)

-- the bytes that came are the record's packet
pub is_its_packet : (files : Option Files) (names : List (List ℕ)) (capture : CaptureView) (nth : ℕ) (packet : List ℕ) → 1 ≤ nth →
    ForSome files (λ m. ForSome (file m capture.name) (λ whole. slice_get (packets_in capture whole) (nth - 1) ≡ Some packet)) →
    ForSome (told_packets files names capture) (λ all. record_of all nth ≡ Some packet)
is_its_packet files names capture nth packet first fetched = λ all is.
    let x = packets_are_there files names capture all is in
    sym (at_place all nth first) ∙ ap (λ l. slice_get l (nth - 1)) (sym x.packets) ∙ fetched x.now x.told x.bytes x.there

-- net and files go together before a line
pub together_is : (net : NetNow) (books : BooksNow) (capture : CaptureView) (files : Option Files) → IsFor books net.topology →
    ForSome (told_packets files books.names capture) (λ all. StandsFor net (inputs_of all net.journal) × Records net.topology net.journal all books files) →
    Together net (told_packets files books.names capture) (λ topology journal inputs. Holding books capture files topology journal)
together_is net books capture files is both = λ all told. (
  (both all told).0,
  (
    is,
    λ other said. subst (λ packets. Records net.topology net.journal packets books files) (some_is all other (sym told ∙ said))
        (both all told).1,
  ),
)

-- and after it
pub recorded_after : {T : Type 0} (net : NetNow) (books : BooksNow) (capture : CaptureView) (files : Option Files) (packets : Option (List (List ℕ)))
    (result : Result T Stopped) → told_packets files books.names capture ≡ packets →
    After net packets (λ topology journal inputs. Holding books capture files topology journal)
    (λ topology journal inputs. Beginning books capture files topology journal) result →
    ForSome packets (λ all. RecordedAfter all books net files result)
recorded_after net books capture files packets (Ok x) same after = λ all told. ((after all told).0, (after all told).1.1 all (same ∙ told))
recorded_after net books capture files packets (Err TooManySteps) same after = λ all told. ((after all told).0, (after all told).1.1 all (same ∙ told))
recorded_after net books capture files packets (Err Read) same after = λ all told. (after all told).1 all (same ∙ told)
recorded_after net books capture files packets (Err Write) same after = λ all told. (after all told).1 all (same ∙ told)
recorded_after net books capture files packets (Err NoMemory) same after = λ all told. after all told all (same ∙ told)

-- a step changes no packet of the capture
still_told : {Kept T : Type 0} {files : Kept → Option Files} {write_faults read_faults : Kept → Option ℕ} {old new : BooksNow} {before after : Kept}
    {result : Result T DeviceBad} (all : List (List ℕ)) (capture : CaptureView) (other : List (List ℕ)) →
    told_packets (files before) old.names capture ≡ Some all → Stays files write_faults read_faults old new before after result →
    told_packets (files after) new.names capture ≡ Some other → all ≡ other
still_told {files} {old} {before} {after} all capture other told stays said = some_is all other (sym told
    ∙ sym (same_packets old.names capture (files before) (files after) stays.framed) ∙ ap (λ n. told_packets (files after) n capture) (sym stays.names) ∙ said)

-- a step that is recorded
pub step_holds : {Kept T : Type 0} {files : Kept → Option Files} {write_faults read_faults : Kept → Option ℕ} {old new : BooksNow} {before after : Kept}
    {result : Result T DeviceBad} (net : NetNow) (all : List (List ℕ)) (capture : CaptureView) → told_packets (files before) old.names capture ≡ Some all →
    Stays files write_faults read_faults old new before after result → Holding old capture (files before) net.topology (but_last net.journal) →
    (IsFor old net.topology → RecordsLast net all old new (files before) (files after)) → Holding new capture (files after) net.topology net.journal
step_holds {files} {old} {new} {before} {after} net all capture told stays holding records = (
  stays_for net.topology stays holding.0,
  λ other said. subst (λ packets. Records net.topology net.journal packets new (files after)) (still_told all capture other told stays said)
      (records holding.0 (holding.1 all told)),
)

pub step_begins : {Kept T : Type 0} {files : Kept → Option Files} {write_faults read_faults : Kept → Option ℕ} {old new : BooksNow} {before after : Kept}
    {result : Result T DeviceBad} (net : NetNow) (all : List (List ℕ)) (capture : CaptureView) → told_packets (files before) old.names capture ≡ Some all →
    Stays files write_faults read_faults old new before after result → Holding old capture (files before) net.topology (but_last net.journal) →
    (IsFor old net.topology → MayRecordLast net all old new (files before) (files after)) → Beginning new capture (files after) net.topology net.journal
step_begins {files} {new} {after} net all capture told stays holding records = λ other said.
    subst (λ packets. BeginsOn new.names (contents_at net.topology packets net.journal) (files after)) (still_told all capture other told stays said)
    (records holding.0 (holding.1 all told))

-- what is told and held where no file changed
pub record Unmoved (books : BooksNow) (capture : CaptureView) (before after : Option Files) : Type 0 where
  pub packets : told_packets after books.names capture ≡ told_packets before books.names capture
  pub holding : (topology : Network) (journal : List JournalEntry) → Holding books capture before topology journal →
      Holding books capture after topology journal
  pub goes_on : GoesOn books books capture capture before after

pub unmoved : (books : BooksNow) (capture : CaptureView) (before after : Option Files) → after ≡ before → Unmoved books capture before after
unmoved books capture before after same = record {
  packets = packets_stay books.names capture before after same;
  holding = λ topology journal. holding_stays books capture before after topology journal same;
  goes_on = goes_on_stays books capture before after same;
}

-- no packets are told where the capture isn't there
pub absent_untold : (files : Option Files) (names : List (List ℕ)) (capture : CaptureView) → Absent files capture.name → told_packets files names capture ≡ None
absent_untold files names capture absent = by (told_packets files names capture) refl
  where
    by : (o : Option (List (List ℕ))) → told_packets files names capture ≡ o → told_packets files names capture ≡ None
    by None is = is
    by (Some all) is =
        let x = packets_are_there files names capture all is in
        let e : ◌≡◌ {A = Option (List ℕ)} None (Some x.bytes) = sym (absent x.now x.told) ∙ x.there in
        absurd (none-some x.bytes e)

-- nor where not all files are there that have what the journal's steps have added
pub lacking_untold : (books : BooksNow) (capture : CaptureView) (files : Option Files) (topology : Network) (journal : List JournalEntry) →
    ForSome (told_packets files books.names capture) (λ all. Holding books capture files topology journal) → Lacking books.names files →
    told_packets files books.names capture ≡ None
lacking_untold books capture files topology journal holding lacking = by (told_packets files books.names capture) refl
  where
    by : (o : Option (List (List ℕ))) → told_packets files books.names capture ≡ o → told_packets files books.names capture ≡ None
    by None is = is
    by (Some all) is =
        absurd (lacking (holds_there books.names (contents_at topology all journal) books.held files ((holding all is).1 all is)))
