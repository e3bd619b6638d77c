-- How a line that was played goes on, and one that wasn't.
use Rattle.std.proofs.Common.{◌≡◌, ℕ, false, List, map, Option, None, Result, Ok, Err, refl, sym, ◌∙◌, ap, subst}
use Rattle.std.specs.Prelude.{codes}
use Rattle.std.specs.Result.{IsErrAnd}
use Rattle.mn_perform.specs.Shown.{sending_of}
use Rattle.mn_perform.specs.declared.ended.Ended.{Ended}
use Rattle.mn_perform.specs.declared.ended.Ended.TheVariants as ended
use Rattle.mn_perform.specs.declared.ended.Fault.{Fault}
use Rattle.mn_join_laws.specs.declared.leg.Which.{Which}
use Rattle.mn_join_laws.specs.declared.leg.Which.TheVariants.{First, Second}
use Rattle.mn_join_laws.specs.Pairing.{Pairing, network, Both}
use Rattle.mn_join_laws.specs.Course.{PairCourse}
use Rattle.mn_join.specs.declared.played.Played.{Played}
use Rattle.mn_join.specs.declared.played.Played.TheVariants as played
use Rattle.mn_join.specs.declared.played.PairBad.TheVariants.{TooManySteps}
use Rattle.mn_join.specs.Pairs.{PairNow, net_of, PairStands}
use Rattle.mn_join.specs.Plays.{Plays}
use Rattle.mn_join_script.specs.declared.line.JoinLine.{JoinLine}
use Rattle.mn_join_run.specs.Course.{JoinRun, goes_on, with_refusal, after_course, with_packet}
use Rattle.mn_join_run.specs.Report.{refused_texts, exits_file}
use Rattle.mn_join_run.specs.Outside.{Outside, Start, Stands, IsCut}
use Rattle.mn_join_run.specs.Playing.{ending_of, IsNoted, Keeps, Went}
use Rattle.mn_join_run.specs.declared.desk.Desk.{Desk}
use Rattle.mn_join_run.proofs.Growing.{Grows, packet_grows, texts_begin, file_begins}
use Rattle.mn_join_run.proofs.Standing.{cut_more, cut_here}

-- what a fault cut off
pub noted_cut : {T : Type 0} (start : Start) (later : JoinRun) (desk : Desk) (now : Outside) (r : Result T Fault) (P : Fault → Type 0) → IsErrAnd r P →
    IsCut start (refused_texts later) (exits_file later.exits) now → IsNoted start later desk now r
noted_cut start later desk now (Ok x) P is cut = absurd is
noted_cut start later desk now (Err fault) P is cut = cut

pub went_cut : (pairing : Pairing) (start : Start) (run : JoinRun) (pair : PairNow) (desk : Desk) (now : Outside) (r : Result Ended Fault) (P : Fault →
    Type 0) →
    IsErrAnd r P → IsCut start (refused_texts run) (exits_file run.exits) now → Went pairing start run pair desk now r
went_cut pairing start run pair desk now (Ok x) P is cut = absurd is
went_cut pairing start run pair desk now (Err fault) P is cut = cut

-- the course of a line that was played to its end
pub exits_are : (pairing : Pairing) (course : PairCourse) (pair : PairNow) (p : Played) → Plays pairing course pair (Ok p) → pair.exits ≡ course.exits
exits_are pairing course pair played.All plays = plays.2
exits_are pairing course pair (played.Refused why) plays = plays.2

-- the networks that a line was played on have their topologies
pub stood_after : (pairing : Pairing) (course : PairCourse) (pair : PairNow) (p : Played) → Plays pairing course pair (Ok p) →
    PairStands pairing pair course.both
stood_after pairing course pair played.All plays = plays.1
stood_after pairing course pair (played.Refused why) plays = plays.1

-- and so the run goes on
pub line_kept : (pairing : Pairing) (start : Start) (run : JoinRun) (line : JoinLine) (course : PairCourse) (p : Played) (pair : PairNow) (desk : Desk)
    (now : Outside) →
    Plays pairing course pair (Ok p) → pair.stopped ≡ None → run.is_stopped ≡ false →
    IsNoted {T = Unit {0}} start (after_course pairing run line course (ending_of p)) desk now (Ok tt) →
    Went pairing start (after_course pairing run line course course.ending) pair desk now (Ok ended.All)
line_kept pairing start run line course played.All pair desk now plays goes running noted =
    subst (λ how. Keeps pairing start (after_course pairing run line course how) pair desk now) (sym plays.0)
    (record { pair_stands = plays.1; goes = goes; running = running; sendings = noted.0; outside = noted.1 })
line_kept pairing start run line course (played.Refused why) pair desk now plays goes running noted =
    subst (λ how. Keeps pairing start (after_course pairing run line course how) pair desk now) (sym plays.0)
    (record { pair_stands = plays.1; goes = goes; running = running; sendings = noted.0; outside = noted.1 })

-- a fault cut it off as it was noted
pub line_noted_cut : (pairing : Pairing) (start : Start) (run : JoinRun) (line : JoinLine) (course : PairCourse) (p : Played) (pair : PairNow) (now : Outside) →
    Plays pairing course pair (Ok p) →
    IsCut start (refused_texts (after_course pairing run line course (ending_of p))) (exits_file (after_course pairing run line course (ending_of p)).exits)
    now →
    IsCut start (refused_texts (after_course pairing run line course course.ending)) (exits_file (after_course pairing run line course course.ending).exits) now
line_noted_cut pairing start run line course played.All pair now plays cut =
    subst (λ how. IsCut start (refused_texts (after_course pairing run line course how)) (exits_file (after_course pairing run line course how).exits) now)
    (sym plays.0) cut
line_noted_cut pairing start run line course (played.Refused why) pair now plays cut =
    subst (λ how. IsCut start (refused_texts (after_course pairing run line course how)) (exits_file (after_course pairing run line course how).exits) now)
    (sym plays.0) cut

-- a full journal stopped it
pub line_stops : (pairing : Pairing) (start : Start) (run : JoinRun) (line : JoinLine) (course : PairCourse) (pair : PairNow) (desk : Desk) (now : Outside) →
    Plays pairing course pair (Err TooManySteps) → Stands start (refused_texts (goes_on run course)) (exits_file (goes_on run course).exits) now →
    Went pairing start (after_course pairing run line course course.ending) pair desk now (Ok ended.TooManySteps)
line_stops pairing start run line course pair desk now plays stands =
    subst (λ how. Went pairing start (after_course pairing run line course how) pair desk now (Ok ended.TooManySteps)) (sym plays.0) (refl, stands)

-- what stood before a line is a first part of what stands after it
pub line_unplayed : (pairing : Pairing) (start : Start) (run : JoinRun) (line : JoinLine) (packet : Option (List ℕ)) (now : Outside) →
    Stands start (refused_texts run) (exits_file run.exits) now →
    IsCut start (refused_texts (with_packet pairing run line packet)) (exits_file (with_packet pairing run line packet).exits) now
line_unplayed pairing start run line packet now stands =
    let grows : Grows run (with_packet pairing run line packet) = packet_grows pairing run line packet in
    cut_more start _ _ _ _ now (texts_begin run (with_packet pairing run line packet) grows) (file_begins run (with_packet pairing run line packet) grows)
    (cut_here start (refused_texts run) (exits_file run.exits) now stands)

-- a line whose record the capture hasn't was refused
pub record_missing : (pairing : Pairing) (start : Start) (run : JoinRun) (line : JoinLine) (pair : PairNow) (desk later : Desk) (old now : Outside) →
    later.sent ≡ desk.sent → Keeps pairing start run pair desk old →
    Stands start (refused_texts (with_refusal run line.number (codes "NoRecord"))) (exits_file (with_refusal run line.number (codes "NoRecord")).exits) now →
    Went pairing start (with_packet pairing run line None) pair later now (Ok ended.All)
record_missing pairing start run line pair desk later old now same keeps stands = record {
  pair_stands = keeps.pair_stands;
  goes = keeps.goes;
  running = keeps.running;
  sendings = ap (λ s. map sending_of s.items) same ∙ keeps.sendings;
  outside = stands;
}

-- the topology of a network
pub topology_of : (pairing : Pairing) (pair : PairNow) (both : Both) (which : Which) → PairStands pairing pair both →
    (net_of pair which).topology ≡ network pairing which
topology_of pairing pair both First stands = (stands.sides First).topology
topology_of pairing pair both Second stands = (stands.sides Second).topology
