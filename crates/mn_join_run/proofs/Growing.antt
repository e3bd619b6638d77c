-- What was refused and what came out only grow over a script.
use Rattle.std.proofs.Common.{◌≡◌, ℕ, Bool, true, false, List, [], ◌∷◌, ◌++◌, append_assoc, append-nil, Option, Some, None, refl, sym, ◌∙◌, ap}
use Rattle.std.specs.List.{flat_map}
use Rattle.std.proofs.lemmas.List.Concat.{flat_map-append}
use Rattle.mn_edge.specs.Written.{IsPrefix}
use Rattle.mn_pcap.specs.Format.{header}
use Rattle.mn_course_laws.specs.declared.coming.Ending.{Ending}
use Rattle.mn_course_laws.specs.declared.coming.Ending.TheVariants as ending
use Rattle.mn_join_laws.specs.Pairing.{Pairing}
use Rattle.mn_join_laws.specs.Course.{Exit, PairCourse, played}
use Rattle.mn_join_script.specs.declared.line.JoinLine.{JoinLine}
use Rattle.mn_join_run.specs.Course.{RefusedLine, JoinRun, after_course, with_packet, packet_for, with_line, unless_stopped, run_from}
use Rattle.mn_join_run.specs.Report.{refused_text, refused_texts, exit_record, exits_file}

-- the refused lines and the exits of one are the first of the other's
pub record Grows (old new : JoinRun) : Type 0 where
  pub more_refused : List RefusedLine
  pub refused : new.refused ≡ old.refused ++ more_refused
  pub more_exits : List Exit
  pub exits : new.exits ≡ old.exits ++ more_exits

pub grows_not : (run : JoinRun) → Grows run run
grows_not run =
    record { more_refused = []; refused = sym (append-nil run.refused); more_exits = []; exits = sym (append-nil run.exits) }

pub grows_on : (a b c : JoinRun) → Grows a b → Grows b c → Grows a c
grows_on a b c h g = record {
  more_refused = h.more_refused ++ g.more_refused;
  refused = g.refused ∙ ap (λ l. l ++ g.more_refused) h.refused ∙ append_assoc a.refused h.more_refused g.more_refused;
  more_exits = h.more_exits ++ g.more_exits;
  exits = g.exits ∙ ap (λ l. l ++ g.more_exits) h.exits ∙ append_assoc a.exits h.more_exits g.more_exits;
}

pub course_grows : (pairing : Pairing) (run : JoinRun) (line : JoinLine) (course : PairCourse) (how : Ending) →
    Grows run (after_course pairing run line course how)
course_grows pairing run line course ending.All =
    record { more_refused = []; refused = sym (append-nil run.refused); more_exits = course.exits; exits = refl }
course_grows pairing run line course (ending.Refused cause) =
    record { more_refused = _; refused = refl; more_exits = course.exits; exits = refl }
course_grows pairing run line course ending.NoRecord = record { more_refused = _; refused = refl; more_exits = course.exits; exits = refl }
course_grows pairing run line course ending.TooManySteps =
    record { more_refused = []; refused = sym (append-nil run.refused); more_exits = course.exits; exits = refl }

pub packet_grows : (pairing : Pairing) (run : JoinRun) (line : JoinLine) (packet : Option (List ℕ)) → Grows run (with_packet pairing run line packet)
packet_grows pairing run line None = record { more_refused = _; refused = refl; more_exits = []; exits = sym (append-nil run.exits) }
packet_grows pairing run line (Some bytes) =
    let course : PairCourse = played pairing line.which run.both line.command bytes in course_grows pairing run line course course.ending

unless_grows : (b : Bool) (now later : JoinRun) → Grows now later → Grows now (unless_stopped b now later)
unless_grows true now later h = grows_not now
unless_grows false now later h = h

pub script_grows : (pairing : Pairing) (capture : List (List ℕ)) (now : JoinRun) (lines : List JoinLine) → Grows now (run_from pairing capture now lines)
script_grows pairing capture now [] = grows_not now
script_grows pairing capture now (line ∷ lines) =
    unless_grows now.is_stopped now (run_from pairing capture (with_line pairing capture now line) lines)
    (grows_on now (with_line pairing capture now line) _ (packet_grows pairing now line (packet_for capture line.command))
    (script_grows pairing capture (with_line pairing capture now line) lines))

-- so texts and bytes of the one are first parts of the other's
pub texts_more : (run : JoinRun) (refused more : List RefusedLine) → refused ≡ run.refused ++ more →
    flat_map refused_text refused ≡ refused_texts run ++ flat_map refused_text more
texts_more run refused more is = ap (flat_map refused_text) is ∙ flat_map-append refused_text run.refused more

pub file_more : (exits all more : List Exit) → all ≡ exits ++ more → exits_file all ≡ exits_file exits ++ flat_map exit_record more
file_more exits all more is =
    ap exits_file is ∙ ap (λ l. header 228 ++ l) (flat_map-append exit_record exits more)
    ∙ sym (append_assoc (header 228) (flat_map exit_record exits) (flat_map exit_record more))

pub texts_begin : (old new : JoinRun) → Grows old new → IsPrefix (refused_texts old) (refused_texts new)
texts_begin old new g = (flat_map refused_text g.more_refused, sym (texts_more old new.refused g.more_refused g.refused))

pub file_begins : (old new : JoinRun) → Grows old new → IsPrefix (exits_file old.exits) (exits_file new.exits)
file_begins old new g = (flat_map exit_record g.more_exits, sym (file_more old.exits new.exits g.more_exits g.exits))
