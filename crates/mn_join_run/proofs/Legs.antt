-- What both networks are after a script is what some lines made of them, so each packet has its legs, and crosses by them.
use Rattle.std.proofs.Common.{◌≡◌, ◌<◌, ℕ, Bool, true, false, List, [], ◌∷◌, ◌++◌, length, Option, Some, None, refl, sym, ◌∙◌, ap, subst}
use Rattle.mn_course_laws.specs.declared.coming.Ending.{Ending}
use Rattle.mn_course_laws.specs.declared.coming.Ending.TheVariants as ending
use Rattle.mn_join_laws.specs.declared.leg.Which.{Which}
use Rattle.mn_join_laws.specs.Pairing.{Pairing, Both, travel, at_first}
use Rattle.mn_join_laws.specs.Course.{PairCourse, played}
use Rattle.mn_join_laws.specs.Legs.{Line, after_lines, ArrivesByItsLegs, IsLawfulIn}
use Rattle.mn_join_laws.proofs.Arriving.{arrive_by_legs}
use Rattle.mn_join_script.specs.declared.line.JoinLine.{JoinLine}
use Rattle.mn_join_run.specs.Course.{JoinRun, after_course, with_packet, packet_for, with_line, unless_stopped, run_from, run_of}

-- some lines lead from what both networks were to what they are
record IsAfter (pairing : Pairing) (from both : Both) : Type 0 where
  pub lines : List Line
  pub is : both ≡ after_lines pairing lines from

both_after : (pairing : Pairing) (one two : List Line) (from : Both) →
    after_lines pairing (one ++ two) from ≡ after_lines pairing two (after_lines pairing one from)
both_after pairing [] two from = refl
both_after pairing (line ∷ one) two from = both_after pairing one two (played pairing line.which from line.command line.bytes).both

not_after : (pairing : Pairing) (both : Both) → IsAfter pairing both both
not_after pairing both = record { lines = []; is = refl }

then_after : (pairing : Pairing) (a b c : Both) → IsAfter pairing a b → IsAfter pairing b c → IsAfter pairing a c
then_after pairing a b c h g = record {
  lines = h.lines ++ g.lines;
  is = g.is ∙ ap (after_lines pairing g.lines) h.is ∙ sym (both_after pairing h.lines g.lines a);
}

by_course : (pairing : Pairing) (run : JoinRun) (line : JoinLine) (course : PairCourse) (how : Ending) →
    (after_course pairing run line course how).both ≡ course.both
by_course pairing run line course ending.All = refl
by_course pairing run line course (ending.Refused cause) = refl
by_course pairing run line course ending.NoRecord = refl
by_course pairing run line course ending.TooManySteps = refl

by_packet : (pairing : Pairing) (run : JoinRun) (line : JoinLine) (packet : Option (List ℕ)) →
    IsAfter pairing run.both (with_packet pairing run line packet).both
by_packet pairing run line None = not_after pairing run.both
by_packet pairing run line (Some bytes) =
    let course : PairCourse = played pairing line.which run.both line.command bytes in
    record {
      lines = record { which = line.which; command = line.command; bytes = bytes } ∷ [];
      is = by_course pairing run line course course.ending;
    }

by_unless : (pairing : Pairing) (from : Both) (stopped : Bool) (now later : JoinRun) → IsAfter pairing from now.both → IsAfter pairing from later.both →
    IsAfter pairing from (unless_stopped stopped now later).both
by_unless pairing from true now later h g = h
by_unless pairing from false now later h g = g

by_script : (pairing : Pairing) (capture : List (List ℕ)) (now : JoinRun) (lines : List JoinLine) →
    IsAfter pairing now.both (run_from pairing capture now lines).both
by_script pairing capture now [] = not_after pairing now.both
by_script pairing capture now (line ∷ lines) =
    by_unless pairing now.both now.is_stopped now (run_from pairing capture (with_line pairing capture now line) lines) (not_after pairing now.both)
    (then_after pairing now.both (with_line pairing capture now line).both _ (by_packet pairing now line (packet_for capture line.command))
    (by_script pairing capture (with_line pairing capture now line) lines))

-- what its last leg delivers has crossed the networks of all its legs, where both are lawful
abbrev AllArrive : Pairing → Both → Type 0
AllArrive pairing both =
    ((which : Which) → IsLawfulIn pairing both which) → (packet : ℕ) → packet < length both.travels → ArrivesByItsLegs pairing both (travel both packet)

-- so what holds after all lines holds after the script
pub all_arrive : (pairing : Pairing) (capture : List (List ℕ)) (lines : List JoinLine) → AllArrive pairing (run_of pairing capture lines).both
all_arrive pairing capture lines =
    let after : IsAfter pairing at_first (run_of pairing capture lines).both = by_script pairing capture _ lines in
    subst (AllArrive pairing) (sym after.is) (arrive_by_legs pairing after.lines)
