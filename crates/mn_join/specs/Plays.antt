-- How the playing of a line ends.
use Rattle.std.specs.Prelude.{◌≡◌, Bool, true, false, List, ◌++◌, Option, Some, None, Result, Ok, Err, ⊤}
use Rattle.mn_script.specs.declared.command.Command.{Command}
use Rattle.mn_script.specs.declared.command.Command.TheVariants.{Run, Show}
use Rattle.mn_ledger.specs.declared.refused.Refused.TheVariants as cause
use Rattle.mn_course_laws.specs.declared.coming.Ending.TheVariants as ending
use Rattle.mn_sched.specs.Playing.{IsFirstPart}
use Rattle.mn_join_laws.specs.declared.leg.Which.{Which}
use Rattle.mn_join_laws.specs.Pairing.{Pairing, Both, side}
use Rattle.mn_join_laws.specs.Course.{PairCourse, Exit}
use Rattle.mn_join.specs.declared.played.Played.{Played}
use Rattle.mn_join.specs.declared.played.Played.TheVariants.{All, Refused}
use Rattle.mn_join.specs.declared.played.PairBad.{PairBad}
use Rattle.mn_join.specs.declared.played.PairBad.TheVariants.{TooManySteps, NoMemory}
use Rattle.mn_join.specs.Pairs.{PairNow, net_of, PairStands, HasStopped}

-- two networks play steps, `drain` and `flush`
abbrev pub is_played : Command → Bool
is_played (Run ticks) = false
is_played (Show table) = false
is_played command = true

-- these are a first part of those
abbrev pub ComeFirst : List Exit → List Exit → Type 0
ComeFirst exits all = (rest : List Exit) × (exits ++ rest ≡ all)

-- some first steps of what was to happen
pub record HasBegun (pair : PairNow) (both : Both) : Type 0 where
  pub steps : (which : Which) → IsFirstPart (net_of pair which).journal (side both which).past.entries

-- the line took its course, with its ending; where a full journal stopped it, up to there; where memory was wanted, a first part of it
abbrev pub Plays : Pairing → PairCourse → PairNow → Result Played PairBad → Type 0
Plays pairing course pair (Ok All) = (course.ending ≡ ending.All) × PairStands pairing pair course.both × (pair.exits ≡ course.exits)
Plays pairing course pair (Ok (Refused why)) = (course.ending ≡ ending.Refused why) × PairStands pairing pair course.both × (pair.exits ≡ course.exits)
Plays pairing course pair (Err TooManySteps) = (course.ending ≡ ending.TooManySteps) × HasStopped pairing pair course.both × (pair.exits ≡ course.exits)
Plays pairing course pair (Err NoMemory) = HasBegun pair course.both × ComeFirst pair.exits course.exits

-- a refusal is neither for a full journal nor because memory ran out
abbrev pub IsOwnCause : Played → Type 0
IsOwnCause (Refused cause.TooManySteps) = ⊥
IsOwnCause (Refused cause.NoMemory) = ⊥
IsOwnCause other = ⊤

abbrev pub bad_of : {T : Type 0} → Result T PairBad → Option PairBad
bad_of (Ok done) = None
bad_of (Err bad) = Some bad
