-- How a line ends.
use Rattle.std.specs.Prelude.{◌≡◌, ◌≢◌, length}
use Rattle.mn_base.specs.Limits.{most_steps}
use Rattle.mn_ledger.specs.declared.refused.Refused.{Refused}
use Rattle.mn_ledger.specs.declared.refused.Refused.TheVariants.{TooManySteps, NoMemory}
use Rattle.mn_course_laws.specs.declared.coming.Ending.TheVariants as ending
use Rattle.mn_course_laws.specs.Course.{Past, Course}

-- stopped with a full journal; refused for a cause that is neither that nor memory, and then, as where a record is missing, all is as before
pub record EndsWell (past : Past) (course : Course) : Type 0 where
  pub stopped : course.ending ≡ ending.TooManySteps → length course.past.entries ≡ most_steps
  pub refused : (why : Refused) → course.ending ≡ ending.Refused why → (course.past ≡ past) × (why ≢ TooManySteps) × (why ≢ NoMemory)
  pub missing : course.ending ≡ ending.NoRecord → course.past ≡ past
