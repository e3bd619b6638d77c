-- The words of the command line.
use Rattle.std.specs.Prelude.{◌≡◌, ◌≤◌, ℕ, Bool, true, false, not, if◌then◌else◌, Option, Some, None, ◌&&◌, ◌||◌, ◌==◌, nat_eq, List, [], length}
use Rattle.std.specs.Prelude.{slice_index_or, codes, ⊤}
use lib.Pointwise.{pointwise}
use Rattle.mn_text.specs.Numbers.{number_up_to}
use Rattle.mn_join_run.specs.Inside.{is_inside}
use Rattle.mn_run.specs.declared.words.Job.{Job}
use Rattle.mn_run.specs.declared.words.Job.TheVariants.{Run, Check, Flood, Reflect, Join, Reach, Generate, Nothing}

-- the word at this place, which is there where there are enough words
abbrev pub word : List (List ℕ) → ℕ → List ℕ
word words k = slice_index_or words k []

-- `run`, a topology, a script, a capture and a folder in which none of the three lies
abbrev pub is_run : List (List ℕ) → Bool
is_run words =
    (length words == 5) && (pointwise nat_eq (word words 0) (codes "run")
    && not (is_inside (word words 1) (word words 4) || (is_inside (word words 2) (word words 4) || is_inside (word words 3) (word words 4))))

-- `check` and a topology
abbrev pub is_check : List (List ℕ) → Bool
is_check words = (length words == 2) && pointwise nat_eq (word words 0) (codes "check")

-- `flood`, a topology and a script
abbrev pub is_flood : List (List ℕ) → Bool
is_flood words = (length words == 3) && pointwise nat_eq (word words 0) (codes "flood")

-- `reflect`, a topology and a script
abbrev pub is_reflect : List (List ℕ) → Bool
is_reflect words = (length words == 3) && pointwise nat_eq (word words 0) (codes "reflect")

-- `join`, two topologies, their joints, a script, a capture and a folder in which none of the five lies
abbrev pub is_join : List (List ℕ) → Bool
is_join words =
    (length words == 7) && (pointwise nat_eq (word words 0) (codes "join")
    && not (is_inside (word words 1) (word words 6) || (is_inside (word words 2) (word words 6) || (is_inside (word words 3) (word words 6)
    || (is_inside (word words 4) (word words 6) || is_inside (word words 5) (word words 6))))))

-- `reach`, a topology, and a file of failures or none
abbrev pub is_reach : List (List ℕ) → Bool
is_reach words = ((length words == 2) || (length words == 3)) && pointwise nat_eq (word words 0) (codes "reach")

abbrev pub failures_name : List (List ℕ) → Option (List ℕ)
failures_name words = if length words == 3 then Some (word words 2) else None

-- `generate` and a number from 0 to 99: the number
abbrev pub generator_number : List (List ℕ) → Option ℕ
generator_number words = if (length words == 2) && pointwise nat_eq (word words 0) (codes "generate") then number_up_to (word words 1) 99 else None

-- what the words ask for
abbrev pub generating : Option ℕ → Job
generating None = Nothing
generating (Some number) = Generate number

abbrev pub job_of : List (List ℕ) → Job
job_of words =
    if is_run words then Run else if is_check words then Check else if is_flood words then Flood else if is_reflect words then Reflect else
    if is_join words then Join else if is_reach words then Reach else generating (generator_number words)

-- the words have the form of the job
abbrev pub IsForm : Job → List (List ℕ) → Type 0
IsForm Run words = is_run words ≡ true
IsForm Check words = is_check words ≡ true
IsForm Flood words = is_flood words ≡ true
IsForm Reflect words = is_reflect words ≡ true
IsForm Join words = is_join words ≡ true
IsForm Reach words = is_reach words ≡ true
IsForm (Generate number) words = number ≤ 99
IsForm Nothing words = ⊤

-- a job of the program
abbrev pub is_job : Job → Bool
is_job Nothing = false
is_job job = true

-- a command line of the program
abbrev pub is_command : List (List ℕ) → Bool
is_command words = is_job (job_of words)
