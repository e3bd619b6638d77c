-- Tasks that are told one behind the other.
use Rattle.std.proofs.Common.{◌≡◌, ◌+◌, ℕ, List, [], ◌∷◌, ◌++◌, refl, ap, sym, ◌∙◌, subst, append_assoc, append-nil, Option, Result, Ok, Err, IsErr}
use Rattle.std.proofs.lemmas.Grind.{flat_map-append}
use Rattle.std.specs.Result.{IsErrAnd}
use Rattle.mn_edge.specs.declared.device.DeviceBad.{DeviceBad}
use Rattle.mn_edge.specs.declared.device.DeviceBad.TheVariants.{Failed, NoMemory}
use Rattle.mn_edge.specs.Faults.{Counted}
use Rattle.mn_lines.proofs.Putting.{part_of}
use Rattle.mn_topo.specs.Network.{Network}
use Rattle.mn_tables.specs.Telling.{Stand, Tells, Told}
use Rattle.mn_tables.proofs.Telling.{Answer, IsErrOnly, told_nothing, told_more, tells_as, tells_then, tells_first}
use Rattle.mn_reach_run.specs.declared.sums.Sums.{Sums}
use Rattle.mn_reach_run.specs.Report.{Task, task_text, tasks_text, sums_in, capped, plus, no_sums, sums_of}
use Rattle.mn_reach_run.specs.Playing.{Now, now_at, IsAfter, Goes, Plays}
use Rattle.mn_reach_run.proofs.Counting.{failures_append, sums_more}

pub text_append : (topology : Network) (xs ys : List Task) → tasks_text topology (xs ++ ys) ≡ tasks_text topology xs ++ tasks_text topology ys
text_append topology xs ys = flat_map-append (task_text topology) xs ys

pub goes_as : (topology : Network) (xs ys : List Task) (start : Stand) (now : Now) (r : Answer) → xs ≡ ys → Goes topology xs start now r →
    Goes topology ys start now r
goes_as topology xs ys start now r is goes = subst (λ tasks. Goes topology tasks start now r) is goes

-- 1. By cases on what is answered

pub goes_err : (topology : Network) (tasks : List Task) (start : Stand) (now : Now) (e : DeviceBad) (r : Answer) → IsErrOnly r e →
    Tells {T = Unit {0}} (tasks_text topology tasks) start now.stand (Err e) → Goes topology tasks start now r
goes_err topology tasks start now e (Ok x) from this = absurd from.1
goes_err topology tasks start now e (Err other) from this =
    subst (λ y. Tells {T = Unit {0}} (tasks_text topology tasks) start now.stand (Err y)) (sym from.1) this

-- the tasks so far are cut, whatever follows
pub goes_cut : (topology : Network) (xs ys : List Task) (start : Stand) (now : Now) (e : DeviceBad) (r : Answer) → IsErrOnly r e →
    Goes topology xs start now (Err e) → Goes topology (xs ++ ys) start now r
goes_cut topology xs ys start now e r from this =
    goes_err topology (xs ++ ys) start now e r from
    (tells_as (tasks_text topology xs ++ tasks_text topology ys) (tasks_text topology (xs ++ ys)) start now.stand (Err e)
    (tells_first (tasks_text topology xs) (tasks_text topology ys) start now.stand e (Err e) (refl, refl) this) (sym (text_append topology xs ys)))

-- 2. Nothing, and one behind the other

pub plays_none : (topology : Network) (now : Now) → Plays topology (λ number. []) now now (Ok tt)
plays_none topology now tasks start after = subst (λ these. IsAfter topology these start now) (sym (append-nil tasks)) after

pub plays_then : (topology : Network) (first second : ℕ → List Task) (s t u : Now) (r : Answer) → Plays topology first s t (Ok tt) →
    Plays topology second t u r →
    Plays topology (λ number. first number ++ second (number + (sums_in topology (first number)).failures)) s u r
plays_then topology first second s t u r one two tasks start after =
    let k : ℕ = (sums_in topology tasks).failures in
    let so_far : List Task = tasks ++ first k in
    let many : (sums_in topology so_far).failures ≡ k + (sums_in topology (first k)).failures = failures_append topology tasks (first k) in
    goes_as topology (so_far ++ second (sums_in topology so_far).failures) (tasks ++ (first k ++ second (k + (sums_in topology (first k)).failures))) start u r
    (ap (λ n. so_far ++ second n) many ∙ append_assoc tasks (first k) (second (k + (sums_in topology (first k)).failures)))
    (two so_far start (one tasks start after))

pub plays_cut : (topology : Network) (first second : ℕ → List Task) (s t : Now) (e : DeviceBad) (r : Answer) → IsErrOnly r e →
    Plays topology first s t (Err e) →
    Plays topology (λ number. first number ++ second number) s t r
plays_cut topology first second s t e r from one tasks start after =
    let k : ℕ = (sums_in topology tasks).failures in
    goes_as topology ((tasks ++ first k) ++ second k) (tasks ++ (first k ++ second k)) start t r (append_assoc tasks (first k) (second k))
    (goes_cut topology (tasks ++ first k) (second k) start t e r from (one tasks start after))

-- by what is the same of each number
pub plays_as : (topology : Network) (first second : ℕ → List Task) (s t : Now) (r : Answer) → ((number : ℕ) → first number ≡ second number) →
    Plays topology first s t r →
    Plays topology second s t r
plays_as topology first second s t r same one tasks start after =
    let k : ℕ = (sums_in topology tasks).failures in
    goes_as topology (tasks ++ first k) (tasks ++ second k) start t r (ap (λ more. tasks ++ more) (same k)) (one tasks start after)

pub plays_err : (topology : Network) (more : ℕ → List Task) (s t : Now) (e : DeviceBad) (r : Answer) → IsErrOnly r e → Plays topology more s t (Err e) →
    Plays topology more s t r
plays_err topology more s t e r from one tasks start after =
    let k : ℕ = (sums_in topology tasks).failures in
    goes_err topology (tasks ++ more k) start t e r from (one tasks start after)

-- 3. One task, by its text and its counts

pub told_of : {T : Type 0} (a : List ℕ) (s t : Stand) (x : T) → Tells {T = T} a s t (Ok x) → Told a s t
told_of a s t x this = record { puts = this.put; faults = this.cause }

pub err_of : {T : Type 0} (a : List ℕ) (s t : Stand) (e : DeviceBad) → Tells {T = T} a s t (Err e) → Tells {T = Unit {0}} a s t (Err e)
err_of a s t e this = record { put = tt; part = this.part; cause = this.cause }

-- whatever is answered besides

pub tells_ok : {T : Type 0} (a : List ℕ) (s t : Stand) (x : T) → Told a s t → Tells {T = T} a s t (Ok x)
tells_ok a s t x told = record { put = told.puts; part = tt; cause = told.faults }

pub told_as : (a b : List ℕ) (s t : Stand) → Told a s t → a ≡ b → Told b s t
told_as a b s t told is = subst (λ words. Told words s t) is told

counted_of : (T : Type 0) (old new : Option ℕ) (e : DeviceBad) → Counted {T = Unit {0}} old new (Err e) → Counted {T = T} old new (Err e)
counted_of T old new Failed this = this
counted_of T old new NoMemory this = this

pub tells_out : {T : Type 0} (a : List ℕ) (s t : Stand) (e : DeviceBad) (r : Result T DeviceBad) → IsErr r × IsErrAnd r (λ y. y ≡ e) →
    Tells {T = Unit {0}} a s t (Err e) → Tells {T = T} a s t r
tells_out a s t e (Ok x) from this = absurd from.1
tells_out {T} a s t e (Err other) from this =
    subst (λ y. Tells {T = T} a s t (Err y)) (sym from.1) (record { put = tt; part = this.part; cause = counted_of T s.faults t.faults e this.cause })

pub tells_behind : {T : Type 0} (a b : List ℕ) (s t u : Stand) (r : Result T DeviceBad) → Told a s t → Tells {T = T} b t u r → Tells {T = T} (a ++ b) s u r
tells_behind a b s t u (Ok x) before this = tells_ok (a ++ b) s u x (told_more a b s t u before (told_of b t u x this))
tells_behind a b s t u (Err e) before this = tells_out (a ++ b) s u e (Err e) (refl, refl) (tells_then a b s t u (Err e) before (err_of b t u e this))

pub tells_like : {T : Type 0} (a b : List ℕ) (s t : Stand) (r : Result T DeviceBad) → Tells {T = T} a s t r → a ≡ b → Tells {T = T} b s t r
tells_like {T} a b s t r this is = subst (λ words. Tells {T = T} words s t r) is this

-- memory was wanted behind a text
pub want_behind : (a : List ℕ) (s t : Stand) → Told a s t → Tells {T = Unit {0}} a s t (Err NoMemory)
want_behind a s t told = record {
  put = tt;
  part = λ before so_far on. part_of before (so_far ++ a) t.waits t.written (told.puts before so_far on);
  cause = told.faults;
}

-- the text so far is cut, whatever follows
pub cut_before : (a b whole : List ℕ) (s t : Stand) (e : DeviceBad) → Tells {T = Unit {0}} a s t (Err e) → a ++ b ≡ whole →
    Tells {T = Unit {0}} whole s t (Err e)
cut_before a b whole s t e this is = tells_as (a ++ b) whole s t (Err e) (tells_first a b s t e (Err e) (refl, refl) this) is

text_more : (topology : Network) (tasks : List Task) (task : Task) →
    tasks_text topology (tasks ++ task ∷ []) ≡ tasks_text topology tasks ++ task_text topology task
text_more topology tasks task =
    text_append topology tasks (task ∷ []) ∙ ap (λ t. tasks_text topology tasks ++ t) (append-nil (task_text topology task))

-- it was told
pub plays_task : (topology : Network) (task : ℕ → Task) (old new : Sums) (s t : Stand) →
    ((exact : Sums) → old ≡ capped exact → Told (task_text topology (task exact.failures)) s t) →
    ((exact : Sums) → old ≡ capped exact → new ≡ capped (plus exact (sums_of topology (task exact.failures)))) →
    Plays topology (λ number. task number ∷ []) (now_at old s) (now_at new t) (Ok tt)
plays_task topology task old new s t told summed tasks start after =
    let exact : Sums = sums_in topology tasks in
    record {
      told = subst (λ words. Told words start t) (sym (text_more topology tasks (task exact.failures)))
          (told_more (tasks_text topology tasks) (task_text topology (task exact.failures)) start s t after.told (told exact after.sums));
      sums = summed exact after.sums ∙ ap capped (sym (sums_more topology tasks (task exact.failures)));
    }

-- it was cut
pub task_cut : (topology : Network) (task : ℕ → Task) (old new : Sums) (s t : Stand) (e : DeviceBad) (r : Answer) → IsErrOnly r e →
    ((exact : Sums) → old ≡ capped exact → Tells {T = Unit {0}} (task_text topology (task exact.failures)) s t (Err e)) →
    Plays topology (λ number. task number ∷ []) (now_at old s) (now_at new t) r
task_cut topology task old new s t e r from told tasks start after =
    let exact : Sums = sums_in topology tasks in
    goes_err topology (tasks ++ task exact.failures ∷ []) start (now_at new t) e r from
    (tells_as (tasks_text topology tasks ++ task_text topology (task exact.failures)) (tasks_text topology (tasks ++ task exact.failures ∷ [])) start t (Err e)
    (tells_then (tasks_text topology tasks) (task_text topology (task exact.failures)) start s t (Err e) after.told (told exact after.sums))
    (sym (text_more topology tasks (task exact.failures))))

-- 4. Memory is wanted before anything is told, or behind it

pub plays_want : (topology : Network) (more : ℕ → List Task) (now : Now) → Plays topology more now now (Err NoMemory)
plays_want topology more now tasks start after =
    let k : ℕ = (sums_in topology tasks).failures in
    cut_before (tasks_text topology tasks) (tasks_text topology (more k)) (tasks_text topology (tasks ++ more k)) start now.stand NoMemory
    (want_behind (tasks_text topology tasks) start now.stand after.told) (sym (text_append topology tasks (more k)))

pub plays_want_behind : (topology : Network) (more : ℕ → List Task) (s t : Now) → Plays topology more s t (Ok tt) → Plays topology more s t (Err NoMemory)
plays_want_behind topology more s t one tasks start after =
    want_behind (tasks_text topology (tasks ++ more (sums_in topology tasks).failures)) start t.stand (one tasks start after).told

-- 5. From nothing on

pub after_nothing : (topology : Network) (start : Stand) (sums : Sums) → sums ≡ no_sums → IsAfter topology [] start (now_at sums start)
after_nothing topology start sums is = record { told = told_nothing start; sums = is }
