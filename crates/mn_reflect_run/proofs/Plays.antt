-- What stands on the page as lines are played.
use Rattle.std.proofs.Common.{ℕ, zero, suc, ◌≡◌, ◌+◌, ◌<◌, ◌≤◌, inl, inr, false, Bool, true, cond, List, [], ◌∷◌, ◌++◌, length, take, drop, get_or, Option}
use Rattle.std.proofs.Common.{Result, Ok, Err, IsErr}
use Rattle.std.proofs.Common.{refl, arith, sym, ◌∙◌, ap, subst, append_assoc, append-nil, length-append}
use Rattle.std.specs.Prelude.{All, codes, filter, if◌then◌else◌}
use Rattle.std.specs.Result.{IsErrAnd}
use Rattle.std.proofs.lemmas.List.{take_all}
use Rattle.std.proofs.lemmas.Grind.{flat_map-append}
use Rattle.mn_base.specs.declared.numbers.VrfNo.{VrfNo}
use Rattle.mn_base.proofs.Bools.{less_tells}
use Rattle.mn_base.proofs.Members.{In}
use Rattle.mn_edge.specs.declared.device.DeviceBad.{DeviceBad}
use Rattle.mn_edge.specs.declared.device.DeviceBad.TheVariants.{Failed, NoMemory}
use Rattle.mn_edge.specs.Faults.{Counted}
use Rattle.mn_topo.specs.Network.{Network}
use Rattle.mn_topo.specs.declared.steps.Step.{Step}
use Rattle.mn_ledger.specs.declared.refused.Refused.{Refused}
use Rattle.mn_reflect_ledger_laws.specs.World.{world_of}
use Rattle.mn_tables.specs.Telling.{Stand, Tells, Told}
use Rattle.mn_tables.proofs.Telling.{told_more, told_nothing, tells_within, tells_want}
use Rattle.mn_reflect_world_laws.specs.Now.{ReflectNow}
use Rattle.mn_reflect.specs.Course.{IsRun}
use Rattle.mn_reflect_run.specs.declared.command.ReflectCommand.{ReflectCommand}
use Rattle.mn_reflect_run.specs.declared.command.ReflectCommand.TheVariants as command
use Rattle.mn_reflect_run.specs.declared.command.ReflectLine.{ReflectLine}
use Rattle.mn_answer.specs.declared.played.Ended.{Ended}
use Rattle.mn_answer.specs.declared.played.Played.{Played}
use Rattle.mn_answer.specs.declared.played.Played.TheVariants as played
use Rattle.mn_reflect_run.specs.Course.{Note, Refusal, Table, ReflectRun, after_line, run_of}
use Rattle.mn_reflect_run.specs.Language.{command_fits}
use Rattle.mn_reflect_run.specs.Report.{note_text, is_refusal, refusals, report, total_line}
use Rattle.mn_reflect_run.specs.Playing.{IsAt, StandsAfter, Follows, HasTable, shown_by, notes_by, refused_in, notes_text, ArePlayed, AreCut, PlaysAll}
use Rattle.mn_reflect_run.proofs.Sound.{in_all}
use Rattle.mn_reflect_run.proofs.Courses.{lines_tell, course_at, course_all, course_cut}

-- 1. What a call answers, by another type of its value

counted_of : (T : Type 0) (before now : Option ℕ) (e : DeviceBad) → Counted {T = Unit {0}} before now (Err e) → Counted {T = T} before now (Err e)
counted_of T before now Failed h = h
counted_of T before now NoMemory h = h

pub tells_out : {T : Type 0} (a : List ℕ) (s t : Stand) (e : DeviceBad) (r : Result T DeviceBad) → IsErr r × IsErrAnd r (λ y. y ≡ e) →
    Tells {T = Unit {0}} a s t (Err e) → Tells a s t r
tells_out a s t e (Ok x) from this = absurd from.1
tells_out {T} a s t e (Err other) from this =
    subst (λ y. Tells {T = T} a s t (Err y)) (sym from.1) (record { put = tt; part = this.part; cause = counted_of T s.faults t.faults e this.cause })

pub tells_ok : {T : Type 0} (a : List ℕ) (s t : Stand) (x : T) → Told a s t → Tells {T = T} a s t (Ok x)
tells_ok a s t x this = record { put = this.puts; part = tt; cause = this.faults }

pub told_of : {T : Type 0} (a : List ℕ) (s t : Stand) (x : T) → Tells {T = T} a s t (Ok x) → Told a s t
told_of a s t x this = record { puts = this.put; faults = this.cause }

back_of : (T : Type 0) (before now : Option ℕ) (e : DeviceBad) → Counted {T = T} before now (Err e) → Counted {T = Unit {0}} before now (Err e)
back_of T before now Failed h = h
back_of T before now NoMemory h = h

pub tells_in : {T : Type 0} (a : List ℕ) (s t : Stand) (e : DeviceBad) → Tells {T = T} a s t (Err e) → Tells {T = Unit {0}} a s t (Err e)
tells_in {T} a s t e this = record { put = tt; part = this.part; cause = back_of T s.faults t.faults e this.cause }

-- 2. What is put

-- what the report has behind the notes
abbrev pub rest_of : Network → List ℕ → ReflectRun → List ℕ
rest_of topology reflectors run =
    cond run.is_stopped (codes "too large steps\n")
    (total_line (length run.steps) (refusals run.notes) (length (world_of topology reflectors run.steps).flying))

notes_more : (topology : Network) (reflectors : List ℕ) (past more : List Note) →
    notes_text topology reflectors (past ++ more) ≡ notes_text topology reflectors past ++ notes_text topology reflectors more
notes_more topology reflectors past more = flat_map-append (note_text topology reflectors) past more

-- where other notes stand behind these, the report begins with their text
begins_with : (topology : Network) (reflectors : List ℕ) (run : ReflectRun) (past these more : List Note) → run.notes ≡ (past ++ these) ++ more →
    notes_text topology reflectors past ++ (notes_text topology reflectors these ++ (notes_text topology reflectors more ++ rest_of topology reflectors run))
    ≡ report topology reflectors run
begins_with topology reflectors run past these more e =
    sym (append_assoc (notes_text topology reflectors past) (notes_text topology reflectors these)
    (notes_text topology reflectors more ++ rest_of topology reflectors run))
    ∙ ap (λ xs. xs ++ (notes_text topology reflectors more ++ rest_of topology reflectors run)) (sym (notes_more topology reflectors past these))
    ∙ sym (append_assoc (notes_text topology reflectors (past ++ these)) (notes_text topology reflectors more) (rest_of topology reflectors run))
    ∙ ap (λ xs. xs ++ rest_of topology reflectors run) (sym (notes_more topology reflectors (past ++ these) more) ∙ ap (notes_text topology reflectors) (sym e))

-- the notes after some are cut
pub cut_after : (topology : Network) (reflectors : List ℕ) (run : ReflectRun) (past these more : List Note) (s t u : Stand) (e : DeviceBad) →
    run.notes ≡ (past ++ these) ++ more → Told (notes_text topology reflectors past) s t →
    Tells {T = Unit {0}} (notes_text topology reflectors these) t u (Err e) →
    Tells {T = Unit {0}} (report topology reflectors run) s u (Err e)
cut_after topology reflectors run past these more s t u e is before this =
    tells_within (notes_text topology reflectors past) (notes_text topology reflectors these)
    (notes_text topology reflectors more ++ rest_of topology reflectors run) (report topology reflectors run) s t u e (Err e) (refl, refl) before this
    (begins_with topology reflectors run past these more is)

-- 3. Line by line

pub at_most_one : (how : Played Refused) → refused_in how ≤ 1
at_most_one played.All = omega arith
at_most_one (played.Refused why) = omega arith
at_most_one played.TooManySteps = omega arith

filter_both : (xs ys : List Note) → filter is_refusal (xs ++ ys) ≡ filter is_refusal xs ++ filter is_refusal ys
filter_both [] ys = refl
filter_both (x ∷ xs) ys = by (is_refusal x) (filter_both xs ys)
  where
    by : (b : Bool) → filter is_refusal (xs ++ ys) ≡ filter is_refusal xs ++ filter is_refusal ys →
        (if b then x ∷ filter is_refusal (xs ++ ys) else filter is_refusal (xs ++ ys))
        ≡ (if b then x ∷ filter is_refusal xs else filter is_refusal xs) ++ filter is_refusal ys
    by true e = ap (λ zs. x ∷ zs) e
    by false e = e

-- a line is refused once at most
count_by : (steps : List Step) (line : ReflectLine) (how : Played Refused) → refusals (notes_by steps line how) ≡ refused_in how
count_by steps line played.All = by line.command
  where
    by : (wanted : ReflectCommand) → refusals (shown_by steps wanted) ≡ 0
    by (command.Do done) = refl
    by (command.Drain most) = refl
    by (command.Show vrf) = refl
count_by steps line (played.Refused why) = refl
count_by steps line played.TooManySteps = refl

-- nothing was played yet
pub none_played : (topology : Network) (reflectors : List ℕ) (now : ReflectNow) (s : Stand) → IsRun topology reflectors [] now →
    ArePlayed topology reflectors [] now 0 s s
none_played topology reflectors now s stands =
    record { at = record { stands = stands; goes_on = refl; few = omega arith }; counted = refl; told = told_nothing s }

module _ (topology : Network) (reflectors : List ℕ) (lines : List ReflectLine) (i : ℕ) (s t : Stand) (refused : ℕ) (old : ReflectNow)
    (past : ArePlayed topology reflectors (take i lines) old refused s t) where
  abbrev before : ReflectRun
  before = run_of topology reflectors (take i lines)

  abbrev whole : List ℕ
  whole = report topology reflectors (run_of topology reflectors lines)

  -- there was no memory for the line
  pub want_at : Tells {T = Unit {0}} whole s t (Err NoMemory)
  want_at =
      let more = lines_tell topology reflectors (drop i lines) before in
      cut_after topology reflectors (run_of topology reflectors lines) before.notes [] more.more s t t NoMemory
      (ap (λ (r : ReflectRun). r.notes) (course_all topology reflectors lines i past.at.goes_on) ∙ more.is
      ∙ ap (λ xs. xs ++ more.more) (sym (append-nil before.notes)))
      past.told (tells_want [] t)

  module _ (line : ReflectLine) (below : i < length lines) (here : line ≡ get_or lines i line) where
    abbrev after : ReflectRun
    after = after_line topology reflectors before line

    next : run_of topology reflectors (take (i + 1) lines) ≡ after
    next = course_at topology reflectors lines i line below past.at.goes_on ∙ ap (after_line topology reflectors before) (sym here)

    module _ (how : Played Refused) (now : ReflectNow) (follows : Follows topology reflectors after before line how now) where
      abbrev these : List Note
      these = notes_by before.steps line how

      noted : (run_of topology reflectors (take (i + 1) lines)).notes ≡ before.notes ++ these
      noted = ap (λ (r : ReflectRun). r.notes) next ∙ follows.told

      stands : (how ≡ played.TooManySteps → ⊥) → IsAt topology reflectors after now
      stands not = by how follows.stands not
        where
          by : (h : Played Refused) → StandsAfter topology reflectors after h now → (h ≡ played.TooManySteps → ⊥) → IsAt topology reflectors after now
          by played.All at n = at
          by (played.Refused why) at n = at
          by played.TooManySteps at n = absurd (n refl)

      -- it was played, and what is told of it was put
      pub played_more : (u : Stand) → (how ≡ played.TooManySteps → ⊥) → Told (notes_text topology reflectors these) t u →
          ArePlayed topology reflectors (take (i + 1) lines) now (refused + refused_in how) s u
      played_more u not this = record {
        at = subst (λ r. IsAt topology reflectors r now) (sym next) (stands not);
        counted =
            ap refusals noted ∙ ap length (filter_both before.notes these) ∙ length-append (filter is_refusal before.notes) (filter is_refusal these)
            ∙ ap (λ n. n + refusals these) past.counted ∙ ap (λ n. refused + n) (count_by before.steps line how);
        told = subst (λ xs. Told xs s u) (sym (ap (notes_text topology reflectors) noted ∙ notes_more topology reflectors before.notes these))
            (told_more (notes_text topology reflectors before.notes) (notes_text topology reflectors these) s t u past.told this);
      }

      pub line_played : (u : Stand) (count : ℕ) → (how ≡ played.TooManySteps → ⊥) → Tells {T = ℕ} (notes_text topology reflectors these) t u (Ok count) →
          count ≡ refused_in how → ArePlayed topology reflectors (take (i + 1) lines) now (refused + count) s u
      line_played u count not this is =
          subst (λ n. ArePlayed topology reflectors (take (i + 1) lines) now (refused + n) s u) (sym is)
          (played_more u not (told_of (notes_text topology reflectors these) t u count this))

      -- what is told of it was cut
      pub played_cut : (u : Stand) (e : DeviceBad) → (how ≡ played.TooManySteps → ⊥) → Tells {T = Unit {0}} (notes_text topology reflectors these) t u (Err e) →
          Tells {T = Unit {0}} whole s u (Err e)
      played_cut u e not this =
          let goes : (run_of topology reflectors (take (i + 1) lines)).is_stopped ≡ false =
          ap (λ (r : ReflectRun). r.is_stopped) next ∙ (stands not).goes_on in
          let more = lines_tell topology reflectors (drop (i + 1) lines) (run_of topology reflectors (take (i + 1) lines)) in
          cut_after topology reflectors (run_of topology reflectors lines) before.notes these more.more s t u e
          (ap (λ (r : ReflectRun). r.notes) (course_all topology reflectors lines (i + 1) goes) ∙ more.is ∙ ap (λ xs. xs ++ more.more) noted)
          past.told this

    -- steps are full at it
    pub cut_at : (now : ReflectNow) → Follows topology reflectors after before line played.TooManySteps now → AreCut topology reflectors lines s t
    cut_at now follows =
        let same : after_line topology reflectors before (get_or lines i line) ≡ after = ap (after_line topology reflectors before) (sym here) in
        let all : run_of topology reflectors lines ≡ after =
        course_cut topology reflectors lines i line below past.at.goes_on (ap (λ (r : ReflectRun). r.is_stopped) same ∙ follows.stands) ∙ same in
        record {
          stopped = ap (λ (r : ReflectRun). r.is_stopped) all ∙ follows.stands;
          told = subst (λ xs. Told (notes_text topology reflectors xs) s t)
              (sym (ap (λ (r : ReflectRun). r.notes) all ∙ follows.told ∙ append-nil before.notes)) past.told;
        }

-- the VRF of a table is there
pub table_there : (topology : Network) (reflectors : List ℕ) (wanted : ReflectCommand) → command_fits topology reflectors wanted ≡ true →
    HasTable topology wanted
table_there topology reflectors (command.Do done) fits = tt
table_there topology reflectors (command.Drain most) fits = tt
table_there topology reflectors (command.Show vrf) fits = less_tells vrf.0 (length topology.vrfs) fits

-- each line is one of those that fit
pub line_fits : (topology : Network) (reflectors : List ℕ) (lines : List ReflectLine) (i : ℕ) (d : ReflectLine) → i < length lines →
    All (λ (line : ReflectLine). command_fits topology reflectors line.command ≡ true) lines →
    command_fits topology reflectors (get_or lines i d).command ≡ true
line_fits topology reflectors lines i d below fit =
    in_all (λ (line : ReflectLine). command_fits topology reflectors line.command ≡ true) lines (get_or lines i d) fit (there lines i below)
  where
    there : (xs : List ReflectLine) (n : ℕ) → n < length xs → In xs (get_or xs n d)
    there [] n h = absurd (omega (arith, h))
    there (x ∷ xs) zero h = inl refl
    there (x ∷ xs) (suc n) h = inr (there xs n (omega (arith, h)))

pub this_fits : (topology : Network) (reflectors : List ℕ) (lines : List ReflectLine) (i : ℕ) (line : ReflectLine) → line ≡ get_or lines i line →
    i < length lines →
    All (λ (line : ReflectLine). command_fits topology reflectors line.command ≡ true) lines → command_fits topology reflectors line.command ≡ true
this_fits topology reflectors lines i line here below fit =
    subst (λ (l : ReflectLine). command_fits topology reflectors l.command ≡ true) (sym here) (line_fits topology reflectors lines i line below fit)

-- where a line was played the topology is the same still
pub over_after : (topology : Network) (reflectors : List ℕ) (after run : ReflectRun) (line : ReflectLine) (how : Played Refused) (now : ReflectNow) →
    (how ≡ played.TooManySteps → ⊥) → Follows topology reflectors after run line how now → now.topology ≡ topology
over_after topology reflectors after run line how now not follows = by how follows.stands not
  where
    by : (h : Played Refused) → StandsAfter topology reflectors after h now → (h ≡ played.TooManySteps → ⊥) → now.topology ≡ topology
    by played.All at n = at.stands.stands.0.topology_is
    by (played.Refused why) at n = at.stands.stands.0.topology_is
    by played.TooManySteps at n = absurd (n refl)

-- what is told of one line
module _ (topology : Network) (reflectors : List ℕ) (steps : List Step) where
  one_note : (note : Note) → note_text topology reflectors note ≡ notes_text topology reflectors (note ∷ [])
  one_note note = sym (append-nil (note_text topology reflectors note))

  pub refusal_told : (line : ReflectLine) (how : Played Refused) (why : Refused) (s t : Stand) (count : ℕ) → how ≡ played.Refused why →
      Told (note_text topology reflectors (Refusal line.number why)) s t →
      Tells {T = ℕ} (notes_text topology reflectors (notes_by steps line how)) s t (Ok count)
  refusal_told line how why s t count is this =
      subst (λ h. Tells {T = ℕ} (notes_text topology reflectors (notes_by steps line h)) s t (Ok count)) (sym is)
      (tells_ok (notes_text topology reflectors (Refusal line.number why ∷ [])) s t count
      (subst (λ xs. Told xs s t) (one_note (Refusal line.number why)) this))

  pub refusal_cut : (line : ReflectLine) (how : Played Refused) (why : Refused) (s t : Stand) (e : DeviceBad) (r : Result ℕ DeviceBad) →
      how ≡ played.Refused why →
      IsErr r × IsErrAnd r (λ y. y ≡ e) → Tells {T = Unit {0}} (note_text topology reflectors (Refusal line.number why)) s t (Err e) →
      Tells {T = ℕ} (notes_text topology reflectors (notes_by steps line how)) s t r
  refusal_cut line how why s t e r is from this =
      subst (λ h. Tells {T = ℕ} (notes_text topology reflectors (notes_by steps line h)) s t r) (sym is)
      (tells_out (notes_text topology reflectors (Refusal line.number why ∷ [])) s t e r from
      (subst (λ xs. Tells {T = Unit {0}} xs s t (Err e)) (one_note (Refusal line.number why)) this))

  pub shown_told : (line : ReflectLine) (how : Played Refused) (s t : Stand) (count : ℕ) → how ≡ played.All →
      Told (notes_text topology reflectors (shown_by steps line.command)) s t →
      Tells {T = ℕ} (notes_text topology reflectors (notes_by steps line how)) s t (Ok count)
  shown_told line how s t count is this =
      subst (λ h. Tells {T = ℕ} (notes_text topology reflectors (notes_by steps line h)) s t (Ok count)) (sym is)
      (tells_ok (notes_text topology reflectors (shown_by steps line.command)) s t count this)

  pub shown_cut : (line : ReflectLine) (how : Played Refused) (s t : Stand) (e : DeviceBad) (r : Result ℕ DeviceBad) → how ≡ played.All →
      IsErr r × IsErrAnd r (λ y. y ≡ e) → Tells {T = Unit {0}} (notes_text topology reflectors (shown_by steps line.command)) s t (Err e) →
      Tells {T = ℕ} (notes_text topology reflectors (notes_by steps line how)) s t r
  shown_cut line how s t e r is from this =
      subst (λ h. Tells {T = ℕ} (notes_text topology reflectors (notes_by steps line h)) s t r) (sym is)
      (tells_out (notes_text topology reflectors (shown_by steps line.command)) s t e r from this)

  pub full_line : (line : ReflectLine) (how : Played Refused) (s : Stand) (count : ℕ) → how ≡ played.TooManySteps →
      Tells {T = ℕ} (notes_text topology reflectors (notes_by steps line how)) s s (Ok count)
  full_line line how s count is =
      subst (λ h. Tells {T = ℕ} (notes_text topology reflectors (notes_by steps line h)) s s (Ok count)) (sym is) (tells_ok [] s s count (told_nothing s))

  pub table_put : (wanted : ReflectCommand) (v : VrfNo) (s t : Stand) (r : Result (Unit {0}) DeviceBad) → wanted ≡ command.Show v →
      Tells (note_text topology reflectors (Table v.0 steps)) s t r → Tells (notes_text topology reflectors (shown_by steps wanted)) s t r
  table_put wanted v s t r is this =
      subst (λ x. Tells (notes_text topology reflectors (shown_by steps x)) s t r) (sym is) (subst (λ xs. Tells xs s t r) (one_note (Table v.0 steps)) this)

-- an error of the call
pub plays_err : (topology : Network) (reflectors : List ℕ) (lines : List ReflectLine) (now : ReflectNow) (s t : Stand) (e : DeviceBad)
    (r : Result Ended DeviceBad) →
    IsErr r × IsErrAnd r (λ y. y ≡ e) → Tells {T = Unit {0}} (report topology reflectors (run_of topology reflectors lines)) s t (Err e) →
    PlaysAll topology reflectors lines now s t r
plays_err topology reflectors lines now s t e (Ok how) from this = absurd from.1
plays_err topology reflectors lines now s t e (Err other) from this =
    subst (λ y. Tells {T = Unit {0}} (report topology reflectors (run_of topology reflectors lines)) s t (Err y)) (sym from.1) this

-- of the lines as a script has them
pub plays_as : (topology : Network) (reflectors : List ℕ) (lines all : List ReflectLine) (now : ReflectNow) (s t : Stand) (r : Result Ended DeviceBad) →
    lines ≡ all →
    PlaysAll topology reflectors lines now s t r → PlaysAll topology reflectors all now s t r
plays_as topology reflectors lines all now s t r e = subst (λ ls. PlaysAll topology reflectors ls now s t r) e

pub cut_as : (topology : Network) (reflectors : List ℕ) (lines all : List ReflectLine) (s t : Stand) → lines ≡ all →
    AreCut topology reflectors lines s t → AreCut topology reflectors all s t
cut_as topology reflectors lines all s t e = subst (λ ls. AreCut topology reflectors ls s t) e

-- once no line is left
pub all_played : (topology : Network) (reflectors : List ℕ) (lines all : List ReflectLine) (i : ℕ) (now : ReflectNow) (refused : ℕ) (s t : Stand) →
    length lines ≤ i →
    lines ≡ all → ArePlayed topology reflectors (take i lines) now refused s t → ArePlayed topology reflectors all now refused s t
all_played topology reflectors lines all i now refused s t past e =
    subst (λ ls. ArePlayed topology reflectors ls now refused s t) (take_all i lines past ∙ e)

-- 4. The whole report

module _ (topology : Network) (reflectors : List ℕ) (lines : List ReflectLine) (now : ReflectNow) (refused : ℕ) (s t : Stand)
    (past : ArePlayed topology reflectors lines now refused s t) where
  abbrev ran : ReflectRun
  ran = run_of topology reflectors lines

  abbrev last : List ℕ
  last = total_line (length ran.steps) refused (length (world_of topology reflectors ran.steps).flying)

  whole_is : notes_text topology reflectors ran.notes ++ last ≡ report topology reflectors ran
  whole_is =
      ap (λ n. notes_text topology reflectors ran.notes ++ total_line (length ran.steps) n (length (world_of topology reflectors ran.steps).flying))
      (sym past.counted)
      ∙ ap (λ b. notes_text topology reflectors ran.notes ++ cond b (codes "too large steps\n")
      (total_line (length ran.steps) (refusals ran.notes) (length (world_of topology reflectors ran.steps).flying))) (sym past.at.goes_on)

  pub total_cut : (u : Stand) (e : DeviceBad) → Tells {T = Unit {0}} last t u (Err e) → Tells {T = Unit {0}} (report topology reflectors ran) s u (Err e)
  total_cut u e this =
      tells_within (notes_text topology reflectors ran.notes) last [] (report topology reflectors ran) s t u e (Err e) (refl, refl) past.told this
      (ap (λ xs. notes_text topology reflectors ran.notes ++ xs) (append-nil last) ∙ whole_is)

  pub all_told : (u : Stand) → Told last t u → Told (report topology reflectors ran) s u
  all_told u this = subst (λ xs. Told xs s u) whole_is (told_more (notes_text topology reflectors ran.notes) last s t u past.told this)

-- where steps were full
module _ (topology : Network) (reflectors : List ℕ) (lines : List ReflectLine) (s t : Stand) (past : AreCut topology reflectors lines s t) where
  abbrev stopped : ReflectRun
  stopped = run_of topology reflectors lines

  full_is : notes_text topology reflectors stopped.notes ++ codes "too large steps\n" ≡ report topology reflectors stopped
  full_is = ap (λ b. notes_text topology reflectors stopped.notes ++ cond b (codes "too large steps\n")
      (total_line (length stopped.steps) (refusals stopped.notes) (length (world_of topology reflectors stopped.steps).flying))) (sym past.stopped)

  pub full_told : (u : Stand) → Told (codes "too large steps\n") t u → Told (report topology reflectors stopped) s u
  full_told u this = subst (λ xs. Told xs s u) full_is
      (told_more (notes_text topology reflectors stopped.notes) (codes "too large steps\n") s t u past.told this)

  pub full_cut : (u : Stand) (e : DeviceBad) → Tells {T = Unit {0}} (codes "too large steps\n") t u (Err e) →
      Tells {T = Unit {0}} (report topology reflectors stopped) s u (Err e)
  full_cut u e this =
      tells_within (notes_text topology reflectors stopped.notes) (codes "too large steps\n") [] (report topology reflectors stopped) s t u e (Err e)
      (refl, refl)
      past.told this (ap (λ xs. notes_text topology reflectors stopped.notes ++ xs) (append-nil (codes "too large steps\n")) ∙ full_is)
