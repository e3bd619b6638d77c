-- What stands on the page as lines are played.
use Rattle.std.proofs.Common.{ℕ, zero, suc, ◌≡◌, ◌+◌, ◌<◌, ◌≤◌, false, cond, List, [], ◌∷◌, ◌++◌, length, take, drop, get_or, Option, Result, Ok, Err, IsErr}
use Rattle.std.proofs.Common.{refl, arith, sym, ◌∙◌, ap, subst, append_assoc, append-nil, length-append}
use Rattle.std.specs.Prelude.{codes}
use Rattle.std.specs.Result.{IsErrAnd}
use Rattle.std.specs.List.{flat_map}
use Rattle.std.proofs.lemmas.Grind.{flat_map-append}
use Rattle.mn_edge.specs.declared.device.DeviceBad.{DeviceBad}
use Rattle.mn_edge.specs.declared.device.DeviceBad.TheVariants.{Failed, NoMemory}
use Rattle.mn_edge.specs.Faults.{Counted}
use Rattle.mn_wiring.specs.Wiring.{Wiring}
use Rattle.mn_topo.specs.Network.{Network, wiring_of}
use Rattle.mn_flood_laws.specs.Flood.{FloodWorld}
use Rattle.mn_flood_laws.specs.Course.{FloodRefused, Unchanged, FloodFull, Empty, FloodRun, RefusedLine, with_line}
use Rattle.mn_flood.specs.declared.refusal.FloodBad.{FloodBad}
use Rattle.mn_flood.specs.Floods.{FloodNow, bad_of}
use Rattle.mn_lines.specs.Lines.{refused_line}
use Rattle.mn_tables.specs.Telling.{Stand, Tells, Told}
use Rattle.mn_tables.proofs.Telling.{told_more, told_nothing, tells_within, tells_want, tells_as}
use Rattle.mn_flood_run.specs.declared.command.FloodLine.{FloodLine}
use Rattle.mn_answer.specs.declared.played.Ended.{Ended}
use Rattle.mn_answer.specs.declared.played.Played.{Played}
use Rattle.mn_answer.specs.declared.played.Played.TheVariants as played
use Rattle.mn_flood_run.specs.Language.{order_of, orders_of}
use Rattle.mn_flood_run.specs.Report.{cause_name, refused_text, report, course_of, trees_text, total_line}
use Rattle.mn_flood_run.specs.Playing.{IsAt, Follows, IsRefusedBy, bad_name, played_text, played_count, ArePlayed, AreCut, PlaysAll}
use Rattle.mn_flood_run.proofs.Courses.{lines_refuse, course_at, course_all, course_cut}

-- 1. What a call answers, by another type of its value

counted_of : (T : Type 0) (before now : Option ℕ) (e : DeviceBad) → Counted {T = Unit {0}} before now (Err e) → Counted {T = T} before now (Err e)
counted_of T before now Failed h = h
counted_of T before now NoMemory h = h

pub tells_out : {T : Type 0} (a : List ℕ) (s t : Stand) (e : DeviceBad) (r : Result T DeviceBad) → IsErr r × IsErrAnd r (λ y. y ≡ e) →
    Tells {T = Unit {0}} a s t (Err e) → Tells a s t r
tells_out a s t e (Ok x) from this = absurd from.1
tells_out {T} a s t e (Err other) from this =
    subst (λ y. Tells {T = T} a s t (Err y)) (sym from.1) (record { put = tt; part = this.part; cause = counted_of T s.faults t.faults e this.cause })

pub tells_ok : {T : Type 0} (a : List ℕ) (s t : Stand) (x : T) → Told a s t → Tells {T = T} a s t (Ok x)
tells_ok a s t x this = record { put = this.puts; part = tt; cause = this.faults }

pub told_of : {T : Type 0} (a : List ℕ) (s t : Stand) (x : T) → Tells {T = T} a s t (Ok x) → Told a s t
told_of a s t x this = record { puts = this.put; faults = this.cause }

back_of : (T : Type 0) (before now : Option ℕ) (e : DeviceBad) → Counted {T = T} before now (Err e) → Counted {T = Unit {0}} before now (Err e)
back_of T before now Failed h = h
back_of T before now NoMemory h = h

pub tells_in : {T : Type 0} (a : List ℕ) (s t : Stand) (e : DeviceBad) → Tells {T = T} a s t (Err e) → Tells {T = Unit {0}} a s t (Err e)
tells_in {T} a s t e this = record { put = tt; part = this.part; cause = back_of T s.faults t.faults e this.cause }

-- 2. The lines that are put

-- what the report has behind the refused lines
abbrev pub rest_of : Network → FloodRun → List ℕ
rest_of topology run =
    cond run.is_stopped (codes "too large steps\n") (trees_text topology run.world ++ total_line run.steps (length run.refused) (length run.world.flying))

same_name : (cause : FloodRefused) → bad_name (bad_of cause) ≡ cause_name cause
same_name Unchanged = refl
same_name FloodFull = refl
same_name Empty = refl

-- the text of one refused line more
one_more : (past : List RefusedLine) (line : RefusedLine) → flat_map refused_text (past ++ line ∷ []) ≡ flat_map refused_text past ++ refused_text line
one_more past line = flat_map-append refused_text past (line ∷ []) ∙ ap (λ xs. flat_map refused_text past ++ xs) (append-nil (refused_text line))

-- where lines that were refused later stand behind, the report begins with the text of those before
begins_with : (topology : Network) (run : FloodRun) (past more : List RefusedLine) → run.refused ≡ past ++ more →
    flat_map refused_text past ++ ([] ++ (flat_map refused_text more ++ rest_of topology run)) ≡ report topology run
begins_with topology run past more e =
    sym (append_assoc (flat_map refused_text past) (flat_map refused_text more) (rest_of topology run))
    ∙ ap (λ xs. xs ++ rest_of topology run) (sym (flat_map-append refused_text past more) ∙ ap (flat_map refused_text) (sym e))

-- out of memory after some lines
pub want_after : (topology : Network) (run : FloodRun) (past more : List RefusedLine) (s t : Stand) → run.refused ≡ past ++ more →
    Told (flat_map refused_text past) s t →
    Tells {T = Unit {0}} (report topology run) s t (Err NoMemory)
want_after topology run past more s t e before =
    tells_within (flat_map refused_text past) [] (flat_map refused_text more ++ rest_of topology run) (report topology run) s t t NoMemory (Err NoMemory)
    (refl, refl) before
    (tells_want [] t) (begins_with topology run past more e)

-- the line after them is cut
pub cut_after : (topology : Network) (run : FloodRun) (past more : List RefusedLine) (line : RefusedLine) (s t u : Stand) (e : DeviceBad) →
    run.refused ≡ (past ++ line ∷ []) ++ more → Told (flat_map refused_text past) s t → Tells {T = Unit {0}} (refused_text line) t u (Err e) →
    Tells {T = Unit {0}} (report topology run) s u (Err e)
cut_after topology run past more line s t u e is before this =
    tells_within (flat_map refused_text past) (refused_text line) (flat_map refused_text more ++ rest_of topology run) (report topology run) s t u e (Err e)
    (refl, refl) before
    this
    (
    sym (append_assoc (flat_map refused_text past) (refused_text line) (flat_map refused_text more ++ rest_of topology run))
    ∙ ap (λ xs. xs ++ (flat_map refused_text more ++ rest_of topology run)) (sym (one_more past line))
    ∙ begins_with topology run (past ++ line ∷ []) more is
    )

-- 3. Line by line

pub at_most_one : (how : Played FloodBad) → played_count how ≤ 1
at_most_one played.All = omega arith
at_most_one (played.Refused why) = omega arith
at_most_one played.TooManySteps = omega arith

pub item_is : (lines : List FloodLine) (i : ℕ) (d : FloodLine) → i < length lines → get_or lines i d ≡ get_or lines i (get_or lines i d)
item_is [] i d below = absurd (omega (arith, below))
item_is (x ∷ xs) zero d below = refl
item_is (x ∷ xs) (suc i) d below = item_is xs i d (omega (arith, below))

-- nothing was played yet
pub none_played : (topology : Network) (now : FloodNow) (s : Stand) → IsAt (course_of topology []) now → ArePlayed topology [] now 0 s s
none_played topology now s at = record { at = at; counted = refl; told = told_nothing s }

module _ (topology : Network) (lines : List FloodLine) (i : ℕ) (s t : Stand) (refused : ℕ) (old : FloodNow)
    (past : ArePlayed topology (take i lines) old refused s t) where
  abbrev before : FloodRun
  before = course_of topology (take i lines)

  -- there was no memory for the line
  pub want_at : Tells {T = Unit {0}} (report topology (course_of topology lines)) s t (Err NoMemory)
  want_at =
      let more = lines_refuse (wiring_of topology) (orders_of (drop i lines)) before in
      want_after topology (course_of topology lines) before.refused more.more s t
      (ap (λ (r : FloodRun). r.refused) (course_all topology lines i past.at.goes_on) ∙ more.is) past.told

  module _ (line : FloodLine) (below : i < length lines) (here : line ≡ get_or lines i line) where
    abbrev after : FloodRun
    after = with_line (wiring_of topology) before (order_of line)

    next : course_of topology (take (i + 1) lines) ≡ after
    next = course_at topology lines i line below past.at.goes_on ∙ ap (λ x. with_line (wiring_of topology) before (order_of x)) (sym here)

    abbrev refused_as : FloodRefused → RefusedLine
    refused_as cause = record { line = line.number; cause = cause }

    named : (why : FloodBad) (by : IsRefusedBy after before line.number why) → refused_line line.number (bad_name why) ≡ refused_text (refused_as by.cause)
    named why by = ap (refused_line line.number) (ap bad_name (sym by.is) ∙ same_name by.cause)

    all_done : (now : FloodNow) (u : Stand) → Follows after before line.number played.All now → Told [] t u →
        ArePlayed topology (take (i + 1) lines) now (refused + 0) s u
    all_done now u f this = record {
      at = subst (λ r. IsAt r now) (sym next) f.0;
      counted = ap (λ (r : FloodRun). length r.refused) next ∙ ap length f.1 ∙ past.counted ∙ (omega arith);
      told = subst (λ xs. Told xs s u)
          (append-nil (flat_map refused_text before.refused) ∙ ap (flat_map refused_text) (sym (ap (λ (r : FloodRun). r.refused) next ∙ f.1)))
          (told_more (flat_map refused_text before.refused) [] s t u past.told this);
    }

    one_refused : (now : FloodNow) (why : FloodBad) (u : Stand) → Follows after before line.number (played.Refused why) now →
        Told (refused_line line.number (bad_name why)) t u → ArePlayed topology (take (i + 1) lines) now (refused + 1) s u
    one_refused now why u f this = record {
      at = subst (λ r. IsAt r now) (sym next) f.0;
      counted = ap (λ (r : FloodRun). length r.refused) next ∙ ap length f.1.refused ∙ length-append before.refused (refused_as f.1.cause ∷ [])
          ∙ ap (λ n. n + 1) past.counted;
      told = subst (λ xs. Told xs s u)
          (ap (λ xs. flat_map refused_text before.refused ++ xs) (named why f.1) ∙ sym (one_more before.refused (refused_as f.1.cause))
          ∙ ap (flat_map refused_text) (sym (ap (λ (r : FloodRun). r.refused) next ∙ f.1.refused)))
          (told_more (flat_map refused_text before.refused) (refused_line line.number (bad_name why)) s t u past.told this);
    }

    -- it was played, and what it puts was put
    pub played_more : (how : Played FloodBad) (now : FloodNow) (u : Stand) → (how ≡ played.TooManySteps → ⊥) → Follows after before line.number how now →
        Told (played_text line.number how) t u → ArePlayed topology (take (i + 1) lines) now (refused + played_count how) s u
    played_more played.All now u not f this = all_done now u f this
    played_more (played.Refused why) now u not f this = one_refused now why u f this
    played_more played.TooManySteps now u not f this = absurd (not refl)

    refusal_cut : (now : FloodNow) (why : FloodBad) (u : Stand) (e : DeviceBad) → Follows after before line.number (played.Refused why) now →
        Tells {T = Unit {0}} (refused_line line.number (bad_name why)) t u (Err e) →
        Tells {T = Unit {0}} (report topology (course_of topology lines)) s u (Err e)
    refusal_cut now why u e f this =
        let goes : (course_of topology (take (i + 1) lines)).is_stopped ≡ false = ap (λ (r : FloodRun). r.is_stopped) next ∙ f.0.goes_on in
        let more = lines_refuse (wiring_of topology) (orders_of (drop (i + 1) lines)) (course_of topology (take (i + 1) lines)) in
        cut_after topology (course_of topology lines) before.refused more.more (refused_as f.1.cause) s t u e
        (
        ap (λ (r : FloodRun). r.refused) (course_all topology lines (i + 1) goes) ∙ more.is
        ∙ ap (λ xs. xs ++ more.more) (ap (λ (r : FloodRun). r.refused) next ∙ f.1.refused)
        ) past.told (tells_as (refused_line line.number (bad_name why)) (refused_text (refused_as f.1.cause)) t u (Err e) this (named why f.1))

    nothing_cut : (u : Stand) (e : DeviceBad) → Tells {T = Unit {0}} [] t u (Err e) →
        Tells {T = Unit {0}} (report topology (course_of topology lines)) s u (Err e)
    nothing_cut u e this =
        let more = lines_refuse (wiring_of topology) (orders_of (drop i lines)) before in
        tells_within (flat_map refused_text before.refused) [] (flat_map refused_text more.more ++ rest_of topology (course_of topology lines))
        (report topology (course_of topology lines)) s t u e (Err e) (refl, refl) past.told this
        (begins_with topology (course_of topology lines) before.refused more.more
        (ap (λ (r : FloodRun). r.refused) (course_all topology lines i past.at.goes_on) ∙ more.is))

    -- what it puts was cut
    pub played_cut : (how : Played FloodBad) (now : FloodNow) (u : Stand) (e : DeviceBad) → Follows after before line.number how now →
        Tells {T = Unit {0}} (played_text line.number how) t u (Err e) → Tells {T = Unit {0}} (report topology (course_of topology lines)) s u (Err e)
    played_cut played.All now u e f this = nothing_cut u e this
    played_cut (played.Refused why) now u e f this = refusal_cut now why u e f this
    played_cut played.TooManySteps now u e f this = nothing_cut u e this

    -- steps are full at it
    pub cut_at : (now : FloodNow) → Follows after before line.number played.TooManySteps now → AreCut topology lines s t
    cut_at now f =
        let same : with_line (wiring_of topology) before (order_of (get_or lines i line)) ≡ after =
        ap (λ x. with_line (wiring_of topology) before (order_of x)) (sym here) in
        let whole : course_of topology lines ≡ after =
        course_cut topology lines i line below past.at.goes_on (ap (λ (r : FloodRun). r.is_stopped) same ∙ f.0) ∙ same in
        record {
          stopped = ap (λ (r : FloodRun). r.is_stopped) whole ∙ f.0;
          told = subst (λ xs. Told (flat_map refused_text xs) s t) (sym (ap (λ (r : FloodRun). r.refused) whole ∙ f.1)) past.told;
        }

-- what a call of `play_line` tells of the line
abbrev pub Goes : FloodNow → Wiring → FloodLine → Played FloodBad → FloodNow → Type 0
Goes old wiring line how now = (run : FloodRun) → IsAt run old → Follows (with_line wiring run (order_of line)) run line.number how now

module _ (topology : Network) (lines : List FloodLine) (i : ℕ) (s t : Stand) (refused : ℕ) (old : FloodNow)
    (past : ArePlayed topology (take i lines) old refused s t)
    (line : FloodLine) (below : i < length lines) (here : line ≡ get_or lines i line) (wiring : Wiring) (over : wiring ≡ wiring_of topology)
    (how : Played FloodBad)
    (now : FloodNow)
    (goes : Goes old wiring line how now) where
  follows : Follows (with_line (wiring_of topology) (course_of topology (take i lines)) (order_of line)) (course_of topology (take i lines)) line.number how now
  follows = subst (λ w. Follows (with_line w (course_of topology (take i lines)) (order_of line)) (course_of topology (take i lines)) line.number how now) over
      (goes (course_of topology (take i lines)) past.at)

  pub line_played : (u : Stand) (count : ℕ) → (how ≡ played.TooManySteps → ⊥) → Tells {T = ℕ} (played_text line.number how) t u (Ok count) →
      count ≡ played_count how →
      ArePlayed topology (take (i + 1) lines) now (refused + count) s u
  line_played u count not this is =
      subst (λ n. ArePlayed topology (take (i + 1) lines) now (refused + n) s u) (sym is)
      (played_more topology lines i s t refused old past line below here how now u not follows (told_of (played_text line.number how) t u count this))

  pub line_cut : (u : Stand) (e : DeviceBad) → Tells {T = ℕ} (played_text line.number how) t u (Err e) →
      Tells {T = Unit {0}} (report topology (course_of topology lines)) s u (Err e)
  line_cut u e this =
      played_cut topology lines i s t refused old past line below here how now u e follows (tells_in (played_text line.number how) t u e this)

  pub line_full : how ≡ played.TooManySteps → AreCut topology lines s t
  line_full is = cut_at topology lines i s t refused old past line below here now
      (subst (λ h. Follows (with_line (wiring_of topology) (course_of topology (take i lines)) (order_of line)) (course_of topology (take i lines)) line.number
      h now) is follows)

-- an error of the call
pub plays_err : (topology : Network) (lines : List FloodLine) (now : FloodNow) (s t : Stand) (e : DeviceBad) (r : Result Ended DeviceBad) →
    IsErr r × IsErrAnd r (λ y. y ≡ e) →
    Tells {T = Unit {0}} (report topology (course_of topology lines)) s t (Err e) → PlaysAll topology lines now s t r
plays_err topology lines now s t e (Ok how) from this = absurd from.1
plays_err topology lines now s t e (Err other) from this =
    subst (λ y. Tells {T = Unit {0}} (report topology (course_of topology lines)) s t (Err y)) (sym from.1) this

-- 4. The whole report

module _ (topology : Network) (lines : List FloodLine) (now : FloodNow) (refused : ℕ) (s t : Stand) (past : ArePlayed topology lines now refused s t) where
  abbrev ran : FloodRun
  ran = course_of topology lines

  abbrev last : List ℕ
  last = total_line now.done refused (length now.world.flying)

  whole_is : flat_map refused_text ran.refused ++ (trees_text topology now.world ++ last) ≡ report topology ran
  whole_is =
      ap (λ (w : FloodWorld). flat_map refused_text ran.refused ++ (trees_text topology w ++ total_line now.done refused (length w.flying))) past.at.world
      ∙ ap (λ n. flat_map refused_text ran.refused ++ (trees_text topology ran.world ++ total_line n refused (length ran.world.flying))) past.at.steps
      ∙ ap (λ n. flat_map refused_text ran.refused ++ (trees_text topology ran.world ++ total_line ran.steps n (length ran.world.flying))) (sym past.counted)
      ∙ ap (λ b. flat_map refused_text ran.refused ++ cond b (codes "too large steps\n")
      (trees_text topology ran.world ++ total_line ran.steps (length ran.refused) (length ran.world.flying))) (sym past.at.goes_on)

  pub trees_cut : (u : Stand) (e : DeviceBad) → Tells {T = Unit {0}} (trees_text topology now.world) t u (Err e) →
      Tells {T = Unit {0}} (report topology ran) s u (Err e)
  trees_cut u e this = tells_within (flat_map refused_text ran.refused) (trees_text topology now.world) last (report topology ran) s t u e (Err e)
      (refl, refl) past.told this whole_is

  pub total_cut : (u v : Stand) (e : DeviceBad) → Told (trees_text topology now.world) t u → Tells {T = Unit {0}} last u v (Err e) →
      Tells {T = Unit {0}} (report topology ran) s v (Err e)
  total_cut u v e trees this =
      tells_within (flat_map refused_text ran.refused ++ trees_text topology now.world) last [] (report topology ran) s u v e (Err e) (refl, refl)
      (told_more (flat_map refused_text ran.refused) (trees_text topology now.world) s t u past.told trees) this
      (append_assoc (flat_map refused_text ran.refused) (trees_text topology now.world) (last ++ [])
      ∙ ap (λ xs. flat_map refused_text ran.refused ++ (trees_text topology now.world ++ xs)) (append-nil last) ∙ whole_is)

  pub all_told : (u v : Stand) → Told (trees_text topology now.world) t u → Told last u v → Told (report topology ran) s v
  all_told u v trees this =
      subst (λ xs. Told xs s v) whole_is
      (told_more (flat_map refused_text ran.refused) (trees_text topology now.world ++ last) s t v past.told
      (told_more (trees_text topology now.world) last t u v trees this))

-- where steps were full
module _ (topology : Network) (lines : List FloodLine) (s t : Stand) (past : AreCut topology lines s t) where
  full_is : flat_map refused_text (course_of topology lines).refused ++ codes "too large steps\n" ≡ report topology (course_of topology lines)
  full_is = ap (λ b. flat_map refused_text (course_of topology lines).refused ++ cond b (codes "too large steps\n")
      (trees_text topology (course_of topology lines).world
      ++ total_line (course_of topology lines).steps (length (course_of topology lines).refused) (length (course_of topology lines).world.flying)))
      (sym past.stopped)

  pub full_told : (u : Stand) → Told (codes "too large steps\n") t u → Told (report topology (course_of topology lines)) s u
  full_told u this = subst (λ xs. Told xs s u) full_is
      (told_more (flat_map refused_text (course_of topology lines).refused) (codes "too large steps\n") s t u past.told this)

  pub full_cut : (u : Stand) (e : DeviceBad) → Tells {T = Unit {0}} (codes "too large steps\n") t u (Err e) →
      Tells {T = Unit {0}} (report topology (course_of topology lines)) s u (Err e)
  full_cut u e this =
      tells_within (flat_map refused_text (course_of topology lines).refused) (codes "too large steps\n") [] (report topology (course_of topology lines)) s t u
      e (Err e)
      (refl, refl) past.told this
      (ap (λ xs. flat_map refused_text (course_of topology lines).refused ++ xs) (append-nil (codes "too large steps\n")) ∙ full_is)
