-- A step with what it hands on, and what arrives one after another.
use Rattle.std.proofs.Common.{ℕ, suc, ◌≡◌, ◌+◌, ◌-◌, ◌<◌, true, false, List, [], ◌++◌, Option, Some, Result, Ok, Err, refl, arith}
use Rattle.std.proofs.Common.{sym, ◌∙◌, ap, subst, append_assoc}
use Rattle.std.proofs.lemmas.List.{append-nil}
use Rattle.mn_topo.specs.declared.steps.Step.{Step}
use Rattle.mn_topo.specs.declared.steps.Step.TheVariants.{Inject}
use Rattle.mn_ledger.specs.Ledger.{injects}
use Rattle.mn_ledger.specs.declared.refused.Refused.{Refused as why}
use Rattle.mn_ledger.specs.declared.refused.Refused.TheVariants as cause
use Rattle.mn_course_laws.specs.declared.coming.Arrivals.{Arrivals}
use Rattle.mn_course_laws.specs.declared.coming.Coming.{Coming}
use Rattle.mn_course_laws.specs.declared.coming.Ending.{Ending}
use Rattle.mn_course_laws.specs.declared.coming.Ending.TheVariants as ending
use Rattle.mn_course_laws.specs.Course.{Past, is_journal_full}
use Rattle.mn_sched.specs.Playing.{IsFirstPart}
use Rattle.mn_sched.proofs.Delivering.{first_part_refl, first_part_trans}
use Rattle.mn_join_laws.specs.declared.leg.Which.{Which}
use Rattle.mn_join_laws.specs.declared.leg.Which.TheVariants.{First, Second}
use Rattle.mn_join_laws.specs.Pairing.{opposite, Pairing, Both, side, with_plain_step}
use Rattle.mn_join_laws.specs.Course.{PairCourse, Exit, ends, after_exits, crossed, handed_on, refusal_on, tried, stepped, unless_stopped, arrived, one_by_one}
use Rattle.mn_join_laws.specs.Course.{deliver}
use Rattle.mn_join.specs.declared.played.Played.TheVariants.{All}
use Rattle.mn_join.specs.declared.played.PairBad.{PairBad}
use Rattle.mn_join.specs.declared.played.PairBad.TheVariants.{TooManySteps, NoMemory}
use Rattle.mn_join.specs.Pairs.{SideNow, PairNow, side_of, net_of, PairStands, HasStopped}
use Rattle.mn_join.specs.Plays.{HasBegun, ComeFirst, Plays}
use Rattle.mn_join.specs.Moves.{next_in, over, Crosses, ArrivesIn, Takes, Tries, StoodStill, GoesOn, PairGoesOn, as_played, ended_by}
use Rattle.mn_join.proofs.Growing.{ComeBefore, same_steps, then_steps, crossed_before, deliver_before}
use Rattle.mn_join.proofs.HandedOver.{has_stopped}

-- 1. Where memory was wanted

net_is : (pair : PairNow) (w : Which) → net_of pair w ≡ (side_of pair w).net
net_is pair First = refl
net_is pair Second = refl

journal_is : (pairing : Pairing) (pair : PairNow) (both : Both) → PairStands pairing pair both → (w : Which) →
    (net_of pair w).journal ≡ (side both w).past.entries
journal_is pairing pair both h First = ap (λ (p : Past). p.entries) (h.sides First).past
journal_is pairing pair both h Second = ap (λ (p : Past). p.entries) (h.sides Second).past

still_is : (old new : PairNow) → StoodStill old new → (w : Which) → (net_of new w).journal ≡ (net_of old w).journal
still_is old new h First = h.first
still_is old new h Second = h.second

-- the steps done are first steps of whatever comes after them
pub has_begun : (pairing : Pairing) (old new : PairNow) (now after : Both) → PairStands pairing old now → StoodStill old new → ComeBefore now after →
    HasBegun new after
has_begun pairing old new now after stands still before = record {
  steps = λ w. subst (λ es. IsFirstPart es (side after w).past.entries)
      (sym (still_is old new still w ∙ journal_is pairing old now stands w)) (before w);
}

pub stands_begun : (pairing : Pairing) (pair : PairNow) (now after : Both) → PairStands pairing pair now → ComeBefore now after → HasBegun pair after
stands_begun pairing pair now after stands before = record {
  steps = λ w. subst (λ es. IsFirstPart es (side after w).past.entries) (sym (journal_is pairing pair now stands w)) (before w);
}

-- 2. Hand-overs one after another

pub crossed_turn : (pairing : Pairing) (which : Which) (both : Both) (n i : ℕ) → i < n
    → crossed (n - i) pairing which both ≡ over pairing which both (λ later. crossed (n - (i + 1)) pairing (opposite which) later)
crossed_turn pairing which both n i below = ap (λ k. crossed k pairing which both) (more n i below)
  where
    more : (n i : ℕ) → i < n → n - i ≡ suc (n - (i + 1))
    more n i h = omega (arith, h)

-- where the hand-overs are, while they go on
pub record GoesOver (pairing : Pairing) (which : Which) (both : Both) (i : ℕ) (at : Which) (start now : PairNow) : Type 0 where
  pub later : Both
  pub stands : PairStands pairing now later
  pub before : ComeBefore both later
  pub rest : handed_on pairing which both ≡ crossed (256 - i) pairing at later
  pub exits : now.exits ≡ start.exits

pub goes_first : (pairing : Pairing) (which : Which) (both : Both) (start : PairNow) → PairStands pairing start both →
    GoesOver pairing which both 0 which start start
unfolding handed_on
goes_first pairing which both start h = record { later = both; stands = h; before = same_steps both; rest = refl; exits = refl }

module _ (pairing : Pairing) (which : Which) (both : Both) (i : ℕ) (at : Which) (start now new : PairNow) (h : GoesOver pairing which both i at start now)
    (below : i < 256) where
  course_is : handed_on pairing which both ≡ over pairing at h.later (λ later. crossed (256 - (i + 1)) pairing (opposite at) later)
  course_is = h.rest ∙ crossed_turn pairing at h.later 256 i below

  pub goes_next : Crosses pairing at h.later now new (Ok true) → GoesOver pairing which both (i + 1) (opposite at) start new
  goes_next (later, stands, exits, on) = record {
    later = later;
    stands = stands;
    before = then_steps both h.later later h.before (one later on);
    rest = course_is ∙ on (λ later. crossed (256 - (i + 1)) pairing (opposite at) later);
    exits = exits ∙ h.exits;
  }
    where
      one : (later : Both) → ((on : Both → PairCourse) → over pairing at h.later on ≡ on later) → ComeBefore h.later later
      one later on = subst (λ (c : PairCourse). ComeBefore h.later c.both) (on (ends ending.All)) (crossed_before pairing 1 at h.later)

  pub goes_end : Crosses pairing at h.later now new (Ok false) → Takes pairing (handed_on pairing which both) start new (Ok tt)
  goes_end (course, all, stands, out, on) =
      let is : handed_on pairing which both ≡ course = course_is ∙ on (λ later. crossed (256 - (i + 1)) pairing (opposite at) later) in (
        ap (λ (c : PairCourse). c.ending) is ∙ all,
        subst (λ (c : PairCourse). PairStands pairing new c.both) (sym is) stands,
        out ∙ ap (λ xs. xs ++ course.exits) h.exits ∙ ap (λ (c : PairCourse). start.exits ++ c.exits) (sym is),
      )

  pub goes_full : Crosses pairing at h.later now new (Err TooManySteps)
      → Takes pairing (handed_on pairing which both) start new (Err TooManySteps)
  goes_full (stands, out, on) =
      let is : handed_on pairing which both ≡ ends ending.TooManySteps h.later = course_is
      ∙ on (λ later. crossed (256 - (i + 1)) pairing (opposite at) later) in (
        ap (λ (c : PairCourse). c.ending) is,
        subst (λ (c : PairCourse). HasStopped pairing new c.both) (sym is) (has_stopped pairing new h.later stands),
        out ∙ h.exits ∙ sym (append-nil start.exits) ∙ ap (λ (c : PairCourse). start.exits ++ c.exits) (sym is),
      )

  pub goes_short : StoodStill now new → Takes pairing (handed_on pairing which both) start new (Err NoMemory)
  goes_short still = (
    has_begun pairing now new h.later (handed_on pairing which both).both h.stands still
        (subst (λ (c : PairCourse). ComeBefore h.later c.both) (sym h.rest) (crossed_before pairing (256 - i) at h.later)),
    ((handed_on pairing which both).exits, ap (λ xs. xs ++ (handed_on pairing which both).exits) (still.exits ∙ h.exits)),
  )

  pub goes_wrong : (bad : PairBad) → Crosses pairing at h.later now new (Err bad) → StoodStill now new
      → Takes pairing (handed_on pairing which both) start new (Err bad)
  goes_wrong TooManySteps crosses still = goes_full crosses
  goes_wrong NoMemory crosses still = goes_short still

pub goes_out : (pairing : Pairing) (which : Which) (both : Both) (i : ℕ) (at : Which) (start now : PairNow) → GoesOver pairing which both i at start now
    → i ≡ 256 → Takes pairing (handed_on pairing which both) start now (Ok tt)
goes_out pairing which both i at start now h all =
    let is : handed_on pairing which both ≡ ends ending.All h.later = h.rest ∙ ap (λ n. crossed (256 - n) pairing at h.later) all in (
      ap (λ (c : PairCourse). c.ending) is,
      subst (λ (c : PairCourse). PairStands pairing now c.both) (sym is) h.stands,
      h.exits ∙ sym (append-nil start.exits) ∙ ap (λ (c : PairCourse). start.exits ++ c.exits) (sym is),
    )

-- each network has gone on in each part
pub side_on : (a b c : SideNow) → GoesOn a b → GoesOn b c → GoesOn a c
side_on a b c one two = record {
  topology = two.topology ∙ one.topology;
  partners = two.partners ∙ one.partners;
  journal = first_part_trans a.net.journal b.net.journal c.net.journal one.journal two.journal;
}

pub still_on : (a : SideNow) → GoesOn a a
still_on a = record { topology = refl; partners = refl; journal = first_part_refl a.net.journal }

pub pair_still : (a : PairNow) → PairGoesOn a a
pair_still a = record { first = still_on a.first; second = still_on a.second }

pub pair_on : (a b c : PairNow) → PairGoesOn a b → PairGoesOn b c → PairGoesOn a c
pair_on a b c one two = record {
  first = side_on a.first b.first c.first one.first two.first;
  second = side_on a.second b.second c.second one.second two.second;
}

-- 3. A step

module _ (pairing : Pairing) (which : Which) (both done : Both) (refused : Option why) (old mid new : PairNow) where
  pub tried_done : Tries pairing both done refused mid (Ok tt) → mid.exits ≡ [] → (r : Result (Unit {0}) PairBad)
      → (PairStands pairing mid done → Takes pairing (handed_on pairing which done) mid new r)
      → Plays pairing (tried pairing which both done refused) new (as_played r)
  tried_done (none, stands) fresh r takes = by r (takes stands)
    where
      is : tried pairing which both done refused ≡ handed_on pairing which done
      is = ap (tried pairing which both done) none

      exits_are : (xs : List Exit) → mid.exits ++ xs ≡ xs
      exits_are xs = ap (λ ys. ys ++ xs) fresh

      by : (r : Result (Unit {0}) PairBad) → Takes pairing (handed_on pairing which done) mid new r →
          Plays pairing (tried pairing which both done refused) new (as_played r)
      by (Ok x) h = subst (λ c. Plays pairing c new (Ok All)) (sym is) (h.0, h.1, h.2 ∙ exits_are (handed_on pairing which done).exits)
      by (Err TooManySteps) h = subst (λ c. Plays pairing c new (Err TooManySteps)) (sym is) (h.0, h.1, h.2 ∙ exits_are (handed_on pairing which done).exits)
      by (Err NoMemory) h = subst (λ c. Plays pairing c new (Err NoMemory)) (sym is)
          (h.0, subst (ComeFirst new.exits) (exits_are (handed_on pairing which done).exits) h.1)

pub tried_not : (pairing : Pairing) (which : Which) (both done : Both) (refused : Option why) (new : PairNow) (cause : why)
    → Tries pairing both done refused new (Err cause) → new.exits ≡ [] → HasBegun new (tried pairing which both done refused).both
    → Plays pairing (tried pairing which both done refused) new (ended_by cause)
tried_not pairing which both done refused new cause.TooManySteps h fresh begun =
    subst (λ c. Plays pairing c new (Err TooManySteps)) (sym (ap (tried pairing which both done) h.0)) (refl, has_stopped pairing new both h.1, fresh)
tried_not pairing which both done refused new cause.NoMemory h fresh begun =
    (begun, ((tried pairing which both done refused).exits, ap (λ xs. xs ++ (tried pairing which both done refused).exits) fresh))
tried_not pairing which both done refused new why h fresh begun =
    subst (λ c. Plays pairing c new (ended_by why)) (sym (ap (tried pairing which both done) h.0)) (refl, h.1, fresh)

-- a step other than an injection
pub stepped_plainly : (pairing : Pairing) (which : Which) (both : Both) (step : Step) (bytes : List ℕ) → injects step ≡ false
    → stepped pairing which both step bytes ≡ tried pairing which both (with_plain_step both which step) (refusal_on pairing both which step [])
stepped_plainly pairing which both (Inject s number) bytes plain = absurd (let e : true ≡ false = plain in cc)
stepped_plainly pairing which both step bytes plain = refl

-- what has taken its course was played
pub takes_plays : (pairing : Pairing) (course : PairCourse) (old new : PairNow) (r : Result (Unit {0}) PairBad) → old.exits ≡ [] →
    Takes pairing course old new r
    → Plays pairing course new (as_played r)
takes_plays pairing course old new (Ok x) fresh h = (h.0, h.1, h.2 ∙ ap (λ xs. xs ++ course.exits) fresh)
takes_plays pairing course old new (Err TooManySteps) fresh h = (h.0, h.1, h.2 ∙ ap (λ xs. xs ++ course.exits) fresh)
takes_plays pairing course old new (Err NoMemory) fresh h = (h.0, subst (λ xs. ComeFirst new.exits (xs ++ course.exits)) fresh h.1)

-- 4. What arrives

pub deliver_turn : (pairing : Pairing) (which : Which) (arrivals : Arrivals) (both : Both) (n i : ℕ) → i < n
    → deliver pairing which arrivals (n - i) both ≡ one_by_one pairing which arrivals (λ later. deliver pairing which arrivals (n - (i + 1)) later) both
    (is_journal_full (side both which).past) (next_in pairing which (side both which) arrivals)
deliver_turn pairing which arrivals both n i below = ap (λ k. deliver pairing which arrivals k both) (more n i below)
  where
    more : (n i : ℕ) → i < n → n - i ≡ suc (n - (i + 1))
    more n i h = omega (arith, h)

-- where the arrivals are
pub record ComesOn (pairing : Pairing) (which : Which) (arrivals : Arrivals) (both : Both) (n i : ℕ) (now : PairNow) : Type 0 where
  pub later : Both
  pub stands : PairStands pairing now later
  pub rest : deliver pairing which arrivals n both ≡ after_exits now.exits (deliver pairing which arrivals (n - i) later)

pub comes_first : (pairing : Pairing) (which : Which) (arrivals : Arrivals) (both : Both) (n : ℕ) (now : PairNow) → PairStands pairing now both → now.exits ≡ []
    → ComesOn pairing which arrivals both n 0 now
comes_first pairing which arrivals both n now h fresh = record {
  later = both;
  stands = h;
  rest = ap (λ k. deliver pairing which arrivals k both) (all n) ∙ ap (λ xs. after_exits xs (deliver pairing which arrivals (n - 0) both)) (sym fresh);
}
  where
    all : (n : ℕ) → n ≡ n - 0
    all n = omega arith

module _ (pairing : Pairing) (which : Which) (arrivals : Arrivals) (both : Both) (n i : ℕ) (now mid new : PairNow)
    (h : ComesOn pairing which arrivals both n i now) (below : i < n) (kept : mid.exits ≡ now.exits) where
  abbrev on : Both → PairCourse
  on later = deliver pairing which arrivals (n - (i + 1)) later

  abbrev course_now : PairCourse
  course_now = one_by_one pairing which arrivals on h.later (is_journal_full (side h.later which).past) (next_in pairing which (side h.later which) arrivals)

  whole : deliver pairing which arrivals n both ≡ after_exits now.exits course_now
  whole = h.rest ∙ ap (after_exits now.exits) (deliver_turn pairing which arrivals h.later n i below)

  -- nothing came
  pub comes_end : (start : PairNow) → start.exits ≡ [] → ArrivesIn pairing which arrivals h.later mid (Ok false)
      → Takes pairing (deliver pairing which arrivals n both) start mid (Ok tt)
  comes_end start fresh (none, stands) =
      let is : deliver pairing which arrivals n both ≡ after_exits now.exits (ends ending.All h.later) =
      whole ∙ ap (λ o. after_exits now.exits (one_by_one pairing which arrivals on h.later (is_journal_full (side h.later which).past) o)) none in (
        ap (λ (c : PairCourse). c.ending) is,
        subst (λ (c : PairCourse). PairStands pairing mid c.both) (sym is) stands,
        kept ∙ sym (append-nil now.exits) ∙ ap (λ (c : PairCourse). c.exits) (sym is)
            ∙ ap (λ xs. xs ++ (deliver pairing which arrivals n both).exits) (sym fresh),
      )

  pub comes_full : (start : PairNow) → start.exits ≡ [] → ArrivesIn pairing which arrivals h.later mid (Err TooManySteps)
      → Takes pairing (deliver pairing which arrivals n both) start mid (Err TooManySteps)
  comes_full start fresh (item, some, full, stopped) =
      let is : deliver pairing which arrivals n both ≡ after_exits now.exits (ends ending.TooManySteps h.later) =
      whole ∙ ap (λ o. after_exits now.exits (one_by_one pairing which arrivals on h.later (is_journal_full (side h.later which).past) o)) some
      ∙ ap (λ f. after_exits now.exits (one_by_one pairing which arrivals on h.later f (Some item))) full in (
        ap (λ (c : PairCourse). c.ending) is,
        subst (λ (c : PairCourse). HasStopped pairing mid c.both) (sym is) stopped,
        kept ∙ sym (append-nil now.exits) ∙ ap (λ (c : PairCourse). c.exits) (sym is)
            ∙ ap (λ xs. xs ++ (deliver pairing which arrivals n both).exits) (sym fresh),
      )

  -- something came, and was handed on
  module _ (item : Coming) (some : next_in pairing which (side h.later which) arrivals ≡ Some item)
      (room : is_journal_full (side h.later which).past ≡ false) where
    abbrev at : Both
    at = arrived arrivals h.later which item

    abbrev course : PairCourse
    course = handed_on pairing which at

    one : deliver pairing which arrivals n both ≡ after_exits now.exits (after_exits course.exits (unless_stopped on course.both course.ending))
    one = whole ∙ ap (λ o. after_exits now.exits (one_by_one pairing which arrivals on h.later (is_journal_full (side h.later which).past) o)) some
        ∙ ap (λ f. after_exits now.exits (one_by_one pairing which arrivals on h.later f (Some item))) room

    joined : (c : PairCourse) → after_exits now.exits (after_exits course.exits c) ≡ after_exits (now.exits ++ course.exits) c
    joined c = ap (λ xs. record c { exits = xs }) (sym (append_assoc now.exits course.exits c.exits))

    exits_are : new.exits ≡ mid.exits ++ course.exits → new.exits ≡ now.exits ++ course.exits
    exits_are e = e ∙ ap (λ xs. xs ++ course.exits) kept

    pub comes_next : Takes pairing course mid new (Ok tt) → ComesOn pairing which arrivals both n (i + 1) new
    comes_next (all, stands, out) = record {
      later = course.both;
      stands = stands;
      rest = one ∙ ap (λ e. after_exits now.exits (after_exits course.exits (unless_stopped on course.both e))) all ∙ joined (on course.both)
          ∙ ap (λ xs. after_exits xs (on course.both)) (sym (exits_are out));
    }

    pub stops_full : (start : PairNow) → start.exits ≡ [] → Takes pairing course mid new (Err TooManySteps)
        → Takes pairing (deliver pairing which arrivals n both) start new (Err TooManySteps)
    stops_full start fresh (full, stopped, out) =
        let is : deliver pairing which arrivals n both ≡ after_exits (now.exits ++ course.exits) (ends ending.TooManySteps course.both) =
        one ∙ ap (λ e. after_exits now.exits (after_exits course.exits (unless_stopped on course.both e))) full
        ∙ joined (ends ending.TooManySteps course.both) in (
          ap (λ (c : PairCourse). c.ending) is,
          subst (λ (c : PairCourse). HasStopped pairing new c.both) (sym is) stopped,
          exits_are out ∙ sym (append-nil (now.exits ++ course.exits)) ∙ ap (λ (c : PairCourse). c.exits) (sym is)
              ∙ ap (λ xs. xs ++ (deliver pairing which arrivals n both).exits) (sym fresh),
        )

    unless_both : (how : Ending) → ComeBefore course.both (unless_stopped on course.both how).both
    unless_both ending.All = deliver_before pairing (n - (i + 1)) which arrivals course.both
    unless_both how = same_steps course.both

    pub stops_short : (start : PairNow) → start.exits ≡ [] → Takes pairing course mid new (Err NoMemory)
        → Takes pairing (deliver pairing which arrivals n both) start new (Err NoMemory)
    stops_short start fresh (begun, come) =
        let end : PairCourse = unless_stopped on course.both course.ending in (
          record {
            steps = λ w. subst (λ (c : PairCourse). IsFirstPart (net_of new w).journal (side c.both w).past.entries) (sym one)
                (first_part_trans (net_of new w).journal (side course.both w).past.entries (side end.both w).past.entries
                (begun.steps w) (unless_both course.ending w));
          },
          (
            come.0 ++ end.exits,
            sym (append_assoc new.exits come.0 end.exits)
                ∙ ap (λ xs. xs ++ end.exits) (come.1 ∙ ap (λ xs. xs ++ course.exits) kept)
                ∙ append_assoc now.exits course.exits end.exits
                ∙ ap (λ (c : PairCourse). c.exits) (sym one)
                ∙ ap (λ xs. xs ++ (deliver pairing which arrivals n both).exits) (sym fresh),
          ),
        )

-- memory was wanted as something was to come
pub comes_short : (pairing : Pairing) (which : Which) (arrivals : Arrivals) (both : Both) (n i : ℕ) (now new start : PairNow)
    → ComesOn pairing which arrivals both n i now → start.exits ≡ [] → StoodStill now new
    → Takes pairing (deliver pairing which arrivals n both) start new (Err NoMemory)
comes_short pairing which arrivals both n i now new start h fresh still = (
  has_begun pairing now new h.later (deliver pairing which arrivals n both).both h.stands still
      (subst (λ (c : PairCourse). ComeBefore h.later c.both) (sym h.rest) (deliver_before pairing (n - i) which arrivals h.later)),
  (
    (deliver pairing which arrivals (n - i) h.later).exits,
    ap (λ xs. xs ++ (deliver pairing which arrivals (n - i) h.later).exits) still.exits
        ∙ ap (λ (c : PairCourse). c.exits) (sym h.rest)
        ∙ ap (λ xs. xs ++ (deliver pairing which arrivals n both).exits) (sym fresh),
  ),
)

pub comes_out : (pairing : Pairing) (which : Which) (arrivals : Arrivals) (both : Both) (n i : ℕ) (now start : PairNow) →
    ComesOn pairing which arrivals both n i now
    → i ≡ n → start.exits ≡ [] → Takes pairing (deliver pairing which arrivals n both) start now (Ok tt)
comes_out pairing which arrivals both n i now start h all fresh =
    let none : n - i ≡ 0 = omega (arith, all) in
    let is : deliver pairing which arrivals n both ≡ after_exits now.exits (ends ending.All h.later) =
    h.rest ∙ ap (λ k. after_exits now.exits (deliver pairing which arrivals k h.later)) none in (
      ap (λ (c : PairCourse). c.ending) is,
      subst (λ (c : PairCourse). PairStands pairing now c.both) (sym is) h.stands,
      sym (append-nil now.exits) ∙ ap (λ (c : PairCourse). c.exits) (sym is) ∙ ap (λ xs. xs ++ (deliver pairing which arrivals n both).exits) (sym fresh),
    )

-- an arrival that fails
pub comes_wrong : (pairing : Pairing) (which : Which) (arrivals : Arrivals) (both : Both) (n i : ℕ) (now new start : PairNow)
    → (h : ComesOn pairing which arrivals both n i now) → i < n → new.exits ≡ now.exits → start.exits ≡ [] → (bad : PairBad)
    → ArrivesIn pairing which arrivals h.later new (Err bad) → StoodStill now new → Takes pairing (deliver pairing which arrivals n both) start new (Err bad)
comes_wrong pairing which arrivals both n i now new start h below kept fresh TooManySteps arrives still =
    comes_full pairing which arrivals both n i now new new h below kept start fresh arrives
comes_wrong pairing which arrivals both n i now new start h below kept fresh NoMemory arrives still =
    comes_short pairing which arrivals both n i now new start h fresh still

-- an arrival whose hand-overs fail
pub stops_wrong : (pairing : Pairing) (which : Which) (arrivals : Arrivals) (both : Both) (n i : ℕ) (now mid new start : PairNow)
    → (h : ComesOn pairing which arrivals both n i now) → i < n → mid.exits ≡ now.exits → start.exits ≡ []
    → (arrives : ArrivesIn pairing which arrivals h.later mid (Ok true)) → (bad : PairBad)
    → Takes pairing (handed_on pairing which (arrived arrivals h.later which arrives.0)) mid new (Err bad)
    → Takes pairing (deliver pairing which arrivals n both) start new (Err bad)
stops_wrong pairing which arrivals both n i now mid new start h below kept fresh arrives TooManySteps takes =
    stops_full pairing which arrivals both n i now mid new h below kept arrives.0 arrives.1 arrives.2 start fresh takes
stops_wrong pairing which arrivals both n i now mid new start h below kept fresh arrives NoMemory takes =
    stops_short pairing which arrivals both n i now mid new h below kept arrives.0 arrives.1 arrives.2 start fresh takes
