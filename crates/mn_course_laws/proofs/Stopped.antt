-- A line is stopped by a full journal alone, and changes nothing where it is refused.
use Rattle.std.proofs.Common.{ℕ, zero, suc, ◌≡◌, ◌+◌, ◌≤◌, ◌⊎◌, inl, inr, Bool, true, false, cond, List, [], ◌∷◌, length, refl, arith, sym, ◌∙◌, Option}
use Rattle.std.proofs.Common.{Some, None}
use Rattle.std.specs.Prelude.{nat_le}
use Rattle.mn_base.proofs.Bools.{at_most_tells}
use Rattle.mn_topo.specs.Lawful.{IsLawful}
use Rattle.mn_topo.specs.Network.{Network}
use Rattle.mn_topo.specs.declared.steps.Step.{Step}
use Rattle.mn_topo.specs.declared.steps.Step.TheVariants.{LinkUp, AddRoute, DelRoute, Inject}
use Rattle.mn_script.specs.declared.command.Command.{Command}
use Rattle.mn_script.specs.declared.command.Command.TheVariants.{Do, Damage, Run, Drain, Flush, Show}
use Rattle.mn_topo.specs.declared.steps.Damage as damage
use Rattle.mn_entry.specs.Damages.{ending as end_of, hearing, number_of}
use Rattle.mn_damage.specs.Refusals.{still_reads, damage_refusal_at}
use Rattle.mn_topo.specs.declared.steps.Damage.TheVariants.{Ldp, Bgp}
use Rattle.mn_ledger.specs.declared.refused.Refused.{Refused}
use Rattle.mn_ledger.specs.declared.refused.Refused.TheVariants as why
use Rattle.mn_ledger.specs.Places.{vrf_of}
use Rattle.mn_ledger.specs.World.{World}
use Rattle.mn_ledger.specs.Packets.{Packets}
use Rattle.mn_ledger.specs.Ledger.{world_of, packets_of}
use Rattle.mn_ledger.specs.Refusal.{refusal_at, first_cause, where_holds, static_refusal, prefix_refusal, taken_by, is_unchanged, is_empty, is_targets_full}
use Rattle.mn_ledger.specs.Refusal.{is_spent, is_full}
use Rattle.mn_ledger.proofs.Refusals.{few_entries, never_for_memory}
use Rattle.mn_course_laws.specs.declared.coming.Coming.{Coming}
use Rattle.mn_course_laws.specs.declared.coming.Arrivals.{Arrivals}
use Rattle.mn_course_laws.specs.declared.coming.Arrivals.TheVariants.{DueBy, News, AllFrames}
use Rattle.mn_course_laws.specs.declared.coming.Ending.{Ending}
use Rattle.mn_course_laws.specs.declared.coming.Ending.TheVariants as ending
use Rattle.mn_course_laws.specs.Course as course
use Rattle.mn_course_laws.specs.Course.{Past, Course, ends, with_step, record_of, inputs_of, tried, refusal_now, injected, stepped, arrived, one_by_one}
use Rattle.mn_course_laws.specs.Course.{unless_refused, with_damage, damage_refused_by, damaged}
use Rattle.mn_course_laws.specs.Course.{next_now, deliver, all, until, most_of, played}
use Rattle.mn_course_laws.specs.Endings.{EndsWell}
use Rattle.mn_course_laws.specs.Lawful.{IsLawfulPast}
use Rattle.mn_course_laws.proofs.Going.{Has, Comes, next_can_come, arrived_goes}

-- 1. A step that is refused for too many steps meets a full journal

abbrev Stops : Option Refused → Type 0
Stops o = o ≡ Some why.TooManySteps

passes : (b : Bool) (c : Refused) (rest : List (Option Refused)) (full : Type 0) → (Stops (Some c) → ⊥) → (Stops (first_cause rest) → full)
    → Stops (first_cause (where_holds b c ∷ rest)) → full
passes true c rest full h g e = absurd (h e)
passes false c rest full h g e = g e

passes_static : (r : Option Refused) (rest : List (Option Refused)) (full : Type 0) → (Stops r → ⊥) → (Stops (first_cause rest) → full)
    → Stops (first_cause (r ∷ rest)) → full
passes_static None rest full h g e = g e
passes_static (Some c) rest full h g e = absurd (h e)

cond_kept : (b : Bool) (x y : Option Refused) → (Stops x → ⊥) → (Stops y → ⊥) → Stops (cond b x y) → ⊥
cond_kept true x y h g e = h e
cond_kept false x y h g e = g e

prefix_never : (o : Option ℕ) (n : ℕ) → Stops (prefix_refusal o n) → ⊥
prefix_never (Some s) n e = cc
prefix_never None n e = cond_kept (nat_le 65536 n) (Some why.RoutesFull) None (λ f. cc) (λ f. cc) e

static_never : (t : Network) (w : World) (s : Step) → Stops (static_refusal t w.config s) → ⊥
static_never t w (AddRoute s p) e = prefix_never (taken_by t (vrf_of t s.0) p w.config.statics) (length w.config.statics) e
static_never t w (DelRoute s p) e = cond_kept _ None (Some why.NoRouteThere) (λ f. cc) (λ f. cc) e
static_never t w (LinkUp l) e = cc
static_never t w _ e = cc

last_one : (b : Bool) → Stops (first_cause (where_holds b why.TooManySteps ∷ [])) → b ≡ true
last_one true e = refl
last_one false e = cc

full_only : (t : Network) (w : World) (k : Packets) (n : ℕ) (s : Step) (b : List ℕ) → Stops (refusal_at t w k n s b) → nat_le 4000000 n ≡ true
full_only t w k n s b =
    passes (is_unchanged w.config s) why.Unchanged _ (nat_le 4000000 n ≡ true) (λ f. cc)
    (passes (is_empty t w k s) why.Empty _ (nat_le 4000000 n ≡ true) (λ f. cc)
    (passes_static (static_refusal t w.config s) _ (nat_le 4000000 n ≡ true) (static_never t w s)
    (passes (is_targets_full w.config s) why.TargetsFull _ (nat_le 4000000 n ≡ true) (λ f. cc)
    (passes (is_spent t w.config s) why.LabelsSpent _ (nat_le 4000000 n ≡ true) (λ f. cc)
    (passes (is_full t w k s b) why.NetFull _ (nat_le 4000000 n ≡ true) (λ f. cc) (last_one (nat_le 4000000 n)))))))

just_full : (n : ℕ) → nat_le 4000000 n ≡ true → n ≤ 4000000 → n ≡ 4000000
just_full n h g = let over = at_most_tells 4000000 n h in omega (arith, over, g)

-- and so does a damage
no_static : (t : Network) (w : World) (d : damage.Damage) → static_refusal t w.config (end_of d) ≡ None
no_static t w (Ldp l dir m) = refl
no_static t w (Bgp a b m) = refl

none_stops : (r : Option Refused) → r ≡ None → Stops r → ⊥
none_stops None e f = cc
none_stops (Some c) e f = cc

damage_full_only : (t : Network) (w : World) (k : Packets) (n : ℕ) (d : damage.Damage) (b : List ℕ) → Stops (damage_refusal_at t w k n d b) →
    nat_le 4000000 n ≡ true
damage_full_only t w k n d b =
    passes (is_empty t w k (hearing d)) why.Empty _ (nat_le 4000000 n ≡ true) (λ f. cc)
    (passes (still_reads d b) why.StillReads _ (nat_le 4000000 n ≡ true) (λ f. cc)
    (passes_static (static_refusal t w.config (end_of d)) _ (nat_le 4000000 n ≡ true) (none_stops (static_refusal t w.config (end_of d)) (no_static t w d))
    (passes (is_targets_full w.config (end_of d)) why.TargetsFull _ (nat_le 4000000 n ≡ true) (λ f. cc)
    (passes (is_spent t w.config (end_of d)) why.LabelsSpent _ (nat_le 4000000 n ≡ true) (λ f. cc)
    (passes (is_full t w k (end_of d) []) why.NetFull _ (nat_le 4000000 n ≡ true) (λ f. cc) (last_one (nat_le 4000000 n)))))))

-- which is never refused for memory
abbrev Wants : Option Refused → Type 0
Wants o = o ≡ Some why.NoMemory

goes_by : (b : Bool) (c : Refused) (rest : List (Option Refused)) → (Wants (Some c) → ⊥) → (Wants (first_cause rest) → ⊥)
    → Wants (first_cause (where_holds b c ∷ rest)) → ⊥
goes_by true c rest h g e = h e
goes_by false c rest h g e = g e

goes_by_none : (r : Option Refused) (rest : List (Option Refused)) → r ≡ None → (Wants (first_cause rest) → ⊥) → Wants (first_cause (r ∷ rest)) → ⊥
goes_by_none None rest n g e = g e
goes_by_none (Some c) rest n g e = cc

damage_wants_none : (t : Network) (w : World) (k : Packets) (n : ℕ) (d : damage.Damage) (b : List ℕ) → Wants (damage_refusal_at t w k n d b) → ⊥
damage_wants_none t w k n d b =
    goes_by (is_empty t w k (hearing d)) why.Empty _ (λ f. cc)
    (goes_by (still_reads d b) why.StillReads _ (λ f. cc)
    (goes_by_none (static_refusal t w.config (end_of d)) _ (no_static t w d)
    (goes_by (is_targets_full w.config (end_of d)) why.TargetsFull _ (λ f. cc)
    (goes_by (is_spent t w.config (end_of d)) why.LabelsSpent _ (λ f. cc)
    (goes_by (is_full t w k (end_of d) []) why.NetFull _ (λ f. cc)
    (goes_by (nat_le 4000000 n) why.TooManySteps [] (λ f. cc) (λ f. cc)))))))

module _ (t : Network) (lawful : IsLawful t) (capture : List (List ℕ)) where
  -- 2. A step line

  plainly : (past : Past) (c : Course) → c.ending ≡ ending.All → EndsWell past c
  plainly past c h = record {
    stopped = λ e. absurd (one (sym h ∙ e));
    refused = λ cause e. absurd (two cause (sym h ∙ e));
    missing = λ e. absurd (three (sym h ∙ e));
  }
    where
      one : ending.All ≡ ending.TooManySteps → ⊥
      one e = cc

      two : (cause : Refused) → ending.All ≡ ending.Refused cause → ⊥
      two cause e = cc

      three : ending.All ≡ ending.NoRecord → ⊥
      three e = cc

  fully : (past : Past) (c : Course) → c.ending ≡ ending.TooManySteps → length c.past.entries ≡ 4000000 → EndsWell past c
  fully past c h g = record { stopped = λ e. g; refused = λ cause e. absurd (two cause (sym h ∙ e)); missing = λ e. absurd (three (sym h ∙ e)) }
    where
      two : (cause : Refused) → ending.TooManySteps ≡ ending.Refused cause → ⊥
      two cause e = cc

      three : ending.TooManySteps ≡ ending.NoRecord → ⊥
      three e = cc

  other : (past : Past) (c : Refused) → (c ≡ why.TooManySteps → ⊥) → (c ≡ why.NoMemory → ⊥) → EndsWell past (ends (ending.Refused c) past)
  other past c h g = record {
    stopped = λ e. cc;
    refused = λ cause e. (refl, λ f. h (same cause e ∙ f), λ f. g (same cause e ∙ f));
    missing = λ e. cc;
  }
    where
      same : (cause : Refused) → ending.Refused c ≡ ending.Refused cause → c ≡ cause
      same cause e = cc

  answered_ends : (done past : Past) (o : Option Refused) → (Stops o → length past.entries ≡ 4000000) → (Wants o → ⊥) →
      EndsWell past (unless_refused done past o)
  answered_ends done past None full none = plainly past (ends ending.All done) refl
  answered_ends done past (Some why.TooManySteps) full none = fully past (ends ending.TooManySteps past) refl (full refl)
  answered_ends done past (Some why.NoMemory) full none = absurd (none refl)
  answered_ends done past (Some why.Unchanged) full none = other past why.Unchanged (λ e. cc) (λ e. cc)
  answered_ends done past (Some why.Empty) full none = other past why.Empty (λ e. cc) (λ e. cc)
  answered_ends done past (Some why.StillReads) full none = other past why.StillReads (λ e. cc) (λ e. cc)
  answered_ends done past (Some (why.PrefixTaken site)) full none = other past (why.PrefixTaken site) (λ e. cc) (λ e. cc)
  answered_ends done past (Some why.NoRouteThere) full none = other past why.NoRouteThere (λ e. cc) (λ e. cc)
  answered_ends done past (Some why.RoutesFull) full none = other past why.RoutesFull (λ e. cc) (λ e. cc)
  answered_ends done past (Some why.TargetsFull) full none = other past why.TargetsFull (λ e. cc) (λ e. cc)
  answered_ends done past (Some why.LabelsSpent) full none = other past why.LabelsSpent (λ e. cc) (λ e. cc)
  answered_ends done past (Some why.NetFull) full none = other past why.NetFull (λ e. cc) (λ e. cc)

  full_past : (past : Past) → IsLawfulPast t capture past → nat_le 4000000 (length past.entries) ≡ true → length past.entries ≡ 4000000
  full_past past h over = just_full (length past.entries) over (few_entries t past.entries (inputs_of capture past.entries) h.journal)

  tried_ends : (past : Past) (s : Step) (bytes : List ℕ) → IsLawfulPast t capture past → EndsWell past (tried past s (refusal_now t capture past s bytes))
  tried_ends past s bytes h =
      let w : World = world_of t past.entries in
      let k : Packets = packets_of t past.entries (inputs_of capture past.entries) in
      answered_ends (with_step past s) past (refusal_now t capture past s bytes)
      (λ e. full_past past h (full_only t w k (length past.entries) s bytes e)) (never_for_memory t w k (length past.entries) s bytes)

  injected_ends : (past : Past) (s : Step) (o : Option (List ℕ)) → IsLawfulPast t capture past → EndsWell past (injected t capture past s o)
  injected_ends past s None h = record { stopped = λ e. cc; refused = λ cause e. cc; missing = λ e. refl }
  injected_ends past s (Some bytes) h = tried_ends past s bytes h

  stepped_ends : (past : Past) (s : Step) → IsLawfulPast t capture past → EndsWell past (stepped t capture past s)
  stepped_ends past (Inject s number) h = injected_ends past (Inject s number) (record_of capture number) h
  stepped_ends past s h = tried_ends past s [] h

  damaged_ends : (past : Past) (d : damage.Damage) (o : Option (List ℕ)) → IsLawfulPast t capture past → EndsWell past (damaged t capture past d o)
  damaged_ends past d None h = record { stopped = λ e. cc; refused = λ cause e. cc; missing = λ e. refl }
  damaged_ends past d (Some bytes) h =
      let w : World = world_of t past.entries in
      let k : Packets = packets_of t past.entries (inputs_of capture past.entries) in
      answered_ends (with_damage past d) past (damage_refused_by t capture past d bytes)
      (λ e. full_past past h (damage_full_only t w k (length past.entries) d bytes e)) (damage_wants_none t w k (length past.entries) d bytes)

  -- 3. A line of arrivals ends with All or is stopped

  abbrev Ends : Course → Type 0
  Ends c = (c.ending ≡ ending.All) ⊎ ((c.ending ≡ ending.TooManySteps) × (length c.past.entries ≡ 4000000))

  deliver_ends : (arrivals : Arrivals) (most : ℕ) (past : Past) → IsLawfulPast t capture past → Ends (deliver t capture arrivals most past)
  deliver_ends arrivals zero past h = inl refl
  deliver_ends arrivals (suc most) past h =
      by (course.is_journal_full past) (next_now t capture arrivals past) refl (next_can_come t lawful capture arrivals past h)
      (λ later g. deliver_ends arrivals most later g)
    where
      by : (full : Bool) (o : Option Coming) → course.is_journal_full past ≡ full → Has (Comes t lawful capture arrivals past) o
          → ((later : Past) → IsLawfulPast t capture later → Ends (deliver t capture arrivals most later))
          → Ends (one_by_one arrivals (λ later. deliver t capture arrivals most later) past full o)
      by full None f c rest = inl refl
      by true (Some item) f c rest =
          inr (refl, just_full (length past.entries) f (few_entries t past.entries (inputs_of capture past.entries) h.journal))
      by false (Some item) f c rest = rest (arrived arrivals past item) (arrived_goes t lawful capture arrivals past item h c f)

  ends_well : (past : Past) (c : Course) → Ends c → EndsWell past c
  ends_well past c (inl h) = plainly past c h
  ends_well past c (inr h) = fully past c h.0 h.1

  until_ends : (end : ℕ) (past : Past) (how : Ending) → (how ≡ ending.All) ⊎ ((how ≡ ending.TooManySteps) × (length past.entries ≡ 4000000))
      → Ends (until end past how)
  until_ends end past ending.All h = inl refl
  until_ends end past (ending.Refused cause) h = h
  until_ends end past ending.NoRecord h = h
  until_ends end past ending.TooManySteps h = h

  pub played_ends : (past : Past) (command : Command) → IsLawfulPast t capture past → EndsWell past (played t capture past command)
  played_ends past (Do s) h = stepped_ends past s h
  played_ends past (Damage d) h = damaged_ends past d (record_of capture (number_of d)) h
  played_ends past (Run ticks) h =
      let c : Course = deliver t capture (DueBy (past.clock + ticks)) all past in
      ends_well past (until (past.clock + ticks) c.past c.ending)
      (until_ends (past.clock + ticks) c.past c.ending (deliver_ends (DueBy (past.clock + ticks)) all past h))
  played_ends past (Drain most) h = ends_well past (deliver t capture News (most_of most) past) (deliver_ends News (most_of most) past h)
  played_ends past Flush h = ends_well past (deliver t capture AllFrames all past) (deliver_ends AllFrames all past h)
  played_ends past (Show table) h = plainly past (ends ending.All past) refl
