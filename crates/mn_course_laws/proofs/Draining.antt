-- A line `drain` does a drain, which is bounded, and comes to its end.
use Rattle.std.proofs.Common.{ℕ, zero, suc, ◌≡◌, ◌+◌, ◌^◌, ◌≤◌, ◌⊎◌, inl, inr, Bool, true, false, not, List, [], ◌∷◌, ◌++◌, map, length, length-append}
use Rattle.std.proofs.Common.{append_assoc, append-nil, refl, arith, sym, ap, ◌∙◌, subst, Option, Some, None}
use Rattle.std.specs.Prelude.{nat_le, ◌&&◌}
use Rattle.std.specs.List.{Contains}
use Rattle.std.proofs.lemmas.List.{length-map}
use Rattle.mn_base.proofs.Bools.{no, clash, two_ways, and_parts, at_most_tells}
use Rattle.mn_base.proofs.Members.{In, contained_in}
use Rattle.mn_topo.specs.Lawful.{IsLawful}
use Rattle.mn_topo.specs.Network.{Network}
use Rattle.mn_topo.specs.declared.steps.Step.{Step}
use Rattle.mn_topo.specs.declared.steps.JournalEntry.{JournalEntry}
use Rattle.mn_topo.specs.declared.steps.Damaged.TheVariants.{Undamaged}
use Rattle.mn_ledger.specs.declared.refused.Refused.{Refused}
use Rattle.mn_ledger.specs.declared.refused.Refused.TheVariants.{Empty, TooManySteps}
use Rattle.mn_ledger.specs.World.{World}
use Rattle.mn_ledger.specs.Ledger.{after, start, world_of, packets_of, no_packets}
use Rattle.mn_ledger.specs.InFlight.{is_in_order, IsInFlight}
use Rattle.mn_ledger.specs.Refusal.{first_cause, where_holds, is_empty}
use Rattle.mn_ledger.specs.Items.{Channel, Notices, Messages, Routes, Frames, Item, same_channel, items_on, loads_on, flight_of}
use Rattle.mn_ledger.specs.Settled.{IsSettled}
use Rattle.mn_ledger.proofs.Flows.{in_flight}
use Rattle.mn_ledger.proofs.More.{world_from-push}
use Rattle.mn_ledger_laws.specs.Flight.{is_frame, delivering, IsOpen}
use Rattle.mn_drain_laws.specs.Drain.{AllLearned, IsDrainStep, IsDrain, IsDrained, after_steps, drain_bound}
use Rattle.mn_drain_laws.proofs.Drain.{drain_is_bounded}
use Rattle.mn_drain_laws.proofs.Drained.{drained_is_settled}
use Rattle.mn_drain_laws.proofs.Taking.{drained_where_none_flies}
use Rattle.mn_course_laws.specs.declared.coming.Kind.{Kind}
use Rattle.mn_course_laws.specs.declared.coming.Kind.TheVariants.{Notice, Message}
use Rattle.mn_course_laws.specs.declared.coming.Coming.{Coming}
use Rattle.mn_course_laws.specs.declared.coming.Arrivals.TheVariants.{News}
use Rattle.mn_course_laws.specs.declared.coming.Ending.TheVariants as ending
use Rattle.mn_course_laws.specs.Coming.{kind_of, is_kind, is_due, is_lost, coming, or_else, lost, delivery, ever}
use Rattle.mn_course_laws.specs.Course.{Past, Course, ends, with_step, inputs_of, is_journal_full, one_by_one, next_now, deliver, all}
use Rattle.mn_course_laws.specs.Drains.{DrainsOn, DrainsAll}
use Rattle.mn_course_laws.specs.Lawful.{IsLawfulPast}
use Rattle.mn_course_laws.specs.Next.{IsNext, ComesNext}
use Rattle.mn_course_laws.specs.Paced.{HaveArrived}
use Rattle.mn_course_laws.proofs.Emptied.{due_ever, all_have_arrived}
use Rattle.mn_course_laws.proofs.Going.{Has, Comes, next_can_come, arrived_goes, deliver_goes}
use Rattle.mn_course_laws.proofs.Made.{same_on}
use Rattle.mn_course_laws.proofs.Nexts.{none_kept, what_is_next}

-- 1. What can be delivered isn't empty

empty_no : (e : Bool) (rest : List (Option Refused)) (c : Bool) → first_cause (where_holds e Empty ∷ rest) ≡ where_holds c TooManySteps → e ≡ false
empty_no false rest c h = refl
empty_no true rest true h = cc
empty_no true rest false h = cc

nothing_there : {A : Type 0} (xs : List A) → length xs ≡ 0 → xs ≡ []
nothing_there [] h = refl
nothing_there (x ∷ xs) h = absurd (never (length xs) h)
  where
    never : (n : ℕ) → suc n ≡ 0 → ⊥
    never n e = omega (arith, e)

drain_more : (t : Network) (w : World) (ss : List Step) (s : Step) → IsDrain t w ss → IsDrainStep t (after_steps t w ss) s → IsDrain t w (ss ++ s ∷ [])
drain_more t w [] s h g = (g, tt)
drain_more t w (x ∷ ss) s h g = (h.0, drain_more t (after t w x) ss s h.1 g)

not_stopped : ending.All ≡ ending.TooManySteps → ⊥
not_stopped e = cc

module _ (t : Network) (lawful : IsLawful t) (capture : List (List ℕ)) where
  abbrev inputs : Past → List (List ℕ)
  inputs past = inputs_of capture past.entries

  abbrev items_of : Past → List Item
  items_of past = (flight_of t past.entries (inputs past)).items

  abbrev world : Past → World
  world past = world_of t past.entries

  -- 2. Notices are learned, and messages are received once all is learned

  all_learned : (past : Past) → IsLawfulPast t capture past → ((x : Item) → Contains (items_of past) x → is_due Notice ever x ≡ false)
      → ((x : Item) → Contains (items_of past) x → nat_le x.due ever ≡ true) → AllLearned t (world past).views
  all_learned past h none ever_due node l hn hl =
      let flight : IsInFlight t (world past) (packets_of t past.entries (inputs past)) _ (flight_of t past.entries (inputs past)) =
      in_flight t past.entries (inputs past) lawful h.journal in
      let few : length (items_on (Notices l node) (items_of past)) ≡ 0 =
      none_kept (λ (item : Item). same_channel (Notices l node) item.on) (items_of past) (λ x i. other x i (two_ways (same_channel (Notices l node) x.on))) in
      omega (arith, flight.notices l node hn, length-map (items_on (Notices l node) (items_of past)) (λ (item : Item). item.load), few)
    where
      other : (x : Item) → In (items_of past) x → (same_channel (Notices l node) x.on ≡ true) ⊎ (same_channel (Notices l node) x.on ≡ false)
          → same_channel (Notices l node) x.on ≡ false
      other x i (inl same) =
          let there : Contains (items_of past) x = contained_in (items_of past) x i in
          let on : x.on ≡ Notices l node = same_on (Notices l node) x.on same in
          absurd (clash (sym (ever_due x there) ∙ subst (λ c. (is_kind Notice (kind_of c) && nat_le x.due ever) ≡ false) on (none x there)))
      other x i (inr differs) = differs

  drain_step : (past : Past) (on : Channel) (x : Item) → (is_kind Notice (kind_of on) ≡ true) ⊎ (AllLearned t (world past).views × (is_frame on ≡ false))
      → IsOpen t past.entries (inputs past) (lost (is_lost t past.entries (inputs past) on x) (delivering t on 0))
      → IsDrainStep t (world past) (lost (is_lost t past.entries (inputs past) on x) (delivering t on 0))
  drain_step past (Notices l node) x turn o = record {
    fitting = o.fitting;
    there = empty_no (is_empty t (world past) no_packets (delivering t (Notices l node) 0))
        (None ∷ None ∷ None ∷ None ∷ where_holds (nat_le 4000000 (length past.entries)) TooManySteps ∷ []) (nat_le 4000000 (length past.entries)) o.refused;
    in_turn = tt;
  }
  drain_step past (Messages l end) x (inl e) o = absurd (no e)
  drain_step past (Messages l end) x (inr learned) o = record {
    fitting = o.fitting;
    there = empty_no (is_empty t (world past) no_packets (delivering t (Messages l end) 0))
        (None ∷ None ∷ None ∷ None ∷ where_holds (nat_le 4000000 (length past.entries)) TooManySteps ∷ []) (nat_le 4000000 (length past.entries)) o.refused;
    in_turn = learned.0;
  }
  drain_step past (Routes edge peer) x (inl e) o = absurd (no e)
  drain_step past (Routes edge peer) x (inr learned) o = record {
    fitting = o.fitting;
    there = empty_no (is_empty t (world past) no_packets (delivering t (Routes edge peer) 0))
        (None ∷ None ∷ None ∷ None ∷ where_holds (nat_le 4000000 (length past.entries)) TooManySteps ∷ []) (nat_le 4000000 (length past.entries)) o.refused;
    in_turn = learned.0;
  }
  drain_step past (Frames l d) x (inl e) o = absurd (no e)
  drain_step past (Frames l d) x (inr learned) o = absurd (clash learned.1)

  abbrev Steps : Past → Coming → Type 0
  Steps past item = IsDrainStep t (world past) (delivery item)

  it_drains : (past : Past) (kind : Kind) (item : Coming) (g : ComesNext t past.entries (inputs past) kind ever item)
      → (is_kind Notice (kind_of g.item.on) ≡ true) ⊎ (AllLearned t (world past).views × (is_frame g.item.on ≡ false)) → Steps past item
  it_drains past kind item g turn =
      let same : delivery item ≡ lost (is_lost t past.entries (inputs past) g.item.on g.item) (delivering t g.item.on 0) =
      ap (λ b. lost b item.step) g.lossy ∙ ap (lost (is_lost t past.entries (inputs past) g.item.on g.item)) g.step in
      subst (IsDrainStep t (world past)) (sym same) (drain_step past g.item.on g.item turn (subst (IsOpen t past.entries (inputs past)) same g.delivered))

  no_message : (on : Channel) (b : Bool) → (is_kind Message (kind_of on) && b) ≡ true → is_frame on ≡ false
  no_message (Notices l n) b h = refl
  no_message (Messages l n) b h = refl
  no_message (Routes x y) b h = refl
  no_message (Frames l d) b h = absurd (no h)

  next_drains : (past : Past) → IsLawfulPast t capture past → past.clock ≤ 2 ^ 61 → Has (Steps past) (next_now t capture News past)
  next_drains past h early =
      by (coming t past.entries (inputs past) Notice ever) (coming t past.entries (inputs past) Message ever)
      (what_is_next t lawful past.entries (inputs past) h.journal Notice ever) (what_is_next t lawful past.entries (inputs past) h.journal Message ever)
    where
      by : (a b : Option Coming) → IsNext t past.entries (inputs past) Notice ever a → IsNext t past.entries (inputs past) Message ever b
          → Has (Steps past) (or_else a b)
      by None None g f = tt
      by (Some x) b g f = it_drains past Notice x g (inl (and_parts (is_kind Notice (kind_of g.item.on)) (nat_le g.item.due ever) g.least.in_time).0)
      by None (Some y) g f =
          it_drains past Message y f
          (inr (all_learned past h g (due_ever t lawful capture past h (omega (arith, early))), no_message f.item.on (nat_le f.item.due ever) f.least.in_time))

  -- 3. The whole line

  record Drained (most : ℕ) (past : Past) (course : Course) : Type 0 where
    steps : List Step
    drain : IsDrain t (world past) steps
    made : course.past.entries ≡ past.entries ++ map (λ step. record { tick = past.clock; step = step; damaged = Undamaged }) steps
    clock : course.past.clock ≡ past.clock
    later : world course.past ≡ after_steps t (world past) steps
    over : (course.ending ≡ ending.All) ⊎ (course.ending ≡ ending.TooManySteps)
    full : course.ending ≡ ending.TooManySteps → (4000000 ≤ length course.past.entries) × ((s : Step) × IsDrainStep t (after_steps t (world past) steps) s)

  none_done : (most : ℕ) (past : Past) → Drained most past (ends ending.All past)
  none_done most past = record {
    steps = [];
    drain = tt;
    made = sym (append-nil past.entries);
    clock = refl;
    later = refl;
    over = inl refl;
    full = λ e. absurd (not_stopped e);
  }

  line_drains : (most : ℕ) (past : Past) → IsLawfulPast t capture past → past.clock ≤ 2 ^ 61 → Drained most past (deliver t capture News most past)
  line_drains zero past h early = none_done zero past
  line_drains (suc most) past h early =
      by (is_journal_full past) (next_now t capture News past) refl (next_can_come t lawful capture News past h) (next_drains past h early)
      (λ later g e. line_drains most later g e)
    where
      by : (full : Bool) (o : Option Coming) → is_journal_full past ≡ full → Has (Comes t lawful capture News past) o → Has (Steps past) o
          → ((later : Past) → IsLawfulPast t capture later → later.clock ≤ 2 ^ 61 → Drained most later (deliver t capture News most later))
          → Drained (suc most) past (one_by_one News (λ later. deliver t capture News most later) past full o)
      by full None f c d rest = none_done (suc most) past
      by true (Some item) f c d rest = record {
        steps = [];
        drain = tt;
        made = sym (append-nil past.entries);
        clock = refl;
        later = refl;
        over = inr refl;
        full = λ e. (at_most_tells 4000000 (length past.entries) f, (delivery item, d));
      }
      by false (Some item) f c d rest =
          let s : Step = delivery item in
          let later : Past = with_step past s in
          let e : JournalEntry = record { tick = past.clock; step = s; damaged = Undamaged } in
          let more : Drained most later (deliver t capture News most later) =
          rest later (arrived_goes t lawful capture News past item h c f) (omega (arith, early, c.can.still)) in
          let same : later.clock ≡ past.clock = omega (arith, c.can.still) in
          let after_it : world later ≡ after t (world past) s = world_from-push t past.entries (start t) e in
          record {
            steps = s ∷ more.steps;
            drain = (d, subst (λ w. IsDrain t w more.steps) after_it more.drain);
            made = more.made ∙ ap (λ tick. later.entries ++ map (λ step. record { tick = tick; step = step; damaged = Undamaged }) more.steps) same
                ∙ append_assoc past.entries (e ∷ []) (map (λ step. record { tick = past.clock; step = step; damaged = Undamaged }) more.steps);
            clock = more.clock ∙ same;
            later = more.later ∙ ap (λ w. after_steps t w more.steps) after_it;
            over = more.over;
            full = λ stopped. let g = more.full stopped in (g.0, (g.1.0, subst (λ w. IsDrainStep t (after_steps t w more.steps) g.1.0) after_it g.1.1));
          }

  drains_on : (most : ℕ) (past : Past) (course : Course) → IsLawfulPast t capture past → Drained most past course → DrainsOn t past course
  drains_on most past course h d = record {
    steps = d.steps;
    drain = d.drain;
    made = d.made;
    clock = d.clock;
    few = drain_is_bounded t past.entries (inputs past) d.steps lawful h.journal d.drain;
  }

  pub line_drains_on : (most : ℕ) (past : Past) → IsLawfulPast t capture past → past.clock ≤ 2 ^ 61 → DrainsOn t past (deliver t capture News most past)
  line_drains_on most past h early = drains_on most past (deliver t capture News most past) h (line_drains most past h early)

  -- 4. Its end

  in_order_is : (on : Channel) → is_in_order on ≡ true → not (is_frame on) ≡ false → ⊥
  in_order_is (Frames l d) h g = no h
  in_order_is (Notices l n) h g = clash g
  in_order_is (Messages l n) h g = clash g
  in_order_is (Routes x y) h g = clash g

  none_left_on : (past : Past) → HaveArrived News (items_of past) → (on : Channel) → is_in_order on ≡ true → loads_on on (items_of past) ≡ []
  none_left_on past h on order =
      ap (map (λ (item : Item). item.load)) (nothing_there (items_on on (items_of past))
      (none_kept (λ (item : Item). same_channel on item.on) (items_of past) (λ x i. other x i (two_ways (same_channel on x.on)))))
    where
      other : (x : Item) → In (items_of past) x → (same_channel on x.on ≡ true) ⊎ (same_channel on x.on ≡ false) → same_channel on x.on ≡ false
      other x i (inl same) =
          absurd (in_order_is on order (subst (λ c. not (is_frame c) ≡ false) (same_on on x.on same) (h x (contained_in (items_of past) x i))))
      other x i (inr differs) = differs

  pub drains_all : (past : Past) → IsLawfulPast t capture past → past.clock ≤ 2 ^ 61 → DrainsAll t past (deliver t capture News all past)
  drains_all past h early =
      let course : Course = deliver t capture News all past in
      let d : Drained all past course = line_drains all past h early in
      let good : IsLawfulPast t capture course.past = deliver_goes t lawful capture News all past h in
      let drained : course.ending ≡ ending.All → IsDrained t (world course.past) =
      λ over. drained_where_none_flies t course.past.entries (inputs course.past) lawful good.journal
      (none_left_on course.past (all_have_arrived t lawful capture News past h early over)) in
      record {
        drains = drains_on all past course h d;
        ends = λ room. all_is_done course d room d.over;
        drained = drained;
        settled =
            λ over on. subst (IsSettled t) (sym d.later)
            (drained_is_settled t past.entries (inputs past) d.steps lawful h.journal d.drain (subst (IsDrained t) d.later (drained over)) on);
      }
    where
      too_many : (n : ℕ) (ss : List Step) (s : Step) (long bound : ℕ) → 4000000 ≤ n + long → length (ss ++ s ∷ []) ≤ bound → long ≡ length ss
          → n + bound ≤ 4000000 → ⊥
      too_many n ss s long bound h g e room = omega (arith, h, g, e, room, length-append ss (s ∷ []))

      all_is_done : (course : Course) → (d : Drained all past course) → length past.entries + drain_bound t (world past) ≤ 4000000
          → (course.ending ≡ ending.All) ⊎ (course.ending ≡ ending.TooManySteps) → course.ending ≡ ending.All
      all_is_done course d room (inl over) = over
      all_is_done course d room (inr stopped) =
          let g = d.full stopped in
          let at : List JournalEntry = map (λ step. record { tick = past.clock; step = step; damaged = Undamaged }) d.steps in
          absurd (too_many (length past.entries) d.steps g.1.0 (length at) (drain_bound t (world past))
          (subst (λ n. 4000000 ≤ n) (ap length d.made ∙ length-append past.entries at) g.0)
          (drain_is_bounded t past.entries (inputs past) (d.steps ++ g.1.0 ∷ []) lawful h.journal (drain_more t (world past) d.steps g.1.0 d.drain g.1.1))
          (length-map d.steps (λ step. record { tick = past.clock; step = step; damaged = Undamaged })) room)
