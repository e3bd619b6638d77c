-- One network: what it does is what has happened in it.
use Rattle.std.proofs.Common.{ℕ, zero, suc, ◌≡◌, ◌+◌, ◌<◌, ◌≤◌, true, false, List, [], ◌∷◌, ◌++◌, length, Option, Some, None, Result, Ok, Err, OnOk, OnErr}
use Rattle.std.proofs.Common.{arith}
use Rattle.std.proofs.Common.{sym, ◌∙◌, ap, subst, slice_index_or}
use Rattle.std.specs.Prelude.{slice_get, slice_index}
use Rattle.std.proofs.lemmas.List.{length_push}
use Rattle.std.proofs.lemmas.Option.{same_Some}
use Rattle.mn_base.specs.declared.numbers.SiteNo.{SiteNo}
use Rattle.mn_topo.specs.Steps.{fits}
use Rattle.mn_topo.specs.declared.steps.Step.{Step}
use Rattle.mn_topo.specs.declared.steps.Step.TheVariants.{Inject}
use Rattle.mn_topo.specs.declared.steps.JournalEntry.{JournalEntry}
use Rattle.mn_topo.specs.declared.steps.Damage.{Damage}
use Rattle.mn_topo.specs.declared.steps.Damage.TheVariants.{Ldp, Bgp}
use Rattle.mn_topo.specs.declared.steps.Damaged.{Damaged}
use Rattle.mn_topo.specs.declared.steps.Damaged.TheVariants.{Undamaged}
use Rattle.mn_entry.specs.Damages.{ending as end_of, mark_of, entry_for}
use Rattle.mn_damage.specs.Refusals.{damage_refusal}
use Rattle.mn_ledger.specs.declared.refused.Refused.{Refused}
use Rattle.mn_ledger.specs.declared.refused.Refused.TheVariants as cause
use Rattle.mn_ledger.specs.Ledger.{injects, packets_of}
use Rattle.mn_ledger.specs.OneMore.{added, with_packet}
use Rattle.mn_ledger.specs.Packets.{Packets}
use Rattle.mn_ledger.specs.Refusal.{refusal}
use Rattle.mn_ledger.specs.Time.{ticks_in}
use Rattle.mn_ledger.proofs.OnePlace.{in_one_place}
use Rattle.mn_ledger_laws.proofs.Copies.{numbered}
use Rattle.mn_ledger_laws.specs.Named.{AreBytes}
use Rattle.mn_course_laws.specs.declared.coming.Arrivals.{Arrivals}
use Rattle.mn_course_laws.specs.Coming.{next_arrival}
use Rattle.mn_course_laws.specs.Course.{Past, with_step, arrived, is_journal_full}
use Rattle.mn_sched.specs.Done.{Done}
use Rattle.mn_sched.specs.Damaged.{IsDamaged}
use Rattle.mn_sched.specs.Landing.{IsLanding}
use Rattle.mn_net_laws.specs.Now.{NetNow, StandsFor}
use Rattle.mn_net_laws.specs.Done.{IsLonger, Leaves, Answers}
use Rattle.mn_sched.specs.Playing.{past_of, IsFirstPart, IsPaced}
use Rattle.mn_sched.specs.Arriving.{ArrivesNext}
use Rattle.mn_sched.proofs.Delivering.{first_part_refl}
use Rattle.mn_sched.proofs.Growing.{IsMore, plain, by_step, by_damage, ok_then, more_past, one_entry}
use Rattle.mn_sched.proofs.Telling.{few_ticks}
use Rattle.mn_join_laws.specs.declared.leg.Which.{Which}
use Rattle.mn_join_laws.specs.Pairing.{Pairing, network, partner, Side, marked_step, landed}
use Rattle.mn_join.specs.declared.side.Found.{Found}
use Rattle.mn_join.specs.declared.played.PairBad.TheVariants.{TooManySteps}
use Rattle.mn_join.specs.Pairs.{SideNow, IsSide, IsPacedFromStart, joined_to}
use Rattle.mn_join.specs.Moves.{stepped_side, marked_side, damaged_side, entered_side, refusal_in, damage_refusal_in, next_in, SideTries, Steps, Damages}
use Rattle.mn_join.specs.Moves.{Enters, Arrives, Finds, GoesOn, Undone, stepped_by, leads_to}
use Rattle.mn_join.proofs.Landed.{IsIt, is_it, is_none}

abbrev pub refused_by : Refused → Result Done Refused
refused_by why = Err why

-- 1. A step of the network

longer_past : (old new : NetNow) (step : Step) → IsLonger old new step → past_of new ≡ with_step (past_of old) step
longer_past old new step long = more_past old new (plain old.tick step) (old.tick + ticks_in step) (by_step old new step long)

-- the entry of a step with its mark
abbrev pub marked : ℕ → Step → Damaged → JournalEntry
marked tick step mark = record { tick = tick; step = step; damaged = mark }

-- no time passes in a damage
no_ticks : (tick : ℕ) (d : Damage) → tick ≡ tick + ticks_in (end_of d)
no_ticks tick (Ldp link dir number) = omega arith
no_ticks tick (Bgp a b number) = omega arith

damage_more : (old new : NetNow) (d : Damage) → IsDamaged old new d
    → IsMore old new (marked old.tick (end_of d) (mark_of d)) (old.tick + ticks_in (end_of d))
damage_more old new d h = record { topology = h.topology; journal = h.journal; tick = h.tick ∙ no_ticks old.tick d }

-- bytes are sent behind what was sent
bytes_more : (inputs : List (List ℕ)) (bytes : List ℕ) → AreBytes inputs → ((i : ℕ) → slice_index bytes i < 256) → AreBytes (inputs ++ bytes ∷ [])
bytes_more [] bytes h small zero there e = subst (λ b. (i : ℕ) → slice_index b i < 256) (same_Some bytes there e) small
bytes_more [] bytes h small (suc n) there e = absurd (let clash : None ≡ Some there = e in cc)
bytes_more (first ∷ inputs) bytes h small zero there e = h zero there e
bytes_more (first ∷ inputs) bytes h small (suc n) there e = bytes_more inputs bytes (λ k. h (suc k)) small n there e

module _ (pairing : Pairing) (which : Which) (now : SideNow) (side : Side) (h : IsSide pairing which now side) where
  same_entries : now.net.journal ≡ side.past.entries
  same_entries = ap (λ (p : Past). p.entries) h.past

  same_refusal : (step : Step) (bytes : List ℕ) → refusal now.net.topology now.net.journal side.inputs step bytes ≡ refusal_in pairing which side step bytes
  same_refusal step bytes =
      ap (λ t. refusal t now.net.journal side.inputs step bytes) h.topology ∙ ap (λ es. refusal (network pairing which) es side.inputs step bytes) same_entries

  pub same_packets : packets_of now.net.topology now.net.journal side.inputs ≡ packets_of (network pairing which) side.past.entries side.inputs
  same_packets =
      ap (λ t. packets_of t now.net.journal side.inputs) h.topology ∙ ap (λ es. packets_of (network pairing which) es side.inputs) same_entries

  same_next : (arrivals : Arrivals) → next_arrival now.net.topology now.net.journal side.inputs arrivals ≡ next_in pairing which side arrivals
  same_next arrivals =
      ap (λ t. next_arrival t now.net.journal side.inputs arrivals) h.topology
      ∙ ap (λ es. next_arrival (network pairing which) es side.inputs arrivals) same_entries

  -- a network that is as it was
  pub still_side : (new : SideNow) → new.net ≡ now.net → new.partners ≡ now.partners → new.owners ≡ now.owners → IsSide pairing which new side
  still_side new net partners owners = record {
    topology = ap (λ (n : NetNow). n.topology) net ∙ h.topology;
    stands = subst (λ n. StandsFor n side.inputs) (sym net) h.stands;
    past = ap past_of net ∙ h.past;
    owners = owners ∙ h.owners;
    owned = h.owned;
    bytes = h.bytes;
    joined = λ s. ap (λ ps. joined_to (slice_get ps s)) partners ∙ h.joined s;
  }

  -- a step that injects nothing
  pub marked_as : (new : SideNow) (step : Step) (mark : Damaged) → IsMore now.net new.net (marked now.net.tick step mark) (now.net.tick + ticks_in step)
      → StandsFor new.net side.inputs → new.partners ≡ now.partners → new.owners ≡ now.owners → IsSide pairing which new (marked_side side step mark)
  marked_as new step mark long stands partners owners = record {
    topology = long.topology ∙ h.topology;
    stands = stands;
    past = more_past now.net new.net (marked now.net.tick step mark) (now.net.tick + ticks_in step) long ∙ ap (λ p. marked_step p step mark) h.past;
    owners = owners ∙ h.owners;
    owned = h.owned;
    bytes = h.bytes;
    joined = λ s. ap (λ ps. joined_to (slice_get ps s)) partners ∙ h.joined s;
  }

  -- what the network answers is what the definitions say
  tries_not : (new : SideNow) (done : Side) (told refused : Option Refused) (why : Refused) → told ≡ refused → Answers told (refused_by why)
      → Leaves now.net new.net (refused_by why) → new.partners ≡ now.partners → new.owners ≡ now.owners
      → SideTries pairing which side done refused new (Err why)
  tries_not new done told refused cause.NoMemory same answer left partners owners = tt
  tries_not new done told refused why same answer left partners owners = (sym same ∙ answer, still_side new left partners owners)

  pub steps_by : (r : Result Done Refused) (new : SideNow) (step : Step) → injects step ≡ false
      → Answers (refusal now.net.topology now.net.journal side.inputs step []) r → OnOk r (IsLonger now.net new.net step)
      → OnOk r ((inputs : List (List ℕ)) → StandsFor now.net inputs → StandsFor new.net (with_packet step [] inputs))
      → Leaves now.net new.net r → new.partners ≡ now.partners → new.owners ≡ now.owners → Steps pairing which side step new (stepped_by r)
  steps_by (Ok done) new step plain answer long stands left partners owners = (
    sym (same_refusal step []) ∙ answer,
    marked_as new step Undamaged (by_step now.net new.net step long)
        (subst (StandsFor new.net) (ap (λ f. added f [] side.inputs) plain) (stands side.inputs h.stands)) partners owners,
  )
  steps_by (Err why) new step plain answer long stands left partners owners =
      tries_not new (stepped_side side step) (refusal now.net.topology now.net.journal side.inputs step []) (refusal_in pairing which side step []) why
      (same_refusal step []) answer left partners owners

  same_damage : (d : Damage) (bytes : List ℕ) →
      damage_refusal now.net.topology now.net.journal side.inputs d bytes ≡ damage_refusal_in pairing which side d bytes
  same_damage d bytes =
      ap (λ t. damage_refusal t now.net.journal side.inputs d bytes) h.topology
      ∙ ap (λ es. damage_refusal (network pairing which) es side.inputs d bytes) same_entries

  pub damages_by : (r : Result Done Refused) (new : SideNow) (d : Damage) (bytes : List ℕ)
      → Answers (damage_refusal now.net.topology now.net.journal side.inputs d bytes) r → OnOk r (IsDamaged now.net new.net d)
      → OnOk r ((inputs : List (List ℕ)) → StandsFor now.net inputs → StandsFor new.net inputs)
      → Leaves now.net new.net r → new.partners ≡ now.partners → new.owners ≡ now.owners → Damages pairing which side d bytes new (stepped_by r)
  damages_by (Ok done) new d bytes answer long stands left partners owners = (
    sym (same_damage d bytes) ∙ answer,
    marked_as new (end_of d) (mark_of d) (damage_more now.net new.net d long) (stands side.inputs h.stands) partners owners,
  )
  damages_by (Err why) new d bytes answer long stands left partners owners =
      tries_not new (damaged_side side d) (damage_refusal now.net.topology now.net.journal side.inputs d bytes) (damage_refusal_in pairing which side d bytes)
      why
      (same_damage d bytes) answer left partners owners

  -- an injection
  pub entered_as : (new : SideNow) (site : SiteNo) (number : ℕ) (bytes : List ℕ) (owner : ℕ) → ((i : ℕ) → slice_index bytes i < 256)
      → IsLonger now.net new.net (Inject site number)
      → ((inputs : List (List ℕ)) → StandsFor now.net inputs → StandsFor new.net (with_packet (Inject site number) bytes inputs))
      → new.partners ≡ now.partners → new.owners ≡ now.owners ++ owner ∷ [] → IsSide pairing which new (entered_side side site number bytes owner)
  entered_as new site number bytes owner small long stands partners owners = record {
    topology = long.topology ∙ h.topology;
    stands = stands side.inputs h.stands;
    past = longer_past now.net new.net (Inject site number) long ∙ ap (λ p. with_step p (Inject site number)) h.past;
    owners = owners ∙ ap (λ os. os ++ owner ∷ []) h.owners;
    owned = omega (arith, length_push side.owners owner, length_push side.inputs bytes, h.owned);
    bytes = bytes_more side.inputs bytes h.bytes small;
    joined = λ s. ap (λ ps. joined_to (slice_get ps s)) partners ∙ h.joined s;
  }

  pub enters_done : (new : SideNow) (site : SiteNo) (number : ℕ) (bytes : List ℕ) (owner packet : ℕ) → ((i : ℕ) → slice_index bytes i < 256)
      → refusal now.net.topology now.net.journal side.inputs (Inject site number) bytes ≡ None → packet ≡ length side.inputs
      → IsLonger now.net new.net (Inject site number)
      → ((inputs : List (List ℕ)) → StandsFor now.net inputs → StandsFor new.net (with_packet (Inject site number) bytes inputs))
      → new.partners ≡ now.partners → new.owners ≡ now.owners ++ owner ∷ [] → Enters pairing which side site number bytes owner new (Ok packet)
  enters_done new site number bytes owner packet small answer counted long stands partners owners =
      (sym (same_refusal (Inject site number) bytes) ∙ answer, counted, entered_as new site number bytes owner small long stands partners owners)

  pub enters_not : (new : SideNow) (site : SiteNo) (number : ℕ) (bytes : List ℕ) (owner : ℕ) (why : Refused)
      → Answers (refusal now.net.topology now.net.journal side.inputs (Inject site number) bytes) (refused_by why)
      → Leaves now.net new.net (refused_by why) → new.partners ≡ now.partners → new.owners ≡ now.owners
      → Enters pairing which side site number bytes owner new (Err why)
  enters_not new site number bytes owner cause.NoMemory answer left partners owners = tt
  enters_not new site number bytes owner why answer left partners owners =
      (sym (same_refusal (Inject site number) bytes) ∙ answer, still_side new left partners owners)

  -- what comes next
  pub arrives_none : (new : SideNow) (arrivals : Arrivals) → ArrivesNext now.net new.net side.inputs arrivals None → new.partners ≡ now.partners
      → new.owners ≡ now.owners → Arrives pairing which arrivals side new (Ok false)
  arrives_none new arrivals came partners owners = (sym (same_next arrivals) ∙ came.0, still_side new came.1 partners owners)

  pub arrives_done : (new : SideNow) (arrivals : Arrivals) (done : Done) → ArrivesNext now.net new.net side.inputs arrivals (Some (Ok done))
      → new.partners ≡ now.partners → new.owners ≡ now.owners → Arrives pairing which arrivals side new (Ok true)
  arrives_done new arrivals done (item, came) partners owners = (
    item,
    sym (same_next arrivals) ∙ came.comes,
    ap is_journal_full (sym h.past) ∙ came.room,
    record {
      topology = came.topology ∙ h.topology;
      stands = came.stands;
      past = came.past ∙ ap (λ p. arrived arrivals p item) h.past;
      owners = owners ∙ h.owners;
      owned = h.owned;
      bytes = h.bytes;
      joined = λ s. ap (λ ps. joined_to (slice_get ps s)) partners ∙ h.joined s;
    },
  )

  pub arrives_full : (new : SideNow) (arrivals : Arrivals) → ArrivesNext now.net new.net side.inputs arrivals (Some (refused_by cause.TooManySteps))
      → Arrives pairing which arrivals side new (Err TooManySteps)
  arrives_full new arrivals (item, came) = (
    item,
    sym (same_next arrivals) ∙ came.comes,
    ap is_journal_full (sym h.past) ∙ came.full,
    record { topology = came.topology ∙ h.topology; stands = came.stands; entries = came.journal ∙ same_entries },
  )

  -- what has just been delivered
  as_many : length (packets_of now.net.topology now.net.journal side.inputs).verdicts ≡ length side.owners
  as_many = (in_one_place now.net.topology now.net.journal side.inputs).verdicts ∙ sym h.stands.stands.each ∙ sym h.owned

  pub finds_none : IsLanding (packets_of now.net.topology now.net.journal side.inputs) None
      → Finds pairing which side (packets_of (network pairing which) side.past.entries side.inputs) None
  finds_none told = subst (λ k. landed k ≡ None) same_packets
      (is_none (packets_of now.net.topology now.net.journal side.inputs) (numbered now.net.topology now.net.journal side.inputs) told)

  pub finds_some : (packet : ℕ) (found : Found) → IsLanding (packets_of now.net.topology now.net.journal side.inputs) (Some (packet, found.site))
      → found.owner ≡ slice_index_or now.owners packet 0 → leads_to found.partner ≡ joined_to (slice_get now.partners found.site.0)
      → Finds pairing which side (packets_of (network pairing which) side.past.entries side.inputs) (Some found)
  finds_some packet found told owner leads =
      let it : IsIt (packets_of now.net.topology now.net.journal side.inputs) packet found.site =
      is_it (packets_of now.net.topology now.net.journal side.inputs) (numbered now.net.topology now.net.journal side.inputs) packet found.site told in record {
        landing = it.landing;
        landed = ap landed (sym same_packets) ∙ it.landed;
        delivered = ap (λ (k : Packets). k.delivered) (sym same_packets) ∙ it.delivered;
        inside = omega (arith, it.inside, it.same, as_many);
        owner = owner ∙ ap (λ os. slice_index_or os packet 0) h.owners ∙ ap (λ n. slice_index_or side.owners n 0) (sym it.same);
        site = sym it.at;
        leads = leads ∙ h.joined found.site.0 ∙ ap (partner pairing which) (sym it.at);
      }

-- 2. Whatever stands

-- one entry more, and the clock has gone on by at most 1,000,000 ticks
pub record IsStepOn (old new : NetNow) : Type 0 where
  pub entry : JournalEntry
  pub clock : ℕ
  pub more : IsMore old new entry clock
  pub few : clock ≤ old.tick + 1000000

pub step_on : (r : Result Done Refused) (old new : NetNow) (step : Step) → fits old.topology step ≡ true → OnOk r (IsLonger old new step) →
    OnOk r (IsStepOn old new)
step_on r old new step fit long = ok_then r (IsLonger old new step) (IsStepOn old new) long (λ l.
    record {
      entry = plain old.tick step;
      clock = old.tick + ticks_in step;
      more = by_step old new step l;
      few =
          omega (arith, few_ticks old.topology step fit);
    })

pub damage_on : (r : Result Done Refused) (old new : NetNow) (d : Damage) → OnOk r (IsDamaged old new d) → OnOk r (IsStepOn old new)
damage_on r old new d long = ok_then r (IsDamaged old new d) (IsStepOn old new) long (λ l.
    record { entry = entry_for old.tick d; clock = old.tick; more = by_damage old new d l; few = omega arith })

pub journal_left : (why : Refused) (old new : NetNow) → Leaves old new (refused_by why) → new.journal ≡ old.journal
journal_left cause.NoMemory old new left = left.journal
journal_left why old new left = ap (λ (n : NetNow). n.journal) left

tick_left : (why : Refused) (old new : NetNow) → Leaves old new (refused_by why) → new.tick ≡ old.tick
tick_left cause.NoMemory old new left = left.tick
tick_left why old new left = ap (λ (n : NetNow). n.tick) left

topology_left : (why : Refused) (old new : NetNow) → Leaves old new (refused_by why) → new.topology ≡ old.topology
topology_left cause.NoMemory old new left = left.topology
topology_left why old new left = ap (λ (n : NetNow). n.topology) left

pub grown_by : (r : Result Done Refused) (old new : NetNow) → OnOk r (IsStepOn old new) → Leaves old new r → IsFirstPart old.journal new.journal
grown_by (Ok made) old new on left = (on.entry ∷ [], sym on.more.journal)
grown_by (Err why) old new on left = subst (IsFirstPart old.journal) (sym (journal_left why old new left)) (first_part_refl old.journal)

pub topology_kept : (r : Result Done Refused) (old new : NetNow) → OnOk r (IsStepOn old new) → Leaves old new r → new.topology ≡ old.topology
topology_kept (Ok made) old new on left = on.more.topology
topology_kept (Err why) old new on left = topology_left why old new left

pub paced_on : (r : Result Done Refused) (old new : NetNow) → OnOk r (IsStepOn old new) → Leaves old new r → IsPacedFromStart old → IsPacedFromStart new
paced_on (Ok made) old new on left paced = omega (arith, paced, on.few, on.more.tick, one_entry old new on.entry on.clock on.more)
paced_on (Err why) old new on left paced = omega (arith, paced, tick_left why old new left, ap length (journal_left why old new left))

-- a network with its joints
pub goes_on : (r : Result Done Refused) (old new : SideNow) → OnOk r (IsStepOn old.net new.net) → Leaves old.net new.net r → new.partners ≡ old.partners →
    GoesOn old new
goes_on r old new on left partners = record {
  topology = topology_kept r old.net new.net on left;
  partners = partners;
  journal = grown_by r old.net new.net on left;
}

same_side : (old new : SideNow) → new.net ≡ old.net → new.partners ≡ old.partners → new.owners ≡ old.owners → new ≡ old
same_side old new net partners owners =
    ap (λ n. record { net = n; partners = new.partners; owners = new.owners }) net
    ∙ ap (λ p. record { net = old.net; partners = p; owners = new.owners }) partners
    ∙ ap (λ o. record { net = old.net; partners = old.partners; owners = o }) owners

pub undone : (r : Result Done Refused) (old new : SideNow) → Leaves old.net new.net r → new.partners ≡ old.partners → new.owners ≡ old.owners →
    Undone old new (stepped_by r)
undone (Ok done) old new left partners owners = tt
undone (Err cause.NoMemory) old new left partners owners = tt
undone (Err why) old new left partners owners = same_side old new left partners owners

pub left_by : (r : Result Done Refused) (old new : NetNow) → Leaves old new r → OnErr (stepped_by r) (new.journal ≡ old.journal)
left_by (Ok done) old new left = tt
left_by (Err why) old new left = journal_left why old new left

pub paced_over : (old new : NetNow) → IsPaced 0 old new → IsPacedFromStart old → IsPacedFromStart new
paced_over old new h paced = omega (arith, h.0, h.1, paced)
