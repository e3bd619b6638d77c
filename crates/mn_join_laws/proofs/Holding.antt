-- What holds of both networks after each step: each travel has its legs, and each injection is the leg of a travel.
use Rattle.std.proofs.Common.{ℕ, ◌≡◌, ◌+◌, ◌-◌, ◌<◌, ◌≤◌, ◌⊎◌, inl, inr, false, List, [], ◌∷◌, ◌++◌, map, length, slice_get, slice_index_or}
use Rattle.std.proofs.Common.{Some, refl, arith, sym, ◌∙◌, ap, subst}
use Rattle.mn_base.proofs.Bools.{same_test}
use Rattle.mn_base.specs.declared.numbers.SiteNo.{SiteNo}
use Rattle.mn_topo.specs.declared.steps.Step.{Step}
use Rattle.mn_topo.specs.declared.steps.Damaged.{Damaged}
use Rattle.mn_topo.specs.declared.steps.JournalEntry.{JournalEntry}
use Rattle.mn_ledger.specs.declared.verdict.Verdict.TheVariants.{Delivered}
use Rattle.mn_ledger.specs.Ledger.{injects}
use Rattle.mn_ledger.specs.OneMore.{added}
use Rattle.mn_ledger.specs.Packets.{Packets}
use Rattle.mn_ledger.specs.Verdicts.{injections, verdict_on}
use Rattle.mn_ledger_laws.specs.Accounts.{is_copy}
use Rattle.mn_ledger_laws.specs.Deliveries.{Delivery, deliveries_of}
use Rattle.mn_ledger_laws.proofs.At.{packets_whole}
use Rattle.mn_ledger_laws.proofs.Copies.{numbered}
use Rattle.mn_ledger_laws.proofs.Fates.{in_verdicts}
use Rattle.mn_join_laws.specs.declared.leg.Leg.{Leg}
use Rattle.mn_join_laws.specs.declared.leg.Which.{Which}
use Rattle.mn_join_laws.specs.declared.leg.Which.TheVariants.{First, Second}
use Rattle.mn_join_laws.specs.Pairing.{Pairing, network, Side, Both, side, with_side, packets_in, Travel, travel}
use Rattle.mn_join_laws.specs.Pairing.{no_travel, with_marked}
use Rattle.mn_join_laws.specs.Legs.{SentLeg, leg_of, WasSent, LeadsTo, GoOn, HasLegs, last_of}
use Rattle.mn_join_laws.proofs.Growing.{Grows, as_it_was, Moves, moves, within}
use Rattle.mn_join_laws.proofs.Landing.{copy_of}

-- 1. Legs stay legs

abbrev pub SideGrows : Pairing → Which → Side → Side → Type 0
SideGrows pairing v old now = Grows (network pairing v) old.past.entries old.inputs now.past.entries now.inputs

abbrev pub BothGrow : Pairing → Both → Both → Type 0
BothGrow pairing a b = (v : Which) → SideGrows pairing v (side a v) (side b v)

leads_on : (pairing : Pairing) (a b : Both) → BothGrow pairing a b → (leg next : SentLeg) → WasSent a leg → LeadsTo pairing a leg next →
    LeadsTo pairing b leg next
leads_on pairing a b grow leg next sent h = record {
  site = h.site;
  ttl = h.ttl;
  copy = h.copy;
  delivered = (grow leg.which).stays leg.sending h.site h.ttl h.copy sent h.delivered;
  delivery = h.delivery;
  listed = (grow leg.which).listed (h.copy - 1) h.delivery h.listed;
  same = h.same;
  across = h.across;
  joined = h.joined;
}

pub go_on_on : (pairing : Pairing) (a b : Both) → BothGrow pairing a b → (leg : SentLeg) (legs : List SentLeg) → WasSent a leg → GoOn pairing a leg legs →
    GoOn pairing b leg legs
go_on_on pairing a b grow leg [] sent h = tt
go_on_on pairing a b grow leg (next ∷ legs) sent h =
    ((grow next.which).sent next.sending h.0, leads_on pairing a b grow leg next sent h.1, go_on_on pairing a b grow next legs h.0 h.2)

pub has_on : (pairing : Pairing) (a b : Both) → BothGrow pairing a b → (packet : Travel) → HasLegs pairing a packet → HasLegs pairing b packet
has_on pairing a b grow packet h = record {
  first = h.first;
  later = h.later;
  legs = h.legs;
  sent = (grow h.first.which).sent h.first.sending h.sent;
  go_on = go_on_on pairing a b grow h.first h.later h.sent h.go_on;
}

-- 2. Which legs a travel has, and which is its last

abbrev pub IsThis : Which → ℕ → Leg → Type 0
IsThis w j leg = (leg.which ≡ w) × (leg.packet ≡ j)

abbrev pub HasLeg : Which → ℕ → List Leg → Type 0
HasLeg w j [] = ⊥
HasLeg w j (leg ∷ legs) = IsThis w j leg ⊎ HasLeg w j legs

abbrev pub IsLast : Which → ℕ → List Leg → Type 0
IsLast w j [] = ⊥
IsLast w j (leg ∷ []) = IsThis w j leg
IsLast w j (leg ∷ next ∷ legs) = IsLast w j (next ∷ legs)

pub has_front : (w : Which) (j : ℕ) (legs : List Leg) (x : Leg) → HasLeg w j legs → HasLeg w j (legs ++ x ∷ [])
has_front w j [] x h = absurd h
has_front w j (leg ∷ legs) x h = elim h [ inl q ↦ inl q | inr q ↦ inr (has_front w j legs x q) ]

pub has_end : (w : Which) (j : ℕ) (legs : List Leg) → HasLeg w j (legs ++ record { which = w; packet = j } ∷ [])
has_end w j [] = inl (refl, refl)
has_end w j (leg ∷ legs) = inr (has_end w j legs)

pub has_ways : (w : Which) (j : ℕ) (legs : List Leg) (x : Leg) → HasLeg w j (legs ++ x ∷ []) → HasLeg w j legs ⊎ IsThis w j x
has_ways w j [] x h = elim h [ inl q ↦ inr q | inr q ↦ absurd q ]
has_ways w j (leg ∷ legs) x h = elim h [
  | inl q ↦ inl (inl q)
  | inr q ↦ elim (has_ways w j legs x q) [ inl r ↦ inl (inr r) | inr r ↦ inr r ]
]

pub last_end : (w : Which) (j : ℕ) (legs : List Leg) (x : Leg) → IsThis w j x → IsLast w j (legs ++ x ∷ [])
last_end w j [] x h = h
last_end w j (leg ∷ []) x h = h
last_end w j (leg ∷ next ∷ legs) x h = last_end w j (next ∷ legs) x h

-- the leg with how it was sent
pub record Sends (both : Both) (w : Which) (j : ℕ) : Type 0 where
  pub leg : SentLeg
  pub sent : WasSent both leg
  pub this : IsThis w j (leg_of leg)

among_legs : (pairing : Pairing) (both : Both) (w : Which) (j : ℕ) (leg : SentLeg) (legs : List SentLeg) → WasSent both leg → GoOn pairing both leg legs
    → HasLeg w j (leg_of leg ∷ map leg_of legs) → Sends both w j
among_legs pairing both w j leg [] sent on h = elim h [ inl q ↦ record { leg = leg; sent = sent; this = q } | inr q ↦ absurd q ]
among_legs pairing both w j leg (next ∷ legs) sent on h = elim h [
  | inl q ↦ record { leg = leg; sent = sent; this = q }
  | inr q ↦ among_legs pairing both w j next legs on.0 on.2 q
]

pub sends : (pairing : Pairing) (both : Both) (packet : Travel) (w : Which) (j : ℕ) → HasLegs pairing both packet → HasLeg w j packet.legs → Sends both w j
sends pairing both packet w j has h = among_legs pairing both w j has.first has.later has.sent has.go_on (subst (HasLeg w j) has.legs h)

pub last_is : (w : Which) (j : ℕ) (leg : SentLeg) (legs : List SentLeg) → IsLast w j (leg_of leg ∷ map leg_of legs) → IsThis w j (leg_of (last_of leg legs))
last_is w j leg [] h = h
last_is w j leg (next ∷ legs) h = last_is w j next legs h

-- 3. What holds

pub record Holds (pairing : Pairing) (both : Both) : Type 0 where
  pub each : (v : Which) → length (side both v).inputs ≡ injections (side both v).past.entries
  pub owned : (v : Which) → length (side both v).owners ≡ length (side both v).inputs
  pub legs : (i : ℕ) → i < length both.travels → HasLegs pairing both (travel both i)
  pub owner : (v : Which) (j : ℕ) → j < length (side both v).inputs
      → (slice_index_or (side both v).owners j 0 < length both.travels) × HasLeg v j (travel both (slice_index_or (side both v).owners j 0)).legs

-- a packet that the network's last step delivered is the last leg of its travel, and what was delivered is listed
pub record IsFresh (pairing : Pairing) (both : Both) (w : Which) : Type 0 where
  pub last : (bytes : List ℕ) → (packets_in pairing both w).delivered ≡ Some bytes → (j : ℕ) (site : SiteNo) (ttl : ℕ)
      → verdict_on (packets_in pairing both w) j ≡ Delivered ttl site (packets_in pairing both w).copies
      → (i : ℕ) → i < length both.travels → HasLeg w j (travel both i).legs → IsLast w j (travel both i).legs
  pub listed : (bytes : List ℕ) → (packets_in pairing both w).delivered ≡ Some bytes
      → (d : Delivery) × (slice_get (deliveries_of (network pairing w) (side both w).past.entries (side both w).inputs) ((packets_in pairing both w).copies - 1)
      ≡ Some d)
      × (d.bytes ≡ bytes)

-- what was delivered before the step isn't its newest copy
pub copies_below : (pairing : Pairing) (a : Both) (leg : SentLeg) (site : SiteNo) (ttl copy : ℕ) → WasSent a leg
    → verdict_on (packets_in pairing a leg.which) leg.sending.packet ≡ Delivered ttl site copy → copy ≤ (packets_in pairing a leg.which).copies
copies_below pairing a leg site ttl copy sent v =
    let es = (side a leg.which).past.entries in
    let ps = (side a leg.which).inputs in
    let t = network pairing leg.which in
    ((numbered t es ps).upper copy leg.sending.packet
    (subst (λ (k : Packets). leg.sending.packet < length k.verdicts) (packets_whole t es ps (length es) (omega arith))
    (in_verdicts t es ps leg.sending (length es) sent (within es leg.sending.place sent.entry sent.there)))
    (ap (is_copy copy) v ∙ same_test copy)).1

-- the step of one network: it moves, the other stays, and so do the travels
pub record IsStep (pairing : Pairing) (w : Which) (a b : Both) : Type 0 where
  pub grow : BothGrow pairing a b
  pub moved : Moves (network pairing w) (side a w).past.entries (side a w).inputs (side b w).past.entries (side b w).inputs

too_old : (pairing : Pairing) (w : Which) (a b : Both) → IsStep pairing w a b → (bytes : List ℕ) → (packets_in pairing b w).delivered ≡ Some bytes
    → (j : ℕ) (site : SiteNo) (ttl : ℕ) → verdict_on (packets_in pairing b w) j ≡ Delivered ttl site (packets_in pairing b w).copies
    → (leg next : SentLeg) → WasSent a leg → LeadsTo pairing a leg next → IsThis w j (leg_of leg) → ⊥
too_old pairing w a b step bytes d j site ttl v leg next sent leads this =
    let stays = (step.grow leg.which).stays leg.sending leads.site leads.ttl leads.copy sent leads.delivered in
    let same : leads.copy ≡ (packets_in pairing b w).copies =
    ap copy_of (sym stays ∙ ap (λ x. verdict_on (packets_in pairing b x) leg.sending.packet) this.0
    ∙ ap (verdict_on (packets_in pairing b w)) this.1 ∙ v) in
    let below = copies_below pairing a leg leads.site leads.ttl leads.copy sent leads.delivered in
    let here : (packets_in pairing a leg.which).copies ≡ (packets_in pairing a w).copies = ap (λ x. (packets_in pairing a x).copies) this.0 in
    past leads.copy (packets_in pairing a w).copies (omega (arith, below, here)) (same ∙ (step.moved.lands bytes d).copy)
  where
    past : (c n : ℕ) → c ≤ n → c ≡ n + 1 → ⊥
    past c n h e = omega (arith, h, e)

fresh_among : (pairing : Pairing) (w : Which) (a b : Both) → IsStep pairing w a b → (bytes : List ℕ) → (packets_in pairing b w).delivered ≡ Some bytes
    → (j : ℕ) (site : SiteNo) (ttl : ℕ) → verdict_on (packets_in pairing b w) j ≡ Delivered ttl site (packets_in pairing b w).copies
    → (leg : SentLeg) (legs : List SentLeg) → WasSent a leg → GoOn pairing a leg legs → HasLeg w j (leg_of leg ∷ map leg_of legs)
    → IsLast w j (leg_of leg ∷ map leg_of legs)
fresh_among pairing w a b step bytes d j site ttl v leg [] sent on h = elim h [ inl q ↦ q | inr q ↦ absurd q ]
fresh_among pairing w a b step bytes d j site ttl v leg (next ∷ legs) sent on h = elim h [
  | inl q ↦ absurd (too_old pairing w a b step bytes d j site ttl v leg next sent on.1 q)
  | inr q ↦ fresh_among pairing w a b step bytes d j site ttl v next legs on.0 on.2 q
]

pub listed_now : (pairing : Pairing) (w : Which) (a b : Both) → IsStep pairing w a b → (bytes : List ℕ) → (packets_in pairing b w).delivered ≡ Some bytes
    → (d : Delivery) × (slice_get (deliveries_of (network pairing w) (side b w).past.entries (side b w).inputs) ((packets_in pairing b w).copies - 1) ≡ Some d)
    × (d.bytes ≡ bytes)
listed_now pairing w a b step bytes d = let lands = step.moved.lands bytes d in (lands.delivery, lands.listed, lands.bytes)

-- 4. A step that injects nothing

plain_moves : (pairing : Pairing) (a : Both) (w : Which) (s : Step) (mark : Damaged) → injects s ≡ false →
    length (side a w).inputs ≡ injections (side a w).past.entries
    → Moves (network pairing w) (side a w).past.entries (side a w).inputs
    ((side a w).past.entries ++ record { tick = (side a w).past.clock; step = s; damaged = mark } ∷ []) (side a w).inputs
plain_moves pairing a w s mark plain each =
    let e : JournalEntry = record { tick = (side a w).past.clock; step = s; damaged = mark } in
    subst (Moves (network pairing w) (side a w).past.entries (side a w).inputs ((side a w).past.entries ++ e ∷ []))
    (ap (λ f. added f [] (side a w).inputs) plain) (moves (network pairing w) (side a w).past.entries (side a w).inputs e [] each)

-- both networks stand as they did but for the journals, which have grown
pub record AreAlike (a b : Both) : Type 0 where
  pub travels : b.travels ≡ a.travels
  pub owners : (v : Which) → (side b v).owners ≡ (side a v).owners
  pub inputs : (v : Which) → (side b v).inputs ≡ (side a v).inputs

alike_holds : (pairing : Pairing) (a b : Both) → BothGrow pairing a b → AreAlike a b
    → ((v : Which) → length (side b v).inputs ≡ injections (side b v).past.entries) → Holds pairing a → Holds pairing b
alike_holds pairing a b grow alike each h = record {
  each = each;
  owned = λ v. ap length (alike.owners v) ∙ h.owned v ∙ ap length (sym (alike.inputs v));
  legs = λ i below. subst (λ ts. HasLegs pairing b (slice_index_or ts i no_travel)) (sym alike.travels)
      (has_on pairing a b grow (travel a i) (h.legs i (subst (λ (ts : List Travel). i < length ts) alike.travels below)));
  owner = λ v j below.
      let old = h.owner v j (subst (λ (xs : List (List ℕ)). j < length xs) (alike.inputs v) below) in
      subst (λ os. (slice_index_or os j 0 < length b.travels) × HasLeg v j (travel b (slice_index_or os j 0)).legs) (sym (alike.owners v))
      (subst (λ ts. (slice_index_or (side a v).owners j 0 < length ts) × HasLeg v j (slice_index_or ts (slice_index_or (side a v).owners j 0) no_travel).legs)
      (sym alike.travels) old);
}

plain_grows : (pairing : Pairing) (w : Which) (a : Both) (s : Step) (mark : Damaged)
    → SideGrows pairing w (side a w) (side (with_marked a w s mark) w) → BothGrow pairing a (with_marked a w s mark)
plain_grows pairing First a s mark g First = g
plain_grows pairing First a s mark g Second = as_it_was (network pairing Second) (side a Second).past.entries (side a Second).inputs
plain_grows pairing Second a s mark g First = as_it_was (network pairing First) (side a First).past.entries (side a First).inputs
plain_grows pairing Second a s mark g Second = g

plain_moved : (pairing : Pairing) (w : Which) (a : Both) (s : Step) (mark : Damaged) → injects s ≡ false → Holds pairing a
    → Moves (network pairing w) (side a w).past.entries (side a w).inputs (side (with_marked a w s mark) w).past.entries
    (side (with_marked a w s mark) w).inputs
plain_moved pairing First a s mark plain h = plain_moves pairing a First s mark plain (h.each First)
plain_moved pairing Second a s mark plain h = plain_moves pairing a Second s mark plain (h.each Second)

plain_step : (pairing : Pairing) (w : Which) (a : Both) (s : Step) (mark : Damaged) → injects s ≡ false → Holds pairing a →
    IsStep pairing w a (with_marked a w s mark)
plain_step pairing w a s mark plain h =
    let m = plain_moved pairing w a s mark plain h in record { grow = plain_grows pairing w a s mark m.grows; moved = m }

plain_alike : (w : Which) (a : Both) (s : Step) (mark : Damaged) → AreAlike a (with_marked a w s mark)
plain_alike w a s mark = record { travels = travels w; owners = owners w; inputs = inputs w }
  where
    travels : (w : Which) → (with_marked a w s mark).travels ≡ a.travels
    travels First = refl
    travels Second = refl

    owners : (w v : Which) → (side (with_marked a w s mark) v).owners ≡ (side a v).owners
    owners First First = refl
    owners _ First = refl
    owners _ _ = refl

    inputs : (w v : Which) → (side (with_marked a w s mark) v).inputs ≡ (side a v).inputs
    inputs First First = refl
    inputs _ First = refl
    inputs _ _ = refl

plain_each : (pairing : Pairing) (w : Which) (a : Both) (s : Step) (mark : Damaged) → IsStep pairing w a (with_marked a w s mark) → Holds pairing a →
    (v : Which)
    → length (side (with_marked a w s mark) v).inputs ≡ injections (side (with_marked a w s mark) v).past.entries
plain_each pairing First a s mark step h First = step.moved.each
plain_each pairing First a s mark step h Second = h.each Second
plain_each pairing Second a s mark step h First = h.each First
plain_each pairing Second a s mark step h Second = step.moved.each

pub plain_holds : (pairing : Pairing) (w : Which) (a : Both) (s : Step) (mark : Damaged) → injects s ≡ false → Holds pairing a →
    Holds pairing (with_marked a w s mark)
plain_holds pairing w a s mark plain h =
    let step = plain_step pairing w a s mark plain h in
    alike_holds pairing a (with_marked a w s mark) step.grow (plain_alike w a s mark) (plain_each pairing w a s mark step h) h

pub plain_fresh : (pairing : Pairing) (w : Which) (a : Both) (s : Step) (mark : Damaged) → injects s ≡ false → Holds pairing a →
    IsFresh pairing (with_marked a w s mark) w
plain_fresh pairing w a s mark plain h =
    let b : Both = with_marked a w s mark in
    let step = plain_step pairing w a s mark plain h in
    let same : b.travels ≡ a.travels = (plain_alike w a s mark).travels in record {
      last = λ bytes d j site ttl v i below has.
          let old = h.legs i (subst (λ (ts : List Travel). i < length ts) same below) in
          subst (λ ts. IsLast w j (slice_index_or ts i no_travel).legs) (sym same)
          (subst (IsLast w j) (sym old.legs)
          (fresh_among pairing w a b step bytes d j site ttl v old.first old.later old.sent old.go_on
          (subst (HasLeg w j) old.legs (subst (λ ts. HasLeg w j (slice_index_or ts i no_travel).legs) same has))));
      listed = listed_now pairing w a b step;
    }

-- where only the clock of a network goes on
abbrev pub with_clock : Both → Which → ℕ → Both
with_clock a w clock = with_side a w (record (side a w) { past = record { clock = clock; entries = (side a w).past.entries } })

clock_grows : (pairing : Pairing) (w : Which) (a : Both) (clock : ℕ) → BothGrow pairing a (with_clock a w clock)
clock_grows pairing First a clock First = as_it_was (network pairing First) (side a First).past.entries (side a First).inputs
clock_grows pairing First a clock Second = as_it_was (network pairing Second) (side a Second).past.entries (side a Second).inputs
clock_grows pairing Second a clock First = as_it_was (network pairing First) (side a First).past.entries (side a First).inputs
clock_grows pairing Second a clock Second = as_it_was (network pairing Second) (side a Second).past.entries (side a Second).inputs

clock_each : (pairing : Pairing) (w : Which) (a : Both) (clock : ℕ) → Holds pairing a → (v : Which)
    → length (side (with_clock a w clock) v).inputs ≡ injections (side (with_clock a w clock) v).past.entries
clock_each pairing First a clock h First = h.each First
clock_each pairing First a clock h Second = h.each Second
clock_each pairing Second a clock h First = h.each First
clock_each pairing Second a clock h Second = h.each Second

clock_owners : (w : Which) (a : Both) (clock : ℕ) (v : Which) → (side (with_clock a w clock) v).owners ≡ (side a v).owners
clock_owners First a clock First = refl
clock_owners First a clock Second = refl
clock_owners Second a clock First = refl
clock_owners Second a clock Second = refl

clock_inputs : (w : Which) (a : Both) (clock : ℕ) (v : Which) → (side (with_clock a w clock) v).inputs ≡ (side a v).inputs
clock_inputs First a clock First = refl
clock_inputs First a clock Second = refl
clock_inputs Second a clock First = refl
clock_inputs Second a clock Second = refl

clock_travels : (w : Which) (a : Both) (clock : ℕ) → (with_clock a w clock).travels ≡ a.travels
clock_travels First a clock = refl
clock_travels Second a clock = refl

pub clock_holds : (pairing : Pairing) (w : Which) (a : Both) (clock : ℕ) → Holds pairing a → Holds pairing (with_clock a w clock)
clock_holds pairing w a clock h =
    alike_holds pairing a (with_clock a w clock) (clock_grows pairing w a clock)
    (record { travels = clock_travels w a clock; owners = clock_owners w a clock; inputs = clock_inputs w a clock }) (clock_each pairing w a clock h) h
