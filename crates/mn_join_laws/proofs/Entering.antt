-- An injection is the next leg of its packet.
use Rattle.std.proofs.Common.{ℕ, ◌≡◌, ◌≢◌, ◌+◌, ◌<◌, ◌≤◌, ◌⊎◌, inl, inr, List, [], ◌∷◌, ◌++◌, length, slice_index_or}
use Rattle.std.proofs.Common.{slice_set, Some, None, refl, arith, sym, ◌∙◌, ap, subst}
use Rattle.std.proofs.lemmas.Bool.Decides.{eqb_tells, leb_tells}
use Rattle.std.proofs.lemmas.List.{set_past, get_or-set_same, get_or-set_other, length-set, length_push, map_push, take-append-le, take_all}
use Rattle.mn_base.specs.declared.numbers.SiteNo.{SiteNo}
use Rattle.mn_topo.specs.declared.steps.Step.TheVariants.{Inject}
use Rattle.mn_topo.specs.declared.steps.Damaged.TheVariants.{Undamaged}
use Rattle.mn_topo.specs.declared.steps.JournalEntry.{JournalEntry}
use Rattle.mn_ledger.specs.declared.refused.Refused.{Refused}
use Rattle.mn_ledger.specs.declared.verdict.Verdict.TheVariants.{Delivered}
use Rattle.mn_ledger.specs.Verdicts.{injections, verdict_on}
use Rattle.mn_ledger_laws.specs.Accounts.{Sending, IsSent}
use Rattle.mn_ledger_laws.proofs.Elsewhere.{push_other, push_here}
use Rattle.mn_join_laws.specs.declared.leg.Leg.{Leg}
use Rattle.mn_join_laws.specs.declared.leg.Which.{Which}
use Rattle.mn_join_laws.specs.declared.leg.Which.TheVariants.{First, Second}
use Rattle.mn_join_laws.specs.Pairing.{Pairing, network, Side, Both, side, packets_in, Travel, travel}
use Rattle.mn_join_laws.specs.Pairing.{no_travel, with_travel, with_injection, with_refusal}
use Rattle.mn_join_laws.specs.Legs.{SentLeg, leg_of, WasSent, LeadsTo, GoOn, HasLegs, last_of}
use Rattle.mn_join_laws.proofs.Growing.{as_it_was, Moves, moves, get_end}
use Rattle.mn_join_laws.proofs.Landing.{unmoved}
use Rattle.mn_join_laws.proofs.Holding.{SideGrows, BothGrow, has_on, go_on_on, HasLeg, IsLast, has_front, has_end, has_ways, last_end, Sends, sends, Holds}
use Rattle.mn_join_laws.proofs.Holding.{IsFresh}
use Rattle.mn_join_laws.proofs.Holding.{IsStep, copies_below, listed_now}

-- 1. What is asked before an injection

pub record CanEnter (pairing : Pairing) (a : Both) (packet : ℕ) : Type 0 where
  pub each : (v : Which) → length (side a v).inputs ≡ injections (side a v).past.entries
  pub owned : (v : Which) → length (side a v).owners ≡ length (side a v).inputs
  pub there : packet < length a.travels
  pub others : (i : ℕ) → i < length a.travels → i ≢ packet → HasLegs pairing a (travel a i)
  pub sent : (i : ℕ) → i < length a.travels → (v : Which) (j : ℕ) → HasLeg v j (travel a i).legs → Sends a v j
  pub owner : (v : Which) (j : ℕ) → j < length (side a v).inputs
      → (slice_index_or (side a v).owners j 0 < length a.travels) × HasLeg v j (travel a (slice_index_or (side a v).owners j 0)).legs

pub on_the_way : (pairing : Pairing) (a : Both) (packet : ℕ) → packet < length a.travels → Holds pairing a → CanEnter pairing a packet
on_the_way pairing a packet there h = record {
  each = h.each;
  owned = h.owned;
  there = there;
  others = λ i below other. h.legs i below;
  sent = λ i below v j has. sends pairing a (travel a i) v j (h.legs i below) has;
  owner = h.owner;
}

same_side : (a : Both) (number : ℕ) (v : Which) → side (with_travel a number) v ≡ side a v
same_side a number First = refl
same_side a number Second = refl

travel_grows : (pairing : Pairing) (a : Both) (number : ℕ) → BothGrow pairing a (with_travel a number)
travel_grows pairing a number v = subst (SideGrows pairing v (side a v)) (sym (same_side a number v))
    (as_it_was (network pairing v) (side a v).past.entries (side a v).inputs)

pub from_a_line : (pairing : Pairing) (a : Both) (number : ℕ) → Holds pairing a → CanEnter pairing (with_travel a number) (length a.travels)
from_a_line pairing a number h = record {
  each = λ v. subst (λ (x : Side). length x.inputs ≡ injections x.past.entries) (sym (same_side a number v)) (h.each v);
  owned = λ v. subst (λ (x : Side). length x.owners ≡ length x.inputs) (sym (same_side a number v)) (h.owned v);
  there = omega (arith, length_push a.travels new);
  others = λ i below other.
      let old : i < length a.travels = before i below other in
      subst (HasLegs pairing (with_travel a number)) (sym (push_other a.travels i new no_travel old))
      (has_on pairing a (with_travel a number) (travel_grows pairing a number) (travel a i) (h.legs i old));
  sent = λ i below v j has. elim (eqb_tells i (length a.travels)) [
    | inl q ↦ absurd (none v j (ap (λ (x : Travel). x.legs) (ap (λ n. slice_index_or (a.travels ++ new ∷ []) n no_travel) q.1
        ∙ push_here a.travels new no_travel)) has)
    | inr q ↦
        let old : i < length a.travels = before i below q.1 in
        let s = sends pairing a (travel a i) v j (h.legs i old) (subst (λ (x : Travel). HasLeg v j x.legs) (push_other a.travels i new no_travel old) has) in
        record { leg = s.leg; sent = (travel_grows pairing a number s.leg.which).sent s.leg.sending s.sent; this = s.this }
  ];
  owner = λ v j below.
      let old = h.owner v j (subst (λ (x : Side). j < length x.inputs) (same_side a number v) below) in
      subst (λ (x : Side). (slice_index_or x.owners j 0 < length (a.travels ++ new ∷ []))
      × HasLeg v j (slice_index_or (a.travels ++ new ∷ []) (slice_index_or x.owners j 0) no_travel).legs) (sym (same_side a number v)) (
        omega (arith, old.0, length_push a.travels new),
        subst (λ (x : Travel). HasLeg v j x.legs) (sym (push_other a.travels (slice_index_or (side a v).owners j 0) new no_travel old.0)) old.1,
      );
}
  where
    new : Travel
    new = record { number = number; legs = []; refused = None }

    before : (i : ℕ) → i < length (a.travels ++ new ∷ []) → i ≢ length a.travels → i < length a.travels
    before i below other = omega (arith, below, length_push a.travels new, other)

    none : (v : Which) (j : ℕ) {legs : List Leg} → legs ≡ [] → HasLeg v j legs → ⊥
    none v j e has = subst (HasLeg v j) e has

-- 2. The new leg

abbrev pub new_leg : Both → Which → ℕ → List ℕ → SentLeg
new_leg a w s bytes = record {
  which = w;
  sending = record {
    packet = length (side a w).inputs;
    place = length (side a w).past.entries;
    site = s;
    bytes =
        bytes;
  };
}

abbrev pub with_new_leg : Both → Which → ℕ → Travel
with_new_leg a w packet = record (travel a packet) { legs = (travel a packet).legs ++ record { which = w; packet = length (side a w).inputs } ∷ [] }

is_sent : (es : List JournalEntry) (ps : List (List ℕ)) (tick s number : ℕ) (bytes : List ℕ) → length ps ≡ injections es
    → IsSent (es ++ record { tick = tick; step = Inject (record { 0 = s }) number; damaged = Undamaged } ∷ []) (ps ++ bytes ∷ [])
    (record { packet = length ps; place = length es; site = s; bytes = bytes })
is_sent es ps tick s number bytes each = record {
  entry = record { tick = tick; step = Inject (record { 0 = s }) number; damaged = Undamaged };
  number = number;
  there = get_end es [] (record { tick = tick; step = Inject (record { 0 = s }) number; damaged = Undamaged });
  injects = refl;
  earlier = ap injections (take-append-le (length es) es (record { tick = tick; step = Inject (record { 0 = s }) number; damaged = Undamaged } ∷ [])
      (omega arith)
      ∙ take_all (length es) es (omega arith)) ∙ sym each;
  content = get_end ps [] bytes;
}

module _ (pairing : Pairing) (a : Both) (s number : ℕ) (bytes : List ℕ) (packet : ℕ) where
  abbrev after : Which → Both
  after w = with_injection a w s number bytes packet

  abbrev entry : Which → JournalEntry
  entry w = record { tick = (side a w).past.clock; step = Inject (record { 0 = s }) number; damaged = Undamaged }

  moved_by : (w : Which) → length (side a w).inputs ≡ injections (side a w).past.entries
      → Moves (network pairing w) (side a w).past.entries (side a w).inputs (side (after w) w).past.entries (side (after w) w).inputs
  moved_by First each = moves (network pairing First) (side a First).past.entries (side a First).inputs (entry First) bytes each
  moved_by Second each = moves (network pairing Second) (side a Second).past.entries (side a Second).inputs (entry Second) bytes each

  grows_by : (w : Which) → SideGrows pairing w (side a w) (side (after w) w) → BothGrow pairing a (after w)
  grows_by First g First = g
  grows_by First g Second = as_it_was (network pairing Second) (side a Second).past.entries (side a Second).inputs
  grows_by Second g First = as_it_was (network pairing First) (side a First).past.entries (side a First).inputs
  grows_by Second g Second = g

  sent_by : (w : Which) → length (side a w).inputs ≡ injections (side a w).past.entries → WasSent (after w) (new_leg a w s bytes)
  sent_by First each = is_sent (side a First).past.entries (side a First).inputs (side a First).past.clock s number bytes each
  sent_by Second each = is_sent (side a Second).past.entries (side a Second).inputs (side a Second).past.clock s number bytes each

  -- what was sent before has its verdict of before
  verdict_by : (w : Which) → length (side a w).inputs ≡ injections (side a w).past.entries → (leg : SentLeg) → WasSent a leg → leg.which ≡ w
      → verdict_on (packets_in pairing (after w) w) leg.sending.packet ≡ verdict_on (packets_in pairing a leg.which) leg.sending.packet
  verdict_by w each leg sent same =
      here w each leg.sending (subst (λ v. IsSent (side a v).past.entries (side a v).inputs leg.sending) same sent)
      ∙ ap (λ v. verdict_on (packets_in pairing a v) leg.sending.packet) (sym same)
    where
      here : (w : Which) → length (side a w).inputs ≡ injections (side a w).past.entries → (x : Sending)
          → IsSent (side a w).past.entries (side a w).inputs x
          → verdict_on (packets_in pairing (after w) w) x.packet ≡ verdict_on (packets_in pairing a w) x.packet
      here First each x sent = unmoved (network pairing First) (side a First).past.entries (side a First).inputs (side a First).past.clock
          (record { 0 = s }) number
          bytes each x sent
      here Second each x sent = unmoved (network pairing Second) (side a Second).past.entries (side a Second).inputs (side a Second).past.clock
          (record { 0 = s })
          number bytes each x sent

  travels_by : (w : Which) → (after w).travels ≡ slice_set a.travels packet (with_new_leg a w packet)
  travels_by First = refl
  travels_by Second = refl

  as_many : (w : Which) → length (after w).travels ≡ length a.travels
  as_many w = ap length (travels_by w) ∙ length-set a.travels packet (with_new_leg a w packet)

  other_travel : (w : Which) (i : ℕ) → i ≢ packet → travel (after w) i ≡ travel a i
  other_travel w i other = ap (λ ts. slice_index_or ts i no_travel) (travels_by w)
      ∙ get_or-set_other a.travels packet i (with_new_leg a w packet) no_travel other

  this_travel : (w : Which) → packet < length a.travels → travel (after w) packet ≡ with_new_leg a w packet
  this_travel w there = ap (λ ts. slice_index_or ts packet no_travel) (travels_by w)
      ∙ get_or-set_same a.travels packet (with_new_leg a w packet) no_travel there

  each_by : (w : Which) → CanEnter pairing a packet → (v : Which) → length (side (after w) v).inputs ≡ injections (side (after w) v).past.entries
  each_by First h First = (moved_by First (h.each First)).each
  each_by First h Second = h.each Second
  each_by Second h First = h.each First
  each_by Second h Second = (moved_by Second (h.each Second)).each

  owned_by : (w : Which) → CanEnter pairing a packet → (v : Which) → length (side (after w) v).owners ≡ length (side (after w) v).inputs
  owned_by First h First = omega (arith, length_push (side a First).owners packet, length_push (side a First).inputs bytes, h.owned First)
  owned_by First h Second = h.owned Second
  owned_by Second h First = h.owned First
  owned_by Second h Second = omega (arith, length_push (side a Second).owners packet, length_push (side a Second).inputs bytes, h.owned Second)

  -- a leg of before is one still
  kept_leg : (w : Which) → CanEnter pairing a packet → (v : Which) (j o : ℕ) → (o < length a.travels) × HasLeg v j (travel a o).legs
      → (o < length (after w).travels) × HasLeg v j (travel (after w) o).legs
  kept_leg w h v j o old = (
    subst (λ n. o < n) (sym (as_many w)) old.0,
    elim (eqb_tells o packet) [
      | inl q ↦
          subst (λ (x : Travel). HasLeg v j x.legs) (sym (ap (travel (after w)) q.1 ∙ this_travel w h.there))
          (has_front v j (travel a packet).legs (record { which = w; packet = length (side a w).inputs }) (subst (λ n. HasLeg v j (travel a n).legs) q.1 old.1))
      | inr q ↦ subst (λ (x : Travel). HasLeg v j x.legs) (sym (other_travel w o q.1)) old.1
    ],
  )

  -- and the new one is a leg of the packet
  new_owner : (w : Which) → CanEnter pairing a packet → (j : ℕ) → j < length ((side a w).inputs ++ bytes ∷ [])
      → (slice_index_or ((side a w).owners ++ packet ∷ []) j 0 < length (after w).travels)
      × HasLeg w j (travel (after w) (slice_index_or ((side a w).owners ++ packet ∷ []) j 0)).legs
  new_owner w h j below = elim (eqb_tells j (length (side a w).inputs)) [
    | inl q ↦
        subst (λ o. (o < length (after w).travels) × HasLeg w j (travel (after w) o).legs)
        (sym (ap (λ n. slice_index_or ((side a w).owners ++ packet ∷ []) n 0) (q.1 ∙ sym (h.owned w)) ∙ push_here (side a w).owners packet 0)) (
          subst (λ n. packet < n) (sym (as_many w)) h.there,
          subst (λ (x : Travel). HasLeg w j x.legs) (sym (this_travel w h.there))
              (subst (λ n. HasLeg w n (with_new_leg a w packet).legs) (sym q.1) (has_end w (length (side a w).inputs) (travel a packet).legs)),
        )
    | inr q ↦
        let old : j < length (side a w).inputs = omega (arith, below, length_push (side a w).inputs bytes, q.1) in
        subst (λ o. (o < length (after w).travels) × HasLeg w j (travel (after w) o).legs)
        (sym (push_other (side a w).owners j packet 0 (subst (λ n. j < n) (sym (h.owned w)) old)))
        (kept_leg w h w j (slice_index_or (side a w).owners j 0) (h.owner w j old))
  ]

  owner_by : (w : Which) → CanEnter pairing a packet → (v : Which) (j : ℕ) → j < length (side (after w) v).inputs
      → (slice_index_or (side (after w) v).owners j 0 < length (after w).travels)
      × HasLeg v j (travel (after w) (slice_index_or (side (after w) v).owners j 0)).legs
  owner_by First h First j below = new_owner First h j below
  owner_by First h Second j below = kept_leg First h Second j (slice_index_or (side a Second).owners j 0) (h.owner Second j below)
  owner_by Second h First j below = kept_leg Second h First j (slice_index_or (side a First).owners j 0) (h.owner First j below)
  owner_by Second h Second j below = new_owner Second h j below

  step_by : (w : Which) → CanEnter pairing a packet → IsStep pairing w a (after w)
  step_by w h = let m = moved_by w (h.each w) in record { grow = grows_by w m.grows; moved = m }

  pub entered_holds : (w : Which) → CanEnter pairing a packet → HasLegs pairing (after w) (with_new_leg a w packet) → Holds pairing (after w)
  entered_holds w h new = record {
    each = each_by w h;
    owned = owned_by w h;
    legs = λ i below. elim (eqb_tells i packet) [
      | inl q ↦ subst (HasLegs pairing (after w)) (sym (ap (travel (after w)) q.1 ∙ this_travel w h.there)) new
      | inr q ↦ subst (HasLegs pairing (after w)) (sym (other_travel w i q.1))
          (has_on pairing a (after w) (step_by w h).grow (travel a i) (h.others i (subst (λ n. i < n) (as_many w) below) q.1))
    ];
    owner = owner_by w h;
  }

  -- what was sent before isn't what this step delivered
  not_before : (w : Which) → CanEnter pairing a packet → (delivered : List ℕ) → (packets_in pairing (after w) w).delivered ≡ Some delivered
      → (j : ℕ) (site : SiteNo) (ttl : ℕ) → verdict_on (packets_in pairing (after w) w) j ≡ Delivered ttl site (packets_in pairing (after w) w).copies
      → Sends a w j → ⊥
  not_before w h delivered d j site ttl v old =
      let copy = (moved_by w (h.each w)).lands delivered d in
      let verdict : verdict_on (packets_in pairing a old.leg.which) old.leg.sending.packet ≡ Delivered ttl site (packets_in pairing (after w) w).copies =
      sym (verdict_by w (h.each w) old.leg old.sent old.this.0) ∙ ap (verdict_on (packets_in pairing (after w) w)) old.this.1 ∙ v in
      past (packets_in pairing (after w) w).copies (packets_in pairing a w).copies
      (omega (
        arith,
        copies_below pairing a old.leg site ttl (packets_in pairing (after w) w).copies old.sent verdict,
        ap (λ x. (packets_in pairing a x).copies) old.this.0,
      ))
      copy.copy
    where
      past : (c n : ℕ) → c ≤ n → c ≡ n + 1 → ⊥
      past c n h e = omega (arith, h, e)

  pub entered_fresh : (w : Which) → CanEnter pairing a packet → IsFresh pairing (after w) w
  entered_fresh w h = record {
    last = λ delivered d j site ttl v i below has.
        let there : i < length a.travels = subst (λ n. i < n) (as_many w) below in
        elim (eqb_tells i packet) [
          | inl q ↦
              let is : travel (after w) i ≡ with_new_leg a w packet = ap (travel (after w)) q.1 ∙ this_travel w h.there in
              subst (λ (x : Travel). IsLast w j x.legs) (sym is)
              (elim (has_ways w j (travel a packet).legs (record { which = w; packet = length (side a w).inputs })
              (subst (λ (x : Travel). HasLeg w j x.legs) is has)) [
                | inl r ↦ absurd (not_before w h delivered d j site ttl v (h.sent packet h.there w j r))
                | inr r ↦ last_end w j (travel a packet).legs (record { which = w; packet = length (side a w).inputs }) r
              ])
          | inr q ↦ absurd (not_before w h delivered d j site ttl v
              (h.sent i there w j (subst (λ (x : Travel). HasLeg w j x.legs) (other_travel w i q.1) has)))
        ];
    listed = listed_now pairing w a (after w) (step_by w h);
  }

  -- 3. The first leg

  pub first_leg : (w : Which) → CanEnter pairing a packet → (travel a packet).legs ≡ [] → HasLegs pairing (after w) (with_new_leg a w packet)
  first_leg w h none = record {
    first = new_leg a w s bytes;
    later = [];
    legs = ap (λ ls. ls ++ record { which = w; packet = length (side a w).inputs } ∷ []) none;
    sent = sent_by w (h.each w);
    go_on = tt;
  }

  -- 4. A later one

  on_to_new : (b : Both) (leg : SentLeg) (legs : List SentLeg) (new : SentLeg) → GoOn pairing b leg legs → WasSent b new
      → LeadsTo pairing b (last_of leg legs) new → GoOn pairing b leg (legs ++ new ∷ [])
  on_to_new b leg [] new on sent leads = (sent, leads, tt)
  on_to_new b leg (next ∷ legs) new on sent leads = (on.0, on.1, on_to_new b next legs new on.2 sent leads)

  pub next_leg : (w : Which) → CanEnter pairing a packet → (has : HasLegs pairing a (travel a packet))
      → LeadsTo pairing (after w) (last_of has.first has.later) (new_leg a w s bytes) → HasLegs pairing (after w) (with_new_leg a w packet)
  next_leg w h has leads =
      let grow = (step_by w h).grow in record {
        first = has.first;
        later = has.later ++ new_leg a w s bytes ∷ [];
        legs = ap (λ ls. ls ++ record { which = w; packet = length (side a w).inputs } ∷ []) has.legs
            ∙ ap (λ ls. leg_of has.first ∷ ls) (sym (map_push leg_of has.later (new_leg a w s bytes)));
        sent = (grow has.first.which).sent has.first.sending has.sent;
        go_on = on_to_new (after w) has.first has.later (new_leg a w s bytes) (go_on_on pairing a (after w) grow has.first has.later has.sent has.go_on)
            (sent_by w (h.each w)) leads;
      }

-- 5. A refusal at a joint

module _ (pairing : Pairing) (a : Both) (packet : ℕ) (why : Refused) where
  abbrev told : Travel
  told = record (travel a packet) { refused = Some why }

  abbrev then : Both
  then = with_refusal a packet why

  side_as : (v : Which) → side then v ≡ side a v
  side_as First = refl
  side_as Second = refl

  many : length then.travels ≡ length a.travels
  many = length-set a.travels packet told

  grow : BothGrow pairing a then
  grow v = subst (SideGrows pairing v (side a v)) (sym (side_as v)) (as_it_was (network pairing v) (side a v).past.entries (side a v).inputs)

  told_legs : packet < length a.travels ⊎ length a.travels ≤ packet → (travel then packet).legs ≡ (travel a packet).legs
  told_legs (inl there) = ap (λ (x : Travel). x.legs) (get_or-set_same a.travels packet told no_travel there)
  told_legs (inr past) = ap (λ ts. (slice_index_or ts packet no_travel).legs) (set_past a.travels packet told past)

  same_legs : (i : ℕ) → (travel then i).legs ≡ (travel a i).legs
  same_legs i = elim (eqb_tells i packet) [
    | inl q ↦ ap (λ n. (travel then n).legs) q.1
        ∙ told_legs (elim (leb_tells (length a.travels) packet) [ inl r ↦ inr r.1 | inr r ↦ inl r.1 ])
        ∙ ap (λ n. (travel a n).legs) (sym q.1)
    | inr q ↦ ap (λ (x : Travel). x.legs) (get_or-set_other a.travels packet i told no_travel q.1)
  ]

  pub refused_holds : Holds pairing a → Holds pairing then
  refused_holds h = record {
    each = λ v. subst (λ (x : Side). length x.inputs ≡ injections x.past.entries) (sym (side_as v)) (h.each v);
    owned = λ v. subst (λ (x : Side). length x.owners ≡ length x.inputs) (sym (side_as v)) (h.owned v);
    legs = λ i below.
        let old = has_on pairing a then grow (travel a i) (h.legs i (subst (λ n. i < n) many below)) in
        record { first = old.first; later = old.later; legs = same_legs i ∙ old.legs; sent = old.sent; go_on = old.go_on };
    owner = λ v j below.
        let old = h.owner v j (subst (λ (x : Side). j < length x.inputs) (side_as v) below) in
        subst (λ (x : Side). (slice_index_or x.owners j 0 < length then.travels) × HasLeg v j (travel then (slice_index_or x.owners j 0)).legs)
        (sym (side_as v)) (
          subst (λ n. slice_index_or (side a v).owners j 0 < n) (sym many) old.0,
          subst (HasLeg v j) (sym (same_legs (slice_index_or (side a v).owners j 0))) old.1,
        );
  }
