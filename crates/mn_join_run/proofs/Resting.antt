-- Where packets rest: after each step and what it hands on, no packet has ended at a joined site, and all that left has come out.
use Rattle.std.proofs.Common.{ℕ, zero, suc, ◌≡◌, ◌≢◌, ◌+◌, ◌<◌, ◌≤◌, ◌⊎◌, inl, inr, false, List, [], ◌∷◌, ◌++◌, length, slice_index_or, slice_set}
use Rattle.std.proofs.Common.{Option, Some, None, refl, arith, sym, ◌∙◌, ap, subst, append-nil}
use Rattle.std.specs.Prelude.{⊤}
use Rattle.std.proofs.lemmas.Bool.Decides.{eqb_tells}
use Rattle.std.proofs.lemmas.List.{get_or-set_same, get_or-set_other, length-set, length_push}
use Rattle.mn_base.specs.declared.numbers.SiteNo.{SiteNo}
use Rattle.mn_topo.specs.declared.steps.Step.{Step}
use Rattle.mn_topo.specs.declared.steps.Step.TheVariants.{Inject}
use Rattle.mn_topo.specs.declared.steps.Damaged.{Damaged}
use Rattle.mn_topo.specs.declared.steps.Damaged.TheVariants.{Undamaged}
use Rattle.mn_topo.specs.declared.steps.JournalEntry.{JournalEntry}
use Rattle.mn_ledger.specs.declared.refused.Refused.{Refused}
use Rattle.mn_ledger.specs.declared.refused.Refused.TheVariants as cause
use Rattle.mn_ledger.specs.declared.verdict.Verdict.TheVariants.{Delivered}
use Rattle.mn_ledger.specs.Ledger.{injects, packets_of}
use Rattle.mn_ledger.specs.OneMore.{added}
use Rattle.mn_ledger.specs.Verdicts.{injections, verdict_on}
use Rattle.mn_ledger_laws.specs.Accounts.{IsSent}
use Rattle.mn_ledger_laws.proofs.Elsewhere.{push_other, push_here}
use Rattle.mn_course_laws.specs.declared.coming.Ending.{Ending}
use Rattle.mn_course_laws.specs.declared.coming.Ending.TheVariants as ending
use Rattle.mn_join_laws.specs.declared.leg.Leg.{Leg}
use Rattle.mn_join_laws.specs.declared.leg.Which.{Which}
use Rattle.mn_join_laws.specs.declared.leg.Which.TheVariants.{First, Second}
use Rattle.mn_join_laws.specs.Pairing.{opposite, Pairing, network, partner, Side, Both, side, packets_in, Travel, travel, no_travel, with_marked}
use Rattle.mn_join_laws.specs.Pairing.{with_injection, with_refusal, with_leg, Landing, landed}
use Rattle.mn_join_laws.specs.Course.{Exit, PairCourse, refusal_on, taken_in, enters, lands, crossed, handed_on}
use Rattle.mn_join_laws.proofs.Growing.{within}
use Rattle.mn_join_laws.proofs.Landing.{has_landed, as_many_verdicts, unmoved}
use Rattle.mn_join_laws.proofs.Holding.{HasLeg, IsThis, IsLast, has_ways, Sends, sends, Holds, IsFresh}
use Rattle.mn_join_laws.proofs.Entering.{CanEnter, on_the_way, refused_holds}
use Rattle.mn_join_laws.proofs.Handing.{over_holds, over_fresh}
use Rattle.mn_join_run.specs.Leaving.{is_same, exits_in, exit_by, exit_of, leaving_of, leaving}
use Rattle.mn_join_run.proofs.Leaving.{newest_landed, WasInjected, side_after, leaves_more, newly, not_old}

-- 1. Legs and networks

pub last_has : (w : Which) (j : ℕ) (legs : List Leg) → IsLast w j legs → HasLeg w j legs
last_has w j [] h = absurd h
last_has w j (leg ∷ []) h = inl h
last_has w j (leg ∷ next ∷ legs) h = inr (last_has w j (next ∷ legs) h)

last_pushed : (w : Which) (j : ℕ) (legs : List Leg) (x : Leg) → IsLast w j (legs ++ x ∷ []) → IsThis w j x
last_pushed w j [] x h = h
last_pushed w j (leg ∷ []) x h = h
last_pushed w j (leg ∷ next ∷ legs) x h = last_pushed w j (next ∷ legs) x h

pub some_leg : (w : Which) (j : ℕ) (legs : List Leg) → HasLeg w j legs → 1 ≤ length legs
some_leg w j [] h = absurd h
some_leg w j (leg ∷ legs) h = omega arith

one_of_two : (w v : Which) → (v ≡ w) ⊎ (v ≡ opposite w)
one_of_two First First = inl refl
one_of_two First Second = inr refl
one_of_two Second First = inr refl
one_of_two Second Second = inl refl

not_both : (w : Which) → opposite w ≡ w → ⊥
not_both First e = cc
not_both Second e = cc

own_exit : (pairing : Pairing) (w : Which) (tick : ℕ) (o : Option Landing) → exits_in w (exit_of pairing w tick o) ≡ exit_of pairing w tick o
own_exit pairing w tick None = refl
own_exit pairing w tick (Some landing) = by w (partner pairing w landing.site)
  where
    by : (w : Which) (p : Option ℕ) → exits_in w (exit_by w tick landing p) ≡ exit_by w tick landing p
    by First None = refl
    by Second None = refl
    by w (Some s) = refl

others_exit : (pairing : Pairing) (w : Which) (tick : ℕ) (o : Option Landing) → exits_in (opposite w) (exit_of pairing w tick o) ≡ []
others_exit pairing w tick None = refl
others_exit pairing w tick (Some landing) = by w (partner pairing w landing.site)
  where
    by : (w : Which) (p : Option ℕ) → exits_in (opposite w) (exit_by w tick landing p) ≡ []
    by First None = refl
    by Second None = refl
    by w (Some s) = refl

-- 2. What is known of an injection

pub leg_inside : (pairing : Pairing) (a : Both) → Holds pairing a → (i : ℕ) → i < length a.travels → (v : Which) (j : ℕ) → HasLeg v j (travel a i).legs
    → j < length (side a v).inputs
leg_inside pairing a h i below v j has =
    let s = sends pairing a (travel a i) v j (h.legs i below) has in
    subst (λ n. n < length (side a v).inputs) s.this.1
    (subst (λ u. s.leg.sending.packet < length (side a u).inputs) s.this.0
    (within (side a s.leg.which).inputs s.leg.sending.packet s.leg.sending.bytes s.sent.content))

injected_by : (a : Both) (v : Which) (j : ℕ) → Sends a v j → WasInjected (side a v) j
injected_by a v j s = (s.leg.sending, subst (λ u. IsSent (side a u).past.entries (side a u).inputs s.leg.sending) s.this.0 s.sent, s.this.1)

pub was_injected : (pairing : Pairing) (a : Both) → Holds pairing a → (v : Which) (j : ℕ) → j < length (side a v).inputs → WasInjected (side a v) j
was_injected pairing a h v j below =
    let o = h.owner v j below in
    injected_by a v j (sends pairing a (travel a (slice_index_or (side a v).owners j 0)) v j (h.legs (slice_index_or (side a v).owners j 0) o.0) o.1)

inside_verdicts : (pairing : Pairing) (a : Both) → Holds pairing a → (v : Which) (j : ℕ) → j < length (side a v).inputs
    → j < length (packets_in pairing a v).verdicts
inside_verdicts pairing a h v j below =
    omega (arith, below, h.each v, as_many_verdicts (network pairing v) (side a v).past.entries (side a v).inputs)

-- each injection is a leg of one packet alone
abbrev pub AreOnly : Both → Type 0
AreOnly a = (i : ℕ) → i < length a.travels → (v : Which) (j : ℕ) → HasLeg v j (travel a i).legs → slice_index_or (side a v).owners j 0 ≡ i

-- a packet that no network refused, and whose last leg was delivered, was so at a site that isn't joined
abbrev pub EndsOutside : Pairing → Both → ℕ → Type 0
EndsOutside pairing a i = (v : Which) (j : ℕ) → IsLast v j (travel a i).legs → (travel a i).refused ≡ None → (site : SiteNo) (ttl copy : ℕ)
    → verdict_on (packets_in pairing a v) j ≡ Delivered ttl site copy → partner pairing v site.0 ≡ None

-- the network's last step delivered it
abbrev pub IsNew : Pairing → Both → Which → Which → ℕ → Type 0
IsNew pairing a w v copy =
    (v ≡ w) × (copy ≡ (packets_in pairing a w).copies) × (bytes : List ℕ) × ((packets_in pairing a w).delivered ≡ Some bytes)

-- 3. One step of one network

pub record OneStep (pairing : Pairing) (w : Which) (a b : Both) : Type 0 where
  pub e : JournalEntry
  pub bytes : List ℕ
  pub owners : List ℕ
  pub is : side b w ≡ side_after (side a w) e bytes owners
  pub tick : e.tick ≡ (side a w).past.clock
  pub other : side b (opposite w) ≡ side a (opposite w)
  pub each : length (side a w).inputs ≡ injections (side a w).past.entries
  pub sent : (j : ℕ) → j < length (side a w).inputs → WasInjected (side a w) j

module _ (pairing : Pairing) (w : Which) (a b : Both) (step : OneStep pairing w a b) where
  abbrev Tells : Which → Type 0
  Tells v = leaving pairing b v ≡ leaving pairing a v ++ exits_in v (exit_of pairing w (side b w).past.clock (landed (packets_in pairing b w)))

  pub leaves_on : (v : Which) → Tells v
  leaves_on v = elim (one_of_two w v) [
    | inl q ↦ subst Tells (sym q)
        (subst (λ (x : Side). leaving_of pairing w x ≡ leaving pairing a w
        ++ exits_in w (exit_of pairing w x.past.clock (landed (packets_of (network pairing w) x.past.entries x.inputs)))) (sym step.is)
        (leaves_more pairing w (side a w) step.e step.bytes step.owners step.tick step.each step.sent
        ∙ ap (λ l. leaving pairing a w ++ l) (sym (own_exit pairing w _ _))))
    | inr q ↦ subst Tells (sym q)
        (ap (leaving_of pairing (opposite w)) step.other ∙ sym (append-nil (leaving pairing a (opposite w)))
        ∙ ap (λ l. leaving pairing a (opposite w) ++ l)
        (sym (others_exit pairing w (side b w).past.clock (landed (packets_in pairing b w)))))
  ]

  abbrev Was : Which → ℕ → ℕ → SiteNo → ℕ → Type 0
  Was v j ttl site c = (j < length (side a v).inputs) × (verdict_on (packets_in pairing a v) j ≡ Delivered ttl site c)

  abbrev Newly : Which → Type 0
  Newly v = (j ttl : ℕ) (site : SiteNo) (c : ℕ) → j < length (side b v).inputs → verdict_on (packets_in pairing b v) j ≡ Delivered ttl site c
      → Was v j ttl site c ⊎ IsNew pairing b w v c

  pub newly_on : Holds pairing b → (v : Which) → Newly v
  newly_on h v = elim (one_of_two w v) [
    | inl q ↦ subst Newly (sym q) (λ j ttl site c below is.
        elim (subst (λ (x : Side). j < length (packets_of (network pairing w) x.past.entries x.inputs).verdicts
        → verdict_on (packets_of (network pairing w) x.past.entries x.inputs) j ≡ Delivered ttl site c
        → Was w j ttl site c ⊎ ((c ≡ (packets_of (network pairing w) x.past.entries x.inputs).copies) × (bytes : List ℕ)
        × ((packets_of (network pairing w) x.past.entries x.inputs).delivered ≡ Some bytes))) (sym step.is)
        (newly pairing w (side a w) step.e step.bytes step.owners step.tick step.each step.sent j ttl site c)
        (inside_verdicts pairing b h w j below) is) [
          | inl r ↦ inl r
          | inr r ↦ inr (refl, r.0, r.1, r.2)
        ])
    | inr q ↦ subst Newly (sym q) (λ j ttl site c below is.
        inl (
          subst (λ (x : Side). j < length x.inputs) step.other below,
          ap (λ (x : Side). verdict_on (packets_of (network pairing (opposite w)) x.past.entries x.inputs) j) (sym step.other) ∙ is,
        ))
  ]

  -- what had its verdict before isn't what the step delivered
  pub no_old : (j ttl : ℕ) (site : SiteNo) (bytes : List ℕ) → j < length (side a w).inputs
      → verdict_on (packets_in pairing a w) j ≡ Delivered ttl site (packets_in pairing b w).copies → (packets_in pairing b w).delivered ≡ Some bytes → ⊥
  no_old j ttl site bytes below is d =
      subst (λ (x : Side). verdict_on (packets_in pairing a w) j ≡ Delivered ttl site (packets_of (network pairing w) x.past.entries x.inputs).copies
      → (packets_of (network pairing w) x.past.entries x.inputs).delivered ≡ Some bytes → ⊥) (sym step.is)
      (not_old pairing w (side a w) step.e step.bytes step.owners step.tick step.each step.sent j ttl site bytes below) is d

-- 4. At rest, and on the way

-- all packets rest, and this is what has left
pub record Rests (pairing : Pairing) (left : Which → List Exit) (a : Both) : Type 0 where
  pub holds : Holds pairing a
  pub only : AreOnly a
  pub over : (i : ℕ) → i < length a.travels → EndsOutside pairing a i
  pub out : (v : Which) → leaving pairing a v ≡ left v

-- a network has just done a step, and what it delivered may be handed on so often
pub record Goes (pairing : Pairing) (left : Which → List Exit) (n : ℕ) (w : Which) (a : Both) : Type 0 where
  pub holds : Holds pairing a
  pub fresh : IsFresh pairing a w
  pub only : AreOnly a
  pub over : (i : ℕ) → i < length a.travels → (v : Which) (j : ℕ) → IsLast v j (travel a i).legs → (travel a i).refused ≡ None
      → (site : SiteNo) (ttl copy : ℕ) → verdict_on (packets_in pairing a v) j ≡ Delivered ttl site copy
      → (partner pairing v site.0 ≡ None) ⊎ IsNew pairing a w v copy
  pub long : (i : ℕ) → i < length a.travels → (j : ℕ) → HasLeg w j (travel a i).legs → (site : SiteNo) (ttl : ℕ)
      → verdict_on (packets_in pairing a w) j ≡ Delivered ttl site (packets_in pairing a w).copies → (bytes : List ℕ)
      → (packets_in pairing a w).delivered ≡ Some bytes → 257 ≤ n + length (travel a i).legs
  pub out : (v : Which) → leaving pairing a v ≡ left v ++ exits_in v (exit_of pairing w (side a w).past.clock (landed (packets_in pairing a w)))

-- no packet has more legs than a TTL allows
abbrev pub AreShort : Both → Type 0
AreShort a = (i : ℕ) → i < length a.travels → length (travel a i).legs ≤ 256

-- no full journal stopped it
abbrev pub Went : Ending → Type 0
Went ending.TooManySteps = ⊥
Went other = ⊤

-- a course ends at rest
abbrev pub EndsAtRest : Pairing → (Which → List Exit) → PairCourse → Type 0
EndsAtRest pairing left course = AreShort course.both → Went course.ending → Rests pairing (λ v. left v ++ exits_in v course.exits) course.both

-- 5. A packet enters a network

module _ (pairing : Pairing) (left : Which → List Exit) (a : Both) (w : Which) (s number : ℕ) (bytes : List ℕ) (packet : ℕ)
    (can : CanEnter pairing a packet) (only : AreOnly a) (over : (i : ℕ) → i < length a.travels → i ≢ packet → EndsOutside pairing a i)
    (out : (v : Which) → leaving pairing a v ≡ left v) where
  abbrev then : Both
  then = with_injection a w s number bytes packet

  abbrev the_leg : Leg
  the_leg = record { which = w; packet = length (side a w).inputs }

  abbrev with_it : Travel
  with_it = record (travel a packet) { legs = (travel a packet).legs ++ the_leg ∷ [] }

  travels_are : then.travels ≡ slice_set a.travels packet with_it
  travels_are = by w
    where
      by : (w : Which) → (with_injection a w s number bytes packet).travels
          ≡ slice_set a.travels packet
          (record (travel a packet) { legs = (travel a packet).legs ++ record { which = w; packet = length (side a w).inputs } ∷ [] })
      by First = refl
      by Second = refl

  many : length then.travels ≡ length a.travels
  many = ap length travels_are ∙ length-set a.travels packet with_it

  this_one : travel then packet ≡ with_it
  this_one = ap (λ ts. slice_index_or ts packet no_travel) travels_are ∙ get_or-set_same a.travels packet with_it no_travel can.there

  other_one : (i : ℕ) → i ≢ packet → travel then i ≡ travel a i
  other_one i apart = ap (λ ts. slice_index_or ts i no_travel) travels_are ∙ get_or-set_other a.travels packet i with_it no_travel apart

  side_is : side then w ≡ side_after (side a w) (record { tick = (side a w).past.clock; step = Inject (record { 0 = s }) number; damaged = Undamaged }) bytes
      ((side a w).owners ++ packet ∷ [])
  side_is = by w
    where
      by : (w : Which) → side (with_injection a w s number bytes packet) w
          ≡ side_after (side a w) (record { tick = (side a w).past.clock; step = Inject (record { 0 = s }) number; damaged = Undamaged }) bytes
          ((side a w).owners ++ packet ∷ [])
      by First = refl
      by Second = refl

  side_other : side then (opposite w) ≡ side a (opposite w)
  side_other = by w
    where
      by : (w : Which) → side (with_injection a w s number bytes packet) (opposite w) ≡ side a (opposite w)
      by First = refl
      by Second = refl

  one_step : OneStep pairing w a then
  one_step = record {
    e = record { tick = (side a w).past.clock; step = Inject (record { 0 = s }) number; damaged = Undamaged };
    bytes = bytes;
    owners = (side a w).owners ++ packet ∷ [];
    is = side_is;
    tick = refl;
    other = side_other;
    each = can.each w;
    sent = λ j below. let o = can.owner w j below in injected_by a w j (can.sent (slice_index_or (side a w).owners j 0) o.0 w j o.1);
  }

  -- a leg of before keeps its owner
  kept_owner : (i : ℕ) → i < length a.travels → (v : Which) (j : ℕ) → HasLeg v j (travel a i).legs
      → slice_index_or (side then v).owners j 0 ≡ slice_index_or (side a v).owners j 0
  kept_owner i below v j has = elim (one_of_two w v) [
    | inl q ↦ subst (λ v. HasLeg v j (travel a i).legs → slice_index_or (side then v).owners j 0 ≡ slice_index_or (side a v).owners j 0) (sym q)
        (λ has. ap (λ (x : Side). slice_index_or x.owners j 0) side_is
        ∙ push_other (side a w).owners j packet 0 (omega (arith, can.owned w, inside (can.sent i below w j has)))) has
    | inr q ↦ subst (λ v. slice_index_or (side then v).owners j 0 ≡ slice_index_or (side a v).owners j 0) (sym q)
        (ap (λ (x : Side). slice_index_or x.owners j 0) side_other)
  ]
    where
      inside : {v : Which} → Sends a v j → j < length (side a v).inputs
      inside {v} h =
          let at = injected_by a v j h in
          subst (λ n. n < length (side a v).inputs) at.2 (within (side a v).inputs at.0.packet at.0.bytes at.1.content)

  entered_only : AreOnly then
  entered_only i below v j has = elim (eqb_tells i packet) [
    | inl q ↦ elim (has_ways v j (travel a packet).legs the_leg (subst (λ (x : Travel). HasLeg v j x.legs) (ap (travel then) q.1 ∙ this_one) has)) [
      | inl r ↦ kept_owner packet can.there v j r ∙ only packet can.there v j r ∙ sym q.1
      | inr r ↦ subst (λ v. slice_index_or (side then v).owners j 0 ≡ packet) r.0
          (ap (λ (x : Side). slice_index_or x.owners j 0) side_is
          ∙ ap (λ n. slice_index_or ((side a w).owners ++ packet ∷ []) n 0) (sym r.1 ∙ sym (can.owned w)) ∙ push_here (side a w).owners packet 0)
          ∙ sym q.1
    ]
    | inr q ↦
        let old : i < length a.travels = subst (λ n. i < n) many below in
        let was = subst (λ (x : Travel). HasLeg v j x.legs) (other_one i q.1) has in
        kept_owner i old v j was ∙ only i old v j was
  ]

  -- with the packet's new leg the two networks go on
  pub entered_goes : (n : ℕ) → Holds pairing then → IsFresh pairing then w → 257 ≤ n + suc (length (travel a packet).legs) → Goes pairing left n w then
  entered_goes n holds fresh enough = record {
    holds = holds;
    fresh = fresh;
    only = entered_only;
    over = λ i below v j last none site ttl copy is.
        elim (newly_on pairing w a then one_step holds v j ttl site copy
        (leg_inside pairing then holds i below v j (last_has v j (travel then i).legs last)) is) [
          | inl was ↦ elim (eqb_tells i packet) [
            | inl q ↦
                let this = last_pushed v j (travel a packet).legs the_leg
                (subst (λ (x : Travel). IsLast v j x.legs) (ap (travel then) q.1 ∙ this_one) last) in
                absurd (too_far j (subst (λ u. j < length (side a u).inputs) (sym this.0) was.0) this.1)
            | inr q ↦ inl (over i (subst (λ n. i < n) many below) q.1 v j (subst (λ (x : Travel). IsLast v j x.legs) (other_one i q.1) last)
                (ap (λ (x : Travel). x.refused) (sym (other_one i q.1)) ∙ none) site ttl copy was.1)
          ]
          | inr new ↦ inr new
        ];
    long = λ i below j has site ttl is delivered d. elim (eqb_tells i packet) [
      | inl q ↦
          let here : length (travel then i).legs ≡ suc (length (travel a packet).legs) =
          ap (λ (x : Travel). length x.legs) (ap (travel then) q.1 ∙ this_one) ∙ length_push (travel a packet).legs the_leg ∙ plus_one _ in
          omega (arith, enough, here)
      | inr q ↦ absurd (old_one i (subst (λ n. i < n) many below) j (subst (λ (x : Travel). HasLeg w j x.legs) (other_one i q.1) has) site ttl is delivered d)
    ];
    out = λ v. leaves_on pairing w a then one_step v
        ∙ ap (λ l. l ++ exits_in v (exit_of pairing w (side then w).past.clock (landed (packets_in pairing then w)))) (out v);
  }
    where
      plus_one : (m : ℕ) → m + 1 ≡ suc m
      plus_one m = omega arith

      too_far : (j : ℕ) → j < length (side a w).inputs → length (side a w).inputs ≡ j → ⊥
      too_far j h e = omega (arith, h, e)

      -- what was sent before has its verdict of before
      old_one : (i : ℕ) → i < length a.travels → (j : ℕ) → HasLeg w j (travel a i).legs → (site : SiteNo) (ttl : ℕ)
          → verdict_on (packets_in pairing then w) j ≡ Delivered ttl site (packets_in pairing then w).copies → (delivered : List ℕ)
          → (packets_in pairing then w).delivered ≡ Some delivered → ⊥
      old_one i below j has site ttl is delivered d =
          let at = injected_by a w j (can.sent i below w j has) in
          let inside = subst (λ n. n < length (side a w).inputs) at.2 (within (side a w).inputs at.0.packet at.0.bytes at.1.content) in
          let same = unmoved (network pairing w) (side a w).past.entries (side a w).inputs (side a w).past.clock (record { 0 = s }) number bytes (can.each w)
          at.0 at.1 in
          no_old pairing w a then one_step j ttl site delivered inside
          (ap (verdict_on (packets_in pairing a w)) (sym at.2) ∙ sym same
          ∙ ap (λ (x : Side). verdict_on (packets_of (network pairing w) x.past.entries x.inputs) at.0.packet) (sym side_is)
          ∙ ap (verdict_on (packets_in pairing then w)) at.2 ∙ is) d

-- 6. Over a joint

module _ (pairing : Pairing) (left : Which → List Exit) where
  -- a packet that is new is the one that was delivered
  new_lands : (n : ℕ) (w : Which) (a : Both) → Goes pairing left n w a → (i : ℕ) → i < length a.travels → (v : Which) (j : ℕ)
      → HasLeg v j (travel a i).legs → (site : SiteNo) (ttl copy : ℕ) → verdict_on (packets_in pairing a v) j ≡ Delivered ttl site copy
      → IsNew pairing a w v copy → (bytes : List ℕ) × (landed (packets_in pairing a w) ≡ Some (record { packet = j; site = site.0; bytes = bytes }))
  new_lands n w a g i below v j has site ttl copy is new = (
    new.2,
    newest_landed (network pairing w) (side a w).past.entries (side a w).inputs j ttl site new.2
        (inside_verdicts pairing a g.holds w j (leg_inside pairing a g.holds i below w j (subst (λ u. HasLeg u j (travel a i).legs) new.0 has)))
        (ap (λ u. verdict_on (packets_in pairing a u) j) (sym new.0) ∙ is ∙ ap (Delivered ttl site) new.1)
        new.3,
  )

  none_lands : (n : ℕ) (w : Which) (a : Both) → Goes pairing left n w a → landed (packets_in pairing a w) ≡ None
      → Rests pairing (λ v. left v ++ exits_in v []) a
  none_lands n w a g e = record {
    holds = g.holds;
    only = g.only;
    over = λ i below v j last none site ttl copy is. elim (g.over i below v j last none site ttl copy is) [
      | inl q ↦ q
      | inr new ↦ absurd (clash (sym e ∙ (new_lands n w a g i below v j (last_has v j (travel a i).legs last) site ttl copy is new).1))
    ];
    out = λ v. g.out v ∙ ap (λ o. left v ++ exits_in v (exit_of pairing w (side a w).past.clock o)) e;
  }
    where
      clash : {x : Landing} → None ≡ Some x → ⊥
      clash e = cc

  same_landing : {x y : Landing} → Some x ≡ Some y → x ≡ y
  same_landing e = cc

  comes_out_rests : (n : ℕ) (w : Which) (a : Both) → Goes pairing left n w a → (landing : Landing) → landed (packets_in pairing a w) ≡ Some landing
      → partner pairing w landing.site ≡ None → Rests pairing (λ v. left v ++ exits_in v (exit_by w (side a w).past.clock landing None)) a
  comes_out_rests n w a g landing e outside = record {
    holds = g.holds;
    only = g.only;
    over = λ i below v j last none site ttl copy is. elim (g.over i below v j last none site ttl copy is) [
      | inl q ↦ q
      | inr new ↦
          let found = new_lands n w a g i below v j (last_has v j (travel a i).legs last) site ttl copy is new in
          ap (λ u. partner pairing u site.0) new.0
          ∙ ap (λ (x : Landing). partner pairing w x.site) (sym (same_landing (sym e ∙ found.1))) ∙ outside
    ];
    out = λ v. g.out v ∙ ap (λ o. left v ++ exits_in v (exit_of pairing w (side a w).past.clock o)) e
        ∙ ap (λ p. left v ++ exits_in v (exit_by w (side a w).past.clock landing p)) outside;
  }

  -- what was delivered at a joint is the packet's
  module _ (n : ℕ) (w : Which) (a : Both) (g : Goes pairing left n w a) (landing : Landing) (e : landed (packets_in pairing a w) ≡ Some landing) where
    abbrev packet : ℕ
    packet = slice_index_or (side a w).owners landing.packet 0

    owner : (packet < length a.travels) × HasLeg w landing.packet (travel a packet).legs
    owner =
        g.holds.owner w landing.packet
        (omega (
          arith,
          (has_landed (packets_in pairing a w) landing e).there,
          as_many_verdicts (network pairing w) (side a w).past.entries (side a w).inputs,
          g.holds.each w,
        ))

    enough : 257 ≤ n + length (travel a packet).legs
    enough =
        let it = has_landed (packets_in pairing a w) landing e in
        g.long packet owner.0 landing.packet owner.1 it.site it.ttl it.verdict landing.bytes it.delivered

    -- every other packet rests
    others_over : (i : ℕ) → i < length a.travels → i ≢ packet → EndsOutside pairing a i
    others_over i below apart v j last none site ttl copy is = elim (g.over i below v j last none site ttl copy is) [
      | inl q ↦ q
      | inr new ↦
          let has = last_has v j (travel a i).legs last in
          let found = new_lands n w a g i below v j has site ttl copy is new in
          let same : landing.packet ≡ j = ap (λ (x : Landing). x.packet) (same_landing (sym e ∙ found.1)) in
          absurd (apart (sym (g.only i below w j (subst (λ u. HasLeg u j (travel a i).legs) new.0 has))
          ∙ ap (λ k. slice_index_or (side a w).owners k 0) (sym same)))
    ]

    nothing_out : (s : ℕ) → partner pairing w landing.site ≡ Some s → (v : Which) → leaving pairing a v ≡ left v
    nothing_out s joined v =
        g.out v ∙ ap (λ o. left v ++ exits_in v (exit_of pairing w (side a w).past.clock o)) e
        ∙ ap (λ p. left v ++ exits_in v (exit_by w (side a w).past.clock landing p)) joined ∙ append-nil (left v)

    abbrev told : Refused → Travel
    told why = record (travel a packet) { refused = Some why }

    refused_rests : (s : ℕ) → partner pairing w landing.site ≡ Some s → (why : Refused)
        → Rests pairing (λ v. left v ++ exits_in v []) (with_refusal a packet why)
    refused_rests s joined why = record {
      holds = refused_holds pairing a packet why g.holds;
      only = λ i below v j has.
          ap (λ (x : Side). slice_index_or x.owners j 0) (side_as v)
          ∙ g.only i (subst (λ n. i < n) many below) v j (subst (HasLeg v j) (same_legs i) has);
      over = λ i below v j last none site ttl copy is. elim (eqb_tells i packet) [
        | inl q ↦ absurd (clash (sym (ap (λ (x : Travel). x.refused) (ap (travel (with_refusal a packet why)) q.1 ∙ this_one)) ∙ none))
        | inr q ↦ others_over i (subst (λ n. i < n) many below) q.1 v j (subst (λ (x : Travel). IsLast v j x.legs) (other_one i q.1) last)
            (ap (λ (x : Travel). x.refused) (sym (other_one i q.1)) ∙ none) site ttl copy
            (ap (λ (x : Side). verdict_on (packets_of (network pairing v) x.past.entries x.inputs) j) (sym (side_as v)) ∙ is)
      ];
      out = λ v. ap (leaving_of pairing v) (side_as v) ∙ nothing_out s joined v ∙ sym (append-nil (left v));
    }
      where
        clash : Some why ≡ None → ⊥
        clash e = cc

        side_as : (v : Which) → side (with_refusal a packet why) v ≡ side a v
        side_as First = refl
        side_as Second = refl

        many : length (with_refusal a packet why).travels ≡ length a.travels
        many = length-set a.travels packet (told why)

        this_one : travel (with_refusal a packet why) packet ≡ told why
        this_one = get_or-set_same a.travels packet (told why) no_travel owner.0

        other_one : (i : ℕ) → i ≢ packet → travel (with_refusal a packet why) i ≡ travel a i
        other_one i apart = get_or-set_other a.travels packet i (told why) no_travel apart

        same_legs : (i : ℕ) → (travel (with_refusal a packet why) i).legs ≡ (travel a i).legs
        same_legs i = elim (eqb_tells i packet) [
          | inl q ↦ ap (λ k. (travel (with_refusal a packet why) k).legs) q.1 ∙ ap (λ (x : Travel). x.legs) this_one ∙ ap (λ k. (travel a k).legs) (sym q.1)
          | inr q ↦ ap (λ (x : Travel). x.legs) (other_one i q.1)
        ]

  -- from there it goes on to rest
  abbrev GoesOn : (Both → PairCourse) → ℕ → Which → Type 0
  GoesOn on n w = (later : Both) → Goes pairing left n w later → EndsAtRest pairing left (on later)

  module _ (on : Both → PairCourse) (n : ℕ) (w : Which) (goes : GoesOn on n (opposite w)) (a : Both) (g : Goes pairing left (suc n) w a) where
    over_rests : (landing : Landing) (e : landed (packets_in pairing a w) ≡ Some landing) (s : ℕ) → partner pairing w landing.site ≡ Some s
        → (why : Option Refused)
        → EndsAtRest pairing left (taken_in a (packet (suc n) w a g landing e) why on
        (with_injection a (opposite w) s (travel a (packet (suc n) w a g landing e)).number landing.bytes (packet (suc n) w a g landing e)))
    over_rests landing e s joined None =
        goes _
        (entered_goes pairing left a (opposite w) s (travel a (packet (suc n) w a g landing e)).number landing.bytes (packet (suc n) w a g landing e)
        (on_the_way pairing a (packet (suc n) w a g landing e) (owner (suc n) w a g landing e).0 g.holds) g.only (others_over (suc n) w a g landing e)
        (nothing_out (suc n) w a g landing e s joined) n (over_holds pairing w a g.holds g.fresh landing e s joined)
        (over_fresh pairing w a g.holds g.fresh landing e s joined) (more _ (enough (suc n) w a g landing e)))
      where
        more : (m : ℕ) → 257 ≤ suc n + m → 257 ≤ n + suc m
        more m h = omega (arith, h)
    over_rests landing e s joined (Some cause.TooManySteps) = λ short went. absurd went
    over_rests landing e s joined (Some why) = λ short went. refused_rests (suc n) w a g landing e s joined why

    enters_rests : (landing : Landing) → landed (packets_in pairing a w) ≡ Some landing → (o : Option ℕ) → partner pairing w landing.site ≡ o
        → EndsAtRest pairing left (enters pairing a w landing on o)
    enters_rests landing e None outside = λ short went. comes_out_rests (suc n) w a g landing e outside
    enters_rests landing e (Some s) joined =
        over_rests landing e s joined
        (refusal_on pairing a (opposite w) (Inject (record { 0 = s }) (travel a (packet (suc n) w a g landing e)).number) landing.bytes)

    lands_rests : (o : Option Landing) → landed (packets_in pairing a w) ≡ o → EndsAtRest pairing left (lands pairing a w on o)
    lands_rests None e = λ short went. none_lands (suc n) w a g e
    lands_rests (Some landing) e = enters_rests landing e (partner pairing w landing.site) refl

  pub crossed_rests : (n : ℕ) (w : Which) (a : Both) → Goes pairing left n w a → EndsAtRest pairing left (crossed n pairing w a)
  crossed_rests zero w a g = by (landed (packets_in pairing a w)) refl
    where
      by : (o : Option Landing) → landed (packets_in pairing a w) ≡ o → AreShort a → ⊤ → Rests pairing (λ v. left v ++ exits_in v []) a
      by None e short went = none_lands zero w a g e
      by (Some landing) e short went =
          absurd (too_many (length (travel a (packet zero w a g landing e)).legs) (enough zero w a g landing e)
          (short (packet zero w a g landing e) (owner zero w a g landing e).0))
        where
          too_many : (m : ℕ) → 257 ≤ zero + m → m ≤ 256 → ⊥
          too_many m h k = omega (arith, h, k)
  crossed_rests (suc n) w a g =
      lands_rests (λ later. crossed n pairing (opposite w) later) n w (crossed_rests n (opposite w)) a g (landed (packets_in pairing a w)) refl

  pub handed_rests : (w : Which) (a : Both) → Goes pairing left 256 w a → EndsAtRest pairing left (handed_on pairing w a)
  unfolding handed_on
  handed_rests w a g = crossed_rests 256 w a g
