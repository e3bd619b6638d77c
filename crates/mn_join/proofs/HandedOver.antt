-- What a network has just delivered goes over to the other, or comes out.
use Rattle.std.proofs.Common.{ℕ, ◌≡◌, ◌≢◌, ◌<◌, ◌≤◌, Bool, true, false, List, [], ◌∷◌, ◌++◌, length, slice_index_or, Option, Some, None, Result, Ok, Err, inl}
use Rattle.std.proofs.Common.{inr, refl, arith}
use Rattle.std.proofs.Common.{sym, ◌∙◌, ap, subst}
use Rattle.std.specs.Prelude.{slice_set}
use Rattle.std.proofs.lemmas.Bool.Decides.{eqb_tells}
use Rattle.std.proofs.lemmas.List.{append-nil, length_push, length-set, set-get_or}
use Rattle.std.proofs.lemmas.Option.{same_Some}
use Rattle.mn_base.specs.declared.numbers.SiteNo.{SiteNo}
use Rattle.mn_topo.specs.declared.steps.Step.TheVariants.{Inject}
use Rattle.mn_ledger.specs.declared.refused.Refused.{Refused}
use Rattle.mn_ledger.specs.declared.refused.Refused.TheVariants as cause
use Rattle.mn_ledger_laws.proofs.Elsewhere.{push_other, push_here}
use Rattle.mn_course_laws.specs.Course.{Past}
use Rattle.mn_course_laws.specs.declared.coming.Ending.TheVariants as ending
use Rattle.mn_join_laws.specs.declared.leg.Which.{Which}
use Rattle.mn_join_laws.specs.declared.leg.Which.TheVariants.{First, Second}
use Rattle.mn_join_laws.specs.Pairing.{opposite, Pairing, Both, side, packets_in, Travel, travel, no_travel, with_injection, with_refusal, landed}
use Rattle.mn_join_laws.specs.Course.{PairCourse, Exit, ends, comes_out, taken_in, enters, lands, refusal_on}
use Rattle.mn_join.specs.declared.side.Found.{Found}
use Rattle.mn_join.specs.declared.played.PairBad.{PairBad}
use Rattle.mn_join.specs.declared.played.PairBad.TheVariants.{TooManySteps, NoMemory}
use Rattle.mn_join.specs.Pairs.{SideNow, PairNow, side_of, IsSide, PairStands, HasStopped, Belong}
use Rattle.mn_join.specs.Moves.{entered_side, refusal_in, IsFound, TakesIn, Standing, over, HandsOver, Crosses, leads_to}

-- 1. Both networks, as one of them sees it

pub to_standing : (pairing : Pairing) (which : Which) (pair : PairNow) (both : Both) → PairStands pairing pair both
    → Standing pairing which (side_of pair which) (side_of pair (opposite which)) pair.travels both
to_standing pairing which pair both h = record { is_here = h.sides which; is_there = h.sides (opposite which); same = h.travels; belong = h.belong }

pub from_first : (pairing : Pairing) (pair : PairNow) (both : Both) → Standing pairing First pair.first pair.second pair.travels both →
    PairStands pairing pair both
from_first pairing pair both h = record { sides = sides; travels = h.same; belong = h.belong }
  where
    sides : (which : Which) → IsSide pairing which (side_of pair which) (side both which)
    sides First = h.is_here
    sides Second = h.is_there

pub from_second : (pairing : Pairing) (pair : PairNow) (both : Both) → Standing pairing Second pair.second pair.first pair.travels both →
    PairStands pairing pair both
from_second pairing pair both h = record { sides = sides; travels = h.same; belong = h.belong }
  where
    sides : (which : Which) → IsSide pairing which (side_of pair which) (side both which)
    sides First = h.is_there
    sides Second = h.is_here

pub has_stopped : (pairing : Pairing) (pair : PairNow) (both : Both) → PairStands pairing pair both → HasStopped pairing pair both
has_stopped pairing pair both h = record {
  sides = λ which. let now = h.sides which in record { topology = now.topology; stands = now.stands; entries = ap (λ (p : Past). p.entries) now.past };
  travels = h.travels;
}

-- 2. Sides after a packet has entered, or was refused

pub side_here : (a : Both) (w : Which) (s number : ℕ) (bytes : List ℕ) (packet : ℕ) → side (with_injection a (opposite w) s number bytes packet) w ≡ side a w
side_here a First s number bytes packet = refl
side_here a Second s number bytes packet = refl

pub side_there : (a : Both) (w : Which) (site : SiteNo) (number : ℕ) (bytes : List ℕ) (packet : ℕ)
    → side (with_injection a w site.0 number bytes packet) w ≡ entered_side (side a w) site number bytes packet
side_there a First site number bytes packet = refl
side_there a Second site number bytes packet = refl

abbrev pub new_leg : Both → Which → ℕ → Travel
new_leg a w packet =
    let was : Travel = travel a packet in record was { legs = was.legs ++ record { which = w; packet = length (side a w).inputs } ∷ [] }

pub travels_then : (a : Both) (w : Which) (s number : ℕ) (bytes : List ℕ) (packet : ℕ)
    → (with_injection a w s number bytes packet).travels ≡ slice_set a.travels packet (new_leg a w packet)
travels_then a First s number bytes packet = refl
travels_then a Second s number bytes packet = refl

pub side_refused : (a : Both) (w : Which) (packet : ℕ) (why : Refused) → side (with_refusal a packet why) w ≡ side a w
side_refused a First packet why = refl
side_refused a Second packet why = refl

-- the owners of the network that has taken it in, and of the other
owners_there : (a : Both) (w : Which) (s number : ℕ) (bytes : List ℕ) (packet : ℕ)
    → (side (with_injection a w s number bytes packet) w).owners ≡ (side a w).owners ++ packet ∷ []
owners_there a First s number bytes packet = refl
owners_there a Second s number bytes packet = refl

owners_else : (a : Both) (w v : Which) (s number : ℕ) (bytes : List ℕ) (packet : ℕ) → (v ≡ w → ⊥)
    → (side (with_injection a w s number bytes packet) v).owners ≡ (side a v).owners
owners_else a First First s number bytes packet n = absurd (n refl)
owners_else a First Second s number bytes packet n = refl
owners_else a Second First s number bytes packet n = refl
owners_else a Second Second s number bytes packet n = absurd (n refl)

pub pushed_belong : (owners : List ℕ) (owner count more : ℕ) → ((j : ℕ) → j < length owners → slice_index_or owners j 0 < count) → owner < more
    → count ≤ more → (j : ℕ) → j < length (owners ++ owner ∷ []) → slice_index_or (owners ++ owner ∷ []) j 0 < more
pushed_belong owners owner count more old new le j below = elim (eqb_tells j (length owners)) [
  | inl q ↦ subst (λ n. n < more) (sym (ap (λ i. slice_index_or (owners ++ owner ∷ []) i 0) q.1 ∙ push_here owners owner 0)) new
  | inr q ↦
      let less : j < length owners = omega (arith, below, length_push owners owner, q.1) in
      let is : slice_index_or (owners ++ owner ∷ []) j 0 ≡ slice_index_or owners j 0 = push_other owners j owner 0 less in
      omega (arith, old j less, is, le)
]

belong_by : (a : Both) (w v : Which) (s number : ℕ) (bytes : List ℕ) (packet more : ℕ) → Belong a → packet < more → length a.travels ≤ more → (j : ℕ)
    → j < length (side (with_injection a w s number bytes packet) v).owners →
    slice_index_or (side (with_injection a w s number bytes packet) v).owners j 0 < more
belong_by a First First s number bytes packet more h inside le j below = pushed_belong a.first.owners packet (length a.travels) more (h First) inside le j below
belong_by a First Second s number bytes packet more h inside le j below = grown (h Second j below) le
  where
    grown : {x y z : ℕ} → x < y → y ≤ z → x < z
    grown f g = omega (arith, f, g)
belong_by a Second First s number bytes packet more h inside le j below = grown (h First j below) le
  where
    grown : {x y z : ℕ} → x < y → y ≤ z → x < z
    grown f g = omega (arith, f, g)
belong_by a Second Second s number bytes packet more h inside le j below =
    pushed_belong a.second.owners packet (length a.travels) more (h Second) inside le j below

pub belong_then : (a : Both) (w : Which) (s number : ℕ) (bytes : List ℕ) (packet : ℕ) → Belong a → packet < length a.travels
    → Belong (with_injection a w s number bytes packet)
belong_then a w s number bytes packet h inside v j below =
    subst (λ n. slice_index_or (side (with_injection a w s number bytes packet) v).owners j 0 < n)
    (sym (ap length (travels_then a w s number bytes packet) ∙ length-set a.travels packet (new_leg a w packet)))
    (belong_by a w v s number bytes packet (length a.travels) h inside (omega arith) j below)

belong_refused : (a : Both) (packet : ℕ) (why : Refused) → Belong a → Belong (with_refusal a packet why)
belong_refused a packet why h First j below =
    subst (λ n. slice_index_or a.first.owners j 0 < n) (sym (length-set a.travels packet (record (travel a packet) { refused = Some why }))) (h First j below)
belong_refused a packet why h Second j below =
    subst (λ n. slice_index_or a.second.owners j 0 < n) (sym (length-set a.travels packet (record (travel a packet) { refused = Some why }))) (h Second j below)

-- 3. Hand-overs

module _ (pairing : Pairing) (which : Which) (here there : SideNow) (travels : List Travel) (both : Both) (exits : List Exit)
    (stand : Standing pairing which here there travels both) where
  -- nothing was delivered
  pub none_over : landed (packets_in pairing both which) ≡ None → HandsOver pairing which both here there travels exits exits (Ok false)
  none_over none = (ends ending.All both, refl, stand, sym (append-nil exits), λ on. ap (lands pairing both which on) none)

  module _ (found : Found) (it : IsFound pairing which (side both which) (packets_in pairing both which) found) where
    -- it comes out
    pub out_over : (bytes : List ℕ) → Some bytes ≡ (packets_in pairing both which).delivered → found.partner ≡ None → (new : List Exit)
        → new ≡ exits ++ record { which = which; site = found.site.0; tick = here.net.tick; bytes = bytes } ∷ []
        → HandsOver pairing which both here there travels exits new (Ok false)
    out_over bytes delivered none new is = (
      comes_out both which it.landing,
      refl,
      stand,
      is
          ∙ ap (λ s. exits ++ record { which = which; site = s; tick = here.net.tick; bytes = bytes } ∷ []) it.site
          ∙ ap (λ t. exits ++ record { which = which; site = it.landing.site; tick = t; bytes = bytes } ∷ []) (ap (λ (p : Past). p.clock) stand.is_here.past)
          ∙ ap (λ b. exits ++ record { which = which; site = it.landing.site; tick = (side both which).past.clock; bytes = b } ∷ [])
          (same_Some bytes it.landing.bytes (delivered ∙ it.delivered)),
      λ on. ap (lands pairing both which on) it.landed ∙ ap (enters pairing both which it.landing on) (sym it.leads ∙ ap leads_to none),
    )

    abbrev owner : ℕ
    owner = slice_index_or (side both which).owners it.landing.packet 0

    pub owned : owner < length both.travels
    owned = stand.belong which it.landing.packet it.inside

    pub this_travel : slice_index_or travels found.owner no_travel ≡ travel both owner
    this_travel = ap (λ ts. slice_index_or ts found.owner no_travel) stand.same ∙ ap (λ n. slice_index_or both.travels n no_travel) it.owner

    module _ (site : SiteNo) (joined : found.partner ≡ Some site) where
      abbrev other : Which
      other = opposite which

      abbrev number : ℕ
      number = (travel both owner).number

      abbrev later : Both
      later = with_injection both other site.0 number it.landing.bytes owner

      abbrev cause_of : Option Refused
      cause_of = refusal_on pairing both other (Inject site number) it.landing.bytes

      goes_over : (on : Both → PairCourse) → over pairing which both on ≡ taken_in both owner cause_of on later
      goes_over on = ap (lands pairing both which on) it.landed ∙ ap (enters pairing both which it.landing on) (sym it.leads ∙ ap leads_to joined)

      module _ (new : SideNow) (old_packet new_packet : Travel) (travels_new : List Travel) (is_old : old_packet ≡ slice_index_or travels found.owner no_travel)
          (set : travels_new ≡ slice_set travels found.owner new_packet) where
        was : old_packet ≡ travel both owner
        was = is_old ∙ this_travel

        set_there : travels_new ≡ slice_set both.travels owner new_packet
        set_there = set ∙ ap (λ ts. slice_set ts found.owner new_packet) stand.same ∙ ap (λ n. slice_set both.travels n new_packet) it.owner

        pub in_over : TakesIn pairing other (side both other) site it.landing.bytes found.owner old_packet new_packet new (Ok true)
            → HandsOver pairing which both here new travels_new exits exits (Ok true)
        in_over h = (
          later,
          record {
            is_here = subst (IsSide pairing which here) (sym (side_here both which site.0 number it.landing.bytes owner)) stand.is_here;
            is_there = subst (IsSide pairing other new) (sym (side_there both other site number it.landing.bytes owner))
                (subst (λ n. IsSide pairing other new (entered_side (side both other) site n it.landing.bytes owner)) (ap (λ (t : Travel). t.number) was)
                (subst (λ o. IsSide pairing other new (entered_side (side both other) site old_packet.number it.landing.bytes o)) it.owner h.2));
            same = set_there
                ∙ ap (slice_set both.travels owner)
                (h.1 ∙ ap (λ (t : Travel). record t { legs = t.legs ++ record { which = other; packet = length (side both other).inputs } ∷ [] }) was)
                ∙ sym (travels_then both other site.0 number it.landing.bytes owner);
            belong = belong_then both other site.0 number it.landing.bytes owner stand.belong owned;
          },
          refl,
          λ on. goes_over on
              ∙ ap (λ o. taken_in both owner o on later)
              (ap (λ (t : Travel). refusal_in pairing other (side both other) (Inject site t.number) it.landing.bytes) (sym was) ∙ h.0),
        )

        refusal_is : (o : Option Refused) → refusal_in pairing other (side both other) (Inject site old_packet.number) it.landing.bytes ≡ o → cause_of ≡ o
        refusal_is o h = ap (λ (t : Travel). refusal_in pairing other (side both other) (Inject site t.number) it.landing.bytes) (sym was) ∙ h

        refused_end : (on : Both → PairCourse) (why : Refused) → why ≢ cause.TooManySteps
            → taken_in both owner (Some why) on later ≡ ends ending.All (with_refusal both owner why)
        refused_end on cause.TooManySteps n = absurd (n refl)
        refused_end on why n = refl

        pub refused_over : TakesIn pairing other (side both other) site it.landing.bytes found.owner old_packet new_packet new (Ok false)
            → HandsOver pairing which both here new travels_new exits exits (Ok false)
        refused_over (why, answer, apart, is, there_new) = (
          ends ending.All (with_refusal both owner why),
          refl,
          record {
            is_here = subst (IsSide pairing which here) (sym (side_refused both which owner why)) stand.is_here;
            is_there = subst (IsSide pairing other new) (sym (side_refused both other owner why)) there_new;
            same = set_there ∙ ap (slice_set both.travels owner) (is ∙ ap (λ (t : Travel). record t { refused = Some why }) was);
            belong = belong_refused both owner why stand.belong;
          },
          sym (append-nil exits),
          λ on. goes_over on ∙ ap (λ o. taken_in both owner o on later) (refusal_is (Some why) answer) ∙ refused_end on why apart,
        )

        pub full_over : TakesIn pairing other (side both other) site it.landing.bytes found.owner old_packet new_packet new (Err TooManySteps)
            → HandsOver pairing which both here new travels_new exits exits (Err TooManySteps)
        full_over (answer, is, there_new) = (
          record {
            is_here = stand.is_here;
            is_there = there_new;
            same = set_there ∙ ap (slice_set both.travels owner) (is ∙ was) ∙ set-get_or both.travels owner no_travel;
            belong = stand.belong;
          },
          refl,
          λ on. goes_over on ∙ ap (λ o. taken_in both owner o on later) (refusal_is (Some cause.TooManySteps) answer),
        )

        pub over_by : (r : Result Bool PairBad) → TakesIn pairing other (side both other) site it.landing.bytes found.owner old_packet new_packet new r
            → HandsOver pairing which both here new travels_new exits exits r
        over_by (Ok true) h = in_over h
        over_by (Ok false) h = refused_over h
        over_by (Err TooManySteps) h = full_over h
        over_by (Err NoMemory) h = tt

-- 4. Both networks after a hand-over

pub first_crosses : (pairing : Pairing) (both : Both) (old new : PairNow) → new.first ≡ old.first → (r : Result Bool PairBad)
    → HandsOver pairing First both old.first new.second new.travels old.exits new.exits r → Crosses pairing First both old new r
first_crosses pairing both old new same r over = by r over
  where
    here_too : (b : Both) → Standing pairing First old.first new.second new.travels b → PairStands pairing new b
    here_too b s = from_first pairing new b (subst (λ n. Standing pairing First n new.second new.travels b) (sym same) s)

    by : (r : Result Bool PairBad) → HandsOver pairing First both old.first new.second new.travels old.exits new.exits r → Crosses pairing First both old new r
    by (Ok true) (later, stands, exits, on) = (later, here_too later stands, exits, on)
    by (Ok false) (course, all, stands, exits, on) = (course, all, here_too course.both stands, exits, on)
    by (Err TooManySteps) (stands, exits, on) = (here_too both stands, exits, on)
    by (Err NoMemory) h = tt

pub second_crosses : (pairing : Pairing) (both : Both) (old new : PairNow) → new.second ≡ old.second → (r : Result Bool PairBad)
    → HandsOver pairing Second both old.second new.first new.travels old.exits new.exits r → Crosses pairing Second both old new r
second_crosses pairing both old new same r over = by r over
  where
    here_too : (b : Both) → Standing pairing Second old.second new.first new.travels b → PairStands pairing new b
    here_too b s = from_second pairing new b (subst (λ n. Standing pairing Second n new.first new.travels b) (sym same) s)

    by : (r : Result Bool PairBad) → HandsOver pairing Second both old.second new.first new.travels old.exits new.exits r →
        Crosses pairing Second both old new r
    by (Ok true) (later, stands, exits, on) = (later, here_too later stands, exits, on)
    by (Ok false) (course, all, stands, exits, on) = (course, all, here_too course.both stands, exits, on)
    by (Err TooManySteps) (stands, exits, on) = (here_too both stands, exits, on)
    by (Err NoMemory) h = tt
