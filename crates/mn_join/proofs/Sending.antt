-- A step of one network, and of both as they then are.
use Rattle.std.proofs.Common.{ℕ, ◌≡◌, ◌+◌, ◌<◌, Bool, true, false, List, [], ◌∷◌, ◌++◌, length, slice_index_or, Option, None, Result, Ok, Err, refl, arith}
use Rattle.std.proofs.Common.{sym, ◌∙◌, ap, subst}
use Rattle.std.specs.Prelude.{slice_set}
use Rattle.std.proofs.lemmas.List.{length_push}
use Rattle.mn_base.specs.declared.numbers.SiteNo.{SiteNo}
use Rattle.mn_topo.specs.declared.steps.Step.{Step}
use Rattle.mn_topo.specs.declared.steps.Step.TheVariants.{Inject}
use Rattle.mn_topo.specs.declared.steps.Damaged.{Damaged}
use Rattle.mn_ledger.specs.declared.refused.Refused.{Refused}
use Rattle.mn_ledger.specs.declared.refused.Refused.TheVariants as cause
use Rattle.mn_ledger_laws.proofs.Elsewhere.{push_here}
use Rattle.mn_course_laws.specs.declared.coming.Arrivals.{Arrivals}
use Rattle.mn_join_laws.specs.declared.leg.Which.{Which}
use Rattle.mn_join_laws.specs.declared.leg.Which.TheVariants.{First, Second}
use Rattle.mn_join_laws.specs.Pairing.{opposite, Pairing, Side, Both, side, Travel, travel, no_travel, with_travel, with_marked}
use Rattle.mn_join_laws.specs.Course.{refusal_on, arrived}
use Rattle.mn_join.specs.declared.played.PairBad.{PairBad}
use Rattle.mn_join.specs.declared.played.PairBad.TheVariants.{TooManySteps, NoMemory}
use Rattle.mn_join.specs.Pairs.{SideNow, PairNow, side_of, IsSide, IsStoppedSide, PairStands, HasStopped, Belong}
use Rattle.mn_join.specs.Moves.{marked_side, entered_side, arrived_side, SideTries, Enters, Arrives, Tries, ArrivesIn, sent}
use Rattle.mn_join.proofs.HandedOver.{pushed_belong}

-- the pair with another first or second network
abbrev pub with_first : PairNow → SideNow → PairNow
with_first pair now = record pair { first = now }

abbrev pub with_second : PairNow → SideNow → PairNow
with_second pair now = record pair { second = now }

-- 1. Both networks after something of one

-- the packets are as they were
abbrev IsOther : Which → Both → Side → Both → Type 0
IsOther which old now new = (side new which ≡ now) × (side new (opposite which) ≡ side old (opposite which)) × (new.travels ≡ old.travels)

module _ (pairing : Pairing) (pair : PairNow) (both : Both) (h : PairStands pairing pair both) where
  belong_on : (new : Both) → (side new First).owners ≡ (side both First).owners → (side new Second).owners ≡ (side both Second).owners
      → new.travels ≡ both.travels → Belong new
  belong_on new first second travels First j below =
      subst (λ (ts : List Travel). slice_index_or (side new First).owners j 0 < length ts) (sym travels)
      (subst (λ os. slice_index_or os j 0 < length both.travels) (sym first) (h.belong First j (subst (λ os. j < length os) first below)))
  belong_on new first second travels Second j below =
      subst (λ (ts : List Travel). slice_index_or (side new Second).owners j 0 < length ts) (sym travels)
      (subst (λ os. slice_index_or os j 0 < length both.travels) (sym second) (h.belong Second j (subst (λ os. j < length os) second below)))

  pub with_first_stands : (now : SideNow) (side_now : Side) (new : Both) → IsSide pairing First now side_now → side_now.owners ≡ both.first.owners
      → new.first ≡ side_now → new.second ≡ both.second → new.travels ≡ both.travels → (next : PairNow) → next.first ≡ now → next.second ≡ pair.second
      → next.travels ≡ pair.travels → PairStands pairing next new
  with_first_stands now side_now new is owners first second travels next n_first n_second n_travels = record {
    sides = sides;
    travels = n_travels ∙ h.travels ∙ sym travels;
    belong = belong_on new (ap (λ (s : Side). s.owners) first ∙ owners) (ap (λ (s : Side). s.owners) second) travels;
  }
    where
      sides : (which : Which) → IsSide pairing which (side_of next which) (side new which)
      sides First = subst (λ n. IsSide pairing First n new.first) (sym n_first) (subst (IsSide pairing First now) (sym first) is)
      sides Second = subst (λ n. IsSide pairing Second n new.second) (sym n_second) (subst (IsSide pairing Second pair.second) (sym second) (h.sides Second))

  pub with_second_stands : (now : SideNow) (side_now : Side) (new : Both) → IsSide pairing Second now side_now → side_now.owners ≡ both.second.owners
      → new.second ≡ side_now → new.first ≡ both.first → new.travels ≡ both.travels → (next : PairNow) → next.second ≡ now → next.first ≡ pair.first
      → next.travels ≡ pair.travels → PairStands pairing next new
  with_second_stands now side_now new is owners second first travels next n_second n_first n_travels = record {
    sides = sides;
    travels = n_travels ∙ h.travels ∙ sym travels;
    belong = belong_on new (ap (λ (s : Side). s.owners) first) (ap (λ (s : Side). s.owners) second ∙ owners) travels;
  }
    where
      sides : (which : Which) → IsSide pairing which (side_of next which) (side new which)
      sides First = subst (λ n. IsSide pairing First n new.first) (sym n_first) (subst (IsSide pairing First pair.first) (sym first) (h.sides First))
      sides Second = subst (λ n. IsSide pairing Second n new.second) (sym n_second) (subst (IsSide pairing Second now) (sym second) is)

  -- 2. A step that injects nothing

  pub first_tries : (step : Step) (mark : Damaged) (refused : Option Refused) (r : Result (Unit {0}) Refused) (now : SideNow)
      → SideTries pairing First both.first (marked_side both.first step mark) refused now r → (next : PairNow)
      → next.first ≡ now → next.second ≡ pair.second → next.travels ≡ pair.travels
      → Tries pairing both (with_marked both First step mark) refused next r
  first_tries step mark refused (Ok x) now (none, is) next a b c =
      (none, with_first_stands now (marked_side both.first step mark) (with_marked both First step mark) is refl refl refl refl next a b c)
  first_tries step mark refused (Err cause.NoMemory) now s next a b c = tt
  first_tries step mark refused (Err why) now (some, is) next a b c = (some, with_first_stands now both.first both is refl refl refl refl next a b c)

  pub second_tries : (step : Step) (mark : Damaged) (refused : Option Refused) (r : Result (Unit {0}) Refused) (now : SideNow)
      → SideTries pairing Second both.second (marked_side both.second step mark) refused now r → (next : PairNow)
      → next.second ≡ now → next.first ≡ pair.first → next.travels ≡ pair.travels
      → Tries pairing both (with_marked both Second step mark) refused next r
  second_tries step mark refused (Ok x) now (none, is) next a b c =
      (none, with_second_stands now (marked_side both.second step mark) (with_marked both Second step mark) is refl refl refl refl next a b c)
  second_tries step mark refused (Err cause.NoMemory) now s next a b c = tt
  second_tries step mark refused (Err why) now (some, is) next a b c = (some, with_second_stands now both.second both is refl refl refl refl next a b c)

  -- 3. What comes next

  stopped_first : (now : SideNow) → IsStoppedSide pairing First now both.first → (next : PairNow) → next.first ≡ now → next.second ≡ pair.second
      → next.travels ≡ pair.travels → HasStopped pairing next both
  stopped_first now is next a b c = record { sides = sides; travels = c ∙ h.travels }
    where
      sides : (which : Which) → IsStoppedSide pairing which (side_of next which) (side both which)
      sides First = subst (λ n. IsStoppedSide pairing First n both.first) (sym a) is
      sides Second = subst (λ n. IsStoppedSide pairing Second n both.second) (sym b) (let s = h.sides Second in
          record { topology = s.topology; stands = s.stands; entries = ap (λ p. p.entries) s.past })

  stopped_second : (now : SideNow) → IsStoppedSide pairing Second now both.second → (next : PairNow) → next.second ≡ now → next.first ≡ pair.first
      → next.travels ≡ pair.travels → HasStopped pairing next both
  stopped_second now is next a b c = record { sides = sides; travels = c ∙ h.travels }
    where
      sides : (which : Which) → IsStoppedSide pairing which (side_of next which) (side both which)
      sides First = subst (λ n. IsStoppedSide pairing First n both.first) (sym b) (let s = h.sides First in
          record { topology = s.topology; stands = s.stands; entries = ap (λ p. p.entries) s.past })
      sides Second = subst (λ n. IsStoppedSide pairing Second n both.second) (sym a) is

  pub first_arrives : (arrivals : Arrivals) (r : Result Bool PairBad) (now : SideNow) → Arrives pairing First arrivals both.first now r → (next : PairNow)
      → next.first ≡ now → next.second ≡ pair.second → next.travels ≡ pair.travels → ArrivesIn pairing First arrivals both next r
  first_arrives arrivals (Ok false) now (none, is) next a b c = (none, with_first_stands now both.first both is refl refl refl refl next a b c)
  first_arrives arrivals (Ok true) now (item, some, room, is) next a b c =
      (item, some, room, with_first_stands now (arrived_side arrivals both.first item) (arrived arrivals both First item) is refl refl refl refl next a b c)
  first_arrives arrivals (Err TooManySteps) now (item, some, full, is) next a b c = (item, some, full, stopped_first now is next a b c)
  first_arrives arrivals (Err NoMemory) now s next a b c = tt

  pub second_arrives : (arrivals : Arrivals) (r : Result Bool PairBad) (now : SideNow) → Arrives pairing Second arrivals both.second now r → (next : PairNow)
      → next.second ≡ now → next.first ≡ pair.first → next.travels ≡ pair.travels → ArrivesIn pairing Second arrivals both next r
  second_arrives arrivals (Ok false) now (none, is) next a b c = (none, with_second_stands now both.second both is refl refl refl refl next a b c)
  second_arrives arrivals (Ok true) now (item, some, room, is) next a b c =
      (item, some, room, with_second_stands now (arrived_side arrivals both.second item) (arrived arrivals both Second item) is refl refl refl refl next a b c)
  second_arrives arrivals (Err TooManySteps) now (item, some, full, is) next a b c = (item, some, full, stopped_second now is next a b c)
  second_arrives arrivals (Err NoMemory) now s next a b c = tt

  -- 4. A packet is sent

  set_end : (ts : List Travel) (x y : Travel) → slice_set (ts ++ x ∷ []) (length ts) y ≡ ts ++ y ∷ []
  set_end [] x y = refl
  set_end (t ∷ ts) x y = ap (λ us. t ∷ us) (set_end ts x y)

  abbrev sent_travel : Which → ℕ → ℕ → Travel
  sent_travel which number packet = record { number = number; legs = record { which = which; packet = packet } ∷ []; refused = None }

  pub first_leg_of : (number : ℕ) → travel (with_travel both number) (length both.travels) ≡ record { number = number; legs = []; refused = None }
  first_leg_of number = push_here both.travels (record { number = number; legs = []; refused = None }) no_travel

  sent_travels : (which : Which) (site : SiteNo) (number : ℕ) (bytes : List ℕ)
      → (sent both which site number bytes).travels ≡ both.travels ++ sent_travel which number (length (side both which).inputs) ∷ []
  sent_travels First site number bytes =
      ap (λ (t : Travel). slice_set (both.travels ++ record { number = number; legs = []; refused = None } ∷ []) (length both.travels)
      (record t { legs = t.legs ++ record { which = First; packet = length both.first.inputs } ∷ [] })) (first_leg_of number)
      ∙ set_end both.travels (record { number = number; legs = []; refused = None }) (sent_travel First number (length both.first.inputs))
  sent_travels Second site number bytes =
      ap (λ (t : Travel). slice_set (both.travels ++ record { number = number; legs = []; refused = None } ∷ []) (length both.travels)
      (record t { legs = t.legs ++ record { which = Second; packet = length both.second.inputs } ∷ [] })) (first_leg_of number)
      ∙ set_end both.travels (record { number = number; legs = []; refused = None }) (sent_travel Second number (length both.second.inputs))

  more_travels : (which : Which) (site : SiteNo) (number : ℕ) (bytes : List ℕ) → length (sent both which site number bytes).travels ≡ length both.travels + 1
  more_travels which site number bytes =
      ap length (sent_travels which site number bytes) ∙ length_push both.travels (sent_travel which number (length (side both which).inputs))

  less_on : (x n m : ℕ) → x < n → m ≡ n + 1 → x < m
  less_on x n m f g = omega (arith, f, g)

  sent_belong : (which : Which) (site : SiteNo) (number : ℕ) (bytes : List ℕ) → Belong (sent both which site number bytes)
  sent_belong First site number bytes First j below =
      let more = more_travels First site number bytes in
      pushed_belong both.first.owners (length both.travels) (length both.travels) (length (sent both First site number bytes).travels)
      (h.belong First) (omega (arith, more)) (omega (arith, more)) j below
  sent_belong First site number bytes Second j below =
      less_on (slice_index_or both.second.owners j 0) (length both.travels) (length (sent both First site number bytes).travels) (h.belong Second j below)
      (more_travels First site number bytes)
  sent_belong Second site number bytes First j below =
      less_on (slice_index_or both.first.owners j 0) (length both.travels) (length (sent both Second site number bytes).travels) (h.belong First j below)
      (more_travels Second site number bytes)
  sent_belong Second site number bytes Second j below =
      let more = more_travels Second site number bytes in
      pushed_belong both.second.owners (length both.travels) (length both.travels) (length (sent both Second site number bytes).travels)
      (h.belong Second) (omega (arith, more)) (omega (arith, more)) j below

  pub first_sends : (site : SiteNo) (number : ℕ) (bytes : List ℕ) (owner packet : ℕ) (now : SideNow)
      → Enters pairing First both.first site number bytes owner now (Ok packet) → owner ≡ length both.travels → (next : PairNow)
      → next.first ≡ now → next.second ≡ pair.second → next.travels ≡ pair.travels ++ sent_travel First number packet ∷ []
      → Tries pairing both (sent both First site number bytes) (refusal_on pairing both First (Inject site number) bytes) next (Ok tt)
  first_sends site number bytes owner packet now (none, counted, is) owns next a b c = (
    none,
    record {
      sides = sides;
      travels = c ∙ ap (λ ts. ts ++ sent_travel First number packet ∷ []) h.travels
          ∙ ap (λ n. both.travels ++ sent_travel First number n ∷ []) counted
          ∙ sym (sent_travels First site number bytes);
      belong = sent_belong First site number bytes;
    },
  )
    where
      sides : (which : Which) → IsSide pairing which (side_of next which) (side (sent both First site number bytes) which)
      sides First = subst (λ n. IsSide pairing First n (entered_side both.first site number bytes (length both.travels))) (sym a)
          (subst (λ o. IsSide pairing First now (entered_side both.first site number bytes o)) owns is)
      sides Second = subst (λ n. IsSide pairing Second n both.second) (sym b) (h.sides Second)

  pub second_sends : (site : SiteNo) (number : ℕ) (bytes : List ℕ) (owner packet : ℕ) (now : SideNow)
      → Enters pairing Second both.second site number bytes owner now (Ok packet) → owner ≡ length both.travels → (next : PairNow)
      → next.second ≡ now → next.first ≡ pair.first → next.travels ≡ pair.travels ++ sent_travel Second number packet ∷ []
      → Tries pairing both (sent both Second site number bytes) (refusal_on pairing both Second (Inject site number) bytes) next (Ok tt)
  second_sends site number bytes owner packet now (none, counted, is) owns next a b c = (
    none,
    record {
      sides = sides;
      travels = c ∙ ap (λ ts. ts ++ sent_travel Second number packet ∷ []) h.travels
          ∙ ap (λ n. both.travels ++ sent_travel Second number n ∷ []) counted
          ∙ sym (sent_travels Second site number bytes);
      belong = sent_belong Second site number bytes;
    },
  )
    where
      sides : (which : Which) → IsSide pairing which (side_of next which) (side (sent both Second site number bytes) which)
      sides First = subst (λ n. IsSide pairing First n both.first) (sym b) (h.sides First)
      sides Second = subst (λ n. IsSide pairing Second n (entered_side both.second site number bytes (length both.travels))) (sym a)
          (subst (λ o. IsSide pairing Second now (entered_side both.second site number bytes o)) owns is)

  pub first_sends_not : (site : SiteNo) (number : ℕ) (bytes : List ℕ) (owner : ℕ) (why : Refused) (now : SideNow)
      → Enters pairing First both.first site number bytes owner now (Err why) → (next : PairNow)
      → next.first ≡ now → next.second ≡ pair.second → next.travels ≡ pair.travels
      → Tries pairing both (sent both First site number bytes) (refusal_on pairing both First (Inject site number) bytes) next (Err why)
  first_sends_not site number bytes owner cause.NoMemory now e next a b c = tt
  first_sends_not site number bytes owner why now (some, is) next a b c = (some, with_first_stands now both.first both is refl refl refl refl next a b c)

  pub second_sends_not : (site : SiteNo) (number : ℕ) (bytes : List ℕ) (owner : ℕ) (why : Refused) (now : SideNow)
      → Enters pairing Second both.second site number bytes owner now (Err why) → (next : PairNow)
      → next.second ≡ now → next.first ≡ pair.first → next.travels ≡ pair.travels
      → Tries pairing both (sent both Second site number bytes) (refusal_on pairing both Second (Inject site number) bytes) next (Err why)
  second_sends_not site number bytes owner cause.NoMemory now e next a b c = tt
  second_sends_not site number bytes owner why now (some, is) next a b c = (some, with_second_stands now both.second both is refl refl refl refl next a b c)
