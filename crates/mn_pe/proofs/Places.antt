-- A change of the VRF at the place of its number is the change of the VRF of that number.
use Rattle.std.proofs.Common.{ℕ, zero, suc, ◌≡◌, ◌≢◌, ◌<◌, Bool, true, false, cond, List, [], ◌∷◌, ◌++◌, map, take, drop, length, refl, arith, sym, ◌∙◌, ap}
use Rattle.std.proofs.Common.{◌+◌, Option, None, subst}
use Rattle.std.specs.Prelude.{Result, Ok, Err, OnOk, OnErr, IfOk, slice_set, slice_index_or, ◌==◌, if◌then◌else◌}
use Rattle.std.specs.List.{AllByRecursion}
use Rattle.std.proofs.lemmas.List.{set-get_or, get_or_default, get_or-set_same, set-set}
use Rattle.mn_base.specs.Ordered.{Ascends}
use Rattle.mn_base.proofs.Bools.{none_below, test_same, other_test, less_tells}
use Rattle.mn_prefix.specs.Prefix.{AddressBlock}
use Rattle.mn_vrf.specs.declared.refusal.VrfBad.{VrfBad}
use Rattle.mn_vrf.specs.declared.source.Source.{Source}
use Rattle.mn_vrf.specs.Vrf.{VrfState, Holding, refusal_of}
use Rattle.mn_pe.specs.Edge.{on_vrf}
use Rattle.mn_pe.specs.Changes.{telling, IsTelling}
use Rattle.mn_pe.specs.Pe.{by_number, found_in, IsAbsent, IsAt, told}
use Rattle.mn_pe.specs.Switched.{at_vrf, IsBy, Nobody, ByVrf}
use Rattle.mn_pe.proofs.Offers.{set_length}
use Rattle.mn_pe.proofs.Walks.{next}

-- what the VRF of a number is told, and no other
module _ (v : ℕ) (f : VrfState → VrfState) (w : VrfState) where
  pub told_there : w.number ≡ v → cond (w.number == v) (f w) w ≡ f w
  told_there e = ap (λ b. cond b (f w) w) (test_same w.number v e)

  pub told_else : w.number ≢ v → cond (w.number == v) (f w) w ≡ w
  told_else d = ap (λ b. cond b (f w) w) (other_test w.number v d)

tail_absent : (v : ℕ) (h : Holding) (hs : List Holding) → IsAbsent v (h ∷ hs) → IsAbsent v hs
tail_absent v h hs absent k d lt = absent (suc k) d (omega (arith, lt))

pub absent_on : (v : ℕ) (f : VrfState → VrfState) (hs : List Holding) → IsAbsent v hs → on_vrf v f (told hs) ≡ told hs
absent_on v f [] absent = refl
absent_on v f (h ∷ hs) absent =
    ap (λ b. cond b (f h.vrf) h.vrf ∷ on_vrf v f (told hs)) (other_test h.vrf.number v (absent 0 h (omega arith)))
    ∙ ap (λ vs. h.vrf ∷ vs) (absent_on v f hs (tail_absent v h hs absent))

pub absent_found : {A : Type 0} (v : ℕ) (g : VrfState → Option A) (hs : List Holding) → IsAbsent v hs → found_in v g (told hs) ≡ None
absent_found v g [] absent = refl
absent_found v g (h ∷ hs) absent =
    ap (λ b. if b then g h.vrf else found_in v g (told hs)) (other_test h.vrf.number v (absent 0 h (omega arith)))
    ∙ absent_found v g hs (tail_absent v h hs absent)

pub told_at : (hs : List Holding) (k : ℕ) (d : Holding) → slice_index_or (told hs) k d.vrf ≡ (slice_index_or hs k d).vrf
told_at [] k d = refl
told_at (h ∷ hs) zero d = refl
told_at (h ∷ hs) (suc k) d = told_at hs k d

all_index : (P : VrfState → Type 0) (hs : List Holding) → AllByRecursion P (told hs) → (k : ℕ) (d : Holding) → k < length hs → P (slice_index_or hs k d).vrf
all_index P [] all k d lt = absurd (none_below k lt)
all_index P (h ∷ hs) all zero d lt = all.0
all_index P (h ∷ hs) all (suc k) d lt = all_index P hs all.1 k d (omega (arith, lt))

-- those behind a VRF have other numbers
others : (v : ℕ) (h : Holding) (hs : List Holding) → Ascends by_number (told (h ∷ hs)) → h.vrf.number ≡ v → IsAbsent v hs
others v h hs up e k d lt same =
    let less : h.vrf.number < (slice_index_or hs k d).vrf.number =
    less_tells h.vrf.number (slice_index_or hs k d).vrf.number (all_index (λ w. by_number h.vrf w ≡ true) hs up.0 k d lt) in
    omega (arith, less, e, same)

tail_at : (v : ℕ) (h : Holding) (hs : List Holding) (at : ℕ) → IsAt v (h ∷ hs) (suc at) → IsAt v hs at
tail_at v h hs at is = record { there = let lt = is.there in omega (arith, lt); is = λ d. is.is d }

-- those before it too
not_first : (v : ℕ) (h : Holding) (hs : List Holding) (at : ℕ) → Ascends by_number (told (h ∷ hs)) → IsAt v hs at → h.vrf.number ≢ v
not_first v h hs at up is e =
    let less : h.vrf.number < (slice_index_or hs at h).vrf.number =
    less_tells h.vrf.number (slice_index_or hs at h).vrf.number (all_index (λ w. by_number h.vrf w ≡ true) hs up.0 at h is.there) in
    let same : (slice_index_or hs at h).vrf.number ≡ v = is.is h in
    omega (arith, less, e, same)

pub changed_at : (v : ℕ) (f : VrfState → VrfState) (hs : List Holding) (at : ℕ) (one new : Holding) → Ascends by_number (told hs) → IsAt v hs at →
    one ≡ slice_index_or hs at one → new.vrf ≡ f one.vrf → told (slice_set hs at new) ≡ on_vrf v f (told hs)
changed_at v f [] at one new up is one_is e = absurd (none_below at is.there)
changed_at v f (h ∷ hs) zero one new up is one_is e =
    ap (λ w. w ∷ told hs) (e ∙ ap (λ (x : Holding). f x.vrf) one_is)
    ∙ ap (λ b. cond b (f h.vrf) h.vrf ∷ told hs) (sym (test_same h.vrf.number v (is.is h)))
    ∙ ap (λ vs. cond (h.vrf.number == v) (f h.vrf) h.vrf ∷ vs) (sym (absent_on v f hs (others v h hs up (is.is h))))
changed_at v f (h ∷ hs) (suc at) one new up is one_is e =
    ap (λ vs. h.vrf ∷ vs) (changed_at v f hs at one new up.1 (tail_at v h hs at is) one_is e)
    ∙ ap (λ b. cond b (f h.vrf) h.vrf ∷ on_vrf v f (told hs)) (sym (other_test h.vrf.number v (not_first v h hs at up (tail_at v h hs at is))))

-- the same of VRFs with what they hold
pub absent_telling : (v : ℕ) (f : VrfState → VrfState) (hs : List Holding) → IsAbsent v hs → map (telling v f) hs ≡ hs
absent_telling v f [] absent = refl
absent_telling v f (h ∷ hs) absent =
    ap (λ b. cond b (let g : Holding = record h { vrf = f h.vrf } in g) h ∷ map (telling v f) hs) (other_test h.vrf.number v (absent 0 h (omega arith)))
    ∙ ap (λ gs. h ∷ gs) (absent_telling v f hs (tail_absent v h hs absent))

pub telling_at : (v : ℕ) (f : VrfState → VrfState) (hs : List Holding) (at : ℕ) (one new : Holding) → Ascends by_number (told hs) → IsAt v hs at →
    one ≡ slice_index_or hs at one → new ≡ record one { vrf = f one.vrf } → slice_set hs at new ≡ map (telling v f) hs
telling_at v f [] at one new up is one_is e = absurd (none_below at is.there)
telling_at v f (h ∷ hs) zero one new up is one_is e =
    ap (λ w. w ∷ hs) (e ∙ ap (λ (x : Holding). let g : Holding = record x { vrf = f x.vrf } in g) one_is)
    ∙ ap (λ b. cond b (let g : Holding = record h { vrf = f h.vrf } in g) h ∷ hs) (sym (test_same h.vrf.number v (is.is h)))
    ∙ ap (λ gs. telling v f h ∷ gs) (sym (absent_telling v f hs (others v h hs up (is.is h))))
telling_at v f (h ∷ hs) (suc at) one new up is one_is e =
    ap (λ gs. h ∷ gs) (telling_at v f hs at one new up.1 (tail_at v h hs at is) one_is e)
    ∙ ap (λ b. cond b (let g : Holding = record h { vrf = f h.vrf } in g) h ∷ map (telling v f) hs)
    (sym (other_test h.vrf.number v (not_first v h hs at up (tail_at v h hs at is))))

pub told_telling : (v : ℕ) (f : VrfState → VrfState) (hs : List Holding) → told (map (telling v f) hs) ≡ on_vrf v f (told hs)
told_telling v f [] = refl
told_telling v f (h ∷ hs) = ap (λ w. w ∷ told (map (telling v f) hs)) (split (h.vrf.number == v))
    ∙ ap (λ ws. cond (h.vrf.number == v) (f h.vrf) h.vrf ∷ ws) (told_telling v f hs)
  where
    split : (b : Bool) → (let g : Holding = cond b (record h { vrf = f h.vrf }) h in g.vrf) ≡ cond b (f h.vrf) h.vrf
    split true = refl
    split false = refl

-- any change of the VRF of a number
absent_at_vrf : (v : ℕ) (f : Holding → Holding) (hs : List Holding) → IsAbsent v hs → map (at_vrf v f) hs ≡ hs
absent_at_vrf v f [] absent = refl
absent_at_vrf v f (h ∷ hs) absent =
    ap (λ b. cond b (f h) h ∷ map (at_vrf v f) hs) (other_test h.vrf.number v (absent 0 h (omega arith)))
    ∙ ap (λ gs. h ∷ gs) (absent_at_vrf v f hs (tail_absent v h hs absent))

pub no_change : (v : ℕ) (f : Holding → Holding) (hs : List Holding) → IsAbsent v hs → hs ≡ map (at_vrf v f) hs
no_change v f hs absent = sym (absent_at_vrf v f hs absent)

pub change_at : (v : ℕ) (f : Holding → Holding) (hs : List Holding) (at : ℕ) (d : Holding) → Ascends by_number (told hs) → IsAt v hs at →
    slice_set hs at (f (slice_index_or hs at d)) ≡ map (at_vrf v f) hs
change_at v f [] at d up is = absurd (none_below at is.there)
change_at v f (h ∷ hs) zero d up is =
    ap (λ b. cond b (f h) h ∷ hs) (sym (test_same h.vrf.number v (is.is h)))
    ∙ ap (λ gs. at_vrf v f h ∷ gs) (sym (absent_at_vrf v f hs (others v h hs up (is.is h))))
change_at v f (h ∷ hs) (suc at) d up is =
    ap (λ gs. h ∷ gs) (change_at v f hs at d up.1 (tail_at v h hs at is))
    ∙ ap (λ b. cond b (f h) h ∷ map (at_vrf v f) hs) (sym (other_test h.vrf.number v (not_first v h hs at up (tail_at v h hs at is))))

-- a VRF that is told nothing
pub told_stays : (hs : List Holding) (at : ℕ) (d g : Holding) → g.vrf ≡ (slice_index_or hs at d).vrf → told (slice_set hs at g) ≡ told hs
told_stays [] at d g e = refl
told_stays (h ∷ hs) zero d g e = ap (λ w. w ∷ told hs) e
told_stays (h ∷ hs) (suc at) d g e = ap (λ ws. h.vrf ∷ ws) (told_stays hs at d g e)

pub found_at : {A : Type 0} (v : ℕ) (g : VrfState → Option A) (hs : List Holding) (at : ℕ) (one : Holding) → Ascends by_number (told hs) → IsAt v hs at →
    one ≡ slice_index_or hs at one → found_in v g (told hs) ≡ g one.vrf
found_at v g [] at one up is one_is = absurd (none_below at is.there)
found_at v g (h ∷ hs) zero one up is one_is =
    ap (λ b. if b then g h.vrf else found_in v g (told hs)) (test_same h.vrf.number v (is.is h)) ∙ sym (ap (λ (x : Holding). g x.vrf) one_is)
found_at v g (h ∷ hs) (suc at) one up is one_is =
    ap (λ b. if b then g h.vrf else found_in v g (told hs)) (other_test h.vrf.number v (not_first v h hs at up (tail_at v h hs at is)))
    ∙ found_at v g hs at one up.1 (tail_at v h hs at is) one_is

pub stays_at : (hs : List Holding) (at : ℕ) (one new : Holding) → one ≡ slice_index_or hs at one → new ≡ one → slice_set hs at new ≡ hs
stays_at hs at one new one_is e = ap (slice_set hs at) (e ∙ one_is) ∙ set-get_or hs at one

pub on_ok : {A E : Type 0} (r : Result A E) (P Q : Type 0) → (P → Q) → OnOk r P → OnOk r Q
on_ok (Ok x) P Q f h = f h
on_ok (Err e) P Q f h = h

pub if_ok : {A E : Type 0} (r : Result A E) {P Q : A → Type 0} → ((x : A) → P x → Q x) → IfOk r P → IfOk r Q
if_ok (Ok x) f h = f x h
if_ok (Err e) f h = h

pub on_err : {A E : Type 0} (r : Result A E) (P Q : Type 0) → (P → Q) → OnErr r P → OnErr r Q
on_err (Ok x) P Q f h = h
on_err (Err e) P Q f h = f h

-- what the VRF of a number is told, if there is one
module _ (v : ℕ) (f : VrfState → VrfState) (g : VrfState → Option VrfBad) (hs seen : List Holding) (same : seen ≡ hs) where
  pub told_nobody : IsAbsent v seen → IsTelling v f g hs hs (Ok tt)
  told_nobody absent =
      let none : IsAbsent v hs = subst (IsAbsent v) same absent in
      record { ok = sym (absent_telling v f hs none); err = tt; refusal = sym (absent_found {A = VrfBad} v g hs none) }

  pub told_one : (at : ℕ) (one new : Holding) (r : Result (Unit {0}) VrfBad) → Ascends by_number (told hs) → IsAt v seen at → one ≡ slice_index_or hs at one →
      OnOk r (new ≡ record one { vrf = f one.vrf }) → OnErr r (new ≡ one) → refusal_of r ≡ g one.vrf → IsTelling v f g hs (slice_set hs at new) r
  told_one at one new r up is one_is ok err refusal =
      let here : IsAt v hs at = subst (λ xs. IsAt v xs at) same is in
      record {
        ok = on_ok r _ _ (telling_at v f hs at one new up here one_is) ok;
        err = on_err r _ _ (stays_at hs at one new one_is) err;
        refusal = refusal ∙ sym (found_at {A = VrfBad} v g hs at one up here one_is);
      }

-- what the VRF of a number changes, if there is one
module _ (v : ℕ) (change : VrfState → Holding → Holding) (old seen : List Holding) (same : seen ≡ old) where
  pub by_nobody : IsAbsent v seen → IsBy v change old old
  by_nobody absent = Nobody (subst (IsAbsent v) same absent) refl

  pub by_one : {E : Type 0} (new : List Holding) (at : ℕ) (r : Result (Unit {0}) E) → IsAt v seen at →
      OnOk r ((d : Holding) → new ≡ map (change (slice_index_or old at d).vrf) old) → OnOk r (IsBy v change old new)
  by_one new at r is made = on_ok r _ _ (ByVrf at (subst (λ xs. IsAt v xs at) same is)) made

-- what VRFs were told stays
pub told_same : (f : Holding → Holding) → ((h : Holding) → (f h).vrf ≡ h.vrf) → (hs : List Holding) (i : ℕ) → told (map f (take i hs) ++ drop i hs) ≡ told hs
told_same f e [] zero = refl
told_same f e [] (suc i) = refl
told_same f e (h ∷ hs) zero = refl
told_same f e (h ∷ hs) (suc i) = ap (λ v. v ∷ told (map f (take i hs) ++ drop i hs)) (e h) ∙ ap (λ vs. h.vrf ∷ vs) (told_same f e hs i)

pub told_map : (f : Holding → Holding) → ((h : Holding) → (f h).vrf ≡ h.vrf) → (hs : List Holding) → told (map f hs) ≡ told hs
told_map f e [] = refl
told_map f e (h ∷ hs) = ap (λ v. v ∷ told (map f hs)) (e h) ∙ ap (λ vs. h.vrf ∷ vs) (told_map f e hs)

-- One VRF more is changed by what the VRF at a place was told.
module _ (change : VrfState → Holding → Holding) (keeps : (u : VrfState) (h : Holding) → (change u h).vrf ≡ h.vrf) (old now : List Holding) (at to : ℕ)
    (d : Holding) (there : to < length old)
    (so_far : now ≡ map (change (slice_index_or old at d).vrf) (take to old) ++ drop to old) where
  abbrev teller : VrfState
  teller = (slice_index_or old at d).vrf

  pub same_teller : (slice_index_or now at d).vrf ≡ teller
  same_teller =
      sym (told_at now at d)
      ∙ ap (λ us. slice_index_or us at d.vrf) (ap told so_far ∙ told_same (change teller) (keeps teller) old to)
      ∙ told_at old at d

  pub one_more : (new e : Holding) → new ≡ change teller (slice_index_or now to e) →
      slice_set now to new ≡ map (change teller) (take (to + 1) old) ++ drop (to + 1) old
  one_more new e made =
      ap (slice_set now to) made ∙ ap (λ hs. slice_set hs to (change teller (slice_index_or hs to e))) so_far ∙ next (change teller) old to e there

  pub told_one_more : (new : List Holding) → new ≡ slice_set now to (change (slice_index_or now at d).vrf (slice_index_or now to d)) →
      new ≡ map (change teller) (take (to + 1) old) ++ drop (to + 1) old
  told_one_more new made =
      made ∙ one_more (change (slice_index_or now at d).vrf (slice_index_or now to d)) d (ap (λ u. change u (slice_index_or now to d)) same_teller)

pub as_many : (old now new : List Holding) (to : ℕ) (h : Holding) → new ≡ slice_set now to h → length now ≡ length old → length new ≡ length old
as_many old now new to h made same = ap length made ∙ set_length now to h ∙ same

-- What a VRF holds is taken out, changed by what the VRF at a place was told, and held again.
module _ (change : VrfState → List (AddressBlock × Source) →
    List (AddressBlock × Source)) (old : List Holding) (at to : ℕ) (d first bare other again last : Holding)
    (there : at < length old) (here : to < length old) (first_is : first ≡ slice_index_or old to first) (bare_is : bare ≡ record first { held = [] })
    (other_is : other ≡ slice_index_or (slice_set old to bare) at other) (again_is : again ≡ slice_index_or (slice_set old to bare) to again) where
  abbrev one : Holding
  one = slice_index_or old to d

  abbrev rest : List Holding
  rest = slice_set old to bare

  first_one : first ≡ one
  first_one = first_is ∙ get_or_default old to first d here

  bare_one : bare ≡ record one { held = [] }
  bare_one = bare_is ∙ ap (λ (h : Holding). record h { held = [] }) first_one

  pub other_told : other.vrf ≡ (slice_index_or old at d).vrf
  other_told =
      ap (λ (h : Holding). h.vrf) (other_is ∙ get_or_default rest at other d (subst (λ n. at < n) (sym (set_length old to bare)) there))
      ∙ sym (told_at rest at d)
      ∙ ap (λ us. slice_index_or us at d.vrf) (told_stays old to d bare (ap (λ (h : Holding). h.vrf) bare_one)) ∙ told_at old at d

  pub held_again : (taken made : List (AddressBlock × Source)) → taken ≡ first.held → made ≡ change other.vrf taken → last ≡ record again { held = made } →
      slice_set rest to last ≡ slice_set old to (record one { held = change (slice_index_or old at d).vrf one.held })
  held_again taken made taken_is made_is last_is =
      ap (slice_set rest to)
      (last_is
      ∙ ap (λ (h : Holding). record h { held = made }) (again_is ∙ get_or-set_same old to bare again here ∙ bare_one)
      ∙ ap (λ ks. record one { held = ks })
      (made_is ∙ ap (λ u. change u taken) other_told
      ∙ ap (change (slice_index_or old at d).vrf) (taken_is ∙ ap (λ (h : Holding). h.held) first_one)))
      ∙ set-set old to bare (record one { held = change (slice_index_or old at d).vrf one.held })
