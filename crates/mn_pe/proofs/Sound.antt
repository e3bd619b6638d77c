-- Each VRF still holds what it should.
use Rattle.std.proofs.Common.{ℕ, zero, suc, ◌≡◌, ◌≢◌, ◌<◌, ◌≤◌, inl, inr, Bool, true, false, cond, ◌^◌, List, [], ◌∷◌, map, filter, length, refl, sym, ◌∙◌}
use Rattle.std.proofs.Common.{ap, subst, Option, None, Some}
use Rattle.std.specs.Option.{option_map, option_and_then}
use Rattle.std.specs.Prelude.{slice_set, slice_index_or, ◌||◌, ◌==◌, if◌then◌else◌}
use Rattle.std.specs.List.{AllByRecursion}
use Rattle.std.proofs.lemmas.List.{set-get_or, get_or-set_same, get_or_default}
use Rattle.mn_base.specs.declared.numbers.Rd.{Rd}
use Rattle.mn_prefix.specs.Prefix.{AddressBlock}
use Rattle.mn_base.proofs.Bools.{or_true}
use Rattle.mn_base.proofs.Members.{In}
use Rattle.mn_base.specs.Ordered.{Ascends, with_one, without_one}
use Rattle.mn_base.proofs.Places.{ascends_with, ascends_without, all_filter, all_append}
use Rattle.mn_rib_in.specs.Heard.{Heard, heard_before, place_of, with_heard, without_heard}
use Rattle.mn_rib_in.proofs.Orders.{heard_order}
use Rattle.mn_targets.specs.Targets.{meet}
use Rattle.mn_vrf.specs.declared.source.Source.{Source}
use Rattle.mn_vrf.specs.Routes.{route_before}
use Rattle.mn_vrf.specs.Vrf.{VrfState, Holding}
use Rattle.mn_pe.specs.Edge.{Edge, heard_of_peer, after_withdrawn, after_reached, after_update, after_forget}
use Rattle.mn_pe.specs.Held.{held_by, in_order}
use Rattle.mn_pe.proofs.Offers.{far_of, raw_of, with_peer, offered, HasOnePlaces, set_length}
use Rattle.mn_pe.proofs.Retracts.{retracted, ignored}
use Rattle.mn_pe.proofs.OnePlaces.{IsKept, all_in, one_places}
use Rattle.mn_bgp_wire.specs.Says.{Says}
use Rattle.mn_vpn_nlri.specs.declared.message.VpnRoute.{VpnRoute}
use Rattle.mn_base.specs.declared.numbers.Rt.{Rt}
use Rattle.mn_base.specs.declared.numbers.VrfNo.{VrfNo}
use Rattle.mn_pe.specs.Pe.{InOrder, HaveLabels, AreLabelled, AllHold, IsSound, taking, giving, after_giving, after_taking, edge_of, after_forgetting}
use Rattle.mn_pe.specs.Pe.{PeNow, numbered, found_in}
use Rattle.mn_pe.proofs.Becomes.{Becomes, becomes}

pub all_map : {A : Type 0} {B : Type 0} (f : A → B) (P : A → Type 0) (Q : B → Type 0) (xs : List A) → ((x : A) → In xs x → P x → Q (f x)) →
    AllByRecursion P xs → AllByRecursion Q (map f xs)
all_map f P Q [] h all = tt
all_map f P Q (x ∷ xs) h all = (h x (inl refl) all.0, all_map f P Q xs (λ y i. h y (inr i)) all.1)

pub in_vrfs : (hs : List Holding) (h : Holding) → In hs h → In (map (λ (x : Holding). x.vrf) hs) h.vrf
in_vrfs [] h i = absurd i
in_vrfs (x ∷ hs) h i = elim i [ inl e ↦ inl (ap (λ (y : Holding). y.vrf) e) | inr j ↦ inr (in_vrfs hs h j) ]

ascends_at_peer : (heard : List (List Heard)) (k : ℕ) → AllByRecursion (Ascends heard_before) heard → Ascends heard_before (slice_index_or heard k [])
ascends_at_peer [] k h = tt
ascends_at_peer (x ∷ xs) zero h = h.0
ascends_at_peer (x ∷ xs) (suc k) h = ascends_at_peer xs k h.1

pub labels_at_peer : (heard : List (List Heard)) (k : ℕ) → AllByRecursion HaveLabels heard → HaveLabels (slice_index_or heard k [])
labels_at_peer [] k h = tt
labels_at_peer (x ∷ xs) zero h = h.0
labels_at_peer (x ∷ xs) (suc k) h = labels_at_peer xs k h.1

pub all_with : {A : Type 0} (before : A → A → Bool) (P : A → Type 0) (x : A) (xs : List A) → P x → AllByRecursion P xs → AllByRecursion P (with_one before x xs)
all_with before P x xs h all = all_append P (filter (λ y. before y x) xs) (x ∷ filter (λ y. before x y) xs) (all_filter P (λ y. before y x) xs all)
    (h, all_filter P (λ y. before x y) xs all)

all_set : {A : Type 0} (P : A → Type 0) (xs : List A) (at : ℕ) (y : A) → P y → AllByRecursion P xs → AllByRecursion P (slice_set xs at y)
all_set P [] at y h all = tt
all_set P (x ∷ xs) zero y h all = (h, all.1)
all_set P (x ∷ xs) (suc at) y h all = (all.0, all_set P xs at y h all.1)

pub kept_of : (edge : Edge) → InOrder edge → IsKept edge
kept_of edge order = record {
  statics = λ vrf i. all_in (λ (u : VrfState). Ascends _ u.statics) edge.vrfs vrf order.statics i;
  vrfs = order.vrfs;
  heard = λ k. ascends_at_peer edge.heard k order.heard;
  loopbacks = order.loopbacks;
}

module _ (edge : Edge) (q : ℕ) (below : q < length edge.heard) where
  abbrev pub now : List Heard → Edge
  now heard = record edge { heard = slice_set edge.heard q heard }

  pub still : now (heard_of_peer edge q) ≡ edge
  still = ap (λ (hs : List (List Heard)). record edge { heard = hs }) (set-get_or edge.heard q [])

  pub order_now : (heard : List Heard) → Ascends heard_before heard → HaveLabels heard → InOrder edge → InOrder (now heard)
  order_now heard up fit order = record {
    few = subst (λ n. n ≤ 65536) (sym (set_length edge.heard q heard)) order.few;
    statics = order.statics;
    vrfs = order.vrfs;
    homes = order.homes;
    heard = all_set (Ascends heard_before) edge.heard q heard up order.heard;
    labels = all_set HaveLabels edge.heard q heard fit order.labels;
    loopbacks = λ j k d h g. order.loopbacks j k d (subst (λ n. j < n) (set_length edge.heard q heard) h)
        (subst (λ n. k < n) (set_length edge.heard q heard) g);
  }

  module _ (holdings : List Holding) (same : map (λ (x : Holding). x.vrf) holdings ≡ edge.vrfs) (sound : IsSound edge holdings) where
    abbrev pub old : List Heard
    old = heard_of_peer edge q

    one : (heard : List Heard) → Ascends heard_before heard → HaveLabels heard → (h : Holding) → In holdings h →
        HasOnePlaces (raw_of edge h.vrf q below (with_peer edge h.vrf q below heard))
    unfolding raw_of
    one heard up fit h i = one_places (now heard) h.vrf (kept_of (now heard) (order_now heard up fit sound.order))
        (subst (λ us. In us h.vrf) same (in_vrfs holdings h i))

    differ : (k : ℕ) → k ≢ q → k < length edge.heard → slice_index_or edge.loopbacks k 0 ≢ slice_index_or edge.loopbacks q 0
    differ k d h = sound.order.loopbacks k q d h below

    old_up : Ascends heard_before old
    old_up = ascends_at_peer edge.heard q sound.order.heard

    old_fit : HaveLabels old
    old_fit = labels_at_peer edge.heard q sound.order.labels

    with_fit : (r : Heard) → r.label < 2 ^ 20 → HaveLabels (with_heard r old)
    with_fit r fits = all_with heard_before (λ (x : Heard). x.label < 2 ^ 20) r old fits old_fit

    before_is : (h : Holding) → h.held ≡ held_by edge h.vrf → h.held ≡ in_order (raw_of edge h.vrf q below (with_peer edge h.vrf q below old))
    unfolding raw_of
    before_is h e = e ∙ ap (λ x. held_by x h.vrf) (sym still)

    pub taken : (r : Heard) → r.label < 2 ^ 20 → IsSound (now (with_heard r old)) (map (taking (far_of edge q r) r.targets) holdings)
    unfolding raw_of
    taken r fits = record {
      order = order_now (with_heard r old) (ascends_with heard_before r old heard_order old_up) (with_fit r fits) sound.order;
      held = all_map (taking (far_of edge q r) r.targets) (λ h. h.held ≡ held_by edge h.vrf) (λ h. h.held ≡ held_by (now (with_heard r old)) h.vrf) holdings
          (λ h i e. go h i e (meet r.targets h.vrf.imports) refl) sound.held;
    }
      where
        go : (h : Holding) → In holdings h → h.held ≡ held_by edge h.vrf → (b : Bool) → meet r.targets h.vrf.imports ≡ b →
            (taking (far_of edge q r) r.targets h).held ≡ held_by (now (with_heard r old)) h.vrf
        go h i e true m =
            ap (λ b. cond b (with_one route_before (far_of edge q r) h.held) (without_one route_before (far_of edge q r) h.held)) m
            ∙ ap (with_one route_before (far_of edge q r)) (before_is h e)
            ∙ sym (offered edge h.vrf q below old r m (one old old_up old_fit h i)
            (one (with_heard r old) (ascends_with heard_before r old heard_order old_up) (with_fit r fits) h i))
        go h i e false m =
            ap (λ b. cond b (with_one route_before (far_of edge q r) h.held) (without_one route_before (far_of edge q r) h.held)) m
            ∙ ap (without_one route_before (far_of edge q r)) (before_is h e)
            ∙ sym (ignored edge h.vrf q below differ old r m (one old old_up old_fit h i)
            (one (with_heard r old) (ascends_with heard_before r old heard_order old_up) (with_fit r fits) h i))

    without_fit : (rd : Rd) (p : AddressBlock) → HaveLabels (without_heard rd p old)
    without_fit rd p = all_filter (λ (x : Heard). x.label < 2 ^ 20) (λ z. heard_before z (place_of rd p) || heard_before (place_of rd p) z) old old_fit

    pub given : (rd : Rd) (p : AddressBlock) → IsSound (now (without_heard rd p old)) (map (giving (far_of edge q (place_of rd p))) holdings)
    unfolding raw_of
    given rd p = record {
      order = order_now (without_heard rd p old) (ascends_without heard_before (place_of rd p) old old_up) (without_fit rd p) sound.order;
      held = all_map (giving (far_of edge q (place_of rd p))) (λ h. h.held ≡ held_by edge h.vrf)
          (λ h. h.held ≡ held_by (now (without_heard rd p old)) h.vrf) holdings (λ h i e.
          ap (without_one route_before (far_of edge q (place_of rd p))) (before_is h e)
          ∙ sym (retracted edge h.vrf q below differ old rd p (one old old_up old_fit h i)
          (one (without_heard rd p old) (ascends_without heard_before (place_of rd p) old old_up) (without_fit rd p) h i))) sound.held;
    }

-- One UPDATE

pub set_twice : {A : Type 0} (xs : List A) (at : ℕ) (x y : A) → slice_set (slice_set xs at x) at y ≡ slice_set xs at y
set_twice [] at x y = refl
set_twice (z ∷ xs) zero x y = refl
set_twice (z ∷ xs) (suc at) x y = ap (λ zs. z ∷ zs) (set_twice xs at x y)

vrfs_stay : (f : Holding → Holding) → ((h : Holding) → (f h).vrf ≡ h.vrf) → (hs : List Holding) →
    map (λ (h : Holding). h.vrf) (map f hs) ≡ map (λ (h : Holding). h.vrf) hs
vrfs_stay f e [] = refl
vrfs_stay f e (h ∷ hs) = ap (λ v. v ∷ map (λ (x : Holding). x.vrf) (map f hs)) (e h) ∙ ap (λ vs. h.vrf ∷ vs) (vrfs_stay f e hs)

pub vrfs_after_giving : (loopback peer : ℕ) (hs : List Holding) (routes : List VpnRoute) →
    map (λ (h : Holding). h.vrf) (after_giving loopback peer hs routes) ≡ map (λ (h : Holding). h.vrf) hs
vrfs_after_giving loopback peer hs [] = refl
vrfs_after_giving loopback peer hs (r ∷ rs) = vrfs_after_giving loopback peer (map (giving _) hs) rs ∙ vrfs_stay (giving _) (λ h. refl) hs

pub vrfs_after_taking : (loopback peer : ℕ) (ts : List Rt) (hs : List Holding) (routes : List VpnRoute) →
    map (λ (h : Holding). h.vrf) (after_taking loopback peer ts hs routes) ≡ map (λ (h : Holding). h.vrf) hs
vrfs_after_taking loopback peer ts hs [] = refl
vrfs_after_taking loopback peer ts hs (r ∷ rs) = vrfs_after_taking loopback peer ts (map (taking _ ts) hs) rs ∙ vrfs_stay (taking _ ts) (λ h. refl) hs

module _ (q : ℕ) where
  lengths : (edge : Edge) (heard : List Heard) → q < length edge.heard → q < length (slice_set edge.heard q heard)
  lengths edge heard below = subst (λ n. q < n) (sym (set_length edge.heard q heard)) below

  -- one change after another
  again : (edge : Edge) (below : q < length edge.heard) (one : List Heard) (f : List Heard → List Heard) →
      now (now edge q below one) q (lengths edge one below) (f (heard_of_peer (now edge q below one) q)) ≡ now edge q below (f one)
  again edge below one f =
      ap (λ (hs : List (List Heard)). record edge { heard = hs }) (set_twice edge.heard q one (f (heard_of_peer (now edge q below one) q)))
      ∙ ap (λ (hs : List Heard). now edge q below (f hs)) (get_or-set_same edge.heard q one [] below)

  pub gives : (routes : List VpnRoute) (edge : Edge) (below : q < length edge.heard) (hs : List Holding) → map (λ (h : Holding). h.vrf) hs ≡ edge.vrfs →
      IsSound edge hs
      → IsSound (now edge q below (after_withdrawn (heard_of_peer edge q) routes)) (after_giving (slice_index_or edge.loopbacks q 0) q hs routes)
  gives [] edge below hs same sound = subst (λ x. IsSound x hs) (sym (still edge q below)) sound
  gives (r ∷ rs) edge below hs same sound =
      let one : List Heard = without_heard r.rd r.prefix (heard_of_peer edge q) in
      let next : List Holding = map (giving (far_of edge q (place_of r.rd r.prefix))) hs in
      subst (λ x. IsSound x (after_giving (slice_index_or edge.loopbacks q 0) q next rs)) (again edge below one (λ xs. after_withdrawn xs rs))
      (gives rs (now edge q below one) (lengths edge one below) next (vrfs_stay (giving (far_of edge q (place_of r.rd r.prefix))) (λ h. refl) hs ∙ same)
      (given edge q below hs same sound r.rd r.prefix))

  pub takes : (ts : List Rt) (routes : List VpnRoute) (edge : Edge) (below : q < length edge.heard) (hs : List Holding) → AreLabelled routes →
      map (λ (h : Holding). h.vrf) hs ≡ edge.vrfs → IsSound edge hs
      → IsSound (now edge q below (after_reached ts (heard_of_peer edge q) routes)) (after_taking (slice_index_or edge.loopbacks q 0) q ts hs routes)
  takes ts [] edge below hs fit same sound = subst (λ x. IsSound x hs) (sym (still edge q below)) sound
  takes ts (r ∷ rs) edge below hs fit same sound =
      let route : Heard = record { rd = r.rd; prefix = r.prefix; label = r.label; targets = ts } in
      let one : List Heard = with_heard route (heard_of_peer edge q) in
      let next : List Holding = map (taking (far_of edge q route) ts) hs in
      subst (λ x. IsSound x (after_taking (slice_index_or edge.loopbacks q 0) q ts next rs)) (again edge below one (λ xs. after_reached ts xs rs))
      (takes ts rs (now edge q below one) (lengths edge one below) next fit.1 (vrfs_stay (taking (far_of edge q route) ts) (λ h. refl) hs ∙ same)
      (taken edge q below hs same sound route fit.0))

  pub hears : (ts : List Rt) (ws rs : List VpnRoute) (edge : Edge) (below : q < length edge.heard) (hs : List Holding) → AreLabelled rs →
      map (λ (h : Holding). h.vrf) hs ≡ edge.vrfs → IsSound edge hs
      → IsSound (now edge q below (after_reached ts (after_withdrawn (heard_of_peer edge q) ws) rs))
      (after_taking (slice_index_or edge.loopbacks q 0) q ts (after_giving (slice_index_or edge.loopbacks q 0) q hs ws) rs)
  hears ts ws rs edge below hs fit same sound =
      let one : List Heard = after_withdrawn (heard_of_peer edge q) ws in
      let next : List Holding = after_giving (slice_index_or edge.loopbacks q 0) q hs ws in
      subst (λ x. IsSound x (after_taking (slice_index_or edge.loopbacks q 0) q ts next rs)) (again edge below one (λ xs. after_reached ts xs rs))
      (takes ts rs (now edge q below one) (lengths edge one below) next fit (vrfs_after_giving (slice_index_or edge.loopbacks q 0) q hs ws ∙ same)
      (gives ws edge below hs same sound))

-- the edge of the VRFs as they are now
pub edge_now : (new old : List Holding) (sites : List VrfNo) (labels : List (Option ℕ)) (loopbacks : List ℕ) (hs : List (List Heard)) (q : ℕ)
    (one two : List Heard) → map (λ (h : Holding). h.vrf) new ≡ map (λ (h : Holding). h.vrf) old
    → edge_of new sites labels loopbacks (slice_set (slice_set hs q one) q two) ≡ edge_of old sites labels loopbacks (slice_set hs q two)
edge_now new old sites labels loopbacks hs q one two same =
    ap (λ (vs : List VrfState). record { vrfs = vs; sites = sites; labels = labels; loopbacks = loopbacks; heard = slice_set (slice_set hs q one) q two }) same
    ∙ ap (λ (xs : List (List Heard)). record { vrfs = map (λ (h : Holding). h.vrf) old; sites = sites; labels = labels; loopbacks = loopbacks; heard = xs })
    (set_twice hs q one two)

-- an UPDATE is received, by what was found and made on the way
pub record Found (holdings : List Holding) (hs : List (List Heard)) (lb q : ℕ) (says : Says) (at_first at_last one two : List Heard)
    (given taken : List Holding) : Type 0 where
  pub first_is : at_first ≡ slice_index_or hs q at_first
  pub one_is : one ≡ after_withdrawn at_first says.withdrawn
  pub given_is : given ≡ after_giving lb q holdings says.withdrawn
  pub last_is : at_last ≡ slice_index_or (slice_set hs q one) q at_last
  pub two_is : two ≡ after_reached says.targets at_last says.reached
  pub taken_is : taken ≡ after_taking lb q says.targets given says.reached

module _ (holdings : List Holding) (sites : List VrfNo) (labels : List (Option ℕ)) (lbs : List ℕ) (hs : List (List Heard)) (q : ℕ) (says : Says)
    (at_first at_last one two : List Heard) (given taken : List Holding) (below : q < length hs)
    (found : Found holdings hs (slice_index_or lbs q 0) q says at_first at_last one two given taken) where
  now_heard : two ≡ after_reached says.targets (after_withdrawn (slice_index_or hs q []) says.withdrawn) says.reached
  now_heard =
      found.two_is
      ∙ ap (λ xs. after_reached says.targets xs says.reached)
      (found.last_is ∙ get_or-set_same hs q one at_last below ∙ found.one_is
      ∙ ap (λ xs. after_withdrawn xs says.withdrawn) (found.first_is ∙ get_or_default hs q at_first [] below))

  now_holding : taken ≡ after_taking (slice_index_or lbs q 0) q says.targets (after_giving (slice_index_or lbs q 0) q holdings says.withdrawn) says.reached
  now_holding = found.taken_is ∙ ap (λ xs. after_taking (slice_index_or lbs q 0) q says.targets xs says.reached) found.given_is

  same_vrfs : map (λ (h : Holding). h.vrf) taken ≡ map (λ (h : Holding). h.vrf) holdings
  same_vrfs =
      ap (map (λ (h : Holding). h.vrf)) now_holding
      ∙ vrfs_after_taking (slice_index_or lbs q 0) q says.targets (after_giving (slice_index_or lbs q 0) q holdings says.withdrawn) says.reached
      ∙ vrfs_after_giving (slice_index_or lbs q 0) q holdings says.withdrawn

  heard_edge : edge_of taken sites labels lbs (slice_set (slice_set hs q one) q two) ≡ after_update (edge_of holdings sites labels lbs hs) q says
  heard_edge = edge_now taken holdings sites labels lbs hs q one two same_vrfs
      ∙ ap (λ (xs : List Heard). edge_of holdings sites labels lbs (slice_set hs q xs)) now_heard

  pub heard_then : AreLabelled says.reached → IsSound (edge_of holdings sites labels lbs hs) holdings →
      Becomes taken sites labels lbs (slice_set (slice_set hs q one) q two) (after_update (edge_of holdings sites labels lbs hs) q says)
  heard_then fit sound =
      becomes taken sites labels lbs (slice_set (slice_set hs q one) q two) (after_update (edge_of holdings sites labels lbs hs) q says) heard_edge
      (subst (IsSound (after_update (edge_of holdings sites labels lbs hs) q says)) (sym now_holding)
      (hears q says.targets says.withdrawn says.reached (edge_of holdings sites labels lbs hs) below holdings fit refl sound))

-- The end of a session

route_at : Heard → VpnRoute
route_at heard = record { rd = heard.rd; prefix = heard.prefix; label = 0 }

forgets : (loopback q : ℕ) (holdings : List Holding) (heard : List Heard) →
    after_forgetting loopback q holdings heard ≡ after_giving loopback q holdings (map route_at heard)
unfolding route_at
forgets loopback q holdings [] = refl
forgets loopback q holdings (h ∷ hs) = forgets loopback q (map (giving _) holdings) hs

-- the first of an ascending list is withdrawn
first_goes : (h : Heard) (hs : List Heard) → Ascends heard_before (h ∷ hs) → without_heard h.rd h.prefix (h ∷ hs) ≡ hs
first_goes h hs up = by_self (heard_before h h) refl ∙ rest hs up.0
  where
    by_self : (b : Bool) → heard_before h h ≡ b → without_heard h.rd h.prefix (h ∷ hs) ≡ without_heard h.rd h.prefix hs
    by_self true e = absurd (heard_order.one_way h h e e)
    by_self false e = ap (λ b. cond (b || b) (h ∷ without_heard h.rd h.prefix hs) (without_heard h.rd h.prefix hs)) e

    rest : (xs : List Heard) → AllByRecursion (λ y. heard_before h y ≡ true) xs → without_heard h.rd h.prefix xs ≡ xs
    rest [] all = refl
    rest (x ∷ xs) all = ap (λ b. cond (heard_before x h || b) (x ∷ without_heard h.rd h.prefix xs) (without_heard h.rd h.prefix xs)) all.0
        ∙ ap (λ b. cond b (x ∷ without_heard h.rd h.prefix xs) (without_heard h.rd h.prefix xs)) (or_true (heard_before x h))
        ∙ ap (λ ys. x ∷ ys) (rest xs all.1)

all_go : (hs : List Heard) → Ascends heard_before hs → after_withdrawn hs (map route_at hs) ≡ []
unfolding route_at
all_go [] up = refl
all_go (h ∷ hs) up = ap (λ xs. after_withdrawn xs (map route_at hs)) (first_goes h hs up) ∙ all_go hs up.1

vrfs_after_forgetting : (loopback peer : ℕ) (hs : List Holding) (heard : List Heard) →
    map (λ (h : Holding). h.vrf) (after_forgetting loopback peer hs heard) ≡ map (λ (h : Holding). h.vrf) hs
vrfs_after_forgetting loopback peer hs [] = refl
vrfs_after_forgetting loopback peer hs (r ∷ rs) = vrfs_after_forgetting loopback peer (map (giving _) hs) rs ∙ vrfs_stay (giving _) (λ h. refl) hs

module _ (holdings new : List Holding) (sites : List VrfNo) (labels : List (Option ℕ)) (lbs : List ℕ) (hs : List (List Heard)) (left : List Heard) (q : ℕ)
    (below : q < length hs) (new_is : new ≡ after_forgetting (slice_index_or lbs q 0) q holdings (slice_index_or hs q [])) (left_is : left ≡ []) where
  forgot_edge : edge_of new sites labels lbs (slice_set hs q left) ≡ after_forget (edge_of holdings sites labels lbs hs) q
  forgot_edge =
      ap (λ (vs : List VrfState). let e : Edge = record { vrfs = vs; sites = sites; labels = labels; loopbacks = lbs; heard = slice_set hs q left } in e)
      (ap (map (λ (h : Holding). h.vrf)) new_is ∙ vrfs_after_forgetting (slice_index_or lbs q 0) q holdings (slice_index_or hs q []))
      ∙ ap (λ (xs : List Heard). edge_of holdings sites labels lbs (slice_set hs q xs)) left_is

  pub forgot : IsSound (edge_of holdings sites labels lbs hs) holdings →
      Becomes new sites labels lbs (slice_set hs q left) (after_forget (edge_of holdings sites labels lbs hs) q)
  forgot sound =
      becomes new sites labels lbs (slice_set hs q left) (after_forget (edge_of holdings sites labels lbs hs) q) forgot_edge
      (subst (IsSound (after_forget (edge_of holdings sites labels lbs hs) q))
      (sym (new_is ∙ forgets (slice_index_or lbs q 0) q holdings (slice_index_or hs q [])))
      (subst (λ (xs : List Heard). IsSound (now (edge_of holdings sites labels lbs hs) q below xs)
      (after_giving (slice_index_or lbs q 0) q holdings (map route_at (slice_index_or hs q []))))
      (all_go (slice_index_or hs q []) (ascends_at_peer hs q sound.order.heard))
      (gives q (map route_at (slice_index_or hs q [])) (edge_of holdings sites labels lbs hs) below holdings refl sound)))

-- What is looked up

pub by_number : (edge : Edge) (v : ℕ) (holdings : List Holding) → AllHold edge holdings → {A : Type 0} (f : List (AddressBlock × Source) → Option A)
    → numbered v (λ (h : Holding). f h.held) holdings ≡ numbered v (λ (h : Holding). f (held_by edge h.vrf)) holdings
by_number edge v [] all f = refl
by_number edge v (h ∷ hs) all f = ap (λ x. if h.vrf.number == v then x else numbered v (λ (g : Holding). f g.held) hs) (ap f all.0)
    ∙ ap (λ x. if h.vrf.number == v then f (held_by edge h.vrf) else x) (by_number edge v hs all.1 f)

pub by_vrfs : {A : Type 0} (v : ℕ) (f : VrfState → Option A) (holdings : List Holding) →
    numbered v (λ (h : Holding). f h.vrf) holdings ≡ found_in v f (map (λ (h : Holding). h.vrf) holdings)
by_vrfs v f [] = refl
by_vrfs v f (h ∷ hs) = ap (λ x. if h.vrf.number == v then f h.vrf else x) (by_vrfs v f hs)

-- what is asked of the VRF of a number is asked of the one that is found, if one is
asked : {A : Type 0} (b : Bool) (f : Holding → Option A) (h : Holding) (rest : Option A) (found : Option Holding) → rest ≡ option_and_then f found →
    (if b then f h else rest) ≡ option_and_then f (if b then Some h else found)
asked true f h rest found e = refl
asked false f h rest found e = e

asks : {A : Type 0} (v : ℕ) (f : Holding → Option A) (hs : List Holding) → numbered v f hs ≡ option_and_then f (numbered v Some hs)
asks v f [] = refl
asks v f (h ∷ hs) = asked (h.vrf.number == v) f h (numbered v f hs) (numbered v Some hs) (asks v f hs)

pub asks_none : {A : Type 0} (v : ℕ) (f : Holding → Option A) (hs : List Holding) → None ≡ numbered v Some hs → numbered v f hs ≡ None
asks_none v f hs found = asks v f hs ∙ ap (option_and_then f) (sym found)

pub asks_one : {A : Type 0} (v : ℕ) (f : Holding → Option A) (hs : List Holding) (h : Holding) → Some h ≡ numbered v Some hs → numbered v f hs ≡ f h
asks_one v f hs h found = asks v f hs ∙ ap (option_and_then f) (sym found)

pub asks_each : {A R : Type 0} (v : ℕ) (f : Holding → A) (hs : List Holding) (now : R → Holding) (o : Option R) → option_map now o ≡ numbered v Some hs →
    option_map (λ x. f (now x)) o ≡ numbered v (λ (h : Holding). Some (f h)) hs
asks_each v f hs now None found = sym (asks_none v (λ (h : Holding). Some (f h)) hs found)
asks_each v f hs now (Some x) found = sym (asks_one v (λ (h : Holding). Some (f h)) hs (now x) found)

-- what is asked of the VRF of a number, of an edge that hasn't failed: it holds what it should
pub looked_up : {A : Type 0} (v : ℕ) (f : List (AddressBlock × Source) → Option A) {items holdings : List Holding} {sites : List VrfNo}
    {labels : List (Option ℕ)} {lbs : List ℕ} {hs : List (List Heard)} {failed : Bool} {p : PeNow} → items ≡ holdings →
    (let q : PeNow = record { edge = edge_of holdings sites labels lbs hs; failed = failed } in q) ≡ p →
    (failed ≡ false → IsSound (edge_of holdings sites labels lbs hs) holdings) → p.failed ≡ false →
    numbered v (λ (h : Holding). f h.held) items ≡ found_in v (λ (state : VrfState). f (held_by p.edge state)) p.edge.vrfs
looked_up v f {holdings = holdings} {sites = sites} {labels = labels} {lbs = lbs} {hs = hs} same view sound works =
    ap (numbered v (λ (h : Holding). f h.held)) same
    ∙ by_number (edge_of holdings sites labels lbs hs) v holdings (sound (ap (λ (q : PeNow). q.failed) view ∙ works)).held f
    ∙ by_vrfs v (λ (state : VrfState). f (held_by (edge_of holdings sites labels lbs hs) state)) holdings
    ∙ ap (λ (q : PeNow). found_in v (λ (state : VrfState). f (held_by q.edge state)) q.edge.vrfs) view
