-- What wasn't received from a peer isn't held, so nothing has to be given up.
use Rattle.std.proofs.Common.{ℕ, ◌≡◌, ◌<◌, ◌^◌, Bool, true, false, cond, List, [], ◌∷◌, map, refl, sym, ◌∙◌, ap, subst}
use Rattle.std.specs.Prelude.{◌||◌, not}
use Rattle.std.specs.List.{AllByRecursion}
use Rattle.std.proofs.lemmas.List.{get_or-set_same}
use Rattle.mn_base.specs.declared.numbers.Rd.{Rd}
use Rattle.mn_base.specs.declared.numbers.Rt.{Rt}
use Rattle.mn_base.specs.Ordered.{with_one, without_one, has_one}
use Rattle.mn_base.proofs.Bools.{or_off}
use Rattle.mn_prefix.specs.Prefix.{AddressBlock}
use Rattle.mn_rib_in.specs.Heard.{Heard, heard_before, place_of, with_heard, without_heard, has_heard}
use Rattle.mn_targets.specs.Targets.{meet}
use Rattle.mn_vrf.specs.declared.source.Source.{Source}
use Rattle.mn_vrf.specs.declared.source.Source.TheVariants.{Own, Near, Far}
use Rattle.mn_vrf.specs.Routes.{route_before}
use Rattle.mn_vrf.specs.Vrf.{Holding}
use Rattle.mn_pe.specs.Edge.{Edge, heard_of_peer}
use Rattle.mn_pe.specs.Held.{far_over}
use Rattle.mn_pe.specs.Pe.{AreOfEdge, AllHold, IsSound, taking, offering, giving, far_route}
use Rattle.mn_pe.proofs.Offers.{far_of, set_length}
use Rattle.mn_pe.proofs.Sound.{now, still, given, taken}

-- 1. Lists
without_none : {A : Type 0} (before : A → A → Bool) (x : A) (ys : List A) → has_one before x ys ≡ false → without_one before x ys ≡ ys
without_none before x [] h = refl
without_none before x (y ∷ ys) h =
    let parts = or_off (not (before y x || before x y)) (has_one before x ys) h in
    ap (λ b. cond b (y ∷ without_one before x ys) (without_one before x ys)) (of (before y x || before x y) parts.0)
    ∙ ap (λ l. y ∷ l) (without_none before x ys parts.1)
  where
    of : (b : Bool) → not b ≡ false → b ≡ true
    of true e = refl
    of false e = cc

-- a far route's label doesn't show in its place
any_label : (p : AddressBlock) (loopback rd peer label : ℕ) (xs : List (AddressBlock × Source)) →
    without_one route_before (p, far_over loopback rd peer label) xs ≡ without_one route_before (p, far_over loopback rd peer 0) xs
any_label p loopback rd peer label [] = refl
any_label p loopback rd peer label ((q, s) ∷ xs) =
    ap (λ b. cond b ((q, s) ∷ without_one route_before (p, far_over loopback rd peer label) xs)
    (without_one route_before (p, far_over loopback rd peer label) xs))
    (by s)
    ∙ ap (λ l. cond (route_before (q, s) (p, far_over loopback rd peer 0) || route_before (p, far_over loopback rd peer 0) (q, s)) ((q, s) ∷ l) l)
    (any_label p loopback rd peer label xs)
  where
    by : (t : Source) → (route_before (q, t) (p, far_over loopback rd peer label) || route_before (p, far_over loopback rd peer label) (q, t))
        ≡ (route_before (q, t) (p, far_over loopback rd peer 0) || route_before (p, far_over loopback rd peer 0) (q, t))
    by (Own site) = refl
    by (Near vrf site) = refl
    by (Far address other edge given) = refl

vrfs_same : (f : Holding → Holding) → ((h : Holding) → (f h).vrf ≡ h.vrf) → (hs : List Holding) →
    map (λ (h : Holding). h.vrf) (map f hs) ≡ map (λ (h : Holding). h.vrf) hs
vrfs_same f e [] = refl
vrfs_same f e (h ∷ hs) = ap (λ v. v ∷ map (λ (x : Holding). x.vrf) (map f hs)) (e h) ∙ ap (λ vs. h.vrf ∷ vs) (vrfs_same f e hs)

with_held : Holding → List (AddressBlock × Source) → Holding
with_held h held = record h { held = held }

-- both hold what they should, so they hold the same
both_hold : (edge : Edge) (r : AddressBlock × Source) (hs : List Holding) → AllHold edge hs → AllHold edge (map (giving r) hs) →
    AllByRecursion (λ (h : Holding). without_one route_before r h.held ≡ h.held) hs
both_hold edge r [] a b = tt
both_hold edge r (h ∷ hs) a b = (b.0 ∙ sym a.0, both_hold edge r hs a.1 b.1)

give_nothing : (r : AddressBlock × Source) (hs : List Holding) → AllByRecursion (λ (h : Holding). without_one route_before r h.held ≡ h.held) hs →
    map (giving r) hs ≡ hs
unfolding with_held
give_nothing r [] all = refl
give_nothing r (h ∷ hs) all = ap (λ held. with_held h held ∷ map (giving r) hs) all.0 ∙ ap (λ l. h ∷ l) (give_nothing r hs all.1)

offer_all : (p : AddressBlock) (loopback rd peer label : ℕ) (ts : List Rt) (hs : List Holding) →
    AllByRecursion (λ (h : Holding). without_one route_before (p, far_over loopback rd peer 0) h.held ≡ h.held) hs →
    map (offering (p, far_over loopback rd peer label) ts) hs ≡ map (taking (p, far_over loopback rd peer label) ts) hs
unfolding with_held
offer_all p loopback rd peer label ts [] all = refl
offer_all p loopback rd peer label ts (h ∷ hs) all =
    let r : AddressBlock × Source = (p, far_over loopback rd peer label) in
    ap (λ held. with_held h (cond (meet ts h.vrf.imports) (with_one route_before r h.held) held) ∷ map (offering r ts) hs)
    (sym (any_label p loopback rd peer label h.held ∙ all.0))
    ∙ ap (λ l. taking r ts h ∷ l) (offer_all p loopback rd peer label ts hs all.1)

-- 2. One route
module _ (hs : List Holding) (heard : List Heard) (loopback q : ℕ) (is : AreOfEdge hs heard loopback q) where
  named : (r : Heard) → far_of is.edge q r ≡ far_route loopback q r.rd r.prefix r.label
  named r = ap (λ n. let route : AddressBlock × Source = (r.prefix, far_over n r.rd.0 q r.label) in route) (sym is.loopback_is)

  gone : (rd : Rd) (p : AddressBlock) →
      IsSound (now is.edge q is.below (without_heard rd p (heard_of_peer is.edge q))) (map (giving (far_route loopback q rd p 0)) hs)
  gone rd p =
      subst (λ r. IsSound (now is.edge q is.below (without_heard rd p (heard_of_peer is.edge q))) (map (giving r) hs)) (named (place_of rd p))
      (given is.edge q is.below hs is.same is.sound rd p)

  pub given-of : (rd : Rd) (p : AddressBlock) → AreOfEdge (map (giving (far_route loopback q rd p 0)) hs) (without_heard rd p heard) loopback q
  given-of rd p = record {
    edge = now is.edge q is.below (without_heard rd p (heard_of_peer is.edge q));
    below = subst (λ n. q < n) (sym (set_length is.edge.heard q (without_heard rd p (heard_of_peer is.edge q)))) is.below;
    same = vrfs_same (giving (far_route loopback q rd p 0)) (λ h. refl) hs ∙ is.same;
    sound = gone rd p;
    heard_is = get_or-set_same is.edge.heard q (without_heard rd p (heard_of_peer is.edge q)) [] is.below ∙ ap (without_heard rd p) is.heard_is;
    loopback_is = is.loopback_is;
  }

  pub taken-of : (r : Heard) → r.label < 2 ^ 20 →
      AreOfEdge (map (taking (far_route loopback q r.rd r.prefix r.label) r.targets) hs) (with_heard r heard) loopback q
  taken-of r fits = record {
    edge = now is.edge q is.below (with_heard r (heard_of_peer is.edge q));
    below = subst (λ n. q < n) (sym (set_length is.edge.heard q (with_heard r (heard_of_peer is.edge q)))) is.below;
    same = vrfs_same (taking (far_route loopback q r.rd r.prefix r.label) r.targets) (λ h. refl) hs ∙ is.same;
    sound = subst (λ x. IsSound (now is.edge q is.below (with_heard r (heard_of_peer is.edge q))) (map (taking x r.targets) hs)) (named r)
        (taken is.edge q is.below hs is.same is.sound r fits);
    heard_is = get_or-set_same is.edge.heard q (with_heard r (heard_of_peer is.edge q)) [] is.below ∙ ap (with_heard r) is.heard_is;
    loopback_is = is.loopback_is;
  }

  module _ (rd : Rd) (p : AddressBlock) (none : has_heard rd p heard ≡ false) where
    not_held : AllByRecursion (λ (h : Holding). without_one route_before (far_route loopback q rd p 0) h.held ≡ h.held) hs
    not_held =
        let old = heard_of_peer is.edge q in
        let stays : without_heard rd p old ≡ old =
        without_none heard_before (place_of rd p) old (subst (λ xs. has_heard rd p xs ≡ false) (sym is.heard_is) none) in
        let sound = subst (λ e. IsSound e (map (giving (far_route loopback q rd p 0)) hs)) (ap (now is.edge q is.below) stays
        ∙ still is.edge q is.below) (gone rd p) in
        both_hold is.edge (far_route loopback q rd p 0) hs is.sound.held sound.held

    pub unheard-given : map (giving (far_route loopback q rd p 0)) hs ≡ hs
    unheard-given = give_nothing (far_route loopback q rd p 0) hs not_held

    pub unheard-taken : (label : ℕ) (ts : List Rt) →
        map (offering (far_route loopback q rd p label) ts) hs ≡ map (taking (far_route loopback q rd p label) ts) hs
    unheard-taken label ts = offer_all p loopback rd.0 q label ts hs not_held
