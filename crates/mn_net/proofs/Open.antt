-- The best of the open routes of a prefix is the ledger's best of those that are resolved.
use Rattle.std.proofs.Common.{ℕ, ◌≡◌, ◌<◌, inl, inr, Bool, true, false, cond, List, [], ◌∷◌, length, map, filter, refl, sym, ◌∙◌, ap, subst, Option, Some, None}
use Rattle.std.specs.Prelude.{if◌then◌else◌, slice_index_or, option_map}
use Rattle.mn_base.specs.Ordered.{Ascends}
use Rattle.mn_base.proofs.Members.{In, in_filter, filter_in, all_in}
use Rattle.mn_base.proofs.Places.{ascends_filter}
use Rattle.mn_prefix.specs.Prefix.{AddressBlock, same_prefix}
use Rattle.mn_prefix.specs.Table.{first_of}
use Rattle.mn_topo.specs.Network.{Network}
use Rattle.mn_topo.specs.Lawful.{IsLawful}
use Rattle.mn_ledger.specs.World.{World}
use Rattle.mn_ledger.specs.Ledger.{world_of}
use Rattle.mn_ledger.specs.Places.{edge_of}
use Rattle.mn_ledger.specs.Held.{HeldRoute, unbeaten, held}
use Rattle.mn_ledger.specs.Held as ledger_held
use Rattle.mn_ledger.specs.Eligible.{is_resolved}
use Rattle.mn_ledger.proofs.Held.{one_held}
use Rattle.mn_frame_laws.specs.Given.{Labelling, given}
use Rattle.mn_frame_laws.specs.Entries.{AreWays}
use Rattle.mn_frame_laws.specs.Numbers.{labels_of}
use Rattle.mn_vrf.specs.Vrf.{VrfState}
use Rattle.mn_vrf.specs.Routes.{route_before, is_open, open_among, sources_of}
use Rattle.mn_vrf.specs.declared.source.Source.{Source}
use Rattle.mn_pe.specs.Edge.{Edge}
use Rattle.mn_pe.specs.Entries as entry
use Rattle.mn_pe.specs.Held.{held_by}
use Rattle.mn_pe.specs.Pe.{PeNow, found_in}
use Rattle.mn_bgp_spelling_laws.specs.Spelling.{Labels}
use Rattle.mn_routing_laws.specs.Routed.{working}
use Rattle.mn_routing_laws.specs.Sources.{as_held}
use Rattle.mn_routing_laws.specs.Standing.{vrf_in, edge_in}
use Rattle.mn_routing_laws.proofs.Choosing.{same_filter}
use Rattle.mn_routing_laws.proofs.Chosen.{open_where_resolved}
use Rattle.mn_routing_laws.proofs.Holding.{Stands, holds}
use Rattle.mn_routing_laws.proofs.Lawful.{rests, stands}
use Rattle.mn_routing_laws.proofs.Lookup.{SameRoutes}
use Rattle.mn_net_laws.specs.Refusal.{asked}
use Rattle.mn_net_laws.proofs.Vrfs.{vrf_is}
use Rattle.mn_net_laws.specs.Now.{NetNow, IsNet}
use Rattle.mn_ledger.specs.Heads.{best_for}
use Rattle.mn_net.proofs.Held.{edge_told, its_edge, given_as}
use Rattle.mn_routing_laws.proofs.Prefixes.{IsHead, head_is_best, same_tells, same_is}
use Rattle.std.proofs.lemmas.Option.{same_Some}

abbrev Route : Type 0
Route = AddressBlock × Source

-- 1. Of the routes of one prefix

-- to keep some of what is told of those that were kept, or first to keep these
kept_of : {A B : Type 0} (p : A → Bool) (f : A → B) (r : B → Bool) (xs : List A) → filter r (map f (filter p xs)) ≡ map f (filter p (filter (λ x. r (f x)) xs))
kept_of p f r [] = refl
kept_of p f r (x ∷ xs) = by (p x) (r (f x)) refl refl (kept_of p f r xs)
  where
    by : (a b : Bool) → p x ≡ a → r (f x) ≡ b → filter r (map f (filter p xs)) ≡ map f (filter p (filter (λ y. r (f y)) xs))
        → filter r (map f (cond a (x ∷ filter p xs) (filter p xs)))
        ≡ map f (filter p (cond b (x ∷ filter (λ y. r (f y)) xs) (filter (λ y. r (f y)) xs)))
    by true true e d more =
        ap (λ c. cond c (f x ∷ filter r (map f (filter p xs))) (filter r (map f (filter p xs)))) d ∙ ap (λ ys. f x ∷ ys) more
        ∙ sym (ap (λ c. map f (cond c (x ∷ filter p (filter (λ y. r (f y)) xs)) (filter p (filter (λ y. r (f y)) xs)))) e)
    by true false e d more = ap (λ c. cond c (f x ∷ filter r (map f (filter p xs))) (filter r (map f (filter p xs)))) d ∙ more
    by false true e d more =
        more ∙ sym (ap (λ c. map f (cond c (x ∷ filter p (filter (λ y. r (f y)) xs)) (filter p (filter (λ y. r (f y)) xs)))) e)
    by false false e d more = more

none_stay : {A : Type 0} (p : A → Bool) (xs : List A) → ((x : A) → In xs x → p x ≡ true → ⊥) → filter p xs ≡ []
none_stay p [] out = refl
none_stay p (x ∷ xs) out = by (p x) refl (none_stay p xs (λ y i. out y (inr i)))
  where
    by : (b : Bool) → p x ≡ b → filter p xs ≡ [] → (if b then x ∷ filter p xs else filter p xs) ≡ []
    by true e more = absurd (out x (inl refl) e)
    by false e more = more

module _ (l : Labels) (routes : List HeldRoute) (all : List Route) (same : SameRoutes l routes all)
    (apart : (a b : HeldRoute) → In routes a → In routes b → a.source ≡ b.source → a.prefix ≡ b.prefix → a ≡ b) (q : AddressBlock) where
  abbrev of_prefix : Route → Bool
  of_prefix r = same_prefix q r.0

  -- no route of all has the prefix
  without : filter of_prefix all ≡ [] → best_for routes q ≡ None
  without none =
      ap (λ xs. ledger_held.first_of (unbeaten xs)) (none_stay (λ (route : HeldRoute). same_prefix route.prefix q) routes (λ x i h.
      subst (λ rs. In rs (as_held l x)) none (filter_in of_prefix all (as_held l x) (same.there x i) (same_is q x.prefix (sym (same_tells x.prefix q h))))))

  head_of : (h : Route) (hs : List Route) → filter of_prefix all ≡ h ∷ hs → IsHead None all h
  head_of h hs is =
      let here = in_filter of_prefix all h (subst (λ rs. In rs h) (sym is) (inl refl)) in
      let up : Ascends route_before (h ∷ hs) = subst (Ascends route_before) is (ascends_filter route_before of_prefix all same.up) in
      record {
        there = here.0;
        least = λ g i e.
            elim (subst (λ rs. In rs g) is (filter_in of_prefix all g i (same_is q g.0 (same_tells q h.0 here.1 ∙ sym e)))) [
              | inl j ↦ inr j
              | inr j ↦ inl (all_in (λ z. route_before h z ≡ true) hs g up.0 j)
            ];
        past = tt;
      }

  -- the first source is that of the best route
  pub first_is_best : first_of (sources_of q all) ≡ option_map (λ (r : Route). r.1) (option_map (as_held l) (best_for routes q))
  first_is_best = by (filter of_prefix all) refl
    where
      by : (rs : List Route) → filter of_prefix all ≡ rs
          → first_of (map (λ (r : Route). r.1) rs) ≡ option_map (λ (r : Route). r.1) (option_map (as_held l) (best_for routes q))
      by [] is = sym (ap (λ o. option_map (λ (r : Route). r.1) (option_map (as_held l) o)) (without is))
      by (h ∷ hs) is =
          ap (option_map (λ (r : Route). r.1)) (head_is_best l routes all same apart h (head_of h hs is))
          ∙ ap (λ p. option_map (λ (r : Route). r.1) (option_map (as_held l) (best_for routes p)))
          (sym (same_tells q h.0 (in_filter of_prefix all h (subst (λ rs. In rs h) (sym is) (inl refl))).1))

-- 2. In a network that works

module _ (net : NetNow) (lawful : IsLawful net.topology) (is : IsNet net) (v : ℕ) (below : v < length net.topology.vrfs) where
  abbrev t : Network
  t = net.topology

  abbrev w : World
  w = world_of net.topology net.journal

  abbrev g : Labelling
  g = given net.topology net.journal

  abbrev l : Labels
  l = labels_of net.topology net.journal

  abbrev its : Edge
  its = edge_in t l w.config w.peerings (edge_of t v)

  abbrev rs : List HeldRoute
  rs = held t w.config w.peerings (edge_of t v) v

  abbrev on : HeldRoute → Bool
  on = is_resolved t w (edge_of t v)

  abbrev all : List Route
  all = held_by its (vrf_in t w.config v)

  its_stand : Stands t w.config w.peerings (edge_of t v) v
  its_stand = stands t w (edge_of t v) v lawful (rests t net.journal is.inputs lawful is.stands.stands.lawful) refl

  apart : (a b : HeldRoute) → In (filter on rs) a → In (filter on rs) b → a.source ≡ b.source → a.prefix ≡ b.prefix → a ≡ b
  apart a b i j source prefix =
      one_held t w.config w.peerings (edge_of t v) v a b its_stand.lawful its_stand.apart its_stand.statics its_stand.good (in_filter on rs a i).0
      (in_filter on rs b j).0 source prefix

  first_in : (xs : List HeldRoute) (x : HeldRoute) → ledger_held.first_of xs ≡ Some x → In xs x
  first_in [] x e = absurd (let none : None ≡ Some x → ⊥ = (λ e. cc) in none e)
  first_in (y ∷ ys) x e = inl (same_Some y x e)

  best_in : (q : AddressBlock) (x : HeldRoute) → best_for (filter on rs) q ≡ Some x → In rs x
  best_in q x e =
      let of_prefix : List HeldRoute = filter (λ (route : HeldRoute). same_prefix route.prefix q) (filter on rs) in
      (in_filter on rs x (in_filter (λ (route : HeldRoute). same_prefix route.prefix q) (filter on rs) x
      (in_filter _ of_prefix x (first_in (unbeaten of_prefix) x e)).0).0).0

  with_label : (q : AddressBlock) (o : Option HeldRoute) → best_for (filter on rs) q ≡ o →
      option_map (λ (r : Route). r.1) (option_map (as_held l) o) ≡ option_map (λ (route : HeldRoute). entry.source_of g route route.source) o
  with_label q None e = refl
  with_label q (Some x) e = ap (λ (r : Route). Some r.1) (given_as net lawful is v below x (best_in q x e))

  -- what the VRF of an edge finds at a prefix among the open routes is the best of those that are resolved
  pub open_told : (q : AddressBlock) (ways : List Bool) (pe : PeNow) (result : Option Source) → Some pe ≡ slice_index_or net.routes.edges (edge_of t v) None
      → (pe.failed ≡ false
      → result ≡ found_in v (λ (vrf : VrfState). first_of (filter (is_open ways) (sources_of q (held_by pe.edge vrf)))) pe.edge.vrfs) →
      AreWays t w (edge_of t v) ways
      → result ≡ option_map (λ (route : HeldRoute). entry.source_of g route route.source) (best_for (filter on rs) q)
  open_told q ways pe result at tells are =
      let told =
      subst (λ (x : PeNow). x.failed ≡ false →
      result ≡ found_in v (λ (vrf : VrfState). first_of (filter (is_open ways) (sources_of q (held_by x.edge vrf)))) x.edge.vrfs)
      (same_Some pe (working its) (at ∙ edge_told net lawful is v below)) tells in
      told refl
      ∙ sym (ap (asked (λ (edge : Edge). found_in v (λ (vrf : VrfState). first_of (filter (is_open ways) (sources_of q (held_by its vrf)))) edge.vrfs))
      (its_edge net lawful is v below))
      ∙ vrf_is t l w.config w.peerings lawful v (λ (vrf : VrfState). first_of (filter (is_open ways) (sources_of q (held_by its vrf)))) below
      ∙ ap first_of (kept_of (λ (r : Route). same_prefix q r.0) (λ (r : Route). r.1) (is_open ways) all)
      ∙ first_is_best l (filter on rs) (open_among ways all)
      (same_filter l rs all on (λ (route : Route). is_open ways route.1) (holds t l w.config w.peerings (edge_of t v) v its_stand)
      (open_where_resolved t lawful net.journal is.inputs is.stands.stands.lawful v ways below are)) apart q
      ∙ with_label q (best_for (filter on rs) q) refl
