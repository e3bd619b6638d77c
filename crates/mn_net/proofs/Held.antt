-- What edges hold in a network that works.
use Rattle.std.proofs.Common.{ℕ, zero, suc, ◌≡◌, ◌+◌, ◌<◌, Bool, true, false, List, [], ◌∷◌, length, map, refl, sym, ap, ◌∙◌, subst, Option, Some, None, inl}
use Rattle.std.specs.Prelude.{not, filter, if◌then◌else◌, slice_get, slice_index_or, option_map}
use Rattle.std.specs.List.{list_any, range_with_len}
use Rattle.std.proofs.lemmas.List.{length-map}
use Rattle.std.proofs.lemmas.Option.{same_Some}
use Rattle.mn_wiring.specs.Wiring.{nodes_of}
use Rattle.mn_states.specs.declared.states.BgpState.TheVariants.{Idle}
use Rattle.mn_base.proofs.Members.{In, in_filter, contained_in}
use Rattle.mn_prefix.specs.Prefix.{AddressBlock, same_prefix}
use Rattle.mn_prefix.specs.Table.{longest_match}
use Rattle.mn_topo.specs.Network.{Network, wiring_of}
use Rattle.mn_topo.specs.Lawful.{IsLawful}
use Rattle.mn_topo.specs.VrfTable.{is_edge}
use Rattle.mn_ledger.specs.World.{Config, Peerings}
use Rattle.mn_ledger.specs.Ledger.{world_of}
use Rattle.mn_ledger.specs.Places.{edge_of}
use Rattle.mn_ledger.specs.Bgp.{peers_live, state_heard, bgp_state_of}
use Rattle.mn_ledger.specs.Held.{HeldRoute, is_better, unbeaten, first_of, held}
use Rattle.mn_ledger.specs.Held as ledger_held
use Rattle.mn_ledger.proofs.Held.{one_held}
use Rattle.mn_ledger_laws.proofs.There.{edge_there}
use Rattle.mn_ledger_laws.proofs.Holding.{length_range}
use Rattle.mn_frame_laws.specs.Given.{given, label_at}
use Rattle.mn_frame_laws.specs.Numbers.{labels_of}
use Rattle.mn_frame_laws.proofs.Anew.{gives_to_no_other}
use Rattle.mn_frame_laws.proofs.Named.{all_have_labels}
use Rattle.mn_vrf.specs.Vrf.{VrfState, heads, IsHeldAt}
use Rattle.mn_vrf.specs.declared.source.Source.{Source}
use Rattle.mn_pe.specs.Edge.{Edge}
use Rattle.mn_pe.specs.Entries as entry
use Rattle.mn_pe.specs.Held.{held_by, far_over}
use Rattle.mn_pe.specs.Pe.{PeNow, found_in}
use Rattle.mn_bgp_spelling_laws.specs.Spelling.{Labels, session_in}
use Rattle.mn_bgp_session.specs.declared.session.BgpSession.{BgpSession}
use Rattle.mn_routing_laws.specs.Routed.{working}
use Rattle.mn_routing_laws.specs.Sending.{bgp_state_by}
use Rattle.mn_routing_laws.specs.Sources.{as_held, source_from}
use Rattle.mn_routing_laws.specs.Standing.{vrf_in, edge_in}
use Rattle.mn_routing_laws.specs.Whole.{routes_in, edge_or_none, session_or_none}
use Rattle.mn_routing_laws.proofs.Holding.{Stands, holds}
use Rattle.mn_routing_laws.proofs.Home.{among_edges}
use Rattle.mn_routing_laws.proofs.Lawful.{rests, stands}
use Rattle.mn_routing_laws.proofs.Tables.{map_numbers_at}
use Rattle.mn_net_laws.specs.Refusal.{asked}
use Rattle.mn_net_laws.proofs.Vrfs.{vrf_is}
use Rattle.mn_net_laws.specs.Now.{NetNow, IsNet, WorksAsNet}
use Rattle.mn_net_laws.proofs.Told.{net_is}
use Rattle.mn_ledger.specs.Heads.{prefixes_of, best_at, held_at}
use Rattle.mn_routing_laws.proofs.Prefixes.{place_told}
use Rattle.mn_net.proofs.Views.{vrf_there}

-- 1. Sessions

by_life : (c : Config) (p : Peerings) (a b : ℕ) (session : BgpSession) → session.state ≡ bgp_state_of c p a b → (live : Bool) → peers_live c a b ≡ live →
    bgp_state_by (if live then Some session else None) ≡ bgp_state_of c p a b
by_life c p a b session e true h = e
by_life c p a b session e false h = sym (ap (λ l. if l then state_heard (p.heard a b) else Idle) h)

pub session_told : (net : NetNow) → IsNet net → (a b : ℕ) → a < length net.topology.loopbacks → b < length net.topology.loopbacks →
    bgp_state_by (slice_index_or (slice_index_or net.routes.sessions a []) b None)
    ≡ bgp_state_of (world_of net.topology net.journal).config (world_of net.topology net.journal).peerings a b
session_told net is a b below other =
    let t : Network = net.topology in
    let c : Config = (world_of t net.journal).config in
    let p : Peerings = (world_of t net.journal).peerings in
    ap (λ rows. bgp_state_by (slice_index_or (slice_index_or rows a []) b None)) is.stands.routes.sessions
    ∙ ap (λ row. bgp_state_by (slice_index_or row b None))
    (map_numbers_at (λ node. map (session_or_none t c p node) (nodes_of (wiring_of t))) (length t.loopbacks) a [] below)
    ∙ ap bgp_state_by (map_numbers_at (session_or_none t c p a) (length t.loopbacks) b None other)
    ∙ by_life c p a b (session_in t c p a b) refl (peers_live c a b) refl

pub rows_length : (net : NetNow) → IsNet net → length net.routes.sessions ≡ length net.topology.loopbacks
rows_length net is = ap length is.stands.routes.sessions ∙ length_range _ 0 (length net.topology.loopbacks)

pub row_length : (net : NetNow) → IsNet net →
    (a : ℕ) → a < length net.topology.loopbacks → length (slice_index_or net.routes.sessions a []) ≡ length net.topology.loopbacks
row_length net is a below =
    let t : Network = net.topology in
    let c : Config = (world_of t net.journal).config in
    let p : Peerings = (world_of t net.journal).peerings in
    ap (λ rows. length (slice_index_or rows a [])) is.stands.routes.sessions
    ∙ ap length (map_numbers_at (λ node. map (session_or_none t c p node) (nodes_of (wiring_of t))) (length t.loopbacks) a [] below)
    ∙ length_range (session_or_none t c p a) 0 (length t.loopbacks)

-- 2. Edges

pub edges_length : (net : NetNow) → IsNet net → length net.routes.edges ≡ length net.topology.loopbacks
edges_length net is = ap length is.stands.routes.edges ∙ length-map _ (option_map working) ∙ length_range _ 0 (length net.topology.loopbacks)

mapped_at : {A B : Type 0} (f : A → B) (xs : List (Option A)) (k : ℕ) → slice_index_or (map (option_map f) xs) k None ≡ option_map f (slice_index_or xs k None)
mapped_at f [] zero = refl
mapped_at f [] (suc k) = refl
mapped_at f (x ∷ xs) zero = refl
mapped_at f (x ∷ xs) (suc k) = mapped_at f xs k

module _ (net : NetNow) (lawful : IsLawful net.topology) (is : IsNet net) (v : ℕ) (h : v < length net.topology.vrfs) where
  abbrev t : Network
  t = net.topology

  abbrev l : Labels
  l = labels_of net.topology net.journal

  abbrev c : Config
  c = (world_of net.topology net.journal).config

  abbrev p : Peerings
  p = (world_of net.topology net.journal).peerings

  abbrev its : Edge
  its = edge_in t l c p (edge_of t v)

  pub its_edge : slice_index_or (routes_in t l c p).edges (edge_of t v) None ≡ Some its
  its_edge =
      map_numbers_at (edge_or_none t l c p) (length t.loopbacks) (edge_of t v) None (edge_there t v lawful h)
      ∙ ap (λ b. if b then Some its else None) (in_filter (λ node. is_edge t.vrfs node) (range_with_len 0 (length t.loopbacks)) (edge_of t v)
      (among_edges t v h (edge_there t v lawful h))).1

  pub edge_told : slice_index_or net.routes.edges (edge_of t v) None ≡ Some (working its)
  edge_told = ap (λ es. slice_index_or es (edge_of t v) None) is.stands.routes.edges
      ∙ mapped_at working (routes_in t l c p).edges (edge_of t v) ∙ ap (option_map working) its_edge

  abbrev question : ℕ → VrfState → Option (AddressBlock × Source)
  question address vrf = longest_match address (held_by its vrf)

  pub held_told : (k : ℕ) (pe : PeNow) (result : Option (AddressBlock × Source)) → Some pe ≡ slice_index_or net.routes.edges (edge_of t v) None →
      (pe.failed ≡ false → result ≡ found_in v (λ (vrf : VrfState). slice_get (heads (held_by pe.edge vrf)) k) pe.edge.vrfs) →
      result ≡ option_map (as_held l) (held_at (held t c p (edge_of t v) v) k)
  held_told k pe result at tells =
      let same : pe ≡ working its = same_Some pe (working its) (at ∙ edge_told) in
      let told =
      subst (λ (x : PeNow). x.failed ≡ false →
      result ≡ found_in v (λ (vrf : VrfState). slice_get (heads (held_by x.edge vrf)) k) x.edge.vrfs) same tells in
      let all : Stands t c p (edge_of t v) v =
      stands t (world_of t net.journal) (edge_of t v) v lawful (rests t net.journal is.inputs lawful is.stands.stands.lawful) refl in
      told refl
      ∙ sym (ap (asked (λ (edge : Edge). found_in v (λ (vrf : VrfState). slice_get (heads (held_by its vrf)) k) edge.vrfs)) its_edge)
      ∙ vrf_is t l c p lawful v (λ (vrf : VrfState). slice_get (heads (held_by its vrf)) k) h
      ∙ place_told l (held t c p (edge_of t v) v) (held_by its (vrf_in t c v)) (holds t l c p (edge_of t v) v all)
      (λ a b i j source prefix. one_held t c p (edge_of t v) v a b all.lawful all.apart all.statics all.good i j source prefix) k

  -- a held route's label is the one that its edge gave
  abbrev routes : List HeldRoute
  routes = held t c p (edge_of t v) v

  label_is : (route : HeldRoute) → In routes route → l route.site route.attachment ≡ label_at (given t net.journal) route.edge route.site route.attachment
  unfolding labels_of
  label_is route i =
      let journal = is.stands.stands.lawful in
      let there = (all_have_labels t net.journal is.inputs lawful journal).held v route h (contained_in routes route i) in
      ap (λ e. label_at (given t net.journal) e route.site route.attachment)
      (gives_to_no_other t net.journal is.inputs route.edge route.site route.attachment journal there).home

  pub given_as : (route : HeldRoute) → In routes route → as_held l route ≡ entry.as_held (given t net.journal) route
  given_as route i = ap (λ (s : Source). let pair : AddressBlock × Source = (route.prefix, s) in pair) (by route.source)
    where
      by : (source : ledger_held.Source) →
          source_from l route.edge route.site route.attachment source ≡ entry.source_of (given t net.journal) route source
      by ledger_held.Own = refl
      by (ledger_held.Near v) = refl
      by (ledger_held.Far address rd) = ap (far_over address rd route.edge) (label_is route i)

  first_in : (xs : List HeldRoute) (x : HeldRoute) → first_of xs ≡ Some x → In xs x
  first_in [] x e = absurd (let none : None ≡ Some x → ⊥ = (λ e. cc) in none e)
  first_in (y ∷ ys) x e = inl (same_Some y x e)

  best_in : (o : Option AddressBlock) (x : HeldRoute) → best_at routes o ≡ Some x → In routes x
  best_in None x e = absurd (let none : None ≡ Some x → ⊥ = (λ e. cc) in none e)
  best_in (Some q) x e =
      let its : List HeldRoute = filter (λ (route : HeldRoute). same_prefix route.prefix q) routes in
      let f = in_filter (λ route. not (list_any (λ other. is_better other route) its)) its x (first_in (unbeaten its) x e) in
      (in_filter (λ (route : HeldRoute). same_prefix route.prefix q) routes x f.0).0

  pub given_told : (k : ℕ) → option_map (as_held l) (held_at routes k) ≡ option_map (entry.as_held (given t net.journal)) (held_at routes k)
  given_told k = by (held_at routes k) refl
    where
      by : (o : Option HeldRoute) → held_at routes k ≡ o → option_map (as_held l) o ≡ option_map (entry.as_held (given t net.journal)) o
      by None e = refl
      by (Some x) e = ap Some (given_as x (best_in (slice_get (prefixes_of routes) k) x e))

  pub some_edge : None ≡ slice_index_or net.routes.edges (edge_of t v) None → ⊥
  some_edge e = let none : None ≡ Some (working its) → ⊥ = (λ q. cc) in none (e ∙ edge_told)

  -- and the one after a held one
  pub after_told : (pe : PeNow) (last : AddressBlock) (result : Option (AddressBlock × Source)) → Some pe ≡ slice_index_or net.routes.edges (edge_of t v) None →
      (pe.failed ≡ false → (k : ℕ) → IsHeldAt last (found_in v (λ (vrf : VrfState). slice_get (heads (held_by pe.edge vrf)) k) pe.edge.vrfs) →
      result ≡ found_in v (λ (vrf : VrfState). slice_get (heads (held_by pe.edge vrf)) (k + 1)) pe.edge.vrfs) →
      (k : ℕ) → IsHeldAt last (option_map (as_held l) (held_at routes k)) → result ≡ option_map (as_held l) (held_at routes (k + 1))
  after_told pe last result at tells k is =
      let works : pe.failed ≡ false = ap (λ (x : PeNow). x.failed) (same_Some pe (working its) (at ∙ edge_told)) in
      let told : (n : ℕ) → found_in v (λ (vrf : VrfState). slice_get (heads (held_by pe.edge vrf)) n) pe.edge.vrfs ≡ option_map (as_held l) (held_at routes n) =
      λ n. held_told n pe (found_in v (λ (vrf : VrfState). slice_get (heads (held_by pe.edge vrf)) n) pe.edge.vrfs) at (λ _. refl) in
      tells works k (subst (IsHeldAt last) (sym (told k)) is) ∙ told (k + 1)

-- 3. As a call's proof has it: an edge's node, and what its VRF holds

-- what a VRF holds at a place
abbrev held_in : NetNow → ℕ → ℕ → Option HeldRoute
held_in n v k = held_at (held n.topology (world_of n.topology n.journal).config (world_of n.topology n.journal).peerings (edge_of n.topology v) v) k

-- as it is told, by the labels of the network, and by those that its edge gave
abbrev by_labels : NetNow → Option HeldRoute → Option (AddressBlock × Source)
by_labels n o = option_map (as_held (labels_of n.topology n.journal)) o

abbrev by_given : NetNow → Option HeldRoute → Option (AddressBlock × Source)
by_given n o = option_map (entry.as_held (given n.topology n.journal)) o

module _ (view now : NetNow) (same : view ≡ now) (holds : WorksAsNet view) (works : now.failed ≡ false) where
  pub edge_below : (node : ℕ) → node < length view.topology.loopbacks → node < length view.routes.edges
  edge_below node below = subst (λ n. node < n) (sym (edges_length view (net_is view now same holds works))) below

  module _ (lawful : IsLawful view.topology) (v : ℕ) (below : v < length now.topology.vrfs) (node : ℕ) (home : node ≡ edge_of view.topology v) where
    abbrev is : IsNet view
    is = net_is view now same holds works

    abbrev there : v < length view.topology.vrfs
    there = vrf_there view now same v below

    at_home : (o : Option PeNow) → o ≡ slice_index_or view.routes.edges node None → o ≡ slice_index_or view.routes.edges (edge_of view.topology v) None
    at_home o at = at ∙ ap (λ n. slice_index_or view.routes.edges n None) home

    pub no_edge : None ≡ slice_index_or view.routes.edges node None → ⊥
    no_edge at = some_edge view lawful is v there (at_home None at)

    pub held_seen : (k : ℕ) (pe : PeNow) (result : Option (AddressBlock × Source)) → Some pe ≡ slice_index_or view.routes.edges node None
        → (pe.failed ≡ false → result ≡ found_in v (λ (vrf : VrfState). slice_get (heads (held_by pe.edge vrf)) k) pe.edge.vrfs)
        → (result ≡ by_labels now (held_in now v k)) × (result ≡ by_given now (held_in now v k))
    held_seen k pe result at tells =
        let told : result ≡ by_labels view (held_in view v k) = held_told view lawful is v there k pe result (at_home (Some pe) at) tells in (
          told ∙ ap (λ (n : NetNow). by_labels n (held_in n v k)) same,
          told ∙ given_told view lawful is v there k ∙ ap (λ (n : NetNow). by_given n (held_in n v k)) same,
        )

    pub after_seen : (pe : PeNow) (last : AddressBlock) (result : Option (AddressBlock × Source)) → Some pe ≡ slice_index_or view.routes.edges node None
        → (pe.failed ≡ false → (k : ℕ) → IsHeldAt last (found_in v (λ (vrf : VrfState). slice_get (heads (held_by pe.edge vrf)) k) pe.edge.vrfs)
        → result ≡ found_in v (λ (vrf : VrfState). slice_get (heads (held_by pe.edge vrf)) (k + 1)) pe.edge.vrfs)
        → (k : ℕ) → (IsHeldAt last (by_labels now (held_in now v k)) → result ≡ by_labels now (held_in now v (k + 1)))
        × (IsHeldAt last (by_given now (held_in now v k)) → result ≡ by_given now (held_in now v (k + 1)))
    after_seen pe last result at tells k =
        let told : IsHeldAt last (by_labels view (held_in view v k)) → result ≡ by_labels view (held_in view v (k + 1)) =
        after_told view lawful is v there pe last result (at_home (Some pe) at) tells k in (
          subst (λ (n : NetNow). IsHeldAt last (by_labels n (held_in n v k)) → result ≡ by_labels n (held_in n v (k + 1))) same told,
          subst (λ (n : NetNow). IsHeldAt last (by_given n (held_in n v k)) → result ≡ by_given n (held_in n v (k + 1))) same
              (λ has. told (subst (IsHeldAt last) (sym (given_told view lawful is v there k)) has) ∙ given_told view lawful is v there (k + 1)),
        )
