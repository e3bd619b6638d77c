-- The edge of a site or of a VRF answers for the ledger.
use Rattle.std.proofs.Common.{ℕ, zero, suc, ◌≡◌, ◌<◌, Bool, true, false, List, [], ◌∷◌, length, refl, arith, sym, ◌∙◌, ap, subst, Option, Some}
use Rattle.std.proofs.Common.{None, get_or}
use Rattle.std.specs.Prelude.{slice_index, slice_index_or, option_map}
use Rattle.std.proofs.lemmas.Option.{same_Some}
use Rattle.mn_prefix.specs.Prefix.{AddressBlock}
use Rattle.mn_prefix.specs.Table.{longest_match}
use Rattle.mn_ipv4.specs.Header.{destination_of}
use Rattle.mn_topo.specs.Network.{Network}
use Rattle.mn_topo.specs.Lawful.{IsLawful}
use Rattle.mn_topo.specs.declared.steps.JournalEntry.{JournalEntry}
use Rattle.mn_ledger.specs.Places.{home_of, edge_of, vrf_of}
use Rattle.mn_ledger.specs.Held.{held, best}
use Rattle.mn_ledger.specs.Eligible.{eligible}
use Rattle.mn_ledger.specs.Ledger.{world_of}
use Rattle.mn_ledger.specs.Lawful.{IsLawfulJournal}
use Rattle.mn_ledger_laws.proofs.There.{vrf_there, edge_there}
use Rattle.mn_frame_laws.specs.Given.{given}
use Rattle.mn_frame_laws.specs.Entries.{AreWays}
use Rattle.mn_frame_laws.specs.Numbers.{labels_of}
use Rattle.mn_vrf.specs.declared.source.Source.{Source}
use Rattle.mn_vrf.specs.Routes.{found_among}
use Rattle.mn_vrf.specs.Vrf.{VrfState}
use Rattle.mn_pe.specs.Held.{held_by}
use Rattle.mn_pe.specs.Entries.{StandsAtEntry, entered_at, route_for, route_among, IsWayOpen, IsBoundBelow}
use Rattle.mn_pe.specs.Pe.{PeNow, found_in}
use Rattle.mn_routing_laws.specs.Sources.{as_held}
use Rattle.mn_routing_laws.specs.Standing.{edge_in}
use Rattle.mn_routing_laws.specs.Routed.{Routed, IsRoutes, working}
use Rattle.mn_routing_laws.proofs.Home.{is_edge_of}
use Rattle.mn_routing_laws.proofs.Lawful.{finds_best}
use Rattle.mn_routing_laws.proofs.Refusing.{found}
use Rattle.mn_routing_laws.proofs.Placed.{edge_there as edge_stands, index_of}
use Rattle.mn_routing_laws.proofs.AtEntry.{stands_at_entry}
use Rattle.mn_routing_laws.proofs.Chosen.{finds_among, chosen, chosen_among, bound_to_a_node}

any_default : {A : Type 0} (xs : List A) (k : ℕ) (d e : A) → k < length xs → get_or xs k d ≡ slice_index_or xs k e
any_default [] k d e h = absurd (let none : k < 0 → ⊥ = (λ p. omega (arith, p)) in none h)
any_default (x ∷ xs) zero d e h = refl
any_default (x ∷ xs) (suc k) d e h = any_default xs k d e (omega (arith, h))

-- what the code finds at an index
pub at_index : (xs : List (Option PeNow)) (i j : ℕ) (x o : Option PeNow) → x ≡ get_or xs i x → x ≡ o → i ≡ j → j < length xs → slice_index_or xs j None ≡ o
at_index xs i j x o value is at h = sym (any_default xs j x None h) ∙ sym (value ∙ ap (λ k. get_or xs k x) at) ∙ is

module _ (t : Network) (lawful : IsLawful t) (routed : Routed) (v : ℕ) (below : v < length t.vrfs) where
  some_is : (es : List JournalEntry) → IsRoutes t es routed →
      slice_index_or routed.edges (edge_of t v) None ≡ Some
      (working (edge_in t (labels_of t es) (world_of t es).config (world_of t es).peerings (edge_of t v)))
  some_is es stands =
      index_of routed.edges (edge_of t v) _ None
      (edge_stands t (labels_of t es) (world_of t es) routed stands (edge_of t v) (edge_there t v lawful below) (is_edge_of t v below))

  pub some_edge : (es : List JournalEntry) → IsRoutes t es routed → slice_index_or routed.edges (edge_of t v) None ≡ None → ⊥
  some_edge es stands h = let none : Some (working (edge_in t (labels_of t es) (world_of t es).config (world_of t es).peerings (edge_of t v))) ≡ None → ⊥ =
      (λ e. cc) in none (sym (some_is es stands) ∙ h)

  same_pe : (es : List JournalEntry) → IsRoutes t es routed →
      (pe : PeNow) → slice_index_or routed.edges (edge_of t v) None ≡ Some pe →
      working (edge_in t (labels_of t es) (world_of t es).config (world_of t es).peerings (edge_of t v)) ≡ pe
  same_pe es stands pe h = same_Some _ pe (sym (some_is es stands) ∙ h)

  pub looks_up : (address : ℕ) (pe : PeNow) (result : Option (AddressBlock × Source)) → slice_index_or routed.edges (edge_of t v) None ≡ Some pe
      → (pe.failed ≡ false → result ≡ found_in v (λ (state : VrfState). longest_match address (held_by pe.edge state)) pe.edge.vrfs)
      → (es : List JournalEntry) (ps : List (List ℕ)) → IsLawfulJournal t es ps → IsRoutes t es routed
      → result ≡ option_map (as_held (labels_of t es)) (best (held t (world_of t es).config (world_of t es).peerings (edge_of t v) v) address)
  looks_up address pe result h looks es ps journal stands =
      let same = same_pe es stands pe h in
      looks (ap (λ (x : PeNow). x.failed) (sym same))
      ∙ ap (λ (x : PeNow). found_in v (λ (state : VrfState). longest_match address (held_by x.edge state)) x.edge.vrfs) (sym same)
      ∙ found t (labels_of t es) (world_of t es).config (world_of t es).peerings v
      (λ (state : VrfState). longest_match address
      (held_by (edge_in t (labels_of t es) (world_of t es).config (world_of t es).peerings (edge_of t v)) state)) below
      ∙ finds_best t (labels_of t es) es ps (edge_of t v) v address lawful journal refl

  -- and where the topology resolves, among the open routes
  pub looks_among : (address : ℕ) (ways : List Bool) (pe : PeNow) (result : Option (AddressBlock × Source)) →
      slice_index_or routed.edges (edge_of t v) None ≡ Some pe
      → (pe.failed ≡ false → result ≡ found_in v (λ (state : VrfState). found_among ways address (held_by pe.edge state)) pe.edge.vrfs)
      → t.resolve ≡ true → (es : List JournalEntry) (ps : List (List ℕ)) → IsLawfulJournal t es ps → IsRoutes t es routed
      → AreWays t (world_of t es) (edge_of t v) ways
      → result ≡ option_map (as_held (labels_of t es)) (best (eligible t (world_of t es) (edge_of t v) v address) address)
  looks_among address ways pe result h looks on es ps journal stands are =
      let same = same_pe es stands pe h in
      looks (ap (λ (x : PeNow). x.failed) (sym same))
      ∙ ap (λ (x : PeNow). found_in v (λ (state : VrfState). found_among ways address (held_by x.edge state)) x.edge.vrfs) (sym same)
      ∙ found t (labels_of t es) (world_of t es).config (world_of t es).peerings v
      (λ (state : VrfState). found_among ways address
      (held_by (edge_in t (labels_of t es) (world_of t es).config (world_of t es).peerings (edge_of t v)) state)) below
      ∙ finds_among t lawful es ps journal v address ways below on are

  pub edge_works : (es : List JournalEntry) → IsRoutes t es routed → (pe : PeNow) → slice_index_or routed.edges (edge_of t v) None ≡ Some pe → pe.failed ≡ false
  edge_works es stands pe h = ap (λ (x : PeNow). x.failed) (sym (same_pe es stands pe h))

module _ (t : Network) (lawful : IsLawful t) (routed : Routed) (site : ℕ) (bytes : List ℕ) (pe : PeNow) (there : site < length t.sites)
    (h : slice_index_or routed.edges (home_of t site) None ≡ Some pe) (es : List JournalEntry) (ps : List (List ℕ))
    (journal : IsLawfulJournal t es ps) (stands : IsRoutes t es routed) where
  same_edge : working (edge_in t (labels_of t es) (world_of t es).config (world_of t es).peerings (home_of t site)) ≡ pe
  same_edge = same_pe t lawful routed (vrf_of t site) (vrf_there t site lawful there) es stands pe h

  -- a packet enters at its site's edge by the best route of all, where the way to it is open
  pub enters : ((i : ℕ) → slice_index bytes i < 256) → IsWayOpen t (world_of t es) (home_of t site) (entered_at pe.edge site bytes) →
      StandsAtEntry pe.edge (route_for pe.edge site (destination_of bytes)) t (given t es) (world_of t es) site bytes
  enters small =
      subst (λ (x : PeNow). IsWayOpen t (world_of t es) (home_of t site) (entered_at x.edge site bytes) →
      StandsAtEntry x.edge (route_for x.edge site (destination_of bytes)) t (given t es) (world_of t es) site bytes) same_edge
      (λ clear. stands_at_entry t lawful es ps journal site bytes _ there small (chosen t lawful es ps journal site bytes there clear))

  -- and else by the best of those that are open
  pub enters_among : (ways : List Bool) → ((i : ℕ) → slice_index bytes i < 256) → t.resolve ≡ true → AreWays t (world_of t es) (home_of t site) ways →
      StandsAtEntry pe.edge (route_among pe.edge ways site (destination_of bytes)) t (given t es) (world_of t es) site bytes
  enters_among ways small on are =
      subst (λ (x : PeNow). StandsAtEntry x.edge (route_among x.edge ways site (destination_of bytes)) t (given t es) (world_of t es) site bytes) same_edge
      (stands_at_entry t lawful es ps journal site bytes _ there small
      (λ passes. chosen_among t lawful es ps journal site (destination_of bytes) ways there on are))

  pub bound_below : IsBoundBelow (length t.loopbacks) (entered_at pe.edge site bytes)
  bound_below =
      subst (λ (x : PeNow). IsBoundBelow (length t.loopbacks) (entered_at x.edge site bytes)) same_edge
      (bound_to_a_node t lawful es ps journal site bytes there)
