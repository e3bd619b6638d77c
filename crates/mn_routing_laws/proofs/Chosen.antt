-- What an edge finds for a packet is the ledger's choice: among the routes that are open by the FECs that its node offers, or among all where
-- the way to what it finds is open.
use Rattle.std.proofs.Common.{ℕ, ◌≡◌, ◌<◌, inl, inr, Bool, true, List, length, refl, sym, ◌∙◌, ap, subst, Option, Some, None}
use Rattle.std.specs.Prelude.{◌||◌, is_some, option_map}
use Rattle.mn_base.proofs.Bools.{no, test_same, two_ways}
use Rattle.mn_base.proofs.Members.{In, contained_in, in_contained}
use Rattle.mn_prefix.specs.Table.{longest_match}
use Rattle.mn_pe.specs.Rule.{Rule}
use Rattle.mn_ipv4.specs.Header.{destination_of}
use Rattle.mn_topo.specs.Network.{Network, wiring_of}
use Rattle.mn_topo.specs.Lawful.{IsLawful}
use Rattle.mn_topo.specs.declared.steps.JournalEntry.{JournalEntry}
use Rattle.mn_node.specs.Ldp.{usable_by}
use Rattle.mn_ledger.specs.Entry.{first_rule}
use Rattle.mn_ledger.specs.Places.{home_of, edge_of, vrf_of}
use Rattle.mn_ledger.specs.World.{World}
use Rattle.mn_ledger.specs.Transport.{known}
use Rattle.mn_ledger.specs.Held.{HeldRoute, held, best}
use Rattle.mn_ledger.specs.Held as ledger_held
use Rattle.mn_ledger.specs.Best.{IsBest}
use Rattle.mn_ledger.specs.Eligible.{eligible, is_resolved, IsFairChoice}
use Rattle.mn_ledger.specs.Packets.{entry_rules}
use Rattle.mn_ledger.specs.Ledger.{world_of}
use Rattle.mn_ledger.specs.Lawful.{IsLawfulJournal}
use Rattle.mn_ledger.proofs.Choice.{names_best}
use Rattle.mn_ledger.proofs.Eligible.{fair_choice}
use Rattle.mn_ledger_laws.proofs.There.{vrf_there, home_there}
use Rattle.mn_ledger_laws.proofs.Holding.{names_what_exists}
use Rattle.mn_frame_laws.specs.Entries.{AreWays}
use Rattle.mn_frame_laws.specs.Numbers.{labels_of}
use Rattle.mn_bgp_spelling_laws.specs.Spelling.{Labels}
use Rattle.mn_vrf.specs.Routes.{is_open, found_among}
use Rattle.mn_vrf.specs.Vrf.{VrfState}
use Rattle.mn_pe.specs.Edge.{Edge}
use Rattle.mn_pe.specs.Held.{site_label, held_by}
use Rattle.mn_pe.specs.Pe.{found_in}
use Rattle.mn_pe.specs.Entries.{entered_at, entered_by, entered_over, route_for, route_among, IsWayOpen, IsBoundBelow}
use Rattle.mn_pe.proofs.Fates.{IsPlaced, placed, rules_same}
use Rattle.mn_routing_laws.specs.Sources.{as_held, source_from}
use Rattle.mn_routing_laws.specs.Standing.{edge_in, vrf_in}
use Rattle.mn_routing_laws.proofs.Lawful.{finds_best, rests, stands}
use Rattle.mn_routing_laws.proofs.News.{vrf_of_site_is}
use Rattle.mn_routing_laws.proofs.Refusing.{found}
use Rattle.mn_routing_laws.proofs.AtEntry.{attached_so}
use Rattle.mn_routing_laws.proofs.Choosing.{finds_eligible}

-- 1. A route of the edge itself is resolved, and one of a peer is where the way to it is open

at_home : (t : Network) (w : World) (e : ℕ) (x : HeldRoute) → x.edge ≡ e → true ≡ is_resolved t w e x
at_home t w e x p = sym (ap (λ b. b || is_some (usable_by (wiring_of t) (known t w e) e x.edge)) (test_same e x.edge (sym p)))

open_so : (t : Network) (l : Labels) (w : World) (e : ℕ) (ways : List Bool) (x : HeldRoute) → AreWays t w e ways → x.edge < length t.loopbacks →
    (source : ledger_held.Source) → IsPlaced e x.edge source → is_open ways (source_from l x.edge x.site x.attachment source) ≡ is_resolved t w e x
open_so t l w e ways x are below ledger_held.Own p = at_home t w e x p
open_so t l w e ways x are below (ledger_held.Near v) p = at_home t w e x p
open_so t l w e ways x are below (ledger_held.Far address rd) p = are x.edge below

resolved_so : (t : Network) (l : Labels) (w : World) (e : ℕ) (bytes : List ℕ) (x : HeldRoute) (source : ledger_held.Source) → IsPlaced e x.edge source
    → IsWayOpen t w e (entered_over bytes (source_from l x.edge x.site x.attachment source)) → t.resolve ≡ true → is_resolved t w e x ≡ true
resolved_so t l w e bytes x ledger_held.Own p clear on = sym (at_home t w e x p)
resolved_so t l w e bytes x (ledger_held.Near v) p clear on = sym (at_home t w e x p)
resolved_so t l w e bytes x (ledger_held.Far address rd) p clear on = clear on

below_so : (t : Network) (l : Labels) (bytes : List ℕ) (x : HeldRoute) (source : ledger_held.Source) → x.edge < length t.loopbacks →
    IsBoundBelow (length t.loopbacks) (entered_over bytes (source_from l x.edge x.site x.attachment source))
below_so t l bytes x ledger_held.Own below = tt
below_so t l bytes x (ledger_held.Near v) below = tt
below_so t l bytes x (ledger_held.Far address rd) below = below

-- 2. After a lawful journal

module _ (t : Network) (lawful : IsLawful t) (es : List JournalEntry) (ps : List (List ℕ)) (journal : IsLawfulJournal t es ps) where
  abbrev w : World
  w = world_of t es

  abbrev l : Labels
  l = labels_of t es

  abbrev at : ℕ → Edge
  at v = edge_in t l w.config w.peerings (edge_of t v)

  abbrev all : ℕ → List HeldRoute
  all v = held t w.config w.peerings (edge_of t v) v

  -- the edge of a held route is a node
  held_below : (v : ℕ) (x : HeldRoute) → v < length t.vrfs → In (all v) x → x.edge < length t.loopbacks
  held_below v x there i =
      let names = (names_what_exists t es ps lawful journal).routes v x there (contained_in (all v) x i) in
      subst (λ n. n < length t.loopbacks) names.home (home_there t x.site lawful names.site)

  best_held : (v address : ℕ) (x : HeldRoute) → best (all v) address ≡ Some x → In (all v) x
  best_held v address x e = in_contained (all v) x ((names_best t es ps lawful journal (edge_of t v) v address).named x e).held

  -- a held route is open just where it is resolved
  pub open_where_resolved : (v : ℕ) (ways : List Bool) → v < length t.vrfs → AreWays t w (edge_of t v) ways → (x : HeldRoute) → In (all v) x →
      is_open ways (as_held l x).1 ≡ is_resolved t w (edge_of t v) x
  open_where_resolved v ways there are x i =
      open_so t l w (edge_of t v) ways x are (held_below v x there i) x.source (placed t w.config w.peerings (edge_of t v) v x i)

  -- what a VRF finds among the open routes is the ledger's choice
  pub finds_among : (v address : ℕ) (ways : List Bool) → v < length t.vrfs → t.resolve ≡ true → AreWays t w (edge_of t v) ways →
      found_among ways address (held_by (at v) (vrf_in t w.config v)) ≡ option_map (as_held l) (best (eligible t w (edge_of t v) v address) address)
  finds_among v address ways there on are =
      finds_eligible t l w (edge_of t v) v (stands t w (edge_of t v) v lawful (rests t es ps lawful journal) refl) ways
      (open_where_resolved v ways there are) address on

  -- and so is the best of all where the way to it is open
  module _ (v address : ℕ) (bytes : List ℕ) (there : v < length t.vrfs) where
    fair : IsFairChoice t w (edge_of t v) v address
    fair = fair_choice t es ps lawful journal (edge_of t v) v address

    none_chosen : best (all v) address ≡ None → (o : Option HeldRoute) → best (eligible t w (edge_of t v) v address) address ≡ o → o ≡ None
    none_chosen e None h = refl
    none_chosen e (Some x) h =
        let top : IsBest (eligible t w (edge_of t v) v address) address x = fair.names.named x h in
        absurd (no (sym ((names_best t es ps lawful journal (edge_of t v) v address).none e x (fair.is_held x top.held)) ∙ top.matches))

    by_best : (o : Option HeldRoute) → best (all v) address ≡ o → t.resolve ≡ true →
        IsWayOpen t w (edge_of t v) (entered_by bytes None (option_map (as_held l) o)) → best (eligible t w (edge_of t v) v address) address ≡ o
    by_best None e on clear =
        none_chosen e (best (eligible t w (edge_of t v) v address) address) refl
    by_best (Some x) e on clear =
        fair.stays x e (resolved_so t l w (edge_of t v) bytes x x.source (placed t w.config w.peerings (edge_of t v) v x (best_held v address x e)) clear on)

    pub best_is_chosen : IsWayOpen t w (edge_of t v) (entered_by bytes None (option_map (as_held l) (best (all v) address)))
        → best (all v) address ≡ best (eligible t w (edge_of t v) v address) address
    best_is_chosen clear = elim (two_ways t.resolve) [
      | inl on ↦ sym (by_best (best (all v) address) refl on clear)
      | inr off ↦ ap (λ rs. best rs address) (sym (fair.all off))
    ]

  -- 3. At a site's edge

  best_for : (site address : ℕ) → site < length t.sites →
      route_for (at (vrf_of t site)) site address ≡ option_map (as_held l) (best (all (vrf_of t site)) address)
  best_for site address there =
      ap (λ n. found_in n (λ (vrf : VrfState). longest_match address (held_by (at (vrf_of t site)) vrf)) (at (vrf_of t site)).vrfs)
      (vrf_of_site_is t l w.config w.peerings (home_of t site) site)
      ∙ found t l w.config w.peerings (vrf_of t site) (λ (vrf : VrfState). longest_match address (held_by (at (vrf_of t site)) vrf))
      (vrf_there t site lawful there)
      ∙ finds_best t l es ps (home_of t site) (vrf_of t site) address lawful journal refl

  pub chosen_among : (site address : ℕ) (ways : List Bool) → site < length t.sites → t.resolve ≡ true → AreWays t w (home_of t site) ways →
      route_among (at (vrf_of t site)) ways site address
      ≡ option_map (as_held l) (best (eligible t w (home_of t site) (vrf_of t site) address) address)
  chosen_among site address ways there on are =
      ap (λ n. found_in n (λ (vrf : VrfState). found_among ways address (held_by (at (vrf_of t site)) vrf)) (at (vrf_of t site)).vrfs)
      (vrf_of_site_is t l w.config w.peerings (home_of t site) site)
      ∙ found t l w.config w.peerings (vrf_of t site) (λ (vrf : VrfState). found_among ways address (held_by (at (vrf_of t site)) vrf))
      (vrf_there t site lawful there)
      ∙ finds_among (vrf_of t site) address ways (vrf_there t site lawful there) on are

  pub chosen : (site : ℕ) (bytes : List ℕ) → site < length t.sites → IsWayOpen t w (home_of t site) (entered_at (at (vrf_of t site)) site bytes)
      → first_rule (entry_rules (w.config.attached site) bytes) ≡ None → route_for (at (vrf_of t site)) site (destination_of bytes)
      ≡ option_map (as_held l) (best (eligible t w (home_of t site) (vrf_of t site) (destination_of bytes)) (destination_of bytes))
  chosen site bytes there clear passes =
      best_for site (destination_of bytes) there
      ∙ ap (option_map (as_held l)) (best_is_chosen (vrf_of t site) (destination_of bytes) bytes (vrf_there t site lawful there)
      (subst (λ o. IsWayOpen t w (home_of t site) (entered_by bytes None o)) (best_for site (destination_of bytes) there)
      (subst (λ o. IsWayOpen t w (home_of t site) (entered_by bytes o (route_for (at (vrf_of t site)) site (destination_of bytes))))
      (rules_same (site_label (at (vrf_of t site)) site) (w.config.attached site) bytes (attached_so t lawful es ps journal site there) ∙ passes) clear)))

  -- the edge to which a packet is bound is a node
  below_by : (v address : ℕ) (bytes : List ℕ) → v < length t.vrfs → (cause : Option Rule) (o : Option HeldRoute) → best (all v) address ≡ o →
      IsBoundBelow (length t.loopbacks) (entered_by bytes cause (option_map (as_held l) o))
  below_by v address bytes there (Some cause) o e = tt
  below_by v address bytes there None None e = tt
  below_by v address bytes there None (Some x) e = below_so t l bytes x x.source (held_below v x there (best_held v address x e))

  pub bound_to_a_node : (site : ℕ) (bytes : List ℕ) → site < length t.sites →
      IsBoundBelow (length t.loopbacks) (entered_at (at (vrf_of t site)) site bytes)
  bound_to_a_node site bytes there =
      subst (λ o. IsBoundBelow (length t.loopbacks) (entered_by bytes (first_rule (entry_rules (site_label (at (vrf_of t site)) site) bytes)) o))
      (sym (best_for site (destination_of bytes) there))
      (below_by (vrf_of t site) (destination_of bytes) bytes (vrf_there t site lawful there)
      (first_rule (entry_rules (site_label (at (vrf_of t site)) site) bytes)) (best (all (vrf_of t site)) (destination_of bytes)) refl)
