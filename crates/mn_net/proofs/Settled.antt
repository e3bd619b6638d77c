-- In a settled network hops and routes are those of the present configuration.
use Rattle.std.proofs.Common.{ℕ, zero, suc, ◌≡◌, ◌≢◌, ◌<◌, true, List, [], ◌∷◌, length, refl, sym, ◌∙◌, ap, subst, Option, Some, None}
use Rattle.std.specs.Prelude.{is_some, option_map}
use Rattle.std.proofs.lemmas.Option.{same_Some}
use Rattle.mn_base.proofs.Bools.{clash, none_below}
use Rattle.mn_base.specs.declared.numbers.NodeNo.{NodeNo}
use Rattle.mn_wiring.specs.Paths.{next}
use Rattle.mn_topo.specs.Network.{Network, wiring_of}
use Rattle.mn_topo.specs.Lawful.{IsLawful}
use Rattle.mn_topo.specs.declared.steps.JournalEntry.{JournalEntry}
use Rattle.mn_ledger.specs.World.{World}
use Rattle.mn_ledger.specs.Places.{edge_of, edges}
use Rattle.mn_ledger.specs.Held.{best}
use Rattle.mn_ledger.specs.Eligible.{eligible}
use Rattle.mn_ledger.specs.Transport.{view_of}
use Rattle.mn_ledger.specs.Ledger.{world_of}
use Rattle.mn_ledger.specs.Lawful.{IsLawfulJournal}
use Rattle.mn_ledger.specs.Settled.{IsSettled, hops_from}
use Rattle.mn_ledger.proofs.Members.{contained_in}
use Rattle.mn_ledger_laws.proofs.There.{edge_there}
use Rattle.mn_settled_laws.specs.Ways.{links_up, way, Reaches, KnowsTheWay}
use Rattle.mn_settled_laws.specs.Arrival.{IsLeastWay}
use Rattle.mn_settled_laws.specs.Routes.{eligible_of}
use Rattle.mn_settled_laws.proofs.Ways.{know_the_ways}
use Rattle.mn_settled_laws.proofs.LeastWay.{route_is_least}
use Rattle.mn_settled_laws.proofs.Lookup.{chooses}
use Rattle.mn_routing_laws.proofs.Home.{among_edges}
use Rattle.mn_net_laws.specs.Told.{hop_to}
use Rattle.mn_net.specs.Settled.{IsByLinks}

-- 1. Hops

-- a route begins with its first node
begins : (t : Network) (w : World) (n node to : ℕ) → (rest : List ℕ) × (hops_from t w n node to ≡ node ∷ rest)
begins t w zero node to = ([], refl)
begins t w (suc n) node to = by_hop (next (wiring_of t) (view_of (wiring_of t) w.views node) node to) refl
  where
    by_hop : (o : Option (ℕ × ℕ)) → next (wiring_of t) (view_of (wiring_of t) w.views node) node to ≡ o
        → (rest : List ℕ) × (hops_from t w (suc n) node to ≡ node ∷ rest)
    by_hop None e = ([], ap (λ o. elim o as (λ _. List ℕ) [ None ↦ node ∷ [] | Some hop ↦ node ∷ hops_from t w n hop.0 to ]) e)
    by_hop (Some h) e =
        (hops_from t w n h.0 to, ap (λ o. elim o as (λ _. List ℕ) [ None ↦ node ∷ [] | Some hop ↦ node ∷ hops_from t w n hop.0 to ]) e)

-- and goes on with the next hop
begins_with_hop : (t : Network) (w : World) (n node to : ℕ) (h : ℕ × ℕ) → node < n
    → next (wiring_of t) (view_of (wiring_of t) w.views node) node to ≡ Some h
    → (rest : List ℕ) × (hops_from t w n node to ≡ node ∷ h.0 ∷ rest)
begins_with_hop t w zero node to h below e = absurd (none_below node below)
begins_with_hop t w (suc n) node to h below e =
    let more = begins t w n h.0 to in (
      more.0,
      ap (λ o. elim o as (λ _. List ℕ) [ None ↦ node ∷ [] | Some hop ↦ node ∷ hops_from t w n hop.0 to ]) e ∙ ap (λ xs. node ∷ xs) more.1,
    )

abbrev as_node : ℕ × ℕ → NodeNo
as_node hop = record { 0 = hop.0 }

-- what is known of a node's way there
module _ (t : Network) (es : List JournalEntry) (ps : List (List ℕ)) (node edge : ℕ) (lawful : IsLawful t) (journal : IsLawfulJournal t es ps)
    (settled : IsSettled t (world_of t es)) (below : node < length t.loopbacks) (inside : edge < length t.loopbacks) (apart : node ≢ edge)
    (hop : Option NodeNo) (told : hop ≡ hop_to t (world_of t es) node edge) where
  knows : KnowsTheWay t (world_of t es) node edge
  knows = know_the_ways t es ps lawful journal settled node edge below inside

  abbrev Way : Type 0
  Way = Option (ℕ × ℕ)

  at_way : (o : Way) → way t (world_of t es) node edge ≡ o → hop ≡ option_map as_node o
  at_way o e = told ∙ ap (option_map as_node) e

  there : Reaches t (world_of t es) node edge → is_some hop ≡ true
  there reaches = let some = knows.where_reached apart reaches in ap is_some (at_way (Some some.0) some.1)

  only : (o : Way) → way t (world_of t es) node edge ≡ o → is_some hop ≡ true → Reaches t (world_of t es) node edge
  only None e h = absurd (clash (sym h ∙ ap is_some (at_way None e)))
  only (Some x) e h = (knows.only_there x e).1

  starts : (to : NodeNo) → hop ≡ Some to → (o : Way) → way t (world_of t es) node edge ≡ o
      → (nodes : List ℕ) × IsLeastWay t (world_of t es) node edge (node ∷ to.0 ∷ nodes)
  starts to h None e = absurd (no_node (sym (at_way None e) ∙ h))
    where
      no_node : None ≡ Some to → ⊥
      no_node h = cc
  starts to h (Some x) e =
      let next_is : next (wiring_of t) (view_of (wiring_of t) (world_of t es).views node) node edge ≡ Some x =
      ap (λ v. next (wiring_of t) v node edge) knows.view ∙ sym knows.way_is ∙ e in
      let node_is : as_node x ≡ to = same_Some (as_node x) to (sym (at_way (Some x) e) ∙ h) in
      let nodes = begins_with_hop t (world_of t es) (length t.loopbacks) node edge x below next_is in (
        nodes.0,
        subst (IsLeastWay t (world_of t es) node edge) (nodes.1 ∙ ap (λ (n : NodeNo). node ∷ n.0 ∷ nodes.0) node_is)
            (route_is_least t es ps lawful journal settled node edge below inside (knows.only_there x e).1),
      )

  pub by_links : IsByLinks t (world_of t es) node edge hop
  by_links = record {
    hop_is = at_way (next (wiring_of t) (links_up t (world_of t es)) node edge) knows.way_is;
    where_reached = there;
    only_there = only (way t (world_of t es) node edge) refl;
    least = λ to h. starts to h (way t (world_of t es) node edge) refl;
  }

-- 2. Routes

pub from_scratch : (t : Network) (es : List JournalEntry) (ps : List (List ℕ)) (v address : ℕ) → IsLawful t → IsLawfulJournal t es ps
    → IsSettled t (world_of t es) → v < length t.vrfs
    → best (eligible t (world_of t es) (edge_of t v) v address) address ≡ best (eligible_of t (world_of t es) (edge_of t v) v address) address
from_scratch t es ps v address lawful journal settled below =
    chooses t es ps lawful journal settled (edge_of t v) v address
    (contained_in (edges t) (edge_of t v) (among_edges t v below (edge_there t v lawful below)))
