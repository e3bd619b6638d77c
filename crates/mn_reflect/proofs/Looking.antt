-- What an edge answers is what its VRF holds.
use Rattle.std.proofs.Common.{ℕ, ◌≡◌, ◌<◌, ◌+◌, false, List, [], length, sym, ap, ◌∙◌, subst, Option, Some, None}
use Rattle.std.specs.Prelude.{slice_get, slice_index_or, option_map}
use Rattle.std.proofs.lemmas.Option.{same_Some}
use Rattle.mn_prefix.specs.Prefix.{AddressBlock}
use Rattle.mn_prefix.specs.Table.{longest_match}
use Rattle.mn_topo.specs.Network.{Network}
use Rattle.mn_topo.specs.declared.steps.Step.{Step}
use Rattle.mn_ledger.specs.Places.{edge_of}
use Rattle.mn_ledger.specs.Held.{best}
use Rattle.mn_ledger_laws.proofs.There.{edge_there}
use Rattle.mn_settled_laws.specs.Routes.{routes_of}
use Rattle.mn_vrf.specs.Vrf.{VrfState, IsHeldAt, heads}
use Rattle.mn_vrf.specs.declared.source.Source.{Source}
use Rattle.mn_pe.specs.Held.{held_by}
use Rattle.mn_pe.specs.Pe.{PeNow, found_in}
use Rattle.mn_edges.specs.Changes.{working}
use Rattle.mn_routing_laws.specs.Sources.{as_held}
use Rattle.mn_routing_laws.proofs.Home.{is_edge_of}
use Rattle.mn_routing_laws.proofs.Placed.{index_of}
use Rattle.mn_reflect_ledger_laws.specs.World.{world_of}
use Rattle.mn_reflect_ledger_laws.specs.Quiet.{held, IsJoined}
use Rattle.mn_reflect_world_laws.specs.Labels.{labels_of}
use Rattle.mn_ledger.specs.Heads.{held_at}
use Rattle.mn_reflect_world_laws.specs.Now.{ReflectNow}
use Rattle.mn_reflect_world_laws.specs.Goes.{edge_of_node}
use Rattle.mn_reflect_world_laws.proofs.Held.{found_lookup, found_held, rest_lookup, rest_held}
use Rattle.mn_reflect.specs.Course.{IsRun}
use Rattle.mn_reflect.proofs.Placed.{at_edge}

module _ (t : Network) (rs : List ℕ) (steps : List Step) (now : ReflectNow) (is : IsRun t rs steps now) (v : ℕ) (there : v < length now.topology.vrfs)
    (pe : PeNow) (at : Some pe ≡ slice_index_or now.edges (edge_of now.topology v) None) where
  within : v < length t.vrfs
  within = subst (λ (n : Network). v < length n.vrfs) is.stands.0.topology_is there

  its : pe ≡ working (edge_of_node now.edges (edge_of t v))
  its = same_Some pe (working (edge_of_node now.edges (edge_of t v)))
      (at ∙ ap (λ (n : Network). slice_index_or now.edges (edge_of n v) None) is.stands.0.topology_is
      ∙ index_of now.edges (edge_of t v) (Some (working (edge_of_node now.edges (edge_of t v)))) None
      (at_edge t rs (labels_of t steps) (world_of t rs steps) now is.stands.0 (edge_of t v) (edge_there t v is.run.topology_is within) (is_edge_of t v within)))

  module _ (address : ℕ) (result : Option (AddressBlock × Source))
      (told : pe.failed ≡ false → result ≡ found_in v (λ (state : VrfState). longest_match address (held_by pe.edge state)) pe.edge.vrfs) where
    looked : result ≡ found_in v (λ (state : VrfState). longest_match address (held_by (edge_of_node now.edges (edge_of t v)) state))
        (edge_of_node now.edges (edge_of t v)).vrfs
    looked = told (ap (λ (p : PeNow). p.failed) its)
        ∙ ap (λ (p : PeNow). found_in v (λ (state : VrfState). longest_match address (held_by p.edge state)) p.edge.vrfs) its

    pub looks_up : result ≡ option_map (as_held (labels_of t steps)) (best (held t rs (world_of t rs steps) (edge_of t v) v) address)
    looks_up = looked ∙ found_lookup t rs steps now is.run is.stands v within address

    pub looks_up_at_rest : (world_of t rs steps).flying ≡ [] → IsJoined t rs (world_of t rs steps) →
        result ≡ option_map (as_held (labels_of t steps)) (best (routes_of t (world_of t rs steps).config (edge_of t v) v) address)
    looks_up_at_rest quiet joined = looked ∙ rest_lookup t rs steps now is.run is.stands v within quiet joined address

  module _ (k : ℕ) (result : Option (AddressBlock × Source))
      (told : pe.failed ≡ false → result ≡ found_in v (λ (state : VrfState). slice_get (heads (held_by pe.edge state)) k) pe.edge.vrfs) where
    shown : result ≡ found_in v (λ (state : VrfState). slice_get (heads (held_by (edge_of_node now.edges (edge_of t v)) state)) k)
        (edge_of_node now.edges (edge_of t v)).vrfs
    shown = told (ap (λ (p : PeNow). p.failed) its)
        ∙ ap (λ (p : PeNow). found_in v (λ (state : VrfState). slice_get (heads (held_by p.edge state)) k) p.edge.vrfs) its

    pub holds : result ≡ option_map (as_held (labels_of t steps)) (held_at (held t rs (world_of t rs steps) (edge_of t v) v) k)
    holds = shown ∙ found_held t rs steps now is.run is.stands v within k

    pub holds_at_rest : (world_of t rs steps).flying ≡ [] → IsJoined t rs (world_of t rs steps) →
        result ≡ option_map (as_held (labels_of t steps)) (held_at (routes_of t (world_of t rs steps).config (edge_of t v) v) k)
    holds_at_rest quiet joined = shown ∙ rest_held t rs steps now is.run is.stands v within quiet joined k

  module _ (last : AddressBlock) (result : Option (AddressBlock × Source))
      (told : pe.failed ≡ false → (k : ℕ) → IsHeldAt last (found_in v (λ (state : VrfState). slice_get (heads (held_by pe.edge state)) k) pe.edge.vrfs) →
      result ≡ found_in v (λ (state : VrfState). slice_get (heads (held_by pe.edge state)) (k + 1)) pe.edge.vrfs) where
    placed_so : (k : ℕ) → found_in v (λ (state : VrfState). slice_get (heads (held_by pe.edge state)) k) pe.edge.vrfs
        ≡ option_map (as_held (labels_of t steps)) (held_at (held t rs (world_of t rs steps) (edge_of t v) v) k)
    placed_so k =
        ap (λ (p : PeNow). found_in v (λ (state : VrfState). slice_get (heads (held_by p.edge state)) k) p.edge.vrfs) its
        ∙ found_held t rs steps now is.run is.stands v within k

    pub holds_after : (k : ℕ) → IsHeldAt last (option_map (as_held (labels_of t steps)) (held_at (held t rs (world_of t rs steps) (edge_of t v) v) k)) →
        result ≡ option_map (as_held (labels_of t steps)) (held_at (held t rs (world_of t rs steps) (edge_of t v) v) (k + 1))
    holds_after k at_last =
        told (ap (λ (p : PeNow). p.failed) its) k (subst (IsHeldAt last) (sym (placed_so k)) at_last) ∙ placed_so (k + 1)

-- there is an edge
pub some_edge : (t : Network) (rs : List ℕ) (steps : List Step) (now : ReflectNow) → IsRun t rs steps now → (v : ℕ) → v < length now.topology.vrfs →
    None ≡ slice_index_or now.edges (edge_of now.topology v) None → ⊥
some_edge t rs steps now is v there none =
    let within : v < length t.vrfs = subst (λ (n : Network). v < length n.vrfs) is.stands.0.topology_is there in
    let clash : None ≡ Some (working (edge_of_node now.edges (edge_of t v))) =
    none ∙ ap (λ (n : Network). slice_index_or now.edges (edge_of n v) None) is.stands.0.topology_is
    ∙ index_of now.edges (edge_of t v) (Some (working (edge_of_node now.edges (edge_of t v)))) None
    (at_edge t rs (labels_of t steps) (world_of t rs steps) now is.stands.0 (edge_of t v) (edge_there t v is.run.topology_is within) (is_edge_of t v within)) in
    cc
