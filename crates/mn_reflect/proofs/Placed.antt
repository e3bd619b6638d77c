-- Where edges stand among the nodes, where routes stand for a world.
use Rattle.std.proofs.Common.{ℕ, ◌≡◌, ◌+◌, ◌<◌, Bool, true, false, List, length, refl, arith, sym, ap, ◌∙◌, Some, None, inl, inr}
use Rattle.std.specs.Prelude.{slice_get, slice_index_or, option_map, if◌then◌else◌}
use Rattle.mn_topo.specs.Network.{Network}
use Rattle.mn_topo.specs.VrfTable.{is_edge}
use Rattle.mn_bgp_spelling_laws.specs.Spelling.{Labels}
use Rattle.mn_pe.specs.Edge.{Edge}
use Rattle.mn_edges.specs.Changes.{working}
use Rattle.mn_routing_laws.specs.Standing.{edge_in}
use Rattle.mn_routing_laws.specs.Doing.{edge_or_blank}
use Rattle.mn_routing_laws.proofs.Placed.{get_range, index_of, length_range}
use Rattle.mn_routing_laws.proofs.Tables.{map_numbers_at}
use Rattle.mn_reflect_ledger_laws.specs.Picks.{ReflectWorld, is_reflector}
use Rattle.mn_reflect_ledger_laws.specs.Quiet.{AreReflectors}
use Rattle.mn_reflect_world_laws.specs.Edges.{all_live, as_peerings}
use Rattle.mn_reflect_world_laws.specs.Now.{ReflectNow, StandsFor, edge_or_none}
use Rattle.mn_reflect_world_laws.specs.Goes.{edge_of_node}
use Rattle.mn_reflect_world_laws.proofs.Addresses.{still_reflector}
use Rattle.mn_reflect.specs.Doing.{IsEdgeAt}
use Rattle.mn_reflect.proofs.Going.{IsPlaced}

module _ (t : Network) (rs : List ℕ) (l : Labels) (w : ReflectWorld) (now : ReflectNow) (h : StandsFor t rs l w now) where
  abbrev pub the_edge : ℕ → Edge
  the_edge node = edge_in t l (all_live t w.config) (as_peerings h.decisions) node

  pub edges_many : length now.edges ≡ length t.loopbacks
  edges_many = ap length h.edges ∙ length_range (λ node. option_map working (edge_or_none t l w h.decisions node)) 0 (length t.loopbacks)

  nought : (n : ℕ) → 0 + n ≡ n
  nought n = omega arith

  pub there_in : (node : ℕ) → node < length t.loopbacks → is_edge t.vrfs node ≡ true → slice_get now.edges node ≡ Some (Some (working (the_edge node)))
  there_in node below is =
      ap (λ es. slice_get es node) h.edges
      ∙ get_range (λ n. option_map working (edge_or_none t l w h.decisions n)) 0 (length t.loopbacks) node below
      ∙ ap (λ n. Some (option_map working (edge_or_none t l w h.decisions n))) (nought node)
      ∙ ap (λ b. Some (option_map working (if b then Some (the_edge node) else None))) is

  pub edge_is : (node : ℕ) → node < length t.loopbacks → is_edge t.vrfs node ≡ true → edge_of_node now.edges node ≡ the_edge node
  edge_is node below is = ap edge_or_blank (index_of now.edges node (Some (working (the_edge node))) None (there_in node below is))

  pub at_edge : (node : ℕ) → node < length t.loopbacks → is_edge t.vrfs node ≡ true → IsEdgeAt now node
  at_edge node below is = there_in node below is ∙ ap (λ e. Some (Some (working e))) (sym (edge_is node below is))

  pub at_none : (node : ℕ) → node < length t.loopbacks → is_edge t.vrfs node ≡ false → slice_index_or now.edges node None ≡ None
  at_none node below isnt =
      ap (λ es. slice_index_or es node None) h.edges
      ∙ map_numbers_at (λ n. option_map working (edge_or_none t l w h.decisions n)) (length t.loopbacks) node None below
      ∙ ap (λ b. option_map working (if b then Some (the_edge node) else None)) isnt

  -- the reflectors in the order of their addresses are the same
  pub reflects : (node : ℕ) → is_reflector now.reflectors node ≡ is_reflector rs node
  reflects node = ap (λ nodes. is_reflector nodes node) h.reflectors_are ∙ still_reflector t rs node

  module _ (are : AreReflectors t rs) where
    pub reflector_placed : (node : ℕ) → is_reflector rs node ≡ true → IsPlaced now node
    reflector_placed node is = inl (reflects node ∙ is, at_none node (are.nodes node is) (are.no_edges node is))

    pub edge_placed : (node : ℕ) → node < length t.loopbacks → is_edge t.vrfs node ≡ true → IsPlaced now node
    edge_placed node below is = inr (reflects node ∙ no_reflector (is_reflector rs node) refl, at_edge node below is)
      where
        no_reflector : (b : Bool) → is_reflector rs node ≡ b → is_reflector rs node ≡ false
        no_reflector false e = e
        no_reflector true e = absurd (let clash : true ≡ false → ⊥ = (λ q. cc) in clash (sym is ∙ are.no_edges node e))
