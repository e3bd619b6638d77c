-- What is kept goes on as the world does, and what each VRF finds in it.
use Rattle.std.specs.Prelude.{◌≡◌, ◌<◌, ℕ, true, List, [], ◌∷◌, ◌++◌, length, slice_get, None, option_map}
use Rattle.mn_prefix.specs.Table.{longest_match}
use Rattle.mn_topo.specs.Network.{Network}
use Rattle.mn_topo.specs.declared.steps.Step.{Step}
use Rattle.mn_ledger.specs.Places.{edge_of}
use Rattle.mn_ledger.specs.Held.{HeldRoute, best}
use Rattle.mn_settled_laws.specs.Routes.{routes_of}
use Rattle.mn_vrf.specs.Vrf.{VrfState, heads}
use Rattle.mn_pe.specs.Edge.{Edge}
use Rattle.mn_pe.specs.Pe.{found_in}
use Rattle.mn_pe.specs.Held.{held_by}
use Rattle.mn_bgp_spelling_laws.specs.Spelling.{Labels}
use Rattle.mn_routing_laws.specs.Sources.{as_held}
use Rattle.mn_reflect_ledger_laws.specs.Quiet.{held, IsJoined}
use Rattle.mn_reflect_ledger_laws.specs.World.{world_of}
use Rattle.mn_reflect_ledger_laws.specs.Refusal.{refusal}
use Rattle.mn_reflect_world_laws.specs.Labels.{labels_of}
use Rattle.mn_reflect_world_laws.specs.Now.{ReflectNow, IsReflect}
use Rattle.mn_reflect_world_laws.specs.Steps.{takes, IsLawfulRun}
use Rattle.mn_reflect_world_laws.specs.Goes.{word_heard, edge_of_node, Goes}
use Rattle.mn_ledger.specs.Heads.{held_at}
use Rattle.mn_reflect_world_laws.specs.Starts.{StartsAs}

-- what a step makes of what is kept stands for the steps with it
abbrev pub GoesOn : Type 0
GoesOn = (topology : Network) (reflectors : List ℕ) (steps : List Step) (done : Step) (now new : ReflectNow) → IsLawfulRun topology reflectors steps →
    takes topology reflectors done ≡ true → refusal topology (world_of topology reflectors steps) done ≡ None → IsReflect topology reflectors steps now →
    Goes topology reflectors (labels_of topology steps) (word_heard (world_of topology reflectors steps) done) now new done →
    IsReflect topology reflectors (steps ++ done ∷ []) new

abbrev pub Starts : Type 0
Starts = (topology : Network) (reflectors : List ℕ) (now : ReflectNow) → StartsAs topology reflectors now → IsReflect topology reflectors [] now

-- what a VRF of an edge finds is the best of these routes, by address and by prefix
pub record Finds (labels : Labels) (edge : Edge) (v : ℕ) (routes : List HeldRoute) : Type 0 where
  pub lookup : (address : ℕ) → found_in v (λ (state : VrfState). longest_match address (held_by edge state)) edge.vrfs
      ≡ option_map (as_held labels) (best routes address)
  pub held : (k : ℕ) → found_in v (λ (state : VrfState). slice_get (heads (held_by edge state)) k) edge.vrfs ≡ option_map (as_held labels) (held_at routes k)

-- each VRF finds what it imports of what the reflectors announce
abbrev pub FindsWhatIsReflected : Type 0
FindsWhatIsReflected = (topology : Network) (reflectors : List ℕ) (steps : List Step) (now : ReflectNow) (v : ℕ) → IsLawfulRun topology reflectors steps →
    IsReflect topology reflectors steps now → v < length topology.vrfs →
    Finds (labels_of topology steps) (edge_of_node now.edges (edge_of topology v)) v
    (held topology reflectors (world_of topology reflectors steps) (edge_of topology v) v)

-- where no message flies and sessions join all, it finds what a full mesh of sessions gives it
abbrev pub FindsAsInAFullMesh : Type 0
FindsAsInAFullMesh = (topology : Network) (reflectors : List ℕ) (steps : List Step) (now : ReflectNow) (v : ℕ) → IsLawfulRun topology reflectors steps →
    IsReflect topology reflectors steps now → v < length topology.vrfs → (world_of topology reflectors steps).flying ≡ [] →
    IsJoined topology reflectors (world_of topology reflectors steps) →
    Finds (labels_of topology steps) (edge_of_node now.edges (edge_of topology v)) v
    (routes_of topology (world_of topology reflectors steps).config (edge_of topology v) v)
