-- A step that nothing refuses can be done, and what it makes stands for the steps with it.
use Rattle.std.proofs.Common.{ℕ, zero, suc, ◌≡◌, ◌≤◌, ◌<◌, ◌^◌, ◌⊎◌, inl, inr, true, List, [], ◌∷◌, length, refl, arith, sym, ap, ◌∙◌}
use Rattle.std.proofs.Common.{Some}
use Rattle.std.specs.Prelude.{◌&&◌, ◌||◌, ◌==◌, not, slice_index_or}
use Rattle.std.specs.List.{AllByRecursion}
use Rattle.mn_base.proofs.Bools.{no, and_parts}
use Rattle.mn_base.proofs.Members.{In}
use Rattle.mn_base.specs.declared.numbers.NodeNo.{NodeNo}
use Rattle.mn_topo.specs.Network.{Network}
use Rattle.mn_topo.specs.VrfTable.{is_edge}
use Rattle.mn_topo.specs.declared.steps.Step.{Step}
use Rattle.mn_bgp_spelling_laws.specs.Spelling.{Labels}
use Rattle.mn_pe.specs.Edge.{Edge}
use Rattle.mn_offers.specs.Heard.{Heard}
use Rattle.mn_routing_laws.proofs.GoingOn.{edge_below}
use Rattle.mn_reflect_ledger_laws.specs.Words.{Word, Open, KeepAlive, Announce, Withdraw}
use Rattle.mn_reflect_ledger_laws.specs.Picks.{ReflectWorld, is_reflector}
use Rattle.mn_reflect_ledger_laws.specs.World.{world_of}
use Rattle.mn_reflect_world_laws.specs.Labels.{labels_of}
use Rattle.mn_reflect_world_laws.specs.Kept.{route_in}
use Rattle.mn_reflect_world_laws.specs.Now.{ReflectNow}
use Rattle.mn_reflect_world_laws.specs.Steps.{may_peer}
use Rattle.mn_reflect_world_laws.specs.Goes.{end_in}
use Rattle.mn_reflect_world_laws.specs.Known.{IsSayableRoute, IsSayableWord, HasClusters, IsHeardInTurn}
use Rattle.mn_reflect_world_laws.specs.Known as known
use Rattle.mn_reflect_world_laws.proofs.Hears.{kept_sayable}
use Rattle.mn_reflect_world_laws.proofs.Exporting.{exports_sayable}
use Rattle.mn_reflect.specs.Course.{IsRun}
use Rattle.mn_reflect_telling.specs.Passing.{IsPassable}
use Rattle.mn_reflect.specs.Doing.{MayTurn, MayHear, IsNext, IsGoodWord, state_of_word}
use Rattle.mn_reflect.proofs.Going.{IsPlaced}
use Rattle.mn_reflect.proofs.Refusing.{sides}
use Rattle.mn_reflect.proofs.Placed.{reflector_placed, edge_placed, edge_is, reflects}

-- 1. All routes of all rows

all_of : (t : Network) (routes : List Heard) → ((route : Heard) → In routes route → IsPassable t route) → AllByRecursion (IsPassable t) routes
all_of t [] h = tt
all_of t (route ∷ routes) h = (h route (inl refl), all_of t routes (λ other i. h other (inr i)))

all_rows : (t : Network) (rows : List (List Heard)) → ((p : ℕ) (route : Heard) → In (slice_index_or rows p []) route → IsPassable t route) →
    AllByRecursion (λ routes. AllByRecursion (IsPassable t) routes) rows
all_rows t [] h = tt
all_rows t (row ∷ rows) h = (all_of t row (h zero), all_rows t rows (λ p. h (suc p)))

passes : (t : Network) (route : Heard) → IsSayableRoute t route → IsPassable t route
passes t route h = record {
  vrf = h.vrf;
  label = h.label;
  ascending = h.ascending;
  targets = h.targets;
  few = h.few;
  near = wide (length route.clusters) h.near;
}
  where
    wide : (n : ℕ) → n ≤ 2 → n ≤ 7
    wide n near = omega (arith, near)

-- 2. Nodes that may have a session

module _ (rs : List ℕ) (steps : List Step) (now : ReflectNow) (is : IsRun now.topology rs steps now) where
  abbrev t : Network
  t = now.topology

  abbrev w : ReflectWorld
  w = world_of t rs steps

  abbrev l : Labels
  l = labels_of t steps

  -- a reflector, or an edge
  abbrev IsOne : ℕ → Type 0
  IsOne node = (is_reflector rs node ≡ true) ⊎ (is_edge t.vrfs node ≡ true)

  pub are_ones : (a b : ℕ) → may_peer t rs a b ≡ true → IsOne a × IsOne b
  are_ones a b may =
      elim (sides (is_reflector rs a) (is_reflector rs b) (is_edge t.vrfs b) (is_edge t.vrfs a)
      (and_parts (not (a == b)) ((is_reflector rs a && (is_reflector rs b || is_edge t.vrfs b)) || (is_reflector rs b && is_edge t.vrfs a)) may).1) [
        | inl one ↦ (inl one.0, one.1)
        | inr two ↦ (inr two.1, inl two.0)
      ]

  pub placed : (node : ℕ) → IsOne node → IsPlaced now node
  placed node one = elim one [
    | inl e ↦ reflector_placed t rs l w now is.stands.0 is.run.are node e
    | inr e ↦ edge_placed t rs l w now is.stands.0 is.run.are node (edge_below t node is.run.topology_is e) e
  ]

  pub may_turn : (node : ℕ) → node < length t.loopbacks → IsOne node → MayTurn now node
  may_turn node below one = record {
    rows = all_rows t (slice_index_or now.heard node []) (λ p route i. passes t route (kept_sayable t rs steps now is.run is.stands node p route below i));
    edge = λ isnt. elim (placed node one) [ inl r ↦ absurd (no (sym isnt ∙ r.0)) | inr e ↦ e.1 ];
    addresses = λ isnt. elim one [
      | inl e ↦ absurd (no (sym isnt ∙ (reflects t rs l w now is.stands.0 node ∙ e)))
      | inr e ↦ ap (λ (edge : Edge). edge.loopbacks) (edge_is t rs l w now is.stands.0 node below e)
    ];
  }

  pub may_hear : (node : ℕ) → node < length t.loopbacks → IsOne node → MayHear now node
  may_hear node below one = record {
    turn = may_turn node below one;
    says = λ isnt. elim one [
      | inl e ↦ absurd (no (sym isnt ∙ (reflects t rs l w now is.stands.0 node ∙ e)))
      | inr e ↦ (exports_sayable t rs steps now is.run is.stands node e).all
    ];
  }

  -- 3. What is received

  -- the clusters of an announcement are addresses
  abbrev pub AreAddressed : Word → Type 0
  AreAddressed (Announce offer) = AllByRecursion (λ cluster. cluster < 2 ^ 32) offer.clusters
  AreAddressed _ = Unit {0}

  pub next_is : (a b : NodeNo) (word : Word) → IsHeardInTurn t rs l now a.0 b.0 word → AreAddressed word → IsNext l now a.0 b.0 word
  next_is a b word h fit = record {
    reflectors = rs;
    same = λ other. sym (reflects t rs l w now is.stands.0 other);
    letter = h.letter;
    turn = h.turn ∙ ap (λ state. Some (end_in t b.0 a.0 state)) (same_state word);
    good = by word h.said h.clusters fit;
  }
    where
      same_state : (v : Word) → known.state_of_word v ≡ state_of_word v
      same_state Open = refl
      same_state KeepAlive = refl
      same_state (Announce offer) = refl
      same_state (Withdraw key) = refl

      by : (v : Word) → IsSayableWord t l v → HasClusters rs a.0 v → AreAddressed v → IsGoodWord t rs l a.0 v
      by (Announce offer) said clusters fits = (passes t (route_in l offer) said, said.prefix, clusters.1, clusters.0, fits)
      by (Withdraw key) said clusters fits = said
      by Open said clusters fits = tt
      by KeepAlive said clusters fits = tt
