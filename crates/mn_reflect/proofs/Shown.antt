-- What edges and sessions show of routes that stand for a world.
use Rattle.std.proofs.Common.{ℕ, ◌≡◌, ◌<◌, Bool, true, false, List, [], ◌∷◌, length, map, refl, ap, ◌∙◌, Option, Some, None}
use Rattle.std.specs.Prelude.{nat_lt, slice_index_or, is_some, option_map, if◌then◌else◌}
use Rattle.mn_wiring.specs.Wiring.{nodes_of}
use Rattle.mn_topo.specs.Network.{Network, wiring_of}
use Rattle.mn_ledger.specs.World.{Config, Peerings}
use Rattle.mn_ledger.specs.Bgp.{peers_live}
use Rattle.mn_bgp_spelling_laws.specs.Spelling.{Labels}
use Rattle.mn_bgp_session.specs.declared.session.BgpSession.{BgpSession}
use Rattle.mn_pe.specs.Edge.{Edge}
use Rattle.mn_pe.specs.Pe.{PeNow}
use Rattle.mn_edges.specs.Changes.{working}
use Rattle.mn_routing_laws.specs.Whole.{RoutesNow, routes_in, edge_or_none}
use Rattle.mn_routing_laws.proofs.Tables.{map_numbers_at}
use Rattle.mn_net_laws.specs.Refusal.{session_at}
use Rattle.mn_reflect_ledger_laws.specs.Picks.{ReflectWorld}
use Rattle.mn_reflect_world_laws.specs.Edges.{all_live, as_peerings}
use Rattle.mn_reflect_world_laws.specs.Now.{ReflectNow, StandsFor, session_in}
use Rattle.mn_reflect.specs.Causes.{shown}

-- 1. Edges

worked : (f : ℕ → Option Edge) (nodes : List ℕ) → map (option_map (λ (pe : PeNow). pe.edge)) (map (λ node. option_map working (f node)) nodes) ≡ map f nodes
worked f [] = refl
worked f (node ∷ nodes) = by (f node) (map (option_map (λ (pe : PeNow). pe.edge)) (map (λ n. option_map working (f n)) nodes)) (worked f nodes)
  where
    by : (o : Option Edge) (rest : List (Option Edge)) → rest ≡ map f nodes →
        option_map (λ (pe : PeNow). pe.edge) (option_map working o) ∷ rest ≡ o ∷ map f nodes
    by None rest h = ap (λ os. None ∷ os) h
    by (Some e) rest h = ap (λ os. Some e ∷ os) h

module _ (t : Network) (rs : List ℕ) (l : Labels) (w : ReflectWorld) (now : ReflectNow) (h : StandsFor t rs l w now) where
  abbrev pub c : Config
  c = all_live t w.config

  abbrev pub p : Peerings
  p = as_peerings h.decisions

  pub edges_shown : (shown now).edges ≡ (routes_in t l c p).edges
  edges_shown = ap (map (option_map (λ (pe : PeNow). pe.edge))) h.edges ∙ worked (edge_or_none t l c p) (nodes_of (wiring_of t))

  -- what is asked of edges alone is asked of these
  pub by_edges : {A : Type 0} (f : RoutesNow → A) → ((es : List (Option Edge)) (ss other : List (List (Option BgpSession))) →
      f (record { edges = es; sessions = ss }) ≡ f (record { edges = es; sessions = other })) → f (shown now) ≡ f (routes_in t l c p)
  by_edges f alone =
      ap (λ es. f (record { edges = es; sessions = now.sessions })) edges_shown
      ∙ alone (routes_in t l c p).edges now.sessions (routes_in t l c p).sessions

  -- 2. Sessions

  some_where : (b : Bool) (x : BgpSession) → is_some (if b then Some x else None) ≡ b
  some_where true x = refl
  some_where false x = refl

  pub end_is : (a b : ℕ) → a < length t.loopbacks → b < length t.loopbacks →
      slice_index_or (slice_index_or now.sessions a []) b None ≡ session_in t w a b
  end_is a b below other =
      ap (λ rows. slice_index_or (slice_index_or rows a []) b None) h.sessions
      ∙ ap (λ row. slice_index_or row b None) (map_numbers_at (λ node. map (session_in t w node) (nodes_of (wiring_of t))) (length t.loopbacks) a [] below)
      ∙ map_numbers_at (session_in t w a) (length t.loopbacks) b None other

  pub lives_as : (a b : ℕ) → a < length t.loopbacks → b < length t.loopbacks → nat_lt a b ≡ true → is_some (session_at (shown now) a b) ≡ w.config.bgp_on a b
  lives_as a b below other first =
      ap is_some (end_is a b below other) ∙ some_where (peers_live w.config a b) _ ∙ ap (λ i. if i then w.config.bgp_on a b else w.config.bgp_on b a) first
