-- One edge is told something and has news: the routes stand for the ledger again.
use Rattle.std.proofs.Common.{ℕ, ◌≡◌, ◌+◌, ◌-◌, ◌*◌, ◌<◌, Bool, true, List, ◌++◌, map, length, refl, arith}
use Rattle.std.proofs.Common.{sym, ◌∙◌, ap, subst, Some}
use Rattle.std.specs.Prelude.{slice_get, slice_set, option_map}
use Rattle.std.specs.List.{flat_map}
use Rattle.mn_base.proofs.Members.{In, in_flat_map}
use Rattle.mn_wiring.specs.Wiring.{nodes_of}
use Rattle.mn_flight.specs.declared.Item.{Item}
use Rattle.mn_topo.specs.Network.{Network, wiring_of}
use Rattle.mn_topo.specs.Lawful.{IsLawful}
use Rattle.mn_topo.specs.VrfTable.{is_edge}
use Rattle.mn_topo.specs.declared.steps.Step.{Step}
use Rattle.mn_topo.specs.declared.steps.Step.TheVariants as step
use Rattle.mn_topo.specs.declared.steps.JournalEntry.{JournalEntry}
use Rattle.mn_topo.specs.declared.steps.Damaged.TheVariants.{Undamaged}
use Rattle.mn_bgp_wire.specs.Written.{update_bytes, announced}
use Rattle.mn_ledger.specs.Places.{edges, loopback, vrf_at, edge_of}
use Rattle.mn_ledger.specs.World.{Config, World, Telling, Open, BgpKeepAlive, Announcement, Withdrawal}
use Rattle.mn_ledger.specs.Bgp.{Told, is_established, steady_peers, route_news, told_in, bgp_counted, with_told}
use Rattle.mn_ledger.specs.Turns.{IsInTurn, PeersAreInTurn}
use Rattle.mn_ledger.specs.Ledger.{config_after, after, world_of, packets_of}
use Rattle.mn_ledger.specs.Items.{numbered, route_of}
use Rattle.mn_ledger.proofs.InTurn.{in_turn}
use Rattle.mn_ledger.proofs.Refusals.{IsFree, free}
use Rattle.mn_frame_laws.specs.Numbers.{labels_of}
use Rattle.mn_timetable_laws.specs.Keys.{keys_in, keys_on, of_routes}
use Rattle.mn_timetable_laws.proofs.Keys.{keys_put}
use Rattle.mn_timetable_laws.specs.Steps.{pushed, routes_now}
use Rattle.mn_bgp_spelling_laws.specs.Spelling.{Labels, as_targets, bytes_in}
use Rattle.mn_pe.specs.Edge.{Edge}
use Rattle.mn_pe.specs.Held.{Exported}
use Rattle.mn_routing_laws.specs.Labels.{labels_after, next_label}
use Rattle.mn_routing_laws.specs.Standing.{edge_in}
use Rattle.mn_routing_laws.specs.Whole.{RoutesNow, edge_or_none, routes_in, at_edge}
use Rattle.mn_routing_laws.specs.Touched.{told_of}
use Rattle.mn_routing_laws.specs.Changes.{routes_after}
use Rattle.mn_routing_laws.specs.Routed.{Routed, IsRoutes, working}
use Rattle.mn_routing_laws.specs.Steps.{IsTurn}
use Rattle.mn_routing_laws.specs.Sending.{put_all, to_all, peers_from, ends_of, spelled_in, news_in}
use Rattle.mn_routing_laws.specs.Doing.{HasEdge, Tells, edge_at}
use Rattle.mn_routing_laws.proofs.Lawful.{Rests, rests}
use Rattle.mn_routing_laws.proofs.GoingOn.{go_by}
use Rattle.mn_routing_laws.proofs.Telling.{tells_what_is_touched}
use Rattle.mn_routing_laws.proofs.Attaching.{AgreeOn, IsKnown, agrees}
use Rattle.mn_routing_laws.proofs.Flying.{parcel_of, keys_told, as_many_told, AreToNodes, FliesAs, IsHeard, flies_told, flies_alike}
use Rattle.mn_routing_laws.proofs.Steady.{peers_are, to_all_peers, news_to_nodes}
use Rattle.mn_routing_laws.proofs.Home.{home_in, news_at_home}
use Rattle.mn_routing_laws.proofs.Placed.{set_edge, edge_is, ends_are, has_edge}
use Rattle.mn_routing_laws.proofs.Others.{then_stands}

-- 1. What a turn brings

pub record Brings (t : Network) (es : List JournalEntry) (s : Step) : Type 0 where
  pub rest : Rests t (world_of t es)
  pub turn : IsInTurn t (world_of t es)
  pub inputs : List (List ℕ)
  pub bytes : List ℕ
  pub ok : IsFree t (world_of t es) (packets_of t es inputs) (length es) s bytes

pub brings : (t : Network) (es : List JournalEntry) (s : Step) → IsLawful t → IsTurn t es s → Brings t es s
brings t es s lawful turn = record {
  rest = rests t es turn.inputs lawful turn.lawful;
  turn = in_turn t es turn.inputs lawful turn.lawful;
  inputs = turn.inputs;
  bytes = turn.bytes;
  ok = free t (world_of t es) (packets_of t es turn.inputs) (length es) s turn.bytes turn.allowed;
}

pub heard_all : (w : World) → PeersAreInTurn w.config w.peerings → IsHeard w.peerings
heard_all w turn a b apart = (turn b a (λ e. apart (sym e))).heard

-- the routes go by parts
pub routes_go : (t : Network) (l : Labels) (es : List JournalEntry) (s : Step) → IsLawful t → IsTurn t es s
    → routes_in t (labels_after (next_label t es) (world_of t es).config l s) (config_after (world_of t es).config s) (after t (world_of t es) s).peerings
    ≡ routes_after t (next_label t es) l (world_of t es) (routes_in t l (world_of t es).config (world_of t es).peerings) s
routes_go t l es s lawful turn =
    let b = brings t es s lawful turn in
    go_by t (next_label t es) l (world_of t es) (packets_of t es b.inputs) (length es) b.bytes s lawful b.rest b.turn turn.fitting b.ok

-- 2. What was told is spelled as it was

pub same_bytes : (t : Network) (gives : ℕ → ℕ) (c : Config) (l : Labels) (s : Step) (a : ℕ) (m : Telling) → IsKnown c m →
    bytes_in t l a m ≡ bytes_in t (labels_after gives c l s) a m
unfolding AgreeOn
same_bytes t gives c l (step.Attach s) a (Announcement e) h =
    ap (λ label. update_bytes (announced (loopback t a) (record { rd = (vrf_at t e.vrf).rd; prefix = e.prefix; label = label }) (as_targets e.targets)))
    (sym (agrees t gives c l s (Announcement e) h))
same_bytes t gives c l (step.Attach s) a Open h = refl
same_bytes t gives c l (step.Attach s) a BgpKeepAlive h = refl
same_bytes t gives c l (step.Attach s) a (Withdrawal v p) h = refl
same_bytes t gives c l _ a m h = refl

pub flies_now : (t : Network) (gives : ℕ → ℕ) (l : Labels) (w : World) (s : Step) (messages : List (Item (List ℕ))) → Rests t w →
    FliesAs t l w.peerings messages →
    FliesAs t (labels_after gives w.config l s) w.peerings messages
flies_now t gives l w s messages rest flies =
    flies_alike t l (labels_after gives w.config l s) w.peerings messages (λ a b m i. same_bytes t gives w.config l s a m (rest.sound a b m i).1) flies

-- 3. The whole

-- what a step did, by the journal
pub record Does (t : Network) (es : List JournalEntry) (s : Step) (tick number : ℕ) (old new : Routed) (made : ℕ) : Type 0 where
  pub stands : IsRoutes t (pushed es tick s) new
  pub keys : keys_in new.messages ≡ keys_in old.messages ++ keys_on (of_routes (length t.loopbacks)) (numbered t tick number (routes_now t es s))
  pub count : made ≡ length (routes_now t es s)

less_than : (number next n m : ℕ) → next ≡ number + n → n ≡ m → next - number ≡ m
less_than number next n m e f = omega (arith, e, f)

pub keys_then : (t : Network) (l : Labels) (tick number : ℕ) (xs : List Told) (old new : List (Item (List ℕ))) →
    new ≡ old ++ put_all (tick + t.bgp_delay) number (map (parcel_of t l) xs)
    → keys_in new ≡ keys_in old ++ keys_on (of_routes (length t.loopbacks)) (numbered t tick number (map route_of xs))
keys_then t l tick number xs old new e =
    ap keys_in e ∙ keys_put old (put_all (tick + t.bgp_delay) number (map (parcel_of t l) xs)) ∙ ap (λ ks. keys_in old ++ ks) (keys_told t l tick number xs)

pub count_then : (t : Network) (l : Labels) (number next : ℕ) (xs : List Told) → next ≡ number + length (map (parcel_of t l) xs) →
    next - number ≡ length (map route_of xs)
count_then t l number next xs e = less_than number next _ _ e (as_many_told t l xs)

-- all that is told in a step
abbrev pub tolds : Network → World → Step → List Told
tolds t w s = told_in t w.config w.peerings (config_after w.config s) (bgp_counted w.peerings s) s

-- what is known of a step that one edge is told: which edge, and how the ledger speaks of it
pub record IsOfOne (t : Network) (l : Labels) (es : List JournalEntry) (s : Step) (f : Edge → Edge) : Type 0 where
  pub vrf : ℕ
  pub there : vrf < length t.vrfs
  pub below : edge_of t vrf < length t.loopbacks
  pub home : edge_of t vrf ≡ home_in t s
  pub edge : is_edge t.vrfs (home_in t s) ≡ true
  pub among : In (edges t) (home_in t s)
  pub changes : routes_after t (next_label t es) l (world_of t es) (routes_in t l (world_of t es).config (world_of t es).peerings) s ≡ at_edge (home_in t s) f
      (routes_in t l (world_of t es).config (world_of t es).peerings)
  pub quiet : bgp_counted (world_of t es).peerings s ≡ (world_of t es).peerings
  pub told : (after t (world_of t es) s).peerings ≡ with_told (bgp_counted (world_of t es).peerings s) (tolds t (world_of t es) s)
  pub no_replies : tolds t (world_of t es) s ≡ flat_map
      (route_news t (world_of t es).config (world_of t es).peerings (config_after (world_of t es).config s) (bgp_counted (world_of t es).peerings s)) (edges t)
  pub same : (q : ℕ) →
      is_established (config_after (world_of t es).config s) (bgp_counted (world_of t es).peerings s) (home_in t s) q ≡ is_established (world_of t es).config
      (world_of t es).peerings (home_in t s) q
  pub now : routes_now t es s ≡ map route_of (tolds t (world_of t es) s)

module _ (t : Network) (lawful : IsLawful t) (es : List JournalEntry) (s : Step) (tick number : ℕ) (old : Routed) (stands : IsRoutes t es old)
    (turn : IsTurn t es s) where
  abbrev l : Labels
  l = labels_of t es

  abbrev w : World
  w = world_of t es

  abbrev later : Labels
  later = labels_after (next_label t es) w.config l s

  module _ (f : Edge → Edge) (one : IsOfOne t l es s f) where
    home_below : home_in t s < length t.loopbacks
    home_below = subst (λ n. n < length t.loopbacks) one.home one.below

    -- the edge as it was
    pub was : edge_at old (home_in t s) ≡ edge_in t l w.config w.peerings (home_in t s)
    was = edge_is t l w old stands (home_in t s) home_below one.edge

    to_nodes : AreToNodes t (tolds t w s)
    to_nodes = subst (AreToNodes t) (sym one.no_replies) (all_news (edges t))
      where
        all_news : (xs : List ℕ) → AreToNodes t (flat_map (route_news t w.config w.peerings (config_after w.config s) (bgp_counted w.peerings s)) xs)
        all_news xs x i = let g = in_flat_map (route_news t w.config w.peerings (config_after w.config s) (bgp_counted w.peerings s)) xs x i in
            news_to_nodes t w.config (config_after w.config s) w.peerings (bgp_counted w.peerings s) g.0 x g.2

    pub parcels_are : (comes : Bool) (exports : List Exported) →
        map (bytes_in t later (home_in t s)) (told_of t w.config s (home_in t s)) ≡ map (spelled_in t (home_in t s) comes) exports
        → map (parcel_of t later) (tolds t w s) ≡ news_in t old (home_in t s) comes exports
    parcels_are comes exports spelled =
        ap (map (parcel_of t later)) (one.no_replies
        ∙ news_at_home t w.config (config_after w.config s) w.peerings (bgp_counted w.peerings s) s one.among
        (λ e. tells_what_is_touched t es turn.inputs (record { tick = tick; step = s; damaged = Undamaged }) turn.bytes e lawful turn.lawful turn.fitting
        turn.allowed))
        ∙ to_all_peers t later (home_in t s) (steady_peers t w.config w.peerings (config_after w.config s) (bgp_counted w.peerings s) (home_in t s))
        (told_of t w.config s (home_in t s))
        ∙ ap (λ ps. to_all (home_in t s * length t.loopbacks) ps (map (bytes_in t later (home_in t s)) (told_of t w.config s (home_in t s))))
        (peers_are t w.config (config_after w.config s) w.peerings (bgp_counted w.peerings s) (home_in t s) one.same
        ∙ ap (peers_from 0) (sym (ends_are t l w old stands (home_in t s) home_below)))
        ∙ ap (to_all (home_in t s * length t.loopbacks) (peers_from 0 (ends_of old (home_in t s)))) spelled

    pub does : (comes : Bool) (exports : List Exported) (new : Routed) (next : ℕ) →
        map (bytes_in t later (home_in t s)) (told_of t w.config s (home_in t s)) ≡ map (spelled_in t (home_in t s) comes) exports
        → Tells t tick number (home_in t s) (f (edge_at old (home_in t s))) comes exports old new next → Does t es s tick number old new (next - number)
    does comes exports new next spelled tells =
        let parcels = parcels_are comes exports spelled in
        let has : HasEdge t old (home_in t s) = has_edge t l w old stands (home_in t s) home_below one.edge in
        let parts = routes_go t l es s lawful turn ∙ one.changes in
        let put : new.messages ≡ old.messages ++ put_all (tick + t.bgp_delay) number (map (parcel_of t later) (tolds t w s)) =
        ap (λ (r : Routed). r.messages) tells.new_is ∙ ap (λ ps. old.messages ++ put_all (tick + t.bgp_delay) number ps) (sym parcels) in
        let b = brings t es s lawful turn in
        record {
          stands = then_stands t es tick s new (record {
            edges = ap (λ (r : Routed). r.edges) tells.new_is
                ∙ ap (λ xs. slice_set xs (home_in t s) (Some (working (f (edge_at old (home_in t s)))))) stands.edges
                ∙ set_edge (map (edge_or_none t l w.config w.peerings) (nodes_of (wiring_of t))) (home_in t s) f (edge_at old (home_in t s))
                (sym (ap (λ xs. slice_get xs (home_in t s)) stands.edges) ∙ has.there)
                ∙ ap (λ (r : RoutesNow). map (option_map working) r.edges) (sym parts);
            sessions = ap (λ (r : Routed). r.sessions) tells.new_is ∙ stands.sessions ∙ ap (λ (r : RoutesNow). r.sessions) (sym parts);
            messages =
                subst (λ p. FliesAs t later p new.messages) (sym (one.told ∙ ap (λ p. with_told p (tolds t w s)) one.quiet))
                (subst (FliesAs t later (with_told w.peerings (tolds t w s))) (sym put)
                (flies_told t later w.peerings (tick + t.bgp_delay) number (tolds t w s) old.messages (heard_all w b.turn.bgp) to_nodes
                (flies_now t (next_label t es) l w s old.messages b.rest stands.messages)));
          });
          keys = keys_then t later tick number (tolds t w s) old.messages new.messages put
              ∙ ap (λ xs. keys_in old.messages ++ keys_on (of_routes (length t.loopbacks)) (numbered t tick number xs)) (sym one.now);
          count = count_then t later number next (tolds t w s) (tells.next_is ∙ ap (λ ps. number + length ps) (sym parcels)) ∙ ap length (sym one.now);
        }
