-- Parts that stand for the ledger show it.
use Rattle.std.proofs.Common.{ℕ, ◌≡◌, ◌<◌, List, [], ◌∷◌, length, map, refl, sym, ap, ◌∙◌, subst, Option, Some, None}
use Rattle.std.specs.Prelude.{option_map, slice_get, slice_index, slice_index_or, true}
use Rattle.std.proofs.lemmas.List.{length-map}
use Rattle.std.proofs.lemmas.List.FromFn.{length-map-range_with_len}
use Rattle.mn_wiring.specs.Wiring.{nodes_of, links_of}
use Rattle.mn_topo.specs.Lawful.{IsLawful}
use Rattle.mn_topo.specs.Network.{Network, wiring_of}
use Rattle.mn_topo.specs.Steps.{fits}
use Rattle.mn_topo.specs.declared.steps.Step.{Step}
use Rattle.mn_topo.specs.declared.steps.JournalEntry.{JournalEntry}
use Rattle.mn_ledger.specs.World.{World}
use Rattle.mn_ledger.specs.Ledger.{world_of}
use Rattle.mn_ledger.specs.Refusal.{refusal}
use Rattle.mn_ledger.specs.Items.{flight_of}
use Rattle.mn_frame_laws.specs.Given.{given}
use Rattle.mn_frame_laws.specs.Numbers.{labels_of}
use Rattle.mn_frame_laws.proofs.Ranges.{given_long}
use Rattle.mn_lsr.specs.Standing.{Standing}
use Rattle.mn_pe.specs.Edge.{Edge}
use Rattle.mn_pe.specs.Pe.{PeNow}
use Rattle.mn_routing_laws.specs.Routed.{Routed, working}
use Rattle.mn_routing_laws.specs.Whole.{RoutesNow, routes_in, edge_or_none, session_or_none}
use Rattle.mn_routing_laws.specs.Changes.{routes_of}
use Rattle.mn_routing_laws.proofs.Tables.{map_numbers_at}
use Rattle.mn_transit.specs.Moving.{Moving}
use Rattle.mn_transport_laws.specs.Carried.{Carried}
use Rattle.mn_net_laws.specs.Tallies.{Tally}
use Rattle.mn_net_laws.specs.Refusal.{refusal_seen}
use Rattle.mn_net_laws.specs.Seen.{Labels, Shows, labels_asked}
use Rattle.mn_net_laws.proofs.Rows.{refuses_alike}
use Rattle.mn_net.specs.Parts.{shown, asked_in, seen_in, PartsStand, HaveSizes}
use Rattle.mn_net.proofs.AskedOfParts.{count_at, get_at}

worked_edges : (es : List (Option Edge)) → map (option_map (λ (pe : PeNow). pe.edge)) (map (option_map working) es) ≡ es
worked_edges [] = refl
worked_edges (None ∷ es) = ap (λ os. None ∷ os) (worked_edges es)
worked_edges (Some e ∷ es) = ap (λ os. Some e ∷ os) (worked_edges es)

module _ (t : Network) (es : List JournalEntry) (ps : List (List ℕ)) (carried : Carried) (routed : Routed) (moving : Moving) (tally : Tally)
    (h : PartsStand t es ps carried routed moving tally) where
  abbrev w : World
  w = world_of t es

  routes_shown : shown routed ≡ routes_of t es
  routes_shown =
      ap (λ edges. let r : RoutesNow = record { edges = edges; sessions = routed.sessions } in r)
      (ap (map (option_map (λ (pe : PeNow). pe.edge))) h.routes.edges ∙ worked_edges (routes_in t (labels_of t es) w.config w.peerings).edges)
      ∙ ap (λ sessions. let r : RoutesNow = record { edges = (routes_in t (labels_of t es) w.config w.peerings).edges; sessions = sessions } in
      r) h.routes.sessions

  given_shown : (node : ℕ) → node < length t.loopbacks →
      slice_index (asked_in carried) node ≡ labels_asked (given t es node)
  given_shown node below =
      let at = get_at carried.nodes node (subst (λ n. node < n) (sym h.transport.each) below) in
      count_at (λ (s : Standing). labels_asked s.labels) carried.nodes node at.0 at.1 ∙ ap labels_asked (h.transport.nodes node at.0 at.1).labels

  pub shows : (steps : ℕ) → steps ≡ length es → Shows t es ps (seen_in carried routed moving tally (flight_of t es ps).made steps)
  shows steps e = record {
    changes = h.transport.changes;
    up = h.transport.up;
    switches = h.transport.switches;
    given = given_shown;
    routes = routes_shown;
    statics = h.counted.statics;
    packed = h.packed;
    channels = h.channels;
    steps = e;
  }

  pub sizes : HaveSizes t carried routed
  sizes = record {
    changes = ap length h.transport.changes ∙ length-map-range_with_len w.views.changes 0 (length t.links);
    switches = ap length h.transport.switches ∙ length-map-range_with_len w.config.ldp_on 0 (length t.links);
    nodes = h.transport.each;
    fecs = λ node standing at. ap (λ (labels : Labels). length labels.fecs) (h.transport.nodes node standing at).labels ∙ given_long t es node;
    edges = ap length h.routes.edges ∙ length-map (routes_in t (labels_of t es) w.config w.peerings).edges (option_map working)
        ∙ length-map-range_with_len (edge_or_none t (labels_of t es) w.config w.peerings) 0 (length t.loopbacks);
    sessions = ap length h.routes.sessions
        ∙ length-map-range_with_len (λ node. map (session_or_none t w.config w.peerings node) (nodes_of (wiring_of t))) 0 (length t.loopbacks);
    peers = λ edge below. ap (λ rows. length (slice_index_or rows edge [])) h.routes.sessions
        ∙ ap length (map_numbers_at (λ node. map (session_or_none t w.config w.peerings node) (nodes_of (wiring_of t))) (length t.loopbacks) edge [] below)
        ∙ length-map-range_with_len (session_or_none t w.config w.peerings edge) 0 (length t.loopbacks);
  }

  pub refuses : (lawful : IsLawful t) (steps : ℕ) (s : Step) (b : List ℕ) → steps ≡ length es → fits t s ≡ true →
      refusal_seen t (seen_in carried routed moving tally (flight_of t es ps).made steps) s b ≡ refusal t es ps s b
  refuses lawful steps s b e fit = refuses_alike t es ps (seen_in carried routed moving tally (flight_of t es ps).made steps) s b lawful (shows steps e) fit
