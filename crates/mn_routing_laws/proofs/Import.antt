-- An import is told to nobody.
use Rattle.std.proofs.Common.{ℕ, ◌≡◌, ◌+◌, Bool, List, [], ◌++◌, map, length, refl, sym, ◌∙◌, ap, subst, Some}
use Rattle.std.proofs.Common.{append-nil}
use Rattle.std.specs.Prelude.{slice_get, slice_set, option_map}
use Rattle.mn_wiring.specs.Wiring.{nodes_of}
use Rattle.mn_base.specs.declared.numbers.VrfNo.{VrfNo}
use Rattle.mn_base.specs.declared.numbers.Rt.{Rt}
use Rattle.mn_topo.specs.Network.{Network, wiring_of}
use Rattle.mn_topo.specs.Lawful.{IsLawful}
use Rattle.mn_topo.specs.declared.steps.Step.{Step}
use Rattle.mn_topo.specs.declared.steps.Step.TheVariants as step
use Rattle.mn_topo.specs.declared.steps.JournalEntry.{JournalEntry}
use Rattle.mn_ledger.specs.Places.{edge_of}
use Rattle.mn_ledger.specs.World.{World}
use Rattle.mn_ledger.specs.Bgp.{peerings_after, with_told}
use Rattle.mn_ledger.specs.Ledger.{config_after, after, world_of}
use Rattle.mn_ledger.specs.Items.{numbered, route_of}
use Rattle.mn_ledger_laws.proofs.There.{edge_there}
use Rattle.mn_frame_laws.specs.Numbers.{labels_of}
use Rattle.mn_timetable_laws.specs.Keys.{keys_in, keys_on, of_routes}
use Rattle.mn_timetable_laws.specs.Steps.{pushed}
use Rattle.mn_bgp_spelling_laws.specs.Spelling.{Labels}
use Rattle.mn_targets.specs.Targets.{target_set}
use Rattle.mn_vrf.specs.Vrf.{with_imports}
use Rattle.mn_pe.specs.Edge.{after_vrf}
use Rattle.mn_routing_laws.specs.Whole.{RoutesNow, edge_or_none}
use Rattle.mn_routing_laws.specs.Routed.{Routed, IsRoutes, working}
use Rattle.mn_routing_laws.specs.Steps.{IsTurn, Did}
use Rattle.mn_routing_laws.specs.Doing.{SetsImport, HasEdge, edge_at}
use Rattle.mn_routing_laws.proofs.GoingOn.{at_vrf}
use Rattle.mn_routing_laws.proofs.Told.{import_tells}
use Rattle.mn_routing_laws.proofs.Flying.{FliesAs, flies_told}
use Rattle.mn_routing_laws.proofs.Home.{is_edge_of, no_news}
use Rattle.mn_routing_laws.proofs.Placed.{set_edge, has_edge}
use Rattle.mn_routing_laws.proofs.Others.{then_stands}
use Rattle.mn_routing_laws.proofs.Goes.{brings, routes_go, heard_all, tolds}

module _ (t : Network) (lawful : IsLawful t) (tick number : ℕ) (old new : Routed) (v : VrfNo) (target : Rt) (on : Bool) where
  abbrev importing : Step
  importing = step.Import v on target

  none : (es : List JournalEntry) → tolds t (world_of t es) importing ≡ []
  none es =
      no_news t (world_of t es).config (config_after (world_of t es).config importing) (world_of t es).peerings (world_of t es).peerings
      (λ e. import_tells t (world_of t es).config v target on e)

  told_is : (es : List JournalEntry) → (after t (world_of t es) importing).peerings ≡ with_told (world_of t es).peerings (tolds t (world_of t es) importing)
  unfolding peerings_after
  told_is es = refl

  pub did_import : SetsImport t v target on old new → Did t tick number importing old new 0
  did_import sets = record {
    goes = λ es stands turn. go es stands turn;
    messages = λ es stands turn. ap (λ (r : Routed). keys_in r.messages) sets ∙ sym (append-nil (keys_in old.messages))
        ∙ ap (λ xs. keys_in old.messages ++ keys_on (of_routes (length t.loopbacks)) (numbered t tick number (map route_of xs))) (sym (none es));
    count = λ es stands turn. ap (λ xs. length (map route_of xs)) (sym (none es));
  }
    where
      go : (es : List JournalEntry) → IsRoutes t es old → IsTurn t es importing → IsRoutes t (pushed es tick importing) new
      go es stands turn =
          let w : World = world_of t es in
          let l : Labels = labels_of t es in
          let b = brings t es importing lawful turn in
          let there = at_vrf t v.0 target.0 turn.fitting in
          let below = edge_there t v.0 lawful there in
          let parts = routes_go t l es importing lawful turn in
          let has : HasEdge t old (edge_of t v.0) = has_edge t l w old stands (edge_of t v.0) below (is_edge_of t v.0 there) in
          then_stands t es tick importing new (record {
            edges = ap (λ (r : Routed). r.edges) sets
                ∙ ap (λ xs. slice_set xs (edge_of t v.0)
                (Some (working (after_vrf (edge_at old (edge_of t v.0)) v.0 (with_imports (target_set target on)))))) stands.edges
                ∙ set_edge (map (edge_or_none t l w.config w.peerings) (nodes_of (wiring_of t))) (edge_of t v.0)
                (λ now. after_vrf now v.0 (with_imports (target_set target on))) (edge_at old (edge_of t v.0))
                (sym (ap (λ xs. slice_get xs (edge_of t v.0)) stands.edges) ∙ has.there)
                ∙ ap (λ (r : RoutesNow). map (option_map working) r.edges) (sym parts);
            sessions = ap (λ (r : Routed). r.sessions) sets ∙ stands.sessions ∙ ap (λ (r : RoutesNow). r.sessions) (sym parts);
            messages =
                subst (λ p. FliesAs t l p new.messages) (sym (told_is es))
                (subst (λ xs. FliesAs t l (with_told w.peerings xs) new.messages) (sym (none es))
                (subst (FliesAs t l (with_told w.peerings [])) (append-nil old.messages ∙ ap (λ (r : Routed). r.messages) (sym sets))
                (flies_told t l w.peerings (tick + t.bgp_delay) number [] old.messages (heard_all w b.turn.bgp) (λ x i. absurd i) stands.messages)));
          })
