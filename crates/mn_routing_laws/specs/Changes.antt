-- What each routing step of the ledger changes: RFC 4271, sections 4 and 8.2.2; RFC 4364, sections 3 and 4.3.
use Rattle.std.specs.Prelude.{◌≡◌, ℕ, true, List, [], ◌∷◌, ◌++◌, None}
use Rattle.mn_topo.specs.Network.{Network}
use Rattle.mn_topo.specs.Lawful.{IsLawful}
use Rattle.mn_topo.specs.Steps.{fits}
use Rattle.mn_topo.specs.declared.steps.Step.{Step}
use Rattle.mn_topo.specs.declared.steps.Step.TheVariants.{BgpUp, BgpDown, HearBgp, AddRoute, DelRoute, Import, Export, Attach, Detach}
use Rattle.mn_topo.specs.declared.steps.JournalEntry.{JournalEntry}
use Rattle.mn_ledger.specs.Places.{edge_of, home_of, vrf_of}
use Rattle.mn_ledger.specs.World.{World}
use Rattle.mn_ledger.specs.Exports.{exports_of}
use Rattle.mn_ledger.specs.Bgp.{changed}
use Rattle.mn_ledger.specs.Ledger.{world_of, config_after}
use Rattle.mn_ledger.specs.Lawful.{IsLawfulJournal}
use Rattle.mn_ledger.specs.Refusal.{refusal}
use Rattle.mn_frame_laws.specs.Numbers.{labels_of}
use Rattle.mn_bgp_spelling_laws.specs.Spelling.{Labels, message_in}
use Rattle.mn_bgp_spelling_laws.specs.Laws.{next_of}
use Rattle.mn_targets.specs.Targets.{target_set}
use Rattle.mn_vrf.specs.Vrf.{with_static, without_static, with_imports, with_exports}
use Rattle.mn_pe.specs.Edge.{after_vrf, after_attach, after_detach}
use Rattle.mn_routing_laws.specs.Whole.{RoutesNow, routes_in, at_edge, after_hearing, after_opening, after_ending}
use Rattle.mn_routing_laws.specs.Labels.{next_label}
use Rattle.mn_routing_laws.specs.Touched.{told_of}

-- The routes after a step in a world, by the next labels of sites: sessions open and end, the next message is received, or one edge is told one
-- thing.
abbrev pub routes_after : Network → (ℕ → ℕ) → Labels → World → RoutesNow → Step → RoutesNow
routes_after topology gives labels world routes (BgpUp a b) = after_opening topology routes a.0 b.0
routes_after topology gives labels world routes (BgpDown a b) = after_ending routes a.0 b.0
routes_after topology gives labels world routes (HearBgp a b) = after_hearing routes b.0 a.0 (message_in topology labels a.0 (next_of world b.0 a.0))
routes_after topology gives labels world routes (AddRoute s prefix) =
    at_edge (home_of topology s.0) (λ now. after_vrf now (vrf_of topology s.0) (with_static (record { prefix = prefix; site = s.0 }))) routes
routes_after topology gives labels world routes (DelRoute s prefix) =
    at_edge (home_of topology s.0) (λ now. after_vrf now (vrf_of topology s.0) (without_static (record { prefix = prefix; site = s.0 }))) routes
routes_after topology gives labels world routes (Import v on target) =
    at_edge (edge_of topology v.0) (λ now. after_vrf now v.0 (with_imports (target_set target on))) routes
routes_after topology gives labels world routes (Export v on target) =
    at_edge (edge_of topology v.0) (λ now. after_vrf now v.0 (with_exports (target_set target on))) routes
routes_after topology gives labels world routes (Attach s) = at_edge (home_of topology s.0) (λ now. after_attach now s.0 (gives s.0)) routes
routes_after topology gives labels world routes (Detach s) = at_edge (home_of topology s.0) (λ now. after_detach now s.0) routes
routes_after topology gives labels world routes _ = routes

-- the routes after a journal
abbrev pub routes_of : Network → List JournalEntry → RoutesNow
routes_of topology entries = routes_in topology (labels_of topology entries) (world_of topology entries).config (world_of topology entries).peerings

-- with one step more, which fits and isn't refused, they are those of before with what the step changes
abbrev pub GoByParts : Type 0
GoByParts = (topology : Network) (entries : List JournalEntry) (inputs : List (List ℕ)) (entry : JournalEntry) (bytes : List ℕ) →
    IsLawful topology → IsLawfulJournal topology entries inputs → fits topology entry.step ≡ true → refusal topology entries inputs entry.step bytes ≡ None →
    routes_of topology (entries ++ entry ∷ []) ≡ routes_after topology (next_label topology entries) (labels_of topology entries) (world_of topology entries)
    (routes_of topology entries) entry.step

-- what is told of an edge's exports in the step is told of those that the step touches
abbrev pub TellsWhatIsTouched : Type 0
TellsWhatIsTouched = (topology : Network) (entries : List JournalEntry) (inputs : List (List ℕ)) (entry : JournalEntry) (bytes : List ℕ) (edge : ℕ) →
    IsLawful topology → IsLawfulJournal topology entries inputs → fits topology entry.step ≡ true → refusal topology entries inputs entry.step bytes ≡ None →
    changed (exports_of topology (world_of topology entries).config edge)
    (exports_of topology (config_after (world_of topology entries).config entry.step) edge)
    ≡ told_of topology (world_of topology entries).config entry.step edge
