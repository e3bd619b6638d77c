-- What each step makes of what is kept.
use Rattle.std.specs.Prelude.{◌≡◌, ℕ, ◌+◌, ◌-◌, ◌==◌, true, false, not, if◌then◌else◌, List, [], ◌∷◌, ◌++◌, filter, fold}
use Rattle.std.specs.Prelude.{slice_index_or, slice_set, Option, Some, None, option_map}
use Rattle.mn_base.specs.declared.numbers.NodeNo.{NodeNo}
use Rattle.mn_states.specs.declared.states.BgpState.{BgpState}
use Rattle.mn_states.specs.declared.states.BgpState.TheVariants.{OpenSent, OpenConfirm, Established}
use Rattle.mn_topo.specs.Network.{Network}
use Rattle.mn_topo.specs.declared.steps.Step.{Step}
use Rattle.mn_topo.specs.declared.steps.Step.TheVariants as step
use Rattle.mn_targets.specs.Targets.{target_set}
use Rattle.mn_bgp_wire.specs.Says.{Says}
use Rattle.mn_bgp_wire.specs.Written.{says_announced, says_withdrawn}
use Rattle.mn_bgp_session.specs.declared.session.BgpSession.{BgpSession}
use Rattle.mn_ledger.specs.Places.{loopback, vrf_at, vrf_of, edge_of, home_of}
use Rattle.mn_bgp_spelling_laws.specs.Spelling.{Labels}
use Rattle.mn_vrf.specs.Vrf.{with_static, without_static, with_imports, with_exports}
use Rattle.mn_pe.specs.Edge.{Edge, after_update, after_vrf, after_attach, after_detach}
use Rattle.mn_pe.specs.Pe.{PeNow}
use Rattle.mn_pe.specs.Held.{Exported}
use Rattle.mn_pe.specs.Held as held
use Rattle.mn_pe.specs.Exports.{exports_at, exports_over, export_of}
use Rattle.mn_routing_laws.specs.Routed.{working}
use Rattle.mn_routing_laws.specs.Sending.{peers_from}
use Rattle.mn_routing_laws.specs.Doing.{those_of}
pub use Rattle.mn_routing_laws.specs.Doing.{edge_of_node}
use Rattle.mn_offers.specs.Heard.{Heard}
use Rattle.mn_mail.specs.Mail.{Letter}
use Rattle.mn_mail.specs.Mail as mail
use Rattle.mn_reflect_ledger_laws.specs.Words.{Key, Word, Open, KeepAlive, Announce, Withdraw, key_of}
use Rattle.mn_reflect_ledger_laws.specs.Picks.{ReflectWorld, is_reflector}
use Rattle.mn_reflect_ledger_laws.specs.World.{first_word}
use Rattle.mn_reflect_world_laws.specs.Kept.{after_word}
use Rattle.mn_reflect_world_laws.specs.Choice.{row_at, reflected_to, names_in, all_names}
use Rattle.mn_reflect_world_laws.specs.Letters.{open_letter, keep_letter, vpn_route_of, reflector_news, reflector_offers, edge_news}
use Rattle.mn_reflect_world_laws.specs.Now.{ReflectNow}

-- the word that is received in a step
abbrev pub word_heard : ReflectWorld → Step → Option Word
word_heard world (step.HearBgp a b) = first_word a.0 b.0 world.flying
word_heard world _ = None

-- a table by node and peer, with another value at one pair
abbrev pub set_at : {A : Type 0} → ℕ → ℕ → A → List (List A) → List (List A)
set_at node peer value rows = slice_set rows node (slice_set (slice_index_or rows node []) peer value)

-- 1. Sessions

abbrev pub end_in : Network → ℕ → ℕ → BgpState → BgpSession
end_in topology node peer state = record { asn = topology.asn; me = loopback topology node; peer = loopback topology peer; state = state }

-- OPEN is received first, then KEEPALIVE, and then routes
abbrev pub sessions_hear : Network → ℕ → ℕ → Word → List (List (Option BgpSession)) → List (List (Option BgpSession))
sessions_hear topology node peer Open sessions = set_at node peer (Some (end_in topology node peer OpenConfirm)) sessions
sessions_hear topology node peer KeepAlive sessions = set_at node peer (Some (end_in topology node peer Established)) sessions
sessions_hear topology node peer _ sessions = sessions

abbrev pub sessions_after : Network → Option Word → List (List (Option BgpSession)) → Step → List (List (Option BgpSession))
sessions_after topology word sessions (step.BgpUp a b) =
    set_at b.0 a.0 (Some (end_in topology b.0 a.0 OpenSent)) (set_at a.0 b.0 (Some (end_in topology a.0 b.0 OpenSent)) sessions)
sessions_after topology word sessions (step.BgpDown a b) = set_at b.0 a.0 None (set_at a.0 b.0 None sessions)
sessions_after topology None sessions (step.HearBgp a b) = sessions
sessions_after topology (Some word) sessions (step.HearBgp a b) = sessions_hear topology b.0 a.0 word sessions
sessions_after topology word sessions _ = sessions

-- the peers with which a node's session is Established, in their order
abbrev pub steady_of : List (List (Option BgpSession)) → ℕ → List NodeNo
steady_of sessions node = peers_from 0 (slice_index_or sessions node [])

-- 2. What was received

abbrev pub heard_hear : Labels → ℕ → ℕ → Word → List (List (List Heard)) → List (List (List Heard))
heard_hear labels node peer (Announce offer) heard = set_at node peer (after_word labels (row_at heard node peer) (Announce offer)) heard
heard_hear labels node peer (Withdraw key) heard = set_at node peer (after_word labels (row_at heard node peer) (Withdraw key)) heard
heard_hear labels node peer _ heard = heard

abbrev pub heard_after : Labels → Option Word → List (List (List Heard)) → Step → List (List (List Heard))
heard_after labels word heard (step.BgpDown a b) = set_at b.0 a.0 [] (set_at a.0 b.0 [] heard)
heard_after labels None heard (step.HearBgp a b) = heard
heard_after labels (Some word) heard (step.HearBgp a b) = heard_hear labels b.0 a.0 word heard
heard_after labels word heard _ = heard

-- 3. Attachments

abbrev pub attachments_after : Network → List ℕ → Step → List ℕ
attachments_after topology attachments (step.Attach s) =
    slice_set attachments (home_of topology s.0) (slice_index_or attachments (home_of topology s.0) 0 + 1)
attachments_after topology attachments _ = attachments

-- how many routes there are over sites
abbrev pub statics_after : ℕ → Step → ℕ
statics_after statics (step.AddRoute s prefix) = statics + 1
statics_after statics (step.DelRoute s prefix) = statics - 1
statics_after statics _ = statics

-- 4. Edges

abbrev pub on_edge : ℕ → (Edge → Edge) → List (Option PeNow) → List (Option PeNow)
on_edge node change edges = slice_set edges node (option_map (λ (pe : PeNow). working (change pe.edge)) (slice_index_or edges node None))

-- what is decided of a route, as its own edge would say it
abbrev pub decision_says : Network → Key → Option Heard → Says
decision_says topology key (Some route) =
    says_announced (loopback topology (edge_of topology key.vrf)) (vpn_route_of topology route) route.targets
decision_says topology key None = says_withdrawn (vrf_at topology key.vrf).rd key.prefix

-- an edge takes what the reflector of least address announces of another edge's route, or that none does
abbrev pub decide : Network → List ℕ → (ℕ → List Heard) → ℕ → Key → Edge → Edge
decide topology reflectors row node key edge =
    if edge_of topology key.vrf == node then edge
    else after_update edge (edge_of topology key.vrf) (decision_says topology key (reflected_to reflectors row node key))

-- and of these, one after another
abbrev pub decide_all : Network → List ℕ → (ℕ → List Heard) → ℕ → List Key → Edge → Edge
decide_all topology reflectors row node keys edge = fold (λ edge key. decide topology reflectors row node key edge) edge keys

-- the names that a word is of
abbrev pub names_of : Word → List Key
names_of (Announce offer) = key_of offer ∷ []
names_of (Withdraw key) = key ∷ []
names_of _ = []

abbrev pub edges_after : Network → List ℕ → Option Word → ReflectNow → List (List (List Heard)) → Step → List (Option PeNow)
edges_after topology reflectors word now heard (step.BgpDown a b) =
    on_edge b.0 (decide_all topology reflectors (row_at heard b.0) b.0 (names_in (row_at now.heard b.0 a.0)))
    (on_edge a.0 (decide_all topology reflectors (row_at heard a.0) a.0 (names_in (row_at now.heard a.0 b.0))) now.edges)
edges_after topology reflectors None now heard (step.HearBgp a b) = now.edges
edges_after topology reflectors (Some word) now heard (step.HearBgp a b) =
    on_edge b.0 (decide_all topology reflectors (row_at heard b.0) b.0 (names_of word)) now.edges
edges_after topology reflectors word now heard (step.AddRoute s prefix) =
    on_edge (home_of topology s.0) (λ edge. after_vrf edge (vrf_of topology s.0) (with_static (record { prefix = prefix; site = s.0 }))) now.edges
edges_after topology reflectors word now heard (step.DelRoute s prefix) =
    on_edge (home_of topology s.0) (λ edge. after_vrf edge (vrf_of topology s.0) (without_static (record { prefix = prefix; site = s.0 }))) now.edges
edges_after topology reflectors word now heard (step.Import v on target) =
    on_edge (edge_of topology v.0) (λ edge. after_vrf edge v.0 (with_imports (target_set target on))) now.edges
edges_after topology reflectors word now heard (step.Export v on target) =
    on_edge (edge_of topology v.0) (λ edge. after_vrf edge v.0 (with_exports (target_set target on))) now.edges
edges_after topology reflectors word now heard (step.Attach s) =
    on_edge (home_of topology s.0) (λ edge. after_attach edge s.0 (16 + slice_index_or now.attachments (home_of topology s.0) 0)) now.edges
edges_after topology reflectors word now heard (step.Detach s) = on_edge (home_of topology s.0) (λ edge. after_detach edge s.0) now.edges
edges_after topology reflectors word now heard _ = now.edges

-- 5. Letters

-- what a node says as the session of a peer ends: a reflector tells of the routes that it received from it
abbrev pub forgetting_letters : Network → List ℕ → ReflectNow → ReflectNow → ℕ → ℕ → List Letter
forgetting_letters topology reflectors now new node peer =
    if is_reflector reflectors node
    then reflector_news topology reflectors node (steady_of new.sessions node) (row_at now.heard node) (row_at new.heard node)
    (names_in (row_at now.heard node peer))
    else []

-- what it says as it becomes Established with a peer: all that it offers it
abbrev pub offering_letters : Network → List ℕ → ReflectNow → ℕ → ℕ → List Letter
offering_letters topology reflectors now node peer =
    if is_reflector reflectors node
    then reflector_offers topology reflectors node peer (row_at now.heard node) (all_names (slice_index_or now.heard node []))
    else edge_news topology node (record { 0 = peer } ∷ []) true (held.exports_of (edge_of_node now.edges node))

-- what it says as it receives a word
abbrev pub hearing_letters : Network → List ℕ → ReflectNow → ReflectNow → ℕ → ℕ → Word → List Letter
hearing_letters topology reflectors now new node peer Open = keep_letter node peer ∷ []
hearing_letters topology reflectors now new node peer KeepAlive = offering_letters topology reflectors new node peer
hearing_letters topology reflectors now new node peer word =
    if is_reflector reflectors node
    then reflector_news topology reflectors node (steady_of new.sessions node) (row_at now.heard node) (row_at new.heard node) (names_of word)
    else []

-- exports that come, and where there are none those that went
abbrev pub either_news : Network → ℕ → List NodeNo → List Exported → List Exported → List Letter
either_news topology node peers [] went = edge_news topology node peers false went
either_news topology node peers (export ∷ exports) went = edge_news topology node peers true (export ∷ exports)

abbrev pub letters_after : Network → List ℕ → Option Word → ReflectNow → ReflectNow → Step → List Letter
letters_after topology reflectors word now new (step.BgpUp a b) =
    filter (λ letter. not (mail.is_between a.0 b.0 letter)) now.mail.letters ++ open_letter topology a.0 b.0 ∷ open_letter topology b.0 a.0 ∷ []
letters_after topology reflectors word now new (step.BgpDown a b) =
    filter (λ letter. not (mail.is_between a.0 b.0 letter)) now.mail.letters
    ++ (forgetting_letters topology reflectors now new a.0 b.0 ++ forgetting_letters topology reflectors now new b.0 a.0)
letters_after topology reflectors None now new (step.HearBgp a b) = now.mail.letters
letters_after topology reflectors (Some word) now new (step.HearBgp a b) =
    mail.without_first a.0 b.0 now.mail.letters ++ hearing_letters topology reflectors now new b.0 a.0 word
letters_after topology reflectors word now new (step.AddRoute s prefix) =
    let home : ℕ = home_of topology s.0 in
    now.mail.letters
    ++ edge_news topology home (steady_of now.sessions home) true (those_of (export_of (edge_of_node new.edges home) s.0 prefix))
letters_after topology reflectors word now new (step.DelRoute s prefix) =
    let home : ℕ = home_of topology s.0 in
    now.mail.letters
    ++ edge_news topology home (steady_of now.sessions home) false (those_of (export_of (edge_of_node now.edges home) s.0 prefix))
letters_after topology reflectors word now new (step.Export v on target) =
    let home : ℕ = edge_of topology v.0 in
    now.mail.letters
    ++ either_news topology home (steady_of now.sessions home) (exports_at (edge_of_node new.edges home) v.0) (exports_at (edge_of_node now.edges home) v.0)
letters_after topology reflectors word now new (step.Attach s) =
    let home : ℕ = home_of topology s.0 in
    now.mail.letters ++ edge_news topology home (steady_of now.sessions home) true (exports_over (edge_of_node new.edges home) s.0)
letters_after topology reflectors word now new (step.Detach s) =
    let home : ℕ = home_of topology s.0 in
    now.mail.letters ++ edge_news topology home (steady_of now.sessions home) false (exports_over (edge_of_node now.edges home) s.0)
letters_after topology reflectors word now new _ = now.mail.letters

-- 6. The whole

-- all of it was done that a step makes of what is kept, where this word is received in it
pub record Goes (topology : Network) (reflectors : List ℕ) (labels : Labels) (word : Option Word) (now new : ReflectNow) (done : Step) : Type 0 where
  pub works : new.failed ≡ false
  pub topology_is : new.topology ≡ now.topology
  pub reflectors_are : new.reflectors ≡ now.reflectors
  pub sessions : new.sessions ≡ sessions_after topology word now.sessions done
  pub heard : new.heard ≡ heard_after labels word now.heard done
  pub attachments : new.attachments ≡ attachments_after topology now.attachments done
  pub statics : new.statics ≡ statics_after now.statics done
  pub edges : new.edges ≡ edges_after topology now.reflectors word now new.heard done
  pub nodes : new.mail.nodes ≡ now.mail.nodes
  pub letters : new.mail.letters ≡ letters_after topology now.reflectors word now new done
  pub count : new.done ≡ now.done + 1
