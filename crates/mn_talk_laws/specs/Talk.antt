-- What nodes tell each other of routes, with reflectors among them or none: one ledger of BGP for both. Edges tell their exports as
-- in a full mesh, word for word; reflectors tell what they pick of what they received. RFC 4271, sections 3 and 8.2.2; RFC 4456, section 6.
use Rattle.std.specs.Prelude.{ℕ, ◌+◌, cond, List, [], ◌∷◌, ◌++◌, map, filter, not, ◌==◌, take, slice_index_or}
use Rattle.std.specs.List.{flat_map}
use Rattle.mn_states.specs.declared.states.BgpState.{BgpState}
use Rattle.mn_states.specs.declared.states.BgpState.TheVariants.{OpenSent, OpenConfirm, Established}
use Rattle.mn_topo.specs.Network.{Network}
use Rattle.mn_topo.specs.declared.steps.Step.{Step}
use Rattle.mn_topo.specs.declared.steps.Step.TheVariants as step
use Rattle.mn_ledger.specs.Tables.{everywhere, put_pair}
use Rattle.mn_ledger.specs.Places.{edges}
use Rattle.mn_ledger.specs.World.{Config, Telling, BgpKeepAlive, Announcement, Withdrawal, Peerings}
use Rattle.mn_ledger.specs.World as world
use Rattle.mn_ledger.specs.Exports.{exports_of}
use Rattle.mn_ledger.specs.Bgp.{Told, bgp_state_of, is_routing, route_news}
use Rattle.mn_ledger.specs.Held.{HeldRoute, own_routes, near_routes, far_routes, imported}
use Rattle.mn_ledger.specs.Ledger.{config_after}
use Rattle.mn_reflect_ledger_laws.specs.Words.{Word, Open, KeepAlive, Announce, Withdraw}
use Rattle.mn_reflect_ledger_laws.specs.Picks.{Spoken, ReflectWorld, is_reflector, plain}
use Rattle.mn_reflect_ledger_laws.specs.World.{words_to, says, all_offers, news}
use Rattle.mn_reflect_ledger_laws.specs.Quiet.{reflected, held_far}

-- 1. What was sent and received in the present life of each session: `Peerings`, whose announcements also name clusters

pub record Talks : Type 0 where
  pub told : ℕ → ℕ → List Word  -- by the node that sent it and the peer
  pub heard : ℕ → ℕ → ℕ  -- by the node that received and the peer, how many of the peer's words

-- in a full mesh no announcement has a cluster
abbrev pub word_of : Telling → Word
word_of world.Open = Open
word_of BgpKeepAlive = KeepAlive
word_of (Announcement export) = Announce (plain export)
word_of (Withdrawal v prefix) = Withdraw (record { vrf = v; prefix = prefix })

abbrev pub telling_of : Word → Telling
telling_of Open = world.Open
telling_of KeepAlive = BgpKeepAlive
telling_of (Announce offer) = Announcement offer.export
telling_of (Withdraw key) = Withdrawal key.vrf key.prefix

abbrev pub talks_of : Peerings → Talks
talks_of peerings = record { told = λ teller peer. map word_of (peerings.told teller peer); heard = peerings.heard }

abbrev pub peerings_of : Talks → Peerings
peerings_of talks = record { told = λ teller peer. map telling_of (talks.told teller peer); heard = talks.heard }

-- what a node has received from a peer
abbrev pub heard_words : Talks → ℕ → ℕ → List Word
heard_words talks node peer = take (talks.heard node peer) (talks.told peer node)

-- what nodes know: as where routes are reflected, and what flies doesn't matter
abbrev pub seen : Config → Talks → ReflectWorld
seen config talks = record { config = config; heard = heard_words talks; flying = [] }

-- 2. What a step makes nodes tell

-- OPEN is answered by KEEPALIVE, and the KEEPALIVE by which an end is Established by all that it offers
abbrev pub answer : BgpState → Word → List Word → List Word
answer OpenSent Open offers = KeepAlive ∷ []
answer OpenConfirm KeepAlive offers = offers
answer _ _ offers = []

-- all that a node offers a peer: an edge its exports, a reflector its picks
abbrev pub full_offer : Network → List ℕ → Config → Talks → ℕ → ℕ → List Word
full_offer topology reflectors config talks node peer =
    cond (is_reflector reflectors node) (all_offers topology reflectors (seen config talks) node peer)
    (map (λ export. Announce (plain export)) (exports_of topology config node))

abbrev pub answers : Network → List ℕ → Config → Talks → Talks → Step → List Spoken
answers topology reflectors config talks new (step.BgpUp a b) = says a.0 b.0 (Open ∷ []) ++ says b.0 a.0 (Open ∷ [])
answers topology reflectors config talks new (step.HearBgp a b) =
    says b.0 a.0
    (answer (bgp_state_of config (peerings_of talks) b.0 a.0) (slice_index_or (talks.told a.0 b.0) (talks.heard b.0 a.0) Open)
    (full_offer topology reflectors config new b.0 a.0))
answers topology reflectors config talks new _ = []

abbrev pub spoken_of : Told → Spoken
spoken_of told = record { from = told.teller; to = told.peer; word = word_of told.telling }

-- the change of an edge's exports, as in a full mesh: to each peer, which may be a reflector
abbrev pub edge_news : Network → Config → Talks → Config → Talks → ℕ → List Spoken
edge_news topology config talks new_config new edge =
    map spoken_of (route_news topology config (peerings_of talks) new_config (peerings_of new) edge)

-- what edges tell, and then what reflectors do
abbrev pub spoken_in : Network → List ℕ → Config → Talks → Config → Talks → Step → List Spoken
spoken_in topology reflectors config talks new_config new done =
    answers topology reflectors new_config talks new done
    ++ (flat_map (edge_news topology config talks new_config new) (edges topology)
    ++ flat_map (news topology reflectors (seen config talks) (seen new_config new)) reflectors)

abbrev pub restarted : Talks → ℕ → ℕ → Talks
restarted talks a b = record { told = put_pair (put_pair talks.told a b []) b a []; heard = put_pair (put_pair talks.heard a b 0) b a 0 }

abbrev pub counted : Talks → Step → Talks
counted talks (step.BgpUp a b) = restarted talks a.0 b.0
counted talks (step.BgpDown a b) = restarted talks a.0 b.0
counted talks (step.HearBgp a b) = record talks { heard = put_pair talks.heard b.0 a.0 (talks.heard b.0 a.0 + 1) }
counted talks _ = talks

abbrev pub with_spoken : Talks → List Spoken → Talks
with_spoken talks spokens = record talks { told = λ teller peer. talks.told teller peer ++ words_to teller peer spokens }

abbrev pub talks_after : Network → List ℕ → Config → Talks → Step → Talks
talks_after topology reflectors config talks done =
    cond (is_routing done)
    (with_spoken (counted talks done) (spoken_in topology reflectors config talks (config_after config done) (counted talks done) done))
    talks

-- 3. After the steps of a journal

abbrev pub no_talks : Talks
no_talks = record { told = everywhere (everywhere []); heard = everywhere (everywhere 0) }

abbrev pub talks_from : Network → List ℕ → Config → Talks → List Step → Talks
talks_from topology reflectors config talks [] = talks
talks_from topology reflectors config talks (done ∷ steps) =
    talks_from topology reflectors (config_after config done) (talks_after topology reflectors config talks done) steps

abbrev pub config_from : Config → List Step → Config
config_from config [] = config
config_from config (done ∷ steps) = config_from (config_after config done) steps

-- 4. What a VRF holds: without reflectors what each other edge advertised to its own edge, and with them what reflectors passed on

abbrev pub far_of : Network → List ℕ → Config → Talks → ℕ → ℕ → List HeldRoute
far_of topology [] config talks edge v =
    flat_map (far_routes topology config (peerings_of talks) edge v) (filter (λ peer. not (peer == edge)) (edges topology))
far_of topology (reflector ∷ reflectors) config talks edge v =
    map (held_far topology) (imported config v (reflected topology (reflector ∷ reflectors) (seen config talks) edge))

unfoldable pub held : Network → List ℕ → Config → Talks → ℕ → ℕ → List HeldRoute
held topology reflectors config talks edge v =
    own_routes topology config edge v ++ (near_routes topology config edge v ++ far_of topology reflectors config talks edge v)
