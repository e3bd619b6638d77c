-- What edges send each other: the sessions of BGP, their messages, and the lives of sessions. RFC 4271, sections 4 and 8.2.2,
-- and RFC 4364, section 4.3.
use Rattle.std.specs.Prelude.{ℕ, zero, suc, ◌+◌, ◌==◌, ◌&&◌, Bool, true, false, not, nat_lt, nat_le, if◌then◌else◌, List, [], ◌∷◌, ◌++◌, map}
use Rattle.std.specs.Prelude.{filter, slice_index_or}
use Rattle.std.specs.List.{flat_map, list_any}
use Rattle.mn_node.specs.BgpState.{BgpState}
use Rattle.mn_node.specs.BgpState.TheVariants.{Idle, OpenSent, OpenConfirm, Established}
use Rattle.mn_topo.specs.Prefix.{AddressBlock, same_prefix}
use Rattle.mn_topo.specs.Network.{Network, wiring_of}
use Rattle.mn_topo.specs.Wiring.{nodes_of}
use Rattle.mn_topo.specs.declared.steps.Step.{Step}
use Rattle.mn_topo.specs.declared.steps.Step.TheVariants as step
use Rattle.mn_ledger.specs.Tables.{put_pair}
use Rattle.mn_ledger.specs.Places.{edges}
use Rattle.mn_ledger.specs.World.{Config, Export, Telling, Open, BgpKeepAlive, Announcement, Withdrawal, Peerings}
use Rattle.mn_ledger.specs.Exports.{same_targets, exports_of}

-- the session of two edges lives from its start to its end
abbrev pub peers_live : Config → ℕ → ℕ → Bool
peers_live config one other = if nat_lt one other then config.bgp_on one other else config.bgp_on other one

-- an end goes by how many of the peer's messages it has received
abbrev pub state_heard : ℕ → BgpState
state_heard zero = OpenSent
state_heard (suc zero) = OpenConfirm
state_heard (suc (suc more)) = Established

abbrev pub bgp_state_of : Config → Peerings → ℕ → ℕ → BgpState
bgp_state_of config peerings edge peer = if peers_live config edge peer then state_heard (peerings.heard edge peer) else Idle

abbrev pub is_established : Config → Peerings → ℕ → ℕ → Bool
is_established config peerings edge peer = peers_live config edge peer && nat_le 2 (peerings.heard edge peer)

-- one message that an edge sends a peer
pub record Told : Type 0 where
  pub teller : ℕ
  pub peer : ℕ
  pub telling : Telling

abbrev pub is_from_to : ℕ → ℕ → Told → Bool
is_from_to teller peer told = (told.teller == teller) && (told.peer == peer)

abbrev pub tellings_of : ℕ → ℕ → List Told → List Telling
tellings_of teller peer tolds = map (λ told. told.telling) (filter (is_from_to teller peer) tolds)

abbrev pub told_to : ℕ → ℕ → List Telling → List Told
told_to teller peer tellings = map (λ telling. record { teller = teller; peer = peer; telling = telling }) tellings

-- how an edge in this state answers a message, with these exports: OPEN in OpenSent by KEEPALIVE, as RFC 4271, section 8.2.2,
-- says; and KEEPALIVE in OpenConfirm, by which the session is Established, by all exports, the first exchange of section 3
abbrev pub reply : BgpState → Telling → List Export → List Telling
reply OpenSent Open exports = BgpKeepAlive ∷ []
reply OpenConfirm BgpKeepAlive exports = map (λ export. Announcement export) exports
reply _ _ exports = []

-- what the step itself makes its edges tell; where a session begins, the lesser number comes first
abbrev pub bgp_replies : Network → Config → Peerings → Step → List Told
bgp_replies topology config peerings (step.BgpUp a b) = told_to a.0 b.0 (Open ∷ []) ++ told_to b.0 a.0 (Open ∷ [])
bgp_replies topology config peerings (step.HearBgp a b) =
    told_to b.0 a.0
    (reply (bgp_state_of config peerings b.0 a.0) (slice_index_or (peerings.told a.0 b.0) (peerings.heard b.0 a.0) Open) (exports_of topology config b.0))
bgp_replies topology config peerings _ = []

-- of the same VRF and prefix
abbrev pub is_for : ℕ → AddressBlock → Export → Bool
is_for v prefix export = (v == export.vrf) && same_prefix prefix export.prefix

-- the same route, over the same attachment and with the same targets
abbrev pub same_export : Export → Export → Bool
same_export export other = is_for export.vrf export.prefix other && ((export.attachment == other.attachment) && same_targets export.targets other.targets)

-- the exports that went
abbrev pub withdrawn : List Export → List Export → List Telling
withdrawn before after = map (λ export. Withdrawal export.vrf export.prefix) (filter (λ export. not (list_any (is_for export.vrf export.prefix) after)) before)

-- those that are new, or whose attachment or targets changed
abbrev pub announced : List Export → List Export → List Telling
announced before after = map (λ export. Announcement export) (filter (λ export. not (list_any (same_export export) before)) after)

-- withdrawals, and then announcements; a step makes none or those of one kind
abbrev pub changed : List Export → List Export → List Telling
changed before after = withdrawn before after ++ announced before after

-- the peers with which the edge was Established and is
abbrev pub steady_peers : Network → Config → Peerings → Config → Peerings → ℕ → List ℕ
steady_peers topology config peerings new_config new_peerings edge =
    filter (λ peer. is_established config peerings edge peer && is_established new_config new_peerings edge peer) (nodes_of (wiring_of topology))

-- what an edge advertises of the change of its exports: export by export, and each to peer after peer
abbrev pub route_news : Network → Config → Peerings → Config → Peerings → ℕ → List Told
route_news topology config peerings new_config new_peerings edge =
    flat_map (λ telling. map (λ peer. record { teller = edge; peer = peer; telling = telling })
    (steady_peers topology config peerings new_config new_peerings edge))
    (changed (exports_of topology config edge) (exports_of topology new_config edge))

-- all that is sent in a step, in the order of sending
abbrev pub told_in : Network → Config → Peerings → Config → Peerings → Step → List Told
told_in topology config peerings new_config new_peerings done =
    bgp_replies topology new_config peerings done ++ flat_map (route_news topology config peerings new_config new_peerings) (edges topology)

-- both directions of a session begin anew
abbrev pub bgp_restarted : Peerings → ℕ → ℕ → Peerings
bgp_restarted peerings a b = record { told = put_pair (put_pair peerings.told a b []) b a []; heard = put_pair (put_pair peerings.heard a b 0) b a 0 }

-- lives and counts, before anything is sent
abbrev pub bgp_counted : Peerings → Step → Peerings
bgp_counted peerings (step.BgpUp a b) = bgp_restarted peerings a.0 b.0
bgp_counted peerings (step.BgpDown a b) = bgp_restarted peerings a.0 b.0
bgp_counted peerings (step.HearBgp a b) = record peerings { heard = put_pair peerings.heard b.0 a.0 (peerings.heard b.0 a.0 + 1) }
bgp_counted peerings _ = peerings

-- the sessions once all these are sent
abbrev pub with_told : Peerings → List Told → Peerings
with_told peerings tolds = record peerings { told = λ teller peer. peerings.told teller peer ++ tellings_of teller peer tolds }

abbrev pub told_all : Network → Config → Config → Peerings → Step → Peerings
told_all topology config new_config peerings done =
    with_told (bgp_counted peerings done) (told_in topology config peerings new_config (bgp_counted peerings done) done)

-- the steps that change BGP sessions
abbrev pub is_routing : Step → Bool
is_routing (step.BgpUp a b) = true
is_routing (step.BgpDown a b) = true
is_routing (step.HearBgp a b) = true
is_routing (step.AddRoute s prefix) = true
is_routing (step.DelRoute s prefix) = true
is_routing (step.Import v on target) = true
is_routing (step.Export v on target) = true
is_routing (step.Attach s) = true
is_routing (step.Detach s) = true
is_routing _ = false

unfoldable pub peerings_after : Network → Config → Config → Peerings → Step → Peerings
peerings_after topology config new_config peerings (step.BgpUp a b) = told_all topology config new_config peerings (step.BgpUp a b)
peerings_after topology config new_config peerings (step.BgpDown a b) = told_all topology config new_config peerings (step.BgpDown a b)
peerings_after topology config new_config peerings (step.HearBgp a b) = told_all topology config new_config peerings (step.HearBgp a b)
peerings_after topology config new_config peerings (step.AddRoute s prefix) = told_all topology config new_config peerings (step.AddRoute s prefix)
peerings_after topology config new_config peerings (step.DelRoute s prefix) = told_all topology config new_config peerings (step.DelRoute s prefix)
peerings_after topology config new_config peerings (step.Import v on target) = told_all topology config new_config peerings (step.Import v on target)
peerings_after topology config new_config peerings (step.Export v on target) = told_all topology config new_config peerings (step.Export v on target)
peerings_after topology config new_config peerings (step.Attach s) = told_all topology config new_config peerings (step.Attach s)
peerings_after topology config new_config peerings (step.Detach s) = told_all topology config new_config peerings (step.Detach s)
peerings_after topology config new_config peerings _ = peerings
