-- What is known of what is kept and received, so that it can be sent on.
use Rattle.std.specs.Prelude.{◌≡◌, ◌<◌, ◌≤◌, ◌^◌, ℕ, true, false, List, [], length, slice_index_or, Option, Some, None}
use Rattle.mn_base.specs.Numbers.{has_rd_form}
use Rattle.mn_base.specs.Ordered.{IsAscending}
use Rattle.mn_prefix.specs.Prefix.{AddressBlock, IsPrefix}
use Rattle.mn_states.specs.declared.states.BgpState.{BgpState}
use Rattle.mn_states.specs.declared.states.BgpState.TheVariants.{OpenSent, OpenConfirm, Established}
use Rattle.mn_vpn_nlri.specs.Grammar.{AllTargets}
use Rattle.mn_topo.specs.Network.{Network}
use Rattle.mn_ledger.specs.Places.{vrf_at}
use Rattle.mn_bgp_spelling_laws.specs.Spelling.{Labels}
use Rattle.mn_pe.specs.Held as held
use Rattle.mn_pe.specs.Pe.{PeNow}
use Rattle.mn_pe.specs.Exports.{exports_at, exports_over, export_of}
use Rattle.mn_routing_laws.specs.Doing.{AreSayable, those_of}
use Rattle.mn_offers.specs.Heard.{Heard}
use Rattle.mn_mail.specs.Mail as mail
use Rattle.mn_reflect_ledger_laws.specs.Words.{Word, Open, KeepAlive, Announce, Withdraw}
use Rattle.mn_reflect_ledger_laws.specs.Picks.{is_reflector}
use Rattle.mn_reflect_world_laws.specs.Kept.{route_in}
use Rattle.mn_reflect_world_laws.specs.Spelling.{letter_in}
use Rattle.mn_reflect_world_laws.specs.Now.{ReflectNow}
use Rattle.mn_reflect_world_laws.specs.Goes.{end_in, edge_of_node}

-- a route can be announced: RFC 4364, sections 4.2 and 4.3.1; RFC 8277, section 2.2
pub record IsSayableRoute (topology : Network) (route : Heard) : Type 0 where
  pub vrf : route.vrf < length topology.vrfs
  pub distinguisher : has_rd_form (vrf_at topology route.vrf).rd.0 ≡ true
  pub prefix : IsPrefix route.prefix.address route.prefix.length
  pub label : route.label < 2 ^ 20
  pub ascending : IsAscending route.targets
  pub targets : AllTargets route.targets
  pub few : length route.targets ≤ 16
  pub near : length route.clusters ≤ 2

-- and so can one that a reflector offers: it has its own address, and at most two others
pub record IsOffered (topology : Network) (route : Heard) : Type 0 where
  pub vrf : route.vrf < length topology.vrfs
  pub distinguisher : has_rd_form (vrf_at topology route.vrf).rd.0 ≡ true
  pub prefix : IsPrefix route.prefix.address route.prefix.length
  pub label : route.label < 2 ^ 20
  pub ascending : IsAscending route.targets
  pub targets : AllTargets route.targets
  pub few : length route.targets ≤ 16
  pub some : 1 ≤ length route.clusters
  pub near : length route.clusters ≤ 3

-- a word of routes is of routes that can be sent
abbrev pub IsSayableWord : Network → Labels → Word → Type 0
IsSayableWord topology labels (Announce offer) = IsSayableRoute topology (route_in labels offer)
IsSayableWord topology labels (Withdraw key) = (key.vrf < length topology.vrfs) × IsPrefix key.prefix.address key.prefix.length
IsSayableWord topology labels _ = Unit {0}

-- by what is received, how far the session has come
abbrev pub state_of_word : Word → BgpState
state_of_word Open = OpenSent
state_of_word KeepAlive = OpenConfirm
state_of_word _ = Established

-- an announcement of a reflector has clusters, and one of an edge has none
abbrev pub HasClusters : List ℕ → ℕ → Word → Type 0
HasClusters reflectors from (Announce offer) =
    (is_reflector reflectors from ≡ true → 1 ≤ length offer.clusters) × (is_reflector reflectors from ≡ false → offer.clusters ≡ [])
HasClusters reflectors from _ = Unit {0}

-- the word that a node receives next of a peer comes in turn
pub record IsHeardInTurn (topology : Network) (reflectors : List ℕ) (labels : Labels) (now : ReflectNow) (from to : ℕ) (word : Word) : Type 0 where
  pub letter : mail.first_from_to from to now.mail.letters ≡ Some (letter_in topology reflectors labels (record { from = from; to = to; word = word }))
  pub turn : slice_index_or (slice_index_or now.sessions to []) from None ≡ Some (end_in topology to from (state_of_word word))
  pub said : IsSayableWord topology labels word
  pub clusters : HasClusters reflectors from word

-- what an edge exports can be announced, and so can a part of it
pub record SaysItsExports (edges : List (Option PeNow)) (node : ℕ) : Type 0 where
  pub all : AreSayable (held.exports_of (edge_of_node edges node))
  pub at : (v : ℕ) → AreSayable (exports_at (edge_of_node edges node) v)
  pub over : (site : ℕ) → AreSayable (exports_over (edge_of_node edges node) site)
  pub one : (site : ℕ) (prefix : AddressBlock) → AreSayable (those_of (export_of (edge_of_node edges node) site prefix))
