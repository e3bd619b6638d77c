-- What each part of a step makes of what is kept.
use Rattle.std.specs.Prelude.{◌≡◌, ◌<◌, ◌≤◌, ◌^◌, ℕ, true, false, List, [], ◌∷◌, length, slice_get, slice_set, slice_index_or, if◌then◌else◌, Option, Some}
use Rattle.std.specs.Prelude.{None}
use Rattle.std.specs.List.{AllByRecursion}
use Rattle.mn_states.specs.declared.states.BgpState.{BgpState}
use Rattle.mn_states.specs.declared.states.BgpState.TheVariants.{OpenSent, OpenConfirm, Established}
use Rattle.mn_prefix.specs.Prefix.{IsPrefix}
use Rattle.mn_topo.specs.Network.{Network}
use Rattle.mn_bgp_wire.specs.Written.{says_announced, says_withdrawn}
use Rattle.mn_bgp_wire.specs.declared.message.BgpMessage.{BgpMessage}
use Rattle.mn_bgp_wire.specs.declared.message.BgpMessage.TheVariants as messages
use Rattle.mn_bgp_reflected.specs.Says.{SaysReflected}
use Rattle.mn_bgp_session.specs.declared.session.BgpSession.{BgpSession}
use Rattle.mn_bgp_session.specs.declared.table.BgpReply.{BgpReply}
use Rattle.mn_bgp_spelling_laws.specs.Spelling.{Labels}
use Rattle.mn_ledger.specs.Places.{vrf_at, loopback}
use Rattle.mn_pe.specs.Edge.{Edge}
use Rattle.mn_pe.specs.Held as held
use Rattle.mn_offers.specs.Heard.{Heard, with_heard, without_heard}
use Rattle.mn_mail.specs.Mail.{Letter}
use Rattle.mn_mail.specs.Mail as mail
use Rattle.mn_edges.specs.Changes.{working}
use Rattle.mn_edges.specs.Said.{AreSayable}
use Rattle.mn_reflect_ledger_laws.specs.Words.{Key, Word, Open, KeepAlive, Announce, Withdraw, key_of}
use Rattle.mn_reflect_ledger_laws.specs.Picks.{is_reflector}
use Rattle.mn_reflect_world_laws.specs.Kept.{route_in}
use Rattle.mn_reflect_world_laws.specs.Spelling.{letter_in}
use Rattle.mn_reflect_world_laws.specs.Now.{ReflectNow}
use Rattle.mn_reflect_world_laws.specs.Choice.{row_at, names_in}
use Rattle.mn_reflect_world_laws.specs.Letters.{open_letter, keep_letter, vpn_route_of, next_hop, reflector_news}
use Rattle.mn_reflect_world_laws.specs.Goes.{set_at, end_in, steady_of, edge_of_node, decide, decide_all, offering_letters}
use Rattle.mn_reflect_telling.specs.Passing.{IsPassable, IfPassable}
use Rattle.mn_reflect_telling.specs.Telling.{posted}

-- 1. One part

abbrev pub with_end : ℕ → ℕ → Option BgpSession → ReflectNow → ReflectNow
with_end node peer end now = record now { sessions = set_at node peer end now.sessions }

abbrev pub with_row : ℕ → ℕ → List Heard → ReflectNow → ReflectNow
with_row node peer routes now = record now { heard = set_at node peer routes now.heard }

abbrev pub with_letters : List Letter → ReflectNow → ReflectNow
with_letters letters now = record now { mail = posted letters now.mail }

abbrev pub cut_between : ℕ → ℕ → ReflectNow → ReflectNow
cut_between a b now = record now { mail = mail.cut a b now.mail }

abbrev pub changed_edge : ℕ → (Edge → Edge) → ReflectNow → ReflectNow
changed_edge node change now = record now { edges = slice_set now.edges node (Some (working (change (edge_of_node now.edges node)))) }

-- the edge of this number is there and works
abbrev pub IsEdgeAt : ReflectNow → ℕ → Type 0
IsEdgeAt now node = slice_get now.edges node ≡ Some (Some (working (edge_of_node now.edges node)))

-- 2. A node receives or forgets routes

-- what the node received can be passed on, and an edge is there, works and knows the addresses of all nodes
pub record MayTurn (now : ReflectNow) (node : ℕ) : Type 0 where
  pub rows : AllByRecursion (λ routes. AllByRecursion (IsPassable now.topology) routes) (slice_index_or now.heard node [])
  pub edge : is_reflector now.reflectors node ≡ false → IsEdgeAt now node
  pub addresses : is_reflector now.reflectors node ≡ false → (edge_of_node now.edges node).loopbacks ≡ now.topology.loopbacks

-- what is sent of a route is of its name
abbrev pub IsNamed : Key → Option Heard → Type 0
IsNamed key None = Unit {0}
IsNamed key (Some route) = (route.vrf ≡ key.vrf) × (route.prefix ≡ key.prefix)

-- a peer's last mention of a route is this
abbrev pub mentioned_in : Key → Option Heard → List Heard → List Heard
mentioned_in key None routes = without_heard key.vrf key.prefix routes
mentioned_in key (Some route) routes = with_heard route routes

abbrev pub kept : ℕ → ℕ → Key → Option Heard → ReflectNow → ReflectNow
kept node peer key mention now = with_row node peer (mentioned_in key mention (row_at now.heard node peer)) now

-- an edge decides on a route anew
abbrev pub decided_on : ℕ → Key → ReflectNow → ReflectNow
decided_on node key now = changed_edge node (decide now.topology now.reflectors (row_at now.heard node) node key) now

-- what a reflector says and an edge decides as its row of what it received becomes another
abbrev pub turned : ℕ → List Key → ReflectNow → ReflectNow → ReflectNow
turned node keys was now = record now {
  mail = if is_reflector now.reflectors node
      then posted (reflector_news now.topology now.reflectors node (steady_of now.sessions node) (row_at was.heard node) (row_at now.heard node) keys) now.mail
      else now.mail;
  edges = if is_reflector now.reflectors node then now.edges
      else (changed_edge node (decide_all now.topology now.reflectors (row_at now.heard node) node keys) now).edges;
}

abbrev pub route_heard : ℕ → ℕ → Key → Option Heard → ReflectNow → ReflectNow
route_heard node peer key mention now = turned node (key ∷ []) now (kept node peer key mention now)

abbrev pub forgotten : ℕ → ℕ → ReflectNow → ReflectNow
forgotten node peer now = turned node (names_in (row_at now.heard node peer)) now (with_row node peer [] now)

-- 3. Sessions

abbrev pub taken : ℕ → ℕ → ReflectNow → ReflectNow
taken peer node now = record now { mail = mail.with_letters (mail.without_first peer node now.mail.letters) now.mail }

abbrev pub begun : ℕ → ℕ → ReflectNow → ReflectNow
begun a b now =
    with_letters (open_letter now.topology b a ∷ []) (with_letters (open_letter now.topology a b ∷ [])
    (cut_between a b (with_end b a (Some (end_in now.topology b a OpenSent)) (with_end a b (Some (end_in now.topology a b OpenSent)) now))))

abbrev pub ended : ℕ → ℕ → ReflectNow → ReflectNow
ended a b now = forgotten b a (forgotten a b (cut_between a b (with_end b a None (with_end a b None now))))

-- the next message that a node receives from a peer, and what is known of it

abbrev pub state_of_word : Word → BgpState
state_of_word Open = OpenSent
state_of_word KeepAlive = OpenConfirm
state_of_word _ = Established

abbrev pub key_of_word : Word → Key
key_of_word (Announce offer) = key_of offer
key_of_word (Withdraw key) = key
key_of_word _ = record { vrf = 0; prefix = record { address = 0; length = 0 } }

abbrev pub mention_of : Labels → Word → Option Heard
mention_of labels (Announce offer) = Some (route_in labels offer)
mention_of labels _ = None

-- a route that is sent is of one of the topology's VRFs, and can be passed on; none but a reflector says clusters, which are addresses
abbrev pub IsGoodWord : Network → List ℕ → Labels → ℕ → Word → Type 0
IsGoodWord topology reflectors labels from (Announce offer) =
    IsPassable topology (route_in labels offer) × IsPrefix offer.export.prefix.address offer.export.prefix.length
    × (is_reflector reflectors from ≡ false → offer.clusters ≡ []) × (is_reflector reflectors from ≡ true → 1 ≤ length offer.clusters)
    × AllByRecursion (λ cluster. cluster < 2 ^ 32) offer.clusters
IsGoodWord topology reflectors labels from (Withdraw key) = (key.vrf < length topology.vrfs) × IsPrefix key.prefix.address key.prefix.length
IsGoodWord topology reflectors labels from _ = Unit {0}

pub record IsNext (labels : Labels) (now : ReflectNow) (peer node : ℕ) (word : Word) : Type 0 where
  pub reflectors : List ℕ
  pub same : (other : ℕ) → is_reflector reflectors other ≡ is_reflector now.reflectors other
  pub letter : mail.first_from_to peer node now.mail.letters
      ≡ Some (letter_in now.topology reflectors labels (record { from = peer; to = node; word = word }))
  pub turn : slice_index_or (slice_index_or now.sessions node []) peer None ≡ Some (end_in now.topology node peer (state_of_word word))
  pub good : IsGoodWord now.topology reflectors labels peer word

-- the node has what it needs to answer
pub record MayHear (now : ReflectNow) (node : ℕ) : Type 0 where
  pub turn : MayTurn now node
  pub says : is_reflector now.reflectors node ≡ false → AreSayable (held.exports_of (edge_of_node now.edges node))

pub record CanHear (now : ReflectNow) (peer node : ℕ) : Type 0 where
  pub labels : Labels
  pub word : Word
  pub next : IsNext labels now peer node word
  pub may : MayHear now node

abbrev pub offered_all : ℕ → ℕ → ReflectNow → ReflectNow
offered_all node peer now = with_letters (offering_letters now.topology now.reflectors now node peer) now

abbrev pub word_heard : Labels → ℕ → ℕ → Word → ReflectNow → ReflectNow
word_heard labels peer node Open now =
    with_letters (keep_letter node peer ∷ []) (with_end node peer (Some (end_in now.topology node peer OpenConfirm)) (taken peer node now))
word_heard labels peer node KeepAlive now =
    offered_all node peer (with_end node peer (Some (end_in now.topology node peer Established)) (taken peer node now))
word_heard labels peer node (Announce offer) now = route_heard node peer (key_of offer) (Some (route_in labels offer)) (taken peer node now)
word_heard labels peer node (Withdraw key) now = route_heard node peer key None (taken peer node now)

-- what an UPDATE says of a route
abbrev pub SaysOf : Network → SaysReflected → Key → Option Heard → Type 0
SaysOf topology said key None = said.update ≡ says_withdrawn (vrf_at topology key.vrf).rd key.prefix
SaysOf topology said key (Some route) =
    (said.update ≡ says_announced (next_hop topology route.vrf) (vpn_route_of topology route) route.targets) × (said.clusters ≡ route.clusters)
    × IsNamed key (Some route)

pub record IsSaying (topology : Network) (said : SaysReflected) (key : Key) (mention : Option Heard) : Type 0 where
  pub vrf : key.vrf < length topology.vrfs
  pub passable : IfPassable topology mention
  pub says : SaysOf topology said key mention

-- a message that is no UPDATE, as the word that is received then
abbrev pub IsFirst : Network → ℕ → BgpMessage → Word → Type 0
IsFirst topology peer message Open = message ≡ messages.Opening 4 topology.asn 0 (loopback topology peer) true
IsFirst topology peer message KeepAlive = message ≡ messages.KeepAlive
IsFirst topology peer message _ = ⊥

pub record MayAnswer (now : ReflectNow) (peer node : ℕ) (message : BgpMessage) : Type 0 where
  pub word : Word
  pub first : IsFirst now.topology peer message word
  pub turn : slice_index_or (slice_index_or now.sessions node []) peer None ≡ Some (end_in now.topology node peer (state_of_word word))

abbrev pub reply_of : Word → BgpReply
reply_of Open = record { say_keep = true; became_established = false }
reply_of KeepAlive = record { say_keep = false; became_established = true }
reply_of _ = record { say_keep = false; became_established = false }

abbrev pub next_of : Word → BgpState
next_of Open = OpenConfirm
next_of _ = Established

abbrev pub answered : ℕ → ℕ → BgpReply → ReflectNow → ReflectNow
answered node peer reply now =
    if reply.say_keep then with_letters (keep_letter node peer ∷ []) now
    else if reply.became_established then offered_all node peer now else now
