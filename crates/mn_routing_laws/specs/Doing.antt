-- What the routes do in a step, before it is known to be the ledger's.
use Rattle.std.specs.Prelude.{◌≡◌, ◌≢◌, ◌+◌, ◌*◌, ℕ, Bool, true, false, if◌then◌else◌, List, [], ◌∷◌, ◌++◌, length, slice_get, slice_set}
use Rattle.std.specs.Prelude.{slice_index_or, Option, Some, None, option_map, Ok, ⊤}
use Rattle.mn_base.specs.declared.numbers.Rt.{Rt}
use Rattle.mn_base.specs.declared.numbers.VrfNo.{VrfNo}
use Rattle.mn_base.specs.declared.numbers.SiteNo.{SiteNo}
use Rattle.mn_prefix.specs.Prefix.{AddressBlock}
use Rattle.mn_flight.specs.declared.Item.{Item}
use Rattle.mn_flight.specs.Flying.{on_channel, off_channel, without}
use Rattle.mn_bgp_wire.specs.declared.message.BgpMessage.{BgpMessage}
use Rattle.mn_bgp_wire.specs.Grammar.{IsBgp}
use Rattle.mn_bgp_wire.specs.Says.{Says}
use Rattle.mn_bgp_wire.specs.Written.{open_bytes, keepalive_bytes}
use Rattle.mn_bgp_session.specs.declared.session.BgpSession.{BgpSession}
use Rattle.mn_bgp_session.specs.declared.table.BgpReply.{BgpReply}
use Rattle.mn_bgp_session.specs.Table as table
use Rattle.mn_topo.specs.Network.{Network}
use Rattle.mn_ledger.specs.Places.{loopback, edge_of, home_of}
use Rattle.mn_vrf.specs.Vrf.{VrfState, add_refused, del_refused, set_refused}
use Rattle.mn_pe.specs.Edge.{Edge, vrf_of_site, after_attach, after_detach, after_forget, after_message}
use Rattle.mn_pe.specs.Held.{Exported, exports_of}
use Rattle.mn_pe.specs.Pe.{found_in, AreLabelled}
use Rattle.mn_pe.specs.Exports.{exports_at, exports_over, export_of}
pub use Rattle.mn_edges.specs.Changes.{edge_or_blank, edge_of_node, those_of, AreNews, import_set, export_set, static_added, static_deleted}
pub use Rattle.mn_edges.specs.Said.{IsSayable, AreSayable}
use Rattle.mn_routing_laws.specs.Whole.{opened, update_of}
use Rattle.mn_routing_laws.specs.Routed.{Routed, working}
use Rattle.mn_routing_laws.specs.Sending.{Parcel, put_all, news_to, news_in}

-- 1. One edge

-- what the edge of a number was told
abbrev pub edge_at : Routed → ℕ → Edge
edge_at routed edge = edge_of_node routed.edges edge

abbrev pub with_edge : ℕ → Edge → Routed → Routed
with_edge edge now routed = record routed { edges = slice_set routed.edges edge (Some (working now)) }

-- the edge of this number is there, works, and has an end for each node
pub record HasEdge (topology : Network) (routed : Routed) (edge : ℕ) : Type 0 where
  pub there : slice_get routed.edges edge ≡ Some (Some (working (edge_at routed edge)))
  pub nodes : length routed.edges ≡ length topology.loopbacks
  pub rows : length routed.sessions ≡ length topology.loopbacks
  pub ends : length (slice_index_or routed.sessions edge []) ≡ length topology.loopbacks

-- 2. One edge is told one thing, and tells of exports that come or go

pub record Puts (topology : Network) (tick number : ℕ) (parcels : List Parcel) (old new : Routed) (next : ℕ) : Type 0 where
  pub new_is : new ≡ record old { messages = old.messages ++ put_all (tick + topology.bgp_delay) number parcels }
  pub next_is : next ≡ number + length parcels

abbrev pub Tells : Network → ℕ → ℕ → ℕ → Edge → Bool → List Exported → Routed → Routed → ℕ → Type 0
Tells topology tick number edge now comes exports old new next =
    Puts topology tick number (news_in topology old edge comes exports) (with_edge edge now old) new next

-- what comes is announced, and where that is nothing what went is withdrawn
abbrev pub TellsEither : Network → ℕ → ℕ → ℕ → Edge → List Exported → List Exported → Routed → Routed → ℕ → Type 0
TellsEither topology tick number edge now [] goes old new next = Tells topology tick number edge now false goes old new next
TellsEither topology tick number edge now (export ∷ exports) goes old new next = Tells topology tick number edge now true (export ∷ exports) old new next

-- a VRF exports routes with a target, or doesn't
pub record MaySetExport (topology : Network) (routed : Routed) (v : VrfNo) (target : Rt) (on : Bool) : Type 0 where
  pub has : HasEdge topology routed (edge_of topology v.0)
  pub free : found_in v.0 (λ (vrf : VrfState). set_refused target on vrf.exports) (edge_at routed (edge_of topology v.0)).vrfs ≡ None
  pub came : AreSayable (exports_at (export_set (edge_at routed (edge_of topology v.0)) v target on) v.0)
  pub went : AreSayable (exports_at (edge_at routed (edge_of topology v.0)) v.0)

abbrev pub SetsExport : Network → ℕ → ℕ → VrfNo → Rt → Bool → Routed → Routed → ℕ → Type 0
SetsExport topology tick number v target on old new next =
    let was : Edge = edge_at old (edge_of topology v.0) in
    TellsEither topology tick number (edge_of topology v.0) (export_set was v target on) (exports_at (export_set was v target on) v.0)
    (exports_at was v.0) old new next

-- a site's VRF has a prefix over the site, or has it no longer
pub record MayAdd (topology : Network) (routed : Routed) (site : SiteNo) (prefix : AddressBlock) : Type 0 where
  pub has : HasEdge topology routed (home_of topology site.0)
  pub free : found_in (vrf_of_site (edge_at routed (home_of topology site.0)) site.0) (λ (vrf : VrfState). add_refused prefix vrf)
      (edge_at routed (home_of topology site.0)).vrfs ≡ None
  pub came : AreSayable (those_of (export_of (static_added (edge_at routed (home_of topology site.0)) site prefix) site.0 prefix))

abbrev pub Adds : Network → ℕ → ℕ → SiteNo → AddressBlock → Routed → Routed → ℕ → Type 0
Adds topology tick number site prefix old new next =
    let now : Edge = static_added (edge_at old (home_of topology site.0)) site prefix in
    Tells topology tick number (home_of topology site.0) now true (those_of (export_of now site.0 prefix)) old new next

pub record MayDel (topology : Network) (routed : Routed) (site : SiteNo) (prefix : AddressBlock) : Type 0 where
  pub has : HasEdge topology routed (home_of topology site.0)
  pub free : found_in (vrf_of_site (edge_at routed (home_of topology site.0)) site.0) (λ (vrf : VrfState). del_refused prefix site.0 vrf)
      (edge_at routed (home_of topology site.0)).vrfs ≡ None
  pub went : AreSayable (those_of (export_of (edge_at routed (home_of topology site.0)) site.0 prefix))

abbrev pub Dels : Network → ℕ → ℕ → SiteNo → AddressBlock → Routed → Routed → ℕ → Type 0
Dels topology tick number site prefix old new next =
    let was : Edge = edge_at old (home_of topology site.0) in
    Tells topology tick number (home_of topology site.0) (static_deleted was site prefix) false (those_of (export_of was site.0 prefix)) old new next

-- a site is attached with a label, or detached
pub record MayAttach (topology : Network) (routed : Routed) (site : SiteNo) (label : ℕ) : Type 0 where
  pub has : HasEdge topology routed (home_of topology site.0)
  pub came : AreSayable (exports_over (after_attach (edge_at routed (home_of topology site.0)) site.0 label) site.0)

abbrev pub Attaches : Network → ℕ → ℕ → SiteNo → ℕ → Routed → Routed → ℕ → Type 0
Attaches topology tick number site label old new next =
    let now : Edge = after_attach (edge_at old (home_of topology site.0)) site.0 label in
    Tells topology tick number (home_of topology site.0) now true (exports_over now site.0) old new next

pub record MayDetach (topology : Network) (routed : Routed) (site : SiteNo) : Type 0 where
  pub has : HasEdge topology routed (home_of topology site.0)
  pub went : AreSayable (exports_over (edge_at routed (home_of topology site.0)) site.0)

abbrev pub Detaches : Network → ℕ → ℕ → SiteNo → Routed → Routed → ℕ → Type 0
Detaches topology tick number site old new next =
    let was : Edge = edge_at old (home_of topology site.0) in
    Tells topology tick number (home_of topology site.0) (after_detach was site.0) false (exports_over was site.0) old new next

-- a VRF imports routes with a target, or doesn't
pub record MaySetImport (topology : Network) (routed : Routed) (v : VrfNo) (target : Rt) (on : Bool) : Type 0 where
  pub has : HasEdge topology routed (edge_of topology v.0)
  pub free : found_in v.0 (λ (vrf : VrfState). set_refused target on vrf.imports) (edge_at routed (edge_of topology v.0)).vrfs ≡ None

abbrev pub SetsImport : Network → VrfNo → Rt → Bool → Routed → Routed → Type 0
SetsImport topology v target on old new =
    new ≡ with_edge (edge_of topology v.0) (import_set (edge_at old (edge_of topology v.0)) v target on) old

-- 3. A session opens or ends

abbrev pub with_end : ℕ → ℕ → Option BgpSession → Routed → Routed
with_end edge peer end routed = record routed { sessions = slice_set routed.sessions edge (slice_set (slice_index_or routed.sessions edge []) peer end) }

-- nothing flies between two edges
abbrev pub cut : Network → ℕ → ℕ → Routed → Routed
cut topology a b routed =
    record routed { messages = off_channel (b * length topology.loopbacks + a) (off_channel (a * length topology.loopbacks + b) routed.messages) }

-- an edge sends OPEN to a peer, and each of two to the other
abbrev pub open_to : Network → ℕ → ℕ → Parcel
open_to topology edge peer = (edge * length topology.loopbacks + peer, open_bytes topology.asn (loopback topology edge))

abbrev pub opens_in : Network → ℕ → ℕ → List Parcel
opens_in topology a b = open_to topology a b ∷ open_to topology b a ∷ []

pub record MayTurn (topology : Network) (routed : Routed) (a b : ℕ) : Type 0 where
  pub first : HasEdge topology routed a
  pub second : HasEdge topology routed b
  pub apart : a ≢ b

abbrev pub Opens : Network → ℕ → ℕ → ℕ → ℕ → Routed → Routed → ℕ → Type 0
Opens topology tick number a b old new next =
    Puts topology tick number (opens_in topology a b)
    (cut topology a b (with_end b a (Some (opened topology b a)) (with_end a b (Some (opened topology a b)) old))) new next

-- each forgets what it received from the other
abbrev pub forgotten : ℕ → ℕ → Routed → Routed
forgotten edge peer routed = with_edge edge (after_forget (edge_at routed edge) peer) routed

abbrev pub Ends : Network → ℕ → ℕ → Routed → Routed → Type 0
Ends topology a b old new = new ≡ cut topology a b (with_end b a None (with_end a b None (forgotten b a (forgotten a b old))))

-- 4. An edge receives the next message of a peer

abbrev pub next_on : Routed → ℕ → Option (Item (List ℕ))
next_on routed channel = slice_get (on_channel channel routed.messages) 0

abbrev pub taken : ℕ → Routed → Routed
taken channel routed = record routed { messages = without (next_on routed channel) routed.messages }

abbrev pub channel_from : Network → ℕ → ℕ → ℕ
channel_from topology edge peer = edge * length topology.loopbacks + peer

-- the labels that an UPDATE announces have 20 bits
abbrev pub AreLabelledIn : Option Says → Type 0
AreLabelledIn None = ⊤
AreLabelledIn (Some says) = AreLabelled says.reached

-- a message is taken by the session of an edge and a peer with this answer, and the edge can hear it
pub record Takes (topology : Network) (routed : Routed) (peer edge : ℕ) (message : BgpMessage) (answer : BgpReply) : Type 0 where
  pub has : HasEdge topology routed edge
  pub session : BgpSession
  pub lives : slice_get (slice_index_or routed.sessions edge []) peer ≡ Some (Some session)
  pub takes : table.answer_in session message ≡ Ok answer
  pub address : loopback topology peer ≡ slice_index_or (edge_at routed edge).loopbacks peer 0
  pub labels : AreLabelledIn (update_of message)

-- the peer's message flies, and spells this one
pub record MayHear (topology : Network) (routed : Routed) (peer edge : ℕ) (message : BgpMessage) (answer : BgpReply) : Type 0 where
  pub item : Item (List ℕ)
  pub flies : next_on routed (channel_from topology peer edge) ≡ Some item
  pub spells : IsBgp item.item message
  pub taken_by : Takes topology routed peer edge message answer
  pub one : answer.say_keep ≡ true → answer.became_established ≡ false
  pub exports : answer.became_established ≡ true → AreSayable (exports_of (after_message (edge_at routed edge) peer (update_of message)))

pub record CanHear (topology : Network) (routed : Routed) (peer edge : ℕ) : Type 0 where
  pub message : BgpMessage
  pub answer : BgpReply
  pub may : MayHear topology routed peer edge message answer

-- its end and the edge, with what the message says
abbrev pub heard_in : ℕ → ℕ → BgpMessage → Routed → Routed
heard_in peer edge message routed =
    with_end edge peer (option_map (λ session. table.after_message session message) (slice_index_or (slice_index_or routed.sessions edge []) peer None))
    (with_edge edge (after_message (edge_at routed edge) peer (update_of message)) routed)

-- the session's answer: a KEEPALIVE, or where it became Established all exports
abbrev pub answers_in : Network → ℕ → ℕ → BgpReply → List Exported → List Parcel
answers_in topology edge peer answer exports =
    (if answer.say_keep then (channel_from topology edge peer, keepalive_bytes) ∷ [] else [])
    ++ (if answer.became_established then news_to topology edge (record { 0 = peer } ∷ []) true exports else [])

abbrev pub Hears : Network → ℕ → ℕ → ℕ → ℕ → BgpMessage → BgpReply → Routed → Routed → ℕ → Type 0
Hears topology tick number peer edge message answer old new next =
    Puts topology tick number (answers_in topology edge peer answer (exports_of (after_message (edge_at old edge) peer (update_of message))))
    (heard_in peer edge message (taken (channel_from topology peer edge) old)) new next

-- the session of an edge and a peer answers a message so
pub record IsAnswered (routed : Routed) (peer edge : ℕ) (message : BgpMessage) (answer : BgpReply) : Type 0 where
  pub session : BgpSession
  pub lives : slice_get (slice_index_or routed.sessions edge []) peer ≡ Some (Some session)
  pub takes : table.answer_in session message ≡ Ok answer
