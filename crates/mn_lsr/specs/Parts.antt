-- The parts of a node, what contracts see of them, and how they hang together.
use Rattle.std.specs.Prelude.{◌≡◌, ◌≢◌, ◌<◌, ◌≤◌, ◌^◌, ℕ, ◌+◌, ◌==◌, ◌||◌, ◌&&◌, is_some, Bool, true, false, if◌then◌else◌, List, [], ◌∷◌, ◌++◌, length, map}
use Rattle.std.specs.Prelude.{slice_index_or}
use Rattle.std.specs.Prelude.{slice_set, Option, Some, None, option_map, nat_le, ⊤}
use Rattle.std.specs.List.{flat_map, range_with_len}
use Rattle.mn_base.specs.declared.numbers.NodeNo.{NodeNo}
use Rattle.mn_wiring.specs.Wiring.{Wiring, is_end, across, joining, JoinsNodes}
use Rattle.mn_linkdb.specs.Learned.{links_up, IsView}
use Rattle.mn_linkdb.specs.PathTable.{PathTable, next_at}
use Rattle.mn_labels.specs.Labels.{Labels, LabelTable, label_now, own_labels, meaning_of, offered, IsTold}
use Rattle.mn_releases.specs.Rests.{Resting, row_of, count_in}
use Rattle.mn_lfib.specs.Uses.{use_of, IsNextHop}
use Rattle.mn_bindings.specs.declared.event.LibEvent.{LibEvent}
use Rattle.mn_bindings.specs.declared.event.LibEvent.TheVariants as event
use Rattle.mn_bindings.specs.Bindings as lib
use Rattle.mn_bindings.specs.News.{begun}
use Rattle.mn_bindings.specs.Tells.{tells, releases}
use Rattle.mn_bindings.specs.Bindings.{Bindings}
use Rattle.mn_bindings.specs.Known.{Known, is_free, known_after}
use Rattle.mn_node.specs.Ldp.{Said}
use Rattle.mn_node.specs.Node.{Node}
use Rattle.mn_node.specs.Machine.{loopback_of}
use Rattle.mn_ldp_session.specs.declared.session.Session.{Session}
use Rattle.mn_ldp_session.specs.Spelling.{Pdu, pdu}
use Rattle.mn_lsr.specs.declared.parts.Open.{Open}
use Rattle.mn_lsr.specs.declared.parts.Parts.{Parts}
use Rattle.mn_lsr.specs.Standing.{IsWired, IsMendedFor, IsUseOf, IsAttachment, sessions_from, attachments}
use Rattle.mn_lsr.specs.Turns.{Kept}
use Rattle.mn_lsr.specs.Telling.{said_by_tell, MayTell, AreLinks}
use Rattle.mn_lsr.specs.Ties.{AreTied}

abbrev pub wiring_in : Parts → Wiring
wiring_in p = record { loopbacks = p.loopbacks.items; ends = p.view.ends }

abbrev pub node_in : Parts → Node
node_in p = record { me = p.me.0; learned = p.view.counts; sessions = sessions_from (wiring_in p) p.me.0 p.lib.bindings 0 p.sessions.items }

abbrev pub kept_of : Parts → Kept
kept_of p = record { node = node_in p; labels = p.labels.labels; resting = p.lib.resting }

-- a label has 20 bits
abbrev pub FitsLabel : Option ℕ → Type 0
FitsLabel None = ⊤
FitsLabel (Some label) = label < 2 ^ 20

-- the state machines of the sessions, by link
abbrev pub machines_of : List (Option Open) → List (Option Session)
machines_of ends = map (option_map (λ end. end.session)) ends

-- a session is that of a link at the node, between the loopbacks of the two ends
pub record IsOwn (wiring : Wiring) (me l : ℕ) (session : Session) : Type 0 where
  pub at_end : is_end wiring l me ≡ true
  pub me_is : session.me ≡ loopback_of wiring me
  pub peer_is : session.peer ≡ loopback_of wiring (across wiring l me)

pub record AreOwn (wiring : Wiring) (me : ℕ) (sessions : List (Option Session)) : Type 0 where
  pub one_each : length sessions ≡ length wiring.ends
  pub own : (l : ℕ) (session : Session) → slice_index_or sessions l None ≡ Some session → IsOwn wiring me l session

-- each FEC that the node offers has a label, but its own, and no label means two things
pub record HaveLabels (me nodes : ℕ) (bindings : Bindings) (table : LabelTable) : Type 0 where
  pub me_is : table.me ≡ me
  pub long : length table.labels.fecs ≡ nodes
  pub told : IsTold table.labels
  pub had : (fec : ℕ) → fec < nodes → fec ≢ me → lib.offers bindings fec ≡ true → is_some (label_now table.labels fec) ≡ true

-- what a neighbour owes: nothing where its session isn't open, and of each FEC no more Releases than messages were sent in it
pub data Owes (wiring : Wiring) (me : ℕ) (resting : Resting) (ends : List (Option Open)) (neighbour : ℕ) : Type 0 where
  Nothing : row_of resting neighbour ≡ None → Owes wiring me resting ends neighbour
  AtMost : (l : ℕ) → (end : Open) → joining wiring me neighbour ≡ l ∷ [] → slice_index_or ends l None ≡ Some end →
      ((fec : ℕ) → count_in (row_of resting neighbour) fec ≤ end.said) → Owes wiring me resting ends neighbour

pub record AreOwed (wiring : Wiring) (me : ℕ) (known : Known) (ends : List (Option Open)) : Type 0 where
  pub rows : length known.resting.owed ≡ length wiring.loopbacks
  pub open_is : (neighbour : ℕ) → is_some (row_of known.resting neighbour) ≡ lib.is_open known.bindings neighbour
  pub each : (neighbour : ℕ) → Owes wiring me known.resting ends neighbour

pub record Stands (p : Parts) : Type 0 where
  pub view : IsView p.view
  pub nodes : p.view.nodes ≡ length p.loopbacks.items
  pub me : p.me.0 < length p.loopbacks.items
  pub wired : IsWired (wiring_in p)
  pub mended : IsMendedFor (wiring_in p) (links_up p.view) p.me.0 p.mended
  pub ends : AreOwn (wiring_in p) p.me.0 (machines_of p.sessions.items)
  pub rows : length p.lib.bindings.heard ≡ length p.loopbacks.items
  pub tied : AreTied (wiring_in p) (node_in p) p.lib.bindings
  pub fit : (neighbour fec : ℕ) → FitsLabel (lib.label_learned (lib.row_of p.lib.bindings neighbour) fec)
  pub labels : HaveLabels p.me.0 (length p.loopbacks.items) p.lib.bindings p.labels
  pub owed : AreOwed (wiring_in p) p.me.0 p.lib p.sessions.items
  pub attached : (site : ℕ) → slice_index_or p.attached.items site 0 ≡ attachments site p.labels.labels.given
  pub links : AreLinks (wiring_in p) p.me.0 p.links.items
  pub table : (label : ℕ) → IsUseOf (lib.usable p.lib.bindings) (meaning_of p.labels.labels label) (use_of p.lfib label)

-- attachments' labels mean what they meant, and are used as before
abbrev pub SitesStay : Parts → Parts → Type 0
SitesStay p q = (label : ℕ) → IsAttachment (meaning_of p.labels.labels label) →
    (meaning_of q.labels.labels label ≡ meaning_of p.labels.labels label) × (use_of q.lfib label ≡ use_of p.lfib label)

-- how much was sent on a link, by its end
abbrev pub said_in : Option Open → ℕ
said_in None = 0
said_in (Some end) = end.said

-- with so many messages sent in this call, the numbers of more have 64 bits in each session
abbrev pub NumbersFit : List (Option Open) → ℕ → Type 0
NumbersFit ends said = (l : ℕ) → said_in (slice_index_or ends l None) ≤ 2 ^ 62 + said

-- it has sent so few
abbrev pub has_numbers : Option Open → Bool
has_numbers end = nat_le (said_in end) (2 ^ 62)

-- something may be sent on each link
pub record MaySpeak (p : Parts) : Type 0 where
  pub few : length p.loopbacks.items ≤ 256
  pub me : p.me.0 < length p.loopbacks.items
  pub joins : JoinsNodes (wiring_in p)
  pub one_each : length p.sessions.items ≡ length p.view.ends

-- these events may be followed, where a Release brings this label
pub record MayFollow (p : Parts) (withdrawn : ℕ) (events : List LibEvent) : Type 0 where
  pub few : length p.loopbacks.items ≤ 256
  pub me : p.me.0 < length p.loopbacks.items
  pub joins : JoinsNodes (wiring_in p)
  pub links : AreLinks (wiring_in p) p.me.0 p.links.items
  pub one_each : length p.sessions.items ≡ length p.view.ends
  pub view_nodes : p.view.nodes ≡ length p.loopbacks.items
  pub lib_nodes : lib.nodes p.lib.bindings ≡ length p.loopbacks.items
  pub lib_me : p.lib.bindings.me.0 ≡ p.me.0
  pub fit : lib.EventsFit p.lib.bindings events
  pub short : length events ≤ 256
  pub labels : HaveLabels p.me.0 (length p.loopbacks.items) p.lib.bindings p.labels
  pub may : (labels : Labels) → MayTell (length p.loopbacks.items) p.me.0 labels withdrawn (releases events)
  pub table : (label : ℕ) → IsUseOf (lib.usable p.lib.bindings) (meaning_of p.labels.labels label) (use_of p.lfib label)
  pub next : (fec : ℕ) → IsNextHop (lib.usable (lib.after_events p.lib.bindings events) fec)

abbrev pub same_hop : Option NodeNo → Option NodeNo → Bool
same_hop None None = true
same_hop (Some one) (Some other) = one.0 == other.0
same_hop _ _ = false

-- nothing happens to the node's own FEC, nor to one towards which the next hop is that of the tree already
abbrev pub stays : ℕ → List (Option NodeNo) → PathTable → ℕ → Bool
stays me hops table fec = (fec == me) || same_hop (slice_index_or hops fec None) (next_at table fec)

-- the next hop towards each other FEC, as it is in the tree
abbrev pub hop_event : (ℕ → Bool) → PathTable → ℕ → List LibEvent
hop_event same table fec = if same fec then [] else event.Next (record { 0 = fec }) (next_at table fec) ∷ []

abbrev pub hop_events : ℕ → List (Option NodeNo) → PathTable → ℕ → List LibEvent
hop_events me hops table nodes = flat_map (hop_event (stays me hops table) table) (range_with_len 0 nodes)

abbrev pub one_more : Open → Open
one_more end = record { session = end.session; said = end.said + 1 }

-- the ends once one message more is sent on a link
abbrev pub bumped : List (Option Open) → ℕ → List (Option Open)
bumped ends l = slice_set ends l (option_map one_more (slice_index_or ends l None))

-- what is sent, with ids from the ends, and the ends then
abbrev pub pdus_by : Wiring → ℕ → (ℕ → ℕ) → ℕ → List (Option Open) → List Said → List Pdu
pdus_by wiring me own withdrawn ends [] = []
pdus_by wiring me own withdrawn ends (said ∷ sayings) =
    pdu wiring said.link me own withdrawn (said_in (slice_index_or ends said.link None) + 1) said.message
    ∷ pdus_by wiring me own withdrawn (bumped ends said.link) sayings

-- a FEC with a label that may be another's
abbrev pub free_of : Known → Labels → ℕ → ℕ → List ℕ
free_of known labels tick fec = if is_some (label_now labels fec) && is_free known tick fec then fec ∷ [] else []

abbrev pub ends_after : List (Option Open) → List Said → List (Option Open)
ends_after ends [] = ends
ends_after ends (said ∷ sayings) = ends_after (bumped ends said.link) sayings

-- what is true once events were followed
pub record HasTold (q r : Parts) (withdrawn tick : ℕ) (es : List LibEvent) (before after : List Pdu) : Type 0 where
  pub said : after ≡ before ++ pdus_by (wiring_in q) q.me.0 (own_labels q.me.0 r.labels.labels) withdrawn q.sessions.items
      (flat_map (said_by_tell (wiring_in q) q.me.0) (tells q.lib.bindings es))
  pub counted : r.sessions.items ≡ ends_after q.sessions.items (flat_map (said_by_tell (wiring_in q) q.me.0) (tells q.lib.bindings es))
  pub known : r.lib ≡ known_after q.lib es tick
  pub labels : r.labels.labels ≡ offered (is_free q.lib tick) q.labels.labels (begun q.lib.bindings (lib.after_events q.lib.bindings es))
  pub have : HaveLabels q.me.0 (length q.loopbacks.items) (lib.after_events q.lib.bindings es) r.labels
  pub table : (label : ℕ) → IsUseOf (lib.usable (lib.after_events q.lib.bindings es)) (meaning_of r.labels.labels label) (use_of r.lfib label)
  pub sites : SitesStay q r
  pub others : r ≡ record q { sessions = r.sessions; lib = r.lib; labels = r.labels; lfib = r.lfib }
