-- What contracts see of one node's transport.
use Rattle.std.specs.Prelude.{◌==◌, if◌then◌else◌, ◌≡◌, ◌<◌, ◌≤◌, ◌^◌, ℕ, ◌+◌, Bool, false, List, [], ◌∷◌, length, filter, replicate}
use Rattle.std.specs.Prelude.{slice_index_or, Option, Some, None, option_map, ⊤}
use Rattle.mn_wiring.specs.Wiring.{Wiring, View, across, JoinsNodes, EndsDiffer, JoinsOnce}
use Rattle.mn_base.specs.declared.numbers.NodeNo.{NodeNo}
use Rattle.mn_base.specs.declared.numbers.SiteNo.{SiteNo}
use Rattle.mn_states.specs.declared.states.LdpState.{LdpState}
use Rattle.mn_linkdb.specs.Network.{IsNetwork}
use Rattle.mn_labels.specs.declared.meaning.Bind.{Bind}
use Rattle.mn_labels.specs.declared.meaning.Bind.TheVariants.{Fec, Site}
use Rattle.mn_labels.specs.declared.meaning.Given.{Given}
use Rattle.mn_labels.specs.Labels.{Labels, meaning_of}
use Rattle.mn_releases.specs.Rests.{Resting}
use Rattle.mn_lfib.specs.declared.answer.Use.{Use}
use Rattle.mn_lfib.specs.declared.answer.Use.TheVariants as use_kind
use Rattle.mn_lfib.specs.Uses.{use_of, fec_use}
use Rattle.mn_bindings.specs.Bindings.{Bindings, row_of}
use Rattle.mn_node.specs.Ldp.{usable_by}
use Rattle.mn_node.specs.Node.{Session, Node, session_at, knowledge_in}
use Rattle.mn_ldp_session.specs.Spelling.{AreSpelled, count_of}
use Rattle.mn_spf_inc.specs.Mended.{Mended, IsOver}
use Rattle.mn_lsr.specs.declared.parts.Open.{Open}

-- the network around it, what it keeps, the labels that it gave, since when its FECs are at rest, what labels are used for, and
-- whether it has run out of memory
pub record Standing : Type 0 where
  pub wiring : Wiring
  pub node : Node
  pub labels : Labels
  pub resting : Resting
  pub uses : List (ℕ × Use)
  pub failed : Bool

-- the session of a link, whose labels are those that the neighbour over it sent
abbrev pub labels_in : ℕ → Option (List (Option ℕ)) → List (Option ℕ)
labels_in nodes None = replicate nodes None
labels_in nodes (Some row) = row

abbrev pub session_in : Wiring → ℕ → Bindings → ℕ → Open → Session
session_in wiring me lib l end =
    record { state = end.session.state; said = end.said; labels = labels_in (length wiring.loopbacks) (row_of lib (across wiring l me)) }

abbrev pub sessions_from : Wiring → ℕ → Bindings → ℕ → List (Option Open) → List (Option Session)
sessions_from wiring me lib l [] = []
sessions_from wiring me lib l (end ∷ ends) = option_map (session_in wiring me lib l) end ∷ sessions_from wiring me lib (l + 1) ends

-- a node has sent so few messages in each session that the numbers of those that it says next have 64 bits
abbrev pub HasNumbers : Node → Type 0
HasNumbers node = (l : ℕ) → count_of (session_at node l) ≤ 2 ^ 62

-- the label that was received last in a session
abbrev pub session_label : Option Session → ℕ → Option ℕ
session_label None fec = None
session_label (Some session) fec = slice_index_or session.labels fec None

-- the next hop with the label that it gave the FEC
abbrev pub labelled : Node → ℕ → Option (ℕ × ℕ) → Option (NodeNo × ℕ)
labelled node fec None = None
labelled node fec (Some hop) = option_map (λ label. (record { 0 = hop.0 }, label)) (session_label (session_at node hop.1) fec)

-- the next hop towards an edge, and the label to be sent there
abbrev pub way_to : Wiring → Node → ℕ → Option (NodeNo × ℕ)
way_to wiring node fec = labelled node fec (usable_by wiring (knowledge_in node) node.me fec)

-- A tree that is mended from a node is over the wiring's links, of which those are up that are so in the view.
pub record IsMendedFor (wiring : Wiring) (view : View) (me : ℕ) (mended : Mended) : Type 0 where
  pub sound : mended.failed ≡ false
  pub root : mended.root ≡ me
  pub over : IsOver wiring mended
  pub up : mended.up ≡ view

-- The network that a node's transport asks for: at most 256 nodes, whose loopbacks can be told apart, and 1,024 links, each of a
-- cost from 1 to 65,535 between two different nodes, and at most one between any two.
pub record IsWired (wiring : Wiring) : Type 0 where
  pub network : IsNetwork (length wiring.loopbacks) wiring.ends
  pub few_links : length wiring.ends ≤ 1024
  pub joins : JoinsNodes wiring
  pub differ : EndsDiffer wiring
  pub once : JoinsOnce wiring
  pub spelled : AreSpelled wiring

abbrev pub is_of : ℕ → Bind → Bool
is_of site (Fec fec) = false
is_of site (Site other attachment) = other.0 == site

-- how often a site was attached
abbrev pub attachments : ℕ → List Given → ℕ
attachments site given = length (filter (λ giving. is_of site giving.what) given)

-- a label was given for an attachment
abbrev pub IsAttachment : Option Bind → Type 0
IsAttachment None = ⊥
IsAttachment (Some (Fec fec)) = ⊥
IsAttachment (Some (Site site attachment)) = ⊤

-- an attachment is the present one of this site, or has ended
abbrev pub IsSiteUse : SiteNo → Option Use → Type 0
IsSiteUse site None = ⊥
IsSiteUse site (Some (use_kind.Fec next_hop label)) = ⊥
IsSiteUse site (Some (use_kind.Site there)) = there ≡ site
IsSiteUse site (Some use_kind.Ended) = ⊤

-- RFC 3031, section 3.11: what a label is used for that means this, where `way` leads to each FEC
abbrev pub IsUseOf : (ℕ → Option (NodeNo × ℕ)) → Option Bind → Option Use → Type 0
IsUseOf way None used = used ≡ None
IsUseOf way (Some (Fec fec)) used = used ≡ fec_use (way fec.0)
IsUseOf way (Some (Site site attachment)) used = IsSiteUse site used

-- A FEC's label is used for the way there exactly where there is one, an attachment's for its site or as one that has ended, and
-- no other label has a use.
abbrev pub TableStands : Standing → Type 0
TableStands standing = (label : ℕ) → IsUseOf (way_to standing.wiring standing.node) (meaning_of standing.labels label) (use_of standing.uses label)

-- the labels of attachments are used as before
abbrev pub SitesKeep : Standing → Standing → Type 0
SitesKeep before after = (label : ℕ) → IsAttachment (meaning_of before.labels label) → use_of after.uses label ≡ use_of before.uses label

-- the state of a session, where there is one
abbrev pub state_in : Option Session → Option LdpState
state_in session = option_map (λ session. session.state) session

-- implicit null isn't sent
abbrev pub label_sent : ℕ → Option ℕ
label_sent label = if label == 3 then None else Some label

abbrev pub sent_to : NodeNo × ℕ → NodeNo × Option ℕ
sent_to way = (way.0, label_sent way.1)

-- a label that is sent has 20 bits
abbrev pub FitsOuter : Option (NodeNo × Option ℕ) → Type 0
FitsOuter None = ⊤
FitsOuter (Some (hop, None)) = ⊤
FitsOuter (Some (hop, Some label)) = label < 2 ^ 20
