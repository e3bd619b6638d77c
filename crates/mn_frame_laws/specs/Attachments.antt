-- How a node's table changes as a site is attached or detached: RFC 3031, section 3.14.
use Rattle.std.specs.Prelude.{◌≡◌, ◌≢◌, ◌+◌, ◌≤◌, ℕ, List, Some, None}
use Rattle.std.specs.List.{Contains}
use Rattle.mn_lfib.specs.declared.answer.Use.{Use}
use Rattle.mn_lfib.specs.declared.answer.Use.TheVariants as label_of
use Rattle.mn_lfib.specs.Uses.{use_of}
use Rattle.mn_topo.specs.Network.{Network}
use Rattle.mn_ledger.specs.Tables.{put}
use Rattle.mn_ledger.specs.World.{World}
use Rattle.mn_ledger.specs.Transport.{usable}
use Rattle.mn_labels.specs.declared.meaning.Bind.{Bind}
use Rattle.mn_labels.specs.declared.meaning.Given.{Given}
use Rattle.mn_labels.specs.Labels.{greatest, attached}
use Rattle.mn_frame_laws.specs.Given.{Labelling, HasLabel, label_in, fec_of, attachment_of}
use Rattle.mn_frame_laws.specs.Tables.{TableStands}

-- what holds as a site is attached at a node, whose labels are from 16 on: it wasn't, its new attachment has the next label, past
-- each FEC's, which now has the site's use, and nothing else changed there
pub record Attaches (t : Network) (g later : Labelling) (w next : World) (node s number : ℕ) (uses after : List (ℕ × Use)) : Type 0 where
  pub given : later node ≡ attached (g node) (attachment_of s number)
  pub elsewhere : (other : ℕ) → other ≢ node → later other ≡ g other
  pub fecs : (edge : ℕ) → label_in (g node) (fec_of edge) ≤ greatest (g node).given
  pub low : (giving : Given) → Contains (g node).given giving → 16 ≤ giving.label
  pub fresh : HasLabel (g node) (attachment_of s number) → ⊥
  pub detached : w.config.attached s ≡ None
  pub attached : next.config.attached ≡ put w.config.attached s (Some number)
  pub sends : (edge : ℕ) → usable t next.config next.views next.sessions node edge ≡ usable t w.config w.views w.sessions node edge
  pub set : use_of after (greatest (g node).given + 1) ≡ Some (label_of.Site (record { 0 = s }))
  pub others : (label : ℕ) → label ≢ greatest (g node).given + 1 → use_of after label ≡ use_of uses label

-- what holds as a site is detached from a node that has no label for two things: its attachment was the present one, its label ends, and nothing else
-- changes there
pub record Detaches (t : Network) (g : Labelling) (w next : World) (node s number : ℕ) (uses after : List (ℕ × Use)) : Type 0 where
  pub labelled : HasLabel (g node) (attachment_of s number)
  pub told : (one other : Bind) → HasLabel (g node) one → HasLabel (g node) other → label_in (g node) one ≡ label_in (g node) other → one ≡ other
  pub attached : w.config.attached s ≡ Some number
  pub detached : next.config.attached ≡ put w.config.attached s None
  pub sends : (edge : ℕ) → usable t next.config next.views next.sessions node edge ≡ usable t w.config w.views w.sessions node edge
  pub set : use_of after (label_in (g node) (attachment_of s number)) ≡ Some label_of.Ended
  pub others : (label : ℕ) → label ≢ label_in (g node) (attachment_of s number) → use_of after label ≡ use_of uses label

-- a table that stands for the world before stands for the world after
abbrev pub FollowsAttach : Type 0
FollowsAttach = (t : Network) (g later : Labelling) (w next : World) (node s number : ℕ) (uses after : List (ℕ × Use)) →
    Attaches t g later w next node s number uses after → TableStands t g w node uses → TableStands t later next node after

abbrev pub FollowsDetach : Type 0
FollowsDetach = (t : Network) (g : Labelling) (w next : World) (node s number : ℕ) (uses after : List (ℕ × Use)) →
    Detaches t g w next node s number uses after → TableStands t g w node uses → TableStands t g next node after
