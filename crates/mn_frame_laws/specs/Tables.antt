-- A node's table stands for the world: RFC 3031, sections 3.10 and 3.11.
use Rattle.std.specs.Prelude.{◌≡◌, ◌≢◌, ◌<◌, ◌≤◌, ◌+◌, ℕ, if◌then◌else◌, List, length, Option, Some, None}
use Rattle.std.specs.List.{Contains}
use Rattle.mn_base.specs.declared.numbers.NodeNo.{NodeNo}
use Rattle.mn_lfib.specs.declared.answer.Use.{Use}
use Rattle.mn_lfib.specs.declared.answer.Use.TheVariants as label_of
use Rattle.mn_lfib.specs.Uses.{use_of, fec_use}
use Rattle.mn_labels.specs.declared.meaning.Bind.{Bind}
use Rattle.mn_topo.specs.Network.{Network}
use Rattle.mn_ledger.specs.World.{World}
use Rattle.mn_ledger.specs.Transport.{usable}
use Rattle.mn_ledger.specs.Packets.{is_attachment}
use Rattle.mn_frame_laws.specs.Given.{Labelling, HasLabel, attachment_of, fec_of, label_in, label_for}

-- to the next hop, with its label for the edge
abbrev pub next_over : Labelling → ℕ → Option (ℕ × ℕ) → Option (NodeNo × ℕ)
next_over given edge None = None
next_over given edge (Some hop) = Some (record { 0 = hop.0 }, label_for given hop.0 edge)

-- where the node can send towards the edge, the next hop and its label
abbrev pub next_entry : Network → Labelling → World → ℕ → ℕ → Option (NodeNo × ℕ)
next_entry topology given world node edge = next_over given edge (usable topology world.config world.views world.sessions node edge)

-- the site where the attachment is the present one, and else ended
abbrev pub site_entry : World → ℕ → ℕ → Use
site_entry world site attachment = if is_attachment (world.config.attached site) attachment then label_of.Site (record { 0 = site }) else label_of.Ended

-- where a node can send towards an edge over another one, that one has a label for the edge
abbrev pub AreMapped : Network → Labelling → World → Type 0
AreMapped topology given world = (node edge : ℕ) (hop : ℕ × ℕ) → node < length topology.loopbacks → edge < length topology.loopbacks → node ≢ edge →
    usable topology world.config world.views world.sessions node edge ≡ Some hop → hop.0 ≢ edge → HasLabel (given hop.0) (fec_of edge)

-- Each FEC's label leads to the next hop, where the node can send there; each attachment's label leads to its site, or has
-- ended; no other label has a use.
pub record TableStands (topology : Network) (given : Labelling) (world : World) (node : ℕ) (uses : List (ℕ × Use)) : Type 0 where
  pub fecs : (edge : ℕ) → edge < length topology.loopbacks → edge ≢ node → HasLabel (given node) (fec_of edge) →
      use_of uses (label_in (given node) (fec_of edge)) ≡ fec_use (next_entry topology given world node edge)
  pub sites : (site attachment : ℕ) → HasLabel (given node) (attachment_of site attachment) →
      use_of uses (label_in (given node) (attachment_of site attachment)) ≡ Some (site_entry world site attachment)
  pub reserved : (label : ℕ) → label < 16 → use_of uses label ≡ None
  pub others : (label : ℕ) → ((thing : Bind) → HasLabel (given node) thing → label_in (given node) thing ≢ label) → use_of uses label ≡ None
