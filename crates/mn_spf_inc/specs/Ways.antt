-- Ways from a root, known by their cost and by the neighbour to which they go first.
use Rattle.std.specs.Prelude.{ℕ, ◌+◌, ◌==◌, if◌then◌else◌, Option, Some, None}
use Rattle.std.specs.declared.cmp.Reverse.{Reverse}
use Rattle.mn_wiring.specs.declared.links.LinkEnds.{LinkEnds}
use Rattle.mn_base.specs.declared.numbers.NodeNo.{NodeNo}
use Rattle.mn_linkdb.specs.PathTable.{PathTable, dist_at, next_at}
use Rattle.mn_spf.specs.Ways.{rank, other_end}
use Rattle.mn_spf_inc.specs.declared.way.Way.{Way}

-- ways are compared by cost, and those of one cost by hop: as these numbers
abbrev pub rank_of : Way → ℕ
rank_of way = rank way.cost way.hop

abbrev pub queued : Way → Reverse Way
queued way = record { 0 = way }

-- the way that goes on over a link
abbrev pub way_over : ℕ → Way → LinkEnds → Way
way_over root way ends = record { cost = way.cost + ends.cost; hop = (if way.to == root then other_end ends way.to else way.hop); to = other_end ends way.to }

-- the way to a node that the entries tell; the root has a cost and no hop
abbrev pub way_in : Option ℕ → Option NodeNo → ℕ → Option Way
way_in None hop node = None
way_in (Some cost) None node = Some (record { cost = cost; hop = 0; to = node })
way_in (Some cost) (Some hop) node = Some (record { cost = cost; hop = hop.0; to = node })

abbrev pub way_at : PathTable → ℕ → Option Way
way_at table node = way_in (dist_at table node) (next_at table node) node
