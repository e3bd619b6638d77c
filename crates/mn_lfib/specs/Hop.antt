-- What a hop leaves of a frame, whatever the labels are used for: RFC 3032, section 2.4, and RFC 3031, section 3.10.
use Rattle.std.specs.Prelude.{◌≡◌, ℕ, ◌+◌, ◌<◌, [], ◌∷◌, length, IsTrue}
use Rattle.mn_ipv4.specs.Header.{ttl_of, ChangesTtlOnly}
use Rattle.mn_stack.specs.Grammar.{is_packet}
use Rattle.mn_stack.specs.Labelled.{Labelled}
use Rattle.mn_lfib.specs.declared.answer.Forwarded.{Forwarded}
use Rattle.mn_lfib.specs.declared.answer.Forwarded.TheVariants.{Next, Site, Drop}

-- the TTL that a frame carries: that of its top entry, or the packet's where it has none
abbrev pub carried_ttl : Labelled → ℕ
carried_ttl frame = elim frame.entries [ [] ↦ ttl_of frame.packet | top ∷ below ↦ top.ttl ]

-- What leaves the node with a TTL. A dropped frame is unchanged. To a neighbour go at least one entry, and the packet
-- as it was. To a site goes a good packet alone, of which no byte changed but its TTL and its checksum.
abbrev pub LeavesWith : ℕ → Labelled → Forwarded → Labelled → Type 0
LeavesWith ttl before (Drop rule) after = after ≡ before
LeavesWith ttl before (Next next_hop) after = (carried_ttl after ≡ ttl) × (0 < length after.entries) × (after.packet ≡ before.packet)
LeavesWith ttl before (Site site) after =
    (carried_ttl after ≡ ttl) × (after.entries ≡ []) × IsTrue (is_packet after.packet) × ChangesTtlOnly before.packet after.packet

-- it carries one hop less than before, and at least one
abbrev pub IsOneHop : Labelled → Forwarded → Labelled → Type 0
IsOneHop before (Drop rule) after = LeavesWith 0 before (Drop rule) after
IsOneHop before answer after = (ttl : ℕ) × (0 < ttl) × (ttl + 1 ≡ carried_ttl before) × LeavesWith ttl before answer after
