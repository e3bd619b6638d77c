-- What parts mean, and whether a topology has what a command names.
use Rattle.std.specs.Prelude.{ℕ, ◌==◌, ◌&&◌, ◌||◌, nat_le, not, Bool, true, false, List, length}
use Rattle.std.specs.List.{list_any, list_all}
use Rattle.mn_topo.specs.Network.{Network, link_numbered}
use Rattle.mn_topo.specs.Steps.{has_node, has_link, are_edges}
use Rattle.mn_script.specs.Operands.{lesser, greater}
use Rattle.mn_wiring.specs.declared.links.LinkEnds.{LinkEnds}
use Rattle.mn_failures.specs.declared.command.Part.{Part}
use Rattle.mn_failures.specs.declared.command.Part.TheVariants.{LinkDown, LdpOff, BgpDown, NodeDown}
use Rattle.mn_failures.specs.declared.command.Each.{Each}
use Rattle.mn_failures.specs.declared.command.Each.TheVariants as each
use Rattle.mn_failures.specs.declared.command.FailureCommand.{FailureCommand}
use Rattle.mn_failures.specs.declared.command.FailureCommand.TheVariants as command
use Rattle.mn_failures.specs.Language.{is_twice}

-- 1. Whether a topology has what is named

abbrev pub part_fits : Network → Part → Bool
part_fits network (LinkDown link from) = has_link network link
part_fits network (LdpOff link from) = has_link network link
part_fits network (BgpDown one other) = are_edges network one other
part_fits network (NodeDown node) = has_node network node

-- 2 or 3 links, and numbers that links may have
abbrev pub each_fits : Each → Bool
each_fits (each.Links many from to) = (nat_le 2 many && nat_le many 3) && (nat_le from 1023 && nat_le to 1023)
each_fits _ = true

-- parts that are there, from 1 to 1,024, each once; a TTL from 2 to 255
abbrev pub command_fits : Network → FailureCommand → Bool
command_fits network (command.Fail parts) =
    list_all (part_fits network) parts && ((nat_le 1 (length parts) && nat_le (length parts) 1024) && not (is_twice parts))
command_fits network (command.Each found) = each_fits found
command_fits network (command.Sessions end) = true
command_fits network (command.Resolve how) = true
command_fits network command.Losses = true
command_fits network command.Counts = true
command_fits network (command.Ttl ttl) = nat_le 2 ttl && nat_le ttl 255

-- 2. What is down, off and ended under parts

-- the node is an end of the link
abbrev pub is_end_of : LinkEnds → ℕ → Bool
is_end_of link node = link.a.0 == node || link.b.0 == node

-- the part takes the link of this number down: it names it, or a node at one of its ends
abbrev pub takes_down : Network → ℕ → Part → Bool
takes_down network l (LinkDown link from) = link.0 == l
takes_down network l (NodeDown node) = is_end_of (link_numbered network l) node.0
takes_down network l _ = false

abbrev pub is_down : Network → List Part → ℕ → Bool
is_down network parts l = list_any (takes_down network l) parts

-- the part switches LDP off on the link of this number
abbrev pub switches_off : ℕ → Part → Bool
switches_off l (LdpOff link from) = link.0 == l
switches_off l _ = false

abbrev pub is_ldp_off : List Part → ℕ → Bool
is_ldp_off parts l = list_any (switches_off l) parts

-- the part ends the session of two edges, of which the first is the lesser
abbrev pub ends_session : ℕ → ℕ → Part → Bool
ends_session a b (BgpDown one other) = (lesser one other).0 == a && (greater one other).0 == b
ends_session a b _ = false

abbrev pub is_bgp_off : List Part → ℕ → ℕ → Bool
is_bgp_off parts a b = list_any (ends_session a b) parts
