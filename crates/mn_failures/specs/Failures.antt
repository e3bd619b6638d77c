-- The failures that a line stands for, in order.
use Rattle.std.specs.Prelude.{ℕ, ◌+◌, ◌-◌, ◌==◌, ◌&&◌, ◌||◌, nat_lt, Bool, List, [], ◌∷◌, length, map, if◌then◌else◌}
use Rattle.std.specs.List.{list_any, flat_map, range_with_len}
use Rattle.mn_wiring.specs.declared.links.Dir.TheVariants.{Forth}
use Rattle.mn_topo.specs.declared.vrfs.VrfDef.{VrfDef}
use Rattle.mn_topo.specs.Network.{Network}
use Rattle.mn_targets.specs.Targets.{meet}
use Rattle.mn_topo.specs.VrfTable.{is_edge}
use Rattle.mn_failures.specs.declared.command.Part.{Part}
use Rattle.mn_failures.specs.declared.command.Part.TheVariants.{LinkDown, LdpOff, BgpDown, NodeDown}
use Rattle.mn_failures.specs.declared.command.Each.{Each}
use Rattle.mn_failures.specs.declared.command.Each.TheVariants as each
use Rattle.mn_failures.specs.declared.command.FailureCommand.{FailureCommand}
use Rattle.mn_failures.specs.declared.command.FailureCommand.TheVariants as command

-- 1. Which edges exchange routes

-- the VRF is one of the edge, and exports a target that this VRF imports
abbrev pub gives : ℕ → VrfDef → VrfDef → Bool
gives edge vrf from = from.node.0 == edge && meet vrf.«import» from.export

-- the VRF is one of the edge, and a VRF of the other edge gives to it
abbrev pub takes_of : Network → ℕ → ℕ → VrfDef → Bool
takes_of network one other vrf = vrf.node.0 == one && list_any (gives other vrf) network.vrfs

-- a VRF of the one edge imports a target that a VRF of the other exports
abbrev pub takes : Network → ℕ → ℕ → Bool
takes network one other = list_any (takes_of network one other) network.vrfs

-- one of two edges imports a target that the other exports
abbrev pub exchange : Network → ℕ → ℕ → Bool
exchange network one other = takes network one other || takes network other one

-- 2. Each link, each node, each session

-- a link is named from its end a
abbrev pub link_down : ℕ → Part
link_down l = LinkDown (record { 0 = l }) Forth

abbrev pub links : Network → List ℕ
links network = range_with_len 0 (length network.links)

abbrev pub nodes : Network → List ℕ
nodes network = range_with_len 0 (length network.loopbacks)

abbrev pub each_link : Network → List (List Part)
each_link network = map (λ l. link_down l ∷ []) (links network)

abbrev pub each_ldp : Network → List (List Part)
each_ldp network = map (λ l. LdpOff (record { 0 = l }) Forth ∷ []) (links network)

abbrev pub each_node : Network → List (List Part)
each_node network = map (λ node. NodeDown (record { 0 = node }) ∷ []) (nodes network)

-- of two edges, the lesser first, where they exchange routes
abbrev pub session_of : Network → ℕ → ℕ → List (List Part)
session_of network one other =
    if nat_lt one other && (is_edge network.vrfs other && exchange network one other) then
    (BgpDown (record { 0 = one }) (record { 0 = other }) ∷ []) ∷ []
    else []

abbrev pub sessions_of : Network → ℕ → List (List Part)
sessions_of network one = flat_map (session_of network one) (nodes network)

abbrev pub edge_of : Network → ℕ → List (List Part)
edge_of network node = if is_edge network.vrfs node then sessions_of network node else []

abbrev pub each_bgp : Network → List (List Part)
each_bgp network = flat_map (edge_of network) (nodes network)

-- 3. Two links, and three

-- the links behind this one
abbrev pub behind : Network → ℕ → List ℕ
behind network l = range_with_len (l + 1) (length network.links - (l + 1))

abbrev pub two_with : Network → ℕ → List (List Part)
two_with network l = map (λ m. link_down l ∷ link_down m ∷ []) (behind network l)

abbrev pub third_with : Network → ℕ → ℕ → List (List Part)
third_with network l m = map (λ n. link_down l ∷ link_down m ∷ link_down n ∷ []) (behind network m)

abbrev pub three_with : Network → ℕ → List (List Part)
three_with network l = flat_map (third_with network l) (behind network l)

-- where the first is one of those from the one number to the other
abbrev pub first_with : Network → ℕ → ℕ → ℕ → ℕ → List (List Part)
first_with network many from to l =
    if nat_lt l from || nat_lt to l then [] else if many == 2 then two_with network l else three_with network l

abbrev pub each_many : Network → ℕ → ℕ → ℕ → List (List Part)
each_many network many from to = flat_map (first_with network many from to) (links network)

-- 4. All of them

abbrev pub each_of : Network → Each → List (List Part)
each_of network each.Link = each_link network
each_of network each.Ldp = each_ldp network
each_of network each.Node = each_node network
each_of network each.Bgp = each_bgp network
each_of network (each.Links many from to) = each_many network many from to

-- the failures that a command stands for, each with its parts
abbrev pub failures_of : Network → FailureCommand → List (List Part)
failures_of network (command.Fail parts) = parts ∷ []
failures_of network (command.Each found) = each_of network found
failures_of network _ = []
