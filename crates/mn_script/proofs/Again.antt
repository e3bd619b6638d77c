-- The words of a command are read as the command.
use Rattle.std.proofs.Common.{◌≡◌, ◌<◌, ◌≤◌, ◌^◌, ℕ, Bool, true, false, List, [], ◌∷◌, length, refl, ap, ◌∙◌, arith}
use Rattle.std.specs.Prelude.{codes, nat_lt, nat_le, ◌&&◌, ◌||◌, ◌==◌, not, Some, None, option_map, option_and_then, Ok, Err, if◌then◌else◌}
use Rattle.std.specs.Result.{result_ok}
use Rattle.std.specs.Str.Parse.{digits_value}
use Rattle.std.proofs.lemmas.Bool.{ltb-true, leb-true, eqb-true, ne_eqb, and_parts, and_from, le-leb}
use Rattle.std.proofs.lemmas.Bool.Decides.{nat_tests}
use Rattle.mn_base.specs.Numbers.{has_rt_form}
use Rattle.mn_wiring.specs.Wiring.{sender, receiver}
use Rattle.mn_wiring.specs.declared.links.Dir.{Dir}
use Rattle.mn_wiring.specs.declared.links.Dir.TheVariants.{Forth, Back}
use Rattle.mn_base.specs.declared.numbers.NodeNo.{NodeNo}
use Rattle.mn_base.specs.declared.numbers.LinkNo.{LinkNo}
use Rattle.mn_base.specs.declared.numbers.VrfNo.{VrfNo}
use Rattle.mn_base.specs.declared.numbers.SiteNo.{SiteNo}
use Rattle.mn_base.specs.declared.numbers.Rt.{Rt}
use Rattle.mn_prefix.specs.Prefix.{AddressBlock, IsPrefix}
use Rattle.mn_text.specs.Numbers.{number_text, is_number}
use Rattle.mn_text.specs.Addresses.{prefix_text}
use Rattle.mn_text.specs.Pairs.{rt_text}
use Rattle.mn_text.specs.declared.refusal.TextBad.{TextBad}
use Rattle.mn_text.specs.declared.refusal.TextBad.TheVariants.{NotANumber, TooGreat}
use Rattle.mn_text.proofs.Again.{number_again, prefix_again, rt_again}
use Rattle.std.specs.List.{list_all}
use Rattle.mn_topo.specs.declared.vrfs.VrfDef.{VrfDef}
use Rattle.mn_topo.specs.Lawful.{IsLawful, is_vrf_of}
use Rattle.mn_topo.specs.Network.{Network, wiring_of, link_of}
use Rattle.mn_topo.specs.VrfTable.{is_edge}
use Rattle.mn_topo.specs.Steps.{are_edges, are_edges_in_order, fits}
use Rattle.mn_topo.proofs.Ends.{name_again, link_again}
use Rattle.mn_script.specs.declared.refusal.ScriptRule.TheVariants.{BadNumber, NoSuchName, NotLinked, NotEdge}
use Rattle.mn_script.specs.Rules.{◌>>=◌, or_rule}
use Rattle.mn_script.specs.Operands.{lesser, greater, number_in, prefix_in, target_in, node_in, vrf_in, site_in, link_in, edges_in}
use Rattle.mn_script.specs.Spelled.{node_text, vrf_text, site_text, from_text, to_text, step_words, IsStep}
use Rattle.mn_script.specs.Steps.{step_line, link_line, learn_line, ldp_line, hear_line, hear_ldp_line, hear_bgp_line, bgp_line, route_line}
use Rattle.mn_script.specs.Steps.{target_operands, import_line, export_line, site_line, inject_line, frame_operands, carry_line, lose_line, tick_line}
use Rattle.mn_topo.specs.declared.steps.Step.{Step}
use Rattle.mn_topo.specs.declared.steps.Step.TheVariants.{LinkUp, LinkDown, Learn, LdpAdmin, HearLdp, BgpUp, BgpDown, HearBgp, AddRoute, DelRoute, Import}
use Rattle.mn_topo.specs.declared.steps.Step.TheVariants.{Export, Attach, Detach, Inject, Carry, Lose, Tick}
use Rattle.mn_script.specs.declared.command.Command.{Command}
use Rattle.mn_script.specs.declared.command.Command.TheVariants as command
use Rattle.mn_script.specs.declared.command.Show.{Show}
use Rattle.mn_script.specs.declared.command.Show.TheVariants as table
use Rattle.mn_script.specs.Words.{is_word}
use Rattle.mn_topo.specs.declared.steps.Damage.{Damage}
use Rattle.mn_topo.specs.declared.steps.Damage.TheVariants.{Ldp, Bgp}
use Rattle.mn_entry.specs.Damages.{damage_fits}
use Rattle.mn_script.specs.Damages.{damage_ldp_line, damage_bgp_line, damage_line}
use Rattle.mn_script.specs.Lines.{run_line, bounded_drain, drain_line, flush_line, plain_show, show_tree, show_vrf, show_frame, show_line, do_line}
use Rattle.mn_script.specs.Lines.{damaged_line, table_line}
use Rattle.mn_script.specs.Lines.{command_line, line_says, show_fits, command_fits}
use Rattle.mn_script.specs.Spelled.{damage_words, show_words, command_words, IsDamage, IsShow, IsCommand}

-- each name names its thing
pub node_again : (network : Network) (node : NodeNo) → IsLawful network → node.0 < length network.loopbacks → node_in network (node_text network node) ≡ Ok node
node_again network node lawful below =
    ap (λ found. or_rule NoSuchName (option_map (λ n. record { 0 = n }) found))
    (name_again network.node_names node.0 [] lawful.nodes.named (omega (arith, below, lawful.nodes.each)))

pub vrf_again : (network : Network) (vrf : VrfNo) → IsLawful network → vrf.0 < length network.vrfs → vrf_in network (vrf_text network vrf) ≡ Ok vrf
vrf_again network vrf lawful below =
    ap (λ found. or_rule NoSuchName (option_map (λ n. record { 0 = n }) found))
    (name_again network.vrf_names vrf.0 [] lawful.vrfs.named (omega (arith, below, lawful.vrfs.each)))

pub site_again : (network : Network) (site : SiteNo) → IsLawful network → site.0 < length network.sites → site_in network (site_text network site) ≡ Ok site
site_again network site lawful below =
    ap (λ found. or_rule NoSuchName (option_map (λ n. record { 0 = n }) found))
    (name_again network.site_names site.0 [] lawful.sites.named (omega (arith, below, lawful.sites.each)))

-- the ends of a link are nodes
sends : (network : Network) (link : LinkNo) (direction : Dir) → IsLawful network → link.0 < length network.links →
    sender (wiring_of network) link.0 direction < length network.loopbacks
sends network link Forth lawful below = (lawful.joins_nodes link.0 below).0
sends network link Back lawful below = (lawful.joins_nodes link.0 below).1

receives : (network : Network) (link : LinkNo) (direction : Dir) → IsLawful network → link.0 < length network.links →
    receiver (wiring_of network) link.0 direction < length network.loopbacks
receives network link Forth lawful below = (lawful.joins_nodes link.0 below).1
receives network link Back lawful below = (lawful.joins_nodes link.0 below).0

-- the names of a link's ends name the link, and its direction from the one to the other
pub ends_again : (network : Network) (link : LinkNo) (direction : Dir) → IsLawful network → link.0 < length network.links →
    link_in network (from_text network link direction) (to_text network link direction) ≡ Ok (link, direction)
unfolding link_in
ends_again network link direction lawful below =
    ap (λ found. found >>= (λ from. node_in network (to_text network link direction) >>= (λ to. or_rule NotLinked (link_of network from.0 to.0))))
    (node_again network (record { 0 = sender (wiring_of network) link.0 direction }) lawful (sends network link direction lawful below))
    ∙ ap (λ found. found >>= (λ to. or_rule NotLinked (link_of network (sender (wiring_of network) link.0 direction) to.0)))
    (node_again network (record { 0 = receiver (wiring_of network) link.0 direction }) lawful (receives network link direction lawful below))
    ∙ ap (or_rule NotLinked) (link_again network link.0 direction lawful below)

-- the names of two edges name them
pub edges_again : (network : Network) (a b : NodeNo) → IsLawful network → a.0 < length network.loopbacks → b.0 < length network.loopbacks →
    are_edges network a b ≡ true → edges_in network (node_text network a) (node_text network b) ≡ Ok (a, b)
unfolding edges_in
edges_again network a b lawful first second edges =
    ap (λ found. found >>=
    (λ one. node_in network (node_text network b) >>= (λ other. if are_edges network one other then Ok (one, other) else Err NotEdge)))
    (node_again network a lawful first)
    ∙ ap (λ found. found >>= (λ other. if are_edges network a other then Ok (a, other) else Err NotEdge)) (node_again network b lawful second)
    ∙ ap (λ t. if t then Ok (a, b) else Err NotEdge) edges

-- a number that isn't too great, with or without the reason why it isn't one
up_to : (b : Bool) (v most : ℕ) →
    (if b && nat_le v most then Some v else None) ≡ result_ok {E = TextBad} (if not b then Err NotANumber else if nat_lt most v then Err TooGreat else Ok v)
up_to true v most = grind (arith, nat_tests)
up_to false v most = refl

-- the text of a number, a prefix and a target
pub number_in_again : (n least most : ℕ) → n < 2 ^ 64 → least ≤ n → n ≤ most → number_in (number_text n) least most ≡ Ok n
number_in_again n least most fits low high =
    ap (λ found. or_rule BadNumber (option_and_then (λ m. if nat_le least m then Some m else None) found))
    (up_to (is_number (number_text n)) (digits_value 10 (number_text n)) most ∙ ap result_ok (number_again n most fits high))
    ∙ ap (λ t. or_rule BadNumber (if t then Some n else None)) (le-leb least n low)

pub prefix_in_again : (prefix : AddressBlock) → IsPrefix prefix.address prefix.length → prefix_in (prefix_text prefix) ≡ Ok prefix
prefix_in_again prefix h = ap (λ found. or_rule BadNumber (result_ok found)) (prefix_again prefix h)

pub target_in_again : (target : Rt) → has_rt_form target.0 ≡ true → target_in (rt_text target) ≡ Ok target
target_in_again target h = ap (or_rule BadNumber) (rt_again target h)

-- in their order two edges are the lesser and the greater
pub lesser_first : (a b : NodeNo) → a.0 < b.0 → lesser a b ≡ a
lesser_first a b h = ap (λ n. record { 0 = n }) (omega arith)

pub greater_second : (a b : NodeNo) → a.0 < b.0 → greater a b ≡ b
greater_second a b h = ap (λ n. record { 0 = n }) (omega arith)

-- the words of a step are read as the step
link_up : (network : Network) (link : LinkNo) → IsLawful network → link.0 < length network.links →
    step_line network (step_words network (LinkUp link)) ≡ Ok (LinkUp link)
unfolding step_line link_line
link_up network link lawful below = ap (λ found. found >>= (λ it. Ok (LinkUp it.0))) (ends_again network link Forth lawful below)

link_down : (network : Network) (link : LinkNo) → IsLawful network → link.0 < length network.links →
    step_line network (step_words network (LinkDown link)) ≡ Ok (LinkDown link)
unfolding step_line link_line
link_down network link lawful below = ap (λ found. found >>= (λ it. Ok (LinkDown it.0))) (ends_again network link Forth lawful below)

learn : (network : Network) (node : NodeNo) (link : LinkNo) → IsLawful network → node.0 < length network.loopbacks → link.0 < length network.links →
    step_line network (step_words network (Learn node link)) ≡ Ok (Learn node link)
unfolding step_line learn_line
learn network node link lawful there below =
    ap (λ found. found >>= (λ who. link_in network (from_text network link Forth) (to_text network link Forth) >>= (λ it. Ok (Learn who it.0))))
    (node_again network node lawful there)
    ∙ ap (λ found. found >>= (λ it. Ok (Learn node it.0))) (ends_again network link Forth lawful below)

ldp : (network : Network) (link : LinkNo) (on : Bool) → IsLawful network → link.0 < length network.links →
    step_line network (step_words network (LdpAdmin link on)) ≡ Ok (LdpAdmin link on)
unfolding step_line ldp_line
ldp network link true lawful below = ap (λ found. found >>= (λ it. Ok (LdpAdmin it.0 true))) (ends_again network link Forth lawful below)
ldp network link false lawful below = ap (λ found. found >>= (λ it. Ok (LdpAdmin it.0 false))) (ends_again network link Forth lawful below)

hear_ldp : (network : Network) (link : LinkNo) (direction : Dir) → IsLawful network → link.0 < length network.links →
    step_line network (step_words network (HearLdp link direction)) ≡ Ok (HearLdp link direction)
unfolding step_line hear_line hear_ldp_line
hear_ldp network link direction lawful below = ap (λ found. found >>= (λ it. Ok (HearLdp it.0 it.1))) (ends_again network link direction lawful below)

-- where one of the VRFs is at the node, it is one of so many nodes
among : (vrfs : List VrfDef) (node nodes : ℕ) → is_edge vrfs node ≡ true → list_all (is_vrf_of nodes) vrfs ≡ true → node < nodes
among [] node nodes found formed = cc
among (vrf ∷ vrfs) node nodes found formed =
    let parts = and_parts (is_vrf_of nodes vrf) (list_all (is_vrf_of nodes) vrfs) formed in
    let below : vrf.node.0 < nodes = ltb-true _ _ (and_parts _ _ parts.0).0 in
    elim (node == vrf.node.0) as (λ b. (node == vrf.node.0) ≡ b → (b || is_edge vrfs node) ≡ true → node < nodes) [
      | true ↦ λ here _. omega (arith, eqb-true node vrf.node.0 here)
      | false ↦ λ _ later. among vrfs node nodes later parts.1
    ] refl found

-- edges are nodes
pub edge_is_node : (network : Network) (node : NodeNo) → IsLawful network → is_edge network.vrfs node.0 ≡ true → node.0 < length network.loopbacks
edge_is_node network node lawful edge = among network.vrfs node.0 (length network.loopbacks) edge lawful.vrfs.formed

hear_bgp : (network : Network) (a b : NodeNo) → IsLawful network → are_edges network a b ≡ true →
    step_line network (step_words network (HearBgp a b)) ≡ Ok (HearBgp a b)
unfolding step_line hear_line hear_bgp_line
hear_bgp network a b lawful edges =
    let both = and_parts _ _ edges in
    let each = and_parts _ _ both.0 in
    ap (λ found. found >>= (λ pair. Ok (HearBgp pair.0 pair.1)))
    (edges_again network a b lawful (edge_is_node network a lawful each.0) (edge_is_node network b lawful each.1) edges)

-- two edges in order are two different edges
apart : (network : Network) (a b : NodeNo) → are_edges_in_order network a b ≡ true → are_edges network a b ≡ true
apart network a b edges =
    let both = and_parts (is_edge network.vrfs a.0 && is_edge network.vrfs b.0) (nat_lt a.0 b.0) edges in
    let before : a.0 < b.0 = ltb-true a.0 b.0 both.1 in
    let differ : (a.0 == b.0) ≡ false = ne_eqb a.0 b.0 (λ same. absurd (omega arith)) in
    and_from _ _ both.0 (ap not differ)

bgp_up : (network : Network) (a b : NodeNo) → IsLawful network → are_edges_in_order network a b ≡ true →
    step_line network (step_words network (BgpUp a b)) ≡ Ok (BgpUp a b)
unfolding step_line bgp_line
bgp_up network a b lawful edges =
    let both = and_parts _ _ edges in
    let each = and_parts _ _ both.0 in
    let before : a.0 < b.0 = ltb-true a.0 b.0 both.1 in
    ap (λ found. found >>= (λ pair. Ok (BgpUp (lesser pair.0 pair.1) (greater pair.0 pair.1))))
    (edges_again network a b lawful (edge_is_node network a lawful each.0) (edge_is_node network b lawful each.1) (apart network a b edges))
    ∙ ap (λ node. Ok (BgpUp node (greater a b))) (lesser_first a b before)
    ∙ ap (λ node. Ok (BgpUp a node)) (greater_second a b before)

bgp_down : (network : Network) (a b : NodeNo) → IsLawful network → are_edges_in_order network a b ≡ true →
    step_line network (step_words network (BgpDown a b)) ≡ Ok (BgpDown a b)
unfolding step_line bgp_line
bgp_down network a b lawful edges =
    let both = and_parts _ _ edges in
    let each = and_parts _ _ both.0 in
    let before : a.0 < b.0 = ltb-true a.0 b.0 both.1 in
    ap (λ found. found >>= (λ pair. Ok (BgpDown (lesser pair.0 pair.1) (greater pair.0 pair.1))))
    (edges_again network a b lawful (edge_is_node network a lawful each.0) (edge_is_node network b lawful each.1) (apart network a b edges))
    ∙ ap (λ node. Ok (BgpDown node (greater a b))) (lesser_first a b before)
    ∙ ap (λ node. Ok (BgpDown a node)) (greater_second a b before)

add_route : (network : Network) (site : SiteNo) (prefix : AddressBlock) → IsLawful network → site.0 < length network.sites →
    IsPrefix prefix.address prefix.length → step_line network (step_words network (AddRoute site prefix)) ≡ Ok (AddRoute site prefix)
unfolding step_line route_line
add_route network site prefix lawful there form =
    ap (λ found. found >>= (λ block. site_in network (site_text network site) >>= (λ where_. Ok (AddRoute where_ block)))) (prefix_in_again prefix form)
    ∙ ap (λ found. found >>= (λ where_. Ok (AddRoute where_ prefix))) (site_again network site lawful there)

del_route : (network : Network) (site : SiteNo) (prefix : AddressBlock) → IsLawful network → site.0 < length network.sites →
    IsPrefix prefix.address prefix.length → step_line network (step_words network (DelRoute site prefix)) ≡ Ok (DelRoute site prefix)
unfolding step_line route_line
del_route network site prefix lawful there form =
    ap (λ found. found >>= (λ block. site_in network (site_text network site) >>= (λ where_. Ok (DelRoute where_ block)))) (prefix_in_again prefix form)
    ∙ ap (λ found. found >>= (λ where_. Ok (DelRoute where_ prefix))) (site_again network site lawful there)

-- the words of a target are read as its operands
target_again : (network : Network) (first : List ℕ) (vrf : VrfNo) (target : Rt) (on : Bool)
    → IsLawful network → vrf.0 < length network.vrfs → has_rt_form target.0 ≡ true
    → target_operands network (first ∷ (if on then codes "add" else codes "del") ∷ vrf_text network vrf ∷ rt_text target ∷ []) ≡ Ok (vrf, target, on)
unfolding target_operands
target_again network first vrf target true lawful there form =
    ap (λ found. found >>= (λ value. vrf_in network (vrf_text network vrf) >>= (λ it. Ok (it, value, true)))) (target_in_again target form)
    ∙ ap (λ found. found >>= (λ it. Ok (it, target, true))) (vrf_again network vrf lawful there)
target_again network first vrf target false lawful there form =
    ap (λ found. found >>= (λ value. vrf_in network (vrf_text network vrf) >>= (λ it. Ok (it, value, false)))) (target_in_again target form)
    ∙ ap (λ found. found >>= (λ it. Ok (it, target, false))) (vrf_again network vrf lawful there)

imports : (network : Network) (vrf : VrfNo) (target : Rt) (on : Bool) → IsLawful network → vrf.0 < length network.vrfs → has_rt_form target.0 ≡ true →
    step_line network (step_words network (Import vrf on target)) ≡ Ok (Import vrf on target)
unfolding step_line import_line
imports network vrf target on lawful there form =
    ap (λ found. found >>= (λ it. Ok (Import it.0 it.2 it.1))) (target_again network (codes "import") vrf target on lawful there form)

exports : (network : Network) (vrf : VrfNo) (target : Rt) (on : Bool) → IsLawful network → vrf.0 < length network.vrfs → has_rt_form target.0 ≡ true →
    step_line network (step_words network (Export vrf on target)) ≡ Ok (Export vrf on target)
unfolding step_line export_line
exports network vrf target on lawful there form =
    ap (λ found. found >>= (λ it. Ok (Export it.0 it.2 it.1))) (target_again network (codes "export") vrf target on lawful there form)

attach : (network : Network) (site : SiteNo) → IsLawful network → site.0 < length network.sites →
    step_line network (step_words network (Attach site)) ≡ Ok (Attach site)
unfolding step_line site_line
attach network site lawful there = ap (λ found. found >>= (λ it. Ok (Attach it))) (site_again network site lawful there)

detach : (network : Network) (site : SiteNo) → IsLawful network → site.0 < length network.sites →
    step_line network (step_words network (Detach site)) ≡ Ok (Detach site)
unfolding step_line site_line
detach network site lawful there = ap (λ found. found >>= (λ it. Ok (Detach it))) (site_again network site lawful there)

inject : (network : Network) (site : SiteNo) (number : ℕ) → IsLawful network → site.0 < length network.sites → 1 ≤ number → number < 2 ^ 32 →
    step_line network (step_words network (Inject site number)) ≡ Ok (Inject site number)
unfolding step_line inject_line
inject network site number lawful there low high =
    ap (λ found. found >>= (λ k. site_in network (site_text network site) >>= (λ it. Ok (Inject it k))))
    (number_in_again number 1 4294967295 (omega arith) low (omega arith))
    ∙ ap (λ found. found >>= (λ it. Ok (Inject it number))) (site_again network site lawful there)

-- the words of a frame are read as its operands
frame_again : (network : Network) (first : List ℕ) (link : LinkNo) (direction : Dir) (place : ℕ)
    → IsLawful network → link.0 < length network.links → place < 2 ^ 32
    → frame_operands network (first ∷ from_text network link direction ∷ to_text network link direction ∷ number_text place ∷ []) ≡ Ok (link, direction, place)
unfolding frame_operands
frame_again network first link direction place lawful below high =
    ap (λ found. found >>= (λ k. link_in network (from_text network link direction) (to_text network link direction) >>= (λ it. Ok (it.0, it.1, k))))
    (number_in_again place 0 4294967295 (omega arith) (omega arith) (omega arith))
    ∙ ap (λ found. found >>= (λ it. Ok (it.0, it.1, place))) (ends_again network link direction lawful below)

carry : (network : Network) (link : LinkNo) (direction : Dir) (place : ℕ) → IsLawful network → link.0 < length network.links → place < 2 ^ 32 →
    step_line network (step_words network (Carry link direction place)) ≡ Ok (Carry link direction place)
unfolding step_line carry_line
carry network link direction place lawful below high =
    ap (λ found. found >>= (λ it. Ok (Carry it.0 it.1 it.2))) (frame_again network (codes "carry") link direction place lawful below high)

lose : (network : Network) (link : LinkNo) (direction : Dir) (place : ℕ) → IsLawful network → link.0 < length network.links → place < 2 ^ 32 →
    step_line network (step_words network (Lose link direction place)) ≡ Ok (Lose link direction place)
unfolding step_line lose_line
lose network link direction place lawful below high =
    ap (λ found. found >>= (λ it. Ok (Lose it.0 it.1 it.2))) (frame_again network (codes "lose") link direction place lawful below high)

tick : (network : Network) (ticks : ℕ) → 1 ≤ ticks → ticks ≤ 1000000 → step_line network (step_words network (Tick ticks)) ≡ Ok (Tick ticks)
unfolding step_line tick_line
tick network ticks low high = ap (λ found. found >>= (λ n. Ok (Tick n))) (number_in_again ticks 1 1000000 (omega arith) low high)

pub step_again : (network : Network) (step : Step) → IsLawful network → fits network step ≡ true → IsStep step →
    step_line network (step_words network step) ≡ Ok step
step_again network (LinkUp link) lawful fit is = link_up network link lawful (ltb-true _ _ fit)
step_again network (LinkDown link) lawful fit is = link_down network link lawful (ltb-true _ _ fit)
step_again network (Learn node link) lawful fit is = let both = and_parts _ _ fit in learn network node link lawful (ltb-true _ _ both.0) (ltb-true _ _ both.1)
step_again network (LdpAdmin link on) lawful fit is = ldp network link on lawful (ltb-true _ _ fit)
step_again network (HearLdp link direction) lawful fit is = hear_ldp network link direction lawful (ltb-true _ _ fit)
step_again network (BgpUp a b) lawful fit is = bgp_up network a b lawful fit
step_again network (BgpDown a b) lawful fit is = bgp_down network a b lawful fit
step_again network (HearBgp a b) lawful fit is = hear_bgp network a b lawful fit
step_again network (AddRoute site prefix) lawful fit is = let both = and_parts _ _ fit in add_route network site prefix lawful (ltb-true _ _ both.0) is
step_again network (DelRoute site prefix) lawful fit is = let both = and_parts _ _ fit in del_route network site prefix lawful (ltb-true _ _ both.0) is
step_again network (Import vrf on target) lawful fit is = let both = and_parts _ _ fit in imports network vrf target on lawful (ltb-true _ _ both.0) both.1
step_again network (Export vrf on target) lawful fit is = let both = and_parts _ _ fit in exports network vrf target on lawful (ltb-true _ _ both.0) both.1
step_again network (Attach site) lawful fit is = attach network site lawful (ltb-true _ _ fit)
step_again network (Detach site) lawful fit is = detach network site lawful (ltb-true _ _ fit)
step_again network (Inject site number) lawful fit is = let both = and_parts _ _ fit in
    inject network site number lawful (ltb-true _ _ both.0) (leb-true _ _ both.1) is
step_again network (Carry link direction place) lawful fit is = carry network link direction place lawful (ltb-true _ _ fit) is
step_again network (Lose link direction place) lawful fit is = lose network link direction place lawful (ltb-true _ _ fit) is
step_again network (Tick ticks) lawful fit is = let both = and_parts _ _ fit in tick network ticks (leb-true _ _ both.0) (leb-true _ _ both.1)

-- words that are those of no other line
record StepWords (ws : List (List ℕ)) : Type 0 where
  some : (length ws == 0) ≡ false
  run : is_word ws 0 (codes "run") ≡ false
  drain : is_word ws 0 (codes "drain") ≡ false
  flush : is_word ws 0 (codes "flush") ≡ false
  show : is_word ws 0 (codes "show") ≡ false
  damage : is_word ws 0 (codes "damage") ≡ false

step_words_are : (network : Network) (step : Step) → StepWords (step_words network step)
step_words_are network (LinkUp link) = record { some = refl; run = refl; drain = refl; flush = refl; show = refl; damage = refl }
step_words_are network (LinkDown link) = record { some = refl; run = refl; drain = refl; flush = refl; show = refl; damage = refl }
step_words_are network (Learn node link) = record { some = refl; run = refl; drain = refl; flush = refl; show = refl; damage = refl }
step_words_are network (LdpAdmin link on) = record { some = refl; run = refl; drain = refl; flush = refl; show = refl; damage = refl }
step_words_are network (HearLdp link direction) = record { some = refl; run = refl; drain = refl; flush = refl; show = refl; damage = refl }
step_words_are network (BgpUp a b) = record { some = refl; run = refl; drain = refl; flush = refl; show = refl; damage = refl }
step_words_are network (BgpDown a b) = record { some = refl; run = refl; drain = refl; flush = refl; show = refl; damage = refl }
step_words_are network (HearBgp a b) = record { some = refl; run = refl; drain = refl; flush = refl; show = refl; damage = refl }
step_words_are network (AddRoute site prefix) = record { some = refl; run = refl; drain = refl; flush = refl; show = refl; damage = refl }
step_words_are network (DelRoute site prefix) = record { some = refl; run = refl; drain = refl; flush = refl; show = refl; damage = refl }
step_words_are network (Import vrf on target) = record { some = refl; run = refl; drain = refl; flush = refl; show = refl; damage = refl }
step_words_are network (Export vrf on target) = record { some = refl; run = refl; drain = refl; flush = refl; show = refl; damage = refl }
step_words_are network (Attach site) = record { some = refl; run = refl; drain = refl; flush = refl; show = refl; damage = refl }
step_words_are network (Detach site) = record { some = refl; run = refl; drain = refl; flush = refl; show = refl; damage = refl }
step_words_are network (Inject site number) = record { some = refl; run = refl; drain = refl; flush = refl; show = refl; damage = refl }
step_words_are network (Carry link direction place) = record { some = refl; run = refl; drain = refl; flush = refl; show = refl; damage = refl }
step_words_are network (Lose link direction place) = record { some = refl; run = refl; drain = refl; flush = refl; show = refl; damage = refl }
step_words_are network (Tick ticks) = record { some = refl; run = refl; drain = refl; flush = refl; show = refl; damage = refl }

step_said : (network : Network) (ws : List (List ℕ)) (step : Step) → StepWords ws → step_line network ws ≡ Ok step →
    line_says network ws ≡ Ok (Some (command.Do step))
unfolding line_says command_line do_line
step_said network ws step words h = rw (words.some, words.run, words.drain, words.flush, words.show, words.damage, h) refl

-- the words of a damage are read as the damage
damage_ldp : (network : Network) (link : LinkNo) (direction : Dir) (number : ℕ)
    → IsLawful network → link.0 < length network.links → 1 ≤ number → number < 2 ^ 32
    → damage_line network (damage_words network (Ldp link direction number)) ≡ Ok (Ldp link direction number)
unfolding damage_line damage_ldp_line
damage_ldp network link direction number lawful below low high =
    ap (λ found. found >>= (λ k. link_in network (from_text network link direction) (to_text network link direction) >>= (λ it. Ok (Ldp it.0 it.1 k))))
    (number_in_again number 1 4294967295 (omega arith) low (omega arith))
    ∙ ap (λ found. found >>= (λ it. Ok (Ldp it.0 it.1 number))) (ends_again network link direction lawful below)

damage_bgp : (network : Network) (a b : NodeNo) (number : ℕ) → IsLawful network → are_edges network a b ≡ true → 1 ≤ number → number < 2 ^ 32
    → damage_line network (damage_words network (Bgp a b number)) ≡ Ok (Bgp a b number)
unfolding damage_line damage_bgp_line
damage_bgp network a b number lawful edges low high =
    let both = and_parts _ _ (and_parts _ _ edges).0 in
    ap (λ found. found >>= (λ k. edges_in network (node_text network a) (node_text network b) >>= (λ it. Ok (Bgp it.0 it.1 k))))
    (number_in_again number 1 4294967295 (omega arith) low (omega arith))
    ∙ ap (λ found. found >>= (λ it. Ok (Bgp it.0 it.1 number)))
    (edges_again network a b lawful (edge_is_node network a lawful both.0) (edge_is_node network b lawful both.1) edges)

damage_again : (network : Network) (damage : Damage) → IsLawful network → damage_fits network damage ≡ true → IsDamage damage →
    damage_line network (damage_words network damage) ≡ Ok damage
damage_again network (Ldp link direction number) lawful fit is = let both = and_parts _ _ fit in
    damage_ldp network link direction number lawful (ltb-true _ _ both.0) (leb-true _ _ both.1) is
damage_again network (Bgp a b number) lawful fit is = let both = and_parts _ _ fit in damage_bgp network a b number lawful both.0 (leb-true _ _ both.1) is

damage_said : (network : Network) (damage : Damage) → damage_line network (damage_words network damage) ≡ Ok damage →
    line_says network (damage_words network damage) ≡ Ok (Some (command.Damage damage))
unfolding line_says command_line damaged_line
damage_said network (Ldp link direction number) h = ap (λ found. (found >>= (λ it. Ok (command.Damage it))) >>= (λ it. Ok (Some it))) h
damage_said network (Bgp a b number) h = ap (λ found. (found >>= (λ it. Ok (command.Damage it))) >>= (λ it. Ok (Some it))) h

show_again : (network : Network) (what : Show) → IsLawful network → show_fits network what ≡ true → IsShow what →
    line_says network (show_words network what) ≡ Ok (Some (command.Show what))
unfolding line_says command_line table_line show_line plain_show show_tree show_vrf show_frame
show_again network table.Links lawful fit is = refl
show_again network (table.Tree node) lawful fit is =
    ap (λ found. ((found >>= (λ it. Ok (table.Tree it))) >>= (λ what. Ok (command.Show what))) >>= (λ it. Ok (Some it)))
    (node_again network node lawful (ltb-true _ _ fit))
show_again network table.Ldp lawful fit is = refl
show_again network table.Bgp lawful fit is = refl
show_again network (table.Vrf vrf) lawful fit is =
    ap (λ found. ((found >>= (λ it. Ok (table.Vrf it))) >>= (λ what. Ok (command.Show what))) >>= (λ it. Ok (Some it)))
    (vrf_again network vrf lawful (ltb-true _ _ fit))
show_again network table.Flight lawful fit is = refl
show_again network (table.Frame node number) lawful fit is =
    let both = and_parts _ _ fit in
    let low : 1 ≤ number = leb-true _ _ both.1 in
    ap (λ found. ((found >>= (λ k. node_in network (node_text network node) >>= (λ it. Ok (table.Frame it k)))) >>= (λ what. Ok (command.Show what)))
    >>= (λ it. Ok (Some it))) (number_in_again number 1 4294967295 (omega arith) low (omega arith))
    ∙ ap (λ found. ((found >>= (λ it. Ok (table.Frame it number))) >>= (λ what. Ok (command.Show what))) >>= (λ it. Ok (Some it)))
    (node_again network node lawful (ltb-true _ _ both.0))

-- the words of a command are read as the command
pub command_again : (network : Network) (asked : Command) → IsLawful network → command_fits network asked ≡ true → IsCommand asked →
    line_says network (command_words network asked) ≡ Ok (Some asked)
unfolding line_says command_line run_line bounded_drain drain_line flush_line
command_again network (command.Do step) lawful fit is =
    step_said network (step_words network step) step (step_words_are network step) (step_again network step lawful fit is)
command_again network (command.Damage damage) lawful fit is = damage_said network damage (damage_again network damage lawful fit is)
command_again network (command.Run ticks) lawful fit is =
    let most : ticks ≤ 1000000 = leb-true _ _ fit in
    ap (λ found. (found >>= (λ n. Ok (command.Run n))) >>= (λ it. Ok (Some it))) (number_in_again ticks 0 1000000 (omega arith) (omega arith) most)
command_again network (command.Drain None) lawful fit is = refl
command_again network (command.Drain (Some steps)) lawful fit is =
    let most : steps ≤ 4000000 = leb-true _ _ fit in
    ap (λ found. (found >>= (λ n. Ok (command.Drain (Some n)))) >>= (λ it. Ok (Some it))) (number_in_again steps 0 4000000 (omega arith) (omega arith) most)
command_again network command.Flush lawful fit is = refl
command_again network (command.Show what) lawful fit is = show_again network what lawful fit is
