-- The words that ask for a command.
use Rattle.std.specs.Prelude.{◌≡◌, ◌<◌, ◌^◌, ◌⊎◌, ℕ, if◌then◌else◌, List, [], ◌∷◌, slice_index_or, Some, None, codes, ⊤}
use Rattle.mn_wiring.specs.Wiring.{sender, receiver}
use Rattle.mn_wiring.specs.declared.links.Dir.{Dir}
use Rattle.mn_wiring.specs.declared.links.Dir.TheVariants.{Forth, Back}
use Rattle.mn_base.specs.declared.numbers.NodeNo.{NodeNo}
use Rattle.mn_base.specs.declared.numbers.LinkNo.{LinkNo}
use Rattle.mn_base.specs.declared.numbers.VrfNo.{VrfNo}
use Rattle.mn_base.specs.declared.numbers.SiteNo.{SiteNo}
use Rattle.mn_prefix.specs.Prefix.{IsPrefix}
use Rattle.mn_text.specs.Numbers.{number_text}
use Rattle.mn_text.specs.Addresses.{prefix_text}
use Rattle.mn_text.specs.Pairs.{rt_text}
use Rattle.mn_topo.specs.declared.steps.Step.{Step}
use Rattle.mn_topo.specs.declared.steps.Step.TheVariants.{LinkUp, LinkDown, Learn, LdpAdmin, HearLdp, BgpUp, BgpDown, HearBgp, AddRoute, DelRoute, Import}
use Rattle.mn_topo.specs.declared.steps.Step.TheVariants.{Export, Attach, Detach, Inject, Carry, Lose, Tick}
use Rattle.mn_topo.specs.declared.steps.Damage.{Damage}
use Rattle.mn_topo.specs.declared.steps.Damage.TheVariants.{Ldp, Bgp}
use Rattle.mn_topo.specs.Network.{Network, wiring_of}
use Rattle.mn_entry.specs.Damages.{number_of}
use Rattle.mn_script.specs.declared.command.Command.{Command}
use Rattle.mn_script.specs.declared.command.Command.TheVariants as command
use Rattle.mn_script.specs.declared.command.Show.{Show}
use Rattle.mn_script.specs.declared.command.Show.TheVariants as table

-- the name of a node, of a VRF, of a site
abbrev pub node_text : Network → NodeNo → List ℕ
node_text network node = slice_index_or network.node_names node.0 []

abbrev pub vrf_text : Network → VrfNo → List ℕ
vrf_text network vrf = slice_index_or network.vrf_names vrf.0 []

abbrev pub site_text : Network → SiteNo → List ℕ
site_text network site = slice_index_or network.site_names site.0 []

-- the name of the node that sends in a direction of a link, and of the one that receives
abbrev pub from_text : Network → LinkNo → Dir → List ℕ
from_text network link direction = slice_index_or network.node_names (sender (wiring_of network) link.0 direction) []

abbrev pub to_text : Network → LinkNo → Dir → List ℕ
to_text network link direction = slice_index_or network.node_names (receiver (wiring_of network) link.0 direction) []

-- the words that ask for a step; a link that has no direction there goes by its ends as in the topology
abbrev pub step_words : Network → Step → List (List ℕ)
step_words network (LinkUp link) = codes "link" ∷ codes "up" ∷ from_text network link Forth ∷ to_text network link Forth ∷ []
step_words network (LinkDown link) = codes "link" ∷ codes "down" ∷ from_text network link Forth ∷ to_text network link Forth ∷ []
step_words network (Learn node link) = codes "learn" ∷ node_text network node ∷ from_text network link Forth ∷ to_text network link Forth ∷ []
step_words network (LdpAdmin link on) = codes "ldp" ∷ (if on then codes "on" else codes "off") ∷ from_text network link Forth ∷ to_text network link Forth ∷ []
step_words network (HearLdp link direction) = codes "hear" ∷ codes "ldp" ∷ from_text network link direction ∷ to_text network link direction ∷ []
step_words network (BgpUp a b) = codes "bgp" ∷ codes "up" ∷ node_text network a ∷ node_text network b ∷ []
step_words network (BgpDown a b) = codes "bgp" ∷ codes "down" ∷ node_text network a ∷ node_text network b ∷ []
step_words network (HearBgp a b) = codes "hear" ∷ codes "bgp" ∷ node_text network a ∷ node_text network b ∷ []
step_words network (AddRoute site prefix) = codes "route" ∷ codes "add" ∷ site_text network site ∷ prefix_text prefix ∷ []
step_words network (DelRoute site prefix) = codes "route" ∷ codes "del" ∷ site_text network site ∷ prefix_text prefix ∷ []
step_words network (Import vrf on target) = codes "import" ∷ (if on then codes "add" else codes "del") ∷ vrf_text network vrf ∷ rt_text target ∷ []
step_words network (Export vrf on target) = codes "export" ∷ (if on then codes "add" else codes "del") ∷ vrf_text network vrf ∷ rt_text target ∷ []
step_words network (Attach site) = codes "site" ∷ codes "up" ∷ site_text network site ∷ []
step_words network (Detach site) = codes "site" ∷ codes "down" ∷ site_text network site ∷ []
step_words network (Inject site number) = codes "inject" ∷ site_text network site ∷ number_text number ∷ []
step_words network (Carry link direction place) = codes "carry" ∷ from_text network link direction ∷ to_text network link direction ∷ number_text place ∷ []
step_words network (Lose link direction place) = codes "lose" ∷ from_text network link direction ∷ to_text network link direction ∷ number_text place ∷ []
step_words network (Tick ticks) = codes "tick" ∷ number_text ticks ∷ []

-- the same words, with the two nodes in the other order where a line may name them in either
abbrev pub turned_words : Network → Step → List (List ℕ)
turned_words network (LinkUp link) = codes "link" ∷ codes "up" ∷ from_text network link Back ∷ to_text network link Back ∷ []
turned_words network (LinkDown link) = codes "link" ∷ codes "down" ∷ from_text network link Back ∷ to_text network link Back ∷ []
turned_words network (Learn node link) = codes "learn" ∷ node_text network node ∷ from_text network link Back ∷ to_text network link Back ∷ []
turned_words network (LdpAdmin link on) = codes "ldp" ∷ (if on then codes "on" else codes "off") ∷ from_text network link Back ∷ to_text network link Back ∷ []
turned_words network (BgpUp a b) = codes "bgp" ∷ codes "up" ∷ node_text network b ∷ node_text network a ∷ []
turned_words network (BgpDown a b) = codes "bgp" ∷ codes "down" ∷ node_text network b ∷ node_text network a ∷ []
turned_words network step = step_words network step

-- the words ask for the step
abbrev pub AskForStep : Network → List (List ℕ) → Step → Type 0
AskForStep network ws step = (ws ≡ step_words network step) ⊎ (ws ≡ turned_words network step)

-- the words that ask for a damage
abbrev pub damage_words : Network → Damage → List (List ℕ)
damage_words network (Ldp link direction number) =
    codes "damage" ∷ codes "ldp" ∷ from_text network link direction ∷ to_text network link direction ∷ number_text number ∷ []
damage_words network (Bgp a b number) = codes "damage" ∷ codes "bgp" ∷ node_text network a ∷ node_text network b ∷ number_text number ∷ []

-- the words that ask for a table
abbrev pub show_words : Network → Show → List (List ℕ)
show_words network table.Links = codes "show" ∷ codes "links" ∷ []
show_words network (table.Tree node) = codes "show" ∷ codes "tree" ∷ node_text network node ∷ []
show_words network table.Ldp = codes "show" ∷ codes "ldp" ∷ []
show_words network table.Bgp = codes "show" ∷ codes "bgp" ∷ []
show_words network (table.Vrf vrf) = codes "show" ∷ codes "vrf" ∷ vrf_text network vrf ∷ []
show_words network table.Flight = codes "show" ∷ codes "flight" ∷ []
show_words network (table.Frame node number) = codes "show" ∷ codes "frame" ∷ node_text network node ∷ number_text number ∷ []

-- the words that ask for a command
abbrev pub command_words : Network → Command → List (List ℕ)
command_words network (command.Do step) = step_words network step
command_words network (command.Damage damage) = damage_words network damage
command_words network (command.Run ticks) = codes "run" ∷ number_text ticks ∷ []
command_words network (command.Drain None) = codes "drain" ∷ []
command_words network (command.Drain (Some steps)) = codes "drain" ∷ number_text steps ∷ []
command_words network command.Flush = codes "flush" ∷ []
command_words network (command.Show what) = show_words network what

-- the words ask for the command
abbrev pub AskFor : Network → List (List ℕ) → Command → Type 0
AskFor network ws (command.Do step) = AskForStep network ws step
AskFor network ws (command.Damage damage) = ws ≡ damage_words network damage
AskFor network ws (command.Run ticks) = ws ≡ command_words network (command.Run ticks)
AskFor network ws (command.Drain bound) = ws ≡ command_words network (command.Drain bound)
AskFor network ws command.Flush = ws ≡ command_words network command.Flush
AskFor network ws (command.Show what) = ws ≡ command_words network (command.Show what)

-- records and places are numbers of 32 bits, and prefixes are of their form
abbrev pub IsStep : Step → Type 0
IsStep (AddRoute site prefix) = IsPrefix prefix.address prefix.length
IsStep (DelRoute site prefix) = IsPrefix prefix.address prefix.length
IsStep (Inject site number) = number < 2 ^ 32
IsStep (Carry link direction place) = place < 2 ^ 32
IsStep (Lose link direction place) = place < 2 ^ 32
IsStep _ = ⊤

abbrev pub IsDamage : Damage → Type 0
IsDamage damage = number_of damage < 2 ^ 32

abbrev pub IsShow : Show → Type 0
IsShow (table.Frame node number) = number < 2 ^ 32
IsShow _ = ⊤

abbrev pub IsCommand : Command → Type 0
IsCommand (command.Do step) = IsStep step
IsCommand (command.Damage damage) = IsDamage damage
IsCommand (command.Show what) = IsShow what
IsCommand _ = ⊤
