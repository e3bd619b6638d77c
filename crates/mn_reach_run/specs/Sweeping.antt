-- The failures of each one of a kind.
use Rattle.std.specs.Prelude.{ℕ, List, [], ◌∷◌, length}
use Rattle.mn_wiring.specs.declared.links.Dir.TheVariants.{Forth}
use Rattle.mn_topo.specs.Network.{Network}
use Rattle.mn_failures.specs.declared.command.Part.{Part}
use Rattle.mn_failures.specs.declared.command.Part.TheVariants.{LinkDown, LdpOff, NodeDown}
use Rattle.mn_reach_run.specs.declared.sweep.Kind.{Kind}
use Rattle.mn_reach_run.specs.declared.sweep.Kind.TheVariants as kind

abbrev pub part_of : Kind → ℕ → Part
part_of kind.Link number = LinkDown (record { 0 = number }) Forth
part_of kind.Ldp number = LdpOff (record { 0 = number }) Forth
part_of kind.Node number = NodeDown (record { 0 = number })

-- it fails alone
abbrev pub alone : Kind → ℕ → List (List Part)
alone of number = (part_of of number ∷ []) ∷ []

abbrev pub count_of : Network → Kind → ℕ
count_of topology kind.Link = length topology.links
count_of topology kind.Ldp = length topology.links
count_of topology kind.Node = length topology.loopbacks
