-- The lines that are told. Words are joined by one space, numbers are plain decimals, and each line ends with LF.
use Rattle.std.specs.Prelude.{ℕ, Bool, true, false, List, [], ◌∷◌, ◌++◌, codes}
use Rattle.std.specs.List.{flat_map}
use Rattle.std.specs.Fmt.{decimal}
use Rattle.std.specs.Io.Iter.{u64_saturate}
use Rattle.mn_drops.specs.declared.drops.Rule.{Rule}
use Rattle.mn_text.specs.Addresses.{prefix_text}
use Rattle.mn_topo.specs.Network.{Network}
use Rattle.mn_lines.specs.Lines.{text, rule_name}
use Rattle.mn_output_laws.specs.Files.{node_name, site_name}
use Rattle.mn_output_laws.specs.Tables.{link_names, two_names}
use Rattle.mn_fate_laws.specs.Fate.{Fate, Arrives, Falls}
use Rattle.mn_candidates.specs.declared.pairs.Pair.{Pair}
use Rattle.mn_failures.specs.declared.command.Part.{Part}
use Rattle.mn_failures.specs.declared.command.Part.TheVariants.{LinkDown, LdpOff, BgpDown, NodeDown}
use Rattle.mn_failures.specs.declared.command.Resolve.{Resolve}
use Rattle.mn_failures.specs.declared.command.Resolve.TheVariants.{AsTopology, Never, ByLabel}
use Rattle.mn_reach_run.specs.declared.change.Change.{Change}
use Rattle.mn_reach_run.specs.declared.change.Change.TheVariants.{Lost, Moved}

-- 1. Pairs and verdicts

-- a count; one past 2^64 - 1 is told as this
abbrev pub count_text : ℕ → List ℕ
count_text n = decimal (u64_saturate n)

abbrev pub pair_text : Network → Pair → List ℕ
pair_text topology pair = text (site_name topology pair.site.0 ∷ codes " " ∷ []) ++ prefix_text pair.prefix ++ codes " "

-- the nodes of a path, each behind a space
abbrev pub path_text : Network → List ℕ → List ℕ
path_text topology path = flat_map (λ node. 32 ∷ node_name topology node) path

abbrev pub arrival_text : Network → ℕ → ℕ → List ℕ → List ℕ
arrival_text topology site ttl path =
    text (codes "delivered " ∷ site_name topology site ∷ codes " ttl " ∷ decimal ttl ∷ codes " path" ∷ []) ++ path_text topology path ++ codes "\n"

abbrev pub fall_text : Network → Rule → ℕ → List ℕ
fall_text topology rule node = text (rule_name rule ∷ codes " at " ∷ node_name topology node ∷ codes "\n" ∷ [])

abbrev pub verdict_text : Network → Fate → List ℕ
verdict_text topology (Arrives site ttl path) = arrival_text topology site ttl path
verdict_text topology (Falls rule node path) = codes "dropped " ++ fall_text topology rule node

-- the line of a pair with nothing failed
abbrev pub pair_line : Network → Pair → Fate → List ℕ
pair_line topology pair fate = codes "pair " ++ pair_text topology pair ++ verdict_text topology fate

-- 2. What a failure changes

-- a part in the words of the file, its ends as they were named
abbrev pub part_text : Network → Part → List ℕ
part_text topology (LinkDown link dir) = codes "link down " ++ link_names topology link.0 dir
part_text topology (LdpOff link dir) = codes "ldp off " ++ link_names topology link.0 dir
part_text topology (BgpDown one other) = codes "bgp down " ++ two_names topology one.0 other.0
part_text topology (NodeDown node) = codes "node down " ++ node_name topology node.0

-- behind the first one each part stands behind a comma
abbrev pub more_parts_text : Network → List Part → List ℕ
more_parts_text topology parts = flat_map (λ part. codes ", " ++ part_text topology part) parts

abbrev pub parts_text : Network → List Part → List ℕ
parts_text topology [] = []
parts_text topology (part ∷ parts) = part_text topology part ++ more_parts_text topology parts

-- failure N line L and its parts
abbrev pub failure_text : Network → ℕ → ℕ → List Part → List ℕ
failure_text topology number line parts =
    text (codes "failure " ∷ count_text number ∷ codes " line " ∷ decimal line ∷ codes " " ∷ []) ++ parts_text topology parts

-- how many pairs it changes, and the end of the line
abbrev pub changes_count_text : ℕ → ℕ → List ℕ
changes_count_text lost moved = text (codes " lost " ∷ decimal lost ∷ codes " part 0 moved " ∷ decimal moved ∷ codes "\n" ∷ [])

-- the line of a pair that it changes
abbrev pub change_line : Network → ℕ → Pair → Change → Fate → List ℕ
change_line topology number pair Lost (Falls rule node path) =
    text (codes "lost " ∷ count_text number ∷ codes " " ∷ []) ++ pair_text topology pair ++ fall_text topology rule node
change_line topology number pair Moved (Arrives site ttl path) =
    text (codes "moved " ∷ count_text number ∷ codes " " ∷ []) ++ pair_text topology pair ++ arrival_text topology site ttl path
change_line topology number pair _ _ = []

-- 3. The first line and the last

abbrev pub resolve_word : Resolve → List ℕ
resolve_word AsTopology = codes "topology"
resolve_word Never = codes "no"
resolve_word ByLabel = codes "label"

abbrev pub sessions_word : Bool → List ℕ
sessions_word true = codes "end"
sessions_word false = codes "stay"

-- the choices that this tells by, of which those of resolve and sessions alone can be changed
abbrev pub profile_line : Resolve → Bool → List ℕ
profile_line resolve ends =
    text (codes "profile equal least edges one order least interior no resolve " ∷ resolve_word resolve
    ∷ codes " sync no control ordered bare avoid labels site sessions " ∷ sessions_word ends ∷ codes "\n" ∷ [])

abbrev pub total_line : ℕ → ℕ → ℕ → ℕ → ℕ → List ℕ
total_line pairs failures verdicts lost moved =
    text (codes "total pairs " ∷ decimal pairs ∷ codes " failures " ∷ count_text failures ∷ codes " verdicts " ∷ count_text verdicts
    ∷ codes " lost " ∷ count_text lost ∷ codes " part 0 moved " ∷ count_text moved ∷ codes "\n" ∷ [])
