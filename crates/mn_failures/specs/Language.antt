-- The lines of a file of failures.
use Rattle.std.specs.Prelude.{ℕ, ◌==◌, ◌&&◌, ◌||◌, if◌then◌else◌, nat_lt, Bool, false, List, [], ◌∷◌, length}
use Rattle.std.specs.Prelude.{Option, Some, None, Result, Ok, Err, codes}
use Rattle.std.specs.List.{list_any}
use Rattle.mn_topo.specs.Network.{Network}
use Rattle.mn_script.specs.declared.refusal.ScriptRule.{ScriptRule}
use Rattle.mn_script.specs.declared.refusal.ScriptRule.TheVariants.{UnknownWord, WrongCount}
use Rattle.mn_script.specs.Rules.{◌>>=◌}
use Rattle.mn_script.specs.Words.{word_at, is_word, choice, counted}
use Rattle.mn_script.specs.Operands.{number_in, node_in, link_in, edges_in}
use Rattle.mn_script.specs.Reading.{Says}
use Rattle.mn_failures.specs.declared.command.Part.{Part}
use Rattle.mn_failures.specs.declared.command.Part.TheVariants.{LinkDown, LdpOff, BgpDown, NodeDown}
use Rattle.mn_failures.specs.declared.command.Each.{Each}
use Rattle.mn_failures.specs.declared.command.Each.TheVariants as each
use Rattle.mn_failures.specs.declared.command.Resolve.{Resolve}
use Rattle.mn_failures.specs.declared.command.Resolve.TheVariants.{AsTopology, Never, ByLabel}
use Rattle.mn_failures.specs.declared.command.FailureCommand.{FailureCommand}
use Rattle.mn_failures.specs.declared.command.FailureCommand.TheVariants as command
use Rattle.mn_failures.specs.declared.command.FailureLine.{FailureLine}
use Rattle.mn_failures.specs.Cutting.{parts_of}

-- the word at a place, from 0, is this one: it may be absent, and it may be another
abbrev pub has_word : List (List ℕ) → ℕ → List ℕ → Result (Unit {0}) ScriptRule
has_word ws place text =
    if nat_lt place (length ws) then (if is_word ws place text then Ok tt else Err UnknownWord) else Err WrongCount

-- link down A B
unfoldable pub link_part : Network → List (List ℕ) → Result Part ScriptRule
link_part network ws = do
  down ← has_word ws 1 (codes "down")
  full ← counted ws 4
  link ← link_in network (word_at ws 2) (word_at ws 3)
  Ok (LinkDown link.0 link.1)

-- ldp off A B
unfoldable pub ldp_part : Network → List (List ℕ) → Result Part ScriptRule
ldp_part network ws = do
  off ← has_word ws 1 (codes "off")
  full ← counted ws 4
  link ← link_in network (word_at ws 2) (word_at ws 3)
  Ok (LdpOff link.0 link.1)

-- bgp down A B
unfoldable pub bgp_part : Network → List (List ℕ) → Result Part ScriptRule
bgp_part network ws = do
  down ← has_word ws 1 (codes "down")
  full ← counted ws 4
  edges ← edges_in network (word_at ws 2) (word_at ws 3)
  Ok (BgpDown edges.0 edges.1)

-- node down N
unfoldable pub node_part : Network → List (List ℕ) → Result Part ScriptRule
node_part network ws = do
  down ← has_word ws 1 (codes "down")
  full ← counted ws 3
  node ← node_in network (word_at ws 2)
  Ok (NodeDown node)

-- a part of a failure, by its first word
unfoldable pub part_says : Network → List (List ℕ) → Result Part ScriptRule
part_says network ws =
    if length ws == 0 then Err WrongCount
    else if is_word ws 0 (codes "link") then link_part network ws
    else if is_word ws 0 (codes "ldp") then ldp_part network ws
    else if is_word ws 0 (codes "bgp") then bgp_part network ws
    else if is_word ws 0 (codes "node") then node_part network ws
    else Err UnknownWord

-- the parts of a failure, from left to right
abbrev pub parts_say : Network → List (List (List ℕ)) → Result (List Part) ScriptRule
parts_say network [] = Ok []
parts_say network (ws ∷ more) = part_says network ws >>= (λ part. parts_say network more >>= (λ others. Ok (part ∷ others)))

-- two parts name the same link, session or node as the same kind
abbrev pub same_part : Part → Part → Bool
same_part (LinkDown link from) (LinkDown again end) = link.0 == again.0
same_part (LdpOff link from) (LdpOff again end) = link.0 == again.0
same_part (BgpDown a b) (BgpDown c d) = (a.0 == c.0 && b.0 == d.0) || (a.0 == d.0 && b.0 == c.0)
same_part (NodeDown node) (NodeDown again) = node.0 == again.0
same_part _ _ = false

-- a part stands twice
abbrev pub is_twice : List Part → Bool
is_twice [] = false
is_twice (part ∷ others) = list_any (same_part part) others || is_twice others

-- they are more than 1,024, or one stands twice
abbrev pub are_refused : List Part → Bool
are_refused parts = nat_lt 1024 (length parts) || is_twice parts

-- a failure: at most 1,024 parts, each once
unfoldable pub fail_says : Network → List (List (List ℕ)) → Result FailureCommand ScriptRule
fail_says network parts = do
  found ← parts_say network parts
  if are_refused found then Err WrongCount else Ok (command.Fail found)

-- each link, each ldp, each node, each bgp
unfoldable pub one_of : List (List ℕ) → Each → Result Each ScriptRule
one_of ws found = do
  full ← counted ws 2
  Ok found

-- each N links: 2 or 3
unfoldable pub all_links : List (List ℕ) → Result Each ScriptRule
all_links ws = do
  many ← number_in (word_at ws 1) 2 3
  Ok (each.Links many 0 1023)

-- each N links from A to B: those whose first link's number is among these
unfoldable pub links_between : List (List ℕ) → Result Each ScriptRule
links_between ws = do
  from ← has_word ws 3 (codes "from")
  to ← has_word ws 5 (codes "to")
  full ← counted ws 7
  many ← number_in (word_at ws 1) 2 3
  first ← number_in (word_at ws 4) 0 1023
  last ← number_in (word_at ws 6) 0 1023
  Ok (each.Links many first last)

unfoldable pub links_line : List (List ℕ) → Result Each ScriptRule
links_line ws = if length ws == 3 then all_links ws else links_between ws

-- the second word names what fails, or the third one does behind a number
unfoldable pub each_line : List (List ℕ) → Result Each ScriptRule
each_line ws =
    if length ws == 1 then Err WrongCount
    else if is_word ws 1 (codes "link") then one_of ws each.Link
    else if is_word ws 1 (codes "ldp") then one_of ws each.Ldp
    else if is_word ws 1 (codes "node") then one_of ws each.Node
    else if is_word ws 1 (codes "bgp") then one_of ws each.Bgp
    else if is_word ws 2 (codes "links") then links_line ws
    else Err UnknownWord

-- sessions end, sessions stay
unfoldable pub sessions_line : List (List ℕ) → Result FailureCommand ScriptRule
sessions_line ws = do
  end ← choice ws (codes "end") (codes "stay")
  full ← counted ws 2
  Ok (command.Sessions end)

-- how next hops are resolved, by the second word
unfoldable pub resolve_as : List (List ℕ) → Result Resolve ScriptRule
resolve_as ws =
    if length ws == 1 then Err WrongCount
    else if is_word ws 1 (codes "topology") then Ok AsTopology
    else if is_word ws 1 (codes "no") then Ok Never
    else if is_word ws 1 (codes "label") then Ok ByLabel
    else Err UnknownWord

-- resolve topology, resolve no, resolve label
unfoldable pub resolve_line : List (List ℕ) → Result FailureCommand ScriptRule
resolve_line ws = do
  found ← resolve_as ws
  full ← counted ws 2
  Ok (command.Resolve found)

-- losses
unfoldable pub losses_line : List (List ℕ) → Result FailureCommand ScriptRule
losses_line ws = do
  full ← counted ws 1
  Ok command.Losses

-- counts
unfoldable pub counts_line : List (List ℕ) → Result FailureCommand ScriptRule
counts_line ws = do
  full ← counted ws 1
  Ok command.Counts

-- ttl N
unfoldable pub ttl_line : List (List ℕ) → Result FailureCommand ScriptRule
ttl_line ws = do
  full ← counted ws 2
  ttl ← number_in (word_at ws 1) 2 255
  Ok (command.Ttl ttl)

-- the first word is that of a line that is no failure of its own
abbrev pub is_lone : List (List ℕ) → Bool
is_lone ws =
    is_word ws 0 (codes "each") || (is_word ws 0 (codes "sessions") || (is_word ws 0 (codes "resolve")
    || (is_word ws 0 (codes "losses") || (is_word ws 0 (codes "counts") || is_word ws 0 (codes "ttl")))))

-- such a line, by its first word
unfoldable pub lone_line : List (List ℕ) → Result FailureCommand ScriptRule
lone_line ws =
    if is_word ws 0 (codes "each") then each_line ws >>= (λ found. Ok (command.Each found))
    else if is_word ws 0 (codes "sessions") then sessions_line ws
    else if is_word ws 0 (codes "resolve") then resolve_line ws
    else if is_word ws 0 (codes "losses") then losses_line ws
    else if is_word ws 0 (codes "counts") then counts_line ws
    else ttl_line ws

-- the command of a line of these parts: without a comma it may be one that is no failure of its own
abbrev pub command_says : Network → List (List (List ℕ)) → Result FailureCommand ScriptRule
command_says network (ws ∷ []) = if is_lone ws then lone_line ws else fail_says network (ws ∷ [])
command_says network parts = fail_says network parts

-- a command with the number of its line
abbrev pub numbered : ℕ → FailureCommand → Option FailureLine
numbered number found = Some (record { number = number; command = found })

-- what a line says, by its number and its words
abbrev pub failure_says : Network → Says FailureLine
failure_says network number ws = if length ws == 0 then Ok None else command_says network (parts_of ws) >>= (λ found. Ok (numbered number found))
