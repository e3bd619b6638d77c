-- What becomes of a packet, in all its ways together.
use Rattle.std.specs.Prelude.{ℕ, ◌==◌, ◌&&◌, ◌||◌, Bool, true, false, not, if◌then◌else◌, List, [], ◌∷◌, map, filter, length}
use Rattle.std.specs.List.{flat_map, list_all, list_any, range_with_len}
use Rattle.std.specs.Str.{bytes_eq}
use Rattle.mn_drops.specs.declared.drops.Rule.{Rule}
use Rattle.mn_drops.specs.declared.drops.Rule.TheVariants as rule
use Rattle.mn_topo.specs.Network.{Network}
use Rattle.mn_fate_laws.specs.Fate.{Arrives, Falls}
use Rattle.mn_failure_laws.specs.Failures.{Failure}
use Rattle.mn_profile.specs.declared.switches.Profile.{Profile}
use Rattle.mn_profile_laws.specs.Ways.{Way, Ends, Loops, ways_under}

-- 1. Of one way

abbrev pub arrives : Way → Bool
arrives (Ends (Arrives site ttl path)) = true
arrives (Ends (Falls cause node path)) = false
arrives (Loops node path) = false

abbrev pub arrives_at : ℕ → Way → Bool
arrives_at s (Ends (Arrives site ttl path)) = site == s
arrives_at s (Ends (Falls cause node path)) = false
arrives_at s (Loops node path) = false

abbrev pub arrives_with : ℕ → Way → Bool
arrives_with left (Ends (Arrives site ttl path)) = ttl == left
arrives_with left (Ends (Falls cause node path)) = false
arrives_with left (Loops node path) = false

abbrev pub path_of : Way → List ℕ
path_of (Ends (Arrives site ttl path)) = path
path_of (Ends (Falls cause node path)) = path
path_of (Loops node path) = path

-- the one node comes right behind the other
abbrev pub has_hop : ℕ → ℕ → List ℕ → Bool
has_hop a b [] = false
has_hop a b (x ∷ []) = false
has_hop a b (x ∷ y ∷ path) = ((x == a) && (y == b)) || has_hop a b (y ∷ path)

-- why it falls: by a rule that drops packets at rest, or because it goes round
pub data Cause : Type 0 where
  Looping : Cause
  NoLsp : Cause
  NoRoute : Cause
  TtlExpired : Cause

abbrev pub is_by : Cause → Rule → Bool
is_by NoLsp rule.NoLsp = true
is_by NoRoute rule.NoRoute = true
is_by TtlExpired rule.TtlExpired = true
is_by _ _ = false

abbrev pub is_looping : Cause → Bool
is_looping Looping = true
is_looping _ = false

abbrev pub falls_by : Cause → ℕ → Way → Bool
falls_by cause n (Ends (Arrives site ttl path)) = false
falls_by cause n (Ends (Falls why node path)) = (node == n) && is_by cause why
falls_by cause n (Loops node path) = (node == n) && is_looping cause

-- of the same end and path
abbrev pub same_cause : Rule → Rule → Bool
same_cause one other = list_any (λ cause. is_by cause one && is_by cause other) (NoLsp ∷ NoRoute ∷ TtlExpired ∷ [])

abbrev pub is_same : Way → Way → Bool
is_same (Ends (Arrives site ttl path)) (Ends (Arrives other left way)) = ((site == other) && (ttl == left)) && bytes_eq path way
is_same (Ends (Falls one node path)) (Ends (Falls other place way)) = ((node == place) && same_cause one other) && bytes_eq path way
is_same (Loops node path) (Loops place way) = (node == place) && bytes_eq path way
is_same _ _ = false

-- 2. Of all ways

-- each once
abbrev pub distinct : List Way → List Way
distinct [] = []
distinct (way ∷ ways) = if list_any (is_same way) ways then distinct ways else way ∷ distinct ways

-- delivered where each arrives, dropped where none does
pub data Word : Type 0 where
  Delivered : Word
  Partly : Word
  Dropped : Word

abbrev pub word_of : List Way → Word
word_of ways = if not (list_any arrives ways) then Dropped else if list_all arrives ways then Delivered else Partly

pub record Verdict : Type 0 where
  pub word : Word
  pub sites : List ℕ  -- where it may be delivered, in order
  pub falls : List (Cause × ℕ)  -- why and at which node it may fall, in the order of nodes
  pub ttls : List ℕ  -- with which TTLs it may be delivered, in ascending order
  pub hops : List (ℕ × ℕ)  -- from which node to which it may go, in order
  pub ways : List Way  -- each once

abbrev pub sites_of : Network → List Way → List ℕ
sites_of topology ways = filter (λ s. list_any (arrives_at s) ways) (range_with_len 0 (length topology.sites))

abbrev pub nodes_in : Network → List ℕ
nodes_in topology = range_with_len 0 (length topology.loopbacks)

abbrev pub causes : List Cause
causes = Looping ∷ NoLsp ∷ NoRoute ∷ TtlExpired ∷ []

abbrev pub falls_at : List Way → ℕ → List (Cause × ℕ)
falls_at ways node = map (λ cause. (cause, node)) (filter (λ cause. list_any (falls_by cause node) ways) causes)

abbrev pub ttls_of : List Way → List ℕ
ttls_of ways = filter (λ left. list_any (arrives_with left) ways) (range_with_len 0 256)

abbrev pub hops_from : Network → List Way → ℕ → List (ℕ × ℕ)
hops_from topology ways a = map (λ b. (a, b)) (filter (λ b. list_any (λ way. has_hop a b (path_of way)) ways) (nodes_in topology))

abbrev pub verdict_of : Network → List Way → Verdict
verdict_of topology ways = record {
  word = word_of ways;
  sites = sites_of topology ways;
  falls = flat_map (falls_at ways) (nodes_in topology);
  ttls = ttls_of ways;
  hops = flat_map (hops_from topology ways) (nodes_in topology);
  ways = distinct ways;
}

-- of a packet that is sent at the site with this TTL for this address, once the network is at rest under the failure
abbrev pub verdict_under : Network → Profile → Failure → ℕ → ℕ → ℕ → Verdict
verdict_under topology profile failure s ttl address = verdict_of topology (ways_under topology profile failure s ttl address)
