-- Which steps are refused, and why: the first cause that holds.
use Rattle.std.specs.Prelude.{ℕ, ◌+◌, ◌-◌, ◌==◌, ◌&&◌, ◌||◌, Bool, true, false, cond, not, nat_lt, nat_le, List, [], ◌∷◌, ◌++◌, map, length, sum, Option}
use Rattle.std.specs.Prelude.{Some, None, is_some, is_none}
use Rattle.std.specs.List.{flat_map, list_any}
use Rattle.mn_base.specs.Limits.{most_flying_bytes, most_in_flight, most_labels, most_static_routes, most_steps, most_targets}
pub use Rattle.mn_base.specs.Rules.{when as where_holds, first_broken as first_cause}
use Rattle.mn_topo.specs.Wiring.{nodes_of, links_of, link, sender, receiver}
use Rattle.mn_topo.specs.Dir.TheVariants.{Forth, Back}
use Rattle.mn_topo.specs.Prefix.{AddressBlock, same_prefix}
use Rattle.mn_ipv4.specs.Header.{total_length}
use Rattle.mn_topo.specs.Network.{Network, wiring_of}
use Rattle.mn_topo.specs.declared.steps.Step.{Step}
use Rattle.mn_topo.specs.declared.steps.Step.TheVariants.{LinkUp, LinkDown, Learn, LdpAdmin, HearLdp, BgpUp, BgpDown, HearBgp, AddRoute, DelRoute, Import}
use Rattle.mn_topo.specs.declared.steps.Step.TheVariants.{Export, Attach, Detach, Inject, Carry, Lose, Tick}
use Rattle.mn_topo.specs.declared.steps.JournalEntry.{JournalEntry}
use Rattle.mn_ledger.specs.declared.refused.Refused.{Refused}
use Rattle.mn_ledger.specs.declared.refused.Refused.TheVariants.{Unchanged, Empty, PrefixTaken, NoRouteThere, RoutesFull, TargetsFull, LabelsSpent, NetFull}
use Rattle.mn_ledger.specs.declared.refused.Refused.TheVariants.{TooManySteps}
use Rattle.mn_ledger.specs.Places.{vrf_of, home_of, sites_at, edges}
use Rattle.mn_ledger.specs.World.{SiteRoute, Config, Views, Sessions, Peerings, World}
use Rattle.mn_ledger.specs.Transport.{lives}
use Rattle.mn_ledger.specs.Exports.{has_target}
use Rattle.mn_ledger.specs.Bgp.{peers_live}
use Rattle.mn_ledger.specs.Packets.{Packets, flying_on}
use Rattle.mn_ledger.specs.Ledger.{world_of, packets_of, is_static}

abbrev pub agree : Bool → Bool → Bool
agree true other = other
agree false other = not other

-- the link, switch, session, target or attachment is already so
abbrev pub is_unchanged : Config → Step → Bool
is_unchanged config (LinkUp l) = config.is_up l.0
is_unchanged config (LinkDown l) = not (config.is_up l.0)
is_unchanged config (LdpAdmin l on) = agree on (config.ldp_on l.0)
is_unchanged config (BgpUp a b) = config.bgp_on a.0 b.0
is_unchanged config (BgpDown a b) = not (config.bgp_on a.0 b.0)
is_unchanged config (Import v on target) = agree on (has_target (config.imports v.0) target.0)
is_unchanged config (Export v on target) = agree on (has_target (config.exports v.0) target.0)
is_unchanged config (Attach s) = is_some (config.attached s.0)
is_unchanged config (Detach s) = is_none (config.attached s.0)
is_unchanged config _ = false

-- nothing is there to be learned, received, carried or lost
abbrev pub is_empty : Network → World → Packets → Step → Bool
is_empty topology world packets (Learn node l) = nat_le (world.views.changes l.0) (world.views.learned node.0 l.0)
is_empty topology world packets (HearLdp l dir) =
    not (lives world.config l.0) || nat_le (length (world.sessions.said l.0 (sender (wiring_of topology) l.0 dir)))
    (world.sessions.heard l.0 (receiver (wiring_of topology) l.0 dir))
is_empty topology world packets (HearBgp a b) =
    not (peers_live world.config a.0 b.0) || nat_le (length (world.peerings.told a.0 b.0)) (world.peerings.heard b.0 a.0)
is_empty topology world packets (Carry l dir place) = nat_le (length (flying_on packets l.0 dir)) place
is_empty topology world packets (Lose l dir place) = nat_le (length (flying_on packets l.0 dir)) place
is_empty topology world packets _ = false

-- the site at which the VRF has the prefix
abbrev pub taken_by : Network → ℕ → AddressBlock → List SiteRoute → Option ℕ
taken_by topology v prefix [] = None
taken_by topology v prefix (static ∷ statics) =
    cond ((vrf_of topology static.site == v) && same_prefix static.prefix prefix) (Some static.site) (taken_by topology v prefix statics)

abbrev pub prefix_refusal : Option ℕ → ℕ → Option Refused
prefix_refusal (Some s) count = Some (PrefixTaken (record { 0 = s }))
prefix_refusal None count = cond (nat_le most_static_routes count) (Some RoutesFull) None

abbrev pub static_refusal : Network → Config → Step → Option Refused
static_refusal topology config (AddRoute s prefix) = prefix_refusal (taken_by topology (vrf_of topology s.0) prefix config.statics) (length config.statics)
static_refusal topology config (DelRoute s prefix) = cond (list_any (is_static s.0 prefix) config.statics) None (Some NoRouteThere)
static_refusal topology config _ = None

-- one more target than a set may have
abbrev pub is_targets_full : Config → Step → Bool
is_targets_full config (Import v true target) = nat_le most_targets (length (config.imports v.0))
is_targets_full config (Export v true target) = nat_le most_targets (length (config.exports v.0))
is_targets_full config _ = false

-- how many labels a node has given: one for each other node's FEC, and one for each attachment of its sites
abbrev pub labels_given : Network → Config → ℕ → ℕ
labels_given topology config node = (length topology.loopbacks - 1) + (length (sites_at topology node) + sum (map config.attaches (sites_at topology node)))

abbrev pub is_spent : Network → Config → Step → Bool
is_spent topology config (Attach s) = nat_le most_labels (labels_given topology config (home_of topology s.0))
is_spent topology config _ = false

-- what is in flight: the notices that aren't learned, and the messages that aren't received
abbrev pub notices_unlearned : Network → Views → ℕ
notices_unlearned topology views =
    sum (flat_map (λ node. map (λ l. views.changes l - views.learned node l) (links_of (wiring_of topology))) (nodes_of (wiring_of topology)))

abbrev pub unheard_over : Network → Sessions → ℕ → ℕ
unheard_over topology sessions l =
    let ends = link (wiring_of topology) l in
    (length (sessions.said l ends.a.0) - sessions.heard l ends.b.0) + (length (sessions.said l ends.b.0) - sessions.heard l ends.a.0)

abbrev pub unheard_by : Network → Peerings → ℕ → ℕ
unheard_by topology peerings edge = sum (map (λ peer. length (peerings.told peer edge) - peerings.heard edge peer) (edges topology))

unfoldable pub in_flight : Network → World → ℕ
in_flight topology world =
    notices_unlearned topology world.views
    + (sum (map (unheard_over topology world.sessions) (links_of (wiring_of topology)))
    + sum (map (unheard_by topology world.peerings) (edges topology)))

-- the total lengths of the packets that fly
unfoldable pub bytes_flying : Network → Packets → ℕ
bytes_flying topology packets =
    sum (flat_map (λ l. map (λ token. total_length token.bytes) (flying_on packets l Forth ++ flying_on packets l Back)) (links_of (wiring_of topology)))

-- the step takes something out of flight, or lets time go by
abbrev pub takes_out : Step → Bool
takes_out (Learn node l) = true
takes_out (HearLdp l dir) = true
takes_out (HearBgp a b) = true
takes_out (Carry l dir place) = true
takes_out (Lose l dir place) = true
takes_out (Tick ticks) = true
takes_out _ = false

abbrev pub has_no_room : Network → Packets → Step → List ℕ → Bool
has_no_room topology packets (Inject s number) bytes = nat_lt most_flying_bytes (bytes_flying topology packets + length bytes)
has_no_room topology packets _ bytes = false

abbrev pub is_full : Network → World → Packets → Step → List ℕ → Bool
is_full topology world packets step bytes =
    (not (takes_out step) && nat_le most_in_flight (in_flight topology world)) || has_no_room topology packets step bytes

-- the causes after the first two, in the order in which they are tried, with so many steps done
abbrev pub limits : Network → World → Packets → ℕ → Step → List ℕ → List (Option Refused)
limits topology world packets count step bytes =
    static_refusal topology world.config step
    ∷ where_holds (is_targets_full world.config step) TargetsFull
    ∷ where_holds (is_spent topology world.config step) LabelsSpent
    ∷ where_holds (is_full topology world packets step bytes) NetFull
    ∷ where_holds (nat_le most_steps count) TooManySteps
    ∷ []

abbrev pub refusal_at : Network → World → Packets → ℕ → Step → List ℕ → Option Refused
refusal_at topology world packets count step bytes =
    first_cause (where_holds (is_unchanged world.config step) Unchanged ∷ where_holds (is_empty topology world packets step) Empty
    ∷ limits topology world packets count step bytes)

-- why the step is refused after these entries, and none where it is done
abbrev pub refusal : Network → List JournalEntry → List (List ℕ) → Step → List ℕ → Option Refused
refusal topology entries inputs step bytes = refusal_at topology (world_of topology entries) (packets_of topology entries inputs) (length entries) step bytes
