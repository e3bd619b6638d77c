-- Why a network refuses a step, by what its parts show: the first cause that holds, in the order of the ledger's.
use Rattle.std.specs.Prelude.{ℕ, ◌+◌, ◌*◌, ◌==◌, ◌&&◌, ◌||◌, Bool, true, false, cond, not, nat_lt, nat_le, List, [], ◌∷◌, length, slice_index}
use Rattle.std.specs.Prelude.{slice_index_or, Option, Some, None, is_some, is_none, option_map, unwrap_or}
use Rattle.mn_base.specs.Limits.{most_flying_bytes, most_in_flight, most_labels, most_steps, most_targets}
use Rattle.mn_base.specs.declared.numbers.Rt.{Rt}
use Rattle.mn_linkdb.specs.Changes.{is_link_up}
use Rattle.mn_prefix.specs.Prefix.{AddressBlock}
use Rattle.mn_topo.specs.Network.{Network}
use Rattle.mn_topo.specs.declared.steps.Step.{Step}
use Rattle.mn_topo.specs.declared.steps.Step.TheVariants.{LinkUp, LinkDown, Learn, LdpAdmin, HearLdp, BgpUp, BgpDown, HearBgp, AddRoute, DelRoute, Import}
use Rattle.mn_topo.specs.declared.steps.Step.TheVariants.{Export, Attach, Detach, Inject, Carry, Lose}
use Rattle.mn_ledger.specs.declared.refused.Refused.{Refused}
use Rattle.mn_ledger.specs.declared.refused.Refused.TheVariants.{Unchanged, Empty, NoRouteThere, TargetsFull, LabelsSpent, NetFull, TooManySteps}
use Rattle.mn_ledger.specs.Packets.{channel}
use Rattle.mn_ledger.specs.Places.{vrf_of, edge_of, home_of}
use Rattle.mn_ledger.specs.Refusal.{first_cause, where_holds, agree, prefix_refusal, takes_out}
use Rattle.mn_targets.specs.Targets.{has_target}
use Rattle.mn_vrf.specs.Vrf.{Static, VrfState, static_of}
use Rattle.mn_pe.specs.Edge.{Edge}
use Rattle.mn_pe.specs.Held.{site_label as label_of}
use Rattle.mn_pe.specs.Pe.{found_in}
use Rattle.mn_bgp_session.specs.declared.session.BgpSession.{BgpSession}
use Rattle.mn_routing_laws.specs.Whole.{RoutesNow}
use Rattle.mn_transit.specs.Moving.{bytes_in}
use Rattle.mn_timetable_laws.specs.Keys.{Key, keys_in, keys_by}
use Rattle.mn_net_parts_laws.specs.Stands.{Packed}
use Rattle.mn_net_laws.specs.Seen.{Seen}

-- 1. What is asked of sessions, edges and VRFs

-- an edge's end of its session with a peer
abbrev pub session_at : RoutesNow → ℕ → ℕ → Option BgpSession
session_at routes edge peer = slice_index_or (slice_index_or routes.sessions edge []) peer None

abbrev pub asked : {A : Type 0} → (Edge → Option A) → Option Edge → Option A
asked question None = None
asked question (Some edge) = question edge

-- of the edge at a node, if there is one
abbrev pub of_edge : {A : Type 0} → RoutesNow → ℕ → (Edge → Option A) → Option A
of_edge routes node question = asked question (slice_index_or routes.edges node None)

-- of a VRF, at its edge
abbrev pub of_vrf : {A : Type 0} → Network → RoutesNow → ℕ → (VrfState → Option A) → Option A
of_vrf topology routes v question = of_edge routes (edge_of topology v) (λ edge. found_in v question edge.vrfs)

-- a VRF imports, or exports, a target
abbrev pub imports_it : Network → RoutesNow → ℕ → Rt → Bool
imports_it topology routes v target = unwrap_or (of_vrf topology routes v (λ vrf. Some (has_target target vrf.imports))) false

abbrev pub exports_it : Network → RoutesNow → ℕ → Rt → Bool
exports_it topology routes v target = unwrap_or (of_vrf topology routes v (λ vrf. Some (has_target target vrf.exports))) false

-- the label of a site's present attachment
abbrev pub site_label : Network → RoutesNow → ℕ → Option ℕ
site_label topology routes s = of_edge routes (home_of topology s) (λ edge. label_of edge s)

-- the site over which a VRF has a prefix
abbrev pub site_with : Network → RoutesNow → ℕ → AddressBlock → Option ℕ
site_with topology routes v prefix = of_vrf topology routes v (λ vrf. option_map (λ (static : Static). static.site) (static_of prefix vrf.statics))

abbrev pub is_site : ℕ → Option ℕ → Bool
is_site s None = false
is_site s (Some site) = site == s

-- how many fly on a channel
abbrev pub count_on : ℕ → List Key → ℕ
count_on c keys = length (keys_by (λ n. n == c) keys)

-- 2. The causes

-- the link, LDP switch, session, target or attachment is already so
abbrev pub is_so : Network → Seen → Step → Bool
is_so topology seen (LinkUp l) = is_link_up seen.changes l.0
is_so topology seen (LinkDown l) = not (is_link_up seen.changes l.0)
is_so topology seen (LdpAdmin l on) = agree on (slice_index_or seen.switches l.0 false)
is_so topology seen (BgpUp a b) = is_some (session_at seen.routes a.0 b.0)
is_so topology seen (BgpDown a b) = is_none (session_at seen.routes a.0 b.0)
is_so topology seen (Import v on target) = agree on (imports_it topology seen.routes v.0 target)
is_so topology seen (Export v on target) = agree on (exports_it topology seen.routes v.0 target)
is_so topology seen (Attach s) = is_some (site_label topology seen.routes s.0)
is_so topology seen (Detach s) = is_none (site_label topology seen.routes s.0)
is_so topology seen _ = false

-- nothing flies on the channel, or no frame at the place
abbrev pub has_nothing : Network → Packed → Step → Bool
has_nothing topology packed (Learn node l) = count_on (l.0 * length topology.loopbacks + node.0) packed.notices == 0
has_nothing topology packed (HearLdp l dir) = count_on (channel l.0 dir) packed.messages == 0
has_nothing topology packed (HearBgp a b) = count_on (a.0 * length topology.loopbacks + b.0) packed.routes == 0
has_nothing topology packed (Carry l dir place) = nat_le (count_on (channel l.0 dir) (keys_in packed.moving.flying)) place
has_nothing topology packed (Lose l dir place) = nat_le (count_on (channel l.0 dir) (keys_in packed.moving.flying)) place
has_nothing topology packed _ = false

-- a prefix that the VRF has, or one too many; or one that it hasn't over the site
abbrev pub of_static : Network → Seen → Step → Option Refused
of_static topology seen (AddRoute s prefix) = prefix_refusal (site_with topology seen.routes (vrf_of topology s.0) prefix) seen.statics
of_static topology seen (DelRoute s prefix) = cond (is_site s.0 (site_with topology seen.routes (vrf_of topology s.0) prefix)) None (Some NoRouteThere)
of_static topology seen _ = None

-- the set has 16 targets
abbrev pub has_all_targets : Network → RoutesNow → Step → Bool
has_all_targets topology routes (Import v true target) = nat_le most_targets (unwrap_or (of_vrf topology routes v.0 (λ vrf. Some (length vrf.imports))) 0)
has_all_targets topology routes (Export v true target) = nat_le most_targets (unwrap_or (of_vrf topology routes v.0 (λ vrf. Some (length vrf.exports))) 0)
has_all_targets topology routes _ = false

-- no label is left at the site's node
abbrev pub has_given_all : Network → List ℕ → Step → Bool
has_given_all topology given (Attach s) = nat_le most_labels (slice_index given (home_of topology s.0))
has_given_all topology given _ = false

-- too much news is in flight, or too many bytes with this packet
abbrev pub has_no_room : Packed → Step → List ℕ → Bool
has_no_room packed (Inject s number) bytes = nat_lt most_flying_bytes (bytes_in packed.moving.flying + length bytes)
has_no_room packed _ bytes = false

abbrev pub has_too_much : Packed → Step → List ℕ → Bool
has_too_much packed step bytes =
    (not (takes_out step) && nat_le most_in_flight (length packed.notices + length packed.messages + length packed.routes)) || has_no_room packed step bytes

-- 3. The first that holds

abbrev pub refusal_seen : Network → Seen → Step → List ℕ → Option Refused
refusal_seen topology seen step bytes = first_cause (
    where_holds (is_so topology seen step) Unchanged
    ∷ where_holds (has_nothing topology seen.packed step) Empty
    ∷ of_static topology seen step
    ∷ where_holds (has_all_targets topology seen.routes step) TargetsFull
    ∷ where_holds (has_given_all topology seen.given step) LabelsSpent
    ∷ where_holds (has_too_much seen.packed step bytes) NetFull
    ∷ where_holds (nat_le most_steps seen.steps) TooManySteps
    ∷ [])
