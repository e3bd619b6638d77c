-- Why a step is refused, by what is kept: the first cause that holds, in the order of the ledger's.
use Rattle.std.specs.Prelude.{◌<◌, ◌+◌, ◌-◌, ◌&&◌, Bool, true, false, cond, not, nat_le, [], ◌∷◌, length, map, slice_index_or}
use Rattle.std.specs.Prelude.{Option, Some, None, is_some, is_none, option_map, unwrap_or}
use Rattle.mn_base.specs.Limits.{most_in_flight, most_labels, most_targets}
use Rattle.mn_topo.specs.Network.{Network}
use Rattle.mn_topo.specs.declared.steps.Step.{Step}
use Rattle.mn_topo.specs.declared.steps.Step.TheVariants as step
use Rattle.mn_ledger.specs.declared.refused.Refused.{Refused}
use Rattle.mn_ledger.specs.declared.refused.Refused.TheVariants.{Unchanged, Empty, NoRouteThere, TargetsFull, LabelsSpent, NetFull}
use Rattle.mn_ledger.specs.Places.{vrf_of, home_of}
use Rattle.mn_ledger.specs.Refusal.{first_cause, where_holds, agree, prefix_refusal}
use Rattle.mn_mail.specs.Mail.{first_from_to}
use Rattle.mn_pe.specs.Pe.{PeNow}
use Rattle.mn_routing_laws.specs.Whole.{RoutesNow}
use Rattle.mn_net_laws.specs.Refusal.{session_at, of_vrf, imports_it, exports_it, site_label, site_with, is_site}
use Rattle.mn_reflect_ledger_laws.specs.Refusal.{takes_out}
use Rattle.mn_reflect_world_laws.specs.Now.{ReflectNow}

-- the nodes, VRFs and sites are the topology's
abbrev pub IsOfPlaces : Network → Step → Type 0
IsOfPlaces topology (step.BgpUp a b) = (a.0 < length topology.loopbacks) × (b.0 < length topology.loopbacks)
IsOfPlaces topology (step.BgpDown a b) = (a.0 < length topology.loopbacks) × (b.0 < length topology.loopbacks)
IsOfPlaces topology (step.HearBgp a b) = (a.0 < length topology.loopbacks) × (b.0 < length topology.loopbacks)
IsOfPlaces topology (step.AddRoute s prefix) = s.0 < length topology.sites
IsOfPlaces topology (step.DelRoute s prefix) = s.0 < length topology.sites
IsOfPlaces topology (step.Import v on target) = v.0 < length topology.vrfs
IsOfPlaces topology (step.Export v on target) = v.0 < length topology.vrfs
IsOfPlaces topology (step.Attach s) = s.0 < length topology.sites
IsOfPlaces topology (step.Detach s) = s.0 < length topology.sites
IsOfPlaces topology _ = Unit {0}

-- the edges and sessions
abbrev pub shown : ReflectNow → RoutesNow
shown now = record { edges = map (option_map (λ (pe : PeNow). pe.edge)) now.edges; sessions = now.sessions }

-- the session, target or attachment is already so
abbrev pub is_so : ReflectNow → Step → Bool
is_so now (step.BgpUp a b) = is_some (session_at (shown now) a.0 b.0)
is_so now (step.BgpDown a b) = is_none (session_at (shown now) a.0 b.0)
is_so now (step.Import v on target) = agree on (imports_it now.topology (shown now) v.0 target)
is_so now (step.Export v on target) = agree on (exports_it now.topology (shown now) v.0 target)
is_so now (step.Attach s) = is_some (site_label now.topology (shown now) s.0)
is_so now (step.Detach s) = is_none (site_label now.topology (shown now) s.0)
is_so now _ = false

-- no message flies from the one to the other
abbrev pub has_nothing : ReflectNow → Step → Bool
has_nothing now (step.HearBgp a b) = is_none (first_from_to a.0 b.0 now.mail.letters)
has_nothing now _ = false

-- a prefix that the VRF has, or one too many; or one that it hasn't over the site
abbrev pub of_static : ReflectNow → Step → Option Refused
of_static now (step.AddRoute s prefix) = prefix_refusal (site_with now.topology (shown now) (vrf_of now.topology s.0) prefix) now.statics
of_static now (step.DelRoute s prefix) =
    cond (is_site s.0 (site_with now.topology (shown now) (vrf_of now.topology s.0) prefix)) None (Some NoRouteThere)
of_static now _ = None

-- the set has 16 targets
abbrev pub has_all_targets : ReflectNow → Step → Bool
has_all_targets now (step.Import v true target) =
    nat_le most_targets (unwrap_or (of_vrf now.topology (shown now) v.0 (λ vrf. Some (length vrf.imports))) 0)
has_all_targets now (step.Export v true target) =
    nat_le most_targets (unwrap_or (of_vrf now.topology (shown now) v.0 (λ vrf. Some (length vrf.exports))) 0)
has_all_targets now _ = false

-- the site's edge has given all labels, with one for each other node
abbrev pub has_given_all : ReflectNow → Step → Bool
has_given_all now (step.Attach s) =
    nat_le most_labels ((length now.topology.loopbacks - 1) + slice_index_or now.attachments (home_of now.topology s.0) 0)
has_given_all now _ = false

-- as many messages fly as may, and the step takes none out of flight
abbrev pub has_too_much : ReflectNow → Step → Bool
has_too_much now done = not (takes_out done) && nat_le most_in_flight (length now.mail.letters)

abbrev pub limit_seen : ReflectNow → Step → Option Refused
limit_seen now done = first_cause (
    where_holds (has_all_targets now done) TargetsFull
    ∷ where_holds (has_given_all now done) LabelsSpent
    ∷ where_holds (has_too_much now done) NetFull
    ∷ [])

abbrev pub refusal_seen : ReflectNow → Step → Option Refused
refusal_seen now done = first_cause (
    where_holds (is_so now done) Unchanged
    ∷ where_holds (has_nothing now done) Empty
    ∷ of_static now done
    ∷ where_holds (has_all_targets now done) TargetsFull
    ∷ where_holds (has_given_all now done) LabelsSpent
    ∷ where_holds (has_too_much now done) NetFull
    ∷ [])
