-- Of an edge's exports, those of which a step tells.
use Rattle.std.specs.Prelude.{ℕ, ◌==◌, Bool, false, List, [], ◌∷◌, map, filter}
use Rattle.mn_topo.specs.Network.{Network}
use Rattle.mn_topo.specs.declared.steps.Step.{Step}
use Rattle.mn_topo.specs.declared.steps.Step.TheVariants.{AddRoute, DelRoute, Export, Attach, Detach}
use Rattle.mn_ledger.specs.Places.{vrf_of}
use Rattle.mn_ledger.specs.World.{Config, Telling, Announcement, Withdrawal}
use Rattle.mn_ledger.specs.World as world
use Rattle.mn_ledger.specs.Exports.{exports_of}
use Rattle.mn_ledger.specs.Bgp.{is_for}
use Rattle.mn_ledger.specs.Ledger.{with_target, config_after}

abbrev pub touches : Network → Step → world.Export → Bool
touches topology (AddRoute s prefix) export = is_for (vrf_of topology s.0) prefix export
touches topology (DelRoute s prefix) export = is_for (vrf_of topology s.0) prefix export
touches topology (Export v on target) export = export.vrf == v.0
touches topology (Attach s) export = export.site == s.0
touches topology (Detach s) export = export.site == s.0
touches topology _ export = false

abbrev pub comes : Network → Config → Step → ℕ → List Telling
comes topology config step edge = map (λ export. Announcement export) (filter (touches topology step) (exports_of topology (config_after config step) edge))

abbrev pub goes : Network → Config → Step → ℕ → List Telling
goes topology config step edge = map (λ (export : world.Export). Withdrawal export.vrf export.prefix)
    (filter (touches topology step) (exports_of topology config edge))

-- a VRF that is left without an export target withdraws its routes, and another announces them
abbrev pub by_set : List ℕ → List Telling → List Telling → List Telling
by_set [] coming going = going
by_set (target ∷ targets) coming going = coming

-- what an edge advertises of its exports in a step
abbrev pub told_of : Network → Config → Step → ℕ → List Telling
told_of topology config (AddRoute s prefix) edge = comes topology config (AddRoute s prefix) edge
told_of topology config (DelRoute s prefix) edge = goes topology config (DelRoute s prefix) edge
told_of topology config (Export v on target) edge = by_set (with_target target.0 on (config.exports v.0)) (comes topology config (Export v on target) edge)
    (goes topology config (Export v on target) edge)
told_of topology config (Attach s) edge = comes topology config (Attach s) edge
told_of topology config (Detach s) edge = goes topology config (Detach s) edge
told_of topology config _ edge = []
