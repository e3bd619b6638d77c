use Rattle.std.proofs.Common.{ℕ, List, Option, subst}
use Rattle.mn_targets.specs.Targets.{target_set}
use Rattle.mn_vrf.specs.Vrf.{with_exports}
use Rattle.mn_pe.specs.Edge.{after_vrf}
use Rattle.mn_pe.specs.Switched.{exporting, IsBy}
use Rattle.mn_pe.proofs.Becomes.{Becomes, seen}
use Rattle.mn_pe.proofs.Exporting.{exported}
use Rattle.mn_pe.proofs.pe.Pe.export.Goals as goal
use Rattle.mn_pe.proofs.pe.Pe.export.Goals.{In-Ok}

-- the VRF exports the target, or no longer
exports : (c : In-Ok) → Becomes c.switch_export.new.vrfs.items c.self.inside.sites.items c.self.inside.labels.items c.self.inside.loopbacks.items
    c.self.inside.heard.items (after_vrf c.args.self.now.edge c.args.vrf.0 (with_exports (target_set c.args.target c.args.on)))
exports c =
    seen (λ edge. after_vrf edge c.args.vrf.0 (with_exports (target_set c.args.target c.args.on))) c.self.view_is
    (exported c.args.vrf.0 c.args.target c.args.on c.self.inside.vrfs.items c.switch_export.new.vrfs.items c.export_in.new.vrfs.items
    c.self.inside.sites.items c.self.inside.labels.items c.self.inside.loopbacks.items c.self.inside.heard.items c.in_default.ensures.ok
    (subst (λ (ls : List (Option ℕ)). IsBy c.args.vrf.0 (exporting c.args.on c.args.target ls) c.export_in.new.vrfs.items c.switch_export.new.vrfs.items)
    c.deref.ensures.value c.in-Ok.ensures) c.in_default.ensures.refusal (c.self.invariant c.if-self.false))

pub invariant_of-self-2 : goal.invariant_of-self-2
invariant_of-self-2 c _ = (exports (goal.at.invariant_of-self-2 c).In-Ok).sound

pub returns-clause-ok : goal.returns-clause-ok
returns-clause-ok c = (exports (goal.at.returns-clause-ok c).In-Ok).is
