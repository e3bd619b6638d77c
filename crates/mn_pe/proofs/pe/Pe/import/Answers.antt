use Rattle.std.proofs.Common.{◌≡◌, ◌≤◌, ℕ, List, Option, length, map, sym, ◌∙◌, ap, subst}
use Rattle.mn_rib_in.specs.Heard.{Heard}
use Rattle.mn_targets.specs.Targets.{target_set}
use Rattle.mn_vrf.specs.Vrf.{Holding, with_imports}
use Rattle.mn_pe.specs.Edge.{after_vrf}
use Rattle.mn_pe.specs.Pe.{told}
use Rattle.mn_pe.specs.Switched.{at_vrf, importing}
use Rattle.mn_pe.proofs.Becomes.{Becomes, seen}
use Rattle.mn_pe.proofs.Importing.{told_order, imported}
use Rattle.mn_pe.proofs.pe.Pe.import.Goals as goal
use Rattle.mn_pe.proofs.pe.Pe.import.Goals.{In-Ok}

-- nodes are few, and the VRFs stay in their order
pub switch_import-requires-clause-few : goal.switch_import-requires-clause-few
switch_import-requires-clause-few c =
    subst (λ (hs : List (List Heard)). length hs ≤ 65536) (sym c.deref-3.ensures.value) (c.self.invariant c.if-self.false).order.few

pub switch_import-requires-clause-order : goal.switch_import-requires-clause-order
switch_import-requires-clause-order c =
    told_order c.args.vrf.0 c.args.target c.args.on c.self.inside.vrfs.items c.import_in.new.vrfs.items c.self.inside.sites.items c.self.inside.labels.items
    c.self.inside.loopbacks.items c.self.inside.heard.items c.in_default.ensures.ok (c.self.invariant c.if-self.false).order

-- the VRF imports the target, or no longer
imports : (c : In-Ok) → Becomes c.switch_import.new.vrfs.items c.self.inside.sites.items c.self.inside.labels.items c.self.inside.loopbacks.items
    c.self.inside.heard.items (after_vrf c.args.self.now.edge c.args.vrf.0 (with_imports (target_set c.args.target c.args.on)))
imports c =
    let one : List Holding = c.import_in.new.vrfs.items in
    let made : List (Option ℕ) → List ℕ → List (List Heard) → List Holding = λ ls bs hs.
    map (at_vrf c.args.vrf.0 (importing c.args.on c.args.target ls bs hs (told one))) one in
    let new_is : c.switch_import.new.vrfs.items ≡ made c.self.inside.labels.items c.self.inside.loopbacks.items c.self.inside.heard.items =
    c.in-Ok.ensures ∙ ap (λ ls. made ls c.deref-2.result.now c.deref-3.result.now) c.deref.ensures.value
    ∙ ap (λ bs. made c.self.inside.labels.items bs c.deref-3.result.now) c.deref-2.ensures.value
    ∙ ap (made c.self.inside.labels.items c.self.inside.loopbacks.items) c.deref-3.ensures.value in
    seen (λ edge. after_vrf edge c.args.vrf.0 (with_imports (target_set c.args.target c.args.on))) c.self.view_is
    (imported c.args.vrf.0 c.args.target c.args.on c.self.inside.vrfs.items c.switch_import.new.vrfs.items one c.self.inside.sites.items
    c.self.inside.labels.items c.self.inside.loopbacks.items c.self.inside.heard.items c.in_default.ensures.ok new_is c.in_default.ensures.refusal
    (c.self.invariant c.if-self.false))

pub invariant_of-self-2 : goal.invariant_of-self-2
invariant_of-self-2 c _ = (imports (goal.at.invariant_of-self-2 c).In-Ok).sound

pub returns-clause-ok : goal.returns-clause-ok
returns-clause-ok c = (imports (goal.at.returns-clause-ok c).In-Ok).is
