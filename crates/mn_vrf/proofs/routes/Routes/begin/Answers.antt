use Rattle.std.proofs.Common.{refl, subst, sym, List}
use Rattle.mn_prefix.specs.Prefix.{AddressBlock}
use Rattle.mn_base.specs.Ordered.{with_one}
use Rattle.mn_vrf.specs.declared.source.Source.{Source}
use Rattle.mn_vrf.specs.Routes.{route_before}
use Rattle.mn_vrf.specs.Kept.{IsKept}
use Rattle.mn_vrf.proofs.Calls.{Shows, begun_with, undone}
use Rattle.mn_vrf.proofs.routes.Routes.begin.Goals as goal
use Rattle.mn_vrf.proofs.routes.Routes.begin.Goals.{In-Ok, Joined-remove}

pub invariant_of-self : goal.invariant_of-self
invariant_of-self c = subst (λ (t : List (AddressBlock × List Source)). IsKept t c.self.inside.prefixes.keys) (sym c.in_err-insert.ensures.err) c.self.invariant

-- the table and the set have the prefix with its source
begun : (c : In-Ok) → Shows c.insert.new.self c.insert-2.new.self.keys (with_one route_before (c.args.prefix, c.args.source) c.args.self.now)
begun c =
    begun_with c.self.inside.table c.insert.new.self c.self.inside.prefixes.keys c.args.self.now c.args.prefix c.args.source c.in_ok-sources.sources
    c.put.new.self (record { kept = c.self.invariant; view = c.self.view_is }) c.requires c.in_ok-sources.ensures c.in_ok-put.ensures.ok
    c.in_ok-insert.ensures.ok c.self.inside.prefixes c.insert-2.new.self refl c.in-Ok.ensures.ordered c.in-Ok.ensures.updates

pub invariant_of-self-in-Ok : goal.invariant_of-self-in-Ok
invariant_of-self-in-Ok c = (begun (goal.at.invariant_of-self-in-Ok c).In-Ok).kept

pub returns-clause-ok : goal.returns-clause-ok
returns-clause-ok c = (begun (goal.at.returns-clause-ok c).In-Ok).view

-- the prefix that the set has no memory for is taken out again
out_again : (c : Joined-remove) → Shows c.remove.new.self c.insert-2.new.self.keys c.args.self.now
out_again c =
    undone c.self.inside.table c.insert.new.self c.self.inside.prefixes.keys c.args.self.now c.args.prefix c.args.source c.in_ok-sources.sources c.put.new.self
    (record { kept = c.self.invariant; view = c.self.view_is }) c.requires c.in_ok-sources.ensures c.in_ok-put.ensures.ok c.in_ok-insert.ensures.ok
    c.remove.new.self c.insert-2.new.self.keys c.in_default.ensures.err c.remove.ensures.removed

pub invariant_of-self-in_default : goal.invariant_of-self-in_default
invariant_of-self-in_default c = (out_again (goal.at.invariant_of-self-in_default c).Joined-remove).kept

pub returns-in_default-clause-err : goal.returns-in_default-clause-err
returns-in_default-clause-err c = (out_again (goal.at.returns-in_default-clause-err c).Joined-remove).view
