use Rattle.std.proofs.Common.{◌<◌, ◌≤◌, ap, sym, arith}
use Rattle.std.specs.Prelude.{length}
use Rattle.std.specs.List.{flat_map}
use Rattle.mn_topo.specs.Homes.{site_at}
use Rattle.mn_candidates.specs.Pairs.{prefixes_of, prefixes_towards}
use Rattle.mn_candidates.proofs.Adding.{adds_then, adds_as, adds_all}
use Rattle.mn_candidates.proofs.Ranges.{more_number, all_numbers}
use Rattle.mn_candidates.proofs.pairs.push_pairs.Goals as goal

pub loop-other-preserved : goal.loop-other-preserved
loop-other-preserved c =
    let below : c.loop-other.other < length c.args.topology.now.sites = omega arith in
    adds_as _ _ _ _ _ _ _ (sym (more_number (prefixes_of c.args.topology.now c.args.site.0) (length c.args.topology.now.sites) c.loop-other.other below))
    (adds_then _ _ _ _ _ _ _ _ _ c.loop-other.invariant c.in_ok-push_towards.ensures)

pub returns : goal.returns
returns c =
    let past : length c.args.topology.now.sites ≤ c.loop-other.other = omega arith in
    adds_all c.args.site.0 (prefixes_towards c.args.topology.now c.args.site.0) (site_at c.args.topology.now c.args.site.0).prefixes c.loop-other.seen.items
    c.args.pairs.now.items c.loop-other.pairs.items
    (adds_as c.args.site.0 _ _ _ _ _ _
    (ap (flat_map (prefixes_of c.args.topology.now c.args.site.0)) (all_numbers (length c.args.topology.now.sites) c.loop-other.other past))
    c.loop-other.invariant)
