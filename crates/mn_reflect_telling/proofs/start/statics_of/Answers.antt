use Rattle.std.proofs.Common.{◌≡◌, length, arith, ap}
use Rattle.mn_reflect_telling.proofs.Starts.{counted_on, few_at_start, at_end}
use Rattle.mn_reflect_telling.proofs.start.statics_of.Goals as goal

pub overflow_cast-count : goal.overflow_cast-count
overflow_cast-count c =
    let all = counted_on c.args.topology.now _ c.loop-site.site-index c.loop-site.count c.site-item.result _ c.sites-site-items.ensures c.loop-site-test.true
    c.site-item.is c.as_slice.ensures c.loop-site.invariant in
    omega (arith, all, few_at_start c.args.topology.now c.laws.ensures)

pub overflow_add-count : goal.overflow_add-count
overflow_add-count c =
    let all = counted_on c.args.topology.now _ c.loop-site.site-index c.loop-site.count c.site-item.result _ c.sites-site-items.ensures c.loop-site-test.true
    c.site-item.is c.as_slice.ensures c.loop-site.invariant in
    omega (arith, all, few_at_start c.args.topology.now c.laws.ensures)

pub loop-site-preserved : goal.loop-site-preserved
loop-site-preserved c =
    counted_on c.args.topology.now _ c.loop-site.site-index c.loop-site.count c.site-item.result _ c.sites-site-items.ensures c.loop-site-test.true
    c.site-item.is
    c.as_slice.ensures c.loop-site.invariant

pub returns : goal.returns
returns c =
    let t = c.args.topology.now in
    let n = c.loop-site.site-index in
    let sites = ap length c.sites-site-items.ensures in
    let done : n ≡ length t.sites = omega (arith, sites) in
    let none = at_end n t.sites n done in
    let was = c.loop-site.invariant in
    omega (arith, none, was)
