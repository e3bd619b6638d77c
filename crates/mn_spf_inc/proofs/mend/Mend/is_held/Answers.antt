use Rattle.std.proofs.Common.{◌≡◌, ◌<◌, ℕ, true, length, get_or, refl, sym, ap, ◌∙◌, arith}
use Rattle.mn_wiring.specs.declared.links.LinkEnds.{LinkEnds}
use Rattle.mn_linkdb.specs.PathTable.{dist_at}
use Rattle.mn_spf.specs.Ways.{goes, beyond, other_end}
use Rattle.mn_spf.proofs.Walks.{beyond_below}
use Rattle.mn_spf_inc.specs.Ways.{way_over, way_at}
use Rattle.mn_spf_inc.specs.Mending.{state_of, OneLate}
use Rattle.mn_spf_inc.proofs.Places.{place_goes, place_there, sum_fits_cut}
use Rattle.mn_spf_inc.proofs.Lost.{held_from}
use Rattle.mn_spf_inc.proofs.Spared.{over_none}
use Rattle.mn_spf_inc.proofs.mend.Mend.is_held.Given.{Over}
use Rattle.mn_spf_inc.proofs.mend.Mend.is_held.Goals as goal
use Rattle.mn_spf_inc.proofs.mend.Mend.is_held.Goals.{After-other_end}

pub up-requires : goal.up-requires
up-requires g c =
    let at = c.links_at-number-items in
    place_there c.args.net.now c.args.way.to at.result.now at.ensures.links c.loop-number.number-index c.loop-number-test.true

pub link-link-requires : goal.link-link-requires
link-link-requires g c =
    let at = c.links_at-number-items in
    place_there c.args.net.now c.args.way.to at.result.now at.ensures.links c.loop-number.number-index c.loop-number-test.true

-- the number of the link in this place
abbrev number : (g : Over) → After-other_end g → ℕ
number g c = (get_or c.links_at-number-items.result.now c.loop-number.number-index (record { 0 = 0 })).0

-- it goes on, to the node that the call found
onward : (g : Over) (c : After-other_end g) → (goes c.args.net.now c.args.way.to (number g c) ≡ true)
    × (c.other_end.result.0 ≡ beyond c.args.net.now c.args.way.to (number g c))
onward g c =
    let at = c.links_at-number-items in (
      place_goes c.args.net.now c.args.way.to at.result.now at.ensures.links c.loop-number.number-index (number g c)
          (record { 0 = 0 }) c.loop-number-test.true refl (sym c.up.ensures ∙ c.if-up.true),
      c.other_end.ensures ∙ ap (λ (e : LinkEnds). other_end e c.args.way.to) c.link-link.ensures.value,
    )

pub comes_from-requires : goal.comes_from-requires
comes_from-requires g c =
    let v = c.args.net.now in
    let at = c.links_at-number-items in
    let here = (goal.at.comes_from-requires g c).After-other_end in
    let l = number g here in
    let on = onward g here in
    let there : l < length v.ends = place_there v c.args.way.to at.result.now at.ensures.links c.loop-number.number-index c.loop-number-test.true in
    let below = beyond_below v at.ensures.form.network c.args.way.to l on.0 in
    record {
      there = omega (arith, on.1, below, c.requires.cutting.one_each.dists);
      fits = λ known e. omega (
        arith,
        sum_fits_cut v c.args.root.0 at.ensures.form.network c.requires.root (OneLate c.args.way.to) (state_of c.args.self.now)
            (beyond v c.args.way.to l) known l c.requires.cutting below there (ap (dist_at c.args.self.now.tree) (sym on.1) ∙ e),
        ap (λ (e : LinkEnds). e.cost) c.link-link.ensures.value,
      );
    }

pub returns-then-comes_from-clause-held : goal.returns-then-comes_from-clause-held
returns-then-comes_from-clause-held g c = λ e.
    let here = (goal.at.returns-then-comes_from-clause-held g c).After-other_end in
    let on = onward g here in
    let k = c.comes_from.ensures.comes c.if-comes_from.true in
    held_from c.args.net.now c.args.root.0 c.links_at-number-items.ensures.form.network (state_of c.args.self.now)
    (OneLate c.args.way.to) c.args.way k.0 (number g here) c.requires.cutting c.requires.known.there on.0
    (ap (way_at c.args.self.now.tree) (sym on.1) ∙ k.1) (ap (way_over c.args.root.0 k.0) (sym c.link-link.ensures.value) ∙ k.2)

pub returns-clause-found : goal.returns-clause-found
returns-clause-found g c = λ comes.
    let at = c.links_at-number-items in
    absurd
    (over_none c.args.net.now c.args.root.0 c.args.self.now.tree c.args.way at.result.now c.loop-number.number-index at.ensures.links
    c.loop-number-test.false c.loop-number.invariant.none comes)
