use Rattle.std.proofs.Common.{◌≡◌, ◌+◌, ◌<◌, true, length, get_or, refl, sym, ap, ◌∙◌, subst, arith, rules}
use Rattle.std.specs.BinaryHeap.{heap_len}
use Rattle.mn_wiring.specs.declared.links.LinkEnds.{LinkEnds}
use Rattle.mn_wiring.specs.Wiring.{link}
use Rattle.mn_linkdb.specs.PathTable.{PathTable}
use Rattle.mn_spf.specs.Ways.{wiring_of, goes}
use Rattle.mn_spf.proofs.Walks.{beyond_below}
use Rattle.mn_spf_inc.specs.declared.way.Way.{Way}
use Rattle.mn_spf_inc.specs.declared.mend.Mend.{Mend}
use Rattle.mn_spf_inc.specs.Ways.{way_over}
use Rattle.mn_spf_inc.specs.Mending.{state_of, reached, Doubts, IsCutting, OneLate, HeldBy}
use Rattle.mn_spf_inc.proofs.Places.{place_goes, place_there, sum_fits_cut}
use Rattle.mn_spf_inc.proofs.Cutting.{forgotten, one_less}
use Rattle.mn_spf_inc.proofs.Lost.{held_first, held_past, held_down, held_next}
use Rattle.mn_spf_inc.proofs.Ends.{doubt_size}
use Rattle.mn_spf_inc.proofs.mend.Mend.cut_off.Goals as goal
use Rattle.mn_spf_inc.proofs.mend.Mend.cut_off.Goals.{then-up+in_ok-doubt, else-up}

pub forget-requires : goal.forget-requires
forget-requires g c = omega (arith, c.requires.known.there, c.requires.cutting.one_each.dists)

pub loop-number-init : goal.loop-number-init
loop-number-init g c =
    let v = c.args.net.now in
    let root = c.args.root.0 in
    let at = c.links_at-number-items in
    let s = state_of c.args.self.now in
    let s' = state_of c.forget.new.self in
    record {
      cutting =
          held_first v root at.ensures.form.network c.args.way at.result.now s' at.ensures.links
          (forgotten v root s s' c.args.way c.requires.cutting c.requires.known c.requires.not_root c.in_ok-forget.ensures);
      reached = one_less v root s s' c.args.way c.requires.cutting c.requires.known c.requires.not_root c.in_ok-forget.ensures;
      queued = omega (arith, ap length c.in_ok-forget.ensures.queue, c.forget.new.self.queue.data.ok.0, c.args.self.now.queue.data.ok.0);
      steps = search rules;
    }

pub up-requires : goal.up-requires
up-requires g c =
    let at = c.links_at-number-items in
    place_there c.args.net.now c.args.way.to at.result.now at.ensures.links c.loop-number.number-index c.loop-number-test.true

pub link-requires : goal.link-requires
link-requires g c =
    let at = c.links_at-number-items in
    place_there c.args.net.now c.args.way.to at.result.now at.ensures.links c.loop-number.number-index c.loop-number-test.true

pub over-requires : goal.over-requires
over-requires g c =
    let at = c.links_at-number-items in
    let i = c.loop-number.number-index in
    let l = (get_or at.result.now i (record { 0 = 0 })).0 in
    let there : l < length c.args.net.now.ends =
    place_there c.args.net.now c.args.way.to at.result.now at.ensures.links i c.loop-number-test.true in
    omega (
      arith,
      sum_fits_cut c.args.net.now c.args.root.0 at.ensures.form.network c.requires.root (OneLate c.args.way.to)
          (state_of c.args.self.now) c.args.way.to c.args.way.cost l c.requires.cutting c.requires.known.there there c.requires.known.cost,
      ap
          (λ (e : LinkEnds). e.cost) c.link.ensures.value,
    )

pub doubt-requires : goal.doubt-requires
doubt-requires g c =
    let v = c.args.net.now in
    let at = c.links_at-number-items in
    let i = c.loop-number.number-index in
    let l = (get_or at.result.now i (record { 0 = 0 })).0 in
    let goes_on : goes v c.args.way.to l ≡ true =
    place_goes v c.args.way.to at.result.now at.ensures.links i l (record { 0 = 0 }) c.loop-number-test.true refl (sym c.up.ensures ∙ c.if-up.true) in
    let is : c.over.result ≡ way_over c.args.root.0 c.args.way (link (wiring_of v) l) =
    c.over.ensures ∙ ap (way_over c.args.root.0 c.args.way) c.link.ensures.value in
    omega (arith, ap (λ (w : Way). w.to) is, beyond_below v at.ensures.form.network c.args.way.to l goes_on, c.loop-number.invariant.cutting.one_each.dists)

pub loop-number-preserved : goal.loop-number-preserved
loop-number-preserved g c =
    let v = c.args.net.now in
    let root = c.args.root.0 in
    let way = c.args.way in
    let at = c.links_at-number-items in
    let net = at.ensures.form.network in
    let i = c.loop-number.number-index in
    let l = (get_or at.result.now i (record { 0 = 0 })).0 in
    let s = state_of c.loop-number.self in
    elim c.if-up.branch [
      | then-up+in_ok-doubt w ↦
          (let goes_on : goes v way.to l ≡ true =
          place_goes v way.to at.result.now at.ensures.links i l (record { 0 = 0 }) c.loop-number-test.true refl (sym c.up.ensures ∙ w.if-up.true) in
          let s' = state_of w.doubt.new.self in
          let is : w.over.result ≡ way_over root way (link (wiring_of v) l) = w.over.ensures ∙ ap (way_over root way) w.link.ensures.value in
          let o : Doubts s s' (way_over root way (link (wiring_of v) l)) = subst (Doubts s s') is w.in_ok-doubt.ensures.doubts in
          let size = doubt_size _ s s' (way_over root way (link (wiring_of v) l)) o in
          record {
            cutting = subst (λ (m : Mend). IsCutting v root (HeldBy v root way at.result.now (i + 1)) (state_of m)) (sym w.self-is)
                (held_next v root net way at.result.now c.args.self.now.tree s s' i l (record {
                  0 =
                      0;
                }) c.requires.known refl goes_on c.loop-number.invariant.cutting o);
            reached = ap (λ (m : Mend). reached m.tree + 1) w.self-is ∙ ap (λ (t : PathTable). reached t + 1) size.0 ∙ c.loop-number.invariant.reached;
            queued = omega (
              arith,
              ap (λ (m : Mend). heap_len m.queue) w.self-is,
              size.1,
              c.loop-number.invariant.queued,
              w.doubt.new.self.queue.data.ok.0,
              c.loop-number.self.queue.data.ok.0,
            );
            steps = search rules;
          })
      | else-up w ↦
          record {
            cutting = subst (λ (m : Mend). IsCutting v root (HeldBy v root way at.result.now (i + 1)) (state_of m)) (sym w.self-is)
                (held_down v root net way at.result.now s i l (record { 0 = 0 }) refl (sym c.up.ensures ∙ w.if-up.false) c.loop-number.invariant.cutting);
            reached = ap (λ (m : Mend). reached m.tree + 1) w.self-is ∙ c.loop-number.invariant.reached;
            queued = omega (arith, ap (λ (m : Mend). heap_len m.queue) w.self-is, c.loop-number.invariant.queued);
            steps = search rules;
          }
    ]

pub returns-clause-cutting : goal.returns-clause-cutting
returns-clause-cutting g c =
    let at = c.links_at-number-items in
    held_past c.args.net.now c.args.root.0 at.ensures.form.network c.args.way at.result.now
    (state_of c.loop-number.self) c.loop-number.number-index c.loop-number-test.false c.loop-number.invariant.cutting

pub returns-clause-less : goal.returns-clause-less
returns-clause-less g c =
    omega (arith, c.loop-number.invariant.reached, c.loop-number.invariant.queued, c.loop-number.self.queue.data.ok.0, c.args.self.now.queue.data.ok.0)
