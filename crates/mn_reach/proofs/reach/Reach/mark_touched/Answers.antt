use Rattle.std.proofs.Common.{◌≡◌, length, ◌∙◌, ap, arith}
use Rattle.mn_reach.specs.Reaching.{Reaching}
use Rattle.mn_reach.proofs.Marking.{all_marked}
use Rattle.mn_reach.proofs.reach.Reach.mark_touched.Goals as goal

pub returns : goal.returns
returns c = λ t of.
    let r = c.args.self.now in
    let links = c.mark_by_links.ensures in
    let sessions = c.mark_by_sessions.ensures in
    let pairs : length c.self.inside.pairs.items ≡ length r.plan.pairs = ap (λ (x : Reaching). length x.plan.pairs) c.self.view_is in
    let start : length c.fill.new.self.items ≡ length r.plan.pairs =
    omega (
      arith,
      pairs,
      c.len.ensures,
      c.in_ok-resize.ensures.len,
      c.fill.ensures.len,
      c.fill.new.self.ok.0,
      c.resize.new.self.ok.0,
      c.self.inside.pairs.ok.0,
    ) in
    let middle : length c.mark_by_links.new.marks.items ≡ length r.plan.pairs = links.keep.each ∙ start in
    let by_link = c.as_slice.ensures.value ∙ ap (λ (x : Reaching). x.plan.by_link) c.self.view_is in
    let up = c.as_slice-2.ensures.value ∙ ap (λ (x : Reaching). x.up) c.self.view_is in
    let ldp = c.as_slice-3.ensures.value ∙ ap (λ (x : Reaching). x.ldp) c.self.view_is in
    let by_home = c.as_slice-4.ensures.value ∙ ap (λ (x : Reaching). x.plan.by_home) c.self.view_is in
    let ended = c.as_slice-5.ensures.value ∙ ap (λ (x : Reaching). x.ended) c.self.view_is in
    all_marked t r of c.mark_by_sessions.new.marks.items
    (λ l k off there j. sessions.keep.kept k (links.marked l k (rw (up, ldp) off) (rw start there) (rw by_link j)))
    (λ session k i there j. sessions.one session k (rw ended i) (rw middle there) (rw by_home j))
    (λ session k i there j. sessions.other session k (rw ended i) (rw middle there) (rw by_home j))
    c.a_path_that_is_spared_stays.ensures (sessions.keep.each ∙ middle)
