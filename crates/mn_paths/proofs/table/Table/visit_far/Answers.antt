use Rattle.std.proofs.Common.{◌≡◌, ◌<◌, ◌+◌, length, set, false, sym, ap, ◌∙◌, subst, arith, inl, inr, get_or}
use Rattle.std.proofs.lemmas.Bool.{lt-leb}
use Rattle.std.proofs.lemmas.List.{get_or_default}
use Rattle.mn_paths.specs.Visits.{further}
use Rattle.mn_paths.specs.Whole.{IsPath, AreApart, is_near, visits_of}
use Rattle.mn_paths.specs.declared.table.Path.{Path}
use Rattle.mn_paths.proofs.Kept.{visited, noted_far, kept_aside, room_of}
use Rattle.mn_paths.proofs.table.Table.visit_far.Goals as goal

pub returns-clause-visits : goal.returns-clause-visits
returns-clause-visits c =
    let p = c.index_mut-path.result.now in
    let far = c.args.self.now.far.items in
    let paths = c.args.self.now.paths.items in
    let read = c.index_mut-path.ensures.value in
    let mine = subst (λ x. IsPath (length far) x) (sym read) (c.requires.whole.each c.args.packet p c.requires.packet) in
    let many = subst (λ (x : Path). 6 < x.len) (sym read) (c.requires.far p) in
    let more = room_of paths far c.args.packet p c.requires.packet read c.requires.room in
    let is_far : is_near p ≡ false = lt-leb p.len 6 many in
    let at : p.start + c.from.result ≡ p.start + p.len = ap (λ k. p.start + k) c.from.ensures in
    visited paths far _ c.args.packet p _ c.args.node c.requires.packet read
    (λ k d low ne. kept_aside far p c.args.node (p.start + c.from.result) (get_or paths k d) (λ f.
    let between =
    subst (λ x. AreApart x (get_or paths k d)) (get_or_default paths c.args.packet d p c.requires.packet ∙ sym read)
    (c.requires.whole.apart c.args.packet k d c.requires.packet low (λ e. ne (sym e))) in
    let kept = c.requires.whole.each k d low in
    elim (between is_far f) [
      | inl before ↦ inl (omega (arith, before, at, more))
      | inr after ↦ inr (omega (arith, after, at, kept.len))
    ]))
    (subst (λ i. visits_of (set far i c.args.node) (record { near = p.near; start = p.start; len = p.len + 1; most = p.most })
    ≡ further (visits_of far p) c.args.node)
    (sym at) (noted_far far p c.args.node many (omega (arith, mine.there is_far, more))))
