use Rattle.std.proofs.Common.{◌≡◌, ◌<◌, ◌≤◌, length, arith, sym, ap, ◌∙◌}
use Rattle.std.specs.Prelude.{slice_index_or}
use Rattle.mn_net_tally.specs.Tallies.{Tally}
use Rattle.mn_net_tally.proofs.Rising.{told_there, told_past}
use Rattle.mn_net_tally.proofs.tally.Tally.loses.Goals as goal

pub returns-then-place-len : goal.returns-then-place-len
returns-then-place-len c =
    told_there c.deref.result.now c.args.self.now.lossy c.args.number c.place_of-place.result c.index.result.now
    (c.deref.ensures.value ∙ ap (λ (t : Tally). t.lossy) c.self.view_is) c.requires c.place_of-place.ensures
    (omega (arith, c.if-place-len.true, c.len.ensures, c.deref.ensures.len))
    (c.index.ensures ∙ ap (λ zs. slice_index_or zs c.place_of-place.result c.index.result.now) (sym c.deref.ensures.value))

pub returns : goal.returns
returns c =
    told_past c.deref.result.now c.args.self.now.lossy c.args.number c.place_of-place.result
    (c.deref.ensures.value ∙ ap (λ (t : Tally). t.lossy) c.self.view_is) c.place_of-place.ensures
    (omega (arith, c.if-place-len.false, c.len.ensures, c.deref.ensures.len))
