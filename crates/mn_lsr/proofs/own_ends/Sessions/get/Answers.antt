use Rattle.std.proofs.Common.{get_or, sym, ap, ◌∙◌, None, arith}
use Rattle.std.proofs.lemmas.List.{get_or_past}
use Rattle.std.proofs.lemmas.List.FromFn.{length-map-range_with_len, get_or-map-range_with_len}
use Rattle.mn_lsr.specs.OwnEnds.{Listed, end_of, ends_of}
use Rattle.mn_lsr.proofs.own_ends.Sessions.get.Goals as goal

pub returns-then-from-self : goal.returns-then-from-self
returns-then-from-self c =
    let n = c.self.inside.links in
    let es = c.self.inside.ends.items in
    let l = c.args.link.0 in
    c.end_of.ensures ∙ ap (λ fs. end_of fs l) c.deref.ensures.value
    ∙ sym (get_or-map-range_with_len (end_of es) 0 n l l None (omega (arith, c.if-from-self.true, c.from.ensures)) (omega arith))
    ∙ ap (λ (s : Listed). get_or s.items l None) c.self.view_is

pub returns-else-from-self : goal.returns-else-from-self
returns-else-from-self c =
    let n = c.self.inside.links in
    let es = c.self.inside.ends.items in
    let l = c.args.link.0 in
    sym (get_or_past (ends_of n es) l None (omega (arith, c.if-from-self.false, c.from.ensures, length-map-range_with_len (end_of es) 0 n)))
    ∙ ap (λ (s : Listed). get_or s.items l None) c.self.view_is
