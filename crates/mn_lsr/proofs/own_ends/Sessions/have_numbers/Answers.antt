use Rattle.std.proofs.Common.{◌≡◌, true, get_or, sym, ap, subst, ◌∙◌}
use Rattle.std.specs.Prelude.{None}
use Rattle.std.specs.List.{list_all}
use Rattle.mn_lsr.specs.declared.own_ends.End.{End}
use Rattle.mn_lsr.specs.OwnEnds.{Listed}
use Rattle.mn_lsr.specs.Parts.{has_numbers}
use Rattle.mn_lsr.proofs.Noted.{numbers_at}
use Rattle.mn_lsr.proofs.own_ends.Sessions.have_numbers.Goals as goal

pub returns : goal.returns
returns c = λ yes l.
    subst (λ (s : Listed). has_numbers (get_or s.items l None) ≡ true) c.self.view_is
    (numbers_at c.self.inside.links c.self.inside.ends.items l
    (ap (list_all (λ (e : End). has_numbers e.noted)) (sym c.deref.ensures.value) ∙ sym c.all_have_numbers.ensures ∙ yes))
