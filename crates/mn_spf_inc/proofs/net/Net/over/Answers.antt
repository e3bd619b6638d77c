use Rattle.std.proofs.Common.{◌≡◌, length, replicate, ◌∙◌, ap, subst, refl, rules}
use Rattle.std.specs.Prelude.{false}
use Rattle.std.proofs.lemmas.List.{length-replicate}
use Rattle.mn_linkdb.specs.Learned.{Learned, IsView}
use Rattle.mn_spf_inc.specs.Nets.{all_down}
use Rattle.mn_spf_inc.proofs.Nets.{seen_down}
use Rattle.mn_spf_inc.proofs.net.Net.over.Goals as goal

pub returns-clause-net : goal.returns-clause-net
returns-clause-net c =
    let down : c.in_ok-up.up.items ≡ replicate (length c.links.inside.ends) false = search rules in
    seen_down (length c.in_ok-at.at) (length c.links.inside.at) c.in_ok-ends.ends c.links.inside.ends c.in_ok-up.up.items (ap length c.in_ok-at.ensures)
    c.in_ok-ends.ensures down
    ∙ c.links.view_is

pub returns-clause-form : goal.returns-clause-form
returns-clause-form c =
    subst IsView c.links.view_is
    (record { network = c.links.invariant.network; one_each = length-replicate (length c.links.inside.ends) 0 })

pub returns-clause-down : goal.returns-clause-down
returns-clause-down c = subst (λ (v : Learned). v ≡ all_down v.nodes v.ends) c.links.view_is refl
