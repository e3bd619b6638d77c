use Rattle.std.proofs.Common.{◌<◌, List, [], length, get_or, sym, ap, ◌∙◌, subst, arith}
use Rattle.std.proofs.lemmas.List.{get_or_default}
use Rattle.mn_base.specs.declared.numbers.LinkNo.{LinkNo}
use Rattle.mn_linkdb.specs.Learned.{Learned}
use Rattle.mn_spf.specs.Ways.{AreLinksAt}
use Rattle.mn_spf_inc.specs.Nets.{all_up}
use Rattle.mn_spf_inc.proofs.net.Net.links_at.Goals as goal

pub returns-clause-links : goal.returns-clause-links
returns-clause-links c =
    let lists = c.self.inside.at in
    let node = c.args.node.0 in
    let there : node < length lists = omega (arith, c.requires, ap (λ (v : Learned). v.nodes) c.self.view_is) in
    subst (λ (v : Learned). AreLinksAt (all_up v.nodes v.ends) node c.as_slice-2.result.now) c.self.view_is
    (subst (AreLinksAt (all_up (length lists) c.self.inside.ends) node)
    (sym (c.as_slice-2.ensures ∙ c.index-as_slice-from.is
    ∙ ap (λ (ls : List (List LinkNo)). get_or ls c.from.result c.index-as_slice-from.result) c.as_slice.ensures
    ∙ ap (λ n. get_or lists n c.index-as_slice-from.result) c.from.ensures
    ∙ get_or_default lists node c.index-as_slice-from.result [] there))
    (c.self.invariant.at.at node there))
