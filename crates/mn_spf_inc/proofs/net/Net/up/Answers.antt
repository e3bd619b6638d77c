use Rattle.std.proofs.Common.{◌<◌, length, get_or, sym, ap, ◌∙◌, arith}
use Rattle.std.specs.Prelude.{false}
use Rattle.std.proofs.lemmas.List.{get_or_default}
use Rattle.mn_wiring.specs.Wiring.{is_up}
use Rattle.mn_linkdb.specs.Learned.{Learned, links_up}
use Rattle.mn_spf_inc.proofs.Nets.{up_is}
use Rattle.mn_spf_inc.proofs.net.Net.up.Goals as goal

pub returns : goal.returns
returns c =
    let ups = c.self.inside.up.items in
    let l = c.args.number.0 in
    let there : l < length ups = omega (arith, c.requires, c.self.invariant.one_each, ap (λ (v : Learned). length v.ends) c.self.view_is) in
    c.index.ensures ∙ ap (λ n. get_or ups n c.index.result.now) c.from.ensures ∙ get_or_default ups l c.index.result.now false there
    ∙ sym (up_is (length c.self.inside.at) l c.self.inside.ends ups there) ∙ ap (λ (v : Learned). is_up (links_up v) l) c.self.view_is
