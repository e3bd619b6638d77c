use Rattle.std.proofs.Common.{length, set, ap, ◌∙◌}
use Rattle.mn_linkdb.specs.Learned.{Learned}
use Rattle.mn_spf_inc.specs.Nets.{seen_as, with_link}
use Rattle.mn_spf_inc.proofs.Nets.{seen_set}
use Rattle.mn_spf_inc.proofs.net.Net.set.Goals as goal

pub returns : goal.returns
returns c =
    let nodes = length c.self.inside.at in
    let ends = c.self.inside.ends in
    let ups = c.self.inside.up.items in
    ap (λ n. seen_as nodes ends (set ups n c.args.up)) c.from.ensures ∙ seen_set nodes c.args.number.0 ends ups c.args.up
    ∙ ap (λ (v : Learned). with_link v c.args.number.0 c.args.up) c.self.view_is
