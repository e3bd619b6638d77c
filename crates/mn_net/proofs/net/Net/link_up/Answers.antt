use Rattle.std.proofs.Common.{◌∙◌}
use Rattle.mn_net_laws.proofs.Told.{net_is, link_in}
use Rattle.mn_net.proofs.Views.{up_seen}
use Rattle.mn_net.proofs.net.Net.link_up.Goals as goal

pub is_link_up-requires : goal.is_link_up-requires
is_link_up-requires c = link_in _ _ c.self.view_is (net_is _ _ c.self.view_is c.self.invariant c.requires.works) c.args.link.0 c.requires.link

pub returns : goal.returns
returns c = record { told = c.is_link_up.ensures ∙ up_seen _ _ c.self.view_is c.self.invariant c.requires.works c.args.link.0 c.requires.link }
