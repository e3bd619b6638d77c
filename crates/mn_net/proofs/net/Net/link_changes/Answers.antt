use Rattle.std.proofs.Common.{◌∙◌}
use Rattle.mn_net_laws.proofs.Told.{net_is, link_in}
use Rattle.mn_net.proofs.Views.{changes_seen}
use Rattle.mn_net.proofs.net.Net.link_changes.Goals as goal

pub link_changes-requires : goal.link_changes-requires
link_changes-requires c = link_in _ _ c.self.view_is (net_is _ _ c.self.view_is c.self.invariant c.requires.works) c.args.link.0 c.requires.link

pub returns : goal.returns
returns c = record { told = c.link_changes.ensures ∙ changes_seen _ _ c.self.view_is c.self.invariant c.requires.works c.args.link.0 c.requires.link }
