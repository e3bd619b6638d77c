use Rattle.toml.specs.View.{table_view}
use Rattle.mn_topo_toml.proofs.SiteSteps.{site_added}
use Rattle.mn_topo_toml.proofs.sites.with_entry.Goals as goal

pub returns-in_ok-more-in-Ok : goal.returns-in_ok-more-in-Ok
returns-in_ok-more-in-Ok c =
    site_added c.args.vrfs.now.names c.args.sites c.site_in.new.statics (table_view c.args.entry.now) _ _ _
    (rw c.in-Ok.is at c.in_ok-name.ensures) c.in_ok-more-in-Ok.ensures
