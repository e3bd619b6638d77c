use Rattle.std.proofs.Common.{ap, slice_index_or, ◌∙◌}
use Rattle.mn_base.specs.declared.numbers.SiteNo.{SiteNo}
use Rattle.mn_topo.specs.Network.{Network}
use Rattle.mn_join_laws.specs.Pairing.{network}
use Rattle.mn_lines.specs.Names.{name_at}
use Rattle.mn_tables.proofs.Telling.{tells_as}
use Rattle.mn_join_run.proofs.Rows.{leg_row}
use Rattle.mn_join_run.proofs.Reading.{topology_is, sites_are}
use Rattle.mn_join_run.proofs.report.put_leg.Goals as goal

pub returns : goal.returns
returns g c = λ pairing both stands are. tells_as _ _ _ _ _ c.put_place.ensures
    (leg_row pairing both c.args.leg c.as_bytes.result.now c.site_name-name.result.now (c.as_bytes.ensures.value ∙ c.number_text-number.ensures)
    (c.site_name-name.ensures
    ∙ ap (λ (t : Network). name_at t.site_names c.at-site.result.0)
    (c.topology.ensures ∙ ap (λ n. n.topology) c.net.ensures ∙ topology_is pairing c.args.pair.now both stands c.args.leg.which)
    ∙ ap (λ (s : SiteNo). name_at (network pairing c.args.leg.which).site_names s.0)
    (c.at-site.ensures
    ∙ ap (λ sites. slice_index_or sites c.args.leg.packet (record { 0 = 0 })) (sites_are c.args.sites.now both are c.args.leg.which))))
