use Rattle.std.proofs.Common.{ap, ◌∙◌}
use Rattle.mn_output_laws.specs.Tables.{bgp_name}
use Rattle.mn_tables.proofs.bgp.put_bgp.Goals as goal

pub returns : goal.returns
returns g c = λ world is_one is_other. c.put_states.ensures world
    (c.as_bytes.ensures.value ∙ c.bgp_name.ensures ∙ ap bgp_name is_one) (c.as_bytes-2.ensures.value ∙ c.bgp_name-2.ensures ∙ ap bgp_name is_other)
