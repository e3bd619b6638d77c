use Rattle.std.proofs.Common.{ap, ◌∙◌}
use Rattle.mn_output_laws.specs.Tables.{up_or_down}
use Rattle.mn_tables.proofs.links.put_link.Goals as goal

pub returns : goal.returns
returns g c = λ world is_up is_changes. c.put_state.ensures world (c.as_bytes.ensures.value ∙ c.up_or_down.ensures ∙ ap up_or_down is_up) is_changes
