use Rattle.std.proofs.Common.{ap, ◌∙◌}
use Rattle.mn_tables.specs.States.{state_name}
use Rattle.mn_tables.proofs.ldp.put_ldp.Goals as goal

pub returns : goal.returns
returns g c = λ world is_a is_b. c.put_states.ensures world
    (c.as_bytes.ensures.value ∙ c.state_name.ensures ∙ ap state_name is_a) (c.as_bytes-2.ensures.value ∙ c.state_name-2.ensures ∙ ap state_name is_b)
