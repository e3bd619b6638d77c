use Rattle.std.proofs.Common.{◌∙◌}
use Rattle.mn_tables.proofs.routes.put_far_route.Goals as goal

pub returns : goal.returns
returns g c = λ given route address rd is_prefix is_far is_edge is_label. c.put_with_mark.ensures given route address rd c.args.far.unresolved is_prefix is_far
    is_edge is_label (c.as_bytes.ensures.value ∙ c.mark.ensures address rd)
