use Rattle.std.proofs.Common.{◌∙◌}
use Rattle.std.specs.List.{flat_map}
use Rattle.mn_reflect_world_laws.specs.Choice.{names_in}
use Rattle.mn_reflect_telling.proofs.ByName.{names_in_order}
use Rattle.mn_reflect_telling.proofs.Results.{if_ok}
use Rattle.mn_reflect_telling.proofs.names.names_of.Goals as goal

pub returns : goal.returns
returns c = if_ok c.list.result (λ names same. same ∙ c.in_ok-names.ensures ∙ names_in_order (flat_map names_in c.args.heard.now)) c.list.ensures
