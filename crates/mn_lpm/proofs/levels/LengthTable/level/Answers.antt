use Rattle.std.proofs.Common.{arith, ap, ◌∙◌, ◌<◌, length, get_or, List}
use Rattle.mn_prefix.specs.Prefix.{AddressBlock}
use Rattle.mn_lpm.specs.Levels.{level_of}
use Rattle.mn_lpm.proofs.ByLength.{level_is}
use Rattle.mn_lpm.proofs.levels.LengthTable.level.Goals as goal

pub returns : goal.returns
returns g c =
    let there : c.args.length < length c.self.inside.levels = omega (arith, c.self.told, c.requires) in
    ap (λ n. (get_or c.self.inside.levels n c.index-self-from.result).entries) c.from.ensures
    ∙ level_is c.self.inside.levels c.args.length c.index-self-from.result there
    ∙ ap (λ (pairs : List (AddressBlock × g.row.T.Denot)). level_of c.args.length pairs) c.self.view_is
