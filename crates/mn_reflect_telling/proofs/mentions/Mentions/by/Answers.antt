use Rattle.std.proofs.Common.{◌≡◌, ◌<◌, [], length, sym, subst}
use Rattle.std.specs.Prelude.{slice_index_or}
use Rattle.std.specs.List.{AllByRecursion}
use Rattle.std.proofs.lemmas.List.{get_or_read}
use Rattle.mn_reflect_telling.specs.Passing.{IsPassable, IfPassable}
use Rattle.mn_reflect_telling.proofs.Kept.{found_passes, row_passes}
use Rattle.mn_reflect_telling.proofs.mentions.Mentions.by.Goals as goal

pub returns-clause-passable : goal.returns-clause-passable
returns-clause-passable c = λ topology are.
    let heard = c.args.self.now.heard.now in
    let k = c.from.result in
    let below : k < length heard = subst (λ n. n < length heard) (sym c.from.ensures) c.requires in
    let row : c.index-heard-from.result ≡ slice_index_or heard k [] = get_or_read heard k c.index-heard-from.result below c.index-heard-from.is [] in
    subst (IfPassable topology) (sym c.get.ensures)
    (found_passes topology c.args.self.now.vrf.0 c.args.self.now.prefix c.index-heard-from.result
    (subst (AllByRecursion (IsPassable topology)) (sym row) (row_passes topology heard k are.each)))
