use Rattle.std.proofs.Common.{length, sym, subst}
use Rattle.std.specs.Prelude.{All, ◌<◌}
use Rattle.mn_candidates.specs.declared.pairs.Pair.{Pair}
use Rattle.mn_reach_run.proofs.Sited.{all_sited}
use Rattle.mn_reach_run.proofs.play.new_player.Goals as goal

pub new-requires-2 : goal.new-requires-2
new-requires-2 c =
    subst (All (λ (pair : Pair). pair.site.0 < length c.args.topology.now.sites)) (sym c.requires.pairs) (all_sited c.args.topology.now)
