use Rattle.std.proofs.Common.{subst}
use Rattle.mn_reflect_run.specs.Playing.{ShowsAt}
use Rattle.mn_reflect_run.proofs.Plays.{table_put}
use Rattle.mn_reflect_run.proofs.play.put_shown.Goals as goal

pub returns-in-Show : goal.returns-in-Show
returns-in-Show g c = λ reflectors steps shows.
    table_put c.args.topology.now reflectors steps c.args.command c.in-Show.vrf _ _ _ c.in-Show.is
    (c.put_table.ensures reflectors steps (subst (λ x. ShowsAt c.args.topology.now reflectors steps x c.args.reflect.now) c.in-Show.is shows))
