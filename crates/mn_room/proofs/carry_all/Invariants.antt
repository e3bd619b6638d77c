use Rattle.std.specs.Prelude.{◌-◌}
use Rattle.mn_net_laws.specs.Now.{HasRoom}
use Rattle.mn_room.proofs.carry_all.Given as goal

abbrev pub invariant-loop-turn : goal.invariant-loop-turn
invariant-loop-turn l = HasRoom l.net (l.steps - l.turn)
