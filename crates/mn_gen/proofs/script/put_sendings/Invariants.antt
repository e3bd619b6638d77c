use Rattle.std.proofs.Common.{◌≡◌, ◌++◌, take}
use Rattle.std.specs.List.{flat_map}
use Rattle.mn_gen.specs.Script.{sending}
use Rattle.mn_gen.proofs.script.put_sendings.Given as goal

abbrev pub invariant-loop-turn : goal.invariant-loop-turn
invariant-loop-turn l = l.out.items ≡ l.fn.out.items ++ flat_map (sending l.number) (take l.turn-index l.turns)
