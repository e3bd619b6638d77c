use Rattle.std.proofs.Common.{◌≡◌, length, drop}
use Rattle.std.specs.List.{flat_map}
use Rattle.mn_bindings.specs.News.{ended_since}
use Rattle.mn_bindings.specs.Known.{all_stopped}
use Rattle.mn_bindings.proofs.known.stop.Given as goal

abbrev pub invariant-loop-one : goal.invariant-loop-one
invariant-loop-one l = record {
  rest : all_stopped l.tick l.rests (flat_map (ended_since l.bound) (drop l.one-index l.before))
      ≡ all_stopped l.tick l.fn.rests (flat_map (ended_since l.bound) l.before);
  rested : length l.rests.rested ≡ length l.fn.rests.rested;
}
