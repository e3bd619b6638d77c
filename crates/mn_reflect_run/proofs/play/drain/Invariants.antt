use Rattle.std.proofs.Common.{ℕ, ◌-◌, List}
use Rattle.mn_topo.specs.Network.{Network}
use Rattle.mn_reflect_run.specs.Course.{ReflectRun}
use Rattle.mn_reflect_run.specs.Playing.{IsAt}
use Rattle.mn_reflect_run.proofs.Courses.{ComesTo}
use Rattle.mn_reflect_run.proofs.play.drain.Given as goal

-- from where the run has come so many turns lead to its end
abbrev pub invariant-loop-turn : goal.invariant-loop-turn
invariant-loop-turn l =
    (topology : Network) (reflectors : List ℕ) (run : ReflectRun) → IsAt topology reflectors run l.initial.reflect →
    ComesTo topology reflectors run l.most (l.most - l._turn) l.reflect
