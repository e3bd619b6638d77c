-- What holds of each script, whatever its lines.
use Rattle.std.specs.Prelude.{◌≡◌, ◌≤◌, ◌+◌, true, false, All, List, [], ◌∷◌, ◌++◌}
use Rattle.mn_topo.specs.Network.{Network, wiring_of}
use Rattle.mn_flood_laws.specs.Drain.{drain_bound}
use Rattle.mn_flood_laws.specs.Course.{FloodRun}
use Rattle.mn_flood_run.specs.declared.command.FloodLine.{FloodLine}
use Rattle.mn_flood_run.specs.declared.command.FloodCommand.TheVariants.{Drain}
use Rattle.mn_flood_run.specs.Language.{command_fits}
use Rattle.mn_flood_run.specs.Report.{course_of, trees_text, settled_text}

-- each line names a link of the topology
abbrev pub AllFit : Network → List FloodLine → Type 0
AllFit topology lines = All (λ line. command_fits topology line.command ≡ true) lines

-- where no advert flies at the end, the printed trees are those over the links that are up: any two nodes of one component agree
abbrev pub AreSettled : Network → FloodRun → Type 0
AreSettled topology run = run.world.flying ≡ [] → trees_text topology run.world ≡ settled_text topology run.world.up

-- a drain that begins with f adverts receives at most f (1 + 2 L), L links, and then none flies, but where steps are full
pub record IsDrained (topology : Network) (before after : FloodRun) : Type 0 where
  pub bounded : after.steps ≤ before.steps + drain_bound (wiring_of topology) before.world
  pub quiet : after.is_stopped ≡ false → after.world.flying ≡ []

-- so does each drain of a script
abbrev pub AreDrained : Network → List FloodLine → Type 0
AreDrained topology lines =
    (front back : List FloodLine) (drain : FloodLine) → lines ≡ front ++ drain ∷ back → drain.command ≡ Drain → (course_of topology front).is_stopped ≡ false →
    IsDrained topology (course_of topology front) (course_of topology (front ++ drain ∷ []))
