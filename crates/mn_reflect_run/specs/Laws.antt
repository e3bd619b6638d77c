-- What holds of each script, whatever its lines.
use Rattle.std.specs.Prelude.{◌≡◌, ◌≤◌, ◌+◌, ℕ, false, List, [], ◌∷◌, ◌++◌, length, Option, None}
use Rattle.std.specs.List.{Contains}
use Rattle.mn_topo.specs.Network.{Network}
use Rattle.mn_topo.specs.declared.steps.Step.{Step}
use Rattle.mn_ledger.specs.Places.{edge_of}
use Rattle.mn_ledger.specs.Held.{HeldRoute}
use Rattle.mn_reflect_ledger_laws.specs.World.{world_of}
use Rattle.mn_reflect_ledger_laws.specs.Holding.{HoldsItsRoutes}
use Rattle.mn_reflect_ledger_laws.specs.Quiet.{IsJoined}
use Rattle.mn_reflect_drain_laws.specs.Drain.{drain_bound}
use Rattle.mn_reflect_telling.specs.Mentions.{numbers_of}
use Rattle.mn_reflect_run.specs.declared.command.ReflectLine.{ReflectLine}
use Rattle.mn_reflect_run.specs.declared.command.ReflectCommand.TheVariants.{Drain}
use Rattle.mn_reflect_run.specs.Language.{Script}
use Rattle.mn_reflect_run.specs.Course.{ReflectRun, Table, run_of}

-- no message flies, each edge has a living session with a reflector, and each two reflectors have one
pub record IsQuiet (topology : Network) (reflectors : List ℕ) (steps : List Step) : Type 0 where
  pub none : (world_of topology reflectors steps).flying ≡ []
  pub joined : IsJoined topology reflectors (world_of topology reflectors steps)

-- where it is so, the VRF of a printed table holds just what a full mesh gives it: its own attached statics and, of all other VRFs of all
-- edges, the exports whose targets meet its import set
abbrev pub AreOfTheMesh : Network → List ℕ → ReflectRun → Type 0
AreOfTheMesh topology reflectors run =
    (v : ℕ) (steps : List Step) (route : HeldRoute) → Contains run.notes (Table v steps) → IsQuiet topology reflectors steps →
    HoldsItsRoutes topology reflectors (world_of topology reflectors steps) (edge_of topology v) v route

-- a drain that begins with m messages in flight receives at most R (1 + E) (m + B (1 + K)): R reflectors, E edges, B directions of living
-- sessions, and K routes that are exported, or were announced in these sessions; and then none flies, but where it has a number or steps
-- are full
pub record IsBounded (topology : Network) (reflectors : List ℕ) (most : Option ℕ) (before after : ReflectRun) : Type 0 where
  pub bounded : length after.steps ≤ length before.steps + drain_bound topology reflectors (world_of topology reflectors before.steps)
  pub quiet : most ≡ None → after.is_stopped ≡ false → (world_of topology reflectors after.steps).flying ≡ []

-- so does each drain of a script
abbrev pub AreDrained : Network → Script → Type 0
AreDrained topology script =
    (front back : List ReflectLine) (line : ReflectLine) (most : Option ℕ) → script.lines ≡ front ++ line ∷ back → line.command ≡ Drain most →
    (run_of topology (numbers_of script.reflectors) front).is_stopped ≡ false →
    IsBounded topology (numbers_of script.reflectors) most (run_of topology (numbers_of script.reflectors) front)
    (run_of topology (numbers_of script.reflectors) (front ++ line ∷ []))
