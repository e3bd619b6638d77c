-- Which steps move reflected routes, and what each is answered.
use Rattle.std.specs.Prelude.{◌≡◌, ℕ, ◌==◌, ◌&&◌, ◌||◌, Bool, true, false, not, nat_lt, List, [], ◌∷◌, Option, Some, None}
use Rattle.mn_topo.specs.Network.{Network}
use Rattle.mn_topo.specs.Lawful.{IsLawful}
use Rattle.mn_topo.specs.Steps.{fits}
use Rattle.mn_topo.specs.VrfTable.{is_edge}
use Rattle.mn_topo.specs.declared.steps.Step.{Step}
use Rattle.mn_topo.specs.declared.steps.Step.TheVariants as step
use Rattle.mn_reflect_ledger_laws.specs.Picks.{Spoken, is_reflector}
use Rattle.mn_reflect_ledger_laws.specs.Quiet.{AreReflectors}
use Rattle.mn_reflect_ledger_laws.specs.Holding.{AreDone}

-- a reflector, and an edge or another reflector: RFC 4456, section 6
abbrev pub may_peer : Network → List ℕ → ℕ → ℕ → Bool
may_peer topology reflectors one other =
    not (one == other) && ((is_reflector reflectors one && (is_reflector reflectors other || is_edge topology.vrfs other)) ||
    (is_reflector reflectors other && is_edge topology.vrfs one))

-- a session of two that may have one begins and ends with the lesser number first; and the steps of an edge
abbrev pub takes : Network → List ℕ → Step → Bool
takes topology reflectors (step.BgpUp a b) = may_peer topology reflectors a.0 b.0 && nat_lt a.0 b.0
takes topology reflectors (step.BgpDown a b) = may_peer topology reflectors a.0 b.0 && nat_lt a.0 b.0
takes topology reflectors (step.HearBgp a b) = may_peer topology reflectors a.0 b.0
takes topology reflectors (step.AddRoute s prefix) = fits topology (step.AddRoute s prefix)
takes topology reflectors (step.DelRoute s prefix) = fits topology (step.DelRoute s prefix)
takes topology reflectors (step.Import v on target) = fits topology (step.Import v on target)
takes topology reflectors (step.Export v on target) = fits topology (step.Export v on target)
takes topology reflectors (step.Attach s) = fits topology (step.Attach s)
takes topology reflectors (step.Detach s) = fits topology (step.Detach s)
takes topology reflectors _ = false

-- each of these steps is one that is taken, and nothing refuses it
abbrev pub AreTaken : Network → List ℕ → List Step → Type 0
AreTaken topology reflectors [] = Unit {0}
AreTaken topology reflectors (done ∷ steps) = (takes topology reflectors done ≡ true) × AreTaken topology reflectors steps

pub record IsLawfulRun (topology : Network) (reflectors : List ℕ) (steps : List Step) : Type 0 where
  pub topology_is : IsLawful topology
  pub are : AreReflectors topology reflectors
  pub taken : AreTaken topology reflectors steps
  pub done : AreDone topology reflectors steps

-- the hearing of the word sent first of all in flight
abbrev pub first_hearing : List Spoken → Option Step
first_hearing [] = None
first_hearing (spoken ∷ more) = Some (step.HearBgp (record { 0 = spoken.from }) (record { 0 = spoken.to }))
