-- Over every lawful run: where all is received in a joined network, each VRF holds what a full mesh gives it.
use Rattle.std.proofs.Common.{ℕ, ◌≡◌, List, [], ◌∷◌, sym, subst}
use Rattle.std.specs.List.{Contains}
use Rattle.mn_topo.specs.Network.{Network}
use Rattle.mn_topo.specs.declared.steps.Step.{Step}
use Rattle.mn_ledger.specs.Places.{edges}
use Rattle.mn_ledger.specs.Held.{HeldRoute}
use Rattle.mn_ledger.specs.Ledger.{first_config}
use Rattle.mn_reflect_ledger_laws.specs.World.{world_of}
use Rattle.mn_reflect_ledger_laws.specs.Quiet.{IsJoined}
use Rattle.mn_reflect_ledger_laws.specs.Holding.{AreApart}
use Rattle.mn_reflect_ledger_laws.proofs.Apart.{are_apart}
use Rattle.mn_reflect_world_laws.specs.Steps.{IsLawfulRun}
use Rattle.mn_talk_laws.specs.Talk.{seen, no_talks, talks_from, config_from}
use Rattle.mn_talk_laws.specs.Laws.{IsTalk, IsHeard, HoldsItsRoutes, AreOnce}
use Rattle.mn_talk_laws.specs.Keys.{AreThere}
use Rattle.mn_talk_laws.proofs.Run.{every_run_talks, run_configured, run_rests}
use Rattle.mn_talk_laws.proofs.Settled.{holds_all}
use Rattle.mn_talk_laws.proofs.Joined.{every_run_alike}

pub every_settled : (t : Network) (r : ℕ) (rs : List ℕ) (steps : List Step) → IsLawfulRun t (r ∷ rs) steps → AreOnce (r ∷ rs) →
    AreThere t (r ∷ rs) (first_config t) no_talks steps →
    IsHeard t (config_from (first_config t) steps) (talks_from t (r ∷ rs) (first_config t) no_talks steps) →
    IsJoined t (r ∷ rs) (seen (config_from (first_config t) steps) (talks_from t (r ∷ rs) (first_config t) no_talks steps)) →
    (edge v : ℕ) (route : HeldRoute) → Contains (edges t) edge →
    HoldsItsRoutes t (r ∷ rs) (config_from (first_config t) steps) (talks_from t (r ∷ rs) (first_config t) no_talks steps) edge v route
every_settled t r rs steps run once there heard joined edge v route is_one =
    holds_all t r rs (config_from (first_config t) steps) (talks_from t (r ∷ rs) (first_config t) no_talks steps) run.topology_is run.are
    (subst (AreApart t) (run_configured t (r ∷ rs) steps there) (are_apart t (r ∷ rs) steps run.topology_is run.done))
    (subst (IsTalk t (r ∷ rs) (config_from (first_config t) steps)) (sym (every_run_alike t (r ∷ rs) steps run once there))
    (every_run_talks t (r ∷ rs) steps there)) heard joined edge v route is_one

pub all_heard : (t : Network) (rs : List ℕ) (steps : List Step) → IsLawfulRun t rs steps → AreOnce rs →
    AreThere t rs (first_config t) no_talks steps → (world_of t rs steps).flying ≡ [] →
    IsHeard t (config_from (first_config t) steps) (talks_from t rs (first_config t) no_talks steps)
all_heard t rs steps run once there none =
    subst (IsHeard t (config_from (first_config t) steps)) (sym (every_run_alike t rs steps run once there)) (run_rests t rs steps there none)
