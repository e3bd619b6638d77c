-- Two edges with a reflector between them, in which reflection is tried.
--
--   site a --- pe1 0 --- p 1 --- pe2 2 --- site b
use Rattle.std.specs.Prelude.{◌≡◌, ℕ, List, [], ◌∷◌, length}
use Rattle.mn_topo.specs.declared.steps.Step.TheVariants as step
use Rattle.mn_ledger.proofs.TwoLinks.{two_links, node_no}
use Rattle.mn_ledger.specs.World.{Export}
use Rattle.mn_reflect_ledger_laws.specs.Words.{Open, KeepAlive, Announce, Withdraw}
use Rattle.mn_reflect_ledger_laws.specs.Picks.{ReflectWorld}
use Rattle.mn_reflect_ledger_laws.specs.World.{world_of, after, drained}
use Rattle.mn_reflect_ledger_laws.specs.Quiet.{reflected}

abbrev pub by_p : List ℕ
by_p = 1 ∷ []

abbrev pub both_up : ReflectWorld
both_up = world_of two_links by_p (step.BgpUp (node_no 0) (node_no 1) ∷ step.BgpUp (node_no 1) (node_no 2) ∷ [])

-- twelve words are received
abbrev pub joined : ReflectWorld
joined = drained 12 two_links by_p both_up

-- then the session of pe1 ends
abbrev pub one_down : ReflectWorld
one_down = after two_links by_p joined (step.BgpDown (node_no 0) (node_no 1))

-- what each edge exports: 10.1.0.0/16 over site a, 10.2.0.0/16 over site b, with the target 65000:100
abbrev pub export_of_pe1 : Export
export_of_pe1 = record { vrf = 0; prefix = record { address = 167837696; length = 16 }; site = 0; attachment = 1; targets = 842122827661412 ∷ [] }

abbrev pub export_of_pe2 : Export
export_of_pe2 = record { vrf = 1; prefix = record { address = 167903232; length = 16 }; site = 1; attachment = 1; targets = 842122827661412 ∷ [] }

pub record AreReflectedTo : Type 0 where
  pub four : length both_up.flying ≡ 4
  pub eleven_leave_one : length (drained 11 two_links by_p both_up).flying ≡ 1
  pub quiet : joined.flying ≡ []
  -- pe2 has received from p: OPEN, KEEPALIVE, and pe1's route, with p's address as the cluster
  pub heard : joined.heard 2 1 ≡ Open ∷ KeepAlive ∷ Announce (record { export = export_of_pe1; clusters = 3221225986 ∷ [] }) ∷ []
  pub by_pe1 : reflected two_links by_p joined 0 ≡ export_of_pe2 ∷ []
  pub by_pe2 : reflected two_links by_p joined 2 ≡ export_of_pe1 ∷ []
  -- the session's end makes one withdrawal, and leaves pe2 without the route
  pub withdrawn : one_down.flying ≡ record { from = 1; to = 2; word = Withdraw (record { vrf = 0; prefix = record { address = 167837696; length = 16 } }) } ∷ []
  pub gone : reflected two_links by_p (drained 1 two_links by_p one_down) 2 ≡ []
