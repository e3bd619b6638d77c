-- Two edges and two reflectors, of which r2 has the lesser address; pe1 has a session with r1 alone.
--
--   site a --- pe1 0 --- r1 1 ------ pe2 3 --- site b
--                         '--- r2 2 ---'
use Rattle.std.specs.Prelude.{◌≡◌, ℕ, List, [], ◌∷◌, length, Option, Some}
use Rattle.mn_topo.specs.Network.{Network}
use Rattle.mn_topo.specs.declared.steps.Step.TheVariants as step
use Rattle.mn_ledger.proofs.TwoLinks.{two_links, node_no, target}
use Rattle.mn_reflect_ledger_laws.specs.Words.{Key, Offer, Withdraw}
use Rattle.mn_reflect_ledger_laws.specs.Picks.{ReflectWorld, from_reflectors}
use Rattle.mn_reflect_ledger_laws.specs.World.{world_of, after, drained}
use Rattle.mn_reflect_ledger_laws.specs.TwoEdges.{export_of_pe1, export_of_pe2}

-- 192.0.2.2 and 192.0.2.4
abbrev pub r2_address : ℕ
r2_address = 3221225986

abbrev pub r1_address : ℕ
r1_address = 3221225988

-- no word of a session needs a link
abbrev pub two_reflectors : Network
two_reflectors = record two_links {
  node_names = (112 ∷ 101 ∷ 49 ∷ []) ∷ (114 ∷ 49 ∷ []) ∷ (114 ∷ 50 ∷ []) ∷ (112 ∷ 101 ∷ 50 ∷ []) ∷ [];
  loopbacks = 3221225985 ∷ r1_address ∷ r2_address ∷ 3221225987 ∷ [];
  links = [];
  vrfs = record { node = node_no 0; rd = record { 0 = 279172874240001 }; «import» = target ∷ []; export = target ∷ [] }
      ∷ record { node = node_no 3; rd = record { 0 = 279172874240002 }; «import» = target ∷ []; export = target ∷ [] } ∷ [];
}

abbrev pub by_both : List ℕ
by_both = 1 ∷ 2 ∷ []

abbrev pub four_up : ReflectWorld
four_up = world_of two_reflectors by_both (
    step.BgpUp (node_no 0) (node_no 1) ∷ step.BgpUp (node_no 1) (node_no 2)
    ∷ step.BgpUp (node_no 1) (node_no 3) ∷ step.BgpUp (node_no 2) (node_no 3) ∷ [])

-- four times OPEN and KEEPALIVE of each end; the route of pe1 to r1, of it to r2 and pe2, and of r2 to pe2; that of pe2 to both
-- reflectors, between them each way, and of r1 to pe1
abbrev pub all_joined : ReflectWorld
all_joined = drained 25 two_reflectors by_both four_up

-- then the session of the reflectors ends
abbrev pub parted : ReflectWorld
parted = after two_reflectors by_both all_joined (step.BgpDown (node_no 1) (node_no 2))

abbrev pub route_of_pe1 : Key
route_of_pe1 = record { vrf = 0; prefix = record { address = 167837696; length = 16 } }

abbrev pub route_of_pe2 : Key
route_of_pe2 = record { vrf = 1; prefix = record { address = 167903232; length = 16 } }

abbrev pub at_pe2 : ReflectWorld → Option Offer
at_pe2 world = from_reflectors two_reflectors by_both world 3 route_of_pe1

pub record AreThroughTwo : Type 0 where
  pub twenty_four_leave_one : length (drained 24 two_reflectors by_both four_up).flying ≡ 1
  pub quiet : all_joined.flying ≡ []
  -- of both reflectors the one of least address decides, and its own address stands first
  pub by_pe2 : at_pe2 all_joined ≡ Some (record { export = export_of_pe1; clusters = r2_address ∷ r1_address ∷ [] })
  -- what r1 received from pe2 itself, and not from r2
  pub by_pe1 : from_reflectors two_reflectors by_both all_joined 0 route_of_pe2 ≡ Some (record { export = export_of_pe2; clusters = r1_address ∷ [] })
  -- r2 has lost the route of pe1, and r1 has not
  pub withdrawn : parted.flying ≡ record { from = 2; to = 3; word = Withdraw route_of_pe1 } ∷ []
  pub left : at_pe2 (drained 1 two_reflectors by_both parted) ≡ Some (record { export = export_of_pe1; clusters = r1_address ∷ [] })
