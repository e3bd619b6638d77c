-- What contracts see of two networks that are joined, and when it is what has happened in both.
use Rattle.std.specs.Prelude.{◌≡◌, ◌≢◌, ◌<◌, ◌≤◌, ◌*◌, ◌^◌, ℕ, List, map, length, slice_get, slice_index_or, Option, Some, None}
use Rattle.std.specs.List.{All, AllPairs}
use Rattle.mn_base.specs.declared.numbers.SiteNo.{SiteNo}
use Rattle.mn_topo.specs.Network.{Network}
use Rattle.mn_ledger_laws.specs.Named.{AreBytes}
use Rattle.mn_net_laws.specs.Now.{NetNow, StandsFor}
use Rattle.mn_sched.specs.Playing.{past_of}
use Rattle.mn_join_laws.specs.declared.leg.Which.{Which}
use Rattle.mn_join_laws.specs.declared.leg.Which.TheVariants.{First, Second}
use Rattle.mn_join_laws.specs.Pairing.{Joint, Pairing, network, partner, Side, Both, side, Travel}
use Rattle.mn_join_laws.specs.Course.{Exit}
use Rattle.mn_join.specs.declared.played.PairBad.{PairBad}
use Rattle.mn_join.specs.Ends.{LeadBelow}

-- 1. The joints

abbrev pub joint_of : SiteNo × SiteNo → Joint
joint_of joined = record { first = joined.0.0; second = joined.1.0 }

abbrev pub pairing_of : Network → Network → List (SiteNo × SiteNo) → Pairing
pairing_of first second joints = record { first = first; second = second; joints = map joint_of joints }

-- the sites are those of the two networks
abbrev pub AreSites : Network → Network → List (SiteNo × SiteNo) → Type 0
AreSites first second joints = All (λ joint. (joint.0.0 < length first.sites) × (joint.1.0 < length second.sites)) joints

-- no site stands twice on its side
abbrev pub AreApart : List (SiteNo × SiteNo) → Type 0
AreApart joints = AllPairs (λ one other. (one.0.0 ≢ other.0.0) × (one.1.0 ≢ other.1.0)) joints

-- 2. What is kept

-- of one network: the network, by site the site to which it is joined, and by injection the packet that it is a leg of
pub record SideNow : Type 0 where
  pub net : NetNow
  pub partners : List (Option SiteNo)
  pub owners : List ℕ

pub record PairNow : Type 0 where
  pub first : SideNow
  pub second : SideNow
  pub travels : List Travel  -- by packet
  pub exits : List Exit  -- what came out in the last line
  pub stopped : Option PairBad  -- what stopped a line

abbrev pub side_of : PairNow → Which → SideNow
side_of pair First = pair.first
side_of pair Second = pair.second

abbrev pub net_of : PairNow → Which → NetNow
net_of pair First = pair.first.net
net_of pair Second = pair.second.net

-- the sites to which the sites of a network are joined are those of the other
abbrev pub LeadTo : Network → List (Option SiteNo) → Type 0
LeadTo other partners = LeadBelow (length other.sites) partners

-- the clock has gone on by at most 1,000,000 ticks a step
abbrev pub IsPacedFromStart : NetNow → Type 0
IsPacedFromStart net = net.tick ≤ 1000000 * length net.journal

-- What holds of every pair. Each packet has the number of a record, from 1; what came out in a line is numbered; and the clocks are behind
-- their steps until a line is stopped.
pub record IsPair (pair : PairNow) : Type 0 where
  pub first_joints : LeadTo pair.second.net.topology pair.first.partners
  pub second_joints : LeadTo pair.first.net.topology pair.second.partners
  pub numbers : All (λ packet. 1 ≤ packet.number) pair.travels
  pub few : length pair.travels < 2 ^ 32
  pub few_exits : length pair.exits < 2 ^ 32
  pub first_clock : pair.stopped ≡ None → IsPacedFromStart pair.first.net
  pub second_clock : pair.stopped ≡ None → IsPacedFromStart pair.second.net

-- 3. What has happened

-- the site to which a site is joined, if there is such a site
abbrev pub joined_to : Option (Option SiteNo) → Option ℕ
joined_to None = None
joined_to (Some None) = None
joined_to (Some (Some site)) = Some site.0

-- a network works, and is what has happened in it; what was sent into it are bytes; its joints are those of the pairing
pub record IsSide (pairing : Pairing) (which : Which) (now : SideNow) (side : Side) : Type 0 where
  pub topology : now.net.topology ≡ network pairing which
  pub stands : StandsFor now.net side.inputs
  pub past : past_of now.net ≡ side.past
  pub owners : now.owners ≡ side.owners
  pub owned : length side.owners ≡ length side.inputs
  pub bytes : AreBytes side.inputs
  pub joined : (s : ℕ) → joined_to (slice_get now.partners s) ≡ partner pairing which s

-- each injection is a leg of a packet
abbrev pub Belong : Both → Type 0
Belong both = (which : Which) (j : ℕ) → j < length (side both which).owners → slice_index_or (side both which).owners j 0 < length both.travels

-- both networks are what has happened, and the packets and their legs are those
pub record PairStands (pairing : Pairing) (pair : PairNow) (both : Both) : Type 0 where
  pub sides : (which : Which) → IsSide pairing which (side_of pair which) (side both which)
  pub travels : pair.travels ≡ both.travels
  pub belong : Belong both

-- the same once a full journal has stopped a line: a clock may have gone on
pub record IsStoppedSide (pairing : Pairing) (which : Which) (now : SideNow) (side : Side) : Type 0 where
  pub topology : now.net.topology ≡ network pairing which
  pub stands : StandsFor now.net side.inputs
  pub entries : now.net.journal ≡ side.past.entries

pub record HasStopped (pairing : Pairing) (pair : PairNow) (both : Both) : Type 0 where
  pub sides : (which : Which) → IsStoppedSide pairing which (side_of pair which) (side both which)
  pub travels : pair.travels ≡ both.travels
