-- What each of the two networks tells.
use Rattle.std.proofs.Common.{◌≡◌, false, refl, ◌∙◌, ap}
use Rattle.mn_net_laws.specs.Now.{StandsFor}
use Rattle.mn_ledger.specs.Ledger.{packets_of}
use Rattle.mn_join_laws.specs.declared.leg.Which.{Which}
use Rattle.mn_join_laws.specs.declared.leg.Which.TheVariants.{First, Second}
use Rattle.mn_join_laws.specs.Pairing.{Pairing, network, Both, side, packets_in}
use Rattle.mn_join.specs.Pairs.{PairNow, net_of, side_of, PairStands}
use Rattle.mn_join_run.specs.Reading.{SitesNow, AreOf, sites_in}
use Rattle.mn_join_run.specs.Report.{sites_of}

-- the network of a side
pub net_is : (pair : PairNow) (which : Which) → net_of pair which ≡ (side_of pair which).net
net_is pair First = refl
net_is pair Second = refl

module _ (pairing : Pairing) (pair : PairNow) (both : Both) (stands : PairStands pairing pair both) where
  pub topology_is : (which : Which) → (net_of pair which).topology ≡ network pairing which
  topology_is which = ap (λ n. n.topology) (net_is pair which) ∙ (stands.sides which).topology

  pub entries_are : (which : Which) → (net_of pair which).journal ≡ (side both which).past.entries
  entries_are which = ap (λ n. n.journal) (net_is pair which) ∙ ap (λ past. past.entries) (stands.sides which).past

  pub stands_for : (which : Which) → StandsFor (net_of pair which) (side both which).inputs
  stands_for First = (stands.sides First).stands
  stands_for Second = (stands.sides Second).stands

  pub packets_are : (which : Which) →
      packets_of (net_of pair which).topology (net_of pair which).journal (side both which).inputs ≡ packets_in pairing both which
  packets_are which =
      ap (λ t. packets_of t (net_of pair which).journal (side both which).inputs) (topology_is which)
      ∙ ap (λ e. packets_of (network pairing which) e (side both which).inputs) (entries_are which)

  pub works : (which : Which) → (net_of pair which).failed ≡ false
  works which = (stands_for which).works

-- the sites of one of the two networks
pub sites_are : (sites : SitesNow) (both : Both) → AreOf sites both → (which : Which) → sites_in sites which ≡ sites_of (side both which).past.entries
sites_are sites both are First = are.first
sites_are sites both are Second = are.second
