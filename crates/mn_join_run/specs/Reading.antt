-- What is told of two joined networks that have become what some lines made of them.
use Rattle.std.specs.Prelude.{◌≡◌, ◌+◌, ◌<◌, ◌^◌, List, length}
use Rattle.mn_base.specs.declared.numbers.SiteNo.{SiteNo}
use Rattle.mn_join_laws.specs.declared.leg.Which.{Which}
use Rattle.mn_join_laws.specs.declared.leg.Which.TheVariants.{First, Second}
use Rattle.mn_join_laws.specs.Pairing.{Pairing, Both}
use Rattle.mn_join.specs.Pairs.{PairNow, PairStands}
use Rattle.mn_join_run.specs.declared.ends.End.{End}
use Rattle.mn_join_run.specs.declared.ends.Totals.{Totals}
use Rattle.mn_join_run.specs.Report.{sites_of, totals_of}

-- the two networks are what some lines made of them
pub record IsJoined (pair : PairNow) : Type 0 where
  pub pairing : Pairing
  pub both : Both
  pub become : PairStands pairing pair both

-- the totals count some ends, for one more of which there is a number
pub record CountSome (totals : Totals) : Type 0 where
  pub ends : List End
  pub counted : totals ≡ totals_of ends
  pub few : length ends + 1 < 2 ^ 32

-- of each network the sites of its injections
pub record SitesNow : Type 0 where
  pub first : List SiteNo
  pub second : List SiteNo

abbrev pub sites_in : SitesNow → Which → List SiteNo
sites_in sites First = sites.first
sites_in sites Second = sites.second

pub record AreOf (sites : SitesNow) (both : Both) : Type 0 where
  pub first : sites.first ≡ sites_of both.first.past.entries
  pub second : sites.second ≡ sites_of both.second.past.entries
