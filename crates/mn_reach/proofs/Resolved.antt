-- What was planned for a topology is planned for it however next hops are resolved: it doesn't speak of that.
use Rattle.std.proofs.Common.{ℕ, Bool, List}
use Rattle.mn_topo.specs.Network.{Network}
use Rattle.mn_topo.specs.Lawful.{IsLawful}
use Rattle.mn_candidates.specs.declared.pairs.Pair.{Pair}
use Rattle.mn_reach.specs.declared.plan.Prospect.{Prospect}
use Rattle.mn_reach.specs.Plans.{Plan, IsFor, IsOf, pair_at, prospect_at}
use Rattle.mn_reach.specs.Verdicts.{resolving}

pub lawful_so : (t : Network) (resolve : Bool) → IsLawful t → IsLawful (resolving t resolve)
lawful_so t resolve is = record {
  asn = is.asn;
  notice_delay = is.notice_delay;
  bgp_delay = is.bgp_delay;
  few_nodes = is.few_nodes;
  few_links = is.few_links;
  few_vrfs = is.few_vrfs;
  few_sites = is.few_sites;
  nodes = is.nodes;
  links = is.links;
  vrfs = is.vrfs;
  sites = is.sites;
  joins_nodes = is.joins_nodes;
  ends_differ = is.ends_differ;
  joins_once = is.joins_once;
}

for_so : (t : Network) (resolve : Bool) (edges : List ℕ) (pair : Pair) (prospect : Prospect) → IsFor t edges pair prospect →
    IsFor (resolving t resolve) edges pair prospect
for_so t resolve edges pair prospect is = record {
  candidates = record { only = is.candidates.only; all = is.candidates.all; ordered = is.candidates.ordered };
  placed = is.placed;
  links = is.links;
}

pub of_so : (t : Network) (resolve : Bool) (plan : Plan) → IsOf t plan → IsOf (resolving t resolve) plan
of_so t resolve plan of = record {
  lawful = lawful_so t resolve of.lawful;
  nodes = of.nodes;
  links = of.links;
  edges = of.edges;
  each = of.each;
  sites = of.sites;
  planned = λ k there. for_so t resolve plan.edges (pair_at plan k) (prospect_at plan k) (of.planned k there);
  listed = record { links = of.listed.links; homes = of.listed.homes };
}
