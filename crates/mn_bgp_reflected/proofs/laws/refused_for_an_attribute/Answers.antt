use Rattle.mn_bgp_reflected.proofs.Messages.{refused_as_another, refused_by_originator, refused_by_clusters}
use Rattle.mn_bgp_reflected.proofs.laws.refused_for_an_attribute.Goals as goal

pub returns-clause-kind : goal.returns-clause-kind
returns-clause-kind c = refused_as_another

pub returns-clause-originator : goal.returns-clause-originator
returns-clause-originator c = refused_by_originator

pub returns-clause-clusters : goal.returns-clause-clusters
returns-clause-clusters c = refused_by_clusters
