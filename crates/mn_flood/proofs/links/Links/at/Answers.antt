use Rattle.mn_flood.proofs.Wired.{links_within, links_few}
use Rattle.mn_flood.proofs.links.Links.at.Goals as goal

pub returns-clause-within : goal.returns-clause-within
returns-clause-within c = links_within c.args.self.now c.args.node.0 c.kept_at.result.now c.kept_at.ensures

pub returns-clause-few : goal.returns-clause-few
returns-clause-few c = links_few c.args.self.now c.args.node.0 c.kept_at.result.now c.kept_at.ensures
