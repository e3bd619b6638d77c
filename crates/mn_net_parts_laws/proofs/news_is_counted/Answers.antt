use Rattle.mn_net_parts_laws.proofs.News.{is_counted}
use Rattle.mn_net_parts_laws.proofs.news_is_counted.Goals as goal

pub returns : goal.returns
returns c = is_counted
