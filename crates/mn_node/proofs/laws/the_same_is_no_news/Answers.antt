use Rattle.mn_node.proofs.News.{no_news}
use Rattle.mn_node.proofs.laws.the_same_is_no_news.Goals as goal

pub returns : goal.returns
returns c = no_news
