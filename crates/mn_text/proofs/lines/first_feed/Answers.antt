use Rattle.mn_text.proofs.Feeds.{first_feed_is}
use Rattle.mn_text.proofs.lines.first_feed.Goals as goal

pub returns : goal.returns
returns c = first_feed_is c.args.text.now c.memchr.result c.memchr.ensures
