use Rattle.std.proofs.Common.{◌≡◌, take}
use Rattle.mn_flood.specs.Queue.{with_sents}
use Rattle.mn_flood.proofs.Sends.{all_sent}
use Rattle.mn_flood.proofs.sending.send_on.Given as goal

abbrev pub invariant-loop-link : goal.invariant-loop-link
invariant-loop-link l = l.queue ≡ with_sents l.fn.queue (all_sent l.links l.node.0 l.advert l.up l.but.0 (take l.link-index l.link-items))
