use Rattle.std.proofs.Common.{◌≡◌, take}
use Rattle.mn_flood.specs.Queue.{with_sents}
use Rattle.mn_flood.proofs.Sends.{over_it}
use Rattle.mn_flood.proofs.sending.send_all.Given as goal

abbrev pub invariant-loop-advert : goal.invariant-loop-advert
invariant-loop-advert l = l.queue ≡ with_sents l.fn.queue (over_it l.links l.node.0 l.link.0 (take l.advert-index l.advert-items))
