use Rattle.std.proofs.Common.{◌≡◌, length, arith, sym, ◌∙◌}
use Rattle.mn_reflect_telling.specs.Names.{named}
use Rattle.mn_reflect_telling.proofs.News.{news_to}
use Rattle.mn_reflect_telling.proofs.Posting.{told_at, told_all}
use Rattle.mn_reflect_telling.proofs.teller.Teller.tell.Goals as goal

pub loop-peer-preserved : goal.loop-peer-preserved
loop-peer-preserved c =
    let at = c.loop-peer in
    record {
      told = λ was row before after. told_at (news_to c.args.self.now was row (named c.args.after.now.vrf c.args.after.now.prefix)) c.args.peers.now
          at.peer-index
          (record { 0 = 0 }) at.mail c.tell_peer.new.mail _ c.loop-peer-test.true (c.in_ok-tell_peer.ensures.told was row before after)
          (at.invariant.told was row before after);
      nodes = c.in_ok-tell_peer.ensures.nodes ∙ at.invariant.nodes;
    }

pub returns-clause-told : goal.returns-clause-told
returns-clause-told c = λ was row before after.
    let at = c.loop-peer in
    let end : at.peer-index ≡ length c.args.peers.now = omega arith in
    told_all (news_to c.args.self.now was row (named c.args.after.now.vrf c.args.after.now.prefix)) c.args.peers.now at.peer-index at.mail _ end
    (at.invariant.told was row before after)

pub returns-clause-nodes : goal.returns-clause-nodes
returns-clause-nodes c = c.loop-peer.invariant.nodes ∙ sym c.requires.nodes
