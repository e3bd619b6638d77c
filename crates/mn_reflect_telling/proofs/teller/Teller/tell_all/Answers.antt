use Rattle.std.proofs.Common.{◌≡◌, length, arith, sym, ap, ◌∙◌}
use Rattle.mn_reflect_ledger_laws.specs.Words.{Key}
use Rattle.mn_reflect_telling.specs.declared.name.Name.{Name}
use Rattle.mn_reflect_telling.specs.Mentions.{row_in}
use Rattle.mn_reflect_telling.specs.Names.{named, key_in}
use Rattle.mn_reflect_telling.specs.Telling.{posted}
use Rattle.mn_reflect_telling.proofs.News.{first_news_to}
use Rattle.mn_reflect_telling.proofs.Posting.{told_next, told_all, flat_of_map}
use Rattle.mn_reflect_telling.proofs.teller.Teller.tell_all.Goals as goal

pub tell_offer-requires-clause-nodes : goal.tell_offer-requires-clause-nodes
tell_offer-requires-clause-nodes c = c.loop-name.invariant.nodes

pub loop-name-preserved : goal.loop-name-preserved
loop-name-preserved c =
    let at = c.loop-name in
    let row = row_in c.args.heard.now in
    let same : named c.plain-mentions.result.vrf c.plain-mentions.result.prefix ≡ key_in c.name-item.result =
    ap (λ v. named v c.plain-mentions.result.prefix) c.plain-mentions.ensures.vrf ∙ ap (named c.name-item.result.vrf) c.plain-mentions.ensures.prefix in
    record {
      told = told_next (λ (name : Name). first_news_to c.args.self.now row c.args.peer.0 (key_in name)) c.args.names.now at.name-index
          c.name-item.result at.mail c.tell_offer.new.mail _ c.loop-name-test.true c.name-item.is
          (c.in_ok-tell_offer.ensures.told row c.plain-mentions.ensures.row
          ∙ ap (λ (key : Key). posted (first_news_to c.args.self.now row c.args.peer.0 key) at.mail) same)
          at.invariant.told;
      nodes = c.in_ok-tell_offer.ensures.nodes ∙ at.invariant.nodes;
    }

pub returns-clause-told : goal.returns-clause-told
returns-clause-told c =
    let end : c.loop-name.name-index ≡ length c.args.names.now = omega arith in
    told_all (λ (name : Name). first_news_to c.args.self.now (row_in c.args.heard.now) c.args.peer.0 (key_in name)) c.args.names.now c.loop-name.name-index
    c.loop-name.mail _ end
    c.loop-name.invariant.told
    ∙ sym (ap (λ letters. posted letters c.args.mail.now)
    (flat_of_map (first_news_to c.args.self.now (row_in c.args.heard.now) c.args.peer.0) key_in c.args.names.now))

pub returns-clause-nodes : goal.returns-clause-nodes
returns-clause-nodes c = c.loop-name.invariant.nodes ∙ sym c.requires.nodes
