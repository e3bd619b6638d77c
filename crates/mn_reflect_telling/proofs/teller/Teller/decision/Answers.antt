use Rattle.std.proofs.Common.{◌≡◌, ap, sym, subst, ◌∙◌}
use Rattle.mn_bgp_wire.specs.Says.{Says}
use Rattle.mn_bgp_wire.specs.Grammar.{IsBgp}
use Rattle.mn_bgp_wire.specs.declared.message.BgpMessage.TheVariants as messages
use Rattle.mn_reflect_ledger_laws.specs.Words.{Key}
use Rattle.mn_reflect_world_laws.specs.Choice.{reflected_to}
use Rattle.mn_reflect_world_laws.specs.Goes.{decision_says}
use Rattle.mn_reflect_telling.specs.Mentions.{numbers_of, row_in}
use Rattle.mn_reflect_telling.specs.Names.{named}
use Rattle.mn_reflect_telling.proofs.Decisions.{says_route, says_no_route}
use Rattle.mn_reflect_telling.proofs.Results.{if_ok}
use Rattle.mn_reflect_telling.proofs.teller.Teller.decision.Goals.{in-Some+in_ok-bytes-in-Some, in-None+in_ok-bytes-in-None}
use Rattle.mn_reflect_telling.proofs.teller.Teller.decision.Goals as goal

pub returns-clause-says : goal.returns-clause-says
returns-clause-says c =
    let t = c.args.self.now.topology.now in
    let rs = numbers_of c.args.self.now.reflectors.now in
    let row = row_in c.args.heard.now in
    let node = c.args.self.now.node.0 in
    let key : Key = named c.args.vrf c.args.prefix in
    let same : named c.plain-mentions.result.vrf c.plain-mentions.result.prefix ≡ key =
    ap (λ v. named v c.plain-mentions.result.prefix) c.plain-mentions.ensures.vrf ∙ ap (named c.args.vrf) c.plain-mentions.ensures.prefix in
    let says : Says = decision_says t key (reflected_to rs row node key) in
    let spelled : IsBgp c.match-by_reflectors.bytes.items (messages.Update says) =
    elim c.match-by_reflectors.branch [
      | in-Some+in_ok-bytes-in-Some w ↦
          rw w.bytes-is (subst (λ (u : Says). IsBgp w.in_ok-bytes-in-Some.bytes.items (messages.Update u))
          (says_route t rs row node key w.in-Some.offered.now (w.in-Some.ensures.said row c.plain-mentions.ensures.row ∙ ap (reflected_to rs row node) same))
          w.in_ok-bytes-in-Some.ensures)
      | in-None+in_ok-bytes-in-None w ↦
          rw w.bytes-is (subst (λ (u : Says). IsBgp w.in_ok-bytes-in-None.bytes.items (messages.Update u))
          (says_no_route t rs row node key (w.in-None.ensures.said row c.plain-mentions.ensures.row ∙ ap (reflected_to rs row node) same))
          w.in_ok-bytes-in-None.ensures.read_again)
    ] in
    if_ok c.update_of.result (λ update is. is says (subst (λ bytes. IsBgp bytes (messages.Update says)) (sym c.deref.ensures.value) spelled))
    c.update_of.ensures
