use Rattle.std.proofs.Common.{[], ◌≡◌, ◌∷◌, ◌∙◌, ap, refl, sym, length, arith}
use Rattle.mn_bgp_wire.specs.Says.{Says}
use Rattle.mn_vpn_nlri.specs.declared.message.VpnRoute.{VpnRoute}
use Rattle.mn_reflect_telling.proofs.Results.{on_ok}
use Rattle.mn_reflect.proofs.Brought.{one_item, announced_is, withdrawn_is, heard_so, takes_it, loses_it}
use Rattle.mn_reflect.proofs.reflect.Reflect.hear_update.Goals as goal

pub returns-in-len1 : goal.returns-in-len1
returns-in-len1 c = λ key mention is.
    let t = c.args.self.now.topology in
    let said = c.args.reflected.now in
    let r = c.route-item.result in
    let least = c.in-len1.len_at_least in
    let most = c.in-len1.len_below in
    let one : length c.reached.result.now ≡ 1 = omega (arith, least, most) in
    let there : said.update.reached ≡ r ∷ [] =
    ap (λ (s : Says). s.reached) (sym c.update-update.ensures) ∙ sym c.reached.ensures ∙ one_item c.reached.result.now r one c.route-item.is in
    let brought = announced_is t said r key mention is there in
    let same = heard_so t said r key mention brought c.in_ok-offered.offered
    (c.in_ok-offered.ensures brought.route.vrf brought.passable.vrf (ap (λ (x : VpnRoute). x.rd) brought.route_is)) in
    on_ok c.hear_announced.result
    (takes_it t said r key mention brought c.in_ok-offered.offered c.args.node.0 c.args.peer.0 c.args.self.now c.hear_announced.new.self same)
    c.hear_announced.ensures

pub returns-in-len1-withdrawn : goal.returns-in-len1-withdrawn
returns-in-len1-withdrawn c = λ key mention is.
    let t = c.args.self.now.topology in
    let said = c.args.reflected.now in
    let r = c.route-item-then-this-lt2-2.result in
    let least = c.in-len1-withdrawn.len_at_least in
    let most = c.in-len1-withdrawn.len_below in
    let one : length c.withdrawn.result.now ≡ 1 = omega (arith, least, most) in
    let there : said.update.withdrawn ≡ r ∷ [] =
    ap (λ (s : Says). s.withdrawn) (sym c.update-update.ensures) ∙ sym c.withdrawn.ensures
    ∙ one_item c.withdrawn.result.now r one c.route-item-then-this-lt2-2.is in
    let brought = withdrawn_is t said r key mention is there in
    on_ok c.hear_withdrawn.result
    (loses_it t r key mention brought c.vrf_of-vrf.result r.prefix c.args.node.0 c.args.peer.0 c.args.self.now c.hear_withdrawn.new.self
    (c.vrf_of-vrf.ensures key.vrf brought.within brought.rd) refl)
    c.hear_withdrawn.ensures
