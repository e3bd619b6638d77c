use Rattle.std.proofs.Common.{◌≡◌, sym, subst, slice_index_or}
use Rattle.std.specs.Prelude.{slice_get}
use Rattle.mn_ledger.specs.Ledger.{packets_of}
use Rattle.mn_sched.specs.Landing.{IsLanding}
use Rattle.mn_join.specs.Pairs.{SideNow, IsSide, joined_to}
use Rattle.mn_join.specs.Moves.{leads_to}
use Rattle.mn_join.proofs.Sides.{finds_some}
use Rattle.mn_join.proofs.side.Side.landing.Goals as goal

pub returns-clause-finds : goal.returns-clause-finds
returns-clause-finds c = λ pairing which side h.
    let now : SideNow = record { net = c.self.inside.net; partners = c.self.inside.partners.items; owners = c.self.inside.owners.items } in
    let stand : IsSide pairing which now side = subst (λ s. IsSide pairing which s side) (sym c.self.view_is) h in
    finds_some pairing which now side stand c.in_ok-packet.packet (record { owner = c.owner.result; site = c.in_ok-packet.site; partner = c.partner.result })
    (subst (IsLanding (packets_of now.net.topology now.net.journal side.inputs)) c.in_ok-packet.was (c.landed.ensures.told side.inputs stand.stands))
    (subst (λ (s : SideNow). c.owner.result ≡ slice_index_or s.owners c.in_ok-packet.packet 0) (sym c.self.view_is) c.owner.ensures)
    (subst (λ (s : SideNow). leads_to c.partner.result ≡ joined_to (slice_get s.partners c.in_ok-packet.site.0)) (sym c.self.view_is) c.partner.ensures.told)
