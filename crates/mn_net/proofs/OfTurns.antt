-- Of which kind each turn is.
use Rattle.std.proofs.Common.{ℕ, ◌≡◌, true, false, refl, ap, sym, subst, List, [], ◌∷◌, ◌++◌}
use Rattle.mn_topo.specs.declared.steps.Step.{Step}
use Rattle.mn_topo.specs.declared.steps.JournalEntry.{JournalEntry}
use Rattle.mn_topo.specs.declared.steps.Damaged.TheVariants.{Undamaged}
use Rattle.mn_ledger.specs.Bgp.{is_routing}
use Rattle.mn_ledger.specs.Parts.{is_moving}
use Rattle.mn_ledger.specs.Transport.{is_transport}
use Rattle.mn_net_laws.specs.Tallies.{Tally, HasStatic, after_static}
use Rattle.mn_transport_laws.specs.Steps.{touches}
use Rattle.mn_net.specs.Turns.{link_step, route_step}
use Rattle.mn_net.specs.declared.turns.LinkTurn.{LinkTurn}
use Rattle.mn_net.specs.declared.turns.LinkTurn.TheVariants as link
use Rattle.mn_net.specs.declared.turns.RouteTurn.{RouteTurn}
use Rattle.mn_net.specs.declared.turns.RouteTurn.TheVariants as route

-- a step of the transport that moves no packet
pub of_links : (turn : LinkTurn) → (is_transport (link_step turn) ≡ true) × (is_moving (link_step turn) ≡ false)
of_links (link.Up l) = (refl, refl)
of_links (link.Learn node l) = (refl, refl)
of_links (link.LdpAdmin l on) = (refl, refl)
of_links (link.HearLdp l dir) = (refl, refl)

-- a step of the routes that the transport has no part in
pub of_routes : (turn : RouteTurn) → (is_routing (route_step turn) ≡ true) × (touches (route_step turn) ≡ false)
of_routes (route.BgpUp a b) = (refl, refl)
of_routes (route.BgpDown a b) = (refl, refl)
of_routes (route.HearBgp a b) = (refl, refl)
of_routes (route.AddRoute site prefix) = (refl, refl)
of_routes (route.DelRoute site prefix) = (refl, refl)
of_routes (route.Import vrf on target) = (refl, refl)
of_routes (route.Export vrf on target) = (refl, refl)

-- the entry is that of the step
pub as_said : (es : List JournalEntry) (tick : ℕ) (said : Step) {s : Step} → said ≡ s →
    es ++ record { tick = tick; step = said; damaged = Undamaged } ∷ [] ≡ es ++ record { tick = tick; step = s; damaged = Undamaged } ∷ []
as_said es tick said same = ap (λ (x : Step). let e : JournalEntry = record { tick = tick; step = x; damaged = Undamaged } in es ++ e ∷ []) same

-- the static of the step is that of the turn
pub counted_as : (tally : Tally) {said s : Step} → said ≡ s → HasStatic s tally → HasStatic said tally
counted_as tally same has = subst (λ x. HasStatic x tally) (sym same) has

pub counts_as : (tally : Tally) {said s : Step} → said ≡ s → after_static said tally ≡ after_static s tally
counts_as tally same = ap (λ x. after_static x tally) same
