-- Damages of both kinds in a network of two links, which nothing refuses, and what they leave; and one where nothing was sent, which is refused.
use Rattle.std.specs.Prelude.{◌≡◌, List, [], ◌∷◌, refl, Some, None, false}
use Rattle.mn_wiring.specs.declared.links.Dir.TheVariants.{Forth, Back}
use Rattle.mn_topo.specs.declared.steps.Damage.TheVariants.{Ldp, Bgp}
use Rattle.mn_topo.specs.declared.steps.JournalEntry.{JournalEntry}
use Rattle.mn_ledger.specs.declared.refused.Refused.TheVariants.{Empty}
use Rattle.mn_wiring.specs.Paths.{next}
use Rattle.mn_ldp_wire.specs.Reading.{pdu_of}
use Rattle.mn_bgp_wire.specs.Reading.{message_of, header_of}
use Rattle.mn_ledger.specs.Ledger.{world_of}
use Rattle.mn_ledger.specs.Transport.{knowledge_of, news, sessions_after}
use Rattle.mn_ledger.specs.Bgp.{peerings_after}
use Rattle.mn_ledger.specs.Packets.{packets_after}
use Rattle.mn_ledger.specs.Refusal.{in_flight}
use Rattle.mn_topo.specs.declared.steps.Step.TheVariants.{LinkUp, BgpUp, Inject}
use Rattle.mn_ledger.proofs.TwoLinks.{two_links, at_start, link_no, node_no, site_no}
use Rattle.mn_damage.specs.Allowed.{injected}
use Rattle.mn_damage.specs.Damages.{entry_for}
use Rattle.mn_damage.specs.Refusals.{damage_refusal}

-- the greater address sends Initialization as the link comes up, and both edges tell OPEN; a PDU of no byte and a message of no byte
-- are refused by their readers
abbrev opening : List JournalEntry
opening = at_start (LinkUp (link_no 0)) ∷ at_start (BgpUp (node_no 0) (node_no 2)) ∷ []

abbrev both_damaged : List JournalEntry
both_damaged = at_start (LinkUp (link_no 0)) ∷ at_start (BgpUp (node_no 0) (node_no 2)) ∷ entry_for 0 (Ldp (link_no 0) Back 1) ∷
    entry_for 0 (Bgp (node_no 2) (node_no 0) 2) ∷ []

-- nothing refuses either
ldp_allowed : damage_refusal two_links opening [] (Ldp (link_no 0) Back 1) [] ≡ None
unfolding next knowledge_of news sessions_after peerings_after packets_after in_flight pdu_of
ldp_allowed = refl

bgp_allowed : damage_refusal two_links opening [] (Bgp (node_no 2) (node_no 0) 2) [] ≡ None
unfolding next knowledge_of news sessions_after peerings_after packets_after in_flight message_of header_of
bgp_allowed = refl

-- LDP is off and the session down afterwards
off : (world_of two_links both_damaged).config.ldp_on 0 ≡ false
unfolding next knowledge_of news sessions_after peerings_after packets_after in_flight
off = refl

down : (world_of two_links both_damaged).config.bgp_on 0 2 ≡ false
unfolding next knowledge_of news sessions_after peerings_after packets_after in_flight
down = refl

-- in the other direction nothing was sent
none_there : damage_refusal two_links opening [] (Ldp (link_no 0) Forth 1) [] ≡ Some Empty
unfolding next knowledge_of news sessions_after peerings_after packets_after in_flight pdu_of
none_there = refl

-- of the packets of a damage and of an injection the second is injected
second_is_injected : injected (entry_for 0 (Ldp (link_no 0) Back 1) ∷ at_start (Inject (site_no 0) 2) ∷ []) ((1 ∷ []) ∷ (2 ∷ []) ∷ []) ≡ (2 ∷ []) ∷ []
second_is_injected = refl
