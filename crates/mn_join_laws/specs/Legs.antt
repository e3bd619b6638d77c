-- The legs of a packet are its injections: the first is sent by a line of the script, and each later one at the site that is joined to
-- the one where the leg before was delivered, with what was delivered.
use Rattle.std.specs.Prelude.{◌≡◌, ◌<◌, ◌-◌, ℕ, List, [], ◌∷◌, map, length, slice_get, Some, ⊤}
use Rattle.mn_base.specs.declared.numbers.SiteNo.{SiteNo}
use Rattle.mn_script.specs.declared.command.Command.{Command}
use Rattle.mn_topo.specs.Lawful.{IsLawful}
use Rattle.mn_ledger.specs.declared.verdict.Verdict.TheVariants.{Delivered}
use Rattle.mn_ledger.specs.Lawful.{IsLawfulJournal}
use Rattle.mn_ledger.specs.Verdicts.{verdict_on}
use Rattle.mn_ledger_laws.specs.Accounts.{Sending, IsSent}
use Rattle.mn_ledger_laws.specs.Deliveries.{Delivery, deliveries_of}
use Rattle.mn_ledger_laws.specs.Named.{AreBytes}
use Rattle.mn_join_laws.specs.declared.leg.Leg.{Leg}
use Rattle.mn_join_laws.specs.declared.leg.Which.{Which}
use Rattle.mn_join_laws.specs.Pairing.{opposite, Pairing, network, partner, Both, side, packets_in, Travel, travel, at_first}
use Rattle.mn_join_laws.specs.Course.{played}
use Rattle.mn_join_laws.specs.Crossing.{Passage, CrossesAll}

-- 1. A travel's legs

-- a leg, with how it was sent in its network
pub record SentLeg : Type 0 where
  pub which : Which
  pub sending : Sending

abbrev pub leg_of : SentLeg → Leg
leg_of leg = record { which = leg.which; packet = leg.sending.packet }

abbrev pub WasSent : Both → SentLeg → Type 0
WasSent both leg = IsSent (side both leg.which).past.entries (side both leg.which).inputs leg.sending

-- the leg was delivered at a joint; and the next was sent in the other network, at the joint's site there, with what was delivered
pub record LeadsTo (pairing : Pairing) (both : Both) (leg next : SentLeg) : Type 0 where
  pub site : SiteNo
  pub ttl : ℕ
  pub copy : ℕ
  pub delivered : verdict_on (packets_in pairing both leg.which) leg.sending.packet ≡ Delivered ttl site copy
  pub delivery : Delivery
  pub listed : slice_get (deliveries_of (network pairing leg.which) (side both leg.which).past.entries (side both leg.which).inputs) (copy - 1) ≡ Some delivery
  pub same : next.sending.bytes ≡ delivery.bytes
  pub across : next.which ≡ opposite leg.which
  pub joined : partner pairing leg.which site.0 ≡ Some next.sending.site

-- from this leg on, each leads to the next
abbrev pub GoOn : Pairing → Both → SentLeg → List SentLeg → Type 0
GoOn pairing both leg [] = ⊤
GoOn pairing both leg (next ∷ legs) = WasSent both next × LeadsTo pairing both leg next × GoOn pairing both next legs

-- these are the legs of the travel, and no other
pub record HasLegs (pairing : Pairing) (both : Both) (packet : Travel) : Type 0 where
  pub first : SentLeg
  pub later : List SentLeg
  pub legs : packet.legs ≡ leg_of first ∷ map leg_of later
  pub sent : WasSent both first
  pub go_on : GoOn pairing both first later

-- 2. After a script

-- a line, the network that plays it, and the packet that it injects, if it does
pub record Line : Type 0 where
  pub which : Which
  pub command : Command
  pub bytes : List ℕ

-- after these lines, whatever was refused
abbrev pub after_lines : Pairing → List Line → Both → Both
after_lines pairing [] both = both
after_lines pairing (line ∷ lines) both = after_lines pairing lines (played pairing line.which both line.command line.bytes).both

abbrev pub AllHaveLegs : Pairing → Both → Type 0
AllHaveLegs pairing both = (packet : ℕ) → packet < length both.travels → HasLegs pairing both (travel both packet)

-- 3. What arrives

abbrev pub passage_of : Pairing → Both → SentLeg → Passage
passage_of pairing both leg = record {
  topology = network pairing leg.which;
  entries = (side both leg.which).past.entries;
  inputs = (side both leg.which).inputs;
  sending = leg.sending;
}

abbrev pub last_of : SentLeg → List SentLeg → SentLeg
last_of leg [] = leg
last_of leg (next ∷ legs) = last_of next legs

-- what the last leg delivered has crossed all its networks
pub record ArrivesByItsLegs (pairing : Pairing) (both : Both) (packet : Travel) : Type 0 where
  pub has : HasLegs pairing both packet
  pub arrives : (site : SiteNo) (ttl copy : ℕ)
      → verdict_on (packets_in pairing both (last_of has.first has.later).which) (last_of has.first has.later).sending.packet ≡ Delivered ttl site copy
      → (last : List ℕ) × CrossesAll has.first.sending.bytes (map (passage_of pairing both) (has.first ∷ has.later)) ttl last

-- each network is lawful, and so is its journal; and bytes were sent
abbrev pub IsLawfulIn : Pairing → Both → Which → Type 0
IsLawfulIn pairing both which =
    IsLawful (network pairing which) × IsLawfulJournal (network pairing which) (side both which).past.entries (side both which).inputs
    × AreBytes (side both which).inputs

abbrev pub ArriveByTheirLegs : Pairing → List Line → Type 0
ArriveByTheirLegs pairing lines =
    ((which : Which) → IsLawfulIn pairing (after_lines pairing lines at_first) which) →
    (packet : ℕ) → packet < length (after_lines pairing lines at_first).travels →
    ArrivesByItsLegs pairing (after_lines pairing lines at_first) (travel (after_lines pairing lines at_first) packet)
