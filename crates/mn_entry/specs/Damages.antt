-- A damaged message: the step by which it would have been received, the step by which its session ends, and its entry in the journal.
-- RFC 5036, section 3.5.1.2: a malformed LDP message ends the session. RFC 4271, section 6: so does an error in a BGP message.
use Rattle.std.specs.Prelude.{◌≡◌, ℕ, ◌&&◌, Bool, false, nat_lt, nat_le, if◌then◌else◌, Option, Some, None}
use Rattle.mn_base.specs.declared.numbers.NodeNo.{NodeNo}
use Rattle.mn_wiring.specs.declared.links.Dir.TheVariants as dir
use Rattle.mn_topo.specs.Network.{Network}
use Rattle.mn_topo.specs.Steps.{fits}
use Rattle.mn_topo.specs.declared.steps.Step.{Step}
use Rattle.mn_topo.specs.declared.steps.Step.TheVariants.{LdpAdmin, HearLdp, BgpDown, HearBgp}
use Rattle.mn_topo.specs.declared.steps.Damage.{Damage}
use Rattle.mn_topo.specs.declared.steps.Damage.TheVariants.{Ldp, Bgp}
use Rattle.mn_topo.specs.declared.steps.Damaged.{Damaged}
use Rattle.mn_topo.specs.declared.steps.Damaged.TheVariants as mark
use Rattle.mn_topo.specs.declared.steps.JournalEntry.{JournalEntry}

abbrev pub lesser : NodeNo → NodeNo → NodeNo
lesser a b = if nat_lt a.0 b.0 then a else b

abbrev pub greater : NodeNo → NodeNo → NodeNo
greater a b = if nat_lt a.0 b.0 then b else a

-- the step by which the message would have been received
abbrev pub hearing : Damage → Step
hearing (Ldp link dir number) = HearLdp link dir
hearing (Bgp a b number) = HearBgp a b

-- the step that it also is: LDP is switched off on the link, or the session of the two edges ends
abbrev pub ending : Damage → Step
ending (Ldp link dir number) = LdpAdmin link false
ending (Bgp a b number) = BgpDown (lesser a b) (greater a b)

-- the record of the capture whose packet came in the message's place
abbrev pub number_of : Damage → ℕ
number_of (Ldp link dir number) = number
number_of (Bgp a b number) = number

-- it asks of the topology what hearing asks, and a record is from 1
abbrev pub damage_fits : Network → Damage → Bool
damage_fits network damage = fits network (hearing damage) && nat_le 1 (number_of damage)

-- what its entry has beside the step: the record, and from which end the message came
abbrev pub mark_of : Damage → Damaged
mark_of (Ldp link dir.Forth number) = mark.Forth number
mark_of (Ldp link dir.Back number) = mark.Back number
mark_of (Bgp a b number) = if nat_lt a.0 b.0 then mark.Forth number else mark.Back number

abbrev pub entry_for : ℕ → Damage → JournalEntry
entry_for tick damage = record { tick = tick; step = ending damage; damaged = mark_of damage }

-- the damage that an entry tells by its step and its mark
abbrev pub damage_by : Step → Damaged → Option Damage
damage_by (LdpAdmin link false) (mark.Forth number) = Some (Ldp link dir.Forth number)
damage_by (LdpAdmin link false) (mark.Back number) = Some (Ldp link dir.Back number)
damage_by (BgpDown a b) (mark.Forth number) = Some (Bgp a b number)
damage_by (BgpDown a b) (mark.Back number) = Some (Bgp b a number)
damage_by _ _ = None

abbrev pub damage_in : JournalEntry → Option Damage
damage_in entry = damage_by entry.step entry.damaged

-- the entry for a damage tells that damage
abbrev pub IsOneDamage : Type 0
IsOneDamage = (tick : ℕ) (damage : Damage) → damage_in (entry_for tick damage) ≡ Some damage
