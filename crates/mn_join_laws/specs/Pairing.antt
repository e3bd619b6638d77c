-- Two networks of two providers, joined site to site: RFC 4364, section 10, option a. Each has a journal and a ledger of its own; a
-- packet that one delivers at a joint is sent into the other.
use Rattle.std.specs.Prelude.{ℕ, ◌+◌, ◌==◌, cond, List, [], ◌∷◌, ◌++◌, length, slice_index_or, slice_set, Option, Some, None}
use Rattle.mn_topo.specs.Network.{Network}
use Rattle.mn_topo.specs.declared.steps.Step.{Step}
use Rattle.mn_topo.specs.declared.steps.Step.TheVariants.{Inject}
use Rattle.mn_topo.specs.declared.steps.Damage.{Damage}
use Rattle.mn_topo.specs.declared.steps.Damaged.{Damaged}
use Rattle.mn_topo.specs.declared.steps.Damaged.TheVariants.{Undamaged}
use Rattle.mn_entry.specs.Damages.{ending, mark_of}
use Rattle.mn_ledger.specs.declared.verdict.Verdict.{Verdict}
use Rattle.mn_ledger.specs.declared.verdict.Verdict.TheVariants.{Delivered}
use Rattle.mn_ledger.specs.declared.refused.Refused.{Refused}
use Rattle.mn_ledger.specs.Packets.{Packets}
use Rattle.mn_ledger.specs.Time.{ticks_in}
use Rattle.mn_ledger.specs.Ledger.{packets_of}
use Rattle.mn_course_laws.specs.Course.{Past, with_step}
use Rattle.mn_join_laws.specs.declared.leg.Which.{Which}
use Rattle.mn_join_laws.specs.declared.leg.Which.TheVariants.{First, Second}
use Rattle.mn_join_laws.specs.declared.leg.Leg.{Leg}

abbrev pub opposite : Which → Which
opposite First = Second
opposite Second = First

-- a site of the first network and one of the second
pub record Joint : Type 0 where
  pub first : ℕ
  pub second : ℕ

pub record Pairing : Type 0 where
  pub first : Network
  pub second : Network
  pub joints : List Joint

abbrev pub network : Pairing → Which → Network
network pairing First = pairing.first
network pairing Second = pairing.second

abbrev pub site_of : Which → Joint → ℕ
site_of First joint = joint.first
site_of Second joint = joint.second

-- the site to which a site of a network is joined
abbrev pub partner_in : Which → ℕ → List Joint → Option ℕ
partner_in which s [] = None
partner_in which s (joint ∷ joints) = cond (site_of which joint == s) (Some (site_of (opposite which) joint)) (partner_in which s joints)

abbrev pub partner : Pairing → Which → ℕ → Option ℕ
partner pairing which s = partner_in which s pairing.joints

-- 1. What has happened

-- in one network: its clock and journal, and by injection the bytes and the number of the packet that it is a leg of
pub record Side : Type 0 where
  pub past : Past
  pub inputs : List (List ℕ)
  pub owners : List ℕ

-- a packet that a line of the script sent: the number of its record, its legs, and why the other network refused the last
-- injection, where it did
pub record Travel : Type 0 where
  pub number : ℕ
  pub legs : List Leg
  pub refused : Option Refused

pub record Both : Type 0 where
  pub first : Side
  pub second : Side
  pub travels : List Travel

abbrev pub no_side : Side
no_side = record { past = record { clock = 0; entries = [] }; inputs = []; owners = [] }

abbrev pub at_first : Both
at_first = record { first = no_side; second = no_side; travels = [] }

abbrev pub side : Both → Which → Side
side both First = both.first
side both Second = both.second

abbrev pub with_side : Both → Which → Side → Both
with_side both First now = record both { first = now }
with_side both Second now = record both { second = now }

abbrev pub packets_in : Pairing → Both → Which → Packets
packets_in pairing both which = packets_of (network pairing which) (side both which).past.entries (side both which).inputs

abbrev pub no_travel : Travel
no_travel = record { number = 0; legs = []; refused = None }

abbrev pub travel : Both → ℕ → Travel
travel both packet = slice_index_or both.travels packet no_travel

-- 2. A step of one network

-- the injection of a packet is its next leg
abbrev pub with_leg : Both → Which → ℕ → Both
with_leg both which packet =
    let was : Travel = travel both packet in
    record both {
      travels = slice_set both.travels packet (record was { legs = was.legs ++ record { which = which; packet = length (side both which).inputs } ∷ [] });
    }

abbrev pub with_refusal : Both → ℕ → Refused → Both
with_refusal both packet why = record both { travels = slice_set both.travels packet (record (travel both packet) { refused = Some why }) }

-- a step with a mark, which has one where a damaged message made it
abbrev pub marked_step : Past → Step → Damaged → Past
marked_step past step mark = record {
  clock = past.clock + ticks_in step;
  entries = past.entries ++ record { tick = past.clock; step = step; damaged = mark } ∷ [];
}

abbrev pub with_marked : Both → Which → Step → Damaged → Both
with_marked both which step mark = with_side both which (record (side both which) { past = marked_step (side both which).past step mark })

-- a step other than an injection
abbrev pub with_plain_step : Both → Which → Step → Both
with_plain_step both which step = with_marked both which step Undamaged

-- a damaged message ends its session
abbrev pub with_damage : Both → Which → Damage → Both
with_damage both which damage = with_marked both which (ending damage) (mark_of damage)

-- an injection of a packet, with its bytes
abbrev pub with_injection : Both → Which → ℕ → ℕ → List ℕ → ℕ → Both
with_injection both which s number bytes packet =
    let old : Side = side both which in
    with_side (with_leg both which packet) which (record {
      past = with_step old.past (Inject (record { 0 = s }) number);
      inputs = old.inputs ++ bytes ∷ [];
      owners = old.owners ++ packet ∷ [];
    })

-- a line of the script sends one packet more
abbrev pub with_travel : Both → ℕ → Both
with_travel both number = record both { travels = both.travels ++ record { number = number; legs = []; refused = None } ∷ [] }

-- 3. What the last step of a network delivered: which of its injections, where, and the bytes

pub record Landing : Type 0 where
  pub packet : ℕ
  pub site : ℕ
  pub bytes : List ℕ

-- the one whose copy's number is this
abbrev pub landed_as : ℕ → List ℕ → ℕ → List Verdict → Option Landing
landed_as copies bytes packet [] = None
landed_as copies bytes packet (Delivered ttl s copy ∷ more) =
    cond (copy == copies) (Some (record { packet = packet; site = s.0; bytes = bytes })) (landed_as copies bytes (packet + 1) more)
landed_as copies bytes packet (_ ∷ more) = landed_as copies bytes (packet + 1) more

abbrev pub landed_by : Packets → Option (List ℕ) → Option Landing
landed_by packets None = None
landed_by packets (Some bytes) = landed_as packets.copies bytes 0 packets.verdicts

abbrev pub landed : Packets → Option Landing
landed packets = landed_by packets packets.delivered
