-- What is promised of two joined networks and of the packets that cross them, in the words of a customer.
use Rattle.std.specs.Prelude.{◌≡◌, ◌+◌, ℕ, IsTrue, List, [], ◌∷◌, map, length, Some, None}
use Rattle.mn_base.specs.declared.numbers.SiteNo.{SiteNo}
use Rattle.mn_ipv4.specs.Header.{good, ttl_of}
use Rattle.mn_ledger.specs.declared.verdict.Verdict.TheVariants.{Delivered}
use Rattle.mn_ledger.specs.Held.{HeldRoute}
use Rattle.mn_ledger.specs.Lawful.{IsLawfulJournal}
use Rattle.mn_ledger.specs.Verdicts.{injections}
use Rattle.mn_ledger_laws.specs.Accounts.{Accounts, IsPassedOn, world_at}
use Rattle.mn_ledger_laws.specs.Named.{AreBytes}
use Rattle.mn_arrival_laws.specs.Arrival.{IsSentInSteadyStretch, HasAWay, ItArrives, ArrivesWhereItCan}
use Rattle.mn_course_laws.specs.Course.{record_of}
use Rattle.mn_course_laws.specs.Expansion.{SentLine}
use Rattle.mn_join_laws.specs.declared.leg.Which.{Which}
use Rattle.mn_join_laws.specs.Pairing.{Pairing, network, partner, Both, side, Travel}
use Rattle.mn_join_laws.specs.Crossing.{CrossesAll, all_nodes}
use Rattle.mn_join_laws.specs.Legs.{SentLeg, HasLegs, passage_of, last_of}
use Rattle.mn_join_run.specs.declared.ends.End.TheVariants.{Judged}
use Rattle.mn_join_run.specs.Report.{end_of}

-- 1. Each network

-- its journal is lawful, with a packet for each injection, and what was sent into it are bytes
pub record IsLawfulSide (pairing : Pairing) (both : Both) (which : Which) : Type 0 where
  pub journal : IsLawfulJournal (network pairing which) (side both which).past.entries (side both which).inputs
  pub each : length (side both which).inputs ≡ injections (side both which).past.entries
  pub bytes : AreBytes (side both which).inputs

-- so it keeps what a run of it alone promises: every leg that is sent into it is accounted for, and arrives where it must
pub record AccountsForLegs (pairing : Pairing) (both : Both) (which : Which) : Type 0 where
  pub lawful : IsLawfulSide pairing both which
  pub accounts : Accounts (network pairing which) (side both which).past.entries (side both which).inputs
  pub arrives : ItArrives (network pairing which) (side both which).past.entries (side both which).inputs
  pub arrives_where_it_can : ArrivesWhereItCan (network pairing which) (side both which).past.entries (side both which).inputs

-- 2. Each packet

-- what was sent as these bytes, by these legs, has crossed the network of each: every leg was delivered by its own network's ledger, and
-- every later one began with what the leg before delivered. It arrives as it was sent, cut to its total length, but for TTL and checksum,
-- which is right; and each node of each path has lowered its TTL by one
pub record HasCrossed (pairing : Pairing) (both : Both) (sent : List ℕ) (legs : List SentLeg) (ttl : ℕ) : Type 0 where
  pub arrived : List ℕ
  pub over : CrossesAll sent (map (passage_of pairing both) legs) ttl arrived
  pub as_sent : IsPassedOn sent ttl arrived
  pub is_good : IsTrue (good arrived)
  pub lowered : ttl + all_nodes (map (passage_of pairing both) legs) ≡ ttl_of sent

-- the legs before the last
abbrev pub before_last : SentLeg → List SentLeg → List SentLeg
before_last leg [] = []
before_last leg (next ∷ legs) = leg ∷ before_last next legs

-- Its legs are its injections: the first with the bytes of the record that its line names, each later one in the other network, at the site
-- that is joined to the one where the leg before was delivered, with what that delivered; each node of the legs before the last has lowered
-- its TTL by one. Where it is reported as delivered it has crossed the networks of all its legs, and has left at a site that isn't joined: what is
-- delivered at a joint has a next leg, or the other network refused it. And it is delivered, at the site of its best
-- route, where it wasn't refused at a joint and its last leg is sent in a steady stretch of its network, with a way there and TTL enough.
pub record IsAnsweredFor (pairing : Pairing) (capture : List (List ℕ)) (both : Both) (sending : SentLine) (packet : Travel) : Type 0 where
  pub has : HasLegs pairing both packet
  pub sent : record_of capture sending.number ≡ Some has.first.sending.bytes
  pub left : ttl_of (last_of has.first has.later).sending.bytes + all_nodes (map (passage_of pairing both) (before_last has.first has.later))
      ≡ ttl_of has.first.sending.bytes
  pub crosses : (which : Which) (site : SiteNo) (ttl copy : ℕ) → end_of pairing both packet ≡ Judged which (Delivered ttl site copy) →
      HasCrossed pairing both has.first.sending.bytes (has.first ∷ has.later) ttl
  pub outside : (which : Which) (site : SiteNo) (ttl copy : ℕ) → end_of pairing both packet ≡ Judged which (Delivered ttl site copy) →
      partner pairing which site.0 ≡ None
  pub arrives : packet.refused ≡ None → (from to : ℕ) (route : HeldRoute) →
      (let last : SentLeg = last_of has.first has.later in
      IsSentInSteadyStretch (network pairing last.which) (side both last.which).past.entries (side both last.which).inputs last.sending from to →
      HasAWay (network pairing last.which) (world_at (network pairing last.which) (side both last.which).past.entries from) last.sending route →
      (ttl copy : ℕ) × (end_of pairing both packet ≡ Judged last.which (Delivered ttl (record { 0 = route.site }) copy)))
