-- What the last leg delivers has crossed all networks of its legs.
use Rattle.std.proofs.Common.{ℕ, ◌≡◌, List, [], ◌∷◌, map, length, Option, Some, None, refl, sym, ◌∙◌, ap, subst}
use Rattle.mn_base.specs.declared.numbers.SiteNo.{SiteNo}
use Rattle.mn_ledger.specs.declared.verdict.Verdict.TheVariants.{Delivered}
use Rattle.mn_ledger.specs.Verdicts.{injections, verdict_on}
use Rattle.mn_ledger_laws.specs.Accounts.{HasArrived, IsFate}
use Rattle.mn_ledger_laws.specs.Deliveries.{Delivery}
use Rattle.mn_ledger_laws.proofs.Accounted.{accounts}
use Rattle.mn_join_laws.specs.declared.leg.Which.{Which}
use Rattle.mn_join_laws.specs.Pairing.{Pairing, network, Both, side, packets_in, at_first}
use Rattle.mn_join_laws.specs.Crossing.{Crosses, CrossesAll}
use Rattle.mn_join_laws.specs.Legs.{SentLeg, WasSent, LeadsTo, GoOn, last_of, passage_of, Line, after_lines, AllHaveLegs, IsLawfulIn, ArriveByTheirLegs}
use Rattle.mn_join_laws.proofs.Handing.{script_holds}

module _ (pairing : Pairing) (both : Both) (each : (v : Which) → length (side both v).inputs ≡ injections (side both v).past.entries)
    (lawful : (v : Which) → IsLawfulIn pairing both v) where
  fate_of : (leg : SentLeg) (site : SiteNo) (ttl copy : ℕ) → WasSent both leg
      → verdict_on (packets_in pairing both leg.which) leg.sending.packet ≡ Delivered ttl site copy
      → HasArrived (network pairing leg.which) (side both leg.which).past.entries (side both leg.which).inputs leg.sending site ttl copy
  fate_of leg site ttl copy sent v =
      let here = lawful leg.which in
      subst (IsFate (network pairing leg.which) (side both leg.which).past.entries (side both leg.which).inputs leg.sending) v
      ((accounts (network pairing leg.which) (side both leg.which).past.entries (side both leg.which).inputs here.0 here.1 (each leg.which)).accounted
      leg.sending sent).fate

  crosses_as : (leg : SentLeg) (site : SiteNo) (ttl copy : ℕ) → WasSent both leg
      → (h : HasArrived (network pairing leg.which) (side both leg.which).past.entries (side both leg.which).inputs leg.sending site ttl copy)
      → (arrived : List ℕ) → h.arrived ≡ arrived → Crosses (passage_of pairing both leg) ttl arrived
  crosses_as leg site ttl copy sent h arrived same = record {
    site = site;
    copy = copy;
    arrival = h;
    bytes = same;
    sent_bytes = (lawful leg.which).2 leg.sending.packet leg.sending.bytes sent.content;
  }

  -- what is listed as its delivery are the bytes with which the next leg begins
  same_bytes : (leg next : SentLeg) → WasSent both leg → (leads : LeadsTo pairing both leg next)
      → (h : HasArrived (network pairing leg.which) (side both leg.which).past.entries (side both leg.which).inputs leg.sending leads.site leads.ttl leads.copy)
      → h.arrived ≡ next.sending.bytes
  same_bytes leg next sent leads h =
      ap bytes_of (sym h.delivery ∙ leads.listed) ∙ sym leads.same
    where
      bytes_of : Option Delivery → List ℕ
      bytes_of None = []
      bytes_of (Some d) = d.bytes

  all_cross : (leg : SentLeg) (legs : List SentLeg) (site : SiteNo) (ttl copy : ℕ) → WasSent both leg → GoOn pairing both leg legs
      → verdict_on (packets_in pairing both (last_of leg legs).which) (last_of leg legs).sending.packet ≡ Delivered ttl site copy
      → (last : List ℕ) × CrossesAll leg.sending.bytes (map (passage_of pairing both) (leg ∷ legs)) ttl last
  all_cross leg [] site ttl copy sent on v =
      let h = fate_of leg site ttl copy sent v in
      (h.arrived, (refl, ttl, h.arrived, crosses_as leg site ttl copy sent h h.arrived refl, (sym h.passed_on.ttl_is, refl)))
  all_cross leg (next ∷ legs) site ttl copy sent on v =
      let leads = on.1 in
      let h = fate_of leg leads.site leads.ttl leads.copy sent leads.delivered in
      let rest = all_cross next legs site ttl copy on.0 on.2 v in (
        rest.0,
        (
          refl,
          leads.ttl,
          next.sending.bytes,
          crosses_as leg leads.site leads.ttl leads.copy sent h next.sending.bytes
              (same_bytes leg next sent leads h),
          rest.1,
        ),
      )

pub all_have_legs : (pairing : Pairing) (lines : List Line) → AllHaveLegs pairing (after_lines pairing lines at_first)
all_have_legs pairing lines = (script_holds pairing lines).legs

pub arrive_by_legs : (pairing : Pairing) (lines : List Line) → ArriveByTheirLegs pairing lines
arrive_by_legs pairing lines lawful packet below =
    let holds = script_holds pairing lines in
    let has = holds.legs packet below in record {
      has = has;
      arrives = λ site ttl copy v.
          all_cross pairing (after_lines pairing lines at_first) holds.each lawful has.first has.later site ttl copy has.sent has.go_on v;
    }
