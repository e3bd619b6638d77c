-- The promise of two joined networks, from the laws of each.
use Rattle.std.proofs.Common.{◌≡◌, ◌+◌, ◌-◌, ◌<◌, ◌≤◌, ℕ, suc, false, List, [], ◌∷◌, map, length, slice_index_or, Option, Some, None, refl, arith, sym, ◌∙◌, ap}
use Rattle.std.proofs.Common.{subst}
use Rattle.std.specs.Prelude.{slice_get}
use Rattle.std.proofs.lemmas.Option.{same_Some}
use Rattle.mn_base.specs.declared.numbers.SiteNo.{SiteNo}
use Rattle.mn_ipv4.specs.Header.{ttl_of}
use Rattle.mn_topo.specs.Lawful.{IsLawful}
use Rattle.mn_ledger.specs.declared.refused.Refused.{Refused}
use Rattle.mn_ledger.specs.declared.verdict.Verdict.{Verdict}
use Rattle.mn_ledger.specs.declared.verdict.Verdict.TheVariants.{Delivered}
use Rattle.mn_ledger.specs.Verdicts.{verdict_on}
use Rattle.mn_ledger_laws.specs.Accounts.{HasArrived, IsFate}
use Rattle.mn_ledger_laws.specs.Deliveries.{Delivery}
use Rattle.mn_ledger_laws.proofs.Accounted.{accounts}
use Rattle.mn_arrival_laws.proofs.Arriving.{it_arrives}
use Rattle.mn_arrival_laws.proofs.Resolving.{arrives_where_it_can}
use Rattle.mn_course_laws.specs.Course.{record_of}
use Rattle.mn_course_laws.specs.Expansion.{SentLine}
use Rattle.mn_join_laws.specs.declared.leg.Leg.{Leg}
use Rattle.mn_join_laws.specs.declared.leg.Which.{Which}
use Rattle.mn_join_laws.specs.declared.leg.Which.TheVariants.{First}
use Rattle.mn_join_laws.specs.Pairing.{Pairing, network, partner, Both, side, packets_in, Travel, travel}
use Rattle.mn_join_laws.specs.Crossing.{nodes_of, all_nodes}
use Rattle.mn_join_laws.specs.Legs.{SentLeg, leg_of, WasSent, GoOn, HasLegs, passage_of, last_of, ArrivesByItsLegs}
use Rattle.mn_join_laws.proofs.Holding.{IsLast}
use Rattle.mn_join_laws.proofs.Passing.{all_passed, all_lowered}
use Rattle.mn_join_run.specs.declared.ends.End.TheVariants as end
use Rattle.mn_join_run.specs.Course.{JoinRun, run_of}
use Rattle.mn_join_run.specs.Report.{no_line, last_leg, end_by, end_of}
use Rattle.mn_join_script.specs.declared.line.JoinLine.{JoinLine}
use Rattle.mn_join_run.specs.Promise.{IsLawfulSide, AccountsForLegs, HasCrossed, before_last, IsAnsweredFor}
use Rattle.mn_join_run.specs.Leaving.{ComeOut}
use Rattle.mn_join_run.proofs.AtRest.{RunRests, all_rest}
use Rattle.mn_join_run.proofs.Legs.{all_arrive}
use Rattle.mn_join_run.proofs.Resting.{AreShort}
use Rattle.mn_join_run.proofs.Sent.{IsSentAs, all_sent}

-- 1. The leg that was sent last

last_is : (leg : SentLeg) (legs : List SentLeg) → last_leg (leg_of leg ∷ map leg_of legs) ≡ leg_of (last_of leg legs)
last_is leg [] = refl
last_is leg (next ∷ legs) =
    let more : ℕ = length (map leg_of legs) in
    ap (λ n. slice_index_or (leg_of leg ∷ leg_of next ∷ map leg_of legs) n (record { which = First; packet = 0 }))
    (let e : suc (suc more) - 1 ≡ suc (suc more - 1) = omega arith in e)
    ∙ last_is next legs

-- a packet that is told as delivered is so by its last leg
by_last : (pairing : Pairing) (both : Both) (legs : List Leg) (refused : Option Refused) (which : Which) (site : SiteNo) (ttl copy : ℕ) →
    end_by pairing both legs refused ≡ end.Judged which (Delivered ttl site copy) →
    verdict_on (packets_in pairing both (last_leg legs).which) (last_leg legs).packet ≡ Delivered ttl site copy
by_last pairing both legs (Some cause) which site ttl copy e = absurd (clash e)
  where
    clash : end.Refused cause ≡ end.Judged which (Delivered ttl site copy) → ⊥
    clash e = cc
by_last pairing both legs None which site ttl copy e = same_verdict e
  where
    same_verdict : {one other : Which} {a b : Verdict} → end.Judged one a ≡ end.Judged other b → a ≡ b
    same_verdict e = cc

-- it was refused nowhere, and is told of in the network of its last leg
unrefused : (pairing : Pairing) (both : Both) (legs : List Leg) (refused : Option Refused) (which : Which) (v : Verdict) →
    end_by pairing both legs refused ≡ end.Judged which v → refused ≡ None
unrefused pairing both legs (Some cause) which v e = absurd (clash e)
  where
    clash : end.Refused cause ≡ end.Judged which v → ⊥
    clash e = cc
unrefused pairing both legs None which v e = refl

told_in : (pairing : Pairing) (both : Both) (legs : List Leg) (refused : Option Refused) (which : Which) (v : Verdict) →
    end_by pairing both legs refused ≡ end.Judged which v → (last_leg legs).which ≡ which
told_in pairing both legs (Some cause) which v e = absurd (clash e)
  where
    clash : end.Refused cause ≡ end.Judged which v → ⊥
    clash e = cc
told_in pairing both legs None which v e = same_network e
  where
    same_network : {one other : Which} {a b : Verdict} → end.Judged one a ≡ end.Judged other b → one ≡ other
    same_network e = cc

is_last : (leg : SentLeg) (legs : List SentLeg) → IsLast (last_of leg legs).which (last_of leg legs).sending.packet (leg_of leg ∷ map leg_of legs)
is_last leg [] = (refl, refl)
is_last leg (next ∷ legs) = is_last next legs

as_many_legs : (legs : List SentLeg) → length (map leg_of legs) ≡ length legs
as_many_legs [] = refl
as_many_legs (leg ∷ legs) = omega (arith, as_many_legs legs)

-- a packet whose last leg is delivered is so at a site that isn't joined
abbrev EndsWell : Pairing → Both → Travel → Type 0
EndsWell pairing both packet = (v : Which) (j : ℕ) → IsLast v j packet.legs → packet.refused ≡ None → (site : SiteNo) (ttl copy : ℕ) →
    verdict_on (packets_in pairing both v) j ≡ Delivered ttl site copy → partner pairing v site.0 ≡ None

module _ (pairing : Pairing) (both : Both) (lawful : (which : Which) → IsLawful (network pairing which))
    (sides : (which : Which) → IsLawfulSide pairing both which) where
  -- 2. Each network

  pub accounts_for_legs : (which : Which) → AccountsForLegs pairing both which
  accounts_for_legs which =
      let here = sides which in
      let entries = (side both which).past.entries in
      let inputs = (side both which).inputs in
      record {
        lawful = here;
        accounts = accounts (network pairing which) entries inputs (lawful which) here.journal here.each;
        arrives = it_arrives (network pairing which) entries inputs (lawful which) here.journal;
        arrives_where_it_can = arrives_where_it_can (network pairing which) entries inputs (lawful which) here.journal;
      }

  -- 3. Each packet

  -- a leg that leads to the next has left it what its own nodes left of the TTL
  ttl_falls : (leg : SentLeg) (legs : List SentLeg) → WasSent both leg → GoOn pairing both leg legs →
      ttl_of (last_of leg legs).sending.bytes + all_nodes (map (passage_of pairing both) (before_last leg legs)) ≡ ttl_of leg.sending.bytes
  ttl_falls leg [] sent on = omega arith
  ttl_falls leg (next ∷ legs) sent on =
      let leads = on.1 in
      let t = network pairing leg.which in
      let here = side both leg.which in
      let fate : HasArrived t here.past.entries here.inputs leg.sending leads.site leads.ttl leads.copy =
      subst (IsFate t here.past.entries here.inputs leg.sending) leads.delivered ((accounts_for_legs leg.which).accounts.accounted leg.sending sent).fate in
      let same : fate.arrived ≡ next.sending.bytes =
      ap (λ (d : Delivery). d.bytes) (same_Some (record { tick = fate.entry.tick; bytes = fate.arrived }) leads.delivery (sym fate.delivery ∙ leads.listed))
      ∙ sym leads.same in
      omega (
        arith,
        ttl_falls next legs on.0 on.2,
        fate.lowered,
        fate.passed_on.ttl_is,
        ap ttl_of same,
      )

  -- each leg has at least one node, so the TTL allows no more than 256
  some_node : (leg : SentLeg) → WasSent both leg → 1 ≤ nodes_of (passage_of pairing both leg)
  some_node leg sent = omega (arith, ap length ((accounts_for_legs leg.which).accounts.accounted leg.sending sent).way.begins)

  few_legs : (leg : SentLeg) (legs : List SentLeg) → WasSent both leg → GoOn pairing both leg legs →
      length legs ≤ all_nodes (map (passage_of pairing both) (before_last leg legs))
  few_legs leg [] sent on = omega arith
  few_legs leg (next ∷ legs) sent on = omega (arith, some_node leg sent, few_legs next legs on.0 on.2)

  pub short_legs : (packet : Travel) → HasLegs pairing both packet → length packet.legs ≤ 256
  short_legs packet has = omega (
    arith,
    ap length has.legs,
    as_many_legs has.later,
    few_legs has.first has.later has.sent has.go_on,
    ttl_falls has.first has.later has.sent has.go_on,
    (sides has.first.which).bytes has.first.sending.packet has.first.sending.bytes has.sent.content 8,
  )

  module _ (capture : List (List ℕ)) (sending : SentLine) (packet : Travel) (begins : IsSentAs capture both sending packet)
      (by : ArrivesByItsLegs pairing both packet) (over : EndsWell pairing both packet) where
    abbrev last : SentLeg
    last = last_of by.has.first by.has.later

    the_last : last_leg packet.legs ≡ leg_of last
    the_last = ap last_leg by.has.legs ∙ last_is by.has.first by.has.later

    crosses : (which : Which) (site : SiteNo) (ttl copy : ℕ) → end_of pairing both packet ≡ end.Judged which (Delivered ttl site copy) →
        HasCrossed pairing both by.has.first.sending.bytes (by.has.first ∷ by.has.later) ttl
    crosses which site ttl copy e =
        let over = by.arrives site ttl copy
        (subst (λ (leg : Leg). verdict_on (packets_in pairing both leg.which) leg.packet ≡ Delivered ttl site copy) the_last
        (by_last pairing both packet.legs packet.refused which site ttl copy e)) in
        let as_sent = all_passed by.has.first.sending.bytes over.0 (passage_of pairing both by.has.first) (map (passage_of pairing both) by.has.later) ttl
        over.1 in
        record {
          arrived = over.0;
          over = over.1;
          as_sent = as_sent;
          is_good = as_sent.still_good ((sides by.has.first.which).bytes by.has.first.sending.packet by.has.first.sending.bytes by.has.sent.content);
          lowered = all_lowered by.has.first.sending.bytes over.0 (map (passage_of pairing both) (by.has.first ∷ by.has.later)) ttl over.1;
        }

    outside : (which : Which) (site : SiteNo) (ttl copy : ℕ) → end_of pairing both packet ≡ end.Judged which (Delivered ttl site copy) →
        partner pairing which site.0 ≡ None
    outside which site ttl copy e =
        subst (λ v. partner pairing v site.0 ≡ None)
        (ap (λ (leg : Leg). leg.which) (sym the_last) ∙ told_in pairing both packet.legs packet.refused which (Delivered ttl site copy) e)
        (over last.which last.sending.packet
        (subst (IsLast last.which last.sending.packet) (sym by.has.legs) (is_last by.has.first by.has.later))
        (unrefused pairing both packet.legs packet.refused which (Delivered ttl site copy) e) site ttl copy
        (subst (λ (leg : Leg). verdict_on (packets_in pairing both leg.which) leg.packet ≡ Delivered ttl site copy) the_last
        (by_last pairing both packet.legs packet.refused which site ttl copy e)))

    -- its first leg began with the record's bytes
    first_is : begins.2.first ≡ leg_of by.has.first
    first_is = same_Some begins.2.first (leg_of by.has.first) (sym begins.2.leg ∙ ap (λ legs. slice_get legs 0) by.has.legs)

    began : record_of capture sending.number ≡ Some by.has.first.sending.bytes
    began = begins.1 ∙ sym begins.2.sent ∙ ap (λ (leg : Leg). slice_get (side both leg.which).inputs leg.packet) first_is ∙ by.has.sent.content

    pub answered_for : IsAnsweredFor pairing capture both sending packet
    answered_for = record {
      has = by.has;
      sent = began;
      left = ttl_falls by.has.first by.has.later by.has.sent by.has.go_on;
      crosses = crosses;
      outside = outside;
      arrives = λ unrefused from to route steady way.
          let reached = (accounts_for_legs last.which).arrives last.sending from to route steady way in (
            _,
            reached.arrived.copy,
            ap (end_by pairing both packet.legs) unrefused
                ∙ ap (λ (leg : Leg). end.Judged leg.which (verdict_on (packets_in pairing both leg.which) leg.packet)) the_last
                ∙ ap (end.Judged last.which) reached.arrived.verdict,
          );
    }

-- after a script that went to its end
module _ (pairing : Pairing) (capture : List (List ℕ)) (lines : List JoinLine) (lawful : (which : Which) → IsLawful (network pairing which))
    (sides : (which : Which) → IsLawfulSide pairing (run_of pairing capture lines).both which) (goes : (run_of pairing capture lines).is_stopped ≡ false) where
  abbrev run : JoinRun
  run = run_of pairing capture lines

  by_legs : (k : ℕ) → k < length run.both.travels → ArrivesByItsLegs pairing run.both (travel run.both k)
  by_legs = all_arrive pairing capture lines (λ which. (lawful which, (sides which).journal, (sides which).bytes))

  at_rest : RunRests pairing capture run
  at_rest = all_rest pairing capture lines (λ i below. short_legs pairing run.both lawful sides (travel run.both i) (by_legs i below).has) goes

  pub all_answered_for : (k : ℕ) → k < length run.both.travels →
      IsAnsweredFor pairing capture run.both (slice_index_or run.sendings k no_line) (travel run.both k)
  all_answered_for k below =
      answered_for pairing run.both lawful sides capture (slice_index_or run.sendings k no_line) (travel run.both k)
      ((all_sent pairing capture lines goes).each k below) (by_legs k below) (at_rest.over k below)

  -- what came out is what left
  pub all_out : ComeOut pairing run.both run.exits
  all_out which = sym (at_rest.out which)
