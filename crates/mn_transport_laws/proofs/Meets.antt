-- What a public step's private call asks, and what the step ensures from what that does.
use Rattle.std.proofs.Common.{ℕ, ◌≡◌, ◌+◌, ◌-◌, ◌*◌, ◌<◌, ◌≤◌, Bool, true, false, length, sym, subst}
use Rattle.std.specs.Prelude.{nat_lt, slice_get}
use Rattle.std.specs.List.{All}
use Rattle.mn_base.proofs.Bools.{less_tells, and_left}
use Rattle.mn_wiring.specs.Wiring.{receiver}
use Rattle.mn_wiring.specs.declared.links.Dir.{Dir}
use Rattle.mn_base.specs.declared.numbers.LinkNo.{LinkNo}
use Rattle.mn_base.specs.declared.numbers.NodeNo.{NodeNo}
use Rattle.mn_flight.specs.Flying.{on_channel, IsFlight}
use Rattle.mn_topo.specs.Network.{Network, wiring_of}
use Rattle.mn_topo.specs.Lawful.{IsLawful}
use Rattle.mn_topo.specs.declared.steps.Step.TheVariants as step
use Rattle.mn_node.specs.Machine.{Event, Learns}
use Rattle.mn_ledger.specs.Ledger.{world_of}
use Rattle.mn_frame_laws.specs.Given.{given}
use Rattle.mn_reuse_laws.specs.Resting.{rested_of}
use Rattle.mn_transport_laws.specs.Carried.{Carried}
use Rattle.mn_transport_laws.specs.Acting.{MayAct, MayHear}
use Rattle.mn_transport_laws.specs.Doing.{MayTurn, MaySwitch, Switches, LearnsNext, noticed, CanHear, HearsNext, taken}
use Rattle.mn_transport_laws.specs.Steps.{MayDo, Did}
use Rattle.mn_transport_laws.proofs.Can.{can-hear}
use Rattle.mn_transport_laws.proofs.Dids.{switch-rest}
use Rattle.mn_transport_laws.proofs.Goes.{act-rest}
use Rattle.mn_transport_laws.proofs.Ready.{may-up, may-down, may-switch, may-learn}
use Rattle.mn_transport_laws.proofs.Takes.{did-learn, did-hear}
use Rattle.mn_transport_laws.proofs.Turned.{below-more, below-made, below-without}

module _ (t : Network) (lawful : IsLawful t) (old : Carried) where
  -- there is a journal for which it stands
  pub can-up : (l : LinkNo) → MayDo t (step.LinkUp l) old → MayTurn t old l.0 true
  can-up l may = may-up t lawful (given t may.journal) (rested_of t may.journal) (world_of t may.journal) old may.stands l may.turn.turn

  pub can-down : (l : LinkNo) → MayDo t (step.LinkDown l) old → MayTurn t old l.0 false
  can-down l may = may-down t lawful (given t may.journal) (rested_of t may.journal) (world_of t may.journal) old may.stands l may.turn.turn

  pub can-switch : (l : LinkNo) (on : Bool) → MayDo t (step.LdpAdmin l on) old → MaySwitch t old l.0 on
  can-switch l on may = may-switch t lawful (given t may.journal) (rested_of t may.journal) (world_of t may.journal) old may.stands l on may.turn.turn

  pub can-learn : (node : NodeNo) (l : LinkNo) → MayDo t (step.Learn node l) old → MayAct t old node.0 (Learns l.0)
  can-learn node l may = may-learn t lawful (given t may.journal) (rested_of t may.journal) (world_of t may.journal) old may.stands node l may.turn.turn

  pub learner-there : (node : NodeNo) (l : LinkNo) → MayDo t (step.Learn node l) old → node.0 < length t.loopbacks
  learner-there node l may =
      less_tells node.0 (length t.loopbacks) (and_left (nat_lt node.0 (length t.loopbacks)) (nat_lt l.0 (length t.links)) may.turn.turn.fitting)

  pub can-hear-next : (l : LinkNo) (dir : Dir) → MayDo t (step.HearLdp l dir) old → CanHear t old l.0 dir
  can-hear-next l dir may = can-hear t lawful may.journal may.turn.inputs may.turn.lawful 0 old may.stands l dir may.turn.turn

  pub heard-there : (l : LinkNo) (dir : Dir) → MayDo t (step.HearLdp l dir) old → l.0 < length t.links
  heard-there l dir may = less_tells l.0 (length t.links) may.turn.turn.fitting

  module _ (tick number next : ℕ) (new : Carried) where
    pub meets-learn : (node : NodeNo) (l : LinkNo) → MayDo t (step.Learn node l) old → (channels : ℕ) × IsFlight channels old.notices
        → LearnsNext t tick number node.0 l.0 old new next → Did t tick number (step.Learn node l) old new (next - number)
    meets-learn node l may flight learns = did-learn t lawful tick number next old new node l flight.0 flight.1 may learns

    pub meets-hear : (l : LinkNo) (dir : Dir) → MayDo t (step.HearLdp l dir) old → (channels : ℕ) × IsFlight channels old.messages
        → ((event : Event) → MayHear t old l.0 dir event → HearsNext t tick number l.0 dir event old new next) →
        Did t tick number (step.HearLdp l dir) old new (next - number)
    meets-hear l dir may flight hears = did-hear t lawful tick number next old new l dir flight.0 flight.1 hears may

    -- the notices that stay have the numbers that they had
    pub notices-switch : (l : LinkNo) (on : Bool) → number ≤ next → Switches t tick number l.0 on old new next →
        All (λ item. item.number < number) old.notices → All (λ item. item.number < number + (next - number)) new.notices
    notices-switch l on more turns below =
        below-made new.notices number next more (below-more new.notices number next more
        (subst (All (λ item. item.number < number)) (sym (switch-rest t lawful tick number next old new l.0 on turns).notices) below))

    pub notices-learn : (node : NodeNo) (l : LinkNo) → number ≤ next → LearnsNext t tick number node.0 l.0 old new next →
        All (λ item. item.number < number) old.notices → All (λ item. item.number < number + (next - number)) new.notices
    notices-learn node l more learns below =
        below-made new.notices number next more (below-more new.notices number next more
        (subst (All (λ item. item.number < number)) (sym (act-rest t tick number node.0 (Learns l.0) (noticed t node.0 l.0 old) new next learns).notices)
        (below-without (slice_get (on_channel (l.0 * length t.loopbacks + node.0) old.notices) 0) old.notices number below)))

    pub notices-hear : (l : LinkNo) (dir : Dir) → number ≤ next → MayDo t (step.HearLdp l dir) old
        → ((event : Event) → MayHear t old l.0 dir event → HearsNext t tick number l.0 dir event old new next)
        → All (λ item. item.number < number) old.notices → All (λ item. item.number < number + (next - number)) new.notices
    notices-hear l dir more may hears below =
        let can = can-hear-next l dir may in
        below-made new.notices number next more (below-more new.notices number next more
        (subst (All (λ item. item.number < number))
        (sym (act-rest t tick number (receiver (wiring_of t) l.0 dir) can.event (taken l.0 dir old) new next (hears can.event can.may)).notices) below))
