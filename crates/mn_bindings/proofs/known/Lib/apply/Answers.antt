use Rattle.std.proofs.Common.{◌≤◌, ◌<◌, ◌+◌, ◌∙◌, ap, sym, subst, length, arith}
use Rattle.std.specs.List.{All, flat_map}
use Rattle.mn_releases.specs.Rests.{Resting}
use Rattle.mn_bindings.specs.Bindings.{nodes, EventsFit}
use Rattle.mn_bindings.specs.Tells.{tells}
use Rattle.mn_bindings.specs.News.{ended_since}
use Rattle.mn_bindings.specs.Known.{Known, AreFew}
use Rattle.mn_bindings.proofs.Events.{nodes-after_events}
use Rattle.mn_bindings.proofs.Resting.{fit_beside, events_few, events_owed, events_rested, owed_for_owed, owed_for_rested, stopped_owed, stopped_rested}
use Rattle.mn_bindings.proofs.known.Lib.apply.Goals as goal

pub follow-requires-clause-fit : goal.follow-requires-clause-fit
follow-requires-clause-fit c =
    fit_beside c.self.inside.bound c.self.inside.rests c.args.events.now c.self.invariant.0 c.self.invariant.1
    (subst (λ (k : Known). EventsFit k.bindings c.args.events.now) (sym c.self.view_is) c.requires.fit)

pub owe-requires : goal.owe-requires
owe-requires c =
    let most = c.requires.few.0 in
    let few = subst (λ (k : Known). AreFew most k.resting) (sym c.self.view_is) c.requires.few.1 in
    let fits = subst (λ (k : Known). most + length (tells k.bindings c.args.events.now) ≤ 18446744073709551615) (sym c.self.view_is) c.requires.few.2 in
    let told = ap length c.deref-3.ensures.value ∙ ap length c.in_ok-tells.ensures.tells in
    (most, subst (AreFew most) (sym c.follow.ensures) (events_few most c.args.tick c.self.inside.rests c.args.events.now few), omega (arith, fits, told))

pub stop-requires-clause-below : goal.stop-requires-clause-below
stop-requires-clause-below c =
    subst (λ xs. All (λ one. one.fec.0 < nodes c.apply.new.self) xs) (sym c.deref-4.ensures.value)
    (subst (λ n. All (λ one. one.fec.0 < n) c.in_ok-before.before.items)
    (sym (ap nodes c.in_ok-tells.ensures.after ∙ nodes-after_events c.self.inside.bound c.args.events.now)) c.in_ok-before.ensures.all.below)

pub stop-requires-clause-nodes : goal.stop-requires-clause-nodes
stop-requires-clause-nodes c =
    ap (λ (r : Resting). length r.rested) c.owe.ensures ∙ ap length (owed_for_rested c.follow.new.rests c.deref-3.result.now)
    ∙ ap (λ (r : Resting). length r.rested) c.follow.ensures ∙ events_rested c.args.tick c.self.inside.rests c.args.events.now ∙ c.self.invariant.1
    ∙ sym (ap nodes c.in_ok-tells.ensures.after ∙ nodes-after_events c.self.inside.bound c.args.events.now)

pub invariant_of-self-2 : goal.invariant_of-self-2
invariant_of-self-2 c =
    let same = sym (ap nodes c.in_ok-tells.ensures.after ∙ nodes-after_events c.self.inside.bound c.args.events.now) in
    let ended = flat_map (ended_since c.apply.new.self) c.deref-4.result.now in (
      ap (λ (r : Resting). length r.owed) c.stop.ensures ∙ ap length (stopped_owed c.args.tick c.owe.new.rests ended)
          ∙ ap (λ (r : Resting). length r.owed) c.owe.ensures ∙ owed_for_owed c.follow.new.rests c.deref-3.result.now
          ∙ ap (λ (r : Resting). length r.owed) c.follow.ensures ∙ events_owed c.args.tick c.self.inside.rests c.args.events.now ∙ c.self.invariant.0 ∙ same,
      ap (λ (r : Resting). length r.rested) c.stop.ensures ∙ stopped_rested c.args.tick c.owe.new.rests ended
          ∙ ap (λ (r : Resting). length r.rested) c.owe.ensures ∙ ap length (owed_for_rested c.follow.new.rests c.deref-3.result.now)
          ∙ ap (λ (r : Resting). length r.rested) c.follow.ensures ∙ events_rested c.args.tick c.self.inside.rests c.args.events.now ∙ c.self.invariant.1
          ∙ same,
    )

pub begin-requires-clause-below : goal.begin-requires-clause-below
begin-requires-clause-below c =
    subst (λ xs. All (λ one. one.fec.0 < nodes c.apply.new.self) xs) (sym c.deref-2.ensures.value)
    (subst (λ n. All (λ one. one.fec.0 < n) c.in_ok-before.before.items)
    (sym (ap nodes c.in_ok-tells.ensures.after ∙ nodes-after_events c.self.inside.bound c.args.events.now)) c.in_ok-before.ensures.all.below)
