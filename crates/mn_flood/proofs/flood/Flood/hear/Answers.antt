use Rattle.std.proofs.Common.{rules, ◌≡◌, ◌<◌, ◌≤◌, ◌+◌, ◌∙◌, ap, sym, subst, length, Some, None, arith}
use Rattle.mn_wiring.specs.Wiring.{receiver}
use Rattle.mn_flood_laws.specs.Flood.{Advert, first_on, without_first, taken_in}
use Rattle.mn_flood.specs.World.{WorldNow}
use Rattle.mn_flood.specs.Floods.{IsSound}
use Rattle.mn_flood.proofs.Queues.{none_taken}
use Rattle.mn_flood.proofs.Worlds.{heard_is, origin_there}
use Rattle.mn_flood.proofs.Sounds.{sound_heard}
use Rattle.mn_flood.proofs.flood.Flood.hear.Goals as goal

pub invariant_of-self : goal.invariant_of-self
invariant_of-self c works =
    let before = c.self.inside.world in
    let none : first_on c.args.link.0 c.args.dir before.world.flying ≡ None = sym c.take.ensures.value ∙ c.in_default.is in
    let same : c.take.new.self ≡ before =
    c.take.ensures.left ∙ ap (λ f. record {
      wiring = before.wiring;
      world = record { up = before.world.up; kept = before.world.kept; flying = f };
      made =
          before.made;
    })
    (none_taken c.args.link.0 c.args.dir before.world.flying none) in
    subst (λ (w : WorldNow). IsSound w.wiring w.world c.self.inside.done w.made) (sym same) (c.self.invariant works)

pub returns-in_default-clause-unchanged : goal.returns-in_default-clause-unchanged
returns-in_default-clause-unchanged c refused =
    let before = c.self.inside.world in
    let none : first_on c.args.link.0 c.args.dir before.world.flying ≡ None = sym c.take.ensures.value ∙ c.in_default.is in
    let same : c.take.new.self ≡ before =
    c.take.ensures.left ∙ ap (λ f. record {
      wiring = before.wiring;
      world = record { up = before.world.up; kept = before.world.kept; flying = f };
      made =
          before.made;
    })
    (none_taken c.args.link.0 c.args.dir before.world.flying none) in
    let shown : record { wiring = c.take.new.self.wiring; world = c.take.new.self.world; done = c.self.inside.done; failed = c.self.inside.failed }
    ≡ record { wiring = before.wiring; world = before.world; done = c.self.inside.done; failed = c.self.inside.failed } =
    ap (λ (w : WorldNow). record { wiring = w.wiring; world = w.world; done = c.self.inside.done; failed = c.self.inside.failed }) same in
    shown ∙ c.self.view_is

pub take_in-requires-clause-origin : goal.take_in-requires-clause-origin
take_in-requires-clause-origin c =
    let before = c.self.inside.world in
    let first : first_on c.args.link.0 c.args.dir before.world.flying ≡ Some c.in-Some.sent = sym c.take.ensures.value ∙ c.in-Some.is in
    let there = origin_there before.wiring before.world c.args.link.0 c.args.dir c.in-Some.sent (c.self.invariant c.if-self.false).flood first in
    omega (arith, there, ap (λ (a : Advert). a.origin) c.into_advert.ensures, ap (λ (w : WorldNow). length w.wiring.loopbacks) c.take.ensures.left)

pub invariant_of-self-2 : goal.invariant_of-self-2
invariant_of-self-2 c works =
    let before = c.self.inside.world in
    let first : first_on c.args.link.0 c.args.dir before.world.flying ≡ Some c.in-Some.sent = sym c.take.ensures.value ∙ c.in-Some.is in
    let few : c.self.inside.done ≤ 4000000 = search rules in
    let within : c.args.link.0 < length before.wiring.ends = search rules in
    let wiring : c.take_in.new.self.wiring ≡ before.wiring = c.take_in.ensures.wiring ∙ ap (λ (w : WorldNow). w.wiring) c.take.ensures.left in
    let took : c.take_in.new.self.world ≡ taken_in c.take.new.self.wiring c.take.new.self.world c.args.link.0
    (receiver c.take.new.self.wiring c.args.link.0 c.args.dir) c.into_advert.result = search rules in
    let from : taken_in c.take.new.self.wiring c.take.new.self.world c.args.link.0 (receiver c.take.new.self.wiring c.args.link.0 c.args.dir)
    c.into_advert.result
    ≡ taken_in before.wiring (record { up = before.world.up; kept = before.world.kept; flying = without_first c.args.link.0 c.args.dir before.world.flying })
    c.args.link.0
    (receiver before.wiring c.args.link.0 c.args.dir) c.in-Some.sent.advert =
    ap (λ (w : WorldNow). taken_in w.wiring w.world c.args.link.0 (receiver w.wiring c.args.link.0 c.args.dir) c.into_advert.result) c.take.ensures.left
    ∙ ap (taken_in before.wiring (record {
      up = before.world.up;
      kept = before.world.kept;
      flying =
          without_first c.args.link.0 c.args.dir before.world.flying;
    }) c.args.link.0
    (receiver before.wiring c.args.link.0 c.args.dir)) c.into_advert.ensures in
    let made : c.take_in.new.self.made ≤ c.take.new.self.made + 1024 = search rules in
    let most : c.take_in.new.self.made ≤ before.made + 1024 = omega (arith, made, ap (λ (w : WorldNow). w.made) c.take.ensures.left) in
    sound_heard before.wiring before.world c.self.inside.done before.made c.laws.ensures.wired (c.self.invariant c.if-self.false) few c.args.link.0 within
    c.args.dir c.in-Some.sent
    c.take_in.new.self.wiring c.take_in.new.self.world c.take_in.new.self.made first wiring
    (took ∙ from ∙ heard_is before.wiring before.world c.args.link.0 c.args.dir c.in-Some.sent first) most
