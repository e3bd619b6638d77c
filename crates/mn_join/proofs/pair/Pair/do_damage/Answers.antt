use Rattle.std.proofs.Common.{◌∙◌}
use Rattle.mn_damage.specs.Refusals.{damage_refusal}
use Rattle.mn_join_laws.specs.Pairing.{network, side, with_damage}
use Rattle.mn_join_laws.specs.Course.{tried}
use Rattle.mn_join.proofs.Growing.{damaged_before}
use Rattle.mn_join.proofs.Coursing.{has_begun, tried_done, tried_not}
use Rattle.mn_join.proofs.pair.Pair.do_damage.Goals as goal

pub returns-clause-course : goal.returns-clause-course
returns-clause-course c = λ pairing both stands.
    let which = c.args.which in
    let why = damage_refusal (network pairing which) (side both which).past.entries (side both which).inputs c.args.damage c.args.packet.now in
    rw c.as_played.ensures
    (tried_done pairing which both (with_damage both which c.args.damage) why c.args.self.now c.damage.new.self c.hand_on.new.self
    (c.in_default.ensures.tries pairing both stands) (c.damage.ensures.exits ∙ c.requires.fresh) c.hand_on.result
    (c.hand_on.ensures.takes pairing (with_damage both which c.args.damage)))

pub returns-in-Err-clause-course : goal.returns-in-Err-clause-course
returns-in-Err-clause-course c = λ pairing both stands.
    let which = c.args.which in
    let done = with_damage both which c.args.damage in
    let why = damage_refusal (network pairing which) (side both which).past.entries (side both which).inputs c.args.damage c.args.packet.now in
    rw c.ended_by.ensures
    (tried_not pairing which both done why c.damage.new.self c.in-Err.why (c.in-Err.ensures.tries pairing both stands) (c.damage.ensures.exits
    ∙ c.requires.fresh)
    (has_begun pairing c.args.self.now c.damage.new.self both (tried pairing which both done why).both stands c.in-Err.ensures.left
    (damaged_before pairing which both c.args.damage why)))
