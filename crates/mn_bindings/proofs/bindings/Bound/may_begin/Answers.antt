use Rattle.mn_bindings.proofs.Staying.{below, none_begins_by}
use Rattle.mn_bindings.proofs.bindings.Bound.may_begin.Goals as goal

pub are_offered-requires : goal.are_offered-requires
are_offered-requires c = below c.args.self.now c.args.events.now c.requires

pub returns-else-not-are_of_fecs-clause-none : goal.returns-else-not-are_of_fecs-clause-none
returns-else-not-are_of_fecs-clause-none c =
    none_begins_by c.args.self.now c.args.events.now c.are_offered.result c.requires (c.are_of_fecs.ensures.some c.if-not-are_of_fecs.false)
    c.are_offered.ensures
