use Rattle.std.proofs.Common.{[], sym, subst}
use Rattle.mn_ldp_session.specs.Spelling.{AreSpelled}
use Rattle.mn_lsr.proofs.parts.Parts.hear.Goals as goal

pub heard_in-requires-clause-spelled : goal.heard_in-requires-clause-spelled
heard_in-requires-clause-spelled c =
    let spelled = c.requires.stands.wired.spelled in
    subst (λ xs. AreSpelled (record { loopbacks = xs; ends = [] })) (sym c.deref.ensures.value)
    (record { few = spelled.few; fit = spelled.fit; distinct = spelled.distinct })
