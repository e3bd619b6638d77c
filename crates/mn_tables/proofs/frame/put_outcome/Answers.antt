use Rattle.std.proofs.Common.{ap, ◌∙◌, ◌++◌}
use Rattle.std.specs.Prelude.{codes}
use Rattle.mn_output_laws.specs.Shown.{outcome_text}
use Rattle.mn_tables.proofs.Telling.{told_by, tells_as, tells_then, tells_first}
use Rattle.mn_tables.proofs.Frames.{whole_row, next_said, site_said, drop_said}
use Rattle.mn_tables.proofs.frame.put_outcome.Goals as goal

pub returns-in_err-put_head : goal.returns-in_err-put_head
returns-in_err-put_head g c =
    tells_as _ _ _ _ _ (tells_first _ _ _ _ _ _ c.from_residual.ensures c.in_err-put_head.ensures)
    (whole_row c.args.topology.now c.args.frame.node.0 c.args.frame.number
    (outcome_text c.args.topology.now c.args.forwarded.outcome c.args.forwarded.bytes.now))

pub returns-in-Next : goal.returns-in-Next
returns-in-Next g c =
    tells_as _ _ _ _ _
    (tells_then _ _ _ _ _ _ (told_by _ _ _ c.in_ok-put_head.ensures)
    (tells_as _ _ _ _ _ c.put_said.ensures (ap (λ said. said ++ codes "\n")
    (next_said c.args.topology.now c.args.forwarded.outcome c.in-Next.hop _ c.args.forwarded.bytes.now c.in-Next.is c.node_name-to.ensures))))
    (whole_row c.args.topology.now c.args.frame.node.0 c.args.frame.number
    (outcome_text c.args.topology.now c.args.forwarded.outcome c.args.forwarded.bytes.now))

pub returns-in-Site : goal.returns-in-Site
returns-in-Site g c =
    tells_as _ _ _ _ _
    (tells_then _ _ _ _ _ _ (told_by _ _ _ c.in_ok-put_head.ensures)
    (tells_as _ _ _ _ _ c.put_said-in-Site.ensures (ap (λ said. said ++ codes "\n")
    (site_said c.args.topology.now c.args.forwarded.outcome c.in-Site.site _ c.args.forwarded.bytes.now c.in-Site.is c.site_name-to.ensures))))
    (whole_row c.args.topology.now c.args.frame.node.0 c.args.frame.number
    (outcome_text c.args.topology.now c.args.forwarded.outcome c.args.forwarded.bytes.now))

pub returns-in-Drop : goal.returns-in-Drop
returns-in-Drop g c =
    tells_as _ _ _ _ _
    (tells_then _ _ _ _ _ _ (told_by _ _ _ c.in_ok-put_head.ensures)
    (tells_as _ _ _ _ _ c.put_said-in-Drop.ensures (ap (λ said. said ++ codes "\n")
    (drop_said c.args.topology.now c.args.forwarded.outcome c.in-Drop.rule _ c.args.forwarded.bytes.now c.in-Drop.is
    (c.as_bytes-word.ensures.value ∙ c.rule_name.ensures)))))
    (whole_row c.args.topology.now c.args.frame.node.0 c.args.frame.number
    (outcome_text c.args.topology.now c.args.forwarded.outcome c.args.forwarded.bytes.now))
