use Rattle.mn_flood_run.specs.Report.{course_of}
use Rattle.mn_flood_run.proofs.Drains.{course_sound}
use Rattle.mn_flood_run.proofs.Trees.{settled}
use Rattle.mn_flood_run.proofs.laws.where_none_flies_the_printed_trees_are_those_of_the_links.Goals as goal

pub returns : goal.returns
returns c = λ topology lines lawful fits quiet.
    settled c.each_root_has_a_tree.ensures c.tree_is_computed.ensures.dist c.tree_is_computed.ensures.next topology (course_of topology lines).world
    lawful.joins_nodes lawful.ends_differ (course_sound topology lawful.joins_nodes lawful.ends_differ lines fits).flood quiet
