use Rattle.std.proofs.Common.{ap, ◌∙◌}
use Rattle.mn_lines.specs.Names.{names_of, name_at, ends_at, pairs_of, sender_of, hearer_of}
use Rattle.mn_tables.proofs.Telling.{tells_as}
use Rattle.mn_join_run.proofs.Rows.{flying_row}
use Rattle.mn_join_run.proofs.report.put_flying.Goals as goal

pub returns : goal.returns
returns g c =
    let ends = c.ends_at-ends.ensures ∙ ap (λ links. ends_at (pairs_of links) c.args.link.0) c.links.ensures in
    tells_as _ _ _ _ _ c.put_pieces.ensures
    (flying_row (names_of c.args.topology.now) c.args.link c.args.dir c.node_name-sender.result.now c.node_name-hearer.result.now
    (c.node_name-sender.ensures
    ∙ ap (name_at c.args.topology.now.node_names) (c.in_direction.ensures.sender ∙ ap (λ e. sender_of e c.args.dir) ends))
    (c.node_name-hearer.ensures
    ∙ ap (name_at c.args.topology.now.node_names) (c.in_direction.ensures.hearer ∙ ap (λ e. hearer_of e c.args.dir) ends)))
