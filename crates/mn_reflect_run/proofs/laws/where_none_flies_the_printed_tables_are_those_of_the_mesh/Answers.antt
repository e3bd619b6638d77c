use Rattle.std.proofs.Common.{◌≡◌, true}
use Rattle.mn_base.proofs.Members.{in_contained, contained_in}
use Rattle.mn_ledger.specs.Places.{edges, edge_of}
use Rattle.mn_reflect_ledger_laws.proofs.Holding.{edge_is_in}
use Rattle.mn_reflect_telling.specs.Mentions.{numbers_of}
use Rattle.mn_reflect_run.specs.declared.command.ReflectLine.{ReflectLine}
use Rattle.mn_reflect_run.specs.Language.{command_fits}
use Rattle.mn_reflect_run.proofs.Sound.{course_sound, all_named, in_all}
use Rattle.mn_reflect_run.proofs.laws.where_none_flies_the_printed_tables_are_those_of_the_mesh.Goals as goal

pub returns : goal.returns
returns c = λ topology script lawful is v steps route there quiet.
    let reflectors = numbers_of script.reflectors in
    let sound = course_sound topology reflectors script.lines lawful is.reflectors
    (λ line i. in_all (λ (x : ReflectLine). command_fits topology reflectors x.command ≡ true) script.lines line is.fit i) in
    let before = sound.tables v steps (in_contained _ _ there) in
    c.where_none_flies_a_vrf_holds_its_routes.ensures topology reflectors steps (all_named topology reflectors lawful is.reflectors steps before.0.taken)
    is.reflectors quiet.none quiet.joined lawful before.0.done (edge_of topology v) v route
    (contained_in (edges topology) (edge_of topology v) (edge_is_in topology lawful v before.1))
