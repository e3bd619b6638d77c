use Rattle.std.proofs.Common.{◌++◌, ◌∷◌, [], map, ap, ◌∙◌}
use Rattle.std.specs.List.{flat_map}
use Rattle.mn_wiring.specs.Wiring.{links_of}
use Rattle.mn_wiring.specs.declared.links.Dir.TheVariants.{Forth, Back}
use Rattle.mn_edge.specs.Memory.{all_differ}
use Rattle.mn_edge.specs.Written.{texts}
use Rattle.mn_topo.specs.Network.{wiring_of}
use Rattle.mn_ledger.specs.Places.{edges}
use Rattle.mn_output_laws.specs.Files.{Journal, Labels, Deliveries, Frames, Said, file_name, told_files}
use Rattle.mn_files.proofs.Texts.{all_names}
use Rattle.mn_files.proofs.Differing.{names_differ}
use Rattle.mn_files.proofs.names.file_names.Goals as goal

pub returns-clause-names : goal.returns-clause-names
returns-clause-names c =
    all_names (file_name c.args.folder.now c.args.topology.now) (Journal ∷ Labels ∷ Deliveries ∷ [])
    (map (λ l. Frames l) (links_of (wiring_of c.args.topology.now)))
    (flat_map (λ l. Said l Forth ∷ Said l Back ∷ []) (links_of (wiring_of c.args.topology.now)))
    (flat_map (told_files c.args.topology.now) (edges c.args.topology.now))
    (texts c.push_lone.new.names.items) (texts c.push_frames.new.names.items) (texts c.push_said.new.names.items) (texts c.push_told.new.names.items)
    (c.in_ok-push_lone.ensures c.args.topology.now
    ∙ ap (λ names. texts names ++ map (file_name c.args.folder.now c.args.topology.now) (Journal ∷ Labels ∷ Deliveries ∷ [])) c.new-names.ensures.items)
    c.in_ok-push_frames.ensures c.in_ok-push_said.ensures c.in_ok-push_told.ensures

pub returns-clause-differ : goal.returns-clause-differ
returns-clause-differ c = ap all_differ (returns-clause-names c) ∙ names_differ c.args.folder.now c.args.topology.now c.laws.ensures
