use Rattle.std.proofs.Common.{length, ap, arith}
use Rattle.std.proofs.lemmas.List.{length-map}
use Rattle.std.specs.Prelude.{string_bytes}
use Rattle.mn_output_laws.specs.Files.{files_of, file_name}
use Rattle.mn_perform.proofs.Few.{few_files}
use Rattle.mn_perform.proofs.books.unbegun.Goals as goal

pub new-requires-2-clause-few : goal.new-requires-2-clause-few
new-requires-2-clause-few c = omega (
  arith,
  length-map c.in_ok-names.names.items string_bytes,
  ap length c.in_ok-names.ensures.names,
  length-map (files_of c.args.topology.now) (file_name c.args.folder.now c.args.topology.now),
  few_files c.args.topology.now c.laws.ensures,
)
