use Rattle.std.proofs.Common.{◌≡◌, ap}
use Rattle.mn_output_laws.specs.Files.{Labels}
use Rattle.mn_output_laws.specs.Contents.{label_line}
use Rattle.mn_files.proofs.Places.{one_number, labels_are}
use Rattle.mn_perform.specs.Adding.{only_in}
use Rattle.mn_perform.proofs.Adding.{puts_as}
use Rattle.mn_perform.proofs.output.Output.put_label.Goals as goal

pub returns-clause-puts : goal.returns-clause-puts
returns-clause-puts g c =
    let number : c.labels_file.result ≡ 1 =
    one_number c.args.topology.now _ 1 Labels (c.labels_file.ensures c.args.topology.now) (labels_are c.args.topology.now) in
    puts_as c.put_line.ensures.puts (λ k within. ap (λ n. only_in n (label_line c.args.topology.now c.args.node.0 c.args.giving) k) number)
