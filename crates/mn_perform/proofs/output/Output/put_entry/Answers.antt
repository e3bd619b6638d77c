use Rattle.std.proofs.Common.{◌≡◌, ap}
use Rattle.mn_journal.specs.Lines.{line_of}
use Rattle.mn_output_laws.specs.Files.{Journal}
use Rattle.mn_files.proofs.Places.{one_number, journal_is}
use Rattle.mn_perform.specs.Adding.{only_in}
use Rattle.mn_perform.proofs.Adding.{puts_as}
use Rattle.mn_perform.proofs.output.Output.put_entry.Goals as goal

pub returns-clause-puts : goal.returns-clause-puts
returns-clause-puts g c =
    let number : c.journal_file.result ≡ 0 =
    one_number c.args.topology.now _ 0 Journal (c.journal_file.ensures c.args.topology.now) (journal_is c.args.topology.now) in
    puts_as c.put_line.ensures.puts (λ k within. ap (λ n. only_in n (line_of c.args.topology.now c.args.entry.now) k) number)
