use Rattle.std.proofs.Common.{◌≡◌, ◌∙◌, sym, ap}
use Rattle.mn_pcap.specs.Format.{record_of}
use Rattle.mn_output_laws.specs.Files.{Deliveries}
use Rattle.mn_output_laws.specs.Contents.{delivery_record}
use Rattle.mn_files.proofs.Places.{one_number, deliveries_are}
use Rattle.mn_perform.specs.Adding.{only_in}
use Rattle.mn_perform.proofs.Adding.{puts_as, puts_none, nothing_in}
use Rattle.mn_perform.proofs.Same.{some_told, none_told}
use Rattle.mn_perform.proofs.step.write_delivery.Goals as goal

pub returns-in-Some-clause-puts : goal.returns-in-Some-clause-puts
returns-in-Some-clause-puts g c = λ inputs stands.
    let file : c.deliveries_file.result ≡ 2 =
    one_number c.args.net.now.topology _ 2 Deliveries (c.deliveries_file.ensures c.args.net.now.topology) (deliveries_are c.args.net.now.topology) in
    puts_as c.put_record.ensures.puts (λ k within. ap (λ n. only_in n (record_of c.args.tick c.in-Some.packet.now) k) file
    ∙ ap (λ d. only_in 2 (delivery_record c.args.tick d) k) (some_told _ _ _ _ c.in-Some.is (c.delivered.ensures.told inputs stands)))

pub returns-in-None-clause-puts : goal.returns-in-None-clause-puts
returns-in-None-clause-puts g c = λ inputs stands. puts_none
    (λ k within. sym (ap (λ d. only_in 2 (delivery_record c.args.tick d) k) (none_told _ _ _ c.in-None.is (c.delivered.ensures.told inputs stands)))
    ∙ nothing_in 2 k)
