use Rattle.std.proofs.Common.{◌++◌, ap, refl}
use Rattle.mn_journal.specs.Lines.{line_of}
use Rattle.mn_course_laws.specs.Course.{inputs_of}
use Rattle.mn_perform.specs.Adding.{only_in}
use Rattle.mn_perform.proofs.Adding.{puts_then, puts_cut, puts_out, stays_then, stays_out, stays_for}
use Rattle.mn_perform.proofs.Stepping.{items_in, behind_line, entry_is, step_recorded, nothing_recorded}
use Rattle.mn_perform.proofs.step.write_step.Goals as goal

pub returns-in_default-clause-records : goal.returns-in_default-clause-records
returns-in_default-clause-records g c = λ all stands is_made for. record {
  records = nothing_recorded c.args.net.now all c.args.output.now _ (entry_is _ _ _ _ c.journal.ensures c.last.ensures.value c.in_default.is);
  may = tt;
}

pub returns-in_err-put_entry-clause-records : goal.returns-in_err-put_entry-clause-records
returns-in_err-put_entry-clause-records g c = λ all stands is_made for.
    step_recorded c.args.net.now all c.in-Some.entry.now c.args.made c.topology-topology.ensures c.laws.ensures stands is_made
    (entry_is _ _ _ _ c.journal.ensures c.last.ensures.value c.in-Some.is) (stays_for c.args.net.now.topology c.in_err-put_entry.ensures.stays for)
    (puts_out c.from_residual.ensures (puts_cut (behind_line c.args.net.now all c.in-Some.entry.now c.args.made) c.in_err-put_entry.ensures.puts
    (λ k within. ap (λ t. only_in 0 (line_of t c.in-Some.entry.now) k ++ behind_line c.args.net.now all c.in-Some.entry.now c.args.made k)
    c.topology-topology.ensures)))

pub returns-in_err-put_entry-clause-stays : goal.returns-in_err-put_entry-clause-stays
returns-in_err-put_entry-clause-stays g c = stays_out c.from_residual.ensures c.in_err-put_entry.ensures.stays

pub returns-in_err-write_delivery-clause-records : goal.returns-in_err-write_delivery-clause-records
returns-in_err-write_delivery-clause-records g c = λ all stands is_made for.
    step_recorded c.args.net.now all c.in-Some.entry.now c.args.made c.topology-topology.ensures c.laws.ensures stands is_made
    (entry_is _ _ _ _ c.journal.ensures c.last.ensures.value c.in-Some.is)
    (stays_for c.args.net.now.topology (stays_then c.in_ok-put_entry.ensures.stays c.in_err-write_delivery.ensures.stays) for)
    (puts_out c.from_residual-in_err-write_delivery.ensures
    (puts_then c.in_ok-put_entry.ensures.puts
    (puts_cut {whole = behind_line c.args.net.now all c.in-Some.entry.now c.args.made} (items_in c.args.net.now all c.in-Some.entry.now c.args.made)
    (c.in_err-write_delivery.ensures.puts (inputs_of all c.args.net.now.journal) stands) (λ k within. refl))
    (λ k within. ap (λ t. only_in 0 (line_of t c.in-Some.entry.now) k ++ behind_line c.args.net.now all c.in-Some.entry.now c.args.made k)
    c.topology-topology.ensures)))

pub returns-in_err-write_delivery-clause-stays : goal.returns-in_err-write_delivery-clause-stays
returns-in_err-write_delivery-clause-stays g c =
    stays_out c.from_residual-in_err-write_delivery.ensures (stays_then c.in_ok-put_entry.ensures.stays c.in_err-write_delivery.ensures.stays)

pub returns-clause-records : goal.returns-clause-records
returns-clause-records g c = λ all stands is_made for.
    let before = stays_then c.in_ok-put_entry.ensures.stays c.in_ok-write_delivery.ensures.stays in
    let still = stays_for c.args.net.now.topology before for in
    step_recorded c.args.net.now all c.in-Some.entry.now c.args.made c.topology-topology.ensures c.laws.ensures stands is_made
    (entry_is _ _ _ _ c.journal.ensures c.last.ensures.value c.in-Some.is) (stays_for c.args.net.now.topology c.write_items.ensures.stays still)
    (puts_then c.in_ok-put_entry.ensures.puts
    (puts_then {whole = behind_line c.args.net.now all c.in-Some.entry.now c.args.made}
    (c.in_ok-write_delivery.ensures.puts (inputs_of all c.args.net.now.journal) stands)
    (c.write_items.ensures.puts (inputs_of all c.args.net.now.journal) stands still) (λ k within. refl))
    (λ k within. ap (λ t. only_in 0 (line_of t c.in-Some.entry.now) k ++ behind_line c.args.net.now all c.in-Some.entry.now c.args.made k)
    c.topology-topology.ensures))

pub returns-clause-stays : goal.returns-clause-stays
returns-clause-stays g c =
    stays_then (stays_then c.in_ok-put_entry.ensures.stays c.in_ok-write_delivery.ensures.stays) c.write_items.ensures.stays
