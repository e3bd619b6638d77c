use Rattle.std.proofs.Common.{length}
use Rattle.mn_perform.specs.Heads.{frame_heads}
use Rattle.mn_perform.specs.Parts.{by_number}
use Rattle.mn_perform.proofs.Adding.{puts_then, puts_cut, puts_out, stays_then, stays_out, stays_for, in_run}
use Rattle.mn_perform.proofs.Opening.{heads_in}
use Rattle.mn_perform.proofs.books.put_heads.Goals as goal

pub returns-in_err-put_header-clause-puts : goal.returns-in_err-put_header-clause-puts
returns-in_err-put_header-clause-puts g c = λ for.
    puts_out c.from_residual.ensures
    (puts_cut (by_number c.args.topology.now (frame_heads (length c.args.topology.now.links))) c.in_err-put_header.ensures.puts
    (λ k within. heads_in c.args.topology.now c.deliveries_file.result k (c.deliveries_file.ensures c.args.topology.now)
    (in_run _ c.args.topology.now k (stays_for c.args.topology.now c.in_err-put_header.ensures.stays for) within)))

pub returns-in_err-put_header-clause-stays : goal.returns-in_err-put_header-clause-stays
returns-in_err-put_header-clause-stays g c = stays_out c.from_residual.ensures c.in_err-put_header.ensures.stays

pub returns-clause-puts : goal.returns-clause-puts
returns-clause-puts g c = λ for.
    let still = stays_for c.args.topology.now c.in_ok-put_header.ensures.stays for in
    puts_then c.in_ok-put_header.ensures.puts (c.put_frame_heads.ensures.puts still)
    (λ k within. heads_in c.args.topology.now c.deliveries_file.result k (c.deliveries_file.ensures c.args.topology.now)
    (in_run _ c.args.topology.now k (stays_for c.args.topology.now c.put_frame_heads.ensures.stays still) within))

pub returns-clause-stays : goal.returns-clause-stays
returns-clause-stays g c = stays_then c.in_ok-put_header.ensures.stays c.put_frame_heads.ensures.stays
