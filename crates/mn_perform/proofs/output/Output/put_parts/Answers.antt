use Rattle.std.proofs.Common.{◌++◌}
use Rattle.mn_perform.specs.Adding.{only_in}
use Rattle.mn_perform.proofs.Adding.{puts_then, puts_cut, puts_out, stays_then, stays_out, joined_in, header_then}
use Rattle.mn_perform.proofs.output.Output.put_parts.Goals as goal

pub returns-in_err-put-clause-puts : goal.returns-in_err-put-clause-puts
returns-in_err-put-clause-puts g c =
    let it = c.args.seen.now in
    puts_out c.from_residual.ensures (puts_cut (only_in c.args.file (it.front.now ++ it.packet.now)) c.in_err-put.ensures.puts
    (λ k within. header_then c.args.file k it.tick c.record_header.result it.front.now it.packet.now c.record_header.ensures))

pub returns-in_err-put-2-clause-puts : goal.returns-in_err-put-2-clause-puts
returns-in_err-put-2-clause-puts g c =
    let it = c.args.seen.now in
    puts_out c.from_residual-in_err-put-2.ensures
    (puts_then c.in_ok-put.ensures.puts
    (puts_cut {whole = only_in c.args.file (it.front.now ++ it.packet.now)} (only_in c.args.file it.packet.now) c.in_err-put-2.ensures.puts
    (λ k within. joined_in c.args.file k it.front.now it.packet.now))
    (λ k within. header_then c.args.file k it.tick c.record_header.result it.front.now it.packet.now c.record_header.ensures))

pub returns-clause-puts : goal.returns-clause-puts
returns-clause-puts g c =
    let it = c.args.seen.now in
    puts_then c.in_ok-put.ensures.puts
    (puts_then {whole = only_in c.args.file (it.front.now ++ it.packet.now)} c.in_ok-put-2.ensures.puts c.put-3.ensures.puts
    (λ k within. joined_in c.args.file k it.front.now it.packet.now))
    (λ k within. header_then c.args.file k it.tick c.record_header.result it.front.now it.packet.now c.record_header.ensures)

pub returns-in_err-put-clause-stays : goal.returns-in_err-put-clause-stays
returns-in_err-put-clause-stays g c = stays_out c.from_residual.ensures c.in_err-put.ensures.stays

pub returns-in_err-put-2-clause-stays : goal.returns-in_err-put-2-clause-stays
returns-in_err-put-2-clause-stays g c = stays_out c.from_residual-in_err-put-2.ensures (stays_then c.in_ok-put.ensures.stays c.in_err-put-2.ensures.stays)

pub returns-clause-stays : goal.returns-clause-stays
returns-clause-stays g c = stays_then (stays_then c.in_ok-put.ensures.stays c.in_ok-put-2.ensures.stays) c.put-3.ensures.stays
