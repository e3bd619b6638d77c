use Rattle.std.proofs.Common.{◌≡◌, sym, ap, length, arith, ◌+◌, ◌<◌, ◌≤◌}
use Rattle.mn_files.specs.Numbers.{file_at}
use Rattle.mn_perform.specs.Heads.{frame_heads}
use Rattle.mn_perform.specs.Parts.{by_number}
use Rattle.mn_perform.proofs.Adding.{puts_then, puts_as, puts_short, puts_out, puts_none, stays_same, stays_then, stays_out, stays_for}
use Rattle.mn_perform.proofs.Opening.{no_heads, one_head_more, heads_more}
use Rattle.mn_perform.proofs.books.put_frame_heads.Goals as goal

pub loop-link-init : goal.loop-link-init
loop-link-init g c = record { puts = λ for. puts_none (λ k within. no_heads (file_at c.args.topology.now k)); stays = stays_same }

pub loop-link-preserved : goal.loop-link-preserved
loop-link-preserved g c =
    let i = c.loop-link.invariant in
    let done = c.in_ok-put_frame_head.ensures in
    record {
      puts = λ for. puts_then (i.puts for) (done.puts (stays_for c.args.topology.now i.stays for))
          (λ k within. sym (one_head_more c.loop-link.link (file_at c.args.topology.now k)));
      stays = stays_then i.stays done.stays;
    }

pub returns-in_err-put_frame_head-clause-puts : goal.returns-in_err-put_frame_head-clause-puts
returns-in_err-put_frame_head-clause-puts g c = λ for.
    let i = c.loop-link.invariant in
    puts_out c.from_residual.ensures
    (puts_short
    (puts_then {whole = by_number c.args.topology.now (frame_heads (c.loop-link.link + 1))} (i.puts for)
    (c.in_err-put_frame_head.ensures.puts (stays_for c.args.topology.now i.stays for))
    (λ k within. sym (one_head_more c.loop-link.link (file_at c.args.topology.now k))))
    (λ k. heads_more (c.loop-link.link + 1) (length c.args.topology.now.links) (file_at c.args.topology.now k)
    (let many : length c.links-link-end.result.now ≡ length c.args.topology.now.links = ap length c.links-link-end.ensures in
    let below : c.loop-link.link < length c.links-link-end.result.now = c.loop-link-test.true in omega (arith, many, below))))

pub returns-in_err-put_frame_head-clause-stays : goal.returns-in_err-put_frame_head-clause-stays
returns-in_err-put_frame_head-clause-stays g c =
    stays_out c.from_residual.ensures (stays_then c.loop-link.invariant.stays c.in_err-put_frame_head.ensures.stays)

pub returns-clause-puts : goal.returns-clause-puts
returns-clause-puts g c = λ for.
    let many : length c.links-link-end.result.now ≡ length c.args.topology.now.links = ap length c.links-link-end.ensures in
    let end : c.loop-link.link ≤ length c.links-link-end.result.now = c.loop-link.auto.link-end in
    let past : length c.links-link-end.result.now ≤ c.loop-link.link = c.loop-link-test.false in
    let all : c.loop-link.link ≡ length c.args.topology.now.links = omega (arith, many, end, past) in
    puts_as (c.loop-link.invariant.puts for) (λ k within. ap (λ n. frame_heads n (file_at c.args.topology.now k)) all)
