use Rattle.std.proofs.Common.{◌≡◌, ap, arith, ◌-◌, ◌+◌, ◌<◌, ◌≤◌}
use Rattle.mn_files.specs.Numbers.{file_at}
use Rattle.mn_perform.specs.Parts.{by_number, items_part}
use Rattle.mn_perform.proofs.Adding.{puts_then, puts_as, puts_short, puts_out, puts_none, stays_same, stays_then, stays_out, stays_for}
use Rattle.mn_perform.proofs.Same.{next_item, items_more}
use Rattle.mn_perform.proofs.step.write_items.Goals as goal

pub loop-number-init : goal.loop-number-init
loop-number-init g c = record {
  puts = λ inputs stands for. puts_none
      (λ k within. ap
      (λ n. items_part c.args.net.now.topology c.args.net.now.journal inputs c.args.tick c.args.made.first n (file_at c.args.net.now.topology k))
      (let e : c.args.made.first - c.args.made.first ≡ 0 = omega arith in e));
  within = omega arith;
  stays = stays_same;
}

pub loop-number-preserved : goal.loop-number-preserved
loop-number-preserved g c =
    let i = c.loop-number.invariant in
    let first : c.args.made.first ≤ c.loop-number.number = c.loop-number.auto.number in
    record {
      puts = λ inputs stands for. puts_then (i.puts inputs stands for)
          (c.in_ok-write_item.ensures.puts inputs stands (stays_for c.args.net.now.topology i.stays for))
          (λ k within. next_item c.args.net.now.topology c.args.net.now.journal inputs c.args.tick c.args.made.first c.loop-number.number
          (file_at c.args.net.now.topology k) first);
      within = omega (arith, c.loop-number-test.true);
      stays = stays_then i.stays c.in_ok-write_item.ensures.stays;
    }

pub returns-in_err-write_item-clause-puts : goal.returns-in_err-write_item-clause-puts
returns-in_err-write_item-clause-puts g c = λ inputs stands for.
    let i = c.loop-number.invariant in
    let first : c.args.made.first ≤ c.loop-number.number = c.loop-number.auto.number in
    let below : c.loop-number.number < c.args.made.end = c.loop-number-test.true in
    puts_out c.from_residual.ensures
    (puts_short
    (puts_then
    {whole = by_number c.args.net.now.topology
    (items_part c.args.net.now.topology c.args.net.now.journal inputs c.args.tick c.args.made.first (c.loop-number.number + 1 - c.args.made.first))}
    (i.puts inputs stands for) (c.in_err-write_item.ensures.puts inputs stands (stays_for c.args.net.now.topology i.stays for))
    (λ k within. next_item c.args.net.now.topology c.args.net.now.journal inputs c.args.tick c.args.made.first c.loop-number.number
    (file_at c.args.net.now.topology k) first))
    (λ k. items_more c.args.net.now.topology c.args.net.now.journal inputs c.args.tick c.args.made.first (c.loop-number.number + 1 - c.args.made.first)
    (c.args.made.end - c.args.made.first) (file_at c.args.net.now.topology k) (omega (arith, first, below))))

pub returns-in_err-write_item-clause-stays : goal.returns-in_err-write_item-clause-stays
returns-in_err-write_item-clause-stays g c = stays_out c.from_residual.ensures (stays_then c.loop-number.invariant.stays c.in_err-write_item.ensures.stays)

pub returns-clause-puts : goal.returns-clause-puts
returns-clause-puts g c = λ inputs stands for.
    let i = c.loop-number.invariant in
    let first : c.args.made.first ≤ c.loop-number.number = c.loop-number.auto.number in
    let past : c.args.made.end ≤ c.loop-number.number = c.loop-number-test.false in
    let within = i.within in
    let n : c.loop-number.number - c.args.made.first ≡ c.args.made.end - c.args.made.first = omega (arith, first, past, within) in
    puts_as (i.puts inputs stands for) (λ k within. ap
    (λ n. items_part c.args.net.now.topology c.args.net.now.journal inputs c.args.tick c.args.made.first n (file_at c.args.net.now.topology k)) n)
