use Rattle.std.proofs.Common.{sym, ap}
use Rattle.mn_files.specs.Numbers.{file_at}
use Rattle.mn_perform.specs.Parts.{item_part, piece_of}
use Rattle.mn_perform.proofs.Adding.{puts_as, puts_none, stays_for, in_run}
use Rattle.mn_perform.proofs.Same.{some_told, none_told, file_found, written_part, unwritten_part, as_it_is}
use Rattle.mn_perform.proofs.step.write_item.Goals as goal

pub returns-in_default-clause-puts : goal.returns-in_default-clause-puts
returns-in_default-clause-puts g c = λ inputs stands for. puts_none
    (λ k within. sym (ap (λ o. item_part c.args.tick o (file_at c.args.net.now.topology k))
    (none_told _ _ _ c.in_default.is (c.item.ensures.told inputs stands))))

pub returns-in_default-file_of-clause-puts : goal.returns-in_default-file_of-clause-puts
returns-in_default-file_of-clause-puts g c = λ inputs stands for. puts_none
    (λ k within. unwritten_part c.args.net.now.topology c.args.tick k _ _ (some_told _ _ _ _ c.in-Some.is (c.item.ensures.told inputs stands))
    (file_found _ _ _ _ _ _ c.topology.ensures c.in_default-file_of.is c.file_of.ensures for.table) (in_run _ c.args.net.now.topology k for within))

pub returns-in-Frame-clause-puts : goal.returns-in-Frame-clause-puts
returns-in-Frame-clause-puts g c = λ inputs stands for. puts_as c.put_record.ensures.puts
    (λ k within. written_part c.args.net.now.topology c.args.tick c.in-Some-file_of.file k _ _ _
    (some_told _ _ _ _ c.in-Some.is (c.item.ensures.told inputs stands))
    (ap (λ of. piece_of c.args.tick of c.in-Some.item.bytes.now) (sym c.in-Frame.is))
    (file_found _ _ _ _ _ _ c.topology.ensures c.in-Some-file_of.is c.file_of.ensures for.table)
    (in_run _ c.args.net.now.topology k (stays_for c.args.net.now.topology c.put_record.ensures.stays for) within))

pub returns-in_default-channel-clause-puts : goal.returns-in_default-channel-clause-puts
returns-in_default-channel-clause-puts g c = λ inputs stands for. puts_as c.put.ensures.puts
    (λ k within. written_part c.args.net.now.topology c.args.tick c.in-Some-file_of.file k _ _ _
    (some_told _ _ _ _ c.in-Some.is (c.item.ensures.told inputs stands))
    (sym (as_it_is c.args.tick c.in-Some.item.channel c.in-Some.item.bytes.now c.in_default-channel.not-Frame))
    (file_found _ _ _ _ _ _ c.topology.ensures c.in-Some-file_of.is c.file_of.ensures for.table)
    (in_run _ c.args.net.now.topology k (stays_for c.args.net.now.topology c.put.ensures.stays for) within))
