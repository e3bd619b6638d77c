use Rattle.std.proofs.Common.{◌≡◌, ◌++◌, ◌∙◌, ap, ℕ, List, length, take, ◌+◌, ◌<◌}
use Rattle.std.proofs.Common.{get_or}
use Rattle.mn_labels.specs.declared.meaning.Bind.TheVariants.{Fec}
use Rattle.mn_labels.specs.declared.meaning.Given.{Given}
use Rattle.mn_topo.specs.Network.{Network}
use Rattle.mn_output_laws.specs.Contents.{label_line, label_lines}
use Rattle.mn_perform.specs.Adding.{only_in}
use Rattle.mn_perform.proofs.Adding.{puts_then, puts_as, puts_short, puts_out, puts_none, stays_same, stays_then, stays_out, joined_in, nothing_in, more_in}
use Rattle.mn_perform.proofs.Opening.{next_label, labels_more}
use Rattle.std.proofs.lemmas.List.{take_all}
use Rattle.mn_perform.proofs.books.put_labels_of.Goals as goal

-- what the loop reads where nothing is
abbrev none : Given
none = record { label = 0; what = Fec (record { 0 = 0 }) }

-- the lines of the first few givings, and the next
next_line : (t : Network) (node n : ℕ) (givings : List Given) → n < length givings → (k : ℕ) →
    only_in 1 (label_lines t node (take n givings)) k ++ only_in 1 (label_line t node (get_or givings n none)) k
    ≡ only_in 1 (label_lines t node (take (n + 1) givings)) k
next_line t node n givings within k =
    joined_in 1 k (label_lines t node (take n givings)) (label_line t node (get_or givings n none))
    ∙ ap (λ l. only_in 1 l k) (next_label t node n givings none within)

pub loop-giving-init : goal.loop-giving-init
loop-giving-init g c = record { puts = puts_none (λ k within. nothing_in 1 k); stays = stays_same }

pub loop-giving-preserved : goal.loop-giving-preserved
loop-giving-preserved g c =
    let i = c.loop-giving.invariant in
    let done = c.in_ok-put_label.ensures in
    record {
      puts = puts_then i.puts done.puts
          (λ k within. next_line c.args.topology.now c.args.node.0 c.loop-giving.giving-index c.args.givings.now c.loop-giving-test.true k);
      stays = stays_then i.stays done.stays;
    }

pub returns-in_err-put_label-clause-puts : goal.returns-in_err-put_label-clause-puts
returns-in_err-put_label-clause-puts g c =
    puts_out c.from_residual.ensures
    (puts_short
    (puts_then {whole = only_in 1 (label_lines c.args.topology.now c.args.node.0 (take (c.loop-giving.giving-index + 1) c.args.givings.now))}
    c.loop-giving.invariant.puts c.in_err-put_label.ensures.puts
    (λ k within. next_line c.args.topology.now c.args.node.0 c.loop-giving.giving-index c.args.givings.now c.loop-giving-test.true k))
    (λ k. more_in 1 k (label_lines c.args.topology.now c.args.node.0 (take (c.loop-giving.giving-index + 1) c.args.givings.now))
    (label_lines c.args.topology.now c.args.node.0 c.args.givings.now)
    (labels_more c.args.topology.now c.args.node.0 (c.loop-giving.giving-index + 1) c.args.givings.now)))

pub returns-in_err-put_label-clause-stays : goal.returns-in_err-put_label-clause-stays
returns-in_err-put_label-clause-stays g c = stays_out c.from_residual.ensures (stays_then c.loop-giving.invariant.stays c.in_err-put_label.ensures.stays)

pub returns-clause-puts : goal.returns-clause-puts
returns-clause-puts g c = puts_as c.loop-giving.invariant.puts
    (λ k within. ap (λ bs. only_in 1 (label_lines c.args.topology.now c.args.node.0 bs) k)
    (take_all c.loop-giving.giving-index c.args.givings.now c.loop-giving-test.false))
