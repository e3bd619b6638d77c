use Rattle.std.proofs.Common.{◌≡◌, ◌++◌, ◌∙◌, ap, List, ℕ, length, arith, ◌+◌, ◌<◌, ◌≤◌}
use Rattle.std.specs.List.{flat_map, range_with_len}
use Rattle.std.proofs.lemmas.List.{length-map}
use Rattle.mn_frame_laws.specs.Given.{given}
use Rattle.mn_labels.specs.declared.meaning.Given.{Given}
use Rattle.mn_topo.specs.Network.{Network}
use Rattle.mn_output_laws.specs.Contents.{label_lines}
use Rattle.mn_perform.specs.Adding.{only_in}
use Rattle.mn_perform.proofs.Adding.{puts_then, puts_as, puts_short, puts_out, puts_none, stays_same, stays_then, stays_out, joined_in, nothing_in, more_in}
use Rattle.mn_perform.proofs.Opening.{one_node_more, nodes_more}
use Rattle.mn_perform.proofs.books.put_labels.Goals as goal

-- the lines of the first few nodes, and those of the next, by the topology and the givings that were answered
next_node : (f : ℕ → List ℕ) (n : ℕ) (lines : List ℕ) → lines ≡ f n → (k : ℕ) →
    only_in 1 (flat_map f (range_with_len 0 n)) k ++ only_in 1 lines k ≡ only_in 1 (flat_map f (range_with_len 0 (n + 1))) k
next_node f n lines are k =
    joined_in 1 k (flat_map f (range_with_len 0 n)) lines
    ∙ ap (λ l. only_in 1 l k) (ap (λ l. flat_map f (range_with_len 0 n) ++ l) are ∙ one_node_more f n)

lines_of : (topology t : Network) (node : ℕ) (givings own : List Given) → topology ≡ t → givings ≡ own →
    label_lines topology node givings ≡ label_lines t node own
lines_of topology t node givings own same told = ap (label_lines topology node) told ∙ ap (λ u. label_lines u node own) same

pub loop-number-init : goal.loop-number-init
loop-number-init g c = record { puts = puts_none (λ k within. nothing_in 1 k); stays = stays_same }

pub loop-number-preserved : goal.loop-number-preserved
loop-number-preserved g c =
    let i = c.loop-number.invariant in
    let f : ℕ → List ℕ = (λ node. label_lines c.args.net.now.topology node (given c.args.net.now.topology c.args.net.now.journal node).given) in
    let done = c.in_ok-put_labels_of.ensures in
    record {
      puts = puts_then i.puts done.puts
          (λ k within. next_node f c.loop-number.number _ (lines_of _ _ c.loop-number.number _ _ c.topology-topology.ensures c.labels.ensures.told) k);
      stays = stays_then i.stays done.stays;
    }

pub returns-in_err-put_labels_of-clause-puts : goal.returns-in_err-put_labels_of-clause-puts
returns-in_err-put_labels_of-clause-puts g c =
    let many : length c.nodes-number-end.result.now ≡ length c.args.net.now.topology.loopbacks =
    ap length c.nodes-number-end.ensures ∙ length-map _ _ ∙ ap (λ t. length t.loopbacks) c.topology-topology.ensures in
    let f : ℕ → List ℕ = (λ node. label_lines c.args.net.now.topology node (given c.args.net.now.topology c.args.net.now.journal node).given) in
    let below : c.loop-number.number < length c.nodes-number-end.result.now = c.loop-number-test.true in
    puts_out c.from_residual.ensures
    (puts_short
    (puts_then {whole = only_in 1 (flat_map f (range_with_len 0 (c.loop-number.number + 1)))} c.loop-number.invariant.puts
    c.in_err-put_labels_of.ensures.puts
    (λ k within. next_node f c.loop-number.number _ (lines_of _ _ c.loop-number.number _ _ c.topology-topology.ensures c.labels.ensures.told) k))
    (λ k. more_in 1 k (flat_map f (range_with_len 0 (c.loop-number.number + 1))) (flat_map f (range_with_len 0 (length c.args.net.now.topology.loopbacks)))
    (nodes_more f (c.loop-number.number + 1) (length c.args.net.now.topology.loopbacks) (omega (arith, many, below)))))

pub returns-in_err-put_labels_of-clause-stays : goal.returns-in_err-put_labels_of-clause-stays
returns-in_err-put_labels_of-clause-stays g c =
    stays_out c.from_residual.ensures (stays_then c.loop-number.invariant.stays c.in_err-put_labels_of.ensures.stays)

pub returns-clause-puts : goal.returns-clause-puts
returns-clause-puts g c =
    let f : ℕ → List ℕ = (λ node. label_lines c.args.net.now.topology node (given c.args.net.now.topology c.args.net.now.journal node).given) in
    let many : length c.nodes-number-end.result.now ≡ length c.args.net.now.topology.loopbacks =
    ap length c.nodes-number-end.ensures ∙ length-map _ _ ∙ ap (λ t. length t.loopbacks) c.topology-topology.ensures in
    let end : c.loop-number.number ≤ length c.nodes-number-end.result.now = c.loop-number.auto.number-end in
    let past : length c.nodes-number-end.result.now ≤ c.loop-number.number = c.loop-number-test.false in
    let all : c.loop-number.number ≡ length c.args.net.now.topology.loopbacks = omega (arith, many, end, past) in
    puts_as c.loop-number.invariant.puts (λ k within. ap (λ n. only_in 1 (flat_map f (range_with_len 0 n)) k) all)
