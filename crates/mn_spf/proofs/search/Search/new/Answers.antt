use Rattle.std.proofs.Common.{◌≡◌, ℕ, Bool, List, replicate, set, false, true, ap, ◌∙◌, rules}
use Rattle.std.specs.Prelude.{Some, None}
use Rattle.mn_linkdb.specs.PathTable.{PathTable, nothing_known, with_entries}
use Rattle.mn_spf.proofs.Steps.{started, start_followed}
use Rattle.mn_spf.proofs.search.Search.new.Goals as goal

marked : (marks : List Bool) (at at' n n' : ℕ) → marks ≡ replicate n false → n ≡ n' → at ≡ at' → set marks at true ≡ set (replicate n' false) at' true
marked marks at at' n n' e f g = cc

pub returns-clause-search : goal.returns-clause-search
returns-clause-search c =
    started c.args.view.now c.args.root.0 c.nodes.ensures.form.network c.requires _
    (c.set.ensures ∙ ap (λ (t : PathTable). with_entries t c.args.root.0 (Some 0) None) (c.in_ok-tree.ensures ∙ ap nothing_known c.nodes.ensures.value))
    (let e : c.in_ok-settled.settled.items ≡ replicate c.nodes-2.result false = search rules in marked _ _ _ _ _ e c.nodes-2.ensures.value c.from.ensures)
    c.new-queue.ensures.items c.new-queue.ensures.heap_order

pub returns-clause-followed : goal.returns-clause-followed
returns-clause-followed c =
    start_followed c.args.view.now c.args.root.0 c.nodes.ensures.form.network c.requires _
    (c.set.ensures ∙ ap (λ (t : PathTable). with_entries t c.args.root.0 (Some 0) None) (c.in_ok-tree.ensures ∙ ap nothing_known c.nodes.ensures.value))
    (let e : c.in_ok-settled.settled.items ≡ replicate c.nodes-2.result false = search rules in marked _ _ _ _ _ e c.nodes-2.ensures.value c.from.ensures)
    c.new-queue.ensures.items c.new-queue.ensures.heap_order
