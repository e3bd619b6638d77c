use Rattle.std.proofs.Common.{[], refl, sym, ap, ◌∙◌, subst, arith}
use Rattle.std.specs.Prelude.{Some, None}
use Rattle.mn_linkdb.specs.Learned.{Learned, IsView, links_up}
use Rattle.mn_linkdb.specs.PathTable.{nothing_known, with_entries}
use Rattle.mn_spf_inc.specs.Mending.{State, state_of}
use Rattle.mn_spf_inc.proofs.Nets.{none_up}
use Rattle.mn_spf_inc.proofs.Started.{started}
use Rattle.mn_spf_inc.proofs.tree.MendTree.over.Goals as goal

pub invariant_of-result : goal.invariant_of-result
invariant_of-result c =
    let v = c.args.links.now in
    let nodes = c.nodes.ensures ∙ ap (λ (x : Learned). x.nodes) c.in_ok-net.ensures.net in
    record {
      network = subst IsView (sym c.in_ok-net.ensures.net) c.in_ok-net.ensures.form;
      there = omega (arith, c.requires.root, ap (λ (x : Learned). x.nodes) c.in_ok-net.ensures.net);
      mended = λ f. started v.nodes c.args.root.0 v.ends c.requires.root
          (state_of c.in_ok-mend.mend) c.in_ok-net.net
          (c.in_ok-mend.ensures
          ∙ ap (λ n. let s : State = record { table = with_entries (nothing_known n) c.args.root.0 (Some 0) None; queue = []; cut = [] } in s) nodes)
          (c.in_ok-net.ensures.net ∙ c.in_ok-net.ensures.down);
    }

pub returns-clause-of : goal.returns-clause-of
returns-clause-of c = (refl, ap (λ (v : Learned). v.nodes) c.in_ok-net.ensures.net, ap (λ (v : Learned). v.ends) c.in_ok-net.ensures.net)

pub returns-clause-down : goal.returns-clause-down
returns-clause-down c =
    ap links_up (c.in_ok-net.ensures.net ∙ c.in_ok-net.ensures.down) ∙ none_up c.args.links.now.nodes c.args.links.now.ends
