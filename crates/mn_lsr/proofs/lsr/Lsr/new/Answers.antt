use Rattle.std.proofs.Common.{◌≡◌, List, [], sym, ap, subst, length}
use Rattle.std.specs.Prelude.{IfOk, false}
use Rattle.mn_node.specs.Machine.{fresh_node}
use Rattle.mn_labels.specs.Labels.{none_given}
use Rattle.mn_releases.specs.Rests.{at_first}
use Rattle.mn_wiring.specs.declared.links.LinkEnds.{LinkEnds}
use Rattle.mn_linkdb.specs.Learned.{Learned}
use Rattle.mn_lsr.specs.Standing.{Standing, IsWired}
use Rattle.mn_lsr.proofs.lsr.Lsr.new.Goals as goal

pub over-requires-clause-wired : goal.over-requires-clause-wired
over-requires-clause-wired c =
    subst (λ (v : Learned). IsWired (record { loopbacks = c.args.loopbacks.now; ends = v.ends })) (sym c.in_ok-links.ensures) c.requires.wired

pub over-requires-clause-nodes : goal.over-requires-clause-nodes
over-requires-clause-nodes c = ap (λ (v : Learned). v.nodes) c.in_ok-links.ensures

pub returns-clause-fresh : goal.returns-clause-fresh
returns-clause-fresh c =
    let loopbacks = c.args.loopbacks.now in
    subst (λ (es : List LinkEnds). IfOk c.over.result (λ (lsr : Standing). lsr ≡ record {
      wiring = record { loopbacks = loopbacks; ends = es };
      node = fresh_node (record { loopbacks = loopbacks; ends = es }) c.args.me.0;
      labels = none_given (length loopbacks);
      resting = at_first (length loopbacks) c.args.life;
      uses = [];
      failed = false;
    })) (ap (λ (v : Learned). v.ends) c.in_ok-links.ensures) c.over.ensures.fresh
