use Rattle.std.proofs.Common.{◌<◌, ◌∙◌, ap, length, subst, sym}
use Rattle.mn_labels.specs.Labels.{Labels, IsTold}
use Rattle.mn_frame_laws.specs.Given.{given}
use Rattle.mn_net_laws.specs.Told.{ChangedOnceFree}
use Rattle.mn_net_laws.proofs.Told.{changed_once_free, net_is, node_in}
use Rattle.mn_net_laws.specs.Now.{NetNow}
use Rattle.mn_net.proofs.net.Net.labels.Goals as goal

pub node-requires : goal.node-requires
node-requires c = node_in _ _ c.self.view_is (net_is _ _ c.self.view_is c.self.invariant c.requires.works) c.args.node.0 c.requires.node

pub returns : goal.returns
returns c =
    let is = net_is _ _ c.self.view_is c.self.invariant c.requires.works in
    let its = is.stands.transport.nodes c.args.node.0 c.node.result.now c.node.ensures in
    let same = its.labels ∙ ap (λ (n : NetNow). given n.topology n.journal c.args.node.0) c.self.view_is in
    record {
      told = c.given.ensures.given ∙ ap (λ (labels : Labels). labels.given) (c.labels.ensures.value ∙ same);
      one = subst IsTold same (c.labels.ensures.told its.works);
      free =
          subst (λ (n : NetNow). ChangedOnceFree n.topology n.journal c.args.node.0) c.self.view_is
          (changed_once_free _ is c.laws.ensures c.args.node.0
          (subst (λ (n : NetNow). c.args.node.0 < length n.topology.loopbacks) (sym c.self.view_is) c.requires.node));
    }
