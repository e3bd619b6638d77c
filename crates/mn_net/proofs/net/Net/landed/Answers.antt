use Rattle.std.proofs.Common.{ap, subst}
use Rattle.mn_transit.specs.Landed.{HasLanded}
use Rattle.mn_net_laws.specs.Now.{NetNow}
use Rattle.mn_frame_laws.specs.Given.{given}
use Rattle.mn_net.proofs.Landed.{landing}
use Rattle.mn_net.proofs.net.Net.landed.Goals as goal

pub returns : goal.returns
returns c = record {
  told = λ inputs h.
      landing c.args.self.now.topology c.args.self.now.journal inputs (given c.args.self.now.topology c.args.self.now.journal) c.args.self.now.moving
      c.landed.result h.stands.packets (subst (λ m. HasLanded m c.landed.result) (ap (λ (n : NetNow). n.moving) c.self.view_is) c.landed.ensures);
}
