use Rattle.std.proofs.Common.{◌∙◌, ◌<◌, ◌≤◌, ◌+◌, arith, ap, sym, subst, length}
use Rattle.mn_ledger.specs.Items.{flight_of}
use Rattle.mn_net_laws.specs.Now.{NetNow, StandsFor}
use Rattle.mn_net_laws.proofs.Told.{net_is}
use Rattle.mn_net.specs.Tables.{count_of}
use Rattle.mn_net.proofs.Pieces.{pending_told, few_messages}
use Rattle.mn_net.proofs.net.Net.pending.Goals as goal

pub pending-requires : goal.pending-requires
pending-requires c =
    let is = net_is _ _ c.self.view_is c.self.invariant c.requires.works in
    let few : length c.self.inside.transport.messages + length c.self.inside.routes.messages ≤ c.self.inside.made =
    few_messages _ is.inputs is.stands in
    let within : c.self.inside.made < 18446744073709551616 = c.within.ensures in
    omega (arith, few, within)

pub returns : goal.returns
returns c =
    record {
      told =
          λ ps h. c.pending.ensures 0
          ∙ pending_told _ ps (subst (λ (n : NetNow). StandsFor n ps) (sym c.self.view_is) h) c.args.kind 0
          ∙ ap (λ (n : NetNow). count_of c.args.kind (flight_of n.topology n.journal ps).items) c.self.view_is;
    }
