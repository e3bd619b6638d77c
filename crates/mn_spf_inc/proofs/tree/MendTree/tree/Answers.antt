use Rattle.std.proofs.Common.{◌≡◌, subst}
use Rattle.std.specs.Prelude.{false}
use Rattle.mn_wiring.specs.Wiring.{Wiring}
use Rattle.mn_linkdb.specs.PathTable.{IsTable}
use Rattle.mn_linkdb.specs.Trees.{IsTree}
use Rattle.mn_spf_inc.specs.Mended.{Mended, IsOver}
use Rattle.mn_spf_inc.specs.Mending.{state_of}
use Rattle.mn_spf_inc.proofs.Held.{mended_tree}
use Rattle.mn_spf_inc.proofs.tree.MendTree.tree.Goals as goal

pub returns-clause-one_each : goal.returns-clause-one_each
returns-clause-one_each c =
    subst (λ (x : Mended). x.failed ≡ false → IsTable x.nodes x.tree) c.self.view_is (λ f. (c.self.invariant.mended f).stands.one_each)

pub returns-clause-least : goal.returns-clause-least
returns-clause-least c =
    subst (λ (x : Mended). x.failed ≡ false → (wiring : Wiring) → IsOver wiring x → IsTree wiring x.up x.root x.tree) c.self.view_is
    (λ f wiring o. mended_tree c.self.inside.net c.self.inside.root.0 c.self.invariant.network.network c.self.invariant.there (state_of c.self.inside.mend)
    (c.self.invariant.mended f) wiring o.nodes o.ends)
