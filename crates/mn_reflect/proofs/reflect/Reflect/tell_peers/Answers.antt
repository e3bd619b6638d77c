use Rattle.std.proofs.Common.{subst, sym}
use Rattle.mn_reflect_world_laws.specs.Now.{ReflectNow}
use Rattle.mn_reflect_telling.specs.Mentions.{AreNodes}
use Rattle.mn_reflect.proofs.reflect.Reflect.tell_peers.Goals as goal

pub tell_exports-requires-clause-peers : goal.tell_exports-requires-clause-peers
tell_exports-requires-clause-peers c =
    subst (λ (x : ReflectNow). AreNodes x.topology c.deref.result.now) (sym c.self.view_is)
    (subst (AreNodes c.args.self.now.topology) (sym c.deref.ensures.value) c.in_ok-peers.ensures.nodes)
