use Rattle.std.proofs.Common.{◌<◌, ◌∙◌, sym, ap, subst}
use Rattle.std.specs.List.{All}
use Rattle.mn_bindings.specs.Bindings.{nodes}
use Rattle.mn_bindings.proofs.Events.{nodes-after_events}
use Rattle.mn_bindings.proofs.bindings.Bound.take.Goals as goal

pub changes-requires : goal.changes-requires
changes-requires c =
    subst (λ n. All (λ one. one.fec.0 < n) c.args.before.now)
    (sym (ap nodes c.in_ok-follow.ensures.after ∙ nodes-after_events c.args.self.now c.args.events.now)) c.requires.before.below
