use Rattle.std.proofs.Common.{◌∙◌, ap, sym, []}
use Rattle.std.specs.Option.{unwrap_or}
use Rattle.mn_vrf.specs.Routes.{is_held, has_source}
use Rattle.mn_vrf.proofs.Finding.{held_is}
use Rattle.mn_vrf.proofs.routes.Routes.has.Goals as goal

pub returns-in-Some : goal.returns-in-Some
returns-in-Some c =
    c.has.ensures
    ∙ ap (λ o. has_source c.args.source.now (unwrap_or o [])) c.in-Some.ensures.value
    ∙ sym (held_is c.self.inside.table c.self.inside.prefixes.keys c.args.prefix c.args.source.now c.self.invariant)
    ∙ ap (is_held (c.args.prefix, c.args.source.now)) c.self.view_is

pub returns-in-None : goal.returns-in-None
returns-in-None c =
    ap (λ o. has_source c.args.source.now (unwrap_or o [])) c.in-None.ensures.value
    ∙ sym (held_is c.self.inside.table c.self.inside.prefixes.keys c.args.prefix c.args.source.now c.self.invariant)
    ∙ ap (is_held (c.args.prefix, c.args.source.now)) c.self.view_is
