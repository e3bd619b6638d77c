use Rattle.std.proofs.Common.{[], filter, sym, ◌∙◌, ap}
use Rattle.std.specs.Option.{unwrap_or}
use Rattle.mn_prefix.specs.Table.{first_of}
use Rattle.mn_vrf.specs.Routes.{is_open, sources_of}
use Rattle.mn_vrf.proofs.Finding.{sources_are}
use Rattle.mn_vrf.proofs.routes.Routes.open_at.Goals as goal

pub returns-in-Some : goal.returns-in-Some
returns-in-Some c =
    c.first_open.ensures
    ∙ ap (λ o. first_of (filter (is_open c.args.ways.now) (unwrap_or o []))) c.in-Some.ensures.value
    ∙ ap (λ ss. first_of (filter (is_open c.args.ways.now) ss))
    (sym (sources_are c.self.inside.table c.self.inside.prefixes.keys c.args.prefix c.self.invariant))
    ∙ ap (λ rs. first_of (filter (is_open c.args.ways.now) (sources_of c.args.prefix rs))) c.self.view_is

pub returns-in-None : goal.returns-in-None
returns-in-None c =
    ap (λ o. first_of (filter (is_open c.args.ways.now) (unwrap_or o []))) c.in-None.ensures.value
    ∙ ap (λ ss. first_of (filter (is_open c.args.ways.now) ss))
    (sym (sources_are c.self.inside.table c.self.inside.prefixes.keys c.args.prefix c.self.invariant))
    ∙ ap (λ rs. first_of (filter (is_open c.args.ways.now) (sources_of c.args.prefix rs))) c.self.view_is
