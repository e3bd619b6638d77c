use Rattle.std.proofs.Common.{◌≡◌, false, sym, ◌∙◌, ap, subst}
use Rattle.std.specs.Prelude.{IfSome}
use Rattle.mn_prefix.specs.Prefix.{AddressBlock}
use Rattle.mn_vrf.specs.declared.source.Source.{Source}
use Rattle.mn_vrf.specs.Routes.{found_among}
use Rattle.mn_vrf.specs.Vrf.{VrfState}
use Rattle.mn_pe.specs.Entries.{HasLabel}
use Rattle.mn_pe.specs.Held.{held_by}
use Rattle.mn_pe.specs.Pe.{PeNow, InOrder, found_in}
use Rattle.mn_pe.proofs.Found.{found_label_among}
use Rattle.mn_pe.proofs.pe.Pe.entered_among.Goals as goal

-- a peer's route has a label of 20 bits
pub entered_by-requires-clause-label : goal.entered_by-requires-clause-label
entered_by-requires-clause-label c =
    let works : c.self.inside.failed ≡ false = ap (λ (p : PeNow). p.failed) c.self.view_is ∙ c.requires.works in
    subst (λ o. IfSome o (λ (x : AddressBlock × Source). HasLabel x.1))
    (sym (c.lookup_among-found.ensures c.requires.works
    ∙ ap (λ v. found_in v (λ (state : VrfState). found_among c.args.ways.now c.in-Ok.head.destination (held_by c.args.self.now.edge state))
    c.args.self.now.edge.vrfs) c.vrf_of.ensures))
    (found_label_among c.args.self.now.edge c.args.ways.now c.args.site.0 c.in-Ok.head.destination
    (subst (λ (p : PeNow). InOrder p.edge) c.self.view_is (c.self.invariant works).order))
