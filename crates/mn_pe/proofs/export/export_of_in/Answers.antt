use Rattle.std.proofs.Common.{◌∙◌, sym, ap}
use Rattle.mn_vrf.specs.Vrf.{VrfState, Holding, static_of}
use Rattle.mn_pe.specs.Exports.{export_by}
use Rattle.mn_pe.proofs.Sound.{asks_none, asks_one, by_vrfs}
use Rattle.mn_pe.proofs.Places.{if_ok}
use Rattle.mn_pe.proofs.export.export_of_in.Goals as goal

pub returns-in-None : goal.returns-in-None
returns-in-None c =
    sym (asks_none c.args.number.0 (λ (h : Holding). export_by c.args.labels.now h.vrf h.vrf.exports (static_of c.args.prefix h.vrf.statics)) c.args.vrfs.now
    c.in-None.ensures)
    ∙ by_vrfs c.args.number.0 (λ (vrf : VrfState). export_by c.args.labels.now vrf vrf.exports (static_of c.args.prefix vrf.statics)) c.args.vrfs.now

pub returns-in-Some : goal.returns-in-Some
returns-in-Some c =
    if_ok c.told_if.result (λ told is. is
    ∙ ap (export_by c.args.labels.now c.in-Some.vrf.now.vrf c.in-Some.vrf.now.vrf.exports) c.static_of.ensures
    ∙ sym (asks_one c.args.number.0 (λ (h : Holding). export_by c.args.labels.now h.vrf h.vrf.exports (static_of c.args.prefix h.vrf.statics))
    c.args.vrfs.now c.in-Some.vrf.now c.in-Some.ensures)
    ∙ by_vrfs c.args.number.0 (λ (vrf : VrfState). export_by c.args.labels.now vrf vrf.exports (static_of c.args.prefix vrf.statics)) c.args.vrfs.now)
    c.told_if.ensures
