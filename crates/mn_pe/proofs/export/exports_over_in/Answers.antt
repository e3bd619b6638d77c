use Rattle.std.proofs.Common.{◌≡◌, List, ◌∷◌, ◌++◌, drop, ap, ◌+◌, ◌∙◌, sym, eq-eqb}
use Rattle.std.specs.Prelude.{◌==◌}
use Rattle.mn_base.specs.declared.numbers.VrfNo.{VrfNo}
use Rattle.mn_base.proofs.Bools.{other_test}
use Rattle.mn_vrf.specs.Vrf.{VrfState, Holding}
use Rattle.mn_pe.specs.Exports.{exports_by_over, exports_over_among}
use Rattle.mn_pe.specs.Pe.{told}
use Rattle.mn_pe.proofs.Walks.{drop_at, drop_past, put_more, put_all, kept_in, left_out}
use Rattle.mn_pe.proofs.export.exports_over_in.Goals as goal
use Rattle.mn_pe.proofs.export.exports_over_in.Goals.{then-number+in_ok-put_over, else-number}

-- the VRF has the number, or puts nothing
pub loop-vrf-preserved : goal.loop-vrf-preserved
loop-vrf-preserved c =
    let rest : List Holding = drop (c.loop-vrf.vrf-index + 1) c.args.vrfs.now in
    let step : exports_over_among c.args.labels.now c.args.number.0 c.args.site.0 (told (drop c.loop-vrf.vrf-index c.args.vrfs.now))
    ≡ exports_over_among c.args.labels.now c.args.number.0 c.args.site.0 (told (c.vrf-item.result ∷ rest)) =
    ap (λ (hs : List Holding). exports_over_among c.args.labels.now c.args.number.0 c.args.site.0 (told hs))
    (drop_at c.args.vrfs.now c.loop-vrf.vrf-index c.vrf-item.result c.loop-vrf-test.true c.vrf-item.is) in
    elim c.if-number.branch [
      | then-number+in_ok-put_over w ↦
          put_more c.loop-vrf.out.items (exports_by_over c.args.labels.now c.args.site.0 c.vrf-item.result.vrf c.vrf-item.result.vrf.exports)
          c.if-number.out.items
          (exports_over_among c.args.labels.now c.args.number.0 c.args.site.0 (told (drop c.loop-vrf.vrf-index c.args.vrfs.now)))
          (exports_over_among c.args.labels.now c.args.number.0 c.args.site.0 (told rest))
          (exports_over_among c.args.labels.now c.args.number.0 c.args.site.0 (told c.args.vrfs.now))
          (step ∙ kept_in (λ (u : VrfState). exports_by_over c.args.labels.now c.args.site.0 u u.exports) (λ (u : VrfState). u.number == c.args.number.0)
          c.vrf-item.result.vrf (told rest)
          (eq-eqb c.vrf-item.result.vrf.number c.args.number.0 (sym (ap (λ (n : VrfNo). n.0) c.number.ensures) ∙ w.if-number.true)))
          (ap (λ out. out.items) w.out-is ∙ w.in_ok-put_over.ensures) c.loop-vrf.invariant
      | else-number w ↦
          ap (λ out. out.items ++ exports_over_among c.args.labels.now c.args.number.0 c.args.site.0 (told rest)) w.out-is
          ∙ sym (ap (λ ys. c.loop-vrf.out.items ++ ys)
          (step ∙ left_out (λ (u : VrfState). exports_by_over c.args.labels.now c.args.site.0 u u.exports) (λ (u : VrfState). u.number == c.args.number.0)
          c.vrf-item.result.vrf (told rest)
          (other_test c.vrf-item.result.vrf.number c.args.number.0 (λ q. w.if-number.false (ap (λ (n : VrfNo). n.0) c.number.ensures ∙ q)))))
          ∙ c.loop-vrf.invariant
    ]

pub returns : goal.returns
returns c =
    put_all c.loop-vrf.out.items (exports_over_among c.args.labels.now c.args.number.0 c.args.site.0 (told (drop c.loop-vrf.vrf-index c.args.vrfs.now)))
    (exports_over_among c.args.labels.now c.args.number.0 c.args.site.0 (told c.args.vrfs.now))
    (ap (λ (hs : List Holding). exports_over_among c.args.labels.now c.args.number.0 c.args.site.0 (told hs))
    (drop_past c.args.vrfs.now c.loop-vrf.vrf-index c.loop-vrf-test.false))
    c.loop-vrf.invariant
