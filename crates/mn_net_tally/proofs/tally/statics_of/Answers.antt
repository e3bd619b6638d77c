use Rattle.std.proofs.Common.{ℕ, ◌≡◌, ◌+◌, ◌<◌, ◌≤◌, ◌^◌, length, drop, arith, refl, sym, ap, ◌∙◌, subst, w32, Fits}
use Rattle.std.specs.Prelude.{slice_index_or}
use Rattle.mn_topo.specs.declared.sites.SiteDef.{SiteDef}
use Rattle.mn_topo.specs.SiteTable.{statics_of}
use Rattle.mn_net_tally.proofs.AtStart.{as_many, next_site, none_left}
use Rattle.mn_net_tally.proofs.tally.statics_of.Goals as goal

pub loop-site-init : goal.loop-site-init
loop-site-init c = omega arith

-- with this site there are as many as with all those behind it
more : (c : goal.After-as_slice) →
    (c.loop-site.statics + (length c.as_slice.result.now + length (statics_of (drop (c.loop-site.site-index + 1) c.sites-site-items.result.now))) ≡ length
    (statics_of c.sites-site-items.result.now))
    × (length (statics_of c.sites-site-items.result.now) ≤ 65536)
more c =
    let item : length c.as_slice.result.now ≡ length (slice_index_or c.sites-site-items.result.now c.loop-site.site-index c.site-item.result).prefixes =
    ap length (c.as_slice.ensures ∙ ap (λ (site : SiteDef). site.prefixes) c.site-item.is) in
    let next = next_site c.sites-site-items.result.now c.loop-site.site-index c.site-item.result c.loop-site-test.true in
    let few : length (statics_of c.sites-site-items.result.now) ≤ 65536 =
    subst (λ sites. length (statics_of sites) ≤ 65536) (sym c.sites-site-items.ensures) c.laws.ensures.sites.few_prefixes in (
      ap (λ n. c.loop-site.statics + (n + length (statics_of (drop (c.loop-site.site-index + 1) c.sites-site-items.result.now)))) item
          ∙ ap (λ n. c.loop-site.statics + n) (sym next) ∙ c.loop-site.invariant,
      few,
    )

pub overflow_cast-statics : goal.overflow_cast-statics
overflow_cast-statics c = let m = more c in omega (arith, m.0, m.1)

pub overflow_add-statics : goal.overflow_add-statics
overflow_add-statics c = let m = more c in omega (arith, m.0, m.1)

pub loop-site-preserved : goal.loop-site-preserved
loop-site-preserved c = let m = more c in omega (arith, m.0)

pub returns : goal.returns
returns c =
    let done = none_left c.sites-site-items.result.now c.loop-site.site-index (omega (arith, c.loop-site-test.false)) in
    all done c.loop-site.invariant ∙ ap (λ sites. length (statics_of sites)) c.sites-site-items.ensures ∙ sym (as_many 0 c.args.topology.now.sites)
  where
    all : {a b n : ℕ} → a ≡ 0 → n + a ≡ b → n ≡ b
    all e f = omega (arith, e, f)
