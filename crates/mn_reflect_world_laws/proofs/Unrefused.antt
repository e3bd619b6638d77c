-- Where nothing refuses a step of an edge, the edge doesn't either.
use Rattle.std.proofs.Common.{ℕ, ◌≡◌, ◌+◌, ◌<◌, ◌^◌, Bool, true, false, cond, List, [], ◌∷◌, length, Option, Some, None, refl, arith, sym, ◌∙◌, ap, subst}
use Rattle.std.specs.Prelude.{nat_le, slice_index_or}
use Rattle.std.specs.List.{list_any}
use Rattle.mn_base.specs.Numbers.{has_rt_form}
use Rattle.mn_base.specs.declared.numbers.Rt.{Rt}
use Rattle.mn_base.specs.declared.numbers.SiteNo.{SiteNo}
use Rattle.mn_base.specs.declared.numbers.VrfNo.{VrfNo}
use Rattle.mn_base.proofs.Bools.{less_tells, and_left, same_test, not_at_most_tells}
use Rattle.mn_base.proofs.Members.{In}
use Rattle.mn_prefix.specs.Prefix.{AddressBlock}
use Rattle.mn_topo.specs.Network.{Network}
use Rattle.mn_topo.specs.Steps.{has_vrf, has_site}
use Rattle.mn_topo.specs.SiteTable.{is_lawful_prefix}
use Rattle.mn_topo.specs.declared.steps.Step.{Step}
use Rattle.mn_topo.specs.declared.steps.Step.TheVariants as step
use Rattle.mn_ledger.specs.declared.refused.Refused.TheVariants.{RoutesFull, NoRouteThere}
use Rattle.mn_ledger.specs.Places.{vrf_of, edge_of, home_of}
use Rattle.mn_ledger.specs.World.{SiteRoute, Config, Peerings}
use Rattle.mn_ledger.specs.Ledger.{is_static}
use Rattle.mn_ledger.specs.Refusal.{taken_by, prefix_refusal, is_targets_full}
use Rattle.mn_ledger.proofs.GoingBy.{pair_here}
use Rattle.mn_ledger_laws.proofs.There.{vrf_there, home_there}
use Rattle.mn_vrf.specs.Vrf.{VrfState, add_refused, del_refused, set_refused}
use Rattle.mn_pe.specs.Edge.{Edge, vrf_of_site}
use Rattle.mn_pe.specs.Pe.{found_in}
use Rattle.mn_bgp_spelling_laws.specs.Spelling.{Labels}
use Rattle.mn_routing_laws.specs.Standing.{vrf_in}
use Rattle.mn_routing_laws.proofs.Refusing.{set_free, found, add_free, del_free}
use Rattle.mn_routing_laws.proofs.GoingOn.{static_there}
use Rattle.mn_routing_laws.proofs.News.{vrf_of_site_is}
use Rattle.mn_routing_laws.proofs.Present as present
use Rattle.mn_routing_laws.proofs.Tables.{map_numbers_at}
use Rattle.mn_reflect_ledger_laws.specs.Picks.{ReflectWorld}
use Rattle.mn_reflect_ledger_laws.specs.World.{world_of}
use Rattle.mn_reflect_ledger_laws.specs.Refusal.{refusal}
use Rattle.mn_reflect_ledger_laws.proofs.Holding.{none_some}
use Rattle.mn_reflect_world_laws.specs.Labels.{labels_of, attachments_at}
use Rattle.mn_reflect_world_laws.specs.Edges.{all_live, as_peerings}
use Rattle.mn_reflect_world_laws.specs.Now.{ReflectNow, IsReflect}
use Rattle.mn_reflect_world_laws.specs.Steps.{takes, IsLawfulRun}
use Rattle.mn_reflect_world_laws.specs.Goes.{edge_of_node}
use Rattle.mn_reflect_world_laws.proofs.Config.{free, in_order_goes}
use Rattle.mn_reflect_world_laws.proofs.Run.{IsRest, rests}
use Rattle.mn_reflect_world_laws.proofs.Held.{its_edge}

module _ (t : Network) (reflectors : List ℕ) (steps : List Step) (now : ReflectNow) (run : IsLawfulRun t reflectors steps)
    (stands : IsReflect t reflectors steps now) where
  abbrev w : ReflectWorld
  w = world_of t reflectors steps

  abbrev l : Labels
  l = labels_of t steps

  abbrev live : Config
  live = all_live t w.config

  abbrev p : Peerings
  p = as_peerings stands.0.decisions

  rest : IsRest t reflectors w l
  rest = rests t reflectors steps run

  found_there : {A : Type 0} (f : VrfState → Option A) (v : ℕ) → v < length t.vrfs →
      found_in v f (edge_of_node now.edges (edge_of t v)).vrfs ≡ f (vrf_in t live v)
  found_there f v there =
      ap (λ (e : Edge). found_in v f e.vrfs) (its_edge t reflectors steps now run stands v there) ∙ found t l live p v f there

  -- 1. Targets

  pub import_free : (v : VrfNo) (target : Rt) (on : Bool) → takes t reflectors (step.Import v on target) ≡ true →
      refusal t w (step.Import v on target) ≡ None →
      found_in v.0 (λ (vrf : VrfState). set_refused target on vrf.imports) (edge_of_node now.edges (edge_of t v.0)).vrfs ≡ None
  import_free v target on is none =
      let f = free t w (step.Import v on target) none in
      found_there (λ (vrf : VrfState). set_refused target on vrf.imports) v.0
      (less_tells v.0 (length t.vrfs) (and_left (has_vrf t v) (has_rt_form target.0) is))
      ∙ set_free target on (w.config.imports v.0) f.changes (λ e. ap (λ o. is_targets_full w.config (step.Import v o target)) (sym e) ∙ f.room)

  pub export_free : (v : VrfNo) (target : Rt) (on : Bool) → takes t reflectors (step.Export v on target) ≡ true →
      refusal t w (step.Export v on target) ≡ None →
      found_in v.0 (λ (vrf : VrfState). set_refused target on vrf.exports) (edge_of_node now.edges (edge_of t v.0)).vrfs ≡ None
  export_free v target on is none =
      let f = free t w (step.Export v on target) none in
      found_there (λ (vrf : VrfState). set_refused target on vrf.exports) v.0
      (less_tells v.0 (length t.vrfs) (and_left (has_vrf t v) (has_rt_form target.0) is))
      ∙ set_free target on (w.config.exports v.0) f.changes (λ e. ap (λ o. is_targets_full w.config (step.Export v o target)) (sym e) ∙ f.room)

  -- 2. Statics

  module _ (site : SiteNo) (prefix : AddressBlock) where
    abbrev home : ℕ
    home = home_of t site.0

    abbrev its : Edge
    its = edge_of_node now.edges home

    pub site_vrf : site.0 < length t.sites → vrf_of_site its site.0 ≡ vrf_of t site.0
    site_vrf there =
        ap (λ (e : Edge). vrf_of_site e site.0)
        (its_edge t reflectors steps now run stands (vrf_of t site.0) (vrf_there t site.0 run.topology_is there))
        ∙ vrf_of_site_is t l live p home site.0

    pub add_is_free : takes t reflectors (step.AddRoute site prefix) ≡ true → refusal t w (step.AddRoute site prefix) ≡ None →
        found_in (vrf_of_site its site.0) (λ (vrf : VrfState). add_refused prefix vrf) its.vrfs ≡ None
    add_is_free is none =
        let there = less_tells site.0 (length t.sites) (and_left (has_site t site) (is_lawful_prefix prefix) is) in
        ap (λ v. found_in v (λ (vrf : VrfState). add_refused prefix vrf) its.vrfs) (site_vrf there)
        ∙ found_there (λ (vrf : VrfState). add_refused prefix vrf) (vrf_of t site.0) (vrf_there t site.0 run.topology_is there)
        ∙ add_free t live (vrf_of t site.0) (length live.statics) prefix (free t w (step.AddRoute site prefix) none).statics

    pub few_statics : refusal t w (step.AddRoute site prefix) ≡ None → now.statics < 65536
    few_statics none =
        let few = by (taken_by t (vrf_of t site.0) prefix w.config.statics) (nat_le 65536 (length w.config.statics)) refl
        (free t w (step.AddRoute site prefix) none).statics in
        subst (λ n. n < 65536) (sym stands.0.statics) (not_at_most_tells 65536 (length w.config.statics) few)
      where
        by : (o : Option ℕ) (b : Bool) → nat_le 65536 (length w.config.statics) ≡ b → prefix_refusal o (length w.config.statics) ≡ None →
            nat_le 65536 (length w.config.statics) ≡ false
        by (Some s) b e h = absurd (none_some (sym h))
        by None true e h = absurd (none_some (sym (sym (ap (λ b. cond b (Some RoutesFull) None) e) ∙ h)))
        by None false e h = e

    there_over : refusal t w (step.DelRoute site prefix) ≡ None → In w.config.statics (record { site = site.0; prefix = prefix })
    there_over none =
        static_there site.0 prefix w.config.statics NoRouteThere (list_any (is_static site.0 prefix) w.config.statics) refl
        (free t w (step.DelRoute site prefix) none).statics

    pub del_is_free : takes t reflectors (step.DelRoute site prefix) ≡ true → refusal t w (step.DelRoute site prefix) ≡ None →
        found_in (vrf_of_site its site.0) (λ (vrf : VrfState). del_refused prefix site.0 vrf) its.vrfs ≡ None
    del_is_free is none =
        let there = less_tells site.0 (length t.sites) (and_left (has_site t site) (is_lawful_prefix prefix) is) in
        ap (λ v. found_in v (λ (vrf : VrfState). del_refused prefix site.0 vrf) its.vrfs) (site_vrf there)
        ∙ found_there (λ (vrf : VrfState). del_refused prefix site.0 vrf) (vrf_of t site.0) (vrf_there t site.0 run.topology_is there)
        ∙ del_free t live site.0 prefix rest.order.statics (there_over none)
        (present.static_there t l live p home rest.order.statics rest.order.bounds.sites (vrf_of t site.0) (record { site = site.0; prefix = prefix })
        (there_over none) (same_test (vrf_of t site.0)))

    pub some_statics : refusal t w (step.DelRoute site prefix) ≡ None → 0 < now.statics
    some_statics none = subst (λ n. 0 < n) (sym stands.0.statics) (some_there w.config.statics (there_over none))
      where
        some_there : (xs : List SiteRoute) → In xs (record { site = site.0; prefix = prefix }) → 0 < length xs
        some_there [] i = absurd i
        some_there (x ∷ xs) i = omega arith

  -- 3. A label

  pub label_fits : (site : SiteNo) → takes t reflectors (step.Attach site) ≡ true → refusal t w (step.Attach site) ≡ None →
      16 + slice_index_or now.attachments (home_of t site.0) 0 < 2 ^ 20
  label_fits site is none =
      let there = less_tells site.0 (length t.sites) is in
      let fit = (in_order_goes t reflectors w l (step.Attach site) is (free t w (step.Attach site) none) rest.order).given.fit site.0
      (w.config.attaches site.0 + 2) in
      subst (λ n. 16 + n < 2 ^ 20)
      (sym (ap (λ ns. slice_index_or ns (home_of t site.0) 0) stands.0.attachments
      ∙ map_numbers_at (attachments_at t w.config) (length t.loopbacks) (home_of t site.0) 0 (home_there t site.0 run.topology_is there)))
      (subst (λ n. n < 2 ^ 20) (pair_here l site.0 (w.config.attaches site.0 + 2) (16 + attachments_at t w.config (home_of t site.0))) fit)
