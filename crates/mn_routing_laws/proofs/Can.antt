-- What a step's turn gives the edge that is told something.
use Rattle.std.proofs.Common.{ℕ, ◌≡◌, ◌<◌, Bool, List, length, refl, sym, ◌∙◌, ap}
use Rattle.std.proofs.Common.{subst}
use Rattle.std.specs.Prelude.{◌==◌, ◌&&◌}
use Rattle.std.specs.List.{list_any}
use Rattle.mn_base.proofs.Bools.{less_tells, same_test}
use Rattle.mn_base.proofs.Members.{In}
use Rattle.mn_base.proofs.Places.{all_filter}
use Rattle.mn_base.specs.declared.numbers.SiteNo.{SiteNo}
use Rattle.mn_base.specs.declared.numbers.VrfNo.{VrfNo}
use Rattle.mn_base.specs.declared.numbers.Rt.{Rt}
use Rattle.mn_prefix.specs.Prefix.{AddressBlock, same_prefix}
use Rattle.mn_topo.specs.Network.{Network}
use Rattle.mn_topo.specs.Lawful.{IsLawful}
use Rattle.mn_topo.specs.declared.steps.Step.{Step}
use Rattle.mn_topo.specs.declared.steps.Step.TheVariants as step
use Rattle.mn_topo.specs.declared.steps.JournalEntry.{JournalEntry}
use Rattle.mn_ledger.specs.Places.{vrf_of, home_of, edge_of}
use Rattle.mn_ledger.specs.World.{Config, World, Peerings}
use Rattle.mn_ledger.specs.Bgp.{peerings_after}
use Rattle.mn_ledger.specs.Ledger.{config_after, world_of, is_static}
use Rattle.mn_ledger.specs.Refusal.{is_targets_full}
use Rattle.mn_ledger.specs.declared.refused.Refused.TheVariants.{NoRouteThere}
use Rattle.mn_ledger.proofs.Tidy.{RiseAll, sets_rise, rises_on}
use Rattle.mn_ledger_laws.proofs.There.{vrf_there, edge_there}
use Rattle.mn_frame_laws.specs.Numbers.{labels_of}
use Rattle.mn_bgp_spelling_laws.specs.Spelling.{Labels}
use Rattle.mn_vrf.specs.Vrf.{VrfState, with_static, add_refused, del_refused, set_refused}
use Rattle.mn_pe.specs.Edge.{after_vrf, after_attach, vrf_of_site}
use Rattle.mn_pe.specs.Held.{Exported, exports_of}
use Rattle.mn_pe.specs.Pe.{found_in}
use Rattle.mn_pe.specs.Exports.{exports_at, exports_over, export_of}
use Rattle.mn_routing_laws.specs.Labels.{labels_after}
use Rattle.mn_routing_laws.specs.Standing.{edge_in}
use Rattle.mn_routing_laws.specs.Routed.{Routed}
use Rattle.mn_routing_laws.specs.Steps.{IsTurn, MayDo, MayGive, next_label}
use Rattle.mn_routing_laws.specs.Doing.{IsSayable, AreSayable, edge_at, those_of, static_added, export_set, MaySetImport, MaySetExport, MayAdd}
use Rattle.mn_routing_laws.specs.Doing.{MayDel, MayAttach, MayDetach}
use Rattle.mn_routing_laws.proofs.GoingOn.{at_site, at_vrf, static_there, heard_turn}
use Rattle.mn_routing_laws.proofs.Steps.{add_here, export_here}
use Rattle.mn_routing_laws.proofs.Attaching.{attach_here}
use Rattle.mn_routing_laws.proofs.Present as present
use Rattle.mn_routing_laws.proofs.KeptOrder.{kept_in}
use Rattle.mn_ledger.proofs.Turning.{loopbacks_apart}
use Rattle.mn_routing_laws.proofs.Home.{is_edge_of}
use Rattle.mn_routing_laws.proofs.Matching.{exports_at_are, exports_over_are, export_of_is}
use Rattle.mn_routing_laws.proofs.News.{vrf_of_site_is, at_home, vrfs_apart}
use Rattle.mn_routing_laws.proofs.Placed.{edge_is, has_edge}
use Rattle.mn_routing_laws.proofs.Goes.{brings}
use Rattle.mn_bgp_spelling_laws.proofs.Writable.{sets_go}
use Rattle.mn_routing_laws.proofs.Sayable.{Fits, all_fits, labels_go, all_sayable}
use Rattle.mn_routing_laws.proofs.TwentyBits.{next_fits}
use Rattle.mn_routing_laws.proofs.Refusing.{set_free, found, add_free, del_free}

-- 1. Parts of what an edge exports

module _ (t : Network) (l : Labels) (c : Config) (p : Peerings) (e : ℕ) (lawful : IsLawful t) (ok : Fits c l) (rise : RiseAll c) where
  all : AreSayable (exports_of (edge_in t l c p e))
  all = all_sayable t l c p e lawful ok rise.exports

  pub say_at : (v : ℕ) → AreSayable (exports_at (edge_in t l c p e) v)
  say_at v = subst AreSayable (exports_at_are (edge_in t l c p e) v) (all_filter IsSayable (λ (x : Exported). x.vrf == v) (exports_of (edge_in t l c p e)) all)

  pub say_over : (site : ℕ) → AreSayable (exports_over (edge_in t l c p e) site)
  say_over site =
      subst AreSayable (exports_over_are (edge_in t l c p e) site (at_home t l c p e site))
      (all_filter IsSayable (λ (x : Exported). x.site == site) (exports_of (edge_in t l c p e)) all)

  pub say_one : (site : ℕ) (prefix : AddressBlock) → AreSayable (those_of (export_of (edge_in t l c p e) site prefix))
  say_one site prefix =
      subst AreSayable (export_of_is (edge_in t l c p e) site prefix (vrfs_apart t l c p e lawful) (kept_in t l c p e (loopbacks_apart t lawful)).statics)
      (all_filter IsSayable (λ (x : Exported). (vrf_of_site (edge_in t l c p e) site == x.vrf) && same_prefix prefix x.prefix)
      (exports_of (edge_in t l c p e)) all)

-- 2. Each step

module _ (t : Network) (lawful : IsLawful t) (old : Routed) where
  fits_now : (es : List JournalEntry) (s : Step) → IsTurn t es s → Fits (world_of t es).config (labels_of t es)
  fits_now es s turn = all_fits t es turn.inputs lawful turn.lawful

  rise_now : (es : List JournalEntry) (s : Step) → IsTurn t es s → RiseAll (world_of t es).config
  rise_now es s turn = sets_rise t es turn.inputs lawful turn.lawful

  fits_then : (es : List JournalEntry) (s : Step) → IsTurn t es s →
      Fits (config_after (world_of t es).config s) (labels_after (next_label t es) (world_of t es).config (labels_of t es) s)
  fits_then es s turn =
      let b = brings t es s lawful turn in
      let h = fits_now es s turn in
      record {
        sets = sets_go t (world_of t es).config s turn.fitting b.ok.targets h.sets;
        labels =
            labels_go (next_label t es) (world_of t es).config (labels_of t es) s
            (next_fits t es turn.inputs s lawful turn.lawful turn.fitting b.ok.labels) h.labels;
      }

  rise_then : (es : List JournalEntry) (s : Step) → IsTurn t es s → RiseAll (config_after (world_of t es).config s)
  rise_then es s turn = rises_on t (world_of t es).config s (brings t es s lawful turn).ok.changes (rise_now es s turn)

  pub may_import : (v : VrfNo) (target : Rt) (on : Bool) → MayDo t (step.Import v on target) old → MaySetImport t old v target on
  may_import v target on may =
      let es = may.journal in
      let w : World = world_of t es in
      let l : Labels = labels_of t es in
      let b = brings t es (step.Import v on target) lawful may.turn in
      let there = at_vrf t v.0 target.0 may.turn.fitting in
      let below = edge_there t v.0 lawful there in
      record {
        has = has_edge t l w old may.stands (edge_of t v.0) below (is_edge_of t v.0 there);
        free = ap (λ e. found_in v.0 (λ (vrf : VrfState). set_refused target on vrf.imports) e.vrfs)
            (edge_is t l w old may.stands (edge_of t v.0) below (is_edge_of t v.0 there))
            ∙ found t l w.config w.peerings v.0 (λ (vrf : VrfState). set_refused target on vrf.imports) there
            ∙ set_free target on (w.config.imports v.0) b.ok.changes (λ e. ap (λ o. is_targets_full w.config (step.Import v o target)) (sym e) ∙ b.ok.targets);
      }

  pub may_export : (v : VrfNo) (target : Rt) (on : Bool) → MayDo t (step.Export v on target) old → MaySetExport t old v target on
  may_export v target on may =
      let es = may.journal in
      let s : Step = step.Export v on target in
      let w : World = world_of t es in
      let l : Labels = labels_of t es in
      let b = brings t es s lawful may.turn in
      let there = at_vrf t v.0 target.0 may.turn.fitting in
      let below = edge_there t v.0 lawful there in
      let is = edge_is t l w old may.stands (edge_of t v.0) below (is_edge_of t v.0 there) in
      let new : Config = config_after w.config s in
      let now : edge_in t l new (peerings_after t w.config new w.peerings s) (edge_of t v.0) ≡ export_set (edge_at old (edge_of t v.0)) v target on =
      export_here t l w.config w.peerings v target on (edge_of t v.0) (heard_turn w b.turn.bgp) ∙ ap (λ e. export_set e v target on) (sym is) in
      record {
        has = has_edge t l w old may.stands (edge_of t v.0) below (is_edge_of t v.0 there);
        free = ap (λ e. found_in v.0 (λ (vrf : VrfState). set_refused target on vrf.exports) e.vrfs) is
            ∙ found t l w.config w.peerings v.0 (λ (vrf : VrfState). set_refused target on vrf.exports) there
            ∙ set_free target on (w.config.exports v.0) b.ok.changes (λ e. ap (λ o. is_targets_full w.config (step.Export v o target)) (sym e) ∙ b.ok.targets);
        came = subst (λ e. AreSayable (exports_at e v.0)) now
            (say_at t l new (peerings_after t w.config new w.peerings s) (edge_of t v.0) lawful (fits_then es s may.turn) (rise_then es s may.turn) v.0);
        went = subst (λ e. AreSayable (exports_at e v.0)) (sym is)
            (say_at t l w.config w.peerings (edge_of t v.0) lawful (fits_now es s may.turn) (rise_now es s may.turn) v.0);
      }

  pub may_add : (site : SiteNo) (prefix : AddressBlock) → MayDo t (step.AddRoute site prefix) old → MayAdd t old site prefix
  may_add site prefix may =
      let es = may.journal in
      let s : Step = step.AddRoute site prefix in
      let w : World = world_of t es in
      let l : Labels = labels_of t es in
      let b = brings t es s lawful may.turn in
      let there = vrf_there t site.0 lawful (at_site t site.0 prefix may.turn.fitting) in
      let below = edge_there t (vrf_of t site.0) lawful there in
      let edge = is_edge_of t (vrf_of t site.0) there in
      let is = edge_is t l w old may.stands (home_of t site.0) below edge in
      let same : vrf_of_site (edge_at old (home_of t site.0)) site.0 ≡ vrf_of t site.0 =
      ap (λ e. vrf_of_site e site.0) is ∙ vrf_of_site_is t l w.config w.peerings (home_of t site.0) site.0 in
      let new : Config = config_after w.config s in
      let now : edge_in t l new (peerings_after t w.config new w.peerings s) (home_of t site.0) ≡ static_added (edge_at old (home_of t site.0)) site prefix =
      add_here t l w.config w.peerings site prefix (home_of t site.0) (heard_turn w b.turn.bgp)
      ∙ ap (λ e. after_vrf e (vrf_of t site.0) (with_static (record { prefix = prefix; site = site.0 }))) (sym is)
      ∙ ap (λ v. after_vrf (edge_at old (home_of t site.0)) v (with_static (record { prefix = prefix; site = site.0 }))) (sym same) in
      record {
        has = has_edge t l w old may.stands (home_of t site.0) below edge;
        free = ap (λ v. found_in v (λ (vrf : VrfState). add_refused prefix vrf) (edge_at old (home_of t site.0)).vrfs) same
            ∙ ap (λ e. found_in (vrf_of t site.0) (λ (vrf : VrfState). add_refused prefix vrf) e.vrfs) is
            ∙ found t l w.config w.peerings (vrf_of t site.0) (λ (vrf : VrfState). add_refused prefix vrf) there
            ∙ add_free t w.config (vrf_of t site.0) (length w.config.statics) prefix b.ok.statics;
        came = subst (λ e. AreSayable (those_of (export_of e site.0 prefix))) now
            (say_one t l new (peerings_after t w.config new w.peerings s) (home_of t site.0) lawful (fits_then es s may.turn)
            (rise_then es s may.turn) site.0 prefix);
      }

  pub may_del : (site : SiteNo) (prefix : AddressBlock) → MayDo t (step.DelRoute site prefix) old → MayDel t old site prefix
  may_del site prefix may =
      let es = may.journal in
      let s : Step = step.DelRoute site prefix in
      let w : World = world_of t es in
      let l : Labels = labels_of t es in
      let b = brings t es s lawful may.turn in
      let fit = at_site t site.0 prefix may.turn.fitting in
      let there = vrf_there t site.0 lawful fit in
      let below = edge_there t (vrf_of t site.0) lawful there in
      let edge = is_edge_of t (vrf_of t site.0) there in
      let is = edge_is t l w old may.stands (home_of t site.0) below edge in
      let same : vrf_of_site (edge_at old (home_of t site.0)) site.0 ≡ vrf_of t site.0 =
      ap (λ e. vrf_of_site e site.0) is ∙ vrf_of_site_is t l w.config w.peerings (home_of t site.0) site.0 in
      let static : In w.config.statics (record { site = site.0; prefix = prefix }) =
      static_there site.0 prefix w.config.statics NoRouteThere (list_any (is_static site.0 prefix) w.config.statics) refl b.ok.statics in
      record {
        has = has_edge t l w old may.stands (home_of t site.0) below edge;
        free = ap (λ v. found_in v (λ (vrf : VrfState). del_refused prefix site.0 vrf) (edge_at old (home_of t site.0)).vrfs) same
            ∙ ap (λ e. found_in (vrf_of t site.0) (λ (vrf : VrfState). del_refused prefix site.0 vrf) e.vrfs) is
            ∙ found t l w.config w.peerings (vrf_of t site.0) (λ (vrf : VrfState). del_refused prefix site.0 vrf) there
            ∙ del_free t w.config site.0 prefix b.rest.statics static
            (present.static_there t l w.config w.peerings (home_of t site.0) b.rest.statics b.rest.sited (vrf_of t site.0) (record {
              site = site.0;
              prefix =
                  prefix;
            }) static (same_test (vrf_of t site.0)));
        went = subst (λ e. AreSayable (those_of (export_of e site.0 prefix))) (sym is)
            (say_one t l w.config w.peerings (home_of t site.0) lawful (fits_now es s may.turn) (rise_now es s may.turn) site.0 prefix);
      }

  pub may_attach : (site : SiteNo) (label : ℕ) → MayGive t site label old → MayAttach t old site label
  may_attach site label may =
      let es = may.journal in
      let s : Step = step.Attach site in
      let w : World = world_of t es in
      let l : Labels = labels_of t es in
      let b = brings t es s lawful may.turn in
      let fit = less_tells site.0 (length t.sites) may.turn.fitting in
      let there = vrf_there t site.0 lawful fit in
      let below = edge_there t (vrf_of t site.0) lawful there in
      let edge = is_edge_of t (vrf_of t site.0) there in
      let is = edge_is t l w old may.stands (home_of t site.0) below edge in
      let new : Config = config_after w.config s in
      let later : Labels = labels_after (next_label t es) w.config l s in
      let now : edge_in t later new (peerings_after t w.config new w.peerings s) (home_of t site.0) ≡ after_attach
      (edge_at old (home_of t site.0)) site.0 label =
      attach_here t (next_label t es) l w.config w.peerings site (heard_turn w b.turn.bgp) (λ teller peer m i. (b.rest.sound teller peer m i).1) fit
      ∙ ap (λ e. after_attach e site.0 (next_label t es site.0)) (sym is)
      ∙ ap (after_attach (edge_at old (home_of t site.0)) site.0) (sym may.gives) in
      record {
        has = has_edge t l w old may.stands (home_of t site.0) below edge;
        came = subst (λ e. AreSayable (exports_over e site.0)) now
            (say_over t later new (peerings_after t w.config new w.peerings s) (home_of t site.0) lawful (fits_then es s may.turn)
            (rise_then es s may.turn) site.0);
      }

  pub may_detach : (site : SiteNo) → MayDo t (step.Detach site) old → MayDetach t old site
  may_detach site may =
      let es = may.journal in
      let s : Step = step.Detach site in
      let w : World = world_of t es in
      let l : Labels = labels_of t es in
      let fit = less_tells site.0 (length t.sites) may.turn.fitting in
      let there = vrf_there t site.0 lawful fit in
      let below = edge_there t (vrf_of t site.0) lawful there in
      let edge = is_edge_of t (vrf_of t site.0) there in
      record {
        has = has_edge t l w old may.stands (home_of t site.0) below edge;
        went = subst (λ e. AreSayable (exports_over e site.0)) (sym (edge_is t l w old may.stands (home_of t site.0) below edge))
            (say_over t l w.config w.peerings (home_of t site.0) lawful (fits_now es s may.turn) (rise_now es s may.turn) site.0);
      }

-- 3. What a step names is there

pub vrf_named : (t : Network) (v : VrfNo) (target : Rt) (on : Bool) (old : Routed) → MayDo t (step.Import v on target) old → v.0 < length t.vrfs
vrf_named t v target on old may = at_vrf t v.0 target.0 may.turn.fitting

pub vrf_of_export : (t : Network) (v : VrfNo) (target : Rt) (on : Bool) (old : Routed) → MayDo t (step.Export v on target) old → v.0 < length t.vrfs
vrf_of_export t v target on old may = at_vrf t v.0 target.0 may.turn.fitting

pub site_added : (t : Network) (site : SiteNo) (prefix : AddressBlock) (old : Routed) → MayDo t (step.AddRoute site prefix) old → site.0 < length t.sites
site_added t site prefix old may = at_site t site.0 prefix may.turn.fitting

pub site_deleted : (t : Network) (site : SiteNo) (prefix : AddressBlock) (old : Routed) → MayDo t (step.DelRoute site prefix) old → site.0 < length t.sites
site_deleted t site prefix old may = at_site t site.0 prefix may.turn.fitting

pub site_attached : (t : Network) (site : SiteNo) (label : ℕ) (old : Routed) → MayGive t site label old → site.0 < length t.sites
site_attached t site label old may = less_tells site.0 (length t.sites) may.turn.fitting

pub site_detached : (t : Network) (site : SiteNo) (old : Routed) → MayDo t (step.Detach site) old → site.0 < length t.sites
site_detached t site old may = less_tells site.0 (length t.sites) may.turn.fitting
