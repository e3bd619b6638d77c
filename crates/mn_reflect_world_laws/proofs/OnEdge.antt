-- What a step of an edge makes of what is kept stands for the world after it.
use Rattle.std.proofs.Common.{ℕ, ◌≡◌, ◌+◌, ◌-◌, ◌<◌, ◌≤◌, inl, inr, Bool, true, false, List, [], ◌∷◌, ◌++◌, map, filter, length}
use Rattle.std.proofs.Common.{None, refl, arith, sym, ◌∙◌, ap, append-nil, length-append}
use Rattle.std.specs.Prelude.{not, slice_index_or}
use Rattle.std.specs.List.{flat_map, list_any, Contains}
use Rattle.std.proofs.lemmas.List.{map-append}
use Rattle.mn_base.specs.declared.numbers.NodeNo.{NodeNo}
use Rattle.mn_base.specs.declared.numbers.Rt.{Rt}
use Rattle.mn_base.specs.declared.numbers.SiteNo.{SiteNo}
use Rattle.mn_base.specs.declared.numbers.VrfNo.{VrfNo}
use Rattle.mn_base.proofs.Bools.{no, two_ways}
use Rattle.mn_base.proofs.Members.{In, in_front, in_filter}
use Rattle.mn_prefix.specs.Prefix.{AddressBlock}
use Rattle.mn_wiring.specs.Wiring.{nodes_of}
use Rattle.mn_topo.specs.Network.{Network, wiring_of}
use Rattle.mn_topo.specs.Lawful.{IsLawful}
use Rattle.mn_topo.specs.Steps.{fits}
use Rattle.mn_topo.specs.VrfTable.{is_edge}
use Rattle.mn_topo.specs.declared.steps.Step.{Step}
use Rattle.mn_topo.specs.declared.steps.Step.TheVariants as step
use Rattle.mn_ledger.specs.declared.refused.Refused.TheVariants.{NoRouteThere}
use Rattle.mn_ledger.specs.Places.{vrf_of, edge_of, home_of}
use Rattle.mn_ledger.specs.World.{Config, Export, Telling, Open, BgpKeepAlive, Announcement, Withdrawal}
use Rattle.mn_ledger.specs.Exports.{exports_of}
use Rattle.mn_ledger.specs.Bgp.{changed}
use Rattle.mn_ledger.specs.Ledger.{is_static, with_target}
use Rattle.mn_ledger.proofs.Statics.{SameStatic}
use Rattle.mn_ledger_laws.proofs.There.{edge_there as vrf_edge_there, home_there, vrf_there}
use Rattle.mn_ledger_laws.proofs.Announced.{attaches_grow}
use Rattle.mn_targets.specs.Targets.{target_set}
use Rattle.mn_vrf.specs.Vrf.{with_imports, with_exports, with_static, without_static}
use Rattle.mn_bgp_spelling_laws.specs.Spelling.{Labels}
use Rattle.mn_pe.specs.Edge.{Edge, after_vrf, after_attach, after_detach}
use Rattle.mn_pe.specs.Held.{Exported}
use Rattle.mn_pe.specs.Exports.{exports_at, exports_over, export_of}
use Rattle.mn_routing_laws.specs.Standing.{edge_in}
use Rattle.mn_routing_laws.specs.Touched.{touches, comes, goes, by_set, told_of}
use Rattle.mn_routing_laws.specs.Doing.{those_of}
use Rattle.mn_routing_laws.proofs.Present.{exported}
use Rattle.mn_routing_laws.proofs.News.{of_prefix, over_site, of_vrf}
use Rattle.mn_routing_laws.proofs.Told.{add_tells, del_tells, attach_tells, detach_tells, export_tells, import_tells}
use Rattle.mn_routing_laws.proofs.Home.{none_told}
use Rattle.mn_routing_laws.proofs.GoingOn.{static_there}
use Rattle.mn_routing_laws.proofs.Tables.{map_numbers_at}
use Rattle.mn_reflect_ledger_laws.specs.Picks.{ReflectWorld, is_reflector}
use Rattle.mn_reflect_ledger_laws.specs.World.{unsaid, news, after}
use Rattle.mn_reflect_ledger_laws.specs.Quiet.{AreReflectors}
use Rattle.mn_reflect_ledger_laws.proofs.Holding.{is_an_edge}
use Rattle.mn_reflect_world_laws.specs.Labels.{labels_after, attachments_at}
use Rattle.mn_reflect_world_laws.specs.Kept.{kept_in}
use Rattle.mn_reflect_world_laws.specs.Spelling.{letter_in, letters_in}
use Rattle.mn_reflect_world_laws.specs.Edges.{all_live, as_peerings, IsDecision}
use Rattle.mn_reflect_world_laws.specs.Now.{ReflectNow, sessions_in, edges_in, StandsFor}
use Rattle.mn_reflect_world_laws.specs.Letters.{edge_news}
use Rattle.mn_reflect_world_laws.specs.Goes.{attachments_after, on_edge, edge_of_node, steady_of, either_news, Goes}
use Rattle.mn_reflect_world_laws.proofs.Config.{IsFree}
use Rattle.mn_reflect_world_laws.proofs.Run.{IsRest}
use Rattle.mn_reflect_world_laws.proofs.Parts.{same_kept, attachments_go}
use Rattle.mn_reflect_world_laws.proofs.Rows.{table_same}
use Rattle.mn_reflect_world_laws.proofs.EdgeSteps.{one_edge, import_edge, import_other, export_edge, export_other, add_edge, add_other, del_edge, del_other}
use Rattle.mn_reflect_world_laws.proofs.EdgeSteps.{detach_edge, detach_other, attach_edge, attach_other}
use Rattle.mn_reflect_world_laws.proofs.GoesEdge.{same_letters, home_comes, home_goes, set_differs, last_apart, not_attached, none_before}
use Rattle.mn_reflect_world_laws.proofs.GoesOn.{IsThen}
use Rattle.mn_reflect_world_laws.proofs.Fewer.{one_static_less, none_exported}
use Rattle.mn_reflect_world_laws.proofs.OnHearing.{edge_there}

module _ (t : Network) (reflectors : List ℕ) (l : Labels) (w : ReflectWorld) (now new : ReflectNow) (st : StandsFor t reflectors l w now) (lawful : IsLawful t)
    (are : AreReflectors t reflectors) (rest : IsRest t reflectors w l) where
  -- a VRF's edge is an edge of the network, and no reflector
  vrf_edge : (v : ℕ) → v < length t.vrfs → is_reflector reflectors (edge_of t v) ≡ false
  vrf_edge v h = elim (two_ways (is_reflector reflectors (edge_of t v))) [
    | inr e ↦ e
    | inl e ↦ absurd (no (sym (are.no_edges (edge_of t v) e) ∙ is_an_edge t v h))
  ]

  -- what was decided before is decided still
  told_still : (s : Step) (config : Config) → ((n : ℕ) → w.config.attaches n ≤ config.attaches n) → (edge home : ℕ) (m : Telling) →
      Contains (st.decisions edge home) m → IsDecision t config home m
  told_still s config more edge home m i = by m (st.decided.told edge home m i)
    where
      by : (x : Telling) → IsDecision t w.config home x → IsDecision t config home x
      by (Announcement e) h = (h.0, h.1, h.2, (let few = more e.site in omega (arith, h.3, few)))
      by (Withdrawal v p) h = h
      by Open h = tt
      by BgpKeepAlive h = tt

  same_more : (n : ℕ) → w.config.attaches n ≤ w.config.attaches n
  same_more n = omega arith

  -- 1. Letters

  module _ (m : Labels) (s : Step) (u : ReflectWorld) (m_is : m ≡ labels_after t w.config l s)
      (shape : letters_in t reflectors m (after t reflectors w s).flying ≡ letters_in t reflectors m
      (w.flying ++ flat_map (news t reflectors w u) (nodes_of (wiring_of t)))) where
    both : letters_in t reflectors m (after t reflectors w s).flying
        ≡ letters_in t reflectors l w.flying ++ letters_in t reflectors m (flat_map (news t reflectors w u) (nodes_of (wiring_of t)))
    both =
        shape ∙ map-append (letter_in t reflectors m) w.flying (flat_map (news t reflectors w u) (nodes_of (wiring_of t)))
        ∙ ap (λ ls. ls ++ letters_in t reflectors m (flat_map (news t reflectors w u) (nodes_of (wiring_of t))))
        (ap (λ k. letters_in t reflectors k w.flying) m_is ∙ same_letters t reflectors w.config l s w.flying rest.good.flying)

  -- 2. Each step

  module _ (site : SiteNo) (there : site.0 < length t.sites) where
    abbrev home : ℕ
    home = home_of t site.0

    home_below : home < length t.loopbacks
    home_below = home_there t site.0 lawful there

    home_edge : is_edge t.vrfs home ≡ true
    home_edge = is_an_edge t (vrf_of t site.0) (vrf_there t site.0 lawful there)

    home_no : is_reflector reflectors home ≡ false
    home_no = vrf_edge (vrf_of t site.0) (vrf_there t site.0 lawful there)

    module _ (prefix : AddressBlock) (rest_then : IsRest t reflectors (after t reflectors w (step.AddRoute site prefix)) l)
        (g : Goes t reflectors l None now new (step.AddRoute site prefix)) where
      abbrev added : ReflectWorld
      added = unsaid w (step.AddRoute site prefix)

      add_edges : new.edges ≡ edges_in t l added st.decisions
      add_edges =
          g.edges
          ∙ ap (on_edge home (λ edge. after_vrf edge (vrf_of t site.0) (with_static (record { prefix = prefix; site = site.0 })))) st.edges
          ∙ sym (one_edge t l l w added st.decisions st.decisions home
          (λ edge. after_vrf edge (vrf_of t site.0) (with_static (record { prefix = prefix; site = site.0 }))) home_below
          (λ e. add_edge t l w.config st.decisions home site prefix) (λ x d. add_other t l w.config st.decisions x site prefix d))

      add_told : (n : ℕ) → changed (exports_of t w.config n) (exports_of t added.config n) ≡ told_of t w.config (step.AddRoute site prefix) n
      add_told n = add_tells t w.config site prefix n (λ x i e f.
          last_apart (SameStatic t) w.config.statics x (record { site = site.0; prefix = prefix }) rest_then.order.statics.apart i (e, f))

      add_letters : letters_in t reflectors l (flat_map (news t reflectors w added) (nodes_of (wiring_of t)))
          ≡ edge_news t home (steady_of (sessions_in t w) home) true
          (those_of (export_of (edge_in t l (all_live t added.config) (as_peerings st.decisions) home) site.0 prefix))
      add_letters =
          home_comes t reflectors l l w added lawful refl refl rest.order rest_then.order added.config.statics rest_then.order.statics
          (λ x i. in_front w.config.statics _ x i) (λ x i. i) home home_below
          (λ n d. add_told n ∙ none_told t w.config (step.AddRoute site prefix) n d) home_no (touches t (step.AddRoute site prefix)) (add_told home)
          ∙ ap (edge_news t home (steady_of (sessions_in t w) home) true)
          (of_prefix t l (all_live t added.config) (as_peerings st.decisions) home lawful rest_then.order.statics rest_then.order.bounds.sites
          (step.AddRoute site prefix) site prefix (λ x. refl))

      pub then_adds : IsThen t reflectors l (after t reflectors w (step.AddRoute site prefix)) new
      then_adds = record {
        decisions = st.decisions;
        decided = record { last = st.decided.last; told = told_still (step.AddRoute site prefix) added.config same_more };
        edges = add_edges;
        sessions = g.sessions ∙ st.sessions;
        heard = g.heard ∙ st.heard;
        attachments = g.attachments ∙ st.attachments;
        statics = g.statics ∙ ap (λ n. n + 1) st.statics ∙ sym (length-append w.config.statics (record { site = site.0; prefix = prefix } ∷ []));
        letters =
            g.letters
            ∙ ap (λ ls. ls ++ edge_news t home (steady_of now.sessions home) true (those_of (export_of (edge_of_node new.edges home) site.0 prefix))) st.letters
            ∙ ap (λ ss. letters_in t reflectors l w.flying ++ edge_news t home (steady_of ss home) true
            (those_of (export_of (edge_of_node new.edges home) site.0 prefix))) st.sessions
            ∙ ap (λ edge. letters_in t reflectors l w.flying ++ edge_news t home (steady_of (sessions_in t w) home) true
            (those_of (export_of edge site.0 prefix)))
            (ap (λ es. edge_of_node es home) add_edges ∙ edge_there t l added st.decisions home home_below home_edge)
            ∙ ap (λ ls. letters_in t reflectors l w.flying ++ ls) (sym add_letters)
            ∙ sym (both l (step.AddRoute site prefix) added refl refl);
      }

    module _ (prefix : AddressBlock) (rest_then : IsRest t reflectors (after t reflectors w (step.DelRoute site prefix)) l)
        (free : IsFree t w (step.DelRoute site prefix)) (g : Goes t reflectors l None now new (step.DelRoute site prefix)) where
      abbrev deleted : ReflectWorld
      deleted = unsaid w (step.DelRoute site prefix)

      is_there : In w.config.statics (record { site = site.0; prefix = prefix })
      is_there = static_there site.0 prefix w.config.statics NoRouteThere (list_any (is_static site.0 prefix) w.config.statics) refl free.statics

      del_edges : new.edges ≡ edges_in t l deleted st.decisions
      del_edges =
          g.edges
          ∙ ap (on_edge home (λ edge. after_vrf edge (vrf_of t site.0) (without_static (record { prefix = prefix; site = site.0 })))) st.edges
          ∙ sym (one_edge t l l w deleted st.decisions st.decisions home
          (λ edge. after_vrf edge (vrf_of t site.0) (without_static (record { prefix = prefix; site = site.0 }))) home_below
          (λ e. del_edge t l w.config st.decisions home site prefix rest.order.statics is_there)
          (λ x d. del_other t l w.config st.decisions x site prefix d rest.order.statics is_there))

      del_told : (n : ℕ) → changed (exports_of t w.config n) (exports_of t deleted.config n) ≡ told_of t w.config (step.DelRoute site prefix) n
      del_told n = del_tells t w.config site prefix n rest.order.statics is_there

      del_letters : letters_in t reflectors l (flat_map (news t reflectors w deleted) (nodes_of (wiring_of t)))
          ≡ edge_news t home (steady_of (sessions_in t w) home) false
          (those_of (export_of (edge_in t l (all_live t w.config) (as_peerings st.decisions) home) site.0 prefix))
      del_letters =
          home_goes t reflectors l l w deleted lawful refl refl rest.order rest_then.order w.config.statics rest.order.statics
          (λ x i. i) (λ x i. (in_filter (λ static. not (is_static site.0 prefix static)) w.config.statics x i).0) home home_below
          (λ n d. del_told n ∙ none_told t w.config (step.DelRoute site prefix) n d) home_no (touches t (step.DelRoute site prefix)) (del_told home)
          ∙ ap (edge_news t home (steady_of (sessions_in t w) home) false)
          (of_prefix t l (all_live t w.config) (as_peerings st.decisions) home lawful rest.order.statics rest.order.bounds.sites
          (step.DelRoute site prefix) site prefix (λ x. refl))

      one_fewer : length deleted.config.statics ≡ length w.config.statics - 1
      one_fewer = one_static_less t w.config.statics site.0 prefix rest.order.statics is_there

      pub then_deletes : IsThen t reflectors l (after t reflectors w (step.DelRoute site prefix)) new
      then_deletes = record {
        decisions = st.decisions;
        decided = record { last = st.decided.last; told = told_still (step.DelRoute site prefix) deleted.config same_more };
        edges = del_edges;
        sessions = g.sessions ∙ st.sessions;
        heard = g.heard ∙ st.heard;
        attachments = g.attachments ∙ st.attachments;
        statics = g.statics ∙ ap (λ n. n - 1) st.statics ∙ sym one_fewer;
        letters =
            g.letters
            ∙ ap (λ ls. ls ++ edge_news t home (steady_of now.sessions home) false (those_of (export_of (edge_of_node now.edges home) site.0 prefix)))
            st.letters
            ∙ ap (λ ss. letters_in t reflectors l w.flying ++ edge_news t home (steady_of ss home) false
            (those_of (export_of (edge_of_node now.edges home) site.0 prefix))) st.sessions
            ∙ ap (λ edge. letters_in t reflectors l w.flying ++ edge_news t home (steady_of (sessions_in t w) home) false
            (those_of (export_of edge site.0 prefix)))
            (ap (λ es. edge_of_node es home) st.edges ∙ edge_there t l w st.decisions home home_below home_edge)
            ∙ ap (λ ls. letters_in t reflectors l w.flying ++ ls) (sym del_letters)
            ∙ sym (both l (step.DelRoute site prefix) deleted refl refl);
      }

    module _ (rest_then : IsRest t reflectors (after t reflectors w (step.Detach site)) l) (g : Goes t reflectors l None now new (step.Detach site)) where
      abbrev detached : ReflectWorld
      detached = unsaid w (step.Detach site)

      detach_edges : new.edges ≡ edges_in t l detached st.decisions
      detach_edges =
          g.edges
          ∙ ap (on_edge home (λ edge. after_detach edge site.0)) st.edges
          ∙ sym (one_edge t l l w detached st.decisions st.decisions home (λ edge. after_detach edge site.0) home_below
          (λ e. detach_edge t l w.config st.decisions home site refl there) (λ x d. detach_other t l w.config st.decisions x site d))

      detach_told : (n : ℕ) → changed (exports_of t w.config n) (exports_of t detached.config n) ≡ told_of t w.config (step.Detach site) n
      detach_told n = detach_tells t w.config site n rest.order.statics

      detach_letters : letters_in t reflectors l (flat_map (news t reflectors w detached) (nodes_of (wiring_of t)))
          ≡ edge_news t home (steady_of (sessions_in t w) home) false
          (exports_over (edge_in t l (all_live t w.config) (as_peerings st.decisions) home) site.0)
      detach_letters =
          home_goes t reflectors l l w detached lawful refl refl rest.order rest_then.order w.config.statics rest.order.statics (λ x i. i)
          (λ x i. i) home home_below
          (λ n d. detach_told n ∙ none_told t w.config (step.Detach site) n d) home_no (touches t (step.Detach site)) (detach_told home)
          ∙ ap (edge_news t home (steady_of (sessions_in t w) home) false)
          (over_site t l (all_live t w.config) (as_peerings st.decisions) home lawful rest.order.statics rest.order.bounds.sites (step.Detach site) site
          (λ x. refl))

      pub then_detaches : IsThen t reflectors l (after t reflectors w (step.Detach site)) new
      then_detaches = record {
        decisions = st.decisions;
        decided = record { last = st.decided.last; told = told_still (step.Detach site) detached.config same_more };
        edges = detach_edges;
        sessions = g.sessions ∙ st.sessions;
        heard = g.heard ∙ st.heard;
        attachments = g.attachments ∙ st.attachments;
        statics = g.statics ∙ st.statics;
        letters =
            g.letters
            ∙ ap (λ ls. ls ++ edge_news t home (steady_of now.sessions home) false (exports_over (edge_of_node now.edges home) site.0)) st.letters
            ∙ ap (λ ss. letters_in t reflectors l w.flying ++ edge_news t home (steady_of ss home) false (exports_over (edge_of_node now.edges home) site.0))
            st.sessions
            ∙ ap (λ edge. letters_in t reflectors l w.flying ++ edge_news t home (steady_of (sessions_in t w) home) false (exports_over edge site.0))
            (ap (λ es. edge_of_node es home) st.edges ∙ edge_there t l w st.decisions home home_below home_edge)
            ∙ ap (λ ls. letters_in t reflectors l w.flying ++ ls) (sym detach_letters)
            ∙ sym (both l (step.Detach site) detached refl refl);
      }

    module _ (rest_then : IsRest t reflectors (after t reflectors w (step.Attach site)) (labels_after t w.config l (step.Attach site)))
        (free : IsFree t w (step.Attach site)) (fit : fits t (step.Attach site) ≡ true) (g : Goes t reflectors l None now new (step.Attach site)) where
      abbrev attached : ReflectWorld
      attached = unsaid w (step.Attach site)

      abbrev later : Labels
      later = labels_after t w.config l (step.Attach site)

      number : slice_index_or now.attachments home 0 ≡ attachments_at t w.config home
      number = ap (λ xs. slice_index_or xs home 0) st.attachments ∙ map_numbers_at (attachments_at t w.config) (length t.loopbacks) home 0 home_below

      attach_edges : new.edges ≡ edges_in t later attached st.decisions
      attach_edges =
          g.edges
          ∙ ap (λ n. on_edge home (λ edge. after_attach edge site.0 (16 + n)) now.edges) number
          ∙ ap (on_edge home (λ edge. after_attach edge site.0 (16 + attachments_at t w.config home))) st.edges
          ∙ sym (one_edge t l later w attached st.decisions st.decisions home (λ edge. after_attach edge site.0 (16 + attachments_at t w.config home))
          home_below
          (λ e. attach_edge t l w.config st.decisions st.decided.told site there) (λ x d. attach_other t l w.config st.decisions st.decided.told site x d))

      attach_told : (n : ℕ) → changed (exports_of t w.config n) (exports_of t attached.config n) ≡ told_of t w.config (step.Attach site) n
      attach_told n = attach_tells t w.config site n rest.order.statics (not_attached (w.config.attached site.0) free.changes)

      attach_letters : letters_in t reflectors later (flat_map (news t reflectors w attached) (nodes_of (wiring_of t)))
          ≡ edge_news t home (steady_of (sessions_in t w) home) true
          (exports_over (edge_in t later (all_live t attached.config) (as_peerings st.decisions) home) site.0)
      attach_letters =
          home_comes t reflectors later l w attached lawful refl refl rest.order rest_then.order w.config.statics rest.order.statics (λ x i. i)
          (λ x i. i) home home_below
          (λ n d. attach_told n ∙ none_told t w.config (step.Attach site) n d) home_no (touches t (step.Attach site)) (attach_told home)
          ∙ ap (edge_news t home (steady_of (sessions_in t w) home) true)
          (over_site t later (all_live t attached.config) (as_peerings st.decisions) home lawful rest_then.order.statics rest_then.order.bounds.sites
          (step.Attach site) site (λ x. refl))

      pub then_attaches : IsThen t reflectors later (after t reflectors w (step.Attach site)) new
      then_attaches = record {
        decisions = st.decisions;
        decided = record {
          last = st.decided.last;
          told = told_still (step.Attach site) attached.config (attaches_grow w.config (step.Attach site));
        };
        edges = attach_edges;
        sessions = g.sessions ∙ st.sessions;
        heard = g.heard ∙ st.heard
            ∙ sym (table_same (length t.loopbacks) (kept_in later attached) (kept_in l w)
            (λ n p. same_kept t w.config l (step.Attach site) w n p (rest.good.heard n p)));
        attachments = g.attachments ∙ ap (λ xs. attachments_after t xs (step.Attach site)) st.attachments
            ∙ sym (attachments_go t w.config site fit home_below);
        statics = g.statics ∙ st.statics;
        letters =
            g.letters
            ∙ ap (λ ls. ls ++ edge_news t home (steady_of now.sessions home) true (exports_over (edge_of_node new.edges home) site.0)) st.letters
            ∙ ap (λ ss. letters_in t reflectors l w.flying ++ edge_news t home (steady_of ss home) true (exports_over (edge_of_node new.edges home) site.0))
            st.sessions
            ∙ ap (λ edge. letters_in t reflectors l w.flying ++ edge_news t home (steady_of (sessions_in t w) home) true (exports_over edge site.0))
            (ap (λ es. edge_of_node es home) attach_edges ∙ edge_there t later attached st.decisions home home_below home_edge)
            ∙ ap (λ ls. letters_in t reflectors l w.flying ++ ls) (sym attach_letters)
            ∙ sym (both later (step.Attach site) attached refl refl);
      }

  module _ (v : VrfNo) (target : Rt) (on : Bool) (there : v.0 < length t.vrfs) where
    abbrev vrf_home : ℕ
    vrf_home = edge_of t v.0

    vrf_below : vrf_home < length t.loopbacks
    vrf_below = vrf_edge_there t v.0 lawful there

    vrf_is : is_edge t.vrfs vrf_home ≡ true
    vrf_is = is_an_edge t v.0 there

    module _ (rest_then : IsRest t reflectors (after t reflectors w (step.Import v on target)) l)
        (g : Goes t reflectors l None now new (step.Import v on target)) where
      abbrev importing : ReflectWorld
      importing = unsaid w (step.Import v on target)

      import_letters : letters_in t reflectors l (flat_map (news t reflectors w importing) (nodes_of (wiring_of t))) ≡ []
      import_letters =
          home_goes t reflectors l l w importing lawful refl refl rest.order rest_then.order w.config.statics rest.order.statics (λ x i. i) (λ x i. i)
          vrf_home vrf_below (λ n d. import_tells t w.config v target on n) (vrf_edge v.0 there) (λ x. false)
          (import_tells t w.config v target on vrf_home
          ∙ sym (ap (map (λ (export : Export). Withdrawal export.vrf export.prefix)) (none (exports_of t w.config vrf_home))))
          ∙ ap (λ zs. edge_news t vrf_home (steady_of (sessions_in t w) vrf_home) false (map (exported t l) zs)) (none (exports_of t w.config vrf_home))
        where
          none : (zs : List Export) → filter (λ (x : Export). false) zs ≡ []
          none [] = refl
          none (z ∷ zs) = none zs

      pub then_imports : IsThen t reflectors l (after t reflectors w (step.Import v on target)) new
      then_imports = record {
        decisions = st.decisions;
        decided = record { last = st.decided.last; told = told_still (step.Import v on target) importing.config same_more };
        edges =
            g.edges ∙ ap (on_edge vrf_home (λ edge. after_vrf edge v.0 (with_imports (target_set target on)))) st.edges
            ∙ sym (one_edge t l l w importing st.decisions st.decisions vrf_home (λ edge. after_vrf edge v.0 (with_imports (target_set target on))) vrf_below
            (λ e. import_edge t l w.config st.decisions vrf_home v target on) (λ x d. import_other t l w.config st.decisions x v target on d));
        sessions = g.sessions ∙ st.sessions;
        heard = g.heard ∙ st.heard;
        attachments = g.attachments ∙ st.attachments;
        statics = g.statics ∙ st.statics;
        letters = g.letters ∙ st.letters ∙ sym (append-nil (letters_in t reflectors l w.flying))
            ∙ ap (λ ls. letters_in t reflectors l w.flying ++ ls) (sym import_letters)
            ∙ sym (both l (step.Import v on target) importing refl refl);
      }

    module _ (rest_then : IsRest t reflectors (after t reflectors w (step.Export v on target)) l) (free : IsFree t w (step.Export v on target))
        (g : Goes t reflectors l None now new (step.Export v on target)) where
      abbrev exporting : ReflectWorld
      exporting = unsaid w (step.Export v on target)

      export_edges : new.edges ≡ edges_in t l exporting st.decisions
      export_edges =
          g.edges ∙ ap (on_edge vrf_home (λ edge. after_vrf edge v.0 (with_exports (target_set target on)))) st.edges
          ∙ sym (one_edge t l l w exporting st.decisions st.decisions vrf_home (λ edge. after_vrf edge v.0 (with_exports (target_set target on))) vrf_below
          (λ e. export_edge t l w.config st.decisions vrf_home v target on) (λ x d. export_other t l w.config st.decisions x v target on d))

      export_told : (n : ℕ) → changed (exports_of t w.config n) (exports_of t exporting.config n) ≡ told_of t w.config (step.Export v on target) n
      export_told n = export_tells t w.config v target on n (set_differs target.0 on (w.config.exports v.0) free.changes)

      abbrev was : Edge
      was = edge_in t l (all_live t w.config) (as_peerings st.decisions) vrf_home

      abbrev is : Edge
      is = edge_in t l (all_live t exporting.config) (as_peerings st.decisions) vrf_home

      now_touched : map (exported t l) (filter (touches t (step.Export v on target)) (exports_of t exporting.config vrf_home)) ≡ exports_at is v.0
      now_touched = of_vrf t l (all_live t exporting.config) (as_peerings st.decisions) vrf_home lawful rest_then.order.statics rest_then.order.bounds.sites
          (step.Export v on target) v (λ x. refl)

      was_touched : map (exported t l) (filter (touches t (step.Export v on target)) (exports_of t w.config vrf_home)) ≡ exports_at was v.0
      was_touched = of_vrf t l (all_live t w.config) (as_peerings st.decisions) vrf_home lawful rest.order.statics rest.order.bounds.sites
          (step.Export v on target) v (λ x. refl)

      map_none : (zs : List Export) → map (exported t l) zs ≡ [] → zs ≡ []
      map_none [] h = refl
      map_none (z ∷ zs) h = absurd (no (ap (λ ys. elim ys [ [] ↦ true | y ∷ more ↦ false ]) h))

      abbrev steady : List NodeNo
      steady = steady_of (sessions_in t w) vrf_home

      export_letters : letters_in t reflectors l (flat_map (news t reflectors w exporting) (nodes_of (wiring_of t)))
          ≡ either_news t vrf_home steady (exports_at is v.0) (exports_at was v.0)
      export_letters = by (with_target target.0 on (w.config.exports v.0)) refl
        where
          by : (ts : List ℕ) → with_target target.0 on (w.config.exports v.0) ≡ ts →
              letters_in t reflectors l (flat_map (news t reflectors w exporting) (nodes_of (wiring_of t)))
              ≡ either_news t vrf_home steady (exports_at is v.0) (exports_at was v.0)
          by [] e =
              home_goes t reflectors l l w exporting lawful refl refl rest.order rest_then.order w.config.statics rest.order.statics (λ x i. i) (λ x i. i)
              vrf_home vrf_below (λ n d. export_told n ∙ none_told t w.config (step.Export v on target) n d) (vrf_edge v.0 there)
              (touches t (step.Export v on target))
              (export_told vrf_home ∙ ap (λ ts. by_set ts (comes t w.config (step.Export v on target) vrf_home)
              (goes t w.config (step.Export v on target) vrf_home)) e)
              ∙ ap (edge_news t vrf_home steady false) was_touched
              ∙ sym (ap (λ xs. either_news t vrf_home steady xs (exports_at was v.0)) (none_now e))
            where
              none_now : with_target target.0 on (w.config.exports v.0) ≡ [] → exports_at is v.0 ≡ []
              none_now q = sym now_touched ∙ ap (map (exported t l)) (none_exported t w.config v target on vrf_home q)
          by (x ∷ more) e =
              home_comes t reflectors l l w exporting lawful refl refl rest.order rest_then.order w.config.statics rest.order.statics (λ x i. i) (λ x i. i)
              vrf_home vrf_below (λ n d. export_told n ∙ none_told t w.config (step.Export v on target) n d) (vrf_edge v.0 there)
              (touches t (step.Export v on target))
              (export_told vrf_home ∙ ap (λ ts. by_set ts (comes t w.config (step.Export v on target) vrf_home)
              (goes t w.config (step.Export v on target) vrf_home)) e)
              ∙ ap (edge_news t vrf_home steady true) now_touched
              ∙ either (exports_at is v.0) refl
            where
              either : (xs : List Exported) → exports_at is v.0 ≡ xs →
                  edge_news t vrf_home steady true xs ≡ either_news t vrf_home steady xs (exports_at was v.0)
              either [] q = ap (edge_news t vrf_home steady false) (sym none_went)
                where
                  none_went : exports_at was v.0 ≡ []
                  none_went = sym was_touched ∙ ap (map (exported t l)) (none_before t w.config v target on vrf_home x more e
                      (map_none (filter (touches t (step.Export v on target)) (exports_of t exporting.config vrf_home)) (now_touched ∙ q)))
              either (y ∷ ys) q = refl

      pub then_exports : IsThen t reflectors l (after t reflectors w (step.Export v on target)) new
      then_exports = record {
        decisions = st.decisions;
        decided = record { last = st.decided.last; told = told_still (step.Export v on target) exporting.config same_more };
        edges = export_edges;
        sessions = g.sessions ∙ st.sessions;
        heard = g.heard ∙ st.heard;
        attachments = g.attachments ∙ st.attachments;
        statics = g.statics ∙ st.statics;
        letters =
            g.letters
            ∙ ap (λ ls. ls ++ either_news t vrf_home (steady_of now.sessions vrf_home) (exports_at (edge_of_node new.edges vrf_home) v.0)
            (exports_at (edge_of_node now.edges vrf_home) v.0)) st.letters
            ∙ ap (λ ss. letters_in t reflectors l w.flying ++ either_news t vrf_home (steady_of ss vrf_home) (exports_at (edge_of_node new.edges vrf_home) v.0)
            (exports_at (edge_of_node now.edges vrf_home) v.0)) st.sessions
            ∙ ap (λ edge. letters_in t reflectors l w.flying ++ either_news t vrf_home steady (exports_at edge v.0)
            (exports_at (edge_of_node now.edges vrf_home) v.0))
            (ap (λ es. edge_of_node es vrf_home) export_edges ∙ edge_there t l exporting st.decisions vrf_home vrf_below vrf_is)
            ∙ ap (λ edge. letters_in t reflectors l w.flying ++ either_news t vrf_home steady (exports_at is v.0) (exports_at edge v.0))
            (ap (λ es. edge_of_node es vrf_home) st.edges ∙ edge_there t l w st.decisions vrf_home vrf_below vrf_is)
            ∙ ap (λ ls. letters_in t reflectors l w.flying ++ ls) (sym export_letters)
            ∙ sym (both l (step.Export v on target) exporting refl refl);
      }
