-- The steps that one edge is told are done in the ledger's words.
use Rattle.std.proofs.Common.{ℕ, ◌≡◌, ◌-◌, ◌<◌, true, false, List, length}
use Rattle.std.proofs.Common.{refl, sym, ◌∙◌, ap, subst}
use Rattle.std.specs.Prelude.{nat_lt}
use Rattle.mn_base.proofs.Bools.{less_tells}
use Rattle.mn_base.specs.declared.numbers.SiteNo.{SiteNo}
use Rattle.mn_prefix.specs.Prefix.{AddressBlock}
use Rattle.mn_topo.specs.Network.{Network}
use Rattle.mn_topo.specs.Lawful.{IsLawful}
use Rattle.mn_topo.specs.declared.steps.Step.{Step}
use Rattle.mn_topo.specs.declared.steps.Step.TheVariants as step
use Rattle.mn_topo.specs.declared.steps.JournalEntry.{JournalEntry}
use Rattle.mn_ledger.specs.Places.{vrf_of, home_of}
use Rattle.mn_ledger.specs.World.{Config, World}
use Rattle.mn_ledger.specs.Bgp.{peerings_after}
use Rattle.mn_ledger.specs.Ledger.{config_after, world_of, packets_of}
use Rattle.mn_ledger.proofs.Statics.{statics_go}
use Rattle.mn_ledger_laws.proofs.There.{vrf_there, edge_there}
use Rattle.mn_frame_laws.specs.Numbers.{labels_of}
use Rattle.mn_bgp_spelling_laws.specs.Spelling.{Labels}
use Rattle.mn_vrf.specs.Vrf.{with_static, without_static}
use Rattle.mn_pe.specs.Edge.{after_vrf, after_attach, after_detach, vrf_of_site}
use Rattle.mn_pe.specs.Exports.{exports_over, export_of}
use Rattle.mn_routing_laws.specs.Labels.{labels_after}
use Rattle.mn_routing_laws.specs.Standing.{edge_in}
use Rattle.mn_routing_laws.specs.Routed.{Routed, IsRoutes}
use Rattle.mn_routing_laws.specs.Steps.{IsTurn, Did, DidAttach, next_label}
use Rattle.mn_routing_laws.specs.Doing.{edge_at, those_of, static_added, Adds, Dels, Attaches, Detaches, Tells}
use Rattle.mn_routing_laws.proofs.GoingOn.{at_site, heard_turn}
use Rattle.mn_routing_laws.proofs.Lawful.{sited_go}
use Rattle.mn_routing_laws.proofs.Steps.{add_here}
use Rattle.mn_routing_laws.proofs.Attaching.{attach_here}
use Rattle.mn_routing_laws.proofs.Home.{is_edge_of, among_edges}
use Rattle.mn_routing_laws.proofs.News.{vrf_of_site_is, of_prefix, over_site, comes_as, goes_as}
use Rattle.mn_routing_laws.proofs.Goes.{brings, IsOfOne, Does, was, does}

less_site : (t : Network) (s : SiteNo) → nat_lt s.0 (length t.sites) ≡ true → s.0 < length t.sites
less_site t s h = less_tells s.0 (length t.sites) h

-- 1. A site's prefix

module _ (t : Network) (lawful : IsLawful t) (tick number next : ℕ) (old new : Routed) (site : SiteNo) (prefix : AddressBlock) where
  abbrev adding : Step
  adding = step.AddRoute site prefix

  add_one : (es : List JournalEntry) → IsTurn t es adding →
      IsOfOne t (labels_of t es) es adding (λ now. after_vrf now (vrf_of t site.0) (with_static (record { prefix = prefix; site = site.0 })))
  unfolding peerings_after
  add_one es turn =
      let there = vrf_there t site.0 lawful (at_site t site.0 prefix turn.fitting) in
      let below = edge_there t (vrf_of t site.0) lawful there in
      record {
        vrf = vrf_of t site.0;
        there = there;
        below = below;
        home = refl;
        edge = is_edge_of t (vrf_of t site.0) there;
        among =
            among_edges t (vrf_of t site.0) there below;
        changes = refl;
        quiet = refl;
        told = refl;
        no_replies = refl;
        same = λ q. refl;
        now = refl;
      }

  pub did_add : Adds t tick number site prefix old new next → Did t tick number adding old new (next - number)
  did_add adds = record {
    goes = λ es stands turn. (all es stands turn).stands;
    messages = λ es stands turn. (all es stands turn).keys;
    count = λ es stands turn. (all es stands turn).count;
  }
    where
      all : (es : List JournalEntry) → IsRoutes t es old → IsTurn t es adding → Does t es adding tick number old new (next - number)
      all es stands turn =
          let w = world_of t es in
          let l = labels_of t es in
          let b = brings t es adding lawful turn in
          let one = add_one es turn in
          let is = was t lawful es adding tick number old stands turn _ one in
          let same : vrf_of_site (edge_at old (home_of t site.0)) site.0 ≡ vrf_of t site.0 =
          ap (λ e. vrf_of_site e site.0) is ∙ vrf_of_site_is t l w.config w.peerings (home_of t site.0) site.0 in
          let now : edge_in t l (config_after w.config adding) (peerings_after t w.config (config_after w.config adding) w.peerings adding)
          (home_of t site.0) ≡ static_added (edge_at old (home_of t site.0)) site prefix =
          add_here t l w.config w.peerings site prefix (home_of t site.0) (heard_turn w b.turn.bgp)
          ∙ ap (λ e. after_vrf e (vrf_of t site.0) (with_static (record { prefix = prefix; site = site.0 }))) (sym is)
          ∙ ap (λ v. after_vrf (edge_at old (home_of t site.0)) v (with_static (record { prefix = prefix; site = site.0 }))) (sym same) in
          does t lawful es adding tick number old stands turn _ one true
          (those_of (export_of (static_added (edge_at old (home_of t site.0)) site prefix) site.0 prefix)) new next
          (comes_as t l w.config adding (home_of t site.0) _
          (of_prefix t l (config_after w.config adding) (peerings_after t w.config (config_after w.config adding) w.peerings adding) (home_of t site.0) lawful
          (statics_go t w (packets_of t es b.inputs) (length es) adding b.bytes turn.allowed b.rest.statics)
          (sited_go t w.config adding turn.fitting b.rest.sited)
          adding site prefix (λ x. refl)
          ∙ ap (λ e. those_of (export_of e site.0 prefix)) now))
          (subst (λ v. Tells t tick number (home_of t site.0)
          (after_vrf (edge_at old (home_of t site.0)) v (with_static (record { prefix = prefix; site = site.0 }))) true
          (those_of (export_of (static_added (edge_at old (home_of t site.0)) site prefix) site.0 prefix)) old new next) same adds)

  abbrev deleting : Step
  deleting = step.DelRoute site prefix

  del_one : (es : List JournalEntry) → IsTurn t es deleting →
      IsOfOne t (labels_of t es) es deleting (λ now. after_vrf now (vrf_of t site.0) (without_static (record { prefix = prefix; site = site.0 })))
  unfolding peerings_after
  del_one es turn =
      let there = vrf_there t site.0 lawful (at_site t site.0 prefix turn.fitting) in
      let below = edge_there t (vrf_of t site.0) lawful there in
      record {
        vrf = vrf_of t site.0;
        there = there;
        below = below;
        home = refl;
        edge = is_edge_of t (vrf_of t site.0) there;
        among =
            among_edges t (vrf_of t site.0) there below;
        changes = refl;
        quiet = refl;
        told = refl;
        no_replies = refl;
        same = λ q. refl;
        now = refl;
      }

  pub did_del : Dels t tick number site prefix old new next → Did t tick number deleting old new (next - number)
  did_del dels = record {
    goes = λ es stands turn. (all es stands turn).stands;
    messages = λ es stands turn. (all es stands turn).keys;
    count = λ es stands turn. (all es stands turn).count;
  }
    where
      all : (es : List JournalEntry) → IsRoutes t es old → IsTurn t es deleting → Does t es deleting tick number old new (next - number)
      all es stands turn =
          let w : World = world_of t es in
          let l : Labels = labels_of t es in
          let b = brings t es deleting lawful turn in
          let one = del_one es turn in
          let is = was t lawful es deleting tick number old stands turn _ one in
          let same : vrf_of_site (edge_at old (home_of t site.0)) site.0 ≡ vrf_of t site.0 =
          ap (λ e. vrf_of_site e site.0) is ∙ vrf_of_site_is t l w.config w.peerings (home_of t site.0) site.0 in
          does t lawful es deleting tick number old stands turn _ one false (those_of (export_of (edge_at old (home_of t site.0)) site.0 prefix)) new next
          (goes_as t l w.config deleting (home_of t site.0) _
          (of_prefix t l w.config w.peerings (home_of t site.0) lawful b.rest.statics b.rest.sited deleting site prefix (λ x. refl)
          ∙ ap (λ e. those_of (export_of e site.0 prefix)) (sym is)))
          (subst (λ v. Tells t tick number (home_of t site.0)
          (after_vrf (edge_at old (home_of t site.0)) v (without_static (record { prefix = prefix; site = site.0 }))) false
          (those_of (export_of (edge_at old (home_of t site.0)) site.0 prefix)) old new next) same dels)

-- 2. A site

module _ (t : Network) (lawful : IsLawful t) (tick number next : ℕ) (old new : Routed) (site : SiteNo) where
  abbrev attaching : Step
  attaching = step.Attach site

  attach_one : (es : List JournalEntry) → IsTurn t es attaching →
      IsOfOne t (labels_of t es) es attaching (λ now. after_attach now site.0 (next_label t es site.0))
  unfolding peerings_after
  attach_one es turn =
      let there = vrf_there t site.0 lawful (less_site t site turn.fitting) in
      let below = edge_there t (vrf_of t site.0) lawful there in
      record {
        vrf = vrf_of t site.0;
        there = there;
        below = below;
        home = refl;
        edge = is_edge_of t (vrf_of t site.0) there;
        among =
            among_edges t (vrf_of t site.0) there below;
        changes = refl;
        quiet = refl;
        told = refl;
        no_replies = refl;
        same = λ q. refl;
        now = refl;
      }

  pub did_attach : (label : ℕ) → Attaches t tick number site label old new next → DidAttach t tick number site label old new (next - number)
  did_attach label attaches = record {
    goes = λ es stands turn gives. (all es stands turn gives).stands;
    messages = λ es stands turn gives. (all es stands turn gives).keys;
    count = λ es stands turn gives. (all es stands turn gives).count;
  }
    where
      all : (es : List JournalEntry) → IsRoutes t es old → IsTurn t es attaching → label ≡ next_label t es site.0 →
          Does t es attaching tick number old new (next - number)
      all es stands turn gives =
          let w : World = world_of t es in
          let l : Labels = labels_of t es in
          let b = brings t es attaching lawful turn in
          let one = attach_one es turn in
          let is = was t lawful es attaching tick number old stands turn _ one in
          let new_config : Config = config_after w.config attaching in
          let later : Labels = labels_after (next_label t es) w.config l attaching in
          let now : edge_in t later new_config (peerings_after t w.config new_config w.peerings attaching) (home_of t site.0) ≡ after_attach
          (edge_at old (home_of t site.0)) site.0 (next_label t es site.0) =
          attach_here t (next_label t es) l w.config w.peerings site (heard_turn w b.turn.bgp) (λ teller peer m i. (b.rest.sound teller peer m i).1)
          (less_site t site turn.fitting)
          ∙ ap (λ e. after_attach e site.0 (next_label t es site.0)) (sym is) in
          does t lawful es attaching tick number old stands turn _ one true
          (exports_over (after_attach (edge_at old (home_of t site.0)) site.0 (next_label t es site.0)) site.0) new next
          (comes_as t later w.config attaching (home_of t site.0) _
          (over_site t later new_config (peerings_after t w.config new_config w.peerings attaching)
          (home_of t site.0) lawful b.rest.statics b.rest.sited attaching site (λ x. refl)
          ∙ ap (λ e. exports_over e site.0) now))
          (subst (λ k. Tells t tick number (home_of t site.0) (after_attach (edge_at old (home_of t site.0)) site.0 k) true
          (exports_over (after_attach (edge_at old (home_of t site.0)) site.0 k) site.0) old new next) gives attaches)

  abbrev detaching : Step
  detaching = step.Detach site

  detach_one : (es : List JournalEntry) → IsTurn t es detaching → IsOfOne t (labels_of t es) es detaching (λ now. after_detach now site.0)
  unfolding peerings_after
  detach_one es turn =
      let there = vrf_there t site.0 lawful (less_site t site turn.fitting) in
      let below = edge_there t (vrf_of t site.0) lawful there in
      record {
        vrf = vrf_of t site.0;
        there = there;
        below = below;
        home = refl;
        edge = is_edge_of t (vrf_of t site.0) there;
        among =
            among_edges t (vrf_of t site.0) there below;
        changes = refl;
        quiet = refl;
        told = refl;
        no_replies = refl;
        same = λ q. refl;
        now = refl;
      }

  pub did_detach : Detaches t tick number site old new next → Did t tick number detaching old new (next - number)
  did_detach detaches = record {
    goes = λ es stands turn. (all es stands turn).stands;
    messages = λ es stands turn. (all es stands turn).keys;
    count = λ es stands turn. (all es stands turn).count;
  }
    where
      all : (es : List JournalEntry) → IsRoutes t es old → IsTurn t es detaching → Does t es detaching tick number old new (next - number)
      all es stands turn =
          let w : World = world_of t es in
          let l : Labels = labels_of t es in
          let b = brings t es detaching lawful turn in
          let one = detach_one es turn in
          let is = was t lawful es detaching tick number old stands turn _ one in
          does t lawful es detaching tick number old stands turn _ one false (exports_over (edge_at old (home_of t site.0)) site.0) new next
          (goes_as t l w.config detaching (home_of t site.0) _
          (over_site t l w.config w.peerings (home_of t site.0) lawful b.rest.statics b.rest.sited detaching site (λ x. refl)
          ∙ ap (λ e. exports_over e site.0) (sym is)))
          detaches
