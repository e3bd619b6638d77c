-- What is already so is unchanged in the ledger.
use Rattle.std.proofs.Common.{ℕ, ◌≡◌, ◌<◌, Bool, true, false, List, length, map, refl, sym, ap, ◌∙◌, subst}
use Rattle.std.specs.Prelude.{◌&&◌, not, nat_lt, slice_index_or, is_some, is_none}
use Rattle.mn_base.specs.Numbers.{has_rt_form}
use Rattle.mn_base.proofs.Bools.{and_parts, less_tells}
use Rattle.mn_linkdb.specs.Changes.{is_odd, is_link_up}
use Rattle.mn_topo.specs.Lawful.{IsLawful}
use Rattle.mn_topo.specs.Network.{Network}
use Rattle.mn_topo.specs.Steps.{fits}
use Rattle.mn_topo.specs.VrfTable.{is_edge}
use Rattle.mn_topo.specs.declared.steps.Step.{Step}
use Rattle.mn_topo.specs.declared.steps.Step.TheVariants.{LinkUp, LinkDown, Learn, LdpAdmin, BgpUp, BgpDown, Import, Export, Attach, Detach}
use Rattle.mn_topo.specs.declared.steps.JournalEntry.{JournalEntry}
use Rattle.mn_ledger.specs.World.{World}
use Rattle.mn_ledger.specs.Ledger.{world_of}
use Rattle.mn_ledger.specs.Refusal.{agree, is_unchanged}
use Rattle.mn_frame_laws.specs.Numbers.{labels_of}
use Rattle.mn_routing_laws.specs.Whole.{RoutesNow, routes_in}
use Rattle.mn_routing_laws.proofs.Tables.{map_numbers_at}
use Rattle.mn_timetable_laws.proofs.OtherKeys.{edge-below}
use Rattle.mn_net_laws.specs.Seen.{Seen, Shows}
use Rattle.mn_net_laws.specs.Refusal.{session_at, imports_it, exports_it, site_label, is_so}
use Rattle.mn_net_laws.proofs.Vrfs.{not_some, session_lives, imports_is, exports_is, attached_is}

module _ (t : Network) (lawful : IsLawful t) (es : List JournalEntry) (ps : List (List ℕ)) (seen : Seen) (h : Shows t es ps seen) where
  abbrev w : World
  w = world_of t es

  abbrev routes : RoutesNow
  routes = routes_in t (labels_of t es) w.config w.peerings

  up_is : (l : ℕ) → l < length t.links → is_link_up seen.changes l ≡ w.config.is_up l
  up_is l there =
      ap (λ changes. is_odd (slice_index_or changes l 0)) h.changes
      ∙ ap is_odd (map_numbers_at w.views.changes (length t.links) l 0 there) ∙ h.up l there

  switch_is : (l : ℕ) → l < length t.links → slice_index_or seen.switches l false ≡ w.config.ldp_on l
  switch_is l there = ap (λ switches. slice_index_or switches l false) h.switches ∙ map_numbers_at w.config.ldp_on (length t.links) l false there

  session_is : (a b : ℕ) → ((is_edge t.vrfs a && is_edge t.vrfs b) && nat_lt a b) ≡ true → is_some (session_at seen.routes a b) ≡ w.config.bgp_on a b
  session_is a b fit =
      let three = and_parts (is_edge t.vrfs a && is_edge t.vrfs b) (nat_lt a b) fit in
      let both = and_parts (is_edge t.vrfs a) (is_edge t.vrfs b) three.0 in
      ap (λ r. is_some (session_at r a b)) h.routes
      ∙ session_lives t (labels_of t es) w.config w.peerings a b (edge-below t lawful a both.0) (edge-below t lawful b both.1) three.1

  label_is : (s : ℕ) → nat_lt s (length t.sites) ≡ true → is_some (site_label t seen.routes s) ≡ is_some (w.config.attached s)
  label_is s fit =
      ap (λ r. is_some (site_label t r s)) h.routes ∙ attached_is t (labels_of t es) w.config w.peerings lawful s (less_tells s (length t.sites) fit)

  pub already : (s : Step) → fits t s ≡ true → is_so t seen s ≡ is_unchanged w.config s
  already (LinkUp l) fit = up_is l.0 (less_tells l.0 (length t.links) fit)
  already (LinkDown l) fit = ap not (up_is l.0 (less_tells l.0 (length t.links) fit))
  already (LdpAdmin l on) fit = ap (agree on) (switch_is l.0 (less_tells l.0 (length t.links) fit))
  already (BgpUp a b) fit = session_is a.0 b.0 fit
  already (BgpDown a b) fit = not_some (session_at seen.routes a.0 b.0) ∙ ap not (session_is a.0 b.0 fit)
  already (Import v on target) fit =
      let there = (and_parts (nat_lt v.0 (length t.vrfs)) (has_rt_form target.0) fit).0 in
      ap (agree on) (ap (λ r. imports_it t r v.0 target) h.routes
      ∙ imports_is t (labels_of t es) w.config w.peerings lawful v.0 target (less_tells v.0 (length t.vrfs) there))
  already (Export v on target) fit =
      let there = (and_parts (nat_lt v.0 (length t.vrfs)) (has_rt_form target.0) fit).0 in
      ap (agree on) (ap (λ r. exports_it t r v.0 target) h.routes
      ∙ exports_is t (labels_of t es) w.config w.peerings lawful v.0 target (less_tells v.0 (length t.vrfs) there))
  already (Attach s) fit = label_is s.0 fit
  already (Detach s) fit = not_some (site_label t seen.routes s.0) ∙ ap not (label_is s.0 fit) ∙ sym (not_some (w.config.attached s.0))
  already (Learn node l) fit = refl
  already _ fit = refl
