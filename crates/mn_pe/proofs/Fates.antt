-- What an edge that stands for the ledger's world says of a packet is the packet's fate.
use Rattle.std.proofs.Common.{ℕ, ◌≡◌, ◌<◌, inl, inr, false, List, [], ◌∷◌, filter, refl, arith, sym, ◌∙◌, ap, subst, Option, Some, None}
use Rattle.std.specs.Prelude.{◌==◌, not, nat_lt, is_none, option_map, slice_index, if◌then◌else◌, Result, Ok, Err, IfOk}
use Rattle.mn_base.proofs.Bools.{test_same, not_true}
use Rattle.mn_base.proofs.Members.{In, in_append, in_contained, in_map, in_filter, in_flat_map}
use Rattle.mn_prefix.specs.Prefix.{AddressBlock}
use Rattle.mn_drops.specs.declared.drops.Rule.{Rule}
use Rattle.mn_drops.specs.declared.drops.Rule.TheVariants as rule
use Rattle.mn_ipv4.specs.Header.{is_not_ipv4, is_malformed, is_truncated, has_bad_checksum, ttl_of, destination_of}
use Rattle.mn_topo.specs.Network.{Network}
use Rattle.mn_ledger.specs.Entry.{when, first_rule, is_unicast}
use Rattle.mn_ledger.specs.Places.{home_of, vrf_of, edges}
use Rattle.mn_ledger.specs.World.{World, Config, Export, Peerings}
use Rattle.mn_ledger.specs.Exports.{present_with, exports_of}
use Rattle.mn_ledger.specs.Eligible.{eligible, is_resolved}
use Rattle.mn_ledger.proofs.Eligible.{in_those}
use Rattle.mn_ledger.specs.Held.{HeldRoute, held, best, own_routes, near_routes, far_routes, held_by, imported, believed}
use Rattle.mn_ledger.specs.Held as ledger_held
use Rattle.mn_ledger.specs.Packets.{entry_rules}
use Rattle.mn_frame_laws.proofs.LawsEntering.{best_is}
use Rattle.mn_frame_laws.specs.Given.{Labelling}
use Rattle.mn_frame_laws.specs.Entries.{Stays, Leaves, fate, fate_by, fate_of, IsAged, IsFit, IsFall}
use Rattle.mn_frame_laws.proofs.Fit.{fits_or_falls}
use Rattle.mn_pe.specs.Edge.{Edge}
use Rattle.mn_pe.specs.Held.{site_label}
use Rattle.mn_vrf.specs.declared.source.Source.{Source}
use Rattle.mn_pe.specs.declared.entering.Entered.{Entered}
use Rattle.mn_pe.specs.Entries.{alone, entered_by, entered_over, as_held, source_of, StandsAtEntry, IsItsFate}

-- a route from the edge itself leads to a site of it, and one of a peer to another edge
abbrev pub IsPlaced : ℕ → ℕ → ledger_held.Source → Type 0
IsPlaced edge at ledger_held.Own = at ≡ edge
IsPlaced edge at (ledger_held.Near v) = at ≡ edge
IsPlaced edge at (ledger_held.Far address rd) = (at == edge) ≡ false

pub placed : (t : Network) (c : Config) (p : Peerings) (edge v : ℕ) (r : HeldRoute) → In (held t c p edge v) r → IsPlaced edge r.edge r.source
unfolding held
placed t c p edge v r i = elim (in_append (own_routes t c edge v) _ r i) [
  | inl j ↦ let m = in_map (held_by edge ledger_held.Own) (present_with t c v []) r j in subst (λ (x : HeldRoute). IsPlaced edge x.edge x.source) m.2 refl
  | inr j ↦ elim (in_append (near_routes t c edge v) _ r j) [
    | inl k ↦ let m = in_map (λ (x : Export). held_by edge (ledger_held.Near x.vrf) x)
        (imported c v (filter (λ (x : Export). not (x.vrf == v)) (exports_of t c edge))) r k in
        subst (λ (x : HeldRoute). IsPlaced edge x.edge x.source) m.2 refl
    | inr k ↦
        let f = in_flat_map (far_routes t c p edge v) (filter (λ peer. not (peer == edge)) (edges t)) r k in
        let m = in_map (λ (x : Export). held_by f.0 (ledger_held.Far _ _) x) (imported c v (believed c p edge f.0)) r f.2 in
        let apart = in_filter (λ peer. not (peer == edge)) (edges t) f.0 f.1 in
        subst (λ (x : HeldRoute). IsPlaced edge x.edge x.source) m.2 (not_true (f.0 == edge) apart.1)
  ]
]

pub rules_same : (attachment other : Option ℕ) (bytes : List ℕ) → is_none attachment ≡ is_none other →
    first_rule (entry_rules attachment bytes) ≡ first_rule (entry_rules other bytes)
rules_same attachment other bytes e =
    ap (λ b. first_rule (when b rule.SiteDown ∷ when (is_not_ipv4 bytes) rule.NotIpv4 ∷ when (is_malformed bytes) rule.Malformed ∷ when
    (is_truncated bytes) rule.Truncated
    ∷ when (has_bad_checksum bytes) rule.BadChecksum ∷ when (nat_lt (ttl_of bytes) 2) rule.TtlExpired ∷ when
    (not (is_unicast (destination_of bytes))) rule.NotUnicast ∷ [])) e

module _ (t : Network) (g : Labelling) (w : World) (edge : Edge) (route : Option (AddressBlock × Source)) (s : ℕ) (bytes : List ℕ)
    (stands : StandsAtEntry edge route t g w s bytes) (small : (i : ℕ) → slice_index bytes i < 256) where
  abbrev home : ℕ
  home = home_of t s

  abbrev routes : List HeldRoute
  routes = eligible t w home (vrf_of t s) (destination_of bytes)

  abbrev found : Option HeldRoute
  found = best routes (destination_of bytes)

  abbrev cause : Option Rule
  cause = first_rule (entry_rules (w.config.attached s) bytes)

  stays : (r : HeldRoute) → cause ≡ None → found ≡ Some r → r.edge ≡ home → fate t w s bytes ≡ Stays r.site
  stays r e f p = ap (fate_of home found) e ∙ ap (fate_by home) f ∙ ap (λ b. if b then Stays r.site else Leaves r) (test_same r.edge home p)

  leaves : (r : HeldRoute) → cause ≡ None → found ≡ Some r → (r.edge == home) ≡ false → fate t w s bytes ≡ Leaves r
  leaves r e f p = ap (fate_of home found) e ∙ ap (fate_by home) f ∙ ap (λ b. if b then Stays r.site else Leaves r) p

  older : (site : ℕ) → fate t w s bytes ≡ Stays site → IsAged bytes (alone bytes)
  older site e =
      let fit : IsFit bytes = fits_or_falls t w s bytes small (λ fall. subst IsFall e fall) in
      record { packet = refl; ttl = fit.ttl; alive = omega (arith, fit.alive) }

  over : (r : HeldRoute) → cause ≡ None → found ≡ Some r → (source : ledger_held.Source) → IsPlaced home r.edge source →
      IsItsFate t g w s bytes (entered_over bytes (source_of g r source))
  over r e f ledger_held.Own p = let is = stays r e f p in (is, older r.site is)
  over r e f (ledger_held.Near v) p = let is = stays r e f p in (is, older r.site is)
  over r e f (ledger_held.Far address rd) p = let is = leaves r e f p in (r, is, refl, record { stack = refl; packet = refl; sound = stands.sound r is })

  by_route : cause ≡ None → (r : Option HeldRoute) → found ≡ r → IsItsFate t g w s bytes (entered_by bytes None (option_map (as_held g) r))
  by_route e None f = ap (fate_of home found) e ∙ ap (fate_by home) f
  by_route e (Some r) f = over r e f r.source (placed t w.config w.peerings home (vrf_of t s) r
      (in_those _ (is_resolved t w home) (held t w.config w.peerings home (vrf_of t s)) r
      (in_contained routes r (best_is routes (destination_of bytes) r f).held)))

  by_cause : (o : Option Rule) → cause ≡ o → IsItsFate t g w s bytes (entered_by bytes o route)
  by_cause (Some c) e = ap (fate_of home found) e
  by_cause None e = subst (λ r. IsItsFate t g w s bytes (entered_by bytes None r)) (sym (stands.route e)) (by_route e found refl)

  pub is_its_fate : IsItsFate t g w s bytes (entered_by bytes (first_rule (entry_rules (site_label edge s) bytes)) route)
  is_its_fate =
      subst (λ o. IsItsFate t g w s bytes (entered_by bytes o route))
      (sym (rules_same (site_label edge s) (w.config.attached s) bytes stands.attached)) (by_cause cause refl)

-- and so is what a call answers, if it does
pub is_the_fate : {E : Type 0} (r : Result Entered E) (edge : Edge) (route : Option (AddressBlock × Source)) (s : ℕ) (bytes : List ℕ) →
    ((i : ℕ) → slice_index bytes i < 256) →
    IfOk r (λ (entered : Entered). entered ≡ entered_by bytes (first_rule (entry_rules (site_label edge s) bytes)) route)
    → IfOk r (λ (entered : Entered). (t : Network) (g : Labelling) (w : World) → StandsAtEntry edge route t g w s bytes → IsItsFate t g w s bytes entered)
is_the_fate (Ok entered) edge route s bytes small e = λ t g w stands.
    subst (IsItsFate t g w s bytes) (sym e) (is_its_fate t g w edge route s bytes stands small)
is_the_fate (Err bad) edge route s bytes small e = e
