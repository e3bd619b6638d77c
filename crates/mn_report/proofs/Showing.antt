-- What is shown of a prefix, by what the network tells of it.
use Rattle.std.proofs.Common.{◌≡◌, ℕ, inl, inr, Bool, true, false, List, filter, Option, Some, None, refl, ap, sym, ◌∙◌}
use Rattle.std.specs.Prelude.{◌&&◌, not, option_map}
use Rattle.std.specs.List.{list_any}
use Rattle.mn_base.proofs.Bools.{two_ways, and_false}
use Rattle.mn_base.proofs.Members.{In, in_filter, filter_in, map_in, passes_none}
use Rattle.mn_prefix.specs.Prefix.{AddressBlock, same_prefix}
use Rattle.mn_prefix.proofs.Tables.{same_exact}
use Rattle.mn_topo.specs.Network.{Network}
use Rattle.mn_ledger.specs.Places.{edge_of}
use Rattle.mn_ledger.specs.World.{World}
use Rattle.mn_ledger.specs.Held.{HeldRoute}
use Rattle.mn_ledger.specs.Eligible.{is_resolved, only_if}
use Rattle.mn_ledger.proofs.OneKind.{one_passes}
use Rattle.mn_frame_laws.specs.Given.{Labelling}
use Rattle.mn_vrf.specs.declared.source.Source.{Source}
use Rattle.mn_pe.specs.Entries.{source_of}
use Rattle.mn_ledger.specs.Heads.{best_for}
use Rattle.mn_report.specs.Routes.{IsShown}
use Rattle.mn_report.proofs.Holding.{none_best, best_has, same_as_itself}

module _ (t : Network) (w : World) (g : Labelling) (v : ℕ) (routes : List HeldRoute) (p : AddressBlock) where
  abbrev on : HeldRoute → Bool
  on = is_resolved t w (edge_of t v)

  abbrev has : HeldRoute → Bool
  has route = same_prefix route.prefix p

  -- where the topology doesn't resolve next hops
  pub by_default : t.resolve ≡ false → (route : HeldRoute) → best_for routes p ≡ Some route → p ≡ route.prefix → (source : Source)
      → source ≡ source_of g route route.source → IsShown t w g v routes p source false
  by_default off route best prefix source is = record {
    route = route;
    best = ap (λ b. best_for (only_if (b && list_any has (filter on routes)) on routes) p) off ∙ best;
    prefix_is = prefix;
    source_is = is;
    mark_is = sym (ap (λ b. b && not (on route)) off);
  }

  -- where it does, and a route of the prefix is resolved
  pub by_resolved : t.resolve ≡ true → (source : Source) →
      Some source ≡ option_map (λ (r : HeldRoute). source_of g r r.source) (best_for (filter on routes) p) →
      IsShown t w g v routes p source false
  by_resolved resolves source is = by (best_for (filter on routes) p) refl is
    where
      same : (a b : Source) → Some a ≡ Some b → a ≡ b
      same a b e = cc

      by : (o : Option HeldRoute) → best_for (filter on routes) p ≡ o → Some source ≡ option_map (λ (r : HeldRoute). source_of g r r.source) o
          → IsShown t w g v routes p source false
      by None e h = absurd (let none : ◌≡◌ {A = Option Source} (Some source) None → ⊥ = (λ z. cc) in none h)
      by (Some x) e h =
          let its = best_has (filter on routes) p x e in
          let its_on : on x ≡ true = (in_filter on routes x its.0).1 in
          record {
            route = x;
            best = ap (λ b. best_for (only_if (b && list_any has (filter on routes)) on routes) p) resolves
                ∙ ap (λ b. best_for (only_if b on routes) p) (one_passes has (filter on routes) x its.0 (same_as_itself x.prefix p its.1)) ∙ e;
            prefix_is = sym its.1;
            source_is = same source (source_of g x x.source) h;
            mark_is = sym (ap (λ b. t.resolve && not b) its_on ∙ and_false t.resolve);
          }

  -- and where none is
  pub by_none : t.resolve ≡ true → ◌≡◌ {A = Option Source} None (option_map (λ (r : HeldRoute). source_of g r r.source) (best_for (filter on routes) p))
      → (route : HeldRoute) → best_for routes p ≡ Some route → p ≡ route.prefix → (source : Source) → source ≡ source_of g route route.source
      → IsShown t w g v routes p source true
  by_none resolves is route best prefix source source_is = record {
    route = route;
    best = ap (λ b. best_for (only_if (b && list_any has (filter on routes)) on routes) p) resolves
        ∙ ap (λ b. best_for (only_if b on routes) p) (passes_none has (filter on routes) none_has) ∙ best;
    prefix_is = prefix;
    source_is = source_is;
    mark_is = sym (ap (λ b. b && not (on route)) resolves ∙ ap not not_on);
  }
    where
      no_best : (o : Option HeldRoute) → best_for (filter on routes) p ≡ o
          → ◌≡◌ {A = Option Source} None (option_map (λ (r : HeldRoute). source_of g r r.source) o) → best_for (filter on routes) p ≡ None
      no_best None e h = e
      no_best (Some x) e h = absurd (let some : ◌≡◌ {A = Option Source} None (Some (source_of g x x.source)) → ⊥ = (λ z. cc) in some h)

      without : (x : HeldRoute) → In (filter on routes) x → has x ≡ true → ⊥
      without x i h = none_best (filter on routes) x.prefix (map_in (λ (r : HeldRoute). r.prefix) (filter on routes) x i)
          (ap (best_for (filter on routes)) (same_exact x.prefix p h) ∙ no_best (best_for (filter on routes) p) refl is)

      none_has : (x : HeldRoute) → In (filter on routes) x → has x ≡ false
      none_has x i = elim (two_ways (has x)) [ inl h ↦ absurd (without x i h) | inr h ↦ h ]

      not_on : on route ≡ false
      not_on = elim (two_ways (on route)) [
        | inl h ↦
            let its = best_has routes p route best in
            absurd (without route (filter_in on routes route its.0 h) (same_as_itself route.prefix p its.1))
        | inr h ↦ h
      ]
