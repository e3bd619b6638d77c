-- Of the routes that are open the edge finds the ledger's best among those that take part; where none is open, the best of all.
use Rattle.std.proofs.Common.{ℕ, ◌≡◌, Bool, true, false, List, filter, refl, sym, ◌∙◌, ap, Option, Some, None}
use Rattle.std.specs.Prelude.{◌&&◌, option_map}
use Rattle.mn_base.proofs.Places.{ascends_filter}
use Rattle.mn_prefix.specs.Prefix.{AddressBlock, IsPrefix}
use Rattle.mn_prefix.specs.Table.{longest_match}
use Rattle.mn_topo.specs.Network.{Network}
use Rattle.mn_ledger.specs.World.{World}
use Rattle.mn_ledger.specs.Held.{HeldRoute, held, best}
use Rattle.mn_ledger.specs.Best.{NamesTheBest}
use Rattle.mn_ledger.specs.Eligible.{is_resolved, covers, only_if, some_resolves, eligible}
use Rattle.mn_ledger.proofs.Members.{In, in_filter, filter_in, in_contained, contained_in, passes_none}
use Rattle.mn_ledger.proofs.OneKind.{one_passes}
use Rattle.mn_ledger.proofs.Held.{one_held, held_formed}
use Rattle.mn_ledger.proofs.Choice.{names_one}
use Rattle.mn_vrf.specs.declared.source.Source.{Source}
use Rattle.mn_vrf.specs.Routes.{route_before, is_open, open_among, or_else, found_among}
use Rattle.mn_vrf.proofs.Orders.{route_order}
use Rattle.mn_pe.specs.Held.{held_by}
use Rattle.mn_bgp_spelling_laws.specs.Spelling.{Labels}
use Rattle.mn_routing_laws.specs.Sources.{as_held}
use Rattle.mn_routing_laws.specs.Standing.{vrf_in, edge_in}
use Rattle.mn_routing_laws.proofs.Lookup.{SameRoutes, lookup_is_best}
use Rattle.mn_routing_laws.proofs.Holding.{Stands, holds}

-- tests that agree keep the same routes
pub same_filter : (l : Labels) (routes : List HeldRoute) (all : List (AddressBlock × Source)) (q : HeldRoute → Bool) (r : AddressBlock × Source → Bool)
    → SameRoutes l routes all → ((x : HeldRoute) → In routes x → r (as_held l x) ≡ q x) → SameRoutes l (filter q routes) (filter r all)
same_filter l routes all q r same agree = record {
  up = ascends_filter route_before r all same.up;
  there = λ x i. let m = in_filter q routes x i in filter_in r all (as_held l x) (same.there x m.0) (agree x m.0 ∙ m.1);
  only = λ h i.
      let m = in_filter r all h i in
      let o = same.only h m.0 in
      (o.0, filter_in q routes o.0 o.1 (sym (agree o.0 o.1) ∙ ap r o.2 ∙ m.1), o.2);
}

module _ (t : Network) (l : Labels) (w : World) (e v : ℕ) (s : Stands t w.config w.peerings e v) (ways : List Bool)
    (agree : (x : HeldRoute) → In (held t w.config w.peerings e v) x → is_open ways (as_held l x).1 ≡ is_resolved t w e x) (address : ℕ) where
  abbrev rs : List HeldRoute
  rs = held t w.config w.peerings e v

  abbrev q : HeldRoute → Bool
  q = is_resolved t w e

  abbrev all : List (AddressBlock × Source)
  all = held_by (edge_in t l w.config w.peerings e) (vrf_in t w.config v)

  formed : (a : HeldRoute) → In rs a → IsPrefix a.prefix.address a.prefix.length
  formed a i = held_formed t w.config w.peerings e v a s.forms s.good i

  apart : (a b : HeldRoute) → In rs a → In rs b → a.source ≡ b.source → a.prefix ≡ b.prefix → a ≡ b
  apart a b i j source prefix = one_held t w.config w.peerings e v a b s.lawful s.apart s.statics s.good i j source prefix

  of_all : longest_match address all ≡ option_map (as_held l) (best rs address)
  of_all = lookup_is_best l rs all address (λ y z h g. route_order.one_way y z h g) (holds t l w.config w.peerings e v s) formed apart

  of_open : longest_match address (open_among ways all) ≡ option_map (as_held l) (best (filter q rs) address)
  of_open =
      lookup_is_best l (filter q rs) (open_among ways all) address (λ y z h g. route_order.one_way y z h g)
      (same_filter l rs all q (λ (route : AddressBlock × Source). is_open ways route.1) (holds t l w.config w.peerings e v s) agree)
      (λ a i. formed a (in_filter q rs a i).0) (λ a b i j. apart a b (in_filter q rs a i).0 (in_filter q rs b j).0)

  names : NamesTheBest (filter q rs) address
  names = names_one (filter q rs) address (λ a i. formed a (in_filter q rs a i).0) (λ a b i j. apart a b (in_filter q rs a i).0 (in_filter q rs b j).0)

  by_choice : t.resolve ≡ true → (o : Option HeldRoute) → best (filter q rs) address ≡ o
      → or_else (option_map (as_held l) o) (option_map (as_held l) (best rs address)) ≡ option_map (as_held l) (best (eligible t w e v address) address)
  by_choice on None h =
      ap (λ c. option_map (as_held l) (best (only_if c q rs) address)) (off t.resolve
      (passes_none (covers address) (filter q rs) (λ x i. names.none h x (contained_in (filter q rs) x i))))
    where
      off : (c : Bool) → some_resolves t w e v address ≡ false → false ≡ (c && some_resolves t w e v address)
      off true f = sym f
      off false f = refl
  by_choice on (Some x) h =
      let top = names.named x h in
      ap (option_map (as_held l)) (sym h)
      ∙ ap (λ b. option_map (as_held l) (best (only_if b q rs) address))
      (sym (ap (λ c. c && some_resolves t w e v address) on ∙ one_passes (covers address) (filter q rs) x (in_contained (filter q rs) x top.held) top.matches))

  -- where the topology resolves
  pub finds_eligible : t.resolve ≡ true
      → found_among ways address all ≡ option_map (as_held l) (best (eligible t w e v address) address)
  finds_eligible on =
      ap (λ o. or_else o (longest_match address all)) of_open ∙ ap (or_else (option_map (as_held l) (best (filter q rs) address))) of_all
      ∙ by_choice on (best (filter q rs) address) refl
