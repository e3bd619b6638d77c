-- Names in an ordered map.
use Rattle.std.proofs.Common.{◌≡◌, ◌⊎◌, inl, inr, Bool, true, false, cond, List, [], ◌∷◌, ◌++◌, map, filter, refl, arith, sym, ap, ◌∙◌}
use Rattle.std.specs.Prelude.{◌||◌}
use Rattle.std.proofs.lemmas.Bool.Decides.{nat_tests}
use Rattle.std.proofs.lemmas.List.{map-append}
use Rattle.mn_base.specs.Ordered.{with_one}
use Rattle.mn_base.proofs.Bools.{two_ways}
use Rattle.mn_base.proofs.Kept.{fold_in, in_fold}
use Rattle.mn_base.proofs.Places.{fold_ascends}
use Rattle.mn_by_key_laws.specs.ByKey.{Goes}
use Rattle.mn_offers.specs.Heard.{Heard, place_of}
use Rattle.mn_offers.proofs.ByName.{heard_order, by_vrf_then_prefix, by_name}
use Rattle.mn_reflect_ledger_laws.specs.Words.{Key, same_key, key_before, in_order}
use Rattle.mn_reflect_ledger_laws.proofs.Mentions.{same_keys}
use Rattle.mn_reflect_world_laws.proofs.InOrder.{key_order, in_order_is}
use Rattle.mn_reflect_telling.specs.declared.name.Name.{Name}
use Rattle.mn_reflect_telling.specs.Names.{key_in, name_before, place_in, with_names}

abbrev as_heard : Name → Heard
as_heard name = place_of name.vrf.0 name.prefix

pub names_go : Goes by_vrf_then_prefix name_before place_in
names_go = record {
  order = record {
    onward = λ x y z. heard_order.onward (as_heard x) (as_heard y) (as_heard z);
    one_way = λ x y. heard_order.one_way (as_heard x) (as_heard y);
    alike = λ x y z. heard_order.alike (as_heard x) (as_heard y) (as_heard z);
    alike_back = λ x y z. heard_order.alike_back (as_heard x) (as_heard y) (as_heard z);
  };
  less = λ x y. by_name.less (as_heard x) (as_heard y);
  equal = λ x y. by_name.equal (as_heard x) (as_heard y);
  greater = λ x y. by_name.greater (as_heard x) (as_heard y);
  same = by_name.same;
}

module _ (name : Name) where
  before_it : (names : List Name) → map key_in (filter (λ y. name_before y name) names) ≡ filter (λ k. key_before k (key_in name)) (map key_in names)
  before_it [] = refl
  before_it (y ∷ ys) = by (name_before y name) (before_it ys)
    where
      by : (b : Bool) → map key_in (filter (λ z. name_before z name) ys) ≡ filter (λ k. key_before k (key_in name)) (map key_in ys) →
          map key_in (cond b (y ∷ filter (λ z. name_before z name) ys) (filter (λ z. name_before z name) ys))
          ≡ cond b (key_in y ∷ filter (λ k. key_before k (key_in name)) (map key_in ys)) (filter (λ k. key_before k (key_in name)) (map key_in ys))
      by true h = ap (λ ks. key_in y ∷ ks) h
      by false h = h

  behind_it : (names : List Name) → map key_in (filter (λ y. name_before name y) names) ≡ filter (λ k. key_before (key_in name) k) (map key_in names)
  behind_it [] = refl
  behind_it (y ∷ ys) = by (name_before name y) (behind_it ys)
    where
      by : (b : Bool) → map key_in (filter (λ z. name_before name z) ys) ≡ filter (λ k. key_before (key_in name) k) (map key_in ys) →
          map key_in (cond b (y ∷ filter (λ z. name_before name z) ys) (filter (λ z. name_before name z) ys))
          ≡ cond b (key_in y ∷ filter (λ k. key_before (key_in name) k) (map key_in ys)) (filter (λ k. key_before (key_in name) k) (map key_in ys))
      by true h = ap (λ ks. key_in y ∷ ks) h
      by false h = h

  pub keys_with : (names : List Name) → map key_in (with_one name_before name names) ≡ with_one key_before (key_in name) (map key_in names)
  keys_with names =
      map-append key_in (filter (λ y. name_before y name) names) (name ∷ filter (λ y. name_before name y) names)
      ∙ ap (λ ks. ks ++ key_in name ∷ map key_in (filter (λ y. name_before name y) names)) (before_it names)
      ∙ ap (λ ks. filter (λ k. key_before k (key_in name)) (map key_in names) ++ key_in name ∷ ks) (behind_it names)

-- names that are put in order one after another are in order

ordered : (key other : Key) → same_key other key ≡ false → (key_before key other || key_before other key) ≡ true
ordered key other h = grind (arith, nat_tests, h)

apart_or_same : (key other : Key) → ((key_before key other || key_before other key) ≡ true) ⊎ (other ≡ key)
apart_or_same key other = elim (two_ways (same_key other key)) [ inl e ↦ inr (same_keys other key e) | inr e ↦ inl (ordered key other e) ]

pub names_in_order : (keys : List Key) → with_names keys [] ≡ in_order keys
names_in_order keys =
    sym (in_order_is keys (with_names keys []) (fold_ascends key_before [] keys key_order tt)
    (λ k i. elim (fold_in key_before [] keys k i) [ inl j ↦ absurd j | inr j ↦ j ])
    (λ k i. in_fold key_before [] keys k (inr i) (λ other j. apart_or_same k other)))
