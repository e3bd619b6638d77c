-- The calls of held routes, as their answers cite it.
use Rattle.std.proofs.Common.{◌≡◌, ◌<◌, Bool, true, false, cond, List, [], ◌∷◌, ◌++◌, length, filter, Option, Some, None, Result, Ok, Err, refl, arith, sym}
use Rattle.std.proofs.Common.{◌∙◌, ap, subst}
use Rattle.std.specs.Prelude.{OnOk, OnErr, ◌||◌, ◌==◌}
use Rattle.std.specs.declared.alloc.AllocError.{AllocError}
use Rattle.std.specs.Option.{is_some, unwrap_or, option_map}
use Rattle.std.specs.BTreeMap.{is_at}
use Rattle.std.specs.BTreeSet.{BTreeSet, Updates, IsOrdered}
use Rattle.std.specs.List.{list_any}
use Rattle.std.proofs.lemmas.Option.{same_Some}
use Rattle.mn_base.specs.Ordered.{Ascends, with_one, without_one}
use Rattle.mn_base.proofs.Bools.{no, other_test, none_below}
use Rattle.mn_base.proofs.Places.{ascends_with, ascends_without}
use Rattle.mn_prefix.specs.Prefix.{AddressBlock, same_prefix, by_address_then_length}
use Rattle.mn_prefix.specs.Table.{value_at, ChangesOnly}
use Rattle.mn_vrf.specs.declared.source.Source.{Source}
use Rattle.mn_vrf.specs.Routes.{source_before, route_before, sources_of, unless_empty}
use Rattle.mn_vrf.specs.Kept.{those, in_order, AreSources, IsKept}
use Rattle.mn_vrf.proofs.Orders.{source_order}
use Rattle.mn_vrf.proofs.Keeping.{alike_prefix, sorted_ascends, with_source, without_source, same_view, kept_changed, kept_same, changes_twice}
use Rattle.mn_vrf.proofs.Keeping.{changed_back, same_keys}
use Rattle.mn_vrf.proofs.Finding.{table_is, sources_are}

abbrev Table : Type 0
Table = List (AddressBlock × List Source)

-- 1. Sources
some_with : (s : Source) (ss : List Source) → 0 < length (with_one source_before s ss)
some_with s ss = longer (filter (λ r. source_before r s) ss) (filter (λ r. source_before s r) ss)
  where
    longer : (xs ys : List Source) → 0 < length (xs ++ s ∷ ys)
    longer [] ys = omega arith
    longer (x ∷ xs) ys = omega arith

pub are_with : (s : Source) (ss : List Source) → Ascends source_before ss → AreSources (with_one source_before s ss)
are_with s ss up = record { some = some_with s ss; ascend = ascends_with source_before s ss source_order up }

-- those that are left are sources
some_left : (s : Source) (was left : List Source) (b : Bool) → Ascends source_before was → left ≡ without_one source_before s was →
    b ≡ (length left == 0) → b ≡ false → AreSources left
some_left s was left b up made e h = record {
  some = more left (sym e ∙ h);
  ascend = subst (Ascends source_before) (sym made) (ascends_without source_before s was up);
}
  where
    more : (ss : List Source) → (length ss == 0) ≡ false → 0 < length ss
    more [] k = absurd (no (sym k))
    more (r ∷ rs) k = omega arith

-- 2. An ordered set's keys
any_alike : (q : AddressBlock) (ks : List AddressBlock) → list_any (is_at (by_address_then_length q)) ks ≡ list_any (same_prefix q) ks
any_alike q [] = refl
any_alike q (k ∷ ks) = ap (λ b. b || list_any (is_at (by_address_then_length q)) ks) (alike_prefix q k) ∙ ap (λ b. same_prefix q k || b) (any_alike q ks)

keys_updated : (old new : BTreeSet AddressBlock) (p : AddressBlock) (b : Bool) → Updates by_address_then_length old new p b →
    (q : AddressBlock) → list_any (same_prefix q) new.keys ≡ cond (same_prefix p q) b (list_any (same_prefix q) old.keys)
keys_updated old new p b u q =
    sym (any_alike q new.keys) ∙ u.0 q
    ∙ ap (λ c. cond c b (list_any (is_at (by_address_then_length q)) old.keys)) (alike_prefix p q)
    ∙ ap (λ c. cond (same_prefix p q) b c) (any_alike q old.keys)

-- 3. A prefix that has sources
-- a table and prefixes, as they are kept, show these routes
pub record Shows (table : Table) (keys : List AddressBlock) (routes : List (AddressBlock × Source)) : Type 0 where
  pub kept : IsKept table keys
  pub view : in_order table keys ≡ routes

-- they show the one where a source was put, and the other where there was no memory for it
pub record IsPut (table : Table) (keys : List AddressBlock) (with_it without_it : List (AddressBlock × Source)) (put : Result (Unit {0}) AllocError) : Type
    0 where
  pub kept : IsKept table keys
  pub ok : OnOk put (in_order table keys ≡ with_it)
  pub err : OnErr put (in_order table keys ≡ without_it)

module _ (t t1 t2 : Table) (ks : List AddressBlock) (view : List (AddressBlock × Source)) (p : AddressBlock) (s : Source) (was blank : List Source)
    (shows : Shows t ks view) (before : Some was ≡ value_at p t) (first : ChangesOnly t t1 p (Some blank)) where
  both : (value : Option (List Source)) → ChangesOnly t1 t2 p value → ChangesOnly t t2 p value
  both value second = changes_twice t t1 t2 p (Some blank) value first second

  others : (value : Option (List Source)) → ChangesOnly t1 t2 p value → (q : AddressBlock) → same_prefix p q ≡ false → those q t2 ≡ those q t
  others value second q apart = ap (λ o. unwrap_or o []) ((both value second).others q apart)

  were : those p t ≡ was
  were = ap (λ o. unwrap_or o []) (sym before)

  sources_were : AreSources was
  sources_were = shows.kept.each p was (sym before)

  kept_put : (left : List Source) → ChangesOnly t1 t2 p (Some left) → AreSources left → IsKept t2 ks
  kept_put left second are =
      kept_changed t t2 ks ks p (Some left) shows.kept (both (Some left) second) (same_keys t ks p shows.kept (ap is_some (sym before))) shows.kept.ascend
      (λ ss e. subst AreSources (same_Some left ss e) are)

  put_with : (left : List Source) → ChangesOnly t1 t2 p (Some left) → left ≡ with_one source_before s was → Shows t2 ks (with_one route_before (p, s) view)
  put_with left second e =
      let kept = kept_put left second (subst AreSources (sym e) (are_with s was sources_were.ascend)) in
      record {
        kept = kept;
        view = with_source t t2 ks ks shows.kept kept p s (others (Some left) second)
            (ap (λ o. unwrap_or o []) second.changed ∙ e ∙ ap (with_one source_before s) (sym were))
            ∙ ap (with_one route_before (p, s)) shows.view;
      }

  put_back : (left : List Source) → ChangesOnly t1 t2 p (Some left) → left ≡ was → Shows t2 ks view
  put_back left second e = record {
    kept = kept_put left second (subst AreSources (sym e) sources_were);
    view = same_view t t2 ks (changed_back t t2 p (subst (ChangesOnly t t2 p) (ap (λ ss. Some ss) e ∙ before) (both (Some left) second))) ∙ shows.view;
  }

  pub put_either : (left : List Source) → ChangesOnly t1 t2 p (Some left) → (put : Result (Unit {0}) AllocError) →
      OnOk put (left ≡ with_one source_before s was) → OnErr put (left ≡ was) → IsPut t2 ks (with_one route_before (p, s) view) view put
  put_either left second (Ok x) ok err = let shown = put_with left second ok in record { kept = shown.kept; ok = shown.view; err = err }
  put_either left second (Err x) ok err = let shown = put_back left second err in record { kept = shown.kept; ok = ok; err = shown.view }

  pub put_without : (left : List Source) → ChangesOnly t1 t2 p (Some left) → left ≡ without_one source_before s was → (empty : Bool) →
      empty ≡ (length left == 0) → empty ≡ false → Shows t2 ks (without_one route_before (p, s) view)
  put_without left second e empty is not_empty =
      let kept = kept_put left second (some_left s was left empty sources_were.ascend e is not_empty) in
      record {
        kept = kept;
        view = without_source t t2 ks ks shows.kept kept p s (others (Some left) second)
            (ap (λ o. unwrap_or o []) second.changed ∙ e ∙ ap (without_one source_before s) (sym were))
            ∙ ap (without_one route_before (p, s)) shows.view;
      }

  -- its last source goes, and the prefix with it
  module _ (old new : BTreeSet AddressBlock) (had : old.keys ≡ ks) (second : ChangesOnly t1 t2 p None) (sorted : IsOrdered by_address_then_length new)
      (keys : Updates by_address_then_length old new p false) where
    kept_gone : IsKept t2 new.keys
    kept_gone =
        kept_changed t t2 ks new.keys p None shows.kept (both None second)
        (λ q. keys_updated old new p false keys q ∙ ap (λ js. cond (same_prefix p q) false (list_any (same_prefix q) js)) had)
        (sorted_ascends new.keys sorted) (λ ss e. absurd (never ss e))
      where
        never : (ss : List Source) → ◌≡◌ {A = Option (List Source)} None (Some ss) → ⊥
        never ss e = cc

    pub gone_without : [] ≡ without_one source_before s was → Shows t2 new.keys (without_one route_before (p, s) view)
    gone_without e = record {
      kept = kept_gone;
      view = without_source t t2 ks new.keys shows.kept kept_gone p s (others None second)
          (ap (λ o. unwrap_or o []) second.changed ∙ e ∙ ap (without_one source_before s) (sym were))
          ∙ ap (without_one route_before (p, s)) shows.view;
    }

-- 4. A prefix that has none
pub none_was : (t : Table) (ks : List AddressBlock) (view : List (AddressBlock × Source)) (p : AddressBlock) → IsKept t ks → in_order t ks ≡ view →
    sources_of p view ≡ [] → value_at p t ≡ None
none_was t ks view p kept is none = table_is t ks p kept ∙ ap unless_empty (ap (sources_of p) is ∙ none)

pub none_of_it : (t : Table) (ks : List AddressBlock) (view : List (AddressBlock × Source)) (p : AddressBlock) → IsKept t ks → in_order t ks ≡ view →
    value_at p t ≡ None → sources_of p view ≡ []
none_of_it t ks view p kept is none = ap (sources_of p) (sym is) ∙ sources_are t ks p kept ∙ ap (λ o. unwrap_or o []) none

pub nothing_without : (t : Table) (ks : List AddressBlock) (view : List (AddressBlock × Source)) (p : AddressBlock) (s : Source) → IsKept t ks →
    in_order t ks ≡ view → value_at p t ≡ None → view ≡ without_one route_before (p, s) view
nothing_without t ks view p s kept is none =
    subst (λ v. v ≡ without_one route_before (p, s) v) is
    (without_source t t ks ks kept kept p s (λ q apart. refl) (subst (λ ss. ss ≡ without_one source_before s ss) (sym (ap (λ o. unwrap_or o []) none)) refl))

module _ (t t1 : Table) (ks : List AddressBlock) (view : List (AddressBlock × Source)) (p : AddressBlock) (s : Source) (blank sources : List Source)
    (shows : Shows t ks view) (none : sources_of p view ≡ []) (empty : blank ≡ []) (put : sources ≡ with_one source_before s blank)
    (first : ChangesOnly t t1 p (Some sources)) where
  made : sources ≡ s ∷ []
  made = put ∙ ap (with_one source_before s) empty

  was_none : value_at p t ≡ None
  was_none = none_was t ks view p shows.kept shows.view none

  module _ (old new : BTreeSet AddressBlock) (had : old.keys ≡ ks) (sorted : IsOrdered by_address_then_length new)
      (keys : Updates by_address_then_length old new p true) where
    kept_begun : IsKept t1 new.keys
    kept_begun =
        kept_changed t t1 ks new.keys p (Some sources) shows.kept first
        (λ q. keys_updated old new p true keys q ∙ ap (λ js. cond (same_prefix p q) true (list_any (same_prefix q) js)) had)
        (sorted_ascends new.keys sorted) (λ ss e. subst AreSources (sym made ∙ same_Some sources ss e) (are_with s [] tt))

    pub begun_with : Shows t1 new.keys (with_one route_before (p, s) view)
    begun_with = record {
      kept = kept_begun;
      view = with_source t t1 ks new.keys shows.kept kept_begun p s (λ q apart. ap (λ o. unwrap_or o []) (first.others q apart))
          (ap (λ o. unwrap_or o []) first.changed ∙ made ∙ ap (λ o. with_one source_before s (unwrap_or o [])) (sym was_none))
          ∙ ap (with_one route_before (p, s)) shows.view;
    }

  module _ (t2 : Table) (js : List AddressBlock) (had : js ≡ ks) (second : ChangesOnly t1 t2 p None) where
    same : (q : AddressBlock) → value_at q t2 ≡ value_at q t
    same = changed_back t t2 p (subst (ChangesOnly t t2 p) (sym was_none) (changes_twice t t1 t2 p (Some sources) None first second))

    pub undone : Shows t2 js view
    undone = record {
      kept = subst (IsKept t2) (sym had) (kept_same t t2 ks shows.kept same);
      view = ap (in_order t2) had ∙ same_view t t2 ks same ∙ shows.view;
    }

-- 5. What the table answers
pub copied_none : {B : Type 0} (f : B → List Source) (o : Option B) (v : Option (List Source)) → option_map f o ≡ v → is_some o ≡ false → v ≡ None
copied_none f None v e h = sym e
copied_none f (Some x) v e h = absurd (no (sym h))

pub nothing_left : (ss : List Source) (b : Bool) → b ≡ (length ss == 0) → b ≡ true → [] ≡ ss
nothing_left [] b e h = refl
nothing_left (s ∷ ss) b e h = absurd (no (sym (other_test (length (s ∷ ss)) 0 (λ z. none_below (length ss) (omega (arith, z)))) ∙ sym e ∙ h))
