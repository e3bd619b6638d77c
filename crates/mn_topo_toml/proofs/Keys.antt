-- The keys of a table and the items of an array, as the code has them.
use Rattle.std.proofs.Common.{◌≡◌, ℕ, suc, true, length, not, ◌||◌, List, [], ◌∷◌, String, Global, string_bytes, refl, ap, Bor, ◌∙◌}
use Rattle.std.specs.List.{list_any}
use Rattle.std.specs.Str.{bytes_eq}
use Rattle.std.specs.Map.{keys_of}
use Rattle.toml.specs.declared.value.Value.{Value}
use Rattle.toml.specs.View.{members_view, items_view}
use Rattle.toml.specs.Data.{Items, no_items, item, string, integer, float, boolean, datetime, array, table}
use Rattle.mn_topo_toml.specs.Tables.{texts_now, is_among, has_unknown_key, are_tables, tables_of}

among : (known : List (Bor (List ℕ))) (key : List ℕ) → is_among (texts_now known) key ≡ list_any (λ k. bytes_eq key k.now) known
among [] key = refl
among (k ∷ ks) key = ap (λ rest. bytes_eq key k.now || rest) (among ks key)

pub unknown : (known : List (Bor (List ℕ))) (es : List (String Global × Value)) →
    has_unknown_key (texts_now known) (members_view es) ≡ list_any (λ k. not (list_any (λ y. bytes_eq (string_bytes k) y.now) known)) (keys_of es)
unknown known [] = refl
unknown known (e ∷ es) =
    rw (among known (string_bytes e.0)) (ap (λ rest. not (list_any (λ y. bytes_eq (string_bytes e.0) y.now) known) || rest) (unknown known es))

-- how many items there are
item_count : Items → ℕ
item_count no_items = 0
item_count (item value items) = suc (item_count items)

each_is_one : (items : Items) → are_tables items ≡ true → length (tables_of items) ≡ item_count items
unfolding item_count
each_is_one no_items h = refl
each_is_one (item (table ms) items) h = ap (λ n. suc n) (each_is_one items h)
each_is_one (item (string s) items) h = cc
each_is_one (item (integer z) items) h = cc
each_is_one (item (float x) items) h = cc
each_is_one (item (boolean b) items) h = cc
each_is_one (item (datetime d) items) h = cc
each_is_one (item (array es) items) h = cc

item_count-view : (vs : List Value) → item_count (items_view vs) ≡ length vs
unfolding item_count
item_count-view [] = refl
item_count-view (v ∷ vs) = ap (λ n. suc n) (item_count-view vs)

-- where each value is a table, there are as many tables as values
pub count_tables : (vs : List Value) → are_tables (items_view vs) ≡ true → length (tables_of (items_view vs)) ≡ length vs
count_tables vs h = each_is_one (items_view vs) h ∙ item_count-view vs
