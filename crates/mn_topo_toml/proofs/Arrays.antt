-- The tables of an array, one after another.
use Rattle.std.proofs.Common.{◌≡◌, ℕ, suc, ◌+◌, ◌<◌, List, [], ◌∷◌, ◌++◌, option_and_then, drop, length, get_or, Some, ap, sym, ◌∙◌, add-one}
use Rattle.std.proofs.Math.Seq.{drop-cons}
use Rattle.toml.specs.declared.value.Value.{Value}
use Rattle.toml.specs.View.{view, items_view}
use Rattle.toml.specs.Data.{Data, Items, item, Members, string, integer, float, boolean, datetime, array, table, as_str, as_table}
use Rattle.mn_base.specs.declared.numbers.Rt.{Rt}
use Rattle.mn_prefix.specs.Prefix.{AddressBlock}
use Rattle.mn_topo_toml.specs.Tables.{tables_of}
use Rattle.mn_topo_toml.specs.Vrfs.{next_target, targets_from}
use Rattle.mn_topo_toml.specs.Sites.{prefix_in, prefixes_from}

first_table : (value : Data) (items : Items) (entry : Members) → Some entry ≡ as_table value → tables_of (item value items) ≡ entry ∷ tables_of items
first_table (table ms) items entry h = let same : entry ≡ ms = cc in ap (λ t. t ∷ tables_of items) (sym same)
first_table (string s) items entry h = cc
first_table (integer z) items entry h = cc
first_table (float x) items entry h = cc
first_table (boolean b) items entry h = cc
first_table (datetime d) items entry h = cc
first_table (array es) items entry h = cc

-- the items from a value on
pub items_from : (values : List Value) (i : ℕ) (value : Value) → i < length values → value ≡ get_or values i value →
    items_view (drop i values) ≡ item (view value) (items_view (drop (i + 1) values))
items_from values i value below here =
    let seam : drop i values ≡ value ∷ drop (i + 1) values = rw (add-one, drop-cons values i value below) (ap (λ v. v ∷ drop (suc i) values) (sym here)) in
    ap items_view seam

-- the tables from a value on that is a table
pub tables_of-drop : (values : List Value) (i : ℕ) (value : Value) (entry : Members) → i < length values → value ≡ get_or values i value →
    Some entry ≡ as_table (view value)
    → tables_of (items_view (drop i values)) ≡ entry ∷ tables_of (items_view (drop (i + 1) values))
tables_of-drop values i value entry below here is_table =
    ap tables_of (items_from values i value below here) ∙ first_table (view value) (items_view (drop (i + 1) values)) entry is_table

-- a target more, or a prefix, before the rest
pub target_next : (earlier : List Rt) (value : Data) (items : Items) (text : List ℕ) (target : Rt) → as_str value ≡ Some text →
    next_target earlier text ≡ Some target → targets_from earlier (item value items) ≡ targets_from (earlier ++ target ∷ []) items
target_next earlier value items text target h k =
    ap (λ found. option_and_then (λ t. targets_from (earlier ++ t ∷ []) items) (option_and_then (next_target earlier) found)) h
    ∙ ap (option_and_then (λ t. targets_from (earlier ++ t ∷ []) items)) k

pub prefix_next : (earlier : List AddressBlock) (value : Data) (items : Items) (prefix : AddressBlock) → prefix_in value ≡ Some prefix →
    prefixes_from earlier (item value items) ≡ prefixes_from (earlier ++ prefix ∷ []) items
prefix_next earlier value items prefix h = ap (option_and_then (λ p. prefixes_from (earlier ++ p ∷ []) items)) h
