-- What is read from a table of a TOML document.
use Rattle.std.specs.Prelude.{ℕ, ℤ, pos, negsuc, Bool, true, false, not, ◌&&◌, nat_le, if◌then◌else◌, List, [], ◌∷◌, map, Option, Some}
use Rattle.std.specs.Prelude.{None, is_some, is_none, option_and_then}
use Rattle.std.specs.List.{list_any}
use Rattle.std.specs.Borrow.{Bor}
use Rattle.std.specs.Option.{option_map_or}
use Rattle.std.specs.Str.{bytes_eq}
use Rattle.toml.specs.Data.{Data, string, array, table, Items, no_items, item, Members, no_members, member, get_member, as_str, as_integer, as_bool}

-- the bytes of some texts
abbrev pub texts_now : List (Bor (List ℕ)) → List (List ℕ)
texts_now keys = map (λ key. key.now) keys

-- the keys of a table
abbrev pub keys_of : Members → List (List ℕ)
keys_of no_members = []
keys_of (member key value members) = key ∷ keys_of members

-- the key is one of these
abbrev pub is_among : List (List ℕ) → List ℕ → Bool
is_among known key = list_any (bytes_eq key) known

-- the table has a key that isn't one of these
abbrev pub has_unknown_key : List (List ℕ) → Members → Bool
has_unknown_key known entry = list_any (λ key. not (is_among known key)) (keys_of entry)

-- nothing is at the key
abbrev pub lacks : List ℕ → Members → Bool
lacks key entry = is_none (get_member key entry)

-- the text at the key
abbrev pub text_at : List ℕ → Members → Option (List ℕ)
text_at key entry = option_and_then as_str (get_member key entry)

-- the integer, where it is from `low` to `high`
abbrev pub number_in : ℕ → ℕ → Option ℤ → Option ℕ
number_in low high (Some (pos n)) = if nat_le low n && nat_le n high then Some n else None
number_in low high (Some (negsuc n)) = None
number_in low high None = None

-- the number at the key, `default` where nothing is there, and none where it isn't an integer from `low` to `high`
abbrev pub number_at : List ℕ → ℕ → ℕ → ℕ → Members → Option ℕ
number_at key low high default entry = option_map_or (λ value. number_in low high (as_integer value)) (get_member key entry) (Some default)

-- nothing is at the key, or an integer
abbrev pub is_integer_at : List ℕ → Members → Bool
is_integer_at key entry = option_map_or (λ value. is_some (as_integer value)) (get_member key entry) true

-- the boolean at the key, false where nothing is there, and none where it isn't a boolean
abbrev pub boolean_at : List ℕ → Members → Option Bool
boolean_at key entry = option_map_or as_bool (get_member key entry) (Some false)

abbrev pub items_in : Data → Option Items
items_in (array items) = Some items
items_in value = None

-- the array at the key, empty where nothing is there
abbrev pub array_at : List ℕ → Members → Option Items
array_at key entry = option_map_or items_in (get_member key entry) (Some no_items)

-- each item is a table
abbrev pub are_tables : Items → Bool
are_tables no_items = true
are_tables (item (table entry) items) = are_tables items
are_tables (item value items) = false

-- the tables among the items
abbrev pub tables_of : Items → List Members
tables_of no_items = []
tables_of (item (table entry) items) = entry ∷ tables_of items
tables_of (item value items) = tables_of items

-- nothing is at the key, or an array of tables
abbrev pub is_tables_at : List ℕ → Members → Bool
is_tables_at key entry = option_map_or are_tables (array_at key entry) false

-- the tables at the key
abbrev pub tables_at : List ℕ → Members → List Members
tables_at key entry = option_map_or tables_of (array_at key entry) []

-- each item is a text
abbrev pub are_texts : Items → Bool
are_texts no_items = true
are_texts (item (string text) items) = are_texts items
are_texts (item value items) = false

-- nothing is at the key, or an array of texts
abbrev pub is_texts_at : List ℕ → Members → Bool
is_texts_at key entry = option_map_or are_texts (array_at key entry) false

-- the items at the key
abbrev pub items_at : List ℕ → Members → Items
items_at key entry = option_map_or (λ items. items) (array_at key entry) no_items
