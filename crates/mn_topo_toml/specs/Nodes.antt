-- The rules of an entry that is a node.
use Rattle.std.specs.Prelude.{◌≡◌, ℕ, false, not, ◌||◌, if◌then◌else◌, List, [], ◌∷◌, ◌++◌, length, Option, Some}
use Rattle.std.specs.Prelude.{None, is_none, option_and_then, unwrap_or, codes, Result, Ok, Err}
use Rattle.std.specs.Borrow.{Bor}
use Rattle.toml.specs.Data.{Members}
use Rattle.mn_text.specs.Addresses.{address_of}
use Rattle.mn_topo_toml.specs.declared.refusal.TopoRule.{TopoRule}
use Rattle.mn_topo_toml.specs.declared.refusal.TopoRule.TheVariants.{UnknownKey, MissingKey, WrongKind, BadName, TwiceNamed, TwiceLoopback}
use Rattle.mn_topo_toml.specs.declared.refusal.Place.{Place}
use Rattle.mn_topo_toml.specs.declared.refusal.Place.TheVariants.{Node}
use Rattle.mn_topo.specs.Tables.{is_name}
use Rattle.mn_topo_toml.specs.Tables.{has_unknown_key, lacks, text_at}
use Rattle.mn_topo.specs.Names.{has_name}
use Rattle.mn_topo.specs.Nodes.{NodeTable, is_loopback, has_loopback}
use Rattle.mn_topo_toml.specs.Rules.{broken, first_broken, unless_broken}

abbrev pub node_keys : List (List ℕ)
node_keys = codes "name" ∷ codes "loopback" ∷ []

-- the name of an entry
abbrev pub name_of : Members → List ℕ
name_of entry = unwrap_or (text_at (codes "name") entry) []

abbrev pub loopback_in : List ℕ → Option ℕ
loopback_in word = option_and_then (λ address. if is_loopback address then Some address else None) (address_of word)

abbrev pub loopback_at : Members → Option ℕ
loopback_at entry = option_and_then loopback_in (text_at (codes "loopback") entry)

abbrev pub loopback_of : Members → ℕ
loopback_of entry = unwrap_or (loopback_at entry) 0

-- the rules of an entry after the earlier ones
abbrev pub node_rules : NodeTable → Members → List (Option TopoRule)
node_rules earlier entry =
    broken (has_unknown_key node_keys entry) UnknownKey
    ∷ broken (lacks (codes "name") entry || lacks (codes "loopback") entry) MissingKey
    ∷ broken (is_none (text_at (codes "name") entry) || is_none (loopback_at entry)) WrongKind
    ∷ broken (not (is_name (name_of entry))) BadName
    ∷ broken (has_name earlier.names (name_of entry)) TwiceNamed
    ∷ broken (has_loopback earlier (loopback_of entry)) TwiceLoopback
    ∷ []

unfoldable pub node_rule : NodeTable → Members → Option TopoRule
node_rule earlier entry = first_broken (node_rules earlier entry)

abbrev pub with_node : NodeTable → Members → NodeTable
with_node earlier entry = record { names = earlier.names ++ name_of entry ∷ []; loopbacks = earlier.loopbacks ++ loopback_of entry ∷ [] }

-- the nodes of the entries after the earlier ones, or the first rule that is broken and its place
abbrev pub nodes_from : List Members → NodeTable → Result NodeTable (TopoRule × Place)
nodes_from [] earlier = Ok earlier
nodes_from (entry ∷ entries) earlier = unless_broken (node_rule earlier entry) (Node (length earlier.names)) (nodes_from entries (with_node earlier entry))

-- the name and the loopback of an entry that breaks no rule, and they are no earlier node's
pub record IsNode (earlier : NodeTable) (entry : Members) (name : List ℕ) (loopback : ℕ) : Type 0 where
  pub lawful : node_rule earlier entry ≡ None
  pub name_is : name ≡ name_of entry
  pub loopback_is : loopback ≡ loopback_of entry
  pub fresh : has_name earlier.names name ≡ false
  pub free : has_loopback earlier loopback ≡ false

abbrev pub ReadsNode : NodeTable → Members → Result (Bor (List ℕ) × ℕ) TopoRule → Type 0
ReadsNode earlier entry (Ok node) = IsNode earlier entry node.0.now node.1
ReadsNode earlier entry (Err rule) = node_rule earlier entry ≡ Some rule
