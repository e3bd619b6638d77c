-- The rules of an entry that is a VRF.
use Rattle.std.specs.Prelude.{◌≡◌, ℕ, Bool, true, false, not, ◌&&◌, ◌||◌, ◌==◌, nat_le, if◌then◌else◌, List, [], ◌∷◌, ◌++◌, length, Option, Some, None, is_none}
use Rattle.std.specs.Prelude.{option_and_then, unwrap_or, codes, Result, Ok, Err}
use Rattle.std.specs.List.{list_any}
use Rattle.std.specs.Option.{option_map_or}
use Rattle.std.specs.Borrow.{Bor}
use Rattle.mn_base.specs.Limits.{most_targets}
use Rattle.toml.specs.Data.{Items, no_items, item, Members, as_str}
use Rattle.toml.specs.View.{items_view}
use Rattle.toml.specs.declared.value.Value.{Value}
use Rattle.mn_base.specs.declared.numbers.Rd.{Rd}
use Rattle.mn_base.specs.declared.numbers.Rt.{Rt}
use Rattle.mn_text.specs.Pairs.{rd_of, rt_of}
use Rattle.mn_topo.specs.declared.vrfs.VrfDef.{VrfDef}
use Rattle.mn_topo_toml.specs.declared.vrfs.VrfHead.{VrfHead}
use Rattle.mn_topo_toml.specs.declared.refusal.TopoRule.{TopoRule}
use Rattle.mn_topo_toml.specs.declared.refusal.TopoRule.TheVariants.{UnknownKey, MissingKey, WrongKind, BadName, TwiceNamed, NoSuchName, TwiceRd, BadTarget}
use Rattle.mn_topo_toml.specs.declared.refusal.TopoRule.TheVariants.{TooMany}
use Rattle.mn_topo_toml.specs.declared.refusal.Place.{Place}
use Rattle.mn_topo_toml.specs.declared.refusal.Place.TheVariants.{Vrf}
use Rattle.mn_topo.specs.Tables.{is_name}
use Rattle.mn_topo_toml.specs.Tables.{has_unknown_key, lacks, text_at, is_texts_at, items_at}
use Rattle.mn_topo.specs.Names.{has_name}
use Rattle.mn_topo_toml.specs.Names.{named_at, number_named}
use Rattle.mn_topo_toml.specs.Nodes.{name_of}
use Rattle.mn_topo.specs.VrfTable.{VrfTable, has_rd, is_edge, edges_of}
use Rattle.mn_topo_toml.specs.Rules.{broken, first_broken, unless_broken}
use Rattle.mn_base.specs.Found.{◌>>=◌}

abbrev pub vrf_keys : List (List ℕ)
vrf_keys = codes "name" ∷ codes "node" ∷ codes "rd" ∷ codes "import" ∷ codes "export" ∷ []

-- the distinguisher, where it is of its form
abbrev pub rd_at : Members → Option Rd
rd_at entry = option_and_then rd_of (text_at (codes "rd") entry)

-- an earlier VRF has the distinguisher
abbrev pub is_rd_taken : VrfTable → Option Rd → Bool
is_rd_taken earlier rd = option_map_or (λ found. has_rd earlier.vrfs found) rd false

-- the target is one of these
abbrev pub has_target : List Rt → Rt → Bool
has_target targets target = list_any (λ other. target.0 == other.0) targets

-- the target that a text is, which isn't among the earlier ones of the set and isn't its 17th
abbrev pub next_target : List Rt → List ℕ → Option Rt
next_target earlier word = rt_of word >>= (λ target. if has_target earlier target || nat_le most_targets (length earlier) then None else Some target)

-- the targets that the items are after the earlier ones of the set
abbrev pub targets_from : List Rt → Items → Option (List Rt)
targets_from earlier no_items = Some earlier
targets_from earlier (item value items) = (as_str value >>= next_target earlier) >>= (λ target. targets_from (earlier ++ target ∷ []) items)

-- the set of targets at a key
abbrev pub targets_at : List ℕ → Members → Option (List Rt)
targets_at key entry = targets_from [] (items_at key entry)

-- a text isn't one, or a set of targets is no array of texts
abbrev pub has_wrong_kind : Members → Bool
has_wrong_kind entry =
    ((is_none (text_at (codes "name") entry) || is_none (text_at (codes "node") entry)) || is_none (text_at (codes "rd") entry)) ||
    (not (is_texts_at (codes "import") entry) || not (is_texts_at (codes "export") entry))

-- the rules of an entry's keys
abbrev pub key_rules : Members → List (Option TopoRule)
key_rules entry =
    broken (has_unknown_key vrf_keys entry) UnknownKey
    ∷ broken ((lacks (codes "name") entry || lacks (codes "node") entry) || lacks (codes "rd") entry) MissingKey
    ∷ broken (has_wrong_kind entry) WrongKind
    ∷ []

-- the rules of an entry after the earlier ones, over the names of the nodes: first those of its keys, its name, its node and a distinguisher that is taken
abbrev pub vrf_head_rules : List (List ℕ) → VrfTable → Members → List (Option TopoRule)
vrf_head_rules nodes earlier entry =
    key_rules entry
    ++ broken (not (is_name (name_of entry))) BadName
    ∷ broken (has_name earlier.names (name_of entry)) TwiceNamed
    ∷ broken (is_none (named_at nodes (codes "node") entry)) NoSuchName
    ∷ broken (is_rd_taken earlier (rd_at entry)) TwiceRd
    ∷ []

unfoldable pub vrf_head_rule : List (List ℕ) → VrfTable → Members → Option TopoRule
vrf_head_rule nodes earlier entry = first_broken (vrf_head_rules nodes earlier entry)

-- the VRF's node would be a 65th edge
abbrev pub is_65th_edge : VrfTable → ℕ → Bool
is_65th_edge earlier node = not (is_edge earlier.vrfs node) && nat_le 64 (length (edges_of earlier.vrfs))

-- then those of its distinguisher's form, its targets and the edges
unfoldable pub vrf_rule : List (List ℕ) → VrfTable → Members → Option TopoRule
vrf_rule nodes earlier entry = first_broken (
    vrf_head_rule nodes earlier entry
    ∷ broken ((is_none (rd_at entry) || is_none (targets_at (codes "import") entry)) || is_none (targets_at (codes "export") entry)) BadTarget
    ∷ broken (is_65th_edge earlier (number_named nodes (codes "node") entry)) TooMany
    ∷ [])

-- the VRF that an entry is
abbrev pub vrf_in : List (List ℕ) → Members → VrfDef
vrf_in nodes entry = record {
  node = record { 0 = number_named nodes (codes "node") entry };
  rd = unwrap_or (rd_at entry) (record { 0 = 0 });
  import = unwrap_or (targets_at (codes "import") entry) [];
  export = unwrap_or (targets_at (codes "export") entry) [];
}

abbrev pub with_vrf : List (List ℕ) → VrfTable → Members → VrfTable
with_vrf nodes earlier entry = record { names = earlier.names ++ name_of entry ∷ []; vrfs = earlier.vrfs ++ vrf_in nodes entry ∷ [] }

-- the VRFs of the entries after the earlier ones, or the first rule that is broken and its place
abbrev pub vrfs_from : List (List ℕ) → List Members → VrfTable → Result VrfTable (TopoRule × Place)
vrfs_from nodes [] earlier = Ok earlier
vrfs_from nodes (entry ∷ entries) earlier =
    unless_broken (vrf_rule nodes earlier entry) (Vrf (length earlier.names)) (vrfs_from nodes entries (with_vrf nodes earlier entry))

-- the name and the sets of targets of an entry in which each value is of its kind
pub record AreValues (entry : Members) (name : List ℕ) (import export : List Value) : Type 0 where
  pub right : has_wrong_kind entry ≡ false
  pub name_is : name ≡ name_of entry
  pub import_is : items_view import ≡ items_at (codes "import") entry
  pub export_is : items_view export ≡ items_at (codes "export") entry

abbrev pub ReadsValues : Members → Option (Bor (List ℕ) × Bor (List Value) × Bor (List Value)) → Type 0
ReadsValues entry (Some found) = AreValues entry found.0.now found.1.now found.2.now
ReadsValues entry None = has_wrong_kind entry ≡ true

-- the same of an entry that breaks no rule of its keys
pub record AreKeyed (entry : Members) (name : List ℕ) (import export : List Value) : Type 0 where
  pub lawful : first_broken (key_rules entry) ≡ None
  pub values : AreValues entry name import export

abbrev pub ReadsKeys : Members → Result (Bor (List ℕ) × Bor (List Value) × Bor (List Value)) TopoRule → Type 0
ReadsKeys entry (Ok found) = AreKeyed entry found.0.now found.1.now found.2.now
ReadsKeys entry (Err rule) = first_broken (key_rules entry) ≡ Some rule

-- what the first rules take from an entry that breaks none of them
pub record IsVrfHead (nodes : List (List ℕ)) (earlier : VrfTable) (entry : Members) (head : VrfHead) : Type 0 where
  pub lawful : vrf_head_rule nodes earlier entry ≡ None
  pub name_is : head.name.now ≡ name_of entry
  pub fresh : has_name earlier.names head.name.now ≡ false
  pub node_is : head.node ≡ number_named nodes (codes "node") entry
  pub rd_is : head.rd ≡ rd_at entry
  pub free : is_rd_taken earlier head.rd ≡ false
  pub import_is : items_view head.import.now ≡ items_at (codes "import") entry
  pub export_is : items_view head.export.now ≡ items_at (codes "export") entry

abbrev pub ReadsVrfHead : List (List ℕ) → VrfTable → Members → Result VrfHead TopoRule → Type 0
ReadsVrfHead nodes earlier entry (Ok head) = IsVrfHead nodes earlier entry head
ReadsVrfHead nodes earlier entry (Err rule) = vrf_head_rule nodes earlier entry ≡ Some rule

-- the name and the VRF of an entry that breaks no rule, and no earlier VRF has its name or its distinguisher
pub record IsVrf (nodes : List (List ℕ)) (earlier : VrfTable) (entry : Members) (name : List ℕ) (vrf : VrfDef) : Type 0 where
  pub lawful : vrf_rule nodes earlier entry ≡ None
  pub name_is : name ≡ name_of entry
  pub vrf_is : vrf ≡ vrf_in nodes entry
  pub fresh : has_name earlier.names name ≡ false
  pub free : has_rd earlier.vrfs vrf.rd ≡ false

abbrev pub ReadsVrf : List (List ℕ) → VrfTable → Members → Result (Bor (List ℕ) × VrfDef) TopoRule → Type 0
ReadsVrf nodes earlier entry (Ok vrf) = IsVrf nodes earlier entry vrf.0.now vrf.1
ReadsVrf nodes earlier entry (Err rule) = vrf_rule nodes earlier entry ≡ Some rule
