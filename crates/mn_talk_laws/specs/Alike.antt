-- What an edge advertises of a change of its exports: export by export, as in a full mesh, and route by route, as with reflectors.
use Rattle.std.specs.Prelude.{◌≡◌, ℕ, true, List, ◌++◌, map}
use Rattle.std.specs.List.{flat_map}
use Rattle.mn_topo.specs.Network.{Network}
use Rattle.mn_base.specs.Ordered.{Ascends}
use Rattle.std.specs.List.{Contains}
use Rattle.mn_ledger.specs.World.{Config, Export}
use Rattle.mn_ledger.specs.Exports.{exports_of}
use Rattle.mn_ledger.specs.Bgp.{changed, same_export}
use Rattle.mn_reflect_ledger_laws.specs.Words.{Key, Word, key_of, key_before, in_order, change}
use Rattle.mn_reflect_ledger_laws.specs.Picks.{plain, own_offer}
use Rattle.mn_talk_laws.specs.Talk.{word_of}

abbrev pub name_of : Export → Key
name_of export = key_of (plain export)

-- exports before and after stand in the order of names, each name once, and one with the attachment and targets of before is the one of before
pub record AreTidy (before later : List Export) : Type 0 where
  pub old_up : Ascends key_before (map name_of before)
  pub new_up : Ascends key_before (map name_of later)
  pub old_one : (one other : Export) → Contains before one → Contains before other → name_of one ≡ name_of other → one ≡ other
  pub new_one : (one other : Export) → Contains later one → Contains later other → name_of one ≡ name_of other → one ≡ other
  pub kept : (new old : Export) → Contains later new → Contains before old → same_export new old ≡ true → new ≡ old

abbrev pub by_exports : Network → Config → Config → ℕ → List Word
by_exports topology config new edge = map word_of (changed (exports_of topology config edge) (exports_of topology new edge))

abbrev pub exported_keys : Network → Config → ℕ → List Key
exported_keys topology config edge = map key_of (map plain (exports_of topology config edge))

abbrev pub by_routes : Network → Config → Config → ℕ → List Word
by_routes topology config new edge =
    flat_map (λ key. change key (own_offer topology config edge key) (own_offer topology new edge key))
    (in_order (exported_keys topology config edge ++ exported_keys topology new edge))
