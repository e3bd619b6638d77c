-- Routes by name.
use Rattle.std.specs.Prelude.{ℕ, Bool, List, fold}
use Rattle.mn_base.specs.declared.numbers.VrfNo.{VrfNo}
use Rattle.mn_base.specs.Ordered.{with_one}
use Rattle.mn_by_key_laws.specs.ByKey.{AreByKey}
use Rattle.mn_prefix.specs.Prefix.{AddressBlock}
use Rattle.mn_reflect_ledger_laws.specs.Words.{Key, key_before}
use Rattle.mn_reflect_telling.specs.declared.name.Name.{Name}

abbrev pub named : VrfNo → AddressBlock → Key
named vrf prefix = record { vrf = vrf.0; prefix = prefix }

abbrev pub key_in : Name → Key
key_in name = named name.vrf name.prefix

-- with these, each once, in their order
abbrev pub with_names : List Key → List Key → List Key
with_names keys names = fold (λ names key. with_one key_before key names) names keys

-- names in an ordered map, each at itself
abbrev pub name_before : Name → Name → Bool
name_before name other = key_before (key_in name) (key_in other)

abbrev pub place_in : Name → ℕ × AddressBlock
place_in name = (name.vrf.0, name.prefix)

abbrev pub AreByName : List ((ℕ × AddressBlock) × Name) → Type 0
AreByName entries = AreByKey name_before place_in entries
