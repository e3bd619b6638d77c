-- The rules of an entry that is a site.
use Rattle.std.specs.Prelude.{◌≡◌, ℕ, ◌+◌, Bool, false, not, ◌||◌, nat_lt, List, [], ◌∷◌, ◌++◌, length, Option, Some, None, is_none}
use Rattle.std.specs.Prelude.{unwrap_or, codes, Result, Ok, Err}
use Rattle.std.specs.Result.{result_ok}
use Rattle.std.specs.Borrow.{Bor}
use Rattle.mn_base.specs.Limits.{most_static_routes}
use Rattle.toml.specs.Data.{Data, Items, no_items, item, Members, as_str}
use Rattle.mn_prefix.specs.Prefix.{AddressBlock}
use Rattle.mn_text.specs.Addresses.{prefix_of}
use Rattle.mn_topo.specs.declared.sites.SiteDef.{SiteDef}
use Rattle.mn_topo_toml.specs.declared.sites.SiteHead.{SiteHead}
use Rattle.mn_topo_toml.specs.declared.refusal.TopoRule.{TopoRule}
use Rattle.mn_topo_toml.specs.declared.refusal.TopoRule.TheVariants.{UnknownKey, MissingKey, WrongKind, BadName, TwiceNamed, NoSuchName, PrefixTaken, TooMany}
use Rattle.mn_topo_toml.specs.declared.refusal.Place.{Place}
use Rattle.mn_topo_toml.specs.declared.refusal.Place.TheVariants.{Site}
use Rattle.mn_topo.specs.Tables.{is_name}
use Rattle.mn_topo_toml.specs.Tables.{has_unknown_key, lacks, text_at, array_at}
use Rattle.mn_topo.specs.Names.{has_name}
use Rattle.mn_topo_toml.specs.Names.{named_at, number_named}
use Rattle.mn_topo_toml.specs.Nodes.{name_of}
use Rattle.mn_topo.specs.SiteTable.{SiteTable, Static, statics_of, in_vrf, is_one_taken}
use Rattle.mn_topo_toml.specs.Rules.{broken, first_broken, unless_broken}
use Rattle.mn_base.specs.Found.{◌>>=◌}

abbrev pub site_keys : List (List ℕ)
site_keys = codes "name" ∷ codes "vrf" ∷ codes "prefixes" ∷ []

-- the prefix that an item is
abbrev pub prefix_in : Data → Option AddressBlock
prefix_in value = as_str value >>= (λ word. result_ok (prefix_of word))

-- the prefixes that the items are, after the earlier ones
abbrev pub prefixes_from : List AddressBlock → Items → Option (List AddressBlock)
prefixes_from earlier no_items = Some earlier
prefixes_from earlier (item value items) = prefix_in value >>= (λ prefix. prefixes_from (earlier ++ prefix ∷ []) items)

-- the array of prefixes of an entry, empty where it has none
abbrev pub prefixes_at : Members → Option (List AddressBlock)
prefixes_at entry = array_at (codes "prefixes") entry >>= prefixes_from []

abbrev pub prefixes_of : Members → List AddressBlock
prefixes_of entry = unwrap_or (prefixes_at entry) []

-- the rules of an entry after the earlier ones, over the names of the VRFs: first those of its keys, its name and its VRF
abbrev pub site_head_rules : List (List ℕ) → SiteTable → Members → List (Option TopoRule)
site_head_rules vrfs earlier entry =
    broken (has_unknown_key site_keys entry) UnknownKey
    ∷ broken (lacks (codes "name") entry || lacks (codes "vrf") entry) MissingKey
    ∷ broken ((is_none (text_at (codes "name") entry) || is_none (text_at (codes "vrf") entry)) || is_none (prefixes_at entry)) WrongKind
    ∷ broken (not (is_name (name_of entry))) BadName
    ∷ broken (has_name earlier.names (name_of entry)) TwiceNamed
    ∷ broken (is_none (named_at vrfs (codes "vrf") entry)) NoSuchName
    ∷ []

unfoldable pub site_head_rule : List (List ℕ) → SiteTable → Members → Option TopoRule
site_head_rule vrfs earlier entry = first_broken (site_head_rules vrfs earlier entry)

-- one of the prefixes stands in the VRF already, in an earlier site or in this one
abbrev pub is_prefix_taken : SiteTable → ℕ → List AddressBlock → Bool
is_prefix_taken earlier vrf prefixes = is_one_taken prefixes (statics_of earlier.sites) vrf

-- with the site there are more than 65,536 prefixes in all
abbrev pub are_too_many : SiteTable → List AddressBlock → Bool
are_too_many earlier prefixes = nat_lt most_static_routes (length (statics_of earlier.sites) + length prefixes)

-- then those of its prefixes
unfoldable pub site_rule : List (List ℕ) → SiteTable → Members → Option TopoRule
site_rule vrfs earlier entry = first_broken (
    site_head_rule vrfs earlier entry
    ∷ broken (is_prefix_taken earlier (number_named vrfs (codes "vrf") entry) (prefixes_of entry)) PrefixTaken
    ∷ broken (are_too_many earlier (prefixes_of entry)) TooMany
    ∷ [])

-- the site that an entry is
abbrev pub site_in : List (List ℕ) → Members → SiteDef
site_in vrfs entry = record {
  vrf = record { 0 = number_named vrfs (codes "vrf") entry };
  prefixes = prefixes_of entry;
}

abbrev pub with_site : List (List ℕ) → SiteTable → Members → SiteTable
with_site vrfs earlier entry = record { names = earlier.names ++ name_of entry ∷ []; sites = earlier.sites ++ site_in vrfs entry ∷ [] }

-- the sites of the entries after the earlier ones, or the first rule that is broken and its place
abbrev pub sites_from : List (List ℕ) → List Members → SiteTable → Result SiteTable (TopoRule × Place)
sites_from vrfs [] earlier = Ok earlier
sites_from vrfs (entry ∷ entries) earlier =
    unless_broken (site_rule vrfs earlier entry) (Site (length earlier.names)) (sites_from vrfs entries (with_site vrfs earlier entry))

-- what the first rules take from an entry that breaks none of them
pub record IsSiteHead (vrfs : List (List ℕ)) (earlier : SiteTable) (entry : Members) (head : SiteHead) : Type 0 where
  pub lawful : site_head_rule vrfs earlier entry ≡ None
  pub name_is : head.name.now ≡ name_of entry
  pub fresh : has_name earlier.names head.name.now ≡ false
  pub vrf_is : head.vrf ≡ number_named vrfs (codes "vrf") entry
  pub prefixes_are : head.prefixes.items ≡ prefixes_of entry

abbrev pub ReadsSiteHead : List (List ℕ) → SiteTable → Members → Result SiteHead TopoRule → Type 0
ReadsSiteHead vrfs earlier entry (Ok head) = IsSiteHead vrfs earlier entry head
ReadsSiteHead vrfs earlier entry (Err rule) = site_head_rule vrfs earlier entry ≡ Some rule

-- the name and the site of an entry that breaks no rule: no earlier site has its name, and afterwards its prefixes stand too
pub record IsSite (vrfs : List (List ℕ)) (earlier : SiteTable) (statics : List Static) (entry : Members) (name : List ℕ) (site : SiteDef) : Type 0 where
  pub lawful : site_rule vrfs earlier entry ≡ None
  pub name_is : name ≡ name_of entry
  pub site_is : site ≡ site_in vrfs entry
  pub fresh : has_name earlier.names name ≡ false
  pub statics_are : statics ≡ statics_of earlier.sites ++ in_vrf site.vrf.0 site.prefixes

abbrev pub ReadsSite : List (List ℕ) → SiteTable → List Static → Members → Result (Bor (List ℕ) × SiteDef) TopoRule → Type 0
ReadsSite vrfs earlier statics entry (Ok site) = IsSite vrfs earlier statics entry site.0.now site.1
ReadsSite vrfs earlier statics entry (Err rule) = site_rule vrfs earlier entry ≡ Some rule

-- the sites with that of an entry that breaks no rule, and afterwards its prefixes stand too
pub record IsOneMore (vrfs : List (List ℕ)) (earlier : SiteTable) (statics : List Static) (entry : Members) (later : SiteTable) : Type 0 where
  pub lawful : site_rule vrfs earlier entry ≡ None
  pub later_is : later ≡ with_site vrfs earlier entry
  pub statics_are : statics ≡ statics_of later.sites

abbrev pub AddsSite : List (List ℕ) → SiteTable → List Static → Members → Result SiteTable TopoRule → Type 0
AddsSite vrfs earlier statics entry (Ok later) = IsOneMore vrfs earlier statics entry later
AddsSite vrfs earlier statics entry (Err rule) = site_rule vrfs earlier entry ≡ Some rule
