-- The topology that a document is, or the first rule that it breaks and the place.
use Rattle.std.specs.Prelude.{◌≡◌, ◌≤◌, ℕ, Bool, true, false, not, ◌||◌, nat_lt, if◌then◌else◌, List, [], ◌∷◌, length, Option, Some, None, is_none, unwrap_or}
use Rattle.std.specs.Prelude.{codes}
use Rattle.std.specs.Prelude.{Result, Ok, Err}
use Rattle.std.specs.Option.{option_map_or}
use Rattle.std.specs.Str.{is_utf8}
use Rattle.toml.specs.Data.{Members}
use Rattle.toml.specs.View.{items_view}
use Rattle.toml.specs.Parse.{parse_document}
use Rattle.mn_wiring.specs.declared.links.LinkEnds.{LinkEnds}
use Rattle.mn_topo_toml.specs.declared.refusal.TopoRule.{TopoRule}
use Rattle.mn_topo_toml.specs.declared.refusal.TopoRule.TheVariants.{NotToml, UnknownKey, WrongKind, TooMany}
use Rattle.mn_topo_toml.specs.declared.refusal.Place.{Place}
use Rattle.mn_topo_toml.specs.declared.refusal.Place.TheVariants.{Top}
use Rattle.toml.specs.declared.value.Value.{Value}
use Rattle.mn_topo_toml.specs.declared.top.Arrays.{Arrays}
use Rattle.mn_topo_toml.specs.declared.top.Figures.{Figures}
use Rattle.mn_topo_toml.specs.declared.top.Head.{Head}
use Rattle.mn_topo_toml.specs.Tables.{has_unknown_key, number_at, boolean_at, is_tables_at, tables_at, tables_of}
use Rattle.mn_topo_toml.specs.Rules.{broken, first_broken, unless_broken}
use Rattle.mn_topo.specs.Nodes.{NodeTable, no_nodes}
use Rattle.mn_topo_toml.specs.Nodes.{nodes_from}
use Rattle.mn_topo_toml.specs.Links.{links_from}
use Rattle.mn_topo.specs.VrfTable.{VrfTable, no_vrfs}
use Rattle.mn_topo_toml.specs.Vrfs.{vrfs_from}
use Rattle.mn_topo.specs.SiteTable.{SiteTable, no_sites}
use Rattle.mn_topo_toml.specs.Sites.{sites_from}
use Rattle.mn_topo.specs.Network.{Network}
pub use Rattle.mn_base.specs.Refusals.{◌>>=◌}

abbrev pub top_keys : List (List ℕ)
top_keys =
    codes "as" ∷ codes "notice_delay" ∷ codes "bgp_delay" ∷ codes "resolve" ∷ codes "node" ∷ codes "link" ∷ codes "vrf" ∷ codes "site" ∷ []

abbrev pub asn_at : Members → Option ℕ
asn_at top = number_at (codes "as") 1 65535 65000 top

abbrev pub notice_delay_at : Members → Option ℕ
notice_delay_at top = number_at (codes "notice_delay") 1 1000 1 top

abbrev pub bgp_delay_at : Members → Option ℕ
bgp_delay_at top = number_at (codes "bgp_delay") 1 1000 1 top

-- routes without a label path to their edge stand aside
abbrev pub resolve_at : Members → Option Bool
resolve_at top = boolean_at (codes "resolve") top

abbrev pub has_wrong_number : Members → Bool
has_wrong_number top = (is_none (asn_at top) || is_none (notice_delay_at top)) || is_none (bgp_delay_at top)

-- a number or the boolean is wrong
abbrev pub has_wrong_figure : Members → Bool
has_wrong_figure top = has_wrong_number top || is_none (resolve_at top)

-- an array isn't one of tables
abbrev pub has_wrong_array : Members → Bool
has_wrong_array top =
    ((not (is_tables_at (codes "node") top) || not (is_tables_at (codes "link") top)) || not (is_tables_at (codes "vrf") top)) || not
    (is_tables_at (codes "site") top)

-- more nodes, links, VRFs or sites than there may be
abbrev pub are_too_many : ℕ → ℕ → ℕ → ℕ → Bool
are_too_many nodes links vrfs sites = ((nat_lt 256 nodes || nat_lt 1024 links) || nat_lt 512 vrfs) || nat_lt 4096 sites

-- an array has more entries than it may
abbrev pub has_too_many : Members → Bool
has_too_many top =
    are_too_many (length (tables_at (codes "node") top)) (length (tables_at (codes "link") top)) (length (tables_at (codes "vrf") top))
    (length (tables_at (codes "site") top))

-- the rules of the top table
unfoldable pub top_rule : Members → Option TopoRule
top_rule top = first_broken (
    broken (has_unknown_key top_keys top) UnknownKey
    ∷ broken (has_wrong_figure top || has_wrong_array top) WrongKind
    ∷ broken (has_too_many top) TooMany
    ∷ [])

-- what nodes, links, VRFs and sites make with the numbers and the boolean of the top table
abbrev pub network_with : Members → NodeTable → List LinkEnds → VrfTable → SiteTable → Network
network_with top nodes links vrfs sites = record {
  asn = unwrap_or (asn_at top) 0;
  notice_delay = unwrap_or (notice_delay_at top) 0;
  bgp_delay = unwrap_or (bgp_delay_at top) 0;
  node_names = nodes.names;
  loopbacks = nodes.loopbacks;
  links = links;
  vrf_names = vrfs.names;
  vrfs = vrfs.vrfs;
  site_names = sites.names;
  sites = sites.sites;
  resolve = unwrap_or (resolve_at top) false;
}

-- the arrays, one after another
abbrev pub arrays_of : Members → Result Network (TopoRule × Place)
arrays_of top = do
  nodes ← nodes_from (tables_at (codes "node") top) no_nodes
  links ← links_from nodes.names (tables_at (codes "link") top) []
  vrfs ← vrfs_from nodes.names (tables_at (codes "vrf") top) no_vrfs
  sites ← sites_from vrfs.names (tables_at (codes "site") top) no_sites
  Ok (network_with top nodes links vrfs sites)

-- the top table comes before its arrays
unfoldable pub network_of : Members → Result Network (TopoRule × Place)
network_of top = unless_broken (top_rule top) Top (arrays_of top)

-- the document that the bytes are
abbrev pub document_of : List ℕ → Option Members
document_of bytes = if is_utf8 bytes then parse_document bytes else None

-- the topology that the bytes are
unfoldable pub topology_of : List ℕ → Result Network (TopoRule × Place)
topology_of bytes = option_map_or network_of (document_of bytes) (Err (NotToml, Top))

-- the numbers and the boolean of a top table in which none of them is wrong
pub record AreFigures (top : Members) (figures : Figures) : Type 0 where
  pub right : has_wrong_figure top ≡ false
  pub asn_is : asn_at top ≡ Some figures.asn
  pub notice_delay_is : notice_delay_at top ≡ Some figures.notice_delay
  pub bgp_delay_is : bgp_delay_at top ≡ Some figures.bgp_delay
  pub resolve_is : resolve_at top ≡ Some figures.resolve

abbrev pub ReadsFigures : Members → Option Figures → Type 0
ReadsFigures top (Some figures) = AreFigures top figures
ReadsFigures top None = has_wrong_figure top ≡ true

-- the values are the entries at the key
pub record AreEntries (key : List ℕ) (top : Members) (values : List Value) : Type 0 where
  pub tables_are : tables_of (items_view values) ≡ tables_at key top
  pub count : length values ≡ length (tables_at key top)

-- the arrays of a top table in which each is one of tables
pub record AreArrays (top : Members) (arrays : Arrays) : Type 0 where
  pub right : has_wrong_array top ≡ false
  pub nodes : AreEntries (codes "node") top arrays.nodes.now
  pub links : AreEntries (codes "link") top arrays.links.now
  pub vrfs : AreEntries (codes "vrf") top arrays.vrfs.now
  pub sites : AreEntries (codes "site") top arrays.sites.now

abbrev pub ReadsArrays : Members → Option Arrays → Type 0
ReadsArrays top (Some arrays) = AreArrays top arrays
ReadsArrays top None = has_wrong_array top ≡ true

-- no array has more entries than it may
pub record AreFew (arrays : Arrays) : Type 0 where
  pub nodes : length arrays.nodes.now ≤ 256
  pub links : length arrays.links.now ≤ 1024
  pub vrfs : length arrays.vrfs.now ≤ 512
  pub sites : length arrays.sites.now ≤ 4096

-- what is taken from a top table that breaks no rule
pub record IsHead (top : Members) (head : Head) : Type 0 where
  pub lawful : top_rule top ≡ None
  pub figures : AreFigures top head.figures
  pub arrays : AreArrays top head.arrays
  pub few : AreFew head.arrays

abbrev pub ReadsHead : Members → Result Head TopoRule → Type 0
ReadsHead top (Ok head) = IsHead top head
ReadsHead top (Err rule) = top_rule top ≡ Some rule
