-- What contracts see of a VRF: its statics, its two sets of targets, and the routes that it holds. RFC 4364, sections 3 and 4.3.1.
use Rattle.std.specs.Prelude.{◌≡◌, ℕ, ◌==◌, nat_le, Bool, true, false, List, [], ◌∷◌, if◌then◌else◌, Option, Some, None, option_map, Result, Ok, Err, length}
use Rattle.mn_base.specs.declared.numbers.Rd.{Rd}
use Rattle.mn_base.specs.declared.numbers.Rt.{Rt}
use Rattle.mn_prefix.specs.Prefix.{AddressBlock, same_prefix, prefix_before}
use Rattle.mn_base.specs.Ordered.{with_one, without_one, one_at}
use Rattle.mn_targets.specs.Targets.{has_target}
use Rattle.mn_vrf.specs.declared.source.Source.{Source}
use Rattle.mn_vrf.specs.declared.refusal.VrfBad.{VrfBad}
use Rattle.mn_vrf.specs.declared.refusal.VrfBad.TheVariants.{PrefixTaken, NoRouteThere, Unchanged, TargetsFull, NoMemory}

-- a prefix that a VRF has over a site, attached or not
pub record Static : Type 0 where
  pub prefix : AddressBlock
  pub site : ℕ

-- what a VRF was told
pub record VrfState : Type 0 where
  pub number : ℕ
  pub rd : Rd
  pub statics : List Static  -- in the order of prefixes
  pub imports : List Rt  -- ascending
  pub exports : List Rt  -- ascending

-- and the routes that it holds
pub record Holding : Type 0 where
  pub vrf : VrfState
  pub held : List (AddressBlock × Source)  -- by prefix, and of one prefix by preference

abbrev pub static_before : Static → Static → Bool
static_before static other = prefix_before static.prefix other.prefix

abbrev pub with_static : Static → VrfState → VrfState
with_static static vrf = record vrf { statics = with_one static_before static vrf.statics }

abbrev pub without_static : Static → VrfState → VrfState
without_static static vrf = record vrf { statics = without_one static_before static vrf.statics }

abbrev pub with_imports : (List Rt → List Rt) → VrfState → VrfState
with_imports change vrf = record vrf { imports = change vrf.imports }

abbrev pub with_exports : (List Rt → List Rt) → VrfState → VrfState
with_exports change vrf = record vrf { exports = change vrf.exports }

-- the static of a prefix
abbrev pub static_of : AddressBlock → List Static → Option Static
static_of prefix statics = one_at static_before (record { prefix = prefix; site = 0 }) statics

-- what is refused: a prefix twice, whatever its site
abbrev pub add_refused : AddressBlock → VrfState → Option VrfBad
add_refused prefix vrf = option_map (λ (static : Static). PrefixTaken (record { 0 = static.site })) (static_of prefix vrf.statics)

-- a prefix that isn't there, or is over another site
abbrev pub refused_over : ℕ → Option Static → Option VrfBad
refused_over site None = Some NoRouteThere
refused_over site (Some static) = if static.site == site then None else Some NoRouteThere

abbrev pub del_refused : AddressBlock → ℕ → VrfState → Option VrfBad
del_refused prefix site vrf = refused_over site (static_of prefix vrf.statics)

-- a change that is none, and then a seventeenth target
abbrev pub set_refused : Rt → Bool → List Rt → Option VrfBad
set_refused target true targets = if has_target target targets then Some Unchanged else if nat_le 16 (length targets) then Some TargetsFull else None
set_refused target false targets = if has_target target targets then None else Some Unchanged

-- why a call answered an Err, if it was not for memory
abbrev pub refusal_of : {A : Type 0} → Result A VrfBad → Option VrfBad
refusal_of (Ok _) = None
refusal_of (Err NoMemory) = None
refusal_of (Err bad) = Some bad

-- the prefix is the one before
abbrev pub is_again : Option AddressBlock → AddressBlock → Bool
is_again None prefix = false
is_again (Some last) prefix = same_prefix last prefix

-- the first route of each prefix, after routes of this prefix
abbrev pub heads_after : Option AddressBlock → List (AddressBlock × Source) → List (AddressBlock × Source)
heads_after last [] = []
heads_after last (route ∷ routes) = if is_again last route.0 then heads_after (Some route.0) routes else route ∷ heads_after (Some route.0) routes

-- the held prefixes in their order, each with the best of its routes
abbrev pub heads : List (AddressBlock × Source) → List (AddressBlock × Source)
heads routes = heads_after None routes

-- what is held at a place is of this prefix
abbrev pub IsHeldAt : AddressBlock → Option (AddressBlock × Source) → Type 0
IsHeldAt prefix route = option_map (λ found. found.0) route ≡ Some prefix
