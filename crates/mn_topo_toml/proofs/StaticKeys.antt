-- The prefixes that stand in VRFs, as the keys of a set.
use Rattle.std.proofs.Common.{◌≡◌, ℕ, Bool, true, false, ◌&&◌, ◌||◌, ◌==◌, if◌then◌else◌, List, [], ◌∷◌, ◌++◌, map, refl, ap, ◌∙◌, sym}
use Rattle.std.specs.List.{list_any}
use Rattle.std.proofs.lemmas.List.{map-append}
use Rattle.mn_prefix.specs.Prefix.{AddressBlock}
use Rattle.mn_topo.specs.SiteTable.{Static, stands}
use Rattle.mn_topo_toml.proofs.NameKeys.{put_last}

abbrev pub Key : Type 0
Key = ℕ × ℕ × ℕ

abbrev pub static_of : Key → Static
static_of key = (key.0, record { address = key.1; length = key.2 })

abbrev pub is_key : ℕ → ℕ → ℕ → Key → Bool
is_key vrf address length key = (vrf == key.0 && address == key.1) && length == key.2

and_assoc : (a b c : Bool) → (a && (b && c)) ≡ ((a && b) && c)
and_assoc true b c = refl
and_assoc false b c = refl

stands_mapped : (vrf : ℕ) (p : AddressBlock) (keys : List Key) → stands (map static_of keys) vrf p ≡ list_any (is_key vrf p.address p.length) keys
stands_mapped vrf p [] = refl
stands_mapped vrf p (key ∷ keys) =
    rw (and_assoc (vrf == key.0) (p.address == key.1) (p.length == key.2))
    (ap (λ rest. is_key vrf p.address p.length key || rest) (stands_mapped vrf p keys))

-- a look-up among the keys is one among the statics
pub stands_known : (vrf address length : ℕ) (p : AddressBlock) (keys : List Key) (now : List Static) → map static_of keys ≡ now → address ≡ p.address →
    length ≡ p.length
    → list_any (is_key vrf address length) keys ≡ stands now vrf p
stands_known vrf address length p keys now seen a l = rw (a, l, ← seen) (sym (stands_mapped vrf p keys))

pub put_static : (vrf address length : ℕ) (p : AddressBlock) (keys new : List Key) (now : List Static) → map static_of keys ≡ now → address ≡ p.address →
    length ≡ p.length
    → stands now vrf p ≡ false
    → new ≡ (if list_any (is_key vrf address length) keys then keys else keys ++ (vrf, address, length) ∷ [])
    → map static_of new ≡ now ++ (vrf, p) ∷ []
put_static vrf address length p keys new now seen a l absent e =
    let free = stands_known vrf address length p keys now seen a l ∙ absent in
    ap (map static_of) (put_last _ keys new (vrf, address, length) free e) ∙ map-append static_of keys ((vrf, address, length) ∷ []) ∙ rw (seen, a, l) refl
