-- Routes and targets as they are read, with the refusals of a route in the order in which they are tried.
use Rattle.std.specs.Prelude.{◌≡◌, ◌<◌, ℕ, zero, suc, ◌+◌, ◌-◌, ◌/◌, ◌%◌, ◌^◌, ◌==◌, ◌||◌, Bool, not, nat_lt, List, [], ◌∷◌, ◌++◌, length, drop, filter}
use Rattle.std.specs.Prelude.{slice_index, slice_range, Option, Some, None, Result, Ok, Err, Vec, ⊤, if◌then◌else◌}
use Rattle.std.specs.declared.alloc.Global.{Global}
use Rattle.byteorder.specs.Endian.{big_number}
use Rattle.mn_base.specs.declared.numbers.Rt.{Rt}
use Rattle.mn_base.specs.Numbers.{has_rd_form}
use Rattle.mn_vpn_nlri.specs.declared.message.VpnRoute.{VpnRoute}
use Rattle.mn_vpn_nlri.specs.declared.refusal.NlriBad.{NlriBad}
use Rattle.mn_vpn_nlri.specs.declared.refusal.NlriBad.TheVariants.{Short, BadLength, BadRd, HostBits, NoMemory}
use Rattle.mn_vpn_nlri.specs.Grammar.{bits_before_prefix, is_target}
use Rattle.mn_prefix.specs.Octets.{octets, address_of}
pub use Rattle.mn_base.specs.Bytes.{IsBytes}
pub use Rattle.mn_base.specs.Rules.{first_refusal, unless, after}

-- The route at the front of the bytes.

-- its length in bits
abbrev pub bits_of : List ℕ → ℕ
bits_of bytes = slice_index bytes 0

-- how many bytes it has
abbrev pub size_of : List ℕ → ℕ
size_of bytes = 1 + octets (bits_of bytes)

-- the label is the first 20 bits of the field
abbrev pub nlri_label : List ℕ → ℕ
nlri_label bytes = big_number 3 (drop 1 bytes) / 2 ^ 4

abbrev pub rd_of : List ℕ → ℕ
rd_of bytes = big_number 8 (drop 4 bytes)

abbrev pub prefix_length_of : List ℕ → ℕ
prefix_length_of bytes = bits_of bytes - bits_before_prefix

-- the address that begins with the bytes behind the distinguisher
abbrev pub prefix_address_of : List ℕ → ℕ
prefix_address_of bytes = address_of (slice_range bytes 12 (size_of bytes))

-- a bit is set that isn't one of the first so many of the address
abbrev pub has_host_bits : ℕ → ℕ → Bool
has_host_bits address bits = not (address % 2 ^ (32 - bits) == 0)

abbrev pub route_rules : List ℕ → List (Bool × NlriBad)
route_rules bytes =
    (length bytes == 0, Short)
    ∷ (nat_lt (bits_of bytes) bits_before_prefix || nat_lt (bits_before_prefix + 32) (bits_of bytes), BadLength)
    ∷ (nat_lt (length bytes) (size_of bytes), Short)
    ∷ (not (has_rd_form (rd_of bytes)), BadRd)
    ∷ (has_host_bits (prefix_address_of bytes) (prefix_length_of bytes), HostBits)
    ∷ []

abbrev pub vpn_route_of : List ℕ → VpnRoute
vpn_route_of bytes = record {
  rd = record { 0 = rd_of bytes };
  prefix = record { address = prefix_address_of bytes; length = prefix_length_of bytes };
  label = nlri_label bytes;
}

-- the route and how many bytes it has, or the first refusal
unfoldable pub route_at : List ℕ → Result (VpnRoute × ℕ) NlriBad
route_at bytes = unless (first_refusal (route_rules bytes)) (vpn_route_of bytes, size_of bytes)

-- Routes one after another to the end of the bytes.

-- Routes that were read, and then what is read behind them.
abbrev pub behind : List VpnRoute → Result (List VpnRoute) NlriBad → Result (List VpnRoute) NlriBad
behind front more = after more (λ routes. Ok (front ++ routes))

-- at most so many
unfoldable pub routes_from : ℕ → List ℕ → Result (List VpnRoute) NlriBad
routes_from zero bytes = Ok []
routes_from (suc most) bytes =
    if length bytes == 0 then Ok [] else after (route_at bytes) (λ first. behind (first.0 ∷ []) (routes_from most (drop first.1 bytes)))

-- The routes, or the first refusal. A route has at least a byte, so there are no more routes than bytes.
abbrev pub routes_of : List ℕ → Result (List VpnRoute) NlriBad
routes_of bytes = routes_from (length bytes) bytes

-- The targets among extended communities.

-- every eight bytes from the front, as a community
unfoldable pub communities_of : List ℕ → List Rt
communities_of (a ∷ b ∷ c ∷ d ∷ e ∷ f ∷ g ∷ h ∷ rest) = record { 0 = big_number 8 (a ∷ b ∷ c ∷ d ∷ e ∷ f ∷ g ∷ h ∷ []) } ∷ communities_of rest
communities_of _ = []

abbrev pub targets_of : List ℕ → Result (List Rt) NlriBad
targets_of bytes = if length bytes % 8 == 0 then Ok (filter is_target (communities_of bytes)) else Err Short

-- what a function answers is what the bytes say, out of memory apart
abbrev pub Answers : Result (Vec Rt Global) NlriBad → Result (List Rt) NlriBad → Type 0
Answers (Ok targets) reading = reading ≡ Ok targets.items
Answers (Err NoMemory) reading = ⊤
Answers (Err Short) reading = reading ≡ Err Short
Answers (Err BadLength) reading = reading ≡ Err BadLength
Answers (Err BadRd) reading = reading ≡ Err BadRd
Answers (Err HostBits) reading = reading ≡ Err HostBits
