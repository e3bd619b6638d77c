-- What is sent, in bytes.
use Rattle.std.specs.Prelude.{ℕ, ◌+◌, if◌then◌else◌, List, [], ◌∷◌, ◌++◌, length, Option, Some, None}
use Rattle.mn_topo.specs.Network.{Network}
use Rattle.mn_bgp_wire.specs.Written.{update_bytes, withdrawn}
use Rattle.mn_bgp_reflected.specs.Written.{reflected}
use Rattle.mn_ledger.specs.Places.{loopback, vrf_at}
use Rattle.mn_offers.specs.Heard.{Heard}
use Rattle.mn_mail.specs.Mail.{Letter, Mail}
use Rattle.mn_reflect_ledger_laws.specs.Words.{Key}
use Rattle.mn_reflect_world_laws.specs.Letters.{vpn_route_of, next_hop, says_same}

-- letters are sent, one after another
abbrev pub posted : List Letter → Mail → Mail
posted letters mail = record mail { letters = mail.letters ++ letters; sent = mail.sent + length letters }

abbrev pub letter_of : ℕ → ℕ → List ℕ → Letter
letter_of from to bytes = record { from = from; to = to; bytes = bytes }

abbrev pub letter_if : ℕ → ℕ → Option (List ℕ) → List Letter
letter_if from to None = []
letter_if from to (Some bytes) = letter_of from to bytes ∷ []

-- as a reflector passes it on, with its address in front of the clusters
abbrev pub passed_bytes : Network → ℕ → Heard → List ℕ
passed_bytes topology node route =
    update_bytes (reflected (next_hop topology route.vrf) (vpn_route_of topology route) route.targets (next_hop topology route.vrf)
    (loopback topology node ∷ route.clusters))

abbrev pub withdrawal_bytes : Network → Key → List ℕ
withdrawal_bytes topology key = update_bytes (withdrawn (vrf_at topology key.vrf).rd key.prefix)

abbrev pub anew_bytes : Network → ℕ → Option Heard → Heard → Option (List ℕ)
anew_bytes topology node None new = Some (passed_bytes topology node new)
anew_bytes topology node (Some old) new = if says_same old new then None else Some (passed_bytes topology node new)

-- what is sent of a route that was held out so and is now
abbrev pub change_bytes : Network → ℕ → Key → Option Heard → Option Heard → Option (List ℕ)
change_bytes topology node key old (Some new) = anew_bytes topology node old new
change_bytes topology node key (Some old) None = Some (withdrawal_bytes topology key)
change_bytes topology node key None None = None
