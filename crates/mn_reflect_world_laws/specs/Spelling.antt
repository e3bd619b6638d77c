-- What is sent where routes are reflected, as bytes: RFC 4271, sections 4.2 to 4.4, and RFC 4456, section 8.
use Rattle.std.specs.Prelude.{ℕ, List, map, if◌then◌else◌}
use Rattle.mn_topo.specs.Network.{Network}
use Rattle.mn_bgp_wire.specs.Written.{open_bytes, keepalive_bytes, update_bytes, announced, withdrawn}
use Rattle.mn_bgp_reflected.specs.Written.{reflected}
use Rattle.mn_ledger.specs.Places.{loopback, vrf_at, edge_of}
use Rattle.mn_bgp_spelling_laws.specs.Spelling.{Labels, as_targets, route_of}
use Rattle.mn_mail.specs.Mail.{Letter}
use Rattle.mn_reflect_ledger_laws.specs.Words.{Offer, Word, Open, KeepAlive, Announce, Withdraw}
use Rattle.mn_reflect_ledger_laws.specs.Picks.{Spoken, is_reflector}

-- the address of the edge that exports the route, which stays the next hop
abbrev pub hop_of : Network → Offer → ℕ
hop_of topology offer = loopback topology (edge_of topology offer.export.vrf)

-- as an edge announces it, and as a reflector passes it on
abbrev pub offer_bytes : Network → List ℕ → Labels → ℕ → Offer → List ℕ
offer_bytes topology reflectors labels from offer =
    if is_reflector reflectors from
    then update_bytes (reflected (hop_of topology offer) (route_of topology labels offer.export) (as_targets offer.export.targets)
    (hop_of topology offer) offer.clusters)
    else update_bytes (announced (hop_of topology offer) (route_of topology labels offer.export) (as_targets offer.export.targets))

abbrev pub word_bytes : Network → List ℕ → Labels → ℕ → Word → List ℕ
word_bytes topology reflectors labels from Open = open_bytes topology.asn (loopback topology from)
word_bytes topology reflectors labels from KeepAlive = keepalive_bytes
word_bytes topology reflectors labels from (Announce offer) = offer_bytes topology reflectors labels from offer
word_bytes topology reflectors labels from (Withdraw key) = update_bytes (withdrawn (vrf_at topology key.vrf).rd key.prefix)

-- a word on its way, as a letter
abbrev pub letter_in : Network → List ℕ → Labels → Spoken → Letter
letter_in topology reflectors labels spoken =
    record { from = spoken.from; to = spoken.to; bytes = word_bytes topology reflectors labels spoken.from spoken.word }

abbrev pub letters_in : Network → List ℕ → Labels → List Spoken → List Letter
letters_in topology reflectors labels spokens = map (letter_in topology reflectors labels) spokens
