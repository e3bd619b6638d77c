-- What is told is read as it was told, and taken by the session that receives it.
use Rattle.std.proofs.Common.{ℕ, zero, suc, ◌≡◌, ◌<◌, ◌*◌, ◌^◌, true, List, [], ◌∷◌, Ok, arith, lit<}
use Rattle.std.specs.Prelude.{◌&&◌, nat_le, nat_lt, slice_index_or}
use Rattle.std.specs.List.{list_all}
use Rattle.std.proofs.lemmas.Bool.Decides.{nat_tests}
use Rattle.mn_base.proofs.Bools.{and_left, and_right, less_tells}
use Rattle.mn_base.specs.declared.numbers.NodeNo.{NodeNo}
use Rattle.mn_topo.specs.Network.{Network}
use Rattle.mn_topo.specs.Lawful.{IsLawful}
use Rattle.mn_topo.specs.Nodes.{is_loopback}
use Rattle.mn_bgp_wire.specs.Grammar.{IsBgp}
use Rattle.mn_bgp_wire.specs.Reading.{message_of}
use Rattle.mn_bgp_wire.proofs.Messages as wire
use Rattle.mn_ledger.specs.World.{World, Telling}
use Rattle.mn_ledger.specs.Exports.{exports_of}
use Rattle.mn_ledger.specs.Bgp.{bgp_state_of}
use Rattle.mn_ledger.specs.Turns.{IsInTurn, has_bgp_row}
use Rattle.mn_ledger.proofs.InTurn.{rows}
use Rattle.mn_bgp_spelling_laws.specs.Spelling.{Labels, message_in, bytes_in, IsWritable}
use Rattle.mn_bgp_spelling_laws.specs.Laws.{next_of, IsComing, IsTaken, GoesOn, RepliesByTheTable}
use Rattle.mn_bgp_spelling_laws.proofs.Wire as told

row : (t : Network) (w : World) (edge peer : ℕ) → IsLawful t → IsInTurn t w → IsComing w edge peer →
    has_bgp_row (bgp_state_of w.config w.peerings edge peer) (next_of w edge peer) ≡ true
row t w edge peer lawful turn coming = (rows t w lawful turn).bgp edge peer coming.differ coming.lives coming.there

pub taken : (t : Network) (l : Labels) (w : World) (edge peer : ℕ) → IsLawful t → IsInTurn t w → IsComing w edge peer → IsTaken t l w edge peer
taken t l w edge peer lawful turn coming = told.taken t l w.config w.peerings edge peer (next_of w edge peer) (row t w edge peer lawful turn coming)

pub goes_on : (t : Network) (l : Labels) (w : World) (peer edge : NodeNo) → IsLawful t → IsInTurn t w → IsComing w edge.0 peer.0 → GoesOn t l w peer edge
goes_on t l w peer edge lawful turn coming = told.hears t l w.config w.peerings peer edge coming.lives (row t w edge.0 peer.0 lawful turn coming)

pub replies : (t : Network) (w : World) (edge peer : ℕ) → IsLawful t → IsInTurn t w → IsComing w edge peer → RepliesByTheTable t w edge peer
replies t w edge peer lawful turn coming =
    told.told_back (bgp_state_of w.config w.peerings edge peer) (next_of w edge peer) (exports_of t w.config edge) (row t w edge peer lawful turn coming)

asn_fits : (asn : ℕ) → (nat_le 1 asn && nat_le asn 65535) ≡ true → asn < 2 ^ 16
asn_fits asn h = below asn (and_right (nat_le 1 asn) (nat_le asn 65535) h)
  where
    below : (n : ℕ) → nat_le n 65535 ≡ true → n < 2 ^ 16
    below n h = grind (arith, nat_tests, h)

loopback_fits : (loopbacks : List ℕ) (node : ℕ) → list_all is_loopback loopbacks ≡ true → slice_index_or loopbacks node 0 < 2 ^ 32
loopback_fits [] node h = lit< tt
loopback_fits (x ∷ xs) zero h = below x (and_right _ (nat_lt x (224 * 2 ^ 24)) (and_left (is_loopback x) (list_all is_loopback xs) h))
  where
    below : (n : ℕ) → nat_lt n (224 * 2 ^ 24) ≡ true → n < 2 ^ 32
    below n h = let less : n < 224 * 2 ^ 24 = less_tells n (224 * 2 ^ 24) h in omega (arith, less)
loopback_fits (x ∷ xs) (suc node) h = loopback_fits xs node (and_right (is_loopback x) (list_all is_loopback xs) h)

pub spelled : (t : Network) (l : Labels) (teller : ℕ) (m : Telling) → IsLawful t → IsWritable t l m → IsBgp (bytes_in t l teller m) (message_in t l teller m)
spelled t l teller m lawful w = told.read_again t l teller m (asn_fits t.asn lawful.asn) (loopback_fits t.loopbacks teller lawful.nodes.formed) w

pub read : (t : Network) (l : Labels) (teller : ℕ) (m : Telling) → IsLawful t → IsWritable t l m →
    message_of (bytes_in t l teller m) ≡ Ok (message_in t l teller m)
read t l teller m lawful w = wire.message_is_read (bytes_in t l teller m) (message_in t l teller m) (spelled t l teller m lawful w)
