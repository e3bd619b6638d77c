-- A topology's loopbacks can be told apart on the wire.
use Rattle.std.proofs.Common.{ℕ, ◌≡◌, ◌<◌, ◌*◌, ◌^◌, arith, true}
use Rattle.std.specs.Prelude.{◌==◌, ◌||◌, ◌/◌, not, nat_lt, slice_index_or}
use Rattle.mn_base.proofs.Bools.{and_right, less_tells}
use Rattle.mn_topo.specs.Nodes.{is_loopback}
use Rattle.mn_topo.specs.Network.{Network, wiring_of}
use Rattle.mn_topo.specs.Lawful.{IsLawful}
use Rattle.mn_topo.proofs.Wirings.{passes_at}
use Rattle.mn_ldp_session.specs.Spelling.{AreSpelled}
use Rattle.mn_ledger.proofs.Turning.{loopbacks_apart}

has_32_bits : (address : ℕ) → is_loopback address ≡ true → address < 2 ^ 32
has_32_bits address h =
    let below : address < 224 * 2 ^ 24 =
    less_tells address (224 * 2 ^ 24) (and_right (not (address / 2 ^ 24 == 0 || address / 2 ^ 24 == 127)) (nat_lt address (224 * 2 ^ 24)) h) in
    omega (arith, below)

pub spelled : (t : Network) → IsLawful t → AreSpelled (wiring_of t)
spelled t lawful = record {
  few = lawful.few_nodes;
  fit = λ node h. has_32_bits (slice_index_or t.loopbacks node 0) (passes_at is_loopback t.loopbacks node 0 lawful.nodes.formed h);
  distinct = λ one other h g d. loopbacks_apart t lawful one other h g d;
}
