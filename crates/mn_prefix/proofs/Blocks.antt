-- A quotient by the size of a block tells which block an address is in.
use Rattle.std.proofs.Common.{◌≡◌, ◌≤◌, ◌<◌, ◌+◌, ◌-◌, ◌*◌, ◌/◌, ◌%◌, ◌^◌, ◌↔◌, ℕ, true, arith, ap, sym, ◌∙◌, eq-eqb}
use Rattle.std.proofs.lemmas.Nat.{div-mul-add, pow_pos}
use Rattle.std.proofs.lemmas.Bool.{eqb-true}
use Rattle.mn_prefix.specs.Prefix.{AddressBlock, IsPrefix, contains}

-- an address with the same quotient lies in the block
lies_in : (size p a : ℕ) → 0 < size → p % size ≡ 0 → a / size ≡ p / size → (p ≤ a) × (a < p + size)
lies_in size p a some clear same =
    let front : size * (a / size) ≡ size * (p / size) = ap (λ q. size * q) same in
    (omega (arith, front, clear), omega (arith, front, clear, some))

-- and one that lies in the block has the same quotient
quotient_in : (size p a : ℕ) → 0 < size → p % size ≡ 0 → p ≤ a → a < p + size → a / size ≡ p / size
quotient_in size p a some clear low high =
    let whole : p / size * size + (a - p) ≡ a = omega (arith, clear, low, some) in
    sym (ap (λ n. n / size) whole) ∙ div-mul-add (p / size) size (a - p) (omega (arith, low, high))

-- a prefix contains the addresses of its block
pub contains_block : (p : AddressBlock) (address : ℕ) → IsPrefix p.address p.length →
    (contains p address ≡ true) ↔ ((p.address ≤ address) × (address < p.address + 2 ^ (32 - p.length)))
contains_block p address form = (
  λ h. lies_in (2 ^ (32 - p.length)) p.address address (pow_pos (32 - p.length)) form.clear (eqb-true _ _ h),
  λ h. eq-eqb _ _ (quotient_in (2 ^ (32 - p.length)) p.address address (pow_pos (32 - p.length)) form.clear h.0 h.1),
)
