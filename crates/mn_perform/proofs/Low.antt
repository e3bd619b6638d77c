-- The low bytes of a number.
use Rattle.std.proofs.Common.{◌≡◌, ℕ, ◌%◌, arith}
use Rattle.byteorder.specs.Endian.{little_bytes}

-- four bytes have nothing of what stands above them
pub low_four : (number : ℕ) → little_bytes 4 (number % 4294967296) ≡ little_bytes 4 number
low_four number = grind arith
