-- RFC 4364, section 4.2, and RFC 4360, sections 3.1, 3.2 and 4: route distinguishers and targets, as the big-endian number of their eight bytes.
use Rattle.std.specs.Prelude.{ℕ, Bool, ◌==◌, ◌||◌, ◌/◌, ◌^◌}

-- the first two bytes, which say how the other six are read
abbrev pub type_field : ℕ → ℕ
type_field n = n / 2 ^ 48

-- a distinguisher that is administered by an AS, of type 0, or by an address, of type 1
abbrev pub has_rd_form : ℕ → Bool
has_rd_form n = type_field n == 0 || type_field n == 1

-- a target that is administered by an AS, 0002, or by an address, 0102
abbrev pub has_rt_form : ℕ → Bool
has_rt_form n = type_field n == 0x0002 || type_field n == 0x0102
