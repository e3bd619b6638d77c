-- The IPv4 header: RFC 791, section 3.1. A packet is the list of its bytes.
use Rattle.std.specs.Prelude.{◌≡◌, ◌≢◌, ℕ, Bool, not, ◌&&◌, ◌||◌, ◌==◌, nat_lt, nat_le, List, length, take, slice_index, slice_set, ◌+◌, ◌-◌, ◌*◌, ◌/◌, ◌%◌}
use Rattle.mn_ipv4.specs.Checksum.{words, ones_complement_sum}

-- the upper four bits of the first byte
abbrev pub version_of : List ℕ → ℕ
version_of b = slice_index b 0 / 16

-- the header's length in words of four bytes (IHL): the lower four bits of the first byte
abbrev pub header_words : List ℕ → ℕ
header_words b = slice_index b 0 % 16

-- the header's length in bytes
abbrev pub header_length : List ℕ → ℕ
header_length b = 4 * header_words b

-- the length in bytes of header and data together
abbrev pub total_length : List ℕ → ℕ
total_length b = 256 * slice_index b 2 + slice_index b 3

-- time to live
abbrev pub ttl_of : List ℕ → ℕ
ttl_of b = slice_index b 8

-- the destination address, its first byte the highest
abbrev pub destination_of : List ℕ → ℕ
destination_of b = ((slice_index b 16 * 256 + slice_index b 17) * 256 + slice_index b 18) * 256 + slice_index b 19

-- the header's bytes
abbrev pub header_bytes : List ℕ → List ℕ
header_bytes b = take (header_length b) b

-- no byte, or another version than 4
unfoldable pub is_not_ipv4 : List ℕ → Bool
is_not_ipv4 b = (length b == 0) || not (version_of b == 4)

-- the header is shorter than five words, or longer than the total length, where the bytes reach that field
unfoldable pub is_malformed : List ℕ → Bool
is_malformed b = nat_lt (header_words b) 5 || (nat_le 4 (length b) && nat_lt (total_length b) (header_length b))

-- bytes are missing: of the least header, of the header or of the packet
unfoldable pub is_truncated : List ℕ → Bool
is_truncated b = nat_lt (length b) 20 || nat_lt (length b) (header_length b) || nat_lt (length b) (total_length b)

-- the header's words don't add up to sixteen one bits
unfoldable pub has_bad_checksum : List ℕ → Bool
has_bad_checksum b = not (ones_complement_sum (words (header_bytes b)) == 65535)

-- none of the four
unfoldable pub good : List ℕ → Bool
good b = not (is_not_ipv4 b) && not (is_malformed b) && not (is_truncated b) && not (has_bad_checksum b)

-- the bytes with this number in the checksum field
abbrev pub with_checksum : List ℕ → ℕ → List ℕ
with_checksum b c = slice_set (slice_set b 10 (c / 256)) 11 (c % 256)

-- the checksum that the header is to have: the complement of the one's complement sum of its words,
-- with the checksum field as zero
unfoldable pub checksum_for : List ℕ → ℕ
checksum_for b = 65535 - ones_complement_sum (words (header_bytes (with_checksum b 0)))

-- the bytes with this TTL, and the checksum anew
unfoldable pub with_ttl : List ℕ → ℕ → List ℕ
with_ttl b ttl = let changed = slice_set b 8 ttl in with_checksum changed (checksum_for changed)

-- no byte changes but the TTL and the two of the checksum
abbrev pub ChangesTtlOnly : List ℕ → List ℕ → Type 0
ChangesTtlOnly old new = (i : ℕ) → i ≢ 8 → i ≢ 10 → i ≢ 11 → slice_index new i ≡ slice_index old i

-- the packet cut to its total length, with its TTL lowered by `n` and the checksum anew
unfoldable pub aged : List ℕ → ℕ → List ℕ
aged b n = with_ttl (take (total_length b) b) (ttl_of b - n)
