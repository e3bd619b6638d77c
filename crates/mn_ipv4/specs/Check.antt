-- What `check` answers.
use Rattle.std.specs.Prelude.{List, ℕ, Option, Some, None, if◌then◌else◌}
use Rattle.mn_ipv4.specs.declared.header.Head.{Head}
use Rattle.mn_ipv4.specs.declared.header.Bad.{Bad}
use Rattle.mn_ipv4.specs.declared.header.Bad.TheVariants.{NotIpv4, Malformed, Truncated, BadChecksum}
use Rattle.mn_ipv4.specs.Header.{header_length, total_length, ttl_of, destination_of, is_not_ipv4, is_malformed, is_truncated, has_bad_checksum}

-- the first of the four that holds of the packet
unfoldable pub fault_of : List ℕ → Option Bad
fault_of b =
    if is_not_ipv4 b then Some NotIpv4
    else if is_malformed b then Some Malformed
    else if is_truncated b then Some Truncated
    else if has_bad_checksum b then Some BadChecksum
    else None

-- the fields of the header
abbrev pub head_of : List ℕ → Head
head_of b = record { header = header_length b; total = total_length b; ttl = ttl_of b; destination = destination_of b }
