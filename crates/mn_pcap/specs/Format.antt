-- A capture file of libpcap as it is written here: version 2.4, little-endian, times in microseconds.
use Rattle.std.specs.Prelude.{ℕ, ◌*◌, ◌/◌, ◌%◌, List, ◌++◌, length}
use Rattle.byteorder.specs.Endian.{little_bytes}

-- the number that says: times in microseconds
abbrev pub magic : ℕ
magic = 0xA1B2C3D4

abbrev pub major : ℕ
major = 2

abbrev pub minor : ℕ
minor = 4

-- times are in UTC
abbrev pub zone : ℕ
zone = 0

abbrev pub sigfigs : ℕ
sigfigs = 0

-- the greatest captured length that a reader need expect
abbrev pub snaplen : ℕ
snaplen = 262144

-- the header of a file whose records are of one link type, 24 bytes
abbrev pub header : ℕ → List ℕ
header link =
    little_bytes 4 magic ++ little_bytes 2 major ++ little_bytes 2 minor ++ little_bytes 4 zone ++ little_bytes 4 sigfigs ++ little_bytes 4 snaplen ++
    little_bytes 4 link

-- a tick is a millisecond: the whole seconds of a time, and the microseconds past them
abbrev pub seconds : ℕ → ℕ
seconds tick = tick / 1000

abbrev pub fraction : ℕ → ℕ
fraction tick = tick % 1000 * 1000

-- the header of a record of which all bytes were captured, 16 bytes
abbrev pub record_header : ℕ → ℕ → List ℕ
record_header tick len =
    let captured = len in
    let original = len in
    little_bytes 4 (seconds tick) ++ little_bytes 4 (fraction tick) ++ little_bytes 4 captured ++ little_bytes 4 original

-- a record: its header, and then the bytes
abbrev pub record_of : ℕ → List ℕ → List ℕ
record_of tick bytes = record_header tick (length bytes) ++ bytes
