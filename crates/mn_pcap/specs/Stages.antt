-- What is known of a scan's stage without the bytes that led to it.
use Rattle.std.specs.Prelude.{ℕ, Bool, true, nat_lt, Option, Some, None, List, [], ◌∷◌}
use Rattle.mn_pcap.specs.Grammar.{file_header_size, record_header_size}
use Rattle.mn_pcap.specs.declared.message.Place.{Place}
use Rattle.mn_pcap.specs.declared.stage.Stage.{Stage}
use Rattle.mn_pcap.specs.declared.stage.Stage.TheVariants.{FileHeader, RecordHeader, Captured, Refused}

-- something is still wanted: bytes of the header at hand, or of the record
abbrev pub wants : Stage → ℕ → Bool
wants FileHeader held = nat_lt held file_header_size
wants (RecordHeader form) held = nat_lt held record_header_size
wants (Captured form place left) held = nat_lt 0 left
wants (Refused bad) held = true

-- the record that became whole, if one did
abbrev pub listed : Option Place → List Place
listed None = []
listed (Some place) = place ∷ []
