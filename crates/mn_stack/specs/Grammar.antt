-- A labelled packet: RFC 3032, section 2.1. A stack of entries, the top one first, and then an IPv4 packet.
use Rattle.std.specs.Prelude.{◌≡◌, ℕ, ◌++◌, ◌==◌, ◌&&◌, Bool, List, [], ◌∷◌, length, IsTrue, ⊤}
use Rattle.std.specs.List.{flat_map}
use Rattle.mn_ipv4.specs.Header.{good, total_length}
use Rattle.mn_stack.specs.declared.message.Entry.{Entry}
use Rattle.mn_stack.specs.Entry.{Fits, entry_bytes}

-- the last entry, and it alone, is the bottom of the stack
abbrev pub IsStack : List Entry → Type 0
IsStack [] = ⊤
IsStack (entry ∷ below) = Fits entry × (entry.bottom ≡ (length below == 0)) × IsStack below

-- the bytes of the entries, one after another
abbrev pub stack_bytes : List Entry → List ℕ
stack_bytes entries = flat_map entry_bytes entries

-- a good IPv4 packet, and nothing behind its total length
abbrev pub is_packet : List ℕ → Bool
is_packet packet = good packet && (length packet == total_length packet)

-- the bytes are these entries and this packet
pub record IsFrame (bytes : List ℕ) (entries : List Entry) (packet : List ℕ) : Type 0 where
  pub stack : IsStack entries
  pub packet_good : IsTrue (is_packet packet)
  pub whole : bytes ≡ stack_bytes entries ++ packet
