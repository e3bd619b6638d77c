-- A labelled packet as it is read, with the refusals in the order in which they are tried.
use Rattle.std.specs.Prelude.{◌≡◌, ◌<◌, ℕ, ◌*◌, ◌%◌, ◌==◌, List, [], ◌∷◌, length, take, drop, Option, Some, None, Result, Ok, Err, if◌then◌else◌}
use Rattle.std.specs.List.{position_from}
use Rattle.byteorder.specs.Endian.{big_number}
use Rattle.mn_stack.specs.declared.message.Entry.{Entry}
use Rattle.mn_stack.specs.declared.refusal.FrameBad.{FrameBad}
use Rattle.mn_stack.specs.declared.refusal.FrameBad.TheVariants.{NoBottom, Short, BadPayload}
use Rattle.mn_stack.specs.Entry.{entry_of}
use Rattle.mn_stack.specs.Grammar.{is_packet, IsFrame}

-- every four bytes from the front, as an entry
unfoldable pub entries_of : List ℕ → List Entry
entries_of (a ∷ b ∷ c ∷ d ∷ rest) = entry_of (big_number 4 (a ∷ b ∷ c ∷ d ∷ [])) ∷ entries_of rest
entries_of _ = []

-- how many entries the stack at the front has: the number, from 1, of the first one that is the bottom
abbrev pub depth_of : List ℕ → Option ℕ
depth_of bytes = position_from (λ entry. entry.bottom) 1 (entries_of bytes)

-- the entries and the packet, or the refusal, where the stack is so deep, or where no entry is the bottom
abbrev pub frame_at : Option ℕ → List ℕ → Result (List Entry × List ℕ) FrameBad
frame_at None bytes = if length bytes % 4 == 0 then Err NoBottom else Err Short
frame_at (Some depth) bytes =
    let packet = drop (4 * depth) bytes in
    if is_packet packet then Ok (take depth (entries_of bytes), packet) else Err BadPayload

abbrev pub frame_of : List ℕ → Result (List Entry × List ℕ) FrameBad
frame_of bytes = frame_at (depth_of bytes) bytes

-- bytes that are a stack and a packet are read as these
abbrev pub WrittenIsRead : Type 0
WrittenIsRead =
    (bytes : List ℕ) (entries : List Entry) (packet : List ℕ) → IsFrame bytes entries packet → 0 < length entries → frame_of bytes ≡ Ok (entries, packet)
