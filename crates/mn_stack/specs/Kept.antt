-- How a frame is kept: bytes that hold room for so many entries, then so many entries, then the packet.
use Rattle.std.specs.Prelude.{ℕ, ◌+◌, ◌*◌, ◌^◌, ◌<◌, ◌≤◌, List, length, take, drop, IsTrue}
use Rattle.mn_stack.specs.Grammar.{IsStack, is_packet}
use Rattle.mn_stack.specs.Labelled.{Labelled}
use Rattle.mn_stack.specs.Reading.{entries_of}

abbrev pub kept : ℕ → ℕ → List ℕ → Labelled
kept room depth bytes = record {
  entries = take depth (entries_of (drop (4 * room) bytes));
  packet = drop (4 * (room + depth)) bytes;
  room = room;
}

pub record IsKept (room depth : ℕ) (bytes : List ℕ) : Type 0 where
  pub counted : room + depth < 2 ^ 32
  pub there : 4 * (room + depth) ≤ length bytes
  pub stack : IsStack (kept room depth bytes).entries
  pub packet : IsTrue (is_packet (kept room depth bytes).packet)
