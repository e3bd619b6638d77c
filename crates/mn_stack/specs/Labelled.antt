-- What contracts see of a frame, and what is done to its stack: RFC 3031, section 3.10.
use Rattle.std.specs.Prelude.{◌≡◌, ℕ, ◌==◌, List, [], ◌∷◌, ◌++◌, length, drop, Result, Ok, Err, ⊤}
use Rattle.mn_stack.specs.declared.message.Entry.{Entry}
use Rattle.mn_stack.specs.declared.refusal.FrameBad.{FrameBad}
use Rattle.mn_stack.specs.declared.refusal.FrameBad.TheVariants.{NoBottom, Short, BadPayload, NoMemory}
use Rattle.mn_stack.specs.Grammar.{stack_bytes}

pub record Labelled : Type 0 where
  pub entries : List Entry  -- the top one first
  pub packet : List ℕ
  pub room : ℕ  -- how many entries can be pushed

-- the bytes of a frame are those of its entries and then those of its packet
abbrev pub frame_bytes : Labelled → List ℕ
frame_bytes frame = stack_bytes frame.entries ++ frame.packet

-- the top entry with another label and TTL; its Exp and S stay
abbrev pub swapped : List Entry → ℕ → ℕ → List Entry
swapped [] label ttl = []
swapped (top ∷ below) label ttl = record top { label = label; ttl = ttl } ∷ below

-- the top entry with another TTL
abbrev pub with_top_ttl : List Entry → ℕ → List Entry
with_top_ttl [] ttl = []
with_top_ttl (top ∷ below) ttl = record top { ttl = ttl } ∷ below

-- without the top entry
abbrev pub popped : List Entry → List Entry
popped entries = drop 1 entries

-- with one more on top, which is the bottom where it is the only one
abbrev pub pushed : List Entry → ℕ → ℕ → List Entry
pushed entries label ttl = record { label = label; exp = 0; bottom = length entries == 0; ttl = ttl } ∷ entries

-- what reading answers is what the bytes say, out of memory apart
abbrev pub Answers : Result Labelled FrameBad → Result (List Entry × List ℕ) FrameBad → Type 0
Answers (Ok frame) reading = reading ≡ Ok (frame.entries, frame.packet)
Answers (Err NoMemory) reading = ⊤
Answers (Err NoBottom) reading = reading ≡ Err NoBottom
Answers (Err Short) reading = reading ≡ Err Short
Answers (Err BadPayload) reading = reading ≡ Err BadPayload
