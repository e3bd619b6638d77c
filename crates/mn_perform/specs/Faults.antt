-- Where a run is cut off: the counts of failed reads, of failed writes and of the sink's faults, each none where the device is sound.
use Rattle.std.specs.Prelude.{◌≡◌, ◌⊎◌, ℕ, Option, Result, Err}
use Rattle.mn_edge.specs.Faults.{Grew, GrewUnless}
use Rattle.mn_perform.specs.declared.ended.Fault.{Fault}
use Rattle.mn_perform.specs.declared.ended.Fault.TheVariants.{Read, Write}

abbrev pub Counts : Type 0
Counts = Option ℕ × Option ℕ × Option ℕ

-- each fault comes only where its own count rose, or over a sound shelf by the excuse of a read or of a write, and all else leaves all
abbrev pub Blamed : {T : Type 0} → Type 0 → Type 0 → Counts → Counts → Result T Fault → Type 0
Blamed unread unwritten old new (Err Read) = GrewUnless unread old.0 new.0 × (new.1 ≡ old.1) × (new.2 ≡ old.2)
Blamed unread unwritten old new (Err Write) =
    (new.0 ≡ old.0) × ((GrewUnless unwritten old.1 new.1 × (new.2 ≡ old.2)) ⊎ (Grew old.2 new.2 × (new.1 ≡ old.1)))
Blamed unread unwritten old new result = (new.0 ≡ old.0) × (new.1 ≡ old.1) × (new.2 ≡ old.2)

-- of a call on the sink alone
abbrev pub SinkBlamed : {T : Type 0} → Option ℕ → Option ℕ → Result T Fault → Type 0
SinkBlamed old new (Err Read) = ⊥
SinkBlamed old new (Err Write) = Grew old new
SinkBlamed old new result = new ≡ old

-- of a call that writes to the shelf alone
abbrev pub ShelfBlamed : {T : Type 0} → Type 0 → Option ℕ × Option ℕ → Option ℕ × Option ℕ → Result T Fault → Type 0
ShelfBlamed excuse old new (Err Read) = ⊥
ShelfBlamed excuse old new (Err Write) = (new.0 ≡ old.0) × GrewUnless excuse old.1 new.1
ShelfBlamed excuse old new result = (new.0 ≡ old.0) × (new.1 ≡ old.1)
