-- The line of a frame, by what its node does with it, or by the rule by which it can't be read.
use Rattle.std.proofs.Common.{◌≡◌, ℕ, List, Option, Some, None, Result, Ok, Err, ap, sym, ◌∙◌}
use Rattle.std.specs.Prelude.{codes}
use Rattle.std.specs.Borrow.{Bor}
use Rattle.mn_stack.specs.declared.message.Entry.{Entry}
use Rattle.mn_stack.specs.declared.refusal.FrameBad.{FrameBad}
use Rattle.mn_stack.specs.Labelled.{Labelled, frame_bytes}
use Rattle.mn_stack.specs.Reading.{frame_of}
use Rattle.mn_lfib.specs.declared.answer.Forwarded.{Forwarded}
use Rattle.mn_topo.specs.Network.{Network}
use Rattle.mn_topo.specs.declared.steps.JournalEntry.{JournalEntry}
use Rattle.mn_output_laws.specs.ShownFrames.{shown}
use Rattle.mn_output_laws.specs.Shown.{unread_name, unread_text, outcome_text, read_text, frame_line, said_line}
use Rattle.mn_tables.specs.Telling.{Stand, Tells}
use Rattle.mn_tables.proofs.Telling.{Answer, tells_as}
use Rattle.mn_report.specs.Frames.{packet_of}
use Rattle.mn_report.proofs.Standing.{of_topology}

-- what is said of what became of a frame
abbrev said_of : Network → Forwarded × Labelled → List ℕ
said_of topology done = outcome_text topology done.0 (frame_bytes done.1)

-- what the node's table did is what is shown
pub forwarded_row : (topology : Network) (entries : List JournalEntry) (node : ℕ) (frame later : Labelled) (outcome : Forwarded) (bytes : List ℕ)
    (done : Forwarded × Labelled) → frame.room ≡ 2 → (outcome, later) ≡ done → done ≡ shown topology entries node frame → bytes ≡ frame_bytes later
    → outcome_text topology outcome bytes ≡ read_text topology entries node (Ok (frame.entries, frame.packet))
forwarded_row topology entries node frame later outcome bytes done room is told is_bytes =
    ap (outcome_text topology outcome) is_bytes ∙ ap (said_of topology) (is ∙ told)
    ∙ ap (λ (r : ℕ). said_of topology (shown topology entries node (record { entries = frame.entries; packet = frame.packet; room = r }))) room

-- the record's packet is read so
pub read_row : (topology : Network) (entries : List JournalEntry) (node number : ℕ) (packet : Option (Bor (List ℕ))) (bytes : Bor (List ℕ))
    (reading : Result (List Entry × List ℕ) FrameBad) → packet ≡ Some bytes → frame_of bytes.now ≡ reading
    → said_line topology node number (read_text topology entries node reading) ≡ frame_line topology entries node number (packet_of packet)
read_row topology entries node number packet bytes reading is reads =
    ap (λ r. said_line topology node number (read_text topology entries node r)) (sym reads)
    ∙ sym (ap (λ p. frame_line topology entries node number (packet_of p)) is)

-- so its line tells what was read
pub read_line : (topology : Network) (entries : List JournalEntry) (node number : ℕ) (packet : Option (Bor (List ℕ))) (bytes : Bor (List ℕ))
    (reading : Result (List Entry × List ℕ) FrameBad) (s t : Stand) (r : Answer) → packet ≡ Some bytes → frame_of bytes.now ≡ reading
    → Tells (said_line topology node number (read_text topology entries node reading)) s t r →
    Tells (frame_line topology entries node number (packet_of packet)) s t r
read_line topology entries node number packet bytes reading s t r is reads x =
    tells_as _ _ s t r x (read_row topology entries node number packet bytes reading is reads)

-- and that of bytes that are no frame the rule
pub unread_line : (topology other : Network) (entries : List JournalEntry) (node number : ℕ) (packet : Option (Bor (List ℕ))) (bytes : Bor (List ℕ))
    (bad : FrameBad)
    (s t : Stand) (r : Answer) → other ≡ topology → packet ≡ Some bytes → frame_of bytes.now ≡ Err bad
    → Tells (said_line other node number (unread_text (unread_name bad))) s t r → Tells (frame_line topology entries node number (packet_of packet)) s t r
unread_line topology other entries node number packet bytes bad s t r same is reads x =
    read_line topology entries node number packet bytes (Err bad) s t r is reads
    (of_topology (λ (n : Network). said_line n node number (unread_text (unread_name bad))) topology other s t r same x)

-- the capture hasn't the record
pub no_line : (topology other : Network) (entries : List JournalEntry) (node number : ℕ) (packet : Option (Bor (List ℕ))) (s t : Stand) (r : Answer) →
    other ≡ topology
    → packet ≡ None → Tells (said_line other node number (unread_text (codes "NoRecord"))) s t r →
    Tells (frame_line topology entries node number (packet_of packet)) s t r
no_line topology other entries node number packet s t r same is x =
    tells_as _ _ s t r (of_topology (λ (n : Network). said_line n node number (unread_text (codes "NoRecord"))) topology other s t r same x)
    (sym (ap (λ p. frame_line topology entries node number (packet_of p)) is))
