-- The line of `show frame`: what a node would do with the packet of a record, taken as a frame. RFC 3031, sections 3.10 and 3.11.
use Rattle.std.specs.Prelude.{ℕ, ◌+◌, ◌/◌, ◌%◌, nat_lt, if◌then◌else◌, List, [], ◌∷◌, Option, Some, None, Result, Ok, Err, codes}
use Rattle.std.specs.List.{flat_map}
use Rattle.std.specs.Fmt.{decimal}
use Rattle.mn_stack.specs.declared.message.Entry.{Entry}
use Rattle.mn_stack.specs.declared.refusal.FrameBad.{FrameBad}
use Rattle.mn_stack.specs.declared.refusal.FrameBad.TheVariants.{NoBottom, Short, BadPayload, NoMemory}
use Rattle.mn_stack.specs.Labelled.{Labelled, frame_bytes}
use Rattle.mn_stack.specs.Reading.{frame_of}
use Rattle.mn_lfib.specs.declared.answer.Forwarded.{Forwarded}
use Rattle.mn_lfib.specs.declared.answer.Forwarded.TheVariants.{Next, Site, Drop}
use Rattle.mn_topo.specs.Network.{Network}
use Rattle.mn_topo.specs.declared.steps.JournalEntry.{JournalEntry}
use Rattle.mn_output_laws.specs.ShownFrames.{shown}
use Rattle.mn_lines.specs.Lines.{text, rule_name}
use Rattle.mn_output_laws.specs.Files.{node_name, site_name}

-- 1. Bytes as hexadecimal digits, two for each byte, in upper case

abbrev pub hex_digit : ℕ → ℕ
hex_digit digit = if nat_lt digit 10 then digit + 48 else digit + 55

abbrev pub byte_text : ℕ → List ℕ
byte_text byte = hex_digit (byte / 16) ∷ hex_digit (byte % 16) ∷ []

abbrev pub hex_text : List ℕ → List ℕ
hex_text bytes = flat_map byte_text bytes

-- 2. What is said of a frame

-- a rule by which bytes are no frame; out of memory is none of them
abbrev pub unread_name : FrameBad → List ℕ
unread_name NoBottom = codes "NoBottom"
unread_name Short = codes "Short"
unread_name BadPayload = codes "BadPayload"
unread_name NoMemory = []

abbrev pub unread_text : List ℕ → List ℕ
unread_text rule = text (codes "unread " ∷ rule ∷ [])

-- it goes on with these bytes, or is dropped
abbrev pub outcome_text : Network → Forwarded → List ℕ → List ℕ
outcome_text topology (Next hop) bytes = text (codes "next " ∷ node_name topology hop.0 ∷ codes " bytes " ∷ hex_text bytes ∷ [])
outcome_text topology (Site site) bytes = text (codes "site " ∷ site_name topology site.0 ∷ codes " bytes " ∷ hex_text bytes ∷ [])
outcome_text topology (Drop rule) bytes = text (codes "drop " ∷ rule_name rule ∷ [])

-- by what the node's labels lead to after a journal
abbrev pub read_text : Network → List JournalEntry → ℕ → Result (List Entry × List ℕ) FrameBad → List ℕ
read_text topology entries node (Err bad) = unread_text (unread_name bad)
read_text topology entries node (Ok (stack, packet)) =
    let done : Forwarded × Labelled = shown topology entries node (record { entries = stack; packet = packet; room = 2 }) in
    outcome_text topology done.0 (frame_bytes done.1)

-- 3. The line: of a record that the capture has, and of one that it hasn't

abbrev pub frame_text : Network → List JournalEntry → ℕ → Option (List ℕ) → List ℕ
frame_text topology entries node None = unread_text (codes "NoRecord")
frame_text topology entries node (Some bytes) = read_text topology entries node (frame_of bytes)

abbrev pub said_line : Network → ℕ → ℕ → List ℕ → List ℕ
said_line topology node number said =
    text (codes "frame " ∷ node_name topology node ∷ codes " " ∷ decimal number ∷ codes " " ∷ said ∷ codes "\n" ∷ [])

abbrev pub frame_line : Network → List JournalEntry → ℕ → ℕ → Option (List ℕ) → List ℕ
frame_line topology entries node number packet = said_line topology node number (frame_text topology entries node packet)
