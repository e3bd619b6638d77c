-- How a frame is kept, and what is left of it after a change of its bytes.
use Rattle.std.proofs.Common.{◌≡◌, ℕ, suc, ◌+◌, ◌*◌, ◌-◌, ◌^◌, ◌<◌, ◌≤◌, ◌==◌, List, [], ◌∷◌, ◌++◌, length, take, drop, refl, ap, sym, ◌∙◌, subst, arith}
use Rattle.std.proofs.Common.{IsTrue}
use Rattle.std.proofs.lemmas.List.{length-drop, length-take-le, drop-drop, drop_at, drop-append-le, drop-take, take_at, take-append-drop}
use Rattle.std.proofs.lemmas.Bool.Decides.{nat_tests}
use Rattle.mn_ipv4.specs.Header.{good, ttl_of, with_ttl, aged, total_length}
use Rattle.mn_ipv4.proofs.Laws.{IsGood-from_good, length-with_ttl, get_or-with_ttl, ttl_of-with_ttl, aged-whole}
use Rattle.byteorder.specs.Endian.{big_number}
use Rattle.mn_stack.specs.declared.message.Entry.{Entry}
use Rattle.mn_stack.specs.Entry.{Fits, entry_of, entry_bytes}
use Rattle.mn_stack.specs.Grammar.{IsStack, stack_bytes, is_packet}
use Rattle.mn_stack.specs.Reading.{entries_of}
use Rattle.mn_stack.specs.Kept.{kept, IsKept}
use Rattle.mn_stack.specs.Labelled.{Labelled, frame_bytes, popped}
use Rattle.mn_stack.proofs.Entries.{IsBytes, IsBytes-drop, entries_of-first, entries_of-entry_bytes, stack_bytes-entries_of, length-take-entries_of}
use Rattle.mn_stack.proofs.Entries.{take-entries_of-append, length-entry_bytes}

abbrev labelled : List Entry → List ℕ → ℕ → Labelled
labelled entries packet room = record { entries = entries; packet = packet; room = room }

-- the packet, seen from the top entry on
packet-behind : (room depth : ℕ) (bytes : List ℕ) → drop (4 * depth) (drop (4 * room) bytes) ≡ drop (4 * (room + depth)) bytes
packet-behind room depth bytes =
    let place : 4 * room + 4 * depth ≡ 4 * (room + depth) = omega arith in
    drop-drop (4 * depth) (4 * room) bytes ∙ ap (λ n. drop n bytes) place

long-enough : (room depth : ℕ) (bytes : List ℕ) → 4 * (room + depth) ≤ length bytes → 4 * depth ≤ length (drop (4 * room) bytes)
long-enough room depth bytes h = omega (arith, length-drop (4 * room) bytes)

pub length-entries : (room depth : ℕ) (bytes : List ℕ) → IsKept room depth bytes → length (kept room depth bytes).entries ≡ depth
length-entries room depth bytes k = length-take-entries_of depth (drop (4 * room) bytes) (long-enough room depth bytes k.there)

-- the bytes of a frame are those behind the room
pub bytes-kept : (room depth : ℕ) (bytes : List ℕ) → IsBytes bytes → IsKept room depth bytes → drop (4 * room) bytes ≡ frame_bytes (kept room depth bytes)
bytes-kept room depth bytes fit k =
    let frame = drop (4 * room) bytes in
    sym (stack_bytes-entries_of depth frame (IsBytes-drop (4 * room) bytes fit) (long-enough room depth bytes k.there))
    ∙ ap (λ ys. stack_bytes (take depth (entries_of frame)) ++ ys) (packet-behind room depth bytes)

-- only the bytes behind the room count
kept-same : (room depth : ℕ) (xs ys : List ℕ) → drop (4 * room) xs ≡ drop (4 * room) ys → kept room depth xs ≡ kept room depth ys
kept-same room depth xs ys e =
    let packet : drop (4 * (room + depth)) xs ≡ drop (4 * (room + depth)) ys =
    sym (packet-behind room depth xs) ∙ ap (λ zs. drop (4 * depth) zs) e ∙ packet-behind room depth ys in
    ap (λ zs. labelled (take depth (entries_of zs)) (drop (4 * (room + depth)) xs) room) e
    ∙ ap (λ p. labelled (take depth (entries_of (drop (4 * room) ys))) p room) packet

-- the top entry, and what is below it
pub kept-first : (room next below depth : ℕ) (bytes : List ℕ) → next ≡ room + 1 → depth ≡ below + 1 → 4 * (room + depth) ≤ length bytes →
    kept room depth bytes ≡ labelled (entry_of (big_number 4 (drop (4 * room) bytes)) ∷ (kept next below bytes).entries) (kept next below bytes).packet room
kept-first room next below depth bytes is_next is_depth there =
    let frame = drop (4 * room) bytes in
    let top = entry_of (big_number 4 frame) in
    let as_suc : depth ≡ suc below = omega arith in
    let second : 4 * room + 4 ≡ 4 * next = omega arith in
    let last : 4 * (room + depth) ≡ 4 * (next + below) = omega arith in
    let rest : drop 4 frame ≡ drop (4 * next) bytes = drop-drop 4 (4 * room) bytes ∙ ap (λ n. drop n bytes) second in
    let first : entries_of frame ≡ top ∷ entries_of (drop (4 * next) bytes) =
    entries_of-first frame (omega (arith, length-drop (4 * room) bytes)) ∙ ap (λ ys. top ∷ entries_of ys) rest in
    ap (λ d. labelled (take d (entries_of frame)) (drop (4 * (room + depth)) bytes) room) as_suc
    ∙ ap (λ es. labelled (take (suc below) es) (drop (4 * (room + depth)) bytes) room) first
    ∙ ap (λ n. labelled (top ∷ take below (entries_of (drop (4 * next) bytes))) (drop n bytes) room) last

-- an entry written in front
pub kept-written : (room next below depth : ℕ) (old new : List ℕ) (entry : Entry) → Fits entry → next ≡ room + 1 → depth ≡ below + 1 →
    drop (4 * room) new ≡ entry_bytes entry ++ drop (4 * room + 4) old →
    kept room depth new ≡ labelled (entry ∷ (kept next below old).entries) (kept next below old).packet room
kept-written room next below depth old new entry fits is_next is_depth written =
    let behind = drop (4 * next) old in
    let as_suc : depth ≡ suc below = omega arith in
    let second : 4 * room + 4 ≡ 4 * next = omega arith in
    let last : 4 * (room + depth) ≡ 4 * (next + below) = omega arith in
    let front : drop (4 * room) new ≡ entry_bytes entry ++ behind = written ∙ ap (λ n. entry_bytes entry ++ drop n old) second in
    let first : entries_of (drop (4 * room) new) ≡ entry ∷ entries_of behind = ap entries_of front ∙ entries_of-entry_bytes entry behind fits in
    let rest : drop (4 * next) new ≡ behind =
    ap (λ n. drop n new) (sym second) ∙ sym (drop-drop 4 (4 * room) new) ∙ ap (λ ys. drop 4 ys) front
    ∙ drop_at (entry_bytes entry) behind 4 (length-entry_bytes entry) in
    let packet : drop (4 * (room + depth)) new ≡ (kept next below old).packet =
    ap (λ n. drop n new) last ∙ sym (packet-behind next below new) ∙ ap (λ ys. drop (4 * below) ys) rest ∙ packet-behind next below old in
    ap (λ d. labelled (take d (entries_of (drop (4 * room) new))) (drop (4 * (room + depth)) new) room) as_suc
    ∙ ap (λ es. labelled (take (suc below) es) (drop (4 * (room + depth)) new) room) first
    ∙ ap (λ p. labelled (entry ∷ take below (entries_of behind)) p room) packet

-- what is kept is a frame wherever its entries are a stack and its packet is good
pub IsKept-from : (room depth : ℕ) (bytes : List ℕ) (entries : List Entry) (packet : List ℕ) → room + depth < 2 ^ 32 → 4 * (room + depth) ≤ length bytes →
    kept room depth bytes ≡ labelled entries packet room → IsStack entries → IsTrue (is_packet packet) → IsKept room depth bytes
IsKept-from room depth bytes entries packet counted there same stack good = record {
  counted = counted;
  there = there;
  stack = subst (λ (f : Labelled). IsStack f.entries) (sym same) stack;
  packet = subst (λ (f : Labelled). IsTrue (is_packet f.packet)) (sym same) good;
}

-- without the top entry
pub kept-popped : (room depth : ℕ) (bytes : List ℕ) → 0 < depth → IsKept room depth bytes →
    kept (room + 1) (depth - 1) bytes ≡ labelled (popped (kept room depth bytes).entries) (kept room depth bytes).packet (room + 1)
kept-popped room depth bytes some k =
    let first = kept-first room (room + 1) (depth - 1) depth bytes refl (omega arith) k.there in
    sym (ap (λ (f : Labelled). labelled (popped f.entries) f.packet (room + 1)) first)

IsStack-popped : (entries : List Entry) → IsStack entries → IsStack (popped entries)
IsStack-popped [] s = s
IsStack-popped (entry ∷ below) s = s.2

pub IsKept-popped : (room depth : ℕ) (bytes : List ℕ) → 0 < depth → IsKept room depth bytes → IsKept (room + 1) (depth - 1) bytes
IsKept-popped room depth bytes some k =
    IsKept-from (room + 1) (depth - 1) bytes (popped (kept room depth bytes).entries) (kept room depth bytes).packet (omega arith) (omega arith)
    (kept-popped room depth bytes some k) (IsStack-popped (kept room depth bytes).entries k.stack) k.packet

-- another entry in the place of the top one

pub kept-put_top : (room depth : ℕ) (old new : List ℕ) (entry : Entry) → 0 < depth → IsKept room depth old → Fits entry →
    drop (4 * room) new ≡ entry_bytes entry ++ drop (4 * room + 4) old →
    kept room depth new ≡ labelled (entry ∷ popped (kept room depth old).entries) (kept room depth old).packet room
kept-put_top room depth old new entry some k fits written =
    kept-written room (room + 1) (depth - 1) depth old new entry fits refl (omega arith) written
    ∙ ap (λ (f : Labelled). labelled (entry ∷ f.entries) f.packet room) (kept-popped room depth old some k)

bottom-below : (entries : List Entry) → 0 < length entries → (length entries == 1) ≡ (length (popped entries) == 0)
bottom-below [] some = absurd (omega arith)
bottom-below (entry ∷ below) some = grind (arith, nat_tests)

pub IsKept-put_top : (room depth : ℕ) (old new : List ℕ) (entry : Entry) → 0 < depth → IsKept room depth old → Fits entry →
    entry.bottom ≡ (length (kept room depth old).entries == 1) → length new ≡ length old →
    drop (4 * room) new ≡ entry_bytes entry ++ drop (4 * room + 4) old → IsKept room depth new
IsKept-put_top room depth old new entry some k fits bottom same written =
    let entries = (kept room depth old).entries in
    let deep : length entries ≡ depth = length-entries room depth old k in
    IsKept-from room depth new (entry ∷ popped entries) (kept room depth old).packet k.counted (omega (arith, k.there))
    (kept-put_top room depth old new entry some k fits written)
    (fits, bottom ∙ bottom-below entries (omega arith), IsStack-popped entries k.stack) k.packet

-- one more entry on top

pub kept-pushed : (room depth : ℕ) (old new : List ℕ) (entry : Entry) → 0 < room → Fits entry →
    drop (4 * (room - 1)) new ≡ entry_bytes entry ++ drop (4 * (room - 1) + 4) old →
    kept (room - 1) (depth + 1) new ≡ labelled (entry ∷ (kept room depth old).entries) (kept room depth old).packet (room - 1)
kept-pushed room depth old new entry some fits written =
    kept-written (room - 1) room depth (depth + 1) old new entry fits (omega arith) refl written

pub IsKept-pushed : (room depth : ℕ) (old new : List ℕ) (entry : Entry) → 0 < room → IsKept room depth old → Fits entry →
    entry.bottom ≡ (length (kept room depth old).entries == 0) → length new ≡ length old →
    drop (4 * (room - 1)) new ≡ entry_bytes entry ++ drop (4 * (room - 1) + 4) old → IsKept (room - 1) (depth + 1) new
IsKept-pushed room depth old new entry some k fits bottom same written =
    IsKept-from (room - 1) (depth + 1) new (entry ∷ (kept room depth old).entries) (kept room depth old).packet (omega (arith, k.counted))
    (omega (arith, k.there))
    (kept-pushed room depth old new entry some fits written)
    (fits, bottom, k.stack) k.packet

-- another packet behind the stack

pub kept-repacked : (room depth : ℕ) (old new packet : List ℕ) → 4 * (room + depth) ≤ length old → new ≡ take (4 * (room + depth)) old ++ packet →
    kept room depth new ≡ labelled (kept room depth old).entries packet room
kept-repacked room depth old new packet there written =
    let place = 4 * (room + depth) in
    let frame = drop (4 * room) old in
    let stack = take (4 * depth) frame in
    let long : length stack ≡ 4 * depth = length-take-le (4 * depth) frame (omega (arith, length-drop (4 * room) old)) in
    let split : place ≡ 4 * room + 4 * depth = omega arith in
    let front : length (take place old) ≡ place = length-take-le place old there in
    let behind_room : drop (4 * room) new ≡ stack ++ packet =
    ap (λ ys. drop (4 * room) ys) written
    ∙ drop-append-le (4 * room) (take place old) packet (omega arith)
    ∙ ap (λ n. drop (4 * room) (take n old) ++ packet) split
    ∙ ap (λ ys. ys ++ packet) (drop-take (4 * room) (4 * depth) old) in
    let entries : take depth (entries_of (drop (4 * room) new)) ≡ entries_of stack =
    ap (λ ys. take depth (entries_of ys)) behind_room ∙ take-entries_of-append depth stack packet long in
    let entries_before : take depth (entries_of frame) ≡ entries_of stack =
    ap (λ ys. take depth (entries_of ys)) (sym (take-append-drop (4 * depth) frame)) ∙ take-entries_of-append depth stack (drop (4 * depth) frame) long in
    let behind : drop place new ≡ packet = ap (λ ys. drop place ys) written ∙ drop_at (take place old) packet place front in
    ap (λ es. labelled es (drop place new) room) (entries ∙ sym entries_before)
    ∙ ap (λ p. labelled (take depth (entries_of frame)) p room) behind

is_packet-same : (old new : List ℕ) → IsTrue (is_packet old) → IsTrue (good new) → length new ≡ length old → total_length new ≡ total_length old →
    IsTrue (is_packet new)
is_packet-same old new h still long total = grind (arith, nat_tests)

pub is_packet-parts : (packet : List ℕ) → IsTrue (is_packet packet) → IsTrue (good packet) × (length packet ≡ total_length packet)
is_packet-parts packet h = (grind (arith, nat_tests), grind (arith, nat_tests))

pub ttl_of-packet : (packet : List ℕ) (ttl : ℕ) → IsTrue (is_packet packet) → ttl_of (with_ttl packet ttl) ≡ ttl
ttl_of-packet packet ttl h = let g = IsGood-from_good packet (is_packet-parts packet h).0 in ttl_of-with_ttl packet ttl (omega arith)

pub with_ttl-is_aged_packet : (packet : List ℕ) (ttl : ℕ) → IsTrue (is_packet packet) → ttl ≤ ttl_of packet →
    with_ttl packet ttl ≡ aged packet (ttl_of packet - ttl)
with_ttl-is_aged_packet packet ttl h low =
    let same : ttl_of packet - (ttl_of packet - ttl) ≡ ttl = omega arith in
    ap (λ n. with_ttl packet n) (sym same) ∙ sym (aged-whole packet (ttl_of packet - ttl) (is_packet-parts packet h).1)

pub is_packet-with_ttl : (packet : List ℕ) (ttl : ℕ) → IsTrue (is_packet packet) → IsTrue (good (with_ttl packet ttl)) →
    IsTrue (is_packet (with_ttl packet ttl))
is_packet-with_ttl packet ttl h still =
    let third = get_or-with_ttl packet ttl 2 (omega arith) (omega arith) (omega arith) in
    let fourth = get_or-with_ttl packet ttl 3 (omega arith) (omega arith) (omega arith) in
    let total : total_length (with_ttl packet ttl) ≡ total_length packet = ap (λ (m : ℕ). m) (omega arith) in
    is_packet-same packet (with_ttl packet ttl) h still (length-with_ttl packet ttl) total

pub IsKept-repacked : (room depth : ℕ) (old new packet : List ℕ) → IsKept room depth old → length new ≡ length old →
    new ≡ take (4 * (room + depth)) old ++ packet → IsTrue (is_packet packet) → IsKept room depth new
IsKept-repacked room depth old new packet k same written good =
    IsKept-from room depth new (kept room depth old).entries packet k.counted (omega (arith, k.there))
    (kept-repacked room depth old new packet k.there written) k.stack good

-- all of a vector's elements written
pub all-written : (len : ℕ) (new old : List ℕ) → length new ≡ len → take len (new ++ drop (length new) old) ≡ new
all-written len new old h = take_at new (drop (length new) old) len h

-- the top entry is the bottom where it is the only one
pub bottom-first : (room depth : ℕ) (bytes : List ℕ) (top : Entry) (rest : List Entry) → 0 < depth → IsKept room depth bytes →
    entries_of (drop (4 * room) bytes) ≡ top ∷ rest → top.bottom ≡ (length (kept room depth bytes).entries == 1)
bottom-first room depth bytes top rest some k first =
    let as_suc : depth ≡ suc (depth - 1) = omega arith in
    let entries : (kept room depth bytes).entries ≡ top ∷ take (depth - 1) rest =
    ap (λ d. take d (entries_of (drop (4 * room) bytes))) as_suc ∙ ap (λ es. take (suc (depth - 1)) es) first in
    let stack : IsStack (top ∷ take (depth - 1) rest) = subst IsStack entries k.stack in
    stack.1 ∙ sym (bottom-below (top ∷ take (depth - 1) rest) (omega arith)) ∙ ap (λ es. length es == 1) (sym entries)
