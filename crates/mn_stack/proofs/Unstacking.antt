-- The stack at the front of bytes is a stack, and is found again in what is written.
use Rattle.std.proofs.Common.{◌≡◌, ℕ, zero, suc, ◌+◌, ◌*◌, ◌^◌, ◌<◌, ◌≤◌, ◌==◌, Bool, true, false, cond, List, [], ◌∷◌, ◌++◌, length, take, drop, replicate}
use Rattle.std.proofs.Common.{refl, ap, sym, ◌∙◌, zero-add, arith, append_assoc, IsTrue, Option, Some, Result, Ok, Err}
use Rattle.std.specs.Bool.{⊤, if◌then◌else◌}
use Rattle.std.specs.List.{position_from}
use Rattle.std.proofs.lemmas.List.{length-take, length-append, drop-drop, drop_at}
use Rattle.std.proofs.lemmas.Bool.Decides.{nat_tests}
use Rattle.byteorder.specs.Endian.{big_number}
use Rattle.mn_stack.specs.declared.message.Entry.{Entry}
use Rattle.mn_stack.specs.declared.refusal.FrameBad.{FrameBad}
use Rattle.mn_stack.specs.declared.refusal.FrameBad.TheVariants.{BadPayload}
use Rattle.mn_stack.specs.Entry.{Fits, entry_bytes}
use Rattle.mn_stack.specs.Grammar.{IsStack, IsFrame, stack_bytes, is_packet}
use Rattle.mn_stack.specs.Reading.{entries_of, depth_of, frame_at, frame_of}
use Rattle.mn_stack.specs.Kept.{kept, IsKept}
use Rattle.mn_stack.specs.Labelled.{Labelled}
use Rattle.mn_stack.proofs.Entries.{IsBytes, Fits-entry_of, entries_of-entry_bytes, stack_bytes-entries_of, length-entry_bytes}
use Rattle.mn_stack.proofs.Kept.{IsKept-from}

abbrev labelled : List Entry → List ℕ → ℕ → Labelled
labelled entries packet room = record { entries = entries; packet = packet; room = room }

abbrev is_bottom : Entry → Bool
is_bottom entry = entry.bottom

-- each entry fits

abbrev AllFit : List Entry → Type 0
AllFit [] = ⊤
AllFit (entry ∷ below) = Fits entry × AllFit below

four-fit : (a b c d : ℕ) → a < 256 → b < 256 → c < 256 → d < 256 → big_number 4 (a ∷ b ∷ c ∷ d ∷ []) < 2 ^ 32
four-fit a b c d ha hb hc hd = omega arith

AllFit-entries_of : (xs : List ℕ) → IsBytes xs → AllFit (entries_of xs)
unfolding entries_of
AllFit-entries_of (a ∷ b ∷ c ∷ d ∷ rest) bytes = (
  Fits-entry_of (big_number 4 (a ∷ b ∷ c ∷ d ∷ [])) (four-fit a b c d (bytes 0) (bytes 1) (bytes 2) (bytes 3)),
  AllFit-entries_of rest
      (λ i. bytes (suc (suc (suc (suc i))))),
)
AllFit-entries_of _ bytes = tt

-- up to the first bottom

position-some : (es : List Entry) (i n : ℕ) → position_from is_bottom i es ≡ Some n → 0 < length es
position-some [] i n h = cc
position-some (e ∷ es) i n h = omega arith

first-or-later : (b : Bool) (i n : ℕ) (later : Option ℕ) → (later ≡ Some n → i + 1 < n) → cond b (Some (i + 1)) later ≡ Some n → i < n
first-or-later true i n later further h = let same : i + 1 ≡ n = cc in omega arith
first-or-later false i n later further h = let more : i + 1 < n = further h in omega arith

position-after : (es : List Entry) (i n : ℕ) → position_from is_bottom (i + 1) es ≡ Some n → i < n
position-after [] i n h = cc
position-after (e ∷ es) i n h = first-or-later e.bottom i n (position_from is_bottom (i + 1 + 1) es) (position-after es (i + 1) n) h

until-step : (b : Bool) (e : Entry) (es : List Entry) (i n m : ℕ) (later : Option ℕ) → e.bottom ≡ b → Fits e → n ≡ i + suc m →
    (later ≡ Some n → (i + 1 < n) × (0 < length es) × IsStack (take m es)) → cond b (Some (i + 1)) later ≡ Some n → IsStack (e ∷ take m es)
until-step true e es i n zero later bottom fits at further h = (fits, bottom, tt)
until-step true e es i n (suc m) later bottom fits at further h = let same : i + 1 ≡ n = cc in absurd (omega arith)
until-step false e es i n m later bottom fits at further h =
    let f = further h in
    let some : 0 < length (take m es) = omega (arith, length-take m es, f.0, f.1) in
    let no : (length (take m es) == 0) ≡ false = grind (arith, nat_tests) in
    (fits, bottom ∙ sym no, f.2)

stack-until : (es : List Entry) (i n m : ℕ) → AllFit es → n ≡ i + m → position_from is_bottom (i + 1) es ≡ Some n → IsStack (take m es)
stack-until [] i n m fit at h = cc
stack-until (e ∷ es) i n zero fit at h = tt
stack-until (e ∷ es) i n (suc m) fit at h =
    until-step e.bottom e es i n m (position_from is_bottom (i + 1 + 1) es) refl fit.0 at
    (λ later. (position-after es (i + 1) n later, position-some es (i + 1 + 1) n later, stack-until es (i + 1) n m fit.1 (omega arith) later)) h

-- what is read

pub depth-some : (xs : List ℕ) (depth : ℕ) → depth_of xs ≡ Some depth → 0 < depth
depth-some xs depth h = position-after (entries_of xs) 0 depth h

pub IsStack-read : (xs : List ℕ) (depth : ℕ) → IsBytes xs → depth_of xs ≡ Some depth → IsStack (take depth (entries_of xs))
IsStack-read xs depth bytes h = stack-until (entries_of xs) 0 depth depth (AllFit-entries_of xs bytes) (omega arith) h

pub IsFrame-read : (xs : List ℕ) (depth : ℕ) → IsBytes xs → 4 * depth ≤ length xs → depth_of xs ≡ Some depth → IsTrue (is_packet (drop (4 * depth) xs)) →
    IsFrame xs (take depth (entries_of xs)) (drop (4 * depth) xs)
IsFrame-read xs depth bytes there h good = record {
  stack = IsStack-read xs depth bytes h;
  packet_good = good;
  whole = sym (stack_bytes-entries_of depth xs bytes there);
}

-- behind room for two entries
pub kept-read : (xs : List ℕ) (depth : ℕ) → kept 2 depth (replicate 8 0 ++ xs) ≡ record {
  entries = take depth (entries_of xs);
  packet =
      drop (4 * depth) xs;
  room = 2;
}
kept-read xs depth =
    let place : 4 * (2 + depth) ≡ 8 + 4 * depth = omega arith in
    let behind : drop (4 * (2 + depth)) (replicate 8 0 ++ xs) ≡ drop (4 * depth) xs =
    ap (λ n. drop n (replicate 8 0 ++ xs)) place ∙ sym (drop-drop (4 * depth) 8 (replicate 8 0 ++ xs)) in
    ap (λ p. labelled (take depth (entries_of xs)) p 2) behind

pub IsKept-read : (xs : List ℕ) (depth : ℕ) → IsBytes xs → 4 * depth ≤ length xs → depth + 2 < 2 ^ 32 → depth_of xs ≡ Some depth →
    IsTrue (is_packet (drop (4 * depth) xs)) → IsKept 2 depth (replicate 8 0 ++ xs)
IsKept-read xs depth bytes there few h good =
    IsKept-from 2 depth (replicate 8 0 ++ xs) (take depth (entries_of xs)) (drop (4 * depth) xs) (omega arith) (omega (arith, length-append (replicate 8 0) xs))
    (kept-read xs depth) (IsStack-read xs depth bytes h) good

pub frame_of-read : (xs : List ℕ) (depth : ℕ) → depth_of xs ≡ Some depth → is_packet (drop (4 * depth) xs) ≡ true →
    frame_of xs ≡ Ok (take depth (entries_of xs), drop (4 * depth) xs)
frame_of-read xs depth h good =
    let packet = drop (4 * depth) xs in
    let read : Result (List Entry × List ℕ) FrameBad = Ok (take depth (entries_of xs), packet) in
    ap (λ d. frame_at d xs) h ∙ ap (λ b. if b then read else Err BadPayload) good

-- what is written is read again

length-stack_bytes : (es : List Entry) → length (stack_bytes es) ≡ 4 * length es
length-stack_bytes [] = refl
length-stack_bytes (e ∷ below) = omega (arith, length-append (entry_bytes e) (stack_bytes below), length-entry_bytes e, length-stack_bytes below)

entries_of-stack : (e : Entry) (below : List Entry) (packet : List ℕ) → Fits e →
    entries_of (stack_bytes (e ∷ below) ++ packet) ≡ e ∷ entries_of (stack_bytes below ++ packet)
entries_of-stack e below packet fits =
    ap entries_of (append_assoc (entry_bytes e) (stack_bytes below) packet) ∙ entries_of-entry_bytes e (stack_bytes below ++ packet) fits

take-entries : (es : List Entry) (packet : List ℕ) → IsStack es → take (length es) (entries_of (stack_bytes es ++ packet)) ≡ es
take-entries [] packet s = refl
take-entries (e ∷ below) packet s =
    ap (λ fs. take (suc (length below)) fs) (entries_of-stack e below packet s.0) ∙ ap (λ fs. e ∷ fs) (take-entries below packet s.2)

depth-written : (es : List Entry) (i : ℕ) (packet : List ℕ) → IsStack es → 0 < length es →
    position_from is_bottom (i + 1) (entries_of (stack_bytes es ++ packet)) ≡ Some (i + length es)
depth-written [] i packet s some = absurd (omega arith)
depth-written (e ∷ []) i packet s some =
    ap (λ fs. position_from is_bottom (i + 1) fs) (entries_of-stack e [] packet s.0)
    ∙ ap (λ b. cond b (Some (i + 1)) (position_from is_bottom (i + 1 + 1) (entries_of packet))) s.1
depth-written (e ∷ f ∷ below) i packet s some =
    let no : (length (f ∷ below) == 0) ≡ false = grind (arith, nat_tests) in
    let last : i + 1 + length (f ∷ below) ≡ i + length (e ∷ f ∷ below) = omega arith in
    ap (λ fs. position_from is_bottom (i + 1) fs) (entries_of-stack e (f ∷ below) packet s.0)
    ∙ ap (λ b. cond b (Some (i + 1)) (position_from is_bottom (i + 1 + 1) (entries_of (stack_bytes (f ∷ below) ++ packet)))) (s.1 ∙ no)
    ∙ depth-written (f ∷ below) (i + 1) packet s.2 (omega arith)
    ∙ ap (λ n. Some n) last

pub frame_of-written : (bytes : List ℕ) (entries : List Entry) (packet : List ℕ) → IsFrame bytes entries packet → 0 < length entries →
    frame_of bytes ≡ Ok (entries, packet)
frame_of-written bytes entries packet h some =
    let written = stack_bytes entries ++ packet in
    let behind : drop (4 * length entries) written ≡ packet = drop_at (stack_bytes entries) packet (4 * length entries) (length-stack_bytes entries) in
    let good : is_packet (drop (4 * length entries) written) ≡ true = ap is_packet behind ∙ h.packet_good in
    let read : Result (List Entry × List ℕ) FrameBad = Ok (entries, packet) in
    ap frame_of h.whole
    ∙ frame_of-read written (length entries) (depth-written entries 0 packet h.stack some ∙ ap (λ n. Some n) (zero-add (length entries))) good
    ∙ ap (λ es. Ok (es, drop (4 * length entries) written)) (take-entries entries packet h.stack)
    ∙ ap (λ p. Ok (entries, p)) behind
