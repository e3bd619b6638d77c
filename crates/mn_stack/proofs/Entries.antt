-- Entries as numbers, and the entries at the front of bytes.
use Rattle.std.proofs.Common.{◌≡◌, ℕ, zero, suc, ◌+◌, ◌*◌, ◌/◌, ◌%◌, ◌^◌, ◌<◌, ◌≤◌, ◌-◌, ◌==◌, Bool, true, false, List, [], ◌∷◌, ◌++◌, length, take, drop}
use Rattle.std.proofs.Common.{get_or, refl, ap, sym, ◌∙◌, arith, append_assoc, bit_or, bit_and, cond, Some, None}
use Rattle.std.specs.List.{position_from}
use Rattle.std.proofs.lemmas.List.{length-drop, length-take-le, drop-drop, drop_at, drop_all, take_rest, append-nil}
use Rattle.std.proofs.lemmas.Nat.{or_shifted, and_mask}
use Rattle.std.proofs.lemmas.Bool.Decides.{nat_tests}
use mir.Val.{bool_byte}
use borrow.Rule.Slice.PartMut.{put_mid}
use Rattle.byteorder.specs.Endian.{big_bytes, big_number}
use Rattle.byteorder.specs.Numbers.{big_number-reads_back}
use Rattle.mn_stack.specs.declared.message.Entry.{Entry}
use Rattle.mn_stack.specs.Entry.{Fits, bit, number_of, entry_of, entry_bytes}
use Rattle.mn_stack.specs.Grammar.{stack_bytes}
use Rattle.mn_stack.specs.Reading.{entries_of}

-- each is a byte
abbrev pub IsBytes : List ℕ → Type 0
IsBytes bs = (i : ℕ) → get_or bs i 0 < 256

pub IsBytes-drop : (n : ℕ) (bs : List ℕ) → IsBytes bs → IsBytes (drop n bs)
IsBytes-drop zero bs h = h
IsBytes-drop (suc n) [] h = h
IsBytes-drop (suc n) (b ∷ bs) h = IsBytes-drop n bs (λ i. h (suc i))

-- an entry and its number

bit-odd : (n : ℕ) → bit (n % 2 == 1) ≡ n % 2
bit-odd n = grind (arith, nat_tests)

pub bit-le : (b : Bool) → bit b ≤ 1
bit-le true = omega arith
bit-le false = omega arith

bit-is : (b : Bool) → (bit b == 1) ≡ b
bit-is true = refl
bit-is false = refl

pub number_of-entry_of : (n : ℕ) → number_of (entry_of n) ≡ n
number_of-entry_of n = let s = bit-odd (n / 2 ^ 8) in omega arith

pub number_of-lt : (e : Entry) → Fits e → number_of e < 2 ^ 32
number_of-lt e f =
    let l : e.label < 2 ^ 20 = f.label in
    let x : e.exp < 2 ^ 3 = f.exp in
    let t : e.ttl < 2 ^ 8 = f.ttl in
    let s : bit e.bottom ≤ 1 = bit-le e.bottom in
    omega arith

abbrev made : ℕ → ℕ → Bool → ℕ → Entry
made l x b t = record { label = l; exp = x; bottom = b; ttl = t }

same_entry : (e f : Entry) → e.label ≡ f.label → e.exp ≡ f.exp → e.bottom ≡ f.bottom → e.ttl ≡ f.ttl → e ≡ f
same_entry e f label exp bottom ttl =
    ap (λ l. made l e.exp e.bottom e.ttl) label
    ∙ ap (λ x. made f.label x e.bottom e.ttl) exp
    ∙ ap (λ b. made f.label f.exp b e.ttl) bottom
    ∙ ap (λ t. made f.label f.exp f.bottom t) ttl

pub entry_of-number_of : (e : Entry) → Fits e → entry_of (number_of e) ≡ e
entry_of-number_of e f =
    let l : e.label < 2 ^ 20 = f.label in
    let x : e.exp < 2 ^ 3 = f.exp in
    let t : e.ttl < 2 ^ 8 = f.ttl in
    let s : bit e.bottom ≤ 1 = bit-le e.bottom in
    let n = number_of e in
    let label : n / 2 ^ 12 ≡ e.label = omega arith in
    let exp : n / 2 ^ 9 % 2 ^ 3 ≡ e.exp = omega arith in
    let low : n / 2 ^ 8 % 2 ≡ bit e.bottom = omega arith in
    let bottom : (n / 2 ^ 8 % 2 == 1) ≡ e.bottom = ap (λ m. m == 1) low ∙ bit-is e.bottom in
    let ttl : n % 2 ^ 8 ≡ e.ttl = omega arith in
    same_entry (entry_of n) e label exp bottom ttl

pub Fits-entry_of : (n : ℕ) → n < 2 ^ 32 → Fits (entry_of n)
Fits-entry_of n h = record { label = omega arith; exp = omega arith; ttl = omega arith }

-- the fields put together, each in its place
pub or-fields : (l x s t : ℕ) → l < 2 ^ 20 → x < 2 ^ 3 → s ≤ 1 → t < 2 ^ 8 →
    bit_or (bit_or (bit_or (l * 2 ^ 12 % 2 ^ 32) (x * 2 ^ 9 % 2 ^ 32)) (s * 2 ^ 8 % 2 ^ 32)) t ≡ l * 2 ^ 12 + x * 2 ^ 9 + s * 2 ^ 8 + t
or-fields l x s t hl hx hs ht =
    let a : l * 2 ^ 12 % 2 ^ 32 ≡ l * 2 ^ 12 = omega arith in
    let b : x * 2 ^ 9 % 2 ^ 32 ≡ x * 2 ^ 9 = omega arith in
    let c : s * 2 ^ 8 % 2 ^ 32 ≡ s * 2 ^ 8 = omega arith in
    let two : bit_or (l * 2 ^ 12) (x * 2 ^ 9) ≡ l * 2 ^ 12 + x * 2 ^ 9 = or_shifted l 12 (x * 2 ^ 9) (omega arith) in
    let as_two : l * 2 ^ 12 + x * 2 ^ 9 ≡ (l * 8 + x) * 2 ^ 9 = omega arith in
    let three : bit_or ((l * 8 + x) * 2 ^ 9) (s * 2 ^ 8) ≡ (l * 8 + x) * 2 ^ 9 + s * 2 ^ 8 = or_shifted (l * 8 + x) 9 (s * 2 ^ 8) (omega arith) in
    let as_three : (l * 8 + x) * 2 ^ 9 + s * 2 ^ 8 ≡ ((l * 8 + x) * 2 + s) * 2 ^ 8 = omega arith in
    let all : bit_or (((l * 8 + x) * 2 + s) * 2 ^ 8) t ≡ ((l * 8 + x) * 2 + s) * 2 ^ 8 + t = or_shifted ((l * 8 + x) * 2 + s) 8 t ht in
    let last : ((l * 8 + x) * 2 + s) * 2 ^ 8 + t ≡ l * 2 ^ 12 + x * 2 ^ 9 + s * 2 ^ 8 + t = omega arith in
    cc

-- four bytes and their number

four : {a b c d p q r s : ℕ} → p ≡ a → q ≡ b → r ≡ c → s ≡ d → p ∷ q ∷ r ∷ s ∷ [] ≡ a ∷ b ∷ c ∷ d ∷ []
four {a} {b} {c} {d} {p} {q} {r} {s} first second third fourth = cc

number-four : (a b c d : ℕ) → a < 256 → b < 256 → c < 256 → d < 256 → big_bytes 4 (big_number 4 (a ∷ b ∷ c ∷ d ∷ [])) ≡ a ∷ b ∷ c ∷ d ∷ []
number-four a b c d ha hb hc hd =
    let n = big_number 4 (a ∷ b ∷ c ∷ d ∷ []) in
    let first : n / 256 ^ 3 % 256 ≡ a = omega arith in
    let second : n / 256 ^ 2 % 256 ≡ b = omega arith in
    let third : n / 256 ^ 1 % 256 ≡ c = omega arith in
    let fourth : n % 256 ≡ d = omega arith in
    four first second third fourth

number-front : (a b c d : ℕ) (rest : List ℕ) → big_number 4 (a ∷ b ∷ c ∷ d ∷ rest) ≡ big_number 4 (a ∷ b ∷ c ∷ d ∷ [])
number-front a b c d rest = refl

-- the entry at the front

pub entries_of-first : (xs : List ℕ) → 4 ≤ length xs → entries_of xs ≡ entry_of (big_number 4 xs) ∷ entries_of (drop 4 xs)
unfolding entries_of
entries_of-first (a ∷ b ∷ c ∷ d ∷ rest) h = refl
entries_of-first _ h = absurd (omega arith)

pub entries_of-none : (xs : List ℕ) → length xs < 4 → entries_of xs ≡ []
unfolding entries_of
entries_of-none (a ∷ b ∷ c ∷ d ∷ rest) h = absurd (omega arith)
entries_of-none _ h = refl

pub entry_bytes-first : (xs : List ℕ) → IsBytes xs → 4 ≤ length xs → entry_bytes (entry_of (big_number 4 xs)) ++ drop 4 xs ≡ xs
unfolding entry_bytes
entry_bytes-first (a ∷ b ∷ c ∷ d ∷ rest) bytes h =
    let n = big_number 4 (a ∷ b ∷ c ∷ d ∷ []) in
    ap (λ ys. ys ++ rest) (ap (λ m. big_bytes 4 m) (number_of-entry_of n) ∙ number-four a b c d (bytes 0) (bytes 1) (bytes 2) (bytes 3))
entry_bytes-first _ bytes h = absurd (omega arith)

-- four bytes are an entry, and nothing else
pub entry_bytes-four : (xs : List ℕ) → IsBytes xs → length xs ≡ 4 → entry_bytes (entry_of (big_number 4 xs)) ≡ xs
entry_bytes-four xs bytes h =
    let none : drop 4 xs ≡ [] = drop_all 4 xs (omega arith) in
    sym (append-nil (entry_bytes (entry_of (big_number 4 xs))))
    ∙ ap (λ ys. entry_bytes (entry_of (big_number 4 xs)) ++ ys) (sym none)
    ∙ entry_bytes-first xs bytes (omega arith)

pub length-entry_bytes : (e : Entry) → length (entry_bytes e) ≡ 4
unfolding entry_bytes
length-entry_bytes e = refl

pub entries_of-entry_bytes : (e : Entry) (xs : List ℕ) → Fits e → entries_of (entry_bytes e ++ xs) ≡ e ∷ entries_of xs
unfolding entry_bytes
entries_of-entry_bytes e xs f =
    let n : big_number 4 (entry_bytes e ++ xs) ≡ number_of e = big_number-reads_back 4 (number_of e) xs (number_of-lt e f) in
    entries_of-first (entry_bytes e ++ xs) (omega arith)
    ∙ ap (λ m. entry_of m ∷ entries_of xs) n
    ∙ ap (λ g. g ∷ entries_of xs) (entry_of-number_of e f)

-- as many entries as there is room for

pub stack_bytes-entries_of : (depth : ℕ) (xs : List ℕ) → IsBytes xs → 4 * depth ≤ length xs →
    stack_bytes (take depth (entries_of xs)) ++ drop (4 * depth) xs ≡ xs
stack_bytes-entries_of zero xs bytes h = refl
stack_bytes-entries_of (suc depth) xs bytes h =
    let e = entry_of (big_number 4 xs) in
    let rest = drop 4 xs in
    let further : 4 * depth ≤ length rest = omega (arith, length-drop 4 xs) in
    let same : stack_bytes (take depth (entries_of rest)) ++ drop (4 * depth) rest ≡ rest =
    stack_bytes-entries_of depth rest (IsBytes-drop 4 xs bytes) further in
    let place : 4 * suc depth ≡ 4 + 4 * depth = omega arith in
    let behind : drop (4 * suc depth) xs ≡ drop (4 * depth) rest = ap (λ n. drop n xs) place ∙ sym (drop-drop (4 * depth) 4 xs) in
    ap (λ es. stack_bytes (take (suc depth) es) ++ drop (4 * suc depth) xs) (entries_of-first xs (omega arith))
    ∙ ap (λ ys. stack_bytes (e ∷ take depth (entries_of rest)) ++ ys) behind
    ∙ append_assoc (entry_bytes e) (stack_bytes (take depth (entries_of rest))) (drop (4 * depth) rest)
    ∙ ap (λ ys. entry_bytes e ++ ys) same
    ∙ entry_bytes-first xs bytes (omega arith)

pub length-take-entries_of : (depth : ℕ) (xs : List ℕ) → 4 * depth ≤ length xs → length (take depth (entries_of xs)) ≡ depth
length-take-entries_of zero xs h = refl
length-take-entries_of (suc depth) xs h =
    ap (λ es. length (take (suc depth) es)) (entries_of-first xs (omega arith))
    ∙ ap suc (length-take-entries_of depth (drop 4 xs) (omega (arith, length-drop 4 xs)))

pub take-entries_of-append : (depth : ℕ) (xs ys : List ℕ) → length xs ≡ 4 * depth → take depth (entries_of (xs ++ ys)) ≡ entries_of xs
unfolding entries_of
take-entries_of-append zero [] ys h = refl
take-entries_of-append (suc depth) (a ∷ b ∷ c ∷ d ∷ rest) ys h =
    ap (λ es. entry_of (big_number 4 (a ∷ b ∷ c ∷ d ∷ [])) ∷ es) (take-entries_of-append depth rest ys (omega arith))
take-entries_of-append _ _ ys h = absurd (omega arith)

-- how deep the stack is, from an entry on

third-odd : (a b c d : ℕ) → a < 256 → b < 256 → c < 256 → d < 256 → (entry_of (big_number 4 (a ∷ b ∷ c ∷ d ∷ []))).bottom ≡ (c % 2 == 1)
third-odd a b c d ha hb hc hd =
    let n = big_number 4 (a ∷ b ∷ c ∷ d ∷ []) in
    let low : n / 2 ^ 8 % 2 ≡ c % 2 = omega arith in
    ap (λ m. m == 1) low

pub depth-found : (depth : ℕ) (xs : List ℕ) → IsBytes xs → 4 ≤ length xs → bit_and (get_or xs 2 0) 1 ≡ 1 →
    Some (depth + 1) ≡ position_from (λ entry. entry.bottom) (depth + 1) (entries_of xs)
unfolding entries_of
depth-found depth (a ∷ b ∷ c ∷ d ∷ rest) bytes h odd =
    let low : c % 2 ≡ 1 = sym (and_mask c 1) ∙ odd in
    let third : (entry_of (big_number 4 (a ∷ b ∷ c ∷ d ∷ []))).bottom ≡ true =
    third-odd a b c d (bytes 0) (bytes 1) (bytes 2) (bytes 3) ∙ ap (λ m. m == 1) low in
    sym (ap (λ t. cond t (Some (depth + 1)) (position_from (λ (entry : Entry). entry.bottom) (depth + 1 + 1) (entries_of rest))) third)
depth-found depth _ bytes h odd = absurd (omega arith)

pub depth-further : (depth : ℕ) (xs : List ℕ) → IsBytes xs → 4 ≤ length xs → (bit_and (get_or xs 2 0) 1 ≡ 1 → ⊥) →
    position_from (λ entry. entry.bottom) (depth + 1 + 1) (entries_of (drop 4 xs)) ≡ position_from (λ entry. entry.bottom) (depth + 1) (entries_of xs)
unfolding entries_of
depth-further depth (a ∷ b ∷ c ∷ d ∷ rest) bytes h even =
    let not_low : c % 2 ≡ 1 → ⊥ = λ e. even (and_mask c 1 ∙ e) in
    let low : c % 2 ≡ 0 = omega arith in
    let third : (entry_of (big_number 4 (a ∷ b ∷ c ∷ d ∷ []))).bottom ≡ false =
    third-odd a b c d (bytes 0) (bytes 1) (bytes 2) (bytes 3) ∙ ap (λ m. m == 1) low in
    sym (ap (λ t. cond t (Some (depth + 1)) (position_from (λ (entry : Entry). entry.bottom) (depth + 1 + 1) (entries_of rest))) third)
depth-further depth _ bytes h odd = absurd (omega arith)

pub depth-none : (depth : ℕ) (xs : List ℕ) → length xs < 4 → None ≡ position_from (λ entry. entry.bottom) (depth + 1) (entries_of xs)
depth-none depth xs h = ap (λ es. position_from (λ (entry : Entry). entry.bottom) (depth + 1) es) (sym (entries_of-none xs h))

pub rest-further : (depth : ℕ) (rest xs : List ℕ) → rest ≡ drop (4 * depth) xs → drop 4 rest ≡ drop (4 * (depth + 1)) xs
rest-further depth rest xs e =
    let place : 4 * depth + 4 ≡ 4 * (depth + 1) = omega arith in
    ap (λ ys. drop 4 ys) e ∙ drop-drop 4 (4 * depth) xs ∙ ap (λ n. drop n xs) place

pub byte-of_bool : (b : Bool) → bool_byte b ≡ bit b
byte-of_bool true = refl
byte-of_bool false = refl

-- four bytes written at a place, seen from there on
pub drop-written : (place : ℕ) (xs part new : List ℕ) → place + 4 ≤ length xs →
    part ≡ new ++ drop 4 (take (length xs - place) (drop place xs)) →
    drop place (put_mid place (length xs - place) xs part) ≡ new ++ drop (place + 4) xs
drop-written place xs part new h e =
    let rest : take (length xs - place) (drop place xs) ≡ drop place xs = take_rest xs place in
    let none : drop (length xs - place) (drop place xs) ≡ [] = drop_all (length xs - place) (drop place xs) (omega (arith, length-drop place xs)) in
    let front : length (take place xs) ≡ place = length-take-le place xs (omega arith) in
    drop_at (take place xs) (part ++ drop (length xs - place) (drop place xs)) place front
    ∙ ap (λ ys. part ++ ys) none
    ∙ append-nil part
    ∙ e
    ∙ ap (λ ys. new ++ drop 4 ys) rest
    ∙ ap (λ ys. new ++ ys) (drop-drop 4 place xs)

pub entry-from_bytes : (a b : Entry) → Fits a → Fits b → entry_bytes a ≡ entry_bytes b → a ≡ b
entry-from_bytes a b fa fb e =
    let both : a ∷ entries_of [] ≡ b ∷ entries_of [] =
    sym (entries_of-entry_bytes a [] fa) ∙ ap (λ ys. entries_of (ys ++ [])) e ∙ entries_of-entry_bytes b [] fb in
    cc
