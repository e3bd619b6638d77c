-- The pieces of a text are those of its words.
use Rattle.std.proofs.Common.{◌≡◌, ℕ, Bool, true, false, cond, List, [], ◌∷◌, ◌++◌, map, refl, ap, sym, ◌∙◌, append_assoc}
use Rattle.std.proofs.lemmas.Bool.{eqb-true}
use Rattle.std.specs.List.{slice_split, onto_first}
use Rattle.mn_text.specs.Words.{is_blank, words}
use Rattle.mn_failures.specs.Cutting.{is_comma, pieces, spaced, parts_of}
use Rattle.mn_failures.proofs.Bytes.{first_of, but_first, put, head_of, behind_of, words_are}

-- of a text: what its first piece has before a blank, the words of the piece behind that, and the other pieces
abbrev Seen : Type 0
Seen = List ℕ × List (List ℕ) × List (List (List ℕ))

abbrev closed : Seen → List (List ℕ)
closed it = put it.0 it.1

-- the same with one more byte at its front
abbrev with_byte : ℕ → Seen → Seen
with_byte byte it = cond (is_comma byte) ([], [], closed it ∷ it.2) (cond (is_blank byte) ([], closed it, it.2) (byte ∷ it.0, it.1, it.2))

abbrev seen : List ℕ → Seen
seen [] = ([], [], [])
seen (byte ∷ bytes) = with_byte byte (seen bytes)

-- 1. What is seen of a text is its pieces

record Cut (bytes : List ℕ) : Type 0 where
  whole : slice_split is_comma bytes ≡ first_of (slice_split is_comma bytes) ∷ but_first (slice_split is_comma bytes)
  head : head_of (first_of (slice_split is_comma bytes)) ≡ (seen bytes).0
  behind : behind_of (first_of (slice_split is_comma bytes)) ≡ (seen bytes).1
  others : map words (but_first (slice_split is_comma bytes)) ≡ (seen bytes).2

-- the words of the first piece, and the other pieces
all_of : (bytes : List ℕ) → Cut bytes → pieces bytes ≡ closed (seen bytes) ∷ (seen bytes).2
all_of bytes cut =
    let parts = slice_split is_comma bytes in
    ap (map words) cut.whole
    ∙ ap (λ ws. ws ∷ map words (but_first parts)) (words_are (first_of parts) ∙ ap (λ w. put w (behind_of (first_of parts))) cut.head
    ∙ ap (put (seen bytes).0) cut.behind)
    ∙ ap (λ ps. closed (seen bytes) ∷ ps) cut.others

first_onto : (byte : ℕ) (parts : List (List ℕ)) → first_of (onto_first byte parts) ≡ byte ∷ first_of parts
first_onto byte [] = refl
first_onto byte (part ∷ parts) = refl

but_onto : (byte : ℕ) (parts : List (List ℕ)) → but_first (onto_first byte parts) ≡ but_first parts
but_onto byte [] = refl
but_onto byte (part ∷ parts) = refl

-- a part is begun, or a byte stands before the first
abbrev with_part : Bool → ℕ → List (List ℕ) → List (List ℕ)
with_part comma byte parts = cond comma ([] ∷ parts) (onto_first byte parts)

abbrev with_seen : Bool → Bool → ℕ → Seen → Seen
with_seen comma blank byte it = cond comma ([], [], closed it ∷ it.2) (cond blank ([], closed it, it.2) (byte ∷ it.0, it.1, it.2))

whole_step : (comma : Bool) (byte : ℕ) (parts : List (List ℕ)) →
    with_part comma byte parts ≡ first_of (with_part comma byte parts) ∷ but_first (with_part comma byte parts)
whole_step true byte parts = refl
whole_step false byte [] = refl
whole_step false byte (part ∷ parts) = refl

head_step : (comma blank : Bool) (byte : ℕ) (parts : List (List ℕ)) (it : Seen) → is_blank byte ≡ blank → head_of (first_of parts) ≡ it.0 →
    head_of (first_of (with_part comma byte parts)) ≡ (with_seen comma blank byte it).0
head_step true blank byte parts it is head = refl
head_step false true byte parts it is head = ap head_of (first_onto byte parts) ∙ ap (λ b. cond b [] (byte ∷ head_of (first_of parts))) is
head_step false false byte parts it is head =
    ap head_of (first_onto byte parts) ∙ ap (λ b. cond b [] (byte ∷ head_of (first_of parts))) is ∙ ap (λ w. byte ∷ w) head

behind_step : (comma blank : Bool) (byte : ℕ) (parts : List (List ℕ)) (it : Seen) → is_blank byte ≡ blank → head_of (first_of parts) ≡ it.0 →
    behind_of (first_of parts) ≡ it.1 → behind_of (first_of (with_part comma byte parts)) ≡ (with_seen comma blank byte it).1
behind_step true blank byte parts it is head behind = refl
behind_step false true byte parts it is head behind =
    ap behind_of (first_onto byte parts)
    ∙ ap (λ b. cond b (put (head_of (first_of parts)) (behind_of (first_of parts))) (behind_of (first_of parts))) is
    ∙ ap (λ w. put w (behind_of (first_of parts))) head
    ∙ ap (put it.0) behind
behind_step false false byte parts it is head behind =
    ap behind_of (first_onto byte parts)
    ∙ ap (λ b. cond b (put (head_of (first_of parts)) (behind_of (first_of parts))) (behind_of (first_of parts))) is
    ∙ behind

others_step : (comma blank : Bool) (byte : ℕ) (parts : List (List ℕ)) (it : Seen) → map words parts ≡ closed it ∷ it.2 →
    map words (but_first parts) ≡ it.2 → map words (but_first (with_part comma byte parts)) ≡ (with_seen comma blank byte it).2
others_step true blank byte parts it all others = all
others_step false true byte parts it all others = ap (map words) (but_onto byte parts) ∙ others
others_step false false byte parts it all others = ap (map words) (but_onto byte parts) ∙ others

cut : (bytes : List ℕ) → Cut bytes
cut [] = record { whole = refl; head = refl; behind = refl; others = refl }
cut (byte ∷ bytes) =
    let more = cut bytes in
    let parts = slice_split is_comma bytes in
    record {
      whole = whole_step (is_comma byte) byte parts;
      head = head_step (is_comma byte) (is_blank byte) byte parts (seen bytes) refl more.head;
      behind = behind_step (is_comma byte) (is_blank byte) byte parts (seen bytes) refl more.head more.behind;
      others = others_step (is_comma byte) (is_blank byte) byte parts (seen bytes) (all_of bytes more) more.others;
    }

-- 2. It stays where a space stands for blanks

-- a word and a space before others
spaces : (word : List ℕ) (ws : List (List ℕ)) → spaced (word ∷ ws) ≡ word ++ 32 ∷ spaced ws
spaces word ws = append_assoc word (32 ∷ []) (spaced ws)

-- behind a blank it is the same whether a word that is empty has its space or not
behind_blank : (word : List ℕ) (ws : List (List ℕ)) → with_byte 32 (seen (spaced (put word ws))) ≡ with_byte 32 (seen (word ++ 32 ∷ spaced ws))
behind_blank [] ws = refl
behind_blank (byte ∷ word) ws = ap (λ bytes. with_byte 32 (seen bytes)) (spaces (byte ∷ word) ws)

-- any blank is seen as a space
as_space : (byte : ℕ) (it : Seen) → is_blank byte ≡ true → with_byte byte it ≡ with_byte 32 it
as_space byte it blank = by (is_comma byte) refl where
  by : (comma : Bool) → is_comma byte ≡ comma → with_byte byte it ≡ with_byte 32 it
  by true comma =
      let same : byte ≡ 44 = eqb-true byte 44 comma in
      let off : false ≡ true = rw same at blank in
      cc
  by false comma = ap (λ c. with_seen c (is_blank byte) byte it) comma ∙ ap (λ b. with_seen false b byte it) blank

abbrev in_words : List ℕ → List ℕ
in_words bytes = head_of bytes ++ 32 ∷ spaced (behind_of bytes)

seen_step : (blank : Bool) (byte : ℕ) (bytes : List ℕ) → is_blank byte ≡ blank → seen bytes ≡ seen (in_words bytes) →
    with_byte byte (seen bytes) ≡ seen (cond blank [] (byte ∷ head_of bytes) ++ 32 ∷ spaced
    (cond blank (put (head_of bytes) (behind_of bytes)) (behind_of bytes)))
seen_step true byte bytes blank same =
    as_space byte (seen bytes) blank ∙ ap (with_byte 32) same ∙ sym (behind_blank (head_of bytes) (behind_of bytes))
seen_step false byte bytes blank same = ap (with_byte byte) same

seen_in_words : (bytes : List ℕ) → seen bytes ≡ seen (in_words bytes)
seen_in_words [] = refl
seen_in_words (byte ∷ bytes) = seen_step (is_blank byte) byte bytes refl (seen_in_words bytes)

abbrev shown : Seen → List (List (List ℕ))
shown it = closed it ∷ it.2

-- at the front it is the same whether a word that is empty has its space or not
at_front : (word : List ℕ) (ws : List (List ℕ)) → shown (seen (spaced (put word ws))) ≡ shown (seen (word ++ 32 ∷ spaced ws))
at_front [] ws = refl
at_front (byte ∷ word) ws = ap (λ bytes. shown (seen bytes)) (spaces (byte ∷ word) ws)

-- the pieces of a text are the parts of a line of its words
pub pieces_are_parts : (text : List ℕ) → pieces text ≡ parts_of (words text)
pieces_are_parts text =
    all_of text (cut text)
    ∙ ap shown (seen_in_words text)
    ∙ sym (at_front (head_of text) (behind_of text))
    ∙ sym (all_of (spaced (put (head_of text) (behind_of text))) (cut (spaced (put (head_of text) (behind_of text)))))
    ∙ ap parts_of (sym (words_are text))
