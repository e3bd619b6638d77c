-- A line before its first comment.
use Rattle.std.proofs.Common.{◌≡◌, ◌<◌, ◌≤◌, ◌+◌, ℕ, suc, Bool, true, false, cond, List, [], ◌∷◌, ◌++◌, length, take, drop, get_or, refl, ap, sym, ◌∙◌}
use Rattle.std.proofs.Common.{append-nil, arith}
use Rattle.std.specs.Prelude.{not, nat_lt, ◌==◌, ◌&&◌, take_while}
use Rattle.std.proofs.lemmas.Bool.{eqb-true}
use Rattle.std.proofs.lemmas.Bool.Decides.{nat_tests}
use Rattle.std.proofs.lemmas.List.{drop_more, take_all, drop_all}
use Rattle.std.proofs.lemmas.List.Sums.{take_while-cons}
use Rattle.mn_text.specs.Words.{is_blank, words}
use Rattle.mn_script.specs.Words.{is_comment, line_words}
use Rattle.mn_failures.proofs.Bytes.{put, head_of, behind_of, words_are}

-- the bytes of a line before a `#` that begins a word, where one may begin here or not
abbrev pub code : Bool → List ℕ → List ℕ
code begins [] = []
code begins (byte ∷ bytes) = cond (begins && byte == 35) [] (byte ∷ code (is_blank byte) bytes)

abbrev plain : List ℕ → Bool
plain word = not (is_comment word)

-- the words of it are those before the first comment, where a word may begin, and where one has begun
record Cut (bytes : List ℕ) : Type 0 where
  begins : put (head_of (code true bytes)) (behind_of (code true bytes)) ≡ take_while plain (put (head_of bytes) (behind_of bytes))
  head : head_of (code false bytes) ≡ head_of bytes
  behind : behind_of (code false bytes) ≡ take_while plain (behind_of bytes)

some : (n : ℕ) → nat_lt 0 (suc n) ≡ true
some n = grind (arith, nat_tests)

-- a word that begins with `#` is the last
last : (word : List ℕ) (ws : List (List ℕ)) → take_while plain ((35 ∷ word) ∷ ws) ≡ []
last word ws =
    take_while-cons plain (35 ∷ word) ws ∙ ap (λ b. cond (not (b && true)) ((35 ∷ word) ∷ take_while plain ws) []) (some (length word))

-- any other word is kept
more_of : (byte : ℕ) (word : List ℕ) (ws : List (List ℕ)) → (byte == 35) ≡ false →
    take_while plain ((byte ∷ word) ∷ ws) ≡ (byte ∷ word) ∷ take_while plain ws
more_of byte word ws other =
    take_while-cons plain (byte ∷ word) ws
    ∙ ap (λ b. cond (not (b && byte == 35)) ((byte ∷ word) ∷ take_while plain ws) []) (some (length word))
    ∙ ap (λ b. cond (not b) ((byte ∷ word) ∷ take_while plain ws) []) other

begins_step : (blank hash : Bool) (byte : ℕ) (bytes : List ℕ) → is_blank byte ≡ blank → (byte == 35) ≡ hash → Cut bytes →
    put (head_of (code true (byte ∷ bytes))) (behind_of (code true (byte ∷ bytes))) ≡ take_while plain (put (head_of (byte ∷ bytes)) (behind_of (byte ∷ bytes)))
begins_step blank true byte bytes is hash cut =
    let same : byte ≡ 35 = eqb-true byte 35 hash in
    rw same (sym (last (head_of bytes) (behind_of bytes)))
begins_step true false byte bytes is hash cut = rw (hash, is) cut.begins
begins_step false false byte bytes is hash cut =
    rw (hash, is)
    (ap (λ w. (byte ∷ w) ∷ behind_of (code false bytes)) cut.head
    ∙ ap (λ ws. (byte ∷ head_of bytes) ∷ ws) cut.behind
    ∙ sym (more_of byte (head_of bytes) (behind_of bytes) hash))

head_step : (blank : Bool) (byte : ℕ) (bytes : List ℕ) → is_blank byte ≡ blank → Cut bytes → head_of (code false (byte ∷ bytes)) ≡ head_of (byte ∷ bytes)
head_step true byte bytes is cut = rw is refl
head_step false byte bytes is cut = rw is (ap (λ w. byte ∷ w) cut.head)

behind_step : (blank : Bool) (byte : ℕ) (bytes : List ℕ) → is_blank byte ≡ blank → Cut bytes →
    behind_of (code false (byte ∷ bytes)) ≡ take_while plain (behind_of (byte ∷ bytes))
behind_step true byte bytes is cut = rw is cut.begins
behind_step false byte bytes is cut = rw is cut.behind

cut : (bytes : List ℕ) → Cut bytes
cut [] = record { begins = refl; head = refl; behind = refl }
cut (byte ∷ bytes) =
    let more = cut bytes in
    record {
      begins = begins_step (is_blank byte) (byte == 35) byte bytes refl refl more;
      head = head_step (is_blank byte) byte bytes refl more;
      behind = behind_step (is_blank byte) byte bytes refl more;
    }

-- its words are those of the line before the first comment
words_before : (line : List ℕ) → words (code true line) ≡ line_words line
words_before line =
    let found = cut line in
    words_are (code true line) ∙ found.begins ∙ ap (take_while plain) (sym (words_are line))

is_at : (line : List ℕ) (i byte : ℕ) → i < length line → byte ≡ get_or line i 0 → drop i line ≡ byte ∷ drop (i + 1) line
is_at line i byte within is = drop_more line i 0 within ∙ ap (λ b. b ∷ drop (i + 1) line) (sym is)

-- a byte that begins a comment ends the line
pub comment_ends : (line : List ℕ) (i : ℕ) (begins : Bool) (byte : ℕ) → i < length line → byte ≡ get_or line i 0 → (begins && byte == 35) ≡ true →
    take i line ++ code begins (drop i line) ≡ code true line → words (take i line) ≡ line_words line
comment_ends line i begins byte within is hash before =
    let ended : take i line ≡ code true line =
    sym (append-nil (take i line))
    ∙ ap (λ b. take i line ++ cond b [] (byte ∷ code (is_blank byte) (drop (i + 1) line))) (sym hash)
    ∙ ap (λ bytes. take i line ++ code begins bytes) (sym (is_at line i byte within is))
    ∙ before in
    ap words ended ∙ words_before line

-- a line without one is all of it
pub no_comment : (line : List ℕ) (i : ℕ) (begins : Bool) → length line ≤ i → take i line ++ code begins (drop i line) ≡ code true line →
    words line ≡ line_words line
no_comment line i begins past before =
    let whole : line ≡ code true line =
    sym (append-nil line)
    ∙ ap (λ front. front ++ code begins []) (sym (take_all i line past))
    ∙ ap (λ bytes. take i line ++ code begins bytes) (sym (drop_all i line past))
    ∙ before in
    ap words whole ∙ words_before line
