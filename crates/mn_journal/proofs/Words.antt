-- The words of an entry's text, and the entry for which they ask.
use Rattle.std.proofs.Common.{◌≡◌, ◌<◌, ◌^◌, ℕ, zero, suc, Bool, true, false, List, [], ◌∷◌, ◌++◌, length, take, Some, None, Result, Ok, Err, refl, ap}
use Rattle.std.proofs.Common.{sym, ◌∙◌, subst, arith, append-nil, append_assoc}
use Rattle.std.specs.Prelude.{nat_lt, nat_le, ◌-◌, map, slice_index, not, cond, ◌&&◌, ◌==◌, All, filter, take_while, if◌then◌else◌, Option}
use Rattle.std.specs.List.{flat_map, list_all, slice_split}
use Rattle.std.specs.Str.Lines.{lines, lines_of_parts}
use Rattle.std.proofs.lemmas.List.Folds.{list_all-append}
use Rattle.std.specs.Str.Parse.{digits_value}
use Rattle.std.proofs.lemmas.Bool.{and_parts, and_from}
use Rattle.std.proofs.lemmas.Bool.Decides.{nat_tests}
use Rattle.std.proofs.lemmas.List.Splits.{slice_split_none, slice_split_at, length-slice_split}
use Rattle.std.proofs.lemmas.List.Sums.{take_while-cons}
use Rattle.mn_text.specs.Numbers.{number_text, number_up_to, is_number}
use Rattle.mn_text.specs.Words.{is_blank, words}
use Rattle.mn_text.specs.declared.refusal.TextBad.{TextBad}
use Rattle.mn_text.specs.declared.refusal.TextBad.TheVariants.{NotANumber, TooGreat}
use Rattle.mn_text.proofs.Again.{number_again}
use Rattle.mn_topo.specs.Lawful.{IsLawful}
use Rattle.mn_topo.specs.Network.{Network}
use Rattle.mn_topo.specs.declared.steps.JournalEntry.{JournalEntry}
use Rattle.mn_script.specs.Lines.{line_says}
use Rattle.mn_script.specs.Words.{is_comment}
use Rattle.mn_journal.specs.Lines.{spaced, entry_words, text_of, line_of, IsEntry}
use Rattle.mn_journal.specs.Reading.{entry_with, asked_by}
use Rattle.mn_journal.proofs.Plain.{all_of, is_plain_byte, is_plain, AllPlain, number_plain}
use Rattle.mn_journal.proofs.Asked.{asked_for}
use Rattle.mn_text.proofs.Parts.{feed_step}

-- 1. The words of words after spaces

plain_not_blank : (b : ℕ) → is_plain_byte b ≡ true → is_blank b ≡ false
plain_not_blank b h = grind (arith, nat_tests)

no_blanks : (word : List ℕ) → list_all is_plain_byte word ≡ true → All (λ b. is_blank b ≡ false) word
no_blanks [] all k d below = absurd (omega arith)
no_blanks (x ∷ xs) all zero d below = plain_not_blank x (and_parts (is_plain_byte x) (list_all is_plain_byte xs) all).0
no_blanks (x ∷ xs) all (suc k) d below = no_blanks xs (and_parts (is_plain_byte x) (list_all is_plain_byte xs) all).1 k d (omega arith)

kept : (word : List ℕ) (parts : List (List ℕ)) → nat_lt 0 (length word) ≡ true →
    filter (λ part. not (length part == 0)) (word ∷ parts) ≡ word ∷ filter (λ part. not (length part == 0)) parts
kept [] parts some = cc
kept (x ∷ xs) parts some = let more : (length (x ∷ xs) == 0) ≡ false = grind (arith, nat_tests) in rw more refl

pub words_of : (word : List ℕ) (ws : List (List ℕ)) → is_plain word ≡ true → AllPlain ws → words (word ++ spaced ws) ≡ word ∷ ws
words_of word [] plain all =
    let both = and_parts (nat_lt 0 (length word)) (list_all is_plain_byte word) plain in
    ap words (append-nil word)
    ∙ ap (filter (λ part. not (length part == 0))) (slice_split_none is_blank word (no_blanks word both.1))
    ∙ kept word [] both.0
words_of word (next ∷ ws) plain all =
    let both = and_parts (nat_lt 0 (length word)) (list_all is_plain_byte word) plain in
    ap (filter (λ part. not (length part == 0))) (slice_split_at is_blank word 32 (next ++ spaced ws) (no_blanks word both.1) refl)
    ∙ kept word (slice_split is_blank (next ++ spaced ws)) both.0
    ∙ ap (λ found. word ∷ found) (words_of next ws all.0 all.1)

no_comment : (word : List ℕ) → is_plain word ≡ true → is_comment word ≡ false
no_comment [] plain = cc
no_comment (x ∷ xs) plain =
    let both = and_parts (nat_lt 0 (length (x ∷ xs))) (list_all is_plain_byte (x ∷ xs)) plain in
    let first = and_parts (is_plain_byte x) (list_all is_plain_byte xs) both.1 in
    grind (arith, nat_tests, first.0)

pub no_comments : (ws : List (List ℕ)) → AllPlain ws → take_while (λ word. not (is_comment word)) ws ≡ ws
no_comments [] all = refl
no_comments (word ∷ ws) all =
    take_while-cons (λ w. not (is_comment w)) word ws
    ∙ ap (λ b. cond (not b) (word ∷ take_while (λ w. not (is_comment w)) ws) []) (no_comment word all.0)
    ∙ ap (λ found. word ∷ found) (no_comments ws all.1)

-- 2. A number up to the greatest of 64 bits

from_of : (b : Bool) (v most n : ℕ) →
    (let r : Result ℕ TextBad = (if not b then Err NotANumber else if nat_lt most v then Err TooGreat else Ok v) in r ≡ Ok n) →
    (if b && nat_le v most then Some v else None) ≡ Some n
from_of true v most n h = grind (arith, nat_tests)
from_of false v most n h = cc

tick_again : (n : ℕ) → n < 2 ^ 64 → number_up_to (number_text n) 18446744073709551615 ≡ Some n
tick_again n h =
    from_of (is_number (number_text n)) (digits_value 10 (number_text n)) 18446744073709551615 n (number_again n 18446744073709551615 h (omega arith))

-- 3. The entry for which its text asks

pub asked_again : (network : Network) (entry : JournalEntry) → IsLawful network → IsEntry network entry →
    asked_by network (words (text_of network entry)) ≡ Some entry
asked_again network entry lawful is =
    let a = asked_for network entry lawful is in
    let plain = subst AllPlain (sym a.words) a.plain in
    ap (asked_by network) (words_of (number_text entry.tick) (entry_words network entry) (number_plain entry.tick is.tick) plain)
    ∙ ap (λ found. entry_with found (line_says network (take_while (λ word. not (is_comment word)) (entry_words network entry))))
    (tick_again entry.tick is.tick)
    ∙ ap (λ ws. entry_with (Some entry.tick) (line_says network ws)) (no_comments (entry_words network entry) plain)
    ∙ ap (λ ws. entry_with (Some entry.tick) (line_says network ws)) a.words
    ∙ ap (λ said. entry_with (Some entry.tick) said) a.said
    ∙ a.back

-- the text is that of one entry alone
pub same_entry : (network : Network) (one other : JournalEntry) → IsLawful network → IsEntry network one → IsEntry network other →
    text_of network one ≡ text_of network other → one ≡ other
same_entry network one other lawful first second is =
    let same : Some one ≡ Some other =
    sym (asked_again network one lawful first) ∙ ap (λ text. asked_by network (words text)) is ∙ asked_again network other lawful second in
    cc

-- 4. Lines

abbrev is_inner : ℕ → Bool
is_inner b = not (b == 10) && not (b == 13)

plain_inner : (b : ℕ) → is_plain_byte b ≡ true → is_inner b ≡ true
plain_inner b h = grind (arith, nat_tests)

word_inner : (word : List ℕ) → is_plain word ≡ true → list_all is_inner word ≡ true
word_inner word plain = all_of is_plain_byte is_inner plain_inner word (and_parts (nat_lt 0 (length word)) (list_all is_plain_byte word) plain).1

spaced_inner : (ws : List (List ℕ)) → AllPlain ws → list_all is_inner (spaced ws) ≡ true
spaced_inner [] all = refl
spaced_inner (word ∷ ws) all =
    list_all-append is_inner word (spaced ws) ∙ and_from (list_all is_inner word) (list_all is_inner (spaced ws)) (word_inner word all.0)
    (spaced_inner ws all.1)

no_feed : (xs : List ℕ) → list_all is_inner xs ≡ true → All (λ b. (b == 10) ≡ false) xs
no_feed [] all k d below = absurd (omega arith)
no_feed (x ∷ xs) all zero d below = let first = and_parts (is_inner x) (list_all is_inner xs) all in let it = first.0 in grind (arith, nat_tests)
no_feed (x ∷ xs) all (suc k) d below = no_feed xs (and_parts (is_inner x) (list_all is_inner xs) all).1 k d (omega arith)

no_return : (xs : List ℕ) (k : ℕ) → list_all is_inner xs ≡ true → (slice_index xs k == 13) ≡ false
no_return [] k all = refl
no_return (x ∷ xs) zero all = let first = and_parts (is_inner x) (list_all is_inner xs) all in let it = first.0 in grind (arith, nat_tests)
no_return (x ∷ xs) (suc k) all = no_return xs k (and_parts (is_inner x) (list_all is_inner xs) all).1

line_first : (text rest : List ℕ) → list_all is_inner text ≡ true → lines (text ++ 10 ∷ rest) ≡ text ∷ lines rest
line_first text rest inner =
    ap lines_of_parts (slice_split_at (λ b. b == 10) text 10 rest (no_feed text inner) refl)
    ∙ feed_step text (slice_split (λ b. b == 10) rest) (grind (arith, length-slice_split))
    ∙ ap (λ b. (if b then take (length text - 1) text else text) ∷ lines rest) (no_return text (length text - 1) inner)

pub lines_written : (network : Network) (entries : List JournalEntry) → IsLawful network → All (IsEntry network) entries →
    lines (flat_map (line_of network) entries) ≡ map (text_of network) entries
lines_written network [] lawful all = refl
lines_written network (entry ∷ entries) lawful all =
    let is = all 0 entry (omega arith) in
    let asked = asked_for network entry lawful is in
    let plain = subst AllPlain (sym asked.words) asked.plain in
    let inner =
    list_all-append is_inner (number_text entry.tick) (spaced (entry_words network entry))
    ∙ and_from (list_all is_inner (number_text entry.tick)) (list_all is_inner (spaced (entry_words network entry)))
    (word_inner (number_text entry.tick) (number_plain entry.tick is.tick)) (spaced_inner (entry_words network entry) plain) in
    ap lines (append_assoc (text_of network entry) (10 ∷ []) (flat_map (line_of network) entries))
    ∙ line_first (text_of network entry) (flat_map (line_of network) entries) inner
    ∙ ap (λ found. text_of network entry ∷ found) (lines_written network entries lawful (λ k d below. all (suc k) d (omega arith)))

-- a line that asks for nothing, or for an entry of another text, is the text of no entry
pub no_text : (network : Network) (line : List ℕ) (found : Option JournalEntry) → IsLawful network → found ≡ asked_by network (words line) → found ≡ None
    → (entry : JournalEntry) → IsEntry network entry → line ≡ text_of network entry → ⊥
no_text network line found lawful is none entry fit text =
    let same : None ≡ Some entry = sym none ∙ is ∙ ap (λ t. asked_by network (words t)) text ∙ asked_again network entry lawful fit in
    cc

pub other_text : (network : Network) (line : List ℕ) (found : Option JournalEntry) (asked : JournalEntry) → IsLawful network →
    found ≡ asked_by network (words line) → found ≡ Some asked → (text_of network asked ≡ line → ⊥)
    → (entry : JournalEntry) → IsEntry network entry → line ≡ text_of network entry → ⊥
other_text network line found asked lawful is some other entry fit text =
    let both : Some asked ≡ Some entry = sym some ∙ is ∙ ap (λ t. asked_by network (words t)) text ∙ asked_again network entry lawful fit in
    let same : asked ≡ entry = cc in
    other (ap (text_of network) same ∙ sym text)
