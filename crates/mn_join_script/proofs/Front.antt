-- Seven words are enough to know what a line says: one for the network, and six for its line.
use Rattle.std.proofs.Common.{◌≡◌, ℕ, Bool, true, false, not, cond, if◌then◌else◌, List, [], ◌∷◌, take, refl, ap, sym, ◌∙◌}
use Rattle.std.proofs.lemmas.List.Sums.{take_while-cons}
use Rattle.std.specs.Prelude.{◌||◌, None, Ok, Err, codes, take_while}
use Rattle.std.specs.Str.{bytes_eq}
use Rattle.mn_text.specs.Words.{words}
use Rattle.mn_topo.specs.Network.{Network}
use Rattle.mn_script.specs.declared.refusal.ScriptRule.TheVariants.{UnknownWord}
use Rattle.mn_script.specs.Words.{is_word, is_comment, line_words}
use Rattle.mn_script.specs.Lines as script
use Rattle.mn_script.proofs.Front.{says_by_six}
use Rattle.mn_join_laws.specs.declared.leg.Which.TheVariants.{First, Second}
use Rattle.mn_join_script.specs.Language.{network_says, line_says, word_says, join_says}

first_kept : (ws : List (List ℕ)) (text : List ℕ) → is_word (take 6 ws) 0 text ≡ is_word ws 0 text
first_kept [] text = refl
first_kept (w ∷ ws) text = refl

network_by_six : (network : Network) (ws : List (List ℕ)) → network_says network (take 6 ws) ≡ network_says network ws
network_by_six network ws =
    ap (λ b. if b || is_word (take 6 ws) 0 (codes "show") then Err UnknownWord else script.line_says network (take 6 ws)) (first_kept ws (codes "run"))
    ∙ ap (λ b. if is_word ws 0 (codes "run") || b then Err UnknownWord else script.line_says network (take 6 ws)) (first_kept ws (codes "show"))
    ∙ ap (λ r. if is_word ws 0 (codes "run") || is_word ws 0 (codes "show") then Err UnknownWord else r) (says_by_six network ws)

word_by_six : (first second : Network) (number : ℕ) (w : List ℕ) (ws : List (List ℕ)) →
    word_says first second number w (take 6 ws) ≡ word_says first second number w ws
word_by_six first second number w ws =
    ap (λ r. if bytes_eq w (codes "1") then line_says number First r
    else if bytes_eq w (codes "2") then line_says number Second (network_says second (take 6 ws)) else Err UnknownWord) (network_by_six first ws)
    ∙ ap (λ r. if bytes_eq w (codes "1") then line_says number First (network_says first ws)
    else if bytes_eq w (codes "2") then line_says number Second r else Err UnknownWord) (network_by_six second ws)

-- the words before a comment, from the first on
by_first : (line w next : List ℕ) (b : Bool) → words line ≡ w ∷ words next → is_comment w ≡ b →
    line_words line ≡ cond (not b) (w ∷ line_words next) []
by_first line w next b e h =
    ap (take_while (λ word. not (is_comment word))) e
    ∙ take_while-cons (λ word. not (is_comment word)) w (words next)
    ∙ ap (λ c. cond (not c) (w ∷ line_words next) []) h

-- a line without words says nothing
pub empty_says : (first second : Network) (number : ℕ) (line : List ℕ) → words line ≡ [] → join_says first second number (line_words line) ≡ Ok None
empty_says first second number line e = ap (λ ws. join_says first second number (take_while (λ word. not (is_comment word)) ws)) e

-- nor does one that is a comment
pub comment_says : (first second : Network) (number : ℕ) (line w next : List ℕ) → words line ≡ w ∷ words next → is_comment w ≡ true →
    join_says first second number (line_words line) ≡ Ok None
comment_says first second number line w next e h = ap (join_says first second number) (by_first line w next true e h)

-- any other says what its first seven words say
pub seven_say : (first second : Network) (number : ℕ) (line w next : List ℕ) (found : List (List ℕ)) → words line ≡ w ∷ words next →
    is_comment w ≡ false → found ≡ take 6 (line_words next) → join_says first second number (line_words line) ≡ join_says first second number (w ∷ found)
seven_say first second number line w next found e h six =
    ap (join_says first second number) (by_first line w next false e h)
    ∙ sym (word_by_six first second number w (line_words next))
    ∙ ap (word_says first second number w) (sym six)
