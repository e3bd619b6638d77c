-- A line of more than four words says what its first five words say.
use Rattle.std.proofs.Common.{◌≡◌, ◌<◌, ◌==◌, ℕ, false, List, [], ◌∷◌, length, take, refl, ap, sym, ◌∙◌, arith, lit<}
use Rattle.std.specs.Prelude.{Ok}
use Rattle.mn_topo.specs.Network.{Network}
use Rattle.mn_script.specs.Rules.{◌>>=◌}
use Rattle.mn_flood_run.specs.Language.{link_line, hear_line, drain_line, command_line, line_says, numbered, flood_says}

-- five words and more
abbrev five : (a b c d e : List ℕ) → List (List ℕ) → List (List ℕ)
five a b c d e ws = a ∷ b ∷ c ∷ d ∷ e ∷ ws

-- five words are more than four
many : (a b c d e : List ℕ) (ws : List (List ℕ)) (k : ℕ) → k < 5 → (length (five a b c d e ws) == k) ≡ false
many a b c d e ws k few = grind arith

link_more : (network : Network) (a b c d e : List ℕ) (ws : List (List ℕ)) → link_line network (five a b c d e ws) ≡ link_line network (five a b c d e [])
unfolding link_line
link_more network a b c d e ws = rw (many a b c d e ws 1 (lit< tt), many a b c d e ws 4 (lit< tt)) refl

hear_more : (network : Network) (a b c d e : List ℕ) (ws : List (List ℕ)) → hear_line network (five a b c d e ws) ≡ hear_line network (five a b c d e [])
unfolding hear_line
hear_more network a b c d e ws = rw (many a b c d e ws 1 (lit< tt), many a b c d e ws 4 (lit< tt)) refl

drain_more : (a b c d e : List ℕ) (ws : List (List ℕ)) → drain_line (five a b c d e ws) ≡ drain_line (five a b c d e [])
unfolding drain_line
drain_more a b c d e ws = rw (many a b c d e ws 1 (lit< tt)) refl

command_more : (network : Network) (a b c d e : List ℕ) (ws : List (List ℕ))
    → command_line network (five a b c d e ws) ≡ command_line network (five a b c d e [])
unfolding command_line
command_more network a b c d e ws = rw (link_more network a b c d e ws, hear_more network a b c d e ws, drain_more a b c d e ws) refl

says_more : (network : Network) (a b c d e : List ℕ) (ws : List (List ℕ)) → line_says network (five a b c d e ws) ≡ line_says network (five a b c d e [])
unfolding line_says
says_more network a b c d e ws = rw (many a b c d e ws 0 (lit< tt), command_more network a b c d e ws) refl

-- six words are enough to know what a line says
says_by_six : (network : Network) (ws : List (List ℕ)) → line_says network (take 6 ws) ≡ line_says network ws
says_by_six network [] = refl
says_by_six network (a ∷ []) = refl
says_by_six network (a ∷ b ∷ []) = refl
says_by_six network (a ∷ b ∷ c ∷ []) = refl
says_by_six network (a ∷ b ∷ c ∷ d ∷ []) = refl
says_by_six network (a ∷ b ∷ c ∷ d ∷ e ∷ ws) = says_more network a b c d e (take 1 ws) ∙ sym (says_more network a b c d e ws)

pub flood_says_by_six : (network : Network) (number : ℕ) (ws : List (List ℕ)) → flood_says network number (take 6 ws) ≡ flood_says network number ws
flood_says_by_six network number ws = ap (λ said. said >>= (λ command. Ok (numbered number command))) (says_by_six network ws)
