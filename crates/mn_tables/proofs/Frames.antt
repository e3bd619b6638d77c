-- The line of a frame, from its pieces.
use Rattle.std.proofs.Common.{◌≡◌, ℕ, List, [], ◌∷◌, ◌++◌, refl, ap, sym, ◌∙◌, append_assoc, append-nil}
use Rattle.std.specs.Prelude.{codes, decimal}
use Rattle.mn_base.specs.declared.numbers.NodeNo.{NodeNo}
use Rattle.mn_base.specs.declared.numbers.SiteNo.{SiteNo}
use Rattle.mn_drops.specs.declared.drops.Rule.{Rule}
use Rattle.mn_lfib.specs.declared.answer.Forwarded.{Forwarded}
use Rattle.mn_lfib.specs.declared.answer.Forwarded.TheVariants.{Next, Site, Drop}
use Rattle.mn_topo.specs.Network.{Network}
use Rattle.mn_lines.specs.Lines.{text, rule_name}
use Rattle.mn_output_laws.specs.Files.{node_name}
use Rattle.mn_output_laws.specs.Tables.{site_name}
use Rattle.mn_output_laws.specs.Shown.{hex_text, unread_text, outcome_text, said_line}
use Rattle.mn_tables.specs.Frames.{head_text}

pub head_row : (topology : Network) (node number : ℕ) (a d : List ℕ) → a ≡ node_name topology node → d ≡ decimal number
    → text (codes "frame " ∷ a ∷ codes " " ∷ d ∷ codes " " ∷ []) ≡ head_text topology node number
head_row topology node number a d is_a is_d = rw (is_a, is_d) refl

joined : (a b c d e x z : List ℕ) → (a ++ (b ++ (c ++ (d ++ e)))) ++ (x ++ z) ≡ a ++ (b ++ (c ++ (d ++ (e ++ (x ++ z)))))
joined a b c d e x z = simp append_assoc

pub whole_row : (topology : Network) (node number : ℕ) (said : List ℕ) → head_text topology node number ++ (said ++ codes "\n")
    ≡ said_line topology node number said
whole_row topology node number said = joined (codes "frame ") (node_name topology node) (codes " ") (decimal number) (codes " ") said (codes "\n")

pub unread_said : (rule word : List ℕ) → word ≡ rule → text (codes "unread " ∷ word ∷ []) ++ [] ≡ unread_text rule
unread_said rule word is = append-nil (text (codes "unread " ∷ word ∷ [])) ∙ ap (λ w. text (codes "unread " ∷ w ∷ [])) is

way : (head to hex : List ℕ) → text (head ∷ to ∷ codes " bytes " ∷ []) ++ hex ≡ text (head ∷ to ∷ codes " bytes " ∷ hex ∷ [])
way head to hex = append_assoc head (to ++ codes " bytes ") hex ∙ ap (λ xs. head ++ xs) (append_assoc to (codes " bytes ") hex)

pub next_said : (topology : Network) (outcome : Forwarded) (hop : NodeNo) (to bytes : List ℕ) → outcome ≡ Next hop → to ≡ node_name topology hop.0
    → text (codes "next " ∷ to ∷ codes " bytes " ∷ []) ++ hex_text bytes ≡ outcome_text topology outcome bytes
next_said topology outcome hop to bytes is is_to =
    way (codes "next ") to (hex_text bytes) ∙ ap (λ w. text (codes "next " ∷ w ∷ codes " bytes " ∷ hex_text bytes ∷ [])) is_to
    ∙ sym (ap (λ o. outcome_text topology o bytes) is)

pub site_said : (topology : Network) (outcome : Forwarded) (site : SiteNo) (to bytes : List ℕ) → outcome ≡ Site site → to ≡ site_name topology site.0
    → text (codes "site " ∷ to ∷ codes " bytes " ∷ []) ++ hex_text bytes ≡ outcome_text topology outcome bytes
site_said topology outcome site to bytes is is_to =
    way (codes "site ") to (hex_text bytes) ∙ ap (λ w. text (codes "site " ∷ w ∷ codes " bytes " ∷ hex_text bytes ∷ [])) is_to
    ∙ sym (ap (λ o. outcome_text topology o bytes) is)

pub drop_said : (topology : Network) (outcome : Forwarded) (rule : Rule) (word bytes : List ℕ) → outcome ≡ Drop rule → word ≡ rule_name rule
    → text (codes "drop " ∷ word ∷ []) ++ [] ≡ outcome_text topology outcome bytes
drop_said topology outcome rule word bytes is is_word =
    append-nil (text (codes "drop " ∷ word ∷ [])) ∙ ap (λ w. text (codes "drop " ∷ w ∷ [])) is_word ∙ sym (ap (λ o. outcome_text topology o bytes) is)
