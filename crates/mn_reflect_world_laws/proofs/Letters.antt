-- Letters that fly are the words that were sent.
use Rattle.std.proofs.Common.{ℕ, ◌≡◌, Bool, true, false, cond, List, [], ◌∷◌, Some, refl, sym, ◌∙◌, ap, filter}
use Rattle.std.specs.Prelude.{not, option_map}
use Rattle.mn_base.proofs.Bools.{and_left, and_right, same_numbers}
use Rattle.mn_topo.specs.Network.{Network}
use Rattle.mn_bgp_spelling_laws.specs.Spelling.{Labels}
use Rattle.mn_mail.specs.Mail as mail
use Rattle.mn_mail.specs.Mail.{Letter}
use Rattle.mn_reflect_ledger_laws.specs.Words.{Word}
use Rattle.mn_reflect_ledger_laws.specs.Picks.{Spoken}
use Rattle.mn_reflect_ledger_laws.specs.World.{first_word, without_first, is_between, is_from_to}
use Rattle.mn_reflect_world_laws.specs.Spelling.{letter_in, letters_in}
use Rattle.mn_reflect_world_laws.specs.Laws.{LettersAreWords}

module _ (topology : Network) (reflectors : List ℕ) (labels : Labels) (a b : ℕ) where
  abbrev all : List Spoken → List Letter
  all flying = letters_in topology reflectors labels flying

  abbrev as_letter : Word → Letter
  as_letter word = letter_in topology reflectors labels (record { from = a; to = b; word = word })

  -- a word from the one to the other is that letter
  is_it : (spoken : Spoken) → is_from_to a b spoken ≡ true → letter_in topology reflectors labels spoken ≡ as_letter spoken.word
  is_it spoken h =
      ap (λ n. letter_in topology reflectors labels (record { from = n; to = spoken.to; word = spoken.word })) (same_numbers spoken.from a (and_left _ _ h))
      ∙ ap (λ n. letter_in topology reflectors labels (record { from = a; to = n; word = spoken.word })) (same_numbers spoken.to b (and_right _ _ h))

  first : (flying : List Spoken) → mail.first_from_to a b (all flying) ≡ option_map as_letter (first_word a b flying)
  first [] = refl
  first (spoken ∷ more) = by (first more) (is_from_to a b spoken) refl
    where
      by : mail.first_from_to a b (all more) ≡ option_map as_letter (first_word a b more) → (t : Bool) → is_from_to a b spoken ≡ t →
          mail.first_from_to a b (all (spoken ∷ more)) ≡ option_map as_letter (first_word a b (spoken ∷ more))
      by others true h =
          ap (λ t. cond t (Some (letter_in topology reflectors labels spoken)) (mail.first_from_to a b (all more))) h
          ∙ ap (λ l. Some l) (is_it spoken h)
          ∙ sym (ap (λ t. option_map as_letter (cond t (Some spoken.word) (first_word a b more))) h)
      by others false h =
          ap (λ t. cond t (Some (letter_in topology reflectors labels spoken)) (mail.first_from_to a b (all more))) h
          ∙ others
          ∙ sym (ap (λ t. option_map as_letter (cond t (Some spoken.word) (first_word a b more))) h)

  others : (flying : List Spoken) → mail.without_first a b (all flying) ≡ all (without_first a b flying)
  others [] = refl
  others (spoken ∷ more) = by (others more) (is_from_to a b spoken)
    where
      by : mail.without_first a b (all more) ≡ all (without_first a b more) → (t : Bool) →
          cond t (all more) (letter_in topology reflectors labels spoken ∷ mail.without_first a b (all more))
          ≡ all (cond t more (spoken ∷ without_first a b more))
      by rest true = refl
      by rest false = ap (λ ls. letter_in topology reflectors labels spoken ∷ ls) rest

  left : (flying : List Spoken) → filter (λ (letter : Letter). not (mail.is_between a b letter)) (all flying)
      ≡ all (filter (λ spoken. not (is_between a b spoken)) flying)
  left [] = refl
  left (spoken ∷ more) = by (left more) (not (is_between a b spoken))
    where
      by : filter (λ (letter : Letter). not (mail.is_between a b letter)) (all more) ≡ all (filter (λ spoken. not (is_between a b spoken)) more) → (t : Bool) →
          cond t (letter_in topology reflectors labels spoken ∷ filter (λ (letter : Letter). not (mail.is_between a b letter)) (all more))
          (filter (λ (letter : Letter). not (mail.is_between a b letter)) (all more))
          ≡ all (cond t (spoken ∷ filter (λ spoken. not (is_between a b spoken)) more) (filter (λ spoken. not (is_between a b spoken)) more))
      by rest true = ap (λ ls. letter_in topology reflectors labels spoken ∷ ls) rest
      by rest false = rest

pub are_words : LettersAreWords
are_words topology reflectors labels a b flying =
    record {
      first = first topology reflectors labels a b flying;
      others = others topology reflectors labels a b flying;
      left = left topology reflectors labels a b flying;
    }
