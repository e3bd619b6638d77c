-- What a reflector holds out to a peer, and what it says as that changes.
use Rattle.std.proofs.Common.{ℕ, ◌≡◌, ◌≢◌, ◌==◌, Bool, true, false, List, [], ◌∷◌, refl, sym, ap, ◌∙◌, Option, Some, None}
use Rattle.std.specs.Prelude.{◌&&◌, if◌then◌else◌, option_map}
use Rattle.mn_base.proofs.Bools.{test_same, other_test, same_test}
use Rattle.mn_topo.specs.Network.{Network}
use Rattle.mn_ledger.specs.Places.{loopback, edge_of}
use Rattle.mn_ledger.specs.Exports.{same_targets}
use Rattle.mn_mail.specs.Mail.{Letter, Mail}
use Rattle.mn_offers.specs.Heard.{Heard}
use Rattle.mn_reflect_ledger_laws.specs.Words.{Key}
use Rattle.mn_reflect_ledger_laws.specs.Picks.{is_reflector}
use Rattle.mn_reflect_world_laws.specs.Choice.{Row, kept_of, picked_by, passed_on, offered_of}
use Rattle.mn_reflect_world_laws.specs.Letters.{numbers, says_same, change_letters, reflected_letter}
use Rattle.mn_reflect_telling.specs.Mentions.{held_out}
use Rattle.mn_reflect_telling.specs.Telling.{posted, letter_if, letter_of, change_bytes, passed_bytes}
use Rattle.mn_reflect_telling.proofs.Posting.{posted_none}

-- 1. What is held out

module _ (t : Network) (rs : List ℕ) (row : Row) (node peer : ℕ) (key : Key) where
  abbrev by_tests : Bool → Bool → Option Heard
  by_tests reflects home =
      if reflects then kept_of row key (edge_of t key.vrf)
      else if home then None
      else picked_by t rs row node key

  pub to_reflector : is_reflector rs peer ≡ true → kept_of row key (edge_of t key.vrf) ≡ held_out t rs row node peer key
  to_reflector is = sym (ap (λ b. by_tests b (edge_of t key.vrf == peer)) is)

  pub to_home : is_reflector rs peer ≡ false → edge_of t key.vrf ≡ peer → None ≡ held_out t rs row node peer key
  to_home isnt same =
      sym (ap (λ b. by_tests b (edge_of t key.vrf == peer)) isnt ∙ ap (by_tests false) (test_same (edge_of t key.vrf) peer same))

  pub to_edge : is_reflector rs peer ≡ false → edge_of t key.vrf ≢ peer → picked_by t rs row node key ≡ held_out t rs row node peer key
  to_edge isnt apart =
      sym (ap (λ b. by_tests b (edge_of t key.vrf == peer)) isnt ∙ ap (by_tests false) (other_test (edge_of t key.vrf) peer apart))

-- 2. What is sent

module _ (t : Network) (node peer : ℕ) (key : Key) where
  same_passed : (old new : Heard) → says_same (passed_on t node old) (passed_on t node new) ≡ says_same old new
  same_passed old new =
      ap (λ b. (old.label == new.label) && (same_targets (numbers old.targets) (numbers new.targets) && (b && same_targets old.clusters new.clusters)))
      (same_test (loopback t node))

  pub letters_are : (old new : Option Heard) →
      letter_if node peer (change_bytes t node key old new) ≡ change_letters t node peer key (option_map (passed_on t node) old)
      (option_map (passed_on t node) new)
  letters_are None None = refl
  letters_are (Some old) None = refl
  letters_are None (Some new) = refl
  letters_are (Some old) (Some new) =
      by (says_same old new)
      ∙ sym (ap (λ b. let ls : List Letter = if b then [] else reflected_letter t node peer (passed_on t node new) ∷ [] in ls) (same_passed old new))
    where
      by : (b : Bool) → letter_if node peer (if b then None else Some (passed_bytes t node new))
          ≡ (if b then [] else reflected_letter t node peer (passed_on t node new) ∷ [])
      by true = refl
      by false = refl

  module _ (rs : List ℕ) (was row : Row) (old new : Option Heard) (before : old ≡ held_out t rs was node peer key)
      (after : new ≡ held_out t rs row node peer key)
      (mail : Mail) where
    letters_told : letter_if node peer (change_bytes t node key old new)
        ≡ change_letters t node peer key (offered_of t rs was node peer key) (offered_of t rs row node peer key)
    letters_told =
        letters_are old new
        ∙ ap (λ (o : Option Heard). change_letters t node peer key (option_map (passed_on t node) o) (option_map (passed_on t node) new)) before
        ∙ ap (λ (n : Option Heard). change_letters t node peer key (offered_of t rs was node peer key) (option_map (passed_on t node) n)) after

    -- one letter is sent
    pub says_it : (bytes : List ℕ) (later : Mail) → Some bytes ≡ change_bytes t node key old new → later ≡ posted (letter_of node peer bytes ∷ []) mail →
        later ≡ posted (change_letters t node peer key (offered_of t rs was node peer key) (offered_of t rs row node peer key)) mail
    says_it bytes later is sent = sent ∙ ap (λ o. posted (letter_if node peer o) mail) is ∙ ap (λ ls. posted ls mail) letters_told

    -- or none
    pub says_none : None ≡ change_bytes t node key old new →
        mail ≡ posted (change_letters t node peer key (offered_of t rs was node peer key) (offered_of t rs row node peer key)) mail
    says_none is = sym (posted_none mail) ∙ ap (λ o. posted (letter_if node peer o) mail) is ∙ ap (λ ls. posted ls mail) letters_told

  -- to a peer that was told nothing of it
  module _ (rs : List ℕ) (row : Row) where
    pub offers_it : (route : Heard) (mail later : Mail) → Some route ≡ held_out t rs row node peer key → (bytes : List ℕ) → bytes ≡ passed_bytes t node route →
        later ≡ posted (letter_of node peer bytes ∷ []) mail →
        later ≡ posted (change_letters t node peer key None (offered_of t rs row node peer key)) mail
    offers_it route mail later held bytes spelled sent =
        sent ∙ ap (λ bs. posted (letter_of node peer bs ∷ []) mail) spelled
        ∙ ap (λ (o : Option Heard). posted (change_letters t node peer key None (option_map (passed_on t node) o)) mail) held

    pub offers_none : (mail : Mail) → None ≡ held_out t rs row node peer key →
        mail ≡ posted (change_letters t node peer key None (offered_of t rs row node peer key)) mail
    offers_none mail held =
        sym (posted_none mail)
        ∙ ap (λ (o : Option Heard). posted (change_letters t node peer key None (option_map (passed_on t node) o)) mail) held
