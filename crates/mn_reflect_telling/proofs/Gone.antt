-- Routes that a peer announced and that are forgotten.
use Rattle.std.proofs.Common.{ℕ, ◌≡◌, ◌≢◌, List, [], ◌∷◌, refl, sym, ap, ◌∙◌}
use Rattle.std.specs.Prelude.{◌++◌, slice_index_or, if◌then◌else◌, None}
use Rattle.std.specs.List.{flat_map}
use Rattle.mn_base.specs.declared.numbers.NodeNo.{NodeNo}
use Rattle.mn_base.proofs.Bools.{test_same, other_test}
use Rattle.mn_offers.specs.Heard.{Heard, heard_at}
use Rattle.mn_topo.specs.Network.{Network}
use Rattle.mn_mail.specs.Mail.{Letter, Mail}
use Rattle.mn_reflect_ledger_laws.specs.Words.{Key}
use Rattle.mn_reflect_world_laws.specs.Choice.{Row, offered_of, names_in}
use Rattle.mn_reflect_world_laws.specs.Letters.{change_letters, reflector_news}
use Rattle.mn_reflect_telling.specs.Mentions.{Shows, row_in, row_with, key_of_heard}
use Rattle.mn_reflect_telling.specs.Telling.{posted}
use Rattle.mn_reflect_telling.proofs.Posting.{posted_more, posted_none}

module _ (heard : List (List Heard)) (peer : ℕ) (gone : List Heard) where
  of_others : (other : ℕ) → other ≢ peer → row_with heard peer gone other ≡ slice_index_or heard other []
  of_others other apart = ap (λ b. if b then gone else slice_index_or heard other []) (other_test other peer apart)

  its_own : row_with heard peer gone peer ≡ gone
  its_own = ap (λ b. if b then gone else slice_index_or heard peer []) (test_same peer peer refl)

  -- before, each of them was its last mention
  pub shown_before : (key : Key) → Shows heard key peer (heard_at key.vrf key.prefix gone) (row_with heard peer gone)
  shown_before key = record { others = of_others; said = ap (heard_at key.vrf key.prefix) its_own }

  -- and now it is that none is left
  pub shown_after : slice_index_or heard peer [] ≡ [] → (key : Key) → Shows heard key peer None (row_in heard)
  shown_after left key = record { others = λ other apart. refl; said = ap (heard_at key.vrf key.prefix) left }

-- what is stated of them, one after another
module _ (t : Network) (rs : List ℕ) (node : ℕ) (peers : List NodeNo) (was row : Row) where
  abbrev said_of : Key → List Letter
  said_of key =
      flat_map (λ (peer : NodeNo). change_letters t node peer.0 key (offered_of t rs was node peer.0 key) (offered_of t rs row node peer.0 key)) peers

  pub lost_next : (routes rest : List Heard) (route : Heard) (key : Key) (old new goal : Mail) → routes ≡ route ∷ rest → key ≡ key_of_heard route →
      new ≡ posted (said_of key) old → posted (reflector_news t rs node peers was row (names_in routes)) old ≡ goal →
      posted (reflector_news t rs node peers was row (names_in rest)) new ≡ goal
  lost_next routes rest route key old new goal step same said so_far =
      ap (posted (reflector_news t rs node peers was row (names_in rest))) said
      ∙ posted_more (said_of key) (reflector_news t rs node peers was row (names_in rest)) old
      ∙ ap (λ k. posted (said_of k ++ reflector_news t rs node peers was row (names_in rest)) old) same
      ∙ sym (ap (λ (rs' : List Heard). posted (reflector_news t rs node peers was row (names_in rs')) old) step)
      ∙ so_far

  pub lost_all : (routes : List Heard) (new goal : Mail) → routes ≡ [] → posted (reflector_news t rs node peers was row (names_in routes)) new ≡ goal →
      new ≡ goal
  lost_all routes new goal none so_far =
      sym (posted_none new) ∙ sym (ap (λ (rs' : List Heard). posted (reflector_news t rs node peers was row (names_in rs')) new) none) ∙ so_far
