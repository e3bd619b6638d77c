-- What a node keeps of a route is its last mention.
use Rattle.std.proofs.Common.{◌≡◌, Bool, true, false, List, [], ◌∷◌, Option, Some, None, refl, sym, ◌∙◌, ap, arith}
use Rattle.std.specs.Prelude.{◌||◌, not, if◌then◌else◌, option_map}
use Rattle.std.proofs.lemmas.Bool.Decides.{nat_tests}
use Rattle.mn_ledger.specs.Bgp.{peers_live}
use Rattle.mn_bgp_spelling_laws.specs.Spelling.{Labels}
use Rattle.mn_offers.specs.Heard.{Heard, heard_before, place_of, with_heard, without_heard, heard_at}
use Rattle.mn_offers.proofs.ByName.{heard_order}
use Rattle.mn_reflect_ledger_laws.specs.Words.{Key, Offer, Word, Open, KeepAlive, Announce, Withdraw, key_of, same_key, mentioned, last_mention}
use Rattle.mn_reflect_ledger_laws.specs.Picks.{announced_by}
use Rattle.mn_reflect_world_laws.specs.Kept.{route_in, after_word, after_words, kept_in}
use Rattle.mn_reflect_world_laws.specs.Laws.{KeepsWhatIsAnnounced}
use Rattle.mn_reflect_world_laws.proofs.At.{at_with, at_without}

abbrev name_of : Heard → Key
name_of route = record { vrf = route.vrf; prefix = route.prefix }

abbrev at : Key → Heard
at key = place_of key.vrf key.prefix

-- another place is another name
apart : (key : Key) (route : Heard) → same_key key (name_of route) ≡ false → (heard_before route (at key) || heard_before (at key) route) ≡ true
apart key route h = grind (arith, nat_tests, h)

alike : (key : Key) (route : Heard) → same_key key (name_of route) ≡ true → (heard_before route (at key) || heard_before (at key) route) ≡ false
alike key route h = grind (arith, nat_tests, h)

choice : (key : Key) (route : Heard) (b : Bool) → same_key key (name_of route) ≡ b → (heard_before route (at key) || heard_before (at key) route) ≡ not b
choice key route true h = alike key route h
choice key route false h = apart key route h

module _ (labels : Labels) (key : Key) where
  one_word : (kept : List Heard) (was : Option Offer) → heard_at key.vrf key.prefix kept ≡ option_map (route_in labels) was → (word : Word) →
      heard_at key.vrf key.prefix (after_word labels kept word) ≡ option_map (route_in labels) (mentioned key was word)
  one_word kept was h Open = h
  one_word kept was h KeepAlive = h
  one_word kept was h (Announce offer) = by (same_key key (key_of offer)) refl
    where
      by : (b : Bool) → same_key key (key_of offer) ≡ b →
          heard_at key.vrf key.prefix (with_heard (route_in labels offer) kept) ≡ option_map (route_in labels)
          (if same_key key (key_of offer) then Some offer else was)
      by true e =
          at_with heard_before heard_order (at key) (route_in labels offer) kept
          ∙ ap (λ b. if b then heard_at key.vrf key.prefix kept else Some (route_in labels offer)) (choice key (route_in labels offer) true e)
          ∙ sym (ap (λ b. option_map (route_in labels) (if b then Some offer else was)) e)
      by false e =
          at_with heard_before heard_order (at key) (route_in labels offer) kept
          ∙ ap (λ b. if b then heard_at key.vrf key.prefix kept else Some (route_in labels offer)) (choice key (route_in labels offer) false e)
          ∙ h ∙ sym (ap (λ b. option_map (route_in labels) (if b then Some offer else was)) e)
  one_word kept was h (Withdraw other) = by (same_key key other) refl
    where
      by : (b : Bool) → same_key key other ≡ b →
          heard_at key.vrf key.prefix (without_heard other.vrf other.prefix kept) ≡ option_map (route_in labels) (if same_key key other then None else was)
      by true e =
          at_without heard_before heard_order (at key) (at other) kept
          ∙ ap (λ b. if b then heard_at key.vrf key.prefix kept else None) (choice key (at other) true e)
          ∙ sym (ap (λ b. option_map (route_in labels) (if b then None else was)) e)
      by false e =
          at_without heard_before heard_order (at key) (at other) kept
          ∙ ap (λ b. if b then heard_at key.vrf key.prefix kept else None) (choice key (at other) false e)
          ∙ h ∙ sym (ap (λ b. option_map (route_in labels) (if b then None else was)) e)

  all_words : (kept : List Heard) (was : Option Offer) → heard_at key.vrf key.prefix kept ≡ option_map (route_in labels) was → (words : List Word) →
      heard_at key.vrf key.prefix (after_words labels kept words) ≡ option_map (route_in labels) (last_mention key was words)
  all_words kept was h [] = h
  all_words kept was h (word ∷ words) = all_words (after_word labels kept word) (mentioned key was word) (one_word kept was h word) words

pub keeps : KeepsWhatIsAnnounced
keeps labels world node peer key = by (peers_live world.config node peer) refl
  where
    by : (b : Bool) → peers_live world.config node peer ≡ b →
        heard_at key.vrf key.prefix (kept_in labels world node peer) ≡ option_map (route_in labels) (announced_by world node peer key)
    by true h =
        ap (λ b. heard_at key.vrf key.prefix (if b then after_words labels [] (world.heard node peer) else [])) h
        ∙ all_words labels key [] None refl (world.heard node peer)
        ∙ sym (ap (λ b. option_map (route_in labels) (if b then last_mention key None (world.heard node peer) else None)) h)
    by false h =
        ap (λ b. heard_at key.vrf key.prefix (if b then after_words labels [] (world.heard node peer) else [])) h
        ∙ sym (ap (λ b. option_map (route_in labels) (if b then last_mention key None (world.heard node peer) else None)) h)
