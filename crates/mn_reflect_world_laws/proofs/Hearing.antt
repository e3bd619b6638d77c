-- What a node keeps as a word is received.
use Rattle.std.proofs.Common.{ℕ, ◌≡◌, ◌≢◌, ◌⊎◌, inl, inr, true, List, [], ◌∷◌, ◌++◌, Some, refl, sym, ◌∙◌, ap, subst}
use Rattle.std.specs.Prelude.{if◌then◌else◌}
use Rattle.std.proofs.lemmas.Bool.Decides.{eqb_tells}
use Rattle.mn_ledger.specs.Tables.{put_pair}
use Rattle.mn_ledger.specs.Bgp.{peers_live}
use Rattle.mn_ledger.proofs.GoingBy.{pair_here, pair_off}
use Rattle.mn_bgp_spelling_laws.specs.Spelling.{Labels}
use Rattle.mn_offers.specs.Heard.{Heard}
use Rattle.mn_reflect_ledger_laws.specs.Words.{Word}
use Rattle.mn_reflect_ledger_laws.specs.Picks.{ReflectWorld}
use Rattle.mn_reflect_ledger_laws.specs.World.{heard_one}
use Rattle.mn_reflect_world_laws.specs.Kept.{after_word, after_words, kept_in}
use Rattle.mn_reflect_world_laws.specs.Laws.{TakesInWhatIsHeard}

one_more : (labels : Labels) (kept : List Heard) (words : List Word) (word : Word) →
    after_words labels kept (words ++ word ∷ []) ≡ after_word labels (after_words labels kept words) word
one_more labels kept [] word = refl
one_more labels kept (first ∷ words) word = one_more labels (after_word labels kept first) words word

module _ (labels : Labels) (world : ReflectWorld) (from to : ℕ) (word : Word) (live : peers_live world.config to from ≡ true) where
  abbrev taken : List Heard
  taken = after_word labels (kept_in labels world to from) word

  abbrev IsSo : ℕ → ℕ → Type 0
  IsSo node peer = kept_in labels (heard_one world from to (Some word)) node peer ≡ put_pair (kept_in labels world) to from taken node peer

  here : IsSo to from
  here =
      ap (λ t. if t then after_words labels [] (put_pair world.heard to from (world.heard to from ++ word ∷ []) to from) else []) live
      ∙ ap (after_words labels []) (pair_here world.heard to from (world.heard to from ++ word ∷ []))
      ∙ one_more labels [] (world.heard to from) word
      ∙ ap (λ kept. after_word labels kept word) (sym (ap (λ t. if t then after_words labels [] (world.heard to from) else []) live))
      ∙ sym (pair_here (kept_in labels world) to from taken)

  elsewhere : (node peer : ℕ) → (node ≢ to) ⊎ (peer ≢ from) → IsSo node peer
  elsewhere node peer other =
      ap (λ words. if peers_live world.config node peer then after_words labels [] words else [])
      (pair_off world.heard to from (world.heard to from ++ word ∷ []) node peer other)
      ∙ sym (pair_off (kept_in labels world) to from taken node peer other)

  everywhere_so : (node peer : ℕ) → IsSo node peer
  everywhere_so node peer = elim (eqb_tells node to) [
    | inl n ↦ elim (eqb_tells peer from) [
      | inl p ↦ subst (λ k. IsSo k peer) (sym n.1) (subst (λ k. IsSo to k) (sym p.1) here)
      | inr p ↦ elsewhere node peer (inr p.1)
    ]
    | inr n ↦ elsewhere node peer (inl n.1)
  ]

pub takes_in : TakesInWhatIsHeard
takes_in labels world from to word node peer live = everywhere_so labels world from to word live node peer
