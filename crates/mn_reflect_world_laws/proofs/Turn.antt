-- The word that is received, by how many were received before.
use Rattle.std.proofs.Common.{ℕ, ◌≡◌, ◌≢◌, ◌<◌, ◌≤◌, inl, inr, true, false, List, [], ◌∷◌, ◌++◌, length, Some, refl, arith, sym, ◌∙◌, ap, subst}
use Rattle.mn_base.proofs.Members.{in_rest}
use Rattle.mn_topo.specs.Network.{Network}
use Rattle.mn_ledger.specs.Bgp.{peers_live}
use Rattle.mn_ledger.proofs.Peers.{live_sym}
use Rattle.mn_base.proofs.Bools.{no, two_ways}
use Rattle.mn_reflect_ledger_laws.specs.Words.{Word, Open, KeepAlive, Announce, Withdraw}
use Rattle.mn_reflect_ledger_laws.specs.Picks.{ReflectWorld}
use Rattle.mn_reflect_ledger_laws.specs.World.{first_word, without_first, words_to}
use Rattle.mn_reflect_ledger_laws.specs.Quiet.{told}
use Rattle.mn_reflect_ledger_laws.proofs.Steps.{first_said}
use Rattle.mn_reflect_ledger_laws.proofs.Runs.{IsRun}
use Rattle.mn_reflect_world_laws.proofs.Talk.{IsMention, AreTalk, IsTalk}

pub data InTurn (word : Word) (count : ℕ) : Type 0 where
  Opens : word ≡ Open → count ≡ 0 → InTurn word count
  Keeps : word ≡ KeepAlive → count ≡ 1 → InTurn word count
  Tells : IsMention word → 2 ≤ count → InTurn word count

in_turn : (front rest : List Word) (word : Word) → AreTalk (front ++ word ∷ rest) → InTurn word (length front)
in_turn [] rest Open h = Opens refl refl
in_turn [] rest KeepAlive h = absurd h
in_turn [] rest (Announce x) h = absurd h
in_turn [] rest (Withdraw k) h = absurd h
in_turn (Open ∷ []) rest KeepAlive h = Keeps refl refl
in_turn (Open ∷ []) rest Open h = absurd h
in_turn (Open ∷ []) rest (Announce x) h = absurd h
in_turn (Open ∷ []) rest (Withdraw k) h = absurd h
in_turn (Open ∷ (KeepAlive ∷ more)) rest word h = Tells (h word (in_rest more (word ∷ rest) word (inl refl))) (omega arith)
in_turn (Open ∷ (Open ∷ more)) rest word h = absurd h
in_turn (Open ∷ (Announce x ∷ more)) rest word h = absurd h
in_turn (Open ∷ (Withdraw k ∷ more)) rest word h = absurd h
in_turn (KeepAlive ∷ more) rest word h = absurd h
in_turn (Announce x ∷ more) rest word h = absurd h
in_turn (Withdraw k ∷ more) rest word h = absurd h

module _ (t : Network) (reflectors : List ℕ) (w : ReflectWorld) (run : IsRun t reflectors w) (a b : ℕ) (differ : a ≢ b) (a_there : a < length t.loopbacks)
    (b_there : b < length t.loopbacks) (word : Word) (first : first_word a b w.flying ≡ Some word) where
  said : told w a b ≡ w.heard b a ++ (word ∷ words_to a b (without_first a b w.flying))
  said = ap (λ ws. w.heard b a ++ ws) (first_said a b w.flying word first)

  not_empty : (front rest : List Word) → front ++ (word ∷ rest) ≡ [] → ⊥
  not_empty [] rest e = no (ap (λ ws. elim ws [ [] ↦ true | v ∷ more ↦ false ]) e)
  not_empty (v ∷ front) rest e = no (ap (λ ws. elim ws [ [] ↦ true | u ∷ more ↦ false ]) e)

  lives_there : peers_live w.config a b ≡ true
  lives_there = elim (two_ways (peers_live w.config a b)) [
    | inl e ↦ e
    | inr e ↦ absurd (not_empty (w.heard b a) (words_to a b (without_first a b w.flying)) (sym said ∙ (run.turns a b differ a_there b_there).dead e))
  ]

  -- the hearer's session lives
  pub hearer_lives : peers_live w.config b a ≡ true
  hearer_lives = live_sym w.config b a (λ e. differ (sym e)) ∙ lives_there

  pub turn_is : IsTalk t w → InTurn word (length (w.heard b a))
  turn_is talk = in_turn (w.heard b a) (words_to a b (without_first a b w.flying)) word (subst AreTalk said (talk.talk a b differ a_there b_there))
