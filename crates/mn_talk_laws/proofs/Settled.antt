-- With reflectors, where all is received: what was sent is what is seen, and the laws of reflection speak of it.
use Rattle.std.proofs.Common.{ℕ, ◌≡◌, ◌≢◌, ◌<◌, List, ◌∷◌, length, take, take_all}
use Rattle.std.proofs.Common.{refl, arith, sym, ◌∙◌, ap, subst, append-nil}
use Rattle.std.specs.List.{Contains}
use Rattle.mn_topo.specs.Network.{Network}
use Rattle.mn_topo.specs.Lawful.{IsLawful}
use Rattle.mn_ledger.specs.World.{Config}
use Rattle.mn_ledger.specs.Places.{edges}
use Rattle.mn_ledger.specs.Held.{HeldRoute}
use Rattle.mn_reflect_ledger_laws.specs.Words.{last_mention}
use Rattle.std.proofs.Common.{None}
use Rattle.mn_reflect_ledger_laws.specs.Quiet as quiet
use Rattle.mn_reflect_ledger_laws.specs.Quiet.{BeginsBy, SaysItsOffers, IsInTurn, AreReflectors, IsJoined}
use Rattle.mn_reflect_ledger_laws.specs.Holding as holding
use Rattle.mn_reflect_ledger_laws.specs.Holding.{AreApart}
use Rattle.mn_reflect_ledger_laws.proofs.Offering.{IsWithin}
use Rattle.mn_reflect_ledger_laws.proofs.Quiet.{has_what_is_exported}
use Rattle.mn_reflect_ledger_laws.proofs.Holding.{holds}
use Rattle.mn_talk_laws.specs.Talk.{Talks, heard_words, seen, held}
use Rattle.mn_talk_laws.specs.Laws.{IsHeard, IsTalk, HoldsItsRoutes}

module _ (topology : Network) (reflector : ℕ) (others : List ℕ) (config : Config) (talks : Talks) (lawful : IsLawful topology)
    (are : AreReflectors topology (reflector ∷ others)) (apart : AreApart topology config) (talk : IsTalk topology (reflector ∷ others) config talks)
    (all : IsHeard topology config talks) (joined : IsJoined topology (reflector ∷ others) (seen config talks)) where
  heard_all : (node peer : ℕ) → heard_words talks node peer ≡ talks.told peer node
  heard_all node peer = ap (λ k. take k (talks.told peer node)) (all node peer) ∙ take_all (length (talks.told peer node)) (talks.told peer node) (omega arith)

  told_all : (node peer : ℕ) → quiet.told (seen config talks) node peer ≡ talks.told node peer
  told_all node peer = append-nil (heard_words talks peer node) ∙ heard_all peer node

  counts : (node peer : ℕ) → length (heard_words talks node peer) ≡ talks.heard node peer
  counts node peer = ap length (heard_all node peer) ∙ sym (all node peer)

  within : IsWithin topology (seen config talks)
  within node peer h = talk.within node peer h

  offers : (node peer : ℕ) → node ≢ peer → node < length topology.loopbacks → peer < length topology.loopbacks →
      SaysItsOffers topology (reflector ∷ others) (seen config talks) node peer
  offers node peer d h g = record {
    all = λ on key. ap (last_mention key None) (told_all node peer) ∙ (talk.offers node peer d h g).all on key;
    nothing = λ off key. ap (last_mention key None) (told_all node peer) ∙ (talk.offers node peer d h g).nothing off key;
  }

  turns : (node peer : ℕ) → node ≢ peer → node < length topology.loopbacks → peer < length topology.loopbacks → IsInTurn (seen config talks) node peer
  turns node peer d h g = record {
    alive = λ on. subst (λ ws. BeginsBy (length (heard_words talks node peer)) ws) (sym (told_all node peer))
        (subst (λ k. BeginsBy k (talks.told node peer)) (sym (counts node peer)) ((talk.turns node peer d h g).alive on));
    dead = λ off. told_all node peer ∙ (talk.turns node peer d h g).dead off;
  }

  same_held : (edge v : ℕ) → held topology (reflector ∷ others) config talks edge v ≡ quiet.held topology (reflector ∷ others) (seen config talks) edge v
  unfolding held quiet.held
  same_held edge v = refl

  pub holds_all : (edge v : ℕ) (route : HeldRoute) → Contains (edges topology) edge → HoldsItsRoutes topology (reflector ∷ others) config talks edge v route
  holds_all edge v route is_one =
      let landed : holding.HoldsItsRoutes topology (reflector ∷ others) (seen config talks) edge v route =
      holds topology (reflector ∷ others) (seen config talks) within lawful
      (has_what_is_exported topology (reflector ∷ others) (seen config talks) refl are turns offers joined) apart edge is_one v route in
      record {
        only = λ c. landed.only (subst (λ rs. Contains rs route) (same_held edge v) c);
        all = λ c. subst (λ rs. Contains rs route) (sym (same_held edge v)) (landed.all c);
      }
