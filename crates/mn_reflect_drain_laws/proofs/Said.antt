-- What a step makes a node announce is offered then.
use Rattle.std.proofs.Common.{ℕ, zero, suc, ◌≡◌, ◌<◌, inl, inr, Bool, true, false, cond, List, [], ◌∷◌, ◌++◌, length, Some, None, Option}
use Rattle.std.proofs.Common.{refl, arith, ap, subst}
use Rattle.std.specs.List.{flat_map}
use Rattle.mn_base.proofs.Members.{In, in_append, in_range, in_flat_map}
use Rattle.mn_wiring.specs.Wiring.{nodes_of}
use Rattle.mn_topo.specs.Network.{Network, wiring_of}
use Rattle.mn_topo.specs.declared.steps.Step.{Step}
use Rattle.mn_topo.specs.declared.steps.Step.TheVariants as step
use Rattle.mn_reflect_ledger_laws.specs.Words.{Key, Offer, Word, Open, KeepAlive, Announce, Withdraw, key_of, keys_in, in_order, change}
use Rattle.mn_reflect_ledger_laws.specs.Picks.{Spoken, ReflectWorld, offered, known_keys}
use Rattle.mn_reflect_ledger_laws.specs.World.{first_word, says, all_offers, reply, replies, is_steady, news_of, news, said_in}
use Rattle.mn_reflect_ledger_laws.specs.Quiet.{NamesNodes}
use Rattle.mn_reflect_ledger_laws.proofs.Through.{in_says, in_change}

-- the routes that words announce
pub announced_in : (words : List Word) (key : Key) → In (keys_in words) key → (x : Offer) × In words (Announce x) × (key_of x ≡ key)
announced_in [] key i = absurd i
announced_in (Announce x ∷ words) key i = elim i [
  | inl e ↦ (x, inl refl, e)
  | inr j ↦ let m = announced_in words key j in (m.0, inr m.1, m.2)
]
announced_in (Open ∷ words) key i = let m = announced_in words key i in (m.0, inr m.1, m.2)
announced_in (KeepAlive ∷ words) key i = let m = announced_in words key i in (m.0, inr m.1, m.2)
announced_in (Withdraw other ∷ words) key i = let m = announced_in words key i in (m.0, inr m.1, m.2)

pub in_announced : (words : List Word) (x : Offer) → In words (Announce x) → In (keys_in words) (key_of x)
in_announced [] x i = absurd i
in_announced (Announce y ∷ words) x i = elim i [ inl e ↦ inl (same e) | inr j ↦ inr (in_announced words x j) ]
  where
    same : Announce y ≡ Announce x → key_of y ≡ key_of x
    same e = let is : y ≡ x = cc in ap key_of is
in_announced (Open ∷ words) x i = elim i [ inl e ↦ absurd (cc e) | inr j ↦ in_announced words x j ]
in_announced (KeepAlive ∷ words) x i = elim i [ inl e ↦ absurd (cc e) | inr j ↦ in_announced words x j ]
in_announced (Withdraw key ∷ words) x i = elim i [ inl e ↦ absurd (cc e) | inr j ↦ in_announced words x j ]

module _ (topology : Network) (reflectors : List ℕ) (world new : ReflectWorld) where
  -- a node offers it to a peer under a name
  abbrev pub IsOffered : ℕ → ℕ → Offer → Type 0
  IsOffered node peer x = (key : Key) × (offered topology reflectors new node peer key ≡ Some x)

  all_are : (node peer : ℕ) (x : Offer) → In (all_offers topology reflectors new node peer) (Announce x) → IsOffered node peer x
  all_are node peer x i =
      let m = in_flat_map (λ key. change key None (offered topology reflectors new node peer key)) (in_order (known_keys topology reflectors new node))
      (Announce x) i in
      (m.0, in_change m.0 None (offered topology reflectors new node peer m.0) x m.2)

  reply_is : (node peer count : ℕ) (o : Option Word) (x : Offer) → In (reply topology reflectors new node peer count o) (Announce x) → IsOffered node peer x
  reply_is node peer zero (Some Open) x i = elim i [ inl e ↦ absurd (other e) | inr j ↦ absurd j ]
    where
      other : KeepAlive ≡ Announce x → ⊥
      other e = cc
  reply_is node peer zero (Some KeepAlive) x i = absurd i
  reply_is node peer zero (Some (Announce y)) x i = absurd i
  reply_is node peer zero (Some (Withdraw key)) x i = absurd i
  reply_is node peer zero None x i = absurd i
  reply_is node peer (suc zero) (Some Open) x i = absurd i
  reply_is node peer (suc zero) (Some KeepAlive) x i = all_are node peer x i
  reply_is node peer (suc zero) (Some (Announce y)) x i = absurd i
  reply_is node peer (suc zero) (Some (Withdraw key)) x i = absurd i
  reply_is node peer (suc zero) None x i = absurd i
  reply_is node peer (suc (suc count)) (Some Open) x i = absurd i
  reply_is node peer (suc (suc count)) (Some KeepAlive) x i = absurd i
  reply_is node peer (suc (suc count)) (Some (Announce y)) x i = absurd i
  reply_is node peer (suc (suc count)) (Some (Withdraw key)) x i = absurd i
  reply_is node peer (suc (suc count)) None x i = absurd i

  abbrev pub IsSaid : Spoken → Offer → Type 0
  IsSaid s x = (s.from < length topology.loopbacks) × IsOffered s.from s.to x

  said_by : (from to : ℕ) (words : List Word) → from < length topology.loopbacks → ((x : Offer) → In words (Announce x) → IsOffered from to x) →
      (s : Spoken) (x : Offer) → In (says from to words) s → s.word ≡ Announce x → IsSaid s x
  said_by from to words there h s x i e =
      let m = in_says from to words s i in
      subst (λ q. (s.from < length topology.loopbacks) × IsOffered s.from q x) m.1
      (subst (λ q. (q < length topology.loopbacks) × IsOffered q to x) m.0 (there, h x (subst (In words) e m.2)))

  opens_none : (x : Offer) → In (Open ∷ []) (Announce x) → ⊥
  opens_none x i = elim i [ inl e ↦ other e | inr j ↦ j ]
    where
      other : Open ≡ Announce x → ⊥
      other e = cc

  replies_are : (done : Step) → NamesNodes topology done → (s : Spoken) (x : Offer) → In (replies topology reflectors world new done) s → s.word ≡ Announce x →
      IsSaid s x
  replies_are (step.BgpUp a b) h s x i e = elim (in_append (says a.0 b.0 (Open ∷ [])) (says b.0 a.0 (Open ∷ [])) s i) [
    | inl j ↦ said_by a.0 b.0 (Open ∷ []) (omega (arith, h.0, h.1)) (λ y k. absurd (opens_none y k)) s x j e
    | inr j ↦ said_by b.0 a.0 (Open ∷ []) h.1 (λ y k. absurd (opens_none y k)) s x j e
  ]
  replies_are (step.HearBgp a b) h s x i e =
      said_by b.0 a.0 (reply topology reflectors new b.0 a.0 (length (world.heard b.0 a.0)) (first_word a.0 b.0 world.flying)) h.2
      (reply_is b.0 a.0 (length (world.heard b.0 a.0)) (first_word a.0 b.0 world.flying)) s x i e
  replies_are _ h s x i e = absurd i

  news_are : (node : ℕ) → node < length topology.loopbacks → (s : Spoken) (x : Offer) → In (news topology reflectors world new node) s → s.word ≡ Announce x →
      IsSaid s x
  news_are node there s x i e =
      let m = in_flat_map (λ key. flat_map (news_of topology reflectors world new node key) (nodes_of (wiring_of topology)))
      (in_order (known_keys topology reflectors world node ++ known_keys topology reflectors new node)) s i in
      let p = in_flat_map (news_of topology reflectors world new node m.0) (nodes_of (wiring_of topology)) s m.2 in
      by m.0 p.0 (is_steady world new node p.0) p.2
    where
      by : (key : Key) (peer : ℕ) (b : Bool) → In (cond b (says node peer (change key (offered topology reflectors world node peer key)
          (offered topology reflectors new node peer key))) []) s → IsSaid s x
      by key peer true j = said_by node peer (change key (offered topology reflectors world node peer key) (offered topology reflectors new node peer key))
          there
          (λ y k. (key, in_change key (offered topology reflectors world node peer key) (offered topology reflectors new node peer key) y k)) s x j e
      by key peer false j = absurd j

  pub said_is : (done : Step) → NamesNodes topology done → (s : Spoken) (x : Offer) → In (said_in topology reflectors world new done) s → s.word ≡ Announce x →
      IsSaid s x
  said_is done names s x i e =
      elim (in_append (replies topology reflectors world new done) (flat_map (news topology reflectors world new) (nodes_of (wiring_of topology))) s i) [
        | inl j ↦ replies_are done names s x j e
        | inr j ↦
            let m = in_flat_map (news topology reflectors world new) (nodes_of (wiring_of topology)) s j in
            news_are m.0 (within m.0 m.1) s x m.2 e
      ]
    where
      within : (node : ℕ) → In (nodes_of (wiring_of topology)) node → node < length topology.loopbacks
      within node j = let r = in_range 0 (length topology.loopbacks) node j in omega (arith, r.1)
