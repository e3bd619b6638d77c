-- What a step makes one node say to one peer.
use Rattle.std.proofs.Common.{ℕ, zero, suc, ◌≡◌, ◌≢◌, ◌<◌, ◌≤◌, ◌+◌, ◌⊎◌, inl, inr, Bool, true, false, cond, List, [], ◌∷◌, ◌++◌, map, length, filter}
use Rattle.std.proofs.Common.{refl, arith, ◌∙◌, ap, append-nil}
use Rattle.std.specs.Prelude.{◌==◌, ◌&&◌}
use Rattle.std.specs.List.{flat_map, range_with_len}
use Rattle.std.proofs.lemmas.Bool.Decides.{eqb_tells}
use Rattle.std.proofs.lemmas.List.Elements.{filter-append}
use Rattle.std.proofs.lemmas.List.{map-append}
use Rattle.mn_base.proofs.Bools.{same_test, other_test, and_false as and_off}
use Rattle.mn_wiring.specs.Wiring.{nodes_of}
use Rattle.mn_topo.specs.Network.{Network, wiring_of}
use Rattle.mn_topo.specs.declared.steps.Step.{Step}
use Rattle.mn_reflect_ledger_laws.specs.Words.{Key, Word, in_order, change}
use Rattle.mn_reflect_ledger_laws.specs.Picks.{Spoken, ReflectWorld, offered, known_keys}
use Rattle.mn_reflect_ledger_laws.specs.World.{is_from_to, words_to, says, is_steady, news_of, news, replies, said_in}

pub words_append : (n p : ℕ) (xs ys : List Spoken) → words_to n p (xs ++ ys) ≡ words_to n p xs ++ words_to n p ys
words_append n p xs ys =
    ap (map (λ (s : Spoken). s.word)) (filter-append (is_from_to n p) xs ys)
    ∙ map-append (λ (s : Spoken). s.word) (filter (is_from_to n p) xs) (filter (is_from_to n p) ys)

pub pick_word : (n p : ℕ) (x : Spoken) (xs : List Spoken) (on : Bool) → is_from_to n p x ≡ on → words_to n p (x ∷ xs) ≡ cond on (x.word ∷ words_to n p xs)
    (words_to n p xs)
pick_word n p x xs true h = ap (λ o. map (λ (s : Spoken). s.word) (cond o (x ∷ filter (is_from_to n p) xs) (filter (is_from_to n p) xs))) h
pick_word n p x xs false h = ap (λ o. map (λ (s : Spoken). s.word) (cond o (x ∷ filter (is_from_to n p) xs) (filter (is_from_to n p) xs))) h

pub says_own : (n p : ℕ) (words : List Word) → words_to n p (says n p words) ≡ words
says_own n p [] = refl
says_own n p (word ∷ words) =
    pick_word n p (record { from = n; to = p; word = word }) (says n p words) true (ap (λ o. o && (p == p)) (same_test n) ∙ same_test p)
    ∙ ap (λ ws. word ∷ ws) (says_own n p words)

pub says_other : (n p j k : ℕ) (words : List Word) → (j ≢ n) ⊎ (k ≢ p) → words_to n p (says j k words) ≡ []
says_other n p j k [] d = refl
says_other n p j k (word ∷ words) d = pick_word n p (record { from = j; to = k; word = word }) (says j k words) false off ∙ says_other n p j k words d
  where
    off : ((j == n) && (k == p)) ≡ false
    off = elim d [ inl e ↦ ap (λ o. o && (k == p)) (other_test j n e) | inr e ↦ ap (λ o. (j == n) && o) (other_test k p e) ∙ and_off (j == n) ]

pub words_flat : {A : Type 0} (n p : ℕ) (f : A → List Spoken) (xs : List A) → words_to n p (flat_map f xs) ≡ flat_map (λ x. words_to n p (f x)) xs
words_flat n p f [] = refl
words_flat n p f (x ∷ xs) = words_append n p (f x) (flat_map f xs) ∙ ap (λ ws. words_to n p (f x) ++ ws) (words_flat n p f xs)

pub flat_none : {A B : Type 0} (f : A → List B) (xs : List A) → ((x : A) → f x ≡ []) → flat_map f xs ≡ []
flat_none f [] h = refl
flat_none f (x ∷ xs) h = ap (λ ys. ys ++ flat_map f xs) (h x) ∙ flat_none f xs h

pub flat_same : {A B : Type 0} (f g : A → List B) (xs : List A) → ((x : A) → f x ≡ g x) → flat_map f xs ≡ flat_map g xs
flat_same f g [] h = refl
flat_same f g (x ∷ xs) h = ap (λ ys. ys ++ flat_map f xs) (h x) ∙ ap (λ ys. g x ++ ys) (flat_same f g xs h)

-- of the numbers of a range one alone has anything
behind : {B : Type 0} (f : ℕ → List B) (p a m : ℕ) → p < a → ((x : ℕ) → x ≢ p → f x ≡ []) → flat_map f (range_with_len a m) ≡ []
behind f p a zero h only = refl
behind f p a (suc m) h only = ap (λ ys. ys ++ flat_map f (range_with_len (a + 1) m)) (only a (λ e. late e)) ∙ behind f p (a + 1) m (omega (arith, h)) only
  where
    late : a ≡ p → ⊥
    late e = omega (arith, e, h)

pub flat_one : {B : Type 0} (f : ℕ → List B) (p a m : ℕ) → a ≤ p → p < a + m → ((x : ℕ) → x ≢ p → f x ≡ []) → flat_map f (range_with_len a m) ≡ f p
flat_one f p a zero h g only = absurd (none h g)
  where
    none : a ≤ p → p < a + 0 → ⊥
    none h g = omega (arith, h, g)
flat_one f p a (suc m) h g only = elim (eqb_tells a p) [
  | inl e ↦
      ap (λ ys. f a ++ ys) (behind f p (a + 1) m (omega (arith, e.1)) only) ∙ append-nil (f a) ∙ ap f e.1
  | inr e ↦ ap (λ ys. ys ++ flat_map f (range_with_len (a + 1) m)) (only a e.1) ∙ flat_one f p (a + 1) m (later h e.1) (omega (arith, g)) only
]
  where
    later : a ≤ p → a ≢ p → a + 1 ≤ p
    later h d = grind (arith, h, d)

module _ (topology : Network) (reflectors : List ℕ) (world new : ReflectWorld) (n p : ℕ) (there : n < length topology.loopbacks)
    (peer_there : p < length topology.loopbacks) where
  -- all changes to one peer
  abbrev pub to_peer : List Word
  to_peer = flat_map (λ key. change key (offered topology reflectors world n p key) (offered topology reflectors new n p key))
      (in_order (known_keys topology reflectors world n ++ known_keys topology reflectors new n))

  if_steady : (b : Bool) → is_steady world new n p ≡ b → (keys : List Key) →
      flat_map (λ key. words_to n p (news_of topology reflectors world new n key p)) keys
      ≡ cond b (flat_map (λ key. change key (offered topology reflectors world n p key) (offered topology reflectors new n p key)) keys) []
  if_steady true e keys = flat_same _ _ keys (λ key.
      ap (λ c. words_to n p (cond c (says n p (change key (offered topology reflectors world n p key) (offered topology reflectors new n p key))) [])) e
      ∙ says_own n p (change key (offered topology reflectors world n p key) (offered topology reflectors new n p key)))
  if_steady false e keys = flat_none _ keys (λ key.
      ap (λ c. words_to n p (cond c (says n p (change key (offered topology reflectors world n p key) (offered topology reflectors new n p key))) [])) e)

  other_peer : (key : Key) (q : ℕ) → q ≢ p → words_to n p (news_of topology reflectors world new n key q) ≡ []
  other_peer key q d = by (is_steady world new n q)
    where
      by : (b : Bool) → words_to n p (cond b (says n q (change key (offered topology reflectors world n q key)
          (offered topology reflectors new n q key))) []) ≡ []
      by true = says_other n p n q (change key (offered topology reflectors world n q key) (offered topology reflectors new n q key)) (inr d)
      by false = refl

  other_node : (m : ℕ) → m ≢ n → words_to n p (news topology reflectors world new m) ≡ []
  other_node m d =
      words_flat n p (λ key. flat_map (news_of topology reflectors world new m key) (nodes_of (wiring_of topology))) (in_order
      (known_keys topology reflectors world m ++ known_keys topology reflectors new m))
      ∙ flat_none _ (in_order (known_keys topology reflectors world m ++ known_keys topology reflectors new m)) (λ key.
      words_flat n p (news_of topology reflectors world new m key) (nodes_of (wiring_of topology))
      ∙ flat_none _ (nodes_of (wiring_of topology)) (λ q. by key q (is_steady world new m q)))
    where
      by : (key : Key) (q : ℕ) (b : Bool) → words_to n p (cond b (says m q (change key (offered topology reflectors world m q key)
          (offered topology reflectors new m q key))) []) ≡ []
      by key q true = says_other n p m q (change key (offered topology reflectors world m q key) (offered topology reflectors new m q key)) (inl d)
      by key q false = refl

  pub news_to : words_to n p (flat_map (news topology reflectors world new) (nodes_of (wiring_of topology))) ≡ cond (is_steady world new n p) to_peer []
  news_to =
      words_flat n p (news topology reflectors world new) (nodes_of (wiring_of topology))
      ∙ flat_one (λ m. words_to n p (news topology reflectors world new m)) n 0 (length topology.loopbacks) (omega arith) (omega (arith, there)) other_node
      ∙ words_flat n p (λ key. flat_map (news_of topology reflectors world new n key) (nodes_of (wiring_of topology))) (in_order
      (known_keys topology reflectors world n ++ known_keys topology reflectors new n))
      ∙ flat_same _ (λ key. words_to n p (news_of topology reflectors world new n key p)) (in_order
      (known_keys topology reflectors world n ++ known_keys topology reflectors new n)) (λ key.
      words_flat n p (news_of topology reflectors world new n key) (nodes_of (wiring_of topology))
      ∙ flat_one (λ q. words_to n p (news_of topology reflectors world new n key q)) p 0 (length topology.loopbacks) (omega arith) (omega
      (arith, peer_there)) (other_peer key))
      ∙ if_steady (is_steady world new n p) refl (in_order (known_keys topology reflectors world n ++ known_keys topology reflectors new n))

  pub said_to : (done : Step) → words_to n p (said_in topology reflectors world new done)
      ≡ words_to n p (replies topology reflectors world new done) ++ cond (is_steady world new n p) to_peer []
  said_to done =
      words_append n p (replies topology reflectors world new done) (flat_map (news topology reflectors world new) (nodes_of (wiring_of topology)))
      ∙ ap (λ ws. words_to n p (replies topology reflectors world new done) ++ ws) news_to
