-- What a hearing makes a node say of routes to one peer: at most one word, since a word is of one route and what is offered of all others
-- stays. Only a reflector that receives passes a word on, and to edges alone what it received from a reflector.
use Rattle.std.proofs.Common.{ℕ, ◌≡◌, ◌≢◌, ◌≤◌, ◌⊎◌, inl, inr, Bool, true, false, List, [], ◌∷◌, ◌++◌, length, Some, None, Option}
use Rattle.std.proofs.Common.{refl, arith, sym, ◌∙◌, ap, subst, append-nil}
use Rattle.std.specs.Prelude.{◌==◌, if◌then◌else◌, option_map}
use Rattle.std.specs.List.{flat_map, AllByRecursion}
use Rattle.std.proofs.lemmas.Bool.Decides.{eqb_tells, nat_tests}
use Rattle.mn_base.specs.Ordered.{Ascends}
use Rattle.mn_base.proofs.Bools.{no, two_ways}
use Rattle.mn_base.proofs.Members.{In}
use Rattle.mn_base.specs.declared.numbers.NodeNo.{NodeNo}
use Rattle.mn_topo.specs.Network.{Network}
use Rattle.mn_topo.specs.declared.steps.Step.TheVariants as step
use Rattle.mn_ledger.specs.Places.{edge_of}
use Rattle.mn_ledger.specs.Bgp.{peers_live}
use Rattle.mn_ledger.specs.Tables.{put_pair}
use Rattle.mn_ledger.proofs.GoingBy.{pair_here, pair_off}
use Rattle.mn_reflect_ledger_laws.specs.Words.{Key, Offer, Word, Open, KeepAlive, Announce, Withdraw, key_of, same_key, key_before, same_offer, mentioned}
use Rattle.mn_reflect_ledger_laws.specs.Words.{last_mention}
use Rattle.mn_reflect_ledger_laws.specs.Words.{in_order, change}
use Rattle.mn_reflect_ledger_laws.specs.Picks.{ReflectWorld, announced_by, offered, known_keys, is_reflector, through, to_reflect, own_offer, from_edge, pick}
use Rattle.mn_reflect_ledger_laws.specs.World.{first_word, heard_one, unsaid}
use Rattle.mn_reflect_ledger_laws.proofs.Mentions.{same_keys, mention_append}
use Rattle.mn_reflect_world_laws.proofs.InOrder.{order_up, in_ordered}
use Rattle.mn_reflect_world_laws.proofs.Changes.{no_change}
use Rattle.mn_reflect_world_laws.proofs.Same.{offers_same}

-- all that a node says to a peer of what changes of what it offers it
abbrev pub news_to : Network → List ℕ → ReflectWorld → ReflectWorld → ℕ → ℕ → List Word
news_to topology reflectors world new node peer =
    flat_map (λ key. change key (offered topology reflectors world node peer key) (offered topology reflectors new node peer key))
    (in_order (known_keys topology reflectors world node ++ known_keys topology reflectors new node))

-- 1. One route of many

before_itself : (k : Key) → key_before k k ≡ false
before_itself k = grind (arith, nat_tests)

pub change_one : (k : Key) (old new : Option Offer) → length (change k old new) ≤ 1
change_one k None None = omega arith
change_one k (Some old) None = omega arith
change_one k None (Some new) = omega arith
change_one k (Some old) (Some new) = by (same_offer old new)
  where
    by : (b : Bool) → length (if b then [] else Announce new ∷ []) ≤ 1
    by true = omega arith
    by false = omega arith

none_of : (f : Key → List Word) (keys : List Key) → ((k : Key) → In keys k → f k ≡ []) → flat_map f keys ≡ []
none_of f [] h = refl
none_of f (k ∷ keys) h = ap (λ ws. ws ++ flat_map f keys) (h k (inl refl)) ∙ none_of f keys (λ x i. h x (inr i))

module _ (f : Key → List Word) (k : Key) (off : (x : Key) → same_key x k ≡ false → f x ≡ []) where
  none_later : (x : Key) → x ≡ k → (xs : List Key) → AllByRecursion (λ y. key_before x y ≡ true) xs → flat_map f xs ≡ []
  none_later x e [] h = refl
  none_later x e (y ∷ ys) h = ap (λ ws. ws ++ flat_map f ys) (off y (apart (two_ways (same_key y k)))) ∙ none_later x e ys h.1
    where
      apart : (same_key y k ≡ true) ⊎ (same_key y k ≡ false) → same_key y k ≡ false
      apart (inr q) = q
      apart (inl q) = absurd (no (sym (before_itself x) ∙ subst (λ z. key_before x z ≡ true) (same_keys y k q ∙ sym e) h.0))

  one_of_many : length (f k) ≤ 1 → (keys : List Key) → Ascends key_before keys → length (flat_map f keys) ≤ 1
  one_of_many one [] up = omega arith
  one_of_many one (x ∷ xs) up = by (two_ways (same_key x k)) (one_of_many one xs up.1)
    where
      by : (same_key x k ≡ true) ⊎ (same_key x k ≡ false) → length (flat_map f xs) ≤ 1 → length (f x ++ flat_map f xs) ≤ 1
      by (inl q) more =
          subst (λ ws. length (f x ++ ws) ≤ 1) (sym (none_later x (same_keys x k q) xs up.0))
          (subst (λ ws. length ws ≤ 1) (sym (append-nil (f x))) (subst (λ z. length (f z) ≤ 1) (sym (same_keys x k q)) one))
      by (inr q) more = subst (λ ws. length (ws ++ flat_map f xs) ≤ 1) (sym (off x q)) more

-- the route that a word is of, where it is of one
abbrev about : Key → Word → Key
about other (Announce offer) = key_of offer
about other (Withdraw key) = key
about other Open = other
about other KeepAlive = other

not_about : (other : Key) (word : Word) (x : Key) (was : Option Offer) → same_key x (about other word) ≡ false → mentioned x was word ≡ was
not_about other Open x was h = refl
not_about other KeepAlive x was h = refl
not_about other (Announce offer) x was h = ap (λ b. if b then Some offer else was) h
not_about other (Withdraw key) x was h = ap (λ b. if b then None else was) h

-- 2. A hearing

module _ (t : Network) (reflectors : List ℕ) (world : ReflectWorld) (a b : NodeNo) (word : Word) (first : first_word a.0 b.0 world.flying ≡ Some word) where
  abbrev new : ReflectWorld
  new = unsaid world (step.HearBgp a b)

  pub heard_is : (n p : ℕ) → new.heard n p ≡ put_pair world.heard b.0 a.0 (world.heard b.0 a.0 ++ word ∷ []) n p
  heard_is n p = ap (λ o. (heard_one world a.0 b.0 o).heard n p) first

  is_hearer : (n p : ℕ) → ((n ≡ b.0) × (p ≡ a.0)) ⊎ ((n ≢ b.0) ⊎ (p ≢ a.0))
  is_hearer n p = elim (eqb_tells n b.0) [
    | inl e ↦ elim (eqb_tells p a.0) [ inl f ↦ inl (e.1, f.1) | inr f ↦ inr (inr f.1) ]
    | inr e ↦ inr (inl e.1)
  ]

  mention_same : (other x : Key) → same_key x (about other word) ≡ false → (n p : ℕ) →
      last_mention x None (world.heard n p) ≡ last_mention x None (new.heard n p)
  mention_same other x h n p = elim (is_hearer n p) [
    | inl e ↦ subst (λ m. last_mention x None (world.heard m p) ≡ last_mention x None (new.heard m p)) (sym e.0)
        (subst (λ q. last_mention x None (world.heard b.0 q) ≡ last_mention x None (new.heard b.0 q)) (sym e.1) here)
    | inr o ↦ ap (last_mention x None) (sym (heard_is n p ∙ pair_off world.heard b.0 a.0 (world.heard b.0 a.0 ++ word ∷ []) n p o))
  ]
    where
      here : last_mention x None (world.heard b.0 a.0) ≡ last_mention x None (new.heard b.0 a.0)
      here =
          sym (ap (last_mention x None) (heard_is b.0 a.0 ∙ pair_here world.heard b.0 a.0 (world.heard b.0 a.0 ++ word ∷ []))
          ∙ mention_append x None (world.heard b.0 a.0) (word ∷ [])
          ∙ not_about other word x (last_mention x None (world.heard b.0 a.0)) h)

  announced_same : (other x : Key) → same_key x (about other word) ≡ false → (n p : ℕ) → announced_by world n p x ≡ announced_by new n p x
  announced_same other x h n p = ap (λ o. if peers_live world.config n p then o else None) (mention_same other x h n p)

  abbrev nothing_else : Key
  nothing_else = record { vrf = 0; prefix = record { address = 0; length = 0 } }

  others_off : (n p : ℕ) (x : Key) → same_key x (about nothing_else word) ≡ false →
      change x (offered t reflectors world n p x) (offered t reflectors new n p x) ≡ []
  others_off n p x h =
      ap (λ o. change x o (offered t reflectors new n p x)) (offers_same t reflectors world new n x (announced_same nothing_else x h n) refl p)
      ∙ no_change x (offered t reflectors new n p x)

  pub one_word : (n p : ℕ) → length (news_to t reflectors world new n p) ≤ 1
  one_word n p =
      one_of_many (λ key. change key (offered t reflectors world n p key) (offered t reflectors new n p key)) (about nothing_else word) (others_off n p)
      (change_one (about nothing_else word) (offered t reflectors world n p (about nothing_else word)) (offered t reflectors new n p
      (about nothing_else word)))
      (in_order (known_keys t reflectors world n ++ known_keys t reflectors new n))
      (order_up (known_keys t reflectors world n ++ known_keys t reflectors new n))

  -- where all offers of known routes stay nothing is sent
  still : (n p : ℕ) → ((x : Key) → In (known_keys t reflectors world n ++ known_keys t reflectors new n) x →
      offered t reflectors world n p x ≡ offered t reflectors new n p x) → news_to t reflectors world new n p ≡ []
  still n p same = none_of (λ key. change key (offered t reflectors world n p key) (offered t reflectors new n p key))
      (in_order (known_keys t reflectors world n ++ known_keys t reflectors new n))
      (λ x i. ap (λ o. change x o (offered t reflectors new n p x)) (same x (in_ordered (known_keys t reflectors world n ++ known_keys t reflectors new n) x i))
      ∙ no_change x (offered t reflectors new n p x))

  announced_off : (n p : ℕ) (x : Key) → (n ≢ b.0) ⊎ (p ≢ a.0) → announced_by world n p x ≡ announced_by new n p x
  announced_off n p x o = ap (λ ws. if peers_live world.config n p then last_mention x None ws else None)
      (sym (heard_is n p ∙ pair_off world.heard b.0 a.0 (world.heard b.0 a.0 ++ word ∷ []) n p o))

  -- nobody but the hearer says anything of routes
  pub others_still : (n p : ℕ) → n ≢ b.0 → news_to t reflectors world new n p ≡ []
  others_still n p d = still n p (λ x i. offers_same t reflectors world new n x (λ q. announced_off n q x (inl d)) refl p)

  -- an edge says nothing
  pub edges_still : (n p : ℕ) → is_reflector reflectors n ≡ false → news_to t reflectors world new n p ≡ []
  edges_still n p e = still n p (λ x i.
      ap (λ c. if c then option_map (through t n) (to_reflect t reflectors world n p x) else own_offer t world.config n x) e
      ∙ sym (ap (λ c. if c then option_map (through t n) (to_reflect t reflectors new n p x) else own_offer t world.config n x) e))

  to_reflector : (w : ReflectWorld) (p : ℕ) (x : Key) → is_reflector reflectors b.0 ≡ true → is_reflector reflectors p ≡ true →
      offered t reflectors w b.0 p x ≡ option_map (through t b.0) (from_edge t w b.0 x)
  to_reflector w p x e f =
      ap (λ c. if c then option_map (through t b.0) (to_reflect t reflectors w b.0 p x) else own_offer t w.config b.0 x) e
      ∙ ap (λ c. option_map (through t b.0) (if c then from_edge t w b.0 x else if edge_of t x.vrf == p then None else pick t reflectors w b.0 x)) f

  -- and what was received from a node that no route's VRF is of, as of a reflector, goes to no reflector
  pub once_still : (p : ℕ) → is_reflector reflectors b.0 ≡ true → is_reflector reflectors p ≡ true →
      ((x : Key) → In (known_keys t reflectors world b.0 ++ known_keys t reflectors new b.0) x → edge_of t x.vrf ≢ a.0) →
      news_to t reflectors world new b.0 p ≡ []
  once_still p e f apart = still b.0 p (λ x i.
      to_reflector world p x e f ∙ ap (option_map (through t b.0)) (announced_off b.0 (edge_of t x.vrf) x (inr (apart x i)))
      ∙ sym (to_reflector new p x e f))
