-- Where what a node receives stays, what it offers stays, and it has no news.
use Rattle.std.proofs.Common.{ℕ, zero, suc, ◌≡◌, ◌≢◌, ◌+◌, ◌<◌, ◌≤◌, ◌⊎◌, inl, inr, Bool, true, false, cond, List, [], ◌∷◌, ◌++◌, map, filter, length}
use Rattle.std.proofs.Common.{Some, None, Option, refl, arith, sym, ◌∙◌, ap, subst, append-nil}
use Rattle.std.specs.Prelude.{◌==◌, not, if◌then◌else◌, option_map, slice_index_or}
use Rattle.std.specs.List.{flat_map, range_with_len}
use Rattle.std.proofs.lemmas.Bool.Decides.{eqb_tells}
use Rattle.mn_wiring.specs.Wiring.{nodes_of}
use Rattle.mn_topo.specs.Network.{Network, wiring_of}
use Rattle.mn_ledger.specs.Places.{edge_of}
use Rattle.mn_ledger.specs.Bgp.{peers_live}
use Rattle.mn_bgp_spelling_laws.specs.Spelling.{Labels}
use Rattle.mn_offers.specs.Heard.{Heard}
use Rattle.mn_reflect_ledger_laws.specs.Words.{Key, Offer, Word, Open, KeepAlive, Announce, Withdraw, same_key, key_of, mentioned, last_mention, in_order}
use Rattle.mn_reflect_ledger_laws.specs.Words.{change}
use Rattle.mn_reflect_ledger_laws.specs.Picks.{ReflectWorld, announced_by, or_else, first_announced, by_address, from_reflectors, from_edge, pick, is_reflector}
use Rattle.mn_reflect_ledger_laws.specs.Picks.{through, to_reflect, offered, own_offer, known_keys}
use Rattle.mn_reflect_ledger_laws.specs.World.{says, is_steady, news_of, news}
use Rattle.mn_reflect_ledger_laws.proofs.Mentions.{mention_append}
use Rattle.mn_reflect_ledger_laws.proofs.Saying.{flat_none}
use Rattle.mn_reflect_ledger_laws.proofs.Offering.{IsWithin}
use Rattle.mn_reflect_world_laws.specs.Kept.{after_words, kept_in, all_kept}
use Rattle.mn_reflect_world_laws.specs.Choice.{row_at}
use Rattle.mn_reflect_world_laws.proofs.Changes.{no_change}
use Rattle.mn_reflect_world_laws.proofs.Rows.{table_row, table_at}

-- 1. Of one name

module _ (t : Network) (reflectors : List ℕ) (w u : ReflectWorld) (n : ℕ) (k : Key)
    (same : (p : ℕ) → announced_by w n p k ≡ announced_by u n p k) where
  firsts_same : (peers : List ℕ) → first_announced w n k peers ≡ first_announced u n k peers
  firsts_same [] = refl
  firsts_same (p ∷ peers) = ap (λ o. or_else o (first_announced w n k peers)) (same p) ∙ ap (or_else (announced_by u n p k)) (firsts_same peers)

  pub reflected_same : from_reflectors t reflectors w n k ≡ from_reflectors t reflectors u n k
  reflected_same = firsts_same (by_address t (filter (λ other. not (other == n)) reflectors))

  picks_same : pick t reflectors w n k ≡ pick t reflectors u n k
  picks_same = ap (λ o. or_else o (from_reflectors t reflectors w n k)) (same (edge_of t k.vrf)) ∙ ap (or_else (from_edge t u n k)) reflected_same

  pub reflector_same : is_reflector reflectors n ≡ true → (p : ℕ) → offered t reflectors w n p k ≡ offered t reflectors u n p k
  reflector_same is p =
      ap (λ b. if b then option_map (through t n) (to_reflect t reflectors w n p k) else own_offer t w.config n k) is
      ∙ ap (option_map (through t n)) (by (is_reflector reflectors p) (edge_of t k.vrf == p))
      ∙ sym (ap (λ b. if b then option_map (through t n) (to_reflect t reflectors u n p k) else own_offer t u.config n k) is)
    where
      by : (b d : Bool) → (if b then from_edge t w n k else if d then None else pick t reflectors w n k)
          ≡ (if b then from_edge t u n k else if d then None else pick t reflectors u n k)
      by true d = same (edge_of t k.vrf)
      by false true = refl
      by false false = picks_same

  pub offers_same : own_offer t w.config n k ≡ own_offer t u.config n k → (p : ℕ) → offered t reflectors w n p k ≡ offered t reflectors u n p k
  offers_same own p = by (is_reflector reflectors n) refl
    where
      by : (b : Bool) → is_reflector reflectors n ≡ b → offered t reflectors w n p k ≡ offered t reflectors u n p k
      by true e = reflector_same e p
      by false e =
          ap (λ b. if b then option_map (through t n) (to_reflect t reflectors w n p k) else own_offer t w.config n k) e ∙ own
          ∙ sym (ap (λ b. if b then option_map (through t n) (to_reflect t reflectors u n p k) else own_offer t u.config n k) e)

-- 2. No news

pub quiet_news : (t : Network) (reflectors : List ℕ) (w u : ReflectWorld) (n : ℕ) →
    ((p : ℕ) (k : Key) → offered t reflectors w n p k ≡ offered t reflectors u n p k) → news t reflectors w u n ≡ []
quiet_news t reflectors w u n h =
    flat_none (λ k. flat_map (news_of t reflectors w u n k) (nodes_of (wiring_of t))) (in_order (known_keys t reflectors w n ++ known_keys t reflectors u n))
    (λ k. flat_none (news_of t reflectors w u n k) (nodes_of (wiring_of t)) (λ p. by k p (is_steady w u n p)))
  where
    by : (k : Key) (p : ℕ) (b : Bool) → cond b (says n p (change k (offered t reflectors w n p k) (offered t reflectors u n p k))) [] ≡ []
    by k p true = ap (λ o. says n p (change k o (offered t reflectors u n p k))) (h p k) ∙ ap (says n p) (no_change k (offered t reflectors u n p k))
    by k p false = refl

-- of two numbers of a range alone
pub flat_past : {B : Type 0} (f : ℕ → List B) (from size : ℕ) → ((x : ℕ) → from ≤ x → f x ≡ []) → flat_map f (range_with_len from size) ≡ []
flat_past f from zero h = refl
flat_past f from (suc size) h = ap (λ ys. ys ++ flat_map f (range_with_len (from + 1) size)) (h from (omega arith))
    ∙ flat_past f (from + 1) size (λ x g. h x (omega (arith, g)))

flat_then : {B : Type 0} (f : ℕ → List B) (b from size : ℕ) → from ≤ b → b < from + size → ((x : ℕ) → from ≤ x → x ≢ b → f x ≡ []) →
    flat_map f (range_with_len from size) ≡ f b
flat_then f b from zero h g only = absurd (none h g)
  where
    none : from ≤ b → b < from + 0 → ⊥
    none h g = omega (arith, h, g)
flat_then f b from (suc size) h g only = elim (eqb_tells from b) [
  | inl e ↦ ap (λ ys. f from ++ ys) (flat_past f (from + 1) size (λ x k. only x (omega (arith, k)) (past x k e.1))) ∙ append-nil (f from) ∙ ap f e.1
  | inr e ↦ ap (λ ys. ys ++ flat_map f (range_with_len (from + 1) size)) (only from (omega arith) e.1)
      ∙ flat_then f b (from + 1) size (next h e.1) (omega (arith, g)) (λ x k d. only x (omega (arith, k)) d)
]
  where
    past : (x : ℕ) → from + 1 ≤ x → from ≡ b → x ≢ b
    past x k e q = omega (arith, k, e, q)

    next : from ≤ b → from ≢ b → from + 1 ≤ b
    next h d = grind (arith, h, d)

pub flat_two : {B : Type 0} (f : ℕ → List B) (a b from size : ℕ) → from ≤ a → a < b → b < from + size → ((x : ℕ) → x ≢ a → x ≢ b → f x ≡ []) →
    flat_map f (range_with_len from size) ≡ f a ++ f b
flat_two f a b from zero h less g only = absurd (none h less g)
  where
    none : from ≤ a → a < b → b < from + 0 → ⊥
    none h l g = omega (arith, h, l, g)
flat_two f a b from (suc size) h less g only = elim (eqb_tells from a) [
  | inl e ↦ ap (λ ys. f from ++ ys) (flat_then f b (from + 1) size (omega (arith, less, e.1)) (omega (arith, g)) (λ x k d. only x (past x k e.1) d))
      ∙ ap (λ x. f x ++ f b) e.1
  | inr e ↦ ap (λ ys. ys ++ flat_map f (range_with_len (from + 1) size)) (only from e.1 (before h less))
      ∙ flat_two f a b (from + 1) size (next h e.1) less (omega (arith, g)) only
]
  where
    past : (x : ℕ) → from + 1 ≤ x → from ≡ a → x ≢ a
    past x k e q = omega (arith, k, e, q)

    before : from ≤ a → a < b → from ≢ b
    before h l q = omega (arith, h, l, q)

    next : from ≤ a → from ≢ a → from + 1 ≤ a
    next h d = grind (arith, h, d)

-- 3. Mentions

-- a word on another route, or on none, says nothing of this one
pub other_mention : (k : Key) (was : Option Offer) (word : Word) → ((x : Offer) → word ≡ Announce x → same_key k (key_of x) ≡ false) →
    ((j : Key) → word ≡ Withdraw j → same_key k j ≡ false) → mentioned k was word ≡ was
other_mention k was Open f g = refl
other_mention k was KeepAlive f g = refl
other_mention k was (Announce x) f g = ap (λ b. if b then Some x else was) (f x refl)
other_mention k was (Withdraw j) f g = ap (λ b. if b then None else was) (g j refl)

pub one_more : (k : Key) (words : List Word) (word : Word) → mentioned k (last_mention k None words) word ≡ last_mention k None words →
    last_mention k None (words ++ word ∷ []) ≡ last_mention k None words
one_more k words word h = mention_append k None words (word ∷ []) ∙ h

-- 4. Rows

index_past : {A : Type 0} (xs : List A) (k : ℕ) (d : A) → length xs ≤ k → slice_index_or xs k d ≡ d
index_past [] k d h = refl
index_past (x ∷ xs) zero d h = absurd (let none : suc (length xs) ≤ 0 → ⊥ = (λ p. omega (arith, p)) in none h)
index_past (x ∷ xs) (suc k) d h = index_past xs k d (omega (arith, h))

long : {A : Type 0} (f : ℕ → A) (from size : ℕ) → length (map f (range_with_len from size)) ≡ size
long f from zero = refl
long f from (suc size) = ap suc (long f (from + 1) size)

beyond_kept : (l : Labels) (w : ReflectWorld) (n p : ℕ) → w.heard n p ≡ [] → kept_in l w n p ≡ []
beyond_kept l w n p h = ap (λ ws. if peers_live w.config n p then after_words l [] ws else []) h ∙ by (peers_live w.config n p)
  where
    by : (b : Bool) → (let ks : List Heard = if b then [] else [] in ks) ≡ []
    by true = refl
    by false = refl

-- a node's row, whatever the peer
pub row_is : (t : Network) (l : Labels) (w : ReflectWorld) → IsWithin t w → (n : ℕ) → n < length t.loopbacks → row_at (all_kept t l w) n ≡ kept_in l w n
row_is t l w within n below = λ i p. each p i
  where
    ways : (p : ℕ) → (p < length t.loopbacks) ⊎ (length t.loopbacks ≤ p)
    ways p = grind arith

    each : (p : ℕ) → row_at (all_kept t l w) n p ≡ kept_in l w n p
    each p = elim (ways p) [
      | inl g ↦ table_at (length t.loopbacks) (kept_in l w) n p [] below g
      | inr g ↦ ap (λ row. slice_index_or row p []) (table_row (length t.loopbacks) (kept_in l w) n below)
          ∙ index_past (map (kept_in l w n) (range_with_len 0 (length t.loopbacks))) p []
          (subst (λ m. m ≤ p) (sym (long (kept_in l w n) 0 (length t.loopbacks))) g)
          ∙ sym (beyond_kept l w n p (within n p g))
    ]
