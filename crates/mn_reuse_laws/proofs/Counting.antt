-- What is sent in one step: no Release but the answer to a Withdraw.
use Rattle.std.proofs.Common.{ℕ, ◌≡◌, ◌+◌, inl, inr, Bool, true, false, cond, List, [], ◌∷◌, ◌++◌, map, filter, length, refl, arith, sym, ◌∙◌, ap}
use Rattle.std.specs.Prelude.{◌==◌, ◌&&◌, ⊤, take, drop, if◌then◌else◌}
use Rattle.std.specs.List.{flat_map}
use Rattle.std.proofs.lemmas.List.{take-append-drop, length-append}
use Rattle.std.proofs.lemmas.List.Elements.{filter-append}
use Rattle.std.proofs.lemmas.Bool.Decides.{eqb_tells}
use Rattle.mn_base.proofs.Bools.{two_ways, clash}
use Rattle.mn_wiring.specs.Wiring.{Wiring}
use Rattle.mn_states.specs.declared.states.LdpState.{LdpState}
use Rattle.mn_states.specs.declared.states.LdpState.TheVariants.{Initialized, OpenSent, OpenRec}
use Rattle.mn_topo.specs.Network.{Network}
use Rattle.mn_ledger.specs.World.{Config, Message, Initialization, KeepAlive, Address, Mapping, Withdraw, Release}
use Rattle.mn_ledger.specs.Transport.{Said, Knowledge, lives, is_operational, is_by, messages_of, said_on, answer, mention, mentioned_on, mentioned_from}
use Rattle.mn_ledger.specs.Transport.{offered}
use Rattle.mn_ledger.specs.Transport.{by_neighbour, news, opening, is_mapped}
use Rattle.mn_ledger.proofs.Turning.{opener, said-own, said-other}
use Rattle.mn_reuse_laws.specs.Answers.{count_by, is_withdraw, is_release, is_mention}

-- 1. Counts of lists

pub count_append : (p : Message → Bool) (xs ys : List Message) → count_by p (xs ++ ys) ≡ count_by p xs + count_by p ys
count_append p xs ys = ap length (filter-append p xs ys) ∙ length-append (filter p xs) (filter p ys)

pub count_parts : (p : Message → Bool) (n : ℕ) (xs : List Message) → count_by p xs ≡ count_by p (take n xs) + count_by p (drop n xs)
count_parts p n xs = ap (count_by p) (sym (take-append-drop n xs)) ∙ count_append p (take n xs) (drop n xs)

pub count_here : (p : Message → Bool) (x : Message) (xs : List Message) → p x ≡ true → count_by p (x ∷ xs) ≡ count_by p xs + 1
count_here p x xs h = ap (λ b. length (cond b (x ∷ filter p xs) (filter p xs))) h ∙ omega arith

pub count_off : (p : Message → Bool) (x : Message) (xs : List Message) → p x ≡ false → count_by p (x ∷ xs) ≡ count_by p xs
count_off p x xs h = ap (λ b. length (cond b (x ∷ filter p xs) (filter p xs))) h

-- a Withdraw of the FEC and the Releases in the answer to it
pub answer_count : (p : ℕ) (st : LdpState) (m : Message) → count_by (is_release p) (answer st m) ≡ count_by (is_withdraw p) (m ∷ [])
answer_count p Initialized Initialization = refl
answer_count p OpenSent Initialization = refl
answer_count p OpenRec KeepAlive = refl
answer_count p _ (Withdraw fec) = same (p == fec)
  where
    same : (b : Bool) → length (cond b (Release fec ∷ []) []) ≡ length (cond b (Withdraw fec ∷ []) [])
    same true = refl
    same false = refl
answer_count p _ _ = refl

-- 2. News has no Release

abbrev pub IsNoRelease : Message → Type 0
IsNoRelease (Release fec) = ⊥
IsNoRelease _ = ⊤

abbrev pub HasNoRelease : List Said → Type 0
HasNoRelease [] = ⊤
HasNoRelease (said ∷ sayings) = IsNoRelease said.message × HasNoRelease sayings

none_append : (xs ys : List Said) → HasNoRelease xs → HasNoRelease ys → HasNoRelease (xs ++ ys)
none_append [] ys h g = g
none_append (x ∷ xs) ys h g = (h.0, none_append xs ys h.1 g)

none_mention : (was is : Bool) (l node fec : ℕ) → HasNoRelease (said_on l node (mention was is fec))
none_mention true true l node fec = tt
none_mention false false l node fec = tt
none_mention false true l node fec = (tt, tt)
none_mention true false l node fec = (tt, tt)

none_if : (b : Bool) (xs : List Said) → HasNoRelease xs → HasNoRelease (if b then xs else [])
none_if true xs h = h
none_if false xs h = tt

none_links : (before after : Knowledge) (node fec : ℕ) (was is : Bool) (ls : List ℕ) → HasNoRelease (flat_map (mentioned_on before after node fec was is) ls)
none_links before after node fec was is [] = tt
none_links before after node fec was is (l ∷ ls) =
    none_append (mentioned_on before after node fec was is l) (flat_map (mentioned_on before after node fec was is) ls)
    (none_if (is_operational after l) (said_on l node (mention (is_operational before l && was) is fec))
    (none_mention (is_operational before l && was) is l node fec))
    (none_links before after node fec was is ls)

none_from : (before after : Knowledge) (node : ℕ) (ls : List ℕ) (fec : ℕ) (weres ares : List Bool) →
    HasNoRelease (mentioned_from before after node ls fec weres ares)
none_from before after node ls fec [] ares = tt
none_from before after node ls fec (was ∷ weres) [] = tt
none_from before after node ls fec (was ∷ weres) (is ∷ ares) =
    none_append (flat_map (mentioned_on before after node fec was is) ls) (mentioned_from before after node ls (fec + 1) weres ares)
    (none_links before after node fec was is ls) (none_from before after node ls (fec + 1) weres ares)

none_news : (w : Wiring) (before after : Knowledge) (node : ℕ) → HasNoRelease (news w before after node)
unfolding news
none_news w before after node = none_from before after node (by_neighbour w node) 0 (offered w before node) (offered w after node)

pub none_speakers : (w : Wiring) (before after : ℕ → Knowledge) (nodes : List ℕ) → HasNoRelease (flat_map (λ n. news w (before n) (after n) n) nodes)
none_speakers w before after [] = tt
none_speakers w before after (n ∷ nodes) =
    none_append (news w (before n) (after n) n) (flat_map (λ n. news w (before n) (after n) n) nodes) (none_news w (before n) (after n) n)
    (none_speakers w before after nodes)

not_release : (p : ℕ) (m : Message) → IsNoRelease m → is_release p m ≡ false
not_release p (Release fec) h = absurd h
not_release p Initialization h = refl
not_release p KeepAlive h = refl
not_release p Address h = refl
not_release p (Mapping fec) h = refl
not_release p (Withdraw fec) h = refl

pub none_counted : (p l m : ℕ) (xs : List Said) → HasNoRelease xs → count_by (is_release p) (messages_of l m xs) ≡ 0
none_counted p l m [] h = refl
none_counted p l m (x ∷ xs) h = split (is_by l m x) (none_counted p l m xs h.1)
  where
    split : (b : Bool) → count_by (is_release p) (messages_of l m xs) ≡ 0
        → count_by (is_release p) (map (λ (said : Said). said.message) (cond b (x ∷ filter (is_by l m) xs) (filter (is_by l m) xs))) ≡ 0
    split true rest = count_off (is_release p) x.message (messages_of l m xs) (not_release p x.message h.0) ∙ rest
    split false rest = rest

-- 3. Replies

-- what is sent on one link by one end is counted there alone
pub count_on : (q : Message → Bool) (l m k n : ℕ) (ms : List Message) →
    count_by q (messages_of l m (said_on k n ms)) ≡ (cond ((k == l) && (n == m)) (count_by q ms) 0)
count_on q l m k n ms = elim (eqb_tells k l) [
  | inr e ↦ ap (count_by q) (said-other l m k n ms (inl e.1)) ∙ sym (ap (λ b. cond (b && (n == m)) (count_by q ms) 0) e.0)
  | inl e ↦ elim (eqb_tells n m) [
    | inr f ↦ ap (count_by q) (said-other l m k n ms (inr f.1))
        ∙ sym (ap (λ b. cond (b && (n == m)) (count_by q ms) 0) e.0 ∙ ap (λ b. cond b (count_by q ms) 0) f.0)
    | inl f ↦ ap (λ j. count_by q (messages_of l m (said_on j n ms))) e.1 ∙ ap (λ j. count_by q (messages_of l m (said_on l j ms))) f.1
        ∙ ap (count_by q) (said-own l m ms)
        ∙ sym (ap (λ b. cond (b && (n == m)) (count_by q ms) 0) e.0 ∙ ap (λ b. cond b (count_by q ms) 0) f.0)
  ]
]

pub count_opening : (p l m : ℕ) (t : Network) (c : Config) (at : ℕ) → count_by (is_release p) (messages_of l m (opening t c at)) ≡ 0
count_opening p l m t c at = either (lives c at)
  where
    plain : (b : Bool) (n : ℕ) → n ≡ 0 → cond b n 0 ≡ 0
    plain true n h = h
    plain false n h = refl

    either : (alive : Bool) → count_by (is_release p) (messages_of l m (elim alive [ true ↦ said_on at (opener t at) (Initialization ∷ []) | false ↦ [] ])) ≡ 0
    either true = count_on (is_release p) l m at (opener t at) (Initialization ∷ []) ∙ plain ((at == l) && (opener t at == m)) _ refl
    either false = refl

-- 4. Where nothing is mapped at the end of a list without Withdraws, nothing was mentioned in it, nor mapped before it

pub not_mapped : (z : Bool) (p : ℕ) (ms : List Message) → count_by (is_withdraw p) ms ≡ 0 → is_mapped z p ms ≡ false →
    (z ≡ false) × (count_by (is_mention p) ms ≡ 0)
not_mapped z p [] none off = (off, refl)
not_mapped z p (Initialization ∷ ms) none off = not_mapped z p ms none off
not_mapped z p (KeepAlive ∷ ms) none off = not_mapped z p ms none off
not_mapped z p (Address ∷ ms) none off = not_mapped z p ms none off
not_mapped z p (Release fec ∷ ms) none off = not_mapped z p ms none off
not_mapped z p (Mapping fec ∷ ms) none off = elim (two_ways (p == fec)) [
  | inl e ↦ absurd (clash ((not_mapped true p ms none (sym (ap (λ b. is_mapped (cond b true z) p ms) e) ∙ off)).0))
  | inr e ↦
      let rest = not_mapped z p ms none (sym (ap (λ b. is_mapped (cond b true z) p ms) e) ∙ off) in
      (rest.0, count_off (is_mention p) (Mapping fec) ms e ∙ rest.1)
]
not_mapped z p (Withdraw fec ∷ ms) none off = elim (two_ways (p == fec)) [
  | inl e ↦ absurd (some (sym (count_here (is_withdraw p) (Withdraw fec) ms e) ∙ none))
  | inr e ↦
      let rest = not_mapped z p ms (sym (count_off (is_withdraw p) (Withdraw fec) ms e) ∙ none) (sym (ap (λ b. is_mapped (cond b false z) p ms) e) ∙ off) in
      (rest.0, count_off (is_mention p) (Withdraw fec) ms e ∙ rest.1)
]
  where
    some : count_by (is_withdraw p) ms + 1 ≡ 0 → ⊥
    some h = omega (arith, h)
