-- What nodes say of their offers: only mentions, and those only where they are OPERATIONAL.
use Rattle.std.proofs.Common.{ℕ, ◌≡◌, ◌+◌, ◌<◌, ◌≤◌, inl, inr, Bool, true, false, cond, List, [], ◌∷◌, ◌++◌, map, filter, length, refl, arith, sym, ◌∙◌, ap}
use Rattle.std.proofs.Common.{subst}
use Rattle.std.specs.Prelude.{◌&&◌, nat_le, ⊤, if◌then◌else◌}
use Rattle.std.specs.List.{flat_map}
use Rattle.std.proofs.lemmas.Bool.Decides.{leb_tells}
use Rattle.std.proofs.lemmas.List.{map-append}
use Rattle.std.proofs.lemmas.List.Elements.{filter-append}
use Rattle.std.proofs.lemmas.List.FromFn.{get_or-map-range_with_len}
use Rattle.mn_topo.specs.Wiring.{Wiring, is_end}
use Rattle.mn_base.proofs.Bools.{clash, and_left, and_right, same_numbers, two_ways}
use Rattle.mn_ledger.specs.World.{Config, Views, Sessions}
use Rattle.mn_ledger.specs.Transport.{Said, Knowledge, lives, knowledge_of, hearing_at, is_operational, is_by, messages_of, said_on, mention, mentioned_on}
use Rattle.mn_ledger.specs.Transport.{mentioned_from, offered, by_neighbour, news}
use Rattle.mn_ledger.specs.Turns.{IsLabelMessage, AreLabelMessages}

-- said by a node that is OPERATIONAL on the link, of one of its offers
abbrev pub IsNews : (ℕ → Knowledge) → Said → Type 0
IsNews after said = IsLabelMessage said.message × (is_operational (after said.end) said.link ≡ true)

abbrev pub EachNews : (ℕ → Knowledge) → List Said → Type 0
EachNews after [] = ⊤
EachNews after (said ∷ sayings) = IsNews after said × EachNews after sayings

pub each-append : (k : ℕ → Knowledge) (xs ys : List Said) → EachNews k xs → EachNews k ys → EachNews k (xs ++ ys)
each-append k [] ys h g = g
each-append k (x ∷ xs) ys h g = (h.0, each-append k xs ys h.1 g)

each-mention : (k : ℕ → Knowledge) (was is : Bool) (l node fec : ℕ) → is_operational (k node) l ≡ true → EachNews k (said_on l node (mention was is fec))
each-mention k true true l node fec h = tt
each-mention k false false l node fec h = tt
each-mention k false true l node fec h = ((tt, h), tt)
each-mention k true false l node fec h = ((tt, h), tt)

each_if : (k : ℕ → Knowledge) (b : Bool) (xs : List Said) → (b ≡ true → EachNews k xs) → EachNews k (if b then xs else [])
each_if k true xs h = h refl
each_if k false xs h = tt

each-links : (before : Knowledge) (k : ℕ → Knowledge) (node fec : ℕ) (was is : Bool) (ls : List ℕ) →
    EachNews k (flat_map (mentioned_on before (k node) node fec was is) ls)
each-links before k node fec was is [] = tt
each-links before k node fec was is (l ∷ ls) =
    each-append k (mentioned_on before (k node) node fec was is l) (flat_map (mentioned_on before (k node) node fec was is) ls)
    (each_if k (is_operational (k node) l) (said_on l node (mention (is_operational before l && was) is fec))
    (each-mention k (is_operational before l && was) is l node fec))
    (each-links before k node fec was is ls)

each-from : (before : Knowledge) (k : ℕ → Knowledge) (node : ℕ) (ls : List ℕ) (fec : ℕ) (weres ares : List Bool) →
    EachNews k (mentioned_from before (k node) node ls fec weres ares)
each-from before k node ls fec [] ares = tt
each-from before k node ls fec (was ∷ weres) [] = tt
each-from before k node ls fec (was ∷ weres) (is ∷ ares) =
    each-append k (flat_map (mentioned_on before (k node) node fec was is) ls) (mentioned_from before (k node) node ls (fec + 1) weres ares)
    (each-links before k node fec was is ls) (each-from before k node ls (fec + 1) weres ares)

each-news : (w : Wiring) (before k : ℕ → Knowledge) (node : ℕ) → EachNews k (news w (before node) (k node) node)
unfolding news
each-news w before k node = each-from (before node) k node (by_neighbour w node) 0 (offered w (before node) node) (offered w (k node) node)

pub each-speaker : (w : Wiring) (before k : ℕ → Knowledge) (nodes : List ℕ) → EachNews k (flat_map (λ node. news w (before node) (k node) node) nodes)
each-speaker w before k [] = tt
each-speaker w before k (node ∷ nodes) =
    each-append k (news w (before node) (k node) node) (flat_map (λ node. news w (before node) (k node) node) nodes) (each-news w before k node)
    (each-speaker w before k nodes)

pub messages-append : (l node : ℕ) (xs ys : List Said) → messages_of l node (xs ++ ys) ≡ messages_of l node xs ++ messages_of l node ys
messages-append l node xs ys =
    ap (map (λ (said : Said). said.message)) (filter-append (is_by l node) xs ys)
    ∙ map-append (λ (said : Said). said.message) (filter (is_by l node) xs) (filter (is_by l node) ys)

-- what one end says of these, one after another
pick : (l node : ℕ) (x : Said) (xs : List Said) →
    (is_by l node x ≡ true → messages_of l node (x ∷ xs) ≡ x.message ∷ messages_of l node xs)
    × (is_by l node x ≡ false → messages_of l node (x ∷ xs) ≡ messages_of l node xs)
pick l node x xs = (
  λ h. ap (λ b. map (λ (said : Said). said.message) (cond b (x ∷ filter (is_by l node) xs) (filter (is_by l node) xs))) h,
  λ h. ap
      (λ b. map (λ (said : Said). said.message) (cond b (x ∷ filter (is_by l node) xs) (filter (is_by l node) xs))) h,
)

pub messages-mentions : (k : ℕ → Knowledge) (l node : ℕ) (xs : List Said) → EachNews k xs → AreLabelMessages (messages_of l node xs)
messages-mentions k l node [] h = tt
messages-mentions k l node (x ∷ xs) h =
    elim (two_ways (is_by l node x)) [
      | inl p ↦ subst AreLabelMessages (sym ((pick l node x xs).0 p)) (h.0.0, messages-mentions k l node xs h.1)
      | inr p ↦ subst AreLabelMessages (sym ((pick l node x xs).1 p)) (messages-mentions k l node xs h.1)
    ]

by_both : (l node : ℕ) (x : Said) → is_by l node x ≡ true → (x.link ≡ l) × (x.end ≡ node)
by_both l node x h = (same_numbers x.link l (and_left _ _ h), same_numbers x.end node (and_right _ _ h))

pub messages-none : (k : ℕ → Knowledge) (l node : ℕ) (xs : List Said) → EachNews k xs → is_operational (k node) l ≡ false → messages_of l node xs ≡ []
messages-none k l node [] h off = refl
messages-none k l node (x ∷ xs) h off =
    elim (two_ways (is_by l node x)) [
      | inl p ↦ absurd
          (clash (sym h.0.1 ∙ ap (λ j. is_operational (k x.end) j) (by_both l node x p).0 ∙ ap (λ n. is_operational (k n) l) (by_both l node x p).1 ∙ off))
      | inr p ↦ (pick l node x xs).1 p ∙ messages-none k l node xs h.1 off
    ]

-- on a link of the network, OPERATIONAL is by the session's life and by how many messages were received
pub operational-is : (w : Wiring) (c : Config) (v : Views) (s : Sessions) (node l : ℕ) → l < length w.ends →
    is_operational (knowledge_of w c v s node) l ≡ ((lives c l && is_end w l node) && nat_le 2 (s.heard l node))
unfolding knowledge_of
operational-is w c v s node l h =
    ap (λ x. x.alive && nat_le 2 x.count)
    (get_or-map-range_with_len (hearing_at w c s node) 0 (length w.ends) l l (record { alive = false; count = 0; messages = [] }) h (omega arith))

pub few_off : (b : Bool) (k : ℕ) → k < 2 → (b && nat_le 2 k) ≡ false
few_off true k h = elim (leb_tells 2 k) [ inl r ↦ absurd (not_both h r.1) | inr r ↦ r.0 ]
  where
    not_both : k < 2 → 2 ≤ k → ⊥
    not_both a b = omega (arith, a, b)
few_off false k h = refl

-- one that has received too little isn't
pub few-off : (w : Wiring) (c : Config) (v : Views) (s : Sessions) (node l : ℕ) → l < length w.ends → s.heard l node < 2 →
    is_operational (knowledge_of w c v s node) l ≡ false
few-off w c v s node l h few = operational-is w c v s node l h ∙ few_off (lives c l && is_end w l node) (s.heard l node) few

dead_off : (a b d : Bool) → a ≡ false → ((a && b) && d) ≡ false
dead_off a b d h = rw h refl

-- nor is one whose session doesn't live
pub dead-off : (w : Wiring) (c : Config) (v : Views) (s : Sessions) (node l : ℕ) → l < length w.ends → lives c l ≡ false →
    is_operational (knowledge_of w c v s node) l ≡ false
dead-off w c v s node l h dead = operational-is w c v s node l h ∙ dead_off (lives c l) (is_end w l node) (nat_le 2 (s.heard l node)) dead
