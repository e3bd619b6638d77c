-- In each session what both ends said goes by the table, through every lawful journal: LDP.
use Rattle.std.proofs.Common.{ℕ, suc, ◌≡◌, ◌≢◌, ◌<◌, ◌≤◌, ◌⊎◌, inl, inr, Bool, true, false, cond, List, [], ◌∷◌, map, filter, length, refl, arith, sym, ◌∙◌, ap}
use Rattle.std.specs.Prelude.{◌==◌, ◌&&◌, ◌||◌, nat_lt, if◌then◌else◌}
use Rattle.std.proofs.lemmas.Bool.Decides.{eqb_tells, leb_tells, nat_tests}
use Rattle.std.proofs.lemmas.Map.Keys.{apart_from_distinct}
use Rattle.mn_topo.specs.Wiring.{Wiring, link, is_end, across, sender, receiver, JoinsNodes, EndsDiffer}
use Rattle.mn_topo.specs.Dir.{Dir}
use Rattle.mn_topo.specs.Dir.TheVariants.{Forth, Back}
use Rattle.mn_base.proofs.Bools.{clash, no, other_test, same_test, or_true}
use Rattle.mn_topo.specs.Network.{Network, wiring_of}
use Rattle.mn_topo.specs.Lawful.{IsLawful}
use Rattle.mn_ledger.specs.Places.{loopback}
use Rattle.mn_ledger.specs.World.{Message, Initialization}
use Rattle.mn_ledger.specs.Transport.{Said, is_active, said_on, messages_of, is_by}
use Rattle.mn_ledger.specs.Turns.{IsTalk}

-- 1. The two ends of a link

ends_tell : (a b n : ℕ) → ((a == n) || (b == n)) ≡ true → (a ≡ n) ⊎ (b ≡ n)
ends_tell a b n h = elim (eqb_tells a n) [ inl p ↦ inl p.1 | inr p ↦ elim (eqb_tells b n) [ inl q ↦ inr q.1 | inr q ↦ absurd (no (rw (p.0, q.0) at h)) ] ]

pub end_is : (w : Wiring) (l n : ℕ) → is_end w l n ≡ true → ((link w l).a.0 ≡ n) ⊎ ((link w l).b.0 ≡ n)
end_is w l n h = ends_tell (link w l).a.0 (link w l).b.0 n h

pub across-a : (w : Wiring) (l : ℕ) → across w l (link w l).a.0 ≡ (link w l).b.0
across-a w l = ap (λ b. if b then (link w l).b.0 else (link w l).a.0) (same_test (link w l).a.0)

pub across-b : (w : Wiring) (l : ℕ) → (link w l).a.0 ≢ (link w l).b.0 → across w l (link w l).b.0 ≡ (link w l).a.0
across-b w l d = ap (λ b. if b then (link w l).b.0 else (link w l).a.0) (other_test (link w l).a.0 (link w l).b.0 d)

pub is_end-a : (w : Wiring) (l : ℕ) → is_end w l (link w l).a.0 ≡ true
is_end-a w l = ap (λ b. b || ((link w l).b.0 == (link w l).a.0)) (same_test (link w l).a.0)

pub is_end-b : (w : Wiring) (l : ℕ) → is_end w l (link w l).b.0 ≡ true
is_end-b w l = ap (λ b. ((link w l).a.0 == (link w l).b.0) || b) (same_test (link w l).b.0) ∙ or_true ((link w l).a.0 == (link w l).b.0)

-- the other end is an end, and its other end is the first
pub across-end : (w : Wiring) (l n : ℕ) → (link w l).a.0 ≢ (link w l).b.0 → is_end w l n ≡ true →
    (is_end w l (across w l n) ≡ true) × (across w l (across w l n) ≡ n) × (across w l n ≢ n)
across-end w l n d h = elim (end_is w l n h) [
  | inl p ↦
      let here : across w l n ≡ (link w l).b.0 = ap (across w l) (sym p) ∙ across-a w l in
      (ap (is_end w l) here ∙ is_end-b w l, ap (across w l) here ∙ across-b w l d ∙ p, λ q. d (p ∙ sym q ∙ here))
  | inr p ↦
      let here : across w l n ≡ (link w l).a.0 = ap (across w l) (sym p) ∙ across-b w l d in
      (ap (is_end w l) here ∙ is_end-a w l, ap (across w l) here ∙ across-a w l ∙ p, λ q. d (sym here ∙ q ∙ sym p))
]

-- the ends of a direction
pub dir_ends : (w : Wiring) (l : ℕ) (dir : Dir) → (link w l).a.0 ≢ (link w l).b.0 →
    (is_end w l (receiver w l dir) ≡ true) × (across w l (receiver w l dir) ≡ sender w l dir)
dir_ends w l Forth d = (is_end-b w l, across-b w l d)
dir_ends w l Back d = (is_end-a w l, across-a w l)

-- 2. One of the ends is active

abbrev pub Apart : Network → Type 0
Apart t = (m n : ℕ) → m < length t.loopbacks → n < length t.loopbacks → m ≢ n → loopback t m ≢ loopback t n

pub loopbacks_apart : (t : Network) → IsLawful t → Apart t
loopbacks_apart t lawful m n h g d same =
    elim (leb_tells n m) [
      | inl p ↦ no (sym (apart_from_distinct (λ one other. one == other) t.loopbacks n m 0 lawful.nodes.distinct (less n m p.1 (λ e. d (sym e))) h)
          ∙ ap (λ x. x == loopback t m) (sym same) ∙ same_test (loopback t m))
      | inr p ↦ no (sym (apart_from_distinct (λ one other. one == other) t.loopbacks m n 0 lawful.nodes.distinct p.1 g) ∙ ap (λ x. x == loopback t n) same
          ∙ same_test (loopback t n))
    ]
  where
    less : (a b : ℕ) → a ≤ b → a ≢ b → a < b
    less a b p q = grind (arith, p, q)

-- 3. What is sent on a link by one end

pub said-own : (l node : ℕ) (ms : List Message) → messages_of l node (said_on l node ms) ≡ ms
said-own l node [] = refl
said-own l node (m ∷ ms) =
    ap (λ b. map (λ (said : Said). said.message)
    (cond b ((record { link = l; end = node; message = m }) ∷ filter (is_by l node) (said_on l node ms)) (filter (is_by l node) (said_on l node ms))))
    (ap (λ b. b && (node == node)) (same_test l) ∙ same_test node)
    ∙ ap (λ rest. m ∷ rest) (said-own l node ms)

pub said-other : (l node k other : ℕ) (ms : List Message) → (k ≢ l) ⊎ (other ≢ node) → messages_of l node (said_on k other ms) ≡ []
said-other l node k other [] d = refl
said-other l node k other (m ∷ ms) d =
    ap (λ b. map (λ (said : Said). said.message)
    (cond b ((record { link = k; end = other; message = m }) ∷ filter (is_by l node) (said_on k other ms))
    (filter (is_by l node) (said_on k other ms)))) (off d)
    ∙ said-other l node k other ms d
  where
    and_off : (b : Bool) → (b && false) ≡ false
    and_off true = refl
    and_off false = refl

    off : (k ≢ l) ⊎ (other ≢ node) → ((k == l) && (other == node)) ≡ false
    off d = elim d [ inl p ↦ ap (λ b. b && (other == node)) (other_test k l p) | inr p ↦ ap (λ b. (k == l) && b) (other_test other node p) ∙ and_off (k == l) ]

-- as a life begins, the active end has sent Initialization and the other nothing
pub lt_tells : (a b : ℕ) → ((nat_lt a b ≡ true) × (a < b)) ⊎ ((nat_lt a b ≡ false) × (b ≤ a))
lt_tells a b = elim (leb_tells (suc a) b) [ inl p ↦ inl (p.0, p.1) | inr p ↦ inr (p.0, at_most p.1) ]
  where
    at_most : b < suc a → b ≤ a
    at_most h = omega (arith, h)

first_talk : (active : Bool) (xs : List Message) → (active ≡ true → xs ≡ Initialization ∷ []) → (active ≡ false → xs ≡ []) → IsTalk active 0 xs
first_talk true xs f g = f refl
first_talk false xs f g = g refl

-- the end `a` is active where its address is greater, and else the end `b`
abbrev pub opener : Network → ℕ → ℕ
opener t l = let ends = link (wiring_of t) l in if is_active t l ends.a.0 then ends.a.0 else ends.b.0

pub opening_talk : (t : Network) (l node : ℕ) → Apart t → JoinsNodes (wiring_of t) → EndsDiffer (wiring_of t) → l < length t.links →
    is_end (wiring_of t) l node ≡ true →
    IsTalk (is_active t l node) 0 (messages_of l node (said_on l (opener t l) (Initialization ∷ [])))
opening_talk t l node apart joins differ h e =
    let w : Wiring = wiring_of t in
    let a : ℕ = (link w l).a.0 in
    let b : ℕ = (link w l).b.0 in
    let active_a : is_active t l a ≡ nat_lt (loopback t b) (loopback t a) = ap (λ n. nat_lt (loopback t n) (loopback t a)) (across-a w l) in
    let active_b : is_active t l b ≡ nat_lt (loopback t a) (loopback t b) = ap (λ n. nat_lt (loopback t n) (loopback t b)) (across-b w l (differ l h)) in
    let far : loopback t a ≢ loopback t b = apart a b (joins l h).0 (joins l h).1 (differ l h) in
    elim (lt_tells (loopback t b) (loopback t a)) [
      | inl p ↦
          let who : opener t l ≡ a = ap (λ x. if x then a else b) (active_a ∙ p.0) in
          elim (end_is w l node e) [
            | inl q ↦ first_talk (is_active t l node) (messages_of l node (said_on l (opener t l) (Initialization ∷ [])))
                (λ _. ap (λ n. messages_of l node (said_on l n (Initialization ∷ []))) (who ∙ q) ∙ said-own l node (Initialization ∷ []))
                (λ off. absurd (clash (sym (ap (is_active t l) (sym q) ∙ active_a ∙ p.0) ∙ off)))
            | inr q ↦ first_talk (is_active t l node) (messages_of l node (said_on l (opener t l) (Initialization ∷ [])))
                (λ on. absurd (no (sym (ap (is_active t l) (sym q) ∙ active_b ∙ not_less (loopback t a) (loopback t b) (weak p.1)) ∙ on)))
                (λ _. said-other l node l (opener t l) (Initialization ∷ []) (inr (λ r. differ l h (sym who ∙ r ∙ sym q))))
          ]
      | inr p ↦
          let who : opener t l ≡ b = ap (λ x. if x then a else b) (active_a ∙ p.0) in
          elim (end_is w l node e) [
            | inl q ↦ first_talk (is_active t l node) (messages_of l node (said_on l (opener t l) (Initialization ∷ [])))
                (λ on. absurd (no (sym (ap (is_active t l) (sym q) ∙ active_a ∙ p.0) ∙ on)))
                (λ _. said-other l node l (opener t l) (Initialization ∷ []) (inr (λ r. differ l h (q ∙ sym r ∙ who))))
            | inr q ↦ first_talk (is_active t l node) (messages_of l node (said_on l (opener t l) (Initialization ∷ [])))
                (λ _. ap (λ n. messages_of l node (said_on l n (Initialization ∷ []))) (who ∙ q) ∙ said-own l node (Initialization ∷ []))
                (λ off. absurd (clash (sym (ap (is_active t l) (sym q) ∙ active_b ∙ less_test (loopback t a) (loopback t b) (strict p.1 far)) ∙ off)))
          ]
    ]
  where
    weak : {x y : ℕ} → x < y → x ≤ y
    weak h = omega (arith, h)

    strict : {x y : ℕ} → x ≤ y → x ≢ y → x < y
    strict h d = grind (arith, h, d)

    not_less : (x y : ℕ) → y ≤ x → nat_lt x y ≡ false
    not_less x y h = grind (arith, nat_tests)

    less_test : (x y : ℕ) → x < y → nat_lt x y ≡ true
    less_test x y h = grind (arith, nat_tests)
