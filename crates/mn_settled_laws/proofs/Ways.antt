-- In a settled world each node sends along the least walks over the links that are up.
use Rattle.std.proofs.Common.{ℕ, zero, suc, ◌≡◌, ◌≢◌, ◌+◌, ◌<◌, ◌≤◌, ◌⊎◌, inl, inr, Bool, true, false, List, ◌∷◌, map, length, take, refl, arith, sym, ◌∙◌, ap}
use Rattle.std.proofs.Common.{subst, Option, None, Some}
use Rattle.std.specs.Prelude.{◌==◌, ◌&&◌, ◌||◌, ◌%◌, not, nat_le, nat_lt, is_some}
use Rattle.std.specs.List.{range_with_len}
use Rattle.std.proofs.lemmas.Bool.Decides.{eqb_tells, leb_tells, nat_tests}
use Rattle.std.proofs.lemmas.List.{take_all}
use Rattle.std.proofs.lemmas.List.FromFn.{get_or-map-range_with_len}
use Rattle.mn_wiring.specs.Wiring.{link, is_end, is_up, across, JoinsNodes}
use Rattle.mn_wiring.specs.Paths.{IsLeast, IsNext, next, next_by, dists_to}
use Rattle.mn_wiring.proofs.Next.{next_is}
use Rattle.mn_base.proofs.Bools.{clash, at_most_is}
use Rattle.mn_topo.specs.Network.{Network, wiring_of}
use Rattle.mn_topo.specs.Lawful.{IsLawful}
use Rattle.mn_topo.specs.declared.steps.JournalEntry.{JournalEntry}
use Rattle.mn_ledger.specs.Places.{loopback}
use Rattle.mn_ledger.specs.World.{World, Message}
use Rattle.mn_ledger.specs.Transport.{Hearing, lives, is_active, view_of, knowledge_of, hearing, is_operational, is_mapped, usable, usable_over, usable_by}
use Rattle.mn_ledger.specs.Transport.{offers}
use Rattle.mn_ledger.specs.Ledger.{world_of}
use Rattle.mn_ledger.specs.Lawful.{IsLawfulJournal}
use Rattle.mn_ledger.specs.Turns.{IsInTurn, IsTalk}
use Rattle.mn_ledger.specs.Quiet.{known_before}
use Rattle.mn_ledger.specs.Settled.{IsSettled}
use Rattle.mn_ledger.proofs.Mentions.{operational-is}
use Rattle.mn_ledger.proofs.Turning.{Apart, loopbacks_apart, across-end}
use Rattle.mn_ledger.proofs.InTurn.{in_turn}
use Rattle.mn_ledger.proofs.Nearer.{nearer}
use Rattle.mn_settled_laws.specs.Offers.{SaysItsOffers}
use Rattle.mn_settled_laws.specs.Ways.{links_up, AreUpWhereOdd, way, Reaches, KnowTheWays}
use Rattle.mn_settled_laws.proofs.Offering.{hearing-is, ends_below, says_its_offers}
use Rattle.mn_settled_laws.proofs.Parity.{up_where_odd}

-- 1. One view

pub same-map : {A : Type 0} (f g : ℕ → A) (a n : ℕ) → ((i : ℕ) → i < a + n → f i ≡ g i) → map f (range_with_len a n) ≡ map g (range_with_len a n)
same-map f g a zero h = refl
same-map f g a (suc n) h =
    ap (λ y. y ∷ map f (range_with_len (a + 1) n)) (h a (omega arith)) ∙ ap (λ ys. g a ∷ ys) (same-map f g (a + 1) n (λ i l. h i (omega (arith, l))))

view-is : (t : Network) (w : World) (node : ℕ) → IsSettled t w → AreUpWhereOdd w → node < length t.loopbacks → view_of (wiring_of t) w.views node ≡ links_up t w
view-is t w node settled odd below =
    same-map (λ l. w.views.learned node l % 2 == 1) w.config.is_up 0 (length t.links)
    (λ l h. ap (λ n. n % 2 == 1) (settled.learned node l below (omega (arith, h))) ∙ sym (odd l))

up-is : (t : Network) (w : World) (l : ℕ) → l < length t.links → is_up (links_up t w) l ≡ w.config.is_up l
up-is t w l h = get_or-map-range_with_len w.config.is_up 0 (length t.links) l l false h (omega arith)

-- 2. Where all is received, both ends of a living session are OPERATIONAL

said-so-far : (active : Bool) (k : ℕ) (xs : List Message) → IsTalk active k xs
    → ((k ≡ 0) × (length xs < 2) × (active ≡ true → length xs ≡ 1) × (active ≡ false → length xs ≡ 0))
    ⊎ (((k ≡ 1) × (length xs ≡ 2)) ⊎ ((2 ≤ k) × (3 ≤ length xs)))
said-so-far true zero xs h = inl (refl, omega (arith, ap length h), λ e. ap length h, λ e. absurd (clash e))
said-so-far false zero xs h = inl (refl, omega (arith, ap length h), λ e. absurd (clash (sym e)), λ e. ap length h)
said-so-far active (suc zero) xs h = inr (inl (refl, ap length h))
said-so-far active (suc (suc k)) xs h = inr (inr (omega arith, omega (arith, ap length h.1)))

both-heard : (one other : Bool) (i j : ℕ) (xs ys : List Message) → one ≡ not other → IsTalk one i xs → IsTalk other j ys → i ≡ length ys → j ≡ length xs → 2 ≤ i
both-heard one other i j xs ys apart h g e f = elim (said-so-far one i xs h) [
  | inl p ↦ elim (said-so-far other j ys g) [
    | inl q ↦ absurd (silent one other apart p.0 q.0 p.2 p.3 q.2 q.3)
    | inr q ↦ elim q [ inl r ↦ absurd (not_two p.0 e r.1) | inr r ↦ absurd (not_three p.0 e r.1) ]
  ]
  | inr p ↦ elim p [
    | inr r ↦ r.0
    | inl r ↦ elim (said-so-far other j ys g) [
      | inl q ↦ absurd (not_heard r.1 f q.0)
      | inr q ↦ elim q [ inl u ↦ absurd (not_one r.1 f u.0) | inr u ↦ absurd (not_three_of r.0 e u.1) ]
    ]
  ]
]
  where
    silent : (one other : Bool) → one ≡ not other → i ≡ 0 → j ≡ 0 → (one ≡ true → length xs ≡ 1) → (one ≡ false → length xs ≡ 0)
        → (other ≡ true → length ys ≡ 1) → (other ≡ false → length ys ≡ 0) → ⊥
    silent true other a zi zj x xf y yf = omega (arith, zj, f, x refl)
    silent false true a zi zj x xf y yf = omega (arith, zi, e, y refl)
    silent false false a zi zj x xf y yf = clash (sym a)

    not_two : i ≡ 0 → i ≡ length ys → length ys ≡ 2 → ⊥
    not_two a b c = omega (arith, a, b, c)

    not_three : i ≡ 0 → i ≡ length ys → 3 ≤ length ys → ⊥
    not_three a b c = omega (arith, a, b, c)

    not_heard : length xs ≡ 2 → j ≡ length xs → j ≡ 0 → ⊥
    not_heard a b c = omega (arith, a, b, c)

    not_one : length xs ≡ 2 → j ≡ length xs → j ≡ 1 → ⊥
    not_one a b c = omega (arith, a, b, c)

    not_three_of : i ≡ 1 → i ≡ length ys → 3 ≤ length ys → ⊥
    not_three_of a b c = omega (arith, a, b, c)

-- of two that differ one is less
one-less : (a b : ℕ) → a ≢ b → nat_lt a b ≡ not (nat_lt b a)
one-less a b d = elim (leb_tells (suc a) b) [
  | inl p ↦ p.0 ∙ sym (ap not (not_less a b p.1))
  | inr p ↦ p.0 ∙ sym (ap not (less a b p.1 d))
]
  where
    not_less : (a b : ℕ) → a < b → nat_lt b a ≡ false
    not_less a b h = grind (arith, nat_tests, h)

    less : (a b : ℕ) → b < suc a → a ≢ b → nat_lt b a ≡ true
    less a b h d = grind (arith, nat_tests, h, d)

one-active : (t : Network) → Apart t → JoinsNodes (wiring_of t) → (l n : ℕ) → l < length t.links → (link (wiring_of t) l).a.0 ≢ (link (wiring_of t) l).b.0
    → is_end (wiring_of t) l n ≡ true → is_active t l n ≡ not (is_active t l (across (wiring_of t) l n))
one-active t apart joins l n h differ e =
    let other = across-end (wiring_of t) l n differ e in
    let m : ℕ = across (wiring_of t) l n in
    one-less (loopback t m) (loopback t n) (apart m n (ends_below t joins l m h other.0) (ends_below t joins l n h e) other.2)
    ∙ ap not (sym (ap (λ j. nat_lt (loopback t j) (loopback t m)) other.1))

heard-two : (t : Network) (w : World) → IsLawful t → IsInTurn t w → IsSettled t w → (l n : ℕ) → l < length t.links → is_end (wiring_of t) l n ≡ true
    → lives w.config l ≡ true → 2 ≤ w.sessions.heard l n
heard-two t w lawful turn settled l n h e alive =
    let m : ℕ = across (wiring_of t) l n in
    let other = across-end (wiring_of t) l n (lawful.ends_differ l h) e in
    both-heard (is_active t l n) (is_active t l m) (w.sessions.heard l n) (w.sessions.heard l m) (w.sessions.said l n) (w.sessions.said l m)
    (one-active t (loopbacks_apart t lawful) lawful.joins_nodes l n h (lawful.ends_differ l h) e) ((turn.ldp l n h e).talk alive)
    ((turn.ldp l m h other.0).talk alive)
    (settled.heard l n h e alive) (settled.heard l m h other.0 alive ∙ ap (λ j. length (w.sessions.said l j)) other.1)

on-link : (t : Network) (w : World) → IsLawful t → IsInTurn t w → IsSettled t w → (l n : ℕ) → l < length t.links → is_end (wiring_of t) l n ≡ true
    → w.config.is_up l ≡ true → is_operational (known_before t w n) l ≡ true
on-link t w lawful turn settled l n h e up =
    let alive : lives w.config l ≡ true = ap (λ b. b && w.config.ldp_on l) up ∙ settled.switched l h up in
    operational-is (wiring_of t) w.config w.views w.sessions n l h
    ∙ ap (λ b. (b && is_end (wiring_of t) l n) && nat_le 2 (w.sessions.heard l n)) alive ∙ ap (λ b. b && nat_le 2 (w.sessions.heard l n)) e
    ∙ at_most_is 2 (w.sessions.heard l n) (heard-two t w lawful turn settled l n h e alive)

-- 3. Along the next hops, by the least cost

module _ (t : Network) (w : World) (lawful : IsLawful t) (turn : IsInTurn t w) (settled : IsSettled t w) (odd : AreUpWhereOdd w)
    (says : SaysItsOffers t w) where
  -- a node whose next hop offers the FEC can send to it
  hop-works : (n p : ℕ) (hop : ℕ × ℕ) → p < length t.loopbacks → IsNext (wiring_of t) (links_up t w) n p (Some hop)
      → offers (wiring_of t) (known_before t w hop.0) hop.0 p ≡ true → usable_over (known_before t w n) p (Some hop) ≡ Some hop
  hop-works n p hop inside next there =
      let l : ℕ = hop.1 in
      let m : ℕ = across (wiring_of t) l n in
      let h : l < length t.links = next.1.there in
      let e : is_end (wiring_of t) l n ≡ true = next.1.at_node in
      let other = across-end (wiring_of t) l n (lawful.ends_differ l h) e in
      let is_up_l : w.config.is_up l ≡ true = sym (up-is t w l h) ∙ next.1.up in
      let on : is_operational (known_before t w n) l ≡ true = on-link t w lawful turn settled l n h e is_up_l in
      let far_on : is_operational (known_before t w m) l ≡ true = on-link t w lawful turn settled l m h other.0 is_up_l in
      let alive : lives w.config l ≡ true = ap (λ b. b && w.config.ldp_on l) is_up_l ∙ settled.switched l h is_up_l in
      let all : (hearing (known_before t w n) l).messages
      ≡ w.sessions.said l m = ap (λ (g : Hearing). g.messages) (hearing-is (wiring_of t) w.config w.views w.sessions n l h)
      ∙ ap (λ k. take k (w.sessions.said l m)) (settled.heard l n h e alive)
      ∙ take_all (length (w.sessions.said l m)) (w.sessions.said l m) (omega arith) in
      let offered : offers (wiring_of t) (known_before t w m) m p ≡ true = subst (λ j. offers (wiring_of t) (known_before t w j) j p ≡ true) next.0 there in
      let mapped : is_mapped false p (hearing (known_before t w n) l).messages ≡ true = ap (is_mapped false p) all ∙ says l m p h other.0 inside
      ∙ ap (λ b. b && offers (wiring_of t) (known_before t w m) m p) far_on ∙ offered in
      ap (λ b. elim (b && is_mapped false p (hearing (known_before t w n) l).messages) as (λ _. Option (ℕ × ℕ)) [ true ↦ Some hop | false ↦ None ]) on
      ∙ ap (λ b. elim b as (λ _. Option (ℕ × ℕ)) [ true ↦ Some hop | false ↦ None ]) mapped

  hop-below : (n p : ℕ) (hop : ℕ × ℕ) → IsNext (wiring_of t) (links_up t w) n p (Some hop) → hop.0 < length t.loopbacks
  hop-below n p hop next =
      let other = across-end (wiring_of t) hop.1 n (lawful.ends_differ hop.1 next.1.there) next.1.at_node in
      subst (λ j. j < length t.loopbacks) (sym next.0) (ends_below t lawful.joins_nodes hop.1 (across (wiring_of t) hop.1 n) next.1.there other.0)

  usable-over : (n p : ℕ) → n < length t.loopbacks → usable t w.config w.views w.sessions n p
      ≡ usable_over (known_before t w n) p (next (wiring_of t) (links_up t w) n p)
  unfolding knowledge_of
  usable-over n p below = ap (λ v. usable_over (known_before t w n) p (next (wiring_of t) v n p)) (view-is t w n settled odd below)

  -- whom a walk leads to is offered
  offers-there : (fuel d n p : ℕ) → d < fuel → n < length t.loopbacks → p < length t.loopbacks → IsLeast (wiring_of t) (links_up t w) n p d
      → offers (wiring_of t) (known_before t w n) n p ≡ true
  offers-there zero d n p f below inside least = absurd (none f)
    where
      none : {k : ℕ} → k < 0 → ⊥
      none h = omega (arith, h)
  offers-there (suc fuel) d n p f below inside least = elim (eqb_tells n p) [
    | inl e ↦ ap (λ b. b || is_some (usable_by (wiring_of t) (known_before t w n) n p)) e.0
    | inr e ↦
        ap (λ o. (n == p) || is_some o) (usable-over n p below)
        ∙ by_hop (λ hop r apart i f'. offers-there fuel r hop p f' apart inside i) e.1 (next (wiring_of t) (links_up t w) n p) refl
        (next_is (wiring_of t) (links_up t w) p lawful.joins_nodes n below e.1)
  ]
    where
      or_true : (b : Bool) → (b || true) ≡ true
      or_true true = refl
      or_true false = refl

      by_hop : ((m r : ℕ) → m < length t.loopbacks → IsLeast (wiring_of t) (links_up t w) m p r → r < fuel
          → offers (wiring_of t) (known_before t w m) m p ≡ true) → n ≢ p → (o : Option (ℕ × ℕ)) → next (wiring_of t) (links_up t w) n p ≡ o
          → IsNext (wiring_of t) (links_up t w) n p o → ((n == p) || is_some (usable_over (known_before t w n) p (next (wiring_of t) (links_up t w) n p)))
          ≡ true
      by_hop nearer-offers d None is none = absurd (none least.walk.0 least.walk.1)
      by_hop nearer-offers apart (Some hop) is some =
          let near = nearer t (links_up t w) n p d hop lawful below apart is least in
          ap (λ o. (n == p) || is_some (usable_over (known_before t w n) p o)) is
          ∙ ap (λ o. (n == p) || is_some o) (hop-works n p hop inside some
          (nearer-offers hop.0 near.rest (hop-below n p hop some) near.is_least (less near.is_less f)))
          ∙ or_true (n == p)
        where
          less : {r : ℕ} → r < d → d < suc fuel → r < fuel
          less a b = omega (arith, a, b)

  next-self : (n p : ℕ) → n ≡ p → next (wiring_of t) (links_up t w) n p ≡ None
  unfolding next
  next-self n p e = elim (eqb_tells n p) [
    | inl q ↦ ap (λ b. elim b as (λ _. Option (ℕ × ℕ)) [
      | true ↦ None
      | false ↦ next_by (wiring_of t) (links_up t w) (dists_to (wiring_of t) (links_up t w) p) n
    ]) q.0
    | inr q ↦ absurd (q.1 e)
  ]

  way-is : (n p : ℕ) → n < length t.loopbacks → p < length t.loopbacks → way t w n p ≡ next (wiring_of t) (links_up t w) n p
  way-is n p below inside = usable-over n p below ∙ elim (eqb_tells n p) [
    | inl e ↦ ap (usable_over (known_before t w n) p) (next-self n p e.1) ∙ sym (next-self n p e.1)
    | inr e ↦ by_hop (next (wiring_of t) (links_up t w) n p) (next_is (wiring_of t) (links_up t w) p lawful.joins_nodes n below e.1)
  ]
    where
      by_hop : (o : Option (ℕ × ℕ)) → IsNext (wiring_of t) (links_up t w) n p o → usable_over (known_before t w n) p o ≡ o
      by_hop None none = refl
      by_hop (Some hop) some =
          hop-works n p hop inside some
          (offers-there (suc some.1.rest) some.1.rest hop.0 p (omega arith) (hop-below n p hop some) inside
          (subst (λ j. IsLeast (wiring_of t) (links_up t w) j p some.1.rest) (sym some.0) some.1.after))

  some-none : (hop : ℕ × ℕ) → None ≡ Some hop → ⊥
  some-none hop e = cc

  pub ways : KnowTheWays t w
  ways n p below inside = record {
    view = view-is t w n settled odd below;
    way_is = way-is n p below inside;
    where_reached =
        λ apart walk. there apart walk (next (wiring_of t) (links_up t w) n p) refl (next_is (wiring_of t) (links_up t w) p lawful.joins_nodes n below apart);
    only_there = λ hop e. only hop e;
    nearer = λ hop cost e least. nearer t (links_up t w) n p cost hop lawful below (only hop e).0 (sym (way-is n p below inside) ∙ e) least;
  }
    where
      there : n ≢ p → Reaches t w n p → (o : Option (ℕ × ℕ)) → next (wiring_of t) (links_up t w) n p ≡ o → IsNext (wiring_of t) (links_up t w) n p o
          → (hop : ℕ × ℕ) × (way t w n p ≡ Some hop)
      there apart walk None is none = absurd (none walk.0 walk.1)
      there apart walk (Some hop) is some = (hop, way-is n p below inside ∙ is)

      only : (hop : ℕ × ℕ) → way t w n p ≡ Some hop → (n ≢ p) × Reaches t w n p
      only hop e =
          let is : next (wiring_of t) (links_up t w) n p ≡ Some hop = sym (way-is n p below inside) ∙ e in
          let apart : n ≢ p = λ q. some-none hop (sym (next-self n p q) ∙ is) in
          let some : IsNext (wiring_of t) (links_up t w) n p (Some hop) = subst (IsNext (wiring_of t) (links_up t w) n p) is
          (next_is (wiring_of t) (links_up t w) p lawful.joins_nodes n below apart) in
          (apart, (some.1.whole.walk.0, some.1.whole.walk.1))

pub know_the_ways : (t : Network) (es : List JournalEntry) (ps : List (List ℕ)) → IsLawful t → IsLawfulJournal t es ps → IsSettled t (world_of t es)
    → KnowTheWays t (world_of t es)
know_the_ways t es ps lawful journal settled =
    ways t (world_of t es) lawful (in_turn t es ps lawful journal) settled (up_where_odd t es ps journal) (says_its_offers t es ps lawful journal)
