-- In a network at rest a node can send towards another exactly where a label switched path leads there.
use Rattle.std.proofs.Common.{ℕ, zero, suc, ◌≡◌, ◌≢◌, ◌<◌, ◌≤◌, ◌⊎◌, inl, inr, Bool, true, false, cond, List, [], ◌∷◌, length, take, refl, arith, sym}
use Rattle.std.proofs.Common.{◌∙◌, ap, subst, Option, None, Some}
use Rattle.std.specs.Prelude.{◌==◌, ◌&&◌, ◌||◌, ◌%◌, not, nat_le, nat_lt, is_some}
use Rattle.std.proofs.lemmas.Bool.Decides.{eqb_tells, leb_tells, nat_tests}
use Rattle.std.proofs.lemmas.List.{take_all}
use Rattle.std.proofs.lemmas.List.FromFn.{get_or-map-range_with_len}
use Rattle.mn_wiring.specs.Wiring.{link, is_end, is_up, across, JoinsNodes}
use Rattle.mn_wiring.specs.Paths.{IsLeast, IsNext, IsDist, next}
use Rattle.mn_wiring.proofs.Next.{next_is}
use Rattle.mn_base.proofs.Bools.{clash, at_most_is}
use Rattle.mn_topo.specs.Network.{Network, wiring_of}
use Rattle.mn_topo.specs.Lawful.{IsLawful}
use Rattle.mn_ledger.specs.Places.{loopback}
use Rattle.mn_ledger.specs.World.{World, Message}
use Rattle.mn_ledger.specs.Transport.{Hearing, lives, is_active, view_of, knowledge_of, hearing, is_operational, is_mapped, usable, usable_over, usable_by}
use Rattle.mn_ledger.specs.Transport.{offers}
use Rattle.mn_ledger.specs.Turns.{IsInTurn, IsTalk}
use Rattle.mn_ledger.specs.Quiet.{known_before}
use Rattle.mn_ledger.proofs.Mentions.{operational-is}
use Rattle.mn_ledger.proofs.Turning.{Apart, loopbacks_apart, across-end}
use Rattle.mn_ledger.proofs.Nearer.{nearer}
use Rattle.mn_settled_laws.specs.Offers.{SaysItsOffers}
use Rattle.mn_settled_laws.specs.Ways.{links_up, AreUpWhereOdd}
use Rattle.mn_settled_laws.proofs.Offering.{hearing-is, ends_below}
use Rattle.mn_settled_laws.proofs.Ways.{same-map}
use Rattle.mn_reach_laws.specs.Rest.{IsAtRest}
use Rattle.mn_reach_laws.specs.Fates.{before, over_hop, lsp_within}

-- 1. One view

view-is : (t : Network) (w : World) (node : ℕ) → IsAtRest t w → AreUpWhereOdd w → node < length t.loopbacks → view_of (wiring_of t) w.views node ≡ links_up t w
view-is t w node rest odd below =
    same-map (λ l. w.views.learned node l % 2 == 1) w.config.is_up 0 (length t.links)
    (λ l h. ap (λ n. n % 2 == 1) (rest.learned node l below (omega (arith, h))) ∙ sym (odd l))

up-is : (t : Network) (w : World) (l : ℕ) → l < length t.links → is_up (links_up t w) l ≡ w.config.is_up l
up-is t w l h = get_or-map-range_with_len w.config.is_up 0 (length t.links) l l false h (omega arith)

-- 2. Where all is received, both ends of a living session are OPERATIONAL

said-so-far : (active : Bool) (k : ℕ) (xs : List Message) → IsTalk active k xs
    → ((k ≡ 0) × (length xs < 2) × (active ≡ true → length xs ≡ 1) × (active ≡ false → length xs ≡ 0))
    ⊎ (((k ≡ 1) × (length xs ≡ 2)) ⊎ ((2 ≤ k) × (3 ≤ length xs)))
said-so-far true zero xs h = inl (refl, omega (arith, ap length h), λ e. ap length h, λ e. absurd (clash e))
said-so-far false zero xs h = inl (refl, omega (arith, ap length h), λ e. absurd (clash (sym e)), λ e. ap length h)
said-so-far active (suc zero) xs h = inr (inl (refl, ap length h))
said-so-far active (suc (suc k)) xs h = inr (inr (omega arith, omega (arith, ap length h.1)))

both-heard : (one other : Bool) (i j : ℕ) (xs ys : List Message) → one ≡ not other → IsTalk one i xs → IsTalk other j ys → i ≡ length ys → j ≡ length xs → 2 ≤ i
both-heard one other i j xs ys apart h g e f = elim (said-so-far one i xs h) [
  | inl p ↦ elim (said-so-far other j ys g) [
    | inl q ↦ absurd (silent one other apart p.0 q.0 p.2 p.3 q.2 q.3)
    | inr q ↦ elim q [ inl r ↦ absurd (not_two p.0 e r.1) | inr r ↦ absurd (not_three p.0 e r.1) ]
  ]
  | inr p ↦ elim p [
    | inr r ↦ r.0
    | inl r ↦ elim (said-so-far other j ys g) [
      | inl q ↦ absurd (not_heard r.1 f q.0)
      | inr q ↦ elim q [ inl u ↦ absurd (not_one r.1 f u.0) | inr u ↦ absurd (not_three_of r.0 e u.1) ]
    ]
  ]
]
  where
    silent : (one other : Bool) → one ≡ not other → i ≡ 0 → j ≡ 0 → (one ≡ true → length xs ≡ 1) → (one ≡ false → length xs ≡ 0)
        → (other ≡ true → length ys ≡ 1) → (other ≡ false → length ys ≡ 0) → ⊥
    silent true other a zi zj x xf y yf = omega (arith, zj, f, x refl)
    silent false true a zi zj x xf y yf = omega (arith, zi, e, y refl)
    silent false false a zi zj x xf y yf = clash (sym a)

    not_two : i ≡ 0 → i ≡ length ys → length ys ≡ 2 → ⊥
    not_two a b c = omega (arith, a, b, c)

    not_three : i ≡ 0 → i ≡ length ys → 3 ≤ length ys → ⊥
    not_three a b c = omega (arith, a, b, c)

    not_heard : length xs ≡ 2 → j ≡ length xs → j ≡ 0 → ⊥
    not_heard a b c = omega (arith, a, b, c)

    not_one : length xs ≡ 2 → j ≡ length xs → j ≡ 1 → ⊥
    not_one a b c = omega (arith, a, b, c)

    not_three_of : i ≡ 1 → i ≡ length ys → 3 ≤ length ys → ⊥
    not_three_of a b c = omega (arith, a, b, c)

-- of two that differ one is less
one-less : (a b : ℕ) → a ≢ b → nat_lt a b ≡ not (nat_lt b a)
one-less a b d = elim (leb_tells (suc a) b) [
  | inl p ↦ p.0 ∙ sym (ap not (not_less a b p.1))
  | inr p ↦ p.0 ∙ sym (ap not (less a b p.1 d))
]
  where
    not_less : (a b : ℕ) → a < b → nat_lt b a ≡ false
    not_less a b h = grind (arith, nat_tests, h)

    less : (a b : ℕ) → b < suc a → a ≢ b → nat_lt b a ≡ true
    less a b h d = grind (arith, nat_tests, h, d)

one-active : (t : Network) → Apart t → JoinsNodes (wiring_of t) → (l n : ℕ) → l < length t.links → (link (wiring_of t) l).a.0 ≢ (link (wiring_of t) l).b.0
    → is_end (wiring_of t) l n ≡ true → is_active t l n ≡ not (is_active t l (across (wiring_of t) l n))
one-active t apart joins l n h differ e =
    let other = across-end (wiring_of t) l n differ e in
    let m : ℕ = across (wiring_of t) l n in
    one-less (loopback t m) (loopback t n) (apart m n (ends_below t joins l m h other.0) (ends_below t joins l n h e) other.2)
    ∙ ap not (sym (ap (λ j. nat_lt (loopback t j) (loopback t m)) other.1))

heard-two : (t : Network) (w : World) → IsLawful t → IsInTurn t w → IsAtRest t w → (l n : ℕ) → l < length t.links → is_end (wiring_of t) l n ≡ true
    → lives w.config l ≡ true → 2 ≤ w.sessions.heard l n
heard-two t w lawful turn rest l n h e alive =
    let m : ℕ = across (wiring_of t) l n in
    let other = across-end (wiring_of t) l n (lawful.ends_differ l h) e in
    both-heard (is_active t l n) (is_active t l m) (w.sessions.heard l n) (w.sessions.heard l m) (w.sessions.said l n) (w.sessions.said l m)
    (one-active t (loopbacks_apart t lawful) lawful.joins_nodes l n h (lawful.ends_differ l h) e) ((turn.ldp l n h e).talk alive)
    ((turn.ldp l m h other.0).talk alive)
    (rest.heard l n h e alive) (rest.heard l m h other.0 alive ∙ ap (λ j. length (w.sessions.said l j)) other.1)

on-link : (t : Network) (w : World) → IsLawful t → IsInTurn t w → IsAtRest t w → (l n : ℕ) → l < length t.links → is_end (wiring_of t) l n ≡ true
    → lives w.config l ≡ true → is_operational (known_before t w n) l ≡ true
on-link t w lawful turn rest l n h e alive =
    operational-is (wiring_of t) w.config w.views w.sessions n l h
    ∙ ap (λ b. (b && is_end (wiring_of t) l n) && nat_le 2 (w.sessions.heard l n)) alive ∙ ap (λ b. b && nat_le 2 (w.sessions.heard l n)) e
    ∙ at_most_is 2 (w.sessions.heard l n) (heard-two t w lawful turn rest l n h e alive)

off-link : (t : Network) (w : World) (l n : ℕ) → l < length t.links → lives w.config l ≡ false → is_operational (known_before t w n) l ≡ false
off-link t w l n h dead =
    operational-is (wiring_of t) w.config w.views w.sessions n l h
    ∙ ap (λ b. (b && is_end (wiring_of t) l n) && nat_le 2 (w.sessions.heard l n)) dead

-- 3. Along the next hops

or_true : (b : Bool) → (b || true) ≡ true
or_true true = refl
or_true false = refl

some_elim : (b : Bool) (hop : ℕ × ℕ) → is_some (elim b as (λ _. Option (ℕ × ℕ)) [ true ↦ Some hop | false ↦ None ]) ≡ b
some_elim true hop = refl
some_elim false hop = refl

elim_cond : (b : Bool) (hop : ℕ × ℕ) → elim b as (λ _. Option (ℕ × ℕ)) [ true ↦ Some hop | false ↦ None ] ≡ cond b (Some hop) None
elim_cond true hop = refl
elim_cond false hop = refl

some_before : (b : Bool) (n : ℕ) (o : Option (List ℕ)) → (b && is_some o) ≡ is_some (cond b (before n o) None)
some_before true n None = refl
some_before true n (Some ns) = refl
some_before false n o = refl

module _ (t : Network) (w : World) (lawful : IsLawful t) (turn : IsInTurn t w) (rest : IsAtRest t w) (odd : AreUpWhereOdd w)
    (says : SaysItsOffers t w) where
  -- the next hop over a link with LDP, if it offers the FEC
  hop-is : (n p : ℕ) (hop : ℕ × ℕ) → p < length t.loopbacks → IsNext (wiring_of t) (links_up t w) n p (Some hop)
      → usable_over (known_before t w n) p (Some hop)
      ≡ elim (w.config.ldp_on hop.1 && offers (wiring_of t) (known_before t w hop.0) hop.0 p) as (λ _. Option (ℕ × ℕ)) [ true ↦ Some hop | false ↦ None ]
  hop-is n p hop inside next = by_ldp (w.config.ldp_on hop.1) refl
    where
      is_up_l : w.config.is_up hop.1 ≡ true
      is_up_l = sym (up-is t w hop.1 next.1.there) ∙ next.1.up

      lives-is : (b : Bool) → w.config.ldp_on hop.1 ≡ b → lives w.config hop.1 ≡ b
      lives-is b on = ap (λ x. x && w.config.ldp_on hop.1) is_up_l ∙ on

      by_ldp : (b : Bool) → w.config.ldp_on hop.1 ≡ b → usable_over (known_before t w n) p (Some hop)
          ≡ elim (b && offers (wiring_of t) (known_before t w hop.0) hop.0 p) as (λ _. Option (ℕ × ℕ)) [ true ↦ Some hop | false ↦ None ]
      by_ldp false off =
          ap (λ b. elim (b && is_mapped false p (hearing (known_before t w n) hop.1).messages) as (λ _. Option (ℕ × ℕ)) [ true ↦ Some hop | false ↦ None ])
          (off-link t w hop.1 n next.1.there (lives-is false off))
      by_ldp true on =
          let alive : lives w.config hop.1 ≡ true = lives-is true on in
          let y : ℕ = across (wiring_of t) hop.1 n in
          let other = across-end (wiring_of t) hop.1 n (lawful.ends_differ hop.1 next.1.there) next.1.at_node in
          let near_on : is_operational (known_before t w n) hop.1 ≡ true = on-link t w lawful turn rest hop.1 n next.1.there next.1.at_node alive in
          let far_on : is_operational (known_before t w y) hop.1 ≡ true = on-link t w lawful turn rest hop.1 y next.1.there other.0 alive in
          let all : (hearing (known_before t w n) hop.1).messages
          ≡ w.sessions.said hop.1 y = ap (λ (g : Hearing). g.messages) (hearing-is (wiring_of t) w.config w.views w.sessions n hop.1 next.1.there)
          ∙ ap (λ k. take k (w.sessions.said hop.1 y)) (rest.heard hop.1 n next.1.there next.1.at_node alive)
          ∙ take_all (length (w.sessions.said hop.1 y)) (w.sessions.said hop.1 y) (omega arith) in
          let mapped : is_mapped false p (hearing (known_before t w n) hop.1).messages
          ≡ offers (wiring_of t) (known_before t w hop.0) hop.0 p = ap (is_mapped false p) all ∙ says hop.1 y p next.1.there other.0 inside
          ∙ ap (λ b. b && offers (wiring_of t) (known_before t w y) y p) far_on ∙ ap (λ j. offers (wiring_of t) (known_before t w j) j p) (sym next.0) in
          ap (λ b. elim (b && is_mapped false p (hearing (known_before t w n) hop.1).messages) as (λ _. Option (ℕ × ℕ)) [
            | true ↦ Some hop
            | false ↦ None
          ]) near_on
          ∙ ap (λ b. elim b as (λ _. Option (ℕ × ℕ)) [ true ↦ Some hop | false ↦ None ]) mapped

  hop-below : (n p : ℕ) (hop : ℕ × ℕ) → IsNext (wiring_of t) (links_up t w) n p (Some hop) → hop.0 < length t.loopbacks
  hop-below n p hop next =
      let other = across-end (wiring_of t) hop.1 n (lawful.ends_differ hop.1 next.1.there) next.1.at_node in
      subst (λ j. j < length t.loopbacks) (sym next.0) (ends_below t lawful.joins_nodes hop.1 (across (wiring_of t) hop.1 n) next.1.there other.0)

  usable-over : (n p : ℕ) → n < length t.loopbacks → usable t w.config w.views w.sessions n p
      ≡ usable_over (known_before t w n) p (next (wiring_of t) (links_up t w) n p)
  unfolding knowledge_of
  usable-over n p below = ap (λ v. usable_over (known_before t w n) p (next (wiring_of t) v n p)) (view-is t w n rest odd below)

  abbrev rest_of : ℕ → ℕ → ℕ → Option (List ℕ)
  rest_of fuel p hop = lsp_within t w.config fuel hop p

  -- a node offers the FECs to which a label switched path leads
  pub offers-is : (fuel d n p : ℕ) → d < fuel → n < length t.loopbacks → p < length t.loopbacks → IsLeast (wiring_of t) (links_up t w) n p d
      → offers (wiring_of t) (known_before t w n) n p ≡ is_some (lsp_within t w.config fuel n p)
  offers-is zero d n p f below inside least = absurd (none f)
    where
      none : {k : ℕ} → k < 0 → ⊥
      none h = omega (arith, h)
  offers-is (suc fuel) d n p f below inside least = elim (eqb_tells n p) [
    | inl e ↦
        ap (λ b. b || is_some (usable_by (wiring_of t) (known_before t w n) n p)) e.0
        ∙ sym (ap (λ b. is_some (cond b (Some (n ∷ [])) (over_hop w.config n (rest_of fuel p) (next (wiring_of t) (links_up t w) n p)))) e.0)
    | inr e ↦
        ap (λ b. b || is_some (usable_by (wiring_of t) (known_before t w n) n p)) e.0
        ∙ ap is_some (usable-over n p below)
        ∙ by_hop (λ hop r i f'. offers-is fuel r hop.0 p f' (hop-below n p hop i.0) inside i.1) e.1 (next (wiring_of t) (links_up t w) n p) refl
        (next_is (wiring_of t) (links_up t w) p lawful.joins_nodes n below e.1)
        ∙ sym (ap (λ b. is_some (cond b (Some (n ∷ [])) (over_hop w.config n (rest_of fuel p) (next (wiring_of t) (links_up t w) n p)))) e.0)
  ]
    where
      by_hop : ((hop : ℕ × ℕ) (r : ℕ) → IsNext (wiring_of t) (links_up t w) n p (Some hop) × IsLeast (wiring_of t) (links_up t w) hop.0 p r → r < fuel
          → offers (wiring_of t) (known_before t w hop.0) hop.0 p ≡ is_some (rest_of fuel p hop.0)) → n ≢ p → (o : Option (ℕ × ℕ))
          → next (wiring_of t) (links_up t w) n p ≡ o
          → IsNext (wiring_of t) (links_up t w) n p o → is_some (usable_over (known_before t w n) p o) ≡ is_some (over_hop w.config n (rest_of fuel p) o)
      by_hop on apart None is none = refl
      by_hop on apart (Some hop) is some =
          let near = nearer t (links_up t w) n p d hop lawful below apart is least in
          ap is_some (hop-is n p hop inside some)
          ∙ some_elim (w.config.ldp_on hop.1 && offers (wiring_of t) (known_before t w hop.0) hop.0 p) hop
          ∙ ap (λ b. w.config.ldp_on hop.1 && b) (on hop near.rest (some, near.is_least) (less near.is_less f))
          ∙ some_before (w.config.ldp_on hop.1) n (rest_of fuel p hop.0)
        where
          less : {r : ℕ} → r < d → d < suc fuel → r < fuel
          less a b = omega (arith, a, b)

  -- and can send to them, by the next hop
  pub usable-is : (fuel d n p : ℕ) → d < suc fuel → n < length t.loopbacks → p < length t.loopbacks → n ≢ p → IsLeast (wiring_of t) (links_up t w) n p d
      → usable t w.config w.views w.sessions n p
      ≡ cond (is_some (lsp_within t w.config (suc fuel) n p)) (next (wiring_of t) (links_up t w) n p) None
  usable-is fuel d n p f below inside apart least =
      usable-over n p below
      ∙ by_hop (next (wiring_of t) (links_up t w) n p) refl (next_is (wiring_of t) (links_up t w) p lawful.joins_nodes n below apart)
      ∙ sym (ap (λ b. cond (is_some (cond b (Some (n ∷ [])) (over_hop w.config n (rest_of fuel p) (next (wiring_of t) (links_up t w) n p))))
      (next (wiring_of t) (links_up t w) n p) None) (differ n p apart))
    where
      differ : (x y : ℕ) → x ≢ y → (x == y) ≡ false
      differ x y h = elim (eqb_tells x y) [ inl q ↦ absurd (h q.1) | inr q ↦ q.0 ]

      less : {r : ℕ} → r < d → d < suc fuel → r < fuel
      less a b = omega (arith, a, b)

      by_hop : (o : Option (ℕ × ℕ)) → next (wiring_of t) (links_up t w) n p ≡ o → IsNext (wiring_of t) (links_up t w) n p o
          → usable_over (known_before t w n) p o ≡ cond (is_some (over_hop w.config n (rest_of fuel p) o)) o None
      by_hop None is none = refl
      by_hop (Some hop) is some =
          let near = nearer t (links_up t w) n p d hop lawful below apart is least in
          hop-is n p hop inside some
          ∙ elim_cond (w.config.ldp_on hop.1 && offers (wiring_of t) (known_before t w hop.0) hop.0 p) hop
          ∙ ap (λ b. cond (w.config.ldp_on hop.1 && b) (Some hop) None)
          (offers-is fuel near.rest hop.0 p (less near.is_less f) (hop-below n p hop some) inside near.is_least)
          ∙ ap (λ b. cond b (Some hop) None) (some_before (w.config.ldp_on hop.1) n (rest_of fuel p hop.0))

  -- where no walk leads it can't send
  pub unusable : (n p : ℕ) → n < length t.loopbacks → n ≢ p → IsDist (wiring_of t) (links_up t w) n p None
      → usable t w.config w.views w.sessions n p ≡ None
  unusable n p below apart none =
      usable-over n p below
      ∙ by_hop (next (wiring_of t) (links_up t w) n p) (next_is (wiring_of t) (links_up t w) p lawful.joins_nodes n below apart)
    where
      by_hop : (o : Option (ℕ × ℕ)) → IsNext (wiring_of t) (links_up t w) n p o → usable_over (known_before t w n) p o ≡ None
      by_hop None is = refl
      by_hop (Some hop) some = absurd (none some.1.whole.walk.0 some.1.whole.walk.1)
