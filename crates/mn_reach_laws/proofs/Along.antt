-- A packet that goes along a label switched path in a network at rest: what becomes of it there.
use Rattle.std.proofs.Common.{ℕ, zero, suc, ◌≡◌, ◌≢◌, ◌-◌, ◌<◌, ◌≤◌, inl, inr, Bool, true, false, cond, List, [], ◌∷◌, ◌++◌, length, take, refl, arith, sym}
use Rattle.std.proofs.Common.{◌∙◌, ap, subst, append-nil, Option, None, Some}
use Rattle.std.specs.Prelude.{◌==◌, nat_lt, slice_index_or, is_some}
use Rattle.std.proofs.lemmas.Bool.Decides.{eqb_tells}
use Rattle.std.proofs.lemmas.List.{append_assoc}
use Rattle.mn_drops.specs.declared.drops.Rule.TheVariants as rule
use Rattle.mn_wiring.specs.Wiring.{across}
use Rattle.mn_wiring.specs.Paths.{IsLeast, IsNext, IsDist, next, dists_to, dist_in}
use Rattle.mn_wiring.proofs.Next.{next_is}
use Rattle.mn_wiring.proofs.Dist.{dists_are_least}
use Rattle.mn_base.proofs.Rules.{some_is, none_is}
use Rattle.mn_topo.specs.Network.{Network, wiring_of}
use Rattle.mn_topo.specs.Lawful.{IsLawful}
use Rattle.mn_ledger.specs.World.{World}
use Rattle.mn_ledger.specs.Transport.{usable}
use Rattle.mn_ledger.specs.Held.{HeldRoute}
use Rattle.mn_ledger.specs.Packets.{is_attachment}
use Rattle.mn_ledger.specs.Turns.{IsInTurn}
use Rattle.mn_ledger.proofs.Turning.{lt_tells}
use Rattle.mn_ledger.proofs.Nearer.{nearer}
use Rattle.mn_settled_laws.specs.Offers.{SaysItsOffers}
use Rattle.mn_settled_laws.specs.Ways.{links_up, AreUpWhereOdd}
use Rattle.mn_settled_laws.proofs.Hops.{hop-below}
use Rattle.mn_fate_laws.specs.Fate.{Fate, Arrives, Falls, fate_at, fate_by_hop, fate_by_route}
use Rattle.mn_reach_laws.specs.Rest.{IsAtRest}
use Rattle.mn_reach_laws.specs.Fates.{before, over_hop, lsp_within, lsp_by, lsp, ends_along, ends_over}
use Rattle.mn_reach_laws.proofs.Paths.{usable-is, unusable}

-- 1. Small things

differ : (x y : ℕ) → x ≢ y → (x == y) ≡ false
differ x y h = elim (eqb_tells x y) [ inl q ↦ absurd (h q.1) | inr q ↦ q.0 ]

same : (x y : ℕ) → x ≡ y → (x == y) ≡ true
same x y h = elim (eqb_tells x y) [ inl q ↦ q.0 | inr q ↦ absurd (q.1 h) ]

less_by_one : (a b : ℕ) → nat_lt a b ≡ nat_lt (suc a) (suc b)
less_by_one a b = elim (lt_tells a b) [
  | inl p ↦ elim (lt_tells (suc a) (suc b)) [ inl q ↦ p.0 ∙ sym q.0 | inr q ↦ absurd (over p.1 q.1) ]
  | inr p ↦ elim (lt_tells (suc a) (suc b)) [ inl q ↦ absurd (under p.1 q.1) | inr q ↦ p.0 ∙ sym q.0 ]
]
  where
    over : a < b → suc b ≤ suc a → ⊥
    over h g = omega (arith, h, g)

    under : b ≤ a → suc a < suc b → ⊥
    under h g = omega (arith, h, g)

not_below_zero : (a : ℕ) → nat_lt a 0 ≡ false
not_below_zero a = elim (lt_tells a 0) [ inl p ↦ absurd (none p.1) | inr p ↦ p.0 ]
  where
    none : a < 0 → ⊥
    none h = omega (arith, h)

above_zero : (m : ℕ) → nat_lt 0 (suc m) ≡ true
above_zero m = elim (lt_tells 0 (suc m)) [ inl p ↦ p.0 | inr p ↦ absurd (none p.1) ]
  where
    none : suc m ≤ 0 → ⊥
    none h = omega (arith, h)

one_below : (m : ℕ) → nat_lt 1 (suc (suc m)) ≡ true
one_below m = sym (less_by_one 0 (suc m)) ∙ above_zero m

ends_same : (b c : Bool) (x x' y y' : Fate) → b ≡ c → x ≡ x' → y ≡ y' → cond b x y ≡ cond c x' y'
ends_same b c x x' y y' h g f = ap (λ k. cond k x y) h ∙ ap (λ k. cond c k y) g ∙ ap (λ k. cond c x' k) f

-- what becomes of it from a node on, where it comes with so much and one, with these nodes still before it
abbrev ends_from : HeldRoute → ℕ → ℕ → List ℕ → List ℕ → Fate
ends_from r left n later path =
    cond (nat_lt (length later) left) (Arrives r.site (left - length later) (path ++ later))
    (Falls rule.TtlExpired (slice_index_or (n ∷ later) left 0) (path ++ take left later))

module _ (t : Network) (w : World) (lawful : IsLawful t) (turn : IsInTurn t w) (rest : IsAtRest t w) (odd : AreUpWhereOdd w)
    (says : SaysItsOffers t w) where
  abbrev rest_of : ℕ → ℕ → ℕ → Option (List ℕ)
  rest_of fuel p hop = lsp_within t w.config fuel hop p

  no_list : (ns : List ℕ) → None ≡ Some ns → ⊥
  no_list ns e = none_is ns e

  -- it begins with the node itself
  begins : (fuel n p : ℕ) (nodes : List ℕ) → lsp_within t w.config fuel n p ≡ Some nodes → (later : List ℕ) × (nodes ≡ n ∷ later)
  begins zero n p nodes is = absurd (no_list nodes is)
  begins (suc fuel) n p nodes is = by_test (n == p) is
    where
      by_rest : (o : Option (List ℕ)) → before n o ≡ Some nodes → (later : List ℕ) × (nodes ≡ n ∷ later)
      by_rest None e = absurd (no_list nodes e)
      by_rest (Some ns) e = (ns, sym (some_is (n ∷ ns) nodes e))

      by_ldp : (b : Bool) (o : Option (List ℕ)) → cond b (before n o) None ≡ Some nodes → (later : List ℕ) × (nodes ≡ n ∷ later)
      by_ldp true o e = by_rest o e
      by_ldp false o e = absurd (no_list nodes e)

      by_hop : (o : Option (ℕ × ℕ)) → over_hop w.config n (rest_of fuel p) o ≡ Some nodes → (later : List ℕ) × (nodes ≡ n ∷ later)
      by_hop None e = absurd (no_list nodes e)
      by_hop (Some hop) e = by_ldp (w.config.ldp_on hop.1) (rest_of fuel p hop.0) e

      by_test : (b : Bool) → cond b (Some (n ∷ [])) (over_hop w.config n (rest_of fuel p) (next (wiring_of t) (links_up t w) n p)) ≡ Some nodes
          → (later : List ℕ) × (nodes ≡ n ∷ later)
      by_test true e = ([], sym (some_is (n ∷ []) nodes e))
      by_test false e = by_hop (next (wiring_of t) (links_up t w) n p) e

  -- at another node it goes on with the next hop
  pub record GoesOn (fuel n p : ℕ) (nodes : List ℕ) : Type 0 where
    pub hop : ℕ × ℕ
    pub later : List ℕ
    pub is_next : next (wiring_of t) (links_up t w) n p ≡ Some hop
    pub whole : nodes ≡ n ∷ hop.0 ∷ later
    pub rest_is : rest_of fuel p hop.0 ≡ Some (hop.0 ∷ later)

  goes-on : (fuel n p : ℕ) (nodes : List ℕ) → n ≢ p → lsp_within t w.config (suc fuel) n p ≡ Some nodes → GoesOn fuel n p nodes
  goes-on fuel n p nodes apart is =
      by_hop (next (wiring_of t) (links_up t w) n p) refl
      (sym (ap (λ b. cond b (Some (n ∷ [])) (over_hop w.config n (rest_of fuel p) (next (wiring_of t) (links_up t w) n p))) (differ n p apart)) ∙ is)
    where
      by_rest : (hop : ℕ × ℕ) → next (wiring_of t) (links_up t w) n p ≡ Some hop → (o : Option (List ℕ)) → rest_of fuel p hop.0 ≡ o
          → before n o ≡ Some nodes → GoesOn fuel n p nodes
      by_rest hop nx None h e = absurd (no_list nodes e)
      by_rest hop nx (Some ns) h e =
          let more = begins fuel hop.0 p ns h in
          record {
            hop = hop;
            later = more.0;
            is_next = nx;
            whole = sym (some_is (n ∷ ns) nodes e) ∙ ap (λ xs. n ∷ xs) more.1;
            rest_is = h ∙ ap (λ xs. Some xs) more.1;
          }

      by_ldp : (hop : ℕ × ℕ) → next (wiring_of t) (links_up t w) n p ≡ Some hop → (b : Bool) → cond b (before n (rest_of fuel p hop.0)) None ≡ Some nodes
          → GoesOn fuel n p nodes
      by_ldp hop nx true e = by_rest hop nx (rest_of fuel p hop.0) refl e
      by_ldp hop nx false e = absurd (no_list nodes e)

      by_hop : (o : Option (ℕ × ℕ)) → next (wiring_of t) (links_up t w) n p ≡ o → over_hop w.config n (rest_of fuel p) o ≡ Some nodes → GoesOn fuel n p nodes
      by_hop None nx e = absurd (no_list nodes e)
      by_hop (Some hop) nx e = by_ldp hop nx (w.config.ldp_on hop.1) e

  next-of : (n p : ℕ) (hop : ℕ × ℕ) → n < length t.loopbacks → n ≢ p → next (wiring_of t) (links_up t w) n p ≡ Some hop
      → IsNext (wiring_of t) (links_up t w) n p (Some hop)
  next-of n p hop below apart is =
      subst (IsNext (wiring_of t) (links_up t w) n p) is (next_is (wiring_of t) (links_up t w) p lawful.joins_nodes n below apart)

  -- 2. The packet is on its way

  expires : (r : HeldRoute) (n : ℕ) (later path : List ℕ) → fate_at t w r 0 n path ≡ ends_from r 0 n later path
  expires r n later path =
      ap (λ xs. Falls rule.TtlExpired n xs) (sym (append-nil path))
      ∙ sym (ap (λ b. cond b (Arrives r.site (0 - length later) (path ++ later)) (Falls rule.TtlExpired n (path ++ []))) (not_below_zero (length later)))

  leaves : (r : HeldRoute) (m n : ℕ) (path : List ℕ) → is_attachment (w.config.attached r.site) r.attachment ≡ true → n ≡ r.edge
      → fate_at t w r (suc m) n path ≡ ends_from r (suc m) n [] path
  leaves r m n path attached e =
      ap (λ b. elim b as (λ _. Fate) [
        | true ↦ elim (is_attachment (w.config.attached r.site) r.attachment) as (λ _. Fate) [
          | true ↦ Arrives r.site (suc m) path
          | false ↦ Falls rule.SiteGone n path
        ]
        | false ↦ elim (usable t w.config w.views w.sessions n r.edge) as (λ _. Fate) [
          | None ↦ Falls rule.NoEntry n path
          | Some hop ↦ fate_at t w r m (across (wiring_of t) hop.1 n) (path ++ across (wiring_of t) hop.1 n ∷ [])
        ]
      ]) (same n r.edge e)
      ∙ ap (λ b. elim b as (λ _. Fate) [ true ↦ Arrives r.site (suc m) path | false ↦ Falls rule.SiteGone n path ]) attached
      ∙ ap (λ xs. Arrives r.site (suc m) xs) (sym (append-nil path))
      ∙ ap (λ k. Arrives r.site k (path ++ [])) (all m)
      ∙ sym (ap (λ b. cond b (Arrives r.site (suc m - 0) (path ++ [])) (Falls rule.TtlExpired (slice_index_or (n ∷ []) (suc m) 0) (path ++ take (suc m) [])))
      (above_zero m))
    where
      all : (k : ℕ) → suc k ≡ suc k - 0
      all k = omega arith

  hops : (r : HeldRoute) (m n : ℕ) (path : List ℕ) (hop : ℕ × ℕ) → n ≢ r.edge → usable t w.config w.views w.sessions n r.edge ≡ Some hop
      → hop.0 ≡ across (wiring_of t) hop.1 n → fate_at t w r (suc m) n path ≡ fate_at t w r m hop.0 (path ++ hop.0 ∷ [])
  hops r m n path hop apart can far =
      ap (λ b. elim b as (λ _. Fate) [
        | true ↦ elim (is_attachment (w.config.attached r.site) r.attachment) as (λ _. Fate) [
          | true ↦ Arrives r.site (suc m) path
          | false ↦ Falls rule.SiteGone n path
        ]
        | false ↦ elim (usable t w.config w.views w.sessions n r.edge) as (λ _. Fate) [
          | None ↦ Falls rule.NoEntry n path
          | Some h ↦ fate_at t w r m (across (wiring_of t) h.1 n) (path ++ across (wiring_of t) h.1 n ∷ [])
        ]
      ]) (differ n r.edge apart)
      ∙ ap (λ o. elim o as (λ _. Fate) [
        | None ↦ Falls rule.NoEntry n path
        | Some h ↦ fate_at t w r m (across (wiring_of t) h.1 n) (path ++ across (wiring_of t) h.1 n ∷ [])
      ]) can
      ∙ ap (λ y. fate_at t w r m y (path ++ y ∷ [])) (sym far)

  longer : (r : HeldRoute) (m n y : ℕ) (later path : List ℕ) → ends_from r m y later (path ++ y ∷ []) ≡ ends_from r (suc m) n (y ∷ later) path
  longer r m n y later path =
      ends_same (nat_lt (length later) m) (nat_lt (suc (length later)) (suc m)) _ _ _ _ (less_by_one (length later) m)
      (ap (λ k. Arrives r.site k ((path ++ y ∷ []) ++ later)) (less_one m (length later))
      ∙ ap (λ xs. Arrives r.site (suc m - suc (length later)) xs) (append_assoc path (y ∷ []) later))
      (ap (λ xs. Falls rule.TtlExpired (slice_index_or (y ∷ later) m 0) xs) (append_assoc path (y ∷ []) (take m later)))
    where
      less_one : (a b : ℕ) → a - b ≡ suc a - suc b
      less_one a b = omega arith

  pub along : (fuel d n : ℕ) (r : HeldRoute) (later : List ℕ) (left : ℕ) (path : List ℕ) → is_attachment (w.config.attached r.site) r.attachment ≡ true
      → d < fuel → n < length t.loopbacks → r.edge < length t.loopbacks → IsLeast (wiring_of t) (links_up t w) n r.edge d
      → lsp_within t w.config fuel n r.edge ≡ Some (n ∷ later) → fate_at t w r left n path ≡ ends_from r left n later path
  along zero d n r later left path attached f below inside least is = absurd (none f)
    where
      none : d < 0 → ⊥
      none h = omega (arith, h)
  along (suc fuel) d n r later zero path attached f below inside least is = expires r n later path
  along (suc fuel) d n r later (suc m) path attached f below inside least is = elim (eqb_tells n r.edge) [
    | inl e ↦ leaves r m n path attached e.1 ∙ ap (λ xs. ends_from r (suc m) n xs path) (last e.0)
    | inr e ↦ onward (λ hop x later' i j q. along fuel x hop r later' m (path ++ hop ∷ []) attached i j inside q.0 q.1) e.1
        (goes-on fuel n r.edge (n ∷ later) e.1 is)
  ]
    where
      tails : (xs ys : List ℕ) → ◌≡◌ {A = List ℕ} (n ∷ xs) (n ∷ ys) → xs ≡ ys
      tails xs ys h = cc

      last : (n == r.edge) ≡ true → [] ≡ later
      last e = tails [] later (some_is (n ∷ []) (n ∷ later)
          (sym (ap (λ b. cond b (Some (n ∷ [])) (over_hop w.config n (rest_of fuel r.edge) (next (wiring_of t) (links_up t w) n r.edge))) e) ∙ is))

      less : {x : ℕ} → x < d → d < suc fuel → x < fuel
      less a b = omega (arith, a, b)

      onward : ((hop x : ℕ) (later' : List ℕ) → x < fuel → hop < length t.loopbacks
          → IsLeast (wiring_of t) (links_up t w) hop r.edge x × (rest_of fuel r.edge hop ≡ Some (hop ∷ later'))
          → fate_at t w r m hop (path ++ hop ∷ []) ≡ ends_from r m hop later' (path ++ hop ∷ []))
          → n ≢ r.edge → GoesOn fuel n r.edge (n ∷ later) → fate_at t w r (suc m) n path ≡ ends_from r (suc m) n later path
      onward then apart g =
          let some = next-of n r.edge g.hop below apart g.is_next in
          let near = nearer t (links_up t w) n r.edge d g.hop lawful below apart g.is_next least in
          let can : usable t w.config w.views w.sessions n r.edge ≡ Some g.hop =
          usable-is t w lawful turn rest odd says fuel d n r.edge f below inside apart least
          ∙ ap (λ o. cond (is_some o) (next (wiring_of t) (links_up t w) n r.edge) None) is ∙ g.is_next in
          hops r m n path g.hop apart can some.0
          ∙ then g.hop.0 near.rest g.later (less near.is_less f) (hop-below t (links_up t w) lawful r.edge n g.hop some) (near.is_least, g.rest_is)
          ∙ longer r m n g.hop.0 g.later path
          ∙ ap (λ xs. ends_from r (suc m) n xs path) (sym (tails later (g.hop.0 ∷ g.later) g.whole))

  -- 3. From the edge of its site on

  abbrev by_ttl : HeldRoute → ℕ → List ℕ → Fate
  by_ttl r ttl nodes = ends_along r ttl nodes

  two_more : (r : HeldRoute) (m n y : ℕ) (later : List ℕ) → ends_from r m y later (n ∷ y ∷ []) ≡ ends_along r (suc (suc m)) (n ∷ y ∷ later)
  two_more r m n y later =
      ends_same (nat_lt (length later) m) (nat_lt (suc (suc (length later))) (suc (suc m))) _ _ _ _
      (less_by_one (length later) m ∙ less_by_one (suc (length later)) (suc m))
      (ap (λ k. Arrives r.site k (n ∷ y ∷ later)) (less_two m (length later)))
      (ap (λ k. Falls rule.TtlExpired (slice_index_or (n ∷ y ∷ later) k 0) (n ∷ y ∷ take m later)) (less_one m))
    where
      less_two : (a b : ℕ) → a - b ≡ suc (suc a) - suc (suc b)
      less_two a b = omega arith

      less_one : (a : ℕ) → suc a ≡ suc (suc a) - 1
      less_one a = omega arith

  pub towards : (home m : ℕ) (r : HeldRoute) → is_attachment (w.config.attached r.site) r.attachment ≡ true → home < length t.loopbacks
      → r.edge < length t.loopbacks → fate_by_route t w home (suc (suc m)) (Some r) ≡ ends_over home (suc (suc m)) r (lsp t w.config home r.edge)
  towards home m r attached below inside = elim (eqb_tells home r.edge) [
    | inl e ↦ by_cost_here e.1 e.0 (dist_in (dists_to (wiring_of t) (links_up t w) r.edge) home)
        (dists_are_least (wiring_of t) (links_up t w) r.edge lawful.joins_nodes home below)
    | inr e ↦
        ap (λ b. elim b as (λ _. Fate) [
          | true ↦ Arrives r.site (suc (suc m) - 1) (home ∷ [])
          | false ↦ fate_by_hop t w home (suc (suc m)) r (usable t w.config w.views w.sessions home r.edge)
        ]) (differ r.edge home (λ h. e.1 (sym h)))
        ∙ by_cost e.1 (dist_in (dists_to (wiring_of t) (links_up t w) r.edge) home)
        (dists_are_least (wiring_of t) (links_up t w) r.edge lawful.joins_nodes home below)
  ]
    where
      less_one : (a : ℕ) → suc (suc a) - 1 ≡ suc (suc a) - length (home ∷ [])
      less_one a = omega arith

      by_cost_here : home ≡ r.edge → (home == r.edge) ≡ true → (o : Option ℕ) → IsDist (wiring_of t) (links_up t w) home r.edge o
          → fate_by_route t w home (suc (suc m)) (Some r) ≡ ends_over home (suc (suc m)) r (lsp_by t w.config home r.edge o)
      by_cost_here e test None none = absurd (none [] (ap (λ x. Some x) e))
      by_cost_here e test (Some d) least =
          ap (λ b. elim b as (λ _. Fate) [
            | true ↦ Arrives r.site (suc (suc m) - 1) (home ∷ [])
            | false ↦ fate_by_hop t w home (suc (suc m)) r (usable t w.config w.views w.sessions home r.edge)
          ]) (same r.edge home (sym e))
          ∙ ap (λ k. Arrives r.site k (home ∷ [])) (less_one m)
          ∙ sym (ap (λ b. cond b (Arrives r.site (suc (suc m) - length (home ∷ [])) (home ∷ []))
          (Falls rule.TtlExpired (slice_index_or (home ∷ []) (suc (suc m) - 1) 0) (take (suc (suc m)) (home ∷ [])))) (one_below m))
          ∙ sym (ap (λ b. ends_over home (suc (suc m)) r
          (cond b (Some (home ∷ [])) (over_hop w.config home (rest_of d r.edge) (next (wiring_of t) (links_up t w) home r.edge)))) test)

      by_lsp : home ≢ r.edge → (d : ℕ) → IsLeast (wiring_of t) (links_up t w) home r.edge d → (o : Option (List ℕ))
          → lsp_within t w.config (suc d) home r.edge ≡ o
          → fate_by_hop t w home (suc (suc m)) r (usable t w.config w.views w.sessions home r.edge) ≡ ends_over home (suc (suc m)) r o
      by_lsp apart d least None is =
          ap (fate_by_hop t w home (suc (suc m)) r)
          (usable-is t w lawful turn rest odd says d d home r.edge (omega arith) below inside apart least
          ∙ ap (λ o. cond (is_some o) (next (wiring_of t) (links_up t w) home r.edge) None) is)
      by_lsp apart d least (Some nodes) is =
          let g = goes-on d home r.edge nodes apart is in
          let some = next-of home r.edge g.hop below apart g.is_next in
          let near = nearer t (links_up t w) home r.edge d g.hop lawful below apart g.is_next least in
          let can : usable t w.config w.views w.sessions home r.edge ≡ Some g.hop =
          usable-is t w lawful turn rest odd says d d home r.edge (omega arith) below inside
          apart least ∙ ap (λ o. cond (is_some o) (next (wiring_of t) (links_up t w) home r.edge) None) is ∙ g.is_next in
          ap (fate_by_hop t w home (suc (suc m)) r) can
          ∙ ap (λ k. fate_at t w r k (across (wiring_of t) g.hop.1 home) (home ∷ across (wiring_of t) g.hop.1 home ∷ [])) (less_two m)
          ∙ ap (λ y. fate_at t w r m y (home ∷ y ∷ [])) (sym some.0)
          ∙ along d near.rest g.hop.0 r g.later m (home ∷ g.hop.0 ∷ []) attached near.is_less (hop-below t (links_up t w) lawful r.edge home g.hop some) inside
          near.is_least g.rest_is
          ∙ two_more r m home g.hop.0 g.later
          ∙ ap (ends_along r (suc (suc m))) (sym g.whole)
        where
          less_two : (a : ℕ) → suc (suc a) - 2 ≡ a
          less_two a = omega arith

      by_cost : home ≢ r.edge → (o : Option ℕ) → IsDist (wiring_of t) (links_up t w) home r.edge o
          → fate_by_hop t w home (suc (suc m)) r (usable t w.config w.views w.sessions home r.edge)
          ≡ ends_over home (suc (suc m)) r (lsp_by t w.config home r.edge o)
      by_cost apart None none = ap (fate_by_hop t w home (suc (suc m)) r) (unusable t w lawful turn rest odd says home r.edge below apart none)
      by_cost apart (Some d) least = by_lsp apart d least (lsp_within t w.config (suc d) home r.edge) refl
