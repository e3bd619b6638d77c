-- What becomes of a packet that is sent, and carried on, while only packets move.
use Rattle.mn_topo.specs.declared.steps.Damaged.{Damaged}
use Rattle.std.proofs.Common.{ℕ, zero, suc, ◌≡◌, ◌≢◌, ◌+◌, ◌-◌, ◌*◌, ◌<◌, ◌≤◌, ◌⊎◌, inl, inr, Bool, true, false, List, [], ◌∷◌, ◌++◌, length, get_or, refl}
use Rattle.std.proofs.Common.{arith, sym, ◌∙◌, ap, subst, Option, None, Some}
use Rattle.std.specs.Prelude.{◌==◌, ◌&&◌, nat_le, slice_get, slice_index_or, slice_set, if◌then◌else◌}
use Rattle.std.specs.List.{list_all}
use Rattle.std.proofs.lemmas.Bool.Decides.{eqb_tells, leb_tells}
use Rattle.std.proofs.lemmas.List.{get_or-set_same, get_or-set_other}
use Rattle.std.proofs.lemmas.Grind.{common_steps}
use Rattle.mn_drops.specs.declared.drops.Rule.{Rule}
use Rattle.mn_drops.specs.declared.drops.Rule.TheVariants as rule
use Rattle.mn_wiring.specs.declared.links.Dir.{Dir}
use Rattle.mn_wiring.specs.declared.links.Dir.TheVariants.{Forth, Back}
use Rattle.mn_wiring.specs.Wiring.{link, across, receiver}
use Rattle.mn_ipv4.specs.Header.{ttl_of, destination_of}
use Rattle.mn_topo.specs.Network.{Network, wiring_of}
use Rattle.mn_topo.specs.declared.steps.Step.{Step}
use Rattle.mn_topo.specs.declared.steps.Step.TheVariants.{Inject, Carry}
use Rattle.mn_topo.specs.declared.steps.JournalEntry.{JournalEntry}
use Rattle.mn_ledger.specs.declared.verdict.Verdict.{Verdict}
use Rattle.mn_ledger.specs.declared.verdict.Verdict.TheVariants.{Delivered, Dropped, Flying}
use Rattle.mn_ledger.specs.Entry.{first_rule}
use Rattle.mn_ledger.specs.Tables.{put}
use Rattle.mn_ledger.specs.Places.{home_of, vrf_of}
use Rattle.mn_ledger.specs.World.{World}
use Rattle.mn_ledger.specs.Transport.{usable, sessions_after}
use Rattle.mn_ledger.specs.Bgp.{peerings_after}
use Rattle.mn_ledger.specs.Held.{HeldRoute, best}
use Rattle.mn_ledger.specs.Eligible.{eligible}
use Rattle.mn_ledger.specs.Packets.{Token, Packets, channel, flying_on, away_from, judged, drop_at, visited, deliver, hop_over, hop_on, entry_rules, bound}
use Rattle.mn_ledger.specs.Packets.{route_by, enter_by, enter, one_more, without_place, taken, is_attachment, leave, arrive, carry, before_step, packets_after}
use Rattle.mn_ledger.specs.Verdicts.{one_if, injections, times_in, times_by, verdict_on, AreInOnePlace}
use Rattle.mn_ledger.specs.Settled.{moves_packets}
use Rattle.mn_base.specs.declared.numbers.SiteNo.{SiteNo}
use Rattle.mn_base.proofs.Bools.{and_parts, clash}
use Rattle.mn_ledger.specs.Ledger.{after, start, no_packets, next_of, left_by, injects, world_from, world_of, packets_from, packets_of, packets_by}
use Rattle.mn_ledger.proofs.Members.{In, in_append}
use Rattle.mn_ledger.proofs.GoingBy.{put_here, put_off}
use Rattle.mn_ledger.proofs.OnePlace.{Loose, loosen, fresh, unmarked, stepped, in_one_place, timed_places}
use Rattle.mn_ledger.specs.Time.{clock_after, timed, timed_by}
use Rattle.mn_ledger.specs.Packets.{stamped}
use Rattle.mn_ledger.specs.Held.{Own}
use Rattle.mn_fate_laws.specs.Fate.{Fate, Arrives, Falls, HasFate, fate_at, fate_by_hop, fate_by_route, fate_by, fate_of, left_after}

abbrev pub path_of : Packets → ℕ → List ℕ
path_of k j = slice_index_or k.paths j []

-- 1. Steps that only move packets leave the world as it is

pub still : (t : Network) (w : World) (s : Step) → moves_packets s ≡ true → after t w s ≡ w
unfolding sessions_after peerings_after
still t w (Inject s n) h = refl
still t w (Carry l d n) h = refl
still t w _ h = absurd (clash (sym h))

-- 2. What is done with another packet

-- of the packet the verdict and the path are as before, and none of its tokens is new
pub record Keeps (j : ℕ) (a b : Packets) : Type 0 where
  pub verdict : verdict_on b j ≡ verdict_on a j
  pub path : path_of b j ≡ path_of a j
  pub fewer : (at : ℕ) (k : Token) → In (b.flying at) k → k.packet ≡ j → In (a.flying at) k

keeps-on : (j : ℕ) (a b c : Packets) → Keeps j a b → Keeps j b c → Keeps j a c
keeps-on j a b c f g = record { verdict = g.verdict ∙ f.verdict; path = g.path ∙ f.path; fewer = λ at k i e. f.fewer at k (g.fewer at k i e) e }

keeps-judged : (j p : ℕ) (a : Packets) (v : Verdict) → j ≢ p → Keeps j a (judged a p v)
keeps-judged j p a v d = record { verdict = get_or-set_other a.verdicts p j v (Delivered 0 (record { 0 = 0 }) 0) d; path = refl; fewer = λ at k i e. i }

keeps-deliver : (j p : ℕ) (a : Packets) (s ttl : ℕ) (b : List ℕ) → j ≢ p → Keeps j a (deliver a p s ttl b)
keeps-deliver j p a s ttl b d =
    let g = keeps-judged j p a (Delivered ttl (record { 0 = s }) (a.copies + 1)) d in record { verdict = g.verdict; path = g.path; fewer = g.fewer }

keeps-visited : (j p n : ℕ) (a : Packets) → j ≢ p → Keeps j a (visited a p n)
keeps-visited j p n a d = record { verdict = refl; path = get_or-set_other a.paths p j (slice_index_or a.paths p [] ++ n ∷ []) [] d; fewer = λ at k i e. i }

in_put : (f : ℕ → List Token) (c : ℕ) (ks : List Token) (at : ℕ) (k : Token) → In (put f c ks at) k → ((at ≡ c) × In ks k) ⊎ ((at ≢ c) × In (f at) k)
in_put f c ks at k i = elim (eqb_tells at c) [
  | inl q ↦ inl (q.1, subst (λ xs. In xs k) (ap (put f c ks) q.1 ∙ put_here f c ks) i)
  | inr q ↦ inr (q.1, subst (λ xs. In xs k) (put_off f c ks at q.1) i)
]

keeps-hop : (t : Network) (j : ℕ) (a : Packets) (k : Token) (x : ℕ) (r : Rule) (o : Option (ℕ × ℕ)) → j ≢ k.packet → Keeps j a (hop_over t a k x r o)
keeps-hop t j a k x r None d = keeps-judged j k.packet a (Dropped r (record { 0 = x })) d
keeps-hop t j a k x r (Some h) d =
    let g = keeps-judged j k.packet a (Flying (record { 0 = h.1 }) (away_from t h.1 x)) d in
    let c : ℕ = channel h.1 (away_from t h.1 x) in
    record {
      verdict = g.verdict;
      path = g.path;
      fewer = λ at tok i e. elim (in_put a.flying c (a.flying c ++ k ∷ []) at tok i) [
        | inr q ↦ q.1
        | inl q ↦ elim (in_append (a.flying c) (k ∷ []) tok q.1) [
          | inl m ↦ subst (λ n. In (a.flying n) tok) (sym q.0) m
          | inr m ↦ elim m [ inl same ↦ absurd (d (sym e ∙ ap (λ (x : Token). x.packet) (sym same))) | inr none ↦ absurd none ]
        ]
      ];
    }

in_without : (n : ℕ) (ks : List Token) (k : Token) → In (without_place n ks) k → In ks k
in_without n [] k i = i
in_without zero (x ∷ xs) k i = inr i
in_without (suc n) (x ∷ xs) k i = elim i [ inl e ↦ inl e | inr m ↦ inr (in_without n xs k m) ]

keeps-taken : (j l : ℕ) (d : Dir) (n : ℕ) (a : Packets) → Keeps j a (taken a l d n)
keeps-taken j l d n a = record {
  verdict = refl;
  path = refl;
  fewer = λ at k i e. elim (in_put a.flying (channel l d) (without_place n (flying_on a l d)) at k i) [
    | inr q ↦ q.1
    | inl q ↦ subst (λ c. In (a.flying c) k) (sym q.0) (in_without n (flying_on a l d) k q.1)
  ];
}

either-way : (j : ℕ) (a : Packets) (b : Bool) (x y : Packets) → Keeps j a x → Keeps j a y → Keeps j a (elim b [ true ↦ x | false ↦ y ])
either-way j a true x y g h = g
either-way j a false x y g h = h

keeps-arrive : (t : Network) (w : World) (j : ℕ) (a : Packets) (k : Token) (y : ℕ) → j ≢ k.packet → Keeps j a (arrive t w a k y)
keeps-arrive t w j a k y d =
    either-way j a (nat_le k.ttl 1) _ _ (keeps-judged j k.packet a (Dropped rule.TtlExpired (record { 0 = y })) d)
    (either-way j a (y == k.edge) _ _
    (either-way j a (is_attachment (w.config.attached k.site) k.attachment) _ _ (keeps-deliver j k.packet a k.site (k.ttl - 1) k.bytes d)
    (keeps-judged j k.packet a (Dropped rule.SiteGone (record { 0 = y })) d))
    (keeps-hop t j a (stamped a (record k { ttl = k.ttl - 1 })) y rule.NoEntry (usable t w.config w.views w.sessions y k.edge) d))

keeps-route : (t : Network) (w : World) (j p : ℕ) (a : Packets) (b : List ℕ) (e : ℕ) (o : Option HeldRoute) → j ≢ p → Keeps j a (route_by t w a p b e o)
keeps-route t w j p a b e None d = keeps-judged j p a (Dropped rule.NoRoute (record { 0 = e })) d
keeps-route t w j p a b e (Some r) d =
    either-way j a (r.edge == e) _ _ (keeps-deliver j p a r.site (ttl_of b - 1) b d)
    (keeps-hop t j a (stamped a (bound p r b)) e rule.NoLsp (usable t w.config w.views w.sessions e r.edge) d)

keeps-enter : (t : Network) (w : World) (j p : ℕ) (a : Packets) (b : List ℕ) (e v : ℕ) (o : Option Rule) → j ≢ p → Keeps j a (enter_by t w a p b e v o)
keeps-enter t w j p a b e v (Some cause) d = keeps-judged j p a (Dropped cause (record { 0 = e })) d
keeps-enter t w j p a b e v None d = keeps-route t w j p a b e (best (eligible t w e v (destination_of b)) (destination_of b)) d

push-before : {A : Type 0} (xs : List A) (x d : A) (j : ℕ) → j < length xs → get_or (xs ++ x ∷ []) j d ≡ get_or xs j d
push-before xs x d j h = grind (arith, common_steps, h)

keeps-more : (j : ℕ) (a : Packets) (e : ℕ) → j < length a.verdicts → j < length a.paths → Keeps j a (one_more a e)
keeps-more j a e h g = record {
  verdict = push-before a.verdicts (Dropped rule.Lost (record { 0 = e })) (Delivered 0 (record { 0 = 0 }) 0) j h;
  path = push-before a.paths (e ∷ []) [] j g;
  fewer = λ at k i f. i;
}

-- 3. The packet itself

channel-is : (l m : ℕ) (d e : Dir) → channel l d ≡ channel m e → (l ≡ m) × (d ≡ e)
channel-is l m Forth Forth h = (omega (arith, h), refl)
channel-is l m Back Back h = (omega (arith, h), refl)
channel-is l m Forth Back h = absurd (odd l m h)
  where
    odd : (l m : ℕ) → 2 * l ≡ 2 * m + 1 → ⊥
    odd l m h = omega (arith, h)
channel-is l m Back Forth h = absurd (odd m l (sym h))
  where
    odd : (l m : ℕ) → 2 * l ≡ 2 * m + 1 → ⊥
    odd l m h = omega (arith, h)

-- a frame sent over a link comes to its other end
comes-across : (t : Network) (l x : ℕ) → receiver (wiring_of t) l (away_from t l x) ≡ across (wiring_of t) l x
comes-across t l x = either ((link (wiring_of t) l).a.0 == x)
  where
    either : (b : Bool) → receiver (wiring_of t) l (if b then Forth else Back) ≡ (if b then (link (wiring_of t) l).b.0 else (link (wiring_of t) l).a.0)
    either true = refl
    either false = refl

in-times : (j : ℕ) (ks : List Token) (k : Token) → In ks k → k.packet ≡ j → 1 ≤ times_in j ks
in-times j [] k i e = absurd i
in-times j (x ∷ xs) k i e = elim i [
  | inl same ↦ omega (arith, ap one_if (ap (λ n. n == j) (ap (λ (y : Token). y.packet) same ∙ e) ∙ same_test j))
  | inr m ↦ omega (arith, in-times j xs k m e)
]
  where
    same_test : (n : ℕ) → (n == n) ≡ true
    same_test n = elim (eqb_tells n n) [ inl q ↦ q.0 | inr q ↦ absurd (q.1 refl) ]

-- what has come true stays true
fate-kept : (f : Fate) (j : ℕ) (a b : Packets) → Keeps j a b → HasFate a j f → HasFate b j f
fate-kept (Arrives s n p) j a b g h = (h.0, g.verdict ∙ h.1, g.path ∙ h.2)
fate-kept (Falls c n p) j a b g h = (g.verdict ∙ h.0, g.path ∙ h.1)

module _ (t : Network) (w : World) (j : ℕ) (r : HeldRoute) (fate : Fate) where
  -- it flies on a channel, and where it comes to a node next its fate is this one
  pub record IsOnTheWay (at : ℕ) (k : Token) (path : List ℕ) : Type 0 where
    pub link : ℕ
    pub dir : Dir
    pub on : at ≡ channel link dir
    pub goes : fate_at t w r (k.ttl - 1) (receiver (wiring_of t) link dir) (path ++ receiver (wiring_of t) link dir ∷ []) ≡ fate
    pub site_is : k.site ≡ r.site
    pub edge_is : k.edge ≡ r.edge
    pub attachment_is : k.attachment ≡ r.attachment

  abbrev pub Flies : Packets → Type 0
  Flies a =
      (l : ℕ) × (d : Dir) × (verdict_on a j ≡ Flying (record { 0 = l }) d)
      × ((at : ℕ) (k : Token) → In (a.flying at) k → k.packet ≡ j → IsOnTheWay at k (path_of a j))

  abbrev pub Travels : Packets → Type 0
  Travels a = HasFate a j fate ⊎ Flies a

  travels-kept : (a b : Packets) → Keeps j a b → Travels a → Travels b
  travels-kept a b g h = elim h [
    | inl c ↦ inl (fate-kept fate j a b g c)
    | inr f ↦ inr (f.0, f.1, g.verdict ∙ f.2, λ at k i e. subst (IsOnTheWay at k) (sym g.path) (f.3 at k (g.fewer at k i e) e))
  ]

  abbrev NoTokens : Packets → Type 0
  NoTokens a = (at : ℕ) (k : Token) → In (a.flying at) k → k.packet ≡ j → ⊥

  -- it is dropped
  falls : (a : Packets) (p : ℕ) (cause : Rule) (node : ℕ) (path : List ℕ) → j < length a.verdicts → p ≡ j → path_of a j ≡ path → Falls cause node path ≡ fate
      → Travels (drop_at a p cause node)
  falls a p cause node path within own path_is is = inl (subst (HasFate (drop_at a p cause node) j) is (
    ap (λ q. slice_index_or (slice_set a.verdicts q (Dropped cause (record { 0 = node }))) j (Delivered 0 (record { 0 = 0 }) 0)) own
        ∙ get_or-set_same a.verdicts j (Dropped cause (record { 0 = node })) (Delivered 0 (record { 0 = 0 }) 0) within,
    path_is,
  ))

  -- it is delivered
  delivers : (a : Packets) (p s n : ℕ) (b : List ℕ) (path : List ℕ) → j < length a.verdicts → p ≡ j → path_of a j ≡ path → Arrives s n path ≡ fate
      → Travels (deliver a p s n b)
  delivers a p s n b path within own path_is is = inl (subst (HasFate (deliver a p s n b) j) is (
    a.copies + 1,
    ap (λ q. slice_index_or (slice_set a.verdicts q (Delivered n (record { 0 = s }) (a.copies + 1))) j (Delivered 0 (record { 0 = 0 }) 0)) own
        ∙ get_or-set_same a.verdicts j (Delivered n (record { 0 = s }) (a.copies + 1)) (Delivered 0 (record { 0 = 0 }) 0) within,
    path_is,
  ))

  -- it leaves a node by its next hop
  hops-off : (a : Packets) (k : Token) (x : ℕ) (hop : ℕ × ℕ) (c : Rule) → j < length a.verdicts → NoTokens a → k.packet ≡ j
      → fate_at t w r (k.ttl - 1) (across (wiring_of t) hop.1 x) (path_of a j ++ across (wiring_of t) hop.1 x ∷ []) ≡ fate
      → k.site ≡ r.site → k.edge ≡ r.edge → k.attachment ≡ r.attachment → Travels (hop_over t a k x c (Some hop))
  hops-off a k x hop c within none own goes s e n =
      let l : ℕ = hop.1 in
      let d : Dir = away_from t l x in
      let ch : ℕ = channel l d in
      inr (
        l,
        d,
        ap (λ p. slice_index_or (slice_set a.verdicts p (Flying (record { 0 = l }) d)) j (Delivered 0 (record { 0 = 0 }) 0)) own
            ∙ get_or-set_same a.verdicts j (Flying (record { 0 = l }) d) (Delivered 0 (record { 0 = 0 }) 0) within,
        λ at tok i f. elim (in_put a.flying ch (a.flying ch ++ k ∷ []) at tok i) [
          | inr q ↦ absurd (none at tok q.1 f)
          | inl q ↦ elim (in_append (a.flying ch) (k ∷ []) tok q.1) [
            | inl m ↦ absurd (none ch tok m f)
            | inr m ↦ elim m [
              | inr empty ↦ absurd empty
              | inl same ↦ subst (λ z. IsOnTheWay at z (path_of a j)) same
                  (record {
                    link = l;
                    dir = d;
                    on = q.0;
                    goes =
                        subst (λ y. fate_at t w r (k.ttl - 1) y (path_of a j ++ y ∷ []) ≡ fate) (sym (comes-across t l x)) goes;
                    site_is = s;
                    edge_is = e;
                    attachment_is = n;
                  })
            ]
          ]
        ],
      )

  -- what is left of its fate at a node, with TTL left there
  abbrev rest_of : ℕ → List ℕ → ℕ → Bool → Fate
  rest_of y path m b = elim b as (λ _. Fate) [
    | true ↦ elim (is_attachment (w.config.attached r.site) r.attachment) as (λ _. Fate) [
      | true ↦ Arrives r.site (suc m) path
      | false ↦ Falls rule.SiteGone y path
    ]
    | false ↦ elim (usable t w.config w.views w.sessions y r.edge) as (λ _. Fate) [
      | None ↦ Falls rule.NoEntry y path
      | Some hop ↦ fate_at t w r m (across (wiring_of t) hop.1 y) (path ++ across (wiring_of t) hop.1 y ∷ [])
    ]
  ]

  -- it comes to a node
  arrives : (a : Packets) (k : Token) (y : ℕ) → j < length a.verdicts → NoTokens a → k.packet ≡ j → fate_at t w r (k.ttl - 1) y (path_of a j) ≡ fate
      → k.site ≡ r.site → k.edge ≡ r.edge → k.attachment ≡ r.attachment → Travels (arrive t w a k y)
  arrives a k y within none own goes s e n = by_left (k.ttl - 1) refl
    where
      passed : (b : Bool) → nat_le k.ttl 1 ≡ b → arrive t w a k y
          ≡ elim b as (λ _. Packets) [
            | true ↦ drop_at a k.packet rule.TtlExpired y
            | false ↦ elim (y == k.edge) as (λ _. Packets) [ true ↦ leave w a k y | false ↦ hop_on t w a (record k { ttl = k.ttl - 1 }) y rule.NoEntry ]
          ]
      passed b h =
          ap (λ b. elim b as (λ _. Packets) [
            | true ↦ drop_at a k.packet rule.TtlExpired y
            | false ↦ elim (y == k.edge) as (λ _. Packets) [ true ↦ leave w a k y | false ↦ hop_on t w a (record k { ttl = k.ttl - 1 }) y rule.NoEntry ]
          ]) h

      few : k.ttl - 1 ≡ 0 → nat_le k.ttl 1 ≡ true
      few z = elim (leb_tells k.ttl 1) [ inl q ↦ q.0 | inr q ↦ absurd (over z q.1) ]
        where
          over : k.ttl - 1 ≡ 0 → 1 < k.ttl → ⊥
          over z h = omega (arith, z, h)

      enough : (m : ℕ) → k.ttl - 1 ≡ suc m → nat_le k.ttl 1 ≡ false
      enough m z = elim (leb_tells k.ttl 1) [ inl q ↦ absurd (over z q.1) | inr q ↦ q.0 ]
        where
          over : k.ttl - 1 ≡ suc m → k.ttl ≤ 1 → ⊥
          over z h = omega (arith, z, h)

      less : (m : ℕ) → k.ttl - 1 ≡ suc m → m ≡ k.ttl - 1 - 1
      less m z = omega (arith, z)

      by_hop : (m : ℕ) → k.ttl - 1 ≡ suc m → (o : Option (ℕ × ℕ)) → usable t w.config w.views w.sessions y k.edge ≡ o
          → elim o as (λ _. Fate) [
            | None ↦ Falls rule.NoEntry y (path_of a j)
            | Some hop ↦ fate_at t w r m (across (wiring_of t) hop.1 y) (path_of a j ++ across (wiring_of t) hop.1 y ∷ [])
          ] ≡ fate
          → Travels (hop_over t a (stamped a (record k { ttl = k.ttl - 1 })) y rule.NoEntry o)
      by_hop m z None h is = falls a k.packet rule.NoEntry y (path_of a j) within own refl is
      by_hop m z (Some hop) h is =
          hops-off a (stamped a (record k { ttl = k.ttl - 1 })) y hop rule.NoEntry within none own
          (subst (λ i. fate_at t w r i (across (wiring_of t) hop.1 y) (path_of a j ++ across (wiring_of t) hop.1 y ∷ []) ≡ fate) (less m z) is) s e n

      by_seat : (m : ℕ) → k.ttl - 1 ≡ suc m → (b : Bool) → is_attachment (w.config.attached k.site) k.attachment ≡ b
          → elim (is_attachment (w.config.attached r.site) r.attachment) as (λ _. Fate) [
            | true ↦ Arrives r.site (suc m) (path_of a j)
            | false ↦ Falls rule.SiteGone y (path_of a j)
          ] ≡ fate
          → Travels (elim b as (λ _. Packets) [ true ↦ deliver a k.packet k.site (k.ttl - 1) k.bytes | false ↦ drop_at a k.packet rule.SiteGone y ])
      by_seat m z b h is = either b (sym (ap (λ i. is_attachment (w.config.attached i) r.attachment) s)
          ∙ ap (is_attachment (w.config.attached k.site)) (sym n) ∙ h)
        where
          either : (b : Bool) → is_attachment (w.config.attached r.site) r.attachment ≡ b
              → Travels (elim b as (λ _. Packets) [ true ↦ deliver a k.packet k.site (k.ttl - 1) k.bytes | false ↦ drop_at a k.packet rule.SiteGone y ])
          either true g =
              delivers a k.packet k.site (k.ttl - 1) k.bytes (path_of a j) within own refl
              (ap (λ i. Arrives i (k.ttl - 1) (path_of a j)) s ∙ ap (λ i. Arrives r.site i (path_of a j)) z
              ∙ sym (ap (λ b. elim b as (λ _. Fate) [ true ↦ Arrives r.site (suc m) (path_of a j) | false ↦ Falls rule.SiteGone y (path_of a j) ]) g) ∙ is)
          either false g =
              falls a k.packet rule.SiteGone y (path_of a j) within own refl
              (sym (ap (λ b. elim b as (λ _. Fate) [ true ↦ Arrives r.site (suc m) (path_of a j) | false ↦ Falls rule.SiteGone y (path_of a j) ]) g) ∙ is)

      by_edge : (m : ℕ) → k.ttl - 1 ≡ suc m → (b : Bool) → (y == k.edge) ≡ b → rest_of y (path_of a j) m b ≡ fate
          → Travels (elim b as (λ _. Packets) [ true ↦ leave w a k y | false ↦ hop_on t w a (record k { ttl = k.ttl - 1 }) y rule.NoEntry ])
      by_edge m z true h is = by_seat m z (is_attachment (w.config.attached k.site) k.attachment) refl is
      by_edge m z false h is =
          by_hop m z (usable t w.config w.views w.sessions y k.edge) refl
          (subst (λ x. elim (usable t w.config w.views w.sessions y x) as (λ _. Fate) [
            | None ↦ Falls rule.NoEntry y (path_of a j)
            | Some hop ↦ fate_at t w r m (across (wiring_of t) hop.1 y) (path_of a j ++ across (wiring_of t) hop.1 y ∷ [])
          ] ≡ fate) (sym e) is)

      by_left : (m : ℕ) → k.ttl - 1 ≡ m → Travels (arrive t w a k y)
      by_left zero z =
          subst Travels (sym (passed true (few z)))
          (falls a k.packet rule.TtlExpired y (path_of a j) within own refl (sym (ap (λ i. fate_at t w r i y (path_of a j)) z) ∙ goes))
      by_left (suc m) z =
          subst Travels (sym (passed false (enough m z)))
          (by_edge m z (y == k.edge) refl
          (ap (rest_of y (path_of a j) m) (ap (λ x. y == x) e) ∙ sym (ap (λ i. fate_at t w r i y (path_of a j)) z) ∙ goes))

  -- 4. A step that moves packets

  not-past : (a : Packets) (count : ℕ) → AreInOnePlace a count → j < count → j < length a.verdicts
  not-past a count one below = subst (λ n. j < n) (sym one.verdicts) below

  -- of a packet that has come no token is left
  none-left : (a : Packets) (count : ℕ) → AreInOnePlace a count → HasFate a j fate → NoTokens a
  none-left a count one come at k i e = absurd (grounded fate come (subst (λ n. 1 ≤ n) (one.places j at) (in-times j (a.flying at) k i e)))
    where
      none : 1 ≤ 0 → ⊥
      none h = omega (arith, h)

      grounded : (f : Fate) → HasFate a j f → 1 ≤ times_by (verdict_on a j) at → ⊥
      grounded (Arrives s n p) c h = none (subst (λ n. 1 ≤ n) (ap (λ v. times_by v at) c.1) h)
      grounded (Falls c n p) d h = none (subst (λ n. 1 ≤ n) (ap (λ v. times_by v at) d.0) h)

  loose-none : (a : Packets) (count : ℕ) → Loose a j count → NoTokens a
  loose-none a count loose at k i e = none (subst (λ n. 1 ≤ n) (loose.none at) (in-times j (a.flying at) k i e))
    where
      none : 1 ≤ 0 → ⊥
      none h = omega (arith, h)

  got-in : (ks : List Token) (n : ℕ) (k : Token) → slice_get ks n ≡ Some k → In ks k
  got-in [] n k h = absurd (no h)
    where
      no : None ≡ Some k → ⊥
      no e = cc
  got-in (x ∷ xs) zero k h = inl (let e : x ≡ k = cc in e)
  got-in (x ∷ xs) (suc n) k h = inr (got-in xs n k h)

  carry-own : (a : Packets) (l : ℕ) (d : Dir) (n count : ℕ) (k : Token) → AreInOnePlace a count → j < count → slice_get (flying_on a l d) n ≡ Some k
      → k.packet ≡ j → IsOnTheWay (channel l d) k (path_of a j)
      → Travels (arrive t w (visited (taken a l d n) k.packet (receiver (wiring_of t) l d)) k (receiver (wiring_of t) l d))
  carry-own a l d n count k one below got own on =
      let y : ℕ = receiver (wiring_of t) l d in
      let same = channel-is l on.link d on.dir on.on in
      let come : receiver (wiring_of t) on.link on.dir ≡ y = sym (ap (λ m. receiver (wiring_of t) m d) same.0 ∙ ap (receiver (wiring_of t) on.link) same.1) in
      let loose : Loose (taken a l d n) j count = subst (λ p. Loose (taken a l d n) p count) own (loosen a (channel l d) n count k one got) in
      let here : path_of (visited (taken a l d n) k.packet y) j ≡ path_of a j ++ y ∷ [] =
      ap (λ p. slice_index_or (slice_set a.paths p (slice_index_or a.paths p [] ++ y ∷ [])) j []) own
      ∙ get_or-set_same a.paths j (slice_index_or a.paths j [] ++ y ∷ []) [] (subst (λ m. j < m) (sym one.paths) below) in
      arrives (visited (taken a l d n) k.packet y) k y (not-past a count one below)
      (loose-none (taken a l d n) count loose) own
      (ap (fate_at t w r (k.ttl - 1) y) here
      ∙ subst (λ x. fate_at t w r (k.ttl - 1) x (path_of a j ++ x ∷ []) ≡ fate) come on.goes)
      on.site_is on.edge_is on.attachment_is

  travels-carried : (a : Packets) (l : ℕ) (d : Dir) (n count : ℕ) (o : Option Token) → AreInOnePlace a count → j < count → slice_get (flying_on a l d) n ≡ o
      → Travels a → Travels (carry t w (taken a l d n) (receiver (wiring_of t) l d) o)
  travels-carried a l d n count None one below got h = travels-kept a (taken a l d n) (keeps-taken j l d n a) h
  travels-carried a l d n count (Some k) one below got h = elim (eqb_tells j k.packet) [
    | inr q ↦ travels-kept a (arrive t w (visited (taken a l d n) k.packet (receiver (wiring_of t) l d)) k (receiver (wiring_of t) l d))
        (keeps-on j a (taken a l d n) _ (keeps-taken j l d n a)
        (keeps-on j (taken a l d n) (visited (taken a l d n) k.packet (receiver (wiring_of t) l d)) _
        (keeps-visited j k.packet (receiver (wiring_of t) l d) (taken a l d n) q.1)
        (keeps-arrive t w j (visited (taken a l d n) k.packet (receiver (wiring_of t) l d)) k (receiver (wiring_of t) l d) q.1))) h
    | inl q ↦ elim h [
      | inl come ↦ absurd (none-left a count one come (channel l d) k (got-in (flying_on a l d) n k got) (sym q.1))
      | inr f ↦ carry-own a l d n count k one below got (sym q.1) (f.3 (channel l d) k (got-in (flying_on a l d) n k got) (sym q.1))
    ]
  ]

  travels-entered : (a : Packets) (s count : ℕ) (b : List ℕ) → AreInOnePlace a count → j < count → Travels a → Travels (enter t w a s b)
  travels-entered a s count b one below h =
      let apart : j ≢ length a.verdicts = λ e. over below (e ∙ one.verdicts) in
      travels-kept a (enter t w a s b)
      (keeps-on j a (one_more a (home_of t s)) _ (keeps-more j a (home_of t s) (not-past a count one below) (subst (λ m. j < m) (sym one.paths) below))
      (keeps-enter t w j (length a.verdicts) (one_more a (home_of t s)) b (home_of t s) (vrf_of t s) (first_rule (entry_rules (w.config.attached s) b)) apart))
      h
    where
      over : j < count → j ≡ count → ⊥
      over x y = omega (arith, x, y)

  begun : (a : Packets) (clock count : ℕ) → AreInOnePlace a count → AreInOnePlace (before_step (record a { clock = clock })) count
  begun a clock count one = record { places = one.places; verdicts = one.verdicts; paths = one.paths }

  travels-step : (a : Packets) (clock : ℕ) (s : Step) (b : List ℕ) (count : ℕ) → moves_packets s ≡ true → AreInOnePlace a count → j < count → Travels a
      → Travels (packets_after t w (timed_by t clock s a) s b)
  unfolding packets_after
  travels-step a clock (Inject s n) b count m one below h =
      travels-entered (before_step (record a { clock = clock })) s.0 count b (begun a clock count one) below h
  travels-step a clock (Carry l d n) b count m one below h =
      travels-carried (before_step (record a { clock = clock })) l.0 d n count (slice_get (flying_on a l.0 d) n) (begun a clock count one) below refl h
  travels-step a clock _ b count m one below h = absurd (clash (sym m))

  travels-on : (es : List JournalEntry) (a : Packets) (count : ℕ) (ps : List (List ℕ)) → list_all (λ entry. moves_packets entry.step) es ≡ true
      → AreInOnePlace a count → j < count → Travels a → Travels (packets_from t w a es ps)
  travels-on [] a count ps m one below h = h
  travels-on (e ∷ es) a count ps m one below h =
      subst (λ v. Travels (packets_from t v (packets_by t v a e (next_of ps)) es (left_by e.step ps))) (sym (still t w e.step (left m)))
      (travels-on es (packets_by t w a e (next_of ps)) (one_if (injects e.step) + count) (left_by e.step ps) (right m)
      (stepped t w (timed t e a) e.step (next_of ps) count (timed_places t e a count one)) (more (one_if (injects e.step)) below)
      (travels-step a (clock_after e) e.step (next_of ps) count (left m) one below h))
    where
      both : (x y : Bool) → (x && y) ≡ true → (x ≡ true) × (y ≡ true)
      both true y e = (refl, e)
      both false y e = absurd (clash (sym e))

      left : list_all (λ entry. moves_packets entry.step) (e ∷ es) ≡ true → moves_packets e.step ≡ true
      left m = (both (moves_packets e.step) (list_all (λ entry. moves_packets entry.step) es) m).0

      right : list_all (λ entry. moves_packets entry.step) (e ∷ es) ≡ true → list_all (λ entry. moves_packets entry.step) es ≡ true
      right m = (both (moves_packets e.step) (list_all (λ entry. moves_packets entry.step) es) m).1

      more : (x : ℕ) → j < count → j < x + count
      more x h = omega (arith, h)

-- 5. From the injection on

pub packets_from-append : (t : Network) (es fs : List JournalEntry) (w : World) (k : Packets) (ps : List (List ℕ))
    → packets_from t w k (es ++ fs) ps ≡ packets_from t (world_from t w es) (packets_from t w k es ps) fs (left_after es ps)
packets_from-append t [] fs w k ps = refl
packets_from-append t (e ∷ es) fs w k ps =
    packets_from-append t es fs (after t w e.step) (packets_by t (after t w e.step) k e (next_of ps)) (left_by e.step ps)

pub world_from-append : (t : Network) (es fs : List JournalEntry) (w : World) → world_from t w (es ++ fs) ≡ world_from t (world_from t w es) fs
world_from-append t [] fs w = refl
world_from-append t (e ∷ es) fs w = world_from-append t es fs (after t w e.step)

still-on : (t : Network) (w : World) (es : List JournalEntry) → list_all (λ entry. moves_packets entry.step) es ≡ true → world_from t w es ≡ w
still-on t w [] m = refl
still-on t w (e ∷ es) m =
    let parts = and_parts (moves_packets e.step) (list_all (λ entry. moves_packets entry.step) es) m in
    ap (λ v. world_from t v es) (still t w e.step parts.0) ∙ still-on t w es parts.1

moves-append : (es fs : List JournalEntry) → list_all (λ entry. moves_packets entry.step) (es ++ fs) ≡ true
    → (list_all (λ entry. moves_packets entry.step) es ≡ true) × (list_all (λ entry. moves_packets entry.step) fs ≡ true)
moves-append [] fs m = (refl, m)
moves-append (e ∷ es) fs m =
    let parts = and_parts (moves_packets e.step) (list_all (λ entry. moves_packets entry.step) (es ++ fs)) m in
    let rest = moves-append es fs parts.1 in
    (ap (λ b. b && list_all (λ entry. moves_packets entry.step) es) parts.0 ∙ rest.0, rest.1)

push-last : {A : Type 0} (xs : List A) (x d : A) (j : ℕ) → j ≡ length xs → get_or (xs ++ x ∷ []) j d ≡ x
push-last xs x d j h = grind (arith, common_steps, h)

-- the packet enters

-- the packet enters
module _ (t : Network) (w : World) (a : Packets) (count s : ℕ) (bytes : List ℕ) (one : AreInOnePlace a count) where
  abbrev Sets : HeldRoute → Fate → Packets → Type 0
  Sets r fate b = Travels t w (length a.verdicts) r fate b

  nowhere : HeldRoute
  nowhere = record { prefix = record { address = 0; length = 0 }; source = Own; edge = 0; site = 0; attachment = 0 }

  first-path : path_of (one_more a (home_of t s)) (length a.verdicts) ≡ home_of t s ∷ []
  first-path = push-last a.paths (home_of t s ∷ []) [] (length a.verdicts) (one.verdicts ∙ sym one.paths)

  no-token : (at : ℕ) (k : Token) → In ((one_more a (home_of t s)).flying at) k → k.packet ≡ length a.verdicts → ⊥
  no-token = loose-none t w (length a.verdicts) nowhere (Falls rule.Lost 0 []) (one_more a (home_of t s)) (1 + count) (fresh a count (home_of t s) one)

  within : length a.verdicts < length (one_more a (home_of t s)).verdicts
  within = (fresh a count (home_of t s) one).within

  drops : (r : HeldRoute) (cause : Rule) →
      Sets r (Falls cause (home_of t s) (home_of t s ∷ [])) (drop_at (one_more a (home_of t s)) (length a.verdicts) cause (home_of t s))
  drops r cause =
      falls t w (length a.verdicts) r (Falls cause (home_of t s) (home_of t s ∷ [])) (one_more a (home_of t s)) (length a.verdicts) cause (home_of t s)
      (home_of t s ∷ []) within refl first-path refl

  by_hop : (r : HeldRoute) (o : Option (ℕ × ℕ)) → Sets r (fate_by_hop t w (home_of t s) (ttl_of bytes) r o)
      (hop_over t (one_more a (home_of t s)) (stamped (one_more a (home_of t s)) (bound (length a.verdicts) r bytes)) (home_of t s) rule.NoLsp o)
  by_hop r None = drops r rule.NoLsp
  by_hop r (Some hop) =
      hops-off t w (length a.verdicts) r (fate_by_hop t w (home_of t s) (ttl_of bytes) r (Some hop)) (one_more a (home_of t s))
      (stamped (one_more a (home_of t s)) (bound (length a.verdicts) r bytes)) (home_of t s) hop rule.NoLsp within no-token refl
      (ap (λ i. fate_at t w r i y (path_of (one_more a (home_of t s)) (length a.verdicts) ++ y ∷ [])) (two (ttl_of bytes))
      ∙ ap (λ xs. fate_at t w r (ttl_of bytes - 2) y (xs ++ y ∷ [])) first-path) refl refl refl
    where
      y : ℕ
      y = across (wiring_of t) hop.1 (home_of t s)

      two : (x : ℕ) → x - 1 - 1 ≡ x - 2
      two x = omega arith

  by_home : (r : HeldRoute) (b : Bool) → Sets r
      (elim b as (λ _. Fate) [
        | true ↦ Arrives r.site (ttl_of bytes - 1) (home_of t s ∷ [])
        | false ↦ fate_by_hop t w (home_of t s) (ttl_of bytes) r (usable t w.config w.views w.sessions (home_of t s) r.edge)
      ])
      (elim b as (λ _. Packets) [
        | true ↦ deliver (one_more a (home_of t s)) (length a.verdicts) r.site (ttl_of bytes - 1) bytes
        | false ↦ hop_on t w (one_more a (home_of t s)) (bound (length a.verdicts) r bytes) (home_of t s) rule.NoLsp
      ])
  by_home r true =
      delivers t w (length a.verdicts) r (Arrives r.site (ttl_of bytes - 1) (home_of t s ∷ [])) (one_more a (home_of t s)) (length a.verdicts) r.site
      (ttl_of bytes - 1) bytes (home_of t s ∷ []) within refl first-path refl
  by_home r false = by_hop r (usable t w.config w.views w.sessions (home_of t s) r.edge)

  by_best : (o : Option HeldRoute) → (r : HeldRoute) × Sets r (fate_by_route t w (home_of t s) (ttl_of bytes) o)
      (route_by t w (one_more a (home_of t s)) (length a.verdicts) bytes (home_of t s) o)
  by_best None = (nowhere, drops nowhere rule.NoRoute)
  by_best (Some r) = (r, by_home r (r.edge == home_of t s))

  by_rule : (o : Option Rule) → (r : HeldRoute) × Sets r (fate_by t w s bytes o)
      (enter_by t w (one_more a (home_of t s)) (length a.verdicts) bytes (home_of t s) (vrf_of t s) o)
  by_rule (Some cause) = (nowhere, drops nowhere cause)
  by_rule None = by_best (best (eligible t w (home_of t s) (vrf_of t s) (destination_of bytes)) (destination_of bytes))

  sent : (r : HeldRoute) × Sets r (fate_of t w s bytes) (enter t w a s bytes)
  sent = by_rule (first_rule (entry_rules (w.config.attached s) bytes))

-- in the end it has come true, where nothing flies any more
come-in-the-end : (t : Network) (w : World) (j : ℕ) (r : HeldRoute) (fate : Fate) (a : Packets) (count : ℕ) → AreInOnePlace a count
    → ((at : ℕ) → a.flying at ≡ []) → Travels t w j r fate a → HasFate a j fate
come-in-the-end t w j r fate a count one none h = elim h [
  | inl c ↦ c
  | inr f ↦ absurd (not_none (one.places j (channel f.0 f.1)) (ap (times_in j) (none (channel f.0 f.1)))
      (ap (λ v. times_by v (channel f.0 f.1)) f.2 ∙ ap one_if (same (channel f.0 f.1))))
]
  where
    same : (n : ℕ) → (n == n) ≡ true
    same n = elim (eqb_tells n n) [ inl q ↦ q.0 | inr q ↦ absurd (q.1 refl) ]

    not_none : {x y : ℕ} → x ≡ y → x ≡ 0 → y ≡ 1 → ⊥
    not_none e f g = omega (arith, e, f, g)

pub what_becomes : (t : Network) (before earlier later : List JournalEntry) (tick number : ℕ) (mark : Damaged) (site : SiteNo) (ps : List (List ℕ))
    → list_all (λ entry. moves_packets entry.step) (earlier ++ record { tick = tick; step = Inject site number; damaged = mark } ∷ later) ≡ true
    → ((at : ℕ) → (packets_of t ((before ++ earlier) ++ record { tick = tick; step = Inject site number; damaged = mark } ∷ later) ps).flying at ≡ [])
    → HasFate (packets_of t ((before ++ earlier) ++ record { tick = tick; step = Inject site number; damaged = mark } ∷ later) ps)
    (injections (before ++ earlier)) (fate_of t (world_of t before) site.0 (next_of (left_after (before ++ earlier) ps)))
unfolding packets_after
what_becomes t before earlier later tick number mark site ps moving none =
    let w : World = world_of t before in
    let entry : JournalEntry = record { tick = tick; step = Inject site number; damaged = mark } in
    let done : List JournalEntry = before ++ earlier in
    let k : Packets = packets_of t done ps in
    let bytes : List ℕ = next_of (left_after done ps) in
    let all : List JournalEntry = done ++ entry ∷ later in
    let parts = moves-append earlier (entry ∷ later) moving in
    let world_then : world_of t done ≡ w = world_from-append t before earlier (start t) ∙ still-on t w earlier parts.0 in
    let one : AreInOnePlace k (injections done) = in_one_place t done ps in
    let now : Packets = timed t entry k in
    let a : Packets = packets_by t w k entry bytes in
    let j : ℕ = length k.verdicts in
    let fate : Fate = fate_of t w site.0 bytes in
    let one_a : AreInOnePlace a (1 + injections done) =
    stepped t w now (Inject site number) bytes (injections done) (timed_places t entry k (injections done) one) in
    let first = sent t w (before_step now) (injections done) site.0 bytes (unmarked now (injections done) (timed_places t entry k (injections done) one)) in
    let last = travels-on t w j first.0 fate later a (1 + injections done)
    (left_by (Inject site number) (left_after done ps)) parts.1 one_a (next_number one.verdicts) first.1 in
    let whole : packets_of t all ps ≡ packets_from t w a later (left_by (Inject site number) (left_after done ps)) =
    packets_from-append t done (entry ∷ later) (start t) no_packets ps
    ∙ ap (λ v. packets_from t v k (entry ∷ later) (left_after done ps)) world_then
    ∙ ap (λ v. packets_from t v (packets_by t v k entry bytes) later (left_by (Inject site number) (left_after done ps)))
    (still t w (Inject site number) refl) in
    subst (λ n. HasFate (packets_of t all ps) n fate) one.verdicts
    (come-in-the-end t w j first.0 fate (packets_of t all ps) (injections all) (in_one_place t all ps) none
    (subst (Travels t w j first.0 fate) (sym whole) last))
  where
    next_number : {x y : ℕ} → x ≡ y → x < 1 + y
    next_number h = omega (arith, h)
