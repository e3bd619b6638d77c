-- A packet that is sent in a settled network, and carried on, arrives.
use Rattle.mn_topo.specs.declared.steps.Damaged.{Damaged}
use Rattle.std.proofs.Common.{ℕ, zero, suc, ◌≡◌, ◌≢◌, ◌+◌, ◌-◌, ◌*◌, ◌<◌, ◌≤◌, ◌⊎◌, inl, inr, Bool, true, false, List, [], ◌∷◌, ◌++◌, length, get_or, refl}
use Rattle.std.proofs.Common.{arith, sym, ◌∙◌, ap, subst, Option, None, Some}
use Rattle.std.specs.Prelude.{◌==◌, ◌&&◌, ◌||◌, nat_lt, nat_le, slice_get, slice_index_or, slice_set, if◌then◌else◌}
use Rattle.std.specs.List.{list_all, range_with_len}
use Rattle.std.proofs.lemmas.Bool.Decides.{eqb_tells, leb_tells}
use Rattle.std.proofs.lemmas.List.{length_push, length-append, get_or-set_same, get_or-set_other, append_assoc}
use Rattle.std.proofs.lemmas.Grind.{common_steps}
use Rattle.mn_drops.specs.declared.drops.Rule.{Rule}
use Rattle.mn_drops.specs.declared.drops.Rule.TheVariants as rule
use Rattle.mn_wiring.specs.declared.links.Dir.{Dir}
use Rattle.mn_wiring.specs.declared.links.Dir.TheVariants.{Forth, Back}
use Rattle.mn_wiring.specs.Wiring.{link, across, receiver}
use Rattle.mn_ipv4.specs.Header.{ttl_of, destination_of}
use Rattle.mn_topo.specs.Network.{Network, wiring_of}
use Rattle.mn_topo.specs.declared.steps.Step.{Step}
use Rattle.mn_topo.specs.declared.steps.Step.TheVariants.{Inject, Carry}
use Rattle.mn_topo.specs.declared.steps.JournalEntry.{JournalEntry}
use Rattle.mn_ledger.specs.declared.verdict.Verdict.{Verdict}
use Rattle.mn_ledger.specs.declared.verdict.Verdict.TheVariants.{Delivered, Dropped, Flying}
use Rattle.mn_ledger.specs.Entry.{first_rule}
use Rattle.mn_ledger.specs.Tables.{put}
use Rattle.mn_ledger.specs.Places.{home_of, vrf_of, edges}
use Rattle.mn_ledger.specs.World.{World}
use Rattle.mn_ledger.specs.Transport.{usable, sessions_after}
use Rattle.mn_ledger.specs.Bgp.{peerings_after}
use Rattle.mn_ledger.specs.Held.{HeldRoute, best}
use Rattle.mn_ledger.specs.Eligible.{eligible}
use Rattle.mn_ledger.specs.Packets.{Token, Packets, channel, flying_on, away_from, judged, drop_at, visited, deliver, hop_over, hop_on, entry_rules, bound}
use Rattle.mn_ledger.specs.Packets.{route_by, enter_by, enter, one_more, without_place, taken, is_attachment, leave, arrive, carry, before_step, packets_after}
use Rattle.mn_ledger.specs.Verdicts.{one_if, injections, times_in, times_by, verdict_on, AreInOnePlace}
use Rattle.mn_ledger.specs.Settled.{moves_packets, IsSteady}
use Rattle.mn_ledger.specs.Lawful.{IsLawfulFrom, IsLawfulJournal}
use Rattle.mn_topo.specs.Lawful.{IsLawful, is_vrf_of}
use Rattle.mn_topo.specs.VrfTable.{is_edge}
use Rattle.mn_topo.specs.declared.vrfs.VrfDef.{VrfDef}
use Rattle.mn_topo.specs.declared.sites.SiteDef.{SiteDef}
use Rattle.mn_ledger.proofs.InTurn.{in_turn}
use Rattle.mn_settled_laws.proofs.Mapped.{range_in}
use Rattle.mn_settled_laws.proofs.Holding.{all-tell, best-attached}
use Rattle.mn_base.specs.declared.numbers.SiteNo.{SiteNo}
use Rattle.mn_base.proofs.Bools.{and_parts, clash, less_tells}
use Rattle.mn_ledger.specs.Ledger.{after, start, no_packets, next_of, left_by, injects, world_from, world_of, packets_from, packets_of, packets_by}
use Rattle.mn_ledger.proofs.Members.{In, in_append, in_filter, filter_in, in_range}
use Rattle.mn_ledger.proofs.GoingBy.{put_here, put_off}
use Rattle.mn_ledger.proofs.OnePlace.{Loose, loosen, fresh, unmarked, stepped, in_one_place, timed_places}
use Rattle.mn_settled_laws.specs.Ways.{Reaches}
use Rattle.mn_settled_laws.specs.Arrival.{GoesBy, IsAddressed, HasArrived, left_after, route_to}
use Rattle.mn_settled_laws.proofs.Ways.{know_the_ways}
use Rattle.mn_settled_laws.proofs.Route.{route_is}
use Rattle.mn_ledger.specs.Time.{clock_after, timed, timed_by}
use Rattle.mn_ledger.specs.Packets.{stamped}

abbrev pub path_of : Packets → ℕ → List ℕ
path_of k j = slice_index_or k.paths j []

-- 1. Steps that only move packets leave the world as it is

pub still : (t : Network) (w : World) (s : Step) → moves_packets s ≡ true → after t w s ≡ w
unfolding sessions_after peerings_after
still t w (Inject s n) h = refl
still t w (Carry l d n) h = refl
still t w _ h = absurd (clash (sym h))

-- 2. What is done with another packet

-- of the packet the verdict and the path are as before, and none of its tokens is new
pub record Keeps (j : ℕ) (a b : Packets) : Type 0 where
  pub verdict : verdict_on b j ≡ verdict_on a j
  pub path : path_of b j ≡ path_of a j
  pub fewer : (at : ℕ) (k : Token) → In (b.flying at) k → k.packet ≡ j → In (a.flying at) k

keeps-on : (j : ℕ) (a b c : Packets) → Keeps j a b → Keeps j b c → Keeps j a c
keeps-on j a b c f g = record { verdict = g.verdict ∙ f.verdict; path = g.path ∙ f.path; fewer = λ at k i e. f.fewer at k (g.fewer at k i e) e }

keeps-judged : (j p : ℕ) (a : Packets) (v : Verdict) → j ≢ p → Keeps j a (judged a p v)
keeps-judged j p a v d = record { verdict = get_or-set_other a.verdicts p j v (Delivered 0 (record { 0 = 0 }) 0) d; path = refl; fewer = λ at k i e. i }

keeps-deliver : (j p : ℕ) (a : Packets) (s ttl : ℕ) (b : List ℕ) → j ≢ p → Keeps j a (deliver a p s ttl b)
keeps-deliver j p a s ttl b d =
    let g = keeps-judged j p a (Delivered ttl (record { 0 = s }) (a.copies + 1)) d in record { verdict = g.verdict; path = g.path; fewer = g.fewer }

keeps-visited : (j p n : ℕ) (a : Packets) → j ≢ p → Keeps j a (visited a p n)
keeps-visited j p n a d = record { verdict = refl; path = get_or-set_other a.paths p j (slice_index_or a.paths p [] ++ n ∷ []) [] d; fewer = λ at k i e. i }

in_put : (f : ℕ → List Token) (c : ℕ) (ks : List Token) (at : ℕ) (k : Token) → In (put f c ks at) k → ((at ≡ c) × In ks k) ⊎ ((at ≢ c) × In (f at) k)
in_put f c ks at k i = elim (eqb_tells at c) [
  | inl q ↦ inl (q.1, subst (λ xs. In xs k) (ap (put f c ks) q.1 ∙ put_here f c ks) i)
  | inr q ↦ inr (q.1, subst (λ xs. In xs k) (put_off f c ks at q.1) i)
]

keeps-hop : (t : Network) (j : ℕ) (a : Packets) (k : Token) (x : ℕ) (r : Rule) (o : Option (ℕ × ℕ)) → j ≢ k.packet → Keeps j a (hop_over t a k x r o)
keeps-hop t j a k x r None d = keeps-judged j k.packet a (Dropped r (record { 0 = x })) d
keeps-hop t j a k x r (Some h) d =
    let g = keeps-judged j k.packet a (Flying (record { 0 = h.1 }) (away_from t h.1 x)) d in
    let c : ℕ = channel h.1 (away_from t h.1 x) in
    record {
      verdict = g.verdict;
      path = g.path;
      fewer = λ at tok i e. elim (in_put a.flying c (a.flying c ++ k ∷ []) at tok i) [
        | inr q ↦ q.1
        | inl q ↦ elim (in_append (a.flying c) (k ∷ []) tok q.1) [
          | inl m ↦ subst (λ n. In (a.flying n) tok) (sym q.0) m
          | inr m ↦ elim m [ inl same ↦ absurd (d (sym e ∙ ap (λ (x : Token). x.packet) (sym same))) | inr none ↦ absurd none ]
        ]
      ];
    }

in_without : (n : ℕ) (ks : List Token) (k : Token) → In (without_place n ks) k → In ks k
in_without n [] k i = i
in_without zero (x ∷ xs) k i = inr i
in_without (suc n) (x ∷ xs) k i = elim i [ inl e ↦ inl e | inr m ↦ inr (in_without n xs k m) ]

keeps-taken : (j l : ℕ) (d : Dir) (n : ℕ) (a : Packets) → Keeps j a (taken a l d n)
keeps-taken j l d n a = record {
  verdict = refl;
  path = refl;
  fewer = λ at k i e. elim (in_put a.flying (channel l d) (without_place n (flying_on a l d)) at k i) [
    | inr q ↦ q.1
    | inl q ↦ subst (λ c. In (a.flying c) k) (sym q.0) (in_without n (flying_on a l d) k q.1)
  ];
}

either-way : (j : ℕ) (a : Packets) (b : Bool) (x y : Packets) → Keeps j a x → Keeps j a y → Keeps j a (elim b [ true ↦ x | false ↦ y ])
either-way j a true x y g h = g
either-way j a false x y g h = h

keeps-arrive : (t : Network) (w : World) (j : ℕ) (a : Packets) (k : Token) (y : ℕ) → j ≢ k.packet → Keeps j a (arrive t w a k y)
keeps-arrive t w j a k y d =
    either-way j a (nat_le k.ttl 1) _ _ (keeps-judged j k.packet a (Dropped rule.TtlExpired (record { 0 = y })) d)
    (either-way j a (y == k.edge) _ _
    (either-way j a (is_attachment (w.config.attached k.site) k.attachment) _ _ (keeps-deliver j k.packet a k.site (k.ttl - 1) k.bytes d)
    (keeps-judged j k.packet a (Dropped rule.SiteGone (record { 0 = y })) d))
    (keeps-hop t j a (stamped a (record k { ttl = k.ttl - 1 })) y rule.NoEntry (usable t w.config w.views w.sessions y k.edge) d))

keeps-route : (t : Network) (w : World) (j p : ℕ) (a : Packets) (b : List ℕ) (e : ℕ) (o : Option HeldRoute) → j ≢ p → Keeps j a (route_by t w a p b e o)
keeps-route t w j p a b e None d = keeps-judged j p a (Dropped rule.NoRoute (record { 0 = e })) d
keeps-route t w j p a b e (Some r) d =
    either-way j a (r.edge == e) _ _ (keeps-deliver j p a r.site (ttl_of b - 1) b d)
    (keeps-hop t j a (stamped a (bound p r b)) e rule.NoLsp (usable t w.config w.views w.sessions e r.edge) d)

keeps-enter : (t : Network) (w : World) (j p : ℕ) (a : Packets) (b : List ℕ) (e v : ℕ) (o : Option Rule) → j ≢ p → Keeps j a (enter_by t w a p b e v o)
keeps-enter t w j p a b e v (Some cause) d = keeps-judged j p a (Dropped cause (record { 0 = e })) d
keeps-enter t w j p a b e v None d = keeps-route t w j p a b e (best (eligible t w e v (destination_of b)) (destination_of b)) d

push-before : {A : Type 0} (xs : List A) (x d : A) (j : ℕ) → j < length xs → get_or (xs ++ x ∷ []) j d ≡ get_or xs j d
push-before xs x d j h = grind (arith, common_steps, h)

keeps-more : (j : ℕ) (a : Packets) (e : ℕ) → j < length a.verdicts → j < length a.paths → Keeps j a (one_more a e)
keeps-more j a e h g = record {
  verdict = push-before a.verdicts (Dropped rule.Lost (record { 0 = e })) (Delivered 0 (record { 0 = 0 }) 0) j h;
  path = push-before a.paths (e ∷ []) [] j g;
  fewer = λ at k i f. i;
}

-- 3. The packet itself

channel-is : (l m : ℕ) (d e : Dir) → channel l d ≡ channel m e → (l ≡ m) × (d ≡ e)
channel-is l m Forth Forth h = (omega (arith, h), refl)
channel-is l m Back Back h = (omega (arith, h), refl)
channel-is l m Forth Back h = absurd (odd l m h)
  where
    odd : (l m : ℕ) → 2 * l ≡ 2 * m + 1 → ⊥
    odd l m h = omega (arith, h)
channel-is l m Back Forth h = absurd (odd m l (sym h))
  where
    odd : (l m : ℕ) → 2 * l ≡ 2 * m + 1 → ⊥
    odd l m h = omega (arith, h)

-- a frame sent over a link comes to its other end
comes-across : (t : Network) (l x : ℕ) → receiver (wiring_of t) l (away_from t l x) ≡ across (wiring_of t) l x
comes-across t l x = either ((link (wiring_of t) l).a.0 == x)
  where
    either : (b : Bool) → receiver (wiring_of t) l (if b then Forth else Back) ≡ (if b then (link (wiring_of t) l).b.0 else (link (wiring_of t) l).a.0)
    either true = refl
    either false = refl

in-times : (j : ℕ) (ks : List Token) (k : Token) → In ks k → k.packet ≡ j → 1 ≤ times_in j ks
in-times j [] k i e = absurd i
in-times j (x ∷ xs) k i e = elim i [
  | inl same ↦ omega (arith, ap one_if (ap (λ n. n == j) (ap (λ (y : Token). y.packet) same ∙ e) ∙ same_test j))
  | inr m ↦ omega (arith, in-times j xs k m e)
]
  where
    same_test : (n : ℕ) → (n == n) ≡ true
    same_test n = elim (eqb_tells n n) [ inl q ↦ q.0 | inr q ↦ absurd (q.1 refl) ]

module _ (t : Network) (w : World) (j site edge attachment ttl : ℕ) (whole : List ℕ) (attached : w.config.attached site ≡ Some attachment)
    (long : length whole + 1 ≤ ttl) where
  -- it flies on a channel to the next node of what is left of its route, with the TTL that is left
  pub record IsOnTheWay (at : ℕ) (k : Token) (path : List ℕ) : Type 0 where
    pub to : ℕ
    pub hops : List ℕ
    pub link : ℕ
    pub dir : Dir
    pub on : at ≡ channel link dir
    pub comes : receiver (wiring_of t) link dir ≡ to
    pub route : path ++ to ∷ hops ≡ whole
    pub goes : GoesBy t w hops to edge
    pub site_is : k.site ≡ site
    pub edge_is : k.edge ≡ edge
    pub attachment_is : k.attachment ≡ attachment
    pub ttl_is : k.ttl + length path ≡ ttl

  abbrev pub HasCome : Packets → Type 0
  HasCome a = (copy : ℕ) × (verdict_on a j ≡ Delivered (ttl - length whole) (record { 0 = site }) copy) × (path_of a j ≡ whole)

  abbrev pub Flies : Packets → Type 0
  Flies a =
      (l : ℕ) × (d : Dir) × (verdict_on a j ≡ Flying (record { 0 = l }) d)
      × ((at : ℕ) (k : Token) → In (a.flying at) k → k.packet ≡ j → IsOnTheWay at k (path_of a j))

  abbrev pub Travels : Packets → Type 0
  Travels a = HasCome a ⊎ Flies a

  travels-kept : (a b : Packets) → Keeps j a b → Travels a → Travels b
  travels-kept a b g h = elim h [
    | inl c ↦ inl (c.0, g.verdict ∙ c.1, g.path ∙ c.2)
    | inr f ↦ inr (f.0, f.1, g.verdict ∙ f.2, λ at k i e. subst (IsOnTheWay at k) (sym g.path) (f.3 at k (g.fewer at k i e) e))
  ]

  abbrev NoTokens : Packets → Type 0
  NoTokens a = (at : ℕ) (k : Token) → In (a.flying at) k → k.packet ≡ j → ⊥

  -- it leaves a node by its next hop
  hops-off : (a : Packets) (k : Token) (x y : ℕ) (hops : List ℕ) (l : ℕ) (r : Rule) → j < length a.verdicts → NoTokens a → k.packet ≡ j
      → path_of a j ++ y ∷ hops ≡ whole → y ≡ across (wiring_of t) l x → GoesBy t w hops y edge
      → k.site ≡ site → k.edge ≡ edge → k.attachment ≡ attachment → k.ttl + length (path_of a j) ≡ ttl → Travels (hop_over t a k x r (Some (y, l)))
  hops-off a k x y hops l r within none own route far goes s e n ttl_is =
      let d : Dir = away_from t l x in
      let c : ℕ = channel l d in
      inr (
        l,
        d,
        ap (λ p. slice_index_or (slice_set a.verdicts p (Flying (record { 0 = l }) d)) j (Delivered 0 (record { 0 = 0 }) 0)) own
            ∙ get_or-set_same a.verdicts j (Flying (record { 0 = l }) d) (Delivered 0 (record { 0 = 0 }) 0) within,
        λ at tok i f. elim (in_put a.flying c (a.flying c ++ k ∷ []) at tok i) [
          | inr q ↦ absurd (none at tok q.1 f)
          | inl q ↦ elim (in_append (a.flying c) (k ∷ []) tok q.1) [
            | inl m ↦ absurd (none c tok m f)
            | inr m ↦ elim m [
              | inr empty ↦ absurd empty
              | inl same ↦ subst (λ z. IsOnTheWay at z (path_of a j)) same
                  (record {
                    to = y;
                    hops = hops;
                    link = l;
                    dir = d;
                    on = q.0;
                    comes = comes-across t l x
                        ∙ sym far;
                    route = route;
                    goes = goes;
                    site_is = s;
                    edge_is = e;
                    attachment_is = n;
                    ttl_is = ttl_is;
                  })
            ]
          ]
        ],
      )

  delivers : (a : Packets) (p s n : ℕ) (b : List ℕ) → j < length a.verdicts → p ≡ j → s ≡ site → n ≡ ttl - length whole → path_of a j ≡ whole
      → Travels (deliver a p s n b)
  delivers a p s n b within own s_is n_is path = inl (
    a.copies + 1,
    ap (λ q. slice_index_or (slice_set a.verdicts q (Delivered n (record { 0 = s }) (a.copies + 1))) j (Delivered 0 (record { 0 = 0 }) 0)) own
        ∙ get_or-set_same a.verdicts j (Delivered n (record { 0 = s }) (a.copies + 1)) (Delivered 0 (record { 0 = 0 }) 0) within
        ∙ ap (λ q. Delivered n (record { 0 = q }) (a.copies + 1)) s_is ∙ ap (λ q. Delivered q (record { 0 = site }) (a.copies + 1)) n_is,
    path,
  )

  -- with TTL left it leaves the network at its edge, and goes on elsewhere
  passes : (a : Packets) (k : Token) (y : ℕ) (here : Bool) → nat_le k.ttl 1 ≡ false → (y == k.edge) ≡ here → arrive t w a k y
      ≡ (elim here as (λ _. Packets) [ true ↦ leave w a k y | false ↦ hop_on t w a (record k { ttl = k.ttl - 1 }) y rule.NoEntry ])
  passes a k y here enough at =
      ap (λ b. elim b as (λ _. Packets) [
        | true ↦ drop_at a k.packet rule.TtlExpired y
        | false ↦ elim (y == k.edge) as (λ _. Packets) [ true ↦ leave w a k y | false ↦ hop_on t w a (record k { ttl = k.ttl - 1 }) y rule.NoEntry ]
      ])
      enough
      ∙ ap (λ b. elim b as (λ _. Packets) [ true ↦ leave w a k y | false ↦ hop_on t w a (record k { ttl = k.ttl - 1 }) y rule.NoEntry ]) at

  -- it comes to a node: there it leaves the network, or goes on
  arrives : (a : Packets) (k : Token) (y : ℕ) (hops : List ℕ) → j < length a.verdicts → NoTokens a → k.packet ≡ j → (before : List ℕ)
      → path_of a j ≡ before ++ y ∷ [] → before ++ y ∷ hops ≡ whole → GoesBy t w hops y edge
      → k.site ≡ site → k.edge ≡ edge → k.attachment ≡ attachment → k.ttl + length before ≡ ttl → Travels (arrive t w a k y)
  arrives a k y [] within none own before path route goes s e n ttl_is =
      subst Travels (sym is) (delivers a k.packet k.site (k.ttl - 1) k.bytes within own s last (path ∙ route))
    where
      total : length whole ≡ length before + 1
      total = sym (ap length route) ∙ length_push before y

      last : k.ttl - 1 ≡ ttl - length whole
      last = omega (arith, total, ttl_is)

      enough : nat_le k.ttl 1 ≡ false
      enough = elim (leb_tells k.ttl 1) [ inl q ↦ absurd (few total ttl_is long q.1) | inr q ↦ q.0 ]
        where
          few : length whole ≡ length before + 1 → k.ttl + length before ≡ ttl → length whole + 1 ≤ ttl → k.ttl ≤ 1 → ⊥
          few x y z u = omega (arith, x, y, z, u)

      at_edge : (y == k.edge) ≡ true
      at_edge = elim (eqb_tells y k.edge) [ inl q ↦ q.0 | inr q ↦ absurd (q.1 (goes ∙ sym e)) ]

      there : is_attachment (w.config.attached k.site) k.attachment ≡ true
      there =
          ap (λ o. is_attachment o k.attachment) (ap w.config.attached s ∙ attached) ∙ ap (λ m. attachment == m) n
          ∙ elim (eqb_tells attachment attachment) [ inl q ↦ q.0 | inr q ↦ absurd (q.1 refl) ]

      is : arrive t w a k y ≡ deliver a k.packet k.site (k.ttl - 1) k.bytes
      is =
          passes a k y true enough at_edge
          ∙ ap (λ b. elim b as (λ _. Packets) [ true ↦ deliver a k.packet k.site (k.ttl - 1) k.bytes | false ↦ drop_at a k.packet rule.SiteGone y ]) there
  arrives a k y (z ∷ hops) within none own before path route goes s e n ttl_is =
      subst Travels (sym is)
      (hops-off a (stamped a (record k { ttl = k.ttl - 1 })) y z hops goes.1 rule.NoEntry within none own
      (ap (λ xs. xs ++ z ∷ hops) path ∙ append_assoc before (y ∷ []) (z ∷ hops) ∙ route) goes.3 goes.4 s e n less)
    where
      total : length whole ≡ length before + (1 + (1 + length hops))
      total = sym (ap length route) ∙ length-append before (y ∷ z ∷ hops) ∙ omega arith

      enough : nat_le k.ttl 1 ≡ false
      enough = elim (leb_tells k.ttl 1) [ inl q ↦ absurd (few total ttl_is long q.1) | inr q ↦ q.0 ]
        where
          few : length whole ≡ length before + (1 + (1 + length hops)) → k.ttl + length before ≡ ttl → length whole + 1 ≤ ttl → k.ttl ≤ 1 → ⊥
          few x y z u = omega (arith, x, y, z, u)

      less : k.ttl - 1 + length (path_of a j) ≡ ttl
      less = omega (arith, total, ttl_is, long, ap length path ∙ length_push before y)

      past : (y == k.edge) ≡ false
      past = elim (eqb_tells y k.edge) [ inl q ↦ absurd (goes.0 (q.1 ∙ e)) | inr q ↦ q.0 ]

      is : arrive t w a k y ≡ hop_over t a (stamped a (record k { ttl = k.ttl - 1 })) y rule.NoEntry (Some (z, goes.1))
      is =
          passes a k y false enough past
          ∙ ap (hop_over t a (stamped a (record k { ttl = k.ttl - 1 })) y rule.NoEntry) (ap (usable t w.config w.views w.sessions y) e ∙ goes.2)

  -- 4. A step that moves packets

  not-past : (a : Packets) (count : ℕ) → AreInOnePlace a count → j < count → j < length a.verdicts
  not-past a count one below = subst (λ n. j < n) (sym one.verdicts) below

  -- of a packet that has come no token is left
  none-left : (a : Packets) (count : ℕ) → AreInOnePlace a count → HasCome a → NoTokens a
  none-left a count one come at k i e = absurd (none (subst (λ n. 1 ≤ n) (one.places j at ∙ ap (λ v. times_by v at) come.1) (in-times j (a.flying at) k i e)))
    where
      none : 1 ≤ 0 → ⊥
      none h = omega (arith, h)

  loose-none : (a : Packets) (count : ℕ) → Loose a j count → NoTokens a
  loose-none a count loose at k i e = none (subst (λ n. 1 ≤ n) (loose.none at) (in-times j (a.flying at) k i e))
    where
      none : 1 ≤ 0 → ⊥
      none h = omega (arith, h)

  got-in : (ks : List Token) (n : ℕ) (k : Token) → slice_get ks n ≡ Some k → In ks k
  got-in [] n k h = absurd (no h)
    where
      no : None ≡ Some k → ⊥
      no e = cc
  got-in (x ∷ xs) zero k h = inl (let e : x ≡ k = cc in e)
  got-in (x ∷ xs) (suc n) k h = inr (got-in xs n k h)

  carry-own : (a : Packets) (l : ℕ) (d : Dir) (n count : ℕ) (k : Token) → AreInOnePlace a count → j < count → slice_get (flying_on a l d) n ≡ Some k
      → k.packet ≡ j → IsOnTheWay (channel l d) k (path_of a j)
      → Travels (arrive t w (visited (taken a l d n) k.packet (receiver (wiring_of t) l d)) k (receiver (wiring_of t) l d))
  carry-own a l d n count k one below got own on =
      let same = channel-is l on.link d on.dir on.on in
      let come : receiver (wiring_of t) l d ≡ on.to = ap (λ m. receiver (wiring_of t) m d) same.0 ∙ ap (receiver (wiring_of t) on.link) same.1 ∙ on.comes in
      let loose : Loose (taken a l d n) j count = subst (λ p. Loose (taken a l d n) p count) own (loosen a (channel l d) n count k one got) in
      let here : path_of (visited (taken a l d n) k.packet (receiver (wiring_of t) l d)) j ≡ path_of a j ++ receiver (wiring_of t) l d ∷ [] =
      ap (λ p. slice_index_or (slice_set a.paths p (slice_index_or a.paths p [] ++ receiver (wiring_of t) l d ∷ [])) j []) own
      ∙ get_or-set_same a.paths j (slice_index_or a.paths j [] ++ receiver (wiring_of t) l d ∷ []) [] (subst (λ m. j < m) (sym one.paths) below) in
      arrives (visited (taken a l d n) k.packet (receiver (wiring_of t) l d)) k (receiver (wiring_of t) l d) on.hops (not-past a count one below)
      (loose-none (taken a l d n) count loose) own (path_of a j) here
      (subst (λ y. path_of a j ++ y ∷ on.hops ≡ whole) (sym come) on.route)
      (subst (λ y. GoesBy t w on.hops y edge) (sym come) on.goes) on.site_is on.edge_is on.attachment_is on.ttl_is

  travels-carried : (a : Packets) (l : ℕ) (d : Dir) (n count : ℕ) (o : Option Token) → AreInOnePlace a count → j < count → slice_get (flying_on a l d) n ≡ o
      → Travels a → Travels (carry t w (taken a l d n) (receiver (wiring_of t) l d) o)
  travels-carried a l d n count None one below got h = travels-kept a (taken a l d n) (keeps-taken j l d n a) h
  travels-carried a l d n count (Some k) one below got h = elim (eqb_tells j k.packet) [
    | inr q ↦ travels-kept a (arrive t w (visited (taken a l d n) k.packet (receiver (wiring_of t) l d)) k (receiver (wiring_of t) l d))
        (keeps-on j a (taken a l d n) _ (keeps-taken j l d n a)
        (keeps-on j (taken a l d n) (visited (taken a l d n) k.packet (receiver (wiring_of t) l d)) _
        (keeps-visited j k.packet (receiver (wiring_of t) l d) (taken a l d n) q.1)
        (keeps-arrive t w j (visited (taken a l d n) k.packet (receiver (wiring_of t) l d)) k (receiver (wiring_of t) l d) q.1))) h
    | inl q ↦ elim h [
      | inl come ↦ absurd (none-left a count one come (channel l d) k (got-in (flying_on a l d) n k got) (sym q.1))
      | inr f ↦ carry-own a l d n count k one below got (sym q.1) (f.3 (channel l d) k (got-in (flying_on a l d) n k got) (sym q.1))
    ]
  ]

  travels-entered : (a : Packets) (s count : ℕ) (b : List ℕ) → AreInOnePlace a count → j < count → Travels a → Travels (enter t w a s b)
  travels-entered a s count b one below h =
      let apart : j ≢ length a.verdicts = λ e. over below (e ∙ one.verdicts) in
      travels-kept a (enter t w a s b)
      (keeps-on j a (one_more a (home_of t s)) _ (keeps-more j a (home_of t s) (not-past a count one below) (subst (λ m. j < m) (sym one.paths) below))
      (keeps-enter t w j (length a.verdicts) (one_more a (home_of t s)) b (home_of t s) (vrf_of t s) (first_rule (entry_rules (w.config.attached s) b)) apart))
      h
    where
      over : j < count → j ≡ count → ⊥
      over x y = omega (arith, x, y)

  begun : (a : Packets) (clock count : ℕ) → AreInOnePlace a count → AreInOnePlace (before_step (record a { clock = clock })) count
  begun a clock count one = record { places = one.places; verdicts = one.verdicts; paths = one.paths }

  travels-step : (a : Packets) (clock : ℕ) (s : Step) (b : List ℕ) (count : ℕ) → moves_packets s ≡ true → AreInOnePlace a count → j < count → Travels a
      → Travels (packets_after t w (timed_by t clock s a) s b)
  unfolding packets_after
  travels-step a clock (Inject s n) b count m one below h =
      travels-entered (before_step (record a { clock = clock })) s.0 count b (begun a clock count one) below h
  travels-step a clock (Carry l d n) b count m one below h =
      travels-carried (before_step (record a { clock = clock })) l.0 d n count (slice_get (flying_on a l.0 d) n) (begun a clock count one) below refl h
  travels-step a clock _ b count m one below h = absurd (clash (sym m))

  travels-on : (es : List JournalEntry) (a : Packets) (count : ℕ) (ps : List (List ℕ)) → list_all (λ entry. moves_packets entry.step) es ≡ true
      → AreInOnePlace a count → j < count → Travels a → Travels (packets_from t w a es ps)
  travels-on [] a count ps m one below h = h
  travels-on (e ∷ es) a count ps m one below h =
      subst (λ v. Travels (packets_from t v (packets_by t v a e (next_of ps)) es (left_by e.step ps))) (sym (still t w e.step (left m)))
      (travels-on es (packets_by t w a e (next_of ps)) (one_if (injects e.step) + count) (left_by e.step ps) (right m)
      (stepped t w (timed t e a) e.step (next_of ps) count (timed_places t e a count one)) (more (one_if (injects e.step)) below)
      (travels-step a (clock_after e) e.step (next_of ps) count (left m) one below h))
    where
      both : (x y : Bool) → (x && y) ≡ true → (x ≡ true) × (y ≡ true)
      both true y e = (refl, e)
      both false y e = absurd (clash (sym e))

      left : list_all (λ entry. moves_packets entry.step) (e ∷ es) ≡ true → moves_packets e.step ≡ true
      left m = (both (moves_packets e.step) (list_all (λ entry. moves_packets entry.step) es) m).0

      right : list_all (λ entry. moves_packets entry.step) (e ∷ es) ≡ true → list_all (λ entry. moves_packets entry.step) es ≡ true
      right m = (both (moves_packets e.step) (list_all (λ entry. moves_packets entry.step) es) m).1

      more : (x : ℕ) → j < count → j < x + count
      more x h = omega (arith, h)

-- 5. From the injection on

pub packets_from-append : (t : Network) (es fs : List JournalEntry) (w : World) (k : Packets) (ps : List (List ℕ))
    → packets_from t w k (es ++ fs) ps ≡ packets_from t (world_from t w es) (packets_from t w k es ps) fs (left_after es ps)
packets_from-append t [] fs w k ps = refl
packets_from-append t (e ∷ es) fs w k ps =
    packets_from-append t es fs (after t w e.step) (packets_by t (after t w e.step) k e (next_of ps)) (left_by e.step ps)

pub world_from-append : (t : Network) (es fs : List JournalEntry) (w : World) → world_from t w (es ++ fs) ≡ world_from t (world_from t w es) fs
world_from-append t [] fs w = refl
world_from-append t (e ∷ es) fs w = world_from-append t es fs (after t w e.step)

-- what a lawful journal begins with is lawful
lawful-front : (t : Network) (es fs : List JournalEntry) (tick : ℕ) (w : World) (k : Packets) (i : ℕ) (ps : List (List ℕ))
    → IsLawfulFrom t tick w k i (es ++ fs) ps → IsLawfulFrom t tick w k i es ps
lawful-front t [] fs tick w k i ps lawful = tt
lawful-front t (e ∷ es) fs tick w k i ps lawful = (
  lawful.0,
  lawful.1,
  lawful.2,
  lawful-front t es fs (clock_after e) (after t w e.step) (packets_by t (after t w e.step) k e (next_of ps)) (i + 1)
      (left_by e.step ps) lawful.3,
)

pub lawful_begins : (t : Network) (es fs : List JournalEntry) (ps : List (List ℕ)) → IsLawfulJournal t (es ++ fs) ps → IsLawfulJournal t es ps
lawful_begins t es fs ps lawful = lawful-front t es fs 0 (start t) no_packets 0 ps lawful

still-on : (t : Network) (w : World) (es : List JournalEntry) → list_all (λ entry. moves_packets entry.step) es ≡ true → world_from t w es ≡ w
still-on t w [] m = refl
still-on t w (e ∷ es) m =
    let parts = and_parts (moves_packets e.step) (list_all (λ entry. moves_packets entry.step) es) m in
    ap (λ v. world_from t v es) (still t w e.step parts.0) ∙ still-on t w es parts.1

moves-append : (es fs : List JournalEntry) → list_all (λ entry. moves_packets entry.step) (es ++ fs) ≡ true
    → (list_all (λ entry. moves_packets entry.step) es ≡ true) × (list_all (λ entry. moves_packets entry.step) fs ≡ true)
moves-append [] fs m = (refl, m)
moves-append (e ∷ es) fs m =
    let parts = and_parts (moves_packets e.step) (list_all (λ entry. moves_packets entry.step) (es ++ fs)) m in
    let rest = moves-append es fs parts.1 in
    (ap (λ b. b && list_all (λ entry. moves_packets entry.step) es) parts.0 ∙ rest.0, rest.1)

push-last : {A : Type 0} (xs : List A) (x d : A) (j : ℕ) → j ≡ length xs → get_or (xs ++ x ∷ []) j d ≡ x
push-last xs x d j h = grind (arith, common_steps, h)

-- the packet enters
module _ (t : Network) (w : World) (a : Packets) (count s : ℕ) (bytes : List ℕ) (to : HeldRoute) (one : AreInOnePlace a count)
    (addressed : IsAddressed t w s bytes to) (attached : w.config.attached to.site ≡ Some to.attachment) (hops : List ℕ)
    (goes : GoesBy t w hops (home_of t s) to.edge)
    (long : length (home_of t s ∷ hops) + 1 ≤ ttl_of bytes) where
  abbrev Sets : Packets → Type 0
  Sets b = Travels t w (length a.verdicts) to.site to.edge to.attachment (ttl_of bytes) (home_of t s ∷ hops) attached long b

  first-path : path_of (one_more a (home_of t s)) (length a.verdicts) ≡ home_of t s ∷ []
  first-path = push-last a.paths (home_of t s ∷ []) [] (length a.verdicts) (one.verdicts ∙ sym one.paths)

  no-token : (at : ℕ) (k : Token) → In ((one_more a (home_of t s)).flying at) k → k.packet ≡ length a.verdicts → ⊥
  no-token =
      loose-none t w (length a.verdicts) to.site to.edge to.attachment (ttl_of bytes) (home_of t s ∷ hops) attached long (one_more a (home_of t s)) (1 + count)
      (fresh a count (home_of t s) one)

  within : length a.verdicts < length (one_more a (home_of t s)).verdicts
  within = (fresh a count (home_of t s) one).within

  sets-out : Sets (route_by t w (one_more a (home_of t s)) (length a.verdicts) bytes (home_of t s) (Some to))
  sets-out = by_hops hops goes refl
    where
      by_hops : (xs : List ℕ) → GoesBy t w xs (home_of t s) to.edge → hops ≡ xs
          → Sets (route_by t w (one_more a (home_of t s)) (length a.verdicts) bytes (home_of t s) (Some to))
      by_hops [] g e =
          subst Sets (sym (ap (λ b. elim b as (λ _. Packets) [
            | true ↦ deliver (one_more a (home_of t s)) (length a.verdicts) to.site (ttl_of bytes - 1) bytes
            | false ↦ hop_on t w (one_more a (home_of t s)) (bound (length a.verdicts) to bytes) (home_of t s) rule.NoLsp
          ])
          (same to.edge (home_of t s) (sym g))))
          (delivers t w (length a.verdicts) to.site to.edge to.attachment (ttl_of bytes) (home_of t s ∷ hops) attached long (one_more a (home_of t s))
          (length a.verdicts) to.site (ttl_of bytes - 1) bytes within refl refl
          (ap (λ n. ttl_of bytes - n) (sym (ap (λ ys. length (home_of t s ∷ ys)) e ∙ omega arith))) (first-path ∙ ap (λ ys. home_of t s ∷ ys) (sym e)))
        where
          same : (x y : ℕ) → x ≡ y → (x == y) ≡ true
          same x y h = elim (eqb_tells x y) [ inl q ↦ q.0 | inr q ↦ absurd (q.1 h) ]
      by_hops (x ∷ xs) g e =
          subst Sets (sym (ap (λ b. elim b as (λ _. Packets) [
            | true ↦ deliver (one_more a (home_of t s)) (length a.verdicts) to.site (ttl_of bytes - 1) bytes
            | false ↦ hop_on t w (one_more a (home_of t s)) (bound (length a.verdicts) to bytes) (home_of t s) rule.NoLsp
          ])
          (differ to.edge (home_of t s) (λ h. g.0 (sym h)))
          ∙ ap (hop_over t (one_more a (home_of t s)) (stamped (one_more a (home_of t s)) (bound (length a.verdicts) to bytes)) (home_of t s) rule.NoLsp) g.2))
          (hops-off t w (length a.verdicts) to.site to.edge to.attachment (ttl_of bytes) (home_of t s ∷ hops) attached long (one_more a (home_of t s))
          (stamped (one_more a (home_of t s)) (bound (length a.verdicts) to bytes)) (home_of t s) x xs g.1 rule.NoLsp within no-token refl
          (ap (λ ys. ys ++ x ∷ xs) first-path ∙ ap (λ ys. home_of t s ∷ ys) (sym e)) g.3 g.4 refl refl refl
          (ap (λ n. ttl_of bytes - 1 + n) (ap length first-path ∙ omega arith) ∙ back (ttl_of bytes) (length hops) long))
        where
          differ : (x y : ℕ) → x ≢ y → (x == y) ≡ false
          differ x y h = elim (eqb_tells x y) [ inl q ↦ absurd (h q.1) | inr q ↦ q.0 ]

          back : (x n : ℕ) → suc n + 1 ≤ x → x - 1 + 1 ≡ x
          back x n h = omega (arith, h)

  sent : Sets (enter t w a s bytes)
  sent =
      subst Sets (sym (ap (enter_by t w (one_more a (home_of t s)) (length a.verdicts) bytes (home_of t s) (vrf_of t s)) addressed.passes
      ∙ ap (route_by t w (one_more a (home_of t s)) (length a.verdicts) bytes (home_of t s)) addressed.best_is))
      sets-out

-- in the end it has come, where nothing flies any more
come-in-the-end : (t : Network) (w : World) (j site edge attachment ttl : ℕ) (whole : List ℕ) (attached : w.config.attached site ≡ Some attachment)
    (long : length whole + 1 ≤ ttl) (a : Packets) (count : ℕ) → AreInOnePlace a count → ((at : ℕ) → a.flying at ≡ [])
    → Travels t w j site edge attachment ttl whole attached long a → HasCome t w j site edge attachment ttl whole attached long a
come-in-the-end t w j site edge attachment ttl whole attached long a count one none h = elim h [
  | inl c ↦ c
  | inr f ↦ absurd (not_none (one.places j (channel f.0 f.1)) (ap (times_in j) (none (channel f.0 f.1)))
      (ap (λ v. times_by v (channel f.0 f.1)) f.2 ∙ ap one_if (same (channel f.0 f.1))))
]
  where
    same : (n : ℕ) → (n == n) ≡ true
    same n = elim (eqb_tells n n) [ inl q ↦ q.0 | inr q ↦ absurd (q.1 refl) ]

    not_none : {x y : ℕ} → x ≡ y → x ≡ 0 → y ≡ 1 → ⊥
    not_none e f g = omega (arith, e, f, g)

-- where no verdict says that a packet flies, none does
pub nothing-flies : (a : Packets) (count : ℕ) → AreInOnePlace a count → ((j l : ℕ) (d : Dir) → verdict_on a j ≡ Flying (record { 0 = l }) d → ⊥) → (at : ℕ)
    → a.flying at ≡ []
nothing-flies a count one none at = by_list (a.flying at) refl
  where
    grounded : (j : ℕ) (v : Verdict) → verdict_on a j ≡ v → 1 ≤ times_by v at → ⊥
    grounded j (Flying l d) e h = none j l.0 d e
    grounded j (Delivered n s m) e h = zero_less h
      where
        zero_less : 1 ≤ 0 → ⊥
        zero_less h = omega (arith, h)
    grounded j (Dropped r n) e h = zero_less h
      where
        zero_less : 1 ≤ 0 → ⊥
        zero_less h = omega (arith, h)

    by_list : (ks : List Token) → a.flying at ≡ ks → a.flying at ≡ []
    by_list [] e = e
    by_list (k ∷ ks) e =
        absurd (grounded k.packet (verdict_on a k.packet) refl
        (subst (λ n. 1 ≤ n) (one.places k.packet at) (in-times k.packet (a.flying at) k (subst (λ xs. In xs k) (sym e) (inl refl)) refl)))

-- a site's home is an edge
edge-below : (t : Network) (e : ℕ) → In (edges t) e → e < length t.loopbacks
edge-below t e i =
    let r = in_range 0 (length t.loopbacks) e (in_filter (λ node. is_edge t.vrfs node) (range_with_len 0 (length t.loopbacks)) e i).0 in omega (arith, r.1)

each-passes : {A : Type 0} (test : A → Bool) (xs : List A) (d : A) (i : ℕ) → list_all test xs ≡ true → i < length xs → test (slice_index_or xs i d) ≡ true
each-passes test [] d i h below = absurd (none below)
  where
    none : i < 0 → ⊥
    none h = omega (arith, h)
each-passes test (x ∷ xs) d zero h below = (and_parts (test x) (list_all test xs) h).0
each-passes test (x ∷ xs) d (suc i) h below = each-passes test xs d i (and_parts (test x) (list_all test xs) h).1 (omega (arith, below))

home-is-edge : (t : Network) → IsLawful t → (s : ℕ) → s < length t.sites → In (edges t) (home_of t s)
home-is-edge t lawful s below =
    let v : ℕ = vrf_of t s in
    let v_below : v < length t.vrfs = less_tells v (length t.vrfs)
    (each-passes (λ (site : SiteDef). nat_lt site.vrf.0 (length t.vrfs)) t.sites _ s lawful.sites.placed below) in
    let node_below : home_of t s < length t.loopbacks = less_tells (home_of t s) (length t.loopbacks)
    (and_parts _ _ (each-passes (is_vrf_of (length t.loopbacks)) t.vrfs _ v lawful.vrfs.formed v_below)).0 in
    filter_in (λ node. is_edge t.vrfs node) (range_with_len 0 (length t.loopbacks)) (home_of t s)
    (range_in 0 (length t.loopbacks) (home_of t s) (omega arith) (omega (arith, node_below))) (at-vrf t.vrfs v (home_of t s) v_below refl)
  where
    at-vrf : (vs : List VrfDef) (i node : ℕ) → i < length vs
        → (slice_index_or vs i (record { node = record { 0 = 0 }; rd = record { 0 = 0 }; «import» = []; export = [] })).node.0 ≡ node → is_edge vs node ≡ true
    at-vrf [] i node h e = absurd (none h)
      where
        none : i < 0 → ⊥
        none h = omega (arith, h)
    at-vrf (x ∷ vs) zero node h e = ap (λ b. b || is_edge vs node) (elim (eqb_tells node x.node.0) [ inl q ↦ q.0 | inr q ↦ absurd (q.1 (sym e)) ])
    at-vrf (x ∷ vs) (suc i) node h e = ap (λ b. (node == x.node.0) || b) (at-vrf vs i node (omega (arith, h)) e) ∙ or_true (node == x.node.0)
      where
        or_true : (b : Bool) → (b || true) ≡ true
        or_true true = refl
        or_true false = refl

pub has_arrived : (t : Network) (before earlier later : List JournalEntry) (tick number : ℕ) (mark : Damaged) (site : SiteNo) (ps : List (List ℕ))
    (to : HeldRoute) → IsLawful t
    → IsLawfulJournal t before ps
    → IsSteady t before (earlier ++ record { tick = tick; step = Inject site number; damaged = mark } ∷ later)
    → site.0 < length t.sites
    → IsAddressed t (world_of t before) site.0 (next_of (left_after (before ++ earlier) ps)) to
    → Reaches t (world_of t before) (home_of t site.0) to.edge
    → length (route_to t (world_of t before) site.0 to) + 1 ≤ ttl_of (next_of (left_after (before ++ earlier) ps))
    → ((at : ℕ) → (packets_of t ((before ++ earlier) ++ record { tick = tick; step = Inject site number; damaged = mark } ∷ later) ps).flying at ≡ [])
    → HasArrived t (world_of t before) (packets_of t ((before ++ earlier) ++ record { tick = tick; step = Inject site number; damaged = mark } ∷ later) ps)
    (injections (before ++ earlier)) site.0 (next_of (left_after (before ++ earlier) ps)) to
unfolding packets_after
has_arrived t before earlier later tick number mark site ps to lawful journal steady site_there addressed reaches long none =
    let w : World = world_of t before in
    let home_edge : In (edges t) (home_of t site.0) = home-is-edge t lawful site.0 site_there in
    let behind = best-attached t w (in_turn t before ps lawful journal) steady.settled (all-tell t before ps lawful journal) (home_of t site.0)
    (vrf_of t site.0) (destination_of (next_of (left_after (before ++ earlier) ps))) to home_edge addressed.best_is in
    let attached : w.config.attached to.site ≡ Some to.attachment = behind.0 in
    let home_below : home_of t site.0 < length t.loopbacks = edge-below t (home_of t site.0) home_edge in
    let edge_below : to.edge < length t.loopbacks = edge-below t to.edge behind.1 in
    let entry : JournalEntry = record { tick = tick; step = Inject site number; damaged = mark } in
    let done : List JournalEntry = before ++ earlier in
    let k : Packets = packets_of t done ps in
    let bytes : List ℕ = next_of (left_after done ps) in
    let all : List JournalEntry = done ++ entry ∷ later in
    let ways = know_the_ways t before ps lawful journal steady.settled in
    let way_there = route_is t w lawful ways to.edge edge_below (home_of t site.0) home_below reaches in
    let parts = moves-append earlier (entry ∷ later) steady.moving in
    let world_then : world_of t done ≡ w = world_from-append t before earlier (start t) ∙ still-on t w earlier parts.0 in
    let one : AreInOnePlace k (injections done) = in_one_place t done ps in
    let long_way : length (home_of t site.0 ∷ way_there.0) + 1 ≤ ttl_of bytes = subst (λ xs. length xs + 1 ≤ ttl_of bytes) way_there.1 long in
    let now : Packets = timed t entry k in
    let a : Packets = packets_by t w k entry bytes in
    let j : ℕ = length k.verdicts in
    let one_a : AreInOnePlace a (1 + injections done) =
    stepped t w now (Inject site number) bytes (injections done) (timed_places t entry k (injections done) one) in
    let first = sent t w (before_step now) (injections done) site.0 bytes to
    (unmarked now (injections done) (timed_places t entry k (injections done) one)) addressed attached way_there.0 way_there.2 long_way in
    let last = travels-on t w j to.site to.edge to.attachment (ttl_of bytes) (home_of t site.0 ∷ way_there.0) attached long_way later a (1 + injections done)
    (left_by (Inject site number) (left_after done ps)) parts.1 one_a (next_number one.verdicts) first in
    let whole : packets_of t all ps ≡ packets_from t w a later (left_by (Inject site number) (left_after done ps)) =
    packets_from-append t done (entry ∷ later) (start t) no_packets ps
    ∙ ap (λ v. packets_from t v k (entry ∷ later) (left_after done ps)) world_then
    ∙ ap (λ v. packets_from t v (packets_by t v k entry bytes) later (left_by (Inject site number) (left_after done ps)))
    (still t w (Inject site number) refl) in
    let come = come-in-the-end t w j to.site to.edge to.attachment (ttl_of bytes) (home_of t site.0 ∷ way_there.0) attached long_way (packets_of t all ps)
    (injections all) (in_one_place t all ps) none
    (subst (Travels t w j to.site to.edge to.attachment (ttl_of bytes) (home_of t site.0 ∷ way_there.0) attached long_way) (sym whole) last) in
    record {
      copy = come.0;
      verdict =
          subst (λ n. verdict_on (packets_of t all ps) n ≡ Delivered (ttl_of bytes - length (route_to t w site.0 to)) (record { 0 = to.site }) come.0)
          one.verdicts
          (come.1 ∙ ap (λ xs. Delivered (ttl_of bytes - length xs) (record { 0 = to.site }) come.0) (sym way_there.1));
      path = subst (λ n. path_of (packets_of t all ps) n ≡ route_to t w site.0 to) one.verdicts (come.2 ∙ sym way_there.1);
    }
  where
    next_number : {x y : ℕ} → x ≡ y → x < 1 + y
    next_number h = omega (arith, h)
