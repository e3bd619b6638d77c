-- A packet in a stretch in which one link changes: each of its hops is that with the link down, or that with the link up, and where it is
-- dropped for its TTL it has been at as many nodes as that said.
use Rattle.std.proofs.Common.{ℕ, zero, suc, ◌≡◌, ◌≢◌, ◌+◌, ◌-◌, ◌*◌, ◌<◌, ◌≤◌, inl, inr, Bool, true, false, List, [], ◌∷◌, ◌++◌, length, get_or, refl, arith}
use Rattle.std.proofs.Common.{sym, ◌∙◌, ap, subst, Option, None, Some, length-append}
use Rattle.std.specs.Prelude.{◌==◌, nat_le, nat_lt, is_none, not, slice_get, slice_index_or, slice_set, if◌then◌else◌, ⊤}
use Rattle.std.proofs.lemmas.Bool.Decides.{eqb_tells, leb_tells}
use Rattle.std.proofs.lemmas.List.{get_or-set_same}
use Rattle.std.proofs.lemmas.Grind.{common_steps}
use Rattle.mn_drops.specs.declared.drops.Rule.{Rule}
use Rattle.mn_drops.specs.declared.drops.Rule.TheVariants as rule
use Rattle.mn_wiring.specs.declared.links.Dir.{Dir}
use Rattle.mn_wiring.specs.declared.links.Dir.TheVariants.{Forth, Back}
use Rattle.mn_wiring.specs.Wiring.{link, across, receiver, sender}
use Rattle.mn_ipv4.specs.Header.{ttl_of, destination_of, is_not_ipv4, is_malformed, is_truncated, has_bad_checksum}
use Rattle.mn_base.proofs.Bools.{less_tells, not_less_tells}
use Rattle.mn_topo.specs.Network.{Network, wiring_of}
use Rattle.mn_topo.specs.declared.steps.Step.{Step}
use Rattle.mn_topo.specs.declared.steps.Step.TheVariants.{LinkDown, Inject, Carry, Lose}
use Rattle.mn_topo.specs.declared.steps.JournalEntry.{JournalEntry}
use Rattle.mn_ledger.specs.declared.verdict.Verdict.{Verdict}
use Rattle.mn_ledger.specs.declared.verdict.Verdict.TheVariants.{Delivered, Dropped, Flying}
use Rattle.mn_ledger.specs.Entry.{is_unicast, first_rule, when}
use Rattle.mn_ledger.specs.Places.{home_of, vrf_of}
use Rattle.mn_ledger.specs.World.{World}
use Rattle.mn_ledger.specs.Transport.{usable}
use Rattle.mn_ledger.specs.Held.{HeldRoute, best}
use Rattle.mn_ledger.specs.Eligible.{eligible}
use Rattle.mn_ledger.specs.Packets.{Token, Packets, channel, flying_on, away_from, judged, drop_at, visited, deliver, hop_over, hop_on, entry_rules, bound}
use Rattle.mn_ledger.specs.Packets.{route_by, enter_by, enter, one_more, taken, is_attachment, leave, arrive, carry, lose, cut, before_step, packets_after}
use Rattle.mn_ledger.specs.Packets.{stamped}
use Rattle.mn_ledger.specs.Verdicts.{one_if, times_in, verdict_on, AreInOnePlace}
use Rattle.mn_ledger.specs.Time.{clock_after, timed}
use Rattle.mn_ledger.specs.Ledger.{after, next_of, left_by, injects, packets_from, packets_by}
use Rattle.mn_ledger.proofs.Members.{In, in_append}
use Rattle.mn_ledger.proofs.OnePlace.{Loose, loosen, fresh, unmarked, stepped, timed_places, one_same}
use Rattle.mn_changing_laws.specs.BothNext.{GoesBy}
use Rattle.mn_changing_laws.proofs.Walks.{goes-further}
use Rattle.mn_changing_laws.proofs.Calm.{path_of, HasExpired, Calm, calm-on, calm-judged, calm-drop, calm-deliver, in_put, calm-taken, calm-fall, calm-timed}
use Rattle.mn_changing_laws.proofs.Calm.{calm-begun}
use Rattle.mn_changing_laws.proofs.Calm.{calm-cut, calm-visited, calm-arrive, calm-enter, calm-more}

channel-is : (l m : ℕ) (d e : Dir) → channel l d ≡ channel m e → (l ≡ m) × (d ≡ e)
channel-is l m Forth Forth h = (omega (arith, h), refl)
channel-is l m Back Back h = (omega (arith, h), refl)
channel-is l m Forth Back h = absurd (odd l m h)
  where
    odd : (l m : ℕ) → 2 * l ≡ 2 * m + 1 → ⊥
    odd l m h = omega (arith, h)
channel-is l m Back Forth h = absurd (odd m l (sym h))
  where
    odd : (l m : ℕ) → 2 * l ≡ 2 * m + 1 → ⊥
    odd l m h = omega (arith, h)

-- a frame sent over a link comes to its other end
comes-across : (t : Network) (l x : ℕ) → receiver (wiring_of t) l (away_from t l x) ≡ across (wiring_of t) l x
comes-across t l x = either ((link (wiring_of t) l).a.0 == x)
  where
    either : (b : Bool) → receiver (wiring_of t) l (if b then Forth else Back) ≡ (if b then (link (wiring_of t) l).b.0 else (link (wiring_of t) l).a.0)
    either true = refl
    either false = refl

in-times : (j : ℕ) (ks : List Token) (k : Token) → In ks k → k.packet ≡ j → 1 ≤ times_in j ks
in-times j [] k i e = absurd i
in-times j (x ∷ xs) k i e = elim i [
  | inl same ↦ omega (arith, ap one_if (ap (λ n. n == j) (ap (λ (y : Token). y.packet) same ∙ e)) ∙ one_same j)
  | inr m ↦ omega (arith, in-times j xs k m e)
]

got-in : (ks : List Token) (n : ℕ) (k : Token) → slice_get ks n ≡ Some k → In ks k
got-in [] n k h = absurd (no h)
  where
    no : None ≡ Some k → ⊥
    no e = cc
got-in (x ∷ xs) zero k h = inl (let e : x ≡ k = cc in e)
got-in (x ∷ xs) (suc n) k h = inr (got-in xs n k h)

push-last : {A : Type 0} (xs : List A) (x d : A) (j : ℕ) → j ≡ length xs → get_or (xs ++ x ∷ []) j d ≡ x
push-last xs x d j h = grind (arith, common_steps, h)

-- a packet is refused for its TTL at its entry only where that is less than 2
few-left : (a b c d e f g : Bool) → first_rule (when a rule.SiteDown ∷ when b rule.NotIpv4 ∷ when c rule.Malformed ∷ when d rule.Truncated
    ∷ when e rule.BadChecksum ∷ when f rule.TtlExpired ∷ when g rule.NotUnicast ∷ []) ≡ Some rule.TtlExpired → f ≡ true
few-left true b c d e f g h = cc
few-left false true c d e f g h = cc
few-left false false true d e f g h = cc
few-left false false false true e f g h = cc
few-left false false false false true f g h = cc
few-left false false false false false true g h = refl
few-left false false false false false false true h = cc
few-left false false false false false false false h = cc

-- each node sends by one of these hops
abbrev pub Sends : Network → (ℕ → List ℕ) → ℕ → World → Type 0
Sends t hops edge w =
    (x : ℕ) (hop : ℕ × ℕ) → x < length t.loopbacks → usable t w.config w.views w.sessions x edge ≡ Some hop
    → In (hops x) (across (wiring_of t) hop.1 x) × (across (wiring_of t) hop.1 x < length t.loopbacks)

-- in each world from here on
abbrev pub SendOn : Network → (ℕ → List ℕ) → ℕ → World → List JournalEntry → Type 0
SendOn t hops edge w [] = ⊤
SendOn t hops edge w (e ∷ es) = Sends t hops edge (after t w e.step) × SendOn t hops edge (after t w e.step) es

-- hops by which each node may send, and packets of one number, edge and TTL
module _ (t : Network) (hops : ℕ → List ℕ) (j edge top : ℕ) where
  abbrev pub IsPath : List ℕ → Type 0
  IsPath path = GoesBy hops path × ((x : ℕ) → In path x → x < length t.loopbacks)

  -- a frame of it flies on a channel, and has so much TTL left
  pub record IsOnTheWay (at : ℕ) (k : Token) (path : List ℕ) : Type 0 where
    pub link : ℕ
    pub dir : Dir
    pub on : at ≡ channel link dir
    pub goes : IsPath (path ++ receiver (wiring_of t) link dir ∷ [])
    pub edge_is : k.edge ≡ edge
    pub left : k.ttl + length path ≡ top

  pub record Goes (a : Packets) : Type 0 where
    pub path : IsPath (path_of a j)
    pub spent : HasExpired a j → top ≤ length (path_of a j)
    pub tokens : (at : ℕ) (k : Token) → In (a.flying at) k → k.packet ≡ j → IsOnTheWay at k (path_of a j)

  goes-calm : (a b : Packets) → Calm j a b → Goes a → Goes b
  goes-calm a b c g = record {
    path = subst IsPath (sym c.path) g.path;
    spent = λ h. subst (λ p. top ≤ length p) (sym c.path) (g.spent (c.spared h));
    tokens = λ at k i e. subst (IsOnTheWay at k) (sym c.path) (g.tokens at k (c.fewer at k i e) e);
  }

  abbrev NoTokens : Packets → Type 0
  NoTokens a = (at : ℕ) (k : Token) → In (a.flying at) k → k.packet ≡ j → ⊥

  loose-none : (a : Packets) (count : ℕ) → Loose a j count → NoTokens a
  loose-none a count loose at k i e = none (subst (λ n. 1 ≤ n) (loose.none at) (in-times j (a.flying at) k i e))
    where
      none : 1 ≤ 0 → ⊥
      none h = omega (arith, h)

  path-more : (pre : List ℕ) (x y : ℕ) → IsPath (pre ++ x ∷ []) → In (hops x) y → y < length t.loopbacks → IsPath ((pre ++ x ∷ []) ++ y ∷ [])
  path-more pre x y p i below = (
    goes-further hops pre x y p.0 i,
    λ z m. elim (in_append (pre ++ x ∷ []) (y ∷ []) z m) [
      | inl n ↦ p.1 z n
      | inr n ↦ elim n [ inl e ↦ subst (λ q. q < length t.loopbacks) e below | inr none ↦ absurd none ]
    ],
  )

  last-in : (pre : List ℕ) (x : ℕ) → In (pre ++ x ∷ []) x
  last-in [] x = inl refl
  last-in (y ∷ pre) x = inr (last-in pre x)

  -- it leaves a node, the last of its path, by its next hop
  hops-off : (a : Packets) (k : Token) (pre : List ℕ) (x : ℕ) (hop : ℕ × ℕ) (c : Rule) → NoTokens a → Goes a → path_of a j ≡ pre ++ x ∷ []
      → In (hops x) (across (wiring_of t) hop.1 x) → across (wiring_of t) hop.1 x < length t.loopbacks → k.edge ≡ edge
      → k.ttl + length (path_of a j) ≡ top → Goes (hop_over t a k x c (Some hop))
  hops-off a k pre x hop c none g last i below e left =
      let l : ℕ = hop.1 in
      let d : Dir = away_from t l x in
      let ch : ℕ = channel l d in
      let quiet : Calm j a (judged a k.packet (Flying (record { 0 = l }) d)) = calm-judged j k.packet a (Flying (record { 0 = l }) d) (λ n q. unlike l d n q) in
      record {
        path = g.path;
        spent = λ h. g.spent (quiet.spared h);
        tokens = λ at tok m f. elim (in_put a.flying ch (a.flying ch ++ k ∷ []) at tok m) [
          | inr q ↦ absurd (none at tok q.1 f)
          | inl q ↦ elim (in_append (a.flying ch) (k ∷ []) tok q.1) [
            | inl n ↦ absurd (none ch tok n f)
            | inr n ↦ elim n [
              | inr empty ↦ absurd empty
              | inl same ↦ subst (λ z. IsOnTheWay at z (path_of a j)) same
                  (record {
                    link = l;
                    dir = d;
                    on = q.0;
                    goes = subst (λ y. IsPath (path_of a j ++ y ∷ [])) (sym (comes-across t l x))
                        (subst (λ p. IsPath (p ++ across (wiring_of t) l x ∷ [])) (sym last)
                        (path-more pre x (across (wiring_of t) l x) (subst IsPath last g.path) i below));
                    edge_is = e;
                    left = left;
                  })
            ]
          ]
        ];
      }
    where
      unlike : (l : ℕ) (d : Dir) (n : ℕ) → Flying (record { 0 = l }) d ≡ Dropped rule.TtlExpired (record { 0 = n }) → ⊥
      unlike l d n q = cc

  -- it is dropped for its TTL, having been at so many nodes
  expires : (a : Packets) (p x : ℕ) → NoTokens a → Goes a → top ≤ length (path_of a j) → Goes (drop_at a p rule.TtlExpired x)
  expires a p x none g long = record { path = g.path; spent = λ h. long; tokens = λ at k i e. absurd (none at k i e) }

  -- to the next hop, or dropped
  hops-on : (w : World) (a : Packets) (k : Token) (pre : List ℕ) (x : ℕ) (c : Rule) → Sends t hops edge w → c ≢ rule.TtlExpired → NoTokens a → Goes a
      → path_of a j ≡ pre ++ x ∷ [] → k.edge ≡ edge → k.ttl + length (path_of a j) ≡ top → Goes (hop_on t w a k x c)
  hops-on w a k pre x c sends other none g last e left = by (usable t w.config w.views w.sessions x k.edge) refl
    where
      below : x < length t.loopbacks
      below = g.path.1 x (subst (λ p. In p x) (sym last) (last-in pre x))

      by : (o : Option (ℕ × ℕ)) → usable t w.config w.views w.sessions x k.edge ≡ o → Goes (hop_over t a (stamped a k) x c o)
      by None h = goes-calm a _ (calm-drop j k.packet a c x other) g
      by (Some hop) h =
          let s = sends x hop below (ap (usable t w.config w.views w.sessions x) (sym e) ∙ h) in
          hops-off a (stamped a k) pre x hop c none g last s.0 s.1 e left

  -- it comes to a node
  arrives : (w : World) (a : Packets) (k : Token) (pre : List ℕ) (y : ℕ) → Sends t hops edge w → NoTokens a → Goes a → path_of a j ≡ pre ++ y ∷ [] →
      k.edge ≡ edge
      → k.ttl + length (path_of a j) ≡ top + 1 → Goes (arrive t w a k y)
  arrives w a k pre y sends none g last e left = elim (leb_tells k.ttl 1) [
    | inl q ↦ subst Goes (sym (passed true q.0)) (expires a k.packet y none g (spent q.1 left))
    | inr q ↦ subst Goes (sym (passed false q.0)) (by_edge (y == k.edge) (less q.1 left))
  ]
    where
      spent : k.ttl ≤ 1 → k.ttl + length (path_of a j) ≡ top + 1 → top ≤ length (path_of a j)
      spent few h = omega (arith, few, h)

      less : 1 < k.ttl → k.ttl + length (path_of a j) ≡ top + 1 → (k.ttl - 1) + length (path_of a j) ≡ top
      less more h = omega (arith, more, h)

      passed : (b : Bool) → nat_le k.ttl 1 ≡ b → arrive t w a k y
          ≡ elim b as (λ _. Packets) [
            | true ↦ drop_at a k.packet rule.TtlExpired y
            | false ↦ elim (y == k.edge) as (λ _. Packets) [ true ↦ leave w a k y | false ↦ hop_on t w a (record k { ttl = k.ttl - 1 }) y rule.NoEntry ]
          ]
      passed b h =
          ap (λ b. elim b as (λ _. Packets) [
            | true ↦ drop_at a k.packet rule.TtlExpired y
            | false ↦ elim (y == k.edge) as (λ _. Packets) [ true ↦ leave w a k y | false ↦ hop_on t w a (record k { ttl = k.ttl - 1 }) y rule.NoEntry ]
          ]) h

      gone : rule.SiteGone ≢ rule.TtlExpired
      gone e = cc

      no_entry : rule.NoEntry ≢ rule.TtlExpired
      no_entry e = cc

      by_seat : (b : Bool)
          → Goes (elim b as (λ _. Packets) [ true ↦ deliver a k.packet k.site (k.ttl - 1) k.bytes | false ↦ drop_at a k.packet rule.SiteGone y ])
      by_seat true = goes-calm a _ (calm-deliver j k.packet a k.site (k.ttl - 1) k.bytes) g
      by_seat false = goes-calm a _ (calm-drop j k.packet a rule.SiteGone y gone) g

      by_edge : (b : Bool) → (k.ttl - 1) + length (path_of a j) ≡ top
          → Goes (elim b as (λ _. Packets) [ true ↦ leave w a k y | false ↦ hop_on t w a (record k { ttl = k.ttl - 1 }) y rule.NoEntry ])
      by_edge true rest = by_seat (is_attachment (w.config.attached k.site) k.attachment)
      by_edge false rest = hops-on w a (record k { ttl = k.ttl - 1 }) pre y rule.NoEntry sends no_entry none g last e rest

  -- 1. A frame is carried

  carry-own : (w : World) (a : Packets) (l : ℕ) (d : Dir) (n count : ℕ) (k : Token) → Sends t hops edge w → AreInOnePlace a count → j < count
      → slice_get (flying_on a l d) n ≡ Some k → k.packet ≡ j → Goes a
      → Goes (arrive t w (visited (taken a l d n) k.packet (receiver (wiring_of t) l d)) k (receiver (wiring_of t) l d))
  carry-own w a l d n count k sends one below got own g =
      let y : ℕ = receiver (wiring_of t) l d in
      let b : Packets = visited (taken a l d n) k.packet y in
      let on : IsOnTheWay (channel l d) k (path_of a j) = g.tokens (channel l d) k (got-in (flying_on a l d) n k got) own in
      let same = channel-is l on.link d on.dir on.on in
      let come : receiver (wiring_of t) on.link on.dir ≡ y = sym (ap (λ m. receiver (wiring_of t) m d) same.0 ∙ ap (receiver (wiring_of t) on.link) same.1) in
      let none : NoTokens (taken a l d n) = loose-none (taken a l d n) count
      (subst (λ p. Loose (taken a l d n) p count) own (loosen a (channel l d) n count k one got)) in
      let here : path_of b j ≡ path_of a j ++ y ∷ [] =
      ap (λ p. slice_index_or (slice_set a.paths p (slice_index_or a.paths p [] ++ y ∷ [])) j []) own
      ∙ get_or-set_same a.paths j (slice_index_or a.paths j [] ++ y ∷ []) [] (subst (λ m. j < m) (sym one.paths) below) in
      let long : length (path_of b j) ≡ length (path_of a j) + 1 = ap length here ∙ length-append (path_of a j) (y ∷ []) in
      arrives w b k (path_of a j) y sends none
      (record {
        path = subst IsPath (sym here) (subst (λ x. IsPath (path_of a j ++ x ∷ [])) come on.goes);
        spent = λ h. longer (length (path_of b j)) (length (path_of a j)) long (g.spent h);
        tokens = λ at tok i e. absurd (none at tok i e);
      })
      here on.edge_is (more (length (path_of b j)) (length (path_of a j)) k.ttl on.left long)
    where
      longer : (x y : ℕ) → x ≡ y + 1 → top ≤ y → top ≤ x
      longer x y e h = omega (arith, e, h)

      more : (x y z : ℕ) → z + y ≡ top → x ≡ y + 1 → z + x ≡ top + 1
      more x y z h e = omega (arith, h, e)

  carried : (w : World) (a : Packets) (l : ℕ) (d : Dir) (n count : ℕ) (o : Option Token) → Sends t hops edge w → AreInOnePlace a count → j < count
      → slice_get (flying_on a l d) n ≡ o → Goes a → Goes (carry t w (taken a l d n) (receiver (wiring_of t) l d) o)
  carried w a l d n count None sends one below got g = goes-calm a (taken a l d n) (calm-taken j l d n a) g
  carried w a l d n count (Some k) sends one below got g = elim (eqb_tells j k.packet) [
    | inr q ↦ goes-calm a (arrive t w (visited (taken a l d n) k.packet (receiver (wiring_of t) l d)) k (receiver (wiring_of t) l d))
        (calm-on j a (taken a l d n) _ (calm-taken j l d n a)
        (calm-on j (taken a l d n) (visited (taken a l d n) k.packet (receiver (wiring_of t) l d)) _
        (calm-visited j k.packet (receiver (wiring_of t) l d) (taken a l d n) q.1)
        (calm-arrive t w j (visited (taken a l d n) k.packet (receiver (wiring_of t) l d)) k (receiver (wiring_of t) l d) q.1))) g
    | inl q ↦ carry-own w a l d n count k sends one below got (sym q.1) g
  ]

  -- 2. Any step

  entered : (w : World) (a : Packets) (s count : ℕ) (b : List ℕ) → AreInOnePlace a count → j < count → Goes a → Goes (enter t w a s b)
  entered w a s count b one below g =
      let apart : j ≢ length a.verdicts = λ e. over below (e ∙ one.verdicts) in
      goes-calm a (enter t w a s b)
      (calm-on j a (one_more a (home_of t s)) _
      (calm-more j a (home_of t s) (subst (λ m. j < m) (sym one.verdicts) below) (subst (λ m. j < m) (sym one.paths) below))
      (calm-enter t w j (length a.verdicts) (one_more a (home_of t s)) b (home_of t s) (vrf_of t s) (first_rule (entry_rules (w.config.attached s) b)) apart))
      g
    where
      over : j < count → j ≡ count → ⊥
      over x y = omega (arith, x, y)

  lost : rule.Lost ≢ rule.TtlExpired
  lost e = cc

  moves : (w : World) (a : Packets) (s : Step) (b : List ℕ) (count : ℕ) → Sends t hops edge w → AreInOnePlace a count → j < count → Goes a →
      Goes (packets_after t w a s b)
  unfolding packets_after
  moves w a (Inject s n) b count sends one below g =
      entered w (before_step a) s.0 count b (unmarked a count one) below (goes-calm a (before_step a) (calm-begun j a) g)
  moves w a (Carry l d n) b count sends one below g =
      carried w (before_step a) l.0 d n count (slice_get (flying_on a l.0 d) n) sends (unmarked a count one) below refl
      (goes-calm a (before_step a) (calm-begun j a) g)
  moves w a (Lose l d n) b count sends one below g =
      goes-calm a (lose (taken (before_step a) l.0 d n) (sender (wiring_of t) l.0 d) (slice_get (flying_on a l.0 d) n))
      (calm-on j a (before_step a) _ (calm-begun j a)
      (calm-fall rule.Lost j l.0 d n (sender (wiring_of t) l.0 d) (before_step a) (slice_get (flying_on a l.0 d) n) lost)) g
  moves w a (LinkDown l) b count sends one below g =
      let forth : Packets = cut t (before_step a) l.0 Forth in
      goes-calm a (cut t forth l.0 Back)
      (calm-on j a (before_step a) _ (calm-begun j a)
      (calm-on j (before_step a) forth _
      (calm-cut j (channel l.0 Forth) (sender (wiring_of t) l.0 Forth) (flying_on (before_step a) l.0 Forth) (before_step a) refl)
      (calm-cut j (channel l.0 Back) (sender (wiring_of t) l.0 Back) (flying_on forth l.0 Back) forth refl))) g
  moves w a _ b count sends one below g = goes-calm a (before_step a) (calm-begun j a) g

  -- 3. From its entry on

  pub goes-on : (es : List JournalEntry) (w : World) (a : Packets) (count : ℕ) (ps : List (List ℕ)) → SendOn t hops edge w es → AreInOnePlace a count →
      j < count → Goes a
      → Goes (packets_from t w a es ps)
  goes-on [] w a count ps sends one below g = g
  goes-on (e ∷ es) w a count ps sends one below g =
      goes-on es (after t w e.step) (packets_by t (after t w e.step) a e (next_of ps)) (one_if (injects e.step) + count) (left_by e.step ps) sends.1
      (stepped t (after t w e.step) (timed t e a) e.step (next_of ps) count (timed_places t e a count one)) (more (one_if (injects e.step)) below)
      (moves (after t w e.step) (timed t e a) e.step (next_of ps) count sends.0 (timed_places t e a count one) below
      (goes-calm a (timed t e a) (calm-timed t j (clock_after e) e.step a) g))
    where
      more : (x : ℕ) → j < count → j < x + count
      more x h = omega (arith, h)

  -- 4. It enters

  module _ (w : World) (a : Packets) (count s : ℕ) (bytes : List ℕ) (sends : Sends t hops edge w) (one : AreInOnePlace a count) (own : length a.verdicts ≡ j)
      (home_below : home_of t s < length t.loopbacks) (top_is : ttl_of bytes ≡ top)
      (bound_is : (r : HeldRoute) → best (eligible t w (home_of t s) (vrf_of t s) (destination_of bytes)) (destination_of bytes) ≡ Some r → r.edge ≡ edge) where
    abbrev new : Packets
    new = one_more a (home_of t s)

    first-path : path_of new j ≡ home_of t s ∷ []
    first-path = push-last a.paths (home_of t s ∷ []) [] j (sym own ∙ one.verdicts ∙ sym one.paths)

    none-yet : NoTokens new
    none-yet = loose-none new (1 + count) (subst (λ p. Loose new p (1 + count)) own (fresh a count (home_of t s) one))

    first-verdict : verdict_on new j ≡ Dropped rule.Lost (record { 0 = home_of t s })
    first-verdict = push-last a.verdicts (Dropped rule.Lost (record { 0 = home_of t s })) (Delivered 0 (record { 0 = 0 }) 0) j (sym own)

    begins : Goes new
    begins = record {
      path = subst IsPath (sym first-path) (tt, λ x i. elim i [ inl e ↦ subst (λ y. y < length t.loopbacks) e home_below | inr n ↦ absurd n ]);
      spent = λ h. absurd (unlike h.0 (sym first-verdict ∙ h.1));
      tokens = λ at k i e. absurd (none-yet at k i e);
    }
      where
        unlike : (n : ℕ) → Dropped rule.Lost (record { 0 = home_of t s }) ≡ Dropped rule.TtlExpired (record { 0 = n }) → ⊥
        unlike n e = cc

    no_route : rule.NoRoute ≢ rule.TtlExpired
    no_route e = cc

    no_lsp : rule.NoLsp ≢ rule.TtlExpired
    no_lsp e = cc

    by_home : (r : HeldRoute) (b : Bool) → r.edge ≡ edge → 2 ≤ ttl_of bytes → Goes
        (elim b as (λ _. Packets) [
          | true ↦ deliver new (length a.verdicts) r.site (ttl_of bytes - 1) bytes
          | false ↦ hop_on t w new (bound (length a.verdicts) r bytes) (home_of t s) rule.NoLsp
        ])
    by_home r true e two = goes-calm new _ (calm-deliver j (length a.verdicts) new r.site (ttl_of bytes - 1) bytes) begins
    by_home r false e two =
        hops-on w new (bound (length a.verdicts) r bytes) [] (home_of t s) rule.NoLsp sends no_lsp none-yet begins first-path e
        (left (ttl_of bytes) (length (path_of new j)) two (ap length first-path) top_is)
      where
        left : (x y : ℕ) → 2 ≤ x → y ≡ 1 → x ≡ top → (x - 1) + y ≡ top
        left x y two one whole = omega (arith, two, one, whole)

    by_best : (o : Option HeldRoute) → best (eligible t w (home_of t s) (vrf_of t s) (destination_of bytes)) (destination_of bytes) ≡ o → 2 ≤ ttl_of bytes
        → Goes (route_by t w new (length a.verdicts) bytes (home_of t s) o)
    by_best None h two = goes-calm new _ (calm-drop j (length a.verdicts) new rule.NoRoute (home_of t s) no_route) begins
    by_best (Some r) h two = by_home r (r.edge == home_of t s) (bound_is r h) two

    -- one that has passed the rules has a TTL of at least 2
    passes : (a b c d e f g : Bool) → first_rule (when a rule.SiteDown ∷ when b rule.NotIpv4 ∷ when c rule.Malformed ∷ when d rule.Truncated
        ∷ when e rule.BadChecksum ∷ when f rule.TtlExpired ∷ when g rule.NotUnicast ∷ []) ≡ None → f ≡ false
    passes true b c d e f g h = cc
    passes false true c d e f g h = cc
    passes false false true d e f g h = cc
    passes false false false true e f g h = cc
    passes false false false false true f g h = cc
    passes false false false false false true g h = cc
    passes false false false false false false g h = refl

    two-left : nat_lt (ttl_of bytes) 2 ≡ false → 2 ≤ ttl_of bytes
    two-left h = not_less_tells (ttl_of bytes) 2 h

    few : nat_lt (ttl_of bytes) 2 ≡ true → top ≤ length (path_of new j)
    few h = less (ttl_of bytes) (length (path_of new j)) (less_tells (ttl_of bytes) 2 h) top_is (ap length first-path)
      where
        less : (x z : ℕ) → x < 2 → x ≡ top → z ≡ 1 → top ≤ z
        less x z two e f = omega (arith, two, e, f)

    by_rule : (o : Option Rule) → first_rule (entry_rules (w.config.attached s) bytes) ≡ o
        → Goes (enter_by t w new (length a.verdicts) bytes (home_of t s) (vrf_of t s) o)
    by_rule (Some cause) h = record {
      path = begins.path;
      spent = λ x. few (few-left (is_none (w.config.attached s)) (is_not_ipv4 bytes) (is_malformed bytes) (is_truncated bytes) (has_bad_checksum bytes)
          (nat_lt (ttl_of bytes) 2) (not (is_unicast (destination_of bytes))) (h ∙ ap (λ c. Some c) (cause-is x)));
      tokens = λ at k i e. absurd (none-yet at k i e);
    }
      where
        same : (n : ℕ) → Dropped cause (record { 0 = home_of t s }) ≡ Dropped rule.TtlExpired (record { 0 = n }) → cause ≡ rule.TtlExpired
        same n e = cc

        last-set : (vs : List Verdict) (v x d : Verdict) (j : ℕ) → length vs ≡ j → get_or (slice_set (vs ++ v ∷ []) (length vs) x) j d ≡ x
        last-set vs v x d j e = grind (arith, common_steps, e)

        cause-is : HasExpired (drop_at new (length a.verdicts) cause (home_of t s)) j → cause ≡ rule.TtlExpired
        cause-is x = same x.0
            (sym (last-set a.verdicts (Dropped rule.Lost (record { 0 = home_of t s })) (Dropped cause (record { 0 = home_of t s }))
            (Delivered 0 (record { 0 = 0 }) 0) j own) ∙ x.1)
    by_rule None h =
        by_best (best (eligible t w (home_of t s) (vrf_of t s) (destination_of bytes)) (destination_of bytes)) refl
        (two-left (passes (is_none (w.config.attached s)) (is_not_ipv4 bytes) (is_malformed bytes) (is_truncated bytes) (has_bad_checksum bytes)
        (nat_lt (ttl_of bytes) 2) (not (is_unicast (destination_of bytes))) h))

    pub enters : Goes (enter t w a s bytes)
    enters = by_rule (first_rule (entry_rules (w.config.attached s) bytes)) refl
