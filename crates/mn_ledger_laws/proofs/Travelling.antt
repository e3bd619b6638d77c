-- Each step keeps what is known of each packet: a packet that is sent, one that is carried, one that is lost, and a link that is cut.
use Rattle.std.proofs.Common.{ℕ, suc, ◌≡◌, ◌≢◌, ◌+◌, ◌-◌, ◌<◌, ◌≤◌, ◌⊎◌, inl, inr, Bool, true, false, List, [], ◌∷◌, ◌++◌, length, take, refl, arith, sym}
use Rattle.std.proofs.Common.{◌∙◌, ap, subst, Option, Some, None}
use Rattle.std.specs.Prelude.{◌==◌, ◌&&◌, ◌||◌, not, nat_le, is_none, slice_get, slice_index_or, IsTrue}
use Rattle.std.proofs.lemmas.Bool.Decides.{eqb_tells, leb_tells}
use Rattle.std.proofs.lemmas.List.{length-append}
use Rattle.mn_drops.specs.declared.drops.Rule.{Rule}
use Rattle.mn_drops.specs.declared.drops.Rule.TheVariants as rule
use Rattle.mn_wiring.specs.declared.links.Dir.{Dir}
use Rattle.mn_wiring.specs.declared.links.Dir.TheVariants.{Forth, Back}
use Rattle.mn_base.specs.declared.numbers.LinkNo.{LinkNo}
use Rattle.mn_base.specs.declared.numbers.NodeNo.{NodeNo}
use Rattle.mn_wiring.specs.Wiring.{link, sender, receiver}
use Rattle.mn_base.proofs.Bools.{clash, less_tells}
use Rattle.mn_base.proofs.Members.{contained_in}
use Rattle.mn_ipv4.specs.Header.{good, ttl_of, aged}
use Rattle.mn_ipv4.proofs.Laws.{IsGood-from_good, length-aged, ttl_of-aged, get_or-aged, good-aged, aged-aged}
use Rattle.mn_topo.specs.Lawful.{IsLawful}
use Rattle.mn_topo.specs.Network.{Network, wiring_of}
use Rattle.mn_topo.specs.declared.steps.Step.TheVariants.{LinkDown, Carry, Lose, Tick}
use Rattle.mn_topo.specs.declared.steps.JournalEntry.{JournalEntry}
use Rattle.mn_ledger.specs.declared.verdict.Verdict.{Verdict}
use Rattle.mn_ledger.specs.declared.verdict.Verdict.TheVariants.{Delivered, Dropped, Flying}
use Rattle.mn_ledger.specs.Places.{home_of}
use Rattle.mn_ledger.specs.World.{World}
use Rattle.mn_ledger.specs.Transport.{usable}
use Rattle.mn_ledger.specs.Held.{HeldRoute}
use Rattle.mn_ledger.specs.Packets.{Token, Packets, channel, flying_on, away_from, drop_at, visited, deliver, hop_over, taken, is_attachment, arrive, carry}
use Rattle.mn_ledger.specs.Packets.{lose, cut, before_step, stamped}
use Rattle.mn_ledger.specs.Verdicts.{injections, verdict_on}
use Rattle.mn_ledger.proofs.Members.{In}
use Rattle.mn_ledger.proofs.OnePlace.{loosen}
use Rattle.mn_ledger.proofs.Peers.{same_numbers}
use Rattle.mn_ledger_laws.specs.Accounts.{world_at, packets_at, Sending, IsSent, routes_at, AreJoined, GoesOver, path_of, IsItsPath, node_of, is_flying}
use Rattle.mn_ledger_laws.specs.Accounts.{ttl_left}
use Rattle.mn_ledger_laws.specs.Accounts.{IsPassedOn, FallsTo, arrival_rules, applies_at_arrival, EndsInFlight, HasOutlived}
use Rattle.mn_ledger_laws.specs.Named.{NamesItsSite}
use Rattle.mn_ledger_laws.proofs.At.{bytes_of, packets_step}
use Rattle.mn_ledger_laws.proofs.Elsewhere.{judged_here, visited_here, cut_here, cut_others, cut_paths, cut_counts, cut_off, in_pushed}
use Rattle.mn_ledger_laws.proofs.Expired.{later, timed_here, timed_older}
use Rattle.mn_ledger_laws.proofs.Moving.{after_time, carried_is, lost_is, cut_is, ticked_is, arrives}
use Rattle.mn_ledger_laws.proofs.There.{receiver_there, joined_over, IsHop, hop_is, goes_further}
use Rattle.mn_ledger_laws.proofs.Fates as fates
use Rattle.mn_ledger_laws.proofs.Fates.{frame_of, HasFlown, Flies, FateIs, IsKnown, placed, in_verdicts, in_paths, in_counts, where_it_flies, some_frame}
use Rattle.mn_ledger_laws.proofs.Fates.{flown_on}
use Rattle.mn_ledger.specs.Time.{clock_after, is_overdue, timed_by}

-- 1. The packet that arrives

pub passed : (b : List ℕ) (n ttl : ℕ) → IsTrue (good b) → ttl + n ≡ ttl_of b → IsPassedOn b ttl (aged b n)
passed b n ttl fine less = record {
  cut = length-aged b n (IsGood-from_good b fine);
  ttl_is = ttl_of-aged b n (IsGood-from_good b fine) ∙ left ttl n (ttl_of b) less;
  others = λ i p q r within. get_or-aged b n i p q r within;
  still_good = λ bytes. good-aged b n bytes fine;
}
  where
    left : (ttl n all : ℕ) → ttl + n ≡ all → all - n ≡ ttl
    left ttl n all h = omega (arith, h)

-- what is left, of what was pushed
aged_on : (b : List ℕ) (len : ℕ) → IsTrue (good b) → len + 2 ≤ ttl_of b → aged (aged b 1) (ttl_of (aged b 1) - (ttl_of b - len - 1)) ≡ aged b (1 + len)
aged_on b len fine h =
    ap (aged (aged b 1)) (ap (λ n. n - (ttl_of b - len - 1)) (ttl_of-aged b 1 (IsGood-from_good b fine)) ∙ count (ttl_of b) len h)
    ∙ aged-aged b 1 len (IsGood-from_good b fine)
  where
    count : (all len : ℕ) → len + 2 ≤ all → all - 1 - (all - len - 1) ≡ len
    count all len h = omega (arith, h)

two_left : (n : ℕ) → nat_le n 1 ≡ false → 2 ≤ n
two_left n h = elim (leb_tells n 1) [ inl q ↦ absurd (clash (sym q.0 ∙ h)) | inr q ↦ omega (arith, q.1) ]

is_it : (o : Option ℕ) (a : ℕ) → is_attachment o a ≡ true → o ≡ Some a
is_it None a h = absurd (clash (sym h))
is_it (Some b) a h = ap Some (same_numbers b a h)

-- 2. Rules at a node

expired : (t : Network) (w : World) (x : HeldRoute) (y ttl : ℕ) → nat_le ttl 1 ≡ true → FallsTo arrival_rules (applies_at_arrival t w x y ttl) rule.TtlExpired
expired t w x y ttl h = record { earlier = []; later = rule.SiteGone ∷ rule.NoEntry ∷ []; order = refl; here = h; not_before = refl }

gone : (t : Network) (w : World) (x : HeldRoute) (y ttl : ℕ) → nat_le ttl 1 ≡ false → (y == x.edge) ≡ true
    → is_attachment (w.config.attached x.site) x.attachment ≡ false → FallsTo arrival_rules (applies_at_arrival t w x y ttl) rule.SiteGone
gone t w x y ttl h at off = record {
  earlier = rule.TtlExpired ∷ [];
  later = rule.NoEntry ∷ [];
  order = refl;
  here = both (y == x.edge) (is_attachment (w.config.attached x.site) x.attachment) at off;
  not_before = ap (λ b. b || false) h;
}
  where
    both : (a b : Bool) → a ≡ true → b ≡ false → (a && not b) ≡ true
    both a b h g = rw (h, g) refl

stuck : (t : Network) (w : World) (x : HeldRoute) (y ttl : ℕ) → nat_le ttl 1 ≡ false → (y == x.edge) ≡ false
    → usable t w.config w.views w.sessions y x.edge ≡ None → FallsTo arrival_rules (applies_at_arrival t w x y ttl) rule.NoEntry
stuck t w x y ttl h far none = record {
  earlier = rule.TtlExpired ∷ rule.SiteGone ∷ [];
  later = [];
  order = refl;
  here = ap (λ b. not b && is_none (usable t w.config w.views w.sessions y x.edge)) far ∙ ap is_none none;
  not_before = neither (nat_le ttl 1) (y == x.edge) (not (is_attachment (w.config.attached x.site) x.attachment)) h far;
}
  where
    neither : (a b c : Bool) → a ≡ false → b ≡ false → (a || ((b && c) || false)) ≡ false
    neither a b c h g = rw (h, g) refl

-- 3. One packet's account, by its parts

-- what holds of routes that were held: they name what exists
abbrev pub HoldsSites : Network → List JournalEntry → Type 0
HoldsSites t es = (n site : ℕ) (x : HeldRoute) → n ≤ length es → site < length t.sites → In (routes_at t (world_at t es n) site) x
    → NamesItsSite t (world_at t es n).config (home_of t site) x

-- the packet has this verdict and path now
pub known_by : (t : Network) (es : List JournalEntry) (ps : List (List ℕ)) (s : Sending) (n : ℕ) (v : Verdict) (path : List ℕ) (q : Packets)
    → packets_at t es ps n ≡ q → verdict_on q s.packet ≡ v → path_of q s.packet ≡ path
    → IsItsPath t s.site v path → FateIs t es ps s n v → IsKnown t es ps s n
known_by t es ps s n v path q now is goes way fate =
    let is_now : verdict_on (packets_at t es ps n) s.packet ≡ v = ap (λ w. verdict_on w s.packet) now ∙ is in
    let goes_now : path_of (packets_at t es ps n) s.packet ≡ path = ap (λ w. path_of w s.packet) now ∙ goes in
    record {
      way = subst (λ x. IsItsPath t s.site x (path_of (packets_at t es ps n) s.packet)) (sym is_now) (subst (IsItsPath t s.site v) (sym goes_now) way);
      fate = subst (FateIs t es ps s n) (sym is_now) fate;
    }

-- the path with one node more
further : (t : Network) (site : ℕ) (v w : Verdict) (path : List ℕ) (y : ℕ) → IsItsPath t site v path → AreJoined t (node_of t v) y → node_of t w ≡ y
    → IsItsPath t site w (path ++ y ∷ [])
further t site v w path y h j is = record {
  rest = h.rest ++ y ∷ [];
  begins = ap (λ p. p ++ y ∷ []) h.begins;
  goes = subst (GoesOver t (home_of t site) (h.rest ++ y ∷ [])) (sym is) (goes_further t (home_of t site) h.rest (node_of t v) y h.goes j);
}

-- the same path, and another verdict at the same node
there_too : (t : Network) (site : ℕ) (v w : Verdict) (path : List ℕ) → IsItsPath t site v path → node_of t w ≡ node_of t v → IsItsPath t site w path
there_too t site v w path h is = record { rest = h.rest; begins = h.begins; goes = subst (GoesOver t (home_of t site) h.rest) (sym is) h.goes }

-- what is known of a packet's frame that a step takes
pub record Takes (t : Network) (es : List JournalEntry) (ps : List (List ℕ)) (s : Sending) (n : ℕ) (e : JournalEntry) (l : LinkNo) (d : Dir) : Type 0 where
  pub sent : IsSent es ps s
  pub below : s.place < n
  pub there : slice_get es n ≡ Some e
  pub is : verdict_on (packets_at t es ps n) s.packet ≡ Flying l d
  pub flies : Flies t es ps s n l
  pub way : IsItsPath t s.site (Flying l d) (path_of (packets_at t es ps n) s.packet)

pub takes : (t : Network) (es : List JournalEntry) (ps : List (List ℕ)) (s : Sending) (n : ℕ) (e : JournalEntry) (l : LinkNo) (d : Dir)
    → IsSent es ps s → s.place < n → slice_get es n ≡ Some e → IsKnown t es ps s n
    → verdict_on (packets_at t es ps n) s.packet ≡ Flying l d → Takes t es ps s n e l d
takes t es ps s n e l d sent below there h is = record {
  sent = sent;
  below = below;
  there = there;
  is = is;
  flies = subst (FateIs t es ps s n) is h.fate;
  way = subst (λ v. IsItsPath t s.site v (path_of (packets_at t es ps n) s.packet)) is h.way;
}

-- it ends in this step
falls_now : (t : Network) (es : List JournalEntry) (ps : List (List ℕ)) (s : Sending) (n : ℕ) (e : JournalEntry) (l : LinkNo) (d : Dir) (cause : Rule)
    (node : NodeNo) → (k : Takes t es ps s n e l d)
    → verdict_on (packets_at t es ps (suc n)) s.packet ≡ Dropped cause node
    → EndsInFlight t (world_at t es n) e.step l d k.flies.route (ttl_left s (path_of (packets_at t es ps n) s.packet)) cause node
    → (cause ≡ rule.Overdue → HasOutlived t (packets_at t es ps n) e l d s.packet)
    → fates.Falls t es ps s (suc n) cause node
falls_now t es ps s n e l d cause node k first how overdue = record {
  ends = record { when = n; entry = e; there = k.there; sent = omega (arith, k.below); past = omega arith; flown = k.flies.flown; first = first };
  how = inr (record { route = k.flies.route; bound = k.flies.bound; link = l; dir = d; flew = k.is; by_step = how; overdue = overdue });
}

length_more : (p : List ℕ) (y : ℕ) → length (p ++ y ∷ []) ≡ length p + 1
length_more p y = length-append p (y ∷ [])

not_overdue : (t : Network) (w : World) (x : HeldRoute) (node ttl : ℕ) (cause : Rule) → FallsTo arrival_rules (applies_at_arrival t w x node ttl) cause
    → cause ≡ rule.Overdue → ⊥
not_overdue t w x node ttl cause f q = clash (sym f.here ∙ ap (applies_at_arrival t w x node ttl) q)

lost_in_time : rule.Lost ≡ rule.Overdue → ⊥
lost_in_time q = cc

cut_in_time : rule.LinkCut ≡ rule.Overdue → ⊥
cut_in_time q = cc

-- 4. A frame that is carried

module _ (t : Network) (lawful : IsLawful t) (es : List JournalEntry) (ps : List (List ℕ)) (s : Sending) (n : ℕ) (e : JournalEntry) (l : LinkNo)
    (d : Dir) (place sent_at : ℕ) (k : Takes t es ps s n e l d)
    (carries : e.step ≡ Carry l d place)
    (at_place : slice_get ((packets_at t es ps n).flying (channel l.0 d)) place ≡ Some
    (frame_of s k.flies.route (path_of (packets_at t es ps n) s.packet) sent_at)) where
  abbrev path : List ℕ
  path = path_of (packets_at t es ps n) s.packet

  abbrev node : ℕ
  node = receiver (wiring_of t) l.0 d

  -- the packets once the frame has left the link, and its packet is at the node
  abbrev there_now : Packets
  there_now = visited (taken (before_step (later (packets_at t es ps n) (clock_after e))) l.0 d place) s.packet node

  abbrev frame : Token
  frame = frame_of s k.flies.route path sent_at

  inside : s.packet < length (packets_at t es ps n).verdicts
  inside = in_verdicts t es ps s n k.sent k.below

  path_now : path_of there_now s.packet ≡ path ++ node ∷ []
  path_now = visited_here (taken (before_step (later (packets_at t es ps n) (clock_after e))) l.0 d place) s.packet node (in_paths t es ps s n k.sent k.below)

  joined : AreJoined t (sender (wiring_of t) l.0 d) node
  joined = joined_over t l.0 d lawful k.flies.there

  dropped_there : (cause : Rule) → FallsTo arrival_rules (applies_at_arrival t (world_at t es n) k.flies.route node frame.ttl) cause
      → packets_at t es ps (suc n) ≡ drop_at there_now s.packet cause node → IsKnown t es ps s (suc n)
  dropped_there cause falls now =
      let v : Verdict = Dropped cause (record { 0 = node }) in
      let first : verdict_on (drop_at there_now s.packet cause node) s.packet ≡ v = judged_here there_now s.packet v inside in
      known_by t es ps s (suc n) v (path ++ node ∷ []) (drop_at there_now s.packet cause node) now first path_now
      (further t s.site (Flying l d) v path node k.way joined refl)
      (falls_now t es ps s n e l d cause (record { 0 = node }) k (ap (λ w. verdict_on w s.packet) now ∙ first)
      (subst (λ x. EndsInFlight t (world_at t es n) x l d k.flies.route frame.ttl cause (record { 0 = node })) (sym carries) (refl, refl, refl, falls))
      (λ q. absurd (not_overdue t (world_at t es n) k.flies.route node frame.ttl cause falls q)))

  delivered_there : nat_le frame.ttl 1 ≡ false → (node == k.flies.route.edge) ≡ true
      → is_attachment ((world_at t es n).config.attached k.flies.route.site) k.flies.route.attachment ≡ true
      → packets_at t es ps (suc n) ≡ deliver there_now s.packet k.flies.route.site (frame.ttl - 1) frame.bytes → IsKnown t es ps s (suc n)
  delivered_there lives at_edge attached now =
      let route : HeldRoute = k.flies.route in
      let copy : ℕ = (packets_at t es ps n).copies + 1 in
      let v : Verdict = Delivered (frame.ttl - 1) (record { 0 = route.site }) copy in
      let two : 2 ≤ ttl_of s.bytes - length path = two_left frame.ttl lives in
      let first : verdict_on (deliver there_now s.packet route.site (frame.ttl - 1) frame.bytes) s.packet ≡ v = judged_here there_now s.packet v inside in
      let now_path : path_of (packets_at t es ps (suc n)) s.packet ≡ path ++ node ∷ [] = ap (λ w. path_of w s.packet) now ∙ path_now in
      known_by t es ps s (suc n) v (path ++ node ∷ []) (deliver there_now s.packet route.site (frame.ttl - 1) frame.bytes) now first path_now
      (further t s.site (Flying l d) v path node k.way joined (k.flies.home ∙ sym (same_numbers node route.edge at_edge)))
      (record {
        route = route;
        bound = k.flies.bound;
        to_site = refl;
        ends = record {
          when = n;
          entry = e;
          there = k.there;
          sent = omega (arith, k.below);
          past = omega arith;
          flown = k.flies.flown;
          first = ap
              (λ w. verdict_on w s.packet) now ∙ first;
        };
        attached = is_it ((world_at t es n).config.attached route.site) route.attachment attached;
        lowered = omega (arith, two, ap length now_path, length_more path node);
        counted = refl;
        arrived = aged s.bytes (1 + length path);
        delivered = ap (λ (w : Packets). w.delivered) now ∙ ap Some (aged_on s.bytes (length path) k.flies.bound.is_good (omega (arith, two)));
        passed_on = passed s.bytes (1 + length path) (frame.ttl - 1) k.flies.bound.is_good (omega (arith, two));
      })

  -- it flies on
  flies_there : nat_le frame.ttl 1 ≡ false → (node == k.flies.route.edge) ≡ false → (hop : ℕ × ℕ)
      → usable t (world_at t es n).config (world_at t es n).views (world_at t es n).sessions node k.flies.route.edge ≡ Some hop
      → packets_at t es ps (suc n) ≡ hop_over t there_now (stamped there_now (record frame { ttl = frame.ttl - 1 })) node rule.NoEntry (Some hop) →
      IsKnown t es ps s (suc n)
  flies_there lives far hop can now =
      let to : IsHop t node hop = hop_is t (world_at t es n) node k.flies.route.edge hop lawful (receiver_there t l.0 d lawful k.flies.there)
      (apart node k.flies.route.edge far) can in
      let dir : Dir = away_from t hop.1 node in
      let link : LinkNo = record { 0 = hop.1 } in
      let v : Verdict = Flying link dir in
      let q : Packets = hop_over t there_now (stamped there_now (record frame { ttl = frame.ttl - 1 })) node rule.NoEntry (Some hop) in
      let two : 2 ≤ ttl_of s.bytes - length path = two_left frame.ttl lives in
      let first : verdict_on q s.packet ≡ v = judged_here there_now s.packet v inside in
      let now_path : path_of (packets_at t es ps (suc n)) s.packet ≡ path ++ node ∷ [] = ap (λ w. path_of w s.packet) now ∙ path_now in
      let flies_now : verdict_on (packets_at t es ps (suc n)) s.packet ≡ v = ap (λ w. verdict_on w s.packet) now ∙ first in
      known_by t es ps s (suc n) v (path ++ node ∷ []) q now first path_now (further t s.site (Flying l d) v path node k.way joined to.sends)
      (record {
        route = k.flies.route;
        bound = k.flies.bound;
        home = k.flies.home;
        there = to.there;
        left = omega (arith, two, ap length now_path, length_more path node);
        frames = λ c x i same. let j = subst (λ w. In (w.flying c) x) now i in new_frame c x j same ∙ frame_now (sym now_path) ∙ own_tick c x j same;
        flown = flown_now flies_now;
      })
    where
      apart : (a b : ℕ) → (a == b) ≡ false → a ≢ b
      apart a b h q = elim (eqb_tells a b) [ inl p ↦ clash (sym p.0 ∙ h) | inr p ↦ p.1 q ]

      flown_now : verdict_on (packets_at t es ps (suc n)) s.packet ≡ Flying (record { 0 = hop.1 }) (away_from t hop.1 node) → HasFlown t es ps s (suc n)
      flown_now h = flown_on t es ps s n k.flies.flown (ap is_flying h)

      one_less : (all len more : ℕ) → more ≡ len + 1 → all - len - 1 ≡ all - more
      one_less all len more h = omega (arith, h)

      frame_now : path ++ node ∷ [] ≡ path_of (packets_at t es ps (suc n)) s.packet
          → stamped there_now (record frame { ttl = frame.ttl - 1 })
          ≡ frame_of s k.flies.route (path_of (packets_at t es ps (suc n)) s.packet) (clock_after e)
      frame_now h =
          ap (λ m. record (frame_of s k.flies.route path (clock_after e)) { ttl = m })
          (one_less (ttl_of s.bytes) (length path) (length (path_of (packets_at t es ps (suc n)) s.packet)) (ap length (sym h) ∙ length_more path node))

      none_left : (c : ℕ) (x : Token) → In (there_now.flying c) x → x.packet ≢ s.packet
      none_left c x i same =
          none_counted (subst (λ m. 1 ≤ m)
          ((loosen (packets_at t es ps n) (channel l.0 d) place (injections (take n es)) frame (placed t es ps n) at_place).none c)
          (in_counts s.packet (there_now.flying c) x i same))
        where
          none_counted : 1 ≤ 0 → ⊥
          none_counted h = omega (arith, h)

      new_frame : (c : ℕ) (x : Token) →
          In ((hop_over t there_now (stamped there_now (record frame { ttl = frame.ttl - 1 })) node rule.NoEntry (Some hop)).flying c) x
          → x.packet ≡ s.packet → x ≡ stamped there_now (record frame { ttl = frame.ttl - 1 })
      new_frame c x i same = by_place (in_pushed there_now.flying (channel hop.1 (away_from t hop.1 node))
          (stamped there_now (record frame { ttl = frame.ttl - 1 })) c x i)
        where
          by_place : In (there_now.flying c) x ⊎ (stamped there_now (record frame { ttl = frame.ttl - 1 }) ≡ x)
              → x ≡ stamped there_now (record frame { ttl = frame.ttl - 1 })
          by_place h = elim h [ inl j ↦ absurd (none_left c x j same) | inr q ↦ sym q ]

      own_tick : (c : ℕ) (x : Token) →
          In ((hop_over t there_now (stamped there_now (record frame { ttl = frame.ttl - 1 })) node rule.NoEntry (Some hop)).flying c) x
          → x.packet ≡ s.packet → frame_of s k.flies.route (path_of (packets_at t es ps (suc n)) s.packet) (clock_after e)
          ≡ frame_of s k.flies.route (path_of (packets_at t es ps (suc n)) s.packet) x.sent
      own_tick c x i same = ap (λ (y : Token). frame_of s k.flies.route (path_of (packets_at t es ps (suc n)) s.packet) y.sent) (sym (new_frame c x i same))

  carried_to : packets_at t es ps (suc n) ≡ arrive t (world_at t es n) there_now frame node
  carried_to =
      packets_step t es ps n e k.there
      ∙ ap (λ x. after_time t (clock_after e) (world_at t es n) (packets_at t es ps n) x (bytes_of ps (injections (take n es)))) carries
      ∙ carried_is t (world_at t es n) (later (packets_at t es ps n) (clock_after e)) l d place (bytes_of ps (injections (take n es)))
      ∙ ap (carry t (world_at t es n) (taken (before_step (later (packets_at t es ps n) (clock_after e))) l.0 d place) node) at_place

  pub carried_known : IsKnown t es ps s (suc n)
  carried_known = arrives (λ w. packets_at t es ps (suc n) ≡ w → IsKnown t es ps s (suc n)) t (world_at t es n) there_now frame node (record {
    expires = λ h. dropped_there rule.TtlExpired (expired t (world_at t es n) k.flies.route node frame.ttl h);
    delivered = delivered_there;
    gone = λ h g f. dropped_there rule.SiteGone (gone t (world_at t es n) k.flies.route node frame.ttl h g f);
    stuck = λ h g f. dropped_there rule.NoEntry (stuck t (world_at t es n) k.flies.route node frame.ttl h g f);
    flies = flies_there;
  }) carried_to

-- 5. A frame that is lost, and a link that is cut

module _ (t : Network) (es : List JournalEntry) (ps : List (List ℕ)) (s : Sending) (n : ℕ) (e : JournalEntry) (l : LinkNo) (d : Dir)
    (k : Takes t es ps s n e l d) where
  abbrev path_before : List ℕ
  path_before = path_of (packets_at t es ps n) s.packet

  abbrev sender_of : ℕ
  sender_of = sender (wiring_of t) l.0 d

  -- it is dropped by the node that sent it
  dropped_on_link : (cause : Rule) (q : Packets) → packets_at t es ps (suc n) ≡ q → verdict_on q s.packet ≡ Dropped cause (record { 0 = sender_of })
      → path_of q s.packet ≡ path_before
      → EndsInFlight t (world_at t es n) e.step l d k.flies.route (ttl_left s path_before) cause (record { 0 = sender_of })
      → (cause ≡ rule.Overdue → HasOutlived t (packets_at t es ps n) e l d s.packet) → IsKnown t es ps s (suc n)
  dropped_on_link cause q now first same how overdue =
      known_by t es ps s (suc n) (Dropped cause (record { 0 = sender_of })) path_before q now first same
      (there_too t s.site (Flying l d) (Dropped cause (record { 0 = sender_of })) path_before k.way refl)
      (falls_now t es ps s n e l d cause (record { 0 = sender_of }) k (ap (λ w. verdict_on w s.packet) now ∙ first) how overdue)

  pub lost_known : (place : ℕ) (frame : Token) → e.step ≡ Lose l d place
      → slice_get ((packets_at t es ps n).flying (channel l.0 d)) place ≡ Some frame → frame.packet ≡ s.packet → IsKnown t es ps s (suc n)
  lost_known place frame loses at_place same =
      let u : Packets = taken (before_step (later (packets_at t es ps n) (clock_after e))) l.0 d place in
      dropped_on_link rule.Lost (drop_at u frame.packet rule.Lost sender_of)
      (packets_step t es ps n e k.there
      ∙ ap (λ x. after_time t (clock_after e) (world_at t es n) (packets_at t es ps n) x (bytes_of ps (injections (take n es)))) loses
      ∙ lost_is t (world_at t es n) (later (packets_at t es ps n) (clock_after e)) l d place (bytes_of ps (injections (take n es)))
      ∙ ap (lose u sender_of) at_place)
      (ap (λ j. verdict_on (drop_at u j rule.Lost sender_of) s.packet) same
      ∙ judged_here u s.packet (Dropped rule.Lost (record { 0 = sender_of })) (in_verdicts t es ps s n k.sent k.below))
      refl
      (subst (λ x. EndsInFlight t (world_at t es n) x l d k.flies.route (ttl_left s path_before) rule.Lost (record { 0 = sender_of })) (sym loses)
      (refl, refl, refl, refl)) (λ q. absurd (lost_in_time q))

  -- time goes by, and its frame is overdue
  pub expired_known : (ticks : ℕ) (frame : Token) → e.step ≡ Tick ticks → In ((packets_at t es ps n).flying (channel l.0 d)) frame → frame.packet ≡ s.packet
      → is_overdue t (clock_after e) l.0 frame ≡ true
      → ((m : ℕ) (b : Dir) (x : Token) → In (flying_on (packets_at t es ps n) m b) x → x.packet ≡ s.packet → (m ≡ l.0) × (b ≡ d)) → IsKnown t es ps s (suc n)
  expired_known ticks frame is on same late only =
      let c : ℕ = clock_after e in
      let w : Packets = packets_at t es ps n in
      let below : frame.packet < length w.verdicts = subst (λ j. j < length w.verdicts) (sym same) (in_verdicts t es ps s n k.sent k.below) in
      dropped_on_link rule.Overdue (before_step (timed_by t c (Tick ticks) w))
      (packets_step t es ps n e k.there ∙ ap (λ x. after_time t c (world_at t es n) w x (bytes_of ps (injections (take n es)))) is
      ∙ ticked_is t c (world_at t es n) w ticks (bytes_of ps (injections (take n es))))
      (ap (verdict_on (timed_by t c (Tick ticks) w)) (sym same)
      ∙ timed_here t c ticks l.0 d frame w k.flies.there on late below
      (λ m b x i q. let at = only m b x i (q ∙ same) in ap (λ a. sender (wiring_of t) a b) at.0 ∙ ap (sender (wiring_of t) l.0) at.1))
      (ap (λ ps. slice_index_or ps s.packet []) (timed_older t c ticks w).paths)
      (subst (λ x. EndsInFlight t (world_at t es n) x l d k.flies.route (ttl_left s path_before) rule.Overdue (record { 0 = sender_of })) (sym is) (refl, refl))
      (λ q. record {
        frame = frame;
        flies = contained_in (flying_on w l.0 d) frame on;
        carries = same;
        outlived = less_tells (frame.sent + (link (wiring_of t) l.0).life) c late;
      })

  abbrev now_cut : Packets
  now_cut = cut t (cut t (before_step (later (packets_at t es ps n) (clock_after e))) l.0 Forth) l.0 Back

  cut_to : e.step ≡ LinkDown l → packets_at t es ps (suc n) ≡ now_cut
  cut_to cuts =
      packets_step t es ps n e k.there
      ∙ ap (λ x. after_time t (clock_after e) (world_at t es n) (packets_at t es ps n) x (bytes_of ps (injections (take n es)))) cuts
      ∙ cut_is t (world_at t es n) (later (packets_at t es ps n) (clock_after e)) l (bytes_of ps (injections (take n es)))

  cut_path : path_of now_cut s.packet ≡ path_before
  cut_path =
      ap (λ ps. slice_index_or ps s.packet [])
      (cut_paths (flying_on (cut t begun l.0 Forth) l.0 Back) (cut t begun l.0 Forth) (channel l.0 Back) (sender (wiring_of t) l.0 Back)
      ∙ cut_paths (flying_on begun l.0 Forth) begun (channel l.0 Forth) (sender (wiring_of t) l.0 Forth))
    where
      begun : Packets
      begun = before_step (later (packets_at t es ps n) (clock_after e))

-- where a frame flies is one direction
one_way : (l : LinkNo) → Flying l Forth ≡ Flying l Back → ⊥
one_way l h = cc

cut_verdict : (t : Network) (es : List JournalEntry) (ps : List (List ℕ)) (s : Sending) (n : ℕ) (l : LinkNo) (clock : ℕ) (d : Dir) → IsSent es ps s →
    s.place < n
    → verdict_on (packets_at t es ps n) s.packet ≡ Flying l d
    → verdict_on (cut t (cut t (before_step (later (packets_at t es ps n) clock)) l.0 Forth) l.0 Back) s.packet ≡ Dropped rule.LinkCut
    (record { 0 = sender (wiring_of t) l.0 d })
cut_verdict t es ps s n l clock Forth sent below is =
    let w : Packets = before_step (later (packets_at t es ps n) clock) in
    let first : Packets = cut t w l.0 Forth in
    let frame = some_frame (packets_at t es ps n) (injections (take n es)) s.packet l Forth (placed t es ps n) is in
    let dropped : verdict_on first s.packet ≡ Dropped rule.LinkCut (record { 0 = sender (wiring_of t) l.0 Forth }) =
    ap (verdict_on first) (sym frame.2)
    ∙ cut_here (flying_on w l.0 Forth) w (channel l.0 Forth) (sender (wiring_of t) l.0 Forth) frame.0 frame.1
    (subst (λ j. j < length (packets_at t es ps n).verdicts) (sym frame.2) (in_verdicts t es ps s n sent below)) in
    (cut_off (flying_on first l.0 Back) first (channel l.0 Back) (sender (wiring_of t) l.0 Back) s.packet
    (λ x i same. one_way l
    (sym is ∙ ap (verdict_on (packets_at t es ps n)) (sym same)
    ∙ where_it_flies (packets_at t es ps n) (injections (take n es)) l Back x (placed t es ps n) (back_is x i))) (λ x i. i)).verdict
    ∙ dropped
  where
    apart : channel l.0 Back ≢ channel l.0 Forth
    apart h = omega (arith, h)

    back_is : (x : Token) → In ((cut t (before_step (later (packets_at t es ps n) clock)) l.0 Forth).flying (channel l.0 Back)) x
        → In ((packets_at t es ps n).flying (channel l.0 Back)) x
    back_is x i = subst (λ xs. In xs x)
        (cut_others (flying_on (packets_at t es ps n) l.0 Forth) (before_step (later (packets_at t es ps n) clock)) (channel l.0 Forth)
        (sender (wiring_of t) l.0 Forth) (channel l.0 Back) apart) i
cut_verdict t es ps s n l clock Back sent below is =
    let w : Packets = before_step (later (packets_at t es ps n) clock) in
    let first : Packets = cut t w l.0 Forth in
    let frame = some_frame (packets_at t es ps n) (injections (take n es)) s.packet l Back (placed t es ps n) is in
    ap (verdict_on (cut t first l.0 Back)) (sym frame.2)
    ∙ cut_here (flying_on first l.0 Back) first (channel l.0 Back) (sender (wiring_of t) l.0 Back) frame.0
    (subst (λ xs. In xs frame.0)
    (sym (cut_others (flying_on w l.0 Forth) w (channel l.0 Forth) (sender (wiring_of t) l.0 Forth) (channel l.0 Back) apart)) frame.1)
    (subst (λ m. frame.0.packet < m) (sym (cut_counts (flying_on w l.0 Forth) w (channel l.0 Forth) (sender (wiring_of t) l.0 Forth)).2)
    (subst (λ j. j < length (packets_at t es ps n).verdicts) (sym frame.2) (in_verdicts t es ps s n sent below)))
  where
    apart : channel l.0 Back ≢ channel l.0 Forth
    apart h = omega (arith, h)

pub cut_known : (t : Network) (es : List JournalEntry) (ps : List (List ℕ)) (s : Sending) (n : ℕ) (e : JournalEntry) (l : LinkNo) (d : Dir)
    → Takes t es ps s n e l d → e.step ≡ LinkDown l → IsKnown t es ps s (suc n)
cut_known t es ps s n e l d k cuts =
    dropped_on_link t es ps s n e l d k rule.LinkCut (now_cut t es ps s n e l d k) (cut_to t es ps s n e l d k cuts)
    (cut_verdict t es ps s n l (clock_after e) d k.sent k.below k.is) (cut_path t es ps s n e l d k)
    (subst (λ x. EndsInFlight t (world_at t es n) x l d k.flies.route (ttl_left s (path_of (packets_at t es ps n) s.packet)) rule.LinkCut
    (record { 0 = sender (wiring_of t) l.0 d })) (sym cuts) (refl, refl, refl)) (λ q. absurd (cut_in_time q))
