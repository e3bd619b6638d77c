-- A packet that is sent; and what is known of each packet after every step.
use Rattle.std.proofs.Common.{ℕ, zero, suc, ◌≡◌, ◌≢◌, ◌+◌, ◌-◌, ◌<◌, ◌≤◌, ◌⊎◌, inl, inr, true, false, List, [], ◌∷◌, ◌++◌, length, take, refl, arith, sym}
use Rattle.std.proofs.Common.{◌∙◌, ap, subst, Option, Some, None}
use Rattle.std.specs.Prelude.{◌==◌, nat_le, nat_lt, slice_get, slice_index_or}
use Rattle.std.proofs.lemmas.Bool.{and_parts, ltb-true}
use Rattle.std.proofs.lemmas.Bool.Decides.{eqb_tells}
use Rattle.std.proofs.lemmas.List.{length_push}
use Rattle.std.proofs.lemmas.Option.{same_Some, get_or_from_slice_get, slice_get_within}
use Rattle.mn_drops.specs.declared.drops.Rule.{Rule}
use Rattle.mn_drops.specs.declared.drops.Rule.TheVariants as rule
use Rattle.mn_wiring.specs.declared.links.Dir.{Dir}
use Rattle.mn_base.specs.declared.numbers.LinkNo.{LinkNo}
use Rattle.mn_base.proofs.Bools.{clash, two_ways}
use Rattle.mn_ipv4.specs.Header.{ttl_of, destination_of, aged}
use Rattle.mn_topo.specs.Lawful.{IsLawful}
use Rattle.mn_topo.specs.Network.{Network}
use Rattle.mn_topo.specs.Steps.{fits}
use Rattle.mn_topo.specs.declared.steps.Step.{Step}
use Rattle.mn_topo.specs.declared.steps.Step.TheVariants.{LinkDown, Inject, Carry, Lose, Tick}
use Rattle.mn_topo.specs.declared.steps.JournalEntry.{JournalEntry}
use Rattle.mn_ledger.specs.declared.verdict.Verdict.{Verdict}
use Rattle.mn_ledger.specs.declared.verdict.Verdict.TheVariants.{Delivered, Dropped, Flying}
use Rattle.mn_ledger.specs.Entry.{first_rule}
use Rattle.mn_ledger.specs.Lawful.{IsLawfulJournal}
use Rattle.mn_ledger.specs.Places.{home_of, vrf_of}
use Rattle.mn_ledger.specs.Transport.{usable}
use Rattle.mn_ledger.specs.Held.{HeldRoute}
use Rattle.mn_ledger.specs.Packets as packets
use Rattle.mn_ledger.specs.Packets.{Token, Packets, channel, away_from, drop_at, deliver, hop_over, bound, enter_by, one_more, before_step, flying_on}
use Rattle.mn_ledger.specs.Verdicts.{injections, verdict_on, times_by}
use Rattle.mn_ledger.specs.Best.{NamesTheBest}
use Rattle.mn_ledger.proofs.Eligible.{fair_choice}
use Rattle.mn_ledger.proofs.Members.{In, in_contained}
use Rattle.mn_ledger.proofs.Peers.{same_numbers}
use Rattle.mn_ledger_laws.specs.Accounts.{world_at, packets_at, Sending, IsSent, routes_at, eligible_at, MayEnter, path_of, is_flying}
use Rattle.mn_ledger_laws.specs.Named.{NamesItsSite}
use Rattle.mn_ledger_laws.proofs.At.{bytes_of, packets_step, lawful_step, lawful_at}
use Rattle.mn_ledger_laws.proofs.Elsewhere.{judged_here, in_pushed, push_here}
use Rattle.mn_ledger_laws.proofs.Entering.{Falls, may_enter, enters}
use Rattle.mn_ledger_laws.proofs.Moving.{injected_is, Leaves, after_time}
use Rattle.mn_ledger_laws.proofs.There.{home_there, IsHop, hop_is}
use Rattle.mn_ledger_laws.proofs.Fates.{frame_of, Ends, HasFlown, IsKnown, placed, none_yet, left_known, leaves_ended, where_it_flies, in_get, some_frame}
use Rattle.mn_ledger_laws.proofs.Travelling.{HoldsSites, known_by, passed, takes, carried_known, lost_known, cut_known, expired_known}
use Rattle.mn_ledger.specs.Packets.{stamped}
use Rattle.mn_ledger.specs.Time.{clock_after, is_overdue}
use Rattle.mn_ledger.proofs.OnePlace.{one_same}
use Rattle.mn_ledger_laws.proofs.Expired.{later}
use Rattle.mn_ledger_laws.proofs.Fates.{only_one, where_flying, the_frame}

-- 1. The step in which it is sent

module _ (t : Network) (lawful : IsLawful t) (es : List JournalEntry) (ps : List (List ℕ)) (journal : IsLawfulJournal t es ps)
    (holds : HoldsSites t es) (s : Sending) (sent : IsSent es ps s) where
  abbrev before : Packets
  before = packets_at t es ps s.place

  abbrev home : ℕ
  home = home_of t s.site

  -- the packets with one more, at the edge of the site
  abbrev with_it : Packets
  with_it = one_more (before_step (later before (clock_after sent.entry))) home

  number_is : length before.verdicts ≡ s.packet
  number_is = (placed t es ps s.place).verdicts ∙ sent.earlier

  inside : s.packet < length with_it.verdicts
  inside = omega (arith, number_is, length_push before.verdicts (Dropped rule.Lost (record { 0 = home })))

  path_is : path_of with_it s.packet ≡ home ∷ []
  path_is =
      ap (λ j. slice_index_or (before.paths ++ (home ∷ []) ∷ []) j []) (sym ((placed t es ps s.place).paths ∙ sent.earlier))
      ∙ push_here before.paths (home ∷ []) []

  bytes_are : bytes_of ps (injections (take s.place es)) ≡ s.bytes
  bytes_are = ap (bytes_of ps) sent.earlier ∙ get_or_from_slice_get ps s.packet s.bytes [] sent.content

  pub site_there : s.site < length t.sites
  site_there =
      ltb-true _ _ (and_parts (nat_lt s.site (length t.sites)) (nat_le 1 sent.number)
      (ap (fits t) (sym sent.injects) ∙ (lawful_step t es ps s.place sent.entry sent.there journal).fitting)).0

  entered_to : packets_at t es ps (suc s.place) ≡ enter_by t (world_at t es s.place) with_it s.packet s.bytes home (vrf_of t s.site)
      (first_rule (packets.entry_rules ((world_at t es s.place).config.attached s.site) s.bytes))
  entered_to =
      packets_step t es ps s.place sent.entry sent.there
      ∙ ap (λ x. after_time t (clock_after sent.entry) (world_at t es s.place) before x (bytes_of ps (injections (take s.place es)))) sent.injects
      ∙ ap (after_time t (clock_after sent.entry) (world_at t es s.place) before (Inject (record { 0 = s.site }) sent.number)) bytes_are
      ∙ injected_is t (world_at t es s.place) (later before (clock_after sent.entry)) (record { 0 = s.site }) sent.number s.bytes
      ∙ ap (λ j. enter_by t (world_at t es s.place) with_it j s.bytes home (vrf_of t s.site)
      (first_rule (packets.entry_rules ((world_at t es s.place).config.attached s.site) s.bytes))) number_is

  not_flown : HasFlown t es ps s s.place
  not_flown count low high = absurd (none count s.place low high)
    where
      none : (m n : ℕ) → n < m → m ≤ n → ⊥
      none m n h g = omega (arith, h, g)

  -- this step gave it its verdict
  abbrev ended : (v : Verdict) → verdict_on (packets_at t es ps (suc s.place)) s.packet ≡ v → Ends t es ps s (suc s.place) v
  ended v first = record {
    when = s.place;
    entry = sent.entry;
    there = sent.there;
    sent = omega arith;
    past = omega arith;
    flown = not_flown;
    first = first;
  }

  fallen : (cause : Rule) → Falls t (world_at t es s.place) s.site s.bytes cause
      → packets_at t es ps (suc s.place) ≡ drop_at with_it s.packet cause home → IsKnown t es ps s (suc s.place)
  fallen cause falls now =
      let v : Verdict = Dropped cause (record { 0 = home }) in
      let first : verdict_on (drop_at with_it s.packet cause home) s.packet ≡ v = judged_here with_it s.packet v inside in
      known_by t es ps s (suc s.place) v (home ∷ []) (drop_at with_it s.packet cause home) now first path_is (record { rest = []; begins = refl; goes = refl })
      (record {
        ends = ended v (ap (λ w. verdict_on w s.packet) now ∙ first);
        how = inl (record { at_once = refl; at_edge = refl; by_rule = falls });
      })

  names : (x : HeldRoute) → MayEnter t (world_at t es s.place) s.site s.bytes x → NamesItsSite t (world_at t es s.place).config home x
  names x may = holds s.place s.site x (within (slice_get_within es s.place sent.entry sent.there)) site_there
      (in_contained (routes_at t (world_at t es s.place) s.site) x may.is_held)
    where
      within : s.place < length es → s.place ≤ length es
      within h = omega (arith, h)

  delivered_here : (x : HeldRoute) → MayEnter t (world_at t es s.place) s.site s.bytes x → (x.edge == home) ≡ true
      → packets_at t es ps (suc s.place) ≡ deliver with_it s.packet x.site (ttl_of s.bytes - 1) s.bytes → IsKnown t es ps s (suc s.place)
  delivered_here x may near now =
      let v : Verdict = Delivered (ttl_of s.bytes - 1) (record { 0 = x.site }) (before.copies + 1) in
      let first : verdict_on (deliver with_it s.packet x.site (ttl_of s.bytes - 1) s.bytes) s.packet ≡ v = judged_here with_it s.packet v inside in
      let now_path : path_of (packets_at t es ps (suc s.place)) s.packet ≡ home ∷ [] = ap (λ w. path_of w s.packet) now ∙ path_is in
      let site = names x may in
      let at_edge : x.edge ≡ home = same_numbers x.edge home near in
      known_by t es ps s (suc s.place) v (home ∷ []) (deliver with_it s.packet x.site (ttl_of s.bytes - 1) s.bytes) now first path_is
      (record { rest = []; begins = refl; goes = sym (site.home ∙ at_edge) })
      (record {
        route = x;
        bound = may;
        to_site = refl;
        ends = ended v (ap (λ w. verdict_on w s.packet) now ∙ first);
        attached = site.present at_edge;
        lowered = omega (arith, may.lives, ap length now_path);
        counted = refl;
        arrived = aged s.bytes 1;
        delivered = ap (λ (w : Packets). w.delivered) now ∙ ap (λ m. Some (aged s.bytes m)) (one (ttl_of s.bytes) may.lives);
        passed_on = passed s.bytes 1 (ttl_of s.bytes - 1) may.is_good (omega (arith, may.lives));
      })
    where
      one : (n : ℕ) → 2 ≤ n → n - (n - 1) ≡ 1
      one n h = omega (arith, h)

  flies_off : (x : HeldRoute) (hop : ℕ × ℕ) → MayEnter t (world_at t es s.place) s.site s.bytes x → (x.edge == home) ≡ false
      → usable t (world_at t es s.place).config (world_at t es s.place).views (world_at t es s.place).sessions home x.edge ≡ Some hop
      → packets_at t es ps (suc s.place) ≡ hop_over t with_it (stamped with_it (bound s.packet x s.bytes)) home rule.NoLsp (Some hop) →
      IsKnown t es ps s (suc s.place)
  flies_off x hop may far can now =
      let to : IsHop t home hop = hop_is t (world_at t es s.place) home x.edge hop lawful (home_there t s.site lawful site_there) (apart x.edge home far) can in
      let v : Verdict = Flying (record { 0 = hop.1 }) (away_from t hop.1 home) in
      let q : Packets = hop_over t with_it (stamped with_it (bound s.packet x s.bytes)) home rule.NoLsp (Some hop) in
      let first : verdict_on q s.packet ≡ v = judged_here with_it s.packet v inside in
      let now_path : path_of (packets_at t es ps (suc s.place)) s.packet ≡ home ∷ [] = ap (λ w. path_of w s.packet) now ∙ path_is in
      let site = names x may in
      known_by t es ps s (suc s.place) v (home ∷ []) q now first path_is (record { rest = []; begins = refl; goes = sym to.sends })
      (record {
        route = x;
        bound = may;
        home = site.home;
        there = to.there;
        left = omega (arith, may.lives, ap length now_path);
        frames = λ c k i same. only_frame c k (subst (λ w. In (w.flying c) k) now i) same ∙ ap (λ p. frame_of s x p k.sent) (sym now_path);
        flown = λ count low high. subst (λ m. is_flying (verdict_on (packets_at t es ps m) s.packet) ≡ true)
            (sym (one_more_is count s.place low high)) (ap (λ w. is_flying (verdict_on w s.packet)) now ∙ ap is_flying first);
      })
    where
      apart : (a b : ℕ) → (a == b) ≡ false → b ≢ a
      apart a b h q = elim (eqb_tells a b) [ inl p ↦ clash (sym p.0 ∙ h) | inr p ↦ p.1 (sym q) ]

      one_more_is : (m n : ℕ) → n < m → m ≤ suc n → m ≡ suc n
      one_more_is m n h g = omega (arith, h, g)

      only_frame : (c : ℕ) (k : Token) → In ((hop_over t with_it (stamped with_it (bound s.packet x s.bytes)) home rule.NoLsp (Some hop)).flying c) k
          → k.packet ≡ s.packet → k ≡ frame_of s x (home ∷ []) k.sent
      only_frame c k i same = by_place (in_pushed with_it.flying (channel hop.1 (away_from t hop.1 home)) (stamped with_it (bound s.packet x s.bytes)) c k i)
        where
          by_place : In (before.flying c) k ⊎ (stamped with_it (bound s.packet x s.bytes) ≡ k) → k ≡ frame_of s x (home ∷ []) k.sent
          by_place h = elim h [
            | inl j ↦ absurd (none_yet t es ps s.place s.packet c k (at_most sent.earlier) j same)
            | inr q ↦ sym q
                ∙ ap (λ (y : Token). frame_of s x (home ∷ []) y.sent) q
          ]
            where
              at_most : {m n : ℕ} → m ≡ n → m ≤ n
              at_most q = omega (arith, q)

  names_one : NamesTheBest (eligible_at t (world_at t es s.place) s.site s.bytes) (destination_of s.bytes)
  names_one = (fair_choice t (take s.place es) ps lawful (lawful_at t es ps s.place journal) home (vrf_of t s.site) (destination_of s.bytes)).names

  pub entered_known : IsKnown t es ps s (suc s.place)
  entered_known = enters (λ w. packets_at t es ps (suc s.place) ≡ w → IsKnown t es ps s (suc s.place)) t
      (world_at t es s.place) with_it s.packet s.site s.bytes (record {
        falls = fallen;
        delivered = λ x p h e now. delivered_here x (may_enter t (world_at t es s.place) s.site s.bytes x p h names_one) e now;
        flies = λ x hop p h e can now. flies_off x hop (may_enter t (world_at t es s.place) s.site s.bytes x p h names_one) e can now;
      }) entered_to

-- 2. Every step

pub none_at : (k : Token) → None ≡ Some k → ⊥
none_at k h = cc

frame_at : (o : Option Token) → (o ≡ None) ⊎ ((k : Token) × (o ≡ Some k))
frame_at None = inl refl
frame_at (Some k) = inr (k, refl)

module _ (t : Network) (lawful : IsLawful t) (es : List JournalEntry) (ps : List (List ℕ)) (journal : IsLawfulJournal t es ps) (holds : HoldsSites t es) where
  -- where a step takes what stands at a place of a link: it is a frame of the packet, which flies there, or none is
  at_place : (s : Sending) (n : ℕ) (k : LinkNo) (b : Dir) (place : ℕ) →
      (((f : Token) → slice_get ((packets_at t es ps n).flying (channel k.0 b)) place ≡ Some f → s.packet ≢ f.packet) → IsKnown t es ps s (suc n))
      → ((f : Token) → slice_get ((packets_at t es ps n).flying (channel k.0 b)) place ≡ Some f → f.packet ≡ s.packet
      → In ((packets_at t es ps n).flying (channel k.0 b)) f → verdict_on (packets_at t es ps n) s.packet ≡ Flying k b → IsKnown t es ps s (suc n))
      → IsKnown t es ps s (suc n)
  at_place s n k b place leave take_it = by_frame (frame_at (slice_get ((packets_at t es ps n).flying (channel k.0 b)) place))
    where
      taken : (f : Token) → slice_get ((packets_at t es ps n).flying (channel k.0 b)) place ≡ Some f → f.packet ≡ s.packet → IsKnown t es ps s (suc n)
      taken f at same =
          let on : In ((packets_at t es ps n).flying (channel k.0 b)) f = in_get ((packets_at t es ps n).flying (channel k.0 b)) place f at in
          take_it f at same on (ap (verdict_on (packets_at t es ps n)) (sym same)
          ∙ where_it_flies (packets_at t es ps n) (injections (take n es)) k b f (placed t es ps n) on)

      by_frame : (slice_get ((packets_at t es ps n).flying (channel k.0 b)) place ≡ None) ⊎
          ((f : Token) × (slice_get ((packets_at t es ps n).flying (channel k.0 b)) place ≡ Some f)) → IsKnown t es ps s (suc n)
      by_frame o = elim o [
        | inl q ↦ leave (λ f g. absurd (none_at f (sym q ∙ g)))
        | inr q ↦ elim (eqb_tells q.0.packet s.packet) [
          | inl p ↦ taken q.0 q.1 p.1
          | inr p ↦ leave (λ f g same. p.1 (ap (λ (z : Token). z.packet) (same_Some q.0 f (sym q.1 ∙ g)) ∙ sym same))
        ]
      ]

  -- a step while the packet flies
  flying_step : (s : Sending) (n : ℕ) (e : JournalEntry) (x : Step) → e.step ≡ x → IsSent es ps s → s.place < n → slice_get es n ≡ Some e → IsKnown t es ps s n
      → (l : LinkNo) (d : Dir) → verdict_on (packets_at t es ps n) s.packet ≡ Flying l d → IsKnown t es ps s (suc n)
  flying_step s n e (Carry k b place) is sent below there h l d flies =
      at_place s n k b place (λ g. left_known t es ps s n e sent below there (subst (Leaves t (clock_after e) s.packet (packets_at t es ps n)) (sym is) g) h)
      (λ f at same on it_flies. let takes_it = takes t es ps s n e k b sent below there h it_flies in
      carried_known t lawful es ps s n e k b place f.sent takes_it is (at ∙ ap Some (takes_it.flies.frames (channel k.0 b) f on same)))
  flying_step s n e (Lose k b place) is sent below there h l d flies =
      at_place s n k b place (λ g. left_known t es ps s n e sent below there (subst (Leaves t (clock_after e) s.packet (packets_at t es ps n)) (sym is) g) h)
      (λ f at same on it_flies. lost_known t es ps s n e k b (takes t es ps s n e k b sent below there h it_flies) place f is at same)
  flying_step s n e (LinkDown k) is sent below there h l d flies = elim (eqb_tells l.0 k.0) [
    | inl p ↦
        let link : l ≡ k = ap (λ m. record { 0 = m }) p.1 in
        cut_known t es ps s n e l d (takes t es ps s n e l d sent below there h flies) (is ∙ ap LinkDown (sym link))
    | inr p ↦ left_known t es ps s n e sent below there
        (subst (Leaves t (clock_after e) s.packet (packets_at t es ps n)) (sym is) (λ b f i same. p.1 (other b f i same))) h
  ]
    where
      one_link : (a b : LinkNo) (c f : Dir) → Flying a c ≡ Flying b f → a.0 ≡ b.0
      one_link a b c f h = ap (λ v. elim v as (λ _. ℕ) [ Flying x y ↦ x.0 | Delivered y x z ↦ 0 | Dropped x y ↦ 0 ]) h

      other : (b : Dir) (f : Token) → In ((packets_at t es ps n).flying (channel k.0 b)) f → f.packet ≡ s.packet → l.0 ≡ k.0
      other b f i same = one_link l k d b
          (sym flies ∙ ap (verdict_on (packets_at t es ps n)) (sym same)
          ∙ where_it_flies (packets_at t es ps n) (injections (take n es)) k b f (placed t es ps n) i)
  flying_step s n e (Tick ticks) is sent below there h l d flies = by_age (two_ways (is_overdue t (clock_after e) l.0 frame.0))
    where
      frame : (k : Token) × In ((packets_at t es ps n).flying (channel l.0 d)) k × (k.packet ≡ s.packet)
      frame = some_frame (packets_at t es ps n) (injections (take n es)) s.packet l d (placed t es ps n) flies

      only : (m : ℕ) (b : Dir) (k : Token) → In (flying_on (packets_at t es ps n) m b) k → k.packet ≡ s.packet → (m ≡ l.0) × (b ≡ d) × (k ≡ frame.0)
      only m b k i same = the_frame (packets_at t es ps n) (injections (take n es)) s.packet l (record { 0 = m }) d b k frame.0 (placed t es ps n) flies
          frame.1 frame.2 i same

      by_age : (is_overdue t (clock_after e) l.0 frame.0 ≡ true) ⊎ (is_overdue t (clock_after e) l.0 frame.0 ≡ false) → IsKnown t es ps s (suc n)
      by_age o = elim o [
        | inl late ↦ expired_known t es ps s n e l d (takes t es ps s n e l d sent below there h flies) ticks frame.0 is frame.1 frame.2 late
            (λ m b k i same. let at = only m b k i same in (at.0, at.1))
        | inr early ↦ left_known t es ps s n e sent below there
            (subst (Leaves t (clock_after e) s.packet (packets_at t es ps n)) (sym is) (λ m b k there i same. young m b k i same early)) h
      ]
        where
          young : (m : ℕ) (b : Dir) (k : Token) → In (flying_on (packets_at t es ps n) m b) k → k.packet ≡ s.packet
              → is_overdue t (clock_after e) l.0 frame.0 ≡ false → is_overdue t (clock_after e) m k ≡ false
          young m b k i same early =
              let at = only m b k i same in
              ap (λ a. is_overdue t (clock_after e) a k) at.0 ∙ ap (is_overdue t (clock_after e) l.0) at.2 ∙ early
  flying_step s n e x is sent below there h l d flies =
      left_known t es ps s n e sent below there (subst (Leaves t (clock_after e) s.packet (packets_at t es ps n)) (sym is) tt) h

  one_step : (s : Sending) (n : ℕ) (e : JournalEntry) → IsSent es ps s → s.place < n → slice_get es n ≡ Some e → IsKnown t es ps s n → IsKnown t es ps s (suc n)
  one_step s n e sent below there h = elim (where_flying (verdict_on (packets_at t es ps n) s.packet)) [
    | inl q ↦ left_known t es ps s n e sent below there (leaves_ended t es ps s.packet n e q) h
    | inr q ↦ flying_step s n e e.step refl sent below there h q.0 q.1 q.2
  ]

  some_entry : (xs : List JournalEntry) (n : ℕ) → n < length xs → (e : JournalEntry) × (slice_get xs n ≡ Some e)
  some_entry [] n h = absurd (none n h)
    where
      none : (n : ℕ) → n < 0 → ⊥
      none n h = omega (arith, h)
  some_entry (x ∷ xs) zero h = (x, refl)
  some_entry (x ∷ xs) (suc n) h = some_entry xs n (omega (arith, h))

  pub known : (n : ℕ) → n ≤ length es → (s : Sending) → IsSent es ps s → s.place < n → IsKnown t es ps s n
  known zero within s sent below = absurd (none s.place below)
    where
      none : (n : ℕ) → n < 0 → ⊥
      none n h = omega (arith, h)
  known (suc n) within s sent below = elim (eqb_tells s.place n) [
    | inl q ↦ subst (λ m. IsKnown t es ps s (suc m)) q.1 (entered_known t lawful es ps journal holds s sent)
    | inr q ↦
        let e = some_entry es n (omega (arith, within)) in
        one_step s n e.0 sent (less q.1) e.1 (known n (omega (arith, within)) s sent (less q.1))
  ]
    where
      less : s.place ≢ n → s.place < n
      less d = omega (arith, below, d)
