-- In a network at rest what becomes of a packet is what the configuration says.
use Rattle.mn_topo.specs.declared.steps.Damaged.{Damaged}
use Rattle.std.proofs.Common.{ℕ, zero, suc, ◌≡◌, ◌<◌, inl, inr, Bool, true, false, List, [], ◌∷◌, ◌++◌, length, refl, arith, sym, ◌∙◌, ap, subst}
use Rattle.std.proofs.Common.{Option, None, Some}
use Rattle.std.specs.Prelude.{◌&&◌, ◌||◌, filter, nat_lt, is_none, is_some}
use Rattle.std.specs.List.{Contains, list_any, list_all}
use Rattle.std.proofs.lemmas.Bool.Decides.{eqb_tells}
use Rattle.mn_base.specs.declared.numbers.SiteNo.{SiteNo}
use Rattle.mn_base.proofs.Bools.{clash, no}
use Rattle.mn_base.proofs.Rules.{none_is}
use Rattle.mn_drops.specs.declared.drops.Rule.{Rule}
use Rattle.mn_drops.specs.declared.drops.Rule.TheVariants as rule
use Rattle.mn_ipv4.specs.Header.{is_not_ipv4, is_malformed, is_truncated, has_bad_checksum, ttl_of, destination_of}
use Rattle.mn_wiring.specs.Paths.{IsDist, dist_in, dists_to}
use Rattle.mn_wiring.proofs.Dist.{dists_are_least}
use Rattle.mn_topo.specs.Network.{Network, wiring_of}
use Rattle.mn_topo.specs.Lawful.{IsLawful}
use Rattle.mn_topo.specs.declared.steps.Step.TheVariants.{Inject}
use Rattle.mn_topo.specs.declared.steps.JournalEntry.{JournalEntry}
use Rattle.mn_ledger.specs.Entry.{when, first_rule}
use Rattle.mn_ledger.specs.Places.{home_of, vrf_of, edges}
use Rattle.mn_ledger.specs.Transport.{offers, usable}
use Rattle.mn_ledger.specs.Held.{HeldRoute, held, best}
use Rattle.mn_ledger.specs.Ledger.{world_of, packets_of, next_of}
use Rattle.mn_ledger.specs.Lawful.{IsLawfulJournal}
use Rattle.mn_ledger.specs.Best.{IsBest, NamesTheBest}
use Rattle.mn_ledger.specs.Turns.{IsInTurn}
use Rattle.mn_ledger.specs.Quiet.{known_before}
use Rattle.mn_ledger.specs.Settled.{moves_packets}
use Rattle.mn_ledger.specs.Verdicts.{injections}
use Rattle.mn_ledger.specs.Packets.{entry_rules, is_attachment}
use Rattle.mn_ledger.specs.Eligible.{is_resolved, covers, only_if, eligible}
use Rattle.mn_ledger.proofs.Eligible.{in_those}
use Rattle.mn_ledger.proofs.Members.{In, in_contained, contained_in, in_filter, filter_in, none_passes, passes_none}
use Rattle.mn_ledger.proofs.Turning.{loopbacks_apart}
use Rattle.mn_ledger.proofs.InTurn.{in_turn}
use Rattle.mn_ledger.proofs.Held.{one_held, held_formed}
use Rattle.mn_ledger.proofs.Choice.{Keeps, keeps, names_one}
use Rattle.mn_settled_laws.specs.Offers.{SaysItsOffers}
use Rattle.mn_settled_laws.specs.Ways.{links_up, AreUpWhereOdd}
use Rattle.mn_settled_laws.proofs.Parity.{up_where_odd}
use Rattle.mn_settled_laws.proofs.Offering.{says_its_offers}
use Rattle.mn_settled_laws.proofs.Exporting.{AllTell}
use Rattle.mn_settled_laws.proofs.Holding.{all-tell}
use Rattle.mn_fate_laws.specs.Fate.{HasFate, fate_by_route, fate_by, fate_of, left_after}
use Rattle.mn_fate_laws.proofs.Coming.{what_becomes}
use Rattle.mn_reach_laws.specs.Rest.{IsAtRest}
use Rattle.mn_reach_laws.specs.Fates.{lsp, lsp_by, routes_at_rest, is_reached, taking_part, ends_towards, ends_by, verdict_at_rest}
use Rattle.mn_reach_laws.proofs.Paths.{offers-is, unusable}
use Rattle.mn_reach_laws.proofs.Along.{towards}
use Rattle.mn_reach_laws.proofs.Holding.{held-there, held-back, route-attached, best-in}
use Rattle.mn_reach_laws.proofs.Homes.{edge-below, home-is-edge}

-- 1. Two lists of the same routes have the same best one

some-best : (xs ys : List HeldRoute) (address : ℕ) → ((r : HeldRoute) → (Contains xs r → Contains ys r) × (Contains ys r → Contains xs r))
    → NamesTheBest xs address → NamesTheBest ys address → best xs address ≡ best ys address
some-best xs ys address same one other = by_best (best xs address) refl (best ys address) refl
  where
    across : (us vs : List HeldRoute) (r : HeldRoute) → ((q : HeldRoute) → Contains us q → Contains vs q) → ((q : HeldRoute) → Contains vs q → Contains us q)
        → IsBest us address r → IsBest vs address r
    across us vs r there back b = record { held = there r b.held; matches = b.matches; unbeaten = λ q c m. b.unbeaten q (back q c) m }

    by_best : (o : Option HeldRoute) → best xs address ≡ o → (q : Option HeldRoute) → best ys address ≡ q → best xs address ≡ best ys address
    by_best (Some r) e q f = e ∙ sym (other.one r (across xs ys r (λ z. (same z).0) (λ z. (same z).1) (one.named r e)))
    by_best None e None f = e ∙ sym f
    by_best None e (Some r) f = absurd (clash (sym (other.named r f).matches ∙ one.none e r ((same r).1 (other.named r f).held)))

-- of the same routes the same take part, by two tests that agree on them
module _ (c p q : HeldRoute → Bool) (xs ys : List HeldRoute) (there : (r : HeldRoute) → In xs r → In ys r) (agree : (r : HeldRoute) → In xs r → p r ≡ q r) where
  none_either : list_any c (filter q ys) ≡ false → list_any c (filter p xs) ≡ false
  none_either h =
      passes_none c (filter p xs) (λ x i. let m = in_filter p xs x i in
      none_passes c (filter q ys) x h (filter_in q ys x (there x m.0) (sym (agree x m.0) ∙ m.1)))

  only_there : (b : Bool) (r : HeldRoute) → In (only_if b p xs) r → In (only_if b q ys) r
  only_there true r i = let m = in_filter p xs r i in filter_in q ys r (there r m.0) (sym (agree r m.0) ∙ m.1)
  only_there false r i = there r i

both_none : (a b : Bool) → (a ≡ false → b ≡ false) → (b ≡ false → a ≡ false) → a ≡ b
both_none true true f g = refl
both_none false false f g = refl
both_none true false f g = absurd (clash (g refl))
both_none false true f g = absurd (clash (f refl))

-- 2. A packet with TTL less than 2 is dropped as it enters

peel : (b : Bool) (r : Rule) (rules : List (Option Rule)) → first_rule (when b r ∷ rules) ≡ None → (b ≡ false) × (first_rule rules ≡ None)
peel true r rules h = absurd (none_is r (sym h))
peel false r rules h = (refl, h)

lives_on : (o : Option ℕ) (bytes : List ℕ) → first_rule (entry_rules o bytes) ≡ None → nat_lt (ttl_of bytes) 2 ≡ false
lives_on o bytes h =
    let one = (peel (is_none o) rule.SiteDown _ h).1 in
    let two = (peel (is_not_ipv4 bytes) rule.NotIpv4 _ one).1 in
    let three = (peel (is_malformed bytes) rule.Malformed _ two).1 in
    let four = (peel (is_truncated bytes) rule.Truncated _ three).1 in
    let five = (peel (has_bad_checksum bytes) rule.BadChecksum _ four).1 in
    (peel (nat_lt (ttl_of bytes) 2) rule.TtlExpired _ five).0

two_and : (n : ℕ) → nat_lt n 2 ≡ false → (m : ℕ) × (n ≡ suc (suc m))
two_and zero h = absurd (no (sym h))
two_and (suc zero) h = absurd (no (sym h))
two_and (suc (suc m)) h = (m, refl)

same_seat : (o : Option ℕ) (a : ℕ) → o ≡ Some a → is_attachment o a ≡ true
same_seat o a e = ap (λ x. is_attachment x a) e ∙ (elim (eqb_tells a a) [ inl q ↦ q.0 | inr q ↦ absurd (q.1 refl) ])

-- 3. All of it

module _ (t : Network) (es : List JournalEntry) (ps : List (List ℕ)) (lawful : IsLawful t) (journal : IsLawfulJournal t es ps)
    (rest : IsAtRest t (world_of t es)) where
  turn : IsInTurn t (world_of t es)
  turn = in_turn t es ps lawful journal

  odd : AreUpWhereOdd (world_of t es)
  odd = up_where_odd t es ps journal

  says : SaysItsOffers t (world_of t es)
  says = says_its_offers t es ps lawful journal

  tell : AllTell t (world_of t es).config (world_of t es).peerings
  tell = all-tell t es ps lawful journal

  -- a route is resolved where a label switched path leads to its edge
  resolved-is : (n p : ℕ) → n < length t.loopbacks → p < length t.loopbacks
      → offers (wiring_of t) (known_before t (world_of t es) n) n p ≡ is_some (lsp t (world_of t es).config n p)
  resolved-is n p below inside =
      by_cost (dist_in (dists_to (wiring_of t) (links_up t (world_of t es)) p) n)
      (dists_are_least (wiring_of t) (links_up t (world_of t es)) p lawful.joins_nodes n below)
    where
      by_cost : (o : Option ℕ) → IsDist (wiring_of t) (links_up t (world_of t es)) n p o
          → offers (wiring_of t) (known_before t (world_of t es) n) n p ≡ is_some (lsp_by t (world_of t es).config n p o)
      by_cost (Some d) least = offers-is t (world_of t es) lawful turn rest odd says (suc d) d n p (omega arith) below inside least
      by_cost None none = elim (eqb_tells n p) [
        | inl e ↦ absurd (none [] (ap (λ x. Some x) e.1))
        | inr e ↦ ap (λ b. b || is_some (usable t (world_of t es).config (world_of t es).views (world_of t es).sessions n p)) e.0
            ∙ ap is_some (unusable t (world_of t es) lawful turn rest odd says n p below e.1 none)
      ]

  chooses : (edge v address : ℕ) → In (edges t) edge
      → best (eligible t (world_of t es) edge v address) address ≡ best (taking_part t (world_of t es).config edge v address) address
  chooses edge v address at_edge =
      let k : Keeps t (world_of t es) = keeps t es ps lawful journal in
      let hs : List HeldRoute = held t (world_of t es).config (world_of t es).peerings edge v in
      let rs : List HeldRoute = routes_at_rest t (world_of t es).config edge v in
      let p : HeldRoute → Bool = is_resolved t (world_of t es) edge in
      let q : HeldRoute → Bool = is_reached t (world_of t es).config edge in
      let b : Bool = t.resolve && list_any (covers address) (filter p hs) in
      let there = held-there t (world_of t es) turn rest tell edge v at_edge in
      let back = held-back t (world_of t es) turn rest tell edge v at_edge in
      let agree = λ (r : HeldRoute) (i : In rs r). resolved-is edge r.edge (edge-below t edge at_edge)
      (edge-below t r.edge (route-attached t (world_of t es) turn rest tell edge v r at_edge i).1) in
      let agree_there = λ (r : HeldRoute) (i : In hs r). agree r (there r i) in
      let agree_back = λ (r : HeldRoute) (i : In rs r). sym (agree r i) in
      let of_held = λ (r : HeldRoute) (i : In (only_if b p hs) r). in_those b p hs r i in
      let of_given = λ (r : HeldRoute) (i : In (only_if b q rs) r). back r (in_those b q rs r i) in
      some-best (only_if b p hs) (only_if b q rs) address
      (λ r. (
        (λ c. contained_in (only_if b q rs) r (only_there (covers address) p q hs rs there agree_there b r (in_contained (only_if b p hs) r c))),
        (λ c. contained_in (only_if b p hs) r (only_there (covers address) q p rs hs back agree_back b r (in_contained (only_if b q rs) r c))),
      ))
      (names_one (only_if b p hs) address (λ a i. held_formed t (world_of t es).config (world_of t es).peerings edge v a k.forms k.told (of_held a i))
      (λ a c i j source prefix. one_held t (world_of t es).config (world_of t es).peerings edge v a c lawful (loopbacks_apart t lawful) k.statics k.told
      (of_held a i) (of_held c j)
      source prefix))
      (names_one (only_if b q rs) address (λ a i. held_formed t (world_of t es).config (world_of t es).peerings edge v a k.forms k.told (of_given a i))
      (λ a c i j source prefix. one_held t (world_of t es).config (world_of t es).peerings edge v a c lawful (loopbacks_apart t lawful) k.statics k.told
      (of_given a i) (of_given c j)
      source prefix))
      ∙ ap (λ any. best (only_if (t.resolve && any) q rs) address)
      (both_none (list_any (covers address) (filter p hs)) (list_any (covers address) (filter q rs))
      (none_either (covers address) q p rs hs back agree_back) (none_either (covers address) p q hs rs there agree_there))

  -- what the world says is what the configuration says
  pub fate-is : (s : ℕ) (bytes : List ℕ) → s < length t.sites → fate_of t (world_of t es) s bytes ≡ verdict_at_rest t (world_of t es).config s bytes
  fate-is s bytes there = by_rule (first_rule (entry_rules ((world_of t es).config.attached s) bytes)) refl
    where
      home_edge : In (edges t) (home_of t s)
      home_edge = home-is-edge t lawful s there

      by_best : (ttl : ℕ) → (m : ℕ) × (ttl ≡ suc (suc m)) → (o : Option HeldRoute)
          → best (taking_part t (world_of t es).config (home_of t s) (vrf_of t s) (destination_of bytes)) (destination_of bytes) ≡ o
          → fate_by_route t (world_of t es) (home_of t s) ttl o ≡ ends_towards t (world_of t es).config (home_of t s) ttl o
      by_best ttl two None is = refl
      by_best ttl two (Some r) is =
          let among : In (routes_at_rest t (world_of t es).config (home_of t s) (vrf_of t s)) r = in_those _
          (is_reached t (world_of t es).config (home_of t s)) (routes_at_rest t (world_of t es).config (home_of t s) (vrf_of t s)) r
          (best-in t (world_of t es) turn rest tell (taking_part t (world_of t es).config (home_of t s) (vrf_of t s) (destination_of bytes))
          (destination_of bytes) r is) in
          let behind = route-attached t (world_of t es) turn rest tell (home_of t s) (vrf_of t s) r home_edge among in
          subst (λ n. fate_by_route t (world_of t es) (home_of t s) n (Some r) ≡ ends_towards t (world_of t es).config (home_of t s) n (Some r)) (sym two.1)
          (towards t (world_of t es) lawful turn rest odd says (home_of t s) two.0 r
          (same_seat ((world_of t es).config.attached r.site) r.attachment behind.0) (edge-below t (home_of t s) home_edge) (edge-below t r.edge behind.1))

      by_rule : (o : Option Rule) → first_rule (entry_rules ((world_of t es).config.attached s) bytes) ≡ o
          → fate_by t (world_of t es) s bytes o ≡ ends_by t (world_of t es).config s bytes o
      by_rule (Some cause) is = refl
      by_rule None is =
          ap (fate_by_route t (world_of t es) (home_of t s) (ttl_of bytes)) (chooses (home_of t s) (vrf_of t s) (destination_of bytes) home_edge)
          ∙ by_best (ttl_of bytes) (two_and (ttl_of bytes) (lives_on ((world_of t es).config.attached s) bytes is))
          (best (taking_part t (world_of t es).config (home_of t s) (vrf_of t s) (destination_of bytes)) (destination_of bytes)) refl

pub at_rest : (t : Network) (before earlier later : List JournalEntry) (tick number : ℕ) (mark : Damaged) (site : SiteNo) (ps : List (List ℕ)) → IsLawful t
    → IsLawfulJournal t before ps → IsAtRest t (world_of t before) → site.0 < length t.sites
    → list_all (λ entry. moves_packets entry.step) (earlier ++ record { tick = tick; step = Inject site number; damaged = mark } ∷ later) ≡ true
    → ((at : ℕ) → (packets_of t ((before ++ earlier) ++ record { tick = tick; step = Inject site number; damaged = mark } ∷ later) ps).flying at ≡ [])
    → HasFate (packets_of t ((before ++ earlier) ++ record { tick = tick; step = Inject site number; damaged = mark } ∷ later) ps)
    (injections (before ++ earlier)) (verdict_at_rest t (world_of t before).config site.0 (next_of (left_after (before ++ earlier) ps)))
at_rest t before earlier later tick number mark site ps lawful journal rest there moving none =
    subst (HasFate (packets_of t ((before ++ earlier) ++ record { tick = tick; step = Inject site number; damaged = mark } ∷ later) ps)
    (injections (before ++ earlier)))
    (fate-is t before ps lawful journal rest site.0 (next_of (left_after (before ++ earlier) ps)) there)
    (what_becomes t before earlier later tick number mark site ps moving none)
