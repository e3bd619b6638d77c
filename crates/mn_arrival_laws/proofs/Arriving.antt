-- Each packet that is sent in a steady stretch arrives, and what follows doesn't change it.
use Rattle.std.proofs.Common.{ℕ, zero, suc, ◌≡◌, ◌+◌, ◌<◌, ◌≤◌, List, [], ◌∷◌, ◌++◌, length, take, drop, refl, arith, sym, ◌∙◌, ap, subst, Some, Bool, true}
use Rattle.std.proofs.Common.{false, cond}
use Rattle.std.specs.Prelude.{slice_get}
use Rattle.std.proofs.lemmas.Bool.{ltb-true}
use Rattle.std.proofs.lemmas.Option.{same_Some}
use Rattle.mn_base.proofs.Bools.{none_below, and_parts}
use Rattle.mn_base.specs.declared.numbers.SiteNo.{SiteNo}
use Rattle.mn_topo.specs.Network.{Network}
use Rattle.mn_topo.specs.Steps.{fits}
use Rattle.mn_topo.specs.Lawful.{IsLawful}
use Rattle.mn_topo.specs.declared.steps.Step.{Step}
use Rattle.mn_topo.specs.declared.steps.Step.TheVariants.{Inject}
use Rattle.mn_topo.specs.declared.steps.JournalEntry.{JournalEntry}
use Rattle.mn_ipv4.specs.Header.{ttl_of, destination_of}
use Rattle.mn_ledger.specs.Places.{home_of, vrf_of}
use Rattle.mn_ledger.specs.World.{World}
use Rattle.mn_ledger.specs.Held.{HeldRoute}
use Rattle.mn_ledger.specs.Packets.{Packets}
use Rattle.mn_ledger.specs.Ledger.{world_of, packets_of, next_of, but_next, left_by, injects}
use Rattle.mn_ledger.specs.Verdicts.{one_if, injections, verdict_on}
use Rattle.mn_ledger.specs.Lawful.{IsLawfulJournal}
use Rattle.mn_ledger.specs.Settled.{IsSteady}
use Rattle.mn_ledger.proofs.Eligible.{fair_choice}
use Rattle.mn_ledger_laws.specs.Accounts.{world_at, packets_at, Sending, path_of, is_flying}
use Rattle.mn_ledger_laws.specs.Named.{NamesItsSite}
use Rattle.mn_ledger_laws.proofs.At.{bytes_of, packets_whole, lawful_step, lawful_at, but_next_is}
use Rattle.mn_ledger_laws.proofs.Fates.{ended_stays}
use Rattle.mn_ledger_laws.proofs.Holding.{names_what_exists}
use Rattle.mn_ledger_laws.proofs.There.{vrf_there, home_there}
use Rattle.mn_settled_laws.specs.Arrival.{left_after, route_to, HasArrived, IsAddressed}
use Rattle.mn_settled_laws.proofs.Arrival.{has_arrived}
use Rattle.mn_settled_laws.proofs.LeastWay.{route_is_least}
use Rattle.mn_arrival_laws.specs.Arrival.{IsSentInSteadyStretch, HasAWay, ReachesItsSite, ItArrives}

-- 1. The parts of a journal

same_entry : (x e : JournalEntry) → Some x ≡ Some e → x ≡ e
same_entry x e h = same_Some x e h

-- up to a later place there is more: the entry, and what comes after it
around : (es : List JournalEntry) (from place to : ℕ) (e : JournalEntry) → slice_get es place ≡ Some e → from ≤ place → place < to
    → (later : List JournalEntry) × (drop from (take to es) ≡ drop from (take place es) ++ e ∷ later)
around es from place zero e h low high = absurd (none_below place high)
around [] from place (suc to) e h low high = absurd (no_entry h)
  where
    no_entry : slice_get [] place ≡ Some e → ⊥
    no_entry h = cc
around (x ∷ es) zero zero (suc to) e h low high = (take to es, ap (λ y. y ∷ take to es) (same_entry x e h))
around (x ∷ es) (suc from) zero (suc to) e h low high = absurd (none_below from low)
around (x ∷ es) zero (suc place) (suc to) e h low high =
    let r = around es zero place to e h (omega arith) (omega (arith, high)) in (r.0, ap (λ ys. x ∷ ys) r.1)
around (x ∷ es) (suc from) (suc place) (suc to) e h low high = around es from place to e h (omega (arith, low)) (omega (arith, high))

-- the entries before a place, and those from there on
parted : (es : List JournalEntry) (from to : ℕ) → from ≤ to → take to es ≡ take from es ++ drop from (take to es)
parted es zero to h = refl
parted [] (suc from) zero h = refl
parted [] (suc from) (suc to) h = refl
parted (x ∷ es) (suc from) zero h = absurd (none_below from h)
parted (x ∷ es) (suc from) (suc to) h = ap (λ ys. x ∷ ys) (parted es from to (omega (arith, h)))

chained : {A : Type 0} (xs ys zs : List A) → xs ++ (ys ++ zs) ≡ (xs ++ ys) ++ zs
chained [] ys zs = refl
chained (x ∷ xs) ys zs = ap (λ l. x ∷ l) (chained xs ys zs)

left_is : (f : Bool) (ps : List (List ℕ)) (j : ℕ) → bytes_of (cond f (but_next ps) ps) j ≡ bytes_of ps (one_if f + j)
left_is true ps j = but_next_is ps j
left_is false ps j = ap (bytes_of ps) (none j)
  where
    none : (j : ℕ) → j ≡ 0 + j
    none j = omega arith

-- after so many injections the next packet's bytes are those at that number
next_bytes : (es : List JournalEntry) (ps : List (List ℕ)) → next_of (left_after es ps) ≡ bytes_of ps (injections es)
next_bytes [] [] = refl
next_bytes [] (p ∷ ps) = refl
next_bytes (e ∷ es) ps = next_bytes es (left_by e.step ps) ∙ left_is (injects e.step) ps (injections es)

content_at : (ps : List (List ℕ)) (j : ℕ) (bytes : List ℕ) → slice_get ps j ≡ Some bytes → bytes_of ps j ≡ bytes
content_at [] j bytes h = absurd (no_bytes h)
  where
    no_bytes : slice_get [] j ≡ Some bytes → ⊥
    no_bytes h = cc
content_at (p ∷ ps) zero bytes h = same_Some p bytes h
content_at (p ∷ ps) (suc j) bytes h = content_at ps j bytes h

-- 2. One packet

module _ (t : Network) (lawful : IsLawful t) (es : List JournalEntry) (ps : List (List ℕ)) (journal : IsLawfulJournal t es ps) (s : Sending) (from to : ℕ)
    (x : HeldRoute) (stands : IsSentInSteadyStretch t es ps s from to) (way : HasAWay t (world_at t es from) s x) where
  before : List JournalEntry
  before = take from es

  earlier : List JournalEntry
  earlier = drop from (take s.place es)

  site : SiteNo
  site = record { 0 = s.site }

  entry : JournalEntry
  entry = record { tick = stands.sent.entry.tick; step = Inject site stands.sent.number; damaged = stands.sent.entry.damaged }

  sending_is : stands.sent.entry ≡ entry
  unfolding entry site
  sending_is = ap (λ (y : Step). record { tick = stands.sent.entry.tick; step = y; damaged = stands.sent.entry.damaged }) stands.sent.injects

  parts : (later : List JournalEntry) × (drop from (take to es) ≡ drop from (take s.place es) ++ stands.sent.entry ∷ later)
  parts = around es from s.place to stands.sent.entry stands.sent.there stands.since stands.until

  later : List JournalEntry
  later = parts.0

  stretch : drop from (take to es) ≡ earlier ++ entry ∷ later
  unfolding earlier later
  stretch = parts.1 ∙ ap (λ y. drop from (take s.place es) ++ y ∷ parts.0) sending_is

  done : take s.place es ≡ before ++ earlier
  unfolding before earlier
  done = parted es from s.place stands.since

  all : take to es ≡ (before ++ earlier) ++ entry ∷ later
  unfolding before
  all =
      parted es from to (within stands.since stands.until) ∙ ap (λ ys. take from es ++ ys) stretch ∙ chained (take from es) earlier (entry ∷ later)
    where
      within : from ≤ s.place → s.place < to → from ≤ to
      within h g = omega (arith, h, g)

  site_there : s.site < length t.sites
  site_there =
      ltb-true _ _ (and_parts _ _ (ap (fits t) (sym stands.sent.injects) ∙ (lawful_step t es ps s.place stands.sent.entry stands.sent.there journal).fitting)).0

  number_is : injections (before ++ earlier) ≡ s.packet
  number_is = ap injections (sym done) ∙ stands.sent.earlier

  bytes_are : next_of (left_after (before ++ earlier) ps) ≡ s.bytes
  bytes_are = next_bytes (before ++ earlier) ps ∙ ap (bytes_of ps) number_is ∙ content_at ps s.packet s.bytes stands.sent.content

  ends_at : packets_of t ((before ++ earlier) ++ entry ∷ later) ps ≡ packets_at t es ps to
  ends_at = ap (λ ys. packets_of t ys ps) (sym all)

  world : World
  world = world_of t before

  lawful_before : IsLawfulJournal t before ps
  unfolding before
  lawful_before = lawful_at t es ps from journal

  steady : IsSteady t before (earlier ++ entry ∷ later)
  unfolding before
  steady = subst (IsSteady t (take from es)) stretch stands.steady

  -- as the stretch ends
  came : HasArrived t (world_at t es from) (packets_at t es ps to) s.packet s.site s.bytes x
  unfolding before site entry
  came =
      subst (λ b. HasArrived t (world_at t es from) (packets_at t es ps to) s.packet s.site b x) bytes_are
      (subst (λ j. HasArrived t (world_at t es from) (packets_at t es ps to) j s.site (next_of (left_after (before ++ earlier) ps)) x) number_is
      (subst (λ k. HasArrived t (world_at t es from) k (injections (before ++ earlier)) s.site (next_of (left_after (before ++ earlier) ps)) x) ends_at
      (has_arrived t before earlier later stands.sent.entry.tick stands.sent.number stands.sent.entry.damaged site ps x lawful lawful_before steady site_there
      (subst (λ b. IsAddressed t (world_at t es from) s.site b x) (sym bytes_are) way.addressed) way.reached
      (subst (λ b. length (route_to t (world_at t es from) s.site x) + 1 ≤ ttl_of b) (sym bytes_are) way.lives)
      (subst (λ (k : Packets). (at : ℕ) → k.flying at ≡ []) (sym ends_at) stands.landed))))

  last : ℕ
  last = to + length es

  stays : (verdict_on (packets_of t es ps) s.packet ≡ verdict_on (packets_at t es ps to) s.packet)
      × (path_of (packets_of t es ps) s.packet ≡ path_of (packets_at t es ps to) s.packet)
  stays =
      subst (λ k. (verdict_on k s.packet ≡ verdict_on (packets_at t es ps to) s.packet) × (path_of k s.packet ≡ path_of (packets_at t es ps to) s.packet))
      (packets_whole t es ps (to + length es) (omega arith))
      (ended_stays t es ps s to (to + length es) stands.sent stands.until (omega arith) (ap is_flying came.verdict))

  -- the route's edge is a node
  edge_there : x.edge < length t.loopbacks
  edge_there =
      let fair = fair_choice t (take from es) ps lawful (lawful_at t es ps from journal) (home_of t s.site) (vrf_of t s.site) (destination_of s.bytes) in
      let named : NamesItsSite t (world_at t es from).config (home_of t s.site) x =
      (names_what_exists t (take from es) ps lawful (lawful_at t es ps from journal)).routes (vrf_of t s.site) x
      (vrf_there t s.site lawful site_there) (fair.is_held x (fair.names.named x way.addressed.best_is).held) in
      subst (λ n. n < length t.loopbacks) named.home (home_there t x.site lawful named.site)

  pub reaches_it : ReachesItsSite t (world_at t es from) (packets_of t es ps) s x
  reaches_it = record {
    arrived = record { copy = came.copy; verdict = stays.0 ∙ came.verdict; path = stays.1 ∙ came.path };
    least = route_is_least t (take from es) ps lawful (lawful_at t es ps from journal) stands.steady.settled (home_of t s.site) x.edge
        (home_there t s.site lawful site_there) edge_there way.reached;
  }

pub it_arrives : (t : Network) (es : List JournalEntry) (ps : List (List ℕ)) → IsLawful t → IsLawfulJournal t es ps → ItArrives t es ps
it_arrives t es ps lawful journal s from to x stands way = reaches_it t lawful es ps journal s from to x stands way
