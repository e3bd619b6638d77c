-- Each packet that is sent at rest becomes what the configuration says, and what follows doesn't change it.
use Rattle.std.proofs.Common.{ℕ, zero, suc, ◌≡◌, ◌+◌, ◌<◌, ◌≤◌, List, [], ◌∷◌, ◌++◌, length, take, drop, refl, arith, sym, ◌∙◌, ap, subst, Some, Bool, true}
use Rattle.std.proofs.Common.{false, cond}
use Rattle.std.specs.Prelude.{slice_get}
use Rattle.std.proofs.lemmas.Bool.{ltb-true}
use Rattle.std.proofs.lemmas.Option.{same_Some}
use Rattle.mn_base.proofs.Bools.{none_below, and_parts}
use Rattle.mn_base.specs.declared.numbers.SiteNo.{SiteNo}
use Rattle.mn_topo.specs.Network.{Network}
use Rattle.mn_topo.specs.Steps.{fits}
use Rattle.mn_topo.specs.Lawful.{IsLawful}
use Rattle.mn_topo.specs.declared.steps.Step.{Step}
use Rattle.mn_topo.specs.declared.steps.Step.TheVariants.{Inject}
use Rattle.mn_topo.specs.declared.steps.JournalEntry.{JournalEntry}
use Rattle.mn_ledger.specs.Packets.{Packets}
use Rattle.mn_ledger.specs.Ledger.{packets_of, next_of, but_next, left_by, injects}
use Rattle.mn_ledger.specs.Verdicts.{one_if, injections, verdict_on}
use Rattle.mn_ledger.specs.Lawful.{IsLawfulJournal}
use Rattle.mn_ledger_laws.specs.Accounts.{world_at, packets_at, Sending, IsSent, path_of, is_flying}
use Rattle.mn_ledger_laws.proofs.At.{bytes_of, packets_whole, lawful_step, lawful_at, but_next_is}
use Rattle.mn_ledger_laws.proofs.Fates.{ended_stays}
use Rattle.std.specs.List.{list_all}
use Rattle.mn_ledger.specs.Settled.{moves_packets}
use Rattle.mn_fate_laws.specs.Fate.{Fate, Arrives, Falls, HasFate, left_after}
use Rattle.mn_reach_laws.specs.Fates.{verdict_at_rest}
use Rattle.mn_reach_laws.proofs.Resting.{at_rest}
use Rattle.mn_resting_laws.specs.Resting.{IsSentAtRest, HaveTheirFates}

-- 1. The parts of a journal

same_entry : (x e : JournalEntry) → Some x ≡ Some e → x ≡ e
same_entry x e h = same_Some x e h

-- up to a later place there is more: the entry, and what comes after it
around : (es : List JournalEntry) (from place to : ℕ) (e : JournalEntry) → slice_get es place ≡ Some e → from ≤ place → place < to
    → (later : List JournalEntry) × (drop from (take to es) ≡ drop from (take place es) ++ e ∷ later)
around es from place zero e h low high = absurd (none_below place high)
around [] from place (suc to) e h low high = absurd (no_entry h)
  where
    no_entry : slice_get [] place ≡ Some e → ⊥
    no_entry h = cc
around (x ∷ es) zero zero (suc to) e h low high = (take to es, ap (λ y. y ∷ take to es) (same_entry x e h))
around (x ∷ es) (suc from) zero (suc to) e h low high = absurd (none_below from low)
around (x ∷ es) zero (suc place) (suc to) e h low high =
    let r = around es zero place to e h (omega arith) (omega (arith, high)) in (r.0, ap (λ ys. x ∷ ys) r.1)
around (x ∷ es) (suc from) (suc place) (suc to) e h low high = around es from place to e h (omega (arith, low)) (omega (arith, high))

-- the entries before a place, and those from there on
parted : (es : List JournalEntry) (from to : ℕ) → from ≤ to → take to es ≡ take from es ++ drop from (take to es)
parted es zero to h = refl
parted [] (suc from) zero h = refl
parted [] (suc from) (suc to) h = refl
parted (x ∷ es) (suc from) zero h = absurd (none_below from h)
parted (x ∷ es) (suc from) (suc to) h = ap (λ ys. x ∷ ys) (parted es from to (omega (arith, h)))

chained : {A : Type 0} (xs ys zs : List A) → xs ++ (ys ++ zs) ≡ (xs ++ ys) ++ zs
chained [] ys zs = refl
chained (x ∷ xs) ys zs = ap (λ l. x ∷ l) (chained xs ys zs)

left_is : (f : Bool) (ps : List (List ℕ)) (j : ℕ) → bytes_of (cond f (but_next ps) ps) j ≡ bytes_of ps (one_if f + j)
left_is true ps j = but_next_is ps j
left_is false ps j = ap (bytes_of ps) (none j)
  where
    none : (j : ℕ) → j ≡ 0 + j
    none j = omega arith

-- after so many injections the next packet's bytes are those at that number
next_bytes : (es : List JournalEntry) (ps : List (List ℕ)) → next_of (left_after es ps) ≡ bytes_of ps (injections es)
next_bytes [] [] = refl
next_bytes [] (p ∷ ps) = refl
next_bytes (e ∷ es) ps = next_bytes es (left_by e.step ps) ∙ left_is (injects e.step) ps (injections es)

content_at : (ps : List (List ℕ)) (j : ℕ) (bytes : List ℕ) → slice_get ps j ≡ Some bytes → bytes_of ps j ≡ bytes
content_at [] j bytes h = absurd (no_bytes h)
  where
    no_bytes : slice_get [] j ≡ Some bytes → ⊥
    no_bytes h = cc
content_at (p ∷ ps) zero bytes h = same_Some p bytes h
content_at (p ∷ ps) (suc j) bytes h = content_at ps j bytes h

-- 2. One packet

-- what has ended stays so
ends : (t : Network) (es : List JournalEntry) (ps : List (List ℕ)) (s : Sending) (to : ℕ) (f : Fate) → IsSent es ps s → s.place < to
    → HasFate (packets_at t es ps to) s.packet f → HasFate (packets_of t es ps) s.packet f
ends t es ps s to f sent below h = by_fate f h
  where
    stays : is_flying (verdict_on (packets_at t es ps to) s.packet) ≡ false
        → (verdict_on (packets_of t es ps) s.packet ≡ verdict_on (packets_at t es ps to) s.packet)
        × (path_of (packets_of t es ps) s.packet ≡ path_of (packets_at t es ps to) s.packet)
    stays ended =
        subst (λ k. (verdict_on k s.packet ≡ verdict_on (packets_at t es ps to) s.packet) × (path_of k s.packet ≡ path_of (packets_at t es ps to) s.packet))
        (packets_whole t es ps (to + length es) (omega arith))
        (ended_stays t es ps s to (to + length es) sent below (omega arith) ended)

    by_fate : (f : Fate) → HasFate (packets_at t es ps to) s.packet f → HasFate (packets_of t es ps) s.packet f
    by_fate (Arrives site ttl path) h = let k = stays (ap is_flying h.1) in (h.0, k.0 ∙ h.1, k.1 ∙ h.2)
    by_fate (Falls cause node path) h = let k = stays (ap is_flying h.0) in (k.0 ∙ h.0, k.1 ∙ h.1)

module _ (t : Network) (lawful : IsLawful t) (es : List JournalEntry) (ps : List (List ℕ)) (journal : IsLawfulJournal t es ps) (s : Sending) (from to : ℕ)
    (stands : IsSentAtRest t es ps s from to) where
  before : List JournalEntry
  before = take from es

  earlier : List JournalEntry
  earlier = drop from (take s.place es)

  site : SiteNo
  site = record { 0 = s.site }

  entry : JournalEntry
  entry = record { tick = stands.sent.entry.tick; step = Inject site stands.sent.number; damaged = stands.sent.entry.damaged }

  sending_is : stands.sent.entry ≡ entry
  unfolding entry site
  sending_is = ap (λ (y : Step). record { tick = stands.sent.entry.tick; step = y; damaged = stands.sent.entry.damaged }) stands.sent.injects

  parts : (later : List JournalEntry) × (drop from (take to es) ≡ drop from (take s.place es) ++ stands.sent.entry ∷ later)
  parts = around es from s.place to stands.sent.entry stands.sent.there stands.since stands.until

  later : List JournalEntry
  later = parts.0

  stretch : drop from (take to es) ≡ earlier ++ entry ∷ later
  unfolding earlier later
  stretch = parts.1 ∙ ap (λ y. drop from (take s.place es) ++ y ∷ parts.0) sending_is

  done : take s.place es ≡ before ++ earlier
  unfolding before earlier
  done = parted es from s.place stands.since

  all : take to es ≡ (before ++ earlier) ++ entry ∷ later
  unfolding before
  all =
      parted es from to (within stands.since stands.until) ∙ ap (λ ys. take from es ++ ys) stretch ∙ chained (take from es) earlier (entry ∷ later)
    where
      within : from ≤ s.place → s.place < to → from ≤ to
      within h g = omega (arith, h, g)

  site_there : s.site < length t.sites
  site_there =
      ltb-true _ _ (and_parts _ _ (ap (fits t) (sym stands.sent.injects) ∙ (lawful_step t es ps s.place stands.sent.entry stands.sent.there journal).fitting)).0

  number_is : injections (before ++ earlier) ≡ s.packet
  number_is = ap injections (sym done) ∙ stands.sent.earlier

  bytes_are : next_of (left_after (before ++ earlier) ps) ≡ s.bytes
  bytes_are = next_bytes (before ++ earlier) ps ∙ ap (bytes_of ps) number_is ∙ content_at ps s.packet s.bytes stands.sent.content

  ends_at : packets_of t ((before ++ earlier) ++ entry ∷ later) ps ≡ packets_at t es ps to
  ends_at = ap (λ ys. packets_of t ys ps) (sym all)

  lawful_before : IsLawfulJournal t before ps
  unfolding before
  lawful_before = lawful_at t es ps from journal

  moving : list_all (λ entry. moves_packets entry.step) (earlier ++ entry ∷ later) ≡ true
  moving = ap (list_all (λ entry. moves_packets entry.step)) (sym stretch) ∙ stands.moving

  -- as the stretch ends
  came : HasFate (packets_at t es ps to) s.packet (verdict_at_rest t (world_at t es from).config s.site s.bytes)
  unfolding before site entry
  came =
      subst (λ b. HasFate (packets_at t es ps to) s.packet (verdict_at_rest t (world_at t es from).config s.site b)) bytes_are
      (subst (λ j. HasFate (packets_at t es ps to) j (verdict_at_rest t (world_at t es from).config s.site (next_of (left_after (before ++ earlier) ps))))
      number_is
      (subst (λ k. HasFate k (injections (before ++ earlier))
      (verdict_at_rest t (world_at t es from).config s.site (next_of (left_after (before ++ earlier) ps)))) ends_at
      (at_rest t before earlier later stands.sent.entry.tick stands.sent.number stands.sent.entry.damaged site ps lawful lawful_before stands.resting site_there
      moving (subst (λ (k : Packets). (at : ℕ) → k.flying at ≡ []) (sym ends_at) stands.landed))))

  pub has_its_fate : HasFate (packets_of t es ps) s.packet (verdict_at_rest t (world_at t es from).config s.site s.bytes)
  has_its_fate = ends t es ps s to (verdict_at_rest t (world_at t es from).config s.site s.bytes) stands.sent stands.until came

pub have_their_fates : (t : Network) (es : List JournalEntry) (ps : List (List ℕ)) → IsLawful t → IsLawfulJournal t es ps → HaveTheirFates t es ps
have_their_fates t es ps lawful journal s from to stands = has_its_fate t lawful es ps journal s from to stands
