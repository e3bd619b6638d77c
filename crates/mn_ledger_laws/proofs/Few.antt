-- A lawful journal makes few items.
use Rattle.std.proofs.Common.{ℕ, zero, suc, ◌≡◌, ◌+◌, ◌*◌, ◌^◌, ◌<◌, ◌≤◌, Bool, true, false, cond, List, [], ◌∷◌, ◌++◌, map, filter, length, refl, arith, ap}
use Rattle.std.proofs.Common.{sym, subst, length-append}
use Rattle.std.proofs.Common.{Option, Some, None}
use Rattle.std.specs.Prelude.{nat_le, not}
use Rattle.std.specs.List.{flat_map}
use Rattle.std.proofs.lemmas.List.{length-map}
use Rattle.mn_base.proofs.Bools.{not_at_most_tells}
use Rattle.mn_prefix.specs.Prefix.{AddressBlock}
use Rattle.mn_topo.specs.Network.{Network}
use Rattle.mn_topo.specs.Lawful.{IsLawful}
use Rattle.mn_topo.specs.SiteTable.{Static, statics_of, in_vrf}
use Rattle.mn_topo.specs.declared.sites.SiteDef.{SiteDef}
use Rattle.mn_topo.specs.declared.steps.Step.{Step}
use Rattle.mn_topo.specs.declared.steps.Step.TheVariants as step
use Rattle.mn_topo.specs.declared.steps.JournalEntry.{JournalEntry}
use Rattle.mn_ledger.specs.Places.{vrf_of}
use Rattle.mn_ledger.specs.World.{World, Config, SiteRoute}
use Rattle.mn_ledger.specs.Packets.{Packets, packets_after}
use Rattle.mn_ledger.specs.Time.{clock_after, timed}
use Rattle.mn_ledger.specs.Ledger.{packets_by, after, start, no_packets, next_of, left_by, config_after, statics_from, is_static}
use Rattle.mn_ledger.specs.Refusal.{static_refusal, prefix_refusal, taken_by}
use Rattle.mn_ledger.specs.declared.refused.Refused.{Refused}
use Rattle.mn_ledger.specs.Lawful.{IsLawfulFrom, IsLawfulJournal}
use Rattle.mn_ledger.specs.Items.{Channel, Load, Flight, made_in, with_made, in_time_by, in_time, flight_from, flight_of}
use Rattle.mn_ledger.proofs.Refusals.{free, few_entries}
use Rattle.mn_ledger_laws.specs.Few.{MakesFew}
use Rattle.mn_ledger_laws.proofs.Steps.{fewer, few_made}

-- 1. Statics are few

first_statics : (k : ℕ) (sites : List SiteDef) → length (statics_from k sites) ≡ length (statics_of sites)
first_statics k [] = refl
first_statics k (site ∷ sites) = omega (
  arith,
  length-append (map (λ prefix. record { site = k; prefix = prefix }) site.prefixes) (statics_from (k + 1) sites),
  length-append (in_vrf site.vrf.0 site.prefixes) (statics_of sites),
  length-map {B = SiteRoute} site.prefixes (λ (prefix : AddressBlock). record { site = k; prefix = prefix }),
  length-map {B = Static} site.prefixes (λ (prefix : AddressBlock). (site.vrf.0, prefix)),
  first_statics (k + 1) sites,
)

has_place : (o : Option ℕ) (n : ℕ) → prefix_refusal o n ≡ None → n < 65536
has_place (Some s) n h = cc
has_place None n h = split (nat_le 65536 n) refl h
  where
    split : (b : Bool) → nat_le 65536 n ≡ b → cond b (Some Refused.RoutesFull) None ≡ None → n < 65536
    split true e g = cc
    split false e g = not_at_most_tells 65536 n e

statics_go : (t : Network) (c : Config) (s : Step) → static_refusal t c s ≡ None → length c.statics ≤ 65536 → length (config_after c s).statics ≤ 65536
statics_go t c (step.AddRoute s prefix) h few = omega (
  arith,
  has_place (taken_by t (vrf_of t s.0) prefix c.statics) (length c.statics) h,
  length-append c.statics (record { site = s.0; prefix = prefix } ∷ []),
)
statics_go t c (step.DelRoute s prefix) h few = omega (arith, fewer (λ static. not (is_static s.0 prefix static)) c.statics, few)
statics_go t c _ h few = few

-- 2. A journal

same_made : (t : Network) (clock : ℕ) (s : Step) (f : Flight) → (in_time_by t clock s f).made ≡ f.made
same_made t clock (step.Tick ticks) f = refl
same_made t clock _ f = refl

made_few : (t : Network) (es : List JournalEntry) (tick : ℕ) (w : World) (k : Packets) (i : ℕ) (f : Flight) (ps : List (List ℕ)) → IsLawful t →
    IsLawfulFrom t tick w k i es ps → length w.config.statics ≤ 65536 →
    (flight_from t w k f es ps).made ≤ f.made + 35000000000 * length es
made_few t [] tick w k i f ps lawful journal few = omega arith
made_few t (e ∷ es) tick w k i f ps lawful journal few =
    let b : List ℕ = next_of ps in
    let later : World = after t w e.step in
    let now : Packets = timed t e k in
    let later_packets : Packets = packets_by t later k e b in
    let still : length later.config.statics ≤ 65536 = statics_go t w.config e.step (free t w k i e.step b journal.2).statics few in
    let new : List (Channel × Load) = made_in t w later now later_packets e.step in
    let made : Flight = with_made t e.tick new e.step (in_time t e f) in
    let rest : (flight_from t later later_packets made es (left_by e.step ps)).made ≤ made.made + 35000000000 * length es =
    made_few t es (clock_after e) later later_packets (i + 1) made (left_by e.step ps) lawful journal.3 still in
    omega (arith, rest, same_made t (clock_after e) e.step f, few_made t w later now later_packets e.step lawful few still)

pub makes_few : (t : Network) (es : List JournalEntry) (ps : List (List ℕ)) → IsLawful t → IsLawfulJournal t es ps → MakesFew t es ps
makes_few t es ps lawful journal =
    let first : length (start t).config.statics ≤ 65536 = omega (arith, first_statics 0 t.sites, lawful.sites.few_prefixes) in
    let made : (flight_of t es ps).made ≤ 0 + 35000000000 * length es =
    made_few t es 0 (start t) no_packets 0 (record { made = 0; items = [] }) ps lawful journal first in
    record { each = omega (arith, made); all = omega (arith, made, few_entries t es ps journal) }
