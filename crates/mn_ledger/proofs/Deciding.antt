-- Whether a journal is lawful, computed: the runs of this crate are settled by one equation each.
use Rattle.std.specs.Prelude.{◌≡◌, ◌≤◌, ℕ, ◌+◌, ◌&&◌, ◌||◌, Bool, true, false, nat_le, List, [], ◌∷◌, Option, Some, None, is_none, refl}
use Rattle.mn_base.proofs.Bools.{and_left, and_right, at_most_tells}
use Rattle.mn_topo.specs.Network.{Network}
use Rattle.mn_topo.specs.Steps.{fits}
use Rattle.mn_topo.specs.declared.steps.JournalEntry.{JournalEntry}
use Rattle.mn_ledger.specs.declared.refused.Refused.{Refused}
use Rattle.mn_ledger.specs.World.{World}
use Rattle.mn_ledger.specs.Packets.{Packets}
use Rattle.mn_ledger.specs.Ledger.{after, start, no_packets, next_of, left_by, packets_by}
use Rattle.mn_ledger.specs.Time.{clock_after}
use Rattle.mn_ledger.specs.Refusal.{refusal_at}
use Rattle.mn_ledger.specs.Lawful.{none_is_due_before, GoesForward, IsLawfulFrom, IsLawfulJournal}

abbrev pub is_lawful_from : Network → ℕ → World → Packets → ℕ → List JournalEntry → List (List ℕ) → Bool
is_lawful_from topology tick world packets count [] inputs = true
is_lawful_from topology tick world packets count (entry ∷ entries) inputs =
    fits topology entry.step
    && ((nat_le tick entry.tick && (nat_le entry.tick tick || none_is_due_before topology packets entry.tick))
    && (is_none (refusal_at topology world packets count entry.step (next_of inputs))
    && (let world_then : World = after topology world entry.step in
    is_lawful_from topology (clock_after entry) world_then (packets_by topology world_then packets entry (next_of inputs)) (count + 1) entries
    (left_by entry.step inputs))))

none_so : (o : Option Refused) → is_none o ≡ true → o ≡ None
none_so None e = refl
none_so (Some x) e = cc

lawful-from : (t : Network) (c : ℕ) (w : World) (k : Packets) (n : ℕ) (es : List JournalEntry) (ps : List (List ℕ)) → is_lawful_from t c w k n es ps ≡ true →
    IsLawfulFrom t c w k n es ps
lawful-from t c w k n [] ps e = tt
lawful-from t c w k n (x ∷ es) ps e =
    let rest = and_right (fits t x.step) _ e in
    let time = and_left _ _ rest in
    let last = and_right _ _ rest in (
      and_left (fits t x.step) _ e,
      record {
        later = at_most_tells c x.tick (and_left (nat_le c x.tick) _ time);
        due = and_right (nat_le c x.tick) _ time;
      },
      none_so (refusal_at t w k n x.step (next_of ps)) (and_left _ _ last),
      lawful-from t (clock_after x) _ _ (n + 1) es _ (and_right _ _ last),
    )

pub lawful : (t : Network) (es : List JournalEntry) (ps : List (List ℕ)) → is_lawful_from t 0 (start t) no_packets 0 es ps ≡ true → IsLawfulJournal t es ps
lawful t es ps e = lawful-from t 0 (start t) no_packets 0 es ps e
