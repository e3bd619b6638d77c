-- What holds at each moment of a lawful run.
use Rattle.std.proofs.Common.{◌≡◌, ◌≤◌, ◌<◌, ◌+◌, ℕ, List, [], ◌∷◌, ◌++◌, length, refl, sym, ◌∙◌, ap, subst, arith}
use Rattle.mn_base.proofs.Members.{in_contained, contained_in}
use Rattle.mn_topo.specs.Lawful.{IsLawful}
use Rattle.mn_topo.specs.Network.{Network}
use Rattle.mn_topo.specs.declared.steps.JournalEntry.{JournalEntry}
use Rattle.mn_topo.specs.declared.steps.Step.TheVariants.{Tick}
use Rattle.mn_topo.specs.declared.steps.Damaged.TheVariants.{Undamaged}
use Rattle.mn_ledger.specs.World.{World}
use Rattle.mn_ledger.specs.Packets.{Packets}
use Rattle.mn_ledger.specs.Ledger.{after, start, no_packets, next_of, left_by, packets_by, packets_from, packets_of}
use Rattle.mn_ledger.specs.Lawful.{GoesForward, IsLawfulFrom, IsLawfulJournal}
use Rattle.mn_ledger.specs.OneMore.{tick_from}
use Rattle.mn_ledger.specs.Time.{clock_after}
use Rattle.mn_ledger_laws.specs.Ages.{IsInItsLife}
use Rattle.mn_ledger_laws.proofs.Aging.{AreYoung, lasting_of, flown, clock_is, none_is_overdue}
use Rattle.mn_reuse_laws.proofs.Over.{are_sound, keeps_its_label, changes_once_free}
use Rattle.mn_course_laws.specs.Course.{Past, inputs_of}
use Rattle.mn_course_laws.specs.Lawful.{IsLawfulPast}
use Rattle.mn_run.specs.Moments.{AllGiveLabels, AreInTheirLife, FramesAreYoung}

-- 1. The first entries of a lawful journal

front : (t : Network) (es fs : List JournalEntry) (tick : ℕ) (w : World) (k : Packets) (i : ℕ) (ps : List (List ℕ)) →
    IsLawfulFrom t tick w k i (es ++ fs) ps → IsLawfulFrom t tick w k i es ps
front t [] fs tick w k i ps h = tt
front t (e ∷ es) fs tick w k i ps h = (
  h.0,
  h.1,
  h.2,
  front t es fs (clock_after e) (after t w e.step) (packets_by t (after t w e.step) k e (next_of ps)) (i + 1) (left_by e.step ps) h.3,
)

front_of : (t : Network) (all es fs : List JournalEntry) (ps : List (List ℕ)) → all ≡ es ++ fs → IsLawfulJournal t all ps → IsLawfulJournal t es ps
front_of t all es fs ps is h = front t es fs 0 (start t) no_packets 0 ps (subst (λ xs. IsLawfulJournal t xs ps) is h)

-- with the next one
one_more : (es fs : List JournalEntry) (e : JournalEntry) → es ++ e ∷ fs ≡ (es ++ e ∷ []) ++ fs
one_more [] fs e = refl
one_more (x ∷ es) fs e = ap (λ xs. x ∷ xs) (one_more es fs e)

-- the clock goes on to the tick of the next one
next_goes : (t : Network) (es fs : List JournalEntry) (e : JournalEntry) (tick : ℕ) (w : World) (k : Packets) (i : ℕ) (ps : List (List ℕ)) →
    IsLawfulFrom t tick w k i (es ++ e ∷ fs) ps → GoesForward t (tick_from tick es) (packets_from t w k es ps) e.tick
next_goes t [] fs e tick w k i ps h = h.1
next_goes t (x ∷ es) fs e tick w k i ps h =
    next_goes t es fs e (clock_after x) (after t w x.step) (packets_by t (after t w x.step) k x (next_of ps)) (i + 1) (left_by x.step ps) h.3

-- 2. Labels

pub all_give_labels : (t : Network) (es : List JournalEntry) (ps : List (List ℕ)) → IsLawful t → IsLawfulJournal t es ps → AllGiveLabels t es
all_give_labels t es ps lawful journal n inside = record {
  sound = λ before later is. are_sound t before ps n inside lawful (front_of t es before later ps is journal);
  kept = λ before later next is. keeps_its_label t before next n;
  changed = λ before later next is.
      changes_once_free t before ps next n inside lawful (front_of t es (before ++ next ∷ []) later ps (is ∙ one_more before later next) journal);
}

-- 3. Frames

-- where the clock goes on, frames that were in their life are in it
module _ (t : Network) (es : List JournalEntry) (ps : List (List ℕ)) (lawful : IsLawful t) (journal : IsLawfulJournal t es ps) where
  still : (tick : ℕ) → GoesForward t (tick_from 0 es) (packets_of t es ps) tick → AreInTheirLife t (packets_of t es ps) tick
  still tick goes l d token below there =
      flown t (record { tick = tick; step = Tick 0; damaged = Undamaged }) (packets_of t es ps) l d token (lasting_of t lawful) young
      (subst (λ c. GoesForward t c (packets_of t es ps) tick) (sym (clock_is t es ps)) goes) below
      (in_contained _ token there)
    where
      young : AreYoung t (packets_of t es ps)
      young l d token below i =
          subst (λ c. IsInItsLife t c l token) (sym (clock_is t es ps)) (none_is_overdue t es ps lawful journal l d token below (contained_in _ token i))

pub frames_are_young : (t : Network) (packets : List (List ℕ)) (past : Past) → IsLawful t → IsLawfulPast t packets past →
    FramesAreYoung t past (inputs_of packets past.entries)
frames_are_young t packets past lawful all =
    let ps : List (List ℕ) = inputs_of packets past.entries in record {
      since = λ before later is. none_is_overdue t before ps lawful (front_of t past.entries before later ps is all.journal);
      until = λ before later next is.
          still t before ps lawful (front_of t past.entries before (next ∷ later) ps is all.journal) next.tick
          (next_goes t before later next 0 (start t) no_packets 0 ps (subst (λ xs. IsLawfulJournal t xs ps) is all.journal));
      end = still t past.entries ps lawful all.journal past.clock all.forward;
    }
