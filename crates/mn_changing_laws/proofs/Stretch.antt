-- From the start of a journal to any point in the stretch: each next hop is that with the link down, or that with the link up.
use Rattle.std.proofs.Common.{ℕ, ◌≡◌, ◌+◌, ◌<◌, List, [], ◌∷◌, ◌++◌, true, length, refl, sym, ◌∙◌, ap, subst, Some}
use Rattle.std.specs.Prelude.{◌&&◌}
use Rattle.std.specs.List.{list_all, Contains}
use Rattle.mn_base.proofs.Bools.{and_parts}
use Rattle.mn_base.proofs.Members.{contained_in}
use Rattle.mn_topo.specs.Network.{Network}
use Rattle.mn_topo.specs.Lawful.{IsLawful}
use Rattle.mn_topo.specs.declared.steps.JournalEntry.{JournalEntry}
use Rattle.mn_ledger.specs.World.{World}
use Rattle.mn_ledger.specs.Packets.{Packets}
use Rattle.mn_ledger.specs.Time.{clock_after}
use Rattle.mn_ledger.specs.Ledger.{after, start, no_packets, next_of, left_by, world_from, world_of, packets_from, packets_by}
use Rattle.mn_ledger.specs.Lawful.{IsLawfulFrom}
use Rattle.mn_settled_laws.specs.Ways.{AreUpWhereOdd, way}
use Rattle.mn_settled_laws.specs.Arrival.{left_after}
use Rattle.mn_settled_laws.proofs.Arrival.{world_from-append, lawful_begins}
use Rattle.mn_settled_laws.proofs.Parity.{up_where_odd}
use Rattle.mn_changing_laws.specs.Changing.{changes_no_other, OneLinkChanges, old_and_new_next}
use Rattle.mn_changing_laws.proofs.Views.{OthersStay, others-stay-first, others-stay, sends}

-- what a lawful journal ends with is lawful where it begins
pub lawful-rest : (t : Network) (es fs : List JournalEntry) (tick : ℕ) (w : World) (k : Packets) (i : ℕ) (ps : List (List ℕ))
    → IsLawfulFrom t tick w k i (es ++ fs) ps
    → (later : ℕ) × (count : ℕ) × IsLawfulFrom t later (world_from t w es) (packets_from t w k es ps) count fs (left_after es ps)
lawful-rest t [] fs tick w k i ps lawful = (tick, i, lawful)
lawful-rest t (e ∷ es) fs tick w k i ps lawful =
    lawful-rest t es fs (clock_after e) (after t w e.step) (packets_by t (after t w e.step) k e (next_of ps)) (i + 1) (left_by e.step ps) lawful.3

pub alone-parts : (l : ℕ) (es fs : List JournalEntry) → list_all (λ entry. changes_no_other l entry.step) (es ++ fs) ≡ true
    → (list_all (λ entry. changes_no_other l entry.step) es ≡ true) × (list_all (λ entry. changes_no_other l entry.step) fs ≡ true)
alone-parts l [] fs h = (refl, h)
alone-parts l (e ∷ es) fs h =
    let parts = and_parts (changes_no_other l e.step) (list_all (λ entry. changes_no_other l entry.step) (es ++ fs)) h in
    let rest = alone-parts l es fs parts.1 in
    (ap (λ b. b && list_all (λ entry. changes_no_other l entry.step) es) parts.0 ∙ rest.0, rest.1)

module _ (t : Network) (l : ℕ) (before earlier later : List JournalEntry) (ps : List (List ℕ)) (one : OneLinkChanges t l before (earlier ++ later) ps) where
  pub odd-first : AreUpWhereOdd (world_of t before)
  odd-first = up_where_odd t before ps (lawful_begins t before (earlier ++ later) ps one.journal)

  -- every other link is as it was
  pub others-here : OthersStay t (world_of t before) l (world_of t (before ++ earlier))
  others-here =
      let rest = lawful-rest t before (earlier ++ later) 0 (start t) no_packets 0 ps one.journal in
      subst (OthersStay t (world_of t before) l) (sym (world_from-append t before earlier (start t)))
      (others-stay t (world_of t before) l earlier rest.0 (world_of t before) (packets_from t (start t) no_packets before ps) rest.1 (left_after before ps)
      (front earlier later rest.0 (world_of t before) (packets_from t (start t) no_packets before ps) rest.1 (left_after before ps) rest.2)
      (alone-parts l earlier later one.alone).0 (others-stay-first t (world_of t before) l one.known))
    where
      front : (es fs : List JournalEntry) (tick : ℕ) (w : World) (k : Packets) (i : ℕ) (ps : List (List ℕ))
          → IsLawfulFrom t tick w k i (es ++ fs) ps → IsLawfulFrom t tick w k i es ps
      front [] fs tick w k i ps lawful = tt
      front (e ∷ es) fs tick w k i ps lawful = (
        lawful.0,
        lawful.1,
        lawful.2,
        front es fs (clock_after e) (after t w e.step) (packets_by t (after t w e.step) k e (next_of ps)) (i + 1) (left_by e.step ps) lawful.3,
      )

  pub is_old_or_new : IsLawful t → (node edge : ℕ) (hop : ℕ × ℕ) → node < length t.loopbacks → way t (world_of t (before ++ earlier)) node edge ≡ Some hop
      → Contains (old_and_new_next t (world_of t before) l edge node) hop.0
  is_old_or_new lawful node edge hop below is =
      contained_in (old_and_new_next t (world_of t before) l edge node) hop.0
      (sends t (world_of t before) l (world_of t (before ++ earlier)) node edge hop lawful others-here odd-first below is).0

pub each_is_old_or_new : (t : Network) (l : ℕ) (before earlier later : List JournalEntry) (ps : List (List ℕ)) → IsLawful t
    → OneLinkChanges t l before (earlier ++ later) ps → (node edge : ℕ) (hop : ℕ × ℕ) → node < length t.loopbacks
    → way t (world_of t (before ++ earlier)) node edge ≡ Some hop → Contains (old_and_new_next t (world_of t before) l edge node) hop.0
each_is_old_or_new t l before earlier later ps lawful one = is_old_or_new t l before earlier later ps one lawful
