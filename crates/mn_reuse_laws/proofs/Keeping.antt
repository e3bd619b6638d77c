-- What is kept of a node's labels, and what flies of them, has the same label before and after a step.
use Rattle.std.proofs.Common.{ℕ, ◌≡◌, ◌≢◌, ◌+◌, ◌<◌, inl, inr, Bool, true, false, List, length, filter, sym, ◌∙◌, ap, subst}
use Rattle.std.specs.Prelude.{◌&&◌, nat_lt}
use Rattle.std.proofs.lemmas.List.{nil_from_length}
use Rattle.mn_wiring.specs.Wiring.{is_end, across, links_at}
use Rattle.mn_base.proofs.Bools.{clash, two_ways}
use Rattle.mn_base.proofs.Members.{In, filter_in, in_contained}
use Rattle.mn_node.specs.Ldp.{Message}
use Rattle.mn_topo.specs.Network.{Network, wiring_of}
use Rattle.mn_topo.specs.Lawful.{IsLawful}
use Rattle.mn_topo.specs.declared.steps.JournalEntry.{JournalEntry}
use Rattle.mn_ledger.specs.Ledger.{world_of}
use Rattle.mn_ledger.specs.Lawful.{IsLawfulJournal}
use Rattle.mn_reuse_laws.specs.Answers.{count_by, is_mention, is_release, flying_from}
use Rattle.mn_reuse_laws.specs.Resting.{is_at_rest, rested_of}
use Rattle.mn_reuse_laws.specs.Labels.{longest_life}
use Rattle.mn_reuse_laws.specs.Laws.{IsForgotten, StaysLabelled, KeepsWhatIsSaid}
use Rattle.mn_reuse_laws.proofs.Laws.{are_forgotten}
use Rattle.mn_reuse_laws.proofs.Over.{has_labels, keeps_its_label}

some_counted : (p : Message → Bool) (xs : List Message) (m : Message) → In xs m → p m ≡ true → count_by p xs ≡ 0 → ⊥
some_counted p xs m i on none = subst (λ ys. In ys m) (nil_from_length (filter p xs) none) (filter_in p xs m i on)

awake_stays : (t : Network) (es : List JournalEntry) (ps : List (List ℕ)) (e : JournalEntry) (n p : ℕ) → IsLawful t → IsLawfulJournal t es ps →
    n < length t.loopbacks → p < length t.loopbacks → p ≢ n → is_at_rest t (world_of t es) n p ≡ false → StaysLabelled t es e n p
awake_stays t es ps e n p lawful journal there below apart awake =
    let one = (has_labels t es ps n there lawful journal).had p below apart awake in record {
      label = one.0;
      before = one.1;
      now = keeps_its_label t es e n p one.0 one.1
          (ap (λ b. b && nat_lt (rested_of t es n p + longest_life t (links_at (wiring_of t) n)) e.tick) awake);
    }

pub keeps_what_is_said : (t : Network) (es : List JournalEntry) (ps : List (List ℕ)) (e : JournalEntry) (n p l : ℕ) → IsLawful t → IsLawfulJournal t es ps →
    n < length t.loopbacks → p < length t.loopbacks → p ≢ n → l < length t.links → is_end (wiring_of t) l n ≡ true → KeepsWhatIsSaid t es e n p l
keeps_what_is_said t es ps e n p l lawful journal there below apart inside at = record {
  kept = λ h. by (λ gone. clash (sym h ∙ gone.kept));
  mention = λ m c h. by (λ gone. some_counted (is_mention p) (flying_from t (world_of t es) l n) m (in_contained (flying_from t (world_of t es) l n) m c) h
      gone.mentions);
  release = λ m c h. by (λ gone. some_counted (is_release p) (flying_from t (world_of t es) l (across (wiring_of t) l n)) m
      (in_contained (flying_from t (world_of t es) l (across (wiring_of t) l n)) m c) h gone.releases);
}
  where
    by : (IsForgotten t (world_of t es) n p l → ⊥) → StaysLabelled t es e n p
    by lost = elim (two_ways (is_at_rest t (world_of t es) n p)) [
      | inl rest ↦ absurd (lost (are_forgotten t es ps lawful journal n p l inside at below rest))
      | inr awake ↦ awake_stays t es ps e n p lawful journal there below apart awake
    ]
