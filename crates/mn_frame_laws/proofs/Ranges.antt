-- Which FECs may have labels of a node: those of the other nodes.
use Rattle.std.proofs.Common.{ℕ, zero, suc, ◌≡◌, ◌+◌, ◌<◌, Bool, true, false, List, [], ◌∷◌, length, refl, arith, sym, ◌∙◌, ap, subst, Option, Some, None}
use Rattle.std.proofs.Common.{replicate, slice_index_or}
use Rattle.std.specs.Prelude.{◌==◌, ◌&&◌, not, if◌then◌else◌}
use Rattle.std.proofs.lemmas.List.{length-replicate}
use Rattle.mn_base.proofs.Bools.{clash, and_left, same_test}
use Rattle.mn_base.proofs.Members.{In, in_filter}
use Rattle.mn_labels.specs.Labels.{Labels, label_now, attached, attachment_of}
use Rattle.mn_labels.proofs.Offering.{offered_long, offered_was}
use Rattle.mn_wiring.specs.Wiring.{nodes_of}
use Rattle.mn_topo.specs.Network.{Network, wiring_of}
use Rattle.mn_topo.specs.declared.steps.Step.{Step}
use Rattle.mn_topo.specs.declared.steps.Step.TheVariants.{Attach}
use Rattle.mn_topo.specs.declared.steps.JournalEntry.{JournalEntry}
use Rattle.mn_ledger.specs.Places.{home_of}
use Rattle.mn_ledger.specs.World.{World}
use Rattle.mn_ledger.specs.Ledger.{start, after}
use Rattle.mn_reuse_laws.specs.Resting.{rested_after}
use Rattle.mn_reuse_laws.specs.Labels.{begins_offer, new_offers, is_free, attached_in, labels_after, first_labels, labels_from, labels_of}
use Rattle.mn_frame_laws.specs.Given.{given}

attached_fecs : (t : Network) (w : World) (s : Step) (n : ℕ) (labels : Labels) → (attached_in t w s n labels).fecs ≡ labels.fecs
attached_fecs t w (Attach site) n labels = by (home_of t site.0 == n)
  where
    by : (b : Bool) → (if b then attached labels (attachment_of site.0 (w.config.attaches site.0 + 2)) else labels).fecs ≡ labels.fecs
    by true = refl
    by false = refl
attached_fecs t w _ n labels = refl

-- 1. There is a place for each node

from_long : (t : Network) (n : ℕ) (es : List JournalEntry) (w : World) (rested : ℕ → ℕ) (labels : Labels) →
    length (labels_from t n w rested labels es).fecs ≡ length labels.fecs
from_long t n [] w rested labels = refl
from_long t n (e ∷ es) w rested labels =
    from_long t n es (after t w e.step) (rested_after t w e.tick e.step n rested) (labels_after t w e.tick e.step n rested labels)
    ∙ offered_long (is_free t w n rested e.tick) (attached_in t w e.step n labels) (new_offers t w e.step n)
    ∙ ap length (attached_fecs t w e.step n labels)

pub given_long : (t : Network) (es : List JournalEntry) (n : ℕ) → length (given t es n).fecs ≡ length t.loopbacks
unfolding given labels_of
given_long t es n = from_long t n es (start t) (λ fec. 0) (first_labels t n) ∙ length-replicate (length t.loopbacks) None

past_none : (fecs : List (Option ℕ)) (p a : ℕ) → slice_index_or fecs p None ≡ Some a → p < length fecs
past_none [] p a h = cc
past_none (x ∷ xs) zero a h = omega arith
past_none (x ∷ xs) (suc p) a h = let rest = past_none xs p a h in omega (arith, rest)

pub given_inside : (t : Network) (es : List JournalEntry) (n p a : ℕ) → label_now (given t es n) p ≡ Some a → p < length t.loopbacks
given_inside t es n p a h = subst (λ m. p < m) (given_long t es n) (past_none (given t es n).fecs p a h)

-- 2. The node's own has none

not_itself : (t : Network) (w : World) (s : Step) (n : ℕ) → In (new_offers t w s n) n → ⊥
not_itself t w s n i =
    let f = in_filter (begins_offer t w s n) (nodes_of (wiring_of t)) n i in
    clash (sym (and_left (not (n == n)) _ f.1) ∙ ap not (same_test n))

from_own : (t : Network) (n : ℕ) (es : List JournalEntry) (w : World) (rested : ℕ → ℕ) (labels : Labels) (a : ℕ) →
    label_now (labels_from t n w rested labels es) n ≡ Some a → label_now labels n ≡ Some a
from_own t n [] w rested labels a h = h
from_own t n (e ∷ es) w rested labels a h =
    ap (λ fecs. slice_index_or fecs n None) (sym (attached_fecs t w e.step n labels))
    ∙ offered_was (is_free t w n rested e.tick) (attached_in t w e.step n labels) (new_offers t w e.step n) n a (not_itself t w e.step n)
    (from_own t n es (after t w e.step) (rested_after t w e.tick e.step n rested) (labels_after t w e.tick e.step n rested labels) a h)

none_of_none : (many n a : ℕ) → slice_index_or (replicate many None) n None ≡ Some a → ⊥
none_of_none zero n a h = cc
none_of_none (suc many) zero a h = cc
none_of_none (suc many) (suc n) a h = none_of_none many n a h

pub own_has_none : (t : Network) (es : List JournalEntry) (n a : ℕ) → label_now (given t es n) n ≡ Some a → ⊥
unfolding given labels_of
own_has_none t es n a h = none_of_none (length t.loopbacks) n a (from_own t n es (start t) (λ fec. 0) (first_labels t n) a h)
