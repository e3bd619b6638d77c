-- A step that LDP doesn't see gives no label but to a site that is attached.
use Rattle.std.proofs.Common.{ℕ, ◌≡◌, Bool, true, false, List, [], ◌∷◌, ◌++◌, filter, refl, ◌∙◌, ap}
use Rattle.std.specs.Prelude.{◌==◌, ◌&&◌, not, cond}
use Rattle.mn_wiring.specs.Wiring.{nodes_of}
use Rattle.mn_topo.specs.Network.{Network, wiring_of}
use Rattle.mn_topo.specs.declared.steps.Step.{Step}
use Rattle.mn_ledger.specs.World.{World}
use Rattle.mn_ledger.specs.Transport.{is_transport, offers}
use Rattle.mn_ledger.specs.Quiet.{known_before}
use Rattle.mn_ledger.specs.Ledger.{start, world_of}
use Rattle.mn_ledger.proofs.Parts.{knowledge_kept}
use Rattle.mn_labels.specs.Labels.{Labels, offered}
use Rattle.mn_reuse_laws.specs.Resting.{rested_from}
use Rattle.mn_reuse_laws.specs.Labels.{begins_offer, new_offers, is_free, attached_in}
use Rattle.mn_frame_laws.specs.Given.{given}
use Rattle.mn_frame_laws.specs.Laws.{GivesByAttaching}
use Rattle.mn_frame_laws.proofs.Labels.{given_after}

none_passes : (p : ℕ → Bool) (xs : List ℕ) → ((x : ℕ) → p x ≡ false) → filter p xs ≡ []
none_passes p [] h = refl
none_passes p (x ∷ xs) h = ap (λ b. cond b (x ∷ filter p xs) (filter p xs)) (h x) ∙ none_passes p xs h

begins_none : (t : Network) (w : World) (s : Step) (node fec : ℕ) → is_transport s ≡ false → begins_offer t w s node fec ≡ false
begins_none t w s node fec h =
    ap (λ k. not (fec == node) && (not (offers (wiring_of t) (known_before t w node) node fec) && offers (wiring_of t) k node fec))
    (knowledge_kept t w s node h)
    ∙ by (not (fec == node)) (offers (wiring_of t) (known_before t w node) node fec)
  where
    by : (a b : Bool) → (a && (not b && b)) ≡ false
    by true true = refl
    by true false = refl
    by false b = refl

pub gives_by_attaching : GivesByAttaching
gives_by_attaching t es e node h =
    given_after t es e node
    ∙ ap (offered (is_free t (world_of t es) node (rested_from t node (start t) (λ fec. 0) es) e.tick)
    (attached_in t (world_of t es) e.step node (given t es node)))
    (none_passes (begins_offer t (world_of t es) e.step node) (nodes_of (wiring_of t)) (λ fec. begins_none t (world_of t es) e.step node fec h))
