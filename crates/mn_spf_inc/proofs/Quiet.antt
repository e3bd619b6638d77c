-- Where no way is queued once a link has turned, no entry has changed.
use Rattle.std.proofs.Common.{ℕ, ◌≡◌, Bool, true, false, [], length, arith, sym, ◌∙◌, ap}
use Rattle.std.specs.Prelude.{Option, Some, None, MatchBool, MatchOption}
use Rattle.std.proofs.lemmas.List.Sorted.{length_permutation}
use Rattle.mn_wiring.specs.declared.links.LinkEnds.{LinkEnds}
use Rattle.mn_spf.specs.Ways.{beats, rank_at}
use Rattle.mn_spf_inc.specs.declared.way.Way.{Way}
use Rattle.mn_spf_inc.specs.Ways.{rank_of, way_at, way_over}
use Rattle.mn_spf_inc.specs.Mending.{State, Takes, Offers, OffersBeyond, Doubts, DoubtsBeyond}
use Rattle.mn_spf_inc.proofs.Ends.{doubt_size}

-- a doubt changes no entry
doubted_at : (o : Option Way) (root : ℕ) (s s' : State) (ends : LinkEnds) →
    MatchOption o (s' ≡ s) (λ way. Doubts s s' (way_over root way ends)) → s'.table ≡ s.table
doubted_at None root s s' ends d = ap (λ (x : State). x.table) d
doubted_at (Some way) root s s' ends d =
    (doubt_size (way_at s.table (way_over root way ends).to) s s' (way_over root way ends) d).0

pub doubted_table : (root from : ℕ) (s s' : State) (ends : LinkEnds) → DoubtsBeyond s s' root from ends → s'.table ≡ s.table
doubted_table root from s s' ends d = doubted_at (way_at s.table from) root s s' ends d

-- an offer that leaves no way queued took none
offered_none : (b : Bool) (s s' : State) (way : Way) → MatchBool b (Takes s s' way) (s' ≡ s) → s'.queue ≡ [] →
    (s'.table ≡ s.table) × (s.queue ≡ [])
offered_none true s s' way t e = absurd (omega (arith, length_permutation _ _ t.queue, ap length e))
offered_none false s s' way t e = (ap (λ (x : State). x.table) t, sym (ap (λ (x : State). x.queue) t) ∙ e)

offered_at : (o : Option Way) (root : ℕ) (s s' : State) (ends : LinkEnds) →
    MatchOption o (s' ≡ s) (λ way. Offers s s' (way_over root way ends)) → s'.queue ≡ [] → (s'.table ≡ s.table) × (s.queue ≡ [])
offered_at None root s s' ends t e = (ap (λ (x : State). x.table) t, sym (ap (λ (x : State). x.queue) t) ∙ e)
offered_at (Some way) root s s' ends t e =
    offered_none (beats (rank_of (way_over root way ends)) (rank_at s.table (way_over root way ends).to)) s s' (way_over root way ends) t e

pub offered_quietly : (root from : ℕ) (s s' : State) (ends : LinkEnds) → OffersBeyond s s' root from ends → s'.queue ≡ [] →
    (s'.table ≡ s.table) × (s.queue ≡ [])
offered_quietly root from s s' ends t e = offered_at (way_at s.table from) root s s' ends t e
