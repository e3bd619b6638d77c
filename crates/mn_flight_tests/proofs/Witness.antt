-- At the start a site may be detached, and then attached anew, in any lawful network.
use Rattle.std.proofs.Common.{ℕ, ◌≡◌, ◌<◌, true, false, List, [], ◌∷◌, length, map, refl, arith, ap, ◌∙◌, None}
use Rattle.std.specs.Prelude.{◌-◌, ◌&&◌, ◌||◌, nat_le, sum}
use Rattle.std.specs.List.{flat_map}
use Rattle.std.proofs.lemmas.List.Sums.{sum_by-cons, sum_by-append}
use Rattle.mn_base.specs.declared.numbers.SiteNo.{SiteNo}
use Rattle.mn_base.proofs.Bools.{less_is}
use Rattle.mn_wiring.specs.Wiring.{nodes_of, links_of}
use Rattle.mn_topo.specs.Lawful.{IsLawful}
use Rattle.mn_topo.specs.Network.{Network, wiring_of}
use Rattle.mn_topo.specs.declared.steps.Step.TheVariants as step
use Rattle.mn_ledger.specs.World.{World}
use Rattle.mn_ledger.specs.Ledger.{start, no_packets}
use Rattle.mn_ledger.specs.Places.{edges}
use Rattle.mn_ledger.specs.declared.refused.Refused.TheVariants.{Unchanged, Empty, TargetsFull, LabelsSpent, NetFull, TooManySteps}
use Rattle.mn_ledger.specs.Refusal.{first_cause, where_holds, in_flight, unheard_over, unheard_by, is_full, refusal_at}
use Rattle.mn_timetable_laws.specs.Steps.{pushed}
use Rattle.mn_transport_laws.specs.Steps.{HasTurn}
use Rattle.mn_transport_laws.proofs.Witnesses.{may-be-detached, may-be-attached}

zeros : (f : ℕ → ℕ) (xs : List ℕ) → ((x : ℕ) → f x ≡ 0) → sum (map f xs) ≡ 0
zeros f [] h = refl
zeros f (x ∷ xs) h = let rest = zeros f xs h in let one = h x in sum_by-cons (λ n. n) (f x) (map f xs) ∙ omega (arith, one, rest)

zero_rows : (g : ℕ → ℕ → ℕ) (xs ys : List ℕ) → ((x y : ℕ) → g x y ≡ 0) → sum (flat_map (λ x. map (g x) ys) xs) ≡ 0
zero_rows g [] ys h = refl
zero_rows g (x ∷ xs) ys h =
    let one = zeros (g x) ys (h x) in
    let rest = zero_rows g xs ys h in
    sum_by-append (λ n. n) (map (g x) ys) (flat_map (λ x. map (g x) ys) xs) ∙ omega (arith, one, rest)

nothing_flies : (t : Network) → in_flight t (start t) ≡ 0
unfolding in_flight
nothing_flies t =
    let w : World = start t in
    let notices = zero_rows (λ node l. w.views.changes l - w.views.learned node l) (nodes_of (wiring_of t)) (links_of (wiring_of t)) (λ node l. refl) in
    let messages = zeros (unheard_over t w.sessions) (links_of (wiring_of t)) (λ l. refl) in
    let routes = zeros (unheard_by t w.peerings) (edges t) (λ edge.
    zeros (λ peer. length (w.peerings.told peer edge) - w.peerings.heard edge peer) (edges t) (λ peer. refl)) in
    omega (arith, notices, messages, routes)

not_full : (t : Network) (s : SiteNo) → is_full t (start t) no_packets (step.Detach s) [] ≡ false
not_full t s = ap (λ n. (true && nat_le 2000000 n) || false) (nothing_flies t)

not_refused : (t : Network) (s : SiteNo) → refusal_at t (start t) no_packets 0 (step.Detach s) [] ≡ None
not_refused t s =
    ap (λ full. first_cause (where_holds false Unchanged ∷ where_holds false Empty ∷ None ∷ where_holds false TargetsFull ∷ where_holds false LabelsSpent
    ∷ where_holds full NetFull ∷ where_holds false TooManySteps ∷ [])) (not_full t s)

pub first_detached : (t : Network) (s : SiteNo) → s.0 < length t.sites → HasTurn t [] (step.Detach s)
first_detached t s there = record { inputs = []; lawful = tt; turn = may-be-detached t s there }

pub then_attached : (t : Network) → IsLawful t → (s : SiteNo) → s.0 < length t.sites → HasTurn t (pushed [] 0 (step.Detach s)) (step.Attach s)
then_attached t lawful s there = record {
  inputs = [];
  lawful = (less_is s.0 (length t.sites) there, record { later = omega arith; due = refl }, not_refused t s, tt);
  turn = may-be-attached t lawful 0 s there;
}
