-- What is asked of the targets of a VRF; and one of a list of counts.
use Rattle.std.proofs.Common.{ℕ, zero, suc, ◌≡◌, ◌<◌, Bool, List, [], ◌∷◌, length, map, refl, arith, sym, ap, ◌∙◌, Option, Some, None}
use Rattle.std.specs.Prelude.{option_map, unwrap_or, slice_get, slice_index}
use Rattle.mn_base.specs.declared.numbers.Rt.{Rt}
use Rattle.mn_base.proofs.Bools.{none_below}
use Rattle.mn_base.proofs.Rules.{some_is}
use Rattle.mn_topo.specs.Network.{Network}
use Rattle.mn_vrf.specs.Vrf.{VrfState}
use Rattle.mn_routing_laws.specs.Whole.{RoutesNow}
use Rattle.mn_net.specs.Parts.{targets_of}
use Rattle.mn_net_laws.specs.Refusal.{of_vrf}
use Rattle.mn_net_laws.proofs.Asked.{bind, of_vrf_by}

-- what is asked of the targets that a VRF exports or imports, or the answer where there is no VRF
pub targets_by : {A : Type 0} (t : Network) (r : RoutesNow) (v : ℕ) (exported : Bool) (question : List Rt → A) (none : A) (o : Option (List Rt)) →
    o ≡ of_vrf t r v (λ (state : VrfState). Some (targets_of exported state)) →
    unwrap_or (option_map question o) none ≡ unwrap_or (of_vrf t r v (λ (state : VrfState). Some (question (targets_of exported state)))) none
targets_by t r v exported question none o e =
    ap (λ q. unwrap_or (option_map question q) none) (e ∙ of_vrf_by t r v (λ (state : VrfState). Some (targets_of exported state)))
    ∙ ap (λ q. unwrap_or q none) (through (of_vrf t r v Some))
    ∙ ap (λ q. unwrap_or q none) (sym (of_vrf_by t r v (λ (state : VrfState). Some (question (targets_of exported state)))))
  where
    through : (held : Option VrfState) →
        option_map question (bind (λ (state : VrfState). Some (targets_of exported state)) held)
        ≡ bind (λ (state : VrfState). Some (question (targets_of exported state))) held
    through None = refl
    through (Some held) = refl

-- one of a list of counts
pub count_at : {A : Type 0} (f : A → ℕ) (xs : List A) (i : ℕ) (x : A) → slice_get xs i ≡ Some x → slice_index (map f xs) i ≡ f x
count_at f [] i x e = cc
count_at f (y ∷ ys) zero x e = ap f (some_is y x e)
count_at f (y ∷ ys) (suc i) x e = count_at f ys i x e

pub get_at : {A : Type 0} (xs : List A) (i : ℕ) → i < length xs → (x : A) × (slice_get xs i ≡ Some x)
get_at [] i h = absurd (none_below i h)
get_at (x ∷ xs) zero h = (x, refl)
get_at (x ∷ xs) (suc i) h = get_at xs i (omega (arith, h))
