-- Of a customer's network with two edges: its candidates, and each choice by computing.
use Rattle.std.proofs.Common.{◌≡◌, inl, inr, Bool, true, List, [], ◌∷◌, refl, sym, ◌∙◌, ap}
use Rattle.mn_base.proofs.Bools.{no}
use Rattle.mn_ledger.specs.Held.{HeldRoute}
use Rattle.mn_ledger.specs.Eligible.{covers}
use Rattle.mn_ledger.specs.Ledger.{first_config}
use Rattle.mn_ledger.proofs.Members.{In, in_contained, contained_in}
use Rattle.mn_ledger.proofs.Running.{a_run}
use Rattle.mn_settled_laws.specs.Routes.{routes_of}
use Rattle.mn_reach_laws.specs.Candidates.{AreCandidates}
use Rattle.mn_reach_laws.specs.TwoHomes.{two_homes}
use Rattle.mn_failure_laws.specs.TwoLinks.{at_site_b}
use Rattle.mn_failure_laws.specs.TwoHomes.{to_site_b, to_site_c, TwoHomesChoose}

module _ (resolves : Bool) where
  all_routes : List HeldRoute
  all_routes = routes_of (two_homes resolves) (first_config (two_homes resolves)) 0 0

  only : (r : HeldRoute) → In (to_site_b ∷ to_site_c ∷ []) r → In all_routes r × (covers at_site_b r ≡ true)
  unfolding all_routes
  only r i = elim i [
    | inl e ↦ (inr (inl e), ap (covers at_site_b) (sym e))
    | inr j ↦ elim j [ inl e ↦ (inr (inr (inl e)), ap (covers at_site_b) (sym e)) | inr k ↦ absurd k ]
  ]

  all : (r : HeldRoute) → In all_routes r → covers at_site_b r ≡ true → In (to_site_b ∷ to_site_c ∷ []) r
  unfolding all_routes
  all r i m = elim i [
    | inl e ↦ absurd (no (ap (covers at_site_b) e ∙ m))
    | inr j ↦ j
  ]

  are : AreCandidates (two_homes resolves) (first_config (two_homes resolves)) 0 0 at_site_b (to_site_b ∷ to_site_c ∷ [])
  unfolding all_routes
  are = record {
    only = λ r c. let o = only r (in_contained (to_site_b ∷ to_site_c ∷ []) r c) in (contained_in all_routes r o.0, o.1);
    all = λ r c m. contained_in (to_site_b ∷ to_site_c ∷ []) r (all r (in_contained all_routes r c) m);
    ordered = ((refl, tt), (tt, tt));
  }

pub choose : TwoHomesChoose
unfolding a_run
choose = record {
  candidates = are;
  better = refl;
  kept = refl;
  resolved = refl;
  other_session = refl;
  none = refl;
  falls = refl;
  arrives = refl;
}
