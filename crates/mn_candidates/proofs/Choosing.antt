-- Routes for an address are found one by one.
use Rattle.std.proofs.Common.{ℕ, ◌≡◌, ◌+◌, ◌<◌, inl, inr, Bool, true, false, List, [], ◌∷◌, ◌++◌, cond, length, get_or, map, filter, take, refl, sym, ◌∙◌, ap}
use Rattle.std.proofs.Common.{subst}
use Rattle.std.specs.List.{insert, position_or_len}
use Rattle.std.proofs.lemmas.List.{append-nil, length-append, take_more, map-append}
use Rattle.std.proofs.lemmas.List.Elements.{filter-append}
use Rattle.mn_base.proofs.Bools.{no}
use Rattle.mn_ledger.specs.Held.{HeldRoute, is_better}
use Rattle.mn_ledger.specs.Eligible.{covers}
use Rattle.mn_ledger.proofs.Members.{in_contained, contained_in, in_append, in_front, in_rest}
use Rattle.mn_candidates.specs.declared.route.Route.{Route}
use Rattle.mn_candidates.specs.Routes.{held_as, AreFor}
use Rattle.mn_candidates.proofs.Preferring.{put, put_ordered, put_in, in_put, length_put, inserted}

module _ (address : ℕ) where
  pub none_yet : AreFor address [] []
  none_yet = record { only = λ r h. absurd (in_contained [] r h); all = λ r h c. h; each = refl; ordered = tt }

  -- so many of these contain the address
  abbrev count : List HeldRoute → ℕ
  count routes = length (filter (covers address) routes)

  count_more : (routes : List HeldRoute) (route : HeldRoute) (b : Bool) → covers address route ≡ b
      → count (routes ++ route ∷ []) ≡ length (filter (covers address) routes ++ cond b (route ∷ []) [])
  count_more routes route b e =
      ap length (filter-append (covers address) routes (route ∷ []))
      ∙ ap (λ c. length (filter (covers address) routes ++ cond c (route ∷ []) [])) e

  -- a route that doesn't contain the address
  pub passed_over : (routes found : List HeldRoute) (route : HeldRoute) → covers address route ≡ false → AreFor address routes found
      → AreFor address (routes ++ route ∷ []) found
  passed_over routes found route misses so_far = record {
    only = λ r h. let is = so_far.only r h in (contained_in (routes ++ route ∷ []) r (in_front routes (route ∷ []) r (in_contained routes r is.0)), is.1);
    all = λ r h c. elim (in_append routes (route ∷ []) r (in_contained (routes ++ route ∷ []) r h)) [
      | inl i ↦ so_far.all r (contained_in routes r i) c
      | inr i ↦ elim i [ inl e ↦ absurd (no (sym misses ∙ ap (covers address) e ∙ c)) | inr j ↦ absurd j ]
    ];
    each = so_far.each ∙ sym (count_more routes route false misses ∙ ap length (append-nil (filter (covers address) routes)));
    ordered = so_far.ordered;
  }

  -- one that does
  pub put_among : (routes found : List HeldRoute) (route : HeldRoute) → covers address route ≡ true → AreFor address routes found
      → AreFor address (routes ++ route ∷ []) (put route found)
  put_among routes found route hits so_far = record {
    only = λ r h. elim (put_in route found r (in_contained (put route found) r h)) [
      | inl e ↦ (contained_in (routes ++ route ∷ []) r (in_rest routes (route ∷ []) r (inl e)), sym (ap (covers address) e) ∙ hits)
      | inr i ↦
          let is = so_far.only r (contained_in found r i) in
          (contained_in (routes ++ route ∷ []) r (in_front routes (route ∷ []) r (in_contained routes r is.0)), is.1)
    ];
    all = λ r h c. contained_in (put route found) r (elim (in_append routes (route ∷ []) r (in_contained (routes ++ route ∷ []) r h)) [
      | inl i ↦ in_put route found r (inr (in_contained found r (so_far.all r (contained_in routes r i) c)))
      | inr i ↦ elim i [ inl e ↦ in_put route found r (inl e) | inr j ↦ absurd j ]
    ]);
    each = length_put route found ∙ ap (λ n. n + 1) so_far.each
        ∙ sym (count_more routes route true hits ∙ length-append (filter (covers address) routes) (route ∷ []));
    ordered = put_ordered route found so_far.ordered;
  }

-- the next of a list of routes
next_is : (routes : List Route) (i : ℕ) (route : Route) → i < length routes → get_or routes i route ≡ route
    → map held_as (take i routes) ++ held_as route ∷ [] ≡ map held_as (take (i + 1) routes)
next_is routes i route below is =
    ap (λ r. map held_as (take i routes) ++ held_as r ∷ []) (sym is) ∙ sym (map-append held_as (take i routes) (get_or routes i route ∷ []))
    ∙ sym (ap (map held_as) (take_more routes i route below))

pub next_passed : (address : ℕ) (routes found : List Route) (i : ℕ) (route : Route) → i < length routes → get_or routes i route ≡ route
    → covers address (held_as route) ≡ false → AreFor address (map held_as (take i routes)) (map held_as found)
    → AreFor address (map held_as (take (i + 1) routes)) (map held_as found)
next_passed address routes found i route below is misses so_far =
    subst (λ rs. AreFor address rs (map held_as found)) (next_is routes i route below is)
    (passed_over address (map held_as (take i routes)) (map held_as found) (held_as route) misses so_far)

pub next_put : (address : ℕ) (routes found new : List Route) (i : ℕ) (route : Route) → i < length routes → get_or routes i route ≡ route
    → covers address (held_as route) ≡ true → AreFor address (map held_as (take i routes)) (map held_as found)
    → new ≡ insert found (position_or_len (λ other. is_better (held_as route) (held_as other)) found) route
    → AreFor address (map held_as (take (i + 1) routes)) (map held_as new)
next_put address routes found new i route below is hits so_far e =
    subst (λ rs. AreFor address rs (map held_as new)) (next_is routes i route below is)
    (subst (AreFor address (map held_as (take i routes) ++ held_as route ∷ [])) (sym (ap (map held_as) e ∙ inserted route found))
    (put_among address (map held_as (take i routes)) (map held_as found) (held_as route) hits so_far))
