-- What a reflector offers of what it keeps can be announced.
use Rattle.std.proofs.Common.{ℕ, ◌≡◌, inl, inr, Bool, true, false, List, [], ◌∷◌, filter, Option, Some, None, refl, arith, ap, subst}
use Rattle.std.specs.Prelude.{◌==◌, ◌||◌, not, if◌then◌else◌, option_map}
use Rattle.mn_base.specs.Ordered.{one_at}
use Rattle.mn_base.proofs.Members.{In}
use Rattle.mn_topo.specs.Network.{Network}
use Rattle.mn_ledger.specs.Places.{edge_of}
use Rattle.mn_offers.specs.Heard.{Heard, heard_before, place_of}
use Rattle.mn_reflect_ledger_laws.specs.Words.{Key}
use Rattle.mn_reflect_ledger_laws.specs.Picks.{or_else, is_reflector}
use Rattle.mn_reflect_ledger_laws.proofs.Holding.{none_some}
use Rattle.mn_reflect_world_laws.specs.Choice.{Row, kept_of, first_kept, reflected_to, picked_by, passed_on, offered_of}
use Rattle.mn_reflect_world_laws.specs.Known.{IsSayableRoute, IsOffered}

one_in : {A : Type 0} (before : A → A → Bool) (x : A) (xs : List A) (y : A) → one_at before x xs ≡ Some y → In xs y
one_in before x [] y h = absurd (none_some h)
one_in before x (z ∷ zs) y h = by (before z x || before x z) (one_in before x zs y) h
  where
    by : (b : Bool) → (one_at before x zs ≡ Some y → In zs y) → (if b then one_at before x zs else Some z) ≡ Some y → In (z ∷ zs) y
    by true more e = inr (more e)
    by false more e = inl (ap (λ o. elim o [ None ↦ z | Some v ↦ v ]) e)

passed : (t : Network) (node : ℕ) (y : Heard) → IsSayableRoute t y → IsOffered t (passed_on t node y)
passed t node y h = record {
  vrf = h.vrf;
  distinguisher = h.distinguisher;
  prefix = h.prefix;
  label = h.label;
  ascending = h.ascending;
  targets = h.targets;
  few = h.few;
  some = omega arith;
  near = (let near = h.near in omega (arith, near));
}

module _ (t : Network) (reflectors : List ℕ) (row : Row) (node peer : ℕ) (key : Key) (say : (q : ℕ) (y : Heard) → In (row q) y → IsSayableRoute t y) where
  from_one : (q : ℕ) (y : Heard) → kept_of row key q ≡ Some y → IsSayableRoute t y
  from_one q y h = say q y (one_in heard_before (place_of key.vrf key.prefix) (row q) y h)

  either : (o p : Option Heard) (y : Heard) → (o ≡ Some y → IsSayableRoute t y) → (p ≡ Some y → IsSayableRoute t y) → or_else o p ≡ Some y →
      IsSayableRoute t y
  either None p y one more e = more e
  either (Some x) p y one more e = one e

  from_first : (peers : List ℕ) (y : Heard) → first_kept row key peers ≡ Some y → IsSayableRoute t y
  from_first [] y h = absurd (none_some h)
  from_first (q ∷ peers) y h = either (kept_of row key q) (first_kept row key peers) y (from_one q y) (from_first peers y) h

  pub reflected_sayable : (route : Heard) → reflected_to reflectors row node key ≡ Some route → IsSayableRoute t route
  reflected_sayable route h = from_first (filter (λ other. not (other == node)) reflectors) route h

  from_either : (y : Heard) → picked_by t reflectors row node key ≡ Some y → IsSayableRoute t y
  from_either y h =
      either (kept_of row key (edge_of t key.vrf)) (reflected_to reflectors row node key) y (from_one (edge_of t key.vrf) y) (reflected_sayable y) h

  pub offered_sayable : (route : Heard) → offered_of t reflectors row node peer key ≡ Some route → IsOffered t route
  offered_sayable route h =
      mapped (if is_reflector reflectors peer then kept_of row key (edge_of t key.vrf)
      else if edge_of t key.vrf == peer then None
      else picked_by t reflectors row node key) (λ y. by y (is_reflector reflectors peer) (edge_of t key.vrf == peer)) h
    where
      by : (y : Heard) (b c : Bool) → (if b then kept_of row key (edge_of t key.vrf) else if c then None else picked_by t reflectors row node key) ≡ Some y →
          IsSayableRoute t y
      by y true c e = from_one (edge_of t key.vrf) y e
      by y false true e = absurd (none_some e)
      by y false false e = from_either y e

      mapped : (o : Option Heard) → ((y : Heard) → o ≡ Some y → IsSayableRoute t y) → option_map (passed_on t node) o ≡ Some route → IsOffered t route
      mapped None f e = absurd (none_some e)
      mapped (Some y) f e = subst (IsOffered t) (ap (λ o. elim o [ None ↦ route | Some z ↦ z ]) e) (passed t node y (f y refl))
