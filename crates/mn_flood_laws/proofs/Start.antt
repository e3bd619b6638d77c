-- The start, and any events.
use Rattle.std.proofs.Common.{ℕ, zero, suc, ◌≡◌, ◌<◌, inl, inr, false, cond, List, [], ◌∷◌, map, length, get_or, Some, None, filter}
use Rattle.std.proofs.Common.{refl, arith, sym, ◌∙◌, ap}
use Rattle.std.specs.Prelude.{if◌then◌else◌}
use Rattle.std.proofs.lemmas.Bool.Decides.{eqb_tells}
use Rattle.std.proofs.lemmas.List.FromFn.{get_or-map-range_with_len, length-map-range_with_len}
use Rattle.mn_base.proofs.Bools.{no, same_test}
use Rattle.mn_base.proofs.Members.{in_contained}
use Rattle.mn_wiring.specs.Wiring.{Wiring, View, is_up, nodes_of, links_of, links_at, JoinsNodes, EndsDiffer}
use Rattle.mn_flood_laws.specs.Flood.{Advert, FloodWorld, FloodEvent, Change, Hear, has, age, first_of, start, flood_after, flood_from, flood_of}
use Rattle.mn_flood_laws.specs.Laws.{IsCopy, HasItsOwn, IsFlood, AreEvents}
use Rattle.mn_flood_laws.proofs.Sending.{some_same, none_some}
use Rattle.mn_flood_laws.proofs.Hearing.{heard_keeps}
use Rattle.mn_flood_laws.proofs.Changing.{changed_keeps}

all_off : (xs : List ℕ) (k : ℕ) → get_or (map (λ l. false) xs) k false ≡ false
all_off [] k = refl
all_off (x ∷ xs) zero = refl
all_off (x ∷ xs) (suc k) = all_off xs k

none_up : (up : View) → ((k : ℕ) → is_up up k ≡ false) → (xs : List ℕ) → filter (is_up up) xs ≡ []
none_up up h [] = refl
none_up up h (x ∷ xs) = ap (λ b. cond b (x ∷ filter (is_up up) xs) (filter (is_up up) xs)) (h x) ∙ none_up up h xs

module _ (wiring : Wiring) where
  count : ℕ
  count = length wiring.loopbacks

  row_is : (node : ℕ) → node < length wiring.loopbacks → get_or (start wiring).kept node [] ≡ map (first_of node) (nodes_of wiring)
  row_is node h = get_or-map-range_with_len (λ n. map (first_of n) (nodes_of wiring)) 0 (length wiring.loopbacks) node node [] h (omega arith)

  has_first : (node origin : ℕ) → node < length wiring.loopbacks → origin < length wiring.loopbacks → has (start wiring) node origin ≡ first_of node origin
  has_first node origin h g =
      ap (λ row. get_or row origin None) (row_is node h)
      ∙ get_or-map-range_with_len (first_of node) 0 (length wiring.loopbacks) origin origin None g (omega arith)

  first_itself : (node : ℕ) → first_of node node ≡ Some (record { origin = node; number = 0; links = [] })
  first_itself node = ap (λ b. if b then Some (record { origin = node; number = 0; links = [] }) else None) (same_test node)

  pub first_age : (node : ℕ) → node < length wiring.loopbacks → age (has (start wiring) node node) ≡ 1
  first_age node h = ap age (has_first node node h h ∙ first_itself node)

  own_alone : (node origin : ℕ) (advert : Advert) → first_of node origin ≡ Some advert → origin ≡ node
  own_alone node origin advert e = elim (eqb_tells origin node) [
    | inl q ↦ q.1
    | inr q ↦ absurd (none_some advert (sym (ap (λ b. if b then Some (record { origin = node; number = 0; links = [] }) else None) q.0) ∙ e))
  ]

  own_first : (node : ℕ) → node < length wiring.loopbacks → HasItsOwn wiring (start wiring) node
  own_first node h = record {
    advert = record { origin = node; number = 0; links = [] };
    kept = has_first node node h h ∙ first_itself node;
    links = sym (none_up (start wiring).up (all_off (links_of wiring)) (links_at wiring node));
  }

  copy_first : (node origin : ℕ) (advert : Advert) → node < length wiring.loopbacks → origin < length wiring.loopbacks →
      has (start wiring) node origin ≡ Some advert →
      IsCopy (has (start wiring) origin origin) advert
  copy_first node origin advert h g e = record { no_newer = omega (arith, ap age is_own); same = λ q. is_own }
    where
      is_own : has (start wiring) origin origin ≡ Some advert
      is_own = ap (λ x. has (start wiring) x origin) (own_alone node origin advert (sym (has_first node origin h g) ∙ e)) ∙ e

  named_first : (node origin : ℕ) (advert : Advert) → node < length wiring.loopbacks → origin < length wiring.loopbacks →
      has (start wiring) node origin ≡ Some advert →
      advert.origin ≡ origin
  named_first node origin advert h g e =
      let first : first_of node origin ≡ Some advert = sym (has_first node origin h g) ∙ e in
      let same : origin ≡ node = own_alone node origin advert first in
      ap (λ a. a.origin) (sym (some_same (record { origin = node; number = 0; links = [] }) advert (sym (first_itself node) ∙ ap (first_of node) (sym same)
      ∙ first))) ∙ sym same

  pub start_is : IsFlood wiring (start wiring)
  start_is = record {
    links = length-map-range_with_len (λ l. false) 0 (length wiring.ends);
    rows = length-map-range_with_len (λ n. map (first_of n) (nodes_of wiring)) 0 (length wiring.loopbacks);
    columns = λ node h. ap length (row_is node h) ∙ length-map-range_with_len (first_of node) 0 (length wiring.loopbacks);
    own = own_first;
    named = named_first;
    copies = copy_first;
    flights = λ sent c. absurd (in_contained [] sent c);
    reaches = λ l dir origin h u g. absurd (no (sym (all_off (links_of wiring) l) ∙ u));
  }

  module _ (joins : JoinsNodes wiring) (differ : EndsDiffer wiring) where
    pub from_any : (world : FloodWorld) → IsFlood wiring world → (events : List FloodEvent) → AreEvents wiring events →
        IsFlood wiring (flood_from wiring world events)
    from_any world f [] h = f
    from_any world f (Change l up ∷ events) h =
        from_any (flood_after wiring world (Change l up)) (changed_keeps wiring joins differ world f l h.0 up) events h.1
    from_any world f (Hear l dir ∷ events) h = from_any (flood_after wiring world (Hear l dir)) (heard_keeps wiring joins differ world f l h.0 dir) events h.1

    pub every_flood : (events : List FloodEvent) → AreEvents wiring events → IsFlood wiring (flood_of wiring events)
    every_flood events h = from_any (start wiring) start_is events h
