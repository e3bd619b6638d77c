-- What calls make of a world.
use Rattle.std.proofs.Common.{ℕ, zero, suc, ◌≡◌, ◌+◌, ◌<◌, ◌≤◌, inl, inr, Bool, true, false, cond, List, [], ◌∷◌, ◌++◌, map, length, get_or, Option, Some}
use Rattle.std.proofs.Common.{refl, arith, sym, ◌∙◌, ap, subst, append_assoc, length-set, replicate}
use Rattle.mn_wiring.specs.Wiring.{Wiring, View, link, receiver, JoinsNodes, EndsDiffer}
use Rattle.mn_wiring.specs.declared.links.Dir.{Dir}
use Rattle.mn_flood_laws.specs.Flood.{Advert, Sent, FloodWorld, has, keep, age, sent_over, others_up, renewal, sends, turned, changed, is_news, spread}
use Rattle.mn_flood_laws.specs.Flood.{taken_in, heard_by, heard, first_on, without_first, first_of}
use Rattle.mn_flood_laws.specs.Laws.{IsFlood}
use Rattle.mn_flood_laws.proofs.Kept.{here_or_elsewhere, has_kept, has_still, columns_still, rows_still}
use Rattle.mn_flood_laws.proofs.Changing.{cells, at_a, at_b}
use Rattle.mn_flood_laws.proofs.Sending.{first_flies}
use Rattle.mn_flood_laws.proofs.Ends.{receiver_within}
use Rattle.mn_base.proofs.Members.{contained_in}
use Rattle.std.specs.List.{range_with_len}
use Rattle.std.proofs.lemmas.List.FromFn.{get_or-map-range_with_len, length-map-range_with_len}
use Rattle.mn_wiring.specs.Wiring.{links_of}
use Rattle.mn_flood_laws.specs.Flood.{start}
use Rattle.mn_flood.specs.Queue.{Queued}
use Rattle.mn_flood.specs.World.{IsShaped, joined}

-- 1. The shape stays

pub shape_turned : (wiring : Wiring) (world : FloodWorld) (l : ℕ) (up : Bool) → IsShaped wiring world → IsShaped wiring (turned world l up)
shape_turned wiring world l up h = record { links = length-set world.up l up ∙ h.links; rows = h.rows; columns = h.columns }

pub shape_kept : (wiring : Wiring) (world : FloodWorld) (node : ℕ) (advert : Advert) → node < length wiring.loopbacks → IsShaped wiring world →
    IsShaped wiring (keep world node advert)
shape_kept wiring world node advert there h = record {
  links = h.links;
  rows = rows_still world node advert ∙ h.rows;
  columns = columns_still world node advert (subst (λ n. node < n) (sym h.rows) there) (length wiring.loopbacks) h.columns;
}

pub shape_flying : (wiring : Wiring) (world : FloodWorld) (flying : List Sent) → IsShaped wiring world → IsShaped wiring (record world { flying = flying })
shape_flying wiring world flying h = record { links = h.links; rows = h.rows; columns = h.columns }

-- 2. An advert is taken in

pub taken_news : (wiring : Wiring) (world : FloodWorld) (l node : ℕ) (advert : Advert) → is_news (has world node advert.origin) advert ≡ true →
    taken_in wiring world l node advert
    ≡ record (keep world node advert) { flying = world.flying ++ map (sent_over wiring node advert) (others_up wiring world.up node l) }
taken_news wiring world l node advert e = ap (λ b. cond b (spread wiring world l node advert) world) e

pub taken_old : (wiring : Wiring) (world : FloodWorld) (l node : ℕ) (advert : Advert) → is_news (has world node advert.origin) advert ≡ false →
    taken_in wiring world l node advert ≡ world
taken_old wiring world l node advert e = ap (λ b. cond b (spread wiring world l node advert) world) e

-- what is taken from a direction, and taken in, is received
pub heard_is : (wiring : Wiring) (world : FloodWorld) (l : ℕ) (dir : Dir) (sent : Sent) → first_on l dir world.flying ≡ Some sent →
    taken_in wiring (record world { flying = without_first l dir world.flying }) l (receiver wiring l dir) sent.advert ≡ heard wiring world l dir
heard_is wiring world l dir sent e = sym (ap (heard_by wiring world l dir) e)

-- its origin is a node
pub origin_there : (wiring : Wiring) (world : FloodWorld) (l : ℕ) (dir : Dir) (sent : Sent) → IsFlood wiring world → first_on l dir world.flying ≡ Some sent →
    sent.advert.origin < length wiring.loopbacks
origin_there wiring world l dir sent flood e = (flood.flights sent (contained_in world.flying sent (first_flies l dir world.flying sent e).0)).origin

-- no node's own advert becomes newer than it was
module _ (wiring : Wiring) (joins : JoinsNodes wiring) (differ : EndsDiffer wiring) (world : FloodWorld) (flood : IsFlood wiring world) (l : ℕ)
    (within : l < length wiring.ends) (dir : Dir)
    (sent : Sent) (first : first_on l dir world.flying ≡ Some sent) where
  abbrev at : ℕ
  at = receiver wiring l dir

  abbrev rest : FloodWorld
  rest = record world { flying = without_first l dir world.flying }

  at_there : at < length wiring.loopbacks
  at_there = receiver_within wiring joins differ l dir within

  same_age : (one other : Option Advert) → one ≡ other → age one ≤ age other
  same_age one other e = omega (arith, ap age e)

  by : (b : Bool) (node : ℕ) → node < length wiring.loopbacks →
      age (has (cond b (spread wiring rest l at sent.advert) rest) node node) ≤ age (has world node node)
  by false node h = omega arith
  by true node h = elim (here_or_elsewhere at sent.advert.origin node node) [
    | inr apart ↦ same_age (has (keep rest at sent.advert) node node) (has world node node)
        (has_still rest at sent.advert (subst (λ n. at < n) (sym flood.rows) at_there) node node apart)
    | inl e ↦ kept e.0 e.1
  ]
    where
      kept : node ≡ at → node ≡ sent.advert.origin → age (has (keep rest at sent.advert) node node) ≤ age (has world node node)
      kept e f =
          let own : age (Some sent.advert) ≤ age (has world sent.advert.origin sent.advert.origin) =
          (flood.flights sent (contained_in world.flying sent (first_flies l dir world.flying sent first).0)).copy.no_newer in
          let is : has (keep rest at sent.advert) node node ≡ Some sent.advert =
          ap (λ n. has (keep rest at sent.advert) n node) e ∙ ap (has (keep rest at sent.advert) at) f
          ∙ has_kept rest at sent.advert (subst (λ n. at < n) (sym flood.rows) at_there)
          (subst (λ n. sent.advert.origin < n) (sym (flood.columns at at_there)) (origin_there wiring world l dir sent flood first)) in
          let same : age (has world sent.advert.origin sent.advert.origin) ≡ age (has world node node) = ap (λ n. age (has world n n)) (sym f) in
          omega (arith, own, ap age is, same)

  pub own_heard : (node : ℕ) → node < length wiring.loopbacks → age (has (heard wiring world l dir) node node) ≤ age (has world node node)
  own_heard node h =
      subst (λ w. age (has w node node) ≤ age (has world node node)) (heard_is wiring world l dir sent first)
      (by (is_news (has rest at sent.advert.origin) sent.advert) node h)

-- 3. A link changes

pub own_changed : (wiring : Wiring) (joins : JoinsNodes wiring) (differ : EndsDiffer wiring) (world : FloodWorld) (flood : IsFlood wiring world) (l : ℕ)
    (within : l < length wiring.ends) (up : Bool)
    (node : ℕ) → age (has (changed wiring world l up) node node) ≤ age (has world node node) + 1
own_changed wiring joins differ world flood l within up node = elim (cells wiring joins differ world flood l within up node node) [
  | inl e ↦ renews e.0 (at_a wiring joins differ world flood l within up)
  | inr r ↦ elim r [
    | inl e ↦ renews_b e.0 (at_b wiring joins differ world flood l within up)
    | inr same ↦ as_old (ap age same)
  ]
]
  where
    as_old : age (has (changed wiring world l up) node node) ≡ age (has world node node) →
        age (has (changed wiring world l up) node node) ≤ age (has world node node) + 1
    as_old e = omega (arith, e)

    renews : node ≡ (link wiring l).a.0 →
        has (changed wiring world l up) (link wiring l).a.0 (link wiring l).a.0 ≡ Some (renewal wiring (turned world l up) (link wiring l).a.0) →
        age (has (changed wiring world l up) node node) ≤ age (has world node node) + 1
    renews e f = subst (λ n. age (has (changed wiring world l up) n n) ≤ age (has world n n) + 1) (sym e) (omega (arith, ap age f))

    renews_b : node ≡ (link wiring l).b.0 →
        has (changed wiring world l up) (link wiring l).b.0 (link wiring l).b.0 ≡ Some (renewal wiring (turned world l up) (link wiring l).b.0) →
        age (has (changed wiring world l up) node node) ≤ age (has world node node) + 1
    renews_b e f = subst (λ n. age (has (changed wiring world l up) n n) ≤ age (has world n n) + 1) (sym e) (omega (arith, ap age f))

-- both ends keep their own adverts and send
abbrev both_sent : Wiring → ℕ → Bool → FloodWorld → Advert → Advert → FloodWorld
both_sent wiring l up world one two =
    let later : FloodWorld = keep (keep world (link wiring l).a.0 one) (link wiring l).b.0 two in
    record later { flying = later.flying ++ (sends wiring later l up (link wiring l).a.0 one ++ sends wiring later l up (link wiring l).b.0 two) }

-- the parts of a change, one after another
pub changed_is : (wiring : Wiring) (world : FloodWorld) (l : ℕ) (up : Bool) (one two : Advert) (w1 w2 w3 w4 w5 : FloodWorld) →
    w1 ≡ turned world l up → one ≡ renewal wiring w1 (link wiring l).a.0 → two ≡ renewal wiring w1 (link wiring l).b.0 →
    w2 ≡ keep w1 (link wiring l).a.0 one → w3 ≡ keep w2 (link wiring l).b.0 two →
    w4 ≡ record w3 { flying = w3.flying ++ sends wiring w3 l up (link wiring l).a.0 one } →
    w5 ≡ record w4 { flying = w4.flying ++ sends wiring w4 l up (link wiring l).b.0 two } →
    w5 ≡ changed wiring world l up
changed_is wiring world l up one two w1 w2 w3 w4 w5 e1 eo et e2 e3 e4 e5 =
    e5
    ∙ ap (λ (w : FloodWorld). record w { flying = w.flying ++ sends wiring w l up (link wiring l).b.0 two }) e4
    ∙ ap (λ f. record w3 { flying = f }) (append_assoc w3.flying (sends wiring w3 l up (link wiring l).a.0 one) (sends wiring w3 l up (link wiring l).b.0 two))
    ∙ ap (λ (w : FloodWorld). record w { flying = w.flying ++ (sends wiring w l up (link wiring l).a.0 one ++ sends wiring w l up (link wiring l).b.0 two) })
    (e3 ∙ ap (λ w. keep w (link wiring l).b.0 two) e2)
    ∙ ap (λ a. both_sent wiring l up w1 a two) eo ∙ ap (both_sent wiring l up w1 (renewal wiring w1 (link wiring l).a.0)) et
    ∙ ap (λ w. both_sent wiring l up w (renewal wiring w (link wiring l).a.0) (renewal wiring w (link wiring l).b.0)) e1

-- 4. The start

all_down : (a n : ℕ) → replicate n false ≡ map (λ (l : ℕ). false) (range_with_len a n)
all_down a zero = refl
all_down a (suc n) = ap (λ (bs : List Bool). false ∷ bs) (all_down (a + 1) n)

abbrev pub first_rows : ℕ → List (List (Option Advert))
first_rows n = map (λ node. map (first_of node) (range_with_len 0 n)) (range_with_len 0 n)

pub start_shape : (wiring : Wiring) (up : View) (kept : List (List (Option Advert))) (flying : List Sent) (n : ℕ) → length up ≡ length wiring.ends →
    n ≡ length wiring.loopbacks → kept ≡ first_rows n →
    IsShaped wiring (record { up = up; kept = kept; flying = flying })
start_shape wiring up kept flying n e f g = record {
  links = e;
  rows = ap (λ (rows : List (List (Option Advert))). length rows) g ∙ length-map-range_with_len (λ (node : ℕ). map (first_of node) (range_with_len 0 n)) 0 n
      ∙ f;
  columns = λ node h.
      ap (λ (rows : List (List (Option Advert))). length (get_or rows node [])) g
      ∙ ap (λ (row : List (Option Advert)). length row)
      (get_or-map-range_with_len (λ (node : ℕ). map (first_of node) (range_with_len 0 n)) 0 n node node [] (subst (λ m. node < m) (sym f) h) (omega arith))
      ∙ length-map-range_with_len (first_of node) 0 n ∙ f;
}

pub started : (wiring w : Wiring) (up : View) (kept : List (List (Option Advert))) (n : ℕ) (q : Queued) → w ≡ wiring → up ≡ replicate (length w.ends) false →
    n ≡ length w.loopbacks → kept ≡ first_rows n →
    q.sents ≡ [] → q.made ≡ 0 → joined w up kept q ≡ record { wiring = wiring; world = start wiring; made = 0 }
started wiring w up kept n q e u f k s m =
    ap (λ (v : View). joined w v kept q) (u ∙ all_down 0 (length w.ends))
    ∙ ap (λ (rows : List (List (Option Advert))). joined w (map (λ (l : ℕ). false) (links_of w)) rows q) (k ∙ ap first_rows f)
    ∙ ap (λ (sents : List Sent). record {
      wiring = w;
      world =
          record { up = map (λ (l : ℕ). false) (links_of w); kept = first_rows (length w.loopbacks); flying = sents };
      made = q.made;
    }) s
    ∙ ap (λ (made : ℕ). record { wiring = w; world = start w; made = made }) m
    ∙ ap (λ (v : Wiring). record { wiring = v; world = start v; made = 0 }) e
