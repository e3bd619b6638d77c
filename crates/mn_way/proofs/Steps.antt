-- A way is walked hop by hop.
use Rattle.std.proofs.Common.{
  ℕ,
  zero,
  suc,
  ◌≡◌,
  ◌+◌,
  ◌-◌,
  ◌<◌,
  Bool,
  true,
  false,
  cond,
  List,
  [],
  ◌∷◌,
  ◌++◌,
  length,
  map,
  take,
  refl,
  arith,
  sym,
  ◌∙◌,
  ap,
  Option,
}
use Rattle.std.proofs.Common.{None, Some}
use Rattle.std.specs.Prelude.{◌&&◌, option_map, unwrap_or}
use Rattle.std.specs.List.{list_all}
use Rattle.std.specs.Option.{option_and_then}
use Rattle.std.proofs.lemmas.List.{length-map}
use Rattle.mn_base.specs.declared.numbers.NodeNo.{NodeNo}
use Rattle.mn_wiring.specs.Wiring.{Wiring, View}
use Rattle.mn_wiring.specs.Paths.{dist_in, dists_to, next}
use Rattle.mn_way.specs.Way.{Hop, onward, hops_within, has_ldp, nodes_on, labelled, label_path, numbered}

-- 1. One hop

pub with-hop : (w : Wiring) (v : View) (to n f : ℕ) (hop : Hop) → Some hop ≡ next w v n to → hops_within w v to (suc f) n ≡ hop ∷ hops_within w v to f hop.0
with-hop w v to n f hop is = ap (onward (hops_within w v to f)) (sym is)

pub at-end : (w : Wiring) (v : View) (to n f : ℕ) → None ≡ next w v n to → hops_within w v to f n ≡ []
at-end w v to n zero is = refl
at-end w v to n (suc f) is = ap (onward (hops_within w v to f)) (sym is)

-- what is left of so many hops
pub left : (k most : ℕ) → k < most → k + suc (most - (k + 1)) ≡ most
left k most h = omega (arith, h)

-- 2. So many nodes

-- with these that were passed
abbrev pub counted : List Bool → ℕ → List Hop → Option ℕ
counted ldp passed hops = cond (list_all (has_ldp ldp) hops) (Some (passed + length hops)) None

pub count-first : (ldp : List Bool) (n : ℕ) (hops : List Hop) → counted ldp 1 hops ≡ option_map length (labelled ldp n hops)
count-first ldp n hops = by (list_all (has_ldp ldp) hops)
  where
    same : 1 + length hops ≡ length (nodes_on n hops)
    same = omega (arith, length-map hops (λ (hop : Hop). hop.0))

    by : (k : Bool) → cond k (Some (1 + length hops)) None ≡ option_map length (cond k (Some (nodes_on n hops)) None)
    by true = ap (λ m. Some m) same
    by false = refl

pub count-on : (ldp : List Bool) (passed : ℕ) (hop : Hop) (hops : List Hop) → has_ldp ldp hop ≡ true →
    counted ldp passed (hop ∷ hops) ≡ counted ldp (passed + 1) hops
count-on ldp passed hop hops on =
    ap (λ k. cond (k && list_all (has_ldp ldp) hops) (Some (passed + suc (length hops))) None) on
    ∙ ap (λ m. cond (list_all (has_ldp ldp) hops) (Some m) None) same
  where
    same : passed + suc (length hops) ≡ passed + 1 + length hops
    same = omega arith

pub count-off : (ldp : List Bool) (passed : ℕ) (hop : Hop) (hops : List Hop) → has_ldp ldp hop ≡ false → counted ldp passed (hop ∷ hops) ≡ None
count-off ldp passed hop hops off = ap (λ k. cond (k && list_all (has_ldp ldp) hops) (Some (passed + suc (length hops))) None) off

pub count-end : (ldp : List Bool) (passed : ℕ) → counted ldp passed [] ≡ Some passed
count-end ldp passed = ap (λ m. Some m) same
  where
    same : passed + 0 ≡ passed
    same = omega arith

-- 3. What is pushed

pub no_more : {A : Type 0} (xs : List A) → xs ≡ xs ++ []
no_more [] = refl
no_more (x ∷ xs) = ap (λ ys. x ∷ ys) (no_more xs)

-- behind what was there
pub front-of : {A : Type 0} (xs more ys : List A) → ys ≡ xs ++ more → take (length xs) ys ≡ xs
front-of xs more ys is = ap (take (length xs)) is ∙ front xs more
  where
    front : {A : Type 0} (xs more : List A) → take (length xs) (xs ++ more) ≡ xs
    front [] more = refl
    front (x ∷ xs) more = ap (λ ys. x ∷ ys) (front xs more)

-- 4. Where LDP is on on each link, all nodes, and else none

pub label-path-is : (w : Wiring) (v : View) (ldp : List Bool) (n to cost : ℕ) → Some cost ≡ dist_in (dists_to w v to) n →
    label_path w v ldp n to ≡ labelled ldp n (hops_within w v to cost n)
label-path-is w v ldp n to cost is = ap (λ o. option_and_then (labelled ldp n) (option_map (λ most. hops_within w v to most n) o)) (sym is)

module _ (ldp : List Bool) (n : ℕ) (hops : List Hop) (old new : List NodeNo) where
  pub put-whole : true ≡ list_all (has_ldp ldp) hops → new ≡ old ++ map numbered (nodes_on n hops) →
      new ≡ old ++ map numbered (unwrap_or (labelled ldp n hops) [])
  put-whole on put = put ∙ ap (λ b. old ++ map numbered (unwrap_or (cond b (Some (nodes_on n hops)) None) [])) on

  pub put-none : false ≡ list_all (has_ldp ldp) hops → new ≡ old → new ≡ old ++ map numbered (unwrap_or (labelled ldp n hops) [])
  put-none off same = same ∙ no_more old ∙ ap (λ b. old ++ map numbered (unwrap_or (cond b (Some (nodes_on n hops)) None) [])) off
