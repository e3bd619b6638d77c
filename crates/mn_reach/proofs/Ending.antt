-- Where packets end, by the path that was found.
use Rattle.std.proofs.Common.{ℕ, ◌≡◌, ◌-◌, ◌<◌, ◌≤◌, ◌⊎◌, inl, inr, Bool, true, false, cond, List, [], ◌∷◌, map, length, get_or, take, refl, arith, sym, ◌∙◌}
use Rattle.std.proofs.Common.{ap}
use Rattle.std.proofs.Common.{Option, Some, None}
use Rattle.std.specs.Prelude.{is_some, nat_lt, unwrap_or}
use Rattle.std.specs.List.{list_all}
use Rattle.std.specs.Option.{option_and_then}
use Rattle.std.proofs.lemmas.List.{length-map, get_or-map, take-map}
use Rattle.mn_base.proofs.Bools.{clash, not_less}
use Rattle.mn_base.specs.declared.numbers.NodeNo.{NodeNo}
use Rattle.mn_drops.specs.declared.drops.Rule.TheVariants as rule
use Rattle.mn_wiring.specs.Wiring.{Wiring, View}
use Rattle.mn_ledger.specs.Held.{HeldRoute}
use Rattle.mn_fate_laws.specs.Fate.{Arrives, Falls}
use Rattle.mn_reach_laws.specs.Fates.{ends_along, ends_over}
use Rattle.mn_way.specs.Way.{Hop, way, has_ldp, nodes_on, labelled, label_path, numbered}
use Rattle.mn_reach.specs.Plans.{numbers_of}

-- 1. The path ends the time to live

pub falls_on : (route : HeldRoute) (ttl : ℕ) (path kept : List NodeNo) (node : NodeNo) → 2 ≤ ttl → ttl ≤ length path → node ≡ get_or path (ttl - 1) node
    → kept ≡ take ttl path → Falls rule.TtlExpired node.0 (numbers_of kept) ≡ ends_along route ttl (numbers_of path)
falls_on route ttl path kept node least there is e =
    let below : ttl - 1 < length path = omega (arith, least, there) in
    let place : get_or (numbers_of path) (ttl - 1) 0 ≡ node.0 =
    get_or-map (λ (n : NodeNo). n.0) path (ttl - 1) node 0 below ∙ sym (ap (λ (n : NodeNo). n.0) is) in
    let front : numbers_of kept ≡ take ttl (numbers_of path) = ap numbers_of e ∙ sym (take-map (λ (n : NodeNo). n.0) ttl path) in
    ap (λ ns. Falls rule.TtlExpired node.0 ns) front
    ∙ ap (λ n. Falls rule.TtlExpired n (take ttl (numbers_of path))) (sym place)
    ∙ sym (ends (nat_lt (length (numbers_of path)) ttl)
    (not_less (length (numbers_of path)) ttl (let q = length-map path (λ (n : NodeNo). n.0) in omega (arith, q, there))))
  where
    ends : (b : Bool) → b ≡ false →
        cond b (Arrives route.site (ttl - length (numbers_of path)) (numbers_of path))
        (Falls rule.TtlExpired (get_or (numbers_of path) (ttl - 1) 0) (take ttl (numbers_of path)))
        ≡ Falls rule.TtlExpired (get_or (numbers_of path) (ttl - 1) 0) (take ttl (numbers_of path))
    ends b e = ap (λ c. cond c (Arrives route.site (ttl - length (numbers_of path)) (numbers_of path))
        (Falls rule.TtlExpired (get_or (numbers_of path) (ttl - 1) 0) (take ttl (numbers_of path)))) e

-- 2. A label switched path has its first node

abbrev pub IsPath : ℕ → Option (List ℕ) → Type 0
IsPath node o = (o ≡ None) ⊎ ((nodes : List ℕ) × (o ≡ Some (node ∷ nodes)))

pub is_path : (w : Wiring) (view : View) (ldp : List Bool) (node to : ℕ) → IsPath node (label_path w view ldp node to)
is_path w view ldp node to = by (way w view node to)
  where
    by_ldp : (hops : List Hop) (b : Bool) → IsPath node (cond b (Some (nodes_on node hops)) None)
    by_ldp hops true = inr (map (λ hop. hop.0) hops, refl)
    by_ldp hops false = inl refl

    by : (o : Option (List Hop)) → IsPath node (option_and_then (labelled ldp node) o)
    by None = inl refl
    by (Some hops) = by_ldp hops (list_all (has_ldp ldp) hops)

numbered_again : (ns : List ℕ) → numbers_of (map numbered ns) ≡ ns
numbered_again [] = refl
numbered_again (n ∷ ns) = ap (λ xs. n ∷ xs) (numbered_again ns)

module _ (home ttl : ℕ) (route : HeldRoute) (found : Option (List ℕ)) (is : IsPath home found) (path : List NodeNo)
    (put : path ≡ map numbered (unwrap_or found [])) where
  -- none was found
  pub no_path : path ≡ [] → found ≡ None
  no_path empty = elim is [
    | inl e ↦ e
    | inr p ↦ let q : map numbered (home ∷ p.0) ≡ [] = sym (ap (λ o. map numbered (unwrap_or o [])) p.1) ∙ sym put ∙ empty in absurd (filled home p.0 q)
  ]
    where
      filled : (n : ℕ) (ns : List ℕ) → map numbered (n ∷ ns) ≡ [] → ⊥
      filled n ns e = let l : length (map numbered (n ∷ ns)) ≡ 0 = ap (λ xs. length xs) e in omega (arith, l)

  -- one was
  pub along : (length path ≡ 0 → ⊥) → ends_along route ttl (numbers_of path) ≡ ends_over home ttl route found
  along filled = elim is [
    | inl e ↦ absurd (filled (ap (λ xs. length xs) (put ∙ ap (λ o. map numbered (unwrap_or o [])) e)))
    | inr p ↦
        ap (λ ns. ends_along route ttl ns) (ap numbers_of (put ∙ ap (λ o. map numbered (unwrap_or o [])) p.1) ∙ numbered_again (home ∷ p.0))
        ∙ sym (ap (ends_over home ttl route) p.1)
  ]

  pub some_path : (length path ≡ 0 → ⊥) → is_some found ≡ true
  some_path filled = elim is [
    | inl e ↦ absurd (filled (ap (λ xs. length xs) (put ∙ ap (λ o. map numbered (unwrap_or o [])) e)))
    | inr p ↦ ap (λ (o : Option (List ℕ)). is_some o) p.1
  ]

-- where none leads there, packets fall at once
pub not_reached : (home ttl : ℕ) (route : HeldRoute) (o : Option (List ℕ)) → is_some o ≡ false → Falls rule.NoLsp home (home ∷ []) ≡ ends_over home ttl route o
not_reached home ttl route None e = refl
not_reached home ttl route (Some nodes) e = absurd (clash e)
