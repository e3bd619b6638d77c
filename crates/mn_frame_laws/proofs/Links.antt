-- The link to a next hop: it is the one that joins the two nodes.
use Rattle.std.proofs.Common.{ℕ, zero, suc, ◌≡◌, ◌≢◌, ◌<◌, Bool, true, false, List, [], ◌∷◌, length, refl, arith, sym, ◌∙◌, ap, subst, Some, eq-eqb, eqb-true}
use Rattle.std.specs.Prelude.{◌==◌, ◌&&◌, ◌||◌, min, max, slice_index_or, if◌then◌else◌}
use Rattle.std.specs.List.{IsDistinct, AllByRecursion, list_any}
use Rattle.std.proofs.Common.{inl, inr}
use Rattle.std.proofs.lemmas.Bool.Decides.{nat_tests, eqb_tells}
use Rattle.mn_wiring.specs.Wiring.{View, link, is_end, across}
use Rattle.mn_wiring.specs.Paths.{IsNext, next}
use Rattle.mn_wiring.specs.declared.links.LinkEnds.{LinkEnds}
use Rattle.mn_wiring.specs.declared.links.Dir.{Dir}
use Rattle.mn_wiring.specs.declared.links.Dir.TheVariants.{Forth, Back}
use Rattle.mn_wiring.proofs.Next.{next_is}
use Rattle.mn_base.proofs.Bools.{and_parts, no as clash}
use Rattle.mn_topo.specs.Network.{Network, wiring_of, Leads}
use Rattle.mn_topo.specs.Links.{joins, are_joined}
use Rattle.mn_topo.specs.Lawful.{IsLawful}
use Rattle.mn_ledger.specs.World.{World}
use Rattle.mn_ledger.specs.Transport.{knowledge_of, usable}
use Rattle.mn_ledger.specs.Packets.{away_from}
use Rattle.mn_ledger_laws.proofs.There.{by_next}

-- 1. A pair of nodes has one link

-- what joins the same pair joins the other's ends
joins_each_other : (m n : ℕ) (x y : LinkEnds) → joins m n x ≡ true → joins m n y ≡ true → joins x.a.0 x.b.0 y ≡ true
joins_each_other m n x y p q =
    let a = and_parts _ _ p in let b = and_parts _ _ q in
    let low : (min x.a.0 x.b.0 == min y.a.0 y.b.0) ≡ true = eq-eqb _ _ (sym (eqb-true _ _ a.0) ∙ eqb-true _ _ b.0) in
    let high : (max x.a.0 x.b.0 == max y.a.0 y.b.0) ≡ true = eq-eqb _ _ (sym (eqb-true _ _ a.1) ∙ eqb-true _ _ b.1) in
    rw low high

none_after : (m n : ℕ) (x : LinkEnds) (xs : List LinkEnds) (k : ℕ) (d : LinkEnds) → AllByRecursion (λ other. joins x.a.0 x.b.0 other ≡ false) xs →
    joins m n x ≡ true → k < length xs → joins m n (slice_index_or xs k d) ≡ true → ⊥
none_after m n x [] k d all p h q = none k h
  where
    none : (k : ℕ) → k < 0 → ⊥
    none k h = omega (arith, h)
none_after m n x (y ∷ ys) zero d all p h q = clash (sym all.0 ∙ joins_each_other m n x y p q)
none_after m n x (y ∷ ys) (suc k) d all p h q = none_after m n x ys k d all.1 p (omega (arith, h)) q

one_joins : (m n : ℕ) (xs : List LinkEnds) (i k : ℕ) (d : LinkEnds) → IsDistinct (λ one other. joins one.a.0 one.b.0 other) xs → i < length xs →
    k < length xs → joins m n (slice_index_or xs i d) ≡ true → joins m n (slice_index_or xs k d) ≡ true → i ≡ k
unfolding IsDistinct
one_joins m n [] i k d all h g p q = absurd (none i h)
  where
    none : (k : ℕ) → k < 0 → ⊥
    none k h = omega (arith, h)
one_joins m n (x ∷ xs) zero zero d all h g p q = refl
one_joins m n (x ∷ xs) zero (suc k) d all h g p q = absurd (none_after m n x xs k d all.0 p (omega (arith, g)) q)
one_joins m n (x ∷ xs) (suc i) zero d all h g p q = absurd (none_after m n x xs i d all.0 q (omega (arith, h)) p)
one_joins m n (x ∷ xs) (suc i) (suc k) d all h g p q = ap suc (one_joins m n xs i k d all.1 (omega (arith, h)) (omega (arith, g)) p q)

-- what leads from one node to another joins them
leads_joins : (t : Network) (m n l : ℕ) (dir : Dir) → Leads t m n l dir → joins m n (link (wiring_of t) l) ≡ true
leads_joins t m n l Forth h = joined m n _ _ (sym h.from) (sym h.to)
  where
    joined : (m n a b : ℕ) → m ≡ a → n ≡ b → ((min m n == min a b) && (max m n == max a b)) ≡ true
    joined m n a b p q = let x : (min m n == min a b) ≡ true = eq-eqb _ _ (omega (arith, p, q)) in let y : (max m n == max a b) ≡ true =
        eq-eqb _ _ (omega (arith, p, q)) in rw x y
leads_joins t m n l Back h = joined m n _ _ (sym h.from) (sym h.to)
  where
    joined : (m n a b : ℕ) → m ≡ b → n ≡ a → ((min m n == min a b) && (max m n == max a b)) ≡ true
    joined m n a b p q = let x : (min m n == min a b) ≡ true = eq-eqb _ _ (omega (arith, p, q)) in let y : (max m n == max a b) ≡ true =
        eq-eqb _ _ (omega (arith, p, q)) in rw x y

any_at : (m n : ℕ) (xs : List LinkEnds) (k : ℕ) (d : LinkEnds) → k < length xs → joins m n (slice_index_or xs k d) ≡ true → list_any (joins m n) xs ≡ true
any_at m n [] k d h p = absurd (none k h)
  where
    none : (k : ℕ) → k < 0 → ⊥
    none k h = omega (arith, h)
any_at m n (x ∷ xs) zero d h p = rw p refl
any_at m n (x ∷ xs) (suc k) d h p = either (joins m n x) _ (any_at m n xs k d (omega (arith, h)) p)
  where
    either : (a b : Bool) → b ≡ true → (a || b) ≡ true
    either true b q = refl
    either false b q = q

pub leads_are_joined : (t : Network) (m n l : ℕ) (dir : Dir) → Leads t m n l dir → are_joined t.links m n ≡ true
leads_are_joined t m n l dir h = any_at m n t.links l _ h.within (leads_joins t m n l dir h)

-- the direction of a link in which a node sends
leads_away : (t : Network) (m n l : ℕ) (dir : Dir) → IsLawful t → Leads t m n l dir → dir ≡ away_from t l m
leads_away t m n l Forth lawful h = let yes : ((link (wiring_of t) l).a.0 == m) ≡ true = eq-eqb _ _ h.from in rw yes refl
leads_away t m n l Back lawful h = away _ (λ e. lawful.ends_differ l h.within (e ∙ sym h.from))
  where
    away : (a : ℕ) → a ≢ m → Back ≡ (if a == m then Forth else Back)
    away a apart = let no : (a == m) ≡ false = grind (arith, nat_tests, apart) in rw no refl

pub only_link : (t : Network) (m n l k : ℕ) (dir to : Dir) → IsLawful t → Leads t m n l dir → Leads t m n k to → (l ≡ k) × (dir ≡ away_from t k m)
only_link t m n l k dir to lawful h g =
    let one : l ≡ k = one_joins m n t.links l k _ lawful.links.once h.within g.within (leads_joins t m n l dir h) (leads_joins t m n k to g) in
    (one, subst (λ x. dir ≡ away_from t x m) one (leads_away t m n l dir lawful h))

-- 2. The next hop

-- an end of a link sends away from itself, to the end across
sends_across : (t : Network) (l node : ℕ) → l < length t.links → is_end (wiring_of t) l node ≡ true →
    Leads t node (across (wiring_of t) l node) l (away_from t l node)
sends_across t l node within h = elim (eqb_tells (link (wiring_of t) l).a.0 node) [
  | inl q ↦ forth q.0 q.1
  | inr q ↦ back q.0 (elim_or _ _ q.0 h)
]
  where
    a_of : ℕ
    a_of = (link (wiring_of t) l).a.0

    elim_or : (a b : Bool) → a ≡ false → (a || b) ≡ true → b ≡ true
    elim_or true b p h = absurd (clash (sym p))
    elim_or false b p h = h

    forth : ((link (wiring_of t) l).a.0 == node) ≡ true → (link (wiring_of t) l).a.0 ≡ node → Leads t node (across (wiring_of t) l node) l (away_from t l node)
    forth e q = let there : Leads t node (link (wiring_of t) l).b.0 l Forth = record { within = within; from = q; to = refl } in rw e there

    back : ((link (wiring_of t) l).a.0 == node) ≡ false → ((link (wiring_of t) l).b.0 == node) ≡ true →
        Leads t node (across (wiring_of t) l node) l (away_from t l node)
    back e f = let there : Leads t node (link (wiring_of t) l).a.0 l Back = record { within = within; from = eqb-true _ _ f; to = refl } in rw e there

hop_leads_by : (t : Network) (view : View) (node to : ℕ) (hop : ℕ × ℕ) → IsNext (wiring_of t) view node to (Some hop) →
    Leads t node hop.0 hop.1 (away_from t hop.1 node)
hop_leads_by t view node to hop h = subst (λ x. Leads t node x hop.1 (away_from t hop.1 node)) (sym h.0) (sends_across t hop.1 node h.1.there h.1.at_node)

pub hop_leads : (t : Network) (w : World) (node to : ℕ) (hop : ℕ × ℕ) → IsLawful t → node < length t.loopbacks → node ≢ to →
    usable t w.config w.views w.sessions node to ≡ Some hop → Leads t node hop.0 hop.1 (away_from t hop.1 node)
hop_leads t w node to hop lawful h apart e =
    let view : View = (knowledge_of (wiring_of t) w.config w.views w.sessions node).view in
    let found : next (wiring_of t) view node to ≡ Some hop = by_next (knowledge_of (wiring_of t) w.config w.views w.sessions node) to _ hop e in
    hop_leads_by t view node to hop (subst (IsNext (wiring_of t) view node to) found (next_is (wiring_of t) view to lawful.joins_nodes node h apart))
