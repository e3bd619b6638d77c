-- Links are turned one by one, and tree by tree.
use Rattle.std.proofs.Common.{ℕ, zero, suc, ◌≡◌, ◌≢◌, ◌+◌, ◌-◌, ◌<◌, ◌≤◌, Bool, true, false, List, [], ◌∷◌, ◌++◌, length, map, replicate, get_or, set, take}
use Rattle.std.proofs.Common.{refl, arith, sym, ◌∙◌, ap, subst, inl, inr, length-set, get_or-set_other}
use Rattle.std.proofs.Math.Seq.{map-set_same}
use Rattle.std.proofs.lemmas.Bool.Decides.{eqb_tells}
use Rattle.std.proofs.lemmas.Grind.{get_or-set_at}
use Rattle.std.proofs.lemmas.List.{map-append, take_more}
use Rattle.mn_base.specs.declared.numbers.NodeNo.{NodeNo}
use Rattle.mn_base.proofs.Bools.{clash}
use Rattle.mn_linkdb.specs.Learned.{Learned}
use Rattle.mn_spf_inc.specs.Mended.{Mended}
use Rattle.mn_way.specs.Switched.{CanTurn, Follows, IsSameBut, roots_of}

-- 1. Of one tree

next : (k : ℕ) → suc k ≡ k + 1
next k = omega arith

raised : (k m : ℕ) → set (replicate k true ++ replicate (suc m) false) k true ≡ replicate (suc k) true ++ replicate m false
raised zero m = refl
raised (suc k) m = ap (λ xs. true ∷ xs) (raised k m)

still_down : (k m : ℕ) → get_or (replicate k true ++ replicate (suc m) false) k false ≡ false
still_down zero m = refl
still_down (suc k) m = still_down k m

no_more : (xs : List Bool) → xs ++ [] ≡ xs
no_more [] = refl
no_more (x ∷ xs) = ap (λ ys. x ∷ ys) (no_more xs)

-- so many of this many links are up
abbrev pub AreRaised : ℕ → ℕ → List Bool → Type 0
AreRaised k n up = (m : ℕ) → k + m ≡ n → up ≡ replicate k true ++ replicate m false

pub can-raise : (k n : ℕ) (up : List Bool) → k < n → AreRaised k n up → get_or up k false ≢ true
can-raise k n up h is = λ e. clash (sym e ∙ ap (λ u. get_or u k false) (is (suc (n - (k + 1))) (rest k n h)) ∙ still_down k (n - (k + 1)))
  where
    rest : (k n : ℕ) → k < n → k + suc (n - (k + 1)) ≡ n
    rest k n h = omega (arith, h)

pub one-raised : (k n : ℕ) (up : List Bool) → AreRaised k n up → AreRaised (k + 1) n (set up k true)
one-raised k n up is = λ m h.
    ap (λ u. set u k true) (is (suc m) (rest m h)) ∙ raised k m ∙ ap (λ j. replicate j true ++ replicate m false) (next k)
  where
    rest : (m : ℕ) → k + 1 + m ≡ n → k + suc m ≡ n
    rest m h = omega (arith, h)

pub all-raised : (k n : ℕ) (up : List Bool) → n ≤ k → k ≤ n → AreRaised k n up → up ≡ replicate n true
all-raised k n up h g is = is 0 (none h g) ∙ no_more (replicate k true) ∙ ap (λ j. replicate j true) (same h g)
  where
    none : n ≤ k → k ≤ n → k + 0 ≡ n
    none h g = omega (arith, h, g)

    same : n ≤ k → k ≤ n → k ≡ n
    same h g = omega (arith, h, g)

-- 2. Tree by tree

turned-one : (links : Learned) (ups : List Bool) (l : ℕ) (up : Bool) (old new : Mended) → Follows links ups old → IsSameBut old new → new.up ≡ set old.up l up
    → new.failed ≡ false → Follows links (set ups l up) new
turned-one links ups l up old new h same turned sound = record {
  of = record { nodes = same.nodes ∙ h.of.nodes; ends = same.ends ∙ h.of.ends; root = subst (λ n. n < links.nodes) (sym same.root) h.of.root };
  up = turned ∙ ap (λ u. set u l up) h.up;
  sound = sound;
}

module _ (trees : List Mended) (at : ℕ) (old new : Mended) (e : Mended) (is : old ≡ get_or trees at e) (there : at < length trees)
    (same : IsSameBut old new) where
  pub roots-stay : roots_of (set trees at new) ≡ roots_of trees
  roots-stay = map-set_same (λ (t : Mended). t.root) trees at new e (same.root ∙ ap (λ (t : Mended). t.root) is)

  within : (k : ℕ) → k < length (set trees at new) → k < length trees
  within k h = omega (arith, h, length-set trees at new)

  behind : (P : Mended → Type 0) → ((k : ℕ) (d : Mended) → at ≤ k → k < length trees → P (get_or trees k d)) → (k : ℕ) (d : Mended) → at + 1 ≤ k
      → k < length (set trees at new) → P (get_or (set trees at new) k d)
  behind P h k d g b = subst P (sym (get_or-set_other trees at k new d (apart g))) (h k d (weaker g) (within k b))
    where
      apart : {k : ℕ} → at + 1 ≤ k → k ≢ at
      apart g = omega (arith, g)

      weaker : {k : ℕ} → at + 1 ≤ k → at ≤ k
      weaker g = omega (arith, g)

  before : (P : Mended → Type 0) → P new → ((k : ℕ) (d : Mended) → k < at → k < length trees → P (get_or trees k d)) → (k : ℕ) (d : Mended) → k < at + 1
      → k < length (set trees at new) → P (get_or (set trees at new) k d)
  before P it h k d g b = elim (eqb_tells k at) [
    | inl q ↦ subst P (sym (get_or-set_at trees at k new d q.1 there)) it
    | inr q ↦ subst P (sym (get_or-set_other trees at k new d q.1)) (h k d (lesser g q.1) (within k b))
  ]
    where
      lesser : {k : ℕ} → k < at + 1 → k ≢ at → k < at
      lesser g q = omega (arith, g, q)

  pub left-after : (l : ℕ) (up : Bool) → ((k : ℕ) (d : Mended) → at ≤ k → k < length trees → CanTurn l up (get_or trees k d)) → (k : ℕ) (d : Mended) →
      at + 1 ≤ k
      → k < length (set trees at new) → CanTurn l up (get_or (set trees at new) k d)
  left-after l up = behind (CanTurn l up)

  module _ (l : ℕ) (up : Bool) (turned : new.up ≡ set old.up l up) (sound : new.failed ≡ false) (links : Learned) (ups : List Bool)
      (waiting : (k : ℕ) (d : Mended) → at ≤ k → k < length trees → Follows links ups (get_or trees k d)) where
    pub waiting-after : (k : ℕ) (d : Mended) → at + 1 ≤ k → k < length (set trees at new) → Follows links ups (get_or (set trees at new) k d)
    waiting-after = behind (Follows links ups) waiting

    pub done-after : ((k : ℕ) (d : Mended) → k < at → k < length trees → Follows links (set ups l up) (get_or trees k d)) → (k : ℕ) (d : Mended) → k < at + 1
        → k < length (set trees at new) → Follows links (set ups l up) (get_or (set trees at new) k d)
    done-after =
        before (Follows links (set ups l up))
        (turned-one links ups l up old new (subst (Follows links ups) (sym is) (waiting at e (omega arith) there)) same turned sound)

-- 3. One tree more

pub one-root : (trees : List Mended) (new : Mended) (edges : List NodeNo) (i : ℕ) (d : NodeNo) → i < length edges
    → roots_of trees ≡ map (λ (edge : NodeNo). edge.0) (take i edges) → new.root ≡ (get_or edges i d).0
    → roots_of (trees ++ new ∷ []) ≡ map (λ (edge : NodeNo). edge.0) (take (i + 1) edges)
one-root trees new edges i d h so root =
    map-append (λ (t : Mended). t.root) trees (new ∷ []) ∙ ap (λ xs. xs ++ new.root ∷ []) so
    ∙ ap (λ x. map (λ (edge : NodeNo). edge.0) (take i edges) ++ x ∷ []) root
    ∙ sym (ap (map (λ (edge : NodeNo). edge.0)) (take_more edges i d h) ∙ map-append (λ (edge : NodeNo). edge.0) (take i edges) (get_or edges i d ∷ []))
