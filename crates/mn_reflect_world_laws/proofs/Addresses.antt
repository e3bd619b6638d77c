-- Reflectors by address, and without one of them.
use Rattle.std.proofs.Common.{ℕ, ◌≡◌, Bool, true, false, cond, List, [], ◌∷◌, filter, refl, sym, ◌∙◌, ap, arith}
use Rattle.std.specs.Prelude.{nat_lt}
use Rattle.std.specs.List.{AllByRecursion}
use Rattle.std.proofs.lemmas.Bool.Decides.{nat_tests}
use Rattle.mn_base.proofs.Bools.{no}
use Rattle.mn_base.proofs.Places.{all_turned}
use Rattle.mn_topo.specs.Network.{Network}
use Rattle.mn_ledger.specs.Places.{loopback}
use Rattle.mn_reflect_ledger_laws.specs.Picks.{placed_by, by_address, is_reflector}
use Rattle.mn_reflect_ledger_laws.proofs.Chosen.{address_in, in_address, reflector_in, in_reflectors}

module _ (topology : Network) where
  -- none of these has a lesser address
  NoneBelow : ℕ → List ℕ → Type 0
  NoneBelow node nodes = AllByRecursion (λ other. nat_lt (loopback topology other) (loopback topology node) ≡ false) nodes

  -- the least address first
  Rises : List ℕ → Type 0
  Rises [] = Unit {0}
  Rises (node ∷ nodes) = NoneBelow node nodes × Rises nodes

  all_placed : (P : ℕ → Type 0) (node : ℕ) (nodes : List ℕ) → P node → AllByRecursion P nodes → AllByRecursion P (placed_by topology node nodes)
  all_placed P node [] h g = (h, tt)
  all_placed P node (other ∷ others) h g = by (nat_lt (loopback topology node) (loopback topology other)) (all_placed P node others h g.1)
    where
      by : (b : Bool) → AllByRecursion P (placed_by topology node others) →
          AllByRecursion P (cond b (node ∷ other ∷ others) (other ∷ placed_by topology node others))
      by true more = (h, g)
      by false more = (g.0, more)

  one_way : (m n : ℕ) → nat_lt m n ≡ true → nat_lt n m ≡ false
  one_way m n h = grind (arith, nat_tests, h)

  onward : (m n k : ℕ) → nat_lt m n ≡ true → nat_lt k n ≡ false → nat_lt k m ≡ false
  onward m n k h g = grind (arith, nat_tests, h, g)

  further : (m n k : ℕ) → nat_lt m n ≡ true → nat_lt k n ≡ false → nat_lt m k ≡ true
  further m n k h g = grind (arith, nat_tests, h, g)

  placed_rises : (node : ℕ) (nodes : List ℕ) → Rises nodes → Rises (placed_by topology node nodes)
  unfolding Rises NoneBelow
  placed_rises node [] up = (tt, tt)
  placed_rises node (other ∷ others) up = by (nat_lt (loopback topology node) (loopback topology other)) refl (placed_rises node others up.1)
    where
      by : (b : Bool) → nat_lt (loopback topology node) (loopback topology other) ≡ b → Rises (placed_by topology node others) →
          Rises (cond b (node ∷ other ∷ others) (other ∷ placed_by topology node others))
      by true e more = (
        (
          one_way (loopback topology node) (loopback topology other) e,
          all_turned (λ z. nat_lt (loopback topology z) (loopback topology other) ≡ false) (λ z. nat_lt (loopback topology z) (loopback topology node) ≡ false)
              (λ z h. onward (loopback topology node) (loopback topology other) (loopback topology z) e h) others up.0,
        ),
        up,
      )
      by false e more = (all_placed (λ z. nat_lt (loopback topology z) (loopback topology other) ≡ false) node others e up.0, more)

  rises : (nodes : List ℕ) → Rises (by_address topology nodes)
  unfolding Rises
  rises [] = tt
  rises (node ∷ nodes) = placed_rises node (by_address topology nodes) (rises nodes)

  module _ (p : ℕ → Bool) where
    -- before all of these
    first : (node : ℕ) (nodes : List ℕ) → AllByRecursion (λ z. nat_lt (loopback topology node) (loopback topology z) ≡ true) nodes →
        placed_by topology node (filter p nodes) ≡ node ∷ filter p nodes
    first node [] h = refl
    first node (other ∷ others) h = by (p other) (first node others h.1)
      where
        by : (b : Bool) → placed_by topology node (filter p others) ≡ node ∷ filter p others →
            placed_by topology node (cond b (other ∷ filter p others) (filter p others)) ≡ node ∷ cond b (other ∷ filter p others) (filter p others)
        by true more = ap (λ t. cond t (node ∷ other ∷ filter p others) (other ∷ placed_by topology node (filter p others))) h.0
        by false more = more

    -- one that passes takes its place among those that pass
    passing : (node : ℕ) (nodes : List ℕ) → p node ≡ true → Rises nodes → filter p (placed_by topology node nodes) ≡ placed_by topology node (filter p nodes)
    unfolding Rises NoneBelow
    passing node [] h up = ap (λ b. cond b (node ∷ []) []) h
    passing node (other ∷ others) h up =
        by (nat_lt (loopback topology node) (loopback topology other)) refl (p other) refl (passing node others h up.1)
      where
        by : (b : Bool) → nat_lt (loopback topology node) (loopback topology other) ≡ b → (c : Bool) → p other ≡ c →
            filter p (placed_by topology node others) ≡ placed_by topology node (filter p others) →
            filter p (cond b (node ∷ other ∷ others) (other ∷ placed_by topology node others)) ≡
            placed_by topology node (cond c (other ∷ filter p others) (filter p others))
        by true e true f more =
            ap (λ d. cond d (node ∷ filter p (other ∷ others)) (filter p (other ∷ others))) h
            ∙ ap (λ d. node ∷ cond d (other ∷ filter p others) (filter p others)) f
            ∙ sym (ap (λ t. cond t (node ∷ other ∷ filter p others) (other ∷ placed_by topology node (filter p others))) e)
        by true e false f more =
            ap (λ d. cond d (node ∷ filter p (other ∷ others)) (filter p (other ∷ others))) h
            ∙ ap (λ d. node ∷ cond d (other ∷ filter p others) (filter p others)) f
            ∙ sym (first node others (all_turned (λ z. nat_lt (loopback topology z) (loopback topology other) ≡ false)
            (λ z. nat_lt (loopback topology node) (loopback topology z) ≡ true)
            (λ z g. further (loopback topology node) (loopback topology other) (loopback topology z) e g) others up.0))
        by false e true f more =
            ap (λ d. cond d (other ∷ filter p (placed_by topology node others)) (filter p (placed_by topology node others))) f
            ∙ ap (λ zs. other ∷ zs) more
            ∙ sym (ap (λ t. cond t (node ∷ other ∷ filter p others) (other ∷ placed_by topology node (filter p others))) e)
        by false e false f more =
            ap (λ d. cond d (other ∷ filter p (placed_by topology node others)) (filter p (placed_by topology node others))) f ∙ more

    -- one that doesn't is not among them
    failing : (node : ℕ) (nodes : List ℕ) → p node ≡ false → filter p (placed_by topology node nodes) ≡ filter p nodes
    failing node [] h = ap (λ b. cond b (node ∷ []) []) h
    failing node (other ∷ others) h = by (nat_lt (loopback topology node) (loopback topology other)) (failing node others h)
      where
        by : (b : Bool) → filter p (placed_by topology node others) ≡ filter p others →
            filter p (cond b (node ∷ other ∷ others) (other ∷ placed_by topology node others)) ≡ filter p (other ∷ others)
        by true more = ap (λ d. cond d (node ∷ filter p (other ∷ others)) (filter p (other ∷ others))) h
        by false more = ap (λ zs. cond (p other) (other ∷ zs) zs) more

    pub filter_addresses : (nodes : List ℕ) → filter p (by_address topology nodes) ≡ by_address topology (filter p nodes)
    filter_addresses [] = refl
    filter_addresses (node ∷ nodes) = by (p node) refl (filter_addresses nodes)
      where
        by : (b : Bool) → p node ≡ b → filter p (by_address topology nodes) ≡ by_address topology (filter p nodes) →
            filter p (placed_by topology node (by_address topology nodes)) ≡ by_address topology (cond b (node ∷ filter p nodes) (filter p nodes))
        by true e more = passing node (by_address topology nodes) e (rises nodes) ∙ ap (placed_by topology node) more
        by false e more = failing node (by_address topology nodes) e ∙ more

  -- the same nodes are reflectors
  pub still_reflector : (reflectors : List ℕ) (node : ℕ) → is_reflector (by_address topology reflectors) node ≡ is_reflector reflectors node
  still_reflector reflectors node = by (is_reflector reflectors node) refl (is_reflector (by_address topology reflectors) node) refl
    where
      by : (b : Bool) → is_reflector reflectors node ≡ b → (c : Bool) → is_reflector (by_address topology reflectors) node ≡ c → c ≡ b
      by true e true f = refl
      by false e false f = refl
      by true e false f = absurd (no (sym f
          ∙ in_reflectors (by_address topology reflectors) node (address_in topology reflectors node (reflector_in reflectors node e))))
      by false e true f = absurd (no (sym e
          ∙ in_reflectors reflectors node (in_address topology reflectors node (reflector_in (by_address topology reflectors) node f))))
