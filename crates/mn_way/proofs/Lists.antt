-- The links at a node are found one by one.
use Rattle.std.proofs.Common.{ℕ, zero, suc, ◌≡◌, ◌+◌, ◌<◌, Bool, true, false, cond, List, [], ◌∷◌, ◌++◌, length, filter, refl, arith, sym, ◌∙◌, ap, All}
use Rattle.std.specs.Prelude.{◌==◌}
use Rattle.std.specs.List.{range_with_len}
use Rattle.std.proofs.lemmas.List.Elements.{filter-append, All-push, All-nil}
use Rattle.std.proofs.lemmas.List.{map-append}
use Rattle.mn_base.specs.declared.numbers.LinkNo.{LinkNo}
use Rattle.mn_wiring.specs.declared.links.LinkEnds.{LinkEnds}
use Rattle.mn_wiring.specs.Wiring.{is_end, link}
use Rattle.mn_wiring.proofs.Dist.{cond_below}
use Rattle.mn_linkdb.specs.Network.{IsNetwork}
use Rattle.mn_toward.specs.Toward.{wired, numbers_of, IsThere}

-- of the first so many links, those at a node
pub record AreBelow (ends : List LinkEnds) (nodes node k : ℕ) (links : List LinkNo) : Type 0 where
  pub these : numbers_of links ≡ filter (λ l. is_end (wired ends) l node) (range_with_len 0 k)
  pub there : All (λ l. IsThere ends nodes node l) links

range-more : (a n : ℕ) → range_with_len a (suc n) ≡ range_with_len a n ++ (a + n) ∷ []
range-more a zero = ap (λ x. x ∷ []) (same a)
  where
    same : (a : ℕ) → a ≡ a + 0
    same a = omega arith
range-more a (suc n) = ap (λ xs. a ∷ xs) (range-more (a + 1) n ∙ ap (λ x. range_with_len (a + 1) n ++ x ∷ []) (same a n))
  where
    same : (a n : ℕ) → a + 1 + n ≡ a + suc n
    same a n = omega arith

abbrev nothing : LinkEnds
nothing = record { a = record { 0 = 0 }; b = record { 0 = 0 }; cost = 0; delay = 0; loss = 0; life = 0 }

module _ (ends : List LinkEnds) (nodes node : ℕ) where
  abbrev test : ℕ → Bool
  test l = is_end (wired ends) l node

  more : (k : ℕ) → filter test (range_with_len 0 (k + 1)) ≡ filter test (range_with_len 0 k) ++ filter test (k ∷ [])
  more k =
      ap (filter test) (ap (range_with_len 0) (next k) ∙ range-more 0 k ∙ ap (λ x. range_with_len 0 k ++ x ∷ []) (same k))
      ∙ filter-append test (range_with_len 0 k) (k ∷ [])
    where
      next : (k : ℕ) → k + 1 ≡ suc k
      next k = omega arith

      same : (k : ℕ) → 0 + k ≡ k
      same k = omega arith

  pub there_is : (k : ℕ) → IsNetwork nodes ends → k < length ends → test k ≡ true → IsThere ends nodes node (record { 0 = k })
  there_is k network h on =
      let it = network.links k nothing h in
      (h, on, cond_below ((link (wired ends) k).a.0 == node) (link (wired ends) k).b.0 (link (wired ends) k).a.0 nodes it.to it.from)

  pub none_yet : AreBelow ends nodes node 0 []
  none_yet = record { these = refl; there = All-nil (λ l. IsThere ends nodes node l) }

  pub put : (k : ℕ) (links : List LinkNo) → test k ≡ true → IsThere ends nodes node (record { 0 = k }) → AreBelow ends nodes node k links
      → AreBelow ends nodes node (k + 1) (links ++ record { 0 = k } ∷ [])
  put k links on there h = record {
    these =
        map-append (λ (l : LinkNo). l.0) links (record { 0 = k } ∷ []) ∙ ap (λ xs. xs ++ k ∷ []) h.these
        ∙ sym (more k ∙ ap (λ b. filter test (range_with_len 0 k) ++ cond b (k ∷ []) []) on);
    there = All-push (λ l. IsThere ends nodes node l) links (record { 0 = k }) h.there there;
  }

  pub skip : (k : ℕ) (links : List LinkNo) → test k ≡ false → AreBelow ends nodes node k links → AreBelow ends nodes node (k + 1) links
  skip k links off h = record {
    these = h.these ∙ no_more (filter test (range_with_len 0 k)) ∙ sym (more k ∙ ap (λ b. filter test (range_with_len 0 k) ++ cond b (k ∷ []) []) off);
    there = h.there;
  }
    where
      no_more : (xs : List ℕ) → xs ≡ xs ++ []
      no_more [] = refl
      no_more (x ∷ xs) = ap (λ ys. x ∷ ys) (no_more xs)
