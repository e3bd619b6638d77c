-- For how long a frame may be on a node's links, one link after another.
use Rattle.std.proofs.Common.{ℕ, zero, suc, ◌≡◌, ◌+◌, Bool, true, false, cond, List, [], ◌∷◌, ◌++◌, filter, length, refl, arith, sym, ◌∙◌, ap, add-one}
use Rattle.std.proofs.Common.{append-nil}
use Rattle.std.specs.Prelude.{max, if◌then◌else◌}
use Rattle.std.specs.List.{range_with_len}
use Rattle.std.proofs.lemmas.List.Elements.{filter-append}
use Rattle.mn_wiring.specs.Wiring.{link, is_end, links_at}
use Rattle.mn_wiring.specs.declared.links.LinkEnds.{LinkEnds}
use Rattle.mn_topo.specs.Network.{Network, wiring_of}
use Rattle.mn_reuse_laws.specs.Labels.{longest_life}

range-more : (n a j : ℕ) → a + n ≡ j → range_with_len a (suc n) ≡ range_with_len a n ++ j ∷ []
range-more zero a j e = ap (λ x. x ∷ []) (let q : a ≡ j = omega (arith, e) in q)
range-more (suc n) a j e = ap (λ xs. a ∷ xs) (range-more n (a + 1) j (omega (arith, e)))

longest-more : (t : Network) (xs : List ℕ) (l : ℕ) → longest_life t (xs ++ l ∷ []) ≡ max (link (wiring_of t) l).life (longest_life t xs)
longest-more t [] l = refl
longest-more t (x ∷ xs) l = let rest = longest-more t xs l in omega (arith, rest)

-- of the first links
abbrev pub longest_of : Network → ℕ → ℕ → ℕ
longest_of t node k = longest_life t (filter (λ l. is_end (wiring_of t) l node) (range_with_len 0 k))

-- with one link more
longest-next : (t : Network) (node k : ℕ) →
    longest_of t node (k + 1) ≡ max (if is_end (wiring_of t) k node then (link (wiring_of t) k).life else 0) (longest_of t node k)
longest-next t node k =
    ap (λ n. longest_of t node n) (add-one k)
    ∙ ap (λ xs. longest_life t (filter (λ l. is_end (wiring_of t) l node) xs)) (range-more k 0 k (omega arith))
    ∙ ap (longest_life t) (filter-append (λ l. is_end (wiring_of t) l node) (range_with_len 0 k) (k ∷ []))
    ∙ by (is_end (wiring_of t) k node)
  where
    none : (n : ℕ) → n ≡ max 0 n
    none n = omega arith

    by : (b : Bool) → longest_life t (filter (λ l. is_end (wiring_of t) l node) (range_with_len 0 k) ++ cond b (k ∷ []) [])
        ≡ max (if b then (link (wiring_of t) k).life else 0) (longest_of t node k)
    by true = longest-more t (filter (λ l. is_end (wiring_of t) l node) (range_with_len 0 k)) k
    by false = ap (longest_life t) (append-nil (filter (λ l. is_end (wiring_of t) l node) (range_with_len 0 k))) ∙ none (longest_of t node k)

pub longest-step : (t : Network) (node k life longest next : ℕ) → life ≡ (if is_end (wiring_of t) k node then (link (wiring_of t) k).life else 0) →
    longest ≡ longest_of t node k → next ≡ max life longest → next ≡ longest_of t node (k + 1)
longest-step t node k life longest next life_is was next_is =
    next_is ∙ ap (λ n. max n longest) life_is ∙ ap (λ n. max (if is_end (wiring_of t) k node then (link (wiring_of t) k).life else 0) n) was
    ∙ sym (longest-next t node k)

-- of all links
pub longest-all : (t : Network) (node k : ℕ) (xs : List LinkEnds) → xs ≡ t.links → k ≡ length xs →
    longest_of t node k ≡ longest_life t (links_at (wiring_of t) node)
longest-all t node k xs links all = ap (λ n. longest_of t node n) (all ∙ ap length links)
