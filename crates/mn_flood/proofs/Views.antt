-- A view of the links that a node takes for up, made link by link.
use Rattle.std.proofs.Common.{ℕ, ◌≡◌, ◌≢◌, ◌+◌, ◌<◌, ◌≤◌, inl, inr, Bool, true, false, cond, List, map, length, get_or, set, replicate}
use Rattle.std.proofs.Common.{refl, arith, sym, ◌∙◌, ap, subst, get_or-set_same, get_or-set_other}
use Rattle.std.proofs.lemmas.Bool.Decides.{eqb_tells}
use Rattle.std.proofs.lemmas.List.{ext_get_or, get_or-replicate, length-set, length-replicate, length-map, get_or-map}
use Rattle.std.proofs.lemmas.List.FromFn.{get_or-map-range_with_len, length-map-range_with_len}
use Rattle.mn_wiring.specs.Wiring.{Wiring}
use Rattle.mn_linkdb.specs.Changes.{is_odd}
use Rattle.mn_flood_laws.specs.Flood.{FloodWorld, is_flooded, flooded}

abbrev once_if : Bool → ℕ
once_if b = cond b 1 0

odd_once : (b : Bool) → is_odd (once_if b) ≡ b
odd_once true = refl
odd_once false = refl

-- the links before this one are counted once where they are taken for up, and no later one is counted
pub record AreCounted (wiring : Wiring) (world : FloodWorld) (node k : ℕ) (counts : List ℕ) : Type 0 where
  pub one_each : length counts ≡ length wiring.ends
  pub before : (l : ℕ) → l < k → l < length wiring.ends → get_or counts l 0 ≡ cond (is_flooded wiring world node l) 1 0
  pub behind : (l : ℕ) → k ≤ l → l < length wiring.ends → get_or counts l 0 ≡ 0

module _ (wiring : Wiring) (world : FloodWorld) (node : ℕ) where
  pub none_counted : (counts : List ℕ) (n : ℕ) → counts ≡ replicate n 0 → n ≡ length wiring.ends → AreCounted wiring world node 0 counts
  none_counted counts n e q = record {
    one_each = ap length e ∙ length-replicate n 0 ∙ q;
    before = λ l h g. absurd (nothing l h);
    behind = λ l h g. ap (λ cs. get_or cs l 0) e ∙ get_or-replicate n l 0 0 (omega (arith, g, q));
  }
    where
      nothing : (l : ℕ) → l < 0 → ⊥
      nothing l h = omega (arith, h)

  pub one_counted : (counts : List ℕ) (k : ℕ) → k < length wiring.ends → AreCounted wiring world node k counts → is_flooded wiring world node k ≡ true →
      AreCounted wiring world node (k + 1) (set counts k 1)
  one_counted counts k there h up = record {
    one_each = length-set counts k 1 ∙ h.one_each;
    before = λ l less g. elim (eqb_tells l k) [
      | inl e ↦ subst (λ m. get_or (set counts k 1) m 0 ≡ cond (is_flooded wiring world node m) 1 0) (sym e.1)
          (get_or-set_same counts k 1 0 (subst (λ n. k < n) (sym h.one_each) there) ∙ ap (λ b. cond b 1 0) (sym up))
      | inr e ↦ get_or-set_other counts k l 1 0 e.1 ∙ h.before l (earlier l less e.1) g
    ];
    behind = λ l most g. get_or-set_other counts k l 1 0 (another l most) ∙ h.behind l (omega (arith, most)) g;
  }
    where
      earlier : (l : ℕ) → l < k + 1 → l ≢ k → l < k
      earlier l less apart = grind (arith, less, apart)

      another : (l : ℕ) → k + 1 ≤ l → l ≢ k
      another l most e = omega (arith, most, e)

  pub not_counted : (counts : List ℕ) (k : ℕ) → k < length wiring.ends → AreCounted wiring world node k counts → is_flooded wiring world node k ≡ false →
      AreCounted wiring world node (k + 1) counts
  not_counted counts k there h down = record {
    one_each = h.one_each;
    before = λ l less g. elim (eqb_tells l k) [
      | inl e ↦ subst (λ m. get_or counts m 0 ≡ cond (is_flooded wiring world node m) 1 0) (sym e.1)
          (h.behind k (omega arith) there ∙ ap (λ b. cond b 1 0) (sym down))
      | inr e ↦ h.before l (earlier l less e.1) g
    ];
    behind = λ l most g. h.behind l (omega (arith, most)) g;
  }
    where
      earlier : (l : ℕ) → l < k + 1 → l ≢ k → l < k
      earlier l less apart = grind (arith, less, apart)

  pub all_counted : (counts : List ℕ) (k : ℕ) → length wiring.ends ≤ k → AreCounted wiring world node k counts → map is_odd counts ≡ flooded wiring world node
  all_counted counts k enough h =
      ext_get_or false (map is_odd counts) (flooded wiring world node)
      (length-map counts is_odd ∙ h.one_each ∙ sym (length-map-range_with_len (is_flooded wiring world node) 0 (length wiring.ends)))
      (λ l less.
      let within : l < length wiring.ends = subst (λ n. l < n) (length-map counts is_odd ∙ h.one_each) less in
      get_or-map is_odd counts l 0 false (subst (λ n. l < n) (sym h.one_each) within)
      ∙ ap is_odd (h.before l (omega (arith, within, enough)) within)
      ∙ odd_once (is_flooded wiring world node l)
      ∙ sym (get_or-map-range_with_len (is_flooded wiring world node) 0 (length wiring.ends) l l false within (omega arith)))
