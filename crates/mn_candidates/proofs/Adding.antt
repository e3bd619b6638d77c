-- Prefixes that are looked at one after another make the pairs of all.
use Rattle.std.proofs.Common.{ℕ, ◌≡◌, true, false, List, [], ◌∷◌, ◌++◌, refl, sym, ◌∙◌, ap, subst}
use Rattle.std.specs.Prelude.{if◌then◌else◌}
use Rattle.std.specs.List.{flat_map, list_any}
use Rattle.std.proofs.lemmas.List.{append_assoc, append-nil}
use Rattle.mn_prefix.specs.Prefix.{AddressBlock, same_prefix}
use Rattle.mn_candidates.specs.declared.pairs.Pair.{Pair}
use Rattle.mn_candidates.specs.Pairs.{pair_to, firsts_beside, Adds}

pub adds_none : (s : ℕ) (seen : List AddressBlock) (pairs : List Pair) → Adds s [] seen seen pairs pairs
adds_none s seen pairs = record { on = λ rest. refl }

pub adds_then : (s : ℕ) (ps qs seen mid after : List AddressBlock) (pairs between last : List Pair) → Adds s ps seen mid pairs between →
    Adds s qs mid after between last
    → Adds s (ps ++ qs) seen after pairs last
adds_then s ps qs seen mid after pairs between last h g =
    record { on = λ rest. g.on rest ∙ h.on (qs ++ rest) ∙ ap (λ xs. pairs ++ flat_map (pair_to s) (firsts_beside seen xs)) (sym (append_assoc ps qs rest)) }

-- it was seen
pub adds_seen : (s : ℕ) (p : AddressBlock) (seen : List AddressBlock) (pairs : List Pair) → list_any (same_prefix p) seen ≡ true
    → Adds s (p ∷ []) seen seen pairs pairs
adds_seen s p seen pairs h =
    record { on = λ rest. sym (ap (λ b. pairs ++ flat_map (pair_to s) (if b then firsts_beside seen rest else p ∷ firsts_beside (seen ++ p ∷ []) rest)) h) }

-- it wasn't
pub adds_first : (s : ℕ) (p : AddressBlock) (seen : List AddressBlock) (pairs : List Pair) → list_any (same_prefix p) seen ≡ false
    → Adds s (p ∷ []) seen (seen ++ p ∷ []) pairs (pairs ++ pair_to s p)
adds_first s p seen pairs h =
    record {
      on = λ rest. append_assoc pairs (pair_to s p) (flat_map (pair_to s) (firsts_beside (seen ++ p ∷ []) rest))
          ∙ sym (ap (λ b. pairs ++ flat_map (pair_to s) (if b then firsts_beside seen rest else p ∷ firsts_beside (seen ++ p ∷ []) rest)) h);
    }

pub adds_as : (s : ℕ) (ps qs seen after : List AddressBlock) (pairs last : List Pair) → ps ≡ qs → Adds s ps seen after pairs last →
    Adds s qs seen after pairs last
adds_as s ps qs seen after pairs last e h = subst (λ xs. Adds s xs seen after pairs last) e h

-- after all of them
pub adds_all : (s : ℕ) (ps seen after : List AddressBlock) (pairs last : List Pair) → Adds s ps seen after pairs last
    → last ≡ pairs ++ flat_map (pair_to s) (firsts_beside seen ps)
adds_all s ps seen after pairs last h =
    sym (append-nil last) ∙ h.on [] ∙ ap (λ xs. pairs ++ flat_map (pair_to s) (firsts_beside seen xs)) (append-nil ps)

-- a prefix that wasn't seen is, and its pair is put
pub adds_it : (s : ℕ) (p : AddressBlock) (seen after : List AddressBlock) (pairs last : List Pair) → list_any (same_prefix p) seen ≡ false →
    after ≡ seen ++ p ∷ []
    → last ≡ pairs ++ pair_to s p → Adds s (p ∷ []) seen after pairs last
adds_it s p seen after pairs last h e f =
    subst (λ xs. Adds s (p ∷ []) seen xs pairs last) (sym e)
    (subst (λ ys. Adds s (p ∷ []) seen (seen ++ p ∷ []) pairs ys) (sym f) (adds_first s p seen pairs h))
