-- The links at each node, found one after another.
use Rattle.std.proofs.Common.{ℕ, ◌≡◌, ◌≢◌, ◌+◌, ◌<◌, ◌≤◌, ◌==◌, true, false, List, [], ◌∷◌, ◌++◌, length, get_or, set, replicate, arith, sym, ◌∙◌, ap, ◌⊎◌}
use Rattle.std.proofs.Common.{inl, inr, subst, get_or-set_other, get_or-set_same}
use Rattle.std.specs.Prelude.{All, Contains}
use Rattle.std.proofs.lemmas.Bool.{eqb-true, lt-ltb, cases_lt}
use Rattle.std.proofs.lemmas.Bool.Decides.{eqb_tells}
use Rattle.std.proofs.lemmas.List.{get_or-replicate, length-set, length-replicate}
use Rattle.std.proofs.lemmas.List.Elements.{All-nil, All-push, Contains-append_left, Contains-push}
use Rattle.mn_base.proofs.Bools.{or_left, or_right, or_ways, same_test}
use Rattle.mn_base.specs.declared.numbers.LinkNo.{LinkNo}
use Rattle.mn_wiring.specs.Wiring.{link, is_up}
use Rattle.mn_linkdb.specs.Learned.{Learned, links_up}
use Rattle.mn_spf.specs.Ways.{wiring_of, goes, AreLinks}
use Rattle.mn_spf.proofs.Walks.{all_true, goes_at}

abbrev pub number : ℕ → LinkNo
number l = record { 0 = l }

-- of the links before this one, those over which a walk may go on from a node
pub record AreLinksBelow (v : Learned) (k node : ℕ) (links : List LinkNo) : Type 0 where
  pub each : All (λ l. goes v node l.0 ≡ true) links
  pub all : (l : ℕ) → l < k → goes v node l ≡ true → Contains links (number l)

pub record AreBelow (v : Learned) (k : ℕ) (lists : List (List LinkNo)) : Type 0 where
  pub one_each : length lists ≡ v.nodes
  pub at : (node : ℕ) → node < v.nodes → AreLinksBelow v k node (get_or lists node [])

-- a link is appended to the list of one node
abbrev pub put : List (List LinkNo) → ℕ → LinkNo → List (List LinkNo)
put lists m x = set lists m (get_or lists m [] ++ x ∷ [])

put_each : (v : Learned) (lists : List (List LinkNo)) (m node : ℕ) (x : LinkNo) → m < length lists → goes v m x.0 ≡ true →
    All (λ l. goes v node l.0 ≡ true) (get_or lists node []) → All (λ l. goes v node l.0 ≡ true) (get_or (put lists m x) node [])
put_each v lists m node x p g h =
    elim (eqb_tells node m) [
      | inl e ↦ subst (λ n. All (λ l. goes v n l.0 ≡ true) (get_or (put lists m x) n [])) (sym e.1)
          (subst (All (λ l. goes v m l.0 ≡ true)) (sym (get_or-set_same lists m (get_or lists m [] ++ x ∷ []) [] p))
          (All-push (λ l. goes v m l.0 ≡ true) (get_or lists m []) x (subst (λ n. All (λ l. goes v n l.0 ≡ true) (get_or lists n [])) e.1 h) g))
      | inr e ↦ subst (All (λ l. goes v node l.0 ≡ true)) (sym (get_or-set_other lists m node (get_or lists m [] ++ x ∷ []) [] e.1)) h
    ]

put_has : (lists : List (List LinkNo)) (m node : ℕ) (x y : LinkNo) → m < length lists → Contains (get_or lists node []) y →
    Contains (get_or (put lists m x) node []) y
put_has lists m node x y p h =
    elim (eqb_tells node m) [
      | inl e ↦ subst (λ n. Contains (get_or (put lists m x) n []) y) (sym e.1)
          (subst (λ xs. Contains xs y) (sym (get_or-set_same lists m (get_or lists m [] ++ x ∷ []) [] p))
          (Contains-append_left (get_or lists m []) (x ∷ []) y (subst (λ n. Contains (get_or lists n []) y) e.1 h)))
      | inr e ↦ subst (λ xs. Contains xs y) (sym (get_or-set_other lists m node (get_or lists m [] ++ x ∷ []) [] e.1)) h
    ]

put_new : (lists : List (List LinkNo)) (m : ℕ) (x : LinkNo) → m < length lists → Contains (get_or (put lists m x) m []) x
put_new lists m x p = subst (λ xs. Contains xs x) (sym (get_or-set_same lists m (get_or lists m [] ++ x ∷ []) [] p)) (Contains-push (get_or lists m []) x)

last_or_before : (l k : ℕ) → l < k + 1 → (l < k) ⊎ (l ≡ k)
last_or_before l k p = elim (cases_lt l k) [ inl q ↦ inl q | inr q ↦ inr (omega (arith, p, q)) ]

module _ (v : Learned) where
  pub none_below : (lists : List (List LinkNo)) (n : ℕ) → lists ≡ replicate n [] → n ≡ v.nodes → AreBelow v 0 lists
  none_below lists n e q =
      record {
        one_each = ap (λ (ls : List (List LinkNo)). length ls) e ∙ length-replicate n _ ∙ q;
        at = λ node p. subst (AreLinksBelow v 0 node)
            (sym (ap (λ (ls : List (List LinkNo)). get_or ls node []) e ∙ get_or-replicate n node [] [] (omega (arith, p, q))))
            (record { each = All-nil (λ l. goes v node l.0 ≡ true); all = λ l p g. absurd (nothing l p) });
      }
    where
      nothing : (l : ℕ) → l < 0 → ⊥
      nothing l p = omega (arith, p)

  module _ (k : ℕ) (here : k < length v.ends) where
    -- the link is down
    pub down_below : (lists : List (List LinkNo)) → is_up (links_up v) k ≡ false → AreBelow v k lists → AreBelow v (k + 1) lists
    down_below lists e h =
        record {
          one_each = h.one_each;
          at = λ node p. record {
            each = (h.at node p).each;
            all = λ l q g. elim (last_or_before l k q) [
              | inl r ↦ (h.at node p).all l r g
              | inr r ↦ absurd (apart (sym (goes_at v node l g).up ∙ ap (is_up (links_up v)) r ∙ e))
            ];
          };
        }
      where
        apart : true ≢ false
        apart e = cc

    -- the link is up, and is put to both its ends
    module _ (up : is_up (links_up v) k ≡ true) (a b : ℕ) (is_a : a ≡ (link (wiring_of v) k).a.0) (is_b : b ≡ (link (wiring_of v) k).b.0) where
      goes_a : goes v a k ≡ true
      goes_a = all_true _ _ _ up (or_left _ _ (subst (λ n. (n == a) ≡ true) is_a (same_test a))) (lt-ltb _ _ here)

      goes_b : goes v b k ≡ true
      goes_b = all_true _ _ _ up (or_right ((link (wiring_of v) k).a.0 == b) _ (subst (λ n. (n == b) ≡ true) is_b (same_test b))) (lt-ltb _ _ here)

      ends_alone : (node : ℕ) → goes v node k ≡ true → (node ≡ a) ⊎ (node ≡ b)
      ends_alone node g = elim (or_ways _ _ (goes_at v node k g).at_node) [
        | inl e ↦ inl (sym (is_a ∙ eqb-true _ _ e))
        | inr e ↦ inr (sym (is_b ∙ eqb-true _ _ e))
      ]

      pub up_below : (lists : List (List LinkNo)) → a < length lists → b < length lists → AreBelow v k lists →
          AreBelow v (k + 1) (put (put lists a (number k)) b (number k))
      up_below lists p q h =
          record {
            one_each = length-set _ b _ ∙ length-set lists a _ ∙ h.one_each;
            at = λ node r. record {
              each = put_each v (put lists a (number k)) b node (number k) q' goes_b (put_each v lists a node (number k) p goes_a (h.at node r).each);
              all = λ l t g. elim (last_or_before l k t) [
                | inl u ↦ put_has (put lists a (number k)) b node (number k) (number l) q'
                    (put_has lists a node (number k) (number l) p ((h.at node r).all l u g))
                | inr u ↦ subst (λ n. Contains (get_or (put (put lists a (number k)) b (number k)) node []) (number n)) (sym u)
                    (elim (ends_alone node (subst (λ n. goes v node n ≡ true) u g)) [
                      | inl w ↦ subst (λ n. Contains (get_or (put (put lists a (number k)) b (number k)) n []) (number k)) (sym w)
                          (put_has (put lists a (number k)) b a (number k) (number k) q' (put_new lists a (number k) p))
                      | inr w ↦ subst (λ n. Contains (get_or (put (put lists a (number k)) b (number k)) n []) (number k)) (sym w)
                          (put_new (put lists a (number k)) b (number k) q')
                    ])
              ];
            };
          }
        where
          q' : b < length (put lists a (number k))
          q' = omega (arith, q, length-set lists a (get_or lists a [] ++ number k ∷ []))

  pub all_below : (k : ℕ) (lists : List (List LinkNo)) → length v.ends ≤ k → AreBelow v k lists → AreLinks v lists
  all_below k lists p h =
      record {
        one_each = h.one_each;
        at =
            λ node q. record { each = (h.at node q).each; all = λ l g. (h.at node q).all l (omega (arith, p, (goes_at v node l g).there)) g };
      }
