-- A link that is turned is looked at from both ends.
use Rattle.std.proofs.Common.{ℕ, ◌≡◌, ◌+◌, ◌<◌, ◌≤◌, ◌==◌, Bool, true, false, List, [], ◌∷◌, ◌++◌, length, get_or, refl, arith, sym, ◌∙◌, ap, ◌⊎◌, inl, inr}
use Rattle.std.proofs.Common.{subst}
use Rattle.std.specs.Prelude.{Option, Some, None, All, MatchBool, MatchOption, nat_lt}
use Rattle.std.proofs.lemmas.Bool.{lt-ltb}
use Rattle.std.proofs.lemmas.List.{get_or_append_left, length-append}
use Rattle.std.proofs.lemmas.List.Sorted.{length_permutation}
use Rattle.mn_base.proofs.Bools.{or_left, or_right, same_test}
use Rattle.mn_wiring.specs.declared.links.LinkEnds.{LinkEnds}
use Rattle.mn_base.specs.declared.numbers.NodeNo.{NodeNo}
use Rattle.mn_wiring.specs.Wiring.{link, is_up}
use Rattle.mn_linkdb.specs.Network.{IsNetwork}
use Rattle.mn_linkdb.specs.Learned.{Learned, links_up}
use Rattle.mn_linkdb.specs.PathTable.{PathTable}
use Rattle.mn_spf.specs.Ways.{wiring_of, goes, rank_at}
use Rattle.mn_spf.proofs.Walks.{all_true}
use Rattle.mn_spf_inc.specs.declared.way.Way.{Way}
use Rattle.mn_spf_inc.specs.Ways.{rank_of, way_at}
use Rattle.mn_spf_inc.specs.Mending.{State, IsHeld, IsKnown, IsGrowing, IsCutting, NoRest, OneLink, NoneLate, OneLate, HeldOver, HeldOverEither}
use Rattle.mn_spf_inc.specs.Mending.{OffersBeyond, Queues, DoubtsBeyond, work}
use Rattle.mn_spf_inc.proofs.Entries.{some_is, none_some, no_way}
use Rattle.mn_spf_inc.proofs.Places.{from_first, offered_beyond}
use Rattle.mn_spf_inc.proofs.Cutting.{eased}
use Rattle.mn_spf_inc.proofs.Lost.{doubted_beyond, doubting_keeps}

pub no_items : {X : Type 0} (xs : List X) → length xs ≡ 0 → xs ≡ []
no_items [] e = refl
no_items (x ∷ xs) e = absurd (omega (arith, e))

-- all of a list are so, and all of what is left without the last
pub all_left : (P : NodeNo → Type 0) (xs ys : List NodeNo) → All P (xs ++ ys) → All P xs
all_left P xs ys h = λ k d p. subst P (get_or_append_left xs ys d k p) (h k d (omega (arith, p, length-append xs ys)))

pub all_last : (P : NodeNo → Type 0) (xs : List NodeNo) (x : NodeNo) → All P (xs ++ x ∷ []) → P x
all_last P xs x h = subst P (last xs x) (h (length xs) x (omega (arith, length-append xs (x ∷ []))))
  where
    last : (xs : List NodeNo) (x : NodeNo) → get_or (xs ++ x ∷ []) (length xs) x ≡ x
    last [] x = refl
    last (y ∷ ys) x = last ys x

-- what a doubt leaves
pub doubt_size : (o : Option Way) (s s' : State) (over : Way) →
    MatchOption o (s' ≡ s) (λ known. MatchBool (nat_lt (rank_of known) (rank_of over)) (s' ≡ s) (Queues s s' known)) →
    (s'.table ≡ s.table) × (length s'.queue ≤ length s.queue + 1)
doubt_size None s s' over d = (ap (λ (x : State). x.table) d, omega (arith, ap (λ (x : State). length x.queue) d))
doubt_size (Some known) s s' over d = by (nat_lt (rank_of known) (rank_of over)) d
  where
    by : (b : Bool) → MatchBool b (s' ≡ s) (Queues s s' known) → (s'.table ≡ s.table) × (length s'.queue ≤ length s.queue + 1)
    by true d = (ap (λ (x : State). x.table) d, omega (arith, ap (λ (x : State). length x.queue) d))
    by false d = (d.table, omega (arith, length_permutation _ _ d.queue))

module _ (v : Learned) (root : ℕ) (s : State) (at : ℕ) (h : IsCutting v root (OneLate at) s) where
  -- the node that was late is held
  pub found_held : (w : Way) → IsKnown v root s.table w → w.to ≡ at → IsHeld v root s.table w.to (rank_of w) → IsCutting v root NoneLate s
  found_held w k e a =
      eased v root (OneLate at) NoneLate s h (λ n known p q r o. (let here : n ≡ w.to = o ∙ sym e in
      let same : rank_of w ≡ known = some_is (sym k.rank ∙ ap (rank_at s.table) (sym here) ∙ r) in
      inr (inr (subst (λ x. IsHeld v root s.table x known) (sym here) (subst (IsHeld v root s.table w.to) same a)))))

  -- nothing is known of it
  pub found_gone : way_at s.table at ≡ None → IsCutting v root NoneLate s
  found_gone e =
      eased v root (OneLate at) NoneLate s h (λ n known p q r o. absurd (none_some known (sym (no_way s.table at e) ∙ ap (rank_at s.table) (sym o) ∙ r)))

module _ (v : Learned) (root : ℕ) (net : IsNetwork v.nodes v.ends) (here : root < v.nodes) (l : ℕ) (there : l < length v.ends) where
  abbrev pub a : ℕ
  a = (link (wiring_of v) l).a.0

  abbrev pub b : ℕ
  b = (link (wiring_of v) l).b.0

  zero : LinkEnds
  zero = record { a = record { 0 = 0 }; b = record { 0 = 0 }; cost = 0; delay = 0; loss = 0; life = 0 }

  pub a_below : a < v.nodes
  a_below = (net.links l _ there).from

  pub b_below : b < v.nodes
  b_below = (net.links l _ there).to

  pub goes_a : is_up (links_up v) l ≡ true → goes v a l ≡ true
  goes_a up = all_true _ _ _ up (or_left (a == a) (b == a) (same_test a)) (lt-ltb _ _ there)

  pub goes_b : is_up (links_up v) l ≡ true → goes v b l ≡ true
  goes_b up = all_true _ _ _ up (or_right (a == b) (b == b) (same_test b)) (lt-ltb _ _ there)

  abbrev pub FromB : ℕ → ℕ → Type 0
  FromB n m = (n ≡ b) × (m ≡ l)

  -- it came up
  module _ (up : is_up (links_up v) l ≡ true) (s s1 : State) (h : IsGrowing v root (OneLink l) s) (o : OffersBeyond s s1 root a (link (wiring_of v) l)) where
    pub first : IsGrowing v root FromB s1 × (work s1 ≤ work s) × (s1.cut ≡ s.cut)
    first = offered_beyond v root net here (OneLink l) FromB s s1 a l h a_below (goes_a up) (from_first v root a b l refl refl) o

    pub second : (s2 : State) → OffersBeyond s1 s2 root b (link (wiring_of v) l) → IsGrowing v root NoRest s2 × (work s2 ≤ work s1) × (s2.cut ≡ s1.cut)
    second s2 o2 = offered_beyond v root net here FromB NoRest s1 s2 b l first.0 b_below (goes_b up) (λ n m g r. inr r) o2

  -- it went down
  module _ (t : PathTable) (s s1 : State) (is : s.table ≡ t) (h : IsCutting v root (HeldOverEither v root t l a b) s)
      (o : DoubtsBeyond s s1 root a (link (wiring_of v) l)) where
    pub one_doubted : IsCutting v root (HeldOver v root t l b) s1
    one_doubted = doubted_beyond v root net (HeldOver v root t l b) t a l s s1 is there a_below h o

    pub one_keeps : (s1.table ≡ s.table) × (s1.cut ≡ s.cut)
    one_keeps = doubting_keeps v root net _ s s1 (link (wiring_of v) l) o

    pub both_doubted : (s2 : State) → DoubtsBeyond s1 s2 root b (link (wiring_of v) l) → IsCutting v root NoneLate s2 × (s2.table ≡ t) × (s2.cut ≡ s.cut)
    both_doubted s2 o2 =
        let k = doubting_keeps v root net _ s1 s2 (link (wiring_of v) l) o2 in (
          doubted_beyond v root net NoneLate t b l s1 s2 (one_keeps.0 ∙ is) there b_below
              (eased v root (HeldOver v root t l b) (λ n known. HeldOver v root t l b n known ⊎ NoneLate n known) s1 one_doubted
              (λ n known p q r e. inl (inl e))) o2,
          k.0 ∙ one_keeps.0 ∙ is,
          k.1 ∙ one_keeps.1,
        )
