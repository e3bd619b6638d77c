-- A node's bindings, tied to its view and its sessions, tell what it can use and what it offers.
use Rattle.std.proofs.Common.{ℕ, zero, suc, ◌≡◌, ◌≢◌, ◌+◌, ◌<◌, ◌≤◌, ◌⊎◌, inl, inr, Bool, true, false, cond, List, [], ◌∷◌, length, filter, refl, arith}
use Rattle.std.proofs.Common.{sym, ◌∙◌, ap, subst, Option, Some, None}
use Rattle.std.specs.Prelude.{◌==◌, ◌&&◌, ◌||◌, is_some, slice_index_or, option_map}
use Rattle.std.specs.List.{range_with_len}
use Rattle.std.proofs.lemmas.Bool.Decides.{eqb_tells}
use Rattle.std.proofs.lemmas.List.FromFn.{get_or-map-range_with_len}
use Rattle.mn_wiring.specs.Wiring.{Wiring, links_of, links_at, link, is_end, across, joining, JoinsNodes, JoinsOnce}
use Rattle.mn_wiring.specs.Paths.{IsNext, next}
use Rattle.mn_base.specs.declared.numbers.NodeNo.{NodeNo}
use Rattle.mn_wiring.proofs.Next.{next_is}
use Rattle.mn_linkdb.specs.Trees.{hop_alone}
use Rattle.mn_bindings.specs.Bindings.{Bindings, nodes, row_of, is_open}
use Rattle.mn_bindings.specs.Bindings as lib
use Rattle.mn_node.specs.Ldp.{hearing, is_operational, is_mapped, usable_over, usable_by, offers}
use Rattle.mn_node.specs.Node.{Session, Node, session_at, view_in, hearing_in, knowledge_in}
use Rattle.mn_node.proofs.Mapped.{mapped-is}
use Rattle.mn_node.proofs.Opening.{hearing-in}
use Rattle.mn_lsr.specs.Standing.{session_label, labelled, way_to}
use Rattle.mn_lsr.specs.Ties.{AreTied}

-- 1. The link of a next hop is the one link to that neighbour

abbrev In : List ℕ → ℕ → Type 0
In [] x = ⊥
In (y ∷ ys) x = (y ≡ x) ⊎ In ys x

in_range : (n q x : ℕ) → q ≤ x → x < q + n → In (range_with_len q n) x
in_range zero q x h g = absurd (omega (arith, h, g))
in_range (suc n) q x h g = elim (eqb_tells q x) [ inl p ↦ inl p.1 | inr p ↦ inr (in_range n (q + 1) x (above q x h p.1) (omega (arith, g))) ]
  where
    above : (q x : ℕ) → q ≤ x → q ≢ x → q + 1 ≤ x
    above q x h d = omega (arith, h, d)

in_filter : (p : ℕ → Bool) (xs : List ℕ) (x : ℕ) → In xs x → p x ≡ true → In (filter p xs) x
in_filter p [] x h e = h
in_filter p (y ∷ ys) x (inl h) e = subst (λ b. In (cond b (y ∷ filter p ys) (filter p ys)) x) (sym (ap p h ∙ e)) (inl h)
in_filter p (y ∷ ys) x (inr h) e = by (p y) (in_filter p ys x h e)
  where
    by : (b : Bool) → In (filter p ys) x → In (cond b (y ∷ filter p ys) (filter p ys)) x
    by true i = inr i
    by false i = i

only : (xs : List ℕ) (x : ℕ) → In xs x → length xs ≤ 1 → xs ≡ x ∷ []
only [] x h g = absurd h
only (y ∷ []) x (inl h) g = ap (λ z. z ∷ []) h
only (y ∷ []) x (inr h) g = absurd h
only (y ∷ z ∷ zs) x h g = absurd (two (length zs) g)
  where
    two : (n : ℕ) → suc (suc n) ≤ 1 → ⊥
    two n g = omega (arith, g)

same_test : (a b : ℕ) → a ≡ b → (a == b) ≡ true
same_test a b e = elim (eqb_tells a b) [ inl p ↦ p.0 | inr p ↦ absurd (p.1 e) ]

pub record IsHop (w : Wiring) (me : ℕ) (hop : ℕ × ℕ) : Type 0 where
  pub joins : joining w me hop.0 ≡ hop.1 ∷ []
  pub node : hop.0 < length w.loopbacks

pub across-below : (w : Wiring) (l n : ℕ) → JoinsNodes w → l < length w.ends → across w l n < length w.loopbacks
across-below w l n j h = by ((link w l).a.0 == n)
  where
    by : (b : Bool) → cond b (link w l).b.0 (link w l).a.0 < length w.loopbacks
    by true = (j l h).1
    by false = (j l h).0

is_it : (a b : ℕ) → (a == b) ≡ true → a ≡ b
is_it a b h = elim (eqb_tells a b) [ inl p ↦ p.1 | inr p ↦ absurd (clash (sym h ∙ p.0)) ]
  where
    clash : true ≡ false → ⊥
    clash g = cc

-- the other end of a link differs from the end
pub across-other : (w : Wiring) (l n : ℕ) → (link w l).a.0 ≢ (link w l).b.0 → is_end w l n ≡ true → across w l n ≢ n
across-other w l n d at_end e = by ((link w l).a.0 == n) ((link w l).b.0 == n) refl refl at_end e
  where
    clash : false ≡ true → ⊥
    clash g = cc

    by : (x y : Bool) → ((link w l).a.0 == n) ≡ x → ((link w l).b.0 == n) ≡ y → (x || y) ≡ true → (cond x (link w l).b.0 (link w l).a.0) ≡ n → ⊥
    by true y f g o e = d (is_it (link w l).a.0 n f ∙ sym e)
    by false true f g o e = d (e ∙ sym (is_it (link w l).b.0 n g))
    by false false f g o e = clash o

-- a link at the node, and the neighbour at its other end
pub link_hop : (w : Wiring) (me l : ℕ) → JoinsNodes w → JoinsOnce w → me < length w.loopbacks → l < length w.ends → is_end w l me ≡ true →
    IsHop w me (across w l me, l)
link_hop w me l joins once below there at_end =
    let node : across w l me < length w.loopbacks = across-below w l me joins there in
    record {
      joins = only (joining w me (across w l me)) l
          (in_filter (λ k. across w k me == across w l me) (links_at w me) l
          (in_filter (λ k. is_end w k me) (links_of w) l (in_range (length w.ends) 0 l (omega arith) (omega (arith, there))) at_end)
          (same_test (across w l me) (across w l me) refl))
          (once me (across w l me) below node);
      node = node;
    }

hop_is : (w : Wiring) (view : List Bool) (me to : ℕ) (hop : ℕ × ℕ) → JoinsNodes w → JoinsOnce w → me < length w.loopbacks → me ≢ to →
    next w view me to ≡ Some hop → IsHop w me hop
hop_is w view me to hop joins once below d e =
    let h : IsNext w view me to (Some hop) = subst (IsNext w view me to) e (next_is w view to joins me below d) in
    let node : hop.0 < length w.loopbacks = subst (λ n. n < length w.loopbacks) (sym h.0) (across-below w hop.1 me joins h.1.there) in
    record {
      joins = only (joining w me hop.0) hop.1
          (in_filter (λ l. across w l me == hop.0) (links_at w me) hop.1
          (in_filter (λ l. is_end w l me) (links_of w) hop.1 (in_range (length w.ends) 0 hop.1 (omega arith) (omega (arith, h.1.there))) h.1.at_node)
          (same_test (across w hop.1 me) hop.0 (sym h.0)))
          (once me hop.0 below node);
      node = node;
    }

-- 2. What can be used

-- where the node is OPERATIONAL, what is mapped has a label
mapped_has_label : (n : Node) (l fec : ℕ) → is_operational (knowledge_in n) l ≡ true →
    is_mapped false fec (hearing (knowledge_in n) l).messages ≡ is_some (session_label (session_at n l) fec)
mapped_has_label n l fec on = by (session_at n l) refl
  where
    by : (o : Option Session) → session_at n l ≡ o → is_mapped false fec (hearing (knowledge_in n) l).messages ≡ is_some (session_label (session_at n l) fec)
    by None e = ap (λ h. is_mapped false fec h.messages) (hearing-in n l ∙ ap hearing_in e) ∙ sym (ap (λ o. is_some (session_label o fec)) e)
    by (Some s) e =
        ap (λ h. is_mapped false fec h.messages) (hearing-in n l ∙ ap hearing_in e) ∙ mapped-is 0 fec fec s.labels (omega arith)
        ∙ sym (ap (λ o. is_some (session_label o fec)) e)

module _ (w : Wiring) (n : Node) (b : Bindings) (joins : JoinsNodes w) (once : JoinsOnce w) (below : n.me < length w.loopbacks) (tied : AreTied w n b) where
  -- the label is there where what is received says so
  over_hop : (fec : ℕ) (hop : ℕ × ℕ) → IsHop w n.me hop → (on : Bool) → is_operational (knowledge_in n) hop.1 ≡ on
      → lib.labelled (record { 0 = hop.0 }) (lib.label_learned (row_of b hop.0) fec) ≡ labelled n fec (usable_over (knowledge_in n) fec (Some hop))
  over_hop fec hop h false e =
      ap (λ o. lib.labelled (record { 0 = hop.0 }) (lib.label_learned o fec)) (closed (row_of b hop.0) (tied.open_is hop.0 hop.1 h.node h.joins ∙ e))
      ∙ sym (ap (λ x. labelled n fec (elim x as (λ _. Option (ℕ × ℕ)) [ true ↦ Some hop | false ↦ None ]))
      (ap (λ x. x && is_mapped false fec (hearing (knowledge_in n) hop.1).messages) e))
    where
      closed : (o : Option (List (Option ℕ))) → is_some o ≡ false → o ≡ None
      closed None f = refl
      closed (Some row) f = cc
  over_hop fec hop h true e =
      ap (lib.labelled (record { 0 = hop.0 })) (tied.labels hop.0 hop.1 fec h.node h.joins (tied.open_is hop.0 hop.1 h.node h.joins ∙ e))
      ∙ either (session_label (session_at n hop.1) fec) refl
    where
      scrutinee : (x : Bool) → is_some (session_label (session_at n hop.1) fec) ≡ x →
          (is_operational (knowledge_in n) hop.1 && is_mapped false fec (hearing (knowledge_in n) hop.1).messages) ≡ x
      scrutinee x f = ap (λ o. o && is_mapped false fec (hearing (knowledge_in n) hop.1).messages) e ∙ mapped_has_label n hop.1 fec e ∙ f

      either : (o : Option ℕ) → session_label (session_at n hop.1) fec ≡ o →
          lib.labelled (record { 0 = hop.0 }) (session_label (session_at n hop.1) fec) ≡ labelled n fec (usable_over (knowledge_in n) fec (Some hop))
      either None f =
          ap (lib.labelled (record { 0 = hop.0 })) f
          ∙ sym (ap (λ x. labelled n fec (elim x as (λ _. Option (ℕ × ℕ)) [ true ↦ Some hop | false ↦ None ])) (scrutinee false (ap is_some f)))
      either (Some label) f =
          ap (lib.labelled (record { 0 = hop.0 })) f
          ∙ sym (ap (λ x. labelled n fec (elim x as (λ _. Option (ℕ × ℕ)) [ true ↦ Some hop | false ↦ None ])) (scrutinee true (ap is_some f))
          ∙ ap (option_map (λ label. (record { 0 = hop.0 }, label))) f)

  hop_at : (fec : ℕ) → fec < length w.loopbacks → slice_index_or b.hops fec None ≡ hop_alone (next w (view_in n) n.me fec)
  hop_at fec h =
      ap (λ hs. slice_index_or hs fec None) tied.hops
      ∙ get_or-map-range_with_len (λ p. hop_alone (next w (view_in n) n.me p)) 0 (length w.loopbacks) fec fec None h (omega arith)

  -- where the node can send, as the bindings tell it and as its knowledge does
  pub usable_same : (fec : ℕ) → fec < length w.loopbacks → n.me ≢ fec → lib.usable b fec ≡ way_to w n fec
  usable_same fec h d = ap (lib.usable_by b fec) (hop_at fec h) ∙ by (next w (view_in n) n.me fec) refl
    where
      by : (o : Option (ℕ × ℕ)) → next w (view_in n) n.me fec ≡ o →
          lib.usable_by b fec (hop_alone (next w (view_in n) n.me fec)) ≡ labelled n fec (usable_over (knowledge_in n) fec (next w (view_in n) n.me fec))
      by None e = ap (λ o. lib.usable_by b fec (hop_alone o)) e ∙ sym (ap (λ o. labelled n fec (usable_over (knowledge_in n) fec o)) e)
      by (Some hop) e =
          ap (λ o. lib.usable_by b fec (hop_alone o)) e
          ∙ over_hop fec hop (hop_is w (view_in n) n.me fec hop joins once below d e) (is_operational (knowledge_in n) hop.1) refl
          ∙ sym (ap (λ o. labelled n fec (usable_over (knowledge_in n) fec o)) e)

  -- a way has a label
  way_some : (fec : ℕ) (o : Option (ℕ × ℕ)) → is_some (labelled n fec (usable_over (knowledge_in n) fec o)) ≡ is_some (usable_over (knowledge_in n) fec o)
  way_some fec None = refl
  way_some fec (Some hop) = by (is_operational (knowledge_in n) hop.1) refl
    where
      shown : (x : Bool) → (is_operational (knowledge_in n) hop.1 && is_mapped false fec (hearing (knowledge_in n) hop.1).messages) ≡ x →
          (x ≡ true → is_some (session_label (session_at n hop.1) fec) ≡ true)
          → is_some (labelled n fec (elim x as (λ _. Option (ℕ × ℕ)) [ true ↦ Some hop | false ↦ None ])) ≡ is_some
          (elim x as (λ _. Option (ℕ × ℕ)) [ true ↦ Some hop | false ↦ None ])
      shown false e f = refl
      shown true e f = has (session_label (session_at n hop.1) fec) (f refl)
        where
          has : (o : Option ℕ) → is_some o ≡ true → is_some (option_map (λ (label : ℕ). let y : NodeNo × ℕ = (record { 0 = hop.0 }, label) in y) o) ≡ true
          has (Some label) g = refl
          has None g = cc

      and_true : (x y : Bool) → (x && y) ≡ true → (x ≡ true) × (y ≡ true)
      and_true true y e = (refl, e)
      and_true false y e = cc

      by : (on : Bool) → is_operational (knowledge_in n) hop.1 ≡ on →
          is_some (labelled n fec (usable_over (knowledge_in n) fec (Some hop))) ≡ is_some (usable_over (knowledge_in n) fec (Some hop))
      by on e = shown (is_operational (knowledge_in n) hop.1 && is_mapped false fec (hearing (knowledge_in n) hop.1).messages) refl
          (λ g. let both = and_true (is_operational (knowledge_in n) hop.1) (is_mapped false fec (hearing (knowledge_in n) hop.1).messages) g in
          sym (mapped_has_label n hop.1 fec both.0) ∙ both.1)

  pub offers_same : (fec : ℕ) → fec < length w.loopbacks → lib.offers b fec ≡ offers w (knowledge_in n) n.me fec
  offers_same fec h = elim (eqb_tells n.me fec) [
    | inl p ↦ ap (λ m. (m == fec) || is_some (lib.usable b fec)) tied.me ∙ ap (λ x. x || is_some (lib.usable b fec)) p.0
        ∙ sym (ap (λ x. x || is_some (usable_by w (knowledge_in n) n.me fec)) p.0)
    | inr p ↦
        ap (λ m. (m == fec) || is_some (lib.usable b fec)) tied.me
        ∙ ap (λ o. (n.me == fec) || is_some o) (usable_same fec h p.1)
        ∙ ap (λ x. (n.me == fec) || x) (way_some fec (next w (view_in n) n.me fec))
  ]
