-- What happens to one neighbour's session and to its row of the bindings keeps them tied.
use Rattle.std.proofs.Common.{ℕ, ◌≡◌, ◌≢◌, ◌<◌, inl, inr, Bool, true, false, cond, List, [], ◌∷◌, length, filter, refl, arith, sym, ◌∙◌, ap, Option, None}
use Rattle.std.specs.Prelude.{◌==◌, ◌&&◌, nat_le, is_some, slice_index_or, slice_set}
use Rattle.std.proofs.lemmas.Bool.Decides.{eqb_tells}
use Rattle.std.proofs.lemmas.List.{get_or-set_same, get_or-set_other}
use Rattle.mn_wiring.specs.Wiring.{Wiring, links_at, across, joining}
use Rattle.mn_bindings.specs.Bindings.{Bindings, nodes, is_open, row_of}
use Rattle.mn_bindings.specs.Bindings as lib
use Rattle.mn_node.specs.Ldp.{is_operational}
use Rattle.mn_node.specs.Node.{Session, Node, session_at, hearing_in, knowledge_in}
use Rattle.mn_node.specs.Machine.{Opens, with_session, changed}
use Rattle.mn_node.proofs.Opening.{hearing-in, opens_alike, other_link, not_before}
use Rattle.mn_lsr.specs.Standing.{session_label}
use Rattle.mn_lsr.specs.Ties.{AreTied}

-- the end of this session is OPERATIONAL
abbrev pub is_up : Option Session → Bool
is_up session = (hearing_in session).alive && nat_le 2 (hearing_in session).count

pub operational-is : (n : Node) (l : ℕ) → is_operational (knowledge_in n) l ≡ is_up (session_at n l)
operational-is n l = ap (λ h. h.alive && nat_le 2 h.count) (hearing-in n l)

first_passes : (p : ℕ → Bool) (xs : List ℕ) (x : ℕ) → filter p xs ≡ x ∷ [] → p x ≡ true
first_passes p [] x e = cc
first_passes p (y ∷ ys) x e = by (p y) refl e (first_passes p ys x)
  where
    by : (b : Bool) → p y ≡ b → cond b (y ∷ filter p ys) (filter p ys) ≡ x ∷ [] → (filter p ys ≡ x ∷ [] → p x ≡ true) → p x ≡ true
    by true f g i = ap p (sym (head g)) ∙ f
      where
        head : y ∷ filter p ys ≡ x ∷ [] → y ≡ x
        head h = cc
    by false f g i = i g

-- the one link that joins a neighbour leads to it
pub leads : (w : Wiring) (me h l : ℕ) → joining w me h ≡ l ∷ [] → across w l me ≡ h
leads w me h l e = is_it (across w l me) h (first_passes (λ k. across w k me == h) (links_at w me) l e)
  where
    is_it : (a b : ℕ) → (a == b) ≡ true → a ≡ b
    is_it a b g = elim (eqb_tells a b) [ inl p ↦ p.1 | inr p ↦ absurd (clash (sym g ∙ p.0)) ]
      where
        clash : true ≡ false → ⊥
        clash q = cc

-- one neighbour's session and its row change together
pub tied-one : (w : Wiring) (n : Node) (b : Bindings) (h l : ℕ) (session : Option Session) (row : Option (List (Option ℕ))) → AreTied w n b →
    joining w n.me h ≡ l ∷ [] → h < length w.loopbacks → length b.heard ≡ length w.loopbacks → l < length n.sessions
    → is_some row ≡ is_up session → ((fec : ℕ) → is_some row ≡ true → lib.label_learned row fec ≡ session_label session fec) →
    AreTied w (with_session n l session) (record b { heard = slice_set b.heard h row })
tied-one w n b h l session row tied joins below rows there up labels = record {
  one_each = tied.one_each;
  me = tied.me;
  hops = tied.hops;
  open_is = λ k m k_below j. elim (eqb_tells k h) [
    | inl p ↦ ap is_some (row_here k p.1) ∙ up ∙ sym (operational-is (with_session n l session) m ∙ ap is_up (session_here k m p.1 j))
    | inr p ↦ ap is_some (get_or-set_other b.heard h k row None p.1) ∙ tied.open_is k m k_below j ∙ operational-is n m
        ∙ sym (operational-is (with_session n l session) m ∙ ap is_up (session_off k m p.1 j))
  ];
  labels = λ k m fec k_below j on. elim (eqb_tells k h) [
    | inl p ↦ ap (λ r. lib.label_learned r fec) (row_here k p.1) ∙ labels fec (sym (ap is_some (row_here k p.1)) ∙ on)
        ∙ sym (ap (λ s. session_label s fec) (session_here k m p.1 j))
    | inr p ↦ ap (λ r. lib.label_learned r fec) (get_or-set_other b.heard h k row None p.1)
        ∙ tied.labels k m fec k_below j (sym (ap is_some (get_or-set_other b.heard h k row None p.1)) ∙ on)
        ∙ sym (ap (λ s. session_label s fec) (session_off k m p.1 j))
  ];
}
  where
    row_here : (k : ℕ) → k ≡ h → slice_index_or (slice_set b.heard h row) k None ≡ row
    row_here k e = ap (λ x. slice_index_or (slice_set b.heard h row) x None) e ∙ get_or-set_same b.heard h row None (omega (arith, below, rows))

    same_link : (k m : ℕ) → k ≡ h → joining w n.me k ≡ m ∷ [] → m ≡ l
    same_link k m e j = head (sym j ∙ ap (joining w n.me) e ∙ joins)
      where
        head : m ∷ [] ≡ l ∷ [] → m ≡ l
        head g = cc

    session_here : (k m : ℕ) → k ≡ h → joining w n.me k ≡ m ∷ [] → session_at (with_session n l session) m ≡ session
    session_here k m e j =
        ap (λ x. slice_index_or (slice_set n.sessions l session) x None) (same_link k m e j) ∙ get_or-set_same n.sessions l session None there

    session_off : (k m : ℕ) → k ≢ h → joining w n.me k ≡ m ∷ [] → session_at (with_session n l session) m ≡ session_at n m
    session_off k m d j =
        get_or-set_other n.sessions l m session None (λ e. d (sym (leads w n.me k m j) ∙ ap (λ x. across w x n.me) e ∙ leads w n.me h l joins))

-- a session that opens changes no binding
pub tied-opens : (w : Wiring) (n : Node) (b : Bindings) (l : ℕ) → session_at n l ≡ None → AreTied w n b → AreTied w (changed w n (Opens l)) b
tied-opens w n b l none tied = record {
  one_each = tied.one_each;
  me = tied.me;
  hops = tied.hops;
  open_is = λ k m below j. tied.open_is k m below j ∙ (opens_alike w n l none).operational m;
  labels = λ k m fec below j on. tied.labels k m fec below j on ∙ sym (ap (λ s. session_label s fec) (other_link w n l none m (off k m below j on)));
}
  where
    off : (k m : ℕ) → k < length w.loopbacks → joining w n.me k ≡ m ∷ [] → is_open b k ≡ true → m ≢ l
    off k m below j on e = clash (sym on ∙ tied.open_is k m below j ∙ ap (is_operational (knowledge_in n)) e ∙ not_before w n l none)
      where
        clash : true ≡ false → ⊥
        clash g = cc
