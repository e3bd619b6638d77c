-- One session and its neighbour's row change together, and the others stay.
use Rattle.std.proofs.Common.{ℕ, zero, suc, ◌≡◌, ◌≢◌, ◌+◌, ◌<◌, inl, inr, true, List, [], ◌∷◌, length, refl, arith, sym, ◌∙◌, ap, subst, Option, Some, None}
use Rattle.std.specs.Prelude.{slice_index_or, slice_set, option_map}
use Rattle.std.proofs.Math.ListN.{length-set}
use Rattle.std.proofs.lemmas.Bool.Decides.{eqb_tells}
use Rattle.std.proofs.lemmas.List.{get_or-set_same, get_or-set_other, set-set}
use Rattle.mn_wiring.specs.Wiring.{Wiring, is_end, across, joining, JoinsNodes, JoinsOnce}
use Rattle.mn_bindings.specs.Bindings.{Bindings, row_of}
use Rattle.mn_node.specs.Node.{Session}
use Rattle.mn_ldp_session.specs.declared.session.Session.{Session as Machine}
use Rattle.mn_lsr.specs.declared.parts.Open.{Open}
use Rattle.mn_lsr.specs.Standing.{labels_in, session_in, sessions_from}
use Rattle.mn_lsr.specs.Parts.{IsOwn, AreOwn, machines_of}
use Rattle.mn_lsr.proofs.Tied.{link_hop}
use Rattle.mn_lsr.proofs.Saying.{set-is}

-- 1. The link at an end is the one link to its neighbour

module _ (w : Wiring) (me l : ℕ) (joins : JoinsNodes w) (once : JoinsOnce w) (below : me < length w.loopbacks) (there : l < length w.ends)
    (at_end : is_end w l me ≡ true) where
  pub only_link : joining w me (across w l me) ≡ l ∷ []
  only_link = (link_hop w me l joins once below there at_end).joins

  pub far_below : across w l me < length w.loopbacks
  far_below = (link_hop w me l joins once below there at_end).node

-- two links at a node lead to two neighbours
pub leads_apart : (w : Wiring) (me l k : ℕ) (joins : JoinsNodes w) (once : JoinsOnce w) → me < length w.loopbacks → l < length w.ends →
    is_end w l me ≡ true → k < length w.ends → is_end w k me ≡ true → k ≢ l → across w k me ≢ across w l me
leads_apart w me l k joins once below there at_end k_there k_end d same =
    d (head (sym (only_link w me k joins once below k_there k_end) ∙ ap (joining w me) same ∙ only_link w me l joins once below there at_end))
  where
    head : k ∷ [] ≡ l ∷ [] → k ≡ l
    head e = cc

-- 2. State machines by link

pub machine-at : (ends : List (Option Open)) (k : ℕ) →
    slice_index_or (machines_of ends) k None ≡ option_map (λ (e : Open). e.session) (slice_index_or ends k None)
machine-at [] k = refl
machine-at (end ∷ ends) zero = refl
machine-at (end ∷ ends) (suc k) = machine-at ends k

pub machines-set : (ends : List (Option Open)) (l : ℕ) (x : Option Open) →
    machines_of (slice_set ends l x) ≡ slice_set (machines_of ends) l (option_map (λ (e : Open). e.session) x)
machines-set [] l x = refl
machines-set (end ∷ ends) zero x = refl
machines-set (end ∷ ends) (suc l) x = ap (λ xs. option_map (λ (e : Open). e.session) end ∷ xs) (machines-set ends l x)

within : (ms : List (Option Machine)) (k : ℕ) (m : Machine) → slice_index_or ms k None ≡ Some m → k < length ms
within [] k m e = absurd (none e)
  where
    none : None ≡ Some m → ⊥
    none f = cc
within (x ∷ ms) zero m e = omega arith
within (x ∷ ms) (suc k) m e = omega (arith, within ms k m e)

pub own-at : (w : Wiring) (me : ℕ) (ends : List (Option Open)) (k : ℕ) (end : Open) → AreOwn w me (machines_of ends) →
    slice_index_or ends k None ≡ Some end → IsOwn w me k end.session × (k < length w.ends)
own-at w me ends k end own e =
    let at : slice_index_or (machines_of ends) k None ≡ Some end.session = machine-at ends k ∙ ap (option_map (λ (x : Open). x.session)) e in
    (own.own k end.session at, subst (λ n. k < n) own.one_each (within (machines_of ends) k end.session at))

-- a session of this link is set, or none
abbrev pub IsOwnAt : Wiring → ℕ → ℕ → Option Open → Type 0
IsOwnAt w me l x = (end : Open) → x ≡ Some end → IsOwn w me l end.session

pub own-set : (w : Wiring) (me : ℕ) (ends : List (Option Open)) (l : ℕ) (x : Option Open) → AreOwn w me (machines_of ends) → IsOwnAt w me l x →
    AreOwn w me (machines_of (slice_set ends l x))
own-set w me ends l x own here = record {
  one_each = ap length (machines-set ends l x) ∙ length-set (machines_of ends) l (option_map (λ (e : Open). e.session) x) ∙ own.one_each;
  own = λ k m e. elim (eqb_tells k l) [
    | inl p ↦ at_l (slice_index_or ends l None) m k p.1 e
    | inr p ↦ own.own k m (sym (get_or-set_other (machines_of ends) l k (option_map (λ (e : Open). e.session) x) None p.1)
        ∙ sym (ap (λ ms. slice_index_or ms k None) (machines-set ends l x)) ∙ e)
  ];
}
  where
    at_l : Option Open → (m : Machine) (k : ℕ) → k ≡ l → slice_index_or (machines_of (slice_set ends l x)) k None ≡ Some m → IsOwn w me k m
    at_l o m k e f =
        let inside : k < length (machines_of (slice_set ends l x)) = within (machines_of (slice_set ends l x)) k m f in
        let at : option_map (λ (e : Open). e.session) x ≡ Some m =
        sym (get_or-set_same (machines_of ends) l (option_map (λ (e : Open). e.session) x) None
        (omega (arith, inside, e, ap length (machines-set ends l x), length-set (machines_of ends) l (option_map (λ (e : Open). e.session) x))))
        ∙ ap (λ ms. slice_index_or ms l None) (sym (machines-set ends l x)) ∙ ap (λ j. slice_index_or (machines_of (slice_set ends l x)) j None) (sym e) ∙ f in
        subst (λ j. IsOwn w me j m) (sym e) (by x refl at)
      where
        by : (y : Option Open) → x ≡ y → option_map (λ (e : Open). e.session) y ≡ Some m → IsOwn w me l m
        by None g i = absurd (none i)
          where
            none : None ≡ Some m → ⊥
            none j = cc
        by (Some end) g i = subst (IsOwn w me l) (some i) (here end g)
          where
            some : (let o : Option Machine = Some end.session in o) ≡ Some m → end.session ≡ m
            some j = cc

-- 3. Sessions as contracts see them

alike : (w : Wiring) (me : ℕ) (b a : Bindings) (ends : List (Option Open)) (q : ℕ)
    → ((k l : ℕ) (end : Open) → q + k ≡ l → slice_index_or ends k None ≡ Some end → row_of b (across w l me) ≡ row_of a (across w l me)) →
    sessions_from w me b q ends ≡ sessions_from w me a q ends
alike w me b a [] q h = refl
alike w me b a (None ∷ ends) q h = ap (λ ss. None ∷ ss) (alike w me b a ends (q + 1) (λ k l end e f. h (suc k) l end (omega (arith, e)) f))
alike w me b a (Some end ∷ ends) q h =
    ap (λ r. let o : Option Session = Some (record { state = end.session.state; said = end.said; labels = labels_in (length w.loopbacks) r }) in
    o ∷ sessions_from w me b (q + 1) ends) (h zero q end (omega arith) refl)
    ∙ ap (λ ss. option_map (session_in w me a q) (Some end) ∷ ss) (alike w me b a ends (q + 1) (λ k l x e f. h (suc k) l x (omega (arith, e)) f))

pub length-sessions : (w : Wiring) (me : ℕ) (b : Bindings) (q : ℕ) (ends : List (Option Open)) →
    length (sessions_from w me b q ends) ≡ length (machines_of ends)
length-sessions w me b q [] = refl
length-sessions w me b q (end ∷ ends) = ap suc (length-sessions w me b (q + 1) ends)

module _ (w : Wiring) (me l : ℕ) (b : Bindings) (ends : List (Option Open)) (row : Option (List (Option ℕ))) (x : Option Open) (joins : JoinsNodes w)
    (once : JoinsOnce w) (below : me < length w.loopbacks)
    (there : l < length w.ends) (at_end : is_end w l me ≡ true) (own : AreOwn w me (machines_of ends)) where
  abbrev far : ℕ
  far = across w l me

  abbrev with_row : Bindings
  with_row = record b { heard = slice_set b.heard far row }

  abbrev rest : List (Option Open)
  rest = slice_set ends l None

  same_rows : (k j : ℕ) (end : Open) → 0 + k ≡ j → slice_index_or rest k None ≡ Some end → row_of with_row (across w j me) ≡ row_of b (across w j me)
  same_rows k j end e f = elim (eqb_tells k l) [
    | inl p ↦ absurd (none (sym (at_l k p.1) ∙ f))
    | inr p ↦
        let at : slice_index_or ends k None ≡ Some end = sym (get_or-set_other ends l k None None p.1) ∙ f in
        let is : IsOwn w me k end.session × (k < length w.ends) = own-at w me ends k end own at in
        subst (λ i. row_of with_row (across w i me) ≡ row_of b (across w i me)) (same k j e)
        (get_or-set_other b.heard far (across w k me) row None (leads_apart w me l k joins once below there at_end is.1 is.0.at_end p.1))
  ]
    where
      same : (k j : ℕ) → 0 + k ≡ j → k ≡ j
      same k j e = omega (arith, e)

      none : (let o : Option Open = None in o) ≡ Some end → ⊥
      none g = cc

      at_l : (k : ℕ) → k ≡ l → slice_index_or rest k None ≡ (let o : Option Open = None in o)
      at_l k g = ap (λ i. slice_index_or rest i None) g ∙ cleared ends l
        where
          cleared : (es : List (Option Open)) (i : ℕ) → slice_index_or (slice_set es i None) i None ≡ (let o : Option Open = None in o)
          cleared [] i = refl
          cleared (y ∷ es) zero = refl
          cleared (y ∷ es) (suc i) = cleared es i

  -- one session and one row are set: one session is set
  pub sessions-one : sessions_from w me with_row 0 (slice_set ends l x) ≡ slice_set (sessions_from w me b 0 ends) l (option_map (session_in w me with_row l) x)
  sessions-one =
      ap (sessions_from w me with_row 0) (sym (set-set ends l None x))
      ∙ sym (set-is w me with_row rest 0 l l x (omega arith))
      ∙ ap (λ ss. slice_set ss l (option_map (session_in w me with_row l) x))
      (alike w me with_row b rest 0 same_rows ∙ sym (set-is w me b ends 0 l l None (omega arith)))
      ∙ set-set (sessions_from w me b 0 ends) l None (option_map (session_in w me with_row l) x)
