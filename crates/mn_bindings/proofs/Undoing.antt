-- An event and what puts it back leave everything as it was.
use Rattle.std.proofs.Common.{ℕ, ◌≡◌, ◌<◌, false, List, [], ◌∷◌, ◌++◌, length, slice_index_or, slice_set, refl, sym, ◌∙◌, ap, Option, Some, None, arith}
use Rattle.std.specs.Prelude.{is_some}
use Rattle.std.proofs.lemmas.List.{set-set, set-get_or, get_or-set_same}
use Rattle.mn_bindings.specs.declared.event.LibEvent.{LibEvent}
use Rattle.mn_bindings.specs.declared.event.LibEvent.TheVariants.{Opened, Closed, Map, Withdraw, Released, Next}
use Rattle.mn_bindings.specs.declared.undo.Undo.{Undo}
use Rattle.mn_bindings.specs.Bindings.{Bindings, nodes, row_of, with_label, label_learned, after_event, EventFits}
use Rattle.mn_bindings.specs.Undoing.{undone, undo_of, all_undone}

-- a place written twice, at last with what it had
again : {A : Type 0} (xs : List A) (i : ℕ) (a b d : A) → b ≡ slice_index_or xs i d → slice_set (slice_set xs i a) i b ≡ xs
again xs i a b d e = set-set xs i a b ∙ ap (slice_set xs i) e ∙ set-get_or xs i d

label-again : (r : Option (List (Option ℕ))) (p : ℕ) (l : Option ℕ) → with_label (with_label r p l) p (label_learned r p) ≡ r
label-again None p l = refl
label-again (Some row) p l = ap (λ x. let o : Option (List (Option ℕ)) = Some x in o) (again row p l (slice_index_or row p None) None refl)

-- a closed neighbour had nothing
closed-none : (r : Option (List (Option ℕ))) → is_some r ≡ false → r ≡ None
closed-none None h = refl
closed-none (Some x) h = cc

relabel : (xs : List (Option (List (Option ℕ)))) (h p : ℕ) (l : Option ℕ) → h < length xs →
    let r : Option (List (Option ℕ)) = slice_index_or xs h None in
    let ys : List (Option (List (Option ℕ))) = slice_set xs h (with_label r p l) in
    slice_set ys h (with_label (slice_index_or ys h None) p (label_learned r p)) ≡ xs
relabel xs h p l k =
    let r : Option (List (Option ℕ)) = slice_index_or xs h None in
    again xs h (with_label r p l) _ None
    (ap (λ z. with_label z p (label_learned r p)) (get_or-set_same xs h (with_label r p l) None k) ∙ label-again r p l)

with_heard : Bindings → List (Option (List (Option ℕ))) → Bindings
with_heard b xs = record b { heard = xs }

pub undone-event : (b : Bindings) (e : LibEvent) → length b.heard ≡ nodes b → EventFits b e → undone (after_event b e) (undo_of b e) ≡ b
unfolding with_heard
undone-event b (Opened h) n f = ap (with_heard b) (again b.heard h.0 _ None None (sym (closed-none (row_of b h.0) f.1)))
undone-event b (Closed h) n f = ap (with_heard b) (again b.heard h.0 None (row_of b h.0) None refl)
undone-event b (Map h p l) n f = ap (with_heard b) (relabel b.heard h.0 p.0 (Some l) (omega (arith, n, f.0)))
undone-event b (Withdraw h p) n f = ap (with_heard b) (relabel b.heard h.0 p.0 None (omega (arith, n, f.0)))
undone-event b (Released h p) n f = refl
undone-event b (Next p h) n f = ap (λ xs. let c : Bindings = record b { hops = xs } in c) (again b.hops p.0 h (slice_index_or b.hops p.0 None) None refl)

pub all_undone-push : (b : Bindings) (us : List Undo) (u : Undo) → all_undone b (us ++ u ∷ []) ≡ all_undone (undone b u) us
all_undone-push b [] u = refl
all_undone-push b (x ∷ xs) u = ap (λ z. undone z x) (all_undone-push b xs u)

-- one more event, and one more to put back
pub all_undone-more : (b b' : Bindings) (u : Undo) (us us' us'' : List Undo) (z : Bindings) → undone b' u ≡ b → us' ≡ us → us'' ≡ us' ++ u ∷ [] →
    all_undone b us ≡ z → all_undone b' us'' ≡ z
all_undone-more b b' u us us' us'' z e f g h =
    ap (all_undone b') (g ∙ ap (λ xs. xs ++ u ∷ []) f) ∙ all_undone-push b' us u ∙ ap (λ c. all_undone c us) e ∙ h

pub all_undone-less : (b b' : Bindings) (u : Undo) (us us' : List Undo) (z : Bindings) → b' ≡ undone b u → us ≡ us' ++ u ∷ [] → all_undone b us ≡ z →
    all_undone b' us' ≡ z
all_undone-less b b' u us us' z e f h = ap (λ c. all_undone c us') e ∙ sym (all_undone-push b us' u) ∙ ap (all_undone b) (sym f) ∙ h
