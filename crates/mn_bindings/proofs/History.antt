-- What is kept is what was sent last. The proof goes by the events from the newest to the oldest, and then reads them in order.
use Rattle.std.proofs.Common.{ℕ, zero, suc, ◌≡◌, ◌<◌, Bool, true, false, cond, List, [], ◌∷◌, ◌++◌, reverse, length, get_or, set, slice_index_or, replicate}
use Rattle.std.proofs.Common.{refl, sym, ◌∙◌, ap, subst, inl, inr, Option, Some, None, arith}
use Rattle.std.specs.Prelude.{is_some, ◌==◌, ◌&&◌, ⊤}
use Rattle.std.proofs.lemmas.List.{length-set, length-replicate, get_or-set_same, get_or-set_other, get_or-replicate}
use Rattle.std.proofs.lemmas.Bool.Decides.{eqb_tells}
use Rattle.std.proofs.lemmas.Grind.{reverse_onto}
use Rattle.mn_base.proofs.Bools.{same_numbers}
use Rattle.mn_base.specs.declared.numbers.NodeNo.{NodeNo}
use Rattle.mn_bindings.specs.declared.event.LibEvent.{LibEvent}
use Rattle.mn_bindings.specs.declared.event.LibEvent.TheVariants.{Opened, Closed, Map, Withdraw, Released, Next}
use Rattle.mn_bindings.specs.Bindings.{Bindings, nodes, nothing_heard, row_of, with_label, after_event, after_events, EventFits, EventsFit}
use Rattle.mn_bindings.specs.History.{said_last, hop_last, cell, IsLast, AreJoined}

-- what is kept after these events, the newest of which stands first
abbrev after_all : Bindings → List LibEvent → Bindings
after_all b [] = b
after_all b (e ∷ es) = after_event (after_all b es) e

abbrev AllFit : Bindings → List LibEvent → Type 0
AllFit b [] = ⊤
AllFit b (e ∷ es) = EventFits (after_all b es) e × AllFit b es

get_or-set_cond : {A : Type 0} (xs : List A) (k h : ℕ) (x d : A) → k < length xs → get_or (set xs k x) h d ≡ cond (k == h) x (get_or xs h d)
get_or-set_cond xs k h x d l =
    elim (eqb_tells k h) [
      | inl r ↦ ap (λ z. get_or (set xs k x) z d) (sym r.1) ∙ get_or-set_same xs k x d l ∙ sym (ap (λ b. cond b x (get_or xs h d)) r.0)
      | inr r ↦ get_or-set_other xs k h x d (λ e. r.1 (sym e)) ∙ sym (ap (λ b. cond b x (get_or xs h d)) r.0)
    ]

abbrev RowFits : ℕ → Option (List (Option ℕ)) → Type 0
RowFits n None = ⊤
RowFits n (Some row) = length row ≡ n

record HasShape (n : ℕ) (b : Bindings) : Type 0 where
  pub hops : length b.hops ≡ n
  pub heard : length b.heard ≡ n
  pub rows : (h : ℕ) → RowFits n (row_of b h)

fits_cond : (n : ℕ) (b : Bool) (x y : Option (List (Option ℕ))) → RowFits n x → RowFits n y → RowFits n (cond b x y)
fits_cond n true x y f g = f
fits_cond n false x y f g = g

fits-label : (n : ℕ) (r : Option (List (Option ℕ))) (p : ℕ) (l : Option ℕ) → RowFits n r → RowFits n (with_label r p l)
fits-label n None p l f = tt
fits-label n (Some row) p l f = length-set row p l ∙ f

none-row : (m h : ℕ) → get_or (replicate m None) h None ≡ (let r : Option (List (Option ℕ)) = None in r)
none-row zero h = refl
none-row (suc m) zero = refl
none-row (suc m) (suc h) = none-row m h

none-hop : (m h : ℕ) → get_or (replicate m None) h None ≡ (let r : Option NodeNo = None in r)
none-hop zero h = refl
none-hop (suc m) zero = refl
none-hop (suc m) (suc h) = none-hop m h

fits-none : (n m h : ℕ) → RowFits n (get_or (replicate m None) h None)
fits-none n m h = subst (λ r. RowFits n r) (sym (none-row m h)) tt

-- rows after one of them is written
rows-set : (n : ℕ) (b : Bindings) (k : ℕ) (x : Option (List (Option ℕ))) → HasShape n b → k < n → RowFits n x →
    (h : ℕ) → RowFits n (get_or (set b.heard k x) h None)
rows-set n b k x s l f h =
    subst (λ r. RowFits n r) (sym (get_or-set_cond b.heard k h x None (omega (arith, s.heard, l)))) (fits_cond n (k == h) x (row_of b h) f (s.rows h))

shape-event : (n : ℕ) (b : Bindings) (e : LibEvent) → HasShape n b → EventFits b e → HasShape n (after_event b e)
shape-event n b (Opened k) s f =
    record {
      hops = s.hops;
      heard = length-set b.heard k.0 _ ∙ s.heard;
      rows =
          rows-set n b k.0 (Some (replicate (nodes b) None)) s (omega (arith, f.0, s.hops)) (length-replicate (nodes b) None ∙ s.hops);
    }
shape-event n b (Closed k) s f =
    record { hops = s.hops; heard = length-set b.heard k.0 _ ∙ s.heard; rows = rows-set n b k.0 None s (omega (arith, f.0, s.hops)) tt }
shape-event n b (Map k q l) s f =
    record {
      hops = s.hops;
      heard = length-set b.heard k.0 _ ∙ s.heard;
      rows =
          rows-set n b k.0 (with_label (row_of b k.0) q.0 (Some l)) s (omega (arith, f.0, s.hops)) (fits-label n (row_of b k.0) q.0 (Some l) (s.rows k.0));
    }
shape-event n b (Withdraw k q) s f =
    record {
      hops = s.hops;
      heard = length-set b.heard k.0 _ ∙ s.heard;
      rows =
          rows-set n b k.0 (with_label (row_of b k.0) q.0 None) s (omega (arith, f.0, s.hops)) (fits-label n (row_of b k.0) q.0 None (s.rows k.0));
    }
shape-event n b (Released k q) s f = s
shape-event n b (Next q k) s f = record { hops = length-set b.hops q.0 k ∙ s.hops; heard = s.heard; rows = s.rows }

shape-all : (me : NodeNo) (n : ℕ) (es : List LibEvent) → AllFit (nothing_heard me n) es → HasShape n (after_all (nothing_heard me n) es)
shape-all me n [] f = record { hops = length-replicate n None; heard = length-replicate n None; rows = fits-none n n }
shape-all me n (e ∷ es) f = shape-event n (after_all (nothing_heard me n) es) e (shape-all me n es f.1) f.0

-- a cell of a row that was written
cell_cond : (b : Bool) (x y : Option (List (Option ℕ))) (p : ℕ) → cell (cond b x y) p ≡ cond b (cell x p) (cell y p)
cell_cond true x y p = refl
cell_cond false x y p = refl

cell-label : (n : ℕ) (r : Option (List (Option ℕ))) (q p : ℕ) (l : Option ℕ) → RowFits n r → is_some r ≡ true → q < n →
    cell (with_label r q l) p ≡ cond (q == p) (Some l) (cell r p)
cell-label n None q p l f i h = cc
cell-label n (Some row) q p l f i h =
    ap (λ x. let o : Option (Option ℕ) = Some x in o) (get_or-set_cond row q p l None (omega (arith, f, h))) ∙ some_cond (q == p) l (get_or row p None)
  where
    some_cond : (b : Bool) (x y : Option ℕ) → (let o : Option (Option ℕ) = Some (cond b x y) in o) ≡ cond b (Some x) (Some y)
    some_cond true x y = refl
    some_cond false x y = refl

and_cond : {A : Type 0} (b c : Bool) (x y z : A) → (b ≡ true → z ≡ y) → cond b (cond c x z) y ≡ cond (b && c) x y
and_cond true c x y z h = ap (cond c x) (h refl)
and_cond false c x y z h = refl

cell-open : (n p : ℕ) → p < n → cell (Some (replicate n None)) p ≡ Some None
cell-open n p h = ap (λ x. let o : Option (Option ℕ) = Some x in o) (get_or-replicate n p None None h)

-- one row is written
row-event : (n : ℕ) (b : Bindings) (k h p : ℕ) (x : Option (List (Option ℕ))) (z : Option (Option ℕ)) → HasShape n b → k < n → cell x p ≡ z →
    cell (get_or (set b.heard k x) h None) p ≡ cond (k == h) z (cell (row_of b h) p)
row-event n b k h p x z s l e =
    ap (λ r. cell r p) (get_or-set_cond b.heard k h x None (omega (arith, s.heard, l))) ∙ cell_cond (k == h) x (row_of b h) p
    ∙ ap (λ y. cond (k == h) y (cell (row_of b h) p)) e

-- one label is written
label-event : (n : ℕ) (b : Bindings) (k q h p : ℕ) (l : Option ℕ) → HasShape n b → k < n → q < n → is_some (row_of b k) ≡ true →
    cell (get_or (set b.heard k (with_label (row_of b k) q l)) h None) p ≡ cond ((k == h) && (q == p)) (Some l) (cell (row_of b h) p)
label-event n b k q h p l s a c o =
    row-event n b k h p (with_label (row_of b k) q l) (cond (q == p) (Some l) (cell (row_of b k) p)) s a (cell-label n (row_of b k) q p l (s.rows k) o c)
    ∙ and_cond (k == h) (q == p) (Some l) (cell (row_of b h) p) (cell (row_of b k) p) (λ e. ap (λ y. cell (row_of b y) p) (same_numbers k h e))

said : (me : NodeNo) (n : ℕ) (es : List LibEvent) → AllFit (nothing_heard me n) es →
    (h p : ℕ) → h < n → p < n → cell (row_of (after_all (nothing_heard me n) es) h) p ≡ said_last h p es
said me n [] f h p i j = ap (λ r. cell r p) (none-row n h)
said me n (Opened k ∷ es) f h p i j =
    let b : Bindings = after_all (nothing_heard me n) es in
    let s : HasShape n b = shape-all me n es f.1 in
    row-event n b k.0 h p (Some (replicate (nodes b) None)) (Some None) s (omega (arith, f.0.0, s.hops)) (cell-open (nodes b) p (omega (arith, s.hops, j)))
    ∙ ap (cond (k.0 == h) (Some None)) (said me n es f.1 h p i j)
said me n (Closed k ∷ es) f h p i j =
    let b : Bindings = after_all (nothing_heard me n) es in
    let s : HasShape n b = shape-all me n es f.1 in
    row-event n b k.0 h p None None s (omega (arith, f.0.0, s.hops)) refl ∙ ap (cond (k.0 == h) None) (said me n es f.1 h p i j)
said me n (Map k q l ∷ es) f h p i j =
    let b : Bindings = after_all (nothing_heard me n) es in
    let s : HasShape n b = shape-all me n es f.1 in
    label-event n b k.0 q.0 h p (Some l) s (omega (arith, f.0.0, s.hops)) (omega (arith, f.0.2, s.hops)) f.0.1
    ∙ ap (cond ((k.0 == h) && (q.0 == p)) (Some (Some l))) (said me n es f.1 h p i j)
said me n (Withdraw k q ∷ es) f h p i j =
    let b : Bindings = after_all (nothing_heard me n) es in
    let s : HasShape n b = shape-all me n es f.1 in
    label-event n b k.0 q.0 h p None s (omega (arith, f.0.0, s.hops)) (omega (arith, f.0.2, s.hops)) f.0.1
    ∙ ap (cond ((k.0 == h) && (q.0 == p)) (Some None)) (said me n es f.1 h p i j)
said me n (Released k q ∷ es) f h p i j = said me n es f.1 h p i j
said me n (Next q k ∷ es) f h p i j = said me n es f.1 h p i j

hop : (me : NodeNo) (n : ℕ) (es : List LibEvent) → AllFit (nothing_heard me n) es →
    (p : ℕ) → p < n → slice_index_or (after_all (nothing_heard me n) es).hops p None ≡ hop_last p es
hop me n [] f p j = none-hop n p
hop me n (Opened k ∷ es) f p j = hop me n es f.1 p j
hop me n (Closed k ∷ es) f p j = hop me n es f.1 p j
hop me n (Map k q l ∷ es) f p j = hop me n es f.1 p j
hop me n (Withdraw k q ∷ es) f p j = hop me n es f.1 p j
hop me n (Released k q ∷ es) f p j = hop me n es f.1 p j
hop me n (Next q k ∷ es) f p j =
    let b : Bindings = after_all (nothing_heard me n) es in
    let s : HasShape n b = shape-all me n es f.1 in
    get_or-set_cond b.hops q.0 p k None f.0.0 ∙ ap (cond (q.0 == p) k) (hop me n es f.1 p j)

after_all-first : (b : Bindings) (e : LibEvent) (es : List LibEvent) → after_all b (es ++ e ∷ []) ≡ after_all (after_event b e) es
after_all-first b e [] = refl
after_all-first b e (x ∷ es) = ap (λ c. after_event c x) (after_all-first b e es)

after_all-reverse : (b : Bindings) (es : List LibEvent) → after_all b (reverse es) ≡ after_events b es
after_all-reverse b [] = refl
after_all-reverse b (e ∷ es) = ap (after_all b) (reverse_onto es e []) ∙ after_all-first b e (reverse es) ∙ after_all-reverse (after_event b e) es

fit-first : (b : Bindings) (e : LibEvent) (es : List LibEvent) → EventFits b e → AllFit (after_event b e) es → AllFit b (es ++ e ∷ [])
fit-first b e [] f g = (f, tt)
fit-first b e (x ∷ es) f g = (subst (λ c. EventFits c x) (sym (after_all-first b e es)) g.0, fit-first b e es f g.1)

fit-reverse : (b : Bindings) (es : List LibEvent) → EventsFit b es → AllFit b (reverse es)
fit-reverse b [] f = tt
fit-reverse b (e ∷ es) f = subst (AllFit b) (sym (reverse_onto es e [])) (fit-first b e (reverse es) f.0 (fit-reverse (after_event b e) es f.1))

pub last : (me : NodeNo) (n : ℕ) (es : List LibEvent) → EventsFit (nothing_heard me n) es → IsLast me n es
last me n es f =
    let all : AllFit (nothing_heard me n) (reverse es) = fit-reverse (nothing_heard me n) es f in
    record {
      said = λ h p i j. ap (λ b. cell (row_of b h) p) (sym (after_all-reverse (nothing_heard me n) es)) ∙ said me n (reverse es) all h p i j;
      hop = λ p j. ap (λ b. slice_index_or b.hops p None) (sym (after_all-reverse (nothing_heard me n) es)) ∙ hop me n (reverse es) all p j;
    }

after_events-append : (b : Bindings) (first second : List LibEvent) → after_events b (first ++ second) ≡ after_events (after_events b first) second
after_events-append b [] second = refl
after_events-append b (e ∷ first) second = after_events-append (after_event b e) first second

fit-append : (b : Bindings) (first second : List LibEvent) → EventsFit b first → EventsFit (after_events b first) second → EventsFit b (first ++ second)
fit-append b [] second f g = g
fit-append b (e ∷ first) second f g = (f.0, fit-append (after_event b e) first second f.1 g)

pub joined : (b : Bindings) (first second : List LibEvent) → AreJoined b first second
joined b first second = record { kept = after_events-append b first second; fit = fit-append b first second }
