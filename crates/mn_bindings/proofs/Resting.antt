-- What rests and what is owed, as events are followed and Withdraws are told.
use Rattle.std.proofs.Common.{ℕ, zero, suc, ◌≡◌, ◌+◌, ◌≤◌, ◌<◌, List, [], ◌∷◌, length, drop, take, get_or, set, replicate, refl, arith, sym, ◌∙◌, ap, subst}
use Rattle.std.proofs.Common.{Option, Some, None, length-set, length-append}
use Rattle.std.specs.Prelude.{◌-◌, ◌&&◌, Bool, true, false, not, cond, ◌++◌}
use Rattle.std.specs.List.{All, flat_map}
use Rattle.std.proofs.lemmas.List.{drop_more, take_more, length-replicate}
use Rattle.mn_base.proofs.Bools.{none_below}
use Rattle.mn_releases.specs.Rests.{Resting, row_of, count_in, with_count, withdrawn, stopped}
use Rattle.mn_bindings.specs.declared.event.LibEvent.{LibEvent}
use Rattle.mn_bindings.specs.declared.event.LibEvent.TheVariants.{Opened, Closed, Map, Withdraw, Released, Next}
use Rattle.mn_bindings.specs.declared.event.Tell.{Tell}
use Rattle.mn_bindings.specs.declared.event.TellKind.{TellKind}
use Rattle.mn_bindings.specs.declared.event.TellKind.TheVariants as kind
use Rattle.mn_bindings.specs.Bindings.{Bindings, nodes, offers, after_event, EventFits, EventsFit}
use Rattle.mn_bindings.specs.declared.news.SoFar.{SoFar}
use Rattle.mn_bindings.specs.News.{begun_since, ended_since}
use Rattle.mn_bindings.specs.Known.{rested_event, rested_events, owed_by, owed_for, all_stopped, AreFew, opened_in, RestFits}
use Rattle.mn_bindings.proofs.Events.{nodes-after_event}

-- 1. Lengths

pub event_owed : (tick : ℕ) (r : Resting) (e : LibEvent) → length (rested_event tick r e).owed ≡ length r.owed
event_owed tick r (Opened from) = length-set r.owed from.0 _
event_owed tick r (Closed from) = length-set r.owed from.0 _
event_owed tick r (Map from fec label) = refl
event_owed tick r (Withdraw from fec) = refl
event_owed tick r (Released from fec) = length-set r.owed from.0 _
event_owed tick r (Next fec hop) = refl

pub event_rested : (tick : ℕ) (r : Resting) (e : LibEvent) → length (rested_event tick r e).rested ≡ length r.rested
event_rested tick r (Opened from) = refl
event_rested tick r (Closed from) = length-replicate (length r.rested) tick
event_rested tick r (Map from fec label) = refl
event_rested tick r (Withdraw from fec) = refl
event_rested tick r (Released from fec) = length-set r.rested fec.0 tick
event_rested tick r (Next fec hop) = refl

pub events_owed : (tick : ℕ) (r : Resting) (es : List LibEvent) → length (rested_events tick r es).owed ≡ length r.owed
events_owed tick r [] = refl
events_owed tick r (e ∷ es) = events_owed tick (rested_event tick r e) es ∙ event_owed tick r e

pub events_rested : (tick : ℕ) (r : Resting) (es : List LibEvent) → length (rested_events tick r es).rested ≡ length r.rested
events_rested tick r [] = refl
events_rested tick r (e ∷ es) = events_rested tick (rested_event tick r e) es ∙ event_rested tick r e

by_owed : (k : TellKind) (r : Resting) (to fec : ℕ) → length (owed_by k r to fec).owed ≡ length r.owed
by_owed kind.Map r to fec = refl
by_owed kind.Withdraw r to fec = length-set r.owed to _
by_owed kind.Release r to fec = refl

by_rested : (k : TellKind) (r : Resting) (to fec : ℕ) → (owed_by k r to fec).rested ≡ r.rested
by_rested kind.Map r to fec = refl
by_rested kind.Withdraw r to fec = refl
by_rested kind.Release r to fec = refl

pub owed_for_owed : (r : Resting) (ts : List Tell) → length (owed_for r ts).owed ≡ length r.owed
owed_for_owed r [] = refl
owed_for_owed r (t ∷ ts) = owed_for_owed (owed_by t.kind r t.to.0 t.fec.0) ts ∙ by_owed t.kind r t.to.0 t.fec.0

pub owed_for_rested : (r : Resting) (ts : List Tell) → (owed_for r ts).rested ≡ r.rested
owed_for_rested r [] = refl
owed_for_rested r (t ∷ ts) = owed_for_rested (owed_by t.kind r t.to.0 t.fec.0) ts ∙ by_rested t.kind r t.to.0 t.fec.0

-- 2. Events that fit

pub all_fit : (b : Bindings) (es : List LibEvent) → EventsFit b es → (k : ℕ) (d : LibEvent) → k < length es → RestFits (nodes b) (nodes b) (get_or es k d)
all_fit b [] f k d h = absurd (none_below k h)
all_fit b (e ∷ es) f zero d h = one e f.0
  where
    one : (e : LibEvent) → EventFits b e → RestFits (nodes b) (nodes b) e
    one (Opened from) f = f.0
    one (Closed from) f = f.0
    one (Map from fec label) f = tt
    one (Withdraw from fec) f = tt
    one (Released from fec) f = f.2
    one (Next fec hop) f = tt
all_fit b (e ∷ es) f (suc k) d h =
    subst (λ n. RestFits n n (get_or es k d)) (nodes-after_event b e) (all_fit (after_event b e) es f.1 k d (omega (arith, h)))

-- 3. Few are owed

set_all : {A : Type 0} (P : A → Type 0) (d : A) (xs : List A) (k : ℕ) (x : A) → ((i : ℕ) → P (get_or xs i d)) → P x → (i : ℕ) → P (get_or (set xs k x) i d)
set_all P d [] k x h p i = h i
set_all P d (y ∷ ys) zero x h p zero = p
set_all P d (y ∷ ys) zero x h p (suc i) = h (suc i)
set_all P d (y ∷ ys) (suc k) x h p zero = h zero
set_all P d (y ∷ ys) (suc k) x h p (suc i) = set_all P d ys k x (λ j. h (suc j)) p i

abbrev RowFew : ℕ → Option (List ℕ) → Type 0
RowFew most row = (fec : ℕ) → count_in row fec ≤ most

with_few : (most : ℕ) (row : Option (List ℕ)) (fec count : ℕ) → RowFew most row → count ≤ most → RowFew most (with_count row fec count)
with_few most None fec count h c f = omega arith
with_few most (Some row) fec count h c f = set_all (λ n. n ≤ most) 0 row fec count h c f

zeros_few : (most n fec : ℕ) → get_or (replicate n 0) fec 0 ≤ most
zeros_few most zero fec = omega arith
zeros_few most (suc n) zero = omega arith
zeros_few most (suc n) (suc fec) = zeros_few most n fec

pub event_few : (most tick : ℕ) (r : Resting) (e : LibEvent) → AreFew most r → AreFew most (rested_event tick r e)
event_few most tick r (Opened from) h =
    set_all (RowFew most) None r.owed from.0 (Some (replicate (length r.rested) 0)) h (λ fec. zeros_few most (length r.rested) fec)
event_few most tick r (Closed from) h = set_all (RowFew most) None r.owed from.0 None h (λ fec. omega arith)
event_few most tick r (Map from fec label) h = h
event_few most tick r (Withdraw from fec) h = h
event_few most tick r (Released from fec) h =
    set_all (RowFew most) None r.owed from.0 (with_count (row_of r from.0) fec.0 (count_in (row_of r from.0) fec.0 - 1)) h
    (with_few most (row_of r from.0) fec.0 _ (h from.0) (let q = h from.0 fec.0 in omega (arith, q)))
event_few most tick r (Next fec hop) h = h

pub events_few : (most tick : ℕ) (r : Resting) (es : List LibEvent) → AreFew most r → AreFew most (rested_events tick r es)
events_few most tick r [] h = h
events_few most tick r (e ∷ es) h = events_few most tick (rested_event tick r e) es (event_few most tick r e h)

pub more_few : (most : ℕ) (r : Resting) → AreFew most r → AreFew (most + 1) r
more_few most r h n f = let q = h n f in omega (arith, q)

pub withdrawn_few : (most : ℕ) (r : Resting) (to fec : ℕ) → AreFew most r → AreFew (most + 1) (withdrawn r to fec)
withdrawn_few most r to fec h =
    set_all (RowFew (most + 1)) None r.owed to (with_count (row_of r to) fec (count_in (row_of r to) fec + 1)) (more_few most r h)
    (with_few (most + 1) (row_of r to) fec _ (more_few most r h to) (let q = h to fec in omega (arith, q)))

-- 4. Loops

pub opened_first : (e : LibEvent) (es : List LibEvent) → opened_in (e ∷ es) ≡ opened_in (e ∷ []) + opened_in es
opened_first (Opened from) es = omega arith
opened_first (Closed from) es = omega arith
opened_first (Map from fec label) es = omega arith
opened_first (Withdraw from fec) es = omega arith
opened_first (Released from fec) es = omega arith
opened_first (Next fec hop) es = omega arith

pub one_more_followed : (tick : ℕ) (old new end : Resting) (es : List LibEvent) (i : ℕ) (d : LibEvent) → i < length es →
    rested_events tick old (drop i es) ≡ end → new ≡ rested_event tick old (get_or es i d) → rested_events tick new (drop (i + 1) es) ≡ end
one_more_followed tick old new end es i d h rest e =
    ap (λ r. rested_events tick r (drop (i + 1) es)) e ∙ sym (ap (rested_events tick old) (drop_more es i d h)) ∙ rest

pub enough_left : (es : List LibEvent) (i : ℕ) (d : LibEvent) (m n : ℕ) → i < length es → opened_in (drop i es) ≤ n → m + opened_in (get_or es i d ∷ []) ≡ n →
    opened_in (drop (i + 1) es) ≤ m
enough_left es i d m n h o e =
    let q = ap opened_in (drop_more es i d h) ∙ opened_first (get_or es i d) (drop (i + 1) es) in
    omega (arith, q, o, e)

pub enough_now : (es : List LibEvent) (i : ℕ) (d : LibEvent) (n : ℕ) → i < length es → opened_in (drop i es) ≤ n → opened_in (get_or es i d ∷ []) ≤ n
enough_now es i d n h o =
    let q = ap opened_in (drop_more es i d h) ∙ opened_first (get_or es i d) (drop (i + 1) es) in
    omega (arith, q, o)

pub one_more_owed : (old new end : Resting) (ts : List Tell) (i : ℕ) (d : Tell) → i < length ts →
    owed_for old (drop i ts) ≡ end → new ≡ owed_by (get_or ts i d).kind old (get_or ts i d).to.0 (get_or ts i d).fec.0 → owed_for new (drop (i + 1) ts) ≡ end
one_more_owed old new end ts i d h rest e =
    ap (λ r. owed_for r (drop (i + 1) ts)) e ∙ sym (ap (owed_for old) (drop_more ts i d h)) ∙ rest

pub fits_still : (es : List LibEvent) (i : ℕ) (d : LibEvent) (a b m n : ℕ) → i < length es → All (RestFits a b) es → m ≡ a → n ≡ b →
    RestFits m n (get_or es i d)
fits_still es i d a b m n h all e f =
    subst (λ k. RestFits k n (get_or es i d)) (sym e) (subst (λ k. RestFits a k (get_or es i d)) (sym f) (all i d h))

by_few : (most : ℕ) (k : TellKind) (r : Resting) (to fec : ℕ) → AreFew most r → AreFew (most + 1) (owed_by k r to fec)
by_few most kind.Map r to fec h = more_few most r h
by_few most kind.Withdraw r to fec h = withdrawn_few most r to fec h
by_few most kind.Release r to fec h = more_few most r h

pub few_still : (most i : ℕ) (old new : Resting) (k : TellKind) (to fec : ℕ) → AreFew (most + i) old → new ≡ owed_by k old to fec → AreFew (most + (i + 1)) new
few_still most i old new k to fec h e =
    subst (λ r. AreFew (most + (i + 1)) r) (sym e) (subst (λ n. AreFew n (owed_by k old to fec)) along (by_few (most + i) k old to fec h))
  where
    along : most + i + 1 ≡ most + (i + 1)
    along = omega arith

pub few_below : (a m i n : ℕ) → a ≤ m + i → i < n → m + n ≤ 18446744073709551615 → a < 18446744073709551615
few_below a m i n h g l = omega (arith, h, g, l)

pub all_push : {A : Type 0} (xs : List A) (x v : A) → All (λ r. r ≡ v) xs → x ≡ v → (k : ℕ) (d : A) → k < length (xs ++ x ∷ []) → get_or (xs ++ x ∷ []) k d ≡ v
all_push [] x v h e zero d l = e
all_push [] x v h e (suc k) d l = absurd (omega (arith, l))
all_push (y ∷ ys) x v h e zero d l = h zero d (omega arith)
all_push (y ∷ ys) x v h e (suc k) d l = all_push ys x v (λ n c m. h (suc n) c (omega (arith, m))) e k d (omega (arith, l))

pub opened_more : (es : List LibEvent) (i : ℕ) (d : LibEvent) → i < length es →
    opened_in (take (i + 1) es) ≡ opened_in (take i es) + opened_in (get_or es i d ∷ [])
opened_more es i d h = ap opened_in (take_more es i d h) ∙ last (take i es) (get_or es i d)
  where
    last : (xs : List LibEvent) (x : LibEvent) → opened_in (xs ++ x ∷ []) ≡ opened_in xs + opened_in (x ∷ [])
    last [] x = omega arith
    last (y ∷ ys) x =
        let p = opened_first y (ys ++ x ∷ []) in
        let q = opened_first y ys in
        let r = last ys x in
        omega (arith, p, q, r)

all_stopped-append : (tick : ℕ) (r : Resting) (xs ys : List ℕ) → all_stopped tick r (xs ++ ys) ≡ all_stopped tick (all_stopped tick r xs) ys
all_stopped-append tick r [] ys = refl
all_stopped-append tick r (x ∷ xs) ys = all_stopped-append tick (stopped r x tick) xs ys

pub ended_case : (tick : ℕ) (b : Bindings) (one : SoFar) (old new : Resting) (r : Bool) → r ≡ (one.offered && not (offers b one.fec.0)) →
    new ≡ cond r (stopped old one.fec.0 tick) old → new ≡ all_stopped tick old (ended_since b one)
ended_case tick b one old new true e h = h ∙ ap (λ x. all_stopped tick old (cond x (one.fec.0 ∷ []) [])) e
ended_case tick b one old new false e h = h ∙ ap (λ x. all_stopped tick old (cond x (one.fec.0 ∷ []) [])) e

pub begun_case : (b : Bindings) (one : SoFar) (r : Bool) → r ≡ (not one.offered && offers b one.fec.0) → cond r (one.fec.0 ∷ []) [] ≡ begun_since b one
begun_case b one r e = ap (λ x. cond x (one.fec.0 ∷ []) []) e

pub one_more_stopped : (tick : ℕ) (b : Bindings) (old new end : Resting) (before : List SoFar) (i : ℕ) (d : SoFar) → i < length before →
    all_stopped tick old (flat_map (ended_since b) (drop i before)) ≡ end → new ≡ all_stopped tick old (ended_since b (get_or before i d)) →
    all_stopped tick new (flat_map (ended_since b) (drop (i + 1) before)) ≡ end
one_more_stopped tick b old new end before i d h rest e =
    ap (λ r. all_stopped tick r (flat_map (ended_since b) (drop (i + 1) before))) e
    ∙ sym (all_stopped-append tick old (ended_since b (get_or before i d)) (flat_map (ended_since b) (drop (i + 1) before)))
    ∙ sym (ap (λ xs. all_stopped tick old (flat_map (ended_since b) xs)) (drop_more before i d h)) ∙ rest

pub case_rested : (tick : ℕ) (b : Bindings) (one : SoFar) (old new : Resting) → new ≡ all_stopped tick old (ended_since b one) →
    length new.rested ≡ length old.rested
case_rested tick b one old new e = ap (λ (r : Resting). length r.rested) e ∙ by (one.offered && not (offers b one.fec.0))
  where
    by : (x : Bool) → length (all_stopped tick old (cond x (one.fec.0 ∷ []) [])).rested ≡ length old.rested
    by true = length-set old.rested one.fec.0 tick
    by false = refl

pub stopped_owed : (tick : ℕ) (r : Resting) (xs : List ℕ) → (all_stopped tick r xs).owed ≡ r.owed
stopped_owed tick r [] = refl
stopped_owed tick r (x ∷ xs) = stopped_owed tick (stopped r x tick) xs

pub stopped_rested : (tick : ℕ) (r : Resting) (xs : List ℕ) → length (all_stopped tick r xs).rested ≡ length r.rested
stopped_rested tick r [] = refl
stopped_rested tick r (x ∷ xs) = stopped_rested tick (stopped r x tick) xs ∙ length-set r.rested x tick

-- 5. All of a change

pub fit_beside : (b : Bindings) (r : Resting) (es : List LibEvent) → length r.owed ≡ nodes b → length r.rested ≡ nodes b → EventsFit b es →
    All (RestFits (length r.owed) (length r.rested)) es
fit_beside b r es e g f =
    λ k d h. subst (λ n. RestFits n (length r.rested) (get_or es k d)) (sym e)
    (subst (λ n. RestFits (nodes b) n (get_or es k d)) (sym g) (all_fit b es f k d h))

pub pushed_alike : {A : Type 0} (xs ys : List A) (x v : A) → ys ≡ xs ++ x ∷ [] → All (λ r. r ≡ v) xs → x ≡ v → All (λ r. r ≡ v) ys
pushed_alike xs ys x v e all is = subst (λ zs. All (λ r. r ≡ v) zs) (sym e) (all_push xs x v all is)

pub pushed_enough : {A : Type 0} (es : List LibEvent) (i : ℕ) (d : LibEvent) (xs ys : List A) (x : A) → i < length es → ys ≡ xs ++ x ∷ [] →
    opened_in (take i es) ≤ length xs → opened_in (get_or es i d ∷ []) ≡ 1 → opened_in (take (i + 1) es) ≤ length ys
pushed_enough es i d xs ys x h e so is =
    let q = opened_more es i d h in
    let l = ap length e ∙ length-append xs (x ∷ []) in
    omega (arith, q, l, so, is)

pub same_enough : (es : List LibEvent) (i : ℕ) (d : LibEvent) (n : ℕ) → i < length es → opened_in (take i es) ≤ n → opened_in (get_or es i d ∷ []) ≡ 0 →
    opened_in (take (i + 1) es) ≤ n
same_enough es i d n h so is = let q = opened_more es i d h in omega (arith, q, so, is)
