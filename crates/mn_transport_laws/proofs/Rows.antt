-- What becomes of the row of one neighbour, and of the ticks since when FECs rest, as messages are sent.
use Rattle.std.proofs.Common.{ℕ, zero, suc, ◌≡◌, ◌≢◌, ◌+◌, ◌<◌, inl, inr, Bool, true, false, cond, List, [], ◌∷◌, length, refl, arith, sym, ◌∙◌, ap, subst}
use Rattle.std.proofs.Common.{Option, Some, None, length-set}
use Rattle.std.specs.Prelude.{◌==◌, ◌&&◌, slice_index_or, slice_set, map, filter, ⊤}
use Rattle.std.proofs.lemmas.Bool.Decides.{eqb_tells, leb_tells}
use Rattle.std.proofs.lemmas.List.{get_or-set_same, get_or-set_other, get_or_past}
use Rattle.mn_base.proofs.Bools.{same_test}
use Rattle.mn_base.proofs.Members.{In}
use Rattle.mn_wiring.specs.Wiring.{Wiring, is_end, across}
use Rattle.mn_releases.specs.Rests.{Resting, row_of, count_in, with_count, withdrawn, stopped}
use Rattle.mn_bindings.specs.Known.{all_stopped}
use Rattle.mn_node.specs.Ldp.{Message, Initialization, KeepAlive, Address, Mapping, Withdraw, Release, Said, is_by, messages_of}
use Rattle.mn_lsr.specs.Turns.{owed_for_message, owed_for_said}
use Rattle.mn_reuse_laws.specs.Answers.{count_by, is_withdraw}

-- 1. Rows

-- by FEC so many more
pub record IsMore (before after : List ℕ) (more : ℕ → ℕ) : Type 0 where
  pub each : length after ≡ length before
  pub counts : (fec : ℕ) → fec < length before → slice_index_or after fec 0 ≡ slice_index_or before fec 0 + more fec

abbrev pub HasMore : Option (List ℕ) → List ℕ → (ℕ → ℕ) → Type 0
HasMore row before more = (after : List ℕ) × (row ≡ Some after) × IsMore before after more

within : (rows : List (Option (List ℕ))) (k : ℕ) (row : List ℕ) → slice_index_or rows k None ≡ Some row → k < length rows
within rows k row e = elim (leb_tells (length rows) k) [ inl p ↦ absurd (none_some (sym (get_or_past rows k None p.1) ∙ e)) | inr p ↦ p.1 ]
  where
    none_some : (let o : Option (List ℕ) = None in o) ≡ Some row → ⊥
    none_some q = cc

pub row-here : (r : Resting) (far fec : ℕ) (row : List ℕ) → row_of r far ≡ Some row →
    row_of (withdrawn r far fec) far ≡ Some (slice_set row fec (slice_index_or row fec 0 + 1))
row-here r far fec row e =
    get_or-set_same r.owed far (with_count (row_of r far) fec (count_in (row_of r far) fec + 1)) None (within r.owed far row e)
    ∙ ap (λ o. with_count o fec (count_in o fec + 1)) e

set-more : (row : List ℕ) (g : ℕ) → IsMore row (slice_set row g (slice_index_or row g 0 + 1)) (λ fec. cond (fec == g) 1 0)
set-more row g = record {
  each = length-set row g _;
  counts = λ fec below. elim (eqb_tells fec g) [
    | inl p ↦ ap (λ k. slice_index_or (slice_set row g (slice_index_or row g 0 + 1)) k 0) p.1
        ∙ get_or-set_same row g (slice_index_or row g 0 + 1) 0 (subst (λ k. k < length row) p.1 below)
        ∙ ap (λ k. slice_index_or row k 0 + 1) (sym p.1) ∙ sym (ap (λ b. slice_index_or row fec 0 + cond b 1 0) p.0)
    | inr p ↦ get_or-set_other row g fec _ 0 p.1 ∙ plus (slice_index_or row fec 0) ∙ sym (ap (λ b. slice_index_or row fec 0 + cond b 1 0) p.0)
  ];
}
  where
    plus : (n : ℕ) → n ≡ n + 0
    plus n = omega arith

no-more : (row : List ℕ) → IsMore row row (λ fec. 0)
no-more row = record { each = refl; counts = λ fec below. omega arith }

-- a message that is sent to the neighbour
said-here : (r : Resting) (far : ℕ) (row : List ℕ) (m : Message) → row_of r far ≡ Some row →
    HasMore (row_of (owed_for_message m far r) far) row (λ fec. count_by (is_withdraw fec) (m ∷ []))
said-here r far row (Withdraw g) e =
    let more = set-more row g in (
      slice_set row g (slice_index_or row g 0 + 1),
      row-here r far g row e,
      record {
        each = more.each;
        counts = λ fec below. more.counts fec below ∙ ap (λ n. slice_index_or row fec 0 + n) (one (fec == g) (Withdraw g));
      },
    )
  where
    one : (b : Bool) (m : Message) → cond b 1 0 ≡ length (cond b (m ∷ []) [])
    one true m = refl
    one false m = refl
said-here r far row Initialization e = (row, e, no-more row)
said-here r far row KeepAlive e = (row, e, no-more row)
said-here r far row Address e = (row, e, no-more row)
said-here r far row (Mapping fec) e = (row, e, no-more row)
said-here r far row (Release fec) e = (row, e, no-more row)

-- and one that is sent to another
said-off : (r : Resting) (to far : ℕ) (m : Message) → far ≢ to → row_of (owed_for_message m to r) far ≡ row_of r far
said-off r to far (Withdraw g) d = get_or-set_other r.owed to far _ None d
said-off r to far Initialization d = refl
said-off r to far KeepAlive d = refl
said-off r to far Address d = refl
said-off r to far (Mapping fec) d = refl
said-off r to far (Release fec) d = refl

-- 2. All that is sent

-- the link's other end is the neighbour, and no other link of the node leads there
pub record LeadsAlone (w : Wiring) (me l far : ℕ) : Type 0 where
  pub there : across w l me ≡ far
  pub alone : (k : ℕ) → k < length w.ends → is_end w k me ≡ true → across w k me ≡ far → k ≡ l

-- said by the node, on a link of its
abbrev pub IsSaidBy : Wiring → ℕ → Said → Type 0
IsSaidBy w me x = (x.end ≡ me) × (x.link < length w.ends) × (is_end w x.link me ≡ true)

abbrev pub AllSaidBy : Wiring → ℕ → List Said → Type 0
AllSaidBy w me [] = ⊤
AllSaidBy w me (x ∷ xs) = IsSaidBy w me x × AllSaidBy w me xs

messages-here : (l me : ℕ) (x : Said) (xs : List Said) → is_by l me x ≡ true → messages_of l me (x ∷ xs) ≡ x.message ∷ messages_of l me xs
messages-here l me x xs e = ap (λ b. map (λ (said : Said). said.message) (cond b (x ∷ filter (is_by l me) xs) (filter (is_by l me) xs))) e

messages-off : (l me : ℕ) (x : Said) (xs : List Said) → is_by l me x ≡ false → messages_of l me (x ∷ xs) ≡ messages_of l me xs
messages-off l me x xs e = ap (λ b. map (λ (said : Said). said.message) (cond b (x ∷ filter (is_by l me) xs) (filter (is_by l me) xs))) e

count-first : (q : Message → Bool) (m : Message) (ms : List Message) → count_by q (m ∷ ms) ≡ count_by q (m ∷ []) + count_by q ms
count-first q m ms = by (q m)
  where
    by : (b : Bool) → length (cond b (m ∷ filter q ms) (filter q ms)) ≡ length (cond b (m ∷ []) []) + count_by q ms
    by true = omega arith
    by false = omega arith

both : (before middle after : List ℕ) (f g h : ℕ → ℕ) → IsMore before middle f → IsMore middle after g → ((fec : ℕ) → h fec ≡ f fec + g fec) →
    IsMore before after h
both before middle after f g h one two sum = record {
  each = two.each ∙ one.each;
  counts = λ fec below.
      let a = one.counts fec below in
      let b = two.counts fec (subst (λ n. fec < n) (sym one.each) below) in
      let c = sum fec in
      omega (arith, a, b, c);
}

-- the neighbour owes one Release more for each Withdraw that is sent on its link
pub owed-more : (w : Wiring) (me l far : ℕ) → LeadsAlone w me l far → (xs : List Said) → AllSaidBy w me xs → (r : Resting) (row : List ℕ) →
    row_of r far ≡ Some row → HasMore (row_of (owed_for_said w me r xs) far) row (λ fec. count_by (is_withdraw fec) (messages_of l me xs))
owed-more w me l far leads [] all r row e = (row, e, no-more row)
owed-more w me l far leads (x ∷ xs) all r row e = elim (eqb_tells x.link l) [
  | inl p ↦
      let to : across w x.link me ≡ far = ap (λ k. across w k me) p.1 ∙ leads.there in
      let one : HasMore (row_of (owed_for_message x.message (across w x.link me) r) far) row (λ fec. count_by (is_withdraw fec) (x.message ∷ [])) =
      subst (λ k. HasMore (row_of (owed_for_message x.message k r) far) row (λ fec. count_by (is_withdraw fec) (x.message ∷ []))) (sym to)
      (said-here r far row x.message e) in
      let rest = owed-more w me l far leads xs all.1 (owed_for_message x.message (across w x.link me) r) one.0 one.1 in (
        rest.0,
        rest.1,
        both row one.0 rest.0 _ _ _ one.2 rest.2
            (λ fec. ap (count_by (is_withdraw fec)) (messages-here l me x xs (ap (λ b. b && (x.end == me)) p.0 ∙ ap (λ m. m == me) all.0.0 ∙ same_test me))
            ∙ count-first (is_withdraw fec) x.message (messages_of l me xs)),
      )
  | inr p ↦
      let apart : far ≢ across w x.link me = (λ q. p.1 (leads.alone x.link all.0.1 all.0.2 (sym q))) in
      let rest = owed-more w me l far leads xs all.1 (owed_for_message x.message (across w x.link me) r) row
      (said-off r (across w x.link me) far x.message apart ∙ e) in (
        rest.0,
        rest.1,
        record {
          each = rest.2.each;
          counts = λ fec below. rest.2.counts fec below
              ∙ ap (λ ms. slice_index_or row fec 0 + count_by (is_withdraw fec) ms) (sym (messages-off l me x xs (ap (λ b. b && (x.end == me)) p.0)));
        },
      )
]

-- where there is no row there is none then
none-more : (rows : List (Option (List ℕ))) (k : ℕ) → slice_index_or rows k None ≡ None → (x : Option (List ℕ)) → x ≡ None →
    slice_index_or (slice_set rows k x) k None ≡ None
none-more [] k e x f = refl
none-more (row ∷ rows) zero e x f = f
none-more (row ∷ rows) (suc k) e x f = none-more rows k e x f

none-said : (r : Resting) (to far : ℕ) (m : Message) → row_of r far ≡ None → row_of (owed_for_message m to r) far ≡ None
none-said r to far (Withdraw g) e = elim (eqb_tells far to) [
  | inl p ↦ ap (row_of (withdrawn r to g)) p.1
      ∙ none-more r.owed to (ap (row_of r) (sym p.1) ∙ e) _ (ap (λ o. with_count o g (count_in o g + 1)) (ap (row_of r) (sym p.1) ∙ e))
  | inr p ↦ get_or-set_other r.owed to far _ None p.1 ∙ e
]
none-said r to far Initialization e = e
none-said r to far KeepAlive e = e
none-said r to far Address e = e
none-said r to far (Mapping fec) e = e
none-said r to far (Release fec) e = e

pub owed-none : (w : Wiring) (me far : ℕ) (xs : List Said) (r : Resting) → row_of r far ≡ None → row_of (owed_for_said w me r xs) far ≡ None
owed-none w me far [] r e = e
owed-none w me far (x ∷ xs) r e =
    owed-none w me far xs (owed_for_message x.message (across w x.link me) r) (none-said r (across w x.link me) far x.message e)

-- what is sent changes nothing else
said-length : (r : Resting) (to : ℕ) (m : Message) → length (owed_for_message m to r).owed ≡ length r.owed
said-length r to (Withdraw g) = length-set r.owed to _
said-length r to Initialization = refl
said-length r to KeepAlive = refl
said-length r to Address = refl
said-length r to (Mapping fec) = refl
said-length r to (Release fec) = refl

said-rested : (r : Resting) (to : ℕ) (m : Message) → ((owed_for_message m to r).rested ≡ r.rested) × ((owed_for_message m to r).life ≡ r.life)
said-rested r to (Withdraw g) = (refl, refl)
said-rested r to Initialization = (refl, refl)
said-rested r to KeepAlive = (refl, refl)
said-rested r to Address = (refl, refl)
said-rested r to (Mapping fec) = (refl, refl)
said-rested r to (Release fec) = (refl, refl)

pub owed-length : (w : Wiring) (me : ℕ) (xs : List Said) (r : Resting) → length (owed_for_said w me r xs).owed ≡ length r.owed
owed-length w me [] r = refl
owed-length w me (x ∷ xs) r =
    owed-length w me xs (owed_for_message x.message (across w x.link me) r) ∙ said-length r (across w x.link me) x.message

pub owed-rested : (w : Wiring) (me : ℕ) (xs : List Said) (r : Resting) →
    ((owed_for_said w me r xs).rested ≡ r.rested) × ((owed_for_said w me r xs).life ≡ r.life)
owed-rested w me [] r = (refl, refl)
owed-rested w me (x ∷ xs) r =
    let rest = owed-rested w me xs (owed_for_message x.message (across w x.link me) r) in
    let one = said-rested r (across w x.link me) x.message in
    (rest.0 ∙ one.0, rest.1 ∙ one.1)

-- 3. FECs that cease to be offered

pub stopped-owed : (tick : ℕ) (fecs : List ℕ) (r : Resting) → ((all_stopped tick r fecs).owed ≡ r.owed) × ((all_stopped tick r fecs).life ≡ r.life)
    × (length (all_stopped tick r fecs).rested ≡ length r.rested)
stopped-owed tick [] r = (refl, refl, refl)
stopped-owed tick (fec ∷ fecs) r =
    let rest = stopped-owed tick fecs (stopped r fec tick) in (rest.0, rest.1, rest.2 ∙ length-set r.rested fec tick)

-- one that doesn't keeps its tick
pub stopped-off : (tick : ℕ) (fecs : List ℕ) (r : Resting) (p : ℕ) → (In fecs p → ⊥) →
    slice_index_or (all_stopped tick r fecs).rested p 0 ≡ slice_index_or r.rested p 0
stopped-off tick [] r p out = refl
stopped-off tick (fec ∷ fecs) r p out =
    stopped-off tick fecs (stopped r fec tick) p (λ i. out (inr i)) ∙ get_or-set_other r.rested fec p tick 0 (λ e. out (inl (sym e)))

-- one that has this tick keeps it
stopped-has : (tick : ℕ) (fecs : List ℕ) (r : Resting) (p : ℕ) → p < length r.rested → slice_index_or r.rested p 0 ≡ tick →
    slice_index_or (all_stopped tick r fecs).rested p 0 ≡ tick
stopped-has tick [] r p below e = e
stopped-has tick (fec ∷ fecs) r p below e =
    stopped-has tick fecs (stopped r fec tick) p (subst (λ n. p < n) (sym (length-set r.rested fec tick)) below) (elim (eqb_tells p fec) [
      | inl q ↦ ap (λ k. slice_index_or (slice_set r.rested fec tick) k 0) q.1
          ∙ get_or-set_same r.rested fec tick 0 (subst (λ k. k < length r.rested) q.1 below)
      | inr q ↦ get_or-set_other r.rested fec p tick 0 q.1 ∙ e
    ])

-- one that does has this one
pub stopped-on : (tick : ℕ) (fecs : List ℕ) (r : Resting) (p : ℕ) → p < length r.rested → In fecs p → slice_index_or (all_stopped tick r fecs).rested p 0 ≡ tick
stopped-on tick [] r p below i = absurd i
stopped-on tick (fec ∷ fecs) r p below i = elim i [
  | inl e ↦ stopped-has tick fecs (stopped r fec tick) p (subst (λ n. p < n) (sym (length-set r.rested fec tick)) below)
      (ap (λ k. slice_index_or (slice_set r.rested k tick) p 0) e ∙ get_or-set_same r.rested p tick 0 below)
  | inr j ↦ stopped-on tick fecs (stopped r fec tick) p (subst (λ n. p < n) (sym (length-set r.rested fec tick)) below) j
]
