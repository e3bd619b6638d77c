-- Which step made an item: of a journal with one entry more the old items were made when they were, and the new ones by the new step.
use Rattle.std.proofs.Common.{ℕ, suc, ◌≡◌, ◌+◌, ◌<◌, ◌≤◌, inl, inr, Bool, true, false, cond, List, [], ◌∷◌, ◌++◌, map, length, refl, arith, sym, ap, ◌∙◌}
use Rattle.std.proofs.Common.{subst, append_assoc, append-nil, Option, Some, None}
use Rattle.std.specs.Prelude.{nat_lt, find, unwrap_or}
use Rattle.std.proofs.lemmas.List.{length-append, map-append}
use Rattle.mn_base.proofs.Members.{In, in_append}
use Rattle.mn_base.proofs.Bools.{less_is, not_less}
use Rattle.mn_topo.specs.Network.{Network}
use Rattle.mn_topo.specs.declared.steps.JournalEntry.{JournalEntry}
use Rattle.mn_ledger.specs.Ledger.{world_of, packets_of}
use Rattle.mn_ledger.specs.OneMore.{with_packet, made_then}
use Rattle.mn_ledger.specs.Items.{Channel, Load, Item, numbered, made_by}
use Rattle.mn_ledger.proofs.Flows.{length_numbered}
use Rattle.mn_ledger.proofs.More.{goes_on}
use Rattle.mn_frame_laws.specs.Given.{given}
use Rattle.mn_course_laws.specs.Course.{inputs_of}
use Rattle.mn_course_laws.proofs.Going.{packet_at, inputs_more, a_packet_each}
use Rattle.mn_output_laws.specs.Moments.{Moment, moments_of, journal_then, items_made, journal_when, labels_when}
use Rattle.mn_output_laws.proofs.Adding.{at, longer}
use Rattle.mn_output_laws.proofs.Deliveries.{by_last}

-- 1. The first of a longer list that passes a test

found : {A : Type 0} (p : A → Bool) (xs ys : List A) (x : A) → find p xs ≡ Some x → find p (xs ++ ys) ≡ Some x
found p [] ys x h = cc
found p (y ∷ xs) ys x h = by (p y) (λ e. found p xs ys x e) h
  where
    by : (b : Bool) → (find p xs ≡ Some x → find p (xs ++ ys) ≡ Some x) → cond b (Some y) (find p xs) ≡ Some x
        → cond b (Some y) (find p (xs ++ ys)) ≡ Some x
    by true rest e = e
    by false rest e = rest e

not_found : {A : Type 0} (p : A → Bool) (xs ys : List A) → find p xs ≡ None → find p (xs ++ ys) ≡ find p ys
not_found p [] ys h = refl
not_found p (y ∷ xs) ys h = by (p y) (λ e. not_found p xs ys e) h
  where
    by : (b : Bool) → (find p xs ≡ None → find p (xs ++ ys) ≡ find p ys) → cond b (Some y) (find p xs) ≡ None
        → cond b (Some y) (find p (xs ++ ys)) ≡ find p ys
    by true rest e = absurd (let f : Some y ≡ None = e in cc)
    by false rest e = rest e

-- 2. Numbers

in_numbered : (t : Network) (tick n : ℕ) (new : List (Channel × Load)) (item : Item) → In (numbered t tick n new) item →
    (n ≤ item.number) × (item.number < n + length new)
in_numbered t tick n [] item i = absurd i
in_numbered t tick n (m ∷ ms) item i = elim i [
  | inl e ↦ let same : n ≡ item.number = ap (λ (x : Item). x.number) e in (omega (arith, same), omega (arith, same))
  | inr j ↦ let rest = in_numbered t tick (n + 1) ms item j in (omega (arith, rest.0), omega (arith, rest.1))
]

module _ (t : Network) (capture : List (List ℕ)) where
  abbrev made : List JournalEntry → List Item
  made es = made_by t es (inputs_of capture es)

  -- what one entry more makes
  abbrev pub made_by_entry : List JournalEntry → JournalEntry → List (Channel × Load)
  made_by_entry es e = made_then t (world_of t es) (packets_of t es (inputs_of capture es)) e (packet_at capture e.step)

  pub made_more : (es : List JournalEntry) (e : JournalEntry)
      → made_by t (es ++ e ∷ []) (inputs_of capture (es ++ e ∷ [])) ≡ made es ++ numbered t e.tick (length (made es)) (made_by_entry es e)
  made_more es e =
      ap (made_by t (es ++ e ∷ [])) (inputs_more capture es e)
      ∙ (goes_on t es (inputs_of capture es) e (packet_at capture e.step) (a_packet_each capture es)).made

  as_many_more : (es : List JournalEntry) (e : JournalEntry) → items_made t capture (es ++ e ∷ []) ≡ items_made t capture es + length (made_by_entry es e)
  as_many_more es e =
      ap length (made_more es e) ∙ length-append (made es) (numbered t e.tick (length (made es)) (made_by_entry es e))
      ∙ ap (λ n. length (made es) + n) (length_numbered t e.tick (length (made es)) (made_by_entry es e))

  -- each number is below how many items were made
  pub all_below : (es : List JournalEntry) (item : Item) → In (made es) item → item.number < items_made t capture es
  all_below es = by_last (λ js. (item : Item) → In (made js) item → item.number < items_made t capture js) more (λ item i. absurd i) es
    where
      more : (js : List JournalEntry) (e : JournalEntry) → ((item : Item) → In (made js) item → item.number < items_made t capture js) →
          (item : Item) → In (made (js ++ e ∷ [])) item → item.number < items_made t capture (js ++ e ∷ [])
      more js e h item i =
          let new : List Item = numbered t e.tick (length (made js)) (made_by_entry js e) in
          let count = as_many_more js e in
          elim (in_append (made js) new item (subst (λ items. In items item) (made_more js e) i)) [
            | inl old ↦ let below = h item old in omega (arith, below, count)
            | inr fresh ↦ let below = in_numbered t e.tick (length (made js)) (made_by_entry js e) item fresh in omega (arith, below.1, count)
          ]

  -- 3. The step that made an item

  abbrev has_made : ℕ → List JournalEntry → Bool
  has_made number done = nat_lt number (items_made t capture done)

  abbrev journals : List JournalEntry → List (List JournalEntry)
  journals es = map journal_then (moments_of es)

  journals_more : (es : List JournalEntry) (e : JournalEntry) → journals (es ++ e ∷ []) ≡ journals es ++ (es ++ e ∷ []) ∷ []
  journals_more es e = ap (map journal_then) (longer [] es e) ∙ map-append journal_then (moments_of es) (at es e ∷ [])

  -- what was made was made by one of the steps
  is_found : (es : List JournalEntry) (number : ℕ) → number < items_made t capture es
      → (done : List JournalEntry) × (find (has_made number) (journals es) ≡ Some done)
  is_found es number = by_last (λ js. number < items_made t capture js → (done : List JournalEntry) × (find (has_made number) (journals js) ≡ Some done))
      more (λ none. absurd (omega (arith, none))) es
    where
      last : (js : List JournalEntry) (e : JournalEntry) → number < items_made t capture (js ++ e ∷ [])
          → find (has_made number) ((js ++ e ∷ []) ∷ []) ≡ Some (js ++ e ∷ [])
      last js e below = ap (λ b. cond b (Some (js ++ e ∷ [])) None) (less_is number (items_made t capture (js ++ e ∷ [])) below)

      by : (js : List JournalEntry) (e : JournalEntry) → number < items_made t capture (js ++ e ∷ [])
          → (o : Option (List JournalEntry)) → find (has_made number) (journals js) ≡ o
          → (done : List JournalEntry) × (find (has_made number) (journals js ++ (js ++ e ∷ []) ∷ []) ≡ Some done)
      by js e below (Some done) f = (done, found (has_made number) (journals js) ((js ++ e ∷ []) ∷ []) done f)
      by js e below None f = (js ++ e ∷ [], not_found (has_made number) (journals js) ((js ++ e ∷ []) ∷ []) f ∙ last js e below)

      more : (js : List JournalEntry) (e : JournalEntry)
          → (number < items_made t capture js → (done : List JournalEntry) × (find (has_made number) (journals js) ≡ Some done))
          → number < items_made t capture (js ++ e ∷ [])
          → (done : List JournalEntry) × (find (has_made number) (journals (js ++ e ∷ [])) ≡ Some done)
      more js e h below =
          let one = by js e below (find (has_made number) (journals js)) refl in
          (one.0, ap (find (has_made number)) (journals_more js e) ∙ one.1)

  -- what wasn't made was made by none
  none_made : (es : List JournalEntry) (number : ℕ) → items_made t capture es ≤ number → find (has_made number) (journals es) ≡ None
  none_made es number = by_last (λ js. items_made t capture js ≤ number → find (has_made number) (journals js) ≡ None) more (λ few. refl) es
    where
      more : (js : List JournalEntry) (e : JournalEntry) → (items_made t capture js ≤ number → find (has_made number) (journals js) ≡ None)
          → items_made t capture (js ++ e ∷ []) ≤ number → find (has_made number) (journals (js ++ e ∷ [])) ≡ None
      more js e h few =
          let count = as_many_more js e in
          ap (find (has_made number)) (journals_more js e)
          ∙ not_found (has_made number) (journals js) ((js ++ e ∷ []) ∷ []) (h (omega (arith, few, count)))
          ∙ ap (λ b. cond b (Some (js ++ e ∷ [])) None) (not_less number (items_made t capture (js ++ e ∷ [])) few)

  pub made_before : (es : List JournalEntry) (e : JournalEntry) (number : ℕ) → number < items_made t capture es
      → labels_when t capture es number ≡ labels_when t capture (es ++ e ∷ []) number
  made_before es e number below =
      let one = is_found es number below in
      ap (given t)
      (ap (λ o. unwrap_or o es) one.1
      ∙ sym (ap (λ o. unwrap_or o (es ++ e ∷ []))
      (ap (find (has_made number)) (journals_more es e) ∙ found (has_made number) (journals es) ((es ++ e ∷ []) ∷ []) one.0 one.1)))

  pub made_now : (es : List JournalEntry) (e : JournalEntry) (number : ℕ) → items_made t capture es ≤ number
      → number < items_made t capture (es ++ e ∷ []) → labels_when t capture (es ++ e ∷ []) number ≡ given t (es ++ e ∷ [])
  made_now es e number past below =
      ap (λ o. given t (unwrap_or o (es ++ e ∷ [])))
      (ap (find (has_made number)) (journals_more es e) ∙ not_found (has_made number) (journals es) ((es ++ e ∷ []) ∷ []) (none_made es number past)
      ∙ ap (λ b. cond b (Some (es ++ e ∷ [])) None) (less_is number (items_made t capture (es ++ e ∷ [])) below))

  -- 4. Of a journal with one entry more

  pub old_labels : (es : List JournalEntry) (e : JournalEntry) (item : Item) → In (made es) item
      → labels_when t capture es item.number ≡ labels_when t capture (es ++ e ∷ []) item.number
  old_labels es e item i = made_before es e item.number (all_below es item i)

  pub new_labels : (es : List JournalEntry) (e : JournalEntry) (item : Item) → In (numbered t e.tick (length (made es)) (made_by_entry es e)) item
      → labels_when t capture (es ++ e ∷ []) item.number ≡ given t (es ++ e ∷ [])
  new_labels es e item i =
      let count = as_many_more es e in
      let number = in_numbered t e.tick (length (made es)) (made_by_entry es e) item i in
      made_now es e item.number number.0 (omega (arith, number.1, count))
