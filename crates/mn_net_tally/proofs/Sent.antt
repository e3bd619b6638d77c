-- A journal with one entry more, by the frames among what its last step made.
use Rattle.std.proofs.Common.{ℕ, zero, suc, ◌≡◌, ◌+◌, ◌<◌, ◌≤◌, ◌⊎◌, inl, inr, Bool, true, false, cond, List, [], ◌∷◌, ◌++◌, length, map, filter, refl}
use Rattle.std.proofs.Common.{arith, sym, ap, ◌∙◌, subst, append-nil, Some}
use Rattle.std.specs.Prelude.{◌==◌, nat_le, slice_get, slice_index_or, if◌then◌else◌}
use Rattle.std.proofs.lemmas.List.{map-append, length-append}
use Rattle.std.proofs.lemmas.List.Elements.{filter-append}
use Rattle.mn_wiring.specs.Wiring.{link}
use Rattle.mn_wiring.specs.declared.links.Dir.{Dir}
use Rattle.mn_base.proofs.Bools.{at_most_is, not_at_most, none_below, test_same}
use Rattle.mn_base.proofs.Members.{In, contained_in, in_append, in_filter}
use Rattle.mn_base.proofs.Rules.{some_is, none_is}
use Rattle.mn_topo.specs.Lawful.{IsLawful}
use Rattle.mn_topo.specs.Network.{Network, wiring_of}
use Rattle.mn_topo.specs.declared.steps.Step.{Step}
use Rattle.mn_topo.specs.declared.steps.JournalEntry.{JournalEntry}
use Rattle.mn_ledger.specs.Lawful.{IsLawfulJournal}
use Rattle.mn_ledger.specs.Verdicts.{injections}
use Rattle.mn_ledger.specs.Packets.{channel}
use Rattle.mn_ledger.specs.Items.{Channel, Notices, Messages, Routes, Frames, Load, Item, same_channel, items_on, numbered, made_by}
use Rattle.mn_ledger.specs.OneMore.{with_packet}
use Rattle.mn_ledger.proofs.Flows.{in_flight}
use Rattle.mn_ledger.proofs.More.{goes_on}
use Rattle.mn_ledger_laws.specs.Flight.{is_frame}
use Rattle.mn_ledger_laws.specs.Ids.{frames_sent, frame_number}
use Rattle.mn_course_laws.specs.Coming.{is_each, is_lost}
use Rattle.mn_timetable_laws.specs.Keys.{Key, keys_on, of_frames, with_key}
use Rattle.mn_timetable_laws.specs.Steps.{pushed}
use Rattle.mn_ledger.proofs.Directions.{one_channel}
use Rattle.mn_net_parts_laws.specs.Stepped.{entry_of, made_now}
use Rattle.mn_net_tally.specs.Tallies.{lost_numbers}
use Rattle.mn_ledger.proofs.OneKind.{none_left as filter_no}

-- 1. Lists

filter_same : {A : Type 0} (p q : A → Bool) (xs : List A) → ((x : A) → In xs x → p x ≡ q x) → filter p xs ≡ filter q xs
filter_same p q [] h = refl
filter_same p q (x ∷ xs) h =
    ap (λ b. cond b (x ∷ filter p xs) (filter p xs)) (h x (inl refl)) ∙ ap (λ ys. cond (q x) (x ∷ ys) ys) (filter_same p q xs (λ y i. h y (inr i)))

filter_each : {A : Type 0} (p : A → Bool) (xs : List A) → ((x : A) → In xs x → p x ≡ true) → filter p xs ≡ xs
filter_each p [] h = refl
filter_each p (x ∷ xs) h = ap (λ b. cond b (x ∷ filter p xs) (filter p xs)) (h x (inl refl)) ∙ ap (λ ys. x ∷ ys) (filter_each p xs (λ y i. h y (inr i)))

pub get_of : (xs : List Item) (k : ℕ) (y : Item) → k < length xs → slice_index_or xs k y ≡ y → slice_get xs k ≡ Some y
get_of [] k y h e = absurd (none_below k h)
get_of (z ∷ zs) zero y h e = ap Some e
get_of (z ∷ zs) (suc k) y h e = get_of zs k y (omega (arith, h)) e

-- 2. The frames among some items

-- the test passes frames alone
abbrev pub ForFrames : (Item → Bool) → Type 0
ForFrames p = (x : Item) → is_frame x.on ≡ false → p x ≡ false

pub record NoneSent (xs : List Item) : Type 0 where
  pub on : (l : ℕ) (d : Dir) → items_on (Frames l d) xs ≡ []
  pub passed : (p : Item → Bool) → ForFrames p → filter p xs ≡ []

pub record OneSent (xs : List Item) (key : Key) : Type 0 where
  pub frame : Item
  pub there : In xs frame
  pub channel_is : of_frames frame.on ≡ Some key.channel
  pub number : frame.number ≡ key.number
  pub on : (l : ℕ) (d : Dir) → items_on (Frames l d) xs ≡ cond (key.channel == channel l d) (frame ∷ []) []
  pub passed : (p : Item → Bool) → ForFrames p → filter p xs ≡ cond (p frame) (frame ∷ []) []

-- an item more that is no frame
quiet_on : (x : Item) (xs : List Item) (l : ℕ) (d : Dir) →
    (on : Channel) → x.on ≡ on → is_frame on ≡ false → items_on (Frames l d) (x ∷ xs) ≡ items_on (Frames l d) xs
quiet_on x xs l d (Notices k m) e h = ap (λ o. cond (same_channel (Frames l d) o) (x ∷ items_on (Frames l d) xs) (items_on (Frames l d) xs)) e
quiet_on x xs l d (Messages k m) e h = ap (λ o. cond (same_channel (Frames l d) o) (x ∷ items_on (Frames l d) xs) (items_on (Frames l d) xs)) e
quiet_on x xs l d (Routes k m) e h = ap (λ o. cond (same_channel (Frames l d) o) (x ∷ items_on (Frames l d) xs) (items_on (Frames l d) xs)) e
quiet_on x xs l d (Frames k m) e h = cc

none_more : (x : Item) (xs : List Item) (on : Channel) → x.on ≡ on → is_frame on ≡ false → NoneSent xs → NoneSent (x ∷ xs)
none_more x xs on e h none = record {
  on = λ l d. quiet_on x xs l d on e h ∙ none.on l d;
  passed = λ p f. ap (λ b. cond b (x ∷ filter p xs) (filter p xs)) (f x (ap is_frame e ∙ h)) ∙ none.passed p f;
}

one_more : (x : Item) (xs : List Item) (key : Key) (on : Channel) → x.on ≡ on → is_frame on ≡ false → OneSent xs key → OneSent (x ∷ xs) key
one_more x xs key on e h one = record {
  frame = one.frame;
  there = inr one.there;
  channel_is = one.channel_is;
  number = one.number;
  on = λ l d. quiet_on x xs l d on e h ∙ one.on l d;
  passed = λ p f. ap (λ b. cond b (x ∷ filter p xs) (filter p xs)) (f x (ap is_frame e ∙ h)) ∙ one.passed p f;
}

pub none_sent : (xs : List Item) → keys_on of_frames xs ≡ [] → NoneSent xs
none_sent [] e = record { on = λ l d. refl; passed = λ p f. refl }
none_sent (x ∷ xs) e = by x.on refl e (λ r. none_sent xs r)
  where
    by : (on : Channel) → x.on ≡ on → with_key (of_frames on) x (keys_on of_frames xs) ≡ [] → (keys_on of_frames xs ≡ [] → NoneSent xs) → NoneSent (x ∷ xs)
    by (Notices k m) q r later = none_more x xs (Notices k m) q refl (later r)
    by (Messages k m) q r later = none_more x xs (Messages k m) q refl (later r)
    by (Routes k m) q r later = none_more x xs (Routes k m) q refl (later r)
    by (Frames k d) q r later = cc

this_one : (x : Item) (xs : List Item) (key : Key) (k : ℕ) (d : Dir) → x.on ≡ Frames k d → channel k d ≡ key.channel → x.number ≡ key.number → NoneSent xs →
    OneSent (x ∷ xs) key
this_one x xs key k d e c n none = record {
  frame = x;
  there = inl refl;
  channel_is = ap of_frames e ∙ ap Some c;
  number = n;
  on = λ l b. ap (λ o. cond (same_channel (Frames l b) o) (x ∷ items_on (Frames l b) xs) (items_on (Frames l b) xs)) e
      ∙ ap (λ ys. cond (channel k d == channel l b) (x ∷ ys) ys) (none.on l b) ∙ ap (λ m. cond (m == channel l b) (x ∷ []) []) c;
  passed = λ p f. ap (λ ys. cond (p x) (x ∷ ys) ys) (none.passed p f);
}

pub one_sent : (xs : List Item) (key : Key) → keys_on of_frames xs ≡ key ∷ [] → OneSent xs key
one_sent [] key e = cc
one_sent (x ∷ xs) key e = by x.on refl e (λ r. one_sent xs key r)
  where
    by : (on : Channel) → x.on ≡ on → with_key (of_frames on) x (keys_on of_frames xs) ≡ key ∷ [] →
        (keys_on of_frames xs ≡ key ∷ [] → OneSent xs key) → OneSent (x ∷ xs) key
    by (Notices k m) q r later = one_more x xs key (Notices k m) q refl (later r)
    by (Messages k m) q r later = one_more x xs key (Messages k m) q refl (later r)
    by (Routes k m) q r later = one_more x xs key (Routes k m) q refl (later r)
    by (Frames k d) q r later =
        this_one x xs key k d q (ap first_channel r) (ap first_number r) (none_sent xs (ap rest r))
      where
        first_channel : List Key → ℕ
        first_channel [] = 0
        first_channel (j ∷ js) = j.channel

        first_number : List Key → ℕ
        first_number [] = 0
        first_number (j ∷ js) = j.number

        rest : List Key → List Key
        rest [] = []
        rest (j ∷ js) = js

-- 3. One entry more

pub for_frames : (t : Network) (es : List JournalEntry) (ps : List (List ℕ)) → ForFrames (λ x. is_lost t es ps x.on x)
for_frames t es ps x h = by x.on h
  where
    by : (on : Channel) → is_frame on ≡ false → is_lost t es ps on x ≡ false
    by (Notices k m) h = refl
    by (Messages k m) h = refl
    by (Routes k m) h = refl
    by (Frames k d) h = cc

module _ (t : Network) (es : List JournalEntry) (tick : ℕ) (s : Step) (b : List ℕ) (ps : List (List ℕ)) (each : length ps ≡ injections es)
    (lawful : IsLawful t) (journal : IsLawfulJournal t es ps) where
  abbrev pub later : List JournalEntry
  later = pushed es tick s

  abbrev pub packets : List (List ℕ)
  packets = with_packet s b ps

  abbrev pub made : List Item
  made = made_by t es ps

  -- what the step made
  abbrev pub new : List Item
  new = numbered t tick (length (made_by t es ps)) (made_now t es ps tick s b)

  pub made_more : made_by t (pushed es tick s) (with_packet s b ps) ≡ made ++ new
  made_more = (goes_on t es ps (entry_of tick s) b each).made

  below : (x : Item) → In (made_by t es ps) x → x.number < length (made_by t es ps)
  below x i =
      let c = contained_in (made_by t es ps) x i in
      let place : x.number ≡ c.0 = (in_flight t es ps lawful journal).numbers c.0 x (get_of (made_by t es ps) c.0 x c.1 c.2) in
      less place c.1
    where
      less : {m k n : ℕ} → m ≡ k → k < n → m < n
      less e h = omega (arith, e, h)

  above_from : (n : ℕ) (ms : List (Channel × Load)) (x : Item) → In (numbered t tick n ms) x → n ≤ x.number
  above_from n [] x i = absurd i
  above_from n (m ∷ ms) x i = elim i [
    | inl e ↦ subst (λ (y : Item). n ≤ y.number) e (omega arith)
    | inr j ↦ (let rest : n + 1 ≤ x.number = above_from (n + 1) ms x j in omega (arith, rest))
  ]

  above : (x : Item) → In new x → length (made_by t es ps) ≤ x.number
  above x i = above_from (length (made_by t es ps)) (made_now t es ps tick s b) x i

  pub sent_more : (l : ℕ) (d : Dir) → frames_sent t (pushed es tick s) (with_packet s b ps) l d ≡ frames_sent t es ps l d ++ items_on (Frames l d) new
  sent_more l d = ap (items_on (Frames l d)) made_more ∙ filter-append (λ item. same_channel (Frames l d) item.on) made new

  -- an old frame's number stays
  number_stays : (l : ℕ) (d : Dir) (x : Item) → In made x → frame_number t (pushed es tick s) (with_packet s b ps) l d x ≡ frame_number t es ps l d x
  number_stays l d x i =
      ap (λ xs. length (filter (λ item. nat_le item.number x.number) xs)) (sent_more l d)
      ∙ ap length (filter-append (λ item. nat_le item.number x.number) (frames_sent t es ps l d) (items_on (Frames l d) new))
      ∙ ap (λ ys. length (filter (λ item. nat_le item.number x.number) (frames_sent t es ps l d) ++ ys))
      (filter_no (λ item. nat_le item.number x.number) (items_on (Frames l d) new)
      (λ y j. later_off y (in_filter (λ item. same_channel (Frames l d) item.on) new y j).0))
      ∙ ap length (append-nil (filter (λ item. nat_le item.number x.number) (frames_sent t es ps l d)))
    where
      later_off : (y : Item) → In new y → nat_le y.number x.number ≡ false
      later_off y j = let low = below x i in let high = above y j in not_at_most y.number x.number (omega (arith, low, high))

  loss_stays : (x : Item) → In made x → is_lost t (pushed es tick s) (with_packet s b ps) x.on x ≡ is_lost t es ps x.on x
  loss_stays x i = by x.on
    where
      by : (on : Channel) → is_lost t (pushed es tick s) (with_packet s b ps) on x ≡ is_lost t es ps on x
      by (Notices k m) = refl
      by (Messages k m) = refl
      by (Routes k m) = refl
      by (Frames k d) = ap (is_each (link (wiring_of t) k).loss) (number_stays k d x i)

  lost_more : lost_numbers t (pushed es tick s) (with_packet s b ps)
      ≡ lost_numbers t es ps ++ map (λ item. item.number) (filter (λ item. is_lost t (pushed es tick s) (with_packet s b ps) item.on item) new)
  lost_more =
      ap (λ xs. map (λ item. item.number) (filter (λ item. is_lost t (pushed es tick s) (with_packet s b ps) item.on item) xs)) made_more
      ∙ ap (map (λ item. item.number)) (filter-append (λ item. is_lost t (pushed es tick s) (with_packet s b ps) item.on item) made new)
      ∙ map-append (λ item. item.number) (filter (λ item. is_lost t (pushed es tick s) (with_packet s b ps) item.on item) made)
      (filter (λ item. is_lost t (pushed es tick s) (with_packet s b ps) item.on item) new)
      ∙ ap (λ xs. map (λ item. item.number) xs ++ map (λ item. item.number)
      (filter (λ item. is_lost t (pushed es tick s) (with_packet s b ps) item.on item) new))
      (filter_same (λ item. is_lost t (pushed es tick s) (with_packet s b ps) item.on item) (λ item. is_lost t es ps item.on item) made loss_stays)

  -- 4. Without a frame

  pub sent_quiet : keys_on of_frames new ≡ [] → (l : ℕ) (d : Dir) → frames_sent t (pushed es tick s) (with_packet s b ps) l d ≡ frames_sent t es ps l d
  sent_quiet e l d = sent_more l d ∙ ap (λ xs. frames_sent t es ps l d ++ xs) ((none_sent new e).on l d) ∙ append-nil (frames_sent t es ps l d)

  pub lost_quiet : keys_on of_frames new ≡ [] → lost_numbers t (pushed es tick s) (with_packet s b ps) ≡ lost_numbers t es ps
  lost_quiet e =
      lost_more
      ∙ ap (λ xs. lost_numbers t es ps ++ map (λ (item : Item). item.number) xs)
      ((none_sent new e).passed (λ item. is_lost t (pushed es tick s) (with_packet s b ps) item.on item) (for_frames t (pushed es tick s) (with_packet s b ps)))
      ∙ append-nil (lost_numbers t es ps)

  -- 5. With one

  module _ (key : Key) (e : keys_on of_frames new ≡ key ∷ []) where
    one : OneSent new key
    one = one_sent new key e

    pub sent_one : (l : ℕ) (d : Dir) →
        length (frames_sent t (pushed es tick s) (with_packet s b ps) l d) ≡ length (frames_sent t es ps l d) + cond (key.channel == channel l d) 1 0
    unfolding one
    sent_one l d =
        ap length (sent_more l d ∙ ap (λ xs. frames_sent t es ps l d ++ xs) (one.on l d))
        ∙ length-append (frames_sent t es ps l d) (cond (key.channel == channel l d) (one.frame ∷ []) [])
        ∙ ap (λ n. length (frames_sent t es ps l d) + n) (by (key.channel == channel l d))
      where
        by : (c : Bool) → length (cond c (one.frame ∷ []) []) ≡ cond c 1 0
        by true = refl
        by false = refl

    -- its number in its direction is one more than so many
    number_is : (l : ℕ) (d : Dir) → key.channel ≡ channel l d →
        frame_number t (pushed es tick s) (with_packet s b ps) l d one.frame ≡ length (frames_sent t es ps l d) + 1
    unfolding one
    number_is l d q =
        ap (λ xs. length (filter (λ item. nat_le item.number one.frame.number) xs)) (sent_more l d ∙ ap (λ xs. frames_sent t es ps l d ++ xs) (one.on l d)
        ∙ ap (λ c. frames_sent t es ps l d ++ cond c (one.frame ∷ []) []) (test_same key.channel (channel l d) q))
        ∙ ap length
        (filter_each (λ item. nat_le item.number one.frame.number) (frames_sent t es ps l d ++ one.frame ∷ [])
        (λ y j. no_later y (in_append (frames_sent t es ps l d) (one.frame ∷ []) y j)))
        ∙ length-append (frames_sent t es ps l d) (one.frame ∷ [])
      where
        no_later : (y : Item) → In (frames_sent t es ps l d) y ⊎ In (one.frame ∷ []) y → nat_le y.number one.frame.number ≡ true
        no_later y (inl j) =
            let low = below y (in_filter (λ item. same_channel (Frames l d) item.on) made y j).0 in
            let high = above one.frame one.there in
            at_most_is y.number one.frame.number (omega (arith, low, high))
        no_later y (inr j) = elim j [
          | inl p ↦ subst (λ (z : Item). nat_le z.number one.frame.number ≡ true) p (at_most_is one.frame.number one.frame.number (omega arith))
          | inr p ↦ absurd p
        ]

    pub lost_one : (l : ℕ) (d : Dir) → key.channel ≡ channel l d → lost_numbers t (pushed es tick s) (with_packet s b ps)
        ≡ (if is_each (link (wiring_of t) l).loss (length (frames_sent t es ps l d) + 1) then lost_numbers t es ps ++ key.number ∷ [] else lost_numbers t es ps)
    unfolding one
    lost_one l d q =
        lost_more
        ∙ ap (λ xs. lost_numbers t es ps ++ map (λ (item : Item). item.number) xs)
        (one.passed (λ item. is_lost t (pushed es tick s) (with_packet s b ps) item.on item) (for_frames t (pushed es tick s) (with_packet s b ps)))
        ∙ by (is_lost t (pushed es tick s) (with_packet s b ps) one.frame.on one.frame) (lost_is one.frame.on refl)
      where
        lost_is : (on : Channel) → one.frame.on ≡ on → is_lost t (pushed es tick s) (with_packet s b ps) one.frame.on one.frame
            ≡ is_each (link (wiring_of t) l).loss (length (frames_sent t es ps l d) + 1)
        lost_is (Frames k f) g =
            let same = one_channel k l f d (some_is (channel k f) (channel l d) (sym (ap of_frames g) ∙ one.channel_is ∙ ap Some q)) in
            ap (λ o. is_lost t (pushed es tick s) (with_packet s b ps) o one.frame) g
            ∙ ap (λ n. is_lost t (pushed es tick s) (with_packet s b ps) (Frames n f) one.frame) same.0
            ∙ ap (λ r. is_lost t (pushed es tick s) (with_packet s b ps) (Frames l r) one.frame) same.1
            ∙ ap (is_each (link (wiring_of t) l).loss) (number_is l d q)
        lost_is (Notices k m) g = absurd (none_is key.channel (sym (ap of_frames g) ∙ one.channel_is))
        lost_is (Messages k m) g = absurd (none_is key.channel (sym (ap of_frames g) ∙ one.channel_is))
        lost_is (Routes k m) g = absurd (none_is key.channel (sym (ap of_frames g) ∙ one.channel_is))

        by : (c : Bool) → c ≡ is_each (link (wiring_of t) l).loss (length (frames_sent t es ps l d) + 1) →
            lost_numbers t es ps ++ map (λ (item : Item). item.number) (cond c (one.frame ∷ []) [])
            ≡ (if is_each (link (wiring_of t) l).loss (length (frames_sent t es ps l d) + 1) then lost_numbers t es ps ++ key.number
            ∷ [] else lost_numbers t es ps)
        by true g =
            ap (λ n. lost_numbers t es ps ++ n ∷ []) one.number ∙ ap (λ c. if c then lost_numbers t es ps ++ key.number ∷ [] else lost_numbers t es ps) g
        by false g = append-nil (lost_numbers t es ps) ∙ ap (λ c. if c then lost_numbers t es ps ++ key.number ∷ [] else lost_numbers t es ps) g
