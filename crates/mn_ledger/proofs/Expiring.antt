-- As time goes on the frames that are overdue end, and the others fly on in their order.
use Rattle.std.proofs.Common.{ℕ, ◌≡◌, ◌≢◌, ◌+◌, ◌<◌, ◌≤◌, inl, inr, Bool, true, false, cond, List, [], ◌∷◌, ◌++◌, map, filter, length, refl, arith}
use Rattle.std.proofs.Common.{sym, ◌∙◌, ap, subst}
use Rattle.std.specs.Prelude.{◌==◌, ◌&&◌, not, nat_lt, Option, Some, None, slice_get}
use Rattle.std.proofs.lemmas.Bool.Decides.{eqb_tells}
use Rattle.std.proofs.lemmas.List.{append_assoc, length-append}
use Rattle.mn_drops.specs.declared.drops.Rule.{Rule}
use Rattle.mn_drops.specs.declared.drops.Rule.TheVariants as rule
use Rattle.mn_topo.specs.Dir.{Dir}
use Rattle.mn_topo.specs.Dir.TheVariants.{Forth, Back}
use Rattle.mn_topo.specs.Wiring.{links_of, sender}
use Rattle.mn_base.proofs.Bools.{two_ways, same_numbers, less_tells, not_less_tells}
use Rattle.mn_base.proofs.Members.{In, range_in, in_range}
use Rattle.mn_topo.specs.Network.{Network, wiring_of}
use Rattle.mn_topo.specs.declared.steps.Step.{Step}
use Rattle.mn_topo.specs.declared.steps.Step.TheVariants.{Tick}
use Rattle.mn_ledger.specs.Tables.{put}
use Rattle.mn_ledger.specs.Packets.{Token, Packets, channel, flying_on, taken, fall, without_place}
use Rattle.mn_ledger.specs.Time.{is_overdue, expire_from, expire_on, expire_over, expire, timed_by}
use Rattle.mn_ledger.proofs.Channels.{same_chan}
use Rattle.mn_ledger.proofs.GoingBy.{put_here, put_off}
use Rattle.mn_ledger.specs.World.{World}
use Rattle.mn_ledger.specs.Refusal.{is_empty}
use Rattle.mn_ledger.specs.Items.{Channel, Notices, Messages, Routes, Frames, Load, Carries, Item, Flight, same_channel, items_on, loads_on}
use Rattle.mn_ledger.specs.Items.{is_late, in_time_by}
use Rattle.mn_ledger.specs.InFlight.{is_in_order, IsInFlight}
use Rattle.mn_base.proofs.Members.{in_filter, in_contained, contained_in}
use Rattle.mn_ledger.proofs.Directions.{one_channel}

-- those that aren't overdue on a link
abbrev pub young : Network → ℕ → ℕ → List Token → List Token
young t clock l ks = filter (λ k. not (is_overdue t clock l k)) ks

fall-keeps : (cause : Rule) (w : Packets) (n : ℕ) (o : Option Token) → (fall cause w n o).flying ≡ w.flying
fall-keeps cause w n None = refl
fall-keeps cause w n (Some k) = refl

without-mid : (xs : List Token) (k : Token) (ys : List Token) → without_place (length xs) (xs ++ k ∷ ys) ≡ xs ++ ys
without-mid [] k ys = refl
without-mid (x ∷ xs) k ys = ap (λ zs. x ∷ zs) (without-mid xs k ys)

long : (xs : List Token) (k : Token) → length (xs ++ k ∷ []) ≡ length xs + 1
long xs k = length-append xs (k ∷ [])

module _ (t : Network) (clock l : ℕ) (d : Dir) where
  abbrev gone : Packets → ℕ → Packets
  gone w n = fall rule.Overdue (taken w l d n) (sender (wiring_of t) l d) (slice_get (flying_on w l d) n)

  gone-at : (w : Packets) (n b : ℕ) → (gone w n).flying b ≡ put w.flying (channel l d) (without_place n (flying_on w l d)) b
  gone-at w n b = ap (λ f. f b) (fall-keeps rule.Overdue (taken w l d n) (sender (wiring_of t) l d) (slice_get (flying_on w l d) n))

  -- on its channel
  pub here : (ks xs : List Token) (w : Packets) → flying_on w l d ≡ xs ++ ks →
      flying_on (expire_from t clock l d (length xs) ks w) l d ≡ xs ++ young t clock l ks
  here [] xs w h = h
  here (k ∷ ks) xs w h = split (is_overdue t clock l k)
      (λ g. here ks xs (gone w (length xs)) g) (λ g. here ks (xs ++ k ∷ []) w g)
    where
      split : (b : Bool)
          → (flying_on (gone w (length xs)) l d ≡ xs ++ ks →
          flying_on (expire_from t clock l d (length xs) ks (gone w (length xs))) l d ≡ xs ++ young t clock l ks)
          → (flying_on w l d ≡ (xs ++ k ∷ []) ++ ks →
          flying_on (expire_from t clock l d (length (xs ++ k ∷ [])) ks w) l d ≡ (xs ++ k ∷ []) ++ young t clock l ks)
          → flying_on (elim b as (λ _. Packets) [
            | true ↦ expire_from t clock l d (length xs) ks (gone w (length xs))
            | false ↦ expire_from t clock l d (length xs + 1) ks w
          ]) l d
          ≡ xs ++ cond (not b) (k ∷ young t clock l ks) (young t clock l ks)
      split true one other = one
          (gone-at w (length xs) (channel l d) ∙ put_here w.flying (channel l d) (without_place (length xs) (flying_on w l d))
          ∙ ap (without_place (length xs)) h ∙ without-mid xs k ks)
      split false one other = ap (λ n. flying_on (expire_from t clock l d n ks w) l d) (sym (long xs k))
          ∙ other (h ∙ sym (append_assoc xs (k ∷ []) ks))
          ∙ append_assoc xs (k ∷ []) (young t clock l ks)

  -- on every other
  pub off : (ks : List Token) (n b : ℕ) (w : Packets) → b ≢ channel l d → (expire_from t clock l d n ks w).flying b ≡ w.flying b
  off [] n b w h = refl
  off (k ∷ ks) n b w h = split (is_overdue t clock l k) (off ks n b (gone w n) h) (off ks (n + 1) b w h)
    where
      split : (c : Bool) → (expire_from t clock l d n ks (gone w n)).flying b ≡ (gone w n).flying b →
          (expire_from t clock l d (n + 1) ks w).flying b ≡ w.flying b
          → (elim c as (λ _. Packets) [ true ↦ expire_from t clock l d n ks (gone w n) | false ↦ expire_from t clock l d (n + 1) ks w ]).flying b ≡ w.flying b
      split true one other = one ∙ gone-at w n b ∙ put_off w.flying (channel l d) (without_place n (flying_on w l d)) b h
      split false one other = other

  pub clocked : (ks : List Token) (n : ℕ) (w : Packets) → (expire_from t clock l d n ks w).clock ≡ w.clock
  clocked [] n w = refl
  clocked (k ∷ ks) n w = split (is_overdue t clock l k) (clocked ks n (gone w n)) (clocked ks (n + 1) w)
    where
      falls : (o : Option Token) → (fall rule.Overdue (taken w l d n) (sender (wiring_of t) l d) o).clock ≡ w.clock
      falls None = refl
      falls (Some k) = refl

      split : (c : Bool) → (expire_from t clock l d n ks (gone w n)).clock ≡ (gone w n).clock → (expire_from t clock l d (n + 1) ks w).clock ≡ w.clock
          → (elim c as (λ _. Packets) [ true ↦ expire_from t clock l d n ks (gone w n) | false ↦ expire_from t clock l d (n + 1) ks w ]).clock ≡ w.clock
      split true one other = one ∙ falls (slice_get (flying_on w l d) n)
      split false one other = other

-- one link, both directions
abbrev both : Network → ℕ → ℕ → Packets → Packets
both t clock l w = expire_on t clock l Back (expire_on t clock l Forth w)

apart : (l : ℕ) → channel l Forth ≢ channel l Back
apart l h = omega (arith, h)

both-here : (t : Network) (clock l : ℕ) (d : Dir) (w : Packets) → flying_on (both t clock l w) l d ≡ young t clock l (flying_on w l d)
both-here t clock l Forth w =
    off t clock l Back (flying_on (expire_on t clock l Forth w) l Back) 0 (channel l Forth) (expire_on t clock l Forth w) (apart l)
    ∙ here t clock l Forth (flying_on w l Forth) [] w refl
both-here t clock l Back w =
    here t clock l Back (flying_on (expire_on t clock l Forth w) l Back) [] (expire_on t clock l Forth w) refl
    ∙ ap (young t clock l) (off t clock l Forth (flying_on w l Forth) 0 (channel l Back) w (λ h. apart l (sym h)))

both-off : (t : Network) (clock k l : ℕ) (d : Dir) (w : Packets) → k ≢ l → flying_on (both t clock k w) l d ≡ flying_on w l d
both-off t clock k l d w h =
    off t clock k Back (flying_on (expire_on t clock k Forth w) k Back) 0 (channel l d) (expire_on t clock k Forth w)
    (λ e. h (sym (one_channel l k d Back e).0))
    ∙ off t clock k Forth (flying_on w k Forth) 0 (channel l d) w (λ e. h (sym (one_channel l k d Forth e).0))

-- twice is once
filter-twice : {A : Type 0} (p : A → Bool) (xs : List A) → filter p (filter p xs) ≡ filter p xs
filter-twice p [] = refl
filter-twice p (x ∷ xs) = elim (two_ways (p x)) [
  | inl e ↦ ap (λ b. filter p (cond b (x ∷ filter p xs) (filter p xs))) e
      ∙ ap (λ b. cond b (x ∷ filter p (filter p xs)) (filter p (filter p xs))) e ∙ ap (λ ys. x ∷ ys) (filter-twice p xs)
      ∙ sym (ap (λ b. cond b (x ∷ filter p xs) (filter p xs)) e)
  | inr e ↦ ap (λ b. filter p (cond b (x ∷ filter p xs) (filter p xs))) e ∙ filter-twice p xs ∙ sym (ap (λ b. cond b (x ∷ filter p xs) (filter p xs)) e)
]

over-young : (t : Network) (clock l : ℕ) (d : Dir) (ls : List ℕ) (w : Packets) → flying_on w l d ≡ young t clock l (flying_on w l d) →
    flying_on (expire_over t clock ls w) l d ≡ flying_on w l d
over-young t clock l d [] w h = refl
over-young t clock l d (k ∷ ks) w h =
    let same : flying_on (both t clock k w) l d ≡ flying_on w l d = elim (eqb_tells k l) [
      | inl e ↦ subst (λ j. flying_on (both t clock j w) l d ≡ flying_on w l d) (sym e.1) (both-here t clock l d w ∙ sym h)
      | inr e ↦ both-off t clock k l d w e.1
    ] in
    over-young t clock l d ks (both t clock k w) (same ∙ h ∙ ap (young t clock l) (sym same)) ∙ same

over-here : (t : Network) (clock l : ℕ) (d : Dir) (ls : List ℕ) (w : Packets) → In ls l →
    flying_on (expire_over t clock ls w) l d ≡ young t clock l (flying_on w l d)
over-here t clock l d [] w i = absurd i
over-here t clock l d (k ∷ ks) w i = elim (eqb_tells k l) [
  | inl e ↦
      let at : flying_on (both t clock k w) l d ≡ young t clock l (flying_on w l d) =
      subst (λ j. flying_on (both t clock j w) l d ≡ young t clock l (flying_on w l d)) (sym e.1) (both-here t clock l d w) in
      over-young t clock l d ks (both t clock k w)
      (at ∙ sym (filter-twice (λ k. not (is_overdue t clock l k)) (flying_on w l d)) ∙ ap (young t clock l) (sym at)) ∙ at
  | inr e ↦ over-here t clock l d ks (both t clock k w) (later i e.1) ∙ ap (young t clock l) (both-off t clock k l d w e.1)
]
  where
    later : In (k ∷ ks) l → k ≢ l → In ks l
    later i h = elim i [ inl e ↦ absurd (h e) | inr j ↦ j ]

-- of a link of the network the frames that aren't overdue are left, in their order
pub left_young : (t : Network) (clock l : ℕ) (d : Dir) (w : Packets) → l < length t.links →
    flying_on (expire t clock w) l d ≡ young t clock l (flying_on w l d)
left_young t clock l d w h = over-here t clock l d (links_of (wiring_of t)) w (range_in 0 (length t.links) l (omega arith) (omega (arith, h)))

over-clock : (t : Network) (clock : ℕ) (ls : List ℕ) (w : Packets) → (expire_over t clock ls w).clock ≡ w.clock
over-clock t clock [] w = refl
over-clock t clock (l ∷ ls) w =
    over-clock t clock ls (both t clock l w)
    ∙ clocked t clock l Back (flying_on (expire_on t clock l Forth w) l Back) 0 (expire_on t clock l Forth w)
    ∙ clocked t clock l Forth (flying_on w l Forth) 0 w

pub timed_clock : (t : Network) (clock : ℕ) (s : Step) (w : Packets) → (timed_by t clock s w).clock ≡ clock
timed_clock t clock (Tick n) w = over-clock t clock (links_of (wiring_of t)) (record w { clock = clock })
timed_clock t clock _ w = refl

-- what isn't a link of the network stays as it is
over-off : (t : Network) (clock l : ℕ) (d : Dir) (ls : List ℕ) (w : Packets) → (In ls l → ⊥) → flying_on (expire_over t clock ls w) l d ≡ flying_on w l d
over-off t clock l d [] w out = refl
over-off t clock l d (k ∷ ks) w out = over-off t clock l d ks (both t clock k w) (λ i. out (inr i)) ∙ both-off t clock k l d w (λ e. out (inl e))

-- whether it is one
abbrev young_there : Network → ℕ → ℕ → List Token → List Token
young_there t clock l ks = filter (λ k. not (nat_lt l (length t.links) && is_overdue t clock l k)) ks

filter-same : {A : Type 0} (p q : A → Bool) (xs : List A) → ((x : A) → p x ≡ q x) → filter p xs ≡ filter q xs
filter-same p q [] h = refl
filter-same p q (x ∷ xs) h = ap (λ b. cond b (x ∷ filter p xs) (filter p xs)) (h x) ∙ ap (λ ys. cond (q x) (x ∷ ys) ys) (filter-same p q xs h)

filter-all : {A : Type 0} (p : A → Bool) (xs : List A) → ((x : A) → p x ≡ true) → filter p xs ≡ xs
filter-all p [] h = refl
filter-all p (x ∷ xs) h = ap (λ b. cond b (x ∷ filter p xs) (filter p xs)) (h x) ∙ ap (λ ys. x ∷ ys) (filter-all p xs h)

left_there : (t : Network) (clock l : ℕ) (d : Dir) (w : Packets) → flying_on (expire t clock w) l d ≡ young_there t clock l (flying_on w l d)
left_there t clock l d w = elim (two_ways (nat_lt l (length t.links))) [
  | inl e ↦ left_young t clock l d w (less_tells l (length t.links) e)
      ∙ filter-same _ _ (flying_on w l d) (λ k. ap not (sym (ap (λ b. b && is_overdue t clock l k) e)))
  | inr e ↦ over-off t clock l d (links_of (wiring_of t)) w (λ i. beyond (in_range 0 (length t.links) l i).1 (not_less_tells l (length t.links) e))
      ∙ sym (filter-all _ (flying_on w l d) (λ k. ap not (ap (λ b. b && is_overdue t clock l k) e)))
]
  where
    beyond : {m : ℕ} → l < 0 + m → m ≤ l → ⊥
    beyond h g = omega (arith, h, g)

-- items

not_frame : (on c : Channel) (load : Load) (t : Network) (clock : ℕ) → is_in_order on ≡ true → same_channel on c ≡ true → is_late t clock c load ≡ false
not_frame on c load t clock i h = ap (λ x. is_late t clock x load) (same_chan on c i h) ∙ never on load i
  where
    never : (on : Channel) (load : Load) → is_in_order on ≡ true → is_late t clock on load ≡ false
    never (Frames l e) load i = cc
    never _ load i = refl

abbrev in_time_test : Network → ℕ → Item → Bool
in_time_test t clock item = not (is_late t clock item.on item.load)

order-kept : (t : Network) (clock : ℕ) (on : Channel) (items : List Item) → is_in_order on ≡ true →
    items_on on (filter (in_time_test t clock) items) ≡ items_on on items
order-kept t clock on [] i = refl
order-kept t clock on (x ∷ xs) i = elim (two_ways (same_channel on x.on)) [
  | inl e ↦ ap (λ b. items_on on (cond (not b) (x ∷ filter (in_time_test t clock) xs) (filter (in_time_test t clock) xs)))
      (not_frame on x.on x.load t clock i e)
      ∙ ap (λ b. cond b (x ∷ items_on on (filter (in_time_test t clock) xs)) (items_on on (filter (in_time_test t clock) xs))) e
      ∙ ap (λ ys. x ∷ ys) (order-kept t clock on xs i) ∙ sym (ap (λ b. cond b (x ∷ items_on on xs) (items_on on xs)) e)
  | inr e ↦ either (in_time_test t clock x) e ∙ order-kept t clock on xs i ∙ sym (ap (λ b. cond b (x ∷ items_on on xs) (items_on on xs)) e)
]
  where
    either : (b : Bool) → same_channel on x.on ≡ false
        → items_on on (cond b (x ∷ filter (in_time_test t clock) xs) (filter (in_time_test t clock) xs)) ≡ items_on on (filter (in_time_test t clock) xs)
    either true e = ap (λ b. cond b (x ∷ items_on on (filter (in_time_test t clock) xs)) (items_on on (filter (in_time_test t clock) xs))) e
    either false e = refl

-- the frames of a direction
late_is : (t : Network) (clock l : ℕ) (d : Dir) (c : Channel) (load : Load) (k : Token) → same_channel (Frames l d) c ≡ true → load ≡ Carries k →
    is_late t clock c load ≡ (nat_lt l (length t.links) && is_overdue t clock l k)
late_is t clock l d (Notices j m) load k h e = cc
late_is t clock l d (Messages j m) load k h e = cc
late_is t clock l d (Routes j m) load k h e = cc
late_is t clock l d (Frames j b) load k h e =
    ap (is_late t clock (Frames j b)) e
    ∙ ap (λ i. nat_lt i (length t.links) && is_overdue t clock i k) (one_channel j l b d (same_numbers (channel j b) (channel l d) h)).0

frames-kept : (t : Network) (clock l : ℕ) (d : Dir) (items : List Item) (ks : List Token) → loads_on (Frames l d) items ≡ map (λ token. Carries token) ks →
    loads_on (Frames l d) (filter (in_time_test t clock) items) ≡ map (λ token. Carries token) (young_there t clock l ks)
frames-kept t clock l d [] [] h = refl
frames-kept t clock l d [] (k ∷ ks) h = cc
frames-kept t clock l d (x ∷ xs) ks h = elim (two_ways (same_channel (Frames l d) x.on)) [
  | inr e ↦ either (in_time_test t clock x) e
      ∙ frames-kept t clock l d xs ks (sym (ap (λ b. map (λ (item : Item). item.load) (cond b (x ∷ items_on (Frames l d) xs) (items_on (Frames l d) xs))) e)
      ∙ h)
  | inl e ↦ on-it e ks (sym (ap (λ b. map (λ (item : Item). item.load) (cond b (x ∷ items_on (Frames l d) xs) (items_on (Frames l d) xs))) e) ∙ h)
      (λ rest. frames-kept t clock l d xs rest)
]
  where
    either : (b : Bool) → same_channel (Frames l d) x.on ≡ false
        → loads_on (Frames l d) (cond b (x ∷ filter (in_time_test t clock) xs) (filter (in_time_test t clock) xs)) ≡ loads_on (Frames l d)
        (filter (in_time_test t clock) xs)
    either true e = ap (λ b. map (λ (item : Item). item.load)
        (cond b (x ∷ items_on (Frames l d) (filter (in_time_test t clock) xs)) (items_on (Frames l d) (filter (in_time_test t clock) xs)))) e
    either false e = refl

    on-it : same_channel (Frames l d) x.on ≡ true → (ks : List Token) → x.load ∷ loads_on (Frames l d) xs ≡ map (λ token. Carries token) ks
        → ((rest : List Token) → loads_on (Frames l d) xs ≡ map (λ token. Carries token) rest
        → loads_on (Frames l d) (filter (in_time_test t clock) xs) ≡ map (λ token. Carries token) (young_there t clock l rest))
        → loads_on (Frames l d) (cond (in_time_test t clock x) (x ∷ filter (in_time_test t clock) xs) (filter (in_time_test t clock) xs))
        ≡ map (λ token. Carries token) (young_there t clock l ks)
    on-it e [] h ih = cc
    on-it e (k ∷ ks) h ih =
        let first : x.load ≡ Carries k = cc in
        let rest : loads_on (Frames l d) xs ≡ map (λ token. Carries token) ks = cc in
        ap (λ b. loads_on (Frames l d) (cond (not b) (x ∷ filter (in_time_test t clock) xs) (filter (in_time_test t clock) xs)))
        (late_is t clock l d x.on x.load k e first)
        ∙ by (nat_lt l (length t.links) && is_overdue t clock l k) e first (ih ks rest)
      where
        by : (b : Bool) → same_channel (Frames l d) x.on ≡ true → x.load ≡ Carries k
            → loads_on (Frames l d) (filter (in_time_test t clock) xs) ≡ map (λ token. Carries token) (young_there t clock l ks)
            → loads_on (Frames l d) (cond (not b) (x ∷ filter (in_time_test t clock) xs) (filter (in_time_test t clock) xs))
            ≡ map (λ token. Carries token) (cond (not b) (k ∷ young_there t clock l ks) (young_there t clock l ks))
        by true e f g = g
        by false e f g =
            ap (λ b. map (λ (item : Item). item.load)
            (cond b (x ∷ items_on (Frames l d) (filter (in_time_test t clock) xs)) (items_on (Frames l d) (filter (in_time_test t clock) xs)))) e
            ∙ ap (λ y. y ∷ loads_on (Frames l d) (filter (in_time_test t clock) xs)) f ∙ ap (λ ys. Carries k ∷ ys) g

-- what flies once time has gone on
pub in_time_flies : (t : Network) (world : World) (clock : ℕ) (s : Step) (w : Packets) (made : List Item) (flight : Flight) → IsInFlight t world w made flight →
    IsInFlight t world (timed_by t clock s w) made (in_time_by t clock s flight)
in_time_flies t world clock (Tick n) w made flight f = record {
  counted = f.counted;
  numbers = f.numbers;
  among = λ item c. f.among item (contained_in flight.items item (in_filter (in_time_test t clock) flight.items item
      (in_contained (filter (in_time_test t clock) flight.items) item c)).0);
  order = λ on i. let was = f.order on i in (was.0, was.1 ∙ ap (λ ys. was.0 ++ ys) (sym (order-kept t clock on flight.items i)));
  notices = λ l node below. ap (λ ys. world.views.learned node l + length (map (λ (item : Item). item.load) ys))
      (order-kept t clock (Notices l node) flight.items refl)
      ∙ f.notices l node below;
  messages = λ l node below end. ap (map (λ (item : Item). item.load)) (order-kept t clock (Messages l node) flight.items refl) ∙ f.messages l node below end;
  routes = λ edge peer d. ap (map (λ (item : Item). item.load)) (order-kept t clock (Routes edge peer) flight.items refl) ∙ f.routes edge peer d;
  frames = λ l d. frames-kept t clock l d flight.items (flying_on w l d) (f.frames l d)
      ∙ ap (map (λ token. Carries token)) (sym (left_there t clock l d (record w { clock = clock })));
}
in_time_flies t world clock _ w made flight f = record {
  counted = f.counted;
  numbers = f.numbers;
  among = f.among;
  order = f.order;
  notices = f.notices;
  messages = f.messages;
  routes = f.routes;
  frames = f.frames;
}

-- time leaves nothing to be taken that wasn't there, but for a step that takes nothing
pub timed_empty : (t : Network) (world : World) (clock : ℕ) (s : Step) (w : Packets) → is_empty t world (timed_by t clock s w) s ≡ is_empty t world w s
timed_empty t world clock (Tick n) w = refl
timed_empty t world clock _ w = refl
