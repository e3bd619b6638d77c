-- What the packets in transit stand for as frames end that are too old.
use Rattle.std.proofs.Common.{ℕ, zero, suc, ◌≡◌, ◌+◌, ◌-◌, ◌*◌, ◌<◌, ◌≤◌, Bool, true, false, cond, List, [], ◌∷◌, length, map, filter}
use Rattle.std.proofs.Common.{refl, arith, sym, ◌∙◌, ap}
use Rattle.std.proofs.Common.{subst}
use Rattle.std.proofs.Common.{Some, None, inl, inr}
use Rattle.std.specs.Prelude.{◌==◌, ◌&&◌, ◌||◌, not, nat_lt, slice_get, slice_set}
use Rattle.std.specs.List.{range_with_len}
use Rattle.std.proofs.lemmas.Bool.Decides.{nat_tests, eqb_tells}
use Rattle.std.proofs.lemmas.Option.{same_Some}
use Rattle.mn_base.proofs.Bools.{clash, less_is, less_tells, not_less, not_less_tells, same_numbers}
use Rattle.mn_base.proofs.Members.{In, all_in, in_map, map_in}
use Rattle.mn_drops.specs.declared.drops.Rule.{Rule}
use Rattle.mn_drops.specs.declared.drops.Rule.TheVariants as rule
use Rattle.mn_base.specs.declared.numbers.LinkNo.{LinkNo}
use Rattle.mn_base.specs.declared.numbers.NodeNo.{NodeNo}
use Rattle.mn_wiring.specs.Wiring.{link, sender}
use Rattle.mn_wiring.specs.declared.links.Dir.{Dir}
use Rattle.mn_wiring.specs.declared.links.Dir.TheVariants.{Forth, Back}
use Rattle.mn_wiring.specs.declared.links.LinkEnds.{LinkEnds}
use Rattle.mn_flight.specs.declared.Item.{Item}
use Rattle.mn_flight.specs.Flying.{IsFlight, on_channel, without}
use Rattle.mn_flight.proofs.Members.{IsIn, filter_all, rest_ascends, first_below}
use Rattle.mn_flight.proofs.OnChannels.{Ascends, others, same_gone, less_stays, more_stays, on_it, is_on, without_at, left_on, left_off}
use Rattle.mn_topo.specs.Network.{Network, wiring_of}
use Rattle.mn_ledger.specs.declared.verdict.Verdict.{Verdict}
use Rattle.mn_ledger.specs.declared.verdict.Verdict.TheVariants.{Dropped}
use Rattle.mn_ledger.specs.Packets.{Token, Packets, channel, flying_on, without_place, taken, drop_at, fall}
use Rattle.mn_ledger.specs.Time.{is_overdue, expire_from, expire_on, expire_over, expire}
use Rattle.mn_ledger.proofs.Directions.{one_channel}
use Rattle.mn_ledger.proofs.GoingBy.{put_off}
use Rattle.mn_frame_laws.specs.Given.{Labelling}
use Rattle.mn_timetable_laws.specs.Keys.{Key, key_of, keys_in, link_on, is_past, FlyInOrder}
use Rattle.mn_timetable_laws.proofs.Timed.{same_less, channel_there, link_of_channel, keys_kept, order_kept}
use Rattle.mn_transit.specs.declared.flown.Flown.{Flown}
use Rattle.mn_transit.specs.Moving.{Moving}
use Rattle.mn_transit.specs.Stands.{StandsFor}
use Rattle.mn_transit.specs.Aging.{DueAsSent, limit_on, first_before, ends_on}
use Rattle.mn_transit.proofs.Going.{Takes, took, ends, put_here, stands_still}

arms : {A : Type 0} (P : A → Type 0) (b : Bool) (x y : A) → (b ≡ true → P x) → (b ≡ false → P y) → P (elim b [ true ↦ x | false ↦ y ])
arms P true x y p q = p refl
arms P false x y p q = q refl

-- 1. The limit

-- due before it is past
past_limit : (t : Network) (clock l : ℕ) (d : Dir) (item : Item Flown) → l < length t.links → item.channel ≡ channel l d →
    is_past t clock (key_of item) ≡ nat_lt item.due (limit_on t clock l)
past_limit t clock l d item there e =
    ap (λ c. nat_lt c (2 * length t.links) && nat_lt (item.due + (link_on t c).life) (clock + (link_on t c).delay)) e
    ∙ ap (λ b. b && nat_lt (item.due + (link_on t (channel l d)).life) (clock + (link_on t (channel l d)).delay))
    (sym (channel_there (length t.links) l d) ∙ less_is l (length t.links) there)
    ∙ ap (λ (ends : LinkEnds). nat_lt (item.due + ends.life) (clock + ends.delay)) (link_of_channel t l d)
    ∙ same_less (item.due + (link (wiring_of t) l).life) (clock + (link (wiring_of t) l).delay) item.due (limit_on t clock l)
    (λ h. omega (arith, h)) (λ h. omega (arith, h))

late : (t : Network) (clock l due : ℕ) (token : Token) → due ≡ token.sent + (link (wiring_of t) l).delay → due < limit_on t clock l →
    is_overdue t clock l token ≡ true
late t clock l due token e h = less_is (token.sent + (link (wiring_of t) l).life) clock (omega (arith, e, h))

young : (t : Network) (clock l due : ℕ) (token : Token) → due ≡ token.sent + (link (wiring_of t) l).delay → limit_on t clock l ≤ due →
    is_overdue t clock l token ≡ false
young t clock l due token e h = not_less (token.sent + (link (wiring_of t) l).life) clock (omega (arith, e, h))

-- 2. Items and packets in step

but_first : List ℕ → List ℕ
but_first [] = []
but_first (n ∷ ns) = ns

module _ (f : Item Flown → ℕ) (g : Token → ℕ) where
  tails : (xs : List (Item Flown)) (ks : List Token) → map f xs ≡ map g ks → map f (without_at 0 xs) ≡ map g (without_place 0 ks)
  unfolding but_first
  tails [] [] e = refl
  tails [] (k ∷ ks) e = cc
  tails (x ∷ xs) [] e = cc
  tails (x ∷ xs) (k ∷ ks) e = ap but_first e

  heads : (xs : List (Item Flown)) (ks : List Token) (x : Item Flown) (k : Token) → map f xs ≡ map g ks → slice_get xs 0 ≡ Some x →
      slice_get ks 0 ≡ Some k → f x ≡ g k
  heads [] ks x k e p q = cc
  heads (y ∷ ys) [] x k e p q = cc
  heads (y ∷ ys) (j ∷ js) x k e p q =
      let one : f y ≡ g j = cc in
      ap f (sym (same_Some y x p)) ∙ one ∙ ap g (same_Some j k q)

  -- each packet has its frame
  frame_of : (xs : List (Item Flown)) (ks : List Token) (k : Token) → map f xs ≡ map g ks → In ks k → (x : Item Flown) × In xs x × (f x ≡ g k)
  frame_of xs ks k e i = in_map f xs (g k) (subst (λ l. In l (g k)) (sym e) (map_in g ks k i))

-- 3. A frame that ends

-- no packet of these is overdue, so none ends
none_ends : (t : Network) (clock l : ℕ) (d : Dir) (ks : List Token) (n : ℕ) (k : Packets) → ((x : Token) → In ks x → is_overdue t clock l x ≡ false) →
    expire_from t clock l d n ks k ≡ k
none_ends t clock l d [] n k h = refl
none_ends t clock l d (x ∷ xs) n k h =
    arms (λ q. q ≡ k) (is_overdue t clock l x) _ _ (λ e. absurd (clash (sym e ∙ h x (inl refl))))
    (λ e. none_ends t clock l d xs (n + 1) k (λ y i. h y (inr i)))

-- to end what is left once the first has ended is to end all
first_ends : (t : Network) (clock l : ℕ) (d : Dir) (k : Packets) (ks : List Token) (token : Token) → flying_on k l d ≡ ks →
    slice_get ks 0 ≡ Some token → is_overdue t clock l token ≡ true →
    expire_on t clock l d (drop_at (taken k l d 0) token.packet rule.Overdue (sender (wiring_of t) l d)) ≡ expire_from t clock l d 0 ks k
first_ends t clock l d k [] token f h over = absurd (let none : None ≡ Some token → ⊥ = (λ e. cc) in none h)
first_ends t clock l d k (x ∷ xs) token f h over =
    let same : x ≡ token = same_Some x token h in
    let next : Packets = drop_at (taken k l d 0) token.packet rule.Overdue (sender (wiring_of t) l d) in
    let rest : flying_on next l d ≡ xs = put_here k.flying (channel l d) (without_place 0 (flying_on k l d)) ∙ ap (without_place 0) f in
    arms (λ q. expire_on t clock l d next ≡ q) (is_overdue t clock l x) _ _
    (λ e. ap (λ ys. expire_from t clock l d 0 ys next) rest
    ∙ ap (λ o. expire_from t clock l d 0 xs (fall rule.Overdue (taken k l d 0) (sender (wiring_of t) l d) o)) (sym (ap (λ ys. slice_get ys 0) f ∙ h)))
    (λ e. absurd (clash (sym over ∙ ap (is_overdue t clock l) (sym same) ∙ e)))

-- the frames that are left are due as they were sent
due_left : (t : Network) (m : Moving) (k : Packets) (l : ℕ) (d : Dir) (item : Item Flown) (packet node : ℕ) (cause : Rule) →
    IsFlight m.channels m.flying → slice_get (on_channel (channel l d) m.flying) 0 ≡ Some item → DueAsSent t m.flying k →
    DueAsSent t (without (Some item) m.flying) (drop_at (taken k l d 0) packet cause node)
due_left t m k l d item packet node cause flight h due o to there = elim (eqb_tells (channel o to) (channel l d)) [
  | inl q ↦ (let one = one_channel o l to d q.1 in
      subst (λ x. Holds x to) (sym one.0) (subst (λ x. Holds l x) (sym one.1) (here (subst (λ x. x < length t.links) one.0 there))))
  | inr q ↦ ap (map (λ (x : Item Flown). x.due)) (left_off (channel l d) (channel o to) m.flying 0 item flight.ascending h q.0) ∙ due o to there
      ∙ ap (map (λ (x : Token). x.sent + (link (wiring_of t) o).delay))
      (sym (put_off k.flying (channel l d) (without_place 0 (flying_on k l d)) (channel o to) q.1))
]
  where
    Holds : ℕ → Dir → Type 0
    Holds o to = map (λ (x : Item Flown). x.due) (on_channel (channel o to) (without (Some item) m.flying))
        ≡ map (λ (x : Token). x.sent + (link (wiring_of t) o).delay) (flying_on (drop_at (taken k l d 0) packet cause node) o to)

    here : l < length t.links → Holds l d
    here there =
        ap (map (λ (x : Item Flown). x.due)) (left_on (channel l d) m.flying 0 item flight.ascending h)
        ∙ tails (λ (x : Item Flown). x.due) (λ (x : Token). x.sent + (link (wiring_of t) l).delay) (on_channel (channel l d) m.flying) (flying_on k l d)
        (due l d there)
        ∙ ap (map (λ (x : Token). x.sent + (link (wiring_of t) l).delay))
        (sym (put_here k.flying (channel l d) (without_place 0 (flying_on k l d))))

-- what the frames left stand for, and to end what is overdue of it is to end what is overdue of all
abbrev pub AgesTo : Network → Labelling → ℕ → Moving → Packets → ℕ → Dir → Type 0
AgesTo t g clock m k l d = (next : Packets) × StandsFor t g m next × DueAsSent t m.flying next × (expire_on t clock l d next ≡ expire_on t clock l d k)

-- the first of a channel is taken, due before the limit
pub record TakesOld (t : Network) (clock l : ℕ) (before after : Moving) (at : ℕ) (item : Item Flown) : Type 0 where
  pub there : l < length t.links
  pub takes : Takes before after at 0 item
  pub old : item.due < limit_on t clock l

pub old_taken : (t : Network) (clock l at limit : ℕ) (m left : Moving) (item : Item Flown) → l < length t.links → limit ≡ limit_on t clock l →
    Some item ≡ first_before limit (on_channel at m.flying) → left ≡ record m { flying = without (Some item) m.flying; spare = left.spare } →
    IsFlight m.channels m.flying → TakesOld t clock l m left at item
old_taken t clock l at limit m left item there is found left_is flight =
    let both = first (on_channel at m.flying) found in
    record { there = there; takes = record { found = sym both.0; left = left_is; flight = flight }; old = subst (λ n. item.due < n) is both.1 }
  where
    first : (xs : List (Item Flown)) → Some item ≡ first_before limit xs → (slice_get xs 0 ≡ Some item) × (item.due < limit)
    first [] e = absurd (let none : Some item ≡ None → ⊥ = (λ e. cc) in none e)
    first (x ∷ xs) e = by (nat_lt x.due limit) refl e
      where
        by : (b : Bool) → nat_lt x.due limit ≡ b → Some item ≡ cond b (Some x) None → (Some x ≡ Some item) × (item.due < limit)
        by true lt e = (sym e, subst (λ (y : Item Flown). y.due < limit) (same_Some x item (sym e)) (less_tells x.due limit lt))
        by false lt e = absurd (let none : Some item ≡ None → ⊥ = (λ e. cc) in none e)

pub ages_first : (t : Network) (g : Labelling) (clock : ℕ) (before left new : Moving) (k : Packets) (at : ℕ) (over : LinkNo) (d : Dir) (node : NodeNo)
    (item : Item Flown) →
    at ≡ channel over.0 d → node.0 ≡ sender (wiring_of t) over.0 d → TakesOld t clock over.0 before left at item →
    new ≡ record left { verdicts = slice_set left.verdicts item.item.packet (Dropped rule.Overdue node) } →
    StandsFor t g before k → DueAsSent t before.flying k → AgesTo t g clock new k over.0 d
ages_first t g clock before left new k at over d node item e f old judges stands due =
    let done = took t g before left k at 0 over.0 d item e old.takes stands in
    let next : Packets = drop_at (taken k over.0 d 0) done.token.packet rule.Overdue (sender (wiring_of t) over.0 d) in
    let found : slice_get (on_channel (channel over.0 d) before.flying) 0 ≡ Some item =
    subst (λ c. slice_get (on_channel c before.flying) 0 ≡ Some item) e (sym old.takes.found) in
    let flying : new.flying ≡ without (Some item) before.flying = ap (λ (n : Moving). n.flying) judges ∙ ap (λ (n : Moving). n.flying) old.takes.left in
    let sent = heads (λ (x : Item Flown). x.due) (λ (x : Token). x.sent + (link (wiring_of t) over.0).delay) (on_channel (channel over.0 d) before.flying)
    (flying_on k over.0 d) item done.token (due over.0 d old.there) found done.there in (
      next,
      ends t g left new (taken k over.0 d 0) done.token.packet item.item.packet
          (sender (wiring_of t) over.0 d) node rule.Overdue done.flies.packet f judges done.stands,
      subst (λ xs. DueAsSent t xs next) (sym flying)
          (due_left t before k over.0 d item done.token.packet (sender (wiring_of t) over.0 d) rule.Overdue old.takes.flight found due),
      first_ends t clock over.0 d k (flying_on k over.0 d) done.token refl done.there (late t clock over.0 item.due done.token sent old.old),
    )

-- 4. Where the first isn't due before the limit none is

later_than : (limit c : ℕ) (xs : List (Item Flown)) → FlyInOrder (keys_in xs) → None ≡ first_before limit (on_channel c xs) →
    (x : Item Flown) → In xs x → x.channel ≡ c → limit ≤ x.due
later_than limit c [] order none x i on = absurd i
later_than limit c (y ∷ ys) order none x i on = elim (eqb_tells y.channel c) [
  | inl q ↦ (let least : limit ≤ y.due =
      not_less_tells y.due limit (passes (nat_lt y.due limit) (none ∙ ap (λ b. first_before limit (cond b (y ∷ on_channel c ys) (on_channel c ys))) q.0)) in
      elim i [
        | inl e ↦ subst (λ (z : Item Flown). limit ≤ z.due) e least
        | inr j ↦ (let after : y.due ≤ x.due = all_in (λ (other : Key). other.channel ≡ y.channel → y.due ≤ other.due) (keys_in ys) (key_of x) order.0
            (map_in key_of ys x j) (on ∙ sym q.1) in
            omega (arith, least, after))
      ])
  | inr q ↦ elim i [
    | inl e ↦ absurd (q.1 (ap (λ (z : Item Flown). z.channel) e ∙ on))
    | inr j ↦ later_than limit c ys order.1 (none ∙ ap (λ b. first_before limit (cond b (y ∷ on_channel c ys) (on_channel c ys))) q.0) x j on
  ]
]
  where
    passes : (b : Bool) → None ≡ cond b (Some y) None → b ≡ false
    passes true e = cc
    passes false e = refl

in_on : (c : ℕ) (xs : List (Item Flown)) (x : Item Flown) → In (on_channel c xs) x → In xs x × (x.channel ≡ c)
in_on c [] x i = absurd i
in_on c (y ∷ ys) x i = by (y.channel == c) refl (in_on c ys x) i
  where
    by : (b : Bool) → (y.channel == c) ≡ b → (In (on_channel c ys) x → In ys x × (x.channel ≡ c)) → In (cond b (y ∷ on_channel c ys) (on_channel c ys)) x →
        In (y ∷ ys) x × (x.channel ≡ c)
    by true e rest i = elim i [
      | inl same ↦ (inl same, ap (λ (z : Item Flown). z.channel) (sym same) ∙ same_numbers y.channel c e)
      | inr j ↦ let r = rest j in (inr r.0, r.1)
    ]
    by false e rest i = let r = rest i in (inr r.0, r.1)

pub ages_none : (t : Network) (clock : ℕ) (m : Moving) (k : Packets) (at limit l : ℕ) (d : Dir) → l < length t.links → limit ≡ limit_on t clock l →
    at ≡ channel l d → None ≡ first_before limit (on_channel at m.flying) → FlyInOrder (keys_in m.flying) → DueAsSent t m.flying k →
    expire_on t clock l d k ≡ k
ages_none t clock m k at limit l d there is e none order due =
    none_ends t clock l d (flying_on k l d) 0 k
    (λ token i. let x = frame_of (λ (x : Item Flown). x.due) (λ (x : Token). x.sent + (link (wiring_of t) l).delay) (on_channel (channel l d) m.flying)
    (flying_on k l d) token (due l d there) i in
    let on = in_on (channel l d) m.flying x.0 x.1 in
    let after : limit ≤ x.0.due = later_than limit at m.flying order none x.0 on.0 (on.1 ∙ sym e) in
    young t clock l x.0.due token x.2 (subst (λ n. n ≤ x.0.due) is after))

-- 5. What flies on

module _ (p : Item Flown → Bool) where
  -- to take one that is to go is to leave those that stay
  gone_alike : (xs : List (Item Flown)) (x : Item Flown) → Ascends xs → IsIn x xs → p x ≡ false → filter p (filter (others x.number) xs) ≡ filter p xs
  gone_alike [] x up i h = refl
  gone_alike (y ∷ ys) x up i h = elim i [
    | inl e ↦ (let gone : others x.number y ≡ false = subst (λ (z : Item Flown). others x.number z ≡ false) e (same_gone x.number) in
        let all : filter (others x.number) ys ≡ ys =
        filter_all (others x.number) ys
        (λ z j. more_stays z.number x.number (subst (λ (n : Item Flown). n.number < z.number) (sym e) (first_below y ys up z j))) in
        let out : p y ≡ false = ap p (sym e) ∙ h in
        rw (gone, all, out) refl)
    | inr j ↦ (let stays : others x.number y ≡ true = less_stays y.number x.number (first_below y ys up x j) in
        rw stays (ap (λ l. cond (p y) (y ∷ l) l) (gone_alike ys x (rest_ascends y ys up) j h)))
  ]

two_filters : (p q s : Item Flown → Bool) (xs : List (Item Flown)) → ((x : Item Flown) → s x ≡ (p x && q x)) → filter q (filter p xs) ≡ filter s xs
two_filters p q s [] h = refl
two_filters p q s (x ∷ xs) h = by (p x) (q x) (s x) refl (h x) (two_filters p q s xs h)
  where
    by : (a b c : Bool) → q x ≡ b → c ≡ (a && b) → filter q (filter p xs) ≡ filter s xs →
        filter q (cond a (x ∷ filter p xs) (filter p xs)) ≡ cond c (x ∷ filter s xs) (filter s xs)
    by true true c e f r = rw (e, f) (ap (λ l. x ∷ l) r)
    by true false c e f r = rw (e, f) r
    by false b c e f r = rw f r

one_filter : (p q : Item Flown → Bool) (xs : List (Item Flown)) → ((x : Item Flown) → p x ≡ q x) → filter p xs ≡ filter q xs
one_filter p q [] h = refl
one_filter p q (x ∷ xs) h =
    ap (λ b. cond b (x ∷ filter p xs) (filter p xs)) (h x) ∙ ap (λ l. cond (q x) (x ∷ l) l) (one_filter p q xs h)

-- those that stay as a direction's old frames end
abbrev pub stays_on : Network → ℕ → ℕ → Item Flown → Bool
stays_on t clock c item = not (ends_on t clock c (key_of item))

pub left_first : (t : Network) (clock l : ℕ) (d : Dir) (m left new : Moving) (at : ℕ) (item : Item Flown) (verdicts : List Verdict) →
    at ≡ channel l d → TakesOld t clock l m left at item → new ≡ record left { verdicts = verdicts } →
    filter (stays_on t clock (channel l d)) new.flying ≡ filter (stays_on t clock (channel l d)) m.flying
left_first t clock l d m left new at item verdicts e old judges =
    let found : slice_get (on_channel (channel l d) m.flying) 0 ≡ Some item =
    subst (λ c. slice_get (on_channel c m.flying) 0 ≡ Some item) e (sym old.takes.found) in
    let on : item.channel ≡ channel l d = is_on (channel l d) m.flying 0 item found in
    let past : is_past t clock (key_of item) ≡ true = past_limit t clock l d item old.there on ∙ less_is item.due (limit_on t clock l) old.old in
    let goes : stays_on t clock (channel l d) item ≡ false =
    ap (λ b. not (b && is_past t clock (key_of item))) (test_same_on item.channel (channel l d) on) ∙ ap not past in
    ap (λ (n : Moving). filter (stays_on t clock (channel l d)) n.flying) judges
    ∙ ap (λ (n : Moving). filter (stays_on t clock (channel l d)) n.flying) old.takes.left
    ∙ gone_alike (stays_on t clock (channel l d)) m.flying item old.takes.flight.ascending (on_it (channel l d) m.flying 0 item found) goes
  where
    test_same_on : (a b : ℕ) → a ≡ b → (a == b) ≡ true
    test_same_on a b e = grind (arith, nat_tests, e)

pub left_none : (t : Network) (clock l : ℕ) (d : Dir) (m new : Moving) (at limit : ℕ) → l < length t.links → limit ≡ limit_on t clock l →
    at ≡ channel l d → None ≡ first_before limit (on_channel at m.flying) → FlyInOrder (keys_in m.flying) → new ≡ record m { spare = new.spare } →
    new.flying ≡ filter (stays_on t clock (channel l d)) m.flying
left_none t clock l d m new at limit there is e none order still =
    ap (λ (n : Moving). n.flying) still ∙ sym (filter_all (stays_on t clock (channel l d)) m.flying (λ x i. one x (in_of m.flying x i)))
  where
    in_of : (xs : List (Item Flown)) (x : Item Flown) → IsIn x xs → In xs x
    in_of [] x i = absurd i
    in_of (y ∷ ys) x i = elim i [ inl e ↦ inl (sym e) | inr j ↦ inr (in_of ys x j) ]

    one : (x : Item Flown) → In m.flying x → stays_on t clock (channel l d) x ≡ true
    one x i = elim (eqb_tells x.channel (channel l d)) [
      | inl q ↦ (let after : limit ≤ x.due = later_than limit at m.flying order none x i (q.1 ∙ sym e) in
          let fresh : is_past t clock (key_of x) ≡ false =
          past_limit t clock l d x there q.1 ∙ not_less x.due (limit_on t clock l) (subst (λ n. n ≤ x.due) is after) in
          ap (λ b. not (b && is_past t clock (key_of x))) q.0 ∙ ap not fresh)
      | inr q ↦ ap (λ b. not (b && is_past t clock (key_of x))) q.0
    ]

pub order_left : (t : Network) (clock c : ℕ) (xs ys : List (Item Flown)) → ys ≡ filter (stays_on t clock c) xs → FlyInOrder (keys_in xs) →
    FlyInOrder (keys_in ys)
order_left t clock c xs ys is order =
    subst (λ l. FlyInOrder (keys_in l)) (sym is)
    (subst FlyInOrder (sym (keys_kept (λ (k : Key). not (ends_on t clock c k)) xs)) (order_kept (λ (k : Key). not (ends_on t clock c k)) (keys_in xs) order))

-- what is taken leaves the others in order
pub order_taken : (t : Network) (clock l : ℕ) (m left new : Moving) (at : ℕ) (item : Item Flown) (verdicts : List Verdict) →
    TakesOld t clock l m left at item → new ≡ record left { verdicts = verdicts } → FlyInOrder (keys_in m.flying) → FlyInOrder (keys_in new.flying)
order_taken t clock l m left new at item verdicts old judges order =
    let flying : new.flying ≡ filter (others item.number) m.flying = ap (λ (n : Moving). n.flying) judges ∙ ap (λ (n : Moving). n.flying) old.takes.left in
    subst (λ xs. FlyInOrder (keys_in xs)) (sym flying)
    (subst FlyInOrder (sym (keys_kept (λ (k : Key). not (k.number == item.number)) m.flying))
    (order_kept (λ (k : Key). not (k.number == item.number)) (keys_in m.flying) order))

-- where none is left that is old, all are done
pub ages_done : (t : Network) (g : Labelling) (clock : ℕ) (m new : Moving) (k : Packets) (at limit l : ℕ) (d : Dir) → l < length t.links →
    limit ≡ limit_on t clock l → at ≡ channel l d → None ≡ first_before limit (on_channel at m.flying) → FlyInOrder (keys_in m.flying) →
    new ≡ record m { spare = new.spare } → AgesTo t g clock m k l d →
    StandsFor t g new (expire_on t clock l d k) × DueAsSent t new.flying (expire_on t clock l d k)
ages_done t g clock m new k at limit l d there is e none order still ages =
    let done : ages.0 ≡ expire_on t clock l d k = sym (ages_none t clock m ages.0 at limit l d there is e none order ages.2) ∙ ages.3 in (
      subst (StandsFor t g new) done (stands_still t g m new ages.0 new.spare still ages.1),
      subst (DueAsSent t new.flying) done (subst (λ xs. DueAsSent t xs ages.0) (sym (ap (λ (n : Moving). n.flying) still)) ages.2),
    )

-- 6. All links

-- those that stay once the links below a number are done
abbrev pub stays_below : Network → ℕ → ℕ → Item Flown → Bool
stays_below t clock i item = not (nat_lt item.channel (2 * i) && is_past t clock (key_of item))

pub below_none : (t : Network) (clock : ℕ) (xs : List (Item Flown)) → xs ≡ filter (stays_below t clock 0) xs
below_none t clock xs =
    sym (filter_all (stays_below t clock 0) xs (λ x i. ap (λ b. not (b && is_past t clock (key_of x))) (not_less x.channel 0 (omega arith))))

either : (x y p : Bool) → not ((x || y) && p) ≡ (not (x && p) && not (y && p))
either true y true = refl
either false y p = refl
either true true false = refl
either true false false = refl

below_more : (c i : ℕ) → nat_lt c (2 * (i + 1)) ≡ (nat_lt c (2 * i) || ((c == 2 * i) || (c == 2 * i + 1)))
below_more c i = grind (arith, nat_tests)

pub below_next : (t : Network) (clock i : ℕ) (xs m forth back : List (Item Flown)) → m ≡ filter (stays_below t clock i) xs →
    forth ≡ filter (stays_on t clock (channel i Forth)) m → back ≡ filter (stays_on t clock (channel i Back)) forth →
    back ≡ filter (stays_below t clock (i + 1)) xs
below_next t clock i xs m forth back e f g =
    g ∙ ap (filter (stays_on t clock (channel i Back))) f
    ∙ two_filters (stays_on t clock (channel i Forth)) (stays_on t clock (channel i Back)) two m (λ x. refl) ∙ ap (filter two) e
    ∙ two_filters (stays_below t clock i) two (stays_below t clock (i + 1)) xs (λ x. all x)
  where
    two : Item Flown → Bool
    two x = stays_on t clock (channel i Forth) x && stays_on t clock (channel i Back) x

    all : (x : Item Flown) → stays_below t clock (i + 1) x ≡ (stays_below t clock i x && two x)
    all x =
        ap (λ b. not (b && is_past t clock (key_of x))) (below_more x.channel i)
        ∙ either (nat_lt x.channel (2 * i)) ((x.channel == 2 * i) || (x.channel == 2 * i + 1)) (is_past t clock (key_of x))
        ∙ ap (λ b. stays_below t clock i x && b) (either (x.channel == 2 * i) (x.channel == 2 * i + 1) (is_past t clock (key_of x)))

pub below_all : (t : Network) (clock n : ℕ) (xs m : List (Item Flown)) → n ≡ length t.links → m ≡ filter (stays_below t clock n) xs →
    m ≡ filter (λ (x : Item Flown). not (is_past t clock (key_of x))) xs
below_all t clock n xs m is e =
    e ∙ ap (λ n. filter (stays_below t clock n) xs) is
    ∙ one_filter (stays_below t clock (length t.links)) (λ (x : Item Flown). not (is_past t clock (key_of x))) xs
    (λ x. ap not (twice (nat_lt x.channel (2 * length t.links)) (nat_lt (x.due + (link_on t x.channel).life) (clock + (link_on t x.channel).delay))))
  where
    twice : (a b : Bool) → (a && (a && b)) ≡ (a && b)
    twice true b = refl
    twice false b = refl

-- what is left stands for packets of which the links from a number on are still to be done
abbrev pub AgesFrom : Network → Labelling → ℕ → Moving → Packets → ℕ → Type 0
AgesFrom t g clock m k i = (next : Packets) × StandsFor t g m next × DueAsSent t m.flying next
    × (expire_over t clock (range_with_len i (length t.links - i)) next ≡ expire t clock (record k { clock = clock }))

pub ages_start : (t : Network) (g : Labelling) (clock : ℕ) (m : Moving) (k : Packets) → StandsFor t g m k → DueAsSent t m.flying k → AgesFrom t g clock m k 0
ages_start t g clock m k stands due =
    let next : Packets = record k { clock = clock } in
    let later : StandsFor t g m next = record {
      verdicts = stands.verdicts;
      paths = stands.paths;
      copies = stands.copies;
      delivered = stands.delivered;
      frames = stands.frames;
    } in
    let all : length t.links - 0 ≡ length t.links = omega arith in
    (next, later, due, ap (λ n. expire_over t clock (range_with_len 0 n) next) all)

pub ages_next : (t : Network) (g : Labelling) (clock i : ℕ) (m forth back : Moving) (k : Packets) → i < length t.links →
    ((g : Labelling) (q : Packets) → StandsFor t g m q → DueAsSent t m.flying q →
    StandsFor t g forth (expire_on t clock i Forth q) × DueAsSent t forth.flying (expire_on t clock i Forth q)) →
    ((g : Labelling) (q : Packets) → StandsFor t g forth q → DueAsSent t forth.flying q →
    StandsFor t g back (expire_on t clock i Back q) × DueAsSent t back.flying (expire_on t clock i Back q)) →
    AgesFrom t g clock m k i → AgesFrom t g clock back k (i + 1)
ages_next t g clock i m forth back k there one two ages =
    let next : Packets = ages.0 in
    let first = one g next ages.1 ages.2 in
    let second = two g (expire_on t clock i Forth next) first.0 first.1 in
    let fewer : length t.links - i ≡ suc (length t.links - (i + 1)) = omega (arith, there) in (
      expire_on t clock i Back (expire_on t clock i Forth next),
      second.0,
      second.1,
      sym (ap (λ n. expire_over t clock (range_with_len i n) next) fewer) ∙ ages.3,
    )

pub ages_end : (t : Network) (g : Labelling) (clock n : ℕ) (m : Moving) (k : Packets) → n ≡ length t.links → AgesFrom t g clock m k n →
    StandsFor t g m (expire t clock (record k { clock = clock }))
ages_end t g clock n m k is ages =
    let none : length t.links - n ≡ 0 = omega (arith, is) in
    subst (StandsFor t g m) (sym (ap (λ i. expire_over t clock (range_with_len n i) ages.0) none) ∙ ages.3) ages.1

-- 7. Where nothing flies

nothing_sent : (f : Token → ℕ) (ks : List Token) → [] ≡ map f ks → ks ≡ []
nothing_sent f [] e = refl
nothing_sent f (k ∷ ks) e = cc

over_none : (t : Network) (clock : ℕ) (k : Packets) (i n : ℕ) → i + n ≤ length t.links →
    ((l : ℕ) (d : Dir) → l < length t.links → flying_on k l d ≡ []) → expire_over t clock (range_with_len i n) k ≡ k
over_none t clock k i zero few none = refl
over_none t clock k i (suc n) few none =
    let there : i < length t.links = omega (arith, few) in
    let forth : expire_on t clock i Forth k ≡ k = ap (λ ks. expire_from t clock i Forth 0 ks k) (none i Forth there) in
    let back : expire_on t clock i Back k ≡ k = ap (λ ks. expire_from t clock i Back 0 ks k) (none i Back there) in
    ap (λ q. expire_over t clock (range_with_len (i + 1) n) (expire_on t clock i Back q)) forth
    ∙ ap (expire_over t clock (range_with_len (i + 1) n)) back ∙ over_none t clock k (i + 1) n (omega (arith, few)) none

pub no_items : (xs : List (Item Flown)) → length xs ≡ 0 → xs ≡ []
no_items [] e = refl
no_items (x ∷ xs) e = cc

-- where nothing flies nothing ends
pub nothing_ages : (t : Network) (g : Labelling) (clock : ℕ) (m : Moving) (k : Packets) → m.flying ≡ [] → StandsFor t g m k → DueAsSent t m.flying k →
    StandsFor t g m (expire t clock (record k { clock = clock }))
nothing_ages t g clock m k none stands due =
    let ages = ages_start t g clock m k stands due in
    let next : Packets = ages.0 in
    let empty : (l : ℕ) (d : Dir) → l < length t.links → flying_on next l d ≡ [] = λ l d there.
    nothing_sent (λ (x : Token). x.sent + (link (wiring_of t) l).delay) (flying_on next l d)
    (subst (λ xs. map (λ (x : Item Flown). x.due) (on_channel (channel l d) xs)
    ≡ map (λ (x : Token). x.sent + (link (wiring_of t) l).delay) (flying_on next l d))
    none (ages.2 l d there)) in
    subst (StandsFor t g m) (sym (over_none t clock next 0 (length t.links - 0) (omega arith) empty) ∙ ages.3) ages.1
