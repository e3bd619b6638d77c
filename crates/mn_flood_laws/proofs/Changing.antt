-- A link comes up or goes down.
use Rattle.std.proofs.Common.{ℕ, zero, suc, ◌≡◌, ◌≢◌, ◌<◌, ◌≤◌, ◌⊎◌, inl, inr, Bool, true, false, cond, List, [], ◌∷◌, ◌++◌, map, length, get_or, Some, None}
use Rattle.std.proofs.Common.{Option, Contains, filter}
use Rattle.std.proofs.Common.{refl, arith, sym, ◌∙◌, ap, subst, get_or-set_same, get_or-set_other, length-set}
use Rattle.std.specs.Prelude.{◌==◌, not}
use Rattle.std.proofs.lemmas.Bool.Decides.{eqb_tells}
use Rattle.mn_base.proofs.Bools.{no, none_below, not_true}
use Rattle.mn_base.proofs.Members.{In, in_contained, contained_in, in_append, in_front, in_rest, in_map, map_in, in_filter, filter_in}
use Rattle.mn_wiring.specs.Wiring.{Wiring, is_up, link, is_end, links_at, sender, receiver, JoinsNodes, EndsDiffer}
use Rattle.mn_wiring.specs.declared.links.Dir.{Dir}
use Rattle.mn_wiring.specs.declared.links.Dir.TheVariants.{Forth, Back}
use Rattle.mn_flood_laws.specs.Flood.{Advert, Sent, FloodWorld, has, keep, age, away, sent_over, others_up, adverts_in, adverts_of, renewal, sends, turned}
use Rattle.mn_flood_laws.specs.Flood.{renewed, changed}
use Rattle.mn_flood_laws.specs.Laws.{FliesAsNew, ReachesTheFarEnd, IsCopy, HasItsOwn, IsOnItsWay, IsFlood}
use Rattle.mn_flood_laws.proofs.Kept.{Elsewhere, here_or_elsewhere, has_kept, has_still, columns_still, rows_still}
use Rattle.mn_flood_laws.proofs.Ends.{sender_ends, sends_away, among_others, of_others, node_at, away_of}
use Rattle.mn_flood_laws.proofs.Sending.{some_same, none_some}

-- 1. All that a node has

pub in_adverts : (row : List (Option Advert)) (o : ℕ) (advert : Advert) → get_or row o None ≡ Some advert → In (adverts_in row) advert
in_adverts [] o advert e = absurd (none_some advert e)
in_adverts (None ∷ row) zero advert e = absurd (none_some advert e)
in_adverts (None ∷ row) (suc o) advert e = in_adverts row o advert e
in_adverts (Some x ∷ row) zero advert e = inl (some_same x advert e)
in_adverts (Some x ∷ row) (suc o) advert e = inr (in_adverts row o advert e)

pub adverts_at : (row : List (Option Advert)) (advert : Advert) → In (adverts_in row) advert → (o : ℕ) × (o < length row) × (get_or row o None ≡ Some advert)
adverts_at [] advert i = absurd i
adverts_at (None ∷ row) advert i = let f = adverts_at row advert i in (suc f.0, omega (arith, f.1), f.2)
adverts_at (Some x ∷ row) advert i = elim i [
  | inl e ↦ (0, omega arith, ap (λ y. Some y) e)
  | inr j ↦ let f = adverts_at row advert j in (suc f.0, omega (arith, f.1), f.2)
]

-- 2. Filters that agree on members

filter_same : {A : Type 0} (p q : A → Bool) (xs : List A) → ((x : A) → In xs x → p x ≡ q x) → filter p xs ≡ filter q xs
filter_same p q [] h = refl
filter_same p q (x ∷ xs) h = ap (λ b. cond b (x ∷ filter p xs) (filter p xs)) (h x (inl refl))
    ∙ ap (λ ys. cond (q x) (x ∷ ys) ys) (filter_same p q xs (λ y i. h y (inr i)))

same_age : (one other : Option Advert) → one ≡ other → age one ≤ age other
same_age one other e = omega (arith, ap age e)

module _ (wiring : Wiring) (joins : JoinsNodes wiring) (differ : EndsDiffer wiring) (world : FloodWorld) (flood : IsFlood wiring world)
    (l : ℕ) (within : l < length wiring.ends) (up : Bool) where
  abbrev pub end_a : ℕ
  end_a = (link wiring l).a.0

  abbrev pub end_b : ℕ
  end_b = (link wiring l).b.0

  abbrev pub now : FloodWorld
  now = turned world l up

  abbrev pub one : Advert
  one = renewal wiring now end_a

  abbrev pub two : Advert
  two = renewal wiring now end_b

  abbrev pub half : FloodWorld
  half = keep now end_a one

  abbrev pub new_world : FloodWorld
  new_world = changed wiring world l up

  a_within : end_a < length wiring.loopbacks
  a_within = (joins l within).0

  b_within : end_b < length wiring.loopbacks
  b_within = (joins l within).1

  -- 3. What nodes have

  row_a : end_a < length now.kept
  row_a = subst (λ n. end_a < n) (sym flood.rows) a_within

  half_rows : length half.kept ≡ length wiring.loopbacks
  half_rows = rows_still now end_a one ∙ flood.rows

  half_columns : (x : ℕ) → x < length wiring.loopbacks → length (get_or half.kept x []) ≡ length wiring.loopbacks
  half_columns = columns_still now end_a one row_a (length wiring.loopbacks) flood.columns

  row_b : end_b < length half.kept
  row_b = subst (λ n. end_b < n) (sym half_rows) b_within

  pub at_b : has new_world end_b end_b ≡ Some two
  at_b = has_kept half end_b two row_b (subst (λ n. end_b < n) (sym (half_columns end_b b_within)) b_within)

  not_b : (x o : ℕ) → Elsewhere end_b end_b x o → has new_world x o ≡ has half x o
  not_b x o apart = has_still half end_b two row_b x o apart

  pub at_a : has new_world end_a end_a ≡ Some one
  at_a = not_b end_a end_a (inl (differ l within))
      ∙ has_kept now end_a one row_a (subst (λ n. end_a < n) (sym (flood.columns end_a a_within)) a_within)

  not_a : (x o : ℕ) → Elsewhere end_a end_a x o → has half x o ≡ has world x o
  not_a x o apart = has_still now end_a one row_a x o apart

  -- a new one of the end itself, or what was
  pub cells : (x o : ℕ) → ((x ≡ end_a) × (o ≡ end_a)) ⊎ ((x ≡ end_b) × (o ≡ end_b)) ⊎ (has new_world x o ≡ has world x o)
  cells x o = elim (here_or_elsewhere end_b end_b x o) [
    | inl e ↦ inr (inl e)
    | inr apart ↦ elim (here_or_elsewhere end_a end_a x o) [
      | inl e ↦ inl e
      | inr other ↦ inr (inr (not_b x o apart ∙ not_a x o other))
    ]
  ]

  older_a : age (has world end_a end_a) < age (has new_world end_a end_a)
  older_a = omega (arith, ap age at_a)

  older_b : age (has world end_b end_b) < age (has new_world end_b end_b)
  older_b = omega (arith, ap age at_b)

  pub never_older : (x o : ℕ) → age (has world x o) ≤ age (has new_world x o)
  never_older x o = elim (cells x o) [
    | inl e ↦ subst (λ y. age (has world y o) ≤ age (has new_world y o)) (sym e.0)
        (subst (λ q. age (has world end_a q) ≤ age (has new_world end_a q)) (sym e.1) (omega (arith, older_a)))
    | inr r ↦ elim r [
      | inl e ↦ subst (λ y. age (has world y o) ≤ age (has new_world y o)) (sym e.0)
          (subst (λ q. age (has world end_b q) ≤ age (has new_world end_b q)) (sym e.1) (omega (arith, older_b)))
      | inr same ↦ omega (arith, ap age same)
    ]
  ]

  -- a copy is one of what is newer too
  newer_copy : (o : ℕ) (advert : Advert) → age (has world o o) < age (has new_world o o) → IsCopy (has world o o) advert → IsCopy (has new_world o o) advert
  newer_copy o advert h c = record { no_newer = omega (arith, h, c.no_newer); same = λ e. absurd (less e) }
    where
      less : age (Some advert) ≡ age (has new_world o o) → ⊥
      less e = omega (arith, h, c.no_newer, e)

  copy_still : (o : ℕ) (advert : Advert) → IsCopy (has world o o) advert → IsCopy (has new_world o o) advert
  copy_still o advert c = elim (cells o o) [
    | inl e ↦ newer_copy o advert (subst (λ q. age (has world q q) < age (has new_world q q)) (sym e.0) older_a) c
    | inr r ↦ elim r [
      | inl e ↦ newer_copy o advert (subst (λ q. age (has world q q) < age (has new_world q q)) (sym e.0) older_b) c
      | inr same ↦ subst (λ own. IsCopy own advert) (sym same) c
    ]
  ]

  of_itself : (x : ℕ) (advert : Advert) → has new_world x x ≡ Some advert → IsCopy (has new_world x x) advert
  of_itself x advert e = record { no_newer = same_age (Some advert) (has new_world x x) (sym e); same = λ q. e }

  named_still : (x o : ℕ) (advert : Advert) → x < length wiring.loopbacks → o < length wiring.loopbacks → has new_world x o ≡ Some advert → advert.origin ≡ o
  named_still x o advert h g e = elim (cells x o) [
    | inl q ↦ ap (λ a. a.origin) (sym (some_same one advert (sym at_a ∙ sym (ap (λ y. has new_world y o) q.0 ∙ ap (has new_world end_a) q.1) ∙ e))) ∙ sym q.1
    | inr r ↦ elim r [
      | inl q ↦ ap (λ a. a.origin) (sym (some_same two advert (sym at_b ∙ sym (ap (λ y. has new_world y o) q.0 ∙ ap (has new_world end_b) q.1) ∙ e))) ∙ sym q.1
      | inr same ↦ flood.named x o advert h g (sym same ∙ e)
    ]
  ]

  copies_still : (x o : ℕ) (advert : Advert) → x < length wiring.loopbacks → o < length wiring.loopbacks → has new_world x o ≡ Some advert →
      IsCopy (has new_world o o) advert
  copies_still x o advert h g e = elim (cells x o) [
    | inl q ↦ of_itself o advert (ap (λ y. has new_world y o) (q.1 ∙ sym q.0) ∙ e)
    | inr r ↦ elim r [
      | inl q ↦ of_itself o advert (ap (λ y. has new_world y o) (q.1 ∙ sym q.0) ∙ e)
      | inr same ↦ copy_still o advert (flood.copies x o advert h g (sym same ∙ e))
    ]
  ]

  -- 4. Links

  is_so : is_up new_world.up l ≡ up
  is_so = get_or-set_same world.up l up false (subst (λ n. l < n) (sym flood.links) within)

  other_link : (k : ℕ) → k ≢ l → is_up new_world.up k ≡ is_up world.up k
  other_link k apart = get_or-set_other world.up l k up false apart

  own_still : (x : ℕ) → x < length wiring.loopbacks → HasItsOwn wiring new_world x
  own_still x h = elim (eqb_tells x end_a) [
    | inl e ↦ subst (HasItsOwn wiring new_world) (sym e.1) (record { advert = one; kept = at_a; links = refl })
    | inr e ↦ elim (eqb_tells x end_b) [
      | inl f ↦ subst (HasItsOwn wiring new_world) (sym f.1) (record { advert = two; kept = at_b; links = refl })
      | inr f ↦ let own = flood.own x h in record {
        advert = own.advert;
        kept = not_b x x (inl f.1) ∙ not_a x x (inl e.1) ∙ own.kept;
        links = own.links ∙ filter_same (is_up world.up) (is_up new_world.up) (links_at wiring x) (λ k i. sym (other_link k (elsewhere k i e.1 f.1)));
      }
    ]
  ]
    where
      elsewhere : (k : ℕ) → In (links_at wiring x) k → x ≢ end_a → x ≢ end_b → k ≢ l
      elsewhere k i d c q = elim (one_of (subst (λ j. is_end wiring j x ≡ true) q (node_at wiring k x i).1)) [ inl e ↦ d (sym e) | inr e ↦ c (sym e) ]
        where
          one_of : is_end wiring l x ≡ true → (end_a ≡ x) ⊎ (end_b ≡ x)
          one_of h = elim (Rattle.mn_base.proofs.Bools.or_ways (end_a == x) (end_b == x) h) [
            | inl g ↦ inl (Rattle.mn_base.proofs.Bools.same_numbers end_a x g)
            | inr g ↦ inr (Rattle.mn_base.proofs.Bools.same_numbers end_b x g)
          ]

  -- 5. What flies

  abbrev pub sends_a : List Sent
  sends_a = sends wiring (renewed wiring now l) l up end_a one

  abbrev pub sends_b : List Sent
  sends_b = sends wiring (renewed wiring now l) l up end_b two

  -- an end is one of the two, and has renewed its own
  abbrev pub IsRenewed : ℕ → Advert → Type 0
  IsRenewed x own = (x < length wiring.loopbacks) × (is_end wiring l x ≡ true) × (has new_world x x ≡ Some own) × (own.origin ≡ x)

  renewed_a : IsRenewed end_a one
  renewed_a = (a_within, sender_ends wiring l Forth, at_a, refl)

  renewed_b : IsRenewed end_b two
  renewed_b = (b_within, sender_ends wiring l Back, at_b, refl)

  sent_all : (x : ℕ) (own : Advert) → IsRenewed x own → up ≡ true → (advert : Advert) → In (adverts_of (renewed wiring now l) x) advert →
      IsOnItsWay wiring new_world (sent_over wiring x advert l)
  sent_all x own r on advert i =
      let f = adverts_at (get_or (renewed wiring now l).kept x []) advert i in
      let h : f.0 < length wiring.loopbacks = subst (λ n. f.0 < n) (columns x r.0) f.1 in
      let named : advert.origin ≡ f.0 = named_still x f.0 advert r.0 h f.2 in
      record {
        link = within;
        up = is_so ∙ on;
        origin = subst (λ o. o < length wiring.loopbacks) (sym named) h;
        copy = subst (λ o. IsCopy (has new_world o o) advert) (sym named) (copies_still x f.0 advert r.0 h f.2);
        sender = same_age (Some advert) (has new_world (sender wiring l (away wiring l x)) advert.origin)
            (sym f.2 ∙ ap (has new_world x) (sym named) ∙ ap (λ y. has new_world y advert.origin) (sym (sends_away wiring l x r.1)));
      }
    where
      columns : (x : ℕ) → x < length wiring.loopbacks → length (get_or (renewed wiring now l).kept x []) ≡ length wiring.loopbacks
      columns = columns_still half end_b two row_b (length wiring.loopbacks) half_columns

  sent_own : (x : ℕ) (own : Advert) → IsRenewed x own → (k : ℕ) → In (others_up wiring new_world.up x l) k →
      IsOnItsWay wiring new_world (sent_over wiring x own k)
  sent_own x own r k i = let f = of_others wiring new_world.up l x k i in record {
    link = f.0;
    up = f.2;
    origin = subst (λ o. o < length wiring.loopbacks) (sym r.3) r.0;
    copy = subst (λ o. IsCopy (has new_world o o) own) (sym r.3) (of_itself x own r.2);
    sender = same_age (Some own) (has new_world (sender wiring k (away wiring k x)) own.origin)
        (sym r.2 ∙ ap (has new_world x) (sym r.3) ∙ ap (λ y. has new_world y own.origin) (sym (sends_away wiring k x f.1)));
  }

  abbrev pub all_over : ℕ → Bool → List Sent
  all_over x b = cond b (map (λ advert. sent_over wiring x advert l) (adverts_of (renewed wiring now l) x)) []

  sent_by : (x : ℕ) (own : Advert) → IsRenewed x own → (other : Sent) → In (sends wiring (renewed wiring now l) l up x own) other →
      IsOnItsWay wiring new_world other
  sent_by x own r other i = elim (in_append (all_over x up) (map (sent_over wiring x own) (others_up wiring new_world.up x l)) other i) [
    | inl j ↦ over_it up refl j
    | inr j ↦ let f = in_map (sent_over wiring x own) (others_up wiring new_world.up x l) other j in subst (IsOnItsWay wiring new_world) f.2
        (sent_own x own r f.0 f.1)
  ]
    where
      over_it : (b : Bool) → up ≡ b → In (all_over x b) other → IsOnItsWay wiring new_world other
      over_it true e j = let f = in_map (λ advert. sent_over wiring x advert l) (adverts_of (renewed wiring now l) x) other j in
          subst (IsOnItsWay wiring new_world) f.2 (sent_all x own r e f.0 f.1)
      over_it false e j = absurd j

  -- what flew and still does is on a link that is up
  flew_on : (other : Sent) → In now.flying other → In world.flying other × (is_up new_world.up other.link ≡ true)
  flew_on other i = by up refl i
    where
      still_up : In world.flying other → other.link ≢ l → is_up new_world.up other.link ≡ true
      still_up j apart = other_link other.link apart ∙ (flood.flights other (contained_in world.flying other j)).up

      by : (b : Bool) → up ≡ b → In (cond b world.flying (filter (λ sent. not (sent.link == l)) world.flying)) other →
          In world.flying other × (is_up new_world.up other.link ≡ true)
      by true e j = (
        j,
        elim (eqb_tells other.link l) [
          | inl q ↦ ap (is_up new_world.up) q.1 ∙ is_so ∙ e
          | inr q ↦ still_up j q.1
        ],
      )
      by false e j = let f = in_filter (λ sent. not (sent.link == l)) world.flying other j in
          (f.0, still_up f.0 (Rattle.mn_base.proofs.Bools.unlike_numbers other.link l f.1))

  left_on : (other : Sent) → In now.flying other → IsOnItsWay wiring new_world other
  left_on other i =
      let f = flew_on other i in
      let g = flood.flights other (contained_in world.flying other f.0) in
      record {
        link = g.link;
        up = f.1;
        origin = g.origin;
        copy = copy_still other.advert.origin other.advert g.copy;
        sender = omega (arith, g.sender, never_older (sender wiring other.link other.dir) other.advert.origin);
      }

  on_their_way : (other : Sent) → Contains new_world.flying other → IsOnItsWay wiring new_world other
  on_their_way other c = elim (in_append now.flying (sends_a ++ sends_b) other (in_contained new_world.flying other c)) [
    | inl i ↦ left_on other i
    | inr i ↦ elim (in_append sends_a sends_b other i) [
      | inl j ↦ sent_by end_a one renewed_a other j
      | inr j ↦ sent_by end_b two renewed_b other j
    ]
  ]

  flies_from : (x : ℕ) (own : Advert) → IsRenewed x own → ((x ≡ end_a) × (own ≡ one)) ⊎ ((x ≡ end_b) × (own ≡ two)) → (other : Sent) →
      In (sends wiring (renewed wiring now l) l up x own) other → Contains new_world.flying other
  flies_from x own r (inl e) other i = contained_in new_world.flying other (in_rest now.flying (sends_a ++ sends_b) other
      (in_front sends_a sends_b other (subst (λ y. In (sends wiring (renewed wiring now l) l up y one) other) e.0
      (subst (λ z. In (sends wiring (renewed wiring now l) l up x z) other) e.1 i))))
  flies_from x own r (inr e) other i = contained_in new_world.flying other (in_rest now.flying (sends_a ++ sends_b) other
      (in_rest sends_a sends_b other (subst (λ y. In (sends wiring (renewed wiring now l) l up y two) other) e.0
      (subst (λ z. In (sends wiring (renewed wiring now l) l up x z) other) e.1 i))))

  -- 6. The far end has it, or it flies

  -- over the link itself: all that an end has flies
  over_the_link : (x : ℕ) (own : Advert) → IsRenewed x own → ((x ≡ end_a) × (own ≡ one)) ⊎ ((x ≡ end_b) × (own ≡ two)) → up ≡ true →
      (d : Dir) → sender wiring l d ≡ x → (o : ℕ) → o < length wiring.loopbacks → (had : Option Advert) → has new_world x o ≡ had →
      (age (has new_world x o) ≤ age (has new_world (receiver wiring l d) o)) ⊎ FliesAsNew new_world l d o (age (has new_world x o))
  over_the_link x own r which on d e o h None q = inl (omega (arith, ap age q))
  over_the_link x own r which on d e o h (Some advert) q = inr (record {
    sent = sent_over wiring x advert l;
    flies = flies_from x own r which (sent_over wiring x advert l)
        (in_front (cond up (map (λ z. sent_over wiring x z l) (adverts_of (renewed wiring now l) x)) [])
        (map (sent_over wiring x own) (others_up wiring new_world.up x l))
        (sent_over wiring x advert l)
        (subst (λ b. In (cond b (map (λ z. sent_over wiring x z l) (adverts_of (renewed wiring now l) x)) []) (sent_over wiring x advert l)) (sym on)
        (map_in (λ z. sent_over wiring x z l) (adverts_of (renewed wiring now l) x) advert (in_adverts (get_or (renewed wiring now l).kept x []) o advert q))));
    link = refl;
    dir = ap (away wiring l) (sym e) ∙ away_of wiring joins differ l d within;
    origin = named_still x o advert r.0 h q;
    new = same_age (has new_world x o) (Some advert) q;
  })

  -- over another link flies what the end has of itself
  own_over : (x : ℕ) (own : Advert) → IsRenewed x own → ((x ≡ end_a) × (own ≡ one)) ⊎ ((x ≡ end_b) × (own ≡ two)) → (k : ℕ) (d : Dir) →
      k < length wiring.ends → is_up new_world.up k ≡ true → k ≢ l → sender wiring k d ≡ x → FliesAsNew new_world k d x (age (has new_world x x))
  own_over x own r which k d h u apart e = record {
    sent = sent_over wiring x own k;
    flies = flies_from x own r which (sent_over wiring x own k)
        (in_rest (cond up (map (λ z. sent_over wiring x z l) (adverts_of (renewed wiring now l) x)) [])
        (map (sent_over wiring x own) (others_up wiring new_world.up x l))
        (sent_over wiring x own k)
        (map_in (sent_over wiring x own) (others_up wiring new_world.up x l) k
        (among_others wiring new_world.up l x k h (subst (λ y. is_end wiring k y ≡ true) e (sender_ends wiring k d)) u apart)));
    link = refl;
    dir = ap (away wiring k) (sym e) ∙ away_of wiring joins differ k d h;
    origin = r.3;
    new = same_age (has new_world x x) (Some own) r.2;
  }

  abbrev pub Reached : ℕ → Dir → ℕ → Type 0
  Reached k d o =
      (age (has new_world (sender wiring k d) o) ≤ age (has new_world (receiver wiring k d) o))
      ⊎ FliesAsNew new_world k d o (age (has new_world (sender wiring k d) o))

  own_reaches : (x : ℕ) (own : Advert) → IsRenewed x own → ((x ≡ end_a) × (own ≡ one)) ⊎ ((x ≡ end_b) × (own ≡ two)) → (k : ℕ) (d : Dir) (o : ℕ) →
      k < length wiring.ends → is_up new_world.up k ≡ true → k ≢ l → sender wiring k d ≡ x → o ≡ x → Reached k d o
  own_reaches x own r which k d o h u apart e q =
      subst (Reached k d) (sym q)
      (subst (λ y. (age (has new_world y x) ≤ age (has new_world (receiver wiring k d) x)) ⊎ FliesAsNew new_world k d x (age (has new_world y x))) (sym e)
      (inr (own_over x own r which k d h u apart e)))

  -- what flew on another link still does
  flies_still : (k : ℕ) (other : Sent) → k ≢ l → other.link ≡ k → In world.flying other → Contains new_world.flying other
  flies_still k other apart e i = contained_in new_world.flying other (in_front now.flying (sends_a ++ sends_b) other (by up))
    where
      by : (b : Bool) → In (cond b world.flying (filter (λ sent. not (sent.link == l)) world.flying)) other
      by true = i
      by false = filter_in (λ sent. not (sent.link == l)) world.flying other i (elim (eqb_tells other.link l) [
        | inl q ↦ absurd (apart (sym e ∙ q.1))
        | inr q ↦ ap not q.0
      ])

  was_so : (k : ℕ) (d : Dir) (o : ℕ) → k ≢ l → has new_world (sender wiring k d) o ≡ has world (sender wiring k d) o →
      (age (has world (sender wiring k d) o) ≤ age (has world (receiver wiring k d) o)) ⊎ FliesAsNew world k d o (age (has world (sender wiring k d) o)) →
      Reached k d o
  was_so k d o apart same (inl h) = inl (omega (arith, h, ap age same, never_older (receiver wiring k d) o))
  was_so k d o apart same (inr f) = inr (record {
    sent = f.sent;
    flies = flies_still k f.sent apart f.link (in_contained world.flying f.sent f.flies);
    link = f.link;
    dir = f.dir;
    origin = f.origin;
    new = omega (arith, f.new, ap age same);
  })

  on_others : (k : ℕ) (d : Dir) (o : ℕ) → k < length wiring.ends → is_up new_world.up k ≡ true → o < length wiring.loopbacks → k ≢ l → Reached k d o
  on_others k d o h u g apart = elim (cells (sender wiring k d) o) [
    | inl e ↦ own_reaches end_a one renewed_a (inl (refl, refl)) k d o h u apart e.0 e.1
    | inr r ↦ elim r [
      | inl e ↦ own_reaches end_b two renewed_b (inr (refl, refl)) k d o h u apart e.0 e.1
      | inr same ↦ was_so k d o apart same (flood.reaches k d o h (sym (other_link k apart) ∙ u) g)
    ]
  ]

  on_it : (d : Dir) (o : ℕ) → up ≡ true → o < length wiring.loopbacks → Reached l d o
  on_it Forth o on g = over_the_link end_a one renewed_a (inl (refl, refl)) on Forth refl o g (has new_world end_a o) refl
  on_it Back o on g = over_the_link end_b two renewed_b (inr (refl, refl)) on Back refl o g (has new_world end_b o) refl

  reaches_still : ReachesTheFarEnd wiring new_world
  reaches_still k d o h u g = elim (eqb_tells k l) [
    | inr e ↦ on_others k d o h u g e.1
    | inl e ↦ subst (λ j. Reached j d o) (sym e.1) (on_it d o (sym is_so ∙ ap (is_up new_world.up) (sym e.1) ∙ u) g)
  ]

  pub changed_keeps : IsFlood wiring (changed wiring world l up)
  changed_keeps = record {
    links = length-set world.up l up ∙ flood.links;
    rows = rows_still half end_b two ∙ half_rows;
    columns = columns_still half end_b two row_b (length wiring.loopbacks) half_columns;
    own = own_still;
    named = named_still;
    copies = copies_still;
    flights = on_their_way;
    reaches = reaches_still;
  }
