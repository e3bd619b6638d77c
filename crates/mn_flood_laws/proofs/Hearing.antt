-- A node receives an advert.
use Rattle.std.proofs.Common.{ℕ, ◌≡◌, ◌≢◌, ◌<◌, ◌≤◌, ◌⊎◌, inl, inr, Bool, true, false, cond, List, [], map, length, get_or, Some, None, Option, Contains}
use Rattle.std.proofs.Common.{refl, arith, sym, ◌∙◌, ap, subst}
use Rattle.std.proofs.lemmas.Bool.Decides.{eqb_tells}
use Rattle.mn_base.proofs.Bools.{less_tells, not_less_tells, clash}
use Rattle.mn_base.proofs.Members.{In, in_contained, contained_in, in_append, in_front, in_rest, in_map, map_in}
use Rattle.mn_wiring.specs.Wiring.{Wiring, is_up, is_end, sender, receiver, JoinsNodes, EndsDiffer}
use Rattle.mn_wiring.specs.declared.links.Dir.{Dir}
use Rattle.mn_flood_laws.specs.Flood.{Advert, Sent, FloodWorld, has, age, away, sent_over, others_up, first_on, without_first, is_news, spread, heard_by, heard}
use Rattle.mn_flood_laws.specs.Laws.{FliesAsNew, ReachesTheFarEnd, IsCopy, IsOnItsWay, IsFlood}
use Rattle.mn_flood_laws.proofs.Kept.{Elsewhere, here_or_elsewhere, has_kept, has_still, columns_still, rows_still}
use Rattle.mn_flood_laws.proofs.Ends.{sender_ends, sends_away, among_others, of_others, receiver_within, away_of, turned_round}
use Rattle.mn_flood_laws.proofs.Sending.{on_link, in_direction, first_flies, left_flew, first_or_left, some_same}

pub news_tells : (old : Option Advert) (advert : Advert) → is_news old advert ≡ true → age old < age (Some advert)
news_tells None advert h = omega arith
news_tells (Some old) advert h = omega (arith, less_tells old.number advert.number h)

pub no_news_tells : (old : Option Advert) (advert : Advert) → is_news old advert ≡ false → age (Some advert) ≤ age old
no_news_tells None advert h = absurd (clash h)
no_news_tells (Some old) advert h = omega (arith, not_less_tells old.number advert.number h)

-- as new where it is the same
same_age : (one other : Option Advert) → one ≡ other → age one ≤ age other
same_age one other e = omega (arith, ap age e)

module _ (wiring : Wiring) (joins : JoinsNodes wiring) (differ : EndsDiffer wiring) (world : FloodWorld) (flood : IsFlood wiring world)
    (l : ℕ) (within : l < length wiring.ends) (dir : Dir) (sent : Sent) (first : first_on l dir world.flying ≡ Some sent) where
  abbrev pub node : ℕ
  node = receiver wiring l dir

  abbrev pub from : ℕ
  from = sender wiring l dir

  abbrev pub rest : List Sent
  rest = without_first l dir world.flying

  pub there : node < length wiring.loopbacks
  there = receiver_within wiring joins differ l dir within

  flew : In world.flying sent
  flew = (first_flies l dir world.flying sent first).0

  way : IsOnItsWay wiring world sent
  way = flood.flights sent (contained_in world.flying sent flew)

  on : sent.link ≡ l
  on = on_link l dir sent (first_flies l dir world.flying sent first).1

  towards : sent.dir ≡ dir
  towards = in_direction l dir sent (first_flies l dir world.flying sent first).1

  abbrev pub origin : ℕ
  origin = sent.advert.origin

  -- the sender has as new an advert
  sender_has : age (Some sent.advert) ≤ age (has world from origin)
  sender_has = subst (λ k. age (Some sent.advert) ≤ age (has world (sender wiring k dir) origin)) on
      (subst (λ d. age (Some sent.advert) ≤ age (has world (sender wiring sent.link d) origin)) towards way.sender)

  still_flies : (other : Sent) → Contains rest other → Contains world.flying other
  still_flies other c = contained_in world.flying other (left_flew l dir world.flying other (in_contained rest other c))

  -- 1. It is no news

  module _ (old : age (Some sent.advert) ≤ age (has world node origin)) where
    passed_far : ReachesTheFarEnd wiring (record world { flying = rest })
    passed_far k d o h u g = elim (flood.reaches k d o h u g) [
      | inl e ↦ inl e
      | inr f ↦ elim (first_or_left l dir world.flying sent f.sent first (in_contained world.flying f.sent f.flies)) [
        | inr i ↦ inr (record { sent = f.sent; flies = contained_in rest f.sent i; link = f.link; dir = f.dir; origin = f.origin; new = f.new })
        | inl e ↦ inl (was k d o f e)
      ]
    ]
      where
        was : (k : ℕ) (d : Dir) (o : ℕ) (f : FliesAsNew world k d o (age (has world (sender wiring k d) o))) → sent ≡ f.sent →
            age (has world (sender wiring k d) o) ≤ age (has world (receiver wiring k d) o)
        was k d o f e =
            subst (λ j. age (has world (sender wiring k d) o) ≤ age (has world (receiver wiring j d) o)) (sym on ∙ ap (λ s. s.link) e ∙ f.link)
            (subst (λ c. age (has world (sender wiring k d) o) ≤ age (has world (receiver wiring l c) o)) (sym towards ∙ ap (λ s. s.dir) e ∙ f.dir)
            (subst (λ q. age (has world (sender wiring k d) o) ≤ age (has world node q)) (ap (λ s. s.advert.origin) e ∙ f.origin)
            (omega (arith, f.new, ap (λ s. age (Some s.advert)) e, old))))

    pub passed_over : IsFlood wiring (record world { flying = rest })
    passed_over = record {
      links = flood.links;
      rows = flood.rows;
      columns = flood.columns;
      own = λ x h. record { advert = (flood.own x h).advert; kept = (flood.own x h).kept; links = (flood.own x h).links };
      named = flood.named;
      copies = flood.copies;
      flights = λ other c. let f = flood.flights other (still_flies other c) in
          record { link = f.link; up = f.up; origin = f.origin; copy = f.copy; sender = f.sender };
      reaches = passed_far;
    }

  -- 2. It is news

  module _ (new : age (has world node origin) < age (Some sent.advert)) where
    abbrev pub then_world : FloodWorld
    then_world = spread wiring (record world { flying = rest }) l node sent.advert

    fits : origin < length (get_or world.kept node [])
    fits = subst (λ n. origin < n) (sym (flood.columns node there)) way.origin

    has_row : node < length world.kept
    has_row = subst (λ n. node < n) (sym flood.rows) there

    pub now_has : has then_world node origin ≡ Some sent.advert
    now_has = has_kept (record world { flying = rest }) node sent.advert has_row fits

    has_same : (x o : ℕ) → Elsewhere node origin x o → has then_world x o ≡ has world x o
    has_same x o apart = has_still (record world { flying = rest }) node sent.advert has_row x o apart

    -- what a node has of itself stays
    own_same : (x : ℕ) → has then_world x x ≡ has world x x
    own_same x = elim (here_or_elsewhere node origin x x) [
      | inr apart ↦ has_same x x apart
      | inl e ↦ absurd (not_own (sym e.0 ∙ e.1))
    ]
      where
        not_own : node ≡ origin → ⊥
        not_own e = omega (arith, new, ap (λ x. age (has world x origin)) e, way.copy.no_newer)

    pub never_older : (x o : ℕ) → age (has world x o) ≤ age (has then_world x o)
    never_older x o = elim (here_or_elsewhere node origin x o) [
      | inl e ↦ omega (
        arith,
        new,
        ap (λ y. age (has world y o)) e.0,
        ap (λ q. age (has world node q)) e.1,
        ap age now_has,
        ap (λ y. age (has then_world y o)) e.0,
        ap (λ q. age (has then_world node q)) e.1,
      )
      | inr apart ↦ omega (arith, ap age (has_same x o apart))
    ]

    copy_still : (o : ℕ) (advert : Advert) → IsCopy (has world o o) advert → IsCopy (has then_world o o) advert
    copy_still o advert c = subst (λ own. IsCopy own advert) (sym (own_same o)) c

    -- what is sent on
    pub went_on : (other : Sent) → In then_world.flying other →
        In rest other ⊎ ((k : ℕ) × In (others_up wiring world.up node l) k × (sent_over wiring node sent.advert k ≡ other))
    went_on other i = elim (in_append rest (map (sent_over wiring node sent.advert) (others_up wiring world.up node l)) other i) [
      | inl j ↦ inl j
      | inr j ↦ inr (in_map (sent_over wiring node sent.advert) (others_up wiring world.up node l) other j)
    ]

    goes_on : (k : ℕ) → k < length wiring.ends → is_end wiring k node ≡ true → is_up world.up k ≡ true → k ≢ l →
        Contains then_world.flying (sent_over wiring node sent.advert k)
    goes_on k h e u apart = contained_in then_world.flying (sent_over wiring node sent.advert k)
        (in_rest rest (map (sent_over wiring node sent.advert) (others_up wiring world.up node l)) (sent_over wiring node sent.advert k)
        (map_in (sent_over wiring node sent.advert) (others_up wiring world.up node l) k (among_others wiring world.up l node k h e u apart)))

    left_on : (other : Sent) → IsOnItsWay wiring world other → IsOnItsWay wiring then_world other
    left_on other f = record {
      link = f.link;
      up = f.up;
      origin = f.origin;
      copy = copy_still other.advert.origin other.advert f.copy;
      sender = omega (arith, f.sender, never_older (sender wiring other.link other.dir) other.advert.origin);
    }

    sent_on : (k : ℕ) → In (others_up wiring world.up node l) k → IsOnItsWay wiring then_world (sent_over wiring node sent.advert k)
    sent_on k i = let f = of_others wiring world.up l node k i in record {
      link = f.0;
      up = f.2;
      origin = way.origin;
      copy = copy_still origin sent.advert way.copy;
      sender = same_age (Some sent.advert) (has then_world (sender wiring k (away wiring k node)) origin)
          (sym now_has ∙ ap (λ x. has then_world x origin) (sym (sends_away wiring k node f.1)));
    }

    on_their_way : (other : Sent) → Contains then_world.flying other → IsOnItsWay wiring then_world other
    on_their_way other c = elim (went_on other (in_contained then_world.flying other c)) [
      | inl i ↦ left_on other (flood.flights other (contained_in world.flying other (left_flew l dir world.flying other i)))
      | inr s ↦ subst (IsOnItsWay wiring then_world) s.2 (sent_on s.0 s.1)
    ]

    -- the node that received it: over the link on which it came the other end has it, over another link it flies
    from_node : (k : ℕ) (d : Dir) → k < length wiring.ends → is_up world.up k ≡ true → sender wiring k d ≡ node →
        (age (has then_world node origin) ≤ age (has then_world (receiver wiring k d) origin)) ⊎ FliesAsNew then_world k d origin
        (age (has then_world node origin))
    from_node k d h u e = elim (eqb_tells k l) [
      | inl q ↦ inl (back (turned_round wiring joins differ l dir d within (subst (λ j. sender wiring j d ≡ node) q.1 e)) q.1)
      | inr q ↦ inr (record {
        sent = sent_over wiring node sent.advert k;
        flies = goes_on k h (subst (λ x. is_end wiring k x ≡ true) e (sender_ends wiring k d)) u q.1;
        link = refl;
        dir = ap (away wiring k) (sym e) ∙ away_of wiring joins differ k d h;
        origin = refl;
        new = same_age (has then_world node origin) (Some sent.advert) now_has;
      })
    ]
      where
        back : receiver wiring l d ≡ from → k ≡ l → age (has then_world node origin) ≤ age (has then_world (receiver wiring k d) origin)
        back e q = omega (
          arith,
          ap age now_has,
          sender_has,
          never_older from origin,
          ap (λ x. age (has then_world x origin)) e,
          ap (λ j. age (has then_world (receiver wiring j d) origin)) q,
        )

    -- another node, or another origin
    from_other : (k : ℕ) (d : Dir) (o : ℕ) → has then_world (sender wiring k d) o ≡ has world (sender wiring k d) o →
        (age (has world (sender wiring k d) o) ≤ age (has world (receiver wiring k d) o)) ⊎ FliesAsNew world k d o (age (has world (sender wiring k d) o)) →
        (age (has then_world (sender wiring k d) o) ≤ age (has then_world (receiver wiring k d) o))
        ⊎ FliesAsNew then_world k d o (age (has then_world (sender wiring k d) o))
    from_other k d o same (inl h) = inl (omega (arith, h, ap age same, never_older (receiver wiring k d) o))
    from_other k d o same (inr f) = elim (first_or_left l dir world.flying sent f.sent first (in_contained world.flying f.sent f.flies)) [
      | inr i ↦ inr (record {
        sent = f.sent;
        flies = contained_in then_world.flying f.sent (in_front rest (map (sent_over wiring node sent.advert) (others_up wiring world.up node l)) f.sent i);
        link = f.link;
        dir = f.dir;
        origin = f.origin;
        new = omega (arith, f.new, ap age same);
      })
      | inl e ↦ inl (came e)
    ]
      where
        came : sent ≡ f.sent → age (has then_world (sender wiring k d) o) ≤ age (has then_world (receiver wiring k d) o)
        came e =
            subst (λ j. age (has then_world (sender wiring k d) o) ≤ age (has then_world (receiver wiring j d) o)) (sym on ∙ ap (λ s. s.link) e ∙ f.link)
            (subst (λ c. age (has then_world (sender wiring k d) o) ≤ age (has then_world (receiver wiring l c) o)) (sym towards ∙ ap (λ s. s.dir) e ∙ f.dir)
            (subst (λ q. age (has then_world (sender wiring k d) o) ≤ age (has then_world node q)) (ap (λ s. s.advert.origin) e ∙ f.origin)
            (omega (arith, f.new, ap (λ s. age (Some s.advert)) e, ap age now_has, ap age same))))

    far : ReachesTheFarEnd wiring then_world
    far k d o h u g = elim (here_or_elsewhere node origin (sender wiring k d) o) [
      | inr apart ↦ from_other k d o (has_same (sender wiring k d) o apart) (flood.reaches k d o h u g)
      | inl e ↦
          subst (λ q. (age (has then_world (sender wiring k d) q) ≤ age (has then_world (receiver wiring k d) q))
          ⊎ FliesAsNew then_world k d q (age (has then_world (sender wiring k d) q))) (sym e.1)
          (subst (λ x. (age (has then_world x origin) ≤ age (has then_world (receiver wiring k d) origin)) ⊎ FliesAsNew then_world k d origin
          (age (has then_world x origin)))
          (sym e.0) (from_node k d h u e.0))
    ]

    named_still : (x o : ℕ) (advert : Advert) → x < length wiring.loopbacks → o < length wiring.loopbacks → has then_world x o ≡ Some advert → advert.origin ≡ o
    named_still x o advert h g e = elim (here_or_elsewhere node origin x o) [
      | inr apart ↦ flood.named x o advert h g (sym (has_same x o apart) ∙ e)
      | inl q ↦ ap (λ a. a.origin) (sym (some_same sent.advert advert (sym now_has ∙ here q ∙ e))) ∙ sym q.1
    ]
      where
        here : (x ≡ node) × (o ≡ origin) → has then_world node origin ≡ has then_world x o
        here q = sym (ap (λ y. has then_world y o) q.0 ∙ ap (has then_world node) q.1)

    copies_still : (x o : ℕ) (advert : Advert) → x < length wiring.loopbacks → o < length wiring.loopbacks → has then_world x o ≡ Some advert →
        IsCopy (has then_world o o) advert
    copies_still x o advert h g e = elim (here_or_elsewhere node origin x o) [
      | inr apart ↦ copy_still o advert (flood.copies x o advert h g (sym (has_same x o apart) ∙ e))
      | inl q ↦
          subst (IsCopy (has then_world o o)) (some_same sent.advert advert (sym now_has ∙ sym (ap (λ y. has then_world y o) q.0 ∙ ap (has then_world node) q.1)
          ∙ e))
          (subst (λ p. IsCopy (has then_world p p) sent.advert) (sym q.1) (copy_still origin sent.advert way.copy))
    ]

    pub spread_on : IsFlood wiring then_world
    spread_on = record {
      links = flood.links;
      rows = rows_still (record world { flying = rest }) node sent.advert ∙ flood.rows;
      columns = columns_still (record world { flying = rest }) node sent.advert has_row (length wiring.loopbacks) flood.columns;
      own = λ x h. let own = flood.own x h in record { advert = own.advert; kept = own_same x ∙ own.kept; links = own.links };
      named = named_still;
      copies = copies_still;
      flights = on_their_way;
      reaches = far;
    }

  pub took_in : (b : Bool) → is_news (has world node origin) sent.advert ≡ b →
      IsFlood wiring (cond b (spread wiring (record world { flying = rest }) l node sent.advert) (record world { flying = rest }))
  took_in true e = spread_on (news_tells (has world node origin) sent.advert e)
  took_in false e = passed_over (no_news_tells (has world node origin) sent.advert e)

pub heard_keeps : (wiring : Wiring) → JoinsNodes wiring → EndsDiffer wiring → (world : FloodWorld) → IsFlood wiring world →
    (l : ℕ) → l < length wiring.ends → (dir : Dir) → IsFlood wiring (heard wiring world l dir)
heard_keeps wiring joins differ world flood l within dir = by (first_on l dir world.flying) refl
  where
    by : (o : Option Sent) → first_on l dir world.flying ≡ o → IsFlood wiring (heard_by wiring world l dir o)
    by None e = flood
    by (Some sent) e = took_in wiring joins differ world flood l within dir sent e (is_news (has world (receiver wiring l dir) sent.advert.origin) sent.advert)
        refl
