-- A drain ends: each advert is news to a node once at most, and is then sent on over no more links than are at the node.
use Rattle.std.proofs.Common.{ℕ, zero, suc, ◌≡◌, ◌<◌, ◌≤◌, ◌+◌, ◌*◌, inl, inr, Bool, true, false, cond, List, [], ◌∷◌, map, length, Some}
use Rattle.std.proofs.Common.{refl, arith, sym, ◌∙◌, ap, subst, length-append}
use Rattle.std.specs.Prelude.{◌==◌, nat_lt, not}
use Rattle.std.proofs.lemmas.List.{length-map}
use Rattle.mn_base.proofs.Bools.{less_is, not_less, less_tells, not_less_tells, same_test, and_on}
use Rattle.mn_base.proofs.Members.{In, in_contained, contained_in, map_in, in_map, range_in}
use Rattle.mn_wiring.specs.Wiring.{Wiring, is_up, nodes_of, links_at, receiver, JoinsNodes, EndsDiffer}
use Rattle.mn_wiring.specs.declared.links.Dir.{Dir}
use Rattle.mn_wiring.specs.declared.links.Dir.TheVariants.{Forth, Back}
use Rattle.mn_flood_laws.specs.Flood.{Advert, Sent, FloodWorld, has, age, sent_over, others_up, up_at, flies_on, first_on, without_first, is_news, spread}
use Rattle.mn_flood_laws.specs.Flood.{heard_by, heard}
use Rattle.mn_flood_laws.specs.Drain.{hear_first, drained, drain_bound}
use Rattle.mn_flood_laws.specs.Laws.{IsFlood}
use Rattle.mn_flood_laws.proofs.Hearing.{news_tells, heard_keeps, now_has, never_older, there}
use Rattle.mn_flood_laws.proofs.Sums.{sum_of, sum_below, sum_less, sum_most, filter_fewer, links_of_all}

-- 1. What is first is received

flies_itself : (sent : Sent) → flies_on sent.link sent.dir sent ≡ true
flies_itself sent = by sent.dir refl
  where
    by : (dir : Dir) → sent.dir ≡ dir → flies_on sent.link dir sent ≡ true
    by Forth e = and_on (sent.link == sent.link) (elim sent.dir [ Forth ↦ true | Back ↦ false ]) (same_test sent.link)
        (ap (λ d. elim d [ Forth ↦ true | Back ↦ false ]) e)
    by Back e = and_on (sent.link == sent.link) (elim sent.dir [
      | Forth ↦ false
      | Back ↦ true
    ]) (same_test sent.link) (ap (λ d. elim d [ Forth ↦ false | Back ↦ true ]) e)

is_first : (sent : Sent) (more : List Sent) → first_on sent.link sent.dir (sent ∷ more) ≡ Some sent
is_first sent more = ap (λ b. cond b (Some sent) (first_on sent.link sent.dir more)) (flies_itself sent)

is_left : (sent : Sent) (more : List Sent) → without_first sent.link sent.dir (sent ∷ more) ≡ more
is_left sent more = ap (λ b. cond b more (sent ∷ without_first sent.link sent.dir more)) (flies_itself sent)

-- 2. What is left to be done for some adverts: the nodes that lack one, each by its links

module _ (wiring : Wiring) where
  abbrev pub lack : FloodWorld → Advert → ℕ → ℕ
  lack world advert node = cond (nat_lt (age (has world node advert.origin)) (age (Some advert))) (length (links_at wiring node)) 0

  abbrev pub to_do : FloodWorld → List Advert → ℕ
  to_do world adverts = sum_of (λ advert. sum_of (lack world advert) (nodes_of wiring)) adverts

  abbrev pub left : FloodWorld → List Advert → ℕ
  left world adverts = length world.flying + to_do world adverts

  -- adverts of these alone fly
  abbrev pub FlyAmong : FloodWorld → List Advert → Type 0
  FlyAmong world adverts = (sent : Sent) → In world.flying sent → In adverts sent.advert

  less_lack : (old new count : ℕ) (least : ℕ) → old ≤ new → cond (nat_lt new least) count 0 ≤ cond (nat_lt old least) count 0
  less_lack old new count least h = by (nat_lt new least) (nat_lt old least) refl refl
    where
      by : (b c : Bool) → nat_lt new least ≡ b → nat_lt old least ≡ c → cond b count 0 ≤ cond c count 0
      by false c e f = omega arith
      by true true e f = omega arith
      by true false e f = absurd (not_both (less_tells new least e) (not_less_tells old least f))
        where
          not_both : new < least → least ≤ old → ⊥
          not_both p q = omega (arith, h, p, q)

  module _ (joins : JoinsNodes wiring) (differ : EndsDiffer wiring) (world : FloodWorld) (flood : IsFlood wiring world) (sent : Sent)
      (within : sent.link < length wiring.ends)
      (first : first_on sent.link sent.dir world.flying ≡ Some sent) (more : List Sent) (split : without_first sent.link sent.dir world.flying ≡ more)
      (counted : length world.flying ≡ suc (length more)) (adverts : List Advert) (among : In adverts sent.advert) where
    abbrev pub hearer : ℕ
    hearer = receiver wiring sent.link sent.dir

    abbrev pub rest_world : FloodWorld
    rest_world = record world { flying = without_first sent.link sent.dir world.flying }

    hearer_there : In (nodes_of wiring) hearer
    hearer_there = range_in 0 (length wiring.loopbacks) hearer (omega arith)
        (omega (arith, there wiring joins differ world flood sent.link within sent.dir sent first))

    few : (up_list : ℕ) → length (others_up wiring world.up hearer sent.link) ≤ length (links_at wiring hearer)
    few n = omega (
      arith,
      filter_fewer (λ other. not (other == sent.link)) (up_at wiring world.up hearer),
      filter_fewer (is_up world.up) (links_at wiring hearer),
    )

    module _ (new : age (has world hearer sent.advert.origin) < age (Some sent.advert)) where
      abbrev pub spread_world : FloodWorld
      spread_world = spread wiring rest_world sent.link hearer sent.advert

      monotone : (advert : Advert) → sum_of (lack spread_world advert) (nodes_of wiring) ≤ sum_of (lack world advert) (nodes_of wiring)
      monotone advert = sum_below (lack world advert) (lack spread_world advert) (nodes_of wiring) (λ x i.
          less_lack (age (has world x advert.origin)) (age (has spread_world x advert.origin)) (length (links_at wiring x)) (age (Some advert))
          (never_older wiring joins differ world flood sent.link within sent.dir sent first new x advert.origin))

      here : lack spread_world sent.advert hearer + length (links_at wiring hearer) ≤ lack world sent.advert hearer
      here = omega (
        arith,
        ap (λ b. cond b (length (links_at wiring hearer)) 0) (less_is (age (has world hearer sent.advert.origin)) (age (Some sent.advert)) new),
        ap (λ o. cond (nat_lt (age o) (age (Some sent.advert))) (length (links_at wiring hearer)) 0)
            (now_has wiring joins differ world flood sent.link within sent.dir sent first new),
        ap (λ b. cond b (length (links_at wiring hearer)) 0) (not_less (age (Some sent.advert)) (age (Some sent.advert)) (omega arith)),
      )

      one : sum_of (lack spread_world sent.advert) (nodes_of wiring) + length (links_at wiring hearer) ≤ sum_of (lack world sent.advert) (nodes_of wiring)
      one = sum_less (lack world sent.advert) (lack spread_world sent.advert) (nodes_of wiring) hearer (length (links_at wiring hearer)) (λ x i.
          less_lack (age (has world x sent.advert.origin)) (age (has spread_world x sent.advert.origin)) (length (links_at wiring x)) (age (Some sent.advert))
          (never_older wiring joins differ world flood sent.link within sent.dir sent first new x sent.advert.origin)) hearer_there here

      all : to_do spread_world adverts + length (links_at wiring hearer) ≤ to_do world adverts
      all = sum_less (λ advert. sum_of (lack world advert) (nodes_of wiring)) (λ advert. sum_of (lack spread_world advert) (nodes_of wiring)) adverts
          sent.advert
          (length (links_at wiring hearer)) (λ advert i. monotone advert) among one

      pub less_spread : suc (left spread_world adverts) ≤ left world adverts
      less_spread = omega (
        arith,
        all,
        few 0,
        counted,
        ap length split,
        length-append (without_first sent.link sent.dir world.flying) (map (sent_over wiring hearer sent.advert) (others_up wiring world.up hearer sent.link)),
        length-map (others_up wiring world.up hearer sent.link) (sent_over wiring hearer sent.advert),
      )

    pub less_heard : (b : Bool) → is_news (has world hearer sent.advert.origin) sent.advert ≡ b →
        suc (left (cond b (spread wiring rest_world sent.link hearer sent.advert) rest_world) adverts) ≤ left world adverts
    less_heard true e = less_spread (news_tells (has world hearer sent.advert.origin) sent.advert e)
    less_heard false e = omega (arith, counted, ap length split)

    among_still : FlyAmong world adverts → (b : Bool) → FlyAmong (cond b (spread wiring rest_world sent.link hearer sent.advert) rest_world) adverts
    among_still f false other i = f other (Rattle.mn_flood_laws.proofs.Sending.left_flew sent.link sent.dir world.flying other i)
    among_still f true other i = elim (Rattle.mn_base.proofs.Members.in_append (without_first sent.link sent.dir world.flying)
        (map (sent_over wiring hearer sent.advert) (others_up wiring world.up hearer sent.link)) other i) [
          | inl j ↦ f other (Rattle.mn_flood_laws.proofs.Sending.left_flew sent.link sent.dir world.flying other j)
          | inr j ↦ let g = in_map (sent_over wiring hearer sent.advert) (others_up wiring world.up hearer sent.link) other j in
              subst (λ z. In adverts z.advert) g.2 among
        ]

  -- 3. Until none flies

  module _ (joins : JoinsNodes wiring) (differ : EndsDiffer wiring) (adverts : List Advert) where
    -- what the first hearing makes
    pub record HeardFirst (world : FloodWorld) (next : FloodWorld) : Type 0 where
      pub less : suc (left next adverts) ≤ left world adverts
      pub among : FlyAmong next adverts
      pub flood : IsFlood wiring next

    first_heard : (world : FloodWorld) → IsFlood wiring world → FlyAmong world adverts → (sent : Sent) (more : List Sent) → world.flying ≡ sent ∷ more →
        HeardFirst world (heard wiring world sent.link sent.dir)
    first_heard world flood f sent more e =
        let flies : In world.flying sent = subst (λ sents. In sents sent) (sym e) (inl refl) in
        let within : sent.link < length wiring.ends = (flood.flights sent (contained_in world.flying sent flies)).link in
        let first : first_on sent.link sent.dir world.flying ≡ Some sent = ap (first_on sent.link sent.dir) e ∙ is_first sent more in
        let split : without_first sent.link sent.dir world.flying ≡ more = ap (without_first sent.link sent.dir) e ∙ is_left sent more in
        subst (λ o. HeardFirst world (heard_by wiring world sent.link sent.dir o)) (sym first)
        (record {
          less = less_heard joins differ world flood sent within first more split (ap length e) adverts (f sent flies)
              (is_news (has world (receiver wiring sent.link sent.dir) sent.advert.origin) sent.advert) refl;
          among = among_still joins differ world flood sent within first more split (ap length e) adverts (f sent flies) f
              (is_news (has world (receiver wiring sent.link sent.dir) sent.advert.origin) sent.advert);
          flood = subst (λ o. IsFlood wiring (heard_by wiring world sent.link sent.dir o)) first
              (heard_keeps wiring joins differ world flood sent.link within sent.dir);
        })

    stays : (fuel : ℕ) (world : FloodWorld) → world.flying ≡ [] → (drained fuel wiring world).flying ≡ []
    stays zero world e = e
    stays (suc fuel) world e = subst (λ sents. (drained fuel wiring (hear_first wiring world sents)).flying ≡ []) (sym e) (stays fuel world e)

    none_left : (sents : List Sent) → length sents ≤ 0 → sents ≡ []
    none_left [] h = refl
    none_left (sent ∷ more) h = absurd (nothing h)
      where
        nothing : suc (length more) ≤ 0 → ⊥
        nothing h = omega (arith, h)

    ends : (fuel : ℕ) (world : FloodWorld) → IsFlood wiring world → FlyAmong world adverts → left world adverts ≤ fuel → (drained fuel wiring world).flying ≡ []
    ends zero world flood f h = none_left world.flying (omega (arith, h))
    ends (suc fuel) world flood f h = by world.flying refl (λ next g. ends fuel next g.flood g.among (omega (arith, g.less, h)))
      where
        by : (sents : List Sent) → world.flying ≡ sents → ((next : FloodWorld) → HeardFirst world next → (drained fuel wiring next).flying ≡ []) →
            (drained fuel wiring (hear_first wiring world world.flying)).flying ≡ []
        by [] e go = subst (λ sents. (drained fuel wiring (hear_first wiring world sents)).flying ≡ []) (sym e) (stays fuel world e)
        by (sent ∷ more) e go = subst (λ sents. (drained fuel wiring (hear_first wiring world sents)).flying ≡ []) (sym e)
            (go (heard wiring world sent.link sent.dir) (first_heard world flood f sent more e))

  at_most : (world : FloodWorld) (advert : Advert) → sum_of (lack world advert) (nodes_of wiring) ≤ 2 * length wiring.ends
  at_most world advert = omega (
    arith,
    sum_below (λ node. length (links_at wiring node)) (lack world advert) (nodes_of wiring)
        (λ node i. by (nat_lt (age (has world node advert.origin)) (age (Some advert))) (length (links_at wiring node))),
    links_of_all wiring,
  )
    where
      by : (b : Bool) (count : ℕ) → cond b count 0 ≤ count
      by true count = omega arith
      by false count = omega arith

  product : (f n : ℕ) → f * (1 + n) ≡ f + f * n
  product f n = grind arith

  pub drain_ends : JoinsNodes wiring → EndsDiffer wiring → (world : FloodWorld) → IsFlood wiring world →
      (drained (drain_bound wiring world) wiring world).flying ≡ []
  drain_ends joins differ world flood = ends joins differ (map (λ sent. sent.advert) world.flying) (drain_bound wiring world) world flood
      (λ sent i. map_in (λ s. s.advert) world.flying sent i)
      (omega (
        arith,
        sum_most (λ advert. sum_of (lack world advert) (nodes_of wiring)) (map (λ sent. sent.advert) world.flying) (2 * length wiring.ends)
            (λ advert i. at_most world advert),
        ap (λ n. n * (2 * length wiring.ends)) (length-map world.flying (λ sent. sent.advert)),
        product (length world.flying) (2 * length wiring.ends),
      ))
