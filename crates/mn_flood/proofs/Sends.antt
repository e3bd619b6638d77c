-- What is sent, one advert after another.
use Rattle.std.proofs.Common.{ℕ, zero, suc, ◌≡◌, ◌+◌, ◌<◌, ◌≤◌, Bool, true, false, cond, List, [], ◌∷◌, ◌++◌, map, filter, length, get_or, take, Option, Some}
use Rattle.std.proofs.Common.{None}
use Rattle.std.proofs.Common.{refl, arith, sym, ◌∙◌, ap, append_assoc, length-append}
use Rattle.std.specs.Prelude.{◌==◌, ◌&&◌, ◌||◌, not}
use Rattle.std.specs.List.{list_any}
use Rattle.std.proofs.lemmas.List.{map-append, append-nil, take_more, take_all}
use Rattle.std.proofs.lemmas.List.Elements.{filter-append}
use Rattle.mn_base.specs.declared.numbers.LinkNo.{LinkNo}
use Rattle.mn_wiring.specs.Wiring.{Wiring, View, is_up, links_at}
use Rattle.mn_flood_laws.specs.Flood.{Advert, Sent, sent_over, others_up, adverts_in}
use Rattle.mn_flood_laws.proofs.Sums.{filter_fewer}
use Rattle.mn_flood.specs.Links.{numbers_of}
use Rattle.mn_flood.specs.Queue.{Queued, with_sents}

-- 1. Sent, and sent again

abbrev queued : ℕ → List Sent → ℕ → Queued
queued links sents made = record { links = links; sents = sents; made = made }

pub none_sent : (q : Queued) → with_sents q [] ≡ q
none_sent q = ap (λ s. queued q.links s (q.made + 0)) (append-nil q.sents) ∙ ap (queued q.links q.sents) (let e : q.made + 0 ≡ q.made = omega arith in e)

pub sent_again : (q : Queued) (xs ys : List Sent) → with_sents (with_sents q xs) ys ≡ with_sents q (xs ++ ys)
sent_again q xs ys =
    ap (λ s. queued q.links s (q.made + length xs + length ys)) (append_assoc q.sents xs ys)
    ∙ ap (queued q.links (q.sents ++ (xs ++ ys)))
    (let e : q.made + length xs + length ys ≡ q.made + length (xs ++ ys) = omega (arith, length-append xs ys) in e)

one_filtered : (p : ℕ → Bool) (b : Bool) (l : ℕ) → filter p (cond b (l ∷ []) []) ≡ cond (b && p l) (l ∷ []) []
one_filtered p true l = refl
one_filtered p false l = refl

-- 2. The links at a node that are up

pub up_more : (up : View) (links : List LinkNo) (k : ℕ) (d : LinkNo) → k < length links →
    filter (is_up up) (numbers_of (take (k + 1) links)) ≡ filter (is_up up) (numbers_of (take k links)) ++ cond (is_up up (get_or links k d).0)
    ((get_or links k d).0 ∷ []) []
up_more up links k d h =
    ap (λ ls. filter (is_up up) (numbers_of ls)) (take_more links k d h)
    ∙ ap (filter (is_up up)) (map-append (λ (l : LinkNo). l.0) (take k links) (get_or links k d ∷ []))
    ∙ filter-append (is_up up) (numbers_of (take k links)) ((get_or links k d).0 ∷ [])

-- but for one
abbrev pub onward : View → ℕ → List LinkNo → List ℕ
onward up but links = filter (λ other. not (other == but)) (filter (is_up up) (numbers_of links))

onward_more : (up : View) (but : ℕ) (links : List LinkNo) (k : ℕ) (d : LinkNo) → k < length links →
    onward up but (take (k + 1) links) ≡ onward up but (take k links) ++ cond (is_up up (get_or links k d).0 && not ((get_or links k d).0 == but))
    ((get_or links k d).0 ∷ []) []
onward_more up but links k d h =
    ap (filter (λ other. not (other == but))) (up_more up links k d h)
    ∙ filter-append (λ other. not (other == but)) (filter (is_up up) (numbers_of (take k links)))
    (cond (is_up up (get_or links k d).0) ((get_or links k d).0 ∷ []) [])
    ∙ ap (λ ls. onward up but (take k links) ++ ls) (one_filtered (λ other. not (other == but)) (is_up up (get_or links k d).0) (get_or links k d).0)

module _ (wiring : Wiring) (node : ℕ) (advert : Advert) (up : View) (but : ℕ) where
  abbrev pub all_sent : List LinkNo → List Sent
  all_sent links = map (sent_over wiring node advert) (onward up but links)

  sent_more : (links : List LinkNo) (k : ℕ) (d : LinkNo) (b : Bool) → k < length links →
      (is_up up (get_or links k d).0 && not ((get_or links k d).0 == but)) ≡ b →
      all_sent (take k links) ++ cond b (sent_over wiring node advert (get_or links k d).0 ∷ []) [] ≡ all_sent (take (k + 1) links)
  sent_more links k d b h e =
      ap (λ ls. all_sent (take k links) ++ ls) (mapped b)
      ∙ sym (map-append (sent_over wiring node advert) (onward up but (take k links)) (cond b ((get_or links k d).0 ∷ []) []))
      ∙ ap (λ c. map (sent_over wiring node advert) (onward up but (take k links) ++ cond c ((get_or links k d).0 ∷ []) [])) (sym e)
      ∙ ap (map (sent_over wiring node advert)) (sym (onward_more up but links k d h))
    where
      mapped : (b : Bool) → cond b (sent_over wiring node advert (get_or links k d).0 ∷ []) [] ≡ map (sent_over wiring node advert)
          (cond b ((get_or links k d).0 ∷ []) [])
      mapped true = refl
      mapped false = refl

  -- over one link more
  pub goes_on : (first now new : Queued) (links : List LinkNo) (k : ℕ) (d : LinkNo) → k < length links → now ≡ with_sents first (all_sent (take k links)) →
      (is_up up (get_or links k d).0 && not ((get_or links k d).0 == but)) ≡ true →
      new ≡ with_sents now (sent_over wiring node advert (get_or links k d).0 ∷ []) →
      new ≡ with_sents first (all_sent (take (k + 1) links))
  goes_on first now new links k d h e b f =
      f ∙ ap (λ q. with_sents q (sent_over wiring node advert (get_or links k d).0 ∷ [])) e
      ∙ sent_again first (all_sent (take k links)) (sent_over wiring node advert (get_or links k d).0 ∷ [])
      ∙ ap (with_sents first) (sent_more links k d true h b)

  pub passed_by : (first now : Queued) (links : List LinkNo) (k : ℕ) (d : LinkNo) → k < length links → now ≡ with_sents first (all_sent (take k links)) →
      (is_up up (get_or links k d).0 && not ((get_or links k d).0 == but)) ≡ false → now ≡ with_sents first (all_sent (take (k + 1) links))
  passed_by first now links k d h e b =
      e ∙ ap (with_sents first) (sym (append-nil (all_sent (take k links))) ∙ sent_more links k d false h b)

  -- over all of them
  pub sent_on : (first now : Queued) (links : List LinkNo) (k : ℕ) → length links ≤ k → now ≡ with_sents first (all_sent (take k links)) →
      numbers_of links ≡ links_at wiring node →
      now ≡ with_sents first (map (sent_over wiring node advert) (others_up wiring up node but))
  sent_on first now links k h e f =
      e ∙ ap (λ ls. with_sents first (all_sent ls)) (take_all k links h)
      ∙ ap (λ ls. with_sents first (map (sent_over wiring node advert) (filter (λ other. not (other == but)) (filter (is_up up) ls)))) f

  -- no more than the links at the node
  pub few_sent : (links : List LinkNo) (k : ℕ) → length (all_sent (take k links)) ≤ length (take k links)
  few_sent links k = omega (
    arith,
    mapped (onward up but (take k links)),
    filter_fewer (λ other. not (other == but)) (filter (is_up up) (numbers_of (take k links))),
    filter_fewer (is_up up) (numbers_of (take k links)),
    numbered (take k links),
  )
    where
      mapped : (xs : List ℕ) → length (map (sent_over wiring node advert) xs) ≡ length xs
      mapped [] = refl
      mapped (x ∷ xs) = ap suc (mapped xs)

      numbered : (xs : List LinkNo) → length (numbers_of xs) ≡ length xs
      numbered [] = refl
      numbered (x ∷ xs) = ap suc (numbered xs)

-- 3. All that a node has

abbrev one_of : Option Advert → List Advert
one_of None = []
one_of (Some advert) = advert ∷ []

adverts_append : (xs ys : List (Option Advert)) → adverts_in (xs ++ ys) ≡ adverts_in xs ++ adverts_in ys
adverts_append [] ys = refl
adverts_append (None ∷ xs) ys = adverts_append xs ys
adverts_append (Some advert ∷ xs) ys = ap (λ zs. advert ∷ zs) (adverts_append xs ys)

module _ (wiring : Wiring) (node l : ℕ) where
  abbrev pub over_it : List (Option Advert) → List Sent
  over_it row = map (λ advert. sent_over wiring node advert l) (adverts_in row)

  over_more : (row : List (Option Advert)) (k : ℕ) (d x : Option Advert) → k < length row → get_or row k d ≡ x →
      over_it (take (k + 1) row) ≡ over_it (take k row) ++ map (λ advert. sent_over wiring node advert l) (one_of x)
  over_more row k d x h e =
      ap over_it (take_more row k d h ∙ ap (λ y. take k row ++ y ∷ []) e)
      ∙ ap (map (λ advert. sent_over wiring node advert l)) (adverts_append (take k row) (x ∷ []) ∙ ap (λ zs. adverts_in (take k row) ++ zs) (one x))
      ∙ map-append (λ advert. sent_over wiring node advert l) (adverts_in (take k row)) (one_of x)
    where
      one : (x : Option Advert) → adverts_in (x ∷ []) ≡ one_of x
      one None = refl
      one (Some advert) = refl

  pub one_sent : (first now new : Queued) (row : List (Option Advert)) (k : ℕ) (d : Option Advert) (advert : Advert) → k < length row →
      now ≡ with_sents first (over_it (take k row)) →
      get_or row k d ≡ Some advert → new ≡ with_sents now (sent_over wiring node advert l ∷ []) → new ≡ with_sents first (over_it (take (k + 1) row))
  one_sent first now new row k d advert h e f g =
      g ∙ ap (λ q. with_sents q (sent_over wiring node advert l ∷ [])) e ∙ sent_again first (over_it (take k row)) (sent_over wiring node advert l ∷ [])
      ∙ ap (with_sents first) (sym (over_more row k d (Some advert) h f))

  pub no_one_sent : (first now : Queued) (row : List (Option Advert)) (k : ℕ) (d : Option Advert) → k < length row →
      now ≡ with_sents first (over_it (take k row)) →
      get_or row k d ≡ None → now ≡ with_sents first (over_it (take (k + 1) row))
  no_one_sent first now row k d h e f = e ∙ ap (with_sents first) (sym (append-nil (over_it (take k row))) ∙ sym (over_more row k d None h f))

  -- no more than it has places
  pub few_over : (row : List (Option Advert)) (k : ℕ) → length (over_it (take k row)) ≤ length row
  few_over row zero = omega arith
  few_over [] (suc k) = omega arith
  few_over (None ∷ row) (suc k) = omega (arith, few_over row k)
  few_over (Some advert ∷ row) (suc k) = omega (arith, few_over row k)

-- 4. How many were sent

pub still_room : (first now : Queued) (sents : List Sent) (most n : ℕ) → now ≡ with_sents first sents → length sents ≤ most → first.made + most < n →
    now.made < n
still_room first now sents most n e few room = omega (arith, ap (λ (q : Queued). q.made) e, few, room)

pub few_more : (first now : Queued) (sents : List Sent) (most : ℕ) → now ≡ with_sents first sents → length sents ≤ most → now.made ≤ first.made + most
few_more first now sents most e few = omega (arith, ap (λ (q : Queued). q.made) e, few)

pub no_more : {A : Type 0} (k : ℕ) (xs : List A) → length (take k xs) ≤ length xs
no_more zero xs = omega arith
no_more (suc k) [] = omega arith
no_more (suc k) (x ∷ xs) = omega (arith, no_more k xs)

-- 5. What an advert lists

pub listed : (l : ℕ) (links : List LinkNo) → list_any (λ (x : LinkNo). x.0 == l) links ≡ list_any (λ other. other == l) (numbers_of links)
listed l [] = refl
listed l (x ∷ links) = ap (λ b. (x.0 == l) || b) (listed l links)
