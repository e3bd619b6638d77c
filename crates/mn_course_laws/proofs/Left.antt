-- A line ends for want of arrivals, not since it counts them.
use Rattle.std.proofs.Common.{◌≡◌, ℕ, zero, suc, ◌+◌, ◌<◌, ◌≤◌, arith, Bool, true, false, List, length, length-append, Option, Some, None, refl}
use Rattle.std.proofs.lemmas.Bool.Decides.{nat_tests}
use Rattle.std.specs.Prelude.{nat_le}
use Rattle.mn_topo.specs.Network.{Network}
use Rattle.mn_course_laws.specs.declared.coming.Arrivals.{Arrivals}
use Rattle.mn_course_laws.specs.declared.coming.Arrivals.TheVariants.{DueBy, News, AllFrames}
use Rattle.mn_course_laws.specs.declared.coming.Coming.{Coming}
use Rattle.mn_course_laws.specs.declared.coming.Ending.TheVariants as ending
use Rattle.mn_course_laws.specs.Course.{Past, arrived, one_by_one, is_journal_full, next_now, deliver, all}

one_longer : (arrivals : Arrivals) (past : Past) (item : Coming) → length (arrived arrivals past item).entries ≡ length past.entries + 1
one_longer News past item = length-append past.entries _
one_longer (DueBy end) past item = length-append past.entries _
one_longer AllFrames past item = length-append past.entries _

has_room : (n : ℕ) → nat_le 4000000 n ≡ false → n < 4000000
has_room n h = grind (arith, nat_tests)

pub none_left : (topology : Network) (capture : List (List ℕ)) (arrivals : Arrivals) (most : ℕ) (past : Past) → length past.entries ≤ 4000000
    → 4000000 < length past.entries + most → (deliver topology capture arrivals most past).ending ≡ ending.All
    → next_now topology capture arrivals (deliver topology capture arrivals most past).past ≡ None
none_left topology capture arrivals zero past room more over = absurd (omega arith)
none_left topology capture arrivals (suc most) past room more over =
    by (is_journal_full past) (next_now topology capture arrivals past) refl refl over (λ later. none_left topology capture arrivals most later)
  where
    by : (full : Bool) (item : Option Coming) → is_journal_full past ≡ full → next_now topology capture arrivals past ≡ item
        → (one_by_one arrivals (λ later. deliver topology capture arrivals most later) past full item).ending ≡ ending.All
        → ((later : Past) → length later.entries ≤ 4000000 → 4000000 < length later.entries + most
        → (deliver topology capture arrivals most later).ending ≡ ending.All
        → next_now topology capture arrivals (deliver topology capture arrivals most later).past ≡ None)
        → next_now topology capture arrivals (one_by_one arrivals (λ later. deliver topology capture arrivals most later) past full item).past ≡ None
    by full None f n e rest = n
    by true (Some item) f n e rest = absurd (let x : ending.TooManySteps ≡ ending.All = e in cc)
    by false (Some item) f n e rest =
        let long = one_longer arrivals past item in
        let below : length past.entries < 4000000 = has_room (length past.entries) f in
        rest (arrived arrivals past item) (omega (arith, long)) (omega (arith, long)) e

pub none_left_of_all : (topology : Network) (capture : List (List ℕ)) (arrivals : Arrivals) (past : Past) → length past.entries ≤ 4000000
    → (deliver topology capture arrivals all past).ending ≡ ending.All
    → next_now topology capture arrivals (deliver topology capture arrivals all past).past ≡ None
unfolding all
none_left_of_all topology capture arrivals past room over = none_left topology capture arrivals 4000001 past room (omega arith) over
