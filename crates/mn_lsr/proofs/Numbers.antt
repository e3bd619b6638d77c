-- How far the numbers of what is sent go: no end has sent more than it had, and all that was sent since.
use Rattle.std.proofs.Common.{ℕ, true, zero, suc, ◌≡◌, ◌+◌, ◌≤◌, ◌^◌, List, [], ◌∷◌, ◌++◌, map, length, length-append, refl, arith}
use Rattle.std.proofs.Common.{sym, ap, subst, Option, Some, None}
use Rattle.std.specs.Prelude.{slice_index_or, slice_set, option_map}
use Rattle.mn_base.proofs.Bools.{at_most_tells}
use Rattle.std.proofs.lemmas.List.{length-map}
use Rattle.mn_wiring.specs.Wiring.{Wiring}
use Rattle.mn_node.specs.Ldp.{Said}
use Rattle.mn_ldp_session.specs.Spelling.{count_of}
use Rattle.mn_lsr.specs.declared.parts.Open.{Open}
use Rattle.mn_lsr.specs.declared.parts.Parts.{Parts}
use Rattle.mn_lsr.specs.declared.said.Said.{Said as Spoken}
use Rattle.mn_lsr.specs.Said.{pdu_of}
use Rattle.mn_lsr.specs.Standing.{HasNumbers}
use Rattle.mn_bindings.specs.Known.{AreFew}
use Rattle.mn_lsr.proofs.Owing.{few-owe}
use Rattle.mn_lsr.specs.Parts.{wiring_in, node_in, Stands, said_in, one_more, bumped, pdus_by, ends_after, NumbersFit, has_numbers}
use Rattle.mn_lsr.proofs.Saying.{at-is, count-is}

-- 1. A list of which one element is set

most-set : {A : Type 0} (f : Option A → ℕ) (m : ℕ) (xs : List (Option A)) (k j : ℕ) (x : Option A) → f x ≤ f (slice_index_or xs k None) + m →
    f (slice_index_or (slice_set xs k x) j None) ≤ f (slice_index_or xs j None) + m
most-set f m [] k j x h = omega arith
most-set f m (y ∷ ys) zero zero x h = h
most-set f m (y ∷ ys) zero (suc j) x h = omega arith
most-set f m (y ∷ ys) (suc k) zero x h = omega arith
most-set f m (y ∷ ys) (suc k) (suc j) x h = most-set f m ys k j x h

-- 2. By the ends of the sessions

-- an end that is set has sent no more than the one before
pub set-fits : (ends then_ends : List (Option Open)) (k said : ℕ) (x : Option Open) → then_ends ≡ slice_set ends k x →
    said_in x ≤ said_in (slice_index_or ends k None) → NumbersFit ends said → NumbersFit then_ends said
set-fits ends then_ends k said x e h fit =
    subst (λ es. NumbersFit es said) (sym e) (λ l. omega (arith, fit l, most-set said_in 0 ends k l x (omega (arith, h))))

-- its end has sent as much as the session's
pub as-much : (ends : List (Option Open)) (l : ℕ) (was : Open) → slice_index_or ends l None ≡ Some was → was.said ≤ said_in (slice_index_or ends l None)
as-much ends l was e = subst (λ o. was.said ≤ said_in o) (sym e) (omega arith)

one-at-most : (o : Option Open) → said_in (option_map one_more o) ≤ said_in o + 1
one-at-most None = omega arith
one-at-most (Some end) = omega arith

after-fits : (ends : List (Option Open)) (xs : List Said) (said : ℕ) → NumbersFit ends said → NumbersFit (ends_after ends xs) (said + length xs)
after-fits ends [] said fit l = omega (arith, fit l)
after-fits ends (x ∷ xs) said fit l =
    omega (
      arith,
      after-fits (bumped ends x.link) xs (said + 1)
          (λ k. omega (
            arith,
            fit k,
            most-set said_in 1 ends x.link k (option_map one_more (slice_index_or ends x.link None))
                (one-at-most (slice_index_or ends x.link None)),
          )) l,
    )

length-pdus : (w : Wiring) (me : ℕ) (own : ℕ → ℕ) (withdrawn : ℕ) (ends : List (Option Open)) (xs : List Said) →
    length (pdus_by w me own withdrawn ends xs) ≡ length xs
length-pdus w me own withdrawn ends [] = refl
length-pdus w me own withdrawn ends (x ∷ xs) = ap suc (length-pdus w me own withdrawn (bumped ends x.link) xs)

-- once these are sent
pub said-fits : (w : Wiring) (me : ℕ) (own : ℕ → ℕ) (withdrawn : ℕ) (ends then_ends : List (Option Open)) (xs : List Said) (before after_it : List Spoken) →
    then_ends ≡ ends_after ends xs → map pdu_of after_it ≡ map pdu_of before ++ pdus_by w me own withdrawn ends xs →
    NumbersFit ends (length before) → NumbersFit then_ends (length after_it)
said-fits w me own withdrawn ends then_ends xs before after_it e said fit =
    subst (λ es. NumbersFit es (length after_it)) (sym e)
    (subst (NumbersFit (ends_after ends xs)) (sym longer) (after-fits ends xs (length before) fit))
  where
    longer : length after_it ≡ length before + length xs
    longer = omega (
      arith,
      length-map before pdu_of,
      length-map after_it pdu_of,
      ap length said,
      length-append (map pdu_of before) (pdus_by w me own withdrawn ends xs),
      length-pdus w me own withdrawn ends xs,
    )

-- 3. By the node

pub by-ends : (p : Parts) (said : ℕ) → HasNumbers (node_in p) → NumbersFit p.sessions.items said
by-ends p said has l =
    let few = has l in
    omega (
      arith,
      few,
      ap count_of (at-is (wiring_in p) p.me.0 p.lib.bindings p.sessions.items 0 l l (omega arith)),
      count-is (wiring_in p) p.me.0 p.lib.bindings l (slice_index_or p.sessions.items l None),
    )

-- where all ends have sent little, so has the node
pub all-have : (p : Parts) → ((l : ℕ) → has_numbers (slice_index_or p.sessions.items l None) ≡ true) → HasNumbers (node_in p)
all-have p h l =
    omega (
      arith,
      at_most_tells (said_in (slice_index_or p.sessions.items l None)) (2 ^ 62) (h l),
      ap count_of (at-is (wiring_in p) p.me.0 p.lib.bindings p.sessions.items 0 l l (omega arith)),
      count-is (wiring_in p) p.me.0 p.lib.bindings l (slice_index_or p.sessions.items l None),
    )

-- 4. What is owed

-- no neighbour owes more Releases than was sent
pub few-owed : (p : Parts) → Stands p → (said : ℕ) → NumbersFit p.sessions.items said → AreFew (2 ^ 62 + said) p.lib.resting
few-owed p st said fit = few-owe (wiring_in p) p.me.0 p.lib.resting p.sessions.items said st.owed.each fit

-- nor once more was sent
pub few-still : (p : Parts) (few more : ℕ) → few ≤ more → AreFew (2 ^ 62 + few) p.lib.resting → AreFew (2 ^ 62 + more) p.lib.resting
few-still p few more h owed neighbour fec = steps (owed neighbour fec)
  where
    steps : {a : ℕ} → a ≤ 2 ^ 62 + few → a ≤ 2 ^ 62 + more
    steps g = omega (arith, g, h)

pub said-more : (w : Wiring) (me : ℕ) (own : ℕ → ℕ) (withdrawn : ℕ) (ends : List (Option Open)) (xs : List Said) (before after_it : List Spoken) →
    map pdu_of after_it ≡ map pdu_of before ++ pdus_by w me own withdrawn ends xs → length before ≤ length after_it
said-more w me own withdrawn ends xs before after_it said =
    omega (
      arith,
      length-map before pdu_of,
      length-map after_it pdu_of,
      ap length said,
      length-append (map pdu_of before) (pdus_by w me own withdrawn ends xs),
    )
