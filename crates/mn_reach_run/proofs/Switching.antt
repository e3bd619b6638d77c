-- Switches that are set one after another.
use Rattle.std.proofs.Common.{◌≡◌, ◌+◌, ◌<◌, ℕ, Bool, true, false, List, [], ◌∷◌, ◌++◌, length, get_or, take, refl, ap, sym, ◌∙◌, arith, subst, set}
use Rattle.std.specs.Prelude.{◌==◌, ◌||◌, ◌&&◌, not, nat_lt, if◌then◌else◌}
use Rattle.std.specs.List.{list_any}
use Rattle.std.proofs.lemmas.List.{get_or-set_same, get_or-set_other, length-set, get_or_default}
use Rattle.std.proofs.lemmas.List.Folds.{list_any-append, list_any_more}
use Rattle.mn_base.proofs.Bools.{same_numbers, other_numbers, other_test, less_is, less_tells, not_less, not_less_tells}
use Rattle.mn_base.specs.declared.numbers.NodeNo.{NodeNo}
use Rattle.mn_wiring.specs.Wiring.{is_up}
use Rattle.mn_topo.specs.Network.{Network}
use Rattle.mn_failures.specs.declared.command.Part.{Part}
use Rattle.mn_failures.specs.Failures.{link_down}
use Rattle.mn_failures.specs.Meaning.{is_down, is_ldp_off, is_bgp_off, takes_down, switches_off, ends_session}
use Rattle.mn_reach.specs.Reaching.{Reaching, is_between}
use Rattle.mn_reach_run.specs.Playing.{AreSet, AreApart, HaveFailed}

-- 1. None, one, and some behind others

pub set_none : (on : Bool) (xs : List Bool) → AreSet (λ l. false) on xs xs
set_none on xs = record { each = refl; at = λ l below. refl }

one_at : (xs : List Bool) (l : ℕ) (on : Bool) → l < length xs → (k : ℕ) (b : Bool) → (l == k) ≡ b → is_up (set xs l on) k ≡ (if b then on else is_up xs k)
one_at xs l on below k true e = subst (λ n. is_up (set xs l on) n ≡ on) (same_numbers l k e) (get_or-set_same xs l on false below)
one_at xs l on below k false e =
    get_or-set_other xs l k on false (λ is. other_numbers l k e (sym is))

pub set_one : (xs : List Bool) (l : ℕ) (on : Bool) → l < length xs → AreSet (λ k. l == k) on xs (set xs l on)
set_one xs l on below = record { each = length-set xs l on; at = λ k there. one_at xs l on below k (l == k) refl }

-- a link was made up or down
pub set_up_one : (old new : Reaching) (l : ℕ) (on : Bool) → l < length old.up → new ≡ record old { up = set old.up l on } →
    AreSet (λ k. l == k) on old.up new.up
set_up_one old new l on below is = subst (AreSet (λ k. l == k) on old.up) (sym (ap (λ (r : Reaching). r.up) is)) (set_one old.up l on below)

both : (p q on was : Bool) → (if q then on else (if p then on else was)) ≡ (if p || q then on else was)
both true true on was = refl
both true false on was = refl
both false true on was = refl
both false false on was = refl

pub set_then : (p q : ℕ → Bool) (on : Bool) (a b d : List Bool) → AreSet p on a b → AreSet q on b d → AreSet (λ l. p l || q l) on a d
set_then p q on a b d first second = record {
  each = second.each ∙ first.each;
  at = λ l below.
      second.at l (subst (λ n. l < n) (sym first.each) below) ∙ ap (λ was. if q l then on else was) (first.at l below) ∙ both (p l) (q l) on (is_up a l);
}

pub set_as : (p q : ℕ → Bool) (on : Bool) (a b : List Bool) → ((l : ℕ) → l < length a → p l ≡ q l) → AreSet p on a b → AreSet q on a b
set_as p q on a b same given = record {
  each = given.each;
  at = λ l below. given.at l below ∙ ap (λ is. if is then on else is_up a l) (same l below);
}

pub or_assoc : (a b d : Bool) → ((a || b) || d) ≡ (a || (b || d))
or_assoc true b d = refl
or_assoc false b d = refl

-- 2. Of the parts of a list, one after another

module _ (parts : List Part) (i : ℕ) (part : Part) (below : i < length parts) (is : part ≡ get_or parts i part) where
  pub down_more : (topology : Network) (l : ℕ) → (is_down topology (take i parts) l || takes_down topology l part) ≡ is_down topology (take (i + 1) parts) l
  down_more topology l =
      ap (λ p. is_down topology (take i parts) l || takes_down topology l p) is ∙ sym (list_any_more (takes_down topology l) parts i part below)

  pub off_more : (l : ℕ) → (is_ldp_off (take i parts) l || switches_off l part) ≡ is_ldp_off (take (i + 1) parts) l
  off_more l = ap (λ p. is_ldp_off (take i parts) l || switches_off l p) is ∙ sym (list_any_more (switches_off l) parts i part below)

  pub bgp_more : (one other : ℕ) → (is_bgp_off (take i parts) one other || ends_session one other part) ≡ is_bgp_off (take (i + 1) parts) one other
  bgp_more one other =
      ap (λ p. is_bgp_off (take i parts) one other || ends_session one other p) is ∙ sym (list_any_more (ends_session one other) parts i part below)

-- the switches of one part more
pub up_next : (topology : Network) (parts : List Part) (i : ℕ) (d : Part) (on : Bool) (old mid new : List Bool) → i < length parts →
    AreSet (is_down topology (take i parts)) on old mid → AreSet (λ l. takes_down topology l (get_or parts i d)) on mid new →
    AreSet (is_down topology (take (i + 1) parts)) on old new
up_next topology parts i d on old mid new below so_far more =
    set_as (λ l. is_down topology (take i parts) l || takes_down topology l (get_or parts i d)) (is_down topology (take (i + 1) parts)) on old new
    (λ l there. down_more parts i (get_or parts i d) below (get_or_default parts i d (get_or parts i d) below) topology l)
    (set_then (is_down topology (take i parts)) (λ l. takes_down topology l (get_or parts i d)) on old mid new so_far more)

pub ldp_next : (parts : List Part) (i : ℕ) (d : Part) (on : Bool) (old mid new : List Bool) → i < length parts →
    AreSet (is_ldp_off (take i parts)) on old mid → AreSet (λ l. switches_off l (get_or parts i d)) on mid new →
    AreSet (is_ldp_off (take (i + 1) parts)) on old new
ldp_next parts i d on old mid new below so_far more =
    set_as (λ l. is_ldp_off (take i parts) l || switches_off l (get_or parts i d)) (is_ldp_off (take (i + 1) parts)) on old new
    (λ l there. off_more parts i (get_or parts i d) below (get_or_default parts i d (get_or parts i d) below) l)
    (set_then (is_ldp_off (take i parts)) (λ l. switches_off l (get_or parts i d)) on old mid new so_far more)

-- the sessions of one part more
pub ended_next : (parts : List Part) (i : ℕ) (d : Part) (old mid new : List (NodeNo × NodeNo)) (one other : ℕ) → i < length parts →
    list_any (is_between one other) new ≡ (list_any (is_between one other) mid || ends_session one other (get_or parts i d)) →
    list_any (is_between one other) mid ≡ (list_any (is_between one other) old || is_bgp_off (take i parts) one other) →
    list_any (is_between one other) new ≡ (list_any (is_between one other) old || is_bgp_off (take (i + 1) parts) one other)
ended_next parts i d old mid new one other below more so_far =
    more ∙ ap (λ b. b || ends_session one other (get_or parts i d)) so_far
    ∙ or_assoc (list_any (is_between one other) old) (is_bgp_off (take i parts) one other) (ends_session one other (get_or parts i d))
    ∙ ap (λ b. list_any (is_between one other) old || b)
    (bgp_more parts i (get_or parts i d) below (get_or_default parts i d (get_or parts i d) below) one other)

-- 3. Failures are made, and mended

if_off : (front b was : Bool) → was ≡ not front → (if b then false else was) ≡ not (front || b)
if_off true true was is = refl
if_off true false was is = is
if_off false true was is = refl
if_off false false was is = is

if_on : (front b was : Bool) → (b ≡ true → front ≡ false) → was ≡ not (front || b) → (if b then true else was) ≡ not front
if_on true true was apart is = let no = apart refl in cc
if_on true false was apart is = is
if_on false true was apart is = refl
if_on false false was apart is = is

pub made : (topology : Network) (ends : Bool) (front parts : List Part) (old new : Reaching) → HaveFailed topology ends front old → new.failed ≡ old.failed →
    new.ends ≡ old.ends → AreSet (is_down topology parts) false old.up new.up → AreSet (is_ldp_off parts) false old.ldp new.ldp →
    ((one other : ℕ) → list_any (is_between one other) new.ended ≡ (list_any (is_between one other) old.ended || is_bgp_off parts one other)) →
    HaveFailed topology ends (front ++ parts) new
made topology ends front parts old new some failed ending up ldp sessions = record {
  sound = failed ∙ some.sound;
  ending = ending ∙ some.ending;
  up_each = up.each ∙ some.up_each;
  ldp_each = ldp.each ∙ some.ldp_each;
  up = λ l below.
      up.at l (subst (λ n. l < n) (sym some.up_each) below) ∙ if_off (is_down topology front l) (is_down topology parts l) (is_up old.up l) (some.up l below)
      ∙ ap not (sym (list_any-append (takes_down topology l) front parts));
  ldp = λ l below.
      ldp.at l (subst (λ n. l < n) (sym some.ldp_each) below) ∙ if_off (is_ldp_off front l) (is_ldp_off parts l) (is_up old.ldp l) (some.ldp l below)
      ∙ ap not (sym (list_any-append (switches_off l) front parts));
  sessions = λ one other.
      sessions one other ∙ ap (λ b. b || is_bgp_off parts one other) (some.sessions one other) ∙ sym (list_any-append (ends_session one other) front parts);
}

pub mended : (topology : Network) (ends : Bool) (front parts : List Part) (old new : Reaching) → AreApart topology front parts →
    HaveFailed topology ends (front ++ parts) old → new.failed ≡ old.failed → new.ends ≡ old.ends →
    AreSet (is_down topology parts) true old.up new.up → AreSet (is_ldp_off parts) true old.ldp new.ldp → new.ended ≡ [] → HaveFailed topology ends front new
mended topology ends front parts old new apart some failed ending up ldp none = record {
  sound = failed ∙ some.sound;
  ending = ending ∙ some.ending;
  up_each = up.each ∙ some.up_each;
  ldp_each = ldp.each ∙ some.ldp_each;
  up = λ l below.
      up.at l (subst (λ n. l < n) (sym some.up_each) below)
      ∙ if_on (is_down topology front l) (is_down topology parts l) (is_up old.up l) (apart.up l)
      (some.up l below ∙ ap not (list_any-append (takes_down topology l) front parts));
  ldp = λ l below.
      ldp.at l (subst (λ n. l < n) (sym some.ldp_each) below)
      ∙ if_on (is_ldp_off front l) (is_ldp_off parts l) (is_up old.ldp l) (apart.ldp l) (some.ldp l below
      ∙ ap not (list_any-append (switches_off l) front parts));
  sessions = λ one other. ap (list_any (is_between one other)) none ∙ sym (apart.sessions one other);
}

-- sessions end between edges that no links join, or stay from now on
pub ending_so : (topology : Network) (was ends : Bool) (parts : List Part) (old new : Reaching) → HaveFailed topology was parts old →
    new ≡ record old { ends = ends } →
    HaveFailed topology ends parts new
ending_so topology was ends parts old new h is =
    subst (HaveFailed topology ends parts) (sym is)
    (record { sound = h.sound; ending = refl; up_each = h.up_each; ldp_each = h.ldp_each; up = h.up; ldp = h.ldp; sessions = h.sessions })

-- what failed first has failed, and more fails; where the ends of sessions are those of the settings
pub failed_too : (topology : Network) (ends : Bool) (front more : List Part) (old new : Reaching) → HaveFailed topology ends front old →
    ((first : List Part) → HaveFailed topology old.ends first old → HaveFailed topology old.ends (first ++ more) new) →
    HaveFailed topology ends (front ++ more) new
failed_too topology ends front more old new h fails =
    subst (λ e. HaveFailed topology e (front ++ more) new) h.ending (fails front (subst (λ e. HaveFailed topology e front old) (sym h.ending) h))

-- and is mended
pub mended_too : (topology : Network) (ends : Bool) (front more : List Part) (old new : Reaching) → HaveFailed topology ends (front ++ more) old →
    AreApart topology front more →
    ((first : List Part) → AreApart topology first more → HaveFailed topology old.ends (first ++ more) old → HaveFailed topology old.ends first new) →
    HaveFailed topology ends front new
mended_too topology ends front more old new h apart mends =
    subst (λ e. HaveFailed topology e front new) h.ending (mends front apart (subst (λ e. HaveFailed topology e (front ++ more) old) (sym h.ending) h))

-- 4. The links of a node, one after another

-- each earlier one, or this one
module _ (k l : ℕ) where
  sooner : nat_lt k l ≡ true → nat_lt k (l + 1) ≡ true
  sooner e = less_is k (l + 1) (omega (arith, less_tells k l e))

  itself : (l == k) ≡ true → nat_lt k (l + 1) ≡ true
  itself e = less_is k (l + 1) (omega (arith, same_numbers l k e))

  later : nat_lt k l ≡ false → (l == k) ≡ false → nat_lt k (l + 1) ≡ false
  later e other = not_less k (l + 1) (omega (arith, not_less_tells k l e, other_numbers l k other))

  by_both : (e a b : Bool) → nat_lt k l ≡ a → (l == k) ≡ b → ((a && e) || (b && e)) ≡ (nat_lt k (l + 1) && e)
  by_both e true b is other = (either e b) ∙ sym (ap (λ x. x && e) (sooner is))
    where
      either : (e b : Bool) → (e || (b && e)) ≡ e
      either true b = refl
      either false true = refl
      either false false = refl
  by_both e false true is other = sym (ap (λ x. x && e) (itself other))
  by_both e false false is other = sym (ap (λ x. x && e) (later is other))

  pub one_more : (e : Bool) → ((nat_lt k l && e) || ((l == k) && e)) ≡ (nat_lt k (l + 1) && e)
  one_more e = by_both e (nat_lt k l) (l == k) refl refl

-- none so far
pub none_so_far : (k : ℕ) (e : Bool) → false ≡ (nat_lt k 0 && e)
none_so_far k e = sym (ap (λ x. x && e) (not_less k 0 (omega arith)))

-- all of them
pub all_below : (k l : ℕ) (e : Bool) → k < l → (nat_lt k l && e) ≡ e
all_below k l e below = ap (λ x. x && e) (less_is k l below)

-- one that is an end, and one that isn't
pub ends_here : (ends : ℕ → Bool) (link l : ℕ) → ends link ≡ true → (link == l) ≡ ((link == l) && ends l)
ends_here ends link l is = by (link == l) refl
  where
    by : (b : Bool) → (link == l) ≡ b → b ≡ (b && ends l)
    by true e = sym is ∙ ap ends (same_numbers link l e)
    by false e = refl

pub no_end_here : (ends : ℕ → Bool) (link l : ℕ) → ends link ≡ false → false ≡ ((link == l) && ends l)
no_end_here ends link l is = by (link == l) refl
  where
    by : (b : Bool) → (link == l) ≡ b → false ≡ (b && ends l)
    by true e = sym is ∙ ap ends (same_numbers link l e)
    by false e = refl

-- 5. Sessions that were ended

-- one more
pub ended_more : (one other : ℕ) (session : NodeNo × NodeNo) (old new : List (NodeNo × NodeNo)) → new ≡ old ++ session ∷ [] →
    list_any (is_between one other) new ≡ (list_any (is_between one other) old || is_between one other session)
ended_more one other session old new is =
    ap (list_any (is_between one other)) is ∙ list_any-append (is_between one other) old (session ∷ [])
    ∙ ap (λ b. list_any (is_between one other) old || b) (or_false (is_between one other session))
  where
    or_false : (b : Bool) → (b || false) ≡ b
    or_false true = refl
    or_false false = refl

pub or_none : (b : Bool) → b ≡ (b || false)
or_none true = refl
or_none false = refl

-- 6. Parts that are apart

-- where nothing has failed before
pub apart_from_none : (topology : Network) (parts : List Part) → AreApart topology [] parts
apart_from_none topology parts = record { up = λ l is. refl; ldp = λ l is. refl; sessions = λ one other. refl }

or_false_is : (b : Bool) → (b || false) ≡ true → b ≡ true
or_false_is true is = refl
or_false_is false is = is

not_less_itself : (a b : ℕ) → a < b → a ≡ b → ⊥
not_less_itself a b below is = omega (arith, below, is)

-- two different links
module _ (topology : Network) (first last : ℕ) (less : first < last) where
  other_down : (l : ℕ) → is_down topology (link_down last ∷ []) l ≡ true → (first == l) ≡ false
  other_down l is =
      other_test first l (λ (e : first ≡ l). absurd (not_less_itself first last less (e ∙ sym (same_numbers last l (or_false_is (last == l) is)))))

pub links_apart : (topology : Network) (first second : ℕ) → first < second → AreApart topology (link_down first ∷ []) (link_down second ∷ [])
links_apart topology first second less = record {
  up = λ l is. ap (λ b. b || false) (other_down topology first second less l is);
  ldp = λ l is. refl;
  sessions = λ one other. refl;
}

-- and a third one
pub two_apart : (topology : Network) (first second third : ℕ) → first < third → second < third →
    AreApart topology (link_down first ∷ link_down second ∷ []) (link_down third ∷ [])
two_apart topology first second third one two = record {
  up = λ l is.
      ap (λ b. b || ((second == l) || false)) (other_down topology first third one l is)
      ∙ ap (λ b. b || false) (other_down topology second third two l is);
  ldp = λ l is. refl;
  sessions = λ one other. refl;
}
