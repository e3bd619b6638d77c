-- A step leaves the parts that it isn't of, and the last step that names a thing decides it.
use Rattle.std.proofs.Common.{subst}
use Rattle.std.proofs.Common.{◌≡◌, ◌≢◌, ◌⊎◌, ℕ, ◌+◌, ◌==◌, ◌++◌, filter, Bool, true, false, cond, List, [], ◌∷◌, Option, Some, None, refl, sym, ◌∙◌, ap}
use Rattle.std.proofs.Common.{arith, inl, inr}
use Rattle.std.specs.Prelude.{unwrap_or, if◌then◌else◌, is_some, not, ◌&&◌, ◌||◌, nat_lt}
use Rattle.std.proofs.lemmas.Bool.Decides.{eqb_tells}
use Rattle.mn_base.proofs.Bools.{clash, and_left, and_right, other_test, same_numbers, same_test, two_ways}
use Rattle.mn_topo.specs.Network.{Network, wiring_of}
use Rattle.mn_topo.specs.declared.steps.Step.{Step}
use Rattle.mn_topo.specs.declared.steps.Step.TheVariants.{LinkUp, LinkDown, Learn, LdpAdmin, BgpUp, BgpDown, AddRoute, DelRoute, Import}
use Rattle.mn_topo.specs.declared.steps.Step.TheVariants.{Export, Attach, Detach, Inject, Carry, Lose, Tick}
use Rattle.mn_topo.specs.declared.steps.JournalEntry.{JournalEntry}
use Rattle.mn_ledger.specs.World.{World, Config, Peerings}
use Rattle.mn_ledger.specs.Packets.{Packets, packets_after, before_step}
use Rattle.mn_ledger.specs.Transport.{is_transport, knowledge_of, usable_by, sessions_after}
use Rattle.mn_ledger.specs.Exports.{exports_of}
use Rattle.mn_ledger.specs.Bgp.{is_routing, peerings_after, told_all}
use Rattle.mn_ledger.specs.Held.{held}
use Rattle.mn_ledger.specs.Ledger.{after, start, world_from, with_target, is_static}
use Rattle.mn_topo.specs.Prefix.{AddressBlock}
use Rattle.mn_ledger.specs.Exports.{has_target}
use Rattle.mn_ledger.specs.World.{SiteRoute}
use Rattle.std.specs.List.{list_any}
use Rattle.mn_ledger.specs.Parts.{is_configuring, is_viewing, is_moving, KeepsOtherParts, later, last_said, makes_up, switches, starts, times, turns}
use Rattle.mn_ledger.specs.Parts.{teaches, attaches_site, makes_attached, imports_target, exports_target, routes_prefix, IsByLastSteps}

config_kept : (t : Network) (w : World) (s : Step) → is_configuring s ≡ false → (after t w s).config ≡ w.config
config_kept t w (Tick n) h = refl
config_kept t w _ h = cc

views_kept : (t : Network) (w : World) (s : Step) → is_viewing s ≡ false → (after t w s).views ≡ w.views
views_kept t w (LinkUp l) h = cc
views_kept t w (LinkDown l) h = cc
views_kept t w (Learn n l) h = cc
views_kept t w _ h = refl

sessions_kept : (t : Network) (w : World) (s : Step) → is_transport s ≡ false → (after t w s).sessions ≡ w.sessions
unfolding sessions_after
sessions_kept t w (Tick n) h = refl
sessions_kept t w _ h = cc

none_told : (t : Network) (c new : Config) (p : Peerings) (s : Step) → is_routing s ≡ false → peerings_after t c new p s ≡ p
unfolding peerings_after
none_told t c new p (Tick n) h = refl
none_told t c new p _ h = cc

peerings_kept : (t : Network) (w : World) (s : Step) → is_routing s ≡ false → (after t w s).peerings ≡ w.peerings
peerings_kept t w s h = none_told t w.config (after t w s).config w.peerings s h

-- a step of routes or BGP makes edges tell, and what is so once all is told, and of what was sent before, is so after any step
all_told : (t : Network) (c new : Config) (p : Peerings) (s : Step) → is_routing s ≡ true → peerings_after t c new p s ≡ told_all t c new p s
unfolding peerings_after
all_told t c new p (Tick n) h = cc
all_told t c new p _ h = cc

pub peerings_go : (P : Peerings → Type 0) (t : Network) (c new : Config) (p : Peerings) (s : Step) → P (told_all t c new p s) → P p →
    P (peerings_after t c new p s)
peerings_go P t c new p s told still = elim (two_ways (is_routing s)) [
  | inl is ↦ subst P (sym (all_told t c new p s is)) told
  | inr none ↦ subst P (sym (none_told t c new p s none)) still
]

packets_kept : (t : Network) (v : World) (k : Packets) (s : Step) (b : List ℕ) → is_moving s ≡ false → packets_after t v k s b ≡ before_step k
unfolding packets_after
packets_kept t v k (LinkDown l) b h = cc
packets_kept t v k (Inject s n) b h = cc
packets_kept t v k (Carry l d n) b h = cc
packets_kept t v k (Lose l d n) b h = cc
packets_kept t v k _ b h = refl

-- what a node knows, what an edge exports, and what a VRF holds
pub knowledge_kept : (t : Network) (w : World) (s : Step) (node : ℕ) → is_transport s ≡ false →
    knowledge_of (wiring_of t) (after t w s).config (after t w s).views (after t w s).sessions node ≡ knowledge_of
    (wiring_of t) w.config w.views w.sessions node
unfolding knowledge_of sessions_after
knowledge_kept t w (Tick n) node h = refl
knowledge_kept t w _ node h = cc

pub held_kept : (t : Network) (w : World) (s : Step) (edge v : ℕ) → is_routing s ≡ false →
    held t (after t w s).config (after t w s).peerings edge v ≡ held t w.config w.peerings edge v
unfolding held peerings_after
held_kept t w (Tick n) edge v h = refl
held_kept t w _ edge v h = cc

pub exports_kept : (t : Network) (w : World) (s : Step) (edge : ℕ) → is_routing s ≡ false → exports_of t (after t w s).config edge ≡ exports_of t w.config edge
exports_kept t w (Tick n) edge h = refl
exports_kept t w _ edge h = cc

pub other_parts_kept : (t : Network) (w : World) (k : Packets) (s : Step) (b : List ℕ) → KeepsOtherParts t w k s b
other_parts_kept t w k s b = record {
  configured = config_kept t w s;
  viewed = views_kept t w s;
  said = sessions_kept t w s;
  told = peerings_kept t w s;
  moved = packets_kept t (after t w s) k s b;
  knows = λ h node. knowledge_kept t w s node h;
  sends = λ h node fec. ap (λ x. usable_by (wiring_of t) x node fec) (knowledge_kept t w s node h);
  exports = λ h edge. exports_kept t w s edge h;
  holds = λ h edge v. held_kept t w s edge v h;
}

-- what each step sets as it says, or leaves, is what the last that says anything says
abbrev IsSet : {A : Type 0} → Network → (World → A) → (Step → Option A) → Type 0
IsSet {A} t of says = (w : World) (s : Step) → of (after t w s) ≡ unwrap_or (says s) (of w)

later_or : {A : Type 0} (x y : Option A) (d : A) → unwrap_or (later x y) d ≡ unwrap_or x (unwrap_or y d)
later_or (Some v) y d = refl
later_or None y d = refl

last_decides : {A : Type 0} (t : Network) (of : World → A) (says : Step → Option A) → IsSet t of says →
    (w : World) (es : List JournalEntry) → of (world_from t w es) ≡ unwrap_or (last_said says es) (of w)
last_decides t of says set w [] = refl
last_decides t of says set w (e ∷ es) =
    last_decides t of says set (after t w e.step) es ∙ ap (unwrap_or (last_said says es)) (set w e.step)
    ∙ sym (later_or (last_said says es) (says e.step) (of w))

put_says : {A : Type 0} (f : ℕ → A) (k : ℕ) (v : A) (l : ℕ) → cond (l == k) v (f l) ≡ unwrap_or (cond (l == k) (Some v) None) (f l)
put_says f k v l = elim (eqb_tells l k) [ inl q ↦ rw q.0 refl | inr q ↦ rw q.0 refl ]

up_set : (t : Network) (l : ℕ) → IsSet t (λ w. w.config.is_up l) (makes_up l)
up_set t l w (LinkUp k) = put_says w.config.is_up k.0 true l
up_set t l w (LinkDown k) = put_says w.config.is_up k.0 false l
up_set t l w _ = refl

switch_set : (t : Network) (l : ℕ) → IsSet t (λ w. w.config.ldp_on l) (switches l)
switch_set t l w (LdpAdmin k on) = put_says w.config.ldp_on k.0 on l
switch_set t l w _ = refl

pair_says : {A : Type 0} (f : ℕ → ℕ → A) (j k : ℕ) (v : A) (a b : ℕ) →
    (cond (a == j) (λ x. cond (x == k) v (f j x)) (f a)) b ≡ unwrap_or (cond (a == j) (cond (b == k) (Some v) None) None) (f a b)
pair_says f j k v a b =
    elim (eqb_tells a j) [
      | inl q ↦ elim (eqb_tells b k) [ inl r ↦ rw (q.0, r.0) refl | inr r ↦ rw (q.0, r.0, q.1) refl ]
      | inr q ↦ rw q.0 refl
    ]

session_set : (t : Network) (a b : ℕ) → IsSet t (λ w. w.config.bgp_on a b) (starts a b)
session_set t a b w (BgpUp j k) = pair_says w.config.bgp_on j.0 k.0 true a b
session_set t a b w (BgpDown j k) = pair_says w.config.bgp_on j.0 k.0 false a b
session_set t a b w _ = refl

-- what each step raises by one, or leaves, is a count
abbrev IsCounted : Network → (World → ℕ) → (Step → Bool) → Type 0
IsCounted t of does = (w : World) (s : Step) → of (after t w s) ≡ (if does s then 1 else 0) + of w

counts : (t : Network) (of : World → ℕ) (does : Step → Bool) → IsCounted t of does →
    (w : World) (es : List JournalEntry) → of (world_from t w es) ≡ times does es + of w
counts t of does one w [] = omega arith
counts t of does one w (e ∷ es) =
    let rest : of (world_from t (after t w e.step) es) ≡ times does es + of (after t w e.step) = counts t of does one (after t w e.step) es in
    let here : of (after t w e.step) ≡ (if does e.step then 1 else 0) + of w = one w e.step in
    omega (arith, rest, here)

put_counts : (f : ℕ → ℕ) (k l : ℕ) → cond (l == k) (f k + 1) (f l) ≡ (if l == k then 1 else 0) + f l
put_counts f k l = elim (eqb_tells l k) [ inl q ↦ rw (q.0, q.1) (omega arith) | inr q ↦ rw q.0 (omega arith) ]

none : (n : ℕ) → n ≡ 0 + n
none n = omega arith

turn_counts : (t : Network) (l : ℕ) → IsCounted t (λ w. w.views.changes l) (turns l)
turn_counts t l w (LinkUp k) = put_counts w.views.changes k.0 l
turn_counts t l w (LinkDown k) = put_counts w.views.changes k.0 l
turn_counts t l w _ = none _

pair_counts : (f : ℕ → ℕ → ℕ) (j k a b : ℕ) →
    (cond (a == j) (λ x. cond (x == k) (f j k + 1) (f j x)) (f a)) b ≡ (if (if a == j then b == k else false) then 1 else 0) + f a b
pair_counts f j k a b =
    elim (eqb_tells a j) [
      | inl q ↦ elim (eqb_tells b k) [ inl r ↦ rw (q.0, r.0, q.1, r.1) (omega arith) | inr r ↦ rw (q.0, r.0, q.1) (omega arith) ]
      | inr q ↦ rw q.0 (omega arith)
    ]

learn_counts : (t : Network) (n l : ℕ) → IsCounted t (λ w. w.views.learned n l) (teaches n l)
learn_counts t n l w (Learn m k) = pair_counts w.views.learned m.0 k.0 n l
learn_counts t n l w _ = none _

attach_counts : (t : Network) (s : ℕ) → IsCounted t (λ w. w.config.attaches s) (attaches_site s)
attach_counts t s w (Attach r) = put_counts w.config.attaches r.0 s
attach_counts t s w _ = none _

-- what is put to a value by `or`, before a new value or after it
beyond : (a b c : Bool) → (a || unwrap_or (cond b (Some true) None) c) ≡ unwrap_or (cond b (Some true) None) (a || c)
beyond true true c = refl
beyond true false c = refl
beyond false true c = refl
beyond false false c = refl

-- a set after a change of one target
set_says : (set : List ℕ) (y : ℕ) (on : Bool) (x : ℕ) → has_target (with_target y on set) x ≡ unwrap_or (cond (x == y) (Some on) None) (has_target set x)
set_says [] y true x = elim (eqb_tells x y) [ inl p ↦ rw (p.0, p.1, same_test y) refl | inr p ↦ rw (p.0, other_test y x (λ e. p.1 (sym e))) refl ]
set_says (z ∷ zs) y true x = put_in (nat_lt y z) refl (set_says zs y true x)
  where
    put_in : (less : Bool) → nat_lt y z ≡ less → has_target (with_target y true zs) x ≡ unwrap_or (cond (x == y) (Some true) None) (has_target zs x) →
        has_target (cond less (y ∷ z ∷ zs) (z ∷ with_target y true zs)) x ≡ unwrap_or (cond (x == y) (Some true) None) (has_target (z ∷ zs) x)
    put_in true h rest = elim (eqb_tells x y) [ inl p ↦ rw (p.0, p.1, same_test y) refl | inr p ↦ rw (p.0, other_test y x (λ e. p.1 (sym e))) refl ]
    put_in false h rest = ap (λ b. (z == x) || b) rest ∙ beyond (z == x) (x == y) (has_target zs x)
set_says [] y false x = elim (eqb_tells x y) [ inl p ↦ rw p.0 refl | inr p ↦ rw p.0 refl ]
set_says (z ∷ zs) y false x = elim (eqb_tells y z) [
  | inl p ↦ ap (λ b. has_target (cond (not b) (z ∷ filter (λ other. not (y == other)) zs) (filter (λ other. not (y == other)) zs)) x) p.0
      ∙ set_says zs y false x ∙ gone p.1
  | inr p ↦ ap (λ b. has_target (cond (not b) (z ∷ filter (λ other. not (y == other)) zs) (filter (λ other. not (y == other)) zs)) x) p.0
      ∙ ap (λ b. (z == x) || b) (set_says zs y false x) ∙ kept p.1
]
  where
    gone : y ≡ z → unwrap_or (cond (x == y) (Some false) None) (has_target zs x) ≡ unwrap_or (cond (x == y) (Some false) None) ((z == x) || has_target zs x)
    gone e = elim (eqb_tells x y) [ inl q ↦ rw q.0 refl | inr q ↦ rw (q.0, other_test z x (λ r. q.1 (sym r ∙ sym e))) refl ]

    kept : y ≢ z →
        ((z == x) || unwrap_or (cond (x == y) (Some false) None) (has_target zs x)) ≡ unwrap_or (cond (x == y) (Some false) None)
        ((z == x) || has_target zs x)
    kept d = elim (eqb_tells x y) [ inl q ↦ rw (q.0, other_test z x (λ r. d (sym q.1 ∙ sym r))) refl | inr q ↦ rw q.0 refl ]

targets_say : (f : ℕ → List ℕ) (k y : ℕ) (on : Bool) (v x : ℕ) →
    has_target (cond (v == k) (with_target y on (f k)) (f v)) x ≡ unwrap_or (cond (v == k) (cond (x == y) (Some on) None) None) (has_target (f v) x)
targets_say f k y on v x = elim (eqb_tells v k) [ inl p ↦ rw (p.0, p.1) (set_says (f k) y on x) | inr p ↦ rw p.0 refl ]

import_set : (t : Network) (v x : ℕ) → IsSet t (λ w. has_target (w.config.imports v) x) (imports_target v x)
import_set t v x w (Import k on y) = targets_say w.config.imports k.0 y.0 on v x
import_set t v x w _ = refl

export_set : (t : Network) (v x : ℕ) → IsSet t (λ w. has_target (w.config.exports v) x) (exports_target v x)
export_set t v x w (Export k on y) = targets_say w.config.exports k.0 y.0 on v x
export_set t v x w _ = refl

-- a site's attachment
attached_says : (f : ℕ → Option ℕ) (k : ℕ) (o : Option ℕ) (s : ℕ) →
    is_some (cond (s == k) o (f s)) ≡ unwrap_or (cond (s == k) (Some (is_some o)) None) (is_some (f s))
attached_says f k o s = elim (eqb_tells s k) [ inl p ↦ rw p.0 refl | inr p ↦ rw p.0 refl ]

attached_set : (t : Network) (s : ℕ) → IsSet t (λ w. is_some (w.config.attached s)) (makes_attached s)
attached_set t s w (Attach r) = attached_says w.config.attached r.0 (Some (w.config.attaches r.0 + 2)) s
attached_set t s w (Detach r) = attached_says w.config.attached r.0 None s
attached_set t s w _ = refl

-- the number of a present attachment
abbrev IsNumbered : World → Type 0
IsNumbered w = (s n : ℕ) → w.config.attached s ≡ Some n → n ≡ 1 + w.config.attaches s

number_kept : (t : Network) (w : World) (st : Step) → IsNumbered w → IsNumbered (after t w st)
number_kept t w (Attach r) h s n = elim (eqb_tells s r.0) [
  | inl p ↦ rw p.0 (λ e. new (w.config.attaches r.0) n e)
  | inr p ↦ rw p.0 (h s n)
]
  where
    new : (k n : ℕ) → Some (k + 2) ≡ Some n → n ≡ 1 + (k + 1)
    new k n e = let same : k + 2 ≡ n = cc in omega (arith, same)
number_kept t w (Detach r) h s n = elim (eqb_tells s r.0) [
  | inl p ↦ rw p.0 (λ e. absurd (none n e))
  | inr p ↦ rw p.0 (h s n)
]
  where
    none : (n : ℕ) → None ≡ Some n → ⊥
    none n e = cc
number_kept t w _ h s n = h s n

numbers_kept : (t : Network) (w : World) (es : List JournalEntry) → IsNumbered w → IsNumbered (world_from t w es)
numbers_kept t w [] h = h
numbers_kept t w (e ∷ es) h = numbers_kept t (after t w e.step) es (number_kept t w e.step h)

first_number : (t : Network) → IsNumbered (start t)
first_number t s n e = let same : 1 ≡ n = cc in omega (arith, same)

-- statics
same_as : (s : ℕ) (prefix : AddressBlock) (x : SiteRoute) → is_static s prefix x ≡ true →
    (x.site ≡ s) × (x.prefix.address ≡ prefix.address) × (x.prefix.length ≡ prefix.length)
same_as s prefix x h = (
  same_numbers x.site s (and_left _ _ h),
  same_numbers x.prefix.address prefix.address (and_left _ _ (and_right _ _ h)),
  same_numbers x.prefix.length prefix.length (and_right _ _ (and_right _ _ h)),
)

-- two that are each the same as a third
both_static : (s : ℕ) (prefix : AddressBlock) (r : ℕ) (other : AddressBlock) (x : SiteRoute) → is_static r other x ≡ true →
    is_static s prefix x ≡ is_static s prefix (record { site = r; prefix = other })
both_static s prefix r other x h =
    let e = same_as r other x h in
    ap (λ n. (n == s) && ((x.prefix.address == prefix.address) && (x.prefix.length == prefix.length))) e.0
    ∙ ap (λ n. (r == s) && ((n == prefix.address) && (x.prefix.length == prefix.length))) e.1
    ∙ ap (λ n. (r == s) && ((other.address == prefix.address) && (n == prefix.length))) e.2

added_says : (s : ℕ) (prefix : AddressBlock) (xs : List SiteRoute) (x : SiteRoute) →
    list_any (is_static s prefix) (xs ++ x ∷ []) ≡ unwrap_or (cond (is_static s prefix x) (Some true) None) (list_any (is_static s prefix) xs)
added_says s prefix [] x = one (is_static s prefix x)
  where
    one : (b : Bool) → (b || false) ≡ unwrap_or (cond b (Some true) None) false
    one true = refl
    one false = refl
added_says s prefix (y ∷ ys) x =
    ap (λ b. is_static s prefix y || b) (added_says s prefix ys x) ∙ beyond (is_static s prefix y) (is_static s prefix x) (list_any (is_static s prefix) ys)

removed_says : (s : ℕ) (prefix : AddressBlock) (r : ℕ) (other : AddressBlock) (xs : List SiteRoute)
    → list_any (is_static s prefix) (filter (λ static. not (is_static r other static)) xs) ≡ unwrap_or
    (cond (is_static s prefix (record { site = r; prefix = other })) (Some false) None) (list_any (is_static s prefix) xs)
removed_says s prefix r other [] = nothing (is_static s prefix (record { site = r; prefix = other }))
  where
    nothing : (b : Bool) → false ≡ unwrap_or (cond b (Some false) None) false
    nothing true = refl
    nothing false = refl
removed_says s prefix r other (x ∷ xs) = elim (two_ways (is_static r other x)) [
  | inl p ↦
      ap (λ b. list_any (is_static s prefix)
      (cond (not b) (x ∷ filter (λ static. not (is_static r other static)) xs) (filter (λ static. not (is_static r other static)) xs))) p
      ∙ removed_says s prefix r other xs
      ∙ sym (ap (λ b. unwrap_or (cond (is_static s prefix (record { site = r; prefix = other })) (Some false) None)
      (b || list_any (is_static s prefix) xs)) (both_static s prefix r other x p)
      ∙ gone (is_static s prefix (record { site = r; prefix = other })) (list_any (is_static s prefix) xs))
  | inr p ↦
      ap (λ b. list_any (is_static s prefix)
      (cond (not b) (x ∷ filter (λ static. not (is_static r other static)) xs) (filter (λ static. not (is_static r other static)) xs))) p
      ∙ ap (λ b. is_static s prefix x || b) (removed_says s prefix r other xs) ∙ stays (two_ways (is_static s prefix (record { site = r; prefix = other }))) p
]
  where
    gone : (b c : Bool) → unwrap_or (cond b (Some false) None) (b || c) ≡ unwrap_or (cond b (Some false) None) c
    gone true c = refl
    gone false c = refl

    -- one that isn't removed isn't this one, where this one is
    other_one : is_static s prefix (record { site = r; prefix = other }) ≡ true → is_static r other x ≡ false → is_static s prefix x ≡ false
    other_one here p = elim (two_ways (is_static s prefix x)) [
      | inr q ↦ q
      | inl q ↦ absurd (clash (sym (turned q here) ∙ p))
    ]
      where
        turned : is_static s prefix x ≡ true → is_static s prefix (record { site = r; prefix = other }) ≡ true → is_static r other x ≡ true
        turned q here =
            let e = same_as s prefix x q in
            let f = same_as s prefix (record { site = r; prefix = other }) here in
            ap (λ n. (n == r) && ((x.prefix.address == other.address) && (x.prefix.length == other.length))) (e.0 ∙ sym f.0)
            ∙ ap (λ n. (r == r) && ((n == other.address) && (x.prefix.length == other.length))) (e.1 ∙ sym f.1)
            ∙ ap (λ n. (r == r) && ((other.address == other.address) && (n == other.length))) (e.2 ∙ sym f.2)
            ∙ all_three (same_test r) (same_test other.address) (same_test other.length)
          where
            all_three : {a b c : Bool} → a ≡ true → b ≡ true → c ≡ true → (a && (b && c)) ≡ true
            all_three {a} {b} {c} x y z = ap (λ q. q && (b && c)) x ∙ ap (λ q. q && c) y ∙ z

    stays : ((is_static s prefix (record { site = r; prefix = other }) ≡ true) ⊎ (is_static s prefix (record { site = r; prefix = other }) ≡ false)) →
        is_static r other x ≡ false
        → (is_static s prefix x || unwrap_or (cond (is_static s prefix (record { site = r; prefix = other })) (Some false) None)
        (list_any (is_static s prefix) xs)) ≡ unwrap_or (cond (is_static s prefix (record { site = r; prefix = other })) (Some false) None)
        (is_static s prefix x || list_any (is_static s prefix) xs)
    stays d p = elim d [
      | inl q ↦ rw (q, other_one q p) refl
      | inr q ↦ rw q refl
    ]

static_set : (t : Network) (s : ℕ) (prefix : AddressBlock) → IsSet t (λ w. list_any (is_static s prefix) w.config.statics) (routes_prefix s prefix)
static_set t s prefix w (AddRoute r other) = added_says s prefix w.config.statics (record { site = r.0; prefix = other })
static_set t s prefix w (DelRoute r other) = removed_says s prefix r.0 other w.config.statics
static_set t s prefix w _ = refl

from_none : (n : ℕ) (m : ℕ) → n ≡ m + 0 → n ≡ m
from_none n m h = omega (arith, h)

pub last_steps_decide : (t : Network) (es : List JournalEntry) → IsByLastSteps t es
last_steps_decide t es = record {
  links = λ l. last_decides t (λ w. w.config.is_up l) (makes_up l) (up_set t l) (start t) es;
  switches_are = λ l. last_decides t (λ w. w.config.ldp_on l) (switches l) (switch_set t l) (start t) es;
  sessions = λ a b. last_decides t (λ w. w.config.bgp_on a b) (starts a b) (session_set t a b) (start t) es;
  imports = λ v x. last_decides t (λ w. has_target (w.config.imports v) x) (imports_target v x) (import_set t v x) (start t) es;
  exports = λ v x. last_decides t (λ w. has_target (w.config.exports v) x) (exports_target v x) (export_set t v x) (start t) es;
  statics = λ s prefix. last_decides t (λ w. list_any (is_static s prefix) w.config.statics) (routes_prefix s prefix) (static_set t s prefix) (start t) es;
  attached = λ s. last_decides t (λ w. is_some (w.config.attached s)) (makes_attached s) (attached_set t s) (start t) es;
  attachment =
      λ s n e. numbers_kept t (start t) es (first_number t) s n e
      ∙ ap (λ k. 1 + k) (from_none _ _ (counts t (λ w. w.config.attaches s) (attaches_site s) (attach_counts t s) (start t) es));
  attaches = λ s. from_none _ _ (counts t (λ w. w.config.attaches s) (attaches_site s) (attach_counts t s) (start t) es);
  changes = λ l. from_none _ _ (counts t (λ w. w.views.changes l) (turns l) (turn_counts t l) (start t) es);
  learned = λ n l. from_none _ _ (counts t (λ w. w.views.learned n l) (teaches n l) (learn_counts t n l) (start t) es);
}
