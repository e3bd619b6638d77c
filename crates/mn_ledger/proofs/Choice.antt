-- `best` names the best route, which is one: RFC 1812, section 5.2.4.3.
use Rattle.std.proofs.Common.{ℕ, suc, ◌≡◌, ◌+◌, ◌<◌, ◌⊎◌, inl, inr, Bool, true, false, List, [], ◌∷◌, refl, arith, sym, ◌∙◌, ap, Some, None}
use Rattle.std.specs.Prelude.{◌==◌, ◌&&◌, ◌||◌, not, nat_lt}
use Rattle.std.specs.List.{list_any}
use Rattle.std.proofs.lemmas.Bool.Decides.{eqb_tells, leb_tells, nat_tests}
use Rattle.mn_base.proofs.Bools.{less_is, less_tells, no, not_true, less_itself}
use Rattle.mn_topo.specs.Prefix.{IsPrefix, contains}
use Rattle.mn_topo.specs.Network.{Network}
use Rattle.mn_topo.specs.Lawful.{IsLawful}
use Rattle.mn_topo.specs.declared.steps.JournalEntry.{JournalEntry}
use Rattle.mn_ledger.specs.World.{World}
use Rattle.mn_ledger.specs.Held.{Source, Own, Near, Far, HeldRoute, is_preferred, is_better, matching, unbeaten, first_of, best, held}
use Rattle.mn_ledger.specs.Packets.{Packets, packets_after}
use Rattle.mn_ledger.specs.Time.{clock_after}
use Rattle.mn_ledger.specs.Ledger.{packets_by, after, start, no_packets, next_of, left_by, world_from, world_of}
use Rattle.mn_ledger.specs.Lawful.{IsLawfulFrom, IsLawfulJournal}
use Rattle.mn_ledger.specs.Best.{IsBest, NamesTheBest}
use Rattle.mn_ledger.proofs.Peers.{two_ways}
use Rattle.mn_ledger.proofs.Turning.{loopbacks_apart}
use Rattle.mn_ledger.proofs.Members.{In, in_contained, contained_in, in_filter, filter_in, none_passes, passes_none}
use Rattle.mn_ledger.proofs.Statics.{HasStatics, HasForms, first_statics, first_forms, statics_go, forms_go}
use Rattle.mn_ledger.proofs.Tellings.{AllGood, tellings_go}
use Rattle.mn_ledger.proofs.Held.{one_held, held_formed}
pub use Rattle.mn_topo.proofs.Matches.{one_of_length as one_prefix}

-- 1. A number first, and then something else

lex : ℕ → ℕ → Bool → Bool
lex m n later = nat_lt m n || ((m == n) && later)

lex_tells : (m n : ℕ) (later : Bool) → lex m n later ≡ true → (m < n) ⊎ ((m ≡ n) × (later ≡ true))
unfolding lex
lex_tells m n later h = elim (leb_tells (suc m) n) [
  | inl p ↦ inl p.1
  | inr p ↦ elim (eqb_tells m n) [
    | inl q ↦ inr (q.1, sym (ap (λ b. b || ((m == n) && later)) p.0 ∙ ap (λ b. b && later) q.0) ∙ h)
    | inr q ↦ absurd (no (sym (ap (λ b. b || ((m == n) && later)) p.0 ∙ ap (λ b. b && later) q.0) ∙ h))
  ]
]

lex_less : (m n : ℕ) (later : Bool) → m < n → lex m n later ≡ true
unfolding lex
lex_less m n later h = ap (λ b. b || ((m == n) && later)) (less h)
  where
    less : m < n → nat_lt m n ≡ true
    less h = grind (arith, nat_tests, h)

lex_same : (m n : ℕ) (later : Bool) → m ≡ n → lex m n later ≡ later
unfolding lex
lex_same m n later h = ap (λ b. b || ((m == n) && later)) (not_less h) ∙ ap (λ b. b && later) (same h)
  where
    not_less : m ≡ n → nat_lt m n ≡ false
    not_less h = grind (arith, nat_tests, h)

    same : m ≡ n → (m == n) ≡ true
    same h = grind (arith, nat_tests, h)

-- neither comes first
lex_neither : (m n : ℕ) (later sooner : Bool) → lex m n later ≡ false → lex n m sooner ≡ false → (m ≡ n) × (later ≡ false) × (sooner ≡ false)
lex_neither m n later sooner h g = elim (leb_tells (suc m) n) [
  | inl p ↦ absurd (no (sym h ∙ lex_less m n later p.1))
  | inr p ↦ elim (leb_tells (suc n) m) [
    | inl q ↦ absurd (no (sym g ∙ lex_less n m sooner q.1))
    | inr q ↦ let e : m ≡ n = omega (arith, p.1, q.1) in (e, sym (lex_same m n later e) ∙ h, sym (lex_same n m sooner (sym e)) ∙ g)
  ]
]

-- 2. The order of sources is strict, and total

pref_itself : (s : Source) → is_preferred s s ≡ false
unfolding lex
pref_itself Own = refl
pref_itself (Near v) = less_itself v
pref_itself (Far a r) = lex_same a a (nat_lt r r) refl ∙ less_itself r

far_on : (a b c : ℕ) (r s u : ℕ) → lex a b (nat_lt r s) ≡ true → lex b c (nat_lt s u) ≡ true → lex a c (nat_lt r u) ≡ true
far_on a b c r s u h g = elim (lex_tells a b (nat_lt r s) h) [
  | inl p ↦ elim (lex_tells b c (nat_lt s u) g) [
    | inl q ↦ lex_less a c (nat_lt r u) (omega (arith, p, q))
    | inr q ↦ lex_less a c (nat_lt r u) (omega (arith, p, q.0))
  ]
  | inr p ↦ elim (lex_tells b c (nat_lt s u) g) [
    | inl q ↦ lex_less a c (nat_lt r u) (omega (arith, p.0, q))
    | inr q ↦ lex_same a c (nat_lt r u) (p.0 ∙ q.0) ∙ less_is r u (omega (arith, less_tells r s p.1, less_tells s u q.1))
  ]
]

pref_on : (x y z : Source) → is_preferred x y ≡ true → is_preferred y z ≡ true → is_preferred x z ≡ true
unfolding lex
pref_on Own Own z h g = absurd (no h)
pref_on Own (Near v) Own h g = absurd (no g)
pref_on Own (Near v) (Near w) h g = refl
pref_on Own (Near v) (Far a r) h g = refl
pref_on Own (Far a r) Own h g = absurd (no g)
pref_on Own (Far a r) (Near w) h g = absurd (no g)
pref_on Own (Far a r) (Far b s) h g = refl
pref_on (Near u) Own z h g = absurd (no h)
pref_on (Near u) (Near v) Own h g = absurd (no g)
pref_on (Near u) (Near v) (Near w) h g = less_is u w (omega (arith, less_tells u v h, less_tells v w g))
pref_on (Near u) (Near v) (Far a r) h g = refl
pref_on (Near u) (Far a r) Own h g = absurd (no g)
pref_on (Near u) (Far a r) (Near w) h g = absurd (no g)
pref_on (Near u) (Far a r) (Far b s) h g = refl
pref_on (Far a r) Own z h g = absurd (no h)
pref_on (Far a r) (Near v) z h g = absurd (no h)
pref_on (Far a r) (Far b s) Own h g = absurd (no g)
pref_on (Far a r) (Far b s) (Near w) h g = absurd (no g)
pref_on (Far a r) (Far b s) (Far c u) h g = far_on a b c r s u h g

equal_if : (m n : ℕ) → nat_lt m n ≡ false → nat_lt n m ≡ false → m ≡ n
equal_if m n h g = grind (arith, nat_tests, h, g)

pub pref_neither : (x y : Source) → is_preferred x y ≡ false → is_preferred y x ≡ false → x ≡ y
unfolding lex
pref_neither Own Own h g = refl
pref_neither Own (Near v) h g = absurd (no (sym h))
pref_neither Own (Far a r) h g = absurd (no (sym h))
pref_neither (Near v) Own h g = absurd (no (sym g))
pref_neither (Near v) (Near w) h g = ap Near (equal_if v w h g)
pref_neither (Near v) (Far a r) h g = absurd (no (sym h))
pref_neither (Far a r) Own h g = absurd (no (sym g))
pref_neither (Far a r) (Near w) h g = absurd (no (sym g))
pref_neither (Far a r) (Far b s) h g =
    let parts = lex_neither a b (nat_lt r s) (nat_lt s r) h g in
    ap (λ n. Far n r) parts.0 ∙ ap (Far b) (equal_if r s parts.1 parts.2)

-- 3. The order of routes

better_itself : (x : HeldRoute) → is_better x x ≡ false
unfolding lex
better_itself x = lex_same x.prefix.length x.prefix.length (is_preferred x.source x.source) refl ∙ pref_itself x.source

-- as the longer prefix first
better_is : (x y : HeldRoute) → is_better x y ≡ true →
    (y.prefix.length < x.prefix.length) ⊎ ((x.prefix.length ≡ y.prefix.length) × (is_preferred x.source y.source ≡ true))
better_is x y h = elim (leb_tells (suc y.prefix.length) x.prefix.length) [
  | inl p ↦ inl p.1
  | inr p ↦ elim (eqb_tells x.prefix.length y.prefix.length) [
    | inl q ↦ inr (
      q.1,
      sym (ap (λ b. b || ((x.prefix.length == y.prefix.length) && is_preferred x.source y.source)) p.0
          ∙ ap (λ b. b && is_preferred x.source y.source) q.0) ∙ h,
    )
    | inr q ↦ absurd
        (no (sym (ap (λ b. b || ((x.prefix.length == y.prefix.length) && is_preferred x.source y.source)) p.0
        ∙ ap (λ b. b && is_preferred x.source y.source) q.0) ∙ h))
  ]
]

longer_is : (x y : HeldRoute) → y.prefix.length < x.prefix.length → is_better x y ≡ true
longer_is x y h = ap (λ b. b || ((x.prefix.length == y.prefix.length) && is_preferred x.source y.source)) (less_is y.prefix.length x.prefix.length h)

as_long : (x y : HeldRoute) → x.prefix.length ≡ y.prefix.length → is_better x y ≡ is_preferred x.source y.source
as_long x y e =
    ap (λ b. b || ((x.prefix.length == y.prefix.length) && is_preferred x.source y.source)) (not_less e)
    ∙ ap (λ b. b && is_preferred x.source y.source) (same e)
  where
    not_less : x.prefix.length ≡ y.prefix.length → nat_lt y.prefix.length x.prefix.length ≡ false
    not_less h = grind (arith, nat_tests, h)

    same : x.prefix.length ≡ y.prefix.length → (x.prefix.length == y.prefix.length) ≡ true
    same h = grind (arith, nat_tests, h)

better_on : (x y z : HeldRoute) → is_better x y ≡ true → is_better y z ≡ true → is_better x z ≡ true
better_on x y z h g = elim (better_is x y h) [
  | inl p ↦ elim (better_is y z g) [
    | inl q ↦ longer_is x z (omega (arith, p, q))
    | inr q ↦ longer_is x z (omega (arith, p, q.0))
  ]
  | inr p ↦ elim (better_is y z g) [
    | inl q ↦ longer_is x z (omega (arith, p.0, q))
    | inr q ↦ as_long x z (p.0 ∙ q.0) ∙ pref_on x.source y.source z.source p.1 q.1
  ]
]

pub neither_better : (x y : HeldRoute) → is_better x y ≡ false → is_better y x ≡ false → (x.prefix.length ≡ y.prefix.length) × (x.source ≡ y.source)
neither_better x y h g =
    let lengths : x.prefix.length ≡ y.prefix.length = not_longer in
    (lengths, pref_neither x.source y.source (sym (as_long x y lengths) ∙ h) (sym (as_long y x (sym lengths)) ∙ g))
  where
    not_longer : x.prefix.length ≡ y.prefix.length
    not_longer = elim (leb_tells (suc y.prefix.length) x.prefix.length) [
      | inl p ↦ absurd (no (sym h ∙ longer_is x y p.1))
      | inr p ↦ elim (leb_tells (suc x.prefix.length) y.prefix.length) [
        | inl q ↦ absurd (no (sym g ∙ longer_is y x q.1))
        | inr q ↦ omega (arith, p.1, q.1)
      ]
    ]

-- 4. Some route is unbeaten

abbrev Unbeaten : List HeldRoute → HeldRoute → Type 0
Unbeaten xs x = (y : HeldRoute) → In xs y → is_better y x ≡ false

some_unbeaten : (c : HeldRoute) (xs : List HeldRoute) → (x : HeldRoute) × In (c ∷ xs) x × Unbeaten (c ∷ xs) x
some_unbeaten c [] = (c, inl refl, λ y i. elim i [ inl e ↦ ap (λ z. is_better z c) (sym e) ∙ better_itself c | inr j ↦ absurd j ])
some_unbeaten c (d ∷ xs) =
    let top = some_unbeaten c xs in
    elim (two_ways (is_better d top.0)) [
      | inl p ↦ (
        d,
        inr (inl refl),
        λ y i. elim (two_ways (is_better y d)) [
          | inr q ↦ q
          | inl q ↦ absurd (no (sym (either top.0 top.2 y i (λ e. no (sym (better_itself d) ∙ ap (λ z. is_better z d) e ∙ q))) ∙ better_on y d top.0 q p))
        ],
      )
      | inr p ↦ (
        top.0,
        elim top.1 [ inl e ↦ inl e | inr j ↦ inr (inr j) ],
        λ y i. elim i [
          | inl e ↦ top.2 y (inl e)
          | inr j ↦ elim j [ inl e ↦ ap (λ z. is_better z top.0) (sym e) ∙ p | inr k ↦ top.2 y (inr k) ]
        ],
      )
    ]
  where
    either : (x : HeldRoute) → ((y : HeldRoute) → In (c ∷ xs) y → is_better y x ≡ false) → (y : HeldRoute) → In (c ∷ d ∷ xs) y →
        (d ≡ y → ⊥) → is_better y x ≡ false
    either x h y i other = elim i [
      | inl e ↦ h y (inl e)
      | inr j ↦ elim j [ inl e ↦ absurd (other e) | inr k ↦ h y (inr k) ]
    ]

-- 5. The best route

pub in_first : (xs : List HeldRoute) (x : HeldRoute) → first_of xs ≡ Some x → In xs x
in_first [] x h = cc
in_first (y ∷ ys) x h = inl (ap (λ o. elim o as (λ _. HeldRoute) [ None ↦ y | Some z ↦ z ]) h)

first_there : (xs : List HeldRoute) (x : HeldRoute) → In xs x → (y : HeldRoute) × In xs y × (first_of xs ≡ Some y)
first_there [] x i = absurd i
first_there (y ∷ ys) x i = (y, inl refl, refl)

pub from_unbeaten : (routes : List HeldRoute) (address : ℕ) (x : HeldRoute) → In (unbeaten (matching address routes)) x → IsBest routes address x
from_unbeaten routes address x i =
    let found : List HeldRoute = matching address routes in
    let u = in_filter (λ route. not (list_any (λ other. is_better other route) found)) found x i in
    let m = in_filter (λ (route : HeldRoute). contains route.prefix address) routes x u.0 in
    record {
      held = contained_in routes x m.0;
      matches = m.1;
      unbeaten = λ other there covers. none_passes (λ other. is_better other x) found other (not_true (list_any (λ other. is_better other x) found) u.1)
          (filter_in (λ (route : HeldRoute). contains route.prefix address) routes other (in_contained routes other there) covers);
    }

to_unbeaten : (routes : List HeldRoute) (address : ℕ) (x : HeldRoute) → In (matching address routes) x →
    ((y : HeldRoute) → In (matching address routes) y → is_better y x ≡ false) → In (unbeaten (matching address routes)) x
to_unbeaten routes address x i h =
    filter_in (λ route. not (list_any (λ other. is_better other route) (matching address routes))) (matching address routes) x i
    (ap not (passes_none (λ other. is_better other x) (matching address routes) h))

best_unbeaten : (routes : List HeldRoute) (address : ℕ) (x : HeldRoute) → IsBest routes address x → In (unbeaten (matching address routes)) x
best_unbeaten routes address x b =
    to_unbeaten routes address x (filter_in (λ (route : HeldRoute). contains route.prefix address) routes x (in_contained routes x b.held) b.matches)
    (λ y i. let m = in_filter (λ (route : HeldRoute). contains route.prefix address) routes y i in b.unbeaten y (contained_in routes y m.0) m.1)

some_in : (xs : List HeldRoute) (x : HeldRoute) → In xs x → (y : HeldRoute) × In xs y × Unbeaten xs y
some_in [] x i = absurd i
some_in (c ∷ xs) x i = some_unbeaten c xs

pub none_matches : (routes : List HeldRoute) (address : ℕ) → best routes address ≡ None → (x : HeldRoute) → In (matching address routes) x → ⊥
none_matches routes address h x i =
    let top = some_in (matching address routes) x i in
    let first = first_there (unbeaten (matching address routes)) top.0 (to_unbeaten routes address top.0 top.1 top.2) in
    clash first.0 (sym h ∙ first.2)
  where
    clash : (y : HeldRoute) → None ≡ Some y → ⊥
    clash y e = cc

-- a list in which a source has one route of each prefix, and prefixes are of their form
pub names_one : (routes : List HeldRoute) (address : ℕ) → ((a : HeldRoute) → In routes a → IsPrefix a.prefix.address a.prefix.length) →
    ((a b : HeldRoute) → In routes a → In routes b → a.source ≡ b.source → a.prefix ≡ b.prefix → a ≡ b)
    → NamesTheBest routes address
names_one routes address formed apart = record {
  named = λ x h. from_unbeaten routes address x (in_first (unbeaten (matching address routes)) x h);
  one = λ x b.
      let first = first_there (unbeaten (matching address routes)) x (best_unbeaten routes address x b) in
      first.2 ∙ ap (λ y. Some y) (same first.0 x (from_unbeaten routes address first.0 first.1) b);
  none = λ h x there. elim (two_ways (contains x.prefix address)) [
    | inr q ↦ q
    | inl q ↦ absurd
        (none_matches routes address h x (filter_in (λ (route : HeldRoute). contains route.prefix address) routes x (in_contained routes x there) q))
  ];
}
  where
    same : (a b : HeldRoute) → IsBest routes address a → IsBest routes address b → a ≡ b
    same a b x y =
        let neither = neither_better a b (y.unbeaten a x.held x.matches) (x.unbeaten b y.held y.matches) in
        let i = in_contained routes a x.held in
        let j = in_contained routes b y.held in
        apart a b i j neither.1 (one_prefix a.prefix b.prefix address (formed a i) (formed b j) neither.0 x.matches y.matches)

-- 6. Over a journal

pub record Keeps (t : Network) (w : World) : Type 0 where
  pub statics : HasStatics t w.config.statics
  pub forms : HasForms w.config.statics
  pub told : AllGood t w.peerings

keeps_on : (t : Network) (es : List JournalEntry) (tick : ℕ) (w : World) (k : Packets) (i : ℕ) (ps : List (List ℕ)) → IsLawfulFrom t tick w k i es ps →
    Keeps t w → Keeps t (world_from t w es)
keeps_on t [] tick w k i ps lawful h = h
keeps_on t (e ∷ es) tick w k i ps lawful h =
    let forms = forms_go t w e.step lawful.0 h.forms in
    keeps_on t es (clock_after e) (after t w e.step) (packets_by t (after t w e.step) k e (next_of ps)) (i + 1) (left_by e.step ps) lawful.3
    (record { statics = statics_go t w k i e.step (next_of ps) lawful.2 h.statics; forms = forms; told = tellings_go t w e.step forms h.told })

pub keeps : (t : Network) (es : List JournalEntry) (ps : List (List ℕ)) → IsLawful t → IsLawfulJournal t es ps → Keeps t (world_of t es)
keeps t es ps lawful journal =
    keeps_on t es 0 (start t) no_packets 0 ps journal (record {
      statics = first_statics t lawful;
      forms = first_forms t lawful;
      told =
          λ edge peer m i. absurd i;
    })

pub names_best : (t : Network) (es : List JournalEntry) (ps : List (List ℕ)) → IsLawful t → IsLawfulJournal t es ps → (edge v address : ℕ)
    → NamesTheBest (held t (world_of t es).config (world_of t es).peerings edge v) address
names_best t es ps lawful journal edge v address =
    let k : Keeps t (world_of t es) = keeps t es ps lawful journal in
    names_one (held t (world_of t es).config (world_of t es).peerings edge v) address
    (λ a i. held_formed t (world_of t es).config (world_of t es).peerings edge v a k.forms k.told i)
    (λ a b i j source prefix. one_held t (world_of t es).config (world_of t es).peerings edge v a b lawful
    (loopbacks_apart t lawful) k.statics k.told i j source prefix)
