-- Routes that come or go together, as a list of changes, and which they are.
use Rattle.std.proofs.Common.{ℕ, ◌≡◌, ◌≢◌, ◌⊎◌, inl, inr, Bool, true, false, List, [], ◌∷◌, ◌++◌, map, refl, sym, ◌∙◌, ap, subst, Option, Some, None}
use Rattle.std.specs.Prelude.{◌==◌, ◌&&◌, not, slice_index_or, if◌then◌else◌}
use Rattle.mn_base.specs.declared.numbers.Rt.{Rt}
use Rattle.mn_base.proofs.Bools.{and_left, and_right, and_on, not_on, not_true, other_numbers, other_test}
use Rattle.mn_base.proofs.Members.{In, in_append, in_front, in_rest, map_in}
use Rattle.mn_prefix.specs.Prefix.{AddressBlock}
use Rattle.mn_rib_in.specs.Heard.{Heard}
use Rattle.mn_vrf.specs.declared.source.Source.{Source}
use Rattle.mn_vrf.specs.Vrf.{Static, VrfState, Holding}
use Rattle.mn_pe.specs.Held.{near_over}
use Rattle.mn_pe.specs.Pe.{far_route}
use Rattle.mn_pe.specs.Changes.{Change, Comes, Goes, change_of, changed}
use Rattle.mn_pe.specs.Switched.{meet_alone, import_alone, telling_statics, exporting, source_for, turning_over, attaching, turned, turned_if}
use Rattle.mn_pe.specs.Switched.{after_statics, after_vrfs, after_heard, after_all}
use Rattle.mn_pe.proofs.Offers.{AreApart}
use Rattle.mn_pe.proofs.Folds.{AreChanges}

-- 1. The routes that come or go

abbrev pub route_if : Option ℕ → AddressBlock × Source → List (AddressBlock × Source)
route_if None route = []
route_if (Some label) route = route ∷ []

abbrev pub static_routes : ℕ → List (Option ℕ) → List Static → List (AddressBlock × Source)
static_routes teller labels [] = []
static_routes teller labels (s ∷ ss) = route_if (slice_index_or labels s.site None) (s.prefix, near_over teller s.site) ++ static_routes teller labels ss

abbrev pub near_routes : Rt → List (Option ℕ) → ℕ → List Rt → List VrfState → List (AddressBlock × Source)
near_routes t labels number imports [] = []
near_routes t labels number imports (u ∷ us) =
    (if not (u.number == number) && meet_alone t u.exports imports then static_routes u.number labels u.statics else []) ++ near_routes t labels number
    imports us

abbrev pub far_routes : Rt → ℕ → ℕ → List Rt → List Heard → List (AddressBlock × Source)
far_routes t loopback peer imports [] = []
far_routes t loopback peer imports (r ∷ rs) =
    (if meet_alone t r.targets imports then far_route loopback peer r.rd r.prefix r.label ∷ [] else []) ++ far_routes t loopback peer imports rs

abbrev pub peer_routes : Rt → List ℕ → List (List Heard) → List Rt → List ℕ → List (AddressBlock × Source)
peer_routes t loopbacks heard imports [] = []
peer_routes t loopbacks heard imports (p ∷ ps) =
    far_routes t (slice_index_or loopbacks p 0) p imports (slice_index_or heard p []) ++ peer_routes t loopbacks heard imports ps

-- 2. As changes

abbrev pub all_changed : Bool → List (AddressBlock × Source) → List (AddressBlock × Source) → List (AddressBlock × Source)
all_changed on routes held = changed (map (change_of on) routes) held

pub turned_is : (on : Bool) (r : AddressBlock × Source) (cs : List Change) (held : List (AddressBlock × Source)) →
    changed (change_of on r ∷ cs) held ≡ changed cs (turned on r held)
turned_is true r cs held = refl
turned_is false r cs held = refl

pub all_append : (on : Bool) (rs qs held : List (AddressBlock × Source)) → all_changed on (rs ++ qs) held ≡ all_changed on qs (all_changed on rs held)
all_append on [] qs held = refl
all_append on (r ∷ rs) qs held =
    turned_is on r (map (change_of on) (rs ++ qs)) held ∙ all_append on rs qs (turned on r held)
    ∙ sym (ap (all_changed on qs) (turned_is on r (map (change_of on) rs) held))

pub statics_are : (on : Bool) (teller : ℕ) (labels : List (Option ℕ)) (ss : List Static) (held : List (AddressBlock × Source)) →
    after_statics on teller labels held ss ≡ all_changed on (static_routes teller labels ss) held
statics_are on teller labels [] held = refl
statics_are on teller labels (s ∷ ss) held = split (slice_index_or labels s.site None) (λ kept. statics_are on teller labels ss kept)
  where
    split : (o : Option ℕ) →
        ((kept : List (AddressBlock × Source)) → after_statics on teller labels kept ss ≡ all_changed on (static_routes teller labels ss) kept) →
        after_statics on teller labels (turned_if on o (s.prefix, near_over teller s.site) held) ss
        ≡ all_changed on (route_if o (s.prefix, near_over teller s.site) ++ static_routes teller labels ss) held
    split None rest = rest held
    split (Some label) rest = rest (turned on (s.prefix, near_over teller s.site) held)
        ∙ sym (turned_is on (s.prefix, near_over teller s.site) (map (change_of on) (static_routes teller labels ss)) held)

pub vrfs_are : (on : Bool) (t : Rt) (labels : List (Option ℕ)) (number : ℕ) (imports : List Rt) (us : List VrfState) (held : List (AddressBlock × Source)) →
    after_vrfs on t labels number imports held us ≡ all_changed on (near_routes t labels number imports us) held
vrfs_are on t labels number imports [] held = refl
vrfs_are on t labels number imports (u ∷ us) held = split (not (u.number == number) && meet_alone t u.exports imports)
    (λ kept. vrfs_are on t labels number imports us kept)
  where
    split : (b : Bool) →
        ((kept : List (AddressBlock × Source)) → after_vrfs on t labels number imports kept us ≡ all_changed on (near_routes t labels number imports us) kept) →
        after_vrfs on t labels number imports (if b then after_statics on u.number labels held u.statics else held) us
        ≡ all_changed on ((if b then static_routes u.number labels u.statics else []) ++ near_routes t labels number imports us) held
    split true rest = rest (after_statics on u.number labels held u.statics)
        ∙ ap (all_changed on (near_routes t labels number imports us)) (statics_are on u.number labels u.statics held)
        ∙ sym (all_append on (static_routes u.number labels u.statics) (near_routes t labels number imports us) held)
    split false rest = rest held

heard_are : (on : Bool) (t : Rt) (loopback peer : ℕ) (imports : List Rt) (rs : List Heard) (held : List (AddressBlock × Source)) →
    after_heard on t loopback peer imports held rs ≡ all_changed on (far_routes t loopback peer imports rs) held
heard_are on t loopback peer imports [] held = refl
heard_are on t loopback peer imports (r ∷ rs) held = split (meet_alone t r.targets imports) (λ kept. heard_are on t loopback peer imports rs kept)
  where
    far : AddressBlock × Source
    far = far_route loopback peer r.rd r.prefix r.label

    split : (b : Bool) →
        ((kept : List (AddressBlock × Source)) → after_heard on t loopback peer imports kept rs ≡ all_changed on (far_routes t loopback peer imports rs) kept) →
        after_heard on t loopback peer imports (if b then turned on far held else held) rs
        ≡ all_changed on ((if b then far ∷ [] else []) ++ far_routes t loopback peer imports rs) held
    split true rest = rest (turned on far held)
        ∙ sym (turned_is on far (map (change_of on) (far_routes t loopback peer imports rs)) held)
    split false rest = rest held

pub peers_are : (on : Bool) (t : Rt) (loopbacks : List ℕ) (heard : List (List Heard)) (imports : List Rt) (ps : List ℕ) (held : List (AddressBlock × Source)) →
    after_all on t loopbacks heard imports held ps ≡ all_changed on (peer_routes t loopbacks heard imports ps) held
peers_are on t loopbacks heard imports [] held = refl
peers_are on t loopbacks heard imports (p ∷ ps) held =
    let far : List (AddressBlock × Source) = far_routes t (slice_index_or loopbacks p 0) p imports (slice_index_or heard p []) in
    peers_are on t loopbacks heard imports ps (after_heard on t (slice_index_or loopbacks p 0) p imports held (slice_index_or heard p []))
    ∙ ap (all_changed on (peer_routes t loopbacks heard imports ps))
    (heard_are on t (slice_index_or loopbacks p 0) p imports (slice_index_or heard p []) held)
    ∙ sym (all_append on far (peer_routes t loopbacks heard imports ps) held)

-- what a VRF was told stays
pub exporting_keeps : (on : Bool) (t : Rt) (labels : List (Option ℕ)) (teller : VrfState) (h : Holding) → (exporting on t labels teller h).vrf ≡ h.vrf
exporting_keeps on t labels teller h = split (not (h.vrf.number == teller.number) && import_alone t teller.exports h.vrf.imports)
  where
    split : (b : Bool) → (let g : Holding = if b then telling_statics on labels teller h else h in g.vrf) ≡ h.vrf
    split true = refl
    split false = refl

pub attaching_keeps : (on : Bool) (site : ℕ) (teller : VrfState) (h : Holding) → (attaching on site teller h).vrf ≡ h.vrf
attaching_keeps on site teller h = split (source_for h.vrf teller site)
  where
    split : (o : Option Source) → (turning_over on site teller o h).vrf ≡ h.vrf
    split None = refl
    split (Some source) = refl

-- 3. Which they are

-- a static whose site has a label
abbrev pub IsLabelled : List (Option ℕ) → List Static → Static → Type 0
IsLabelled labels ss s = (label : ℕ) × In ss s × (slice_index_or labels s.site None ≡ Some label)

pub from_statics : (teller : ℕ) (labels : List (Option ℕ)) (ss : List Static) (z : AddressBlock × Source) → In (static_routes teller labels ss) z →
    (s : Static) × IsLabelled labels ss s × ((let r : AddressBlock × Source = (s.prefix, near_over teller s.site) in r) ≡ z)
from_statics teller labels [] z i = absurd i
from_statics teller labels (s ∷ ss) z i = split (slice_index_or labels s.site None) refl (from_statics teller labels ss z) i
  where
    split : (o : Option ℕ) → slice_index_or labels s.site None ≡ o →
        (In (static_routes teller labels ss) z →
        (x : Static) × IsLabelled labels ss x × ((let r : AddressBlock × Source = (x.prefix, near_over teller x.site) in r) ≡ z)) →
        In (route_if o (s.prefix, near_over teller s.site) ++ static_routes teller labels ss) z →
        (x : Static) × IsLabelled labels (s ∷ ss) x × ((let r : AddressBlock × Source = (x.prefix, near_over teller x.site) in r) ≡ z)
    split None e rest j = let k = rest j in (k.0, (k.1.0, inr k.1.1, k.1.2), k.2)
    split (Some label) e rest j = elim j [
      | inl q ↦ (s, (label, inl refl, e), q)
      | inr m ↦ let k = rest m in (k.0, (k.1.0, inr k.1.1, k.1.2), k.2)
    ]

pub to_statics : (teller : ℕ) (labels : List (Option ℕ)) (ss : List Static) (s : Static) → IsLabelled labels ss s →
    In (static_routes teller labels ss) (s.prefix, near_over teller s.site)
to_statics teller labels [] s p = absurd p.1
to_statics teller labels (x ∷ ss) s p = elim p.1 [
  | inl q ↦
      subst (λ (y : Static). In (route_if (slice_index_or labels y.site None) (y.prefix, near_over teller y.site) ++ static_routes teller labels ss)
      (s.prefix, near_over teller s.site)) (sym q)
      (subst (λ o. In (route_if o (s.prefix, near_over teller s.site) ++ static_routes teller labels ss) (s.prefix, near_over teller s.site))
      (sym p.2) (inl refl))
  | inr j ↦ in_rest (route_if (slice_index_or labels x.site None) (x.prefix, near_over teller x.site)) (static_routes teller labels ss)
      (s.prefix, near_over teller s.site) (to_statics teller labels ss s (p.0, j, p.2))
]

-- another VRF's, whose targets are imported by the one alone
abbrev pub IsNearAlone : Rt → List (Option ℕ) → ℕ → List Rt → List VrfState → AddressBlock × Source → Type 0
IsNearAlone t labels number imports us z =
    (u : VrfState) × In us u × (u.number ≢ number) × (meet_alone t u.exports imports ≡ true) ×
    ((s : Static) × IsLabelled labels u.statics s × ((let r : AddressBlock × Source = (s.prefix, near_over u.number s.site) in r) ≡ z))

pub from_vrfs : (t : Rt) (labels : List (Option ℕ)) (number : ℕ) (imports : List Rt) (us : List VrfState) (z : AddressBlock × Source) →
    In (near_routes t labels number imports us) z → IsNearAlone t labels number imports us z
from_vrfs t labels number imports [] z i = absurd i
from_vrfs t labels number imports (u ∷ us) z i =
    split (not (u.number == number) && meet_alone t u.exports imports) refl (from_vrfs t labels number imports us z) i
  where
    split : (b : Bool) → (not (u.number == number) && meet_alone t u.exports imports) ≡ b →
        (In (near_routes t labels number imports us) z → IsNearAlone t labels number imports us z) →
        In ((if b then static_routes u.number labels u.statics else []) ++ near_routes t labels number imports us) z →
        IsNearAlone t labels number imports (u ∷ us) z
    split false e rest j = let k = rest j in (k.0, inr k.1, k.2, k.3, k.4)
    split true e rest j = elim (in_append (static_routes u.number labels u.statics) (near_routes t labels number imports us) z j) [
      | inl k ↦ (
        u,
        inl refl,
        other_numbers u.number number (not_true (u.number == number) (and_left (not (u.number == number)) (meet_alone t u.exports imports) e)),
        and_right (not (u.number == number)) (meet_alone t u.exports imports) e,
        from_statics u.number labels u.statics z k,
      )
      | inr m ↦ let k = rest m in (k.0, inr k.1, k.2, k.3, k.4)
    ]

pub to_vrfs : (t : Rt) (labels : List (Option ℕ)) (number : ℕ) (imports : List Rt) (us : List VrfState) (z : AddressBlock × Source) →
    IsNearAlone t labels number imports us z → In (near_routes t labels number imports us) z
to_vrfs t labels number imports [] z n = absurd n.1
to_vrfs t labels number imports (u ∷ us) z n = elim n.1 [
  | inl q ↦ in_front (if not (u.number == number) && meet_alone t u.exports imports then static_routes u.number labels u.statics else [])
      (near_routes t labels number imports us) z (subst (λ (x : VrfState).
      In (if not (x.number == number) && meet_alone t x.exports imports then static_routes x.number labels x.statics else []) z) (sym q)
      (subst (λ b. In (if b then static_routes n.0.number labels n.0.statics else []) z)
      (sym (and_on (not (n.0.number == number)) (meet_alone t n.0.exports imports)
      (not_on (n.0.number == number) (other_test n.0.number number n.2)) n.3))
      (subst (In (static_routes n.0.number labels n.0.statics)) n.4.2 (to_statics n.0.number labels n.0.statics n.4.0 n.4.1))))
  | inr j ↦ in_rest (if not (u.number == number) && meet_alone t u.exports imports then static_routes u.number labels u.statics else [])
      (near_routes t labels number imports us) z (to_vrfs t labels number imports us z (n.0, j, n.2, n.3, n.4))
]

-- one that was received from a peer
abbrev pub IsFarAlone : Rt → ℕ → ℕ → List Rt → List Heard → AddressBlock × Source → Type 0
IsFarAlone t loopback peer imports rs z =
    (r : Heard) × In rs r × (meet_alone t r.targets imports ≡ true) × (far_route loopback peer r.rd r.prefix r.label ≡ z)

from_heard : (t : Rt) (loopback peer : ℕ) (imports : List Rt) (rs : List Heard) (z : AddressBlock × Source) →
    In (far_routes t loopback peer imports rs) z → IsFarAlone t loopback peer imports rs z
from_heard t loopback peer imports [] z i = absurd i
from_heard t loopback peer imports (r ∷ rs) z i = split (meet_alone t r.targets imports) refl (from_heard t loopback peer imports rs z) i
  where
    split : (b : Bool) → meet_alone t r.targets imports ≡ b →
        (In (far_routes t loopback peer imports rs) z → IsFarAlone t loopback peer imports rs z) →
        In ((if b then far_route loopback peer r.rd r.prefix r.label ∷ [] else []) ++ far_routes t loopback peer imports rs) z →
        IsFarAlone t loopback peer imports (r ∷ rs) z
    split false e rest j = let k = rest j in (k.0, inr k.1, k.2, k.3)
    split true e rest j = elim j [
      | inl q ↦ (r, inl refl, e, q)
      | inr m ↦ let k = rest m in (k.0, inr k.1, k.2, k.3)
    ]

to_heard : (t : Rt) (loopback peer : ℕ) (imports : List Rt) (rs : List Heard) (z : AddressBlock × Source) →
    IsFarAlone t loopback peer imports rs z → In (far_routes t loopback peer imports rs) z
to_heard t loopback peer imports [] z n = absurd n.1
to_heard t loopback peer imports (r ∷ rs) z n = elim n.1 [
  | inl q ↦ in_front (if meet_alone t r.targets imports then far_route loopback peer r.rd r.prefix r.label ∷ [] else [])
      (far_routes t loopback peer imports rs) z
      (subst (λ (x : Heard). In (if meet_alone t x.targets imports then far_route loopback peer x.rd x.prefix x.label ∷ [] else []) z) (sym q)
      (subst (λ b. In (if b then far_route loopback peer n.0.rd n.0.prefix n.0.label ∷ [] else []) z) (sym n.2) (inl n.3)))
  | inr j ↦ in_rest (if meet_alone t r.targets imports then far_route loopback peer r.rd r.prefix r.label ∷ [] else [])
      (far_routes t loopback peer imports rs) z (to_heard t loopback peer imports rs z (n.0, j, n.2, n.3))
]

-- of one of the peers
abbrev pub IsPeerAlone : Rt → List ℕ → List (List Heard) → List Rt → List ℕ → AddressBlock × Source → Type 0
IsPeerAlone t loopbacks heard imports ps z =
    (p : ℕ) × In ps p × IsFarAlone t (slice_index_or loopbacks p 0) p imports (slice_index_or heard p []) z

pub from_peers : (t : Rt) (loopbacks : List ℕ) (heard : List (List Heard)) (imports : List Rt) (ps : List ℕ) (z : AddressBlock × Source) →
    In (peer_routes t loopbacks heard imports ps) z → IsPeerAlone t loopbacks heard imports ps z
from_peers t loopbacks heard imports [] z i = absurd i
from_peers t loopbacks heard imports (p ∷ ps) z i =
    elim (in_append (far_routes t (slice_index_or loopbacks p 0) p imports (slice_index_or heard p [])) (peer_routes t loopbacks heard imports ps) z i) [
      | inl j ↦ (p, inl refl, from_heard t (slice_index_or loopbacks p 0) p imports (slice_index_or heard p []) z j)
      | inr j ↦ let k = from_peers t loopbacks heard imports ps z j in (k.0, inr k.1, k.2)
    ]

pub to_peers : (t : Rt) (loopbacks : List ℕ) (heard : List (List Heard)) (imports : List Rt) (ps : List ℕ) (z : AddressBlock × Source) →
    IsPeerAlone t loopbacks heard imports ps z → In (peer_routes t loopbacks heard imports ps) z
to_peers t loopbacks heard imports [] z n = absurd n.1
to_peers t loopbacks heard imports (p ∷ ps) z n = elim n.1 [
  | inl q ↦ in_front (far_routes t (slice_index_or loopbacks p 0) p imports (slice_index_or heard p [])) (peer_routes t loopbacks heard imports ps) z
      (subst (λ k. In (far_routes t (slice_index_or loopbacks k 0) k imports (slice_index_or heard k [])) z) (sym q)
      (to_heard t (slice_index_or loopbacks n.0 0) n.0 imports (slice_index_or heard n.0 []) z n.2))
  | inr j ↦ in_rest (far_routes t (slice_index_or loopbacks p 0) p imports (slice_index_or heard p [])) (peer_routes t loopbacks heard imports ps) z
      (to_peers t loopbacks heard imports ps z (n.0, j, n.2))
]

-- 4. Between what is to be held without them and with them

abbrev route_of : Change → AddressBlock × Source
route_of (Comes r) = r
route_of (Goes r) = r

in_comes : (rs : List (AddressBlock × Source)) (r : AddressBlock × Source) → In (map (change_of true) rs) (Comes r) → In rs r
in_comes [] r i = absurd i
in_comes (x ∷ xs) r i = elim i [ inl e ↦ inl (ap route_of e) | inr j ↦ inr (in_comes xs r j) ]

in_goes : (rs : List (AddressBlock × Source)) (r : AddressBlock × Source) → In (map (change_of false) rs) (Goes r) → In rs r
in_goes [] r i = absurd i
in_goes (x ∷ xs) r i = elim i [ inl e ↦ inl (ap route_of e) | inr j ↦ inr (in_goes xs r j) ]

none_goes : (rs : List (AddressBlock × Source)) (r : AddressBlock × Source) → In (map (change_of true) rs) (Goes r) → ⊥
none_goes [] r i = i
none_goes (x ∷ xs) r i = elim i [ inl e ↦ (let never : Comes x ≡ Goes r → ⊥ = (λ q. cc) in never e) | inr j ↦ none_goes xs r j ]

none_comes : (rs : List (AddressBlock × Source)) (r : AddressBlock × Source) → In (map (change_of false) rs) (Comes r) → ⊥
none_comes [] r i = i
none_comes (x ∷ xs) r i = elim i [ inl e ↦ (let never : Goes x ≡ Comes r → ⊥ = (λ q. cc) in never e) | inr j ↦ none_comes xs r j ]

-- what is to be held with them is the rest and these
pub record AreThese (less more came : List (AddressBlock × Source)) : Type 0 where
  pub rises : (z : AddressBlock × Source) → In less z → In more z
  pub arrives : (z : AddressBlock × Source) → In came z → In more z
  pub falls : (z : AddressBlock × Source) → In more z → In less z ⊎ In came z
  pub apart : (z r : AddressBlock × Source) → In less z → In came r → AreApart z r

-- the same of what may be held already
pub record AreMore (less more came : List (AddressBlock × Source)) : Type 0 where
  pub rises : (z : AddressBlock × Source) → In less z → In more z
  pub arrives : (z : AddressBlock × Source) → In came z → In more z
  pub falls : (z : AddressBlock × Source) → In more z → In less z ⊎ In came z

pub come_more : (less more came : List (AddressBlock × Source)) → AreMore less more came → AreChanges less more (map (change_of true) came)
come_more less more came these = record {
  comes = λ r i. these.arrives r (in_comes came r i);
  gone = λ z r i j. absurd (none_goes came r j);
  only = λ z i. elim (these.falls z i) [ inl j ↦ inl j | inr k ↦ inr (map_in (change_of true) came z k) ];
  left = λ z i. inl (these.rises z i);
}

pub all_come : (less more came : List (AddressBlock × Source)) → AreThese less more came → AreChanges less more (map (change_of true) came)
all_come less more came these = come_more less more came (record { rises = these.rises; arrives = these.arrives; falls = these.falls })

pub all_go : (less more came : List (AddressBlock × Source)) → AreThese less more came → AreChanges more less (map (change_of false) came)
all_go less more came these = record {
  comes = λ r i. absurd (none_comes came r i);
  gone = λ z r i j. these.apart z r i (in_goes came r j);
  only = λ z i. inl (these.rises z i);
  left = λ z i. elim (these.falls z i) [ inl j ↦ inl j | inr k ↦ inr (map_in (change_of false) came z k) ];
}
