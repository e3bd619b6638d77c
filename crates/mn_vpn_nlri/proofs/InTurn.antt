-- Routes one after another.
use Rattle.std.proofs.Common.{◌≡◌, ◌==◌, ◌≤◌, ◌<◌, ◌-◌, ℕ, zero, suc, true, false, List, [], ◌∷◌, ◌++◌, length, take, drop, Result, Ok, Err, refl, ap, sym}
use Rattle.std.proofs.Common.{◌∙◌, append_assoc, subst, arith}
use Rattle.std.proofs.lemmas.List.{append-nil, length-append, length-drop, drop_at, take-append-drop}
use Rattle.std.proofs.lemmas.Bool.Decides.{nat_tests}
use Rattle.mn_vpn_nlri.specs.declared.message.VpnRoute.{VpnRoute}
use Rattle.mn_vpn_nlri.specs.declared.refusal.NlriBad.{NlriBad}
use Rattle.mn_vpn_nlri.specs.Grammar.{IsNlri, AreNlri, label_field}
use Rattle.mn_vpn_nlri.specs.Reading.{IsBytes, route_at, behind, routes_from, routes_of}
use Rattle.mn_base.proofs.Bytes.{IsBytes-drop}
use Rattle.mn_vpn_nlri.proofs.Routes.{route_is_read, read_is_route, read_within, length-nlri_of}

-- no route more, one more, and a refusal

pub ended : (most : ℕ) (bytes : List ℕ) → length bytes ≡ 0 → routes_from most bytes ≡ Ok []
unfolding routes_from
ended zero bytes e = refl
ended (suc most) bytes e = let test : (length bytes == 0) ≡ true = grind (arith, nat_tests) in rw test refl

pub next : (most : ℕ) (bytes : List ℕ) (route : VpnRoute) (size : ℕ) → 0 < length bytes → route_at bytes ≡ Ok (route, size) →
    routes_from (suc most) bytes ≡ behind (route ∷ []) (routes_from most (drop size bytes))
unfolding routes_from
next most bytes route size some e = let test : (length bytes == 0) ≡ false = grind (arith, nat_tests) in rw (test, e) refl

pub refused : (most : ℕ) (bytes : List ℕ) (bad : NlriBad) → 0 < length bytes → route_at bytes ≡ Err bad → routes_from (suc most) bytes ≡ Err bad
unfolding routes_from
refused most bytes bad some e = let test : (length bytes == 0) ≡ false = grind (arith, nat_tests) in rw (test, e) refl

-- it doesn't matter how many more are allowed than there are bytes

step_enough : (m n : ℕ) (bytes : List ℕ) → length bytes ≤ suc m → length bytes ≤ suc n → 0 < length bytes →
    ((rest : List ℕ) → length rest ≤ m → length rest ≤ n → routes_from m rest ≡ routes_from n rest) →
    (r : Result (VpnRoute × ℕ) NlriBad) → route_at bytes ≡ r → routes_from (suc m) bytes ≡ routes_from (suc n) bytes
step_enough m n bytes hm hn some others (Ok found) e =
    let w = read_within bytes found.0 found.1 e in
    let size = w.0 in
    let left : length (drop found.1 bytes) ≡ length bytes - found.1 = length-drop found.1 bytes in
    next m bytes found.0 found.1 some e
    ∙ ap (λ (x : Result (List VpnRoute) NlriBad). behind (found.0 ∷ []) x) (others (drop found.1 bytes) (omega arith) (omega arith))
    ∙ sym (next n bytes found.0 found.1 some e)
step_enough m n bytes hm hn some others (Err bad) e = refused m bytes bad some e ∙ sym (refused n bytes bad some e)

pub enough : (m n : ℕ) (bytes : List ℕ) → length bytes ≤ m → length bytes ≤ n → routes_from m bytes ≡ routes_from n bytes
enough zero n bytes hm hn = ended zero bytes (omega arith) ∙ sym (ended n bytes (omega arith))
enough (suc m) zero bytes hm hn = ended (suc m) bytes (omega arith) ∙ sym (ended zero bytes (omega arith))
enough (suc m) (suc n) [] hm hn = ended (suc m) [] refl ∙ sym (ended (suc n) [] refl)
enough (suc m) (suc n) (b ∷ bytes) hm hn = step_enough m n (b ∷ bytes) hm hn (omega arith) (enough m n) (route_at (b ∷ bytes)) refl

-- the same of all routes

from_one : (bytes : List ℕ) → 0 < length bytes → routes_of bytes ≡ routes_from (suc (length bytes)) bytes
from_one bytes some = enough (length bytes) (suc (length bytes)) bytes (omega arith) (omega arith)

pub of_next : (bytes : List ℕ) (route : VpnRoute) (size : ℕ) → route_at bytes ≡ Ok (route, size) →
    routes_of bytes ≡ behind (route ∷ []) (routes_of (drop size bytes))
of_next bytes route size e =
    let w = read_within bytes route size e in
    let size_some = w.0 in
    let size_within = w.1 in
    let left : length (drop size bytes) ≡ length bytes - size = length-drop size bytes in
    let some : 0 < length bytes = omega arith in
    from_one bytes some
    ∙ next (length bytes) bytes route size some e
    ∙ ap (λ (x : Result (List VpnRoute) NlriBad). behind (route ∷ []) x)
    (enough (length bytes) (length (drop size bytes)) (drop size bytes) (omega arith) (omega arith))

pub of_refused : (bytes : List ℕ) (bad : NlriBad) → 0 < length bytes → route_at bytes ≡ Err bad → routes_of bytes ≡ Err bad
of_refused bytes bad some e = from_one bytes some ∙ refused (length bytes) bytes bad some e

-- a loop over routes: those that were read, and then what is read behind them

behind_nil : (r : Result (List VpnRoute) NlriBad) → behind [] r ≡ r
behind_nil (Ok routes) = refl
behind_nil (Err bad) = refl

behind_behind : (a b : List VpnRoute) (r : Result (List VpnRoute) NlriBad) → behind a (behind b r) ≡ behind (a ++ b) r
behind_behind a b (Ok routes) = ap (λ (xs : List VpnRoute). Ok xs) (sym (append_assoc a b routes))
behind_behind a b (Err bad) = refl

pub begins : (bytes : List ℕ) → behind [] (routes_of bytes) ≡ routes_of bytes
begins bytes = behind_nil (routes_of bytes)

pub continues : (done : List VpnRoute) (rest : List ℕ) (route : VpnRoute) (size : ℕ) → route_at rest ≡ Ok (route, size) →
    behind (done ++ route ∷ []) (routes_of (drop size rest)) ≡ behind done (routes_of rest)
continues done rest route size e =
    sym (behind_behind done (route ∷ []) (routes_of (drop size rest)))
    ∙ ap (λ (x : Result (List VpnRoute) NlriBad). behind done x) (sym (of_next rest route size e))

pub ends : (done : List VpnRoute) (rest : List ℕ) → length rest ≡ 0 → behind done (routes_of rest) ≡ Ok done
ends done rest e =
    ap (λ (x : Result (List VpnRoute) NlriBad). behind done x) (ended (length rest) rest e) ∙ ap (λ (xs : List VpnRoute). Ok xs) (append-nil done)

pub stops : (done : List VpnRoute) (rest : List ℕ) (bad : NlriBad) → 0 < length rest → route_at rest ≡ Err bad → behind done (routes_of rest) ≡ Err bad
stops done rest bad some e = ap (λ (x : Result (List VpnRoute) NlriBad). behind done x) (of_refused rest bad some e)

-- what are routes is read

nlri_some : (bytes : List ℕ) (route : VpnRoute) → IsNlri bytes route → 0 < length bytes
nlri_some bytes route is = let n = length-nlri_of (label_field route.label is.low) route is.is_route in let e = ap length is.whole in omega arith

pub routes_are_read : (routes : List VpnRoute) (most : ℕ) (bytes : List ℕ) → length bytes ≤ most → AreNlri bytes routes → routes_from most bytes ≡ Ok routes
routes_are_read [] most bytes hm is = ended most bytes (ap length is)
routes_are_read (route ∷ more) zero bytes hm is =
    let some = nlri_some is.0 route is.3 in
    let long = ap length is.2 ∙ length-append is.0 is.1 in
    absurd (omega arith)
routes_are_read (route ∷ more) (suc most) bytes hm is =
    let some = nlri_some is.0 route is.3 in
    let long = ap length is.2 ∙ length-append is.0 is.1 in
    let first : route_at bytes ≡ Ok (route, length is.0) = ap route_at is.2 ∙ route_is_read is.0 is.1 route is.3 in
    let left : drop (length is.0) bytes ≡ is.1 = ap (λ (xs : List ℕ). drop (length is.0) xs) is.2 ∙ drop_at is.0 is.1 (length is.0) refl in
    next most bytes route (length is.0) (omega arith) first
    ∙ ap (λ (xs : List ℕ). behind (route ∷ []) (routes_from most xs)) left
    ∙ ap (λ (x : Result (List VpnRoute) NlriBad). behind (route ∷ []) x) (routes_are_read more most is.1 (omega arith) is.4)

-- what is read are routes

behind_one : (route : VpnRoute) (routes : List VpnRoute) (r : Result (List VpnRoute) NlriBad) → behind (route ∷ []) r ≡ Ok routes →
    (more : List VpnRoute) × (r ≡ Ok more) × (route ∷ more ≡ routes)
behind_one route routes (Ok more) e = (more, refl, cc)
behind_one route routes (Err bad) e = cc

nothing : (bytes : List ℕ) (routes : List VpnRoute) → bytes ≡ [] → [] ≡ routes → AreNlri bytes routes
nothing bytes routes empty e = subst (λ (rs : List VpnRoute). AreNlri bytes rs) e empty

ok_is : (x y : List VpnRoute) (r : Result (List VpnRoute) NlriBad) → r ≡ Ok x → r ≡ Ok y → x ≡ y
ok_is x y r ex ey = cc

step_routes : (most : ℕ) (bytes : List ℕ) (routes : List VpnRoute) → IsBytes bytes → 0 < length bytes → length bytes ≤ suc most →
    routes_from (suc most) bytes ≡ Ok routes →
    ((rest : List ℕ) (more : List VpnRoute) → IsBytes rest → length rest ≤ most → routes_from most rest ≡ Ok more → AreNlri rest more) →
    (r : Result (VpnRoute × ℕ) NlriBad) → route_at bytes ≡ r → AreNlri bytes routes
step_routes most bytes routes is some hm e others (Ok found) first =
    let w = read_within bytes found.0 found.1 first in
    let size = w.0 in
    let left : length (drop found.1 bytes) ≡ length bytes - found.1 = length-drop found.1 bytes in
    let rest = behind_one found.0 routes (routes_from most (drop found.1 bytes)) (sym (next most bytes found.0 found.1 some first) ∙ e) in
    let all : AreNlri bytes (found.0 ∷ rest.0) = (
      take found.1 bytes,
      drop found.1 bytes,
      sym (take-append-drop found.1 bytes),
      read_is_route bytes found.0 found.1 is first,
      others
          (drop found.1 bytes) rest.0 (IsBytes-drop found.1 bytes is) (omega arith) rest.1,
    ) in
    subst (λ (rs : List VpnRoute). AreNlri bytes rs) rest.2 all
step_routes most bytes routes is some hm e others (Err bad) first = let r = refused most bytes bad some first in cc

pub read_are_routes : (most : ℕ) (bytes : List ℕ) (routes : List VpnRoute) → IsBytes bytes → length bytes ≤ most → routes_from most bytes ≡ Ok routes →
    AreNlri bytes routes
read_are_routes most [] routes is hm e = nothing [] routes refl (ok_is [] routes (routes_from most []) (ended most [] refl) e)
read_are_routes zero (b ∷ bytes) routes is hm e = absurd (omega arith)
read_are_routes (suc most) (b ∷ bytes) routes is hm e =
    step_routes most (b ∷ bytes) routes is (omega arith) hm e (λ rest more. read_are_routes most rest more) (route_at (b ∷ bytes)) refl

-- one route alone
pub one_route : (bytes : List ℕ) (route : VpnRoute) → IsNlri bytes route → AreNlri bytes (route ∷ [])
one_route bytes route is = (bytes, [], sym (append-nil bytes), is, refl)
