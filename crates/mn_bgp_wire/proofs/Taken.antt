-- Routes of an attribute, taken off one after another.
use Rattle.std.proofs.Common.{◌≡◌, ◌==◌, ◌-◌, ℕ, true, false, List, [], ◌∷◌, ◌++◌, length, take, drop, Ok, Err, ap, sym, ◌∙◌, arith, length-drop}
use Rattle.std.proofs.lemmas.List.{take_all}
use Rattle.mn_vpn_nlri.specs.declared.message.VpnRoute.{VpnRoute}
use Rattle.mn_vpn_nlri.specs.declared.refusal.NlriBad.{NlriBad}
use Rattle.mn_vpn_nlri.specs.Reading.{route_at, routes_of, behind}
use Rattle.mn_vpn_nlri.proofs.InTurn.{continues, ends, stops}
use Rattle.mn_bgp_wire.specs.declared.refusal.BgpWireBad.TheVariants.{BadAttribute}
use Rattle.mn_bgp_wire.specs.Reading.{in_attribute}
use Rattle.mn_bgp_wire.proofs.Offered.{there, gone}

pub take_rest : (n : ℕ) (xs : List ℕ) → take (length xs - n) (drop n xs) ≡ drop n xs
take_rest n xs = take_all (length xs - n) (drop n xs) (let l = length-drop n xs in omega arith)

pub routes_go_on : (front longer : List VpnRoute) (rest : List ℕ) (route : VpnRoute) (size : ℕ) (bytes : List ℕ) → route_at rest ≡ Ok (route, size) →
    longer ≡ front ++ route ∷ []
    → behind front (routes_of rest) ≡ routes_of bytes → behind longer (routes_of (take (length rest - size) (drop size rest))) ≡ routes_of bytes
routes_go_on front longer rest route size bytes at is so_far =
    ap (λ (l : List VpnRoute). behind l (routes_of (take (length rest - size) (drop size rest)))) is
    ∙ ap (λ (xs : List ℕ). behind (front ++ route ∷ []) (routes_of xs)) (take_rest size rest) ∙ continues front rest route size at ∙ so_far

pub routes_end : (front : List VpnRoute) (rest bytes : List ℕ) →
    (length rest == 0) ≡ true → behind front (routes_of rest) ≡ routes_of bytes → in_attribute (routes_of bytes) ≡ Ok front
routes_end front rest bytes h so_far = ap in_attribute (sym so_far ∙ ends front rest (gone rest h))

pub routes_fail : (front : List VpnRoute) (rest bytes : List ℕ) (bad : NlriBad) →
    (length rest == 0) ≡ false → route_at rest ≡ Err bad → behind front (routes_of rest) ≡ routes_of bytes →
    in_attribute (routes_of bytes) ≡ Err BadAttribute
routes_fail front rest bytes bad h at so_far = ap in_attribute (sym so_far ∙ stops front rest bad (there rest h) at)
