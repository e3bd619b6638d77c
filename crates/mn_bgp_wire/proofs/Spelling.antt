-- What is written is a message.
use Rattle.std.proofs.Common.{◌≡◌, ◌≤◌, ◌<◌, ◌*◌, ◌^◌, ℕ, Bool, true, false, List, [], ◌∷◌, ◌++◌, length, replicate, Result, Ok, Err, refl, ap, sym, ◌∙◌}
use Rattle.std.proofs.Common.{subst, arith, length-append}
use Rattle.std.specs.Prelude.{IfOk}
use Rattle.std.specs.Global.{Vec}
use Rattle.std.specs.List.{list_all}
use Rattle.mn_base.specs.declared.numbers.Rd.{Rd}
use Rattle.mn_base.specs.declared.numbers.Rt.{Rt}
use Rattle.mn_prefix.specs.Prefix.{AddressBlock}
use Rattle.mn_vpn_nlri.specs.declared.message.VpnRoute.{VpnRoute}
use Rattle.mn_vpn_nlri.specs.Grammar.{IsVpnRoute, IsNlri, AreTargets, written, written_targets, written_field, community_bytes}
use Rattle.mn_vpn_nlri.proofs.Routes.{length-nlri_of}
use Rattle.mn_bgp_wire.specs.Grammar.{Parameter, IsBgp, message_bytes, update_kind, update_body, attributes_bytes, PathAttribute}
use Rattle.mn_bgp_wire.specs.Reading.{is_lawful, is_missing}
use Rattle.mn_bgp_wire.specs.Written.{vpn_capability, vpn_parameter, open_body, open_bytes, update_bytes, announced, withdrawn, withdrawn_route}
use Rattle.mn_bgp_wire.specs.declared.message.BgpMessage.{BgpMessage}
use Rattle.mn_bgp_wire.specs.declared.message.BgpMessage.TheVariants as messages
use Rattle.mn_bgp_wire.proofs.Messages.{size_of}
use Rattle.mn_bgp_wire.proofs.Listed.{once_takes, all_lawful_take, wanted_take}
use Rattle.mn_vpn_nlri.proofs.InTurn.{one_route}

abbrev offer : Parameter
offer = record { field = vpn_parameter; capabilities = vpn_capability ∷ [] }

pub open_is_spelled : (asn id : ℕ) → asn < 2 ^ 16 → id < 2 ^ 32 → IsBgp (open_bytes asn id) (messages.Opening 4 asn 0 id true)
open_is_spelled asn id a i = record {
  body = open_body asn id;
  is_body = record {
    parameters = offer ∷ [];
    version_is = refl;
    asn_fits = a;
    hold_fits = omega arith;
    id_fits = i;
    capabilities = (refl, tt);
    vpn_is = refl;
    whole = refl;
  };
  within = omega arith;
  whole = refl;
}

pub written_short : (route : VpnRoute) (withdrawn : Bool) → IsVpnRoute route → length (written route withdrawn) ≤ 16
written_short route withdrawn is =
    let size = length-nlri_of (written_field route withdrawn) route is in
    let bits = is.prefix.short in
    omega arith

pub targets_size : (targets : List Rt) → length (written_targets targets) ≡ 8 * length targets
targets_size [] = refl
targets_size (target ∷ targets) = let more = targets_size targets in let whole = length-append (community_bytes target) (written_targets targets) in omega arith

pub announced_size : (hop : ℕ) (route : VpnRoute) (targets : List Rt) → length (written route false) ≤ 16 → length targets ≤ 16 →
    length (attributes_bytes (announced hop route targets)) ≤ 4073
announced_size hop route targets short few =
    let count = targets_size targets in
    let last = length-append (written_targets targets) [] in
    let whole = length-append (written route false) (0xC0 ∷ 16 ∷ length (written_targets targets) ∷ (written_targets targets ++ [])) in
    omega arith

pub withdrawn_size : (rd : Rd) (prefix : AddressBlock) → length (written (withdrawn_route rd prefix) true) ≤ 16 →
    length (attributes_bytes (withdrawn rd prefix)) ≤ 4073
withdrawn_size rd prefix short = let whole = length-append (written (withdrawn_route rd prefix) true) [] in omega arith

each_lawful : (hop : ℕ) (route : VpnRoute) (targets : List Rt) → list_all is_lawful (announced hop route targets) ≡ true
unfolding is_lawful
each_lawful hop route targets = refl

none_missing : (hop : ℕ) (route : VpnRoute) (targets : List Rt) → is_missing (announced hop route targets) ≡ false
unfolding is_missing
none_missing hop route targets = refl

pub announced_is_spelled : (hop : ℕ) (route : VpnRoute) (targets : List Rt) → hop < 2 ^ 32 → length (written route false) ≤ 16 → length targets ≤ 16 →
    IsNlri (written route false) route → AreTargets (written_targets targets) targets
    → IsBgp (update_bytes (announced hop route targets)) (messages.Update (record { next_hop = hop; reached = route ∷ []; withdrawn = []; targets = targets }))
announced_is_spelled hop route targets fits short few is_route are_targets =
    let attributes = announced hop route targets in
    let size = announced_size hop route targets short few in
    let body = update_body (attributes_bytes attributes) in
    let whole = size_of update_kind body in
    record {
      body = body;
      is_body = record {
        attributes = attributes;
        are_attributes = record {
          whole = refl;
          once = once_takes attributes refl;
          lawful = all_lawful_take attributes (each_lawful hop route targets);
          reach = record {
            distinguisher = replicate 8 0;
            reserved = 0;
            nlri = written route false;
            eight = refl;
            hop_fits = fits;
            some = omega arith;
            are_routes = one_route (written route false) route is_route;
            whole = refl;
          };
          unreach = refl;
          targets = are_targets;
        };
        wanted = wanted_take attributes (none_missing hop route targets);
      };
      within = omega arith;
      whole = refl;
    }

lawful_withdrawal : (rd : Rd) (prefix : AddressBlock) → list_all is_lawful (withdrawn rd prefix) ≡ true
unfolding is_lawful
lawful_withdrawal rd prefix = refl

whole_withdrawal : (rd : Rd) (prefix : AddressBlock) → is_missing (withdrawn rd prefix) ≡ false
unfolding is_missing
whole_withdrawal rd prefix = refl

pub withdrawn_is_spelled : (rd : Rd) (prefix : AddressBlock) → length (written (withdrawn_route rd prefix) true) ≤ 16 →
    IsNlri (written (withdrawn_route rd prefix) true) (withdrawn_route rd prefix)
    → IsBgp (update_bytes (withdrawn rd prefix))
    (messages.Update (record { next_hop = 0; reached = []; withdrawn = withdrawn_route rd prefix ∷ []; targets = [] }))
withdrawn_is_spelled rd prefix short is_route =
    let attributes = withdrawn rd prefix in
    let size = withdrawn_size rd prefix short in
    let body = update_body (attributes_bytes attributes) in
    let whole = size_of update_kind body in
    record {
      body = body;
      is_body = record {
        attributes = attributes;
        are_attributes = record {
          whole = refl;
          once = once_takes attributes refl;
          lawful = all_lawful_take attributes (lawful_withdrawal rd prefix);
          reach = (refl, refl);
          unreach = record {
            nlri = written (withdrawn_route rd prefix) true;
            are_routes = one_route (written (withdrawn_route rd prefix) true) (withdrawn_route rd prefix) is_route;
            whole = refl;
          };
          targets = refl;
        };
        wanted = wanted_take attributes (whole_withdrawal rd prefix);
      };
      within = omega arith;
      whole = refl;
    }

-- bytes that were made are the message that is spelled so
pub spelled_by : {E : Type 0} (r : Result (Vec ℕ) E) (bytes : List ℕ) (message : BgpMessage) → IfOk r (λ made. made.items ≡ bytes) → IsBgp bytes message →
    IfOk r (λ made. IsBgp made.items message)
spelled_by (Ok made) bytes message same is = subst (λ (xs : List ℕ). IsBgp xs message) (sym same) is
spelled_by (Err e) bytes message same is = tt

pub same_bytes : {E : Type 0} (r : Result (Vec ℕ) E) (xs ys : List ℕ) → xs ≡ ys → IfOk r (λ made. made.items ≡ xs) → IfOk r (λ made. made.items ≡ ys)
same_bytes (Ok made) xs ys same is = is ∙ same
same_bytes (Err e) xs ys same is = tt

pub of_attributes : {E : Type 0} (r : Result (Vec ℕ) E) (bytes : List ℕ) (attributes : List PathAttribute) → bytes ≡ attributes_bytes attributes →
    IfOk r (λ made. made.items ≡ message_bytes update_kind (update_body bytes)) → IfOk r (λ made. made.items ≡ update_bytes attributes)
of_attributes (Ok made) bytes attributes same is = is ∙ ap (λ (xs : List ℕ). message_bytes update_kind (update_body xs)) same
of_attributes (Err e) bytes attributes same is = tt
