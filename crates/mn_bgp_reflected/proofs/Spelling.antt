-- What is written is a reflected announcement.
use Rattle.std.proofs.Common.{◌≡◌, ◌≤◌, ◌<◌, ◌+◌, ◌-◌, ◌*◌, ◌^◌, ℕ, suc, true, false, get_or, List, [], ◌∷◌, ◌++◌, length, take, drop}
use Rattle.std.proofs.Common.{refl, ap, sym, ◌∙◌, subst, append_assoc, arith, length-append, length-drop}
use Rattle.std.proofs.lemmas.List.{take_all}
use Rattle.std.specs.List.{list_all, flat_map, AllByRecursion}
use Rattle.byteorder.specs.Endian.{big_bytes}
use Rattle.mn_base.specs.declared.numbers.Rt.{Rt}
use Rattle.mn_vpn_nlri.specs.declared.message.VpnRoute.{VpnRoute}
use Rattle.mn_vpn_nlri.specs.Grammar.{written, written_targets}
use Rattle.mn_bgp_wire.specs.Grammar.{PathAttribute, IsUpdate, IsBgp, SayReach, SayTargets, marker, message_bytes, update_kind, update_body}
use Rattle.mn_bgp_wire.specs.Grammar.{attribute_bytes, attributes_bytes, value_of, mp_reach_kind, extended_communities_kind}
use Rattle.mn_bgp_wire.specs.Reading.{is_lawful, is_missing}
use Rattle.mn_bgp_wire.specs.Written.{update_bytes, announced, says_announced, written_origin, written_as_path, written_local_pref, written_reach}
use Rattle.mn_bgp_wire.specs.Written.{written_communities}
use Rattle.mn_bgp_wire.specs.declared.message.BgpMessage.TheVariants as messages
use Rattle.mn_bgp_wire.proofs.Listed.{once_takes, all_lawful_take, wanted_take}
use Rattle.mn_bgp_wire.proofs.Listed.{list_again}
use Rattle.mn_bgp_wire.proofs.Messages.{size_of}
use Rattle.mn_bgp_wire.proofs.Parts.{some_is}
use Rattle.mn_bgp_wire.proofs.Spelling.{targets_size, written_short}
use Rattle.mn_bgp_reflected.specs.Grammar.{attributes_of_update as attributes_by, address_bytes, IsReflected}
use Rattle.mn_bgp_reflected.specs.Written.{written_originator, written_clusters, reflected, says_reflected}
use Rattle.mn_bgp_reflected.proofs.Values.{addresses_length}
use Rattle.mn_bgp_reflected.proofs.Messages.{are_in_body}

-- 1. The bytes: those of an announcement, with two attributes more

pub front_is : (hop : ℕ) (route : VpnRoute) (targets : List Rt) →
    take 14 (drop 23 (update_bytes (announced hop route targets))) ≡ attributes_bytes (written_origin ∷ written_as_path ∷ written_local_pref ∷ [])
front_is hop route targets = refl

pub rest_is : (hop : ℕ) (route : VpnRoute) (targets : List Rt) →
    drop 37 (update_bytes (announced hop route targets)) ≡ attributes_bytes (written_reach hop route ∷ written_communities targets ∷ [])
rest_is hop route targets = refl

pub size_is : (hop : ℕ) (route : VpnRoute) (targets : List Rt) (originator : ℕ) (clusters : List ℕ) →
    length (attributes_bytes (reflected hop route targets originator clusters))
    ≡ length (drop 37 (update_bytes (announced hop route targets))) + (14 + (10 + 4 * length clusters))
size_is hop route targets originator clusters =
    let l = addresses_length clusters in
    let m = length-append (flat_map address_bytes clusters) (attributes_bytes (written_reach hop route ∷ written_communities targets ∷ [])) in
    omega arith

-- 2. What an announcement says, of which a reflected one says the same

abbrev pub Announcement : ℕ → VpnRoute → List Rt → Type 0
Announcement hop route targets = IsBgp (update_bytes (announced hop route targets)) (messages.Update (says_announced hop route targets))

announced_short : (hop : ℕ) (route : VpnRoute) (targets : List Rt) → Announcement hop route targets →
    length (attributes_bytes (announced hop route targets)) < 2 ^ 16
announced_short hop route targets is =
    let within = is.within in
    let size = size_of update_kind (update_body (attributes_bytes (announced hop route targets))) in
    omega arith

attributes_are : (hop : ℕ) (route : VpnRoute) (targets : List Rt) (is : Announcement hop route targets) →
    attributes_by (update_bytes (announced hop route targets)) (says_announced hop route targets) is ≡ announced hop route targets
attributes_are hop route targets is =
    some_is _ (announced hop route targets) (sym (are_in_body (update_bytes (announced hop route targets)) (says_announced hop route targets) is)
    ∙ list_again (announced hop route targets) (announced_short hop route targets is))

reach_said : (hop : ℕ) (route : VpnRoute) (targets : List Rt) → Announcement hop route targets →
    SayReach (value_of mp_reach_kind (announced hop route targets)) hop (route ∷ [])
reach_said hop route targets is =
    let update : IsUpdate is.body (says_announced hop route targets) = is.is_body in
    subst (λ (xs : List PathAttribute). SayReach (value_of mp_reach_kind xs) hop (route ∷ [])) (attributes_are hop route targets is) update.are_attributes.reach

targets_said : (hop : ℕ) (route : VpnRoute) (targets : List Rt) → Announcement hop route targets →
    SayTargets (value_of extended_communities_kind (announced hop route targets)) targets
targets_said hop route targets is =
    let update : IsUpdate is.body (says_announced hop route targets) = is.is_body in
    subst (λ (xs : List PathAttribute). SayTargets (value_of extended_communities_kind xs) targets)
    (attributes_are hop route targets is) update.are_attributes.targets

route_short : (hop : ℕ) (route : VpnRoute) (targets : List Rt) → Announcement hop route targets → length (written route false) ≤ 16
route_short hop route targets is =
    let reach = reach_said hop route targets is in
    let routes = reach.are_routes in
    written_short route false routes.3.is_route

reflected_short : (hop : ℕ) (route : VpnRoute) (targets : List Rt) (originator : ℕ) (clusters : List ℕ) → Announcement hop route targets →
    length targets ≤ 16 → length clusters ≤ 8 → length (attributes_bytes (reflected hop route targets originator clusters)) ≤ 4073
reflected_short hop route targets originator clusters is few near =
    let size = size_is hop route targets originator clusters in
    let count = targets_size targets in
    let last = length-append (written_targets targets) [] in
    let short = route_short hop route targets is in
    let whole = length-append (written route false) (0xC0 ∷ 16 ∷ length (written_targets targets) ∷ (written_targets targets ++ [])) in
    omega arith

-- what is written beside the announcement's attributes
pub size_by : (len hop : ℕ) (route : VpnRoute) (targets : List Rt) (originator : ℕ) (clusters : List ℕ) →
    len ≡ length (update_bytes (announced hop route targets)) →
    len - 23 + (10 + 4 * length clusters) ≡ length (attributes_bytes (reflected hop route targets originator clusters))
size_by len hop route targets originator clusters is =
    let size = size_is hop route targets originator clusters in
    let whole : length (update_bytes (announced hop route targets)) ≡ 37 + length (drop 37 (update_bytes (announced hop route targets))) = omega arith in
    omega arith

pub size_fits : (len hop : ℕ) (route : VpnRoute) (targets : List Rt) (originator : ℕ) (clusters : List ℕ) →
    len ≡ length (update_bytes (announced hop route targets)) →
    Announcement hop route targets → length targets ≤ 16 → length clusters ≤ 8 → len - 23 + (10 + 4 * length clusters) ≤ 4073
size_fits len hop route targets originator clusters e is few near =
    let size = size_by len hop route targets originator clusters e in
    let short = reflected_short hop route targets originator clusters is few near in
    omega arith

each_lawful : (hop : ℕ) (route : VpnRoute) (targets : List Rt) (originator : ℕ) (clusters : List ℕ) →
    list_all is_lawful (reflected hop route targets originator clusters) ≡ true
unfolding is_lawful
each_lawful hop route targets originator clusters = refl

none_missing : (hop : ℕ) (route : VpnRoute) (targets : List Rt) (originator : ℕ) (clusters : List ℕ) →
    is_missing (reflected hop route targets originator clusters) ≡ false
unfolding is_missing
none_missing hop route targets originator clusters = refl

pub reflected_is_spelled : (hop : ℕ) (route : VpnRoute) (targets : List Rt) (originator : ℕ) (clusters : List ℕ) → Announcement hop route targets →
    length targets ≤ 16 → 0 < length clusters → length clusters ≤ 8 → originator < 2 ^ 32 → AllByRecursion (λ (cluster : ℕ). cluster < 2 ^ 32) clusters →
    IsReflected (update_bytes (reflected hop route targets originator clusters)) (says_reflected hop route targets originator clusters)
reflected_is_spelled hop route targets originator clusters is few some near fits fit =
    let attributes = reflected hop route targets originator clusters in
    let body = update_body (attributes_bytes attributes) in
    let short = reflected_short hop route targets originator clusters is few near in
    let whole = size_of update_kind body in
    record {
      is_update = record {
        body = body;
        is_body = record {
          attributes = attributes;
          are_attributes = record {
            whole = refl;
            once = once_takes attributes refl;
            lawful = all_lawful_take attributes (each_lawful hop route targets originator clusters);
            reach = reach_said hop route targets is;
            unreach = refl;
            targets = targets_said hop route targets is;
          };
          wanted = wanted_take attributes (none_missing hop route targets originator clusters);
        };
        within = omega arith;
        whole = refl;
      };
      originator = record { fits = fits; whole = refl };
      clusters = record { some = some; fit = fit; whole = refl };
    }

pub each_fits : (xs : List ℕ) → ((i : ℕ) → get_or xs i 0 < 2 ^ 32) → AllByRecursion (λ (x : ℕ). x < 2 ^ 32) xs
each_fits [] h = tt
each_fits (x ∷ xs) h = (h 0, each_fits xs (λ i. h (suc i)))

-- 3. The bytes, part by part

headed : (n : ℕ) (all : List ℕ) → n ≡ length all →
    (marker ++ big_bytes 2 (23 + n) ++ update_kind ∷ big_bytes 2 0 ++ big_bytes 2 n) ++ all ≡ message_bytes update_kind (update_body all)
headed n all e =
    let size : 23 + n ≡ 19 + length (update_body all) = omega (arith, e) in
    ap (λ (k : ℕ). (marker ++ big_bytes 2 k ++ update_kind ∷ big_bytes 2 0 ++ big_bytes 2 n) ++ all) size
    ∙ ap (λ (k : ℕ). (marker ++ big_bytes 2 (19 + length (update_body all)) ++ update_kind ∷ big_bytes 2 0 ++ big_bytes 2 k) ++ all) e

-- one part after another
pub parts_are : (head a b c d made one other front back all : List ℕ) → a ≡ head → b ≡ a ++ take 14 (drop 23 front) → c ≡ b ++ one → d ≡ c ++ other →
    made ≡ d ++ take (length back - 37) (drop 37 back) → front ≡ all → back ≡ all → made ≡ (((head ++ take 14 (drop 23 all)) ++ one) ++ other) ++ drop 37 all
parts_are head a b c d made one other front back all begin more with_one with_other end front_is_all back_is_all =
    end ∙ ap (λ (xs : List ℕ). d ++ xs) (take_all (length back - 37) (drop 37 back) (let l = length-drop 37 back in omega arith))
    ∙ ap (λ (xs : List ℕ). d ++ drop 37 xs) back_is_all
    ∙ ap (λ (xs : List ℕ). xs ++ drop 37 all) (with_other ∙ ap (λ (xs : List ℕ). xs ++ other) (with_one ∙ ap (λ (xs : List ℕ). xs ++ one)
    (more ∙ ap (λ (xs : List ℕ). a ++ take 14 (drop 23 xs)) front_is_all ∙ ap (λ (xs : List ℕ). xs ++ take 14 (drop 23 all)) begin)))

pub whole_is : (head made : List ℕ) (hop : ℕ) (route : VpnRoute) (targets : List Rt) (originator : ℕ) (clusters : List ℕ) (size : ℕ) →
    size ≡ length (attributes_bytes (reflected hop route targets originator clusters)) →
    head ≡ marker ++ big_bytes 2 (23 + size) ++ update_kind ∷ big_bytes 2 0 ++ big_bytes 2 size →
    made ≡ (((head ++ take 14 (drop 23 (update_bytes (announced hop route targets)))) ++ attribute_bytes (written_originator originator))
    ++ attribute_bytes (written_clusters clusters)) ++ drop 37 (update_bytes (announced hop route targets)) →
    made ≡ update_bytes (reflected hop route targets originator clusters)
whole_is head made hop route targets originator clusters size size_is head_is made_is =
    let all = attributes_bytes (reflected hop route targets originator clusters) in
    let front = attributes_bytes (written_origin ∷ written_as_path ∷ written_local_pref ∷ []) in
    let rest = attributes_bytes (written_reach hop route ∷ written_communities targets ∷ []) in
    let one = attribute_bytes (written_originator originator) in
    let other = attribute_bytes (written_clusters clusters) in
    made_is
    ∙ append_assoc ((head ++ front) ++ one) other rest
    ∙ append_assoc (head ++ front) one (other ++ rest)
    ∙ append_assoc head front (one ++ (other ++ rest))
    ∙ ap (λ (xs : List ℕ). xs ++ (front ++ (one ++ (other ++ rest)))) (head_is
    ∙ ap (λ (n : ℕ). marker ++ big_bytes 2 (23 + n) ++ update_kind ∷ big_bytes 2 0 ++ big_bytes 2 n) size_is)
    ∙ headed (length all) all refl
