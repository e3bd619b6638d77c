-- The body of an UPDATE, as it is read and as it is spelled.
use Rattle.std.proofs.Common.{◌≡◌, ◌≤◌, ◌<◌, ◌+◌, ◌^◌, ◌==◌, ◌&&◌, ◌||◌, not, ℕ, true, false, cond, List, [], ◌∷◌, ◌++◌, length, Option, Some, None, Result}
use Rattle.std.proofs.Common.{Ok, Err, refl, ap, sym, ◌∙◌, subst, arith, Bool, drop}
use Rattle.std.specs.Prelude.{nat_le, slice_index}
use Rattle.mn_vpn_nlri.specs.declared.refusal.NlriBad.{NlriBad}
use Rattle.std.specs.List.{list_all}
use Rattle.std.proofs.lemmas.Bool.{eqb-true}
use Rattle.std.proofs.lemmas.Bool.Decides.{nat_tests}
use Rattle.byteorder.specs.Endian.{big_number, big_bytes}
use Rattle.mn_base.specs.declared.numbers.Rt.{Rt}
use Rattle.mn_vpn_nlri.specs.declared.message.VpnRoute.{VpnRoute}
use Rattle.mn_vpn_nlri.specs.Grammar.{AreNlri}
use Rattle.mn_vpn_nlri.specs.Reading.{IsBytes, routes_of, targets_of}
use Rattle.mn_vpn_nlri.proofs.InTurn.{routes_are_read, read_are_routes}
use Rattle.mn_vpn_nlri.proofs.Communities.{targets_are_read, read_are_targets}
use Rattle.mn_bgp_wire.specs.Says.{Says}
use Rattle.mn_bgp_wire.specs.Grammar.{PathAttribute, attributes_bytes, value_of, mp_reach_kind, mp_unreach_kind, extended_communities_kind, vpn_family}
use Rattle.mn_bgp_wire.specs.Grammar.{IsReach, IsUnreach, SayReach, SayUnreach, SayTargets, HasAllWanted, AreAttributes, IsUpdate}
use Rattle.mn_bgp_wire.specs.Reading.{or_else, after, in_attribute, is_family, reach_head, reach_of, unreach_of, communities_of, said, no_routes}
use Rattle.mn_bgp_wire.specs.Reading.{no_targets, attributes_in, has_twice, is_lawful, is_missing, says_of, update_of}
use Rattle.mn_bgp_wire.specs.declared.refusal.BgpWireBad.{BgpWireBad}
use Rattle.mn_bgp_wire.specs.declared.refusal.BgpWireBad.TheVariants.{BadAttribute, MissingAttribute}
use Rattle.mn_bgp_wire.proofs.Bytes.{bytes-rest, number_back, four_of}
use Rattle.mn_bgp_wire.proofs.Results.{done, refused, done_is, after_ok, guard_ok, or_else_ok, in_attribute_ok, not_false, and_true, or_no}
use Rattle.mn_bgp_wire.proofs.Listed.{list_again, list_takes, once_again, once_takes, all_lawful_again, all_lawful_take, wanted_again, wanted_take, value_fits}

routes_again : (nlri : List ℕ) (routes : List VpnRoute) → AreNlri nlri routes → routes_of nlri ≡ Ok routes
routes_again nlri routes h = routes_are_read routes (length nlri) nlri (omega arith) h

routes_take : (nlri : List ℕ) (routes : List VpnRoute) → IsBytes nlri → routes_of nlri ≡ Ok routes → AreNlri nlri routes
routes_take nlri routes fits e = read_are_routes (length nlri) nlri routes fits (omega arith) e

-- Attribute 14.

reached : (a b c d e f g h i j k l r : ℕ) (nlri : List ℕ) (routes : List VpnRoute) → routes_of nlri ≡ Ok routes → (length routes == 0) ≡ false
    → reach_of (0 ∷ 1 ∷ 0x80 ∷ 12 ∷ a ∷ b ∷ c ∷ d ∷ e ∷ f ∷ g ∷ h ∷ i ∷ j ∷ k ∷ l ∷ r ∷ nlri) ≡ Ok (big_number 4 (i ∷ j ∷ k ∷ l ∷ r ∷ nlri), routes)
unfolding reach_of
reached a b c d e f g h i j k l r nlri routes is some =
    let long : nat_le 17 (length (0 ∷ 1 ∷ 0x80 ∷ 12 ∷ a ∷ b ∷ c ∷ d ∷ e ∷ f ∷ g ∷ h ∷ i ∷ j ∷ k ∷ l ∷ r ∷ nlri)) ≡ true = grind (arith, nat_tests) in
    rw (long, is, some) refl

reach_by : (before : List ℕ) (hop reserved : ℕ) (nlri : List ℕ) (routes : List VpnRoute) → length before ≡ 8 → hop < 2 ^ 32 → routes_of nlri ≡ Ok routes →
    (length routes == 0) ≡ false
    → reach_of (vpn_family ++ 12 ∷ before ++ big_bytes 4 hop ++ reserved ∷ nlri) ≡ Ok (hop, routes)
reach_by (a ∷ b ∷ c ∷ d ∷ e ∷ f ∷ g ∷ h ∷ []) hop reserved nlri routes eight fits is some =
    reached a b c d e f g h _ _ _ _ reserved nlri routes is some ∙ ap (λ (n : ℕ). done (n, routes)) (number_back 4 hop (reserved ∷ nlri) fits)
reach_by _ hop reserved nlri routes eight fits is some = absurd (omega arith)

pub reach_again : (value : List ℕ) (hop : ℕ) (routes : List VpnRoute) → IsReach value hop routes → reach_of value ≡ Ok (hop, routes)
reach_again value hop routes is =
    let count = is.some in
    let some : (length routes == 0) ≡ false = grind (arith, nat_tests) in
    ap reach_of is.whole ∙ reach_by is.distinguisher hop is.reserved is.nlri routes is.eight is.hop_fits (routes_again is.nlri routes is.are_routes) some

family_is : (x y z : ℕ) → (x == 0 && y == 1 && z == 0x80) ≡ true → (x ≡ 0) × (y ≡ 1) × (z ≡ 0x80)
family_is x y z e =
    let front = and_true (x == 0 && y == 1) (z == 0x80) e in
    let two = and_true (x == 0) (y == 1) front.0 in
    (eqb-true _ _ two.0, eqb-true _ _ two.1, eqb-true _ _ front.1)

respelled : (x y z m : ℕ) (four before rest hop : List ℕ) → x ≡ 0 → y ≡ 1 → z ≡ 0x80 → m ≡ 12 → hop ≡ four →
    x ∷ y ∷ z ∷ m ∷ before ++ four ++ rest ≡ vpn_family ++ 12 ∷ before ++ hop ++ rest
respelled x y z m four before rest hop p q r s t =
    let head : x ∷ y ∷ z ∷ m ∷ before ≡ 0 ∷ 1 ∷ 0x80 ∷ 12 ∷ before = cc in
    ap (λ (xs : List ℕ). xs ++ four ++ rest) head ∙ ap (λ (xs : List ℕ). (vpn_family ++ 12 ∷ before) ++ xs ++ rest) (sym t)

reach_takes_by : (x y z m a b c d e f g h i j k l r : ℕ) (nlri : List ℕ) (found : ℕ × List VpnRoute) →
    IsBytes (x ∷ y ∷ z ∷ m ∷ a ∷ b ∷ c ∷ d ∷ e ∷ f ∷ g ∷ h ∷ i ∷ j ∷ k ∷ l ∷ r ∷ nlri)
    → reach_of (x ∷ y ∷ z ∷ m ∷ a ∷ b ∷ c ∷ d ∷ e ∷ f ∷ g ∷ h ∷ i ∷ j ∷ k ∷ l ∷ r ∷ nlri) ≡ Ok found →
    IsReach (x ∷ y ∷ z ∷ m ∷ a ∷ b ∷ c ∷ d ∷ e ∷ f ∷ g ∷ h ∷ i ∷ j ∷ k ∷ l ∷ r ∷ nlri) found.0 found.1
unfolding reach_of
reach_takes_by x y z m a b c d e f g h i j k l r nlri found fits is =
    let value = x ∷ y ∷ z ∷ m ∷ a ∷ b ∷ c ∷ d ∷ e ∷ f ∷ g ∷ h ∷ i ∷ j ∷ k ∷ l ∷ r ∷ nlri in
    let before = a ∷ b ∷ c ∷ d ∷ e ∷ f ∷ g ∷ h ∷ [] in
    let hop = big_number 4 (i ∷ j ∷ k ∷ l ∷ r ∷ nlri) in
    let long = nat_le reach_head (length value) in
    let q = guard_ok (not (long && is_family value && m == 12)) BadAttribute
    (after (in_attribute (routes_of nlri)) (λ routes. cond (length routes == 0) (Err BadAttribute) (Ok (hop, routes)))) found is in
    let head = and_true (long && is_family value) (m == 12) (not_false (long && is_family value && m == 12) q.0) in
    let family = family_is x y z (and_true long (is_family value) head.0).1 in
    let w = after_ok (in_attribute (routes_of nlri)) (λ routes. cond (length routes == 0) (Err BadAttribute) (Ok (hop, routes))) found q.1 in
    let t = guard_ok (length w.0 == 0) BadAttribute (done (hop, w.0)) found w.2 in
    let nonempty = t.0 in
    let li = fits.below 12 in
    let lj = fits.below 13 in
    let lk = fits.below 14 in
    let ll = fits.below 15 in
    let nlri_fits = bytes-rest (x ∷ y ∷ z ∷ m ∷ a ∷ b ∷ c ∷ d ∷ e ∷ f ∷ g ∷ h ∷ i ∷ j ∷ k ∷ l ∷ r ∷ []) nlri fits in
    let rec_ : IsReach value hop w.0 = record {
      distinguisher = before;
      reserved = r;
      nlri = nlri;
      eight = refl;
      hop_fits = omega arith;
      some = grind (arith, nat_tests);
      are_routes = routes_take nlri w.0 nlri_fits (in_attribute_ok (routes_of nlri) w.0 w.1);
      whole = respelled x y z m (i ∷ j ∷ k ∷ l ∷ []) before (r ∷ nlri) (big_bytes 4 hop) family.0 family.1 family.2 (eqb-true _ _ head.1)
          (four_of i j k l (r ∷ nlri) li lj lk ll);
    } in
    subst (λ (p : ℕ × List VpnRoute). IsReach value p.0 p.1) (done_is (hop, w.0) found t.1) rec_

reach_short : (value : List ℕ) (found : ℕ × List VpnRoute) → length value < 17 → reach_of value ≡ Ok found → ⊥
unfolding reach_of
reach_short value found lt is = let short : nat_le 17 (length value) ≡ false = grind (arith, nat_tests) in let e = rw short at is in absurd cc

pub reach_take : (value : List ℕ) (found : ℕ × List VpnRoute) → IsBytes value → reach_of value ≡ Ok found → IsReach value found.0 found.1
reach_take (x ∷ y ∷ z ∷ m ∷ a ∷ b ∷ c ∷ d ∷ e ∷ f ∷ g ∷ h ∷ i ∷ j ∷ k ∷ l ∷ r ∷ nlri) found fits is =
    reach_takes_by x y z m a b c d e f g h i j k l r nlri found fits is
reach_take value found fits is = absurd (reach_short value found (omega arith) is)

-- Attribute 15.

unreached : (nlri : List ℕ) → unreach_of (0 ∷ 1 ∷ 0x80 ∷ nlri) ≡ in_attribute (routes_of nlri)
unfolding unreach_of
unreached nlri = let long : nat_le 3 (length (0 ∷ 1 ∷ 0x80 ∷ nlri)) ≡ true = grind (arith, nat_tests) in rw long refl

pub unreach_again : (value : List ℕ) (routes : List VpnRoute) → IsUnreach value routes → unreach_of value ≡ Ok routes
unreach_again value routes is = ap unreach_of is.whole ∙ unreached is.nlri ∙ ap in_attribute (routes_again is.nlri routes is.are_routes)

unreach_takes_by : (x y z : ℕ) (nlri : List ℕ) (routes : List VpnRoute) → IsBytes (x ∷ y ∷ z ∷ nlri) → unreach_of (x ∷ y ∷ z ∷ nlri) ≡ Ok routes →
    IsUnreach (x ∷ y ∷ z ∷ nlri) routes
unfolding unreach_of
unreach_takes_by x y z nlri routes fits is =
    let value = x ∷ y ∷ z ∷ nlri in
    let long = nat_le 3 (length value) in
    let q = guard_ok (not (long && is_family value)) BadAttribute (in_attribute (routes_of nlri)) routes is in
    let family = family_is x y z (and_true long (is_family value) (not_false (long && is_family value) q.0)).1 in
    let px = family.0 in
    let py = family.1 in
    let pz = family.2 in
    record {
      nlri = nlri;
      are_routes = routes_take nlri routes (bytes-rest (x ∷ y ∷ z ∷ []) nlri fits) (in_attribute_ok (routes_of nlri) routes q.1);
      whole = cc;
    }

unreach_short : (value : List ℕ) (routes : List VpnRoute) → length value < 3 → unreach_of value ≡ Ok routes → ⊥
unfolding unreach_of
unreach_short value routes lt is = let short : nat_le 3 (length value) ≡ false = grind (arith, nat_tests) in let e = rw short at is in absurd cc

pub unreach_take : (value : List ℕ) (routes : List VpnRoute) → IsBytes value → unreach_of value ≡ Ok routes → IsUnreach value routes
unreach_take (x ∷ y ∷ z ∷ nlri) routes fits is = unreach_takes_by x y z nlri routes fits is
unreach_take value routes fits is = absurd (unreach_short value routes (omega arith) is)

-- What is sent.

reach_said : (o : Option (List ℕ)) (hop : ℕ) (routes : List VpnRoute) → SayReach o hop routes → said (0, no_routes) reach_of o ≡ Ok (hop, routes)
reach_said None hop routes h = let p = h.0 in let q = h.1 in cc
reach_said (Some value) hop routes h = reach_again value hop routes h

unreach_said : (o : Option (List ℕ)) (routes : List VpnRoute) → SayUnreach o routes → said no_routes unreach_of o ≡ Ok routes
unreach_said None routes h = ap done (sym h)
unreach_said (Some value) routes h = unreach_again value routes h

targets_said : (o : Option (List ℕ)) (targets : List Rt) → SayTargets o targets → said no_targets communities_of o ≡ Ok targets
targets_said None targets h = ap done (sym h)
targets_said (Some value) targets h = ap in_attribute (targets_are_read value targets h)

reach_said_takes : (o : Option (List ℕ)) (found : ℕ × List VpnRoute) → ((v : List ℕ) → o ≡ Some v → IsBytes v) → said (0, no_routes) reach_of o ≡ Ok found →
    SayReach o found.0 found.1
reach_said_takes None found fits e = let s = done_is (0, no_routes) found e in
    (sym (ap (λ (p : ℕ × List VpnRoute). p.0) s), sym (ap (λ (p : ℕ × List VpnRoute). p.1) s))
reach_said_takes (Some value) found fits e = reach_take value found (fits value refl) e

unreach_said_takes : (o : Option (List ℕ)) (routes : List VpnRoute) → ((v : List ℕ) → o ≡ Some v → IsBytes v) → said no_routes unreach_of o ≡ Ok routes →
    SayUnreach o routes
unreach_said_takes None routes fits e = sym (done_is no_routes routes e)
unreach_said_takes (Some value) routes fits e = unreach_take value routes (fits value refl) e

targets_said_take : (o : Option (List ℕ)) (targets : List Rt) → ((v : List ℕ) → o ≡ Some v → IsBytes v) → said no_targets communities_of o ≡ Ok targets →
    SayTargets o targets
targets_said_take None targets fits e = sym (done_is no_targets targets e)
targets_said_take (Some value) targets fits e = read_are_targets value targets (fits value refl) (in_attribute_ok (targets_of value) targets e)

-- UPDATE.

-- What stands together in an UPDATE is sent; what is missing is then looked at.

pub record AreSaid (attributes : List PathAttribute) (says : Says) : Type 0 where
  pub once : has_twice attributes ≡ false
  pub lawful : list_all is_lawful attributes ≡ true
  pub reach : said (0, no_routes) reach_of (value_of mp_reach_kind attributes) ≡ Ok (says.next_hop, says.reached)
  pub unreach : said no_routes unreach_of (value_of mp_unreach_kind attributes) ≡ Ok says.withdrawn
  pub targets : said no_targets communities_of (value_of extended_communities_kind attributes) ≡ Ok says.targets

says_by : (attributes : List PathAttribute) (says : Says) → AreSaid attributes says →
    says_of attributes ≡ cond (is_missing attributes) (Err MissingAttribute) (Ok says)
unfolding says_of
says_by attributes says s = rw (s.once, s.lawful, s.reach, s.unreach, s.targets) refl

are_said : (body : List ℕ) (attributes : List PathAttribute) (says : Says) → AreAttributes body attributes says → AreSaid attributes says
are_said body attributes says is = record {
  once = once_again attributes is.once;
  lawful = all_lawful_again attributes is.lawful;
  reach = reach_said (value_of mp_reach_kind attributes) says.next_hop says.reached is.reach;
  unreach = unreach_said (value_of mp_unreach_kind attributes) says.withdrawn is.unreach;
  targets = targets_said (value_of extended_communities_kind attributes) says.targets is.targets;
}

-- the answer, where the attributes are whole
update_by : (body : List ℕ) (attributes : List PathAttribute) (says : Says) → length body < 2 ^ 16 → AreAttributes body attributes says →
    update_of body ≡ cond (is_missing attributes) (Err MissingAttribute) (Ok says)
update_by body attributes says short is =
    let bytes = attributes_bytes attributes in
    let len : length body ≡ 4 + length bytes = ap length is.whole ∙ omega arith in
    let list : attributes_in body ≡ Some attributes = ap attributes_in is.whole ∙ list_again attributes (omega arith) in
    ap (λ (o : Option (List PathAttribute)). after (or_else BadAttribute o) says_of) list ∙ says_by attributes says (are_said body attributes says is)

pub update_again : (body : List ℕ) (says : Says) → length body < 2 ^ 16 → IsUpdate body says → update_of body ≡ Ok says
update_again body says short is =
    update_by body is.attributes says short is.are_attributes
    ∙ ap (λ (b : Bool). cond b (refused MissingAttribute) (Ok says)) (wanted_again is.attributes is.wanted)

missing_by : (attributes : List PathAttribute) → ¬ HasAllWanted attributes → (b : Bool) → is_missing attributes ≡ b → is_missing attributes ≡ true
missing_by attributes lacks true is = is
missing_by attributes lacks false is = absurd (lacks (wanted_take attributes is))

-- whole attributes of which one is missing
pub update_misses : (body : List ℕ) (attributes : List PathAttribute) (says : Says) → length body < 2 ^ 16 → AreAttributes body attributes says →
    ¬ HasAllWanted attributes → update_of body ≡ Err MissingAttribute
update_misses body attributes says short is lacks =
    update_by body attributes says short is
    ∙ ap (λ (b : Bool). cond b (refused MissingAttribute) (Ok says)) (missing_by attributes lacks (is_missing attributes) refl)

-- The other way round.

-- nothing but a bad attribute
abbrev OnlyBad : {X : Type 0} → Result X BgpWireBad → Type 0
OnlyBad (Ok x) = Unit {0}
OnlyBad (Err bad) = bad ≡ BadAttribute

only_bad_guard : {X : Type 0} (b : Bool) (r : Result X BgpWireBad) → OnlyBad r → OnlyBad (cond b (Err BadAttribute) r)
only_bad_guard true r h = refl
only_bad_guard false r h = h

only_bad_in : {X : Type 0} (r : Result X NlriBad) → OnlyBad (in_attribute r)
only_bad_in (Ok x) = tt
only_bad_in (Err bad) = refl

only_bad_after : {X Y : Type 0} (r : Result X BgpWireBad) (f : X → Result Y BgpWireBad) → OnlyBad r → ((x : X) → OnlyBad (f x)) → OnlyBad (after r f)
only_bad_after (Ok x) f h k = k x
only_bad_after (Err bad) f h k = h

only_bad_reach : (value : List ℕ) → OnlyBad (reach_of value)
unfolding reach_of
only_bad_reach value =
    let some = λ (routes : List VpnRoute). cond (length routes == 0) (refused BadAttribute) (Ok (big_number 4 (drop 12 value), routes)) in
    only_bad_guard (not (nat_le reach_head (length value) && is_family value && slice_index value 3 == 12))
    (after (in_attribute (routes_of (drop reach_head value))) some)
    (only_bad_after (in_attribute (routes_of (drop reach_head value))) some (only_bad_in (routes_of (drop reach_head value)))
    (λ routes. only_bad_guard (length routes == 0) (Ok (big_number 4 (drop 12 value), routes)) tt))

only_bad_unreach : (value : List ℕ) → OnlyBad (unreach_of value)
unfolding unreach_of
only_bad_unreach value =
    only_bad_guard (not (nat_le 3 (length value) && is_family value)) (in_attribute (routes_of (drop 3 value))) (only_bad_in (routes_of (drop 3 value)))

only_bad_said : {X : Type 0} (absent : X) (read : List ℕ → Result X BgpWireBad) → ((v : List ℕ) → OnlyBad (read v)) →
    (o : Option (List ℕ)) → OnlyBad (said absent read o)
only_bad_said absent read each None = tt
only_bad_said absent read each (Some value) = each value

-- all is sent, or something is bad
data Verdict (attributes : List PathAttribute) : Type 0 where
  AllSaid : (says : Says) → AreSaid attributes says → Verdict attributes
  OneBad : says_of attributes ≡ Err BadAttribute → Verdict attributes

bad_list : (attributes : List PathAttribute) → (has_twice attributes || not (list_all is_lawful attributes)) ≡ true → says_of attributes ≡ Err BadAttribute
unfolding says_of
bad_list attributes b = rw b refl

bad_reach : (attributes : List PathAttribute) (bad : BgpWireBad) →
    (has_twice attributes || not (list_all is_lawful attributes)) ≡ false → said (0, no_routes) reach_of (value_of mp_reach_kind attributes) ≡ Err bad →
    bad ≡ BadAttribute → says_of attributes ≡ Err BadAttribute
unfolding says_of
bad_reach attributes bad b r is = rw (b, r) (ap refused is)

bad_unreach : (attributes : List PathAttribute) (reach : ℕ × List VpnRoute) (bad : BgpWireBad) →
    (has_twice attributes || not (list_all is_lawful attributes)) ≡ false → said (0, no_routes) reach_of (value_of mp_reach_kind attributes) ≡ Ok reach
    → said no_routes unreach_of (value_of mp_unreach_kind attributes) ≡ Err bad → bad ≡ BadAttribute → says_of attributes ≡ Err BadAttribute
unfolding says_of
bad_unreach attributes reach bad b r w is = rw (b, r, w) (ap refused is)

bad_targets : (attributes : List PathAttribute) (reach : ℕ × List VpnRoute) (withdrawn : List VpnRoute) (bad : BgpWireBad) →
    (has_twice attributes || not (list_all is_lawful attributes)) ≡ false → said (0, no_routes) reach_of (value_of mp_reach_kind attributes) ≡ Ok reach
    → said no_routes unreach_of (value_of mp_unreach_kind attributes) ≡ Ok withdrawn →
    said no_targets communities_of (value_of extended_communities_kind attributes) ≡ Err bad → bad ≡ BadAttribute →
    says_of attributes ≡ Err BadAttribute
unfolding says_of
bad_targets attributes reach withdrawn bad b r w t is = rw (b, r, w, t) (ap refused is)

verdict_by : (attributes : List PathAttribute) (b : Bool) (r : Result (ℕ × List VpnRoute) BgpWireBad) (w : Result (List VpnRoute) BgpWireBad)
    (t : Result (List Rt) BgpWireBad)
    → (has_twice attributes || not (list_all is_lawful attributes)) ≡ b → said (0, no_routes) reach_of (value_of mp_reach_kind attributes) ≡ r →
    said no_routes unreach_of (value_of mp_unreach_kind attributes) ≡ w
    → said no_targets communities_of (value_of extended_communities_kind attributes) ≡ t → OnlyBad r → OnlyBad w → OnlyBad t → Verdict attributes
verdict_by attributes true r w t b-is r-is w-is t-is r-bad w-bad t-bad = OneBad (bad_list attributes b-is)
verdict_by attributes false (Err bad) w t b-is r-is w-is t-is r-bad w-bad t-bad = OneBad (bad_reach attributes bad b-is r-is r-bad)
verdict_by attributes false (Ok reach) (Err bad) t b-is r-is w-is t-is r-bad w-bad t-bad = OneBad (bad_unreach attributes reach bad b-is r-is w-is w-bad)
verdict_by attributes false (Ok reach) (Ok withdrawn) (Err bad) b-is r-is w-is t-is r-bad w-bad t-bad =
    OneBad (bad_targets attributes reach withdrawn bad b-is r-is w-is t-is t-bad)
verdict_by attributes false (Ok reach) (Ok withdrawn) (Ok targets) b-is r-is w-is t-is r-bad w-bad t-bad =
    let o = or_no (has_twice attributes) (not (list_all is_lawful attributes)) b-is in
    AllSaid (record { next_hop = reach.0; reached = reach.1; withdrawn = withdrawn; targets = targets }) (record {
      once = o.0;
      lawful = not_false (list_all is_lawful attributes) o.1;
      reach = r-is;
      unreach = w-is;
      targets = t-is;
    })

verdict : (attributes : List PathAttribute) → Verdict attributes
verdict attributes =
    verdict_by attributes _ _ _ _ refl refl refl refl (only_bad_said (0, no_routes) reach_of only_bad_reach (value_of mp_reach_kind attributes))
    (only_bad_said no_routes unreach_of only_bad_unreach (value_of mp_unreach_kind attributes))
    (only_bad_said no_targets communities_of (λ v. only_bad_in (targets_of v)) (value_of extended_communities_kind attributes))

are_attributes : (body : List ℕ) (attributes : List PathAttribute) (says : Says) → IsBytes body → 4 ≤ length body → attributes_in body ≡ Some attributes →
    AreSaid attributes says → AreAttributes body attributes says
are_attributes body attributes says fits long list s =
    let whole = list_takes body attributes fits long list in
    let bytes_fit : IsBytes (attributes_bytes attributes) =
    bytes-rest (big_bytes 2 0 ++ big_bytes 2 (length (attributes_bytes attributes))) (attributes_bytes attributes) (subst IsBytes whole fits) in
    record {
      whole = whole;
      once = once_takes attributes s.once;
      lawful = all_lawful_take attributes s.lawful;
      reach = reach_said_takes (value_of mp_reach_kind attributes) (says.next_hop, says.reached) (λ v. value_fits mp_reach_kind attributes v bytes_fit) s.reach;
      unreach = unreach_said_takes (value_of mp_unreach_kind attributes) says.withdrawn (λ v. value_fits mp_unreach_kind attributes v bytes_fit) s.unreach;
      targets =
          targets_said_take (value_of extended_communities_kind attributes) says.targets
          (λ v. value_fits extended_communities_kind attributes v bytes_fit) s.targets;
    }

take_by : (attributes : List PathAttribute) (says : Says) → Verdict attributes → says_of attributes ≡ Ok says →
    AreSaid attributes says × HasAllWanted attributes
take_by attributes says (OneBad bad) e = absurd cc
take_by attributes says (AllSaid found s) e =
    let g = guard_ok (is_missing attributes) MissingAttribute (done found) says (sym (says_by attributes found s) ∙ e) in
    (subst (λ (x : Says). AreSaid attributes x) (done_is found says g.1) s, wanted_take attributes g.0)

pub update_take : (body : List ℕ) (says : Says) → IsBytes body → 4 ≤ length body → update_of body ≡ Ok says → IsUpdate body says
update_take body says fits long e =
    let a = after_ok (or_else BadAttribute (attributes_in body)) says_of says e in
    let list = or_else_ok BadAttribute (attributes_in body) a.0 a.1 in
    let t = take_by a.0 says (verdict a.0) a.2 in
    record { attributes = a.0; are_attributes = are_attributes body a.0 says fits long list t.0; wanted = t.1 }

bad_by : (body : List ℕ) (o : Option (List PathAttribute)) → attributes_in body ≡ o →
    ((attributes : List PathAttribute) (says : Says) → attributes_in body ≡ Some attributes → AreSaid attributes says → ⊥) →
    after (or_else BadAttribute o) says_of ≡ Err BadAttribute
bad_by body None is none = refl
bad_by body (Some attributes) is none = elim (verdict attributes) [ AllSaid says s ↦ absurd (none attributes says is s) | OneBad bad ↦ bad ]

-- no whole attributes
pub update_is_bad : (body : List ℕ) → IsBytes body → 4 ≤ length body →
    ((attributes : List PathAttribute) (says : Says) → AreAttributes body attributes says → ⊥) → update_of body ≡ Err BadAttribute
update_is_bad body fits long none =
    bad_by body (attributes_in body) refl (λ attributes says list s. none attributes says (are_attributes body attributes says fits long list s))
