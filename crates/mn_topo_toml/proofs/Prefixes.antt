-- The prefixes that are read have no bit set past their length.
use Rattle.std.proofs.Common.{◌≡◌, ◌<◌, ◌≤◌, ◌+◌, ◌-◌, ◌*◌, ◌^◌, ◌%◌, ◌==◌, ℕ, arith, Bool, true, false, ◌&&◌, nat_le, if◌then◌else◌, List, [], ◌∷◌}
use Rattle.std.proofs.Common.{◌++◌, Option, Some, None, unwrap_or, codes, Ok, Err, refl, subst}
use Rattle.std.specs.List.{list_all}
use Rattle.std.specs.Result.{result_ok}
use Rattle.std.proofs.lemmas.Bool.Decides.{nat_tests}
use Rattle.std.proofs.lemmas.Bool.{and_parts}
use Rattle.std.proofs.lemmas.List.Folds.{list_all-append}
use Rattle.std.proofs.lemmas.Option.{same_Some}
use Rattle.std.specs.Str.Parse.{digits_value}
use Rattle.toml.specs.Data.{Data, Items, no_items, item, Members, as_str}
use Rattle.mn_prefix.specs.Prefix.{AddressBlock}
use Rattle.mn_text.specs.Numbers.{is_number, number_up_to}
use Rattle.std.specs.Option.{option_map_or}
use Rattle.mn_base.proofs.Bools.{and_on}
use Rattle.mn_text.specs.declared.refusal.TextBad.TheVariants.{BadPrefix, HostBits}
use Rattle.mn_text.specs.Addresses.{cut, address_of, slashed_of, without_host_bits}
use Rattle.mn_topo.specs.SiteTable.{Static, in_vrf, is_lawful_prefix}
use Rattle.mn_topo_toml.specs.Sites.{prefix_in, prefixes_from, prefixes_at, prefixes_of}
use Rattle.mn_topo_toml.specs.Tables.{array_at}
use Rattle.mn_topo.proofs.Prefixes.{passes}
use Rattle.mn_topo_toml.proofs.LawfulEntries.{all_push}
use Rattle.mn_text.proofs.Only.{bind_parts}

-- 1. What is read

at_most : (a b : Bool) (v n : ℕ) → ◌≡◌ {A = Option ℕ} (if a && b then Some v else None) (Some n) → (b ≡ true) × (v ≡ n)
at_most true true v n h = (refl, cc)
at_most true false v n h = cc
at_most false b v n h = cc

up_to : (w : List ℕ) (most n : ℕ) → number_up_to w most ≡ Some n → n ≤ most
up_to w most n h = let p = at_most (is_number w) (nat_le (digits_value 10 w) most) (digits_value 10 w) n h in grind (arith, nat_tests, p.0, p.1)

four_bytes : (a b c d n : ℕ) → a ≤ 255 → b ≤ 255 → c ≤ 255 → d ≤ 255 → ((a * 256 + b) * 256 + c) * 256 + d ≡ n → n < 2 ^ 32
four_bytes a b c d n ha hb hc hd e = omega (arith, ha, hb, hc, hd, e)

address_fits : (w : List ℕ) (n : ℕ) → address_of w ≡ Some n → n < 2 ^ 32
unfolding address_of
address_fits w n h =
    let p1 = bind_parts _ (cut 46 w) n h in
    let p2 = bind_parts _ (cut 46 p1.0.1) n p1.2 in
    let p3 = bind_parts _ (cut 46 p2.0.1) n p2.2 in
    let q1 = bind_parts _ (number_up_to p1.0.0 255) n p3.2 in
    let q2 = bind_parts _ (number_up_to p2.0.0 255) n q1.2 in
    let q3 = bind_parts _ (number_up_to p3.0.0 255) n q2.2 in
    let q4 = bind_parts _ (number_up_to p3.0.1 255) n q3.2 in
    four_bytes q1.0 q2.0 q3.0 q4.0 n (up_to p1.0.0 255 q1.0 q1.1) (up_to p2.0.0 255 q2.0 q2.1) (up_to p3.0.0 255 q3.0 q3.1) (up_to p3.0.1 255 q4.0 q4.1)
    (same_Some _ _ q4.2)

slashed_fits : (w : List ℕ) (p : AddressBlock) → slashed_of w ≡ Some p → (p.address < 2 ^ 32) × (p.length ≤ 32)
unfolding slashed_of
slashed_fits w p h =
    let c = bind_parts _ (cut 47 w) p h in
    let a = bind_parts _ (address_of c.0.0) p c.2 in
    let n = bind_parts _ (number_up_to c.0.1 32) p a.2 in
    let e : ◌≡◌ {A = AddressBlock} (record { address = a.0; length = n.0 }) p = same_Some _ _ n.2 in
    (subst (λ (q : AddressBlock). q.address < 2 ^ 32) e (address_fits c.0.0 a.0 a.1), subst (λ (q : AddressBlock). q.length ≤ 32) e (up_to c.0.1 32 n.0 n.1))

read_lawful : (o : Option AddressBlock) (p : AddressBlock) →
    ((q : AddressBlock) → o ≡ Some q → (q.address < 2 ^ 32) × (q.length ≤ 32)) → result_ok (option_map_or without_host_bits o (Err BadPrefix)) ≡ Some p →
    is_lawful_prefix p ≡ true
read_lawful None p h e = cc
read_lawful (Some q) p h e = split (q.address % 2 ^ (32 - q.length) == 0) refl e
  where
    split : (b : Bool) → (q.address % 2 ^ (32 - q.length) == 0) ≡ b → result_ok (if b then Ok q else Err HostBits) ≡ Some p → is_lawful_prefix p ≡ true
    split true is e =
        let fit = h q refl in
        subst (λ (r : AddressBlock). is_lawful_prefix r ≡ true) (same_Some q p e) (passes q fit.0 fit.1 is)
    split false is e = cc

item_lawful : (value : Data) (p : AddressBlock) → prefix_in value ≡ Some p → is_lawful_prefix p ≡ true
item_lawful value p h = let w = bind_parts _ (as_str value) p h in read_lawful (slashed_of w.0) p (slashed_fits w.0) w.2

items_lawful : (items : Items) (earlier ps : List AddressBlock) → prefixes_from earlier items ≡ Some ps → list_all is_lawful_prefix earlier ≡ true →
    list_all is_lawful_prefix ps ≡ true
items_lawful no_items earlier ps h k = subst (λ xs. list_all is_lawful_prefix xs ≡ true) (same_Some earlier ps h) k
items_lawful (item value items) earlier ps h k =
    let q = bind_parts _ (prefix_in value) ps h in
    items_lawful items (earlier ++ q.0 ∷ []) ps q.2 (all_push is_lawful_prefix earlier q.0 k (item_lawful value q.0 q.1))

some_lawful : (o : Option (List AddressBlock)) → ((ps : List AddressBlock) → o ≡ Some ps → list_all is_lawful_prefix ps ≡ true) →
    list_all is_lawful_prefix (unwrap_or o []) ≡ true
some_lawful None h = refl
some_lawful (Some ps) h = h ps refl

entry_lawful : (entry : Members) → list_all is_lawful_prefix (prefixes_of entry) ≡ true
entry_lawful entry = some_lawful (prefixes_at entry) (λ ps e. let q = bind_parts (prefixes_from []) (array_at (codes "prefixes") entry) ps e in
    items_lawful q.0 [] ps q.2 refl)

-- 2. In their VRF

in_vrf_lawful : (v : ℕ) (ps : List AddressBlock) → list_all is_lawful_prefix ps ≡ true →
    list_all (λ (static : Static). is_lawful_prefix static.1) (in_vrf v ps) ≡ true
in_vrf_lawful v [] h = refl
in_vrf_lawful v (p ∷ ps) h = let q = and_parts (is_lawful_prefix p) (list_all is_lawful_prefix ps) h in
    and_on (is_lawful_prefix p) _ q.0 (in_vrf_lawful v ps q.1)

pub statics_lawful : (statics : List Static) (v : ℕ) (entry : Members) → list_all (λ (static : Static). is_lawful_prefix static.1) statics ≡ true →
    list_all (λ (static : Static). is_lawful_prefix static.1) (statics ++ in_vrf v (prefixes_of entry)) ≡ true
statics_lawful statics v entry h =
    rw (
      list_all-append (λ (static : Static). is_lawful_prefix static.1) statics (in_vrf v (prefixes_of entry)),
      h,
      in_vrf_lawful v (prefixes_of entry)
          (entry_lawful entry),
    ) refl
