-- What is read as a value is the value's text.
use Rattle.std.proofs.Common.{◌≡◌, ◌≢◌, ℕ, Bool, true, false, ◌&&◌, ◌||◌, ◌==◌, nat_lt, nat_le, cond, if◌then◌else◌, ◌+◌, ◌*◌, ◌/◌, ◌%◌, ◌^◌, ◌<◌, ◌≤◌}
use Rattle.std.proofs.Common.{List, [], ◌∷◌, ◌++◌, length, get_or, take, drop, Option, Some, None, option_map, option_and_then, refl, ap, sym, ◌∙◌, lit<}
use Rattle.std.proofs.Common.{arith, add-one, subst}
use Rattle.std.proofs.lemmas.Bool.Decides.{nat_tests}
use Rattle.std.proofs.lemmas.Bool.{and_parts, eqb-true, ltb-true}
use Rattle.std.proofs.lemmas.Option.{same_Some}
use Rattle.std.proofs.lemmas.List.{take-append-drop}
use Rattle.std.proofs.lemmas.List.Sums.{passes_at_first}
use Rattle.std.proofs.Math.Seq.{drop-cons}
use Rattle.std.specs.List.{list_all, position_or_len}
use Rattle.std.specs.Char.{is_ascii_digit}
use Rattle.std.specs.Fmt.{decimal}
use Rattle.std.specs.Str.Parse.{digits_value}
use Rattle.std.proofs.lemmas.Fmt.{decimal-digits_value}
use Rattle.mn_base.specs.Numbers.{type_field}
use Rattle.mn_prefix.specs.Prefix.{AddressBlock}
use Rattle.mn_text.specs.Numbers.{begins_well, is_number, number_up_to, number_text}
use Rattle.mn_text.specs.Addresses.{cut, address_of, slashed_of, address_text, prefix_text}
use Rattle.mn_text.specs.Pairs.{pair_text, by_as_text, by_address_text, pair_of, as_pair, address_pair, typed, or_else}
use Rattle.mn_text.proofs.Again.{own, pair_addressed}

begun : (w : List ℕ) → begins_well w ≡ true → (0 < length w) × (get_or w 0 0 ≡ 48 → length w ≡ 1)
begun [] h = cc
begun (x ∷ []) h = (omega arith, λ z. refl)
begun (x ∷ y ∷ zs) h = (omega arith, λ z. grind (arith, nat_tests))

-- 1. Numbers
pub number_only : (w : List ℕ) (n : ℕ) → is_number w ≡ true → n ≡ digits_value 10 w → n < 2 ^ 64 → w ≡ number_text n
number_only w n h e fits =
    let form = and_parts (begins_well w) (list_all is_ascii_digit w) h in
    let start = begun w form.0 in
    let small : digits_value 10 w < 2 ^ 64 = omega (arith, e, fits) in
    sym (decimal-digits_value own w form.1 start.0 start.1 small) ∙ ap decimal (sym e)

pub up_to_parts : (a b : Bool) (v n : ℕ) → ◌≡◌ {A = Option ℕ} (if a && b then Some v else None) (Some n) → (a ≡ true) × (b ≡ true) × (v ≡ n)
up_to_parts true true v n h = (refl, refl, cc)
up_to_parts true false v n h = cc
up_to_parts false b v n h = cc

up_to_only : (w : List ℕ) (most n : ℕ) → most < 2 ^ 64 → number_up_to w most ≡ Some n → (w ≡ number_text n) × (n ≤ most)
up_to_only w most n fits h =
    let p = up_to_parts (is_number w) (nat_le (digits_value 10 w) most) (digits_value 10 w) n h in
    let small : n ≤ most = grind (arith, nat_tests, p.1, p.2) in
    (number_only w n p.0 (sym p.2) (omega (arith, small, fits)), small)

-- 2. Cuts
cut_parts : (byte : ℕ) (w front back : List ℕ) (i : ℕ) (b : Bool) →
    ◌≡◌ {A = Option (List ℕ × List ℕ)} (option_map (λ (i : ℕ). (take i w, drop (i + 1) w)) (cond b (Some i) None)) (Some (front, back)) →
    (b ≡ true) × (take i w ≡ front) × (drop (i + 1) w ≡ back)
cut_parts byte w front back i true h =
    let e : ◌≡◌ {A = List ℕ × List ℕ} (take i w, drop (i + 1) w) (front, back) = same_Some _ _ h in
    (refl, ap (λ p. p.0) e, ap (λ p. p.1) e)
cut_parts byte w front back i false h = cc

cut_only : (byte : ℕ) (w front back : List ℕ) → cut byte w ≡ Some (front, back) → w ≡ front ++ byte ∷ back
cut_only byte w front back h =
    let i : ℕ = position_or_len (λ b. b == byte) w in
    let p = cut_parts byte w front back i (nat_lt i (length w)) h in
    let inside : i < length w = ltb-true _ _ p.0 in
    let there : get_or w i 0 ≡ byte = eqb-true _ _ (passes_at_first (λ b. b == byte) w 0 inside) in
    sym (take-append-drop i w) ∙ rw (drop-cons w i 0 inside) (cc (p.1, p.2, there, ap (λ n. drop n w) (add-one i)))

-- 3. Chains of optional steps
pub bind_parts : {A B : Type 0} (f : A → Option B) (o : Option A) (y : B) → option_and_then f o ≡ Some y → (x : A) × (o ≡ Some x) × (f x ≡ Some y)
bind_parts f None y h = cc
bind_parts f (Some x) y h = (x, refl, h)

-- four bytes are those of the number that they make
bytes_of : (a b c d n : ℕ) → a ≤ 255 → b ≤ 255 → c ≤ 255 → d ≤ 255 → ((a * 256 + b) * 256 + c) * 256 + d ≡ n →
    (n / 256 / 256 / 256 ≡ a) × (n / 256 / 256 % 256 ≡ b) × (n / 256 % 256 ≡ c) × (n % 256 ≡ d)
bytes_of a b c d n ha hb hc hd e = (omega arith, omega arith, omega arith, omega arith)

address_join : (w r s f1 f2 f3 f4 : List ℕ) (a b c d n : ℕ) → w ≡ f1 ++ 46 ∷ r → r ≡ f2 ++ 46 ∷ s → s ≡ f3 ++ 46 ∷ f4 → f1 ≡ number_text a →
    f2 ≡ number_text b → f3 ≡ number_text c → f4 ≡ number_text d →
    (n / 256 / 256 / 256 ≡ a) × (n / 256 / 256 % 256 ≡ b) × (n / 256 % 256 ≡ c) × (n % 256 ≡ d) → w ≡ address_text n
unfolding address_text
address_join w r s f1 f2 f3 f4 a b c d n e1 e2 e3 t1 t2 t3 t4 bytes =
    rw (bytes.0, bytes.1, bytes.2, bytes.3, e1, e2, e3, t1, t2, t3, t4) refl

address_both : (w : List ℕ) (n : ℕ) → address_of w ≡ Some n → (w ≡ address_text n) × (n < 2 ^ 32)
unfolding address_of
address_both w n h =
    let p1 = bind_parts _ (cut 46 w) n h in
    let p2 = bind_parts _ (cut 46 p1.0.1) n p1.2 in
    let p3 = bind_parts _ (cut 46 p2.0.1) n p2.2 in
    let q1 = bind_parts _ (number_up_to p1.0.0 255) n p3.2 in
    let q2 = bind_parts _ (number_up_to p2.0.0 255) n q1.2 in
    let q3 = bind_parts _ (number_up_to p3.0.0 255) n q2.2 in
    let q4 = bind_parts _ (number_up_to p3.0.1 255) n q3.2 in
    let t1 = up_to_only p1.0.0 255 q1.0 (lit< tt) q1.1 in
    let t2 = up_to_only p2.0.0 255 q2.0 (lit< tt) q2.1 in
    let t3 = up_to_only p3.0.0 255 q3.0 (lit< tt) q3.1 in
    let t4 = up_to_only p3.0.1 255 q4.0 (lit< tt) q4.1 in
    let e : ((q1.0 * 256 + q2.0) * 256 + q3.0) * 256 + q4.0 ≡ n = same_Some _ _ q4.2 in (
      address_join w p1.0.1 p2.0.1 p1.0.0 p2.0.0 p3.0.0 p3.0.1 q1.0 q2.0 q3.0 q4.0 n
          (cut_only 46 w _ _ p1.1) (cut_only 46 _ _ _ p2.1) (cut_only 46 _ _ _ p3.1) t1.0 t2.0 t3.0 t4.0
          (bytes_of q1.0 q2.0 q3.0 q4.0 n t1.1 t2.1 t3.1 t4.1 e),
      omega (arith, e, t1.1, t2.1, t3.1, t4.1),
    )

pub address_only : (w : List ℕ) (n : ℕ) → address_of w ≡ Some n → w ≡ address_text n
address_only w n h = (address_both w n h).0

address_small : (w : List ℕ) (n : ℕ) → address_of w ≡ Some n → n < 2 ^ 32
address_small w n h = (address_both w n h).1

pub slashed_only : (w : List ℕ) (p : AddressBlock) → slashed_of w ≡ Some p → w ≡ prefix_text p
unfolding slashed_of prefix_text
slashed_only w p h =
    let c = bind_parts _ (cut 47 w) p h in
    let a = bind_parts _ (address_of c.0.0) p c.2 in
    let n = bind_parts _ (number_up_to c.0.1 32) p a.2 in
    let t = up_to_only c.0.1 32 n.0 (lit< tt) n.1 in
    let e : ◌≡◌ {A = AddressBlock} (record { address = a.0; length = n.0 }) p = same_Some _ _ n.2 in
    cut_only 47 w _ _ c.1 ∙ cc (address_only c.0.0 a.0 a.1, t.0, ap (λ (p : AddressBlock). p.address) e, ap (λ (p : AddressBlock). p.length) e)

-- 4. Pairs
as_only : (front back : List ℕ) (v : ℕ) → as_pair front back ≡ Some v →
    (v < 2 ^ 48) × (front ≡ number_text (v / 2 ^ 32 % 2 ^ 16)) × (back ≡ number_text (v % 2 ^ 32))
as_only front back v h =
    let a = bind_parts _ (number_up_to front 65535) v h in
    let n = bind_parts _ (number_up_to back 4294967295) v a.2 in
    let ta = up_to_only front 65535 a.0 (lit< tt) a.1 in
    let tn = up_to_only back 4294967295 n.0 (lit< tt) n.1 in
    let e : a.0 * 2 ^ 32 + n.0 ≡ v = same_Some _ _ n.2 in
    let high : v / 2 ^ 32 % 2 ^ 16 ≡ a.0 = omega (arith, e, ta.1, tn.1) in
    let low : v % 2 ^ 32 ≡ n.0 = omega (arith, e, ta.1, tn.1) in
    (omega (arith, e, ta.1, tn.1), rw high ta.0, rw low tn.0)

addressed_only : (front back : List ℕ) (v : ℕ) → address_pair front back ≡ Some v →
    (v < 2 ^ 48) × (front ≡ address_text (v / 2 ^ 16 % 2 ^ 32)) × (back ≡ number_text (v % 2 ^ 16))
addressed_only front back v h =
    let a = bind_parts _ (address_of front) v h in
    let n = bind_parts _ (number_up_to back 65535) v a.2 in
    let tn = up_to_only back 65535 n.0 (lit< tt) n.1 in
    let e : a.0 * 2 ^ 16 + n.0 ≡ v = same_Some _ _ n.2 in
    let small : a.0 < 2 ^ 32 = address_small front a.0 a.1 in
    let high : v / 2 ^ 16 % 2 ^ 32 ≡ a.0 = omega (arith, e, small, tn.1) in
    let low : v % 2 ^ 16 ≡ n.0 = omega (arith, e, tn.1) in
    (omega (arith, e, small, tn.1), rw high (address_only front a.0 a.1), rw low tn.0)

kind_of : (kind v : ℕ) → v < 2 ^ 48 → (kind * 2 ^ 48 + v) / 2 ^ 48 ≡ kind
kind_of kind v h = omega (arith, h)

as_typed : (kind v : ℕ) (front back : List ℕ) → (v < 2 ^ 48) × (front ≡ number_text (v / 2 ^ 32 % 2 ^ 16)) × (back ≡ number_text (v % 2 ^ 32)) →
    front ++ 58 ∷ back ≡ by_as_text (typed kind v)
as_typed kind v front back h =
    let high : (kind * 2 ^ 48 + v) / 2 ^ 32 % 2 ^ 16 ≡ v / 2 ^ 32 % 2 ^ 16 = omega (arith, h.0) in
    let low : (kind * 2 ^ 48 + v) % 2 ^ 32 ≡ v % 2 ^ 32 = omega arith in
    rw (high, low, h.1, h.2) refl

addressed_typed : (kind v : ℕ) (front back : List ℕ) → (v < 2 ^ 48) × (front ≡ address_text (v / 2 ^ 16 % 2 ^ 32)) × (back ≡ number_text (v % 2 ^ 16)) →
    front ++ 58 ∷ back ≡ by_address_text (typed kind v)
addressed_typed kind v front back h =
    let high : (kind * 2 ^ 48 + v) / 2 ^ 16 % 2 ^ 32 ≡ v / 2 ^ 16 % 2 ^ 32 = omega (arith, h.0) in
    let low : (kind * 2 ^ 48 + v) % 2 ^ 16 ≡ v % 2 ^ 16 = omega arith in
    rw (high, low, h.1, h.2) refl

pair_as : (n by_address : ℕ) → type_field n ≢ by_address → pair_text by_address n ≡ by_as_text n
unfolding pair_text
pair_as n by_address h = grind (arith, nat_tests, h)

-- the text and the type of what is read
record IsPair (by_as by_address : ℕ) (w : List ℕ) (n : ℕ) : Type 0 where
  text : w ≡ pair_text by_address n
  kind : (type_field n == by_as || type_field n == by_address) ≡ true

from_as : (by_as by_address v : ℕ) (front back : List ℕ) → by_as ≢ by_address →
    (v < 2 ^ 48) × (front ≡ number_text (v / 2 ^ 32 % 2 ^ 16)) × (back ≡ number_text (v % 2 ^ 32)) →
    IsPair by_as by_address (front ++ 58 ∷ back) (typed by_as v)
from_as by_as by_address v front back apart h =
    let t : type_field (typed by_as v) ≡ by_as = kind_of by_as v h.0 in
    record {
      text = as_typed by_as v front back h ∙ sym (pair_as (typed by_as v) by_address (λ e. apart (sym t ∙ e)));
      kind = grind (arith, nat_tests, t);
    }

from_address : (by_as by_address v : ℕ) (front back : List ℕ) →
    (v < 2 ^ 48) × (front ≡ address_text (v / 2 ^ 16 % 2 ^ 32)) × (back ≡ number_text (v % 2 ^ 16)) →
    IsPair by_as by_address (front ++ 58 ∷ back) (typed by_address v)
from_address by_as by_address v front back h =
    let t : type_field (typed by_address v) ≡ by_address = kind_of by_address v h.0 in
    record {
      text = addressed_typed by_address v front back h ∙ sym (pair_addressed (typed by_address v) by_address t);
      kind = grind (arith, nat_tests, t);
    }

either : (by_as by_address : ℕ) (front back : List ℕ) (n : ℕ) (o q : Option ℕ) → o ≡ as_pair front back → q ≡ address_pair front back → by_as ≢ by_address →
    or_else (option_map (typed by_as) o) (option_map (typed by_address) q) ≡ Some n → IsPair by_as by_address (front ++ 58 ∷ back) n
either by_as by_address front back n (Some v) q eo eq apart h =
    subst (IsPair by_as by_address (front ++ 58 ∷ back)) (same_Some _ _ h) (from_as by_as by_address v front back apart (as_only front back v (sym eo)))
either by_as by_address front back n None (Some v) eo eq apart h =
    subst (IsPair by_as by_address (front ++ 58 ∷ back)) (same_Some _ _ h) (from_address by_as by_address v front back (addressed_only front back v (sym eq)))
either by_as by_address front back n None None eo eq apart h = cc

pair_both : (by_as by_address : ℕ) (w : List ℕ) (n : ℕ) → by_as ≢ by_address → pair_of by_as by_address w ≡ Some n → IsPair by_as by_address w n
unfolding pair_of
pair_both by_as by_address w n apart h =
    let c = bind_parts _ (cut 58 w) n h in
    subst (λ v. IsPair by_as by_address v n) (sym (cut_only 58 w _ _ c.1)) (either by_as by_address c.0.0 c.0.1 n _ _ refl refl apart c.2)

pub pair_text_only : (by_as by_address : ℕ) (w : List ℕ) (n : ℕ) → by_as ≢ by_address → pair_of by_as by_address w ≡ Some n → w ≡ pair_text by_address n
pair_text_only by_as by_address w n apart h = (pair_both by_as by_address w n apart h).text

pub pair_kind_only : (by_as by_address : ℕ) (w : List ℕ) (n : ℕ) → by_as ≢ by_address → pair_of by_as by_address w ≡ Some n →
    (type_field n == by_as || type_field n == by_address) ≡ true
pair_kind_only by_as by_address w n apart h = (pair_both by_as by_address w n apart h).kind
