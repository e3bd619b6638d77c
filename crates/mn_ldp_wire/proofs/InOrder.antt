-- The messages of a PDU, one after another.
use Rattle.std.proofs.Common.{◌≡◌, ◌≢◌, ◌≤◌, ◌<◌, ℕ, zero, suc, Bool, true, false, cond, List, [], ◌∷◌, ◌++◌, length, Option, Some, None, Result, Ok, Err}
use Rattle.std.proofs.Common.{refl, ap, sym, ◌∙◌, arith, append_assoc, is_ok}
use Rattle.std.specs.Prelude.{nat_lt, option_to_list, OnOk}
use Rattle.std.proofs.lemmas.List.{append-nil}
use Rattle.std.proofs.lemmas.Bool.{ltb-false}
use Rattle.mn_ldp_wire.specs.declared.message.LdpMessage.{LdpMessage}
use Rattle.mn_ldp_wire.specs.declared.refusal.WireBad.{WireBad}
use Rattle.mn_ldp_wire.specs.declared.refusal.WireBad.TheVariants.{BadMessageLength, NoMemory}
use Rattle.mn_ldp_wire.specs.Reading.{◌>>=◌, Front, front_of, said_of, message_in, message_at, messages_from, messages_of}
use Rattle.mn_ldp_wire.proofs.Loops.{front_shorter, not_empty}

-- the value of a step that did not fail
pub bind_ok : {A B : Type 0} (r : Result A WireBad) (f : A → Result B WireBad) (y : B) → (r >>= f) ≡ Ok y → (x : A) × (r ≡ Ok x) × (f x ≡ Ok y)
bind_ok (Ok x) f y e = (x, refl, e)
bind_ok (Err bad) f y e = absurd cc

-- ---- a message at the front

pub record IsAt (bytes : List ℕ) (said : Option LdpMessage) (rest : List ℕ) : Type 0 where
  pub front : Front
  pub is_front : front_of bytes ≡ Some front
  pub long : 4 ≤ length front.value
  pub says : said_of front.kind front.value ≡ Ok said
  pub rest_is : front.rest ≡ rest

of_front : (bytes rest : List ℕ) (said : Option LdpMessage) (front : Front) (short : Bool) →
    (nat_lt (length front.value) 4) ≡ short → front_of bytes ≡ Some front
    → cond {A =
    Result (Option LdpMessage × List ℕ) WireBad} short (Err BadMessageLength) (said_of front.kind front.value >>= λ said. Ok (said, front.rest)) ≡ Ok
    (said, rest) → IsAt bytes said rest
of_front bytes rest said front true short e is = absurd cc
of_front bytes rest said front false short e is =
    let b = bind_ok (said_of front.kind front.value) (λ said. Ok (said, front.rest)) (said, rest) is in
    let pair : (b.0, front.rest) ≡ (said, rest) = cc in
    record {
      front = front;
      is_front = e;
      long = ltb-false (length front.value) 4 short;
      says = b.1 ∙ ap (λ (x : Option LdpMessage × List ℕ). Ok x.0) pair;
      rest_is = ap (λ (x : Option LdpMessage × List ℕ). x.1) pair;
    }

of_some : (bytes rest : List ℕ) (said : Option LdpMessage) (o : Option Front) → front_of bytes ≡ o → message_in o ≡ Ok (said, rest) → IsAt bytes said rest
of_some bytes rest said None e is = absurd cc
of_some bytes rest said (Some front) e is = of_front bytes rest said front (nat_lt (length front.value) 4) refl e is

pub is_at : (bytes rest : List ℕ) (said : Option LdpMessage) → message_at bytes ≡ Ok (said, rest) → IsAt bytes said rest
unfolding message_at
is_at bytes rest said e = of_some bytes rest said (front_of bytes) refl e

pub message_shorter : (bytes rest : List ℕ) (said : Option LdpMessage) → message_at bytes ≡ Ok (said, rest) → length rest < length bytes
message_shorter bytes rest said e =
    let a = is_at bytes rest said e in
    let s = front_shorter bytes a.front a.is_front in
    let same : length a.front.rest ≡ length rest = ap length a.rest_is in
    omega arith

-- ---- messages, and those that were read before

abbrev pub with_front : List LdpMessage → Result (List LdpMessage) WireBad → Result (List LdpMessage) WireBad
with_front front reading = reading >>= λ others. Ok (front ++ others)

from_some : (n : ℕ) (bytes rest : List ℕ) (said : Option LdpMessage) → 0 < length bytes → message_at bytes ≡ Ok (said, rest) →
    messages_from (suc n) bytes ≡ with_front (option_to_list said) (messages_from n rest)
unfolding messages_from
from_some n bytes rest said some e = rw (not_empty bytes some, e) refl

from_bad : (n : ℕ) (bytes : List ℕ) (bad : WireBad) → 0 < length bytes → message_at bytes ≡ Err bad → messages_from (suc n) bytes ≡ Err bad
unfolding messages_from
from_bad n bytes bad some e = rw (not_empty bytes some, e) refl

from_nil : (n : ℕ) → messages_from n [] ≡ Ok []
unfolding messages_from
from_nil zero = refl
from_nil (suc n) = refl

from_same : (n m : ℕ) (bytes : List ℕ) (r : Result (Option LdpMessage × List ℕ) WireBad) → 0 < length bytes → message_at bytes ≡ r → length bytes ≤ suc n →
    length bytes ≤ suc m
    → ((rest : List ℕ) → length rest ≤ n → length rest ≤ m → messages_from n rest ≡ messages_from m rest) →
    messages_from (suc n) bytes ≡ messages_from (suc m) bytes
from_same n m bytes (Err bad) some e hn hm again = from_bad n bytes bad some e ∙ sym (from_bad m bytes bad some e)
from_same n m bytes (Ok x) some e hn hm again =
    let s = message_shorter bytes x.1 x.0 e in
    from_some n bytes x.1 x.0 some e
    ∙ ap (λ (r : Result (List LdpMessage) WireBad). with_front (option_to_list x.0) r) (again x.1 (omega arith) (omega arith))
    ∙ sym (from_some m bytes x.1 x.0 some e)

from_enough : (n m : ℕ) (bytes : List ℕ) → length bytes ≤ n → length bytes ≤ m → messages_from n bytes ≡ messages_from m bytes
from_enough n m [] hn hm = from_nil n ∙ sym (from_nil m)
from_enough zero m (b ∷ bs) hn hm = absurd (omega arith)
from_enough (suc n) zero (b ∷ bs) hn hm = absurd (omega arith)
from_enough (suc n) (suc m) (b ∷ bs) hn hm = from_same n m (b ∷ bs) (message_at (b ∷ bs)) (omega arith) refl hn hm (λ rest. from_enough n m rest)

pub messages_nil : (bytes : List ℕ) → length bytes ≡ 0 → messages_of bytes ≡ Ok []
unfolding messages_of
messages_nil [] h = from_nil 0
messages_nil (b ∷ bs) h = absurd (omega arith)

pub messages_more : (bytes rest : List ℕ) (said : Option LdpMessage) → message_at bytes ≡ Ok (said, rest) →
    messages_of bytes ≡ with_front (option_to_list said) (messages_of rest)
unfolding messages_of
messages_more [] rest said e = (let s = message_shorter [] rest said e in absurd (omega arith))
messages_more (b ∷ bs) rest said e =
    let s = message_shorter (b ∷ bs) rest said e in
    from_some (length bs) (b ∷ bs) rest said (omega arith) e
    ∙ ap (λ (r : Result (List LdpMessage) WireBad). with_front (option_to_list said) r) (from_enough (length bs) (length rest) rest (omega arith) (omega arith))

pub messages_bad : (bytes : List ℕ) (bad : WireBad) → 0 < length bytes → message_at bytes ≡ Err bad → messages_of bytes ≡ Err bad
unfolding messages_of
messages_bad [] bad h e = absurd (omega arith)
messages_bad (b ∷ bs) bad h e = from_bad (length bs) (b ∷ bs) bad (omega arith) e

-- ---- as the loop goes

front_joined : (a b : List LdpMessage) (r : Result (List LdpMessage) WireBad) → with_front a (with_front b r) ≡ with_front (a ++ b) r
front_joined a b (Ok others) = ap (λ (xs : List LdpMessage). Ok xs) (sym (append_assoc a b others))
front_joined a b (Err bad) = refl

pub front_more : (done new : List LdpMessage) (bytes rest : List ℕ) (said : Option LdpMessage) (all : Result (List LdpMessage) WireBad)
    → message_at bytes ≡ Ok (said, rest) → new ≡ done ++ option_to_list said → with_front done (messages_of bytes) ≡ all →
    with_front new (messages_of rest) ≡ all
front_more done new bytes rest said all e pushed so_far =
    ap (λ (xs : List LdpMessage). with_front xs (messages_of rest)) pushed ∙ sym (front_joined done (option_to_list said) (messages_of rest))
    ∙ ap (λ (r : Result (List LdpMessage) WireBad). with_front done r) (sym (messages_more bytes rest said e)) ∙ so_far

pub front_bad : (done : List LdpMessage) (bytes : List ℕ) (bad : WireBad) (all : Result (List LdpMessage) WireBad)
    → 0 < length bytes → (bad ≢ NoMemory → message_at bytes ≡ Err bad) → with_front done (messages_of bytes) ≡ all → bad ≢ NoMemory → all ≡ Err bad
front_bad done bytes bad all some e so_far other =
    sym so_far ∙ ap (λ (r : Result (List LdpMessage) WireBad). with_front done r) (messages_bad bytes bad some (e other))

pub front_done : (done : List LdpMessage) (bytes : List ℕ) (all : Result (List LdpMessage) WireBad) → length bytes ≡ 0 →
    with_front done (messages_of bytes) ≡ all → all ≡ Ok done
front_done done bytes all none so_far =
    sym so_far ∙ ap (λ (r : Result (List LdpMessage) WireBad). with_front done r) (messages_nil bytes none)
    ∙ ap (λ (xs : List LdpMessage). Ok xs) (append-nil done)

pub held_ok : {T E P : Type 0} (r : Result T E) → is_ok r ≡ true → OnOk r P → P
held_ok (Ok x) is h = h
held_ok (Err e) is h = absurd cc

pub not_zero : (n : ℕ) → (n ≡ 0 → ⊥) → 0 < n
not_zero zero h = absurd (h refl)
not_zero (suc n) h = omega arith
