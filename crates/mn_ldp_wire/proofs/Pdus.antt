-- PDUs: what is read is spelled so, and what is spelled so is read.
use Rattle.std.proofs.Common.{◌≡◌, ◌==◌, ◌≤◌, ◌<◌, ◌+◌, ◌-◌, ◌^◌, ℕ, Bool, true, false, cond, not, List, [], ◌∷◌, ◌++◌, length, take, drop, Option, Some}
use Rattle.std.proofs.Common.{None, Result, Ok, Err, refl, ap, sym, ◌∙◌, subst, arith, inl, length-drop, length-take, if◌then◌else◌}
use Rattle.std.specs.Prelude.{nat_lt, ◌||◌, IfOk, All}
use Rattle.std.specs.List.{filter_map, AllByRecursion}
use Rattle.std.proofs.lemmas.List.Elements.{All-from_recursion}
use Rattle.std.proofs.lemmas.Bool.{ltb-false, ltb-true, lt-ltb, le-ltb, eqb-true, eqb-false, eq-eqb, ne_eqb, not-false, or_parts}
use Rattle.std.proofs.lemmas.List.{drop-drop, drop-take, append-nil}
use Rattle.byteorder.specs.Endian.{big_bytes, big_number}
use Rattle.byteorder.specs.Numbers.{big_from-take}
use Rattle.mn_ldp_wire.specs.declared.message.LdpId.{LdpId}
use Rattle.mn_ldp_wire.specs.declared.message.LdpMessage.{LdpMessage}
use Rattle.mn_ldp_wire.specs.declared.refusal.WireBad.{WireBad}
use Rattle.mn_ldp_wire.specs.declared.refusal.WireBad.TheVariants.{Short, BadVersion, BadPduLength}
use Rattle.mn_ldp_wire.specs.Message.{PduContents}
use Rattle.mn_ldp_wire.specs.Grammar.{IsBytes, FitsId, ldp_id, framed, type_of, mandatory_tlvs, IsLawful, IsMessage, AreSaid, IsPdu, written, written_message}
use Rattle.mn_ldp_wire.specs.Reading.{◌>>=◌, size_at, id_at, messages_of, pdu_of, cut_bad, Answers}
use Rattle.mn_base.proofs.Bytes.{IsBytes-drop}
use Rattle.mn_ldp_wire.proofs.Bytes.{two_again, two_fits, two_back}
use Rattle.mn_ldp_wire.proofs.Values.{id_is, id_again}
use Rattle.mn_ldp_wire.proofs.InOrder.{bind_ok}
use Rattle.mn_ldp_wire.proofs.Messages.{messages_are_read, messages_again, front_some, type_small}
use Rattle.mn_ldp_wire.proofs.Written.{length-framed}

-- the tests of a header that passes, and what is behind it
record Passes (bytes : List ℕ) (pdu : PduContents) : Type 0 where
  pub long : 10 ≤ length bytes
  pub version : big_number 2 bytes ≡ 1
  pub size : size_at bytes ≡ length bytes - 4
  pub some : length bytes ≡ 10 → ⊥
  pub read : (messages_of (drop 10 bytes) >>= λ messages. Ok (record { from = id_at (drop 4 bytes); messages = messages })) ≡ Ok pdu

by_tests : (bytes : List ℕ) (pdu : PduContents) (r : Result PduContents WireBad) (a b c : Bool)
    → cond {A =
    Result PduContents WireBad} a (Err Short) (cond {A =
    Result PduContents WireBad} b (Err BadVersion) (cond {A = Result PduContents WireBad} c (Err BadPduLength) r)) ≡ Ok pdu
    → (a ≡ false) × (b ≡ false) × (c ≡ false) × (r ≡ Ok pdu)
by_tests bytes pdu r true b c e = absurd cc
by_tests bytes pdu r false true c e = absurd cc
by_tests bytes pdu r false false true e = absurd cc
by_tests bytes pdu r false false false e = (refl, refl, refl, e)

passes : (bytes : List ℕ) (pdu : PduContents) → pdu_of bytes ≡ Ok pdu → Passes bytes pdu
unfolding pdu_of
passes bytes pdu e =
    let t = by_tests bytes pdu (messages_of (drop 10 bytes) >>= λ messages. Ok (record { from = id_at (drop 4 bytes); messages = messages }))
    (nat_lt (length bytes) 10) (not (big_number 2 bytes == 1)) (not (size_at bytes == length bytes - 4) || (length bytes == 10)) e in
    let l = or_parts _ _ t.2 in
    record {
      long = ltb-false _ _ t.0;
      version = eqb-true _ _ (not-false _ t.1);
      size = eqb-true _ _ (not-false _ l.0);
      some = eqb-false _ _ l.1;
      read = t.3;
    }

-- a PDU is its header and what is behind it
header_whole : (bytes : List ℕ) → IsBytes bytes → 10 ≤ length bytes → big_number 2 bytes ≡ 1 → size_at bytes ≡ 6 + length (drop 10 bytes)
    → bytes ≡ big_bytes 2 1 ++ (big_bytes 2 (6 + length (drop 10 bytes)) ++ (ldp_id (id_at (drop 4 bytes)) ++ drop 10 bytes))
header_whole bytes h long version size =
    let id = id_is (drop 4 bytes) (IsBytes-drop 4 bytes h) (omega (arith, length-drop 4 bytes)) in
    let e4 : drop 2 (drop 2 bytes) ≡ ldp_id (id_at (drop 4 bytes)) ++ drop 10 bytes =
    drop-drop 2 2 bytes ∙ id.0 ∙ ap (λ (xs : List ℕ). ldp_id (id_at (drop 4 bytes)) ++ xs) (drop-drop 6 4 bytes) in
    let e2 : drop 2 bytes ≡ big_bytes 2 (size_at bytes) ++ (ldp_id (id_at (drop 4 bytes)) ++ drop 10 bytes) =
    two_again (drop 2 bytes) (IsBytes-drop 2 bytes h) (omega (arith, length-drop 2 bytes)) ∙ ap (λ (xs : List ℕ). big_bytes 2 (size_at bytes) ++ xs) e4 in
    two_again bytes h (omega arith)
    ∙ ap (λ (n : ℕ). big_bytes 2 n ++ drop 2 bytes) version
    ∙ ap (λ (xs : List ℕ). big_bytes 2 1 ++ xs) e2
    ∙ ap (λ (n : ℕ). big_bytes 2 1 ++ (big_bytes 2 n ++ (ldp_id (id_at (drop 4 bytes)) ++ drop 10 bytes))) size

some_said : (said : List (Option LdpMessage)) (body : List ℕ) → AreSaid said body → 0 < length body → 0 < length said
some_said [] body a h = (let none = ap length a in absurd (omega arith))
some_said (first ∷ said) body a h = omega arith

pub pdu_is : (bytes : List ℕ) (pdu : PduContents) → IsBytes bytes → pdu_of bytes ≡ Ok pdu → IsPdu bytes pdu.from pdu.messages
pdu_is bytes pdu h e =
    let p = passes bytes pdu e in
    let long = p.long in
    let b = bind_ok (messages_of (drop 10 bytes)) (λ messages. Ok (record { from = id_at (drop 4 bytes); messages = messages })) pdu p.read in
    let packed : record { from = id_at (drop 4 bytes); messages = b.0 } ≡ pdu = cc in
    let r = messages_are_read (drop 10 bytes) b.0 (IsBytes-drop 10 bytes h) b.1 in
    let size : size_at bytes ≡ 6 + length (drop 10 bytes) = p.size ∙ omega (arith, length-drop 10 bytes) in
    let id = id_is (drop 4 bytes) (IsBytes-drop 4 bytes h) (omega (arith, length-drop 4 bytes)) in
    let more : 0 < length (drop 10 bytes) = (let other = p.some in omega (arith, length-drop 10 bytes)) in
    subst (λ (x : PduContents). IsPdu bytes x.from x.messages) packed (record {
      body = drop 10 bytes;
      said = r.said;
      id_fits = id.1;
      some = some_said r.said (drop 10 bytes) r.are_said more;
      are_said = r.are_said;
      messages_are = r.messages_are;
      size_fits = omega (arith, size, two_fits (drop 2 bytes) (IsBytes-drop 2 bytes h));
      whole = header_whole bytes h long p.version size;
    })

pub more_body : (said : List (Option LdpMessage)) (body : List ℕ) → AreSaid said body → 0 < length said → 0 < length body
more_body [] body a h = absurd (omega arith)
more_body (first ∷ said) body (front, rest, whole, is_said, others) h = (let s = front_some front rest first is_said in let l = ap length whole in omega arith)

pub header_again : (body : List ℕ) (from : LdpId) → FitsId from → 6 + length body < 2 ^ 16 → 0 < length body
    → pdu_of (big_bytes 2 1 ++ (big_bytes 2 (6 + length body) ++ (ldp_id from ++ body))) ≡
    (messages_of body >>= λ messages. Ok (record { from = from; messages = messages }))
unfolding pdu_of
header_again body from fits size more =
    let bytes : List ℕ = big_bytes 2 1 ++ (big_bytes 2 (6 + length body) ++ (ldp_id from ++ body)) in
    let size_is : size_at bytes ≡ 6 + length body = two_back (6 + length body) (ldp_id from ++ body) size in
    let a : nat_lt (length bytes) 10 ≡ false = le-ltb _ _ (omega arith) in
    let b : (size_at bytes == length bytes - 4) ≡ true = eq-eqb _ _ (size_is ∙ omega arith) in
    let c : (length bytes == 10) ≡ false = ne_eqb _ _ (omega arith) in
    let id : id_at (drop 4 bytes) ≡ from = id_again from body fits in
    rw (a, b, c, id) refl

pub pdu_again : (bytes : List ℕ) (from : LdpId) (messages : List LdpMessage) → IsPdu bytes from messages →
    pdu_of bytes ≡ Ok (record { from = from; messages = messages })
pdu_again bytes from messages p =
    ap pdu_of p.whole ∙ header_again p.body from p.id_fits p.size_fits (more_body p.said p.body p.are_said p.some)
    ∙ ap (λ (r : Result (List LdpMessage) WireBad). r >>= λ messages. Ok (record { from = from; messages = messages }))
    (messages_again p.said p.body p.are_said)
    ∙ ap (λ (xs : List LdpMessage). Ok (record { from = from; messages = xs })) (sym p.messages_are)

-- ---- a PDU that is cut

-- the numbers of a header are the same in its front
front_two : (k : ℕ) (bytes : List ℕ) → 10 ≤ k → big_number 2 (take k bytes) ≡ big_number 2 bytes
front_two k bytes h = big_from-take 0 2 k bytes (omega arith)

front_size : (k : ℕ) (bytes : List ℕ) → 10 ≤ k → size_at (take k bytes) ≡ size_at bytes
front_size k bytes h =
    let split : k ≡ 2 + (k - 2) = omega arith in
    ap (λ (n : ℕ). big_number 2 (drop 2 (take n bytes))) split
    ∙ ap (λ (xs : List ℕ). big_number 2 xs) (drop-take 2 (k - 2) bytes)
    ∙ big_from-take 0 2 (k - 2) (drop 2 bytes) (omega arith)

cut_short : (bytes : List ℕ) → length bytes < 10 → pdu_of bytes ≡ Err Short
unfolding pdu_of
cut_short bytes h = rw (lt-ltb _ _ h) refl

cut_long : (bytes : List ℕ) → 10 ≤ length bytes → big_number 2 bytes ≡ 1 → (size_at bytes ≡ length bytes - 4 → ⊥) → pdu_of bytes ≡ Err BadPduLength
unfolding pdu_of
cut_long bytes long version size = rw (le-ltb _ _ long, eq-eqb _ _ version, ne_eqb _ _ size) refl

cut_by_length : (bytes : List ℕ) (pdu : PduContents) (k : ℕ) (short : Bool) → Passes bytes pdu → k < length bytes → nat_lt k 10 ≡ short →
    pdu_of (take k bytes) ≡ Err (if short then Short else BadPduLength)
cut_by_length bytes pdu k true p h test = cut_short (take k bytes) (omega (arith, length-take k bytes, ltb-true k 10 test))
cut_by_length bytes pdu k false p h test =
    let long : 10 ≤ k = ltb-false k 10 test in
    let size = p.size in
    let all = p.long in
    let same = front_size k bytes long in
    cut_long (take k bytes) (omega (arith, length-take k bytes)) (front_two k bytes long ∙ p.version) (λ e. omega (arith, length-take k bytes, e))

pub cut_refused : (bytes : List ℕ) (pdu : PduContents) (k : ℕ) → pdu_of bytes ≡ Ok pdu → k < length bytes → pdu_of (take k bytes) ≡ Err (cut_bad k)
cut_refused bytes pdu k e h = cut_by_length bytes pdu k (nat_lt k 10) (passes bytes pdu e) h refl

-- ---- the written spelling

written_message_is : (message : LdpMessage) → message.id < 2 ^ 32 → IsLawful message.body → length (mandatory_tlvs message.body) ≤ 4006 →
    IsMessage message (written_message message)
unfolding written_message
written_message_is message id lawful small =
    let none : mandatory_tlvs message.body ++ [] ≡ mandatory_tlvs message.body = append-nil (mandatory_tlvs message.body) in
    let kind : 0 + type_of message.body ≡ type_of message.body = omega arith in
    let low = type_small message.body in
    record {
      u = 0;
      further = [];
      tlvs = [];
      u_is = inl refl;
      id_fits = id;
      lawful = lawful;
      passed_over = refl;
      fits = record { kind_fits = omega arith; size_fits = omega (arith, ap length none) };
      whole = ap (λ (xs : List ℕ). framed (type_of message.body) (big_bytes 4 message.id ++ xs)) (sym none)
          ∙ ap (λ (k : ℕ). framed k (big_bytes 4 message.id ++ (mandatory_tlvs message.body ++ []))) (sym kind);
    }

pub written_is : (from : LdpId) (message : LdpMessage) → FitsId from → message.id < 2 ^ 32 → IsLawful message.body →
    length (mandatory_tlvs message.body) ≤ 4006 → IsPdu (written from message) from (message ∷ [])
unfolding written written_message
written_is from message fits id lawful small = record {
  body = written_message message;
  said = Some message ∷ [];
  id_fits = fits;
  some = omega arith;
  are_said = (written_message message, [], sym (append-nil (written_message message)), written_message_is message id lawful small, refl);
  messages_are = refl;
  size_fits = omega (arith, length-framed (type_of message.body) (big_bytes 4 message.id ++ mandatory_tlvs message.body));
  whole = refl;
}

-- ---- as the calls answer

pub accepted : (bytes : List ℕ) (answer : Result PduContents WireBad) → IsBytes bytes → Answers (λ pdu. pdu) answer (pdu_of bytes) →
    IfOk answer (λ pdu. IsPdu bytes pdu.from pdu.messages)
accepted bytes (Ok pdu) h a = pdu_is bytes pdu h a
accepted bytes (Err bad) h a = tt

pub answered : (bytes : List ℕ) (answer : Result PduContents WireBad) (from : LdpId) (messages : List LdpMessage) →
    Answers (λ pdu. pdu) answer (pdu_of bytes) → IsPdu bytes from messages
    → Answers (λ pdu. pdu) answer (Ok (record { from = from; messages = messages }))
answered bytes answer from messages a p = subst (λ (r : Result PduContents WireBad). Answers (λ pdu. pdu) answer r) (pdu_again bytes from messages p) a

-- each message that is read is lawful
all_lawful : (said : List (Option LdpMessage)) (body : List ℕ) → AreSaid said body →
    AllByRecursion (λ (message : LdpMessage). IsLawful message.body) (filter_map (λ known. known) said)
all_lawful [] body a = tt
all_lawful (None ∷ said) body (front, rest, whole, is_said, others) = all_lawful said rest others
all_lawful (Some message ∷ said) body (front, rest, whole, is_said, others) = (is_said.lawful, all_lawful said rest others)

lawful_in : (bytes : List ℕ) (from : LdpId) (messages : List LdpMessage) → IsPdu bytes from messages →
    All (λ (message : LdpMessage). IsLawful message.body) messages
lawful_in bytes from messages p =
    All-from_recursion (λ (message : LdpMessage). IsLawful message.body) messages
    (subst (λ (ms : List LdpMessage). AllByRecursion (λ (message : LdpMessage). IsLawful message.body) ms) (sym p.messages_are)
    (all_lawful p.said p.body p.are_said))

pub accepted_lawful : (bytes : List ℕ) (answer : Result PduContents WireBad) → IsBytes bytes → Answers (λ pdu. pdu) answer (pdu_of bytes) →
    IfOk answer (λ pdu. All (λ (message : LdpMessage). IsLawful message.body) pdu.messages)
accepted_lawful bytes (Ok pdu) h a = lawful_in bytes pdu.from pdu.messages (pdu_is bytes pdu h a)
accepted_lawful bytes (Err bad) h a = tt
