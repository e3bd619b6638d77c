-- The laws of reading.
use Rattle.std.proofs.Common.{◌≡◌, ◌≢◌, ◌==◌, ◌↔◌, ◌≤◌, ◌<◌, ◌-◌, ◌⊎◌, ℕ, zero, suc, Bool, true, false, cond, not, List, [], ◌∷◌, ◌++◌, length, take, drop}
use Rattle.std.proofs.Common.{Option, Result, Ok, Err, refl, ap, sym, ◌∙◌, subst, arith, inl, inr, append_assoc, length-append}
use Rattle.std.specs.Prelude.{nat_lt, option_to_list, ◌||◌}
use Rattle.std.proofs.lemmas.Bool.{ltb-true, ltb-false, lt-ltb, le-ltb, eqb-true, eqb-false, eq-eqb, ne_eqb, not-true, not-false, or_parts, or_cases}
use Rattle.std.proofs.lemmas.Bool.{or_left, or_right}
use Rattle.std.proofs.lemmas.List.{take_at, drop_at}
use Rattle.byteorder.specs.Endian.{big_number}
use Rattle.mn_ldp_wire.specs.declared.message.LdpId.{LdpId}
use Rattle.mn_ldp_wire.specs.declared.message.LdpMessage.{LdpMessage}
use Rattle.mn_ldp_wire.specs.declared.refusal.WireBad.{WireBad}
use Rattle.mn_ldp_wire.specs.declared.refusal.WireBad.TheVariants.{Short, BadVersion, BadPduLength}
use Rattle.mn_ldp_wire.specs.Message.{PduContents}
use Rattle.mn_ldp_wire.specs.Grammar.{IsBytes, AreSaid, IsPdu}
use Rattle.mn_ldp_wire.specs.Reading.{◌>>=◌, size_at, id_at, message_at, messages_of, pdu_of, cut_bad}
use Rattle.mn_ldp_wire.specs.Refused.{IsMessageRefused, IsRefused}
use Rattle.mn_base.proofs.Bytes.{IsBytes-drop}
use Rattle.mn_ldp_wire.proofs.InOrder.{with_front, message_shorter, messages_nil, messages_more, messages_bad}
use Rattle.mn_ldp_wire.proofs.Messages.{IsInFront, in_front, front_again}
use Rattle.mn_ldp_wire.proofs.Faults.{message_bad, message_again}
use Rattle.mn_ldp_wire.proofs.Pdus.{pdu_is, pdu_again, cut_refused}

pub read_is_pdu : (bytes : List ℕ) (from : LdpId) (messages : List LdpMessage) → IsBytes bytes →
    (pdu_of bytes ≡ Ok (record { from = from; messages = messages })) ↔ IsPdu bytes from messages
read_is_pdu bytes from messages h = (λ e. pdu_is bytes (record { from = from; messages = messages }) h e, λ p. pdu_again bytes from messages p)

-- ---- no PDU begins another

none_by_length : (more : List ℕ) (bytes : List ℕ) (pdu other : PduContents) → pdu_of bytes ≡ Ok pdu → pdu_of (bytes ++ more) ≡ Ok other → more ≡ []
none_by_length [] bytes pdu other e f = refl
none_by_length (m ∷ more) bytes pdu other e f = absurd (
    let cut = cut_refused (bytes ++ m ∷ more) other (length bytes) f (omega (arith, length-append bytes (m ∷ more))) in
    let front : take (length bytes) (bytes ++ m ∷ more) ≡ bytes = take_at bytes (m ∷ more) (length bytes) refl in
    let refused : pdu_of bytes ≡ Err (cut_bad (length bytes)) = ap pdu_of (sym front) ∙ cut in
    let both : Ok pdu ≡ Err (cut_bad (length bytes)) = sym e ∙ refused in
    cc
    )

pub none_begins_another : (bytes more : List ℕ) (pdu other : PduContents) → pdu_of bytes ≡ Ok pdu → pdu_of (bytes ++ more) ≡ Ok other → more ≡ []
none_begins_another bytes more pdu other e f = none_by_length more bytes pdu other e f

-- ---- the message that is refused

one_before : (bytes rest : List ℕ) (first : Option LdpMessage) (bad : WireBad) → IsInFront bytes first rest → IsMessageRefused rest bad →
    IsMessageRefused bytes bad
one_before bytes rest first bad f m = record {
  before = f.front ++ m.before;
  rest = m.rest;
  said = first ∷ m.said;
  whole = f.whole ∙ ap (λ (xs : List ℕ). f.front ++ xs) m.whole ∙ sym (append_assoc f.front m.before m.rest);
  are_said = (f.front, m.before, refl, f.is_said, m.are_said);
  some = m.some;
  refused = m.refused;
}

bad_behind : (front : List LdpMessage) (r : Result (List LdpMessage) WireBad) (bad : WireBad) → with_front front r ≡ Err bad → r ≡ Err bad
bad_behind front (Ok others) bad e = absurd cc
bad_behind front (Err other) bad e = cc

refused_by_first : (n : ℕ) (bytes : List ℕ) (bad : WireBad) (r : Result (Option LdpMessage × List ℕ) WireBad) → message_at bytes ≡ r → IsBytes bytes →
    0 < length bytes → length bytes ≤ suc n → messages_of bytes ≡ Err bad
    → ((rest : List ℕ) → IsBytes rest → length rest ≤ n → messages_of rest ≡ Err bad → IsMessageRefused rest bad) → IsMessageRefused bytes bad
refused_by_first n bytes bad (Err other) is h some most e again =
    let all : messages_of bytes ≡ Err other = messages_bad bytes other some is in
    let both : messages_of bytes ≡ Err bad = e in
    let same : other ≡ bad = cc in
    record {
      before = [];
      rest = bytes;
      said = [];
      whole = refl;
      are_said = refl;
      some = some;
      refused =
          message_bad bytes bad h (is ∙ ap (λ (x : WireBad). Err x) same);
    }
refused_by_first n bytes bad (Ok first) is h some most e again =
    let f = in_front bytes first.1 first.0 h is in
    let s = message_shorter bytes first.1 first.0 is in
    one_before bytes first.1 first.0 bad f
    (again first.1 f.rest_bytes (omega arith)
    (bad_behind (option_to_list first.0) (messages_of first.1) bad (sym (messages_more bytes first.1 first.0 is) ∙ e)))

refused_within : (n : ℕ) (bytes : List ℕ) (bad : WireBad) → IsBytes bytes → length bytes ≤ n → messages_of bytes ≡ Err bad → IsMessageRefused bytes bad
refused_within n [] bad h most e = absurd (let none = messages_nil [] refl in cc)
refused_within zero (b ∷ bs) bad h most e = absurd (omega arith)
refused_within (suc n) (b ∷ bs) bad h most e =
    refused_by_first n (b ∷ bs) bad (message_at (b ∷ bs)) refl h (omega arith) most e (λ rest. refused_within n rest bad)

refused_behind : (said : List (Option LdpMessage)) (before rest : List ℕ) (bad : WireBad) → AreSaid said before → 0 < length rest →
    message_at rest ≡ Err bad → messages_of (before ++ rest) ≡ Err bad
refused_behind [] before rest bad a some e = ap (λ (xs : List ℕ). messages_of (xs ++ rest)) a ∙ messages_bad rest bad some e
refused_behind (first ∷ said) before rest bad (front, others, whole, is_said, are_said) some e =
    ap (λ (xs : List ℕ). messages_of (xs ++ rest)) whole ∙ ap messages_of (append_assoc front others rest)
    ∙ messages_more (front ++ (others ++ rest)) (others ++ rest) first (front_again front (others ++ rest) first is_said)
    ∙ ap (with_front (option_to_list first)) (refused_behind said others rest bad are_said some e)

IsBytes-behind : (front rest : List ℕ) → IsBytes (front ++ rest) → IsBytes rest
IsBytes-behind front rest h = subst (λ (xs : List ℕ). IsBytes xs) (drop_at front rest (length front) refl) (IsBytes-drop (length front) (front ++ rest) h)

message_refused : (body : List ℕ) (bad : WireBad) → IsBytes body → IsMessageRefused body bad → messages_of body ≡ Err bad
message_refused body bad h m =
    let rest : IsBytes m.rest = IsBytes-behind m.before m.rest (subst (λ (xs : List ℕ). IsBytes xs) m.whole h) in
    ap messages_of m.whole ∙ refused_behind m.said m.before m.rest bad m.are_said m.some (message_again m.rest bad rest m.refused)

-- ---- the whole

abbrev packed : List ℕ → Result (List LdpMessage) WireBad → Result PduContents WireBad
packed bytes r = r >>= λ messages. Ok (record { from = id_at (drop 4 bytes); messages = messages })

abbrev failed : WireBad → Result PduContents WireBad
failed bad = Err bad

inside : (bytes : List ℕ) (bad : WireBad) (r : Result (List LdpMessage) WireBad) → packed bytes r ≡ failed bad → r ≡ Err bad
inside bytes bad (Ok messages) e = absurd cc
inside bytes bad (Err other) e = cc

bad_is : (x y : WireBad) → failed x ≡ failed y → y ≡ x
bad_is x y e = cc

refused_by_tests : (bytes : List ℕ) (bad : WireBad) (a b c : Bool) → IsBytes bytes → nat_lt (length bytes) 10 ≡ a → not (big_number 2 bytes == 1) ≡ b →
    (not (size_at bytes == length bytes - 4) || (length bytes == 10)) ≡ c
    → cond {A =
    Result PduContents WireBad} a (Err Short) (cond {A =
    Result PduContents WireBad} b (Err BadVersion) (cond {A =
    Result PduContents WireBad} c (Err BadPduLength) (packed bytes (messages_of (drop 10 bytes))))) ≡ failed bad
    → IsRefused bytes bad
refused_by_tests bytes bad true b c h ta tb tc e = inl (ltb-true _ _ ta, bad_is Short bad e)
refused_by_tests bytes bad false true c h ta tb tc e = inr (inl (ltb-false _ _ ta, eqb-false _ _ (not-true _ tb), bad_is BadVersion bad e))
refused_by_tests bytes bad false false true h ta tb tc e =
    inr (inr (inl (
      ltb-false _ _ ta,
      eqb-true _ _ (not-false _ tb),
      elim (or_cases (not (size_at bytes == length bytes - 4)) (length bytes == 10) tc) [
        | inl size ↦ inl (eqb-false _ _ (not-true _ size))
        | inr none ↦ inr
            (eqb-true _ _ none)
      ],
      bad_is BadPduLength bad e,
    )))
refused_by_tests bytes bad false false false h ta tb tc e =
    let l = or_parts _ _ tc in
    inr (inr (inr (
      record { long = ltb-false _ _ ta; version = eqb-true _ _ (not-false _ tb); size = eqb-true _ _ (not-false _ l.0); some = eqb-false _ _ l.1 },
      refused_within (length (drop 10 bytes)) (drop 10 bytes) bad (IsBytes-drop 10 bytes h) (omega arith) (inside bytes bad (messages_of (drop 10 bytes)) e),
    )))

refused_is : (bytes : List ℕ) (bad : WireBad) → IsBytes bytes → pdu_of bytes ≡ Err bad → IsRefused bytes bad
unfolding pdu_of
refused_is bytes bad h e =
    refused_by_tests bytes bad (nat_lt (length bytes) 10) (not (big_number 2 bytes == 1))
    (not (size_at bytes == length bytes - 4) || (length bytes == 10)) h refl refl refl e

length_wrong : (bytes : List ℕ) → (size_at bytes ≢ length bytes - 4) ⊎ (length bytes ≡ 10) →
    (not (size_at bytes == length bytes - 4) || (length bytes == 10)) ≡ true
length_wrong bytes (inl size) = or_left _ _ (ap not (ne_eqb _ _ size))
length_wrong bytes (inr none) = or_right _ _ (eq-eqb _ _ none)

refused_again : (bytes : List ℕ) (bad : WireBad) → IsBytes bytes → IsRefused bytes bad → pdu_of bytes ≡ Err bad
unfolding pdu_of
refused_again bytes bad h (inl short) = rw (lt-ltb _ _ short.0) (ap failed (sym short.1))
refused_again bytes bad h (inr (inl version)) = rw (le-ltb _ _ version.0, ne_eqb _ _ version.1) (ap failed (sym version.2))
refused_again bytes bad h (inr (inr (inl size))) = rw (le-ltb _ _ size.0, eq-eqb _ _ size.1, length_wrong bytes size.2) (ap failed (sym size.3))
refused_again bytes bad h (inr (inr (inr behind))) =
    let right = behind.0 in
    rw (le-ltb _ _ right.long, eq-eqb _ _ right.version, eq-eqb _ _ right.size, ne_eqb _ _ right.some)
    (ap (packed bytes) (message_refused (drop 10 bytes) bad (IsBytes-drop 10 bytes h) behind.1))

pub refused_where : (bytes : List ℕ) (bad : WireBad) → IsBytes bytes → (pdu_of bytes ≡ Err bad) ↔ IsRefused bytes bad
refused_where bytes bad h = (λ e. refused_is bytes bad h e, λ r. refused_again bytes bad h r)
