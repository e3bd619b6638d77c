-- A message, as it is read and as it is spelled.
use Rattle.std.proofs.Common.{◌≡◌, ◌≤◌, ◌<◌, ◌+◌, ◌^◌, ◌==◌, ℕ, Bool, true, false, cond, List, [], ◌∷◌, length, take, Result, Ok, Err, refl, ap, sym, ◌∙◌}
use Rattle.std.proofs.Common.{subst, arith}
use Rattle.std.specs.Prelude.{slice_index, IfOk}
use Rattle.std.proofs.lemmas.Bool.{eqb-true}
use Rattle.std.proofs.lemmas.Bool.Decides.{nat_tests}
use Rattle.mn_vpn_nlri.specs.Reading.{IsBytes}
use Rattle.mn_base.proofs.Bytes.{IsBytes-drop}
use Rattle.mn_bgp_wire.specs.Says.{Says}
use Rattle.mn_bgp_wire.specs.Grammar.{message_bytes, kind_of, IsBody, IsBgp, open_kind, update_kind, PathAttribute, HasAllWanted, AreAttributes, IsOpen}
use Rattle.mn_bgp_wire.specs.Reading.{after, allows, is_kind, header_of, body_of, open_of, update_of, update_said, body_says, message_of, Answers, Fails}
use Rattle.mn_bgp_wire.specs.declared.message.BgpMessage.{BgpMessage}
use Rattle.mn_bgp_wire.specs.declared.message.BgpMessage.TheVariants as messages
use Rattle.mn_bgp_wire.specs.declared.refusal.BgpWireBad.{BgpWireBad}
use Rattle.mn_bgp_wire.specs.declared.refusal.BgpWireBad.TheVariants.{Short, BadLength, BadOpen, BadAttribute, MissingAttribute}
use Rattle.mn_bgp_wire.proofs.Results.{done, done_is, after_ok}
use Rattle.mn_bgp_wire.proofs.Opened.{open_again, open_takes, open_refused}
use Rattle.mn_bgp_wire.proofs.Updated.{update_again, update_take, update_misses, update_is_bad}
use Rattle.mn_bgp_wire.proofs.Headed.{header_again, header_take, short_front, long_front}

-- What is spelled so is read.

known_of : (message : BgpMessage) → is_kind (kind_of message) ≡ true
known_of (messages.Opening version asn hold id vpn) = refl
known_of (messages.Update says) = refl
known_of (messages.Notification code subcode) = refl
known_of messages.KeepAlive = refl

allowed_of : (message : BgpMessage) (body : List ℕ) → IsBody body message → allows (kind_of message) (19 + length body) ≡ true
unfolding allows
allowed_of (messages.Opening version asn hold id vpn) body is = let len = ap length is.whole in grind (arith, nat_tests)
allowed_of (messages.Update says) body is = let len = ap length is.are_attributes.whole in grind (arith, nat_tests)
allowed_of (messages.Notification code subcode) body is = let len = ap length is.1 in grind (arith, nat_tests)
allowed_of messages.KeepAlive body is = let len = ap length is in grind (arith, nat_tests)

says_of_body : (message : BgpMessage) (body : List ℕ) → length body < 2 ^ 16 → IsBody body message → body_says (kind_of message) body ≡ Ok message
says_of_body (messages.Opening version asn hold id vpn) body short is = open_again body version asn hold id vpn is
says_of_body (messages.Update says) body short is = ap (λ (r : Result Says BgpWireBad). after r (λ s. Ok (messages.Update s))) (update_again body says short is)
says_of_body (messages.Notification code subcode) body short is = ap (λ (b : List ℕ). done (messages.Notification (slice_index b 0) (slice_index b 1))) is.1
says_of_body messages.KeepAlive body short is = refl

read_by : (bytes : List ℕ) (kind : ℕ) (message : BgpMessage) → header_of bytes ≡ Ok kind → body_says kind (body_of bytes) ≡ Ok message →
    message_of bytes ≡ Ok message
unfolding message_of
read_by bytes kind message head body = ap (λ (r : Result ℕ BgpWireBad). after r (λ k. body_says k (body_of bytes))) head ∙ body

-- the size of a message is that of its header and its body
pub size_of : (kind : ℕ) (body : List ℕ) → length (message_bytes kind body) ≡ 19 + length body
size_of kind body = omega arith

pub message_is_read : (bytes : List ℕ) (message : BgpMessage) → IsBgp bytes message → message_of bytes ≡ Ok message
message_is_read bytes message is =
    let within = is.within in
    let size : length bytes ≡ 19 + length is.body = ap length is.whole ∙ size_of (kind_of message) is.body in
    let head = header_again (kind_of message) is.body (known_of message) (allowed_of message is.body is.is_body) (omega arith) in
    ap message_of is.whole ∙ read_by (message_bytes (kind_of message) is.body) (kind_of message) message head
    (says_of_body message is.body (omega arith) is.is_body)

pub one_message : (bytes : List ℕ) (message other : BgpMessage) → IsBgp bytes message → IsBgp bytes other → message ≡ other
one_message bytes message other is also = done_is message other (sym (message_is_read bytes message is) ∙ message_is_read bytes other also)

-- What is read is spelled so.

open_allowed : (size : ℕ) → allows 1 size ≡ true → 29 ≤ size
unfolding allows
open_allowed size h = grind (arith, nat_tests)

update_allowed : (size : ℕ) → allows 2 size ≡ true → 23 ≤ size
unfolding allows
update_allowed size h = grind (arith, nat_tests)

notification_allowed : (size : ℕ) → allows 3 size ≡ true → 21 ≤ size
unfolding allows
notification_allowed size h = grind (arith, nat_tests)

keepalive_allowed : (size : ℕ) → allows 4 size ≡ true → size ≡ 19
unfolding allows
keepalive_allowed size h = grind (arith, nat_tests)

last_kind : (kind : ℕ) → is_kind kind ≡ true → (kind == 1) ≡ false → (kind == 2) ≡ false → (kind == 3) ≡ false → kind ≡ 4
last_kind kind known p q r = grind (arith, nat_tests)

notification_body : (body : List ℕ) → 2 ≤ length body → (more : List ℕ) × (body ≡ slice_index body 0 ∷ slice_index body 1 ∷ more)
notification_body (a ∷ b ∷ more) h = (more, refl)
notification_body _ h = absurd (omega arith)

empty_body : (body : List ℕ) → length body ≡ 0 → body ≡ []
empty_body [] h = refl
empty_body (b ∷ bs) h = absurd (omega arith)

abbrev BodyOf : ℕ → List ℕ → BgpMessage → Type 0
BodyOf kind body message = (kind_of message ≡ kind) × IsBody body message

body_by : (p q r : Bool) (kind : ℕ) (body : List ℕ) (message : BgpMessage) → IsBytes body → is_kind kind ≡ true → allows kind (19 + length body) ≡ true →
    (kind == 1) ≡ p → (kind == 2) ≡ q → (kind == 3) ≡ r
    → cond p (open_of body)
    (cond q (update_said body) (cond r (Ok (messages.Notification (slice_index body 0) (slice_index body 1))) (Ok messages.KeepAlive))) ≡ Ok message →
    BodyOf kind body message
body_by true q r kind body message fits known allowed is1 is2 is3 e =
    let same : kind ≡ 1 = eqb-true kind 1 is1 in
    let long = open_allowed (19 + length body) (subst (λ (k : ℕ). allows k (19 + length body) ≡ true) same allowed) in
    let o = open_takes body message fits (omega arith) e in
    (o.0 ∙ sym same, o.1)
body_by false true r kind body message fits known allowed is1 is2 is3 e =
    let same : kind ≡ 2 = eqb-true kind 2 is2 in
    let long = update_allowed (19 + length body) (subst (λ (k : ℕ). allows k (19 + length body) ≡ true) same allowed) in
    let a = after_ok (update_of body) (λ says. done (messages.Update says)) message e in
    subst (λ (m : BgpMessage). BodyOf kind body m) (done_is (messages.Update a.0) message a.2) (sym same, update_take body a.0 fits (omega arith) a.1)
body_by false false true kind body message fits known allowed is1 is2 is3 e =
    let same : kind ≡ 3 = eqb-true kind 3 is3 in
    let long = notification_allowed (19 + length body) (subst (λ (k : ℕ). allows k (19 + length body) ≡ true) same allowed) in
    subst (λ (m : BgpMessage). BodyOf kind body m) (done_is (messages.Notification (slice_index body 0) (slice_index body 1)) message e)
    (sym same, notification_body body (omega arith))
body_by false false false kind body message fits known allowed is1 is2 is3 e =
    let same : kind ≡ 4 = last_kind kind known is1 is2 is3 in
    let size = keepalive_allowed (19 + length body) (subst (λ (k : ℕ). allows k (19 + length body) ≡ true) same allowed) in
    subst (λ (m : BgpMessage). BodyOf kind body m) (done_is messages.KeepAlive message e) (sym same, empty_body body (omega arith))

pub read_is_message : (bytes : List ℕ) (message : BgpMessage) → IsBytes bytes → message_of bytes ≡ Ok message → IsBgp bytes message
unfolding message_of
read_is_message bytes message fits e =
    let a = after_ok (header_of bytes) (λ kind. body_says kind (body_of bytes)) message e in
    let h = header_take bytes a.0 fits a.1 in
    let body = body_of bytes in
    let size : length bytes ≡ 19 + length body = ap length h.whole ∙ size_of a.0 body in
    let body_fits : IsBytes body = IsBytes-drop 19 bytes fits in
    let b = body_by (a.0 == 1) (a.0 == 2) (a.0 == 3) a.0 body message body_fits h.known (sym (ap (allows a.0) size) ∙ h.allowed) refl refl refl a.2 in
    record {
      body = body;
      is_body = b.1;
      within = h.within;
      whole = h.whole ∙ ap (λ (k : ℕ). message_bytes k body) (sym b.0);
    }

-- A message that is cut short.

refused_by : (bytes : List ℕ) (bad : BgpWireBad) → header_of bytes ≡ Err bad → message_of bytes ≡ Err bad
unfolding message_of
refused_by bytes bad head = ap (λ (r : Result ℕ BgpWireBad). after r (λ k. body_says k (body_of bytes))) head

pub front_is_short : (bytes : List ℕ) (message : BgpMessage) (n : ℕ) → IsBgp bytes message → n < 19 → message_of (take n bytes) ≡ Err Short
front_is_short bytes message n is lt = refused_by (take n bytes) Short (short_front bytes n lt)

pub front_is_refused : (bytes : List ℕ) (message : BgpMessage) (n : ℕ) → IsBgp bytes message → 19 ≤ n → n < length bytes →
    message_of (take n bytes) ≡ Err BadLength
front_is_refused bytes message n is long lt =
    let within = is.within in
    let same = ap length is.whole in
    let size : length bytes ≡ 19 + length is.body = same ∙ size_of (kind_of message) is.body in
    let head = long_front (kind_of message) is.body n (omega arith) long (omega arith) in
    ap (λ (xs : List ℕ). message_of (take n xs)) is.whole ∙ refused_by (take n (message_bytes (kind_of message) is.body)) BadLength head

-- What is refused for its body.

-- the length that an OPEN or an UPDATE has at least
long_enough : (bytes : List ℕ) (kind : ℕ) → IsBytes bytes → header_of bytes ≡ Ok kind →
    (kind ≡ 1 → 10 ≤ length (body_of bytes)) × (kind ≡ 2 → (4 ≤ length (body_of bytes)) × (length (body_of bytes) < 2 ^ 16))
long_enough bytes kind fits head =
    let h = header_take bytes kind fits head in
    let within = h.within in
    let size : length bytes ≡ 19 + length (body_of bytes) = ap length h.whole ∙ size_of kind (body_of bytes) in (
      λ same. let l = open_allowed (length bytes) (subst (λ (k : ℕ). allows k (length bytes) ≡ true) same h.allowed) in omega arith,
      λ same. let l = update_allowed (length bytes) (subst (λ (k : ℕ). allows k (length bytes) ≡ true) same h.allowed) in (omega arith, omega arith),
    )

by_body : (bytes : List ℕ) (kind : ℕ) → header_of bytes ≡ Ok kind → message_of bytes ≡ body_says kind (body_of bytes)
unfolding message_of
by_body bytes kind head = ap (λ (r : Result ℕ BgpWireBad). after r (λ k. body_says k (body_of bytes))) head

pub open_is_bad : (bytes : List ℕ) → IsBytes bytes → header_of bytes ≡ Ok open_kind →
    ((version asn hold id : ℕ) (vpn : Bool) → IsOpen (body_of bytes) version asn hold id vpn → ⊥) → message_of bytes ≡ Err BadOpen
open_is_bad bytes fits head none =
    let long = (long_enough bytes 1 fits head).0 refl in
    by_body bytes 1 head ∙ open_refused (body_of bytes) (IsBytes-drop 19 bytes fits) long none

pub update_misses_one : (bytes : List ℕ) (attributes : List PathAttribute) (says : Says) → IsBytes bytes → header_of bytes ≡ Ok update_kind →
    AreAttributes (body_of bytes) attributes says → ¬ HasAllWanted attributes → message_of bytes ≡ Err MissingAttribute
update_misses_one bytes attributes says fits head is lacks =
    let long = (long_enough bytes 2 fits head).1 refl in
    by_body bytes 2 head
    ∙ ap (λ (r : Result Says BgpWireBad). after r (λ s. Ok (messages.Update s))) (update_misses (body_of bytes) attributes says long.1 is lacks)

pub update_has_bad : (bytes : List ℕ) → IsBytes bytes → header_of bytes ≡ Ok update_kind →
    ((attributes : List PathAttribute) (says : Says) → AreAttributes (body_of bytes) attributes says → ⊥) → message_of bytes ≡ Err BadAttribute
update_has_bad bytes fits head none =
    let long = (long_enough bytes 2 fits head).1 refl in
    by_body bytes 2 head
    ∙ ap (λ (r : Result Says BgpWireBad). after r (λ s. Ok (messages.Update s)))
    (update_is_bad (body_of bytes) (IsBytes-drop 19 bytes fits) long.0 none)

-- What a reader answers.

pub found_by : (r : Result BgpMessage BgpWireBad) (bytes : List ℕ) → IsBytes bytes → Answers r (message_of bytes) → IfOk r (λ message. IsBgp bytes message)
found_by (Ok message) bytes fits given = read_is_message bytes message fits given
found_by (Err bad) bytes fits given = tt

fails_not : (bad : BgpWireBad) (bytes : List ℕ) (message : BgpMessage) → message_of bytes ≡ Ok message → Fails bad (message_of bytes) → Fails bad (done message)
fails_not bad bytes message is given = subst (λ (r : Result BgpMessage BgpWireBad). Fails bad r) is given

pub only_by : (r : Result BgpMessage BgpWireBad) (bytes : List ℕ) → Answers r (message_of bytes) →
    (message : BgpMessage) → IsBgp bytes message → Answers r (Ok message)
only_by (Ok found) bytes given message is = sym (message_is_read bytes message is) ∙ given
only_by (Err bad) bytes given message is = fails_not bad bytes message (message_is_read bytes message is) given
