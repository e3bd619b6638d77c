-- Messages: what is read is spelled so, and what is spelled so is read.
use Rattle.std.proofs.Common.{◌≡◌, ◌≤◌, ◌<◌, ◌+◌, ◌%◌, ◌^◌, ◌⊎◌, ℕ, zero, suc, Bool, true, false, cond, not, List, [], ◌∷◌, ◌++◌, length, drop, Option}
use Rattle.std.proofs.Common.{Some, None, Result, Ok, Err, refl, ap, sym, ◌∙◌, subst, arith, inl, inr, length-append, if◌then◌else◌}
use Rattle.std.specs.Prelude.{nat_le, ◌&&◌, option_to_list}
use Rattle.std.specs.List.{filter_map}
use Rattle.std.proofs.lemmas.Bool.{cases_lt, and_parts, and_right, le-leb, leb-true, le-ltb, not-true}
use Rattle.byteorder.specs.Endian.{big_bytes, big_number}
use Rattle.mn_ldp_wire.specs.declared.message.LdpMessage.{LdpMessage}
use Rattle.mn_ldp_wire.specs.declared.message.LdpBody.{LdpBody}
use Rattle.mn_ldp_wire.specs.declared.message.LdpBody.TheVariants.{Notification, Initialization, KeepAlive, Address, Mapping, Withdraw, Release}
use Rattle.mn_ldp_wire.specs.declared.refusal.WireBad.{WireBad}
use Rattle.mn_ldp_wire.specs.declared.refusal.WireBad.TheVariants.{BadTlv}
use Rattle.mn_ldp_wire.specs.Grammar.{IsBytes, framed, FitsFrame, u_bit, type_of, is_known_message, mandatory_tlvs, IsMessage, IsUnknown, IsSaid, AreSaid}
use Rattle.mn_ldp_wire.specs.Reading.{◌>>=◌, front_of, body_of, are_passed_over, said_of, message_at, messages_of}
use Rattle.mn_base.proofs.Bytes.{IsBytes-drop}
use Rattle.mn_ldp_wire.proofs.Bytes.{four_again, four_fits, four_back}
use Rattle.mn_ldp_wire.proofs.Frames.{framed_is, framed_again, over_is, over_again}
use Rattle.mn_ldp_wire.proofs.Bodies.{IsRead, body_is, body_again}
use Rattle.mn_ldp_wire.proofs.InOrder.{bind_ok, is_at, with_front, message_shorter, messages_nil, messages_more, messages_bad}

-- ---- one message

-- the U bit of a type, on top of the rest of it
top_of : (kind type : ℕ) → kind < 2 ^ 16 → kind % u_bit ≡ type → (u : ℕ) × ((u ≡ 0) ⊎ (u ≡ u_bit)) × (kind ≡ u + type)
top_of kind type fits is = elim (cases_lt kind u_bit) [
  | inl low ↦ (0, inl refl, omega (arith, is))
  | inr high ↦ (u_bit, inr refl, omega (arith, is))
]

contents_are : (contents rest : List ℕ) (body : LdpBody) → IsBytes contents → 4 ≤ length contents → drop 4 contents ≡ mandatory_tlvs body ++ rest →
    contents ≡ big_bytes 4 (big_number 4 contents) ++ mandatory_tlvs body ++ rest
contents_are contents rest body h long is = four_again contents h long ∙ ap (λ (xs : List ℕ). big_bytes 4 (big_number 4 contents) ++ xs) is

message_is : (kind : ℕ) (contents rest : List ℕ) (body : LdpBody) → IsBytes contents → FitsFrame kind contents → 4 ≤ length contents →
    IsRead (kind % u_bit) (drop 4 contents) body rest → are_passed_over rest ≡ true
    → IsMessage (record { id = big_number 4 contents; body = body }) (framed kind contents)
message_is kind contents rest body h fits long read over =
    let top = top_of kind (type_of body) fits.kind_fits read.kind_is in
    let passed = over_is rest read.says.rest_bytes over in
    let whole = contents_are contents rest body h long read.says.whole in
    record {
      u = top.0;
      further = rest;
      tlvs = passed.0;
      u_is = top.1;
      id_fits = four_fits contents h;
      lawful = read.says.lawful;
      passed_over = passed.1;
      fits = subst (λ (k : ℕ). FitsFrame k (big_bytes 4 (big_number 4 contents) ++ mandatory_tlvs body ++ rest)) top.2
          (subst (λ (xs : List ℕ). FitsFrame kind xs) whole fits);
      whole = ap (λ (k : ℕ). framed k contents) top.2 ∙ ap (λ (xs : List ℕ). framed (top.0 + type_of body) xs) whole;
    }

abbrev done : Option LdpMessage → Result (Option LdpMessage) WireBad
done x = Ok x

ok_is : (x y : Option LdpMessage) → done x ≡ done y → x ≡ y
ok_is x y e = cc

said_by_over : (kind : ℕ) (contents rest : List ℕ) (body : LdpBody) (said : Option LdpMessage) (over : Bool) → are_passed_over rest ≡ over →
    IsBytes contents → FitsFrame kind contents → 4 ≤ length contents → IsRead (kind % u_bit) (drop 4 contents) body rest
    → cond {A = Result (Option LdpMessage) WireBad} over (Ok (Some (record { id = big_number 4 contents; body = body }))) (Err BadTlv) ≡ Ok said →
    IsSaid said (framed kind contents)
said_by_over kind contents rest body said false over h fits long read e = absurd cc
said_by_over kind contents rest body said true over h fits long read e =
    subst (λ (s : Option LdpMessage). IsSaid s (framed kind contents)) (ok_is (Some (record { id = big_number 4 contents; body = body })) said e)
    (message_is kind contents rest body h fits long read over)

unknown_is : (kind : ℕ) (contents : List ℕ) → FitsFrame kind contents → 4 ≤ length contents →
    (nat_le u_bit kind && not (is_known_message (kind % u_bit))) ≡ true → IsUnknown (framed kind contents)
unknown_is kind contents fits long passed =
    let p = and_parts _ _ passed in
    let high : u_bit ≤ kind = leb-true _ _ p.0 in
    let low = fits.kind_fits in
    let same : kind ≡ u_bit + kind % u_bit = omega arith in
    record {
      kind = kind % u_bit;
      contents = contents;
      unknown = not-true _ p.1;
      has_id = long;
      fits = subst (λ (k : ℕ). FitsFrame k contents) same fits;
      whole = ap (λ (k : ℕ). framed k contents) same;
    }

said_by_test : (kind : ℕ) (contents : List ℕ) (said : Option LdpMessage) (passed : Bool) →
    (nat_le u_bit kind && not (is_known_message (kind % u_bit))) ≡ passed → IsBytes contents → FitsFrame kind contents → 4 ≤ length contents
    → cond {A =
    Result (Option LdpMessage) WireBad} passed (Ok None)
    (body_of (kind % u_bit) (drop 4 contents) >>= λ body. if are_passed_over body.1 then Ok
    (Some (record { id = big_number 4 contents; body = body.0 })) else Err BadTlv) ≡ Ok said
    → IsSaid said (framed kind contents)
said_by_test kind contents said true test h fits long e =
    subst (λ (s : Option LdpMessage). IsSaid s (framed kind contents)) (ok_is None said e) (unknown_is kind contents fits long test)
said_by_test kind contents said false test h fits long e =
    let b = bind_ok (body_of (kind % u_bit) (drop 4 contents))
    (λ body. if are_passed_over body.1 then Ok (Some (record { id = big_number 4 contents; body = body.0 })) else Err BadTlv) said e in
    said_by_over kind contents b.0.1 b.0.0 said (are_passed_over b.0.1) refl h fits long
    (body_is (kind % u_bit) (drop 4 contents) b.0.1 b.0.0 (IsBytes-drop 4 contents h) b.1) b.2

said_is : (kind : ℕ) (contents : List ℕ) (said : Option LdpMessage) → IsBytes contents → FitsFrame kind contents → 4 ≤ length contents →
    said_of kind contents ≡ Ok said → IsSaid said (framed kind contents)
unfolding said_of
said_is kind contents said h fits long e = said_by_test kind contents said (nat_le u_bit kind && not (is_known_message (kind % u_bit))) refl h fits long e

pub type_known : (body : LdpBody) → is_known_message (type_of body) ≡ true
type_known (Notification status about kind) = refl
type_known (Initialization version keepalive flags limit greatest receiver) = refl
type_known KeepAlive = refl
type_known (Address addresses) = refl
type_known (Mapping prefix label) = refl
type_known (Withdraw prefix label) = refl
type_known (Release prefix label) = refl

pub type_small : (body : LdpBody) → type_of body < u_bit
type_small (Notification status about kind) = omega arith
type_small (Initialization version keepalive flags limit greatest receiver) = omega arith
type_small KeepAlive = omega arith
type_small (Address addresses) = omega arith
type_small (Mapping prefix label) = omega arith
type_small (Withdraw prefix label) = omega arith
type_small (Release prefix label) = omega arith

low_bits : (u type : ℕ) → (u ≡ 0) ⊎ (u ≡ u_bit) → type < u_bit → (u + type) % u_bit ≡ type
low_bits u type (inl e) small = omega (arith, e)
low_bits u type (inr e) small = omega (arith, e)

-- the one way in which bytes are sent
pub record IsSpelled (said : Option LdpMessage) (bytes : List ℕ) : Type 0 where
  pub kind : ℕ
  pub contents : List ℕ
  pub fits : FitsFrame kind contents
  pub long : 4 ≤ length contents
  pub whole : bytes ≡ framed kind contents
  pub reads : said_of kind contents ≡ Ok said

message_again : (message : LdpMessage) (bytes : List ℕ) → IsMessage message bytes → IsSpelled (Some message) bytes
unfolding said_of
message_again message bytes m =
    let kind = m.u + type_of message.body in
    let tlvs : List ℕ = mandatory_tlvs message.body ++ m.further in
    let contents : List ℕ = big_bytes 4 message.id ++ tlvs in
    let low : kind % u_bit ≡ type_of message.body = low_bits m.u (type_of message.body) m.u_is (type_small message.body) in
    let known : (nat_le u_bit kind && not (is_known_message (kind % u_bit))) ≡ false =
    and_right _ _ (ap (λ (k : ℕ). not (is_known_message k)) low ∙ ap not (type_known message.body)) in
    let size : length (mandatory_tlvs message.body) < 2 ^ 16 = omega (arith, m.fits.size_fits, length-append (mandatory_tlvs message.body) m.further) in
    let body : body_of (kind % u_bit) tlvs ≡ Ok (message.body, m.further) =
    ap (λ (k : ℕ). body_of k tlvs) low ∙ body_again message.body m.further m.lawful size in
    let id : big_number 4 contents ≡ message.id = four_back message.id tlvs m.id_fits in
    record {
      kind = kind;
      contents = contents;
      fits = m.fits;
      long = omega arith;
      whole = m.whole;
      reads = rw (known, body, over_again m.further m.tlvs m.passed_over) (ap (λ (n : ℕ). Ok (Some (record { id = n; body = message.body }))) id);
    }

unknown_again : (bytes : List ℕ) → IsUnknown bytes → IsSpelled None bytes
unfolding said_of
unknown_again bytes m =
    let fits = m.fits.kind_fits in
    let low : (u_bit + m.kind) % u_bit ≡ m.kind = omega arith in
    let high : nat_le u_bit (u_bit + m.kind) ≡ true = le-leb _ _ (omega arith) in
    let unknown : is_known_message ((u_bit + m.kind) % u_bit) ≡ false = ap is_known_message low ∙ m.unknown in
    record {
      kind = u_bit + m.kind;
      contents = m.contents;
      fits = m.fits;
      long = m.has_id;
      whole = m.whole;
      reads = rw (high, unknown) refl;
    }

spelled : (said : Option LdpMessage) (bytes : List ℕ) → IsSaid said bytes → IsSpelled said bytes
spelled None bytes m = unknown_again bytes m
spelled (Some message) bytes m = message_again message bytes m

-- ---- the message at the front

pub record IsInFront (bytes : List ℕ) (said : Option LdpMessage) (rest : List ℕ) : Type 0 where
  pub front : List ℕ
  pub whole : bytes ≡ front ++ rest
  pub is_said : IsSaid said front
  pub rest_bytes : IsBytes rest

pub in_front : (bytes rest : List ℕ) (said : Option LdpMessage) → IsBytes bytes → message_at bytes ≡ Ok (said, rest) → IsInFront bytes said rest
in_front bytes rest said h e =
    let a = is_at bytes rest said e in
    let f = framed_is bytes a.front h a.is_front in
    subst (λ (xs : List ℕ). IsInFront bytes said xs) a.rest_is (record {
      front = framed a.front.kind a.front.value;
      whole = f.whole;
      is_said = said_is a.front.kind a.front.value said f.value_bytes f.fits a.long a.says;
      rest_bytes = f.rest_bytes;
    })

pub front_again : (front rest : List ℕ) (said : Option LdpMessage) → IsSaid said front → message_at (front ++ rest) ≡ Ok (said, rest)
unfolding message_at
front_again front rest said m =
    let s = spelled said front m in
    let there : front_of (front ++ rest) ≡ Some (record { kind = s.kind; value = s.contents; rest = rest }) =
    ap (λ (xs : List ℕ). front_of (xs ++ rest)) s.whole ∙ framed_again s.kind s.contents rest s.fits in
    rw (there, le-ltb (length s.contents) 4 s.long, s.reads) refl

pub front_some : (front rest : List ℕ) (said : Option LdpMessage) → IsSaid said front → 0 < length (front ++ rest)
front_some front rest said m =
    let s = message_shorter (front ++ rest) rest said (front_again front rest said m) in
    omega arith

-- ---- one after another

kept : (first : Option LdpMessage) (others : List LdpMessage) (said : List (Option LdpMessage)) → others ≡ filter_map (λ known. known) said →
    option_to_list first ++ others ≡ filter_map (λ known. known) (first ∷ said)
kept None others said e = e
kept (Some message) others said e = ap (λ (xs : List LdpMessage). message ∷ xs) e

pub record AreRead (bytes : List ℕ) (messages : List LdpMessage) : Type 0 where
  pub said : List (Option LdpMessage)
  pub are_said : AreSaid said bytes
  pub messages_are : messages ≡ filter_map (λ known. known) said

more_read : (bytes rest : List ℕ) (first : Option LdpMessage) (messages others : List LdpMessage) → IsInFront bytes first rest → AreRead rest others →
    option_to_list first ++ others ≡ messages → AreRead bytes messages
more_read bytes rest first messages others f r e = record {
  said = first ∷ r.said;
  are_said = (f.front, rest, f.whole, f.is_said, r.are_said);
  messages_are = sym e ∙ kept first others r.said r.messages_are;
}

abbrev read_as : List LdpMessage → Result (List LdpMessage) WireBad
read_as x = Ok x

list_is : (x y : List LdpMessage) → read_as x ≡ read_as y → x ≡ y
list_is x y e = cc

read_by_first : (n : ℕ) (bytes : List ℕ) (messages : List LdpMessage) (r : Result (Option LdpMessage × List ℕ) WireBad) → message_at bytes ≡ r →
    IsBytes bytes → 0 < length bytes → length bytes ≤ suc n → messages_of bytes ≡ Ok messages
    → ((rest : List ℕ) (others : List LdpMessage) → IsBytes rest → length rest ≤ n → messages_of rest ≡ Ok others → AreRead rest others) →
    AreRead bytes messages
read_by_first n bytes messages (Err bad) is h some most e again = absurd (let refused = messages_bad bytes bad some is in cc)
read_by_first n bytes messages (Ok first) is h some most e again =
    let f = in_front bytes first.1 first.0 h is in
    let s = message_shorter bytes first.1 first.0 is in
    let b = bind_ok (messages_of first.1) (λ others. Ok (option_to_list first.0 ++ others)) messages (sym (messages_more bytes first.1 first.0 is) ∙ e) in
    more_read bytes first.1 first.0 messages b.0 f (again first.1 b.0 f.rest_bytes (omega arith) b.1) (list_is (option_to_list first.0 ++ b.0) messages b.2)

read_within : (n : ℕ) (bytes : List ℕ) (messages : List LdpMessage) → IsBytes bytes → length bytes ≤ n → messages_of bytes ≡ Ok messages →
    AreRead bytes messages
read_within n [] messages h most e = record { said = []; are_said = refl; messages_are = list_is messages [] (sym e ∙ messages_nil [] refl) }
read_within zero (b ∷ bs) messages h most e = absurd (omega arith)
read_within (suc n) (b ∷ bs) messages h most e =
    read_by_first n (b ∷ bs) messages (message_at (b ∷ bs)) refl h (omega arith) most e (λ rest others. read_within n rest others)

pub messages_are_read : (bytes : List ℕ) (messages : List LdpMessage) → IsBytes bytes → messages_of bytes ≡ Ok messages → AreRead bytes messages
messages_are_read bytes messages h e = read_within (length bytes) bytes messages h (omega arith) e

pub messages_again : (said : List (Option LdpMessage)) (bytes : List ℕ) → AreSaid said bytes → messages_of bytes ≡ Ok (filter_map (λ known. known) said)
messages_again [] bytes a = messages_nil bytes (ap length a)
messages_again (first ∷ said) bytes (front, rest, whole, is_said, others) =
    ap messages_of whole ∙ messages_more (front ++ rest) rest first (front_again front rest first is_said)
    ∙ ap (with_front (option_to_list first)) (messages_again said rest others)
    ∙ ap (λ (xs : List LdpMessage). Ok xs) (kept first (filter_map (λ known. known) said) said refl)
