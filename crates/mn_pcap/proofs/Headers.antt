-- The header of a file, as it is read and as the format has it.
use Rattle.std.proofs.Common.{◌≡◌, ◌==◌, ◌≤◌, ◌+◌, ◌%◌, ℕ, Bool, true, false, List, ◌++◌, length, take, drop, Ok, refl, ap, sym, ◌∙◌, subst, arith}
use Rattle.std.proofs.Common.{if◌then◌else◌, length-append}
use Rattle.std.specs.Prelude.{nat_lt, not, ◌||◌, ◌&&◌}
use Rattle.std.proofs.lemmas.List.{length-take-le}
use Rattle.std.proofs.lemmas.Bool.Decides.{nat_tests}
use Rattle.mn_pcap.specs.declared.message.Form.{Form}
use Rattle.mn_pcap.specs.declared.message.LinkKind.{LinkKind}
use Rattle.mn_pcap.specs.declared.message.LinkKind.TheVariants.{Ethernet, RawIp, RawIpv4}
use Rattle.mn_pcap.specs.Format.{major, minor}
use Rattle.mn_pcap.specs.Grammar.{number, is_magic, link_type_of, IsBytes, IsFileHeader}
use Rattle.mn_pcap.specs.Reading.{pcapng, is_big, is_little, is_version, is_link_type, link_kind, link_type, form_of, header_of}
use Rattle.mn_pcap.proofs.ByteNumbers.{number-front, number-field, one_order, not_pcapng}
use Rattle.mn_pcap.proofs.InOrder.{IsHeaderRead, header_is_read}

-- What is read is so.

known_in : (big little : Bool) (a b : ℕ) → is_magic a ≡ big → is_magic b ≡ little → not (big || little) ≡ false → is_magic (if big then a else b) ≡ true
known_in true little a b e f h = e
known_in false true a b e f h = f
known_in false false a b e f h = cc

both : (m n v w : ℕ) → not (m == v && n == w) ≡ false → (m ≡ v) × (n ≡ w)
both m n v w h = (grind (arith, nat_tests), grind (arith, nat_tests))

type_by_tests : (n : ℕ) (ethernet raw : Bool) → (n == 1) ≡ ethernet →
    (n == 101) ≡ raw → not (ethernet || raw || n == 228) ≡ false → n ≡ link_type_of (if ethernet then Ethernet else if raw then RawIp else RawIpv4)
type_by_tests n true raw e f h = grind (arith, nat_tests)
type_by_tests n false true e f h = grind (arith, nat_tests)
type_by_tests n false false e f h = grind (arith, nat_tests)

type_of_kind : (n : ℕ) → not (is_link_type n) ≡ false → n ≡ link_type_of (link_kind n)
type_of_kind n h = type_by_tests n (n == 1) (n == 101) refl refl h

magic_in : (big : Bool) (bytes : List ℕ) → (if big then number true 4 bytes else number false 4 bytes) ≡ number big 4 bytes
magic_in true bytes = refl
magic_in false bytes = refl

front_of : (bytes : List ℕ) (form : Form) → IsHeaderRead bytes form → IsFileHeader (form_of bytes) (take 24 bytes)
front_of bytes form r =
    let version = both (number (is_big bytes) 2 (drop 4 bytes)) (number (is_big bytes) 2 (drop 6 bytes)) major minor r.version in
    record {
      size = length-take-le 24 bytes r.size;
      magic_says =
          ap is_magic (number-front (is_big bytes) 4 0 24 bytes (omega arith) ∙ sym (magic_in (is_big bytes) bytes))
          ∙ known_in (is_big bytes) (is_little bytes) (number true 4 bytes) (number false 4 bytes) refl refl r.known;
      major_is = number-front (is_big bytes) 2 4 24 bytes (omega arith) ∙ version.0;
      minor_is = number-front (is_big bytes) 2 6 24 bytes (omega arith) ∙ version.1;
      link_says = ap (λ (n : ℕ). n % 65536) (number-front (is_big bytes) 4 20 24 bytes (omega arith)) ∙ type_of_kind (link_type bytes) r.kind;
    }

pub header_spelled : (bytes : List ℕ) (form : Form) → header_of bytes ≡ Ok form → IsFileHeader form (take 24 bytes)
header_spelled bytes form e =
    let r = header_is_read bytes form e in
    subst (λ (f : Form). IsFileHeader f (take 24 bytes)) r.form_is (front_of bytes form r)

-- What is so is read.

pub header_ok : (bytes : List ℕ) (form : Form) → 24 ≤ length bytes → (number true 4 bytes == pcapng) ≡ false →
    (is_big bytes || is_little bytes) ≡ true → is_version bytes ≡ true → is_link_type (link_type bytes) ≡ true → form_of bytes ≡ form →
    header_of bytes ≡ Ok form
unfolding header_of
header_ok bytes form size other known version kind same =
    let a : nat_lt (length bytes) 4 ≡ false = grind (arith, nat_tests) in
    let b : nat_lt (length bytes) 24 ≡ false = grind (arith, nat_tests) in
    rw (a, other, known, b, version, kind) (ap Ok same)

kind_of_type : (n : ℕ) (link : LinkKind) → n ≡ link_type_of link → (is_link_type n ≡ true) × (link_kind n ≡ link)
kind_of_type n Ethernet is = rw is (refl, refl)
kind_of_type n RawIp is = rw is (refl, refl)
kind_of_type n RawIpv4 is = rw is (refl, refl)

same_form : (a b : Bool) (k l : LinkKind) → a ≡ b → k ≡ l → let f : Bool → LinkKind → Form = λ big link. record { big = big; link = link } in f a k ≡ f b l
same_form a b k l e f = cc

-- the byte order is the one that the magic says
order_is : (bytes : List ℕ) (big : Bool) → IsBytes bytes → is_magic (number big 4 bytes) ≡ true →
    (is_big bytes ≡ big) × ((number true 4 bytes == pcapng) ≡ false) × ((is_big bytes || is_little bytes) ≡ true)
order_is bytes true fits says = (says, not_pcapng (number true 4 bytes) says, rw says refl)
order_is bytes false fits says =
    let one = one_order bytes fits says in
    (one.0, one.1, rw (one.0, says) refl)

pub header_again : (bytes header body : List ℕ) (form : Form) → IsBytes bytes → IsFileHeader form header → bytes ≡ header ++ body → header_of bytes ≡ Ok form
header_again bytes header body form fits r whole =
    let size = r.size in
    let field : (n at : ℕ) → at + n ≤ 24 → number form.big n (drop at bytes) ≡ number form.big n (drop at header) =
    λ n at h. ap (λ (xs : List ℕ). number form.big n (drop at xs)) whole ∙ number-field form.big n at header body (omega arith) in
    let order = order_is bytes form.big fits (ap is_magic (field 4 0 (omega arith)) ∙ r.magic_says) in
    let kind =
    kind_of_type (link_type bytes) form.link (ap (λ (big : Bool). number big 4 (drop 20 bytes) % 65536) order.0
    ∙ ap (λ (n : ℕ). n % 65536) (field 4 20 (omega arith)) ∙ r.link_says) in
    let first : number (is_big bytes) 2 (drop 4 bytes) ≡ major =
    ap (λ (big : Bool). number big 2 (drop 4 bytes)) order.0 ∙ field 2 4 (omega arith) ∙ r.major_is in
    let second : number (is_big bytes) 2 (drop 6 bytes) ≡ minor =
    ap (λ (big : Bool). number big 2 (drop 6 bytes)) order.0 ∙ field 2 6 (omega arith) ∙ r.minor_is in
    let long : 24 ≤ length bytes = (let l = ap length whole ∙ length-append header body in omega arith) in
    header_ok bytes form long order.1 order.2 (rw (first, second) refl) kind.0
    (same_form (is_big bytes) form.big (link_kind (link_type bytes)) form.link order.0 kind.1)
