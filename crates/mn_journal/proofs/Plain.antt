-- The words of a step have no blank, and none begins a comment.
use Rattle.std.proofs.Common.{◌≡◌, ◌<◌, ◌≤◌, ◌^◌, ◌/◌, ◌%◌, ℕ, zero, suc, Bool, true, false, List, [], ◌∷◌, ◌++◌, length, get_or, refl, ap, ◌∙◌, arith}
use Rattle.std.specs.Prelude.{codes, nat_lt, nat_le, not, ◌&&◌, ◌==◌, decimal, if◌then◌else◌, slice_index_or}
use Rattle.std.specs.Char.{is_ascii_digit}
use Rattle.std.specs.List.{list_all}
use Rattle.std.proofs.lemmas.Bool.{and_parts, and_from, ltb-true, leb-true}
use Rattle.std.proofs.lemmas.Bool.Decides.{nat_tests}
use Rattle.std.proofs.lemmas.Fmt.{digits_decimal, decimal_digit, decimal_nonempty}
use Rattle.std.proofs.lemmas.List.Folds.{list_all-append}
use Rattle.mn_base.specs.Numbers.{type_field}
use Rattle.mn_wiring.specs.declared.links.Dir.{Dir}
use Rattle.mn_wiring.specs.declared.links.Dir.TheVariants.{Forth, Back}
use Rattle.mn_base.specs.declared.numbers.NodeNo.{NodeNo}
use Rattle.mn_base.specs.declared.numbers.LinkNo.{LinkNo}
use Rattle.mn_base.specs.declared.numbers.VrfNo.{VrfNo}
use Rattle.mn_base.specs.declared.numbers.SiteNo.{SiteNo}
use Rattle.mn_base.specs.declared.numbers.Rt.{Rt}
use Rattle.mn_prefix.specs.Prefix.{AddressBlock, IsPrefix}
use Rattle.mn_text.specs.Numbers.{number_text}
use Rattle.mn_text.specs.Addresses.{address_text, prefix_text}
use Rattle.mn_text.specs.Pairs.{by_as_text, by_address_text, pair_text, rt_text}
use Rattle.mn_text.specs.Words.{is_blank}
use Rattle.mn_topo.specs.Lawful.{IsLawful, AreNames}
use Rattle.mn_topo.specs.Network.{Network}
use Rattle.mn_topo.specs.Steps.{fits, are_edges, are_edges_in_order}
use Rattle.mn_topo.specs.Tables.{is_name, is_name_byte}
use Rattle.mn_topo.specs.VrfTable.{is_edge}
use Rattle.mn_topo.specs.declared.steps.Step.{Step}
use Rattle.mn_topo.specs.declared.steps.Step.TheVariants.{LinkUp, LinkDown, Learn, LdpAdmin, HearLdp, BgpUp, BgpDown, HearBgp, AddRoute, DelRoute, Import}
use Rattle.mn_topo.specs.declared.steps.Step.TheVariants.{Export, Attach, Detach, Inject, Carry, Lose, Tick}
use Rattle.mn_topo.specs.declared.steps.Damage.{Damage}
use Rattle.mn_topo.specs.declared.steps.Damage.TheVariants.{Ldp, Bgp}
use Rattle.mn_entry.specs.Damages.{damage_fits}
use Rattle.mn_script.specs.Spelled.{node_text, vrf_text, site_text, from_text, to_text, step_words, damage_words, IsStep, IsDamage}
use Rattle.mn_script.proofs.Again.{edge_is_node}
use Rattle.mn_text.proofs.Again.{own}

abbrev pub is_plain_byte : ℕ → Bool
is_plain_byte byte = (not (is_blank byte) && not (byte == 35)) && (not (byte == 10) && not (byte == 13))

-- a word without blanks, `#` and the bytes that end a line
abbrev pub is_plain : List ℕ → Bool
is_plain word = nat_lt 0 (length word) && list_all is_plain_byte word

-- 1. Bytes

pub all_of : (p q : ℕ → Bool) → ((b : ℕ) → p b ≡ true → q b ≡ true) → (xs : List ℕ) → list_all p xs ≡ true → list_all q xs ≡ true
all_of p q h [] all = refl
all_of p q h (x ∷ xs) all = let both = and_parts (p x) (list_all p xs) all in and_from (q x) (list_all q xs) (h x both.0) (all_of p q h xs both.1)

digit_plain : (b : ℕ) → is_ascii_digit b ≡ true → is_plain_byte b ≡ true
digit_plain b h = grind (arith, nat_tests)

name_byte_plain : (b : ℕ) → is_name_byte b ≡ true → is_plain_byte b ≡ true
name_byte_plain b h = grind (arith, nat_tests)

joined : (xs : List ℕ) (byte : ℕ) (ys : List ℕ) → list_all is_plain_byte xs ≡ true → is_plain_byte byte ≡ true → list_all is_plain_byte ys ≡ true →
    list_all is_plain_byte (xs ++ byte ∷ ys) ≡ true
joined xs byte ys front middle back =
    list_all-append is_plain_byte xs (byte ∷ ys) ∙ and_from (list_all is_plain_byte xs) (list_all is_plain_byte (byte ∷ ys)) front
    (and_from (is_plain_byte byte) (list_all is_plain_byte ys) middle back)

some_joined : (xs : List ℕ) (byte : ℕ) (ys : List ℕ) → nat_lt 0 (length (xs ++ byte ∷ ys)) ≡ true
some_joined [] byte ys = grind (arith, nat_tests)
some_joined (x ∷ xs) byte ys = grind (arith, nat_tests)

-- 2. Numbers, prefixes, targets

digits_plain : (n : ℕ) → n < 2 ^ 64 → list_all is_plain_byte (decimal n) ≡ true
digits_plain n h = all_of is_ascii_digit is_plain_byte digit_plain (decimal n) (digits_decimal own n h)

pub number_plain : (n : ℕ) → n < 2 ^ 64 → is_plain (number_text n) ≡ true
number_plain zero h =
    and_from (nat_lt 0 (length (decimal 0))) (list_all is_plain_byte (decimal 0)) (ap (λ xs. nat_lt 0 (length xs)) (decimal_digit 0 (omega arith)))
    (digits_plain 0 h)
number_plain (suc n) h = and_from (nat_lt 0 (length (decimal (suc n)))) (list_all is_plain_byte (decimal (suc n))) (let some = decimal_nonempty (suc n) h in
    grind (arith, nat_tests)) (digits_plain (suc n) h)

address_plain : (a : ℕ) → a < 2 ^ 32 → list_all is_plain_byte (address_text a) ≡ true
unfolding address_text
address_plain a h =
    joined (decimal (a / 256 / 256 / 256)) 46 _ (digits_plain (a / 256 / 256 / 256) (omega arith)) refl
    (joined (decimal (a / 256 / 256 % 256)) 46 _ (digits_plain (a / 256 / 256 % 256) (omega arith)) refl
    (joined (decimal (a / 256 % 256)) 46 _ (digits_plain (a / 256 % 256) (omega arith)) refl
    (digits_plain (a % 256) (omega arith))))

prefix_plain : (p : AddressBlock) → IsPrefix p.address p.length → is_plain (prefix_text p) ≡ true
unfolding prefix_text
prefix_plain p h = and_from _ _ (some_joined (address_text p.address) 47 (number_text p.length))
    (joined (address_text p.address) 47 (number_text p.length) (address_plain p.address h.fits) refl (digits_plain p.length (omega (arith, h.short))))

as_plain : (n : ℕ) → is_plain (by_as_text n) ≡ true
as_plain n = and_from _ _ (some_joined (decimal (n / 2 ^ 32 % 2 ^ 16)) 58 (decimal (n % 2 ^ 32)))
    (joined (decimal (n / 2 ^ 32 % 2 ^ 16)) 58 (decimal (n % 2 ^ 32)) (digits_plain (n / 2 ^ 32 % 2 ^ 16) (omega arith)) refl
    (digits_plain (n % 2 ^ 32) (omega arith)))

addressed_plain : (n : ℕ) → is_plain (by_address_text n) ≡ true
addressed_plain n = and_from _ _ (some_joined (address_text (n / 2 ^ 16 % 2 ^ 32)) 58 (decimal (n % 2 ^ 16)))
    (joined (address_text (n / 2 ^ 16 % 2 ^ 32)) 58 (decimal (n % 2 ^ 16)) (address_plain (n / 2 ^ 16 % 2 ^ 32) (omega arith)) refl
    (digits_plain (n % 2 ^ 16) (omega arith)))

either_plain : (b : Bool) (n : ℕ) → is_plain (if b then by_address_text n else by_as_text n) ≡ true
either_plain true n = addressed_plain n
either_plain false n = as_plain n

target_plain : (target : Rt) → is_plain (rt_text target) ≡ true
unfolding pair_text
target_plain target = either_plain (type_field target.0 == 0x0102) target.0

-- 3. Names

all_at : (xs : List (List ℕ)) (n : ℕ) (d : List ℕ) → list_all is_name xs ≡ true → n < length xs → is_name (get_or xs n d) ≡ true
all_at [] n d all below = absurd (omega arith)
all_at (x ∷ xs) zero d all below = (and_parts (is_name x) (list_all is_name xs) all).0
all_at (x ∷ xs) (suc n) d all below = all_at xs n d (and_parts (is_name x) (list_all is_name xs) all).1 (omega arith)

name_plain : (names : List (List ℕ)) (n : ℕ) → AreNames names → n < length names → is_plain (slice_index_or names n []) ≡ true
name_plain names n are below =
    let name = get_or names n [] in
    let is = all_at names n [] are.formed below in
    let parts = and_parts (nat_le 1 (length name) && nat_le (length name) 32) (list_all is_name_byte name) is in
    let size = and_parts (nat_le 1 (length name)) (nat_le (length name) 32) parts.0 in
    let some : nat_lt 0 (length name) ≡ true = grind (arith, nat_tests, size.0) in
    and_from (nat_lt 0 (length name)) (list_all is_plain_byte name) some (all_of is_name_byte is_plain_byte name_byte_plain name parts.1)

node_plain : (network : Network) (n : ℕ) → IsLawful network → n < length network.loopbacks → is_plain (slice_index_or network.node_names n []) ≡ true
node_plain network n lawful below = name_plain network.node_names n lawful.nodes.named (omega (arith, lawful.nodes.each))

vrf_plain : (network : Network) (vrf : VrfNo) → IsLawful network → vrf.0 < length network.vrfs → is_plain (vrf_text network vrf) ≡ true
vrf_plain network vrf lawful below = name_plain network.vrf_names vrf.0 lawful.vrfs.named (omega (arith, lawful.vrfs.each))

site_plain : (network : Network) (site : SiteNo) → IsLawful network → site.0 < length network.sites → is_plain (site_text network site) ≡ true
site_plain network site lawful below = name_plain network.site_names site.0 lawful.sites.named (omega (arith, lawful.sites.each))

from_plain : (network : Network) (link : LinkNo) (direction : Dir) → IsLawful network → link.0 < length network.links →
    is_plain (from_text network link direction) ≡ true
from_plain network link Forth lawful below = node_plain network _ lawful (lawful.joins_nodes link.0 below).0
from_plain network link Back lawful below = node_plain network _ lawful (lawful.joins_nodes link.0 below).1

to_plain : (network : Network) (link : LinkNo) (direction : Dir) → IsLawful network → link.0 < length network.links →
    is_plain (to_text network link direction) ≡ true
to_plain network link Forth lawful below = node_plain network _ lawful (lawful.joins_nodes link.0 below).1
to_plain network link Back lawful below = node_plain network _ lawful (lawful.joins_nodes link.0 below).0

-- edges are nodes
pub edges_are_nodes : (network : Network) (a b : NodeNo) → IsLawful network → are_edges network a b ≡ true →
    (a.0 < length network.loopbacks) × (b.0 < length network.loopbacks)
edges_are_nodes network a b lawful edges =
    let each = and_parts (is_edge network.vrfs a.0) (is_edge network.vrfs b.0) (and_parts (is_edge network.vrfs a.0 && is_edge network.vrfs b.0) _ edges).0 in
    (edge_is_node network a lawful each.0, edge_is_node network b lawful each.1)

pub ordered_are_nodes : (network : Network) (a b : NodeNo) → IsLawful network → are_edges_in_order network a b ≡ true →
    (a.0 < length network.loopbacks) × (b.0 < length network.loopbacks)
ordered_are_nodes network a b lawful edges =
    let each = and_parts (is_edge network.vrfs a.0) (is_edge network.vrfs b.0) (and_parts (is_edge network.vrfs a.0 && is_edge network.vrfs b.0) _ edges).0 in
    (edge_is_node network a lawful each.0, edge_is_node network b lawful each.1)

-- 4. Steps

abbrev pub AllPlain : List (List ℕ) → Type 0
AllPlain [] = Unit {0}
AllPlain (word ∷ words) = (is_plain word ≡ true) × AllPlain words

pair_plain : (network : Network) (one other : List ℕ) (a b : NodeNo) → is_plain one ≡ true → is_plain other ≡ true → IsLawful network →
    (a.0 < length network.loopbacks) × (b.0 < length network.loopbacks) → AllPlain (one ∷ other ∷ node_text network a ∷ node_text network b ∷ [])
pair_plain network one other a b first second lawful below =
    (first, (second, (node_plain network a.0 lawful below.0, (node_plain network b.0 lawful below.1, tt))))

ends_plain : (network : Network) (one other : List ℕ) (link : LinkNo) (direction : Dir) → is_plain one ≡ true → is_plain other ≡ true → IsLawful network →
    link.0 < length network.links → AllPlain (one ∷ other ∷ from_text network link direction ∷ to_text network link direction ∷ [])
ends_plain network one other link direction first second lawful below =
    (first, (second, (from_plain network link direction lawful below, (to_plain network link direction lawful below, tt))))

whether : (on : Bool) (one other : List ℕ) → is_plain one ≡ true → is_plain other ≡ true → is_plain (if on then one else other) ≡ true
whether true one other h g = h
whether false one other h g = g

pub step_plain : (network : Network) (step : Step) → IsLawful network → fits network step ≡ true → IsStep step → AllPlain (step_words network step)
step_plain network (LinkUp link) lawful fit is = ends_plain network (codes "link") (codes "up") link Forth refl refl lawful (ltb-true _ _ fit)
step_plain network (LinkDown link) lawful fit is = ends_plain network (codes "link") (codes "down") link Forth refl refl lawful (ltb-true _ _ fit)
step_plain network (Learn node link) lawful fit is = let both = and_parts _ _ fit in
    ends_plain network (codes "learn") (node_text network node) link Forth refl (node_plain network node.0 lawful (ltb-true _ _ both.0)) lawful
    (ltb-true _ _ both.1)
step_plain network (LdpAdmin link on) lawful fit is =
    ends_plain network (codes "ldp") (if on then codes "on" else codes "off") link Forth refl (whether on (codes "on") (codes "off") refl refl) lawful
    (ltb-true _ _ fit)
step_plain network (HearLdp link direction) lawful fit is = ends_plain network (codes "hear") (codes "ldp") link direction refl refl lawful (ltb-true _ _ fit)
step_plain network (BgpUp a b) lawful fit is = pair_plain network (codes "bgp") (codes "up") a b refl refl lawful (ordered_are_nodes network a b lawful fit)
step_plain network (BgpDown a b) lawful fit is = pair_plain network (codes "bgp") (codes "down") a b refl refl lawful (ordered_are_nodes network a b lawful fit)
step_plain network (HearBgp a b) lawful fit is = pair_plain network (codes "hear") (codes "bgp") a b refl refl lawful (edges_are_nodes network a b lawful fit)
step_plain network (AddRoute site prefix) lawful fit is =
    (refl, (refl, (site_plain network site lawful (ltb-true _ _ (and_parts _ _ fit).0), (prefix_plain prefix is, tt))))
step_plain network (DelRoute site prefix) lawful fit is =
    (refl, (refl, (site_plain network site lawful (ltb-true _ _ (and_parts _ _ fit).0), (prefix_plain prefix is, tt))))
step_plain network (Import vrf on target) lawful fit is = (
  refl,
  (
    whether on (codes "add") (codes "del") refl refl,
    (vrf_plain network vrf lawful (ltb-true _ _ (and_parts _ _ fit).0), (target_plain target, tt)),
  ),
)
step_plain network (Export vrf on target) lawful fit is = (
  refl,
  (
    whether on (codes "add") (codes "del") refl refl,
    (vrf_plain network vrf lawful (ltb-true _ _ (and_parts _ _ fit).0), (target_plain target, tt)),
  ),
)
step_plain network (Attach site) lawful fit is = (refl, (refl, (site_plain network site lawful (ltb-true _ _ fit), tt)))
step_plain network (Detach site) lawful fit is = (refl, (refl, (site_plain network site lawful (ltb-true _ _ fit), tt)))
step_plain network (Inject site number) lawful fit is =
    (refl, (site_plain network site lawful (ltb-true _ _ (and_parts _ _ fit).0), (number_plain number (omega (arith, is)), tt)))
step_plain network (Carry link direction place) lawful fit is = (
  refl,
  (
    from_plain network link direction lawful (ltb-true _ _ fit),
    (to_plain network link direction lawful (ltb-true _ _ fit), (number_plain place (omega (arith, is)), tt)),
  ),
)
step_plain network (Lose link direction place) lawful fit is = (
  refl,
  (
    from_plain network link direction lawful (ltb-true _ _ fit),
    (to_plain network link direction lawful (ltb-true _ _ fit), (number_plain place (omega (arith, is)), tt)),
  ),
)
step_plain network (Tick ticks) lawful fit is =
    let few : ticks ≤ 1000000 = leb-true ticks 1000000 (and_parts (nat_le 1 ticks) (nat_le ticks 1000000) fit).1 in
    (refl, (number_plain ticks (omega arith), tt))

pub damage_plain : (network : Network) (damage : Damage) → IsLawful network → damage_fits network damage ≡ true → IsDamage damage →
    AllPlain (damage_words network damage)
damage_plain network (Ldp link direction number) lawful fit is =
    let below = ltb-true _ _ (and_parts _ _ fit).0 in (
      refl,
      (
        refl,
        (
          from_plain network link direction lawful below,
          (to_plain network link direction lawful below, (number_plain number (omega (arith, is)), tt)),
        ),
      ),
    )
damage_plain network (Bgp a b number) lawful fit is =
    let below = edges_are_nodes network a b lawful (and_parts _ _ fit).0 in (
      refl,
      (refl, (node_plain network a.0 lawful below.0, (node_plain network b.0 lawful below.1, (number_plain number (omega (arith, is)), tt)))),
    )
