-- The first rule that drops a packet at entry, by what the code finds, and the frame of one that none drops.
use Rattle.std.proofs.Common.{ℕ, ◌≡◌, ◌<◌, ◌≤◌, ◌-◌, Bool, true, false, not, nat_lt, List, [], ◌∷◌, Option, Some, None, length, take, refl, ap, sym, ◌∙◌}
use Rattle.std.proofs.Common.{arith, eq-eqb}
use Rattle.std.specs.Prelude.{◌==◌, IsTrue, is_none, if◌then◌else◌}
use Rattle.std.specs.Option.{option_map_or}
use Rattle.std.proofs.lemmas.List.{length-take, get_or-take}
use Rattle.mn_base.proofs.Bools.{less_is, not_less}
use Rattle.mn_drops.specs.declared.drops.Rule.{Rule}
use Rattle.mn_drops.specs.declared.drops.Rule.TheVariants as rule
use Rattle.mn_ipv4.specs.declared.header.Bad.{Bad}
use Rattle.mn_ipv4.specs.declared.header.Bad.TheVariants as bad
use Rattle.mn_ipv4.specs.declared.header.Head.{Head}
use Rattle.mn_ipv4.specs.Header.{good, total_length, ttl_of, with_ttl, aged, destination_of}
use Rattle.mn_ipv4.specs.Check.{fault_of, head_of}
use Rattle.mn_ipv4.proofs.Laws.{IsGood-from_good, good-from_IsGood, IsGood-take}
use Rattle.mn_stack.specs.Grammar.{is_packet}
use Rattle.mn_ledger.specs.Entry.{when, first_rule, header_rule, is_unicast}
use Rattle.mn_ledger.specs.Packets.{entry_rules}

-- the rule on the site, those on the header, and those after them
header_first : (p q r s : Bool) (rest : List (Option Rule)) →
    first_rule (when false rule.SiteDown ∷ when p rule.NotIpv4 ∷ when q rule.Malformed ∷ when r rule.Truncated ∷ when s rule.BadChecksum ∷ rest)
    ≡ option_map_or (λ fault. Some (header_rule fault)) (if p then Some bad.NotIpv4 else if q then Some bad.Malformed else if r then Some bad.Truncated else
    if s then Some bad.BadChecksum else None) (first_rule rest)
header_first true q r s rest = refl
header_first false true r s rest = refl
header_first false false true s rest = refl
header_first false false false true rest = refl
header_first false false false false rest = refl

abbrev pub later_rules : ℕ → ℕ → List (Option Rule)
later_rules ttl destination = when (nat_lt ttl 2) rule.TtlExpired ∷ when (not (is_unicast destination)) rule.NotUnicast ∷ []

by_header : (label : Option ℕ) (bytes : List ℕ) → is_none label ≡ false →
    first_rule (entry_rules label bytes) ≡ option_map_or (λ fault. Some (header_rule fault)) (fault_of bytes)
    (first_rule (later_rules (ttl_of bytes) (destination_of bytes)))
unfolding fault_of
by_header None bytes e = absurd (let no : true ≡ false → ⊥ = (λ q. cc) in no e)
by_header (Some label) bytes e = header_first _ _ _ _ (later_rules (ttl_of bytes) (destination_of bytes))

-- a packet with a bad header
pub bad_header : (label : Option ℕ) (bytes : List ℕ) (fault : Bad) → is_none label ≡ false → Some fault ≡ fault_of bytes →
    first_rule (entry_rules label bytes) ≡ Some (header_rule fault)
bad_header label bytes fault e h =
    by_header label bytes e ∙ ap (λ found. option_map_or (λ fault. Some (header_rule fault)) found
    (first_rule (later_rules (ttl_of bytes) (destination_of bytes)))) (sym h)

-- a packet with a good header
pub good_header : (label : Option ℕ) (bytes : List ℕ) (head : Head) → is_none label ≡ false → None ≡ fault_of bytes → head ≡ head_of bytes
    → first_rule (entry_rules label bytes) ≡ first_rule (later_rules head.ttl head.destination)
good_header label bytes head e h is =
    by_header label bytes e
    ∙ ap (λ found. option_map_or (λ fault. Some (header_rule fault)) found (first_rule (later_rules (ttl_of bytes) (destination_of bytes)))) (sym h)
    ∙ sym (ap (λ (x : Head). first_rule (later_rules x.ttl x.destination)) is)

pub expired : (ttl destination : ℕ) → ttl < 2 → first_rule (later_rules ttl destination) ≡ Some rule.TtlExpired
expired ttl destination h = ap (λ b. first_rule (when b rule.TtlExpired ∷ when (not (is_unicast destination)) rule.NotUnicast ∷ [])) (less_is ttl 2 h)

pub not_unicast : (ttl destination : ℕ) → 2 ≤ ttl → is_unicast destination ≡ false → first_rule (later_rules ttl destination) ≡ Some rule.NotUnicast
not_unicast ttl destination h e =
    ap (λ b. first_rule (when b rule.TtlExpired ∷ when (not (is_unicast destination)) rule.NotUnicast ∷ [])) (not_less ttl 2 h)
    ∙ ap (λ b. first_rule (when (not b) rule.NotUnicast ∷ [])) e

pub passes : (ttl destination : ℕ) → 2 ≤ ttl → is_unicast destination ≡ true → first_rule (later_rules ttl destination) ≡ None
passes ttl destination h e =
    ap (λ b. first_rule (when b rule.TtlExpired ∷ when (not (is_unicast destination)) rule.NotUnicast ∷ [])) (not_less ttl 2 h)
    ∙ ap (λ b. first_rule (when (not b) rule.NotUnicast ∷ [])) e

-- a good packet that is cut to its total length

pub is_there : (bytes : List ℕ) → IsTrue (good bytes) → total_length bytes ≤ length bytes
is_there bytes h = (IsGood-from_good bytes h).total_there

pub cut_length : (bytes : List ℕ) → IsTrue (good bytes) → length (take (total_length bytes) bytes) ≡ total_length bytes
cut_length bytes h = let g = IsGood-from_good bytes h in omega (arith, length-take (total_length bytes) bytes, g.total_there)

cut_total : (bytes : List ℕ) → IsTrue (good bytes) → total_length (take (total_length bytes) bytes) ≡ total_length bytes
cut_total bytes h =
    let g = IsGood-from_good bytes h in
    let third = get_or-take (total_length bytes) bytes 2 0 (omega arith) in
    let fourth = get_or-take (total_length bytes) bytes 3 0 (omega arith) in
    omega arith

pub cut_is_packet : (bytes : List ℕ) → IsTrue (good bytes) → IsTrue (is_packet (take (total_length bytes) bytes))
cut_is_packet bytes h =
    let still : good (take (total_length bytes) bytes) ≡ true =
    good-from_IsGood (take (total_length bytes) bytes) (IsGood-take bytes (IsGood-from_good bytes h)) in
    let whole : (length (take (total_length bytes) bytes) == total_length (take (total_length bytes) bytes)) ≡ true =
    eq-eqb _ _ (cut_length bytes h ∙ sym (cut_total bytes h)) in
    rw (still, whole) refl

-- with one hop less it is the packet one hop older
pub cut_aged : (bytes : List ℕ) → with_ttl (take (total_length bytes) bytes) (ttl_of bytes - 1) ≡ aged bytes 1
unfolding aged
cut_aged bytes = refl
