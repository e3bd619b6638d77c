-- A packet that doesn't fall at entry is good, and is a packet once it is aged.
use Rattle.std.proofs.Common.{ℕ, ◌≡◌, ◌<◌, ◌≤◌, Bool, true, false, List, ◌∷◌, length, refl, arith, sym, ◌∙◌, Some, None, eq-eqb}
use Rattle.std.specs.Prelude.{◌==◌, nat_lt, is_none, Option, IsTrue, slice_index}
use Rattle.std.proofs.lemmas.Bool.Decides.{nat_tests}
use Rattle.mn_drops.specs.declared.drops.Rule.{Rule}
use Rattle.mn_drops.specs.declared.drops.Rule.TheVariants as rule
use Rattle.mn_ipv4.specs.Header.{is_not_ipv4, is_malformed, is_truncated, has_bad_checksum, good, aged, ttl_of, total_length, destination_of}
use Rattle.mn_ipv4.proofs.Laws.{IsGood-from_good, length-aged, ttl_of-aged, total_length-aged, good-aged}
use Rattle.mn_ledger.specs.Entry.{when, first_rule}
use Rattle.mn_ledger.specs.Places.{vrf_of, home_of}
use Rattle.mn_ledger.specs.Held.{HeldRoute, best}
use Rattle.mn_ledger.specs.Eligible.{eligible}
use Rattle.mn_ledger.specs.Packets.{entry_rules}
use Rattle.mn_frame_laws.specs.Entries.{fate_of, IsFit, IsFall, FitsOrFalls}

-- no rule applies
rules_pass : (rest : List (Option Rule)) (b : Bool) (cause : Rule) → first_rule (when b cause ∷ rest) ≡ None → (b ≡ false) × (first_rule rest ≡ None)
rules_pass rest true cause h = absurd (let no : Some cause ≡ None → ⊥ = (λ e. cc) in no h)
rules_pass rest false cause h = (refl, h)

all_pass : (attachment : Option ℕ) (bytes : List ℕ) → first_rule (entry_rules attachment bytes) ≡ None → IsTrue (good bytes) × (2 ≤ ttl_of bytes)
unfolding good
all_pass attachment bytes h =
    let one = rules_pass _ (is_none attachment) rule.SiteDown h in
    let two = rules_pass _ (is_not_ipv4 bytes) rule.NotIpv4 one.1 in
    let three = rules_pass _ (is_malformed bytes) rule.Malformed two.1 in
    let four = rules_pass _ (is_truncated bytes) rule.Truncated three.1 in
    let five = rules_pass _ (has_bad_checksum bytes) rule.BadChecksum four.1 in
    let six = rules_pass _ (nat_lt (ttl_of bytes) 2) rule.TtlExpired five.1 in
    let live : nat_lt (ttl_of bytes) 2 ≡ false = six.0 in
    (rw (two.0, three.0, four.0, five.0) refl, grind (arith, nat_tests, live))

not_fallen : (edge : ℕ) (route : Option HeldRoute) (cause : Option Rule) → (IsFall (fate_of edge route cause) → ⊥) → cause ≡ None
not_fallen edge route (Some cause) h = absurd (h tt)
not_fallen edge route None h = refl

pub fit : (bytes : List ℕ) → ((i : ℕ) → slice_index bytes i < 256) → IsTrue (good bytes) → 2 ≤ ttl_of bytes → IsFit bytes
fit bytes small fine live =
    let good_one = IsGood-from_good bytes fine in
    let whole : (length (aged bytes 1) == total_length (aged bytes 1)) ≡ true =
    eq-eqb _ _ (length-aged bytes 1 good_one ∙ sym (total_length-aged bytes 1 good_one)) in
    let still : good (aged bytes 1) ≡ true = good-aged bytes 1 small fine in
    record { good = fine; alive = live; packet = rw (still, whole) refl; ttl = ttl_of-aged bytes 1 good_one }

pub fits_or_falls : FitsOrFalls
fits_or_falls t w s bytes small stands =
    let none = not_fallen (home_of t s) (best (eligible t w (home_of t s) (vrf_of t s) (destination_of bytes)) (destination_of bytes))
    (first_rule (entry_rules (w.config.attached s) bytes)) stands in
    let pass = all_pass (w.config.attached s) bytes none in
    fit bytes small pass.0 pass.1
