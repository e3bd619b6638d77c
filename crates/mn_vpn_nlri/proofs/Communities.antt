-- Extended communities, and the targets among them.
use Rattle.std.proofs.Common.{◌≡◌, ◌==◌, ◌≤◌, ◌<◌, ◌-◌, ◌*◌, ◌/◌, ◌%◌, ◌^◌, ℕ, suc, Bool, true, false, List, [], ◌∷◌, ◌++◌, length, take, drop, Ok, Err}
use Rattle.std.proofs.Common.{refl, ap, sym, ◌∙◌, append_assoc, arith, if◌then◌else◌}
use Rattle.std.specs.Prelude.{filter, cond}
use Rattle.std.specs.List.{AllByRecursion, flat_map}
use Rattle.std.proofs.lemmas.List.{append-nil, length-drop, take_rest}
use Rattle.std.proofs.lemmas.Bool.Decides.{nat_tests}
use Rattle.byteorder.specs.Endian.{big_number}
use Rattle.byteorder.specs.Numbers.{big_number-reads_back, big_from-lt}
use Rattle.mn_base.specs.declared.numbers.Rt.{Rt}
use Rattle.mn_base.specs.Numbers.{has_rt_form}
use Rattle.mn_vpn_nlri.specs.declared.refusal.NlriBad.TheVariants.{Short}
use Rattle.mn_vpn_nlri.specs.Grammar.{community_bytes, is_target, AreTargets, AllTargets, written_targets}
use Rattle.mn_vpn_nlri.specs.Reading.{IsBytes, communities_of, targets_of}
use Rattle.mn_base.proofs.Bytes.{IsBytes-drop, IsBytes-take}
use Rattle.mn_vpn_nlri.proofs.Numbers.{number-eight}

abbrev pub community : ℕ → Rt
community n = record { 0 = n }

pub communities_of-first : (xs : List ℕ) → 8 ≤ length xs → communities_of xs ≡ community (big_number 8 xs) ∷ communities_of (drop 8 xs)
unfolding communities_of
communities_of-first (a ∷ b ∷ c ∷ d ∷ e ∷ f ∷ g ∷ h ∷ rest) long = refl
communities_of-first _ long = absurd (omega arith)

-- what are communities is read as these

pub communities_again : (communities : List Rt) → AllByRecursion (λ (community : Rt). community.0 < 2 ^ 64) communities →
    communities_of (flat_map community_bytes communities) ≡ communities
unfolding communities_of
communities_again [] fit = refl
communities_again (one ∷ more) fit =
    let bytes = community_bytes one ++ flat_map community_bytes more in
    let number : big_number 8 bytes ≡ one.0 = big_number-reads_back 8 one.0 (flat_map community_bytes more) (omega (arith, fit.0)) in
    communities_of-first bytes (omega arith)
    ∙ ap (λ (n : ℕ). community n ∷ communities_of (flat_map community_bytes more)) number
    ∙ ap (λ (cs : List Rt). one ∷ cs) (communities_again more fit.1)

pub length-communities : (communities : List Rt) → length (flat_map community_bytes communities) ≡ 8 * length communities
length-communities [] = refl
length-communities (one ∷ more) = let l = length-communities more in omega arith

pub targets_are_read : (bytes : List ℕ) (targets : List Rt) → AreTargets bytes targets → targets_of bytes ≡ Ok targets
targets_are_read bytes targets is =
    let size : length bytes ≡ 8 * length is.communities = ap length is.whole ∙ length-communities is.communities in
    let whole : (length bytes % 8 == 0) ≡ true = grind (arith, nat_tests) in
    let read : filter is_target (communities_of bytes) ≡ targets =
    ap (λ (xs : List ℕ). filter is_target (communities_of xs)) is.whole
    ∙ ap (λ (cs : List Rt). filter is_target cs) (communities_again is.communities is.fit) ∙ sym is.targets_are in
    ap (λ (b : Bool). cond b (Ok (filter is_target (communities_of bytes))) (Err Short)) whole ∙ ap (λ (ts : List Rt). Ok ts) read

-- what is read are communities

pub communities_are : (bytes : List ℕ) → IsBytes bytes → length bytes % 8 ≡ 0 → bytes ≡ flat_map community_bytes (communities_of bytes)
unfolding communities_of
communities_are [] h whole = refl
communities_are (a ∷ b ∷ c ∷ d ∷ e ∷ f ∷ g ∷ h ∷ rest) is whole =
    let first = IsBytes-take 8 (a ∷ b ∷ c ∷ d ∷ e ∷ f ∷ g ∷ h ∷ rest) is in
    let others = IsBytes-drop 8 (a ∷ b ∷ c ∷ d ∷ e ∷ f ∷ g ∷ h ∷ rest) is in
    ap (λ (ys : List ℕ). a ∷ b ∷ c ∷ d ∷ e ∷ f ∷ g ∷ h ∷ ys) (communities_are rest others (omega arith))
    ∙ ap (λ (ys : List ℕ). ys ++ flat_map community_bytes (communities_of rest)) (sym (number-eight a b c d e f g h first))
communities_are _ h whole = absurd (omega arith)

pub communities_fit : (bytes : List ℕ) → IsBytes bytes → AllByRecursion (λ (community : Rt). community.0 < 2 ^ 64) (communities_of bytes)
unfolding communities_of
communities_fit (a ∷ b ∷ c ∷ d ∷ e ∷ f ∷ g ∷ h ∷ rest) is =
    let first = IsBytes-take 8 (a ∷ b ∷ c ∷ d ∷ e ∷ f ∷ g ∷ h ∷ rest) is in
    let others = IsBytes-drop 8 (a ∷ b ∷ c ∷ d ∷ e ∷ f ∷ g ∷ h ∷ rest) is in
    let fits : big_number 8 (a ∷ b ∷ c ∷ d ∷ e ∷ f ∷ g ∷ h ∷ []) < 256 ^ 8 = big_from-lt 0 8 (a ∷ b ∷ c ∷ d ∷ e ∷ f ∷ g ∷ h ∷ []) (λ k. first.below k) in
    (omega arith, communities_fit rest others)
communities_fit _ is = tt

if_whole : (b : Bool) (xs ys : List Rt) → cond b (Ok xs) (Err Short) ≡ Ok ys → (b ≡ true) × (ys ≡ xs)
if_whole true xs ys e = (refl, cc)
if_whole false xs ys e = cc

pub read_are_targets : (bytes : List ℕ) (targets : List Rt) → IsBytes bytes → targets_of bytes ≡ Ok targets → AreTargets bytes targets
read_are_targets bytes targets is e =
    let r = if_whole (length bytes % 8 == 0) (filter is_target (communities_of bytes)) targets e in
    let whole : length bytes % 8 ≡ 0 = grind (arith, nat_tests, r.0) in
    record { communities = communities_of bytes; fit = communities_fit bytes is; whole = communities_are bytes is whole; targets_are = r.1 }

-- what is written are targets

all_targets : (targets : List Rt) → AllTargets targets → targets ≡ filter is_target targets
all_targets [] all = refl
all_targets (one ∷ more) all =
    ap (λ (ts : List Rt). one ∷ ts) (all_targets more all.1) ∙ ap (λ (b : Bool). cond b (one ∷ filter is_target more) (filter is_target more)) (sym all.0)

target_fits : (n : ℕ) → has_rt_form n ≡ true → n < 2 ^ 64
target_fits n form = let h : n / 2 ^ 48 ≤ 0x0102 = grind (arith, nat_tests) in omega arith

targets_fit : (targets : List Rt) → AllTargets targets → AllByRecursion (λ (community : Rt). community.0 < 2 ^ 64) targets
targets_fit [] all = tt
targets_fit (one ∷ more) all = (target_fits one.0 all.0, targets_fit more all.1)

pub written_are_targets : (targets : List Rt) → AllTargets targets → AreTargets (written_targets targets) targets
written_are_targets targets all = record { communities = targets; fit = targets_fit targets all; whole = refl; targets_are = all_targets targets all }

pub written_targets_are_read : (targets : List Rt) → AllTargets targets → targets_of (written_targets targets) ≡ Ok targets
written_targets_are_read targets all = targets_are_read (written_targets targets) targets (written_are_targets targets all)

-- a loop over communities: the targets that were found, and then those behind them

none_behind : (found : List Rt) → found ≡ found ++ filter is_target (communities_of [])
unfolding communities_of
none_behind found = sym (append-nil found)

pub all_found : (bytes rest : List ℕ) (found : List Rt) → length bytes % 8 ≡ 0 →
    (length rest == 0) ≡ true → found ++ filter is_target (communities_of rest) ≡ filter is_target (communities_of bytes) → targets_of bytes ≡ Ok found
all_found bytes (b ∷ rest) found whole end is = absurd (let e : suc (length rest) ≡ 0 = grind (arith, nat_tests, end) in omega arith)
all_found bytes [] found whole end is =
    let test : (length bytes % 8 == 0) ≡ true = grind (arith, nat_tests) in
    ap (λ (b : Bool). cond b (Ok (filter is_target (communities_of bytes))) (Err Short)) test ∙ ap (λ (ts : List Rt). Ok ts) (sym (none_behind found ∙ is))

pub not_whole : (bytes : List ℕ) → (length bytes % 8 ≡ 0 → ⊥) → targets_of bytes ≡ Err Short
not_whole bytes broken =
    let test : (length bytes % 8 == 0) ≡ false = grind (arith, nat_tests) in
    ap (λ (b : Bool). cond b (Ok (filter is_target (communities_of bytes))) (Err Short)) test

pub left_whole : (rest : List ℕ) → length rest % 8 ≡ 0 → (length rest == 0) ≡ false → length (take (length rest - 8) (drop 8 rest)) % 8 ≡ 0
left_whole rest whole some =
    let more : 8 ≤ length rest = (let s : length rest ≡ 0 → ⊥ = grind (arith, nat_tests) in omega arith) in
    let left : length (take (length rest - 8) (drop 8 rest)) ≡ length rest - 8 = ap length (take_rest rest 8) ∙ length-drop 8 rest in
    omega arith

with_first : (found more : List Rt) (one : Rt) (test : Bool) (new : List Rt) → new ≡ cond test (found ++ one ∷ []) found →
    new ++ more ≡ found ++ cond test (one ∷ more) more
with_first found more one true new e = ap (λ (ts : List Rt). ts ++ more) e ∙ append_assoc found (one ∷ []) more
with_first found more one false new e = ap (λ (ts : List Rt). ts ++ more) e

pub one_more : (all : List Rt) (rest : List ℕ) (found new : List Rt) (n : ℕ) (test : Bool) → length rest % 8 ≡ 0 →
    (length rest == 0) ≡ false → n ≡ big_number 8 rest → test ≡ has_rt_form n → new ≡ cond test (found ++ community n ∷ []) found →
    found ++ filter is_target (communities_of rest) ≡ all → new ++ filter is_target (communities_of (take (length rest - 8) (drop 8 rest))) ≡ all
one_more all rest found new n test whole some number form new_is is =
    let more : 8 ≤ length rest = (let s : length rest ≡ 0 → ⊥ = grind (arith, nat_tests) in omega arith) in
    let behind = filter is_target (communities_of (drop 8 rest)) in
    let first : filter is_target (communities_of rest) ≡ cond (has_rt_form n) (community n ∷ behind) behind =
    ap (λ (cs : List Rt). filter is_target cs) (communities_of-first rest more)
    ∙ ap (λ (k : ℕ). cond (has_rt_form k) (community k ∷ behind) behind) (sym number) in
    ap (λ (xs : List ℕ). new ++ filter is_target (communities_of xs)) (take_rest rest 8)
    ∙ with_first found behind (community n) test new new_is
    ∙ ap (λ (b : Bool). found ++ cond b (community n ∷ behind) behind) form
    ∙ ap (λ (ts : List Rt). found ++ ts) (sym first)
    ∙ is

pub targets_only : (bytes : List ℕ) (found : List Rt) → targets_of bytes ≡ Ok found →
    (targets : List Rt) → AreTargets bytes targets → Ok targets ≡ targets_of bytes
targets_only bytes found e targets is = sym (targets_are_read bytes targets is)

pub on_ok : {X : Type 0} (b : Bool) (new old x : X) → b ≡ true → new ≡ (if b then x else old) → new ≡ x
on_ok true new old x is e = e
on_ok false new old x is e = cc
