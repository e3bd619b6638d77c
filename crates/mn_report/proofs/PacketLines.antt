-- The lines of packets, one after another, and what verdicts come to.
use Rattle.std.proofs.Common.{◌≡◌, ◌+◌, ◌<◌, ◌≤◌, ◌⊎◌, inl, inr, ℕ, Bool, true, false, List, [], ◌∷◌, ◌++◌, length, get_or, take, drop}
use Rattle.std.proofs.Common.{Ok, Err, refl, ap, sym, ◌∙◌, subst, append_assoc, add-one, arith}
use Rattle.std.specs.Prelude.{Option, map, filter, min, nat_le, slice_index_or, if◌then◌else◌}
use Rattle.std.proofs.Math.Seq.{drop-cons}
use Rattle.std.proofs.lemmas.List.{append-nil, drop_all, take_more, get_or-map, length-map}
use Rattle.mn_base.proofs.Bools.{two_ways, at_most_tells, not_at_most_tells}
use Rattle.mn_base.specs.declared.numbers.NodeNo.{NodeNo}
use Rattle.mn_edge.specs.declared.device.DeviceBad.{DeviceBad}
use Rattle.mn_topo.specs.Network.{Network}
use Rattle.mn_ledger.specs.declared.verdict.Verdict.{Verdict}
use Rattle.mn_ledger.specs.declared.verdict.Verdict.TheVariants.{Delivered, Dropped, Flying}
use Rattle.mn_ledger.specs.Packets.{Packets}
use Rattle.mn_ledger.specs.Verdicts.{verdict_on}
use Rattle.mn_course_laws.specs.Expansion.{SentLine}
use Rattle.mn_lines.specs.declared.lines.Sent.{Sent}
use Rattle.mn_lines.specs.Names.{names_of}
use Rattle.mn_lines.specs.Lines.{packet_line}
use Rattle.mn_lines.specs.Putting.{Puts}
use Rattle.mn_output_laws.specs.Report.{packet_lines, count, is_delivered, is_dropped, is_flying}
use Rattle.mn_tables.specs.Telling.{Stand, Tells, Told}
use Rattle.mn_tables.proofs.Telling.{Answer, IsErrOnly, told_nothing, told_more, told_by, tells_as, tells_within}
use Rattle.mn_report.specs.declared.total.Counts.{Counts}
use Rattle.mn_report.specs.Packets.{packet_row, counts_of, with_verdict}
use Rattle.mn_report.specs.Shown.{sending_of}

-- 1. One packet

nodes_again : (path : List NodeNo) → map (λ node. record { 0 = node }) (map (λ (node : NodeNo). node.0) path) ≡ path
nodes_again [] = refl
nodes_again (node ∷ path) = ap (λ nodes. node ∷ nodes) (nodes_again path)

pub packet_is : (topology other : Network) (packets : Packets) (packet : ℕ) (sent : Sent) (verdict : Verdict) (path : List NodeNo)
    → other ≡ topology → verdict ≡ verdict_on packets packet → map (λ (node : NodeNo). node.0) path ≡ slice_index_or packets.paths packet []
    → packet_line (names_of other) (packet + 1) sent verdict path ≡ packet_row topology packets packet sent
packet_is topology other packets packet sent verdict path same is_verdict is_path =
    ap (λ (n : Network). packet_line (names_of n) (packet + 1) sent verdict path) same
    ∙ ap (λ v. packet_line (names_of topology) (packet + 1) sent v path) is_verdict
    ∙ ap (packet_line (names_of topology) (packet + 1) sent (verdict_on packets packet))
    (sym (nodes_again path) ∙ ap (map (λ node. record { 0 = node })) is_path)

-- its line was composed behind what waits
pub waits_too : (text line waits now : List ℕ) (written : Option (List ℕ)) → line ≡ text → now ≡ waits ++ line → Puts text waits now written written
waits_too text line waits now written is behind = λ before so_far on.
    record {
      part = on.part;
      told = on.told;
      whole = ap (λ l. on.part ++ l) behind ∙ sym (append_assoc on.part waits line) ∙ ap (λ l. l ++ line) on.whole ∙ ap (λ l. so_far ++ l) is;
    }

-- 2. All packets

drop_more : {X : Type 0} (xs : List X) (i : ℕ) (d : X) → i < length xs → drop i xs ≡ get_or xs i d ∷ drop (i + 1) xs
drop_more xs i d below = rw add-one (drop-cons xs i d below)

row_left : (topology : Network) (packets : Packets) (sendings : List Sent) (i : ℕ) (d : Sent) → i < length sendings → i < length packets.verdicts
    → length packets.paths ≡ length packets.verdicts
    → packet_lines topology (i + 1) (drop i (map sending_of sendings)) (drop i packets.verdicts) (drop i packets.paths)
    ≡ packet_row topology packets i (get_or sendings i d)
    ++ packet_lines topology (i + 1 + 1) (drop (i + 1) (map sending_of sendings)) (drop (i + 1) packets.verdicts) (drop (i + 1) packets.paths)
row_left topology packets sendings i d below there each =
    let here : i < length packets.paths = omega arith in
    let sent : drop i (map sending_of sendings) ≡ sending_of (get_or sendings i d) ∷ drop (i + 1) (map sending_of sendings) =
    drop_more (map sending_of sendings) i (sending_of d) (rw length-map below)
    ∙ ap (λ x. x ∷ drop (i + 1) (map sending_of sendings)) (get_or-map sending_of sendings i d (sending_of d) below) in
    let judged : drop i packets.verdicts ≡ verdict_on packets i ∷ drop (i + 1) packets.verdicts =
    drop_more packets.verdicts i (Delivered 0 (record { 0 = 0 }) 0) there in
    let gone : drop i packets.paths ≡ slice_index_or packets.paths i [] ∷ drop (i + 1) packets.paths = drop_more packets.paths i [] here in
    ap (λ xs. packet_lines topology (i + 1) xs (drop i packets.verdicts) (drop i packets.paths)) sent
    ∙ ap (λ vs. packet_lines topology (i + 1) (sending_of (get_or sendings i d) ∷ drop (i + 1) (map sending_of sendings)) vs (drop i packets.paths)) judged
    ∙ ap (packet_lines topology (i + 1) (sending_of (get_or sendings i d) ∷ drop (i + 1) (map sending_of sendings))
    (verdict_on packets i ∷ drop (i + 1) packets.verdicts)) gone

-- the lines of so many packets were put, and the others are left
pub record PutSoFar (topology : Network) (packets : Packets) (sendings : List Sent) (i : ℕ) (s t : Stand) : Type 0 where
  pub done : List ℕ
  pub told : Told done s t
  pub left : done ++ packet_lines topology (i + 1) (drop i (map sending_of sendings)) (drop i packets.verdicts) (drop i packets.paths)
      ≡ packet_lines topology 1 (map sending_of sendings) packets.verdicts packets.paths

pub none_so_far : (topology : Network) (packets : Packets) (sendings : List Sent) (s : Stand) → PutSoFar topology packets sendings 0 s s
none_so_far topology packets sendings s = record { done = []; told = told_nothing s; left = refl }

pub one_more : (topology : Network) (packets : Packets) (sendings : List Sent) (i : ℕ) (d : Sent) (s t u : Stand) → i < length sendings →
    i < length packets.verdicts
    → length packets.paths ≡ length packets.verdicts → PutSoFar topology packets sendings i s t
    → Tells {T = Unit {0}} (packet_row topology packets i (get_or sendings i d)) t u (Ok tt) → PutSoFar topology packets sendings (i + 1) s u
one_more topology packets sendings i d s t u below there each x this =
    let row : List ℕ = packet_row topology packets i (get_or sendings i d) in
    record {
      done = x.done ++ row;
      told = told_more x.done row s t u x.told (told_by row t u this);
      left = append_assoc x.done row
          (packet_lines topology (i + 1 + 1) (drop (i + 1) (map sending_of sendings)) (drop (i + 1) packets.verdicts) (drop (i + 1) packets.paths))
          ∙ ap (λ words. x.done ++ words) (sym (row_left topology packets sendings i d below there each)) ∙ x.left;
    }

pub one_cut : (topology : Network) (packets : Packets) (sendings : List Sent) (i : ℕ) (d : Sent) (s t u : Stand) (e : DeviceBad) (r : Answer) → IsErrOnly r e
    → i < length sendings → i < length packets.verdicts
    → length packets.paths ≡ length packets.verdicts → PutSoFar topology packets sendings i s t
    → Tells {T = Unit {0}} (packet_row topology packets i (get_or sendings i d)) t u (Err e)
    → Tells (packet_lines topology 1 (map sending_of sendings) packets.verdicts packets.paths) s u r
one_cut topology packets sendings i d s t u e r from below there each x this =
    tells_within x.done (packet_row topology packets i (get_or sendings i d))
    (packet_lines topology (i + 1 + 1) (drop (i + 1) (map sending_of sendings)) (drop (i + 1) packets.verdicts) (drop (i + 1) packets.paths))
    (packet_lines topology 1 (map sending_of sendings) packets.verdicts packets.paths) s t u e r from x.told this
    (ap (λ words. x.done ++ words) (sym (row_left topology packets sendings i d below there each)) ∙ x.left)

no_more : (topology : Network) (number : ℕ) (sendings : List SentLine) (verdicts : List Verdict) (paths : List (List ℕ))
    → (sendings ≡ []) ⊎ (verdicts ≡ []) → packet_lines topology number sendings verdicts paths ≡ []
no_more topology number [] verdicts paths none = refl
no_more topology number (sending ∷ sendings) [] paths none = refl
no_more topology number (sending ∷ sendings) (verdict ∷ verdicts) paths (inl none) = cc
no_more topology number (sending ∷ sendings) (verdict ∷ verdicts) paths (inr none) = cc

either_ends : (i m n : ℕ) → min m n ≤ i → (n ≤ i) ⊎ (m ≤ i)
either_ends i m n past = elim (two_ways (nat_le n i)) [
  | inl is ↦ inl (at_most_tells n i is)
  | inr isnt ↦ let more : i < n = not_at_most_tells n i isnt in inr (omega arith)
]

pub all_put : (topology : Network) (packets : Packets) (sendings : List Sent) (i : ℕ) (s t : Stand) → min (length packets.verdicts) (length sendings) ≤ i
    → PutSoFar topology packets sendings i s t →
    Tells {T = Unit {0}} (packet_lines topology 1 (map sending_of sendings) packets.verdicts packets.paths) s t (Ok tt)
all_put topology packets sendings i s t past x =
    let none : (drop i (map sending_of sendings) ≡ []) ⊎ (drop i packets.verdicts ≡ []) =
    elim (either_ends i (length packets.verdicts) (length sendings) past) [
      | inl n ↦ inl (drop_all i (map sending_of sendings) (rw length-map n))
      | inr n ↦ inr (drop_all i packets.verdicts n)
    ] in
    let whole : x.done ≡ packet_lines topology 1 (map sending_of sendings) packets.verdicts packets.paths =
    sym (append-nil x.done)
    ∙ ap (λ words. x.done ++ words) (sym (no_more topology (i + 1) (drop i (map sending_of sendings)) (drop i packets.verdicts) (drop i packets.paths) none))
    ∙ x.left in
    tells_as x.done (packet_lines topology 1 (map sending_of sendings) packets.verdicts packets.paths) s t (Ok tt)
    (record { put = x.told.puts; part = tt; cause = x.told.faults }) whole

-- 3. What verdicts come to

counted_more : (test : Verdict → Bool) (verdicts : List Verdict) (verdict : Verdict) →
    count test (verdicts ++ verdict ∷ []) ≡ count test verdicts + count test (verdict ∷ [])
counted_more test [] verdict = omega arith
counted_more test (one ∷ verdicts) verdict =
    elim (test one) as (λ b. length (if b then one ∷ filter test (verdicts ++ verdict ∷ []) else filter test (verdicts ++ verdict ∷ []))
    ≡ length (if b then one ∷ filter test verdicts else filter test verdicts) + count test (verdict ∷ [])) [
      | true ↦ let more = counted_more test verdicts verdict in omega arith
      | false ↦ counted_more test verdicts verdict
    ]

same_counts : (a b c x y z : ℕ) → a ≡ x → b ≡ y → c ≡ z
    → (let one : Counts = record { delivered = a; dropped = b; flying = c } in let other : Counts = record { delivered = x; dropped = y; flying = z } in
    one ≡ other)
same_counts a b c x y z is_a is_b is_c =
    let first : ℕ → Counts = λ n. record { delivered = n; dropped = b; flying = c } in
    let second : ℕ → Counts = λ n. record { delivered = x; dropped = n; flying = c } in
    let third : ℕ → Counts = λ n. record { delivered = x; dropped = y; flying = n } in
    ap first is_a ∙ ap second is_b ∙ ap third is_c

-- a verdict that isn't of the kind
not_counted : (test : Verdict → Bool) (verdicts : List Verdict) (verdict : Verdict) → count test (verdict ∷ []) ≡ 0 →
    count test verdicts ≡ count test (verdicts ++ verdict ∷ [])
not_counted test verdicts verdict none = let more = counted_more test verdicts verdict in omega arith

is_counted : (test : Verdict → Bool) (verdicts : List Verdict) (verdict : Verdict) → count test (verdict ∷ []) ≡ 1 →
    count test verdicts + 1 ≡ count test (verdicts ++ verdict ∷ [])
is_counted test verdicts verdict one = let more = counted_more test verdicts verdict in omega arith

with_one : (verdicts : List Verdict) (verdict : Verdict) → with_verdict (counts_of verdicts) verdict ≡ counts_of (verdicts ++ verdict ∷ [])
with_one verdicts (Delivered ttl site copy) =
    same_counts _ _ _ _ _ _ (is_counted is_delivered verdicts (Delivered ttl site copy) refl) (not_counted is_dropped verdicts (Delivered ttl site copy) refl)
    (not_counted is_flying verdicts (Delivered ttl site copy) refl)
with_one verdicts (Dropped rule node) =
    same_counts _ _ _ _ _ _ (not_counted is_delivered verdicts (Dropped rule node) refl) (is_counted is_dropped verdicts (Dropped rule node) refl)
    (not_counted is_flying verdicts (Dropped rule node) refl)
with_one verdicts (Flying link dir) =
    same_counts _ _ _ _ _ _ (not_counted is_delivered verdicts (Flying link dir) refl) (not_counted is_dropped verdicts (Flying link dir) refl)
    (is_counted is_flying verdicts (Flying link dir) refl)

pub counted_next : (verdicts : List Verdict) (i : ℕ) (verdict : Verdict) (counts : Counts) → i < length verdicts →
    verdict ≡ slice_index_or verdicts i (Delivered 0 (record { 0 = 0 }) 0)
    → counts ≡ counts_of (take i verdicts) → with_verdict counts verdict ≡ counts_of (take (i + 1) verdicts)
counted_next verdicts i verdict counts below is_verdict is_counts =
    ap (λ (c : Counts). with_verdict c verdict) is_counts ∙ with_one (take i verdicts) verdict
    ∙ ap counts_of (ap (λ v. take i verdicts ++ v ∷ []) is_verdict ∙ sym (take_more verdicts i (Delivered 0 (record { 0 = 0 }) 0) below))

-- each is at most the number of verdicts
pub record AreWithin (counts : Counts) (n : ℕ) : Type 0 where
  pub delivered : counts.delivered ≤ n
  pub dropped : counts.dropped ≤ n
  pub flying : counts.flying ≤ n

within_next : (counts : Counts) (verdict : Verdict) (n : ℕ) → AreWithin counts n → AreWithin (with_verdict counts verdict) (n + 1)
within_next counts (Delivered ttl site copy) n h = record { delivered = omega arith; dropped = omega arith; flying = omega arith }
within_next counts (Dropped rule node) n h = record { delivered = omega arith; dropped = omega arith; flying = omega arith }
within_next counts (Flying link dir) n h = record { delivered = omega arith; dropped = omega arith; flying = omega arith }

pub within_more : (counts next : Counts) (verdict : Verdict) (n : ℕ) → AreWithin counts n → next ≡ with_verdict counts verdict → AreWithin next (n + 1)
within_more counts next verdict n h is = subst (λ c. AreWithin c (n + 1)) (sym is) (within_next counts verdict n h)
