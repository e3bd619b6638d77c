-- What is known of each pair, and what is told of it.
use Rattle.std.proofs.Common.{◌≡◌, ◌<◌, ◌≤◌, ◌+◌, ℕ, Bool, true, false, List, [], ◌∷◌, ◌++◌, length, get_or, take, map, refl, ap, sym, ◌∙◌, arith, subst, Some}
use Rattle.std.proofs.Common.{None, Result, Ok, Err, OnOk, cond}
use Rattle.std.specs.Prelude.{if◌then◌else◌, codes}
use Rattle.std.specs.List.{flat_map}
use Rattle.std.proofs.lemmas.List.Filters.{length-filter_more}
use Rattle.std.proofs.lemmas.List.{get_or_default, length-map, map-append, take_more}
use Rattle.mn_topo.specs.Network.{Network}
use Rattle.mn_fate_laws.specs.Fate.{Fate}
use Rattle.mn_failure_laws.specs.Fates.{fate_under}
use Rattle.mn_candidates.specs.declared.pairs.Pair.{Pair}
use Rattle.mn_candidates.specs.Pairs.{pairs_of}
use Rattle.mn_failures.specs.declared.command.Part.{Part}
use Rattle.mn_reach.specs.declared.verdict.Verdict.{Verdict}
use Rattle.mn_reach.specs.Plans.{Plan, IsOf, no_pair, pair_at}
use Rattle.mn_reach.specs.Reaching.{Reaching, failure_of, nothing_gone}
use Rattle.mn_reach.specs.Touched.{AreMarked}
use Rattle.mn_reach.specs.Verdicts.{fate_as}
use Rattle.mn_reach_run.specs.declared.found.Found.{Found}
use Rattle.mn_reach_run.specs.declared.change.Change.{Change}
use Rattle.mn_reach_run.specs.declared.change.Change.TheVariants.{Nothing}
use Rattle.mn_reach_run.specs.declared.settings.Settings.{Settings}
use Rattle.mn_reach_run.specs.declared.sums.Sums.{Sums}
use Rattle.mn_reach_run.specs.declared.tell.Changes.{Changes}
use Rattle.mn_reach_run.specs.Fates.{resolves, network_by, fate_of, change_between, change_of, is_lost, is_moved}
use Rattle.mn_reach_run.specs.Lines.{pair_line, change_line, failure_text, changes_count_text}
use Rattle.mn_reach_run.specs.Report.{Under, change_at, lost_among, moved_among, under_text, plus, capped, sums_of}
use Rattle.mn_reach_run.specs.Telling.{pair_told, told_change, told_changes, head_text, with_change, AreCounted}
use Rattle.mn_reach_run.specs.Playing.{HaveFailed, IsReady, IsKnown}
use Rattle.mn_reach_run.proofs.Counting.{capped_plus}
use Rattle.mn_reach_run.proofs.Fated.{HasFates, found_at, under_parts, under_none, no_change}

pub on_ok : {T E : Type 0} (r : Result T E) (P : Type 0) → P → OnOk r P
on_ok (Ok x) P p = p
on_ok (Err e) P p = tt

-- 1. Pairs by their places

-- as they were planned, and as the topology has them
pub pair_is : (topology : Network) (reaching : Reaching) → IsReady topology reaching → (k : ℕ) → get_or (pairs_of topology) k no_pair ≡ pair_at reaching.plan k
pair_is topology reaching ready k = ap (λ ps. get_or ps k no_pair) (sym ready.pairs)

pub pair_there : (topology : Network) (reaching : Reaching) → IsReady topology reaching → (k : ℕ) (pair : Pair) → k < length (pairs_of topology) →
    pair ≡ get_or reaching.plan.pairs k pair → pair ≡ pair_at reaching.plan k
pair_there topology reaching ready k pair below is =
    is ∙ get_or_default reaching.plan.pairs k pair no_pair (subst (λ (ps : List Pair). k < length ps) (sym ready.pairs) below)

-- 2. What becomes of each with nothing failed

module _ (topology : Network) (settings : Settings) (parts : List Part) (found : Found) (known : IsKnown topology settings parts found) where
  pub whole_each : length found.whole.items ≡ length (pairs_of topology)
  whole_each = sym (length-map found.whole.items fate_as) ∙ ap length known.whole ∙ length-map (pairs_of topology) (fate_of topology settings [])

  pub whole_is : (k : ℕ) (verdict : Verdict) → k < length (pairs_of topology) → verdict ≡ get_or found.whole.items k verdict →
      fate_as verdict ≡ fate_of topology settings [] (pair_at found.reach.plan k)
  whole_is k verdict below is =
      found_at fate_as (fate_of topology settings []) found.whole.items (pairs_of topology) k verdict (pair_at found.reach.plan k) known.whole below is
      (sym (pair_is topology found.reach known.ready k) ∙ get_or_default (pairs_of topology) k no_pair (pair_at found.reach.plan k) below)

  -- the line of one
  pub pair_row : (k : ℕ) (pair : Pair) (verdict : Verdict) → k < length (pairs_of topology) → pair ≡ get_or found.reach.plan.pairs k pair →
      verdict ≡ get_or found.whole.items k verdict →
      pair_line topology pair (fate_as verdict) ≡ pair_told topology settings (get_or (pairs_of topology) k no_pair)
  pair_row k pair verdict below is found_is =
      ap (pair_line topology pair) (whole_is k verdict below found_is)
      ∙ ap (λ p. pair_line topology p (fate_of topology settings [] (pair_at found.reach.plan k))) (pair_there topology found.reach known.ready k pair below is)
      ∙ ap (pair_told topology settings) (sym (pair_is topology found.reach known.ready k))

-- 3. Sessions between edges that no links join end, or stay

pub ready_so : (topology : Network) (old new : Reaching) → IsReady topology old → new.plan ≡ old.plan → IsReady topology new
ready_so topology old new ready is = record {
  of = subst (IsOf topology) (sym is) ready.of;
  pairs = ap (λ (plan : Plan). plan.pairs) is ∙ ready.pairs;
  few = ready.few;
}

-- 4. Pairs that are lost or moved, counted one by one

module _ (topology : Network) (settings : Settings) (parts : List Part) (pairs : List Pair) (k : ℕ) (d : Pair) (below : k < length pairs)
    (changes : Changes) (counted : AreCounted topology settings parts (take k pairs) changes) where
  pub count_more : (change : Change) → change ≡ change_of topology settings parts (get_or pairs k d) →
      AreCounted topology settings parts (take (k + 1) pairs) (with_change changes change)
  count_more change is = record {
    lost = ap (λ n. n + cond (is_lost change) 1 0) counted.lost
        ∙ ap (λ ch. lost_among topology settings parts (take k pairs) + cond (is_lost ch) 1 0) is
        ∙ sym (length-filter_more (λ pair. is_lost (change_of topology settings parts pair)) pairs k d below);
    moved = ap (λ n. n + cond (is_moved change) 1 0) counted.moved
        ∙ ap (λ ch. moved_among topology settings parts (take k pairs) + cond (is_moved ch) 1 0) is
        ∙ sym (length-filter_more (λ pair. is_moved (change_of topology settings parts pair)) pairs k d below);
  }

-- by the pair as it was planned
pub count_next : (topology : Network) (settings : Settings) (parts : List Part) (found : Found) → IsKnown topology settings parts found → (k : ℕ) →
    k < length (pairs_of topology) → (changes next : Changes) (change : Change) → AreCounted topology settings parts (take k (pairs_of topology)) changes →
    change ≡ change_of topology settings parts (pair_at found.reach.plan k) → next ≡ with_change changes change →
    AreCounted topology settings parts (take (k + 1) (pairs_of topology)) next
count_next topology settings parts found known k below changes next change counted is next_is =
    subst (AreCounted topology settings parts (take (k + 1) (pairs_of topology))) (sym next_is)
    (count_more topology settings parts (pairs_of topology) k no_pair below changes counted change
    (is ∙ ap (change_of topology settings parts) (sym (pair_is topology found.reach known.ready k))))

pub few_more : (n k : ℕ) (b : Bool) → n ≤ k → n + cond b 1 0 ≤ k + 1
few_more n k true few = omega (arith, few)
few_more n k false few = omega (arith, few)

-- 5. What is told where only counts are

pub nothing_flat : {X : Type 0} (f : X → List ℕ) (xs : List X) → ((x : X) → f x ≡ []) → flat_map f xs ≡ []
nothing_flat f [] none = refl
nothing_flat f (x ∷ xs) none = ap (λ ys. ys ++ flat_map f xs) (none x) ∙ nothing_flat f xs none

pub no_lines : (topology : Network) (settings : Settings) (count : ℕ) (parts : List Part) → settings.counts ≡ true →
    told_changes topology settings count parts ≡ []
no_lines topology settings count parts is =
    nothing_flat (told_change topology settings count parts) (pairs_of topology)
    (λ pair. ap (λ b. if b then [] else change_at topology settings count parts pair) is)

pub all_lines : (topology : Network) (settings : Settings) (count : ℕ) (parts : List Part) → settings.counts ≡ false →
    told_changes topology settings count parts ≡ flat_map (change_at topology settings count parts) (pairs_of topology)
all_lines topology settings count parts is =
    same_flat (told_change topology settings count parts) (change_at topology settings count parts) (pairs_of topology)
    (λ pair. ap (λ b. if b then [] else change_at topology settings count parts pair) is)
  where
    same_flat : {X : Type 0} (f h : X → List ℕ) (xs : List X) → ((x : X) → f x ≡ h x) → flat_map f xs ≡ flat_map h xs
    same_flat f h [] same = refl
    same_flat f h (x ∷ xs) same = ap (λ ys. ys ++ flat_map f xs) (same x) ∙ ap (λ ys. h x ++ ys) (same_flat f h xs same)

-- of one pair
pub no_line : (topology : Network) (settings : Settings) (count : ℕ) (parts : List Part) (pair : Pair) → settings.counts ≡ true →
    [] ≡ told_change topology settings count parts pair
no_line topology settings count parts pair is = sym (ap (λ b. if b then [] else change_at topology settings count parts pair) is)

pub a_line : (topology : Network) (settings : Settings) (count : ℕ) (parts : List Part) (pair : Pair) → settings.counts ≡ false →
    change_at topology settings count parts pair ≡ told_change topology settings count parts pair
a_line topology settings count parts pair is = sym (ap (λ b. if b then [] else change_at topology settings count parts pair) is)

pub line_is : (topology : Network) (reaching : Reaching) → IsReady topology reaching → (k : ℕ) → k < length (pairs_of topology) → (pair : Pair) →
    pair ≡ get_or reaching.plan.pairs k pair → (count : ℕ) (change : Change) (fate : Fate) →
    change_line topology count pair change fate ≡ change_line topology count (pair_at reaching.plan k) change fate
line_is topology reaching ready k below pair is count change fate =
    ap (λ p. change_line topology count p change fate) (pair_there topology reaching ready k pair below is)

-- 6. The text of a failure, by its pieces

pub by_counts : (topology : Network) (settings : Settings) (count line : ℕ) (parts : List Part) (changes : Changes) → settings.counts ≡ true →
    AreCounted topology settings parts (pairs_of topology) changes →
    head_text topology count line parts (Some changes) ≡ under_text topology settings count line parts
by_counts topology settings count line parts changes is counted =
    ap (λ n. failure_text topology count line parts ++ changes_count_text n changes.moved) counted.lost
    ∙ ap (λ n. failure_text topology count line parts ++ changes_count_text (lost_among topology settings parts (pairs_of topology)) n) counted.moved
    ∙ sym (ap (λ b. if b then failure_text topology count line parts
    ++ changes_count_text (lost_among topology settings parts (pairs_of topology)) (moved_among topology settings parts (pairs_of topology))
    else (failure_text topology count line parts ++ codes "\n") ++ flat_map (change_at topology settings count parts) (pairs_of topology)) is)

pub by_losses : (topology : Network) (settings : Settings) (count line : ℕ) (parts : List Part) → settings.counts ≡ false →
    head_text topology count line parts None ++ told_changes topology settings count parts ≡ under_text topology settings count line parts
by_losses topology settings count line parts is =
    ap (λ ys. head_text topology count line parts None ++ ys) (all_lines topology settings count parts is)
    ∙ sym (ap (λ b. if b then failure_text topology count line parts
    ++ changes_count_text (lost_among topology settings parts (pairs_of topology)) (moved_among topology settings parts (pairs_of topology))
    else (failure_text topology count line parts ++ codes "\n") ++ flat_map (change_at topology settings count parts) (pairs_of topology)) is)

-- 7. What a failure changes for a pair

-- it has no mark
pub unmarked_stays : (topology : Network) (settings : Settings) (found : Found) → IsReady topology found.reach →
    AreMarked topology found.reach found.touched.items → (k : ℕ)
    (mark : Bool) → k < length (pairs_of topology) → mark ≡ get_or found.touched.items k mark → mark ≡ false →
    fate_under (network_by topology settings.resolve) (failure_of found.reach) (pair_at found.reach.plan k).site.0 settings.ttl
    (pair_at found.reach.plan k).address
    ≡ fate_under (network_by topology settings.resolve) (nothing_gone found.reach.ends) (pair_at found.reach.plan k).site.0 settings.ttl
    (pair_at found.reach.plan k).address
unmarked_stays topology settings found ready marked k mark below is off =
    let there : k < length found.reach.plan.pairs = subst (λ (ps : List Pair). k < length ps) (sym ready.pairs) below in
    marked.stays k (resolves settings.resolve topology.resolve) settings.ttl there (
    get_or_default found.touched.items k false mark (subst (λ n. k < n) (sym marked.each) there) ∙ sym is ∙ off)

module _ (topology : Network) (settings : Settings) (parts : List Part) (found : Found) (known : IsKnown topology settings parts found)
    (alike : HasFates (network_by topology settings.resolve)) (k : ℕ) (below : k < length (pairs_of topology)) where
  -- it is spared
  pub spared_nothing :
      fate_under (network_by topology settings.resolve) (failure_of found.reach) (pair_at found.reach.plan k).site.0 settings.ttl
      (pair_at found.reach.plan k).address
      ≡ fate_under (network_by topology settings.resolve) (nothing_gone found.reach.ends) (pair_at found.reach.plan k).site.0 settings.ttl
      (pair_at found.reach.plan k).address →
      Nothing ≡ change_of topology settings parts (pair_at found.reach.plan k)
  spared_nothing stays =
      sym (ap (change_between (fate_of topology settings [] (pair_at found.reach.plan k)))
      (sym (under_parts topology settings parts found.reach known.ready known.failed k below alike) ∙ stays
      ∙ under_none topology settings parts found.reach known.ready known.failed k below alike)
      ∙ no_change (fate_of topology settings [] (pair_at found.reach.plan k)))

  pub spared_line : Nothing ≡ change_of topology settings parts (pair_at found.reach.plan k) → (number : ℕ) (fate : Fate) →
      change_line topology number (pair_at found.reach.plan k) Nothing fate ≡ change_at topology settings number parts (pair_at found.reach.plan k)
  spared_line is number fate =
      ap (λ change. change_line topology number (pair_at found.reach.plan k) change (fate_of topology settings parts (pair_at found.reach.plan k))) is

  -- its verdict was found
  module _ (verdict whole : Verdict) (change : Change)
      (is : fate_as verdict ≡ fate_under (network_by topology settings.resolve) (failure_of found.reach) (pair_at found.reach.plan k).site.0 settings.ttl
      (pair_at found.reach.plan k).address)
      (was : whole ≡ get_or found.whole.items k whole) (changed : change ≡ change_between (fate_as whole) (fate_as verdict)) where
    now_is : fate_as verdict ≡ fate_of topology settings parts (pair_at found.reach.plan k)
    now_is = is ∙ under_parts topology settings parts found.reach known.ready known.failed k below alike

    pub found_change : change ≡ change_of topology settings parts (pair_at found.reach.plan k)
    found_change =
        changed ∙ ap (λ f. change_between f (fate_as verdict)) (whole_is topology settings parts found known k whole below was)
        ∙ ap (change_between (fate_of topology settings [] (pair_at found.reach.plan k))) now_is

    pub found_line : (number : ℕ) → change_line topology number (pair_at found.reach.plan k) change (fate_as verdict)
        ≡ change_at topology settings number parts (pair_at found.reach.plan k)
    found_line number =
        ap (λ ch. change_line topology number (pair_at found.reach.plan k) ch (fate_as verdict)) found_change
        ∙ ap (change_line topology number (pair_at found.reach.plan k) (change_of topology settings parts (pair_at found.reach.plan k))) now_is

-- 8. One pair more, with nothing failed

pub whole_more : (topology : Network) (settings : Settings) (k : ℕ) (verdicts more : List Verdict) (verdict : Verdict) (pair : Pair) →
    k < length (pairs_of topology) →
    pair ≡ get_or (pairs_of topology) k no_pair → map fate_as verdicts ≡ map (fate_of topology settings []) (take k (pairs_of topology)) →
    more ≡ verdicts ++ verdict ∷ [] → fate_as verdict ≡ fate_of topology settings [] pair →
    map fate_as more ≡ map (fate_of topology settings []) (take (k + 1) (pairs_of topology))
whole_more topology settings k verdicts more verdict pair below is so_far push fate =
    ap (map fate_as) push ∙ map-append fate_as verdicts (verdict ∷ []) ∙ ap (λ xs. xs ++ fate_as verdict ∷ []) so_far
    ∙ ap (λ f. map (fate_of topology settings []) (take k (pairs_of topology)) ++ f ∷ []) (fate ∙ ap (fate_of topology settings []) is)
    ∙ sym (map-append (fate_of topology settings []) (take k (pairs_of topology)) (get_or (pairs_of topology) k no_pair ∷ []))
    ∙ ap (map (fate_of topology settings [])) (sym (take_more (pairs_of topology) k no_pair below))

-- 9. Parts fail, or are mended

pub known_so : (topology : Network) (settings : Settings) (parts more : List Part) (old new : Found) → IsKnown topology settings parts old →
    new.reach.plan ≡ old.reach.plan → new.whole.items ≡ old.whole.items → HaveFailed topology settings.ends more new.reach → IsKnown topology settings more new
known_so topology settings parts more old new known plan whole failed = record {
  ready = ready_so topology old.reach new.reach known.ready plan;
  least = known.least;
  most = known.most;
  failed = failed;
  whole = ap (map fate_as) whole ∙ known.whole;
}

-- 10. One failure more

pub sums_next : (topology : Network) (settings : Settings) (line : ℕ) (parts : List Part) (sums exact : Sums) (next : Sums) (more : Sums) →
    sums ≡ capped exact →
    more.verdicts ≡ length (pairs_of topology) → AreCounted topology settings parts (pairs_of topology) (record { lost = more.lost; moved = more.moved }) →
    next ≡ capped (plus sums more) → more.failures ≡ 1 → next ≡ capped (plus exact (sums_of topology (Under settings (exact.failures + 1) line parts)))
sums_next topology settings line parts sums exact next more is verdicts counted next_is one =
    next_is ∙ ap (λ s. capped (plus s more)) is ∙ capped_plus exact more
    ∙ ap (λ s. capped (plus exact s)) (rw (one, verdicts, counted.lost, counted.moved) refl)
