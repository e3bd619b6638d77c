-- What of a failure is told at a time.
use Rattle.std.specs.Prelude.{◌≡◌, ◌+◌, ℕ, cond, if◌then◌else◌, List, [], ◌++◌, Option, Some, None, codes}
use Rattle.std.specs.List.{flat_map}
use Rattle.mn_topo.specs.Network.{Network}
use Rattle.mn_candidates.specs.declared.pairs.Pair.{Pair}
use Rattle.mn_candidates.specs.Pairs.{pairs_of}
use Rattle.mn_failures.specs.declared.command.Part.{Part}
use Rattle.mn_reach_run.specs.declared.settings.Settings.{Settings}
use Rattle.mn_reach_run.specs.declared.change.Change.{Change}
use Rattle.mn_reach_run.specs.declared.tell.Changes.{Changes}
use Rattle.mn_reach_run.specs.Fates.{fate_of, is_lost, is_moved}
use Rattle.mn_reach_run.specs.Lines.{pair_line, failure_text, changes_count_text}
use Rattle.mn_reach_run.specs.Report.{change_at, lost_among, moved_among}

-- a pair with nothing failed, and all of them
abbrev pub pair_told : Network → Settings → Pair → List ℕ
pair_told topology settings pair = pair_line topology pair (fate_of topology settings [] pair)

abbrev pub pairs_text : Network → Settings → List ℕ
pairs_text topology settings = flat_map (pair_told topology settings) (pairs_of topology)

-- a pair that a failure changes, where each loss is told
abbrev pub told_change : Network → Settings → ℕ → List Part → Pair → List ℕ
told_change topology settings number parts pair = if settings.counts then [] else change_at topology settings number parts pair

abbrev pub told_changes : Network → Settings → ℕ → List Part → List ℕ
told_changes topology settings number parts = flat_map (told_change topology settings number parts) (pairs_of topology)

abbrev pub no_changes : Changes
no_changes = record { lost = 0; moved = 0 }

-- with one pair more
abbrev pub with_change : Changes → Change → Changes
with_change changes change = record {
  lost = changes.lost + cond (is_lost change) 1 0;
  moved = changes.moved + cond (is_moved change) 1 0;
}

-- so many pairs of these are lost, and so many moved
pub record AreCounted (topology : Network) (settings : Settings) (parts : List Part) (pairs : List Pair) (changes : Changes) : Type 0 where
  pub lost : changes.lost ≡ lost_among topology settings parts pairs
  pub moved : changes.moved ≡ moved_among topology settings parts pairs

-- behind a failure's parts its line ends, or what it changes is told there
abbrev pub tail_text : Option Changes → List ℕ
tail_text None = codes "\n"
tail_text (Some changes) = changes_count_text changes.lost changes.moved

abbrev pub head_text : Network → ℕ → ℕ → List Part → Option Changes → List ℕ
head_text topology number line parts changes = failure_text topology number line parts ++ tail_text changes
