-- What is true of every node's labels.
use Rattle.std.specs.Prelude.{◌≡◌, ℕ, ◌+◌, ◌-◌, ◌≤◌, ◌<◌, Bool, true, false, not, List, length, filter, drop, Option, Some, None, is_some, slice_index_or}
use Rattle.std.specs.List.{Contains, range_with_len}
use Rattle.mn_base.specs.declared.numbers.NodeNo.{NodeNo}
use Rattle.mn_base.specs.declared.numbers.SiteNo.{SiteNo}
use Rattle.mn_base.specs.Limits.{most_labels}
use Rattle.mn_labels.specs.declared.meaning.Bind.{Bind}
use Rattle.mn_labels.specs.declared.meaning.Bind.TheVariants.{Fec, Site}
use Rattle.mn_labels.specs.declared.meaning.Given.{Given}
use Rattle.mn_labels.specs.declared.table.Labels.TheInside.{Inside}
use Rattle.mn_labels.specs.Labels.{greatest, attachments_in}

-- by label from 16 on, what has it now
abbrev pub IsMeaning : List (Option Bind) → ℕ → Bind → Type 0
IsMeaning meanings label thing = (16 ≤ label) × (slice_index_or meanings (label - 16) None ≡ Some thing)

abbrev pub is_site : Option Bind → Bool
is_site None = false
is_site (Some (Fec node)) = false
is_site (Some (Site site number)) = true

-- the label isn't an attachment's
abbrev pub is_no_site : List (Option Bind) → ℕ → Bool
is_no_site meanings label = not (is_site (slice_index_or meanings (label - 16) None))

-- nothing has the label now
abbrev pub is_vacant : List (Option Bind) → ℕ → Bool
is_vacant meanings label = not (is_some (slice_index_or meanings (label - 16) None))

pub record AreKept (given : List Given) (fecs : List (Option ℕ)) (meanings : List (Option Bind)) (reusable : List ℕ) (me : ℕ) : Type 0 where
  pub fec : (node : NodeNo) (label : ℕ) → slice_index_or fecs node.0 None ≡ Some label → IsMeaning meanings label (Fec node)
  pub site : (site : SiteNo) (number label : ℕ) → Contains given (record { label = label; what = Site site number }) →
      IsMeaning meanings label (Site site number)
  pub had_fec : (node : NodeNo) (label : ℕ) → IsMeaning meanings label (Fec node) → slice_index_or fecs node.0 None ≡ Some label
  pub had_site : (site : SiteNo) (number label : ℕ) → IsMeaning meanings label (Site site number) →
      Contains given (record { label = label; what = Site site number })
  pub last : 15 + length meanings ≡ greatest given
  pub reused : reusable ≡ filter (is_no_site meanings) (range_with_len 16 (length meanings))
  pub count : length meanings ≡ attachments_in given + length reusable
  pub few : attachments_in given + length fecs ≤ most_labels + 1
  pub others : length reusable + 1 ≤ length fecs
  pub node : me < length fecs
  pub own : slice_index_or fecs me None ≡ None

-- labels that are passed once needn't be looked at again
pub record Stands (inside : Inside) : Type 0 where
  pub kept : AreKept inside.given.items inside.fecs.items inside.meanings.items inside.reusable.items inside.me.0
  pub passed : filter (is_vacant inside.meanings.items) (drop inside.passed inside.reusable.items) ≡ filter (is_vacant inside.meanings.items)
      inside.reusable.items
