-- What tables ask of a network, in the ledger's words.
use Rattle.std.specs.Prelude.{ℕ, List, filter, length}
use Rattle.mn_ledger.specs.Items.{Item}
use Rattle.mn_course_laws.specs.declared.coming.Kind.{Kind}
use Rattle.mn_course_laws.specs.Coming.{is_kind, kind_of}

-- how many of a kind are in flight
abbrev pub count_of : Kind → List Item → ℕ
count_of kind items = length (filter (λ item. is_kind kind (kind_of item.on)) items)
