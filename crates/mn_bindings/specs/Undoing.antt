-- What puts events back, where memory ran out after they were taken.
use Rattle.std.specs.Prelude.{ℕ, List, [], ◌∷◌, slice_index_or, slice_set, Option, None}
use Rattle.mn_bindings.specs.declared.event.LibEvent.{LibEvent}
use Rattle.mn_bindings.specs.declared.event.LibEvent.TheVariants.{Opened, Closed, Map, Withdraw, Released, Next}
use Rattle.mn_bindings.specs.declared.undo.Undo.{Undo}
use Rattle.mn_bindings.specs.declared.undo.Undo.TheVariants.{Row, Label, Nothing, Hop}
use Rattle.mn_bindings.specs.Bindings.{Bindings, row_of, with_label, label_learned}

abbrev pub heard_label : Bindings → ℕ → ℕ → Option ℕ → Bindings
heard_label bindings from fec label = record bindings { heard = slice_set bindings.heard from (with_label (row_of bindings from) fec label) }

abbrev pub undone : Bindings → Undo → Bindings
undone bindings (Row from row) = record bindings { heard = slice_set bindings.heard from.0 row }
undone bindings (Label from fec label) = heard_label bindings from.0 fec.0 label
undone bindings Nothing = bindings
undone bindings (Hop fec hop) = record bindings { hops = slice_set bindings.hops fec.0 hop }

-- what puts this event back
abbrev pub undo_of : Bindings → LibEvent → Undo
undo_of bindings (Opened from) = Row from None
undo_of bindings (Closed from) = Row from (row_of bindings from.0)
undo_of bindings (Map from fec label) = Label from fec (label_learned (row_of bindings from.0) fec.0)
undo_of bindings (Withdraw from fec) = Label from fec (label_learned (row_of bindings from.0) fec.0)
undo_of bindings (Released from fec) = Nothing
undo_of bindings (Next fec hop) = Hop fec (slice_index_or bindings.hops fec.0 None)

-- the last one is put back first
abbrev pub all_undone : Bindings → List Undo → Bindings
all_undone bindings [] = bindings
all_undone bindings (undo ∷ undos) = undone (all_undone bindings undos) undo
