-- What a node has received of labels, and what it may use: RFC 5036, section 2.6.2.2 (what is received from any neighbour is kept).
use Rattle.std.specs.Prelude.{ℕ, ◌≡◌, ◌<◌, ◌≢◌, ◌==◌, ◌||◌, Bool, true, false, List, [], ◌∷◌, length, slice_index_or, slice_set, replicate, Option, Some}
use Rattle.std.specs.Prelude.{None, is_some, ⊤}
use Rattle.mn_base.specs.declared.numbers.NodeNo.{NodeNo}
use Rattle.mn_bindings.specs.declared.event.LibEvent.{LibEvent}
use Rattle.mn_bindings.specs.declared.event.LibEvent.TheVariants.{Opened, Closed, Map, Withdraw, Released, Next}

-- what contracts see of a Lib
pub record Bindings : Type 0 where
  pub me : NodeNo
  pub heard : List (Option (List (Option ℕ)))  -- by neighbour, the label that it advertised last of each FEC; none where it isn't open
  pub hops : List (Option NodeNo)  -- by FEC, the next hop

-- at the start: no neighbour of these many nodes is open, and no FEC has a next hop
abbrev pub nothing_heard : NodeNo → ℕ → Bindings
nothing_heard me count = record { me = me; heard = replicate count None; hops = replicate count None }

-- how many nodes there are, and so FECs
abbrev pub nodes : Bindings → ℕ
nodes bindings = length bindings.hops

-- what an open neighbour advertised
abbrev pub row_of : Bindings → ℕ → Option (List (Option ℕ))
row_of bindings neighbour = slice_index_or bindings.heard neighbour None

-- the node is OPERATIONAL with this neighbour
abbrev pub is_open : Bindings → ℕ → Bool
is_open bindings neighbour = is_some (row_of bindings neighbour)

-- the label of a FEC, where the last that was advertised for it is a Mapping
abbrev pub label_learned : Option (List (Option ℕ)) → ℕ → Option ℕ
label_learned None fec = None
label_learned (Some row) fec = slice_index_or row fec None

abbrev pub labelled : NodeNo → Option ℕ → Option (NodeNo × ℕ)
labelled hop None = None
labelled hop (Some label) = Some (hop, label)

abbrev pub usable_by : Bindings → ℕ → Option NodeNo → Option (NodeNo × ℕ)
usable_by bindings fec None = None
usable_by bindings fec (Some hop) = labelled hop (label_learned (row_of bindings hop.0) fec)

-- the next hop and its label, where it is open and mapped the FEC
abbrev pub usable : Bindings → ℕ → Option (NodeNo × ℕ)
usable bindings fec = usable_by bindings fec (slice_index_or bindings.hops fec None)

-- section 2.6.1.2: a node maps its own FEC, and another one once its next hop has mapped it
abbrev pub offers : Bindings → ℕ → Bool
offers bindings fec = (bindings.me.0 == fec) || is_some (usable bindings fec)

abbrev pub with_label : Option (List (Option ℕ)) → ℕ → Option ℕ → Option (List (Option ℕ))
with_label None fec label = None
with_label (Some row) fec label = Some (slice_set row fec label)

-- A neighbour that opens has advertised nothing yet, and what one that closes advertised is forgotten. A Release says nothing of the neighbour's labels.
abbrev pub after_event : Bindings → LibEvent → Bindings
after_event bindings (Opened from) = record bindings { heard = slice_set bindings.heard from.0 (Some (replicate (nodes bindings) None)) }
after_event bindings (Closed from) = record bindings { heard = slice_set bindings.heard from.0 None }
after_event bindings (Map from fec label) = record bindings { heard = slice_set bindings.heard from.0 (with_label (row_of bindings from.0) fec.0 (Some label)) }
after_event bindings (Withdraw from fec) = record bindings { heard = slice_set bindings.heard from.0 (with_label (row_of bindings from.0) fec.0 None) }
after_event bindings (Released from fec) = bindings
after_event bindings (Next fec hop) = record bindings { hops = slice_set bindings.hops fec.0 hop }

abbrev pub after_events : Bindings → List LibEvent → Bindings
after_events bindings [] = bindings
after_events bindings (event ∷ events) = after_events (after_event bindings event) events

-- a hop is one of the nodes, and another than this one
abbrev pub HopFits : Bindings → Option NodeNo → Type 0
HopFits bindings None = ⊤
HopFits bindings (Some hop) = (hop.0 < nodes bindings) × (hop.0 ≢ bindings.me.0)

-- the event may happen: a neighbour opens that isn't open, one that is open closes or says something, and a FEC is a node
abbrev pub EventFits : Bindings → LibEvent → Type 0
EventFits bindings (Opened from) = (from.0 < nodes bindings) × (is_open bindings from.0 ≡ false)
EventFits bindings (Closed from) = (from.0 < nodes bindings) × (is_open bindings from.0 ≡ true)
EventFits bindings (Map from fec label) = (from.0 < nodes bindings) × (is_open bindings from.0 ≡ true) × (fec.0 < nodes bindings)
EventFits bindings (Withdraw from fec) = (from.0 < nodes bindings) × (is_open bindings from.0 ≡ true) × (fec.0 < nodes bindings)
EventFits bindings (Released from fec) = (from.0 < nodes bindings) × (is_open bindings from.0 ≡ true) × (fec.0 < nodes bindings)
EventFits bindings (Next fec hop) = (fec.0 < nodes bindings) × (fec.0 ≢ bindings.me.0) × HopFits bindings hop

-- each event may happen once those before it have
abbrev pub EventsFit : Bindings → List LibEvent → Type 0
EventsFit bindings [] = ⊤
EventsFit bindings (event ∷ events) = EventFits bindings event × EventsFit (after_event bindings event) events
