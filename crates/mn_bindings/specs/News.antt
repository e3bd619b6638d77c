-- Of which FECs something may have to be sent after a change of the bindings.
use Rattle.std.specs.Prelude.{ℕ, ◌≡◌, ◌≢◌, ◌≤◌, ◌<◌, ◌+◌, ◌&&◌, not, cond, true, List, [], ◌∷◌, map, Option, Some, None, ⊤}
use Rattle.std.specs.List.{All, flat_map, list_all, range_with_len}
use Rattle.std.specs.Option.{option_to_list}
use Rattle.mn_bindings.specs.declared.event.LibEvent.{LibEvent}
use Rattle.mn_bindings.specs.declared.event.LibEvent.TheVariants as event
use Rattle.mn_bindings.specs.declared.event.Tell.{Tell}
use Rattle.mn_bindings.specs.declared.news.SoFar.{SoFar}
use Rattle.mn_bindings.specs.Bindings.{Bindings, nodes, offers, after_events}
use Rattle.mn_bindings.specs.Tells.{tells_of, changes, offered}

-- the FEC that an event is of, by its node; none where a neighbour opens or closes
abbrev pub fec_of : LibEvent → Option ℕ
fec_of (event.Opened from) = None
fec_of (event.Closed from) = None
fec_of (event.Map from fec label) = Some fec.0
fec_of (event.Withdraw from fec) = Some fec.0
fec_of (event.Released from fec) = Some fec.0
fec_of (event.Next fec hop) = Some fec.0

abbrev pub fecs_in : List LibEvent → List ℕ
fecs_in events = flat_map (λ event. option_to_list (fec_of event)) events

-- each of these numbers is one of the node's FECs
abbrev pub AreBelow : ℕ → List ℕ → Type 0
AreBelow count [] = ⊤
AreBelow count (fec ∷ fecs) = (fec < count) × AreBelow count fecs

-- the FEC is none of these
abbrev pub Apart : ℕ → List ℕ → Type 0
Apart fec [] = ⊤
Apart fec (other ∷ others) = (fec ≢ other) × Apart fec others

abbrev pub IsFrom : ℕ → Option ℕ → Type 0
IsFrom least None = ⊥
IsFrom least (Some fec) = least ≤ fec

abbrev pub one_past : Option ℕ → ℕ
one_past None = 0
one_past (Some fec) = fec + 1

-- each event is of a FEC, from this one on, in node order, and none twice
abbrev pub InOrder : ℕ → List LibEvent → Type 0
InOrder least [] = ⊤
InOrder least (event ∷ events) = IsFrom least (fec_of event) × InOrder (one_past (fec_of event)) events

-- the FEC and whether it is offered
abbrev pub so_far : Bindings → ℕ → SoFar
so_far bindings fec = record { fec = record { 0 = fec }; offered = offers bindings fec }

abbrev pub so_far_in : Bindings → LibEvent → List SoFar
so_far_in bindings event = map (so_far bindings) (option_to_list (fec_of event))

-- each event is of a FEC, in node order and none twice, and all of these are offered already
abbrev pub AreOfOffered : Bindings → List LibEvent → Type 0
AreOfOffered bindings events = InOrder 0 events × (list_all (λ so_far. so_far.offered) (flat_map (so_far_in bindings) events) ≡ true)

-- what is sent for a FEC since then
abbrev pub told_since : Bindings → List LibEvent → SoFar → List Tell
told_since after events before = tells_of before.offered after events before.fec.0

-- the FECs whose offer ended, in node order
abbrev pub ended_of : Bindings → Bindings → ℕ → List ℕ
ended_of before after fec = cond (offers before fec && not (offers after fec)) (fec ∷ []) []

abbrev pub ended : Bindings → Bindings → List ℕ
ended before after = flat_map (ended_of before after) (range_with_len 0 (nodes before))

abbrev pub ended_since : Bindings → SoFar → List ℕ
ended_since after before = cond (before.offered && not (offers after before.fec.0)) (before.fec.0 ∷ []) []

-- the FECs that are offered newly, in node order
abbrev pub begun_of : Bindings → Bindings → ℕ → List ℕ
begun_of before after fec = cond (not (offers before fec) && offers after fec) (fec ∷ []) []

abbrev pub begun : Bindings → Bindings → List ℕ
begun before after = flat_map (begun_of before after) (range_with_len 0 (nodes before))

abbrev pub begun_since : Bindings → SoFar → List ℕ
begun_since after before = cond (not before.offered && offers after before.fec.0) (before.fec.0 ∷ []) []

-- these FECs are of the node's, and of no other one anything must be sent, nor has its offer begun or ended
pub record AreAllNews (bindings : Bindings) (events : List LibEvent) (all : List SoFar) : Type 0 where
  pub below : All (λ before. before.fec.0 < nodes bindings) all
  pub ends : ended bindings (after_events bindings events) ≡ flat_map (ended_since (after_events bindings events)) all
  pub begins : begun bindings (after_events bindings events) ≡ flat_map (begun_since (after_events bindings events)) all
  pub news : changes (offered bindings) (after_events bindings events) events ≡ flat_map (told_since (after_events bindings events) events) all
