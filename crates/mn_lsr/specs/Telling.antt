-- What the bindings tell, sent on the links that join the node with its neighbours.
use Rattle.std.specs.Prelude.{Bool, true, false, ℕ, ◌≡◌, ◌<◌, ◌==◌, if◌then◌else◌, List, [], ◌∷◌, length, slice_index_or, Option, Some, None, option_map, ⊤}
use Rattle.std.specs.Option.{option_to_list}
use Rattle.std.specs.List.{flat_map}
use Rattle.mn_base.specs.declared.numbers.LinkNo.{LinkNo}
use Rattle.mn_wiring.specs.Wiring.{Wiring, joining}
use Rattle.mn_wiring.specs.declared.links.LinkEnds.{LinkEnds}
use Rattle.mn_ldp_wire.specs.Grammar.{IsLabel}
use Rattle.mn_labels.specs.Labels.{Labels}
use Rattle.mn_lsr.specs.Message.{HasOne}
use Rattle.mn_node.specs.Ldp.{Message, Mapping, Withdraw, Release, Said, said_on}
use Rattle.mn_bindings.specs.declared.event.LibEvent.{LibEvent}
use Rattle.mn_bindings.specs.declared.event.LibEvent.TheVariants as event
use Rattle.mn_bindings.specs.declared.event.Tell.{Tell}
use Rattle.mn_bindings.specs.declared.event.TellKind.{TellKind}
use Rattle.mn_bindings.specs.declared.event.TellKind.TheVariants as tells

-- the link's other end
abbrev pub other_end : LinkEnds → ℕ → ℕ
other_end link me = if link.a.0 == me then link.b.0 else link.a.0

abbrev pub as_number : LinkNo → ℕ
as_number link = link.0

-- by neighbour, the link that joins the node with it, where one does
pub record AreLinks (wiring : Wiring) (me : ℕ) (links : List (Option LinkNo)) : Type 0 where
  pub there : (to : ℕ) (link : LinkNo) → slice_index_or links to None ≡ Some link → link.0 < length wiring.ends
  pub join : (to : ℕ) → joining wiring me to ≡ option_to_list (option_map as_number (slice_index_or links to None))

abbrev pub message_of : TellKind → ℕ → Message
message_of tells.Map fec = Mapping fec
message_of tells.Withdraw fec = Withdraw fec
message_of tells.Release fec = Release fec

abbrev pub said_by_tell : Wiring → ℕ → Tell → List Said
said_by_tell wiring me tell = flat_map (λ l. said_on l me (message_of tell.kind tell.fec.0 ∷ [])) (joining wiring me tell.to.0)

-- all that happens is that one neighbour opens
abbrev pub opens_one : List LibEvent → Bool
opens_one (event.Opened from ∷ []) = true
opens_one _ = false

-- a Release brings a lawful label, and what maps or withdraws a FEC the one that it has
abbrev pub MayBring : ℕ → Labels → ℕ → TellKind → ℕ → Type 0
MayBring me labels withdrawn tells.Release fec = IsLabel withdrawn
MayBring me labels withdrawn tells.Map fec = HasOne me labels fec
MayBring me labels withdrawn tells.Withdraw fec = HasOne me labels fec

-- each tell is of one of these nodes' FECs
abbrev pub MayTell : ℕ → ℕ → Labels → ℕ → List Tell → Type 0
MayTell nodes me labels withdrawn [] = ⊤
MayTell nodes me labels withdrawn (tell ∷ rest) =
    (tell.fec.0 < nodes) × MayBring me labels withdrawn tell.kind tell.fec.0 × MayTell nodes me labels withdrawn rest
