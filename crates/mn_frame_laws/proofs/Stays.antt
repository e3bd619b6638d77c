-- Where a frame's labels are kept, it is still that of its packet.
use Rattle.std.proofs.Common.{ℕ, ◌≡◌, ◌≢◌, Bool, true, false, List, [], ◌∷◌, refl, sym, ◌∙◌, ap}
use Rattle.std.specs.Prelude.{◌==◌, if◌then◌else◌}
use Rattle.mn_base.proofs.Bools.{two_ways, other_numbers, same_numbers}
use Rattle.mn_topo.specs.Network.{Network}
use Rattle.mn_ledger.specs.Packets.{Token}
use Rattle.mn_frame_laws.specs.Given.{Labelling, label_for, label_in, fec_of, attachment_of}
use Rattle.mn_frame_laws.specs.Frames.{entry, inner, IsFrameOf, IsSound}
use Rattle.mn_frame_laws.specs.Laws.{KeepsBoth, FramesStay}

stack_stays : (earlier later : Labelling) (x : Token) (to : ℕ) (b : Bool) → KeepsBoth earlier later x to → (to == x.edge) ≡ b →
    (if b then inner later x x.ttl ∷ [] else entry (label_for later to x.edge) false x.ttl ∷ inner later x x.pushed ∷ [])
    ≡ (if b then inner earlier x x.ttl ∷ [] else entry (label_for earlier to x.edge) false x.ttl ∷ inner earlier x x.pushed ∷ [])
stack_stays earlier later x to true keeps e = ap (λ l. entry l true x.ttl ∷ []) keeps.inner.label
stack_stays earlier later x to false keeps e =
    let outer : label_for later to x.edge ≡ label_for earlier to x.edge = rw e ((keeps.outer (other_numbers to x.edge e)).label) in
    ap (λ l. entry l false x.ttl ∷ inner later x x.pushed ∷ []) outer
    ∙ ap (λ l. entry (label_for earlier to x.edge) false x.ttl ∷ entry l true x.pushed ∷ []) keeps.inner.label

pub frames_stay : FramesStay
frames_stay t earlier later x to frame keeps sound is = (
  record { stack = is.stack ∙ sym (stack_stays earlier later x to (to == x.edge) keeps refl); packet = is.packet; outer = λ apart. (keeps.outer apart).had },
  record { home = sound.home; node = sound.node; labelled = keeps.inner.had; within = sound.within; pushed = sound.pushed; packet = sound.packet },
)
