use Rattle.std.proofs.Common.{◌≡◌, false, Bool, Result, Ok, Err, IfOk, ◌∙◌, refl}
use Rattle.std.specs.declared.alloc.AllocError.{AllocError}
use Rattle.mn_ldp_wire.specs.Reading.{pdu_of}
use Rattle.mn_teeth.proofs.a_keepalive_is_no_pdu.Goals as goal

told : (result : Result Bool AllocError) (is : Bool) → is ≡ false → IfOk result (λ reads. reads ≡ is) → IfOk result (λ reads. reads ≡ false)
told (Ok reads) is e h = h ∙ e
told (Err bad) is e h = h

pub returns : goal.returns
unfolding pdu_of
returns c = told c.still_reads.result _ refl c.still_reads.ensures.reads
