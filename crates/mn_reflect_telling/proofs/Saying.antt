-- Messages as they are read.
use Rattle.std.proofs.Common.{ℕ, ◌≡◌, List, sym, subst, inl, inr, Result, Ok, Err}
use Rattle.mn_bgp_wire.specs.Grammar.{IsBgp}
use Rattle.mn_bgp_wire.specs.declared.message.BgpMessage.{BgpMessage}
use Rattle.mn_bgp_wire.proofs.Messages.{one_message}
use Rattle.mn_bgp_reflected.specs.Says.{SaysReflected}
use Rattle.mn_bgp_reflected.specs.Grammar.{IsReflected}
use Rattle.mn_bgp_reflected.specs.declared.refusal.ReflectedBad.{ReflectedBad}
use Rattle.mn_bgp_reflected.specs.declared.refusal.ReflectedBad.TheVariants.{NotUpdate}
use Rattle.mn_reflect_telling.specs.Said.{IsSaid, IsOther}

-- what is no UPDATE is another message
pub is_other : (bytes : List ℕ) (message : BgpMessage) → IsSaid bytes →
    ((said : SaysReflected) → IsReflected bytes said → (let r : Result SaysReflected ReflectedBad = Ok said in r) ≡ Err NotUpdate) → IsBgp bytes message →
    IsOther message
is_other bytes message said refused is = elim said [
  | inl reflected ↦ absurd (let e = refused reflected.0 reflected.1 in cc)
  | inr other ↦ subst IsOther (sym (one_message bytes message other.0 is other.2)) other.1
]
