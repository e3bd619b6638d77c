-- Messages as they are read.
use Rattle.std.specs.Prelude.{◌⊎◌, ℕ, List}
use Rattle.mn_bgp_wire.specs.Grammar.{IsBgp}
use Rattle.mn_bgp_wire.specs.declared.message.BgpMessage.{BgpMessage}
use Rattle.mn_bgp_wire.specs.declared.message.BgpMessage.TheVariants as message
use Rattle.mn_bgp_reflected.specs.Says.{SaysReflected}
use Rattle.mn_bgp_reflected.specs.Grammar.{IsReflected}
use Rattle.mn_reflect_telling.specs.declared.updates.Heard.{Heard}
use Rattle.mn_reflect_telling.specs.declared.updates.Heard.TheVariants.{Routes, Other}

-- a message that is no UPDATE
abbrev pub IsOther : BgpMessage → Type 0
IsOther (message.Update says) = ⊥
IsOther _ = Unit {0}

-- the bytes are an UPDATE, as a reflector or an edge says it, or another message
abbrev pub IsSaid : List ℕ → Type 0
IsSaid bytes = ((said : SaysReflected) × IsReflected bytes said) ⊎ ((other : BgpMessage) × IsOther other × IsBgp bytes other)

-- what was read is what the bytes say
abbrev pub IsHeard : List ℕ → Heard → Type 0
IsHeard bytes (Routes said) = IsReflected bytes said
IsHeard bytes (Other other) = IsOther other × IsBgp bytes other
