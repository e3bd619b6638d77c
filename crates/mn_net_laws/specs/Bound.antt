-- Whether a packet that leaves its edge has a way out.
use Rattle.std.specs.Prelude.{ℕ, Bool, false, is_none, Option}
use Rattle.mn_base.specs.declared.numbers.NodeNo.{NodeNo}
use Rattle.mn_pe.specs.declared.entering.Entered.{Entered}
use Rattle.mn_pe.specs.declared.entering.Entered.TheVariants.{Tunnel}

-- it is bound to another edge, and its node has no way there
abbrev pub is_cut_off : Entered → Option (NodeNo × Option ℕ) → Bool
is_cut_off (Tunnel edge frame) outer = is_none outer
is_cut_off _ outer = false
