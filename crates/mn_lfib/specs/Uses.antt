-- What the labels of a node are used for: the incoming label map of RFC 3031, section 3.11.
use Rattle.std.specs.Prelude.{ℕ, ◌<◌, ◌^◌, List, Option, Some, None, ⊤}
use Rattle.std.specs.Ordering.{nat_cmp}
use Rattle.std.specs.BTreeMap.{is_at}
use Rattle.std.specs.Map.{lookup}
use Rattle.mn_base.specs.declared.numbers.NodeNo.{NodeNo}
use Rattle.mn_base.specs.declared.numbers.SiteNo.{SiteNo}
use Rattle.mn_lfib.specs.declared.answer.Use.{Use}
use Rattle.mn_lfib.specs.declared.answer.Use.TheVariants.{Fec, Site, Ended}

-- what a label is used for, if it has a use
abbrev pub use_of : List (ℕ × Use) → ℕ → Option Use
use_of uses label = lookup (is_at (nat_cmp label)) uses

-- a FEC's label, set to a next hop and its label or to none
abbrev pub fec_use : Option (NodeNo × ℕ) → Option Use
fec_use None = None
fec_use (Some to) = Some (Fec to.0 to.1)

-- an attachment's label with this use, set to a site or to none: what never began doesn't end
abbrev pub site_use : Option Use → Option SiteNo → Option Use
site_use before (Some site) = Some (Site site)
site_use None None = None
site_use (Some before) None = Some Ended

-- no attachment has the label
abbrev pub IsNotSite : Option Use → Type 0
IsNotSite None = ⊤
IsNotSite (Some (Fec next_hop label)) = ⊤
IsNotSite (Some (Site site)) = ⊥
IsNotSite (Some Ended) = ⊥

-- no FEC has the label
abbrev pub IsNotFec : Option Use → Type 0
IsNotFec None = ⊤
IsNotFec (Some (Fec next_hop label)) = ⊥
IsNotFec (Some (Site site)) = ⊤
IsNotFec (Some Ended) = ⊤

-- the next label has 20 bits
abbrev pub IsNextHop : Option (NodeNo × ℕ) → Type 0
IsNextHop None = ⊤
IsNextHop (Some to) = to.1 < 2 ^ 20

abbrev pub Fits : Option Use → Type 0
Fits None = ⊤
Fits (Some (Fec next_hop label)) = label < 2 ^ 20
Fits (Some (Site site)) = ⊤
Fits (Some Ended) = ⊤

-- each next label has
abbrev pub AllFit : List (ℕ × Use) → Type 0
AllFit uses = (label : ℕ) → Fits (use_of uses label)
