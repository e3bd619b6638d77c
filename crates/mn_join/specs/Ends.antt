-- The ends of a joint, as one network sees them.
use Rattle.std.specs.Prelude.{◌<◌, ℕ, List, IfSome, Option}
use Rattle.std.specs.List.{All}
use Rattle.mn_base.specs.declared.numbers.SiteNo.{SiteNo}
use Rattle.mn_join_laws.specs.declared.leg.Which.{Which}
use Rattle.mn_join_laws.specs.declared.leg.Which.TheVariants.{First, Second}

abbrev pub here_of : Which → SiteNo × SiteNo → SiteNo
here_of First joint = joint.0
here_of Second joint = joint.1

abbrev pub there_of : Which → SiteNo × SiteNo → SiteNo
there_of First joint = joint.1
there_of Second joint = joint.0

-- the sites to which sites are joined have lesser numbers
abbrev pub LeadBelow : ℕ → List (Option SiteNo) → Type 0
LeadBelow most partners = All (λ partner. IfSome partner (λ site. site.0 < most)) partners
