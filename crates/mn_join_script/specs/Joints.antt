-- The joints of two networks: RFC 4364, section 10, option a.
use Rattle.std.specs.Prelude.{◌≡◌, ◌≢◌, ◌<◌, ◌+◌, ℕ, Bool, ◌||◌, ◌==◌, min, List, [], ◌∷◌, ◌++◌, All, length, Option, Some, None, Result, Ok, Err, Vec}
use Rattle.std.specs.Prelude.{if◌then◌else◌, ⊤}
use Rattle.std.specs.List.{list_any, AllPairs}
use Rattle.std.specs.Str.Lines.{lines}
use Rattle.std.specs.declared.alloc.Global.{Global}
use Rattle.mn_base.specs.declared.numbers.SiteNo.{SiteNo}
use Rattle.mn_base.specs.Refusals.{◌>>=◌}
use Rattle.mn_text.specs.Words.{words}
use Rattle.mn_topo.specs.Network.{Network, site_named}
use Rattle.mn_join_script.specs.declared.refusal.JointsRule.{JointsRule}
use Rattle.mn_join_script.specs.declared.refusal.JointsRule.TheVariants.{WrongCount, NoSuchName, TwiceJoined}
use Rattle.mn_join_script.specs.declared.refusal.JointsBad.{JointsBad}
use Rattle.mn_join_script.specs.declared.refusal.JointsBad.TheVariants.{Refused, NoMemory}

-- a site of the first network and one of the second
abbrev pub SitePair : Type 0
SitePair = SiteNo × SiteNo

-- the site of the name, or else the rule
abbrev pub named : Option SiteNo → Result SiteNo JointsRule
named None = Err NoSuchName
named (Some site) = Ok site

abbrev pub site_in : Network → List ℕ → Result SiteNo JointsRule
site_in network word = named (site_named network word)

-- one of the two sites is in one of the joints
abbrev pub is_joined : List SitePair → SiteNo → SiteNo → Bool
is_joined joints one other = list_any (λ joint. (joint.0.0 == one.0) || (joint.1.0 == other.0)) joints

abbrev pub if_free : List SitePair → SiteNo → SiteNo → Result SitePair JointsRule
if_free joints one other = if is_joined joints one other then Err TwiceJoined else Ok (one, other)

-- the words of a line that has two
abbrev pub pair_of : List (List ℕ) → Option (List ℕ × List ℕ)
pair_of (one ∷ other ∷ []) = Some (one, other)
pair_of others = None

-- the joint of a line by its two words, behind the joints of earlier lines
abbrev pub joining : Network → Network → List SitePair → Option (List ℕ × List ℕ) → Result SitePair JointsRule
joining first second earlier None = Err WrongCount
joining first second earlier (Some pair) =
    site_in first pair.0 >>= (λ one. site_in second pair.1 >>= (λ other. if_free earlier one other))

abbrev pub joint_of : Network → Network → List SitePair → List (List ℕ) → Result SitePair JointsRule
joint_of first second earlier line_words = joining first second earlier (pair_of line_words)

-- the number of the line after the one of this number; numbers stand still at the greatest of 32 bits
abbrev pub number_after : ℕ → ℕ
number_after number = min (number + 1) 4294967295

-- the line of this number goes on with its joint, or is refused
abbrev pub goes_on : ℕ → Result SitePair JointsRule → (SitePair → Result (List SitePair) (JointsRule × ℕ)) → Result (List SitePair) (JointsRule × ℕ)
goes_on number (Ok joint) next = next joint
goes_on number (Err rule) next = Err (rule, number)

-- the joints of the lines behind those of earlier ones, or the first rule with its line
abbrev pub joints_from : Network → Network → List SitePair → ℕ → List (List ℕ) → Result (List SitePair) (JointsRule × ℕ)
joints_from first second earlier number [] = Ok earlier
joints_from first second earlier number (line ∷ more) =
    goes_on number (joint_of first second earlier (words line)) (λ joint. joints_from first second (earlier ++ joint ∷ []) (number_after number) more)

-- the joints of a file
abbrev pub joints_of : Network → Network → List ℕ → Result (List SitePair) (JointsRule × ℕ)
joints_of first second bytes = joints_from first second [] 1 (lines bytes)

-- what a reader answers of them
abbrev pub Reads : Result (Vec SitePair Global) JointsBad → Result (List SitePair) (JointsRule × ℕ) → Type 0
Reads (Ok read) defined = defined ≡ Ok read.items
Reads (Err (Refused rule line)) defined = defined ≡ Err (rule, line)
Reads (Err NoMemory) defined = ⊤

-- the sites are those of the two networks
abbrev pub IsThere : Network → Network → SitePair → Type 0
IsThere first second joint = (joint.0.0 < length first.sites) × (joint.1.0 < length second.sites)

abbrev pub AreSites : Network → Network → List SitePair → Type 0
AreSites first second joints = All (λ joint. (joint.0.0 < length first.sites) × (joint.1.0 < length second.sites)) joints

-- no site stands twice on its side
abbrev pub AreApart : List SitePair → Type 0
AreApart joints = AllPairs (λ one other. (one.0.0 ≢ other.0.0) × (one.1.0 ≢ other.1.0)) joints
