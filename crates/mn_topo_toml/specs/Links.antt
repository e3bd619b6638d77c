-- The rules of an entry that is a link.
use Rattle.std.specs.Prelude.{◌≡◌, ℕ, Bool, true, false, not, ◌||◌, ◌==◌, nat_lt, List, [], ◌∷◌, ◌++◌, length, Option, Some, None, is_none, unwrap_or}
use Rattle.std.specs.Prelude.{codes, Result, Ok, Err}
use Rattle.toml.specs.Data.{Members}
use Rattle.mn_wiring.specs.declared.links.LinkEnds.{LinkEnds}
use Rattle.mn_topo_toml.specs.declared.refusal.TopoRule.{TopoRule}
use Rattle.mn_topo_toml.specs.declared.refusal.TopoRule.TheVariants.{UnknownKey, MissingKey, WrongKind, NoSuchName, SelfLink, TwiceLinked, BadCost, BadDelay}
use Rattle.mn_topo_toml.specs.declared.refusal.Place.{Place}
use Rattle.mn_topo_toml.specs.declared.refusal.Place.TheVariants.{Link}
use Rattle.mn_topo.specs.Links.{are_joined}
use Rattle.mn_topo_toml.specs.Tables.{has_unknown_key, lacks, text_at, number_at, is_integer_at}
use Rattle.mn_topo_toml.specs.Names.{named_at, number_named}
use Rattle.mn_topo_toml.specs.Rules.{broken, first_broken, unless_broken}

abbrev pub link_keys : List (List ℕ)
link_keys = codes "a" ∷ codes "b" ∷ codes "cost" ∷ codes "delay" ∷ codes "loss" ∷ codes "life" ∷ []

abbrev pub cost_at : Members → Option ℕ
cost_at entry = number_at (codes "cost") 1 65535 10 entry

abbrev pub delay_at : Members → Option ℕ
delay_at entry = number_at (codes "delay") 1 1000 1 entry

abbrev pub loss_at : Members → Option ℕ
loss_at entry = number_at (codes "loss") 0 65535 0 entry

abbrev pub life_at : Members → Option ℕ
life_at entry = number_at (codes "life") 1 1000000 2000 entry

-- an end isn't a text, or a figure isn't an integer
abbrev pub has_wrong_kind : Members → Bool
has_wrong_kind entry =
    (is_none (text_at (codes "a") entry) || is_none (text_at (codes "b") entry)) ||
    (((not (is_integer_at (codes "cost") entry) || not (is_integer_at (codes "delay") entry)) || not (is_integer_at (codes "loss") entry))
    || not (is_integer_at (codes "life") entry))

-- the rules of an entry over the names of the nodes: those of its keys and of its ends' names
abbrev pub end_rules : List (List ℕ) → Members → List (Option TopoRule)
end_rules nodes entry =
    broken (has_unknown_key link_keys entry) UnknownKey
    ∷ broken (lacks (codes "a") entry || lacks (codes "b") entry) MissingKey
    ∷ broken (has_wrong_kind entry) WrongKind
    ∷ broken (is_none (named_at nodes (codes "a") entry) || is_none (named_at nodes (codes "b") entry)) NoSuchName
    ∷ []

-- the delay, the loss or the life is out of its range, or the life is less than the delay
abbrev pub has_bad_delay : Members → Bool
has_bad_delay entry =
    (is_none (delay_at entry) || is_none (loss_at entry))
    || (is_none (life_at entry) || nat_lt (unwrap_or (life_at entry) 0) (unwrap_or (delay_at entry) 0))

-- the rules of an entry's figures
abbrev pub figure_rules : Members → List (Option TopoRule)
figure_rules entry = broken (is_none (cost_at entry)) BadCost ∷ broken (has_bad_delay entry) BadDelay ∷ []

-- the rules of an entry after the earlier ones, over the names of the nodes: those of its ends come first, those of its figures last
abbrev pub link_rules : List (List ℕ) → List LinkEnds → Members → List (Option TopoRule)
link_rules nodes earlier entry =
    end_rules nodes entry
    ++ broken (number_named nodes (codes "a") entry == number_named nodes (codes "b") entry) SelfLink
    ∷ broken (are_joined earlier (number_named nodes (codes "a") entry) (number_named nodes (codes "b") entry)) TwiceLinked
    ∷ figure_rules entry

unfoldable pub link_rule : List (List ℕ) → List LinkEnds → Members → Option TopoRule
link_rule nodes earlier entry = first_broken (link_rules nodes earlier entry)

-- the link that an entry is
abbrev pub link_in : List (List ℕ) → Members → LinkEnds
link_in nodes entry = record {
  a = record { 0 = number_named nodes (codes "a") entry };
  b = record { 0 = number_named nodes (codes "b") entry };
  cost = unwrap_or (cost_at entry) 0;
  delay = unwrap_or (delay_at entry) 0;
  loss = unwrap_or (loss_at entry) 0;
  life = unwrap_or (life_at entry) 0;
}

-- the links of the entries after the earlier ones, or the first rule that is broken and its place
abbrev pub links_from : List (List ℕ) → List Members → List LinkEnds → Result (List LinkEnds) (TopoRule × Place)
links_from nodes [] earlier = Ok earlier
links_from nodes (entry ∷ entries) earlier =
    unless_broken (link_rule nodes earlier entry) (Link (length earlier)) (links_from nodes entries (earlier ++ link_in nodes entry ∷ []))

-- the link of an entry that breaks no rule, and no earlier link joins its ends
pub record IsLink (nodes : List (List ℕ)) (earlier : List LinkEnds) (entry : Members) (link : LinkEnds) : Type 0 where
  pub lawful : link_rule nodes earlier entry ≡ None
  pub link_is : link ≡ link_in nodes entry
  pub fresh : are_joined earlier link.a.0 link.b.0 ≡ false

abbrev pub ReadsLink : List (List ℕ) → List LinkEnds → Members → Result LinkEnds TopoRule → Type 0
ReadsLink nodes earlier entry (Ok link) = IsLink nodes earlier entry link
ReadsLink nodes earlier entry (Err rule) = link_rule nodes earlier entry ≡ Some rule

-- the ends of an entry that breaks no rule of its keys and its ends' names
pub record AreEnds (nodes : List (List ℕ)) (entry : Members) (a b : ℕ) : Type 0 where
  pub lawful : first_broken (end_rules nodes entry) ≡ None
  pub a_is : a ≡ number_named nodes (codes "a") entry
  pub b_is : b ≡ number_named nodes (codes "b") entry

abbrev pub ReadsEnds : List (List ℕ) → Members → Result (ℕ × ℕ) TopoRule → Type 0
ReadsEnds nodes entry (Ok ends) = AreEnds nodes entry ends.0 ends.1
ReadsEnds nodes entry (Err rule) = first_broken (end_rules nodes entry) ≡ Some rule

-- the delay, the loss and the life of an entry in which none of them is bad
pub record AreDelays (entry : Members) (delay loss life : ℕ) : Type 0 where
  pub good : has_bad_delay entry ≡ false
  pub delay_is : delay ≡ unwrap_or (delay_at entry) 0
  pub loss_is : loss ≡ unwrap_or (loss_at entry) 0
  pub life_is : life ≡ unwrap_or (life_at entry) 0

abbrev pub ReadsDelays : Members → Option (ℕ × ℕ × ℕ) → Type 0
ReadsDelays entry (Some found) = AreDelays entry found.0 found.1 found.2
ReadsDelays entry None = has_bad_delay entry ≡ true
