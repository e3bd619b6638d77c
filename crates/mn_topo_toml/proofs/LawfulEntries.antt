-- What is read meets the rules.
use Rattle.std.proofs.Common.{◌≡◌, ◌+◌, ℕ, arith, length, length-append, Bool, true, false, ◌==◌, if◌then◌else◌, List, [], ◌∷◌, ◌++◌, Option, Some, None}
use Rattle.std.proofs.Common.{is_none, unwrap_or, option_and_then, codes, Result, Ok, refl, ap, sym, ◌∙◌, subst}
use Rattle.std.specs.List.{list_all, list_any, IsDistinct, AllByRecursion}
use Rattle.std.specs.Str.{bytes_eq}
use Rattle.std.specs.Cmp.{nat_eq_equiv}
use Rattle.std.specs.Cmp.Lexicographic.{nat_list_eq_equiv}
use Rattle.std.proofs.lemmas.Bool.{or_parts, not-false}
use Rattle.std.proofs.lemmas.List.Folds.{list_all-append}
use Rattle.toml.specs.Data.{Members}
use Rattle.mn_text.specs.Addresses.{address_of}
use Rattle.mn_topo_toml.specs.declared.refusal.TopoRule.{TopoRule}
use Rattle.mn_topo_toml.specs.declared.refusal.TopoRule.TheVariants.{WrongKind, BadName, TwiceNamed, TwiceLoopback}
use Rattle.mn_topo_toml.specs.declared.refusal.Place.{Place}
use Rattle.mn_topo_toml.specs.declared.refusal.Place.TheVariants.{Node}
use Rattle.mn_topo.specs.Tables.{is_name}
use Rattle.mn_topo_toml.specs.Tables.{text_at}
use Rattle.mn_topo.specs.Names.{has_name}
use Rattle.mn_topo_toml.specs.Rules.{broken, first_broken, unless_broken}
use Rattle.mn_topo.specs.Nodes.{NodeTable, is_loopback}
use Rattle.mn_topo_toml.specs.Nodes.{node_rule, node_rules, with_node, nodes_from, name_of, loopback_of, loopback_in}
use Rattle.mn_topo.specs.Lawful.{AreNames, AreNodes}

-- no rule is broken
abbrev pub AllKept : List (Option TopoRule) → Type 0
AllKept [] = Unit {0}
AllKept (rule ∷ rules) = (rule ≡ None) × AllKept rules

pub all_kept : (rules : List (Option TopoRule)) → first_broken rules ≡ None → AllKept rules
all_kept [] h = tt
all_kept (None ∷ rules) h = (refl, all_kept rules h)
all_kept (Some rule ∷ rules) h = cc

pub kept : (b : Bool) (rule : TopoRule) → broken b rule ≡ None → b ≡ false
kept true rule h = cc
kept false rule h = refl

-- a reading that ends well broke no rule, and the rest ended well
pub reads_on : {A : Type 0} (rule : Option TopoRule) (place : Place) (rest : Result A (TopoRule × Place)) (value : A) →
    unless_broken rule place rest ≡ Ok value → (rule ≡ None) × (rest ≡ Ok value)
reads_on None place rest value h = (refl, h)
reads_on (Some rule) place rest value h = cc

-- entries are read in turn: each by its rule, and the others behind what it adds
pub record AreReadInTurn (T : Type 0) (rule : T → Members → Option TopoRule) (place : T → Place) (next : T → Members → T)
    (from : List Members → T → Result T (TopoRule × Place)) : Type 0 where
  pub ends : (earlier : T) → from [] earlier ≡ Ok earlier
  pub goes : (entry : Members) (entries : List Members) (earlier : T) →
      from (entry ∷ entries) earlier ≡ unless_broken (rule earlier entry) (place earlier) (from entries (next earlier entry))

-- what each entry keeps, all of them keep
pub kept_in_turn : {T : Type 0} {rule : T → Members → Option TopoRule} {place : T → Place} {next : T → Members → T}
    {from : List Members → T → Result T (TopoRule × Place)} → AreReadInTurn T rule place next from → (P : T → Type 0) →
    ((earlier : T) (entry : Members) → P earlier → rule earlier entry ≡ None → P (next earlier entry)) →
    (entries : List Members) (earlier value : T) → from entries earlier ≡ Ok value → P earlier → P value
kept_in_turn turn P step [] earlier value h k = let ends = turn.ends earlier in let same : earlier ≡ value = cc in subst P same k
kept_in_turn {rule} {place} {next} {from} turn P step (entry ∷ entries) earlier value h k =
    let on = reads_on (rule earlier entry) (place earlier) (from entries (next earlier entry)) value (sym (turn.goes entry entries earlier) ∙ h) in
    kept_in_turn turn P step entries (next earlier entry) value on.1 (step earlier entry k on.0)

-- each adds one
pub counted_in_turn : {T : Type 0} {rule : T → Members → Option TopoRule} {place : T → Place} {next : T → Members → T}
    {from : List Members → T → Result T (TopoRule × Place)} → AreReadInTurn T rule place next from → (count : T → ℕ) →
    ((earlier : T) (entry : Members) → count (next earlier entry) ≡ count earlier + 1) →
    (entries : List Members) (earlier value : T) → from entries earlier ≡ Ok value → count value ≡ count earlier + length entries
counted_in_turn turn count more [] earlier value h = let ends = turn.ends earlier in let same : earlier ≡ value = cc in rw (← same) (omega arith)
counted_in_turn {rule} {place} {next} {from} turn count more (entry ∷ entries) earlier value h =
    let on = reads_on (rule earlier entry) (place earlier) (from entries (next earlier entry)) value (sym (turn.goes entry entries earlier) ∙ h) in
    let counted = counted_in_turn turn count more entries (next earlier entry) value on.1 in
    let one = more earlier entry in
    omega (arith, counted, one)

pub all_push : {A : Type 0} (test : A → Bool) (xs : List A) (x : A) → list_all test xs ≡ true → test x ≡ true → list_all test (xs ++ x ∷ []) ≡ true
all_push test xs x h k = rw (list_all-append test xs (x ∷ []), h, k) refl

pub apart_push : {A : Type 0} (P : A → Type 0) (xs : List A) (x : A) → AllByRecursion P xs → P x → AllByRecursion P (xs ++ x ∷ [])
apart_push P [] x h k = (k, tt)
apart_push P (y ∷ ys) x h k = (h.0, apart_push P ys x h.1 k)

-- one more that is unlike those before it
pub distinct_push : {A : Type 0} (same : A → A → Bool) → ((x y : A) → same x y ≡ same y x) →
    (xs : List A) (x : A) → IsDistinct same xs → list_any (same x) xs ≡ false → IsDistinct same (xs ++ x ∷ [])
unfolding IsDistinct
distinct_push same flips [] x h k = (tt, tt)
distinct_push same flips (y ∷ ys) x h k =
    let parts = or_parts (same x y) (list_any (same x) ys) k in
    (apart_push (λ z. same y z ≡ false) ys x h.0 (flips y x ∙ parts.0), distinct_push same flips ys x h.1 parts.1)

pub names_push : (names : List (List ℕ)) (name : List ℕ) → AreNames names → is_name name ≡ true → has_name names name ≡ false → AreNames (names ++ name ∷ [])
names_push names name h formed fresh = record {
  formed = all_push is_name names name h.formed formed;
  distinct = distinct_push bytes_eq nat_list_eq_equiv.symm names name h.distinct fresh;
}

one_more : {A B : Type 0} (xs : List A) (ys : List B) (x : A) (y : B) → length xs ≡ length ys → length (xs ++ x ∷ []) ≡ length (ys ++ y ∷ [])
one_more xs ys x y h = simp length-append (ap (λ n. n + 1) h)

-- a loopback that is there is of its form
loopback_within : (address : Option ℕ) → is_none (option_and_then (λ a. if is_loopback a then Some a else None) address) ≡ false →
    is_loopback (unwrap_or (option_and_then (λ a. if is_loopback a then Some a else None) address) 0) ≡ true
loopback_within None h = cc
loopback_within (Some a) h =
    elim (is_loopback a) as (λ b. is_loopback a ≡ b → is_none (if b then Some a else None) ≡ false →
    is_loopback (unwrap_or (if b then Some a else None) 0) ≡ true) [
      | true ↦ λ e k. e
      | false ↦ λ e k. cc
    ] refl h

loopback_formed : (text : Option (List ℕ)) → is_none (option_and_then loopback_in text) ≡ false →
    is_loopback (unwrap_or (option_and_then loopback_in text) 0) ≡ true
loopback_formed None h = cc
loopback_formed (Some word) h = loopback_within (address_of word) h

pub node_step : (earlier : NodeTable) (entry : Members) → AreNodes earlier → node_rule earlier entry ≡ None → AreNodes (with_node earlier entry)
unfolding node_rule
node_step earlier entry h lawful =
    let all = all_kept (node_rules earlier entry) lawful in
    let kinds = or_parts _ _ (kept _ WrongKind all.1.1.0) in
    record {
      named = names_push earlier.names (name_of entry) h.named (not-false _ (kept _ BadName all.1.1.1.0)) (kept _ TwiceNamed all.1.1.1.1.0);
      each = one_more earlier.loopbacks earlier.names (loopback_of entry) (name_of entry) h.each;
      formed = all_push is_loopback earlier.loopbacks (loopback_of entry) h.formed (loopback_formed (text_at (codes "loopback") entry) kinds.1);
      distinct =
          distinct_push (λ one other. one == other) nat_eq_equiv.symm earlier.loopbacks (loopback_of entry) h.distinct
          (kept _ TwiceLoopback all.1.1.1.1.1.0);
    }

pub nodes_in_turn : AreReadInTurn NodeTable node_rule (λ earlier. Node (length earlier.names)) with_node nodes_from
nodes_in_turn = record { ends = λ earlier. refl; goes = λ entry entries earlier. refl }
