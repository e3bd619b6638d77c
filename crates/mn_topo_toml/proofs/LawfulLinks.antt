-- The links that are read meet the rules.
use Rattle.std.proofs.Common.{◌≡◌, ◌<◌, ℕ, ℤ, pos, negsuc, length, Bool, true, false, not, cond, ◌&&◌, ◌==◌, nat_lt, nat_le}
use Rattle.std.proofs.Common.{if◌then◌else◌, List, [], ◌∷◌, ◌++◌, position, Option, Some, None, is_none, unwrap_or, option_and_then, codes}
use Rattle.std.proofs.Common.{refl}
use Rattle.std.specs.List.{position_or_len}
use Rattle.std.specs.Option.{option_map_or}
use Rattle.std.specs.Str.{bytes_eq}
use Rattle.std.proofs.lemmas.Bool.{ltb-true, lt-ltb, and_from, or_parts}
use Rattle.toml.specs.Data.{Data, Members, get_member, as_integer}
use Rattle.mn_wiring.specs.declared.links.LinkEnds.{LinkEnds}
use Rattle.mn_topo_toml.specs.declared.refusal.TopoRule.TheVariants.{NoSuchName, SelfLink, TwiceLinked, BadCost, BadDelay}
use Rattle.mn_topo_toml.specs.declared.refusal.Place.TheVariants.{Link}
use Rattle.mn_topo_toml.specs.Tables.{text_at, number_at, number_in}
use Rattle.mn_topo.specs.Names.{number_of}
use Rattle.mn_topo_toml.specs.Names.{named_at, number_named}
use Rattle.mn_topo.specs.Links.{joins}
use Rattle.mn_topo_toml.specs.Links.{link_rule, link_rules, link_in, links_from, life_at, delay_at}
use Rattle.mn_topo.specs.Lawful.{AreLinks, joins_two_of, has_figures}
use Rattle.mn_topo.proofs.Ends.{joins-flip}
use Rattle.mn_topo_toml.proofs.LawfulEntries.{all_kept, kept, AreReadInTurn, all_push, distinct_push}

number_below : (test : List ℕ → Bool) (names : List (List ℕ)) → is_none (position test names) ≡ false → unwrap_or (position test names) 0 < length names
number_below test names h =
    elim (nat_lt (position_or_len test names) (length names)) as (λ b. nat_lt (position_or_len test names) (length names) ≡ b →
    is_none (cond b (Some (position_or_len test names)) None) ≡ false → unwrap_or (cond b (Some (position_or_len test names)) None) 0 < length names) [
      | true ↦ λ e k. ltb-true _ _ e
      | false ↦ λ e k. cc
    ] refl h

named_below : (names : List (List ℕ)) (text : Option (List ℕ)) → is_none (option_and_then (number_of names) text) ≡ false →
    unwrap_or (option_and_then (number_of names) text) 0 < length names
named_below names None h = cc
named_below names (Some name) h = number_below (bytes_eq name) names h

-- what is named is below the number of names
pub named_within : (names : List (List ℕ)) (key : List ℕ) (entry : Members) → is_none (named_at names key entry) ≡ false →
    nat_lt (number_named names key entry) (length names) ≡ true
named_within names key entry h = lt-ltb _ _ (named_below names (text_at key entry) h)

if_within : (low high n : ℕ) → is_none (if nat_le low n && nat_le n high then Some n else None) ≡ false →
    (nat_le low (unwrap_or (if nat_le low n && nat_le n high then Some n else None) 0) && nat_le
    (unwrap_or (if nat_le low n && nat_le n high then Some n else None) 0) high) ≡ true
if_within low high n h =
    elim (nat_le low n && nat_le n high) as (λ b. (nat_le low n && nat_le n high) ≡ b → is_none (if b then Some n else None) ≡ false →
    (nat_le low (unwrap_or (if b then Some n else None) 0) && nat_le (unwrap_or (if b then Some n else None) 0) high) ≡ true) [
      | true ↦ λ e k. e
      | false ↦ λ e k. cc
    ] refl h

integer_within : (low high : ℕ) (integer : Option ℤ) → is_none (number_in low high integer) ≡ false →
    (nat_le low (unwrap_or (number_in low high integer) 0) && nat_le (unwrap_or (number_in low high integer) 0) high) ≡ true
integer_within low high (Some (pos n)) h = if_within low high n h
integer_within low high (Some (negsuc n)) h = cc
integer_within low high None h = cc

value_within : (low high default : ℕ) (value : Option Data) → (nat_le low default && nat_le default high) ≡ true
    → is_none (option_map_or (λ v. number_in low high (as_integer v)) value (Some default)) ≡ false
    → (nat_le low (unwrap_or (option_map_or (λ v. number_in low high (as_integer v)) value (Some default)) 0) && nat_le
    (unwrap_or (option_map_or (λ v. number_in low high (as_integer v)) value (Some default)) 0) high) ≡ true
value_within low high default None fine h = fine
value_within low high default (Some v) fine h = integer_within low high (as_integer v) h

-- a number that is there is in its range
pub number_within : (key : List ℕ) (low high default : ℕ) (entry : Members) →
    (nat_le low default && nat_le default high) ≡ true → is_none (number_at key low high default entry) ≡ false
    → (nat_le low (unwrap_or (number_at key low high default entry) 0) && nat_le (unwrap_or (number_at key low high default entry) 0) high) ≡ true
number_within key low high default entry fine h = value_within low high default (get_member key entry) fine h

pub link_step : (names : List (List ℕ)) (earlier : List LinkEnds) (entry : Members) → AreLinks (length names) earlier → link_rule names earlier entry ≡ None →
    AreLinks (length names) (earlier ++ link_in names entry ∷ [])
unfolding link_rule
link_step names earlier entry h lawful =
    let all = all_kept (link_rules names earlier entry) lawful in
    let named = or_parts _ _ (kept _ NoSuchName all.1.1.1.0) in
    let apart : not (number_named names (codes "a") entry == number_named names (codes "b") entry) ≡ true = rw (kept _ SelfLink all.1.1.1.1.0) refl in
    let figures = or_parts _ _ (kept _ BadDelay all.1.1.1.1.1.1.1.0) in
    let delays = or_parts _ _ figures.0 in
    let lives = or_parts _ _ figures.1 in
    let cost = number_within (codes "cost") 1 65535 10 entry refl (kept _ BadCost all.1.1.1.1.1.1.0) in
    let delay = number_within (codes "delay") 1 1000 1 entry refl delays.0 in
    let loss = number_within (codes "loss") 0 65535 0 entry refl delays.1 in
    let life = number_within (codes "life") 1 1000000 2000 entry refl lives.0 in
    let lasting : not (nat_lt (unwrap_or (life_at entry) 0) (unwrap_or (delay_at entry) 0)) ≡ true = rw lives.1 refl in
    record {
      joining =
          all_push (joins_two_of (length names)) earlier (link_in names entry) h.joining
          (and_from _ _ (and_from _ _ (named_within names (codes "a") entry named.0) (named_within names (codes "b") entry named.1)) apart);
      once = distinct_push (λ one other. joins one.a.0 one.b.0 other) joins-flip earlier (link_in names entry) h.once (kept _ TwiceLinked all.1.1.1.1.1.0);
      figures = all_push has_figures earlier (link_in names entry) h.figures
          (and_from _ _ (and_from _ _ (and_from _ _ cost delay) loss) (and_from _ _ life lasting));
    }

pub links_in_turn : (names : List (List ℕ)) →
    AreReadInTurn (List LinkEnds) (link_rule names) (λ earlier. Link (length earlier)) (λ earlier entry. earlier ++ link_in names entry ∷ []) (links_from names)
links_in_turn names = record { ends = λ earlier. refl; goes = λ entry entries earlier. refl }
