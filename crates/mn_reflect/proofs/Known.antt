-- The names of what a node received are of the topology's VRFs.
use Rattle.std.proofs.Common.{[], ℕ, ◌≡◌, ◌<◌, Bool, true, false, List, ◌∷◌, ◌++◌, length, map, sym, subst, ap, ◌∙◌}
use Rattle.std.specs.Prelude.{slice_index_or, if◌then◌else◌}
use Rattle.std.specs.List.{AllByRecursion, flat_map}
use Rattle.mn_topo.specs.Network.{Network}
use Rattle.mn_offers.specs.Heard.{Heard}
use Rattle.mn_reflect_ledger_laws.specs.Words.{Key, same_key, key_before, placed, in_order}
use Rattle.mn_mail.specs.Mail.{Mail}
use Rattle.mn_reflect_world_laws.specs.Now.{ReflectNow}
use Rattle.mn_reflect_world_laws.specs.Choice.{row_at, names_in, all_names}
use Rattle.mn_reflect_world_laws.specs.Letters.{reflector_offers}
use Rattle.mn_reflect_telling.specs.Telling.{posted}
use Rattle.mn_reflect_telling.specs.Mentions.{row_in}
use Rattle.mn_reflect.specs.Doing.{with_letters}
use Rattle.mn_reflect_telling.specs.declared.name.Name.{Name}
use Rattle.mn_reflect_telling.specs.Names.{key_in}
use Rattle.mn_reflect_telling.specs.Passing.{IsPassable}

module _ (n : ℕ) where
  abbrev AreBelow : List Key → Type 0
  AreBelow keys = AllByRecursion (λ (key : Key). key.vrf < n) keys

  placed_below : (key : Key) (keys : List Key) → key.vrf < n → AreBelow keys → AreBelow (placed key keys)
  placed_below key [] its h = (its, tt)
  placed_below key (other ∷ others) its h = by (same_key key other) (key_before key other) (placed_below key others its h.1)
    where
      by : (a b : Bool) → AreBelow (placed key others) →
          AreBelow (if a then other ∷ others else if b then key ∷ other ∷ others else other ∷ placed key others)
      by true b more = h
      by false true more = (its, h)
      by false false more = (h.0, more)

  ordered_below : (keys : List Key) → AreBelow keys → AreBelow (in_order keys)
  ordered_below [] h = tt
  ordered_below (key ∷ keys) h = placed_below key (in_order keys) h.0 (ordered_below keys h.1)

  both_below : (xs ys : List Key) → AreBelow xs → AreBelow ys → AreBelow (xs ++ ys)
  both_below [] ys h more = more
  both_below (x ∷ xs) ys h more = (h.0, both_below xs ys h.1 more)

  of_names : (names : List Name) → AreBelow (map key_in names) → AllByRecursion (λ (name : Name). name.vrf.0 < n) names
  of_names [] h = tt
  of_names (name ∷ names) h = (h.0, of_names names h.1)

  pub names_below : (names : List Name) (keys : List Key) → map key_in names ≡ keys → AreBelow keys → AllByRecursion (λ (name : Name). name.vrf.0 < n) names
  names_below names keys same h = of_names names (subst AreBelow (sym same) h)

row_known : (t : Network) (routes : List Heard) → AllByRecursion (IsPassable t) routes → AreBelow (length t.vrfs) (names_in routes)
row_known t [] h = tt
row_known t (route ∷ routes) h = (h.0.vrf, row_known t routes h.1)

rows_known : (t : Network) (rows : List (List Heard)) → AllByRecursion (λ routes. AllByRecursion (IsPassable t) routes) rows →
    AreBelow (length t.vrfs) (flat_map names_in rows)
rows_known t [] h = tt
rows_known t (row ∷ rows) h = both_below (length t.vrfs) (names_in row) (flat_map names_in rows) (row_known t row h.0) (rows_known t rows h.1)

pub all_known : (t : Network) (rows : List (List Heard)) → AllByRecursion (λ routes. AllByRecursion (IsPassable t) routes) rows →
    AllByRecursion (λ (key : Key). key.vrf < length t.vrfs) (all_names rows)
all_known t rows h = ordered_below (length t.vrfs) (flat_map names_in rows) (rows_known t rows h)

-- all that is offered is sent
pub offers_by : (was now : ReflectNow) → was ≡ now → (node peer : ℕ) (rs : List ℕ) (keys : List Key) (heard : List (List Heard)) (later : Mail) →
    rs ≡ now.reflectors → keys ≡ all_names heard → heard ≡ slice_index_or now.heard node [] →
    later ≡ posted (reflector_offers was.topology rs node peer (row_in heard) keys) was.mail → (let r : ReflectNow = record was { mail = later } in r)
    ≡ with_letters (reflector_offers now.topology now.reflectors node peer (row_at now.heard node) (all_names (slice_index_or now.heard node []))) now
offers_by was now same node peer rs keys heard later rs_are keys_are heard_is said =
    ap (λ m. let r : ReflectNow = record was { mail = m } in r) said
    ∙ ap (λ (x : ReflectNow). with_letters (reflector_offers x.topology rs node peer (row_in heard) keys) x) same
    ∙ ap (λ xs. with_letters (reflector_offers now.topology xs node peer (row_in heard) keys) now) rs_are
    ∙ ap (λ ks. with_letters (reflector_offers now.topology now.reflectors node peer (row_in heard) ks) now) keys_are
    ∙ ap (λ h. with_letters (reflector_offers now.topology now.reflectors node peer (row_in h) (all_names h)) now) heard_is
