-- How many statics the topology has.
use Rattle.std.proofs.Common.{ℕ, zero, suc, ◌≡◌, ◌+◌, ◌<◌, ◌≤◌, List, [], ◌∷◌, ◌++◌, length, map, drop, refl, arith, sym, ap, ◌∙◌}
use Rattle.std.specs.Prelude.{slice_index_or}
use Rattle.std.proofs.lemmas.List.{length-append, length-map}
use Rattle.mn_base.proofs.Bools.{none_below}
use Rattle.mn_prefix.specs.Prefix.{AddressBlock}
use Rattle.mn_topo.specs.declared.sites.SiteDef.{SiteDef}
use Rattle.mn_topo.specs.SiteTable.{in_vrf, statics_of}
use Rattle.mn_ledger.specs.World.{SiteRoute}
use Rattle.mn_ledger.specs.Ledger.{statics_from}

one_site : (site : SiteDef) (sites : List SiteDef) → length (statics_of (site ∷ sites)) ≡ length site.prefixes + length (statics_of sites)
one_site site sites =
    length-append (in_vrf site.vrf.0 site.prefixes) (statics_of sites)
    ∙ ap (λ n. n + length (statics_of sites)) (length-map site.prefixes (λ prefix. (site.vrf.0, prefix)))

abbrev over : ℕ → AddressBlock → SiteRoute
over s prefix = record { site = s; prefix = prefix }

pub as_many : (k : ℕ) (sites : List SiteDef) → length (statics_from k sites) ≡ length (statics_of sites)
as_many k [] = refl
as_many k (site ∷ sites) =
    length-append (map (over k) site.prefixes) (statics_from (k + 1) sites)
    ∙ ap (λ n. n + length (statics_from (k + 1) sites)) (length-map site.prefixes (over k))
    ∙ ap (λ n. length site.prefixes + n) (as_many (k + 1) sites) ∙ sym (one_site site sites)

pub next_site : (sites : List SiteDef) (i : ℕ) (d : SiteDef) → i < length sites →
    length (statics_of (drop i sites)) ≡ length (slice_index_or sites i d).prefixes + length (statics_of (drop (i + 1) sites))
next_site [] i d h = absurd (none_below i h)
next_site (site ∷ sites) zero d h = one_site site sites
next_site (site ∷ sites) (suc i) d h =
    next_site sites i d (omega (arith, h)) ∙ ap (λ n. length (slice_index_or sites i d).prefixes + length (statics_of (drop n (site ∷ sites)))) (one_more i)
  where
    one_more : (n : ℕ) → suc (n + 1) ≡ suc n + 1
    one_more n = omega arith

pub none_left : (sites : List SiteDef) (i : ℕ) → length sites ≤ i → length (statics_of (drop i sites)) ≡ 0
none_left [] i h = nothing i
  where
    nothing : (i : ℕ) → length (statics_of (drop i [])) ≡ 0
    nothing zero = refl
    nothing (suc i) = refl
none_left (site ∷ sites) zero h = absurd (omega (arith, h))
none_left (site ∷ sites) (suc i) h = none_left sites i (omega (arith, h))
